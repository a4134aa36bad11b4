-- what is printed of a list is printed item by item
use Rattle.std.proofs.Common.{◌≡◌, ℕ, ◌<◌, ◌≤◌, ◌+◌, List, [], ◌∷◌, ◌++◌, Result, Ok, Err, codes, map, take, length, get_or, arith, refl, ap, sym, subst, ◌∙◌, append_assoc, add-one, length-take}
use Rattle.std.specs.Prelude.{OnOk}
use Rattle.ql_base.specs.declared.ids.TypeId.{TypeId}
use Rattle.ql_lang.specs.declared.program.Program.{Program}
use Rattle.ql_schedule.specs.Texts.{object_fields, object_lines}
use Rattle.std.proofs.lemmas.List.{append-nil, get_or_default, map-append, take_all}
use Rattle.std.proofs.Math.Seq.{take-suc}
use Rattle.ql_lines.specs.Fields.{Fields}
use Rattle.ql_lines.specs.Texts.{spaced_fields, file_text, joined}
use Rattle.ql_lines.proofs.TextLaws.{spaced_fields-append, file_text-append, joined_spaced}

one_behind : {X : Type 0} (field : X → List ℕ) (xs : List X) (x : X) → spaced_fields (map field (xs ++ x ∷ [])) ≡ spaced_fields (map field xs) ++ 32 ∷ field x
unfolding spaced_fields
one_behind field xs x =
    ap spaced_fields (map-append field xs (x ∷ [])) ∙ spaced_fields-append (map field xs) (field x ∷ []) ∙ ap (λ r. spaced_fields (map field xs) ++ 32 ∷ r) (append-nil (field x))

-- one item more of a list's prefix
pub one_more_behind : {X : Type 0} (field : X → List ℕ) (xs : List X) (i : ℕ) (d : X) (out : List ℕ) → i < length xs
    → (out ++ spaced_fields (map field (take i xs))) ++ 32 ∷ field (get_or xs i d) ≡ out ++ spaced_fields (map field (take (i + 1) xs))
one_more_behind field xs i d out lt =
    let front = take i xs in
    let x = get_or xs i d in
    let more : take (i + 1) xs ≡ front ++ x ∷ [] = ap (λ n. take n xs) (add-one i) ∙ take-suc xs i d lt in
    append_assoc out (spaced_fields (map field front)) (32 ∷ field x) ∙ ap (λ r. out ++ r) (sym (one_behind field front x) ∙ ap (λ ys. spaced_fields (map field ys)) (sym more))

pub nothing_behind : (out : List ℕ) → out ≡ out ++ spaced_fields []
unfolding spaced_fields
nothing_behind out = sym (append-nil out)

pub no_lines : (out : List ℕ) → out ≡ out ++ file_text []
unfolding file_text
no_lines out = sym (append-nil out)

-- fields after others of a line
pub more_fields : (out w : List ℕ) (fs gs : Fields) → (out ++ joined (w ∷ fs)) ++ spaced_fields gs ≡ out ++ joined (w ∷ (fs ++ gs))
more_fields out w fs gs =
    append_assoc out (joined (w ∷ fs)) (spaced_fields gs)
    ∙ ap (λ r. out ++ r) (
    ap (λ r. r ++ spaced_fields gs) (joined_spaced w fs) ∙ append_assoc w (spaced_fields fs) (spaced_fields gs) ∙ ap (λ r. w ++ r) (sym (spaced_fields-append fs gs)) ∙ sym (joined_spaced w (fs ++ gs))
    )

-- one line more
one_line : (l : Fields) → file_text (l ∷ []) ≡ joined l ++ 10 ∷ []
unfolding file_text
one_line l = refl

pub line_more : (out : List ℕ) (ls : List Fields) (l : Fields) → (out ++ file_text ls) ++ (joined l ++ 10 ∷ []) ≡ out ++ file_text (ls ++ l ∷ [])
line_more out ls l = append_assoc out (file_text ls) (joined l ++ 10 ∷ []) ∙ ap (λ r. out ++ r) (ap (λ r. file_text ls ++ r) (sym (one_line l)) ∙ sym (file_text-append ls (l ∷ [])))

pub one_more_line : {X : Type 0} (line : X → Fields) (xs : List X) (i : ℕ) (d : X) (out : List ℕ) → i < length xs
    → ((out ++ file_text (map line (take i xs))) ++ joined (line (get_or xs i d))) ++ 10 ∷ [] ≡ out ++ file_text (map line (take (i + 1) xs))
one_more_line line xs i d out lt =
    let front = take i xs in
    let x = get_or xs i d in
    let more : take (i + 1) xs ≡ front ++ x ∷ [] = ap (λ n. take n xs) (add-one i) ∙ take-suc xs i d lt in
    append_assoc (out ++ file_text (map line front)) (joined (line x)) (10 ∷ []) ∙ line_more out (map line front) (line x)
    ∙ ap (λ ls. out ++ file_text ls) (sym (map-append line front (x ∷ []))) ∙ ap (λ ys. out ++ file_text (map line ys)) (sym more)

-- ---- as the loops and the lines of events need it

pub spaced : {X : Type 0} (field : X → List ℕ) (xs : List X) (i : ℕ) (x : X) (out : List ℕ) → i < length xs → x ≡ get_or xs i x
    → ((out ++ spaced_fields (map field (take i xs))) ++ 32 ∷ []) ++ field x ≡ out ++ spaced_fields (map field (take (i + 1) xs))
spaced field xs i x out lt is =
    append_assoc (out ++ spaced_fields (map field (take i xs))) (32 ∷ []) (field x)
    ∙ ap (λ y. (out ++ spaced_fields (map field (take i xs))) ++ 32 ∷ field y) is ∙ one_more_behind field xs i x out lt

-- the same of an item given by its index
pub spaced_at : {X : Type 0} (field : X → List ℕ) (xs : List X) (i : ℕ) (d : X) (out : List ℕ) → i < length xs
    → ((out ++ spaced_fields (map field (take i xs))) ++ 32 ∷ []) ++ field (get_or xs i d) ≡ out ++ spaced_fields (map field (take (i + 1) xs))
spaced_at field xs i d out lt = spaced field xs i (get_or xs i d) out lt (get_or_default xs i d (get_or xs i d) lt)

pub event_more : {X : Type 0} (line : X → Fields) (xs : List X) (i : ℕ) (x : X) (out : List ℕ) → i < length xs → x ≡ get_or xs i x
    → ((out ++ file_text (map line (take i xs))) ++ joined (line x)) ++ 10 ∷ [] ≡ out ++ file_text (map line (take (i + 1) xs))
event_more line xs i x out lt is = ap (λ y. ((out ++ file_text (map line (take i xs))) ++ joined (line y)) ++ 10 ∷ []) is ∙ one_more_line line xs i x out lt

-- fields one after the other
pub one_more : (out a : List ℕ) (vs : Fields) → (out ++ 32 ∷ a) ++ spaced_fields vs ≡ out ++ spaced_fields (a ∷ vs)
unfolding spaced_fields
one_more out a vs = append_assoc out (32 ∷ a) (spaced_fields vs)

pub two_more : (out a b : List ℕ) (vs : Fields) → ((out ++ 32 ∷ a) ++ 32 ∷ b) ++ spaced_fields vs ≡ out ++ spaced_fields (a ∷ b ∷ vs)
two_more out a b vs = one_more (out ++ 32 ∷ a) b vs ∙ one_more out a (b ∷ vs)

pub partition_pieces : (out w : List ℕ) (vs : Fields) → (out ++ w) ++ spaced_fields vs ≡ out ++ joined (w ∷ vs)
partition_pieces out w vs = append_assoc out w (spaced_fields vs) ∙ ap (λ r. out ++ r) (sym (joined_spaced w vs))

pub on_ok : {A E B C : Type 0} (r : Result A E) → (B → C) → OnOk r B → OnOk r C
on_ok (Ok x) f h = f h
on_ok (Err e) f h = tt

pub schedule_pieces : (v n : List ℕ) (os es : List Fields)
    → (((((((codes "quelea schedule ") ++ v) ++ codes "\nreplicas ") ++ n) ++ codes "\n") ++ file_text os) ++ codes "events\n") ++ file_text es
    ≡ file_text ((codes "quelea" ∷ codes "schedule" ∷ v ∷ []) ∷ (codes "replicas" ∷ n ∷ []) ∷ (os ++ (codes "events" ∷ []) ∷ es))
unfolding file_text
schedule_pieces v n os es = simp (append_assoc, file_text-append os ((codes "events" ∷ []) ∷ es)) refl

pub lines_more : (p : Program) (names : List (List ℕ)) (kinds : List TypeId) (name : List ℕ) (kind : TypeId) → length names ≡ length kinds
    → object_lines p (names ++ name ∷ []) (kinds ++ kind ∷ []) ≡ object_lines p names kinds ++ object_fields p name kind ∷ []
unfolding object_lines
lines_more p [] [] name kind e = refl
lines_more p [] (k ∷ kinds) name kind e = absurd (omega (arith, e))
lines_more p (n ∷ names) [] name kind e = absurd (omega (arith, e))
lines_more p (n ∷ names) (k ∷ kinds) name kind e = ap (λ ls. object_fields p n k ∷ ls) (lines_more p names kinds name kind (omega (arith, e)))

pub object_more : (p : Program) (names : List (List ℕ)) (kinds : List TypeId) (i : ℕ) (d : List ℕ) (e : TypeId) (out : List ℕ) → i < length names → length kinds ≡ length names
    → (out ++ file_text (object_lines p (take i names) (take i kinds))) ++ (joined (object_fields p (get_or names i d) (get_or kinds i e)) ++ 10 ∷ [])
    ≡ out ++ file_text (object_lines p (take (i + 1) names) (take (i + 1) kinds))
object_more p names kinds i d e out lt same =
    let ns : take (i + 1) names ≡ take i names ++ get_or names i d ∷ [] = ap (λ n. take n names) (add-one i) ∙ take-suc names i d lt in
    let ks : take (i + 1) kinds ≡ take i kinds ++ get_or kinds i e ∷ [] = ap (λ n. take n kinds) (add-one i) ∙ take-suc kinds i e (omega (arith, lt, same)) in
    let lens : length (take i names) ≡ length (take i kinds) = omega (arith, length-take i names, length-take i kinds, lt, same) in
    line_more out (object_lines p (take i names) (take i kinds)) (object_fields p (get_or names i d) (get_or kinds i e))
    ∙ ap (λ ls. out ++ file_text ls) (sym (lines_more p (take i names) (take i kinds) (get_or names i d) (get_or kinds i e) lens))
    ∙ ap (λ ms. out ++ file_text (object_lines p ms (take i kinds ++ get_or kinds i e ∷ []))) (sym ns)
    ∙ ap (λ ms. out ++ file_text (object_lines p (take (i + 1) names) ms)) (sym ks)

-- the objects up to their number are all
pub all_objects : (p : Program) (names : List (List ℕ)) (kinds : List TypeId) (k : ℕ) (out items : List ℕ) → length names ≤ k → length kinds ≡ length names
    → items ≡ out ++ file_text (object_lines p (take k names) (take k kinds)) → items ≡ out ++ file_text (object_lines p names kinds)
all_objects p names kinds k out items past same h =
    h ∙ ap (λ ns. out ++ file_text (object_lines p ns (take k kinds))) (take_all k names past)
    ∙ ap (λ ks. out ++ file_text (object_lines p names ks)) (take_all k kinds (omega (arith, past, same)))

pub no_objects : (p : Program) (out : List ℕ) → out ≡ out ++ file_text (object_lines p [] [])
unfolding object_lines
no_objects p out = no_lines out

-- the same where the list is told otherwise
pub event_more_of : {X : Type 0} (line : X → Fields) (ys xs : List X) (i : ℕ) (x : X) (out : List ℕ) → ys ≡ xs → i < length ys → x ≡ get_or ys i x
    → ((out ++ file_text (map line (take i xs))) ++ joined (line x)) ++ 10 ∷ [] ≡ out ++ file_text (map line (take (i + 1) xs))
event_more_of line ys xs i x out same lt is =
    event_more line xs i x out (subst (λ zs. i < length zs) same lt) (subst (λ zs. x ≡ get_or zs i x) same is)
