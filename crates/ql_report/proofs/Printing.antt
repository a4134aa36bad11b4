-- what is printed of a list is printed item by item
use Rattle.std.proofs.Common.{◌≡◌, ℕ, ◌<◌, ◌+◌, List, [], ◌∷◌, ◌++◌, Some, Result, Ok, Err, codes, map, take, length, slice_get, get_or, All, arith, refl, ap, sym, subst, ◌∙◌, append_assoc}
use Rattle.std.specs.Prelude.{OnOk}
use Rattle.std.proofs.lemmas.List.{append-nil, length-take-le, map-append, take_more}
use Rattle.std.proofs.lemmas.List.Elements.{All-more}
use Rattle.std.proofs.lemmas.Option.{get_or_from_slice_get, slice_get_within}
use Rattle.ql_lines.specs.Fields.{Fields}
use Rattle.ql_lines.specs.Texts.{spaced_fields, file_text, joined}
use Rattle.ql_lines.proofs.TextLaws.{spaced_fields-append, file_text-append, joined_spaced}
use Rattle.ql_value.specs.Spelling.{followed}
use Rattle.ql_report.specs.NumberedLines.{lines_from}

-- what holds of the first so many items holds of one more
pub all_more : {X : Type 0} (P : X → Type 0) (xs : List X) (i : ℕ) (x : X) → i < length xs → x ≡ get_or xs i x → All P (take i xs) → P x → All P (take (i + 1) xs)
all_more P xs i x less is all here = All-more P xs i x less all (subst P is here)

-- ---- items of a line

one_behind : {X : Type 0} (field : X → List ℕ) (xs : List X) (x : X) → spaced_fields (map field (xs ++ x ∷ [])) ≡ spaced_fields (map field xs) ++ 32 ∷ field x
unfolding spaced_fields
one_behind field xs x =
    ap spaced_fields (map-append field xs (x ∷ [])) ∙ spaced_fields-append (map field xs) (field x ∷ []) ∙ ap (λ r. spaced_fields (map field xs) ++ 32 ∷ r) (append-nil (field x))

pub more_behind : {X : Type 0} (field : X → List ℕ) (xs : List X) (i : ℕ) (d : X) (out : List ℕ) → i < length xs
    → (out ++ spaced_fields (map field (take i xs))) ++ 32 ∷ field (get_or xs i d) ≡ out ++ spaced_fields (map field (take (i + 1) xs))
more_behind field xs i d out lt =
    let front = take i xs in
    let x = get_or xs i d in
    append_assoc out (spaced_fields (map field front)) (32 ∷ field x)
    ∙ ap (λ r. out ++ r) (sym (one_behind field front x) ∙ ap (λ ys. spaced_fields (map field ys)) (sym (take_more xs i d lt)))

pub nothing_behind : (out : List ℕ) → out ≡ out ++ spaced_fields []
unfolding spaced_fields
nothing_behind out = sym (append-nil out)

followed-push : (texts : List (List ℕ)) (b : List ℕ) → followed (texts ++ b ∷ []) ≡ followed texts ++ (codes ", " ++ b)
followed-push [] b = append-nil (codes ", " ++ b)
followed-push (x ∷ xs) b = ap (λ t. (codes ", " ++ x) ++ t) (followed-push xs b) ∙ sym (append_assoc (codes ", " ++ x) (followed xs) (codes ", " ++ b))

pub more_followed : {X : Type 0} (f : X → List ℕ) (xs : List X) (i : ℕ) (x : X) (start : List ℕ) → i < length xs → x ≡ get_or xs i x
    → ((start ++ followed (map f (take i xs))) ++ codes ", ") ++ f x ≡ start ++ followed (map f (take (i + 1) xs))
more_followed f xs i x start lt is =
    let more : map f (take (i + 1) xs) ≡ map f (take i xs) ++ f x ∷ [] =
    ap (map f) (take_more xs i x lt) ∙ map-append f (take i xs) (get_or xs i x ∷ []) ∙ ap (λ y. map f (take i xs) ++ f y ∷ []) (sym is) in
    append_assoc (start ++ followed (map f (take i xs))) (codes ", ") (f x)
    ∙ append_assoc start (followed (map f (take i xs))) (codes ", " ++ f x)
    ∙ ap (λ t. start ++ t) (sym (ap followed more ∙ followed-push (map f (take i xs)) (f x)))

-- ---- lines

pub no_lines : {X : Type 0} (line : ℕ → X → Fields) (out : List ℕ) → out ≡ out ++ file_text (lines_from line 1 [])
unfolding file_text lines_from
no_lines line out = sym (append-nil out)

lines-push : {X : Type 0} (line : ℕ → X → Fields) (n : ℕ) (xs : List X) (x : X) (m : ℕ) → m ≡ n + length xs → lines_from line n (xs ++ x ∷ []) ≡ lines_from line n xs ++ line m x ∷ []
unfolding lines_from
lines-push line n [] x m is = let same : n ≡ m = omega (arith, is) in ap (λ k. line k x ∷ []) same
lines-push line n (y ∷ ys) x m is = ap (λ ls. line n y ∷ ls) (lines-push line (n + 1) ys x m (omega (arith, is)))

one_line : (l : Fields) → file_text (l ∷ []) ≡ joined l ++ 10 ∷ []
unfolding file_text
one_line l = refl

-- one line more of a list's prefix
pub more_lines : {X : Type 0} (line : ℕ → X → Fields) (xs : List X) (k : ℕ) (x : X) (out : List ℕ) → slice_get xs k ≡ Some x
    → (out ++ file_text (lines_from line 1 (take k xs))) ++ (joined (line (k + 1) x) ++ 10 ∷ []) ≡ out ++ file_text (lines_from line 1 (take (k + 1) xs))
more_lines line xs k x out at =
    let within : k < length xs = slice_get_within xs k x at in
    let front = take k xs in
    let count : length front ≡ k = length-take-le k xs (omega (arith, within)) in
    let more : take (k + 1) xs ≡ front ++ x ∷ [] = take_more xs k x within ∙ ap (λ y. front ++ y ∷ []) (get_or_from_slice_get xs k x x at) in
    append_assoc out (file_text (lines_from line 1 front)) (joined (line (k + 1) x) ++ 10 ∷ [])
    ∙ ap (λ r. out ++ r) (
    ap (λ r. file_text (lines_from line 1 front) ++ r) (sym (one_line (line (k + 1) x))) ∙ sym (file_text-append (lines_from line 1 front) (line (k + 1) x ∷ []))
    ∙ ap file_text (sym (lines-push line 1 front x (k + 1) (omega (arith, count)))) ∙ ap (λ ys. file_text (lines_from line 1 ys)) (sym more)
    )

pub on_ok : {A E B C : Type 0} (r : Result A E) → (B → C) → OnOk r B → OnOk r C
on_ok (Ok x) f h = f h
on_ok (Err e) f h = tt

-- ---- lines from their parts

-- fields after others of a line
pub more_fields : (out w : List ℕ) (fs gs : Fields) → (out ++ joined (w ∷ fs)) ++ spaced_fields gs ≡ out ++ joined (w ∷ (fs ++ gs))
more_fields out w fs gs =
    append_assoc out (joined (w ∷ fs)) (spaced_fields gs)
    ∙ ap (λ r. out ++ r) (
    ap (λ r. r ++ spaced_fields gs) (joined_spaced w fs) ∙ append_assoc w (spaced_fields fs) (spaced_fields gs) ∙ ap (λ r. w ++ r) (sym (spaced_fields-append fs gs)) ∙ sym (joined_spaced w (fs ++ gs))
    )

pub word_and_fields : (out w : List ℕ) (vs : Fields) → (out ++ w) ++ spaced_fields vs ≡ out ++ joined (w ∷ vs)
word_and_fields out w vs = append_assoc out w (spaced_fields vs) ∙ ap (λ r. out ++ r) (sym (joined_spaced w vs))

pub heading_pieces : (out id name op : List ℕ) → (((((out ++ codes "effect ") ++ id) ++ codes " ") ++ name) ++ codes " ") ++ op ≡ out ++ joined (codes "effect" ∷ id ∷ name ∷ op ∷ [])
heading_pieces out id name op = simp append_assoc refl

pub call_pieces : (out args answer : List ℕ) → (((out ++ codes " ") ++ args) ++ codes " = ") ++ answer ≡ out ++ spaced_fields (args ∷ codes "=" ∷ answer ∷ [])
unfolding spaced_fields
call_pieces out args answer = ap (λ r. (((out ++ codes " ") ++ args) ++ codes " = ") ++ r) (sym (append-nil answer)) ∙ simp append_assoc refl

pub session_pieces : (out s t n : List ℕ) → ((((out ++ (codes " session " ++ s)) ++ codes " txn ") ++ t) ++ (codes " stamp " ++ n)) ++ codes " vis"
    ≡ out ++ spaced_fields (codes "session" ∷ s ∷ codes "txn" ∷ t ∷ codes "stamp" ∷ n ∷ codes "vis" ∷ [])
unfolding spaced_fields
session_pieces out s t n = simp append_assoc refl

emit_fields : (payload : List ℕ) → codes " emit " ++ payload ≡ spaced_fields (codes "emit" ∷ payload ∷ [])
unfolding spaced_fields
emit_fields payload = ap (λ r. codes " emit " ++ r) (sym (append-nil payload))

-- the line of an effect from its parts
pub effect_pieces : (out w payload : List ℕ) (heading call session seen : Fields)
    → (((((((out ++ joined (w ∷ heading)) ++ spaced_fields call) ++ codes " emit ") ++ payload) ++ spaced_fields session) ++ spaced_fields seen) ++ codes "\n")
    ≡ out ++ (joined (w ∷ (((heading ++ call) ++ codes "emit" ∷ payload ∷ []) ++ session) ++ seen) ++ 10 ∷ [])
effect_pieces out w payload heading call session seen =
    ap (λ r. r ++ codes "\n") (
    ap (λ r. ((((r ++ codes " emit ") ++ payload) ++ spaced_fields session) ++ spaced_fields seen)) (more_fields out w heading call)
    ∙ ap (λ r. (r ++ spaced_fields session) ++ spaced_fields seen) (
    append_assoc (out ++ joined (w ∷ (heading ++ call))) (codes " emit ") payload ∙ ap (λ r. (out ++ joined (w ∷ (heading ++ call))) ++ r) (emit_fields payload)
    ∙ more_fields out w (heading ++ call) (codes "emit" ∷ payload ∷ [])
    )
    ∙ ap (λ r. r ++ spaced_fields seen) (more_fields out w ((heading ++ call) ++ codes "emit" ∷ payload ∷ []) session)
    ∙ more_fields out w (((heading ++ call) ++ codes "emit" ∷ payload ∷ []) ++ session) seen
    )
    ∙ append_assoc out (joined (w ∷ (((heading ++ call) ++ codes "emit" ∷ payload ∷ []) ++ session) ++ seen)) (10 ∷ [])

pub event_pieces : (out n w : List ℕ) (fs : Fields) → (((out ++ n) ++ codes " ") ++ joined (w ∷ fs)) ++ codes "\n" ≡ out ++ (joined (n ∷ w ∷ fs) ++ 10 ∷ [])
event_pieces out n w fs = simp append_assoc refl

pub answer_pieces : (out id answer : List ℕ) → ((out ++ (codes "ok " ++ id)) ++ codes " ") ++ answer ≡ out ++ joined (codes "ok" ∷ id ∷ answer ∷ [])
answer_pieces out id answer = simp append_assoc refl

-- the text of a run from its parts
pub run_pieces : (levels replies effects : List ℕ)
    → (((((([] ++ codes "levels\n") ++ levels) ++ codes "replies\n") ++ replies) ++ codes "execution\n") ++ effects) ++ codes "end\n"
    ≡ codes "levels\n" ++ levels ++ codes "replies\n" ++ replies ++ codes "execution\n" ++ effects ++ codes "end\n"
run_pieces levels replies effects = simp append_assoc refl
