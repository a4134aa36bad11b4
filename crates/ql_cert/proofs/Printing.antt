-- what is printed of a list is printed item by item
use Rattle.std.proofs.Common.{◌≡◌, ℕ, ◌<◌, ◌+◌, List, [], ◌∷◌, ◌++◌, map, take, length, decimal, get_or, arith, refl, ap, sym, ◌∙◌, append_assoc, add-one, Result, Ok, Err}
use Rattle.std.specs.Prelude.{IfOk}
use Rattle.std.specs.Global.{Vec}
use Rattle.ql_base.specs.declared.no_memory.NoMemory.{NoMemory}
use Rattle.std.proofs.lemmas.List.{append-nil, get_or_default, length-take-le, map-append}
use Rattle.std.proofs.Math.Seq.{take-suc}
use Rattle.ql_lines.specs.Texts.{spaced_fields, file_text, joined}
use Rattle.ql_lines.proofs.TextLaws.{spaced_fields-append, file_text-append, joined_spaced}
use Rattle.ql_lines.specs.Fields.{Fields}
use Rattle.ql_refute.specs.declared.refutation.Line.{Line}
use Rattle.ql_cert.specs.declared.cert.Section.{Section}
use Rattle.ql_cert.specs.Spelling.{body_fields, clause_fields, colon, hint_field, line_fields, numbered_lines}
use Rattle.ql_cert.specs.CertFile.{cert_lines, end_line, section_lines, sections_lines, title}
use Rattle.ql_cert.proofs.States.{numbered_more}
use Rattle.ql_cert.proofs.Walks.{sections_more}

pub one_behind : {X : Type 0} (field : X → List ℕ) (xs : List X) (x : X) → spaced_fields (map field (xs ++ x ∷ [])) ≡ spaced_fields (map field xs) ++ 32 ∷ field x
unfolding spaced_fields
one_behind field xs x =
    ap spaced_fields (map-append field xs (x ∷ [])) ∙ spaced_fields-append (map field xs) (field x ∷ []) ∙ ap (λ r. spaced_fields (map field xs) ++ 32 ∷ r) (append-nil (field x))

-- one item more of a list's prefix
pub one_more_behind : {X : Type 0} (field : X → List ℕ) (xs : List X) (i : ℕ) (x : X) (out : List ℕ) → i < length xs → x ≡ get_or xs i x
    → ((out ++ spaced_fields (map field (take i xs))) ++ 32 ∷ []) ++ field x ≡ out ++ spaced_fields (map field (take (i + 1) xs))
one_more_behind field xs i x out lt is =
    let front = take i xs in
    let more : take (i + 1) xs ≡ front ++ x ∷ [] = ap (λ n. take n xs) (add-one i) ∙ take-suc xs i x lt ∙ ap (λ y. front ++ y ∷ []) (sym is) in
    append_assoc (out ++ spaced_fields (map field front)) (32 ∷ []) (field x) ∙ append_assoc out (spaced_fields (map field front)) (32 ∷ field x)
    ∙ ap (λ r. out ++ r) (sym (one_behind field front x) ∙ ap (λ ys. spaced_fields (map field ys)) (sym more))

-- the same of an item given by its index
pub one_more_at : {X : Type 0} (field : X → List ℕ) (xs : List X) (i : ℕ) (d : X) (out : List ℕ) → i < length xs
    → ((out ++ spaced_fields (map field (take i xs))) ++ 32 ∷ []) ++ field (get_or xs i d) ≡ out ++ spaced_fields (map field (take (i + 1) xs))
one_more_at field xs i d out lt = one_more_behind field xs i (get_or xs i d) out lt (get_or_default xs i d (get_or xs i d) lt)

one_line : (l : Line) (n : ℕ) → file_text (line_fields n l ∷ []) ≡ joined (line_fields n l) ++ 10 ∷ []
unfolding file_text
one_line l n = refl

pub one_more_line : (ls : List Line) (i n : ℕ) (l : Line) (out : List ℕ) → i < length ls → l ≡ get_or ls i l → n ≡ i + 1
    → (out ++ file_text (numbered_lines 1 (take i ls))) ++ (joined (line_fields n l) ++ 10 ∷ []) ≡ out ++ file_text (numbered_lines 1 (take (i + 1) ls))
one_more_line ls i n l out lt is number =
    let front = take i ls in
    let more : take (i + 1) ls ≡ front ++ l ∷ [] = ap (λ n. take n ls) (add-one i) ∙ take-suc ls i l lt ∙ ap (λ y. front ++ y ∷ []) (sym is) in
    let count : n ≡ 1 + length front = omega (arith, number, length-take-le i ls (omega (arith, lt))) in
    let text : file_text (numbered_lines 1 (front ++ l ∷ [])) ≡ file_text (numbered_lines 1 front) ++ (joined (line_fields (1 + length front) l) ++ 10 ∷ []) =
    ap file_text (numbered_more 1 front l) ∙ file_text-append (numbered_lines 1 front) (line_fields (1 + length front) l ∷ []) ∙ ap (λ r. file_text (numbered_lines 1 front) ++ r) (one_line l (1 + length front)) in
    append_assoc out (file_text (numbered_lines 1 front)) (joined (line_fields n l) ++ 10 ∷ [])
    ∙ ap (λ r. out ++ r) (ap (λ k. file_text (numbered_lines 1 front) ++ (joined (line_fields k l) ++ 10 ∷ [])) count ∙ sym text ∙ ap (λ ms. file_text (numbered_lines 1 ms)) (sym more))

-- a line, piece by piece
pub line_pieces : (out : List ℕ) (n : ℕ) (l : Line)
    → ((((out ++ decimal n) ++ spaced_fields (clause_fields l.clause)) ++ 32 ∷ colon) ++ spaced_fields (map hint_field l.hints)) ++ 10 ∷ [] ≡ out ++ (joined (line_fields n l) ++ 10 ∷ [])
unfolding spaced_fields
line_pieces out n l =
    let lits = spaced_fields (clause_fields l.clause) in
    let hints = spaced_fields (map hint_field l.hints) in
    let body : spaced_fields (body_fields l) ≡ lits ++ (32 ∷ colon ++ hints) = spaced_fields-append (clause_fields l.clause) (colon ∷ map hint_field l.hints) in
    append_assoc (((out ++ decimal n) ++ lits) ++ 32 ∷ colon) hints (10 ∷ [])
    ∙ append_assoc ((out ++ decimal n) ++ lits) (32 ∷ colon) (hints ++ 10 ∷ [])
    ∙ append_assoc (out ++ decimal n) lits (32 ∷ colon ++ (hints ++ 10 ∷ []))
    ∙ append_assoc out (decimal n) (lits ++ (32 ∷ colon ++ (hints ++ 10 ∷ [])))
    ∙ ap (λ r. out ++ (decimal n ++ r)) (sym (append_assoc lits (32 ∷ colon ++ hints) (10 ∷ [])))
    ∙ ap (λ r. out ++ r) (sym (append_assoc (decimal n) (lits ++ (32 ∷ colon ++ hints)) (10 ∷ [])))
    ∙ ap (λ r. out ++ ((decimal n ++ r) ++ 10 ∷ [])) (sym body)
    ∙ ap (λ r. out ++ (r ++ 10 ∷ [])) (sym (joined_spaced (decimal n) (body_fields l)))

-- a heading and the lines after it
pub section_pieces : (out kind name level rest : List ℕ) (lines : List Fields)
    → rest ≡ file_text lines → ((((((out ++ kind) ++ 32 ∷ []) ++ name) ++ 32 ∷ []) ++ level) ++ 10 ∷ []) ++ rest ≡ out ++ file_text ((kind ∷ name ∷ level ∷ []) ∷ lines)
unfolding file_text
section_pieces out kind name level rest lines e = simp (append_assoc, e)

-- a section more after the title
pub titled_more : (ss : List Section) (s : Section) (text now : List ℕ) → text ≡ file_text (title ∷ sections_lines ss) → now ≡ text ++ file_text (section_lines s) → now ≡ file_text (title ∷ sections_lines (ss ++ s ∷ []))
titled_more ss s text now before made =
    made ∙ ap (λ t. t ++ file_text (section_lines s)) before ∙ sym (file_text-append (title ∷ sections_lines ss) (section_lines s)) ∙ ap (λ ls. file_text (title ∷ ls)) (sym (sections_more ss s))

pub titled_next : (ss : List Section) (i : ℕ) (s : Section) (text now : List ℕ) → i < length ss → s ≡ get_or ss i s → text ≡ file_text (title ∷ sections_lines (take i ss))
    → now ≡ text ++ file_text (section_lines s) → now ≡ file_text (title ∷ sections_lines (take (i + 1) ss))
titled_next ss i s text now lt is before made =
    let more : take (i + 1) ss ≡ take i ss ++ s ∷ [] = ap (λ n. take n ss) (add-one i) ∙ take-suc ss i s lt ∙ ap (λ y. take i ss ++ y ∷ []) (sym is) in
    titled_more (take i ss) s text now before made ∙ ap (λ ts. file_text (title ∷ sections_lines ts)) (sym more)

-- a whole certificate
pub titled_end : (ss : List Section) (text now : List ℕ) → text ≡ file_text (title ∷ sections_lines ss) → now ≡ text ++ file_text (end_line ∷ []) → now ≡ file_text (cert_lines ss)
titled_end ss text now before made = made ∙ ap (λ t. t ++ file_text (end_line ∷ [])) before ∙ sym (file_text-append (title ∷ sections_lines ss) (end_line ∷ []))

-- nothing is printed of no item
pub nothing_behind : (out : List ℕ) → out ≡ out ++ spaced_fields []
unfolding spaced_fields
nothing_behind out = sym (append-nil out)

pub no_numbered : (out : List ℕ) → out ≡ out ++ file_text (numbered_lines 1 [])
unfolding file_text numbered_lines
no_numbered out = sym (append-nil out)

-- what is so of a text after the title and any sections is so of it after these
pub of_made : (P : List Section → List ℕ → Type 0) (ss : List Section) (text : List ℕ) (made : Result (Vec ℕ) NoMemory) → text ≡ file_text (title ∷ sections_lines ss)
    → IfOk made (λ more. (ts : List Section) → text ≡ file_text (title ∷ sections_lines ts) → P ts more.items) → IfOk made (λ more. P ss more.items)
of_made P ss text (Ok more) is all = all ss is
of_made P ss text (Err e) is all = tt
