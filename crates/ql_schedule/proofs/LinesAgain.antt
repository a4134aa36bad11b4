-- lines of parts are read as they are written
use Rattle.std.proofs.Common.{◌≡◌, ◌⊎◌, inl, inr, ℕ, zero, suc, nat_le, ◌<◌, ◌≤◌, ◌^◌, ◌+◌, Bool, true, false, List, [], ◌∷◌, ◌++◌, length, get_or, decimal, arith, refl, ap, sym, subst, ◌∙◌, append_assoc}
use Rattle.std.specs.Prelude.{◌==◌, ◌&&◌}
use Rattle.std.specs.List.{AllByRecursion}
use Rattle.std.proofs.lemmas.Bool.Decides.{nat_tests}
use Rattle.std.proofs.lemmas.Fmt.{decimal_is_IsNumeral}
use Rattle.std.proofs.lemmas.List.{append-nil}
use Rattle.std.proofs.lemmas.Str.Parse.{digit_at}
use Rattle.ql_base.specs.Bytes.{is_name_byte, is_text_byte}
use Rattle.ql_base.specs.Names.{IsName}
use Rattle.ql_lines.specs.Fields.{Fields, is_space}
use Rattle.ql_lines.specs.Lines.{Numbered, ahead_from, is_skipped, kept_lines}
use Rattle.ql_lines.specs.Texts.{file_text, joined}
use Rattle.ql_lines.proofs.Each.{each_by_index, each_weaker}
use Rattle.ql_lines.proofs.LineEnds.{Stay, StaysIn, joined_stay, line_again, stay_both, stays_of}
use Rattle.ql_lines.proofs.TextLaws.{not_skipped}
use Rattle.ql_schedule.specs.Parts.{is_quotation_mark, led_by, parts_in_part, parts_in_text, parts_of}

-- ---- bytes and parts

-- a byte of a part that no quote begins, and one within a text
abbrev pub IsPartByte : ℕ → Type 0
IsPartByte b = StaysIn b × (is_space b ≡ false)

abbrev pub IsInText : ℕ → Type 0
IsInText b = StaysIn b × (is_quotation_mark b ≡ false)

pub record IsBare (b : ℕ) (bs : List ℕ) : Type 0 where
  pub first : IsPartByte b
  pub no_quote : is_quotation_mark b ≡ false
  pub rest : AllByRecursion IsPartByte bs

-- a part that is read as it is written: bare, or a text between its quotes
abbrev pub IsPart : List ℕ → Type 0
IsPart [] = ⊥
IsPart (b ∷ bs) = IsBare b bs ⊎ ((t : List ℕ) × (b ≡ 34) × (bs ≡ t ++ 34 ∷ []) × AllByRecursion IsInText t)

-- nothing follows, or a space
Ends : List ℕ → Type 0
Ends rest = parts_in_part rest ≡ [] ∷ parts_of rest

ends_here : Ends []
unfolding Ends parts_of parts_in_part
ends_here = refl

ends_before : (rest : List ℕ) → Ends (32 ∷ rest)
unfolding Ends parts_of parts_in_part
ends_before rest = refl

in_part : (w rest : List ℕ) → AllByRecursion IsPartByte w → Ends rest → parts_in_part (w ++ rest) ≡ w ∷ parts_of rest
unfolding Ends parts_in_part
in_part [] rest h e = e
in_part (b ∷ w) rest h e = rw h.0.1 (ap (led_by b) (in_part w rest h.1 e))

in_text : (t rest : List ℕ) → AllByRecursion IsInText t → Ends rest → parts_in_text (t ++ 34 ∷ rest) ≡ (t ++ 34 ∷ []) ∷ parts_of rest
unfolding Ends parts_in_text
in_text [] rest h e = ap (led_by 34) e
in_text (b ∷ t) rest h e = rw h.0.1 (ap (led_by b) (in_text t rest h.1 e))

bare_first : (b : ℕ) (bs rest : List ℕ) → IsBare b bs → Ends rest → parts_of (b ∷ (bs ++ rest)) ≡ (b ∷ bs) ∷ parts_of rest
unfolding parts_of
bare_first b bs rest h e = rw (h.first.1, h.no_quote) (ap (led_by b) (in_part bs rest h.rest e))

text_first : (t rest : List ℕ) → AllByRecursion IsInText t → Ends rest → parts_of (34 ∷ ((t ++ 34 ∷ []) ++ rest)) ≡ (34 ∷ t ++ 34 ∷ []) ∷ parts_of rest
unfolding parts_of
text_first t rest h e = ap (λ r. led_by 34 (parts_in_text r)) (append_assoc t (34 ∷ []) rest) ∙ ap (led_by 34) (in_text t rest h e)

part_first : (f rest : List ℕ) → IsPart f → Ends rest → parts_of (f ++ rest) ≡ f ∷ parts_of rest
part_first [] rest h e = absurd h
part_first (b ∷ bs) rest (inl h) e = bare_first b bs rest h e
part_first (b ∷ bs) rest (inr h) e =
    let is : b ∷ bs ≡ 34 ∷ h.0 ++ 34 ∷ [] = ap (λ c. c ∷ bs) h.1 ∙ ap (λ cs. 34 ∷ cs) h.2 in
    ap (λ f. parts_of (f ++ rest)) is ∙ text_first h.0 rest h.3 e ∙ ap (λ f. f ∷ parts_of rest) (sym is)

behind_space : (rest : List ℕ) → parts_of (32 ∷ rest) ≡ parts_of rest
unfolding parts_of
behind_space rest = refl

no_parts : parts_of [] ≡ []
unfolding parts_of
no_parts = refl

pub parts_again : (fs : Fields) → AllByRecursion IsPart fs → parts_of (joined fs) ≡ fs
parts_again [] h = no_parts
parts_again (f ∷ []) h = ap parts_of (sym (append-nil f)) ∙ part_first f [] h.0 ends_here ∙ ap (λ ps. f ∷ ps) no_parts
parts_again (f ∷ g ∷ fs) h = part_first f (32 ∷ joined (g ∷ fs)) h.0 (ends_before (joined (g ∷ fs))) ∙ ap (λ ps. f ∷ ps) (behind_space (joined (g ∷ fs)) ∙ parts_again (g ∷ fs) h.1)

-- ---- lines

part_stays : (f : List ℕ) → IsPart f → Stay f
part_stays [] h = tt
part_stays (b ∷ bs) (inl h) = (h.first.0, each_weaker (λ b. IsPartByte b) StaysIn (λ c k. k.0) bs h.rest)
part_stays (b ∷ bs) (inr h) = (
  subst StaysIn (sym h.1) (stays_of 34 (omega arith)),
  subst Stay (sym h.2) (stay_both h.0 (34 ∷ []) (each_weaker (λ b. IsInText b) StaysIn (λ c k. k.0) h.0 h.3) (stays_of 34 (omega arith), tt)),
)

-- ---- files

abbrev pub begins_so : Fields → Type 0
begins_so [] = ⊥
begins_so (f ∷ fs) = (b : ℕ) × (bs : List ℕ) × (f ≡ b ∷ bs) × (is_space b ≡ false) × ((b == 35) ≡ false)

pub record IsLine (fs : Fields) : Type 0 where
  pub parts : AllByRecursion IsPart fs
  pub begins : begins_so fs

first_byte : (fs : Fields) → begins_so fs → (b : ℕ) × (bs : List ℕ) × (joined fs ≡ b ∷ bs) × (is_space b ≡ false) × ((b == 35) ≡ false)
first_byte [] h = absurd h
first_byte (f ∷ []) h = h
first_byte (f ∷ g ∷ fs) h = (h.0, h.1 ++ 32 ∷ joined (g ∷ fs), ap (λ w. w ++ 32 ∷ joined (g ∷ fs)) h.2, h.3, h.4)

is_reported : (fs : Fields) → begins_so fs → is_skipped (joined fs) ≡ false
is_reported fs h = let k = first_byte fs h in ap is_skipped k.2 ∙ not_skipped k.0 k.1 k.3 k.4

-- lines as a reader has them before it
unfoldable pub numbered : ℕ → List Fields → List Numbered
numbered n [] = []
numbered n (l ∷ ls) = record { number = n; text = joined l } ∷ numbered (n + 1) ls

pub file_again : (n : ℕ) (ls : List Fields) → AllByRecursion IsLine ls → (ahead_from n (file_text ls)).lines ≡ numbered n ls
unfolding file_text kept_lines numbered
file_again n [] h = refl
file_again n (l ∷ ls) h =
    ap (kept_lines n) (line_again (joined l) (file_text ls) (joined_stay l (each_weaker IsPart Stay part_stays l h.0.parts))) ∙ rw (is_reported l h.0.begins) (ap (λ r. record { number = n; text = joined l } ∷ r) (file_again (n + 1) ls h.1))

-- ---- parts that schedules are printed with

part_byte : (b : ℕ) → 35 ≤ b → IsPartByte b
part_byte b low = (stays_of b (omega (arith, low)), grind (arith, nat_tests, low))

both : (a b : Bool) → (a && b) ≡ true → (a ≡ true) × (b ≡ true)
both true b e = (refl, e)
both false b e = absurd cc

bare_of : (f : List ℕ) → 0 < length f → ((k : ℕ) → k < length f → 35 ≤ get_or f k 0) → IsPart f
bare_of [] some h = absurd (omega (arith, some))
bare_of (b ∷ bs) some h =
    let low : 35 ≤ b = h 0 (omega arith) in
    inl (record { first = part_byte b low; no_quote = grind (arith, nat_tests, low); rest = each_by_index IsPartByte bs (λ k lt. part_byte (get_or bs k 0) (h (suc k) (omega (arith, lt)))) })

pub number_part : (n : ℕ) → n < 2 ^ 64 → IsPart (decimal n)
number_part n small =
    let h = (decimal_is_IsNumeral n small).0 in
    bare_of (decimal n) h.0 (λ k lt. let r = digit_at (decimal n) k h.1 lt in omega (arith, r.0))

pub minus_part : (n : ℕ) → n < 2 ^ 64 → IsPart (45 ∷ decimal n)
minus_part n small = bare_of (45 ∷ decimal n) (omega arith) at_each
  where
    at_each : (k : ℕ) → k < length (45 ∷ decimal n) → 35 ≤ get_or (45 ∷ decimal n) k 0
    at_each zero lt = omega arith
    at_each (suc k) lt = let h = (decimal_is_IsNumeral n small).0 in let r = digit_at (decimal n) k h.1 (omega (arith, lt)) in omega (arith, r.0)

name_low : (b : ℕ) → is_name_byte b ≡ true → 35 ≤ b
unfolding is_name_byte
name_low b h = grind (arith, nat_tests, h)

pub name_part : (w : List ℕ) → IsName w → IsPart w
name_part w n = bare_of w n.shape.some (λ k lt. name_low (get_or w k 0) (n.shape.all k 0 lt))

text_low : (b : ℕ) → is_text_byte b ≡ true → IsInText b
unfolding is_text_byte
text_low b h = (stays_of b (grind (arith, nat_tests, h)), grind (arith, nat_tests, h))

pub text_part : (t : List ℕ) → ((k : ℕ) → k < length t → is_text_byte (get_or t k 0) ≡ true) → IsPart (34 ∷ t ++ 34 ∷ [])
text_part t h = inr (t, refl, refl, each_by_index IsInText t (λ k lt. text_low (get_or t k 0) (h k lt)))

-- a word of low bytes only
abbrev pub is_word_of : List ℕ → Bool
is_word_of [] = true
is_word_of (b ∷ bs) = nat_le 35 b && is_word_of bs

word_bytes : (w : List ℕ) → is_word_of w ≡ true → (k : ℕ) → k < length w → 35 ≤ get_or w k 0
word_bytes [] e k lt = absurd (omega (arith, lt))
word_bytes (b ∷ bs) e zero lt = let h = both (nat_le 35 b) (is_word_of bs) e in grind (arith, nat_tests, h.0)
word_bytes (b ∷ bs) e (suc k) lt = word_bytes bs (both (nat_le 35 b) (is_word_of bs) e).1 k (omega (arith, lt))

pub word_part : (w : List ℕ) → is_word_of w ≡ true → 0 < length w → IsPart w
word_part w e some = bare_of w some (word_bytes w e)
