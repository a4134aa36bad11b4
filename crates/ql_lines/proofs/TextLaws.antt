-- lines that are written are read again
use Rattle.std.proofs.Common.{◌≡◌, ◌+◌, ℕ, false, List, [], ◌∷◌, ◌++◌, map, arith, refl, ap, sym, subst, ◌∙◌, append_assoc, one-add}
use Rattle.std.specs.Prelude.{◌==◌}
use Rattle.std.proofs.lemmas.Bool.{true≢false}
use Rattle.std.specs.List.{AllByRecursion, filter, position_or_len, slice_split}
use Rattle.std.specs.Str.Lines.{lines}
use Rattle.std.proofs.lemmas.List.{append-nil}
use Rattle.ql_lines.specs.Fields.{fields_of, is_space, isn't_empty}
use Rattle.ql_lines.specs.Lines.{Numbered, ahead_from, is_skipped, are_skipped, kept_lines}
use Rattle.ql_lines.specs.Texts.{IsPlain, IsPlainLine, spaced_fields, file_text, is_ender, joined}
use Rattle.ql_lines.proofs.Each.{each_weaker}
use Rattle.ql_lines.proofs.FieldLaws.{field_first, kept}
use Rattle.ql_lines.proofs.LineEnds.{Stay, StaysIn, joined_stay, line_again}
use Rattle.ql_lines.proofs.Splits.{part_before, whole_part}

no_space : (b : ℕ) → is_ender b ≡ false → is_space b ≡ false
no_space b e = grind (arith, e)

no_spaces : (f : List ℕ) → IsPlain f → AllByRecursion (λ b. is_space b ≡ false) f
no_spaces f h = each_weaker (λ b. is_ender b ≡ false) (λ b. is_space b ≡ false) no_space f h.plain

-- fields are read as they are written
pub fields_again : (fs : List (List ℕ)) → AllByRecursion IsPlain fs → fields_of (joined fs) ≡ fs
fields_again [] plain = refl
fields_again (f ∷ []) plain = ap (filter isn't_empty) (whole_part is_space f (no_spaces f plain.0)) ∙ kept f [] plain.0.some
fields_again (f ∷ g ∷ fs) plain =
    ap (filter isn't_empty) (part_before is_space f 32 (joined (g ∷ fs)) (no_spaces f plain.0) refl)
    ∙ kept f (slice_split is_space (joined (g ∷ fs))) plain.0.some ∙ ap (λ r. f ∷ r) (fields_again (g ∷ fs) plain.1)

-- a line that is written has no line's end in it
stays_in : (b : ℕ) → is_ender b ≡ false → StaysIn b
stays_in b e = ((λ feed. true≢false (subst (λ c. is_ender c ≡ false) feed e)), (λ end. true≢false (subst (λ c. is_ender c ≡ false) end e)))

plain_stays : (f : List ℕ) → IsPlain f → Stay f
plain_stays f h = each_weaker (λ b. is_ender b ≡ false) StaysIn stays_in f h.plain

-- a line whose first byte is no space and no `#` isn't skipped
pub not_skipped : (b : ℕ) (bs : List ℕ) → is_space b ≡ false → (b == 35) ≡ false → is_skipped (b ∷ bs) ≡ false
unfolding is_skipped
not_skipped b bs space hash = rw (field_first b bs space, space, one-add (position_or_len is_space bs)) hash

is_kept : (fields : List (List ℕ)) → IsPlainLine fields → is_skipped (joined fields) ≡ false
unfolding is_skipped
is_kept fields h = ap are_skipped (fields_again fields h.plain) ∙ h.kept

pub file_again : (n : ℕ) (ls : List (List (List ℕ))) → AllByRecursion IsPlainLine ls → map (λ (l : Numbered). fields_of l.text) (ahead_from n (file_text ls)).lines ≡ ls
unfolding file_text kept_lines
file_again n [] h = refl
file_again n (l ∷ ls) h =
    let first = line_again (joined l) (file_text ls) (joined_stay l (each_weaker IsPlain Stay plain_stays l h.0.plain)) in
    ap (λ ts. map (λ (m : Numbered). fields_of m.text) (kept_lines n ts)) first
    ∙ rw (is_kept l h.0) (ap (λ f. f ∷ map (λ (m : Numbered). fields_of m.text) (kept_lines (n + 1) (lines (file_text ls)))) (fields_again l h.0.plain) ∙ ap (λ r. l ∷ r) (file_again (n + 1) ls h.1))

-- ---- piece by piece

pub joined_spaced : (f : List ℕ) (fs : List (List ℕ)) → joined (f ∷ fs) ≡ f ++ spaced_fields fs
unfolding spaced_fields
joined_spaced f [] = sym (append-nil f)
joined_spaced f (g ∷ fs) = ap (λ r. f ++ 32 ∷ r) (joined_spaced g fs)

pub spaced_fields-append : (fs gs : List (List ℕ)) → spaced_fields (fs ++ gs) ≡ spaced_fields fs ++ spaced_fields gs
unfolding spaced_fields
spaced_fields-append [] gs = refl
spaced_fields-append (f ∷ fs) gs = ap (λ r. 32 ∷ f ++ r) (spaced_fields-append fs gs) ∙ ap (λ r. 32 ∷ r) (sym (append_assoc f (spaced_fields fs) (spaced_fields gs)))

pub file_text-append : (ls ms : List (List (List ℕ))) → file_text (ls ++ ms) ≡ file_text ls ++ file_text ms
unfolding file_text
file_text-append [] ms = refl
file_text-append (l ∷ ls) ms = ap (λ r. joined l ++ 10 ∷ r) (file_text-append ls ms) ∙ sym (append_assoc (joined l) (10 ∷ file_text ls) (file_text ms))
