-- the fields of a certificate are read as they are written
use Rattle.std.proofs.Common.{◌≡◌, ℕ, suc, ◌+◌, ◌<◌, ◌≤◌, ◌^◌, Bool, true, false, List, [], ◌∷◌, ◌++◌, map, length, get_or, decimal, arith, refl, ap, ◌∙◌}
use Rattle.std.specs.List.{AllByRecursion}
use Rattle.std.proofs.lemmas.Fmt.{decimal_is_IsNumeral}
use Rattle.std.proofs.lemmas.Str.Parse.{digit_at}
use Rattle.ql_base.specs.Bytes.{is_name_byte}
use Rattle.ql_base.specs.Names.{IsName}
use Rattle.ql_lines.specs.Lines.{ahead_from, begins_with}
use Rattle.ql_lines.specs.Texts.{IsPlain, IsPlainLine, file_text, is_ender}
use Rattle.ql_lines.proofs.Each.{each_by_index}
use Rattle.ql_lines.proofs.TextLaws.{file_again}
use Rattle.ql_levels.specs.declared.level.Level.TheVariants.{Eventual, Causal, Wide, Strong}
use Rattle.ql_levels.specs.declared.level.TxnLevel.TheVariants.{Rc, Mav, Rr}
use Rattle.ql_cnf.specs.declared.lit.Lit.{Lit}
use Rattle.ql_refute.specs.declared.refutation.Hint.{Hint}
use Rattle.ql_refute.specs.declared.refutation.Hint.TheVariants.{Given, Earlier}
use Rattle.ql_refute.specs.declared.refutation.Line.{Line}
use Rattle.ql_cert.specs.declared.cert.SectionLevel.{SectionLevel}
use Rattle.ql_cert.specs.declared.cert.SectionLevel.TheVariants.{Op, Txn}
use Rattle.ql_cert.specs.declared.cert.Section.{Section}
use Rattle.ql_cert.specs.Spelling.{IsHint, IsLine, IsLit, body_fields, clause_fields, colon, hint_field, line_fields, lit_field, numbered_lines, signed_field}
use Rattle.ql_cert.specs.Faults.{fields_in}
use Rattle.ql_cert.specs.OneField.{first_digit}
use Rattle.ql_cert.specs.CertFile.{IsCertOf, IsSection, cert_lines, end_line, heading, kind_word, level_word, section_lines, sections_lines, title}

digit_ends_nothing : (b : ℕ) → 48 ≤ b → b ≤ 57 → is_ender b ≡ false
digit_ends_nothing b low high = grind (arith, low, high)

name_ends_nothing : (b : ℕ) → is_name_byte b ≡ true → is_ender b ≡ false
unfolding is_name_byte
name_ends_nothing b h = grind (arith, h)

plain_number : (n : ℕ) → n < 2 ^ 64 → IsPlain (decimal n)
plain_number n small =
    let h = (decimal_is_IsNumeral n small).0 in
    record { some = h.0; plain = each_by_index (λ b. is_ender b ≡ false) (decimal n) (λ k lt. let r = digit_at (decimal n) k h.1 lt in digit_ends_nothing (get_or (decimal n) k 0) r.0 r.1) }

signed : (c : ℕ) (w : List ℕ) → is_ender c ≡ false → IsPlain w → IsPlain (c ∷ w)
signed c w e p = record { some = omega arith; plain = (e, p.plain) }

plain_name : (w : List ℕ) → IsName w → IsPlain w
plain_name w n = record { some = n.shape.some; plain = each_by_index (λ b. is_ender b ≡ false) w (λ k lt. name_ends_nothing (get_or w k 0) (n.shape.all k 0 lt)) }

plain_signed : (v : ℕ) (positive : Bool) → v < 2 ^ 64 → IsPlain (signed_field v positive)
unfolding signed_field
plain_signed v true small = plain_number v small
plain_signed v false small = signed 45 (decimal v) refl (plain_number v small)

plain_lit : (x : Lit) → IsLit x → IsPlain (lit_field x)
plain_lit x f = plain_signed x.var x.positive (omega (arith, f.1))

plain_hint : (x : Hint) → IsHint x → IsPlain (hint_field x)
unfolding hint_field IsHint
plain_hint (Given n) f = signed 99 (decimal n) refl (plain_number n (omega (arith, f.1)))
plain_hint (Earlier n) f = signed 108 (decimal n) refl (plain_number n f.1)

plain_kind : (l : SectionLevel) → IsPlain (kind_word l)
unfolding kind_word
plain_kind (Op l) = record { some = omega arith; plain = (refl, (refl, tt)) }
plain_kind (Txn l) = record { some = omega arith; plain = (refl, (refl, (refl, tt))) }

plain_level : (l : SectionLevel) → IsPlain (level_word l)
unfolding level_word
plain_level (Op Eventual) = record { some = omega arith; plain = (refl, (refl, (refl, (refl, (refl, (refl, (refl, (refl, tt)))))))) }
plain_level (Op Causal) = record { some = omega arith; plain = (refl, (refl, (refl, (refl, (refl, (refl, tt)))))) }
plain_level (Op Wide) = record { some = omega arith; plain = (refl, (refl, (refl, (refl, tt)))) }
plain_level (Op Strong) = record { some = omega arith; plain = (refl, (refl, (refl, (refl, (refl, (refl, tt)))))) }
plain_level (Txn Rc) = record { some = omega arith; plain = (refl, (refl, tt)) }
plain_level (Txn Mav) = record { some = omega arith; plain = (refl, (refl, (refl, tt))) }
plain_level (Txn Rr) = record { some = omega arith; plain = (refl, (refl, tt)) }

all_plain : {X : Type 0} (Fits : X → Type 0) (field : X → List ℕ) → ((x : X) → Fits x → IsPlain (field x)) → (xs : List X) → AllByRecursion Fits xs → AllByRecursion IsPlain (map field xs)
all_plain Fits field plain [] h = tt
all_plain Fits field plain (x ∷ xs) h = (plain x h.0, all_plain Fits field plain xs h.1)

both_plain : {X : Type 0} (P : X → Type 0) (xs ys : List X) → AllByRecursion P xs → AllByRecursion P ys → AllByRecursion P (xs ++ ys)
both_plain P [] ys h k = k
both_plain P (x ∷ xs) ys h k = (h.0, both_plain P xs ys h.1 k)

-- ---- lines

plain_colon : IsPlain colon
plain_colon = record { some = omega arith; plain = (refl, tt) }

plain_body : (l : Line) → IsLine l → AllByRecursion IsPlain (body_fields l)
plain_body l f =
    both_plain IsPlain (clause_fields l.clause) (colon ∷ map hint_field l.hints) (all_plain IsLit lit_field plain_lit l.clause f.clause.lits)
    (plain_colon, all_plain IsHint hint_field plain_hint l.hints f.hints)

number_reports : (n : ℕ) → n < 2 ^ 64 → begins_with 35 (decimal n) ≡ false
number_reports n small =
    let P : List ℕ → Type 0 = λ w. decimal n ≡ w → begins_with 35 w ≡ false in
    elim (decimal n) as P [ [] ↦ λ e. refl | c ∷ cs ↦ λ e. let r = first_digit n small c cs e in grind (arith, r) ] refl

plain_line : (n : ℕ) (l : Line) → n < 2 ^ 64 → IsLine l → IsPlainLine (line_fields n l)
plain_line n l small f = record { plain = (plain_number n small, plain_body l f); kept = number_reports n small }

plain_numbered : (n : ℕ) (ls : List Line) → n + length ls ≤ 2 ^ 64 → AllByRecursion IsLine ls → AllByRecursion IsPlainLine (numbered_lines n ls)
unfolding numbered_lines
plain_numbered n [] few f = tt
plain_numbered n (l ∷ ls) few f = (plain_line n l (omega (arith, few)) f.0, plain_numbered (suc n) ls (omega (arith, few)) f.1)

kind_reports : (l : SectionLevel) → begins_with 35 (kind_word l) ≡ false
unfolding kind_word
kind_reports (Op l) = refl
kind_reports (Txn l) = refl

plain_heading : (name : List ℕ) (l : SectionLevel) → IsName name → IsPlainLine (heading name l)
plain_heading name l n = record { plain = (plain_kind l, (plain_name name n, (plain_level l, tt))); kept = kind_reports l }

plain_section : (s : Section) → IsSection s → AllByRecursion IsPlainLine (section_lines s)
plain_section s f = (plain_heading s.name s.level f.name, plain_numbered 1 s.refutation.lines (omega (arith, f.few)) f.lines)

plain_sections : (ss : List Section) → AllByRecursion IsSection ss → AllByRecursion IsPlainLine (sections_lines ss)
plain_sections [] f = tt
plain_sections (s ∷ ss) f = both_plain IsPlainLine (section_lines s) (sections_lines ss) (plain_section s f.0) (plain_sections ss f.1)

plain_title : IsPlainLine title
plain_title = record {
  plain = (
    record { some = omega arith; plain = (refl, (refl, (refl, (refl, (refl, (refl, tt)))))) },
    (
      record { some = omega arith; plain = (refl, (refl, (refl, (refl, (refl, (refl, (refl, (refl, (refl, (refl, (refl, tt))))))))))) },
      (record { some = omega arith; plain = (refl, tt) }, tt),
    ),
  );
  kept = refl;
}

plain_end : IsPlainLine end_line
plain_end = record { plain = (record { some = omega arith; plain = (refl, (refl, (refl, tt))) }, tt); kept = refl }

-- all lines of a certificate are read as they are written
pub plain_cert : (ss : List Section) → AllByRecursion IsSection ss → AllByRecursion IsPlainLine (cert_lines ss)
plain_cert ss f = (plain_title, both_plain IsPlainLine (sections_lines ss) (end_line ∷ []) (plain_sections ss f) (plain_end, tt))

pub again : (ss : List Section) (text : List ℕ) → text ≡ file_text (cert_lines ss) → AllByRecursion IsSection ss → IsCertOf ss (fields_in (ahead_from 1 text).lines)
again ss text is f = record {
  sections = f;
  are = ap (λ t. fields_in (ahead_from 1 t).lines) is ∙ file_again 1 (cert_lines ss) (plain_cert ss f);
}
