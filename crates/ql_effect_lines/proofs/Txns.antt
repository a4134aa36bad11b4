-- the field of a transaction describes one transaction
use Rattle.std.proofs.Common.{◌≡◌, ℕ, ◌≤◌, false, List, ◌∷◌, ◌++◌, Option, None, Some, length, take, drop, decimal, codes, arith, refl, sym, ap, ◌∙◌}
use Rattle.std.specs.List.{prefix_len}
use Rattle.std.proofs.lemmas.Fmt.{decimal_injective, digits_decimal}
use Rattle.std.proofs.lemmas.List.{length-append}
use Rattle.std.proofs.Math.Seq.{drop-append_seam, take-append_seam}
use Rattle.ql_base.specs.Bytes.{is_digit}
use Rattle.ql_base.proofs.Fronts.{front-append}
use Rattle.ql_base.proofs.Numerals.{digits_model}
use Rattle.ql_effect_lines.specs.declared.setting.Begun.{Begun}
use Rattle.ql_effect_lines.specs.EffectLine.{FitsTxn, txn_text}
use Rattle.ql_lines.specs.Fields.{IsId}
use Rattle.ql_lines.proofs.Conses.{tails}

colon_is_none : is_digit 58 ≡ false
unfolding is_digit
colon_is_none = refl

module _ (n k : ℕ) (w field : List ℕ) (small : IsId n) (is : field ≡ decimal n ++ 58 ∷ w) (front : k ≡ prefix_len is_digit field) where
  -- the number stands before the first byte that is no digit
  digits_end : k ≡ length (decimal n)
  digits_end = front ∙ ap (prefix_len is_digit) is ∙ front-append is_digit (decimal n) (58 ∷ w) (digits_decimal digits_model n (omega (arith, small))) colon_is_none

  pub number_before : (digits : List ℕ) → digits ≡ take k field → digits ≡ decimal n
  number_before digits e = e ∙ ap (λ (j : ℕ). take j field) digits_end ∙ ap (take (length (decimal n))) is ∙ take-append_seam (decimal n) (58 ∷ w)

  pub name_behind : (rest : List ℕ) → rest ≡ drop k field → rest ≡ 58 ∷ w
  name_behind rest e = e ∙ ap (λ (j : ℕ). drop j field) digits_end ∙ ap (drop (length (decimal n))) is ∙ drop-append_seam (decimal n) (58 ∷ w)

none_and_some : (t : Begun) → IsId t.run → codes "-" ≡ decimal t.run ++ 58 ∷ t.name → 1 ≤ length t.name → ⊥
none_and_some t small e some = omega (arith, ap length e, length-append (decimal t.run) (58 ∷ t.name), some)

pub one_txn : (s t : Option Begun) → FitsTxn s → FitsTxn t → txn_text s ≡ txn_text t → s ≡ t
one_txn None None f g e = refl
one_txn None (Some t) f g e = absurd (none_and_some t g.1 e g.2.shape.some)
one_txn (Some s) None f g e = absurd (none_and_some s f.1 (sym e) f.2.shape.some)
one_txn (Some s) (Some t) f g e =
    let field = txn_text (Some t) in
    let here : field ≡ decimal s.run ++ 58 ∷ s.name = sym e in
    let k = prefix_len is_digit field in
    let number = sym (number_before s.run k s.name field f.1 here refl (take k field) refl) ∙ number_before t.run k t.name field g.1 refl refl (take k field) refl in
    let name = sym (name_behind s.run k s.name field f.1 here refl (drop k field) refl) ∙ name_behind t.run k t.name field g.1 refl refl (drop k field) refl in
    let run : s.run ≡ t.run = decimal_injective s.run t.run (omega (arith, f.1)) (omega (arith, g.1)) number in
    ap (λ r. Some (record { run = r; name = s.name })) run ∙ ap (λ n. Some (record { run = t.run; name = n })) (tails 58 58 s.name t.name name)
