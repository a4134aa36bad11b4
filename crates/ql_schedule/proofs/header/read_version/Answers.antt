use Rattle.std.proofs.Common.{◌≡◌, ℕ, [], ◌∷◌, List, decimal, inl, inr, arith, refl, sym, ap, ◌∙◌}
use Rattle.std.proofs.lemmas.Bool.{false≢true}
use Rattle.std.proofs.lemmas.Fmt.{decimal_digit}
use Rattle.ql_schedule.proofs.header.read_version.Goals as goal

one : decimal 1 ∷ [] ≡ (49 ∷ []) ∷ []
one = ap (λ (word : List ℕ). word ∷ []) (decimal_digit 1 (omega arith))

two : decimal 2 ∷ [] ≡ (50 ∷ []) ∷ []
two = ap (λ (word : List ℕ). word ∷ []) (decimal_digit 2 (omega arith))

pub returns-then-is_word : goal.returns-then-is_word
returns-then-is_word c = (inl refl, c.is_word.ensures.0 c.if-is_word.true ∙ sym one)

pub returns-then-is_word-2 : goal.returns-then-is_word-2
returns-then-is_word-2 c = (inr refl, c.is_word-else-is_word.ensures.0 c.if-is_word-2.true ∙ sym two)

pub returns-else-is_word-2 : goal.returns-else-is_word-2
returns-else-is_word-2 c = λ version is are. elim is [
  | inl first ↦ false≢true (sym c.if-is_word.false ∙ c.is_word.ensures.1 (are ∙ ap (λ (n : ℕ). decimal n ∷ []) first ∙ one))
  | inr second ↦ false≢true (sym c.if-is_word-2.false ∙ c.is_word-else-is_word.ensures.1 (are ∙ ap (λ (n : ℕ). decimal n ∷ []) second ∙ two))
]
