use Rattle.std.proofs.Common.{◌≡◌, refl, sym, ◌∙◌, ap, ℕ, ◌<◌, Bool, true, false, ◌&&◌, nat_eq, List, [], ◌∷◌, length, arith}
use Rattle.std.proofs.lemmas.Bool.{true≢false}
use Rattle.std.specs.Prelude.{if◌then◌else◌}
use Rattle.ql_grammar.specs.declared.terminal.Terminal.{Terminal}
use Rattle.ql_grammar.specs.declared.terminal.Terminal.TheVariants.{NoTerminal}
use Rattle.ql_grammar.specs.Terminals.{brackets, is_spelled, mark, operator, operators, spelled_in}

-- a mark has at most two bytes
abbrev is_short : List ℕ → Bool
is_short [] = true
is_short (a ∷ []) = true
is_short (a ∷ b ∷ []) = true
is_short (a ∷ b ∷ c ∷ more) = false

abbrev AreShort : List (List ℕ × Terminal) → Type 0
AreShort [] = Unit {0}
AreShort (row ∷ rows) = (is_short row.0 ≡ true) × AreShort rows

neither : (b : Bool) → (b && false) ≡ false
neither true = refl
neither false = refl

long_not_spelled : (a b c : ℕ) (more word : List ℕ) → is_short word ≡ true → is_spelled (a ∷ b ∷ c ∷ more) word ≡ false
long_not_spelled a b c more [] short = refl
long_not_spelled a b c more (x ∷ []) short = neither (nat_eq a x)
long_not_spelled a b c more (x ∷ y ∷ []) short = ap (λ t. nat_eq a x && t) (neither (nat_eq b y)) ∙ neither (nat_eq a x)
long_not_spelled a b c more (x ∷ y ∷ z ∷ others) short = absurd (true≢false (sym short))

long_not_in : (a b c : ℕ) (more : List ℕ) (rows : List (List ℕ × Terminal)) (other : Terminal) → AreShort rows → spelled_in rows (a ∷ b ∷ c ∷ more) other ≡ other
long_not_in a b c more [] other short = refl
long_not_in a b c more (row ∷ rows) other short =
    ap (λ t. if t then row.1 else spelled_in rows (a ∷ b ∷ c ∷ more) other) (long_not_spelled a b c more row.0 short.0)
    ∙ long_not_in a b c more rows other short.1

-- so a longer text is none
pub long_mark : (text : List ℕ) → 2 < length text → mark text ≡ NoTerminal
unfolding mark operator
long_mark [] long = absurd (omega (arith, long))
long_mark (a ∷ []) long = absurd (omega (arith, long))
long_mark (a ∷ b ∷ []) long = absurd (omega (arith, long))
long_mark (a ∷ b ∷ c ∷ more) long =
    long_not_in a b c more brackets (operator (a ∷ b ∷ c ∷ more)) (refl, (refl, (refl, (refl, (refl, (refl, (refl, (refl, (refl, (refl, tt))))))))))
    ∙ long_not_in a b c more operators NoTerminal (refl, (refl, (refl, (refl, (refl, (refl, (refl, (refl, (refl, (refl, (refl, (refl, (refl, (refl, (refl, (refl, tt))))))))))))))))
