-- The circuit of a transaction's terms, from its literals.
use Rattle.std.proofs.Common.{◌≡◌, ℕ, false, List, [], ◌∷◌, ◌++◌, map, refl, ap, ◌∙◌}
use Rattle.std.proofs.lemmas.List.{map-append}
use Rattle.ql_atoms.specs.declared.atoms.Atom.TheVariants.{Pair, Current}
use Rattle.ql_atoms.specs.declared.atoms.PairKind.TheVariants.{SameTxn}
use Rattle.ql_atoms.specs.Atoms.{Size}
use Rattle.ql_cnf.specs.Circuits.{Input}
use Rattle.ql_ground.specs.Bodies.{holds, other_circuits}
use Rattle.ql_ground.specs.Parts.{literal_of, member_literals, same_literals, other_literals}

members-inputs : (s : Size) (ms : List ℕ) → map Input (member_literals s ms) ≡ map (λ m. holds s (Current m)) ms
members-inputs s [] = refl
members-inputs s (m ∷ ms) = ap (λ p. holds s (Current m) ∷ p) (members-inputs s ms)

same-inputs : (s : Size) (c : ℕ) (ds : List ℕ) → map Input (same_literals s c ds) ≡ map (λ d. holds s (Pair SameTxn c d)) ds
same-inputs s c [] = refl
same-inputs s c (d ∷ ds) = ap (λ p. holds s (Pair SameTxn c d) ∷ p) (same-inputs s c ds)

others-inputs : (s : Size) (os : List ℕ) → map Input (other_literals s os) ≡ other_circuits s os
others-inputs s [] = refl
others-inputs s (c ∷ os) = ap (λ p. Input (literal_of s false (Current c)) ∷ p) (same-inputs s c os)

pub txn-inputs : (s : Size) (ms os : List ℕ) → map Input (member_literals s ms ++ other_literals s os) ≡ map (λ m. holds s (Current m)) ms ++ other_circuits s os
txn-inputs s ms os =
    map-append Input (member_literals s ms) (other_literals s os)
    ∙ ap (λ p. p ++ map Input (other_literals s os)) (members-inputs s ms)
    ∙ ap (λ p. map (λ m. holds s (Current m)) ms ++ p) (others-inputs s os)
