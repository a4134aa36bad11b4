use Rattle.std.proofs.Common.{inl, inr, refl, arith}
use Rattle.ql_warnings.proofs.next.nearer.Goals as goal

pub returns-then-name-at : goal.returns-then-name-at
returns-then-name-at c = record { within = omega arith; least = λ n is less. absurd (omega (arith, is, less)); some = inl refl }

pub returns-then-next-name : goal.returns-then-next-name
returns-then-next-name c = record { within = omega arith; least = λ n is less. omega (arith, is); some = inl refl }

pub returns : goal.returns
returns c = record { within = omega arith; least = λ n is less. omega (arith, is); some = inr (omega arith, refl) }
