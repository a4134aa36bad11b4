use Rattle.std.proofs.Common.{List, sym, subst}
use Rattle.ql_exec.specs.declared.effect.Effect.{Effect}
use Rattle.ql_formula.specs.Truth.{Holds, HoldsTxn}
use Rattle.ql_verdicts.proofs.Truth.{holds-too, holds-txn-too}
use Rattle.ql_verdicts.proofs.law.object_numbers_are_names.Goals as goal

pub returns-clause-effect : goal.returns-clause-effect
returns-clause-effect c = λ x y f a is h. subst (λ (z : List Effect). Holds z f a) (sym is.is) (holds-too is.number x is.apart f a h)

pub returns-clause-txn : goal.returns-clause-txn
returns-clause-txn c = λ x y f run is h. subst (λ (z : List Effect). HoldsTxn z f run) (sym is.is) (holds-txn-too is.number x is.apart f run h)
