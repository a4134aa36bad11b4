-- What is appended in two steps.
use Rattle.std.proofs.Common.{List, Result, Ok, Err}
use Rattle.std.specs.Prelude.{OnOk}
use Rattle.ql_base.specs.declared.no_memory.NoMemory.{NoMemory}
use Rattle.ql_counter.specs.declared.counter.At.{At}
use Rattle.ql_exec.specs.declared.effect.Effect.{Effect}
use Rattle.ql_warnings.specs.Facts.{KeepsAny, KeepsTrue}
use Rattle.ql_warnings.specs.declared.fact.Fact.{Fact}

-- first one part, of which some may be taken back, and then the other
pub two_parts : {A : Type 0} (x : List Effect) (here : At) (a b c d : List Fact) (last : Result A NoMemory) → KeepsTrue x here a b → KeepsAny b c → OnOk last (KeepsTrue x here c d) → OnOk last (KeepsTrue x here a d)
two_parts x here a b c d (Ok reported) first back second = λ all. second (back x here (first all))
two_parts x here a b c d (Err e) first back second = tt
