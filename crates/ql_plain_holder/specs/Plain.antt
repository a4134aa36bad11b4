-- What a plain holder keeps: the ids received, and the closed part of them.
use Rattle.std.specs.Prelude.{◌↔◌, ℕ, List}
use Rattle.ql_base.specs.IdLists.{IsAscending}
use Rattle.ql_exec.specs.declared.effect.Effect.{Effect}
use Rattle.ql_holder.specs.Closed.{Has}
use Rattle.ql_holder.specs.Needs.{AreWhole}
use Rattle.ql_holder.specs.Arrivals.{Applied}

pub record FitsPlain (received applied : List ℕ) (x : List Effect) : Type 0 where
  pub ascending : IsAscending received
  pub whole : AreWhole x received
  pub exact : (a : ℕ) → Has applied a ↔ Applied x received a
