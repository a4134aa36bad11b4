-- Parts of an explanation, as far as they are made.
use Rattle.std.specs.Prelude.{ℕ, ◌<◌, List, map}
use Rattle.std.specs.List.{All, Contains}
use Rattle.ql_base.specs.IdLists.{IsAscending}
use Rattle.ql_base.specs.declared.ids.OpId.{OpId}
use Rattle.ql_lang.specs.declared.program.Program.{Program}
use Rattle.ql_explanation.specs.Explanation.{IsStrongIn}

-- all strong ones of the first operations that a transaction uses, each once and in order
pub record AreStrongBelow (p : Program) (d count : ℕ) (uses : List OpId) : Type 0 where
  pub sound : All (IsStrongIn p d) uses
  pub complete : (o : OpId) → o.0 < count → IsStrongIn p d o → Contains uses o
  pub ascending : IsAscending (map (λ (o : OpId). o.0) uses)
  pub below : All (λ (o : OpId). o.0 < count) uses
