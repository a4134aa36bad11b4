-- Contracts that are small, as those of a program that was read are.
use Rattle.std.specs.Prelude.{◌≡◌, ◌≤◌, ℕ, Some, slice_get}
use Rattle.ql_atoms.specs.Atoms.{Size}
use Rattle.ql_cnf.specs.Circuits.{gates}
use Rattle.ql_lang.specs.Formulas.{Resolved, Statement}
use Rattle.ql_lang.specs.declared.program.Program.{Program}
use Rattle.ql_typing.specs.Operations.{op_contracts, txn_contracts}
use Rattle.ql_ground.specs.Bodies.{body_circuit}

-- whatever the constants, the circuit of the body has at most so many gates
abbrev pub IsBodyWithin : ℕ → Statement → Type 0
IsBodyWithin most body = (s : Size) → gates (body_circuit s body) ≤ most

-- the body of each contract of a program has at most so many gates
pub record AreBodiesWithin (most : ℕ) (p : Program) : Type 0 where
  pub ops : (o : ℕ) (f : Resolved) → slice_get (op_contracts p.types) o ≡ Some f → IsBodyWithin most f.body
  pub txns : (d : ℕ) (f : Resolved) → slice_get (txn_contracts p) d ≡ Some f → IsBodyWithin most f.body
