-- The parameters of the machine: levels, the operations that transactions use, and how calls are answered. And one
-- call.
use Rattle.std.specs.Prelude.{Bool, List}
use Rattle.ql_base.specs.declared.ids.DeclId.{DeclId}
use Rattle.ql_base.specs.declared.ids.ObjId.{ObjId}
use Rattle.ql_base.specs.declared.ids.OpId.{OpId}
use Rattle.ql_base.specs.declared.ids.ReplicaId.{ReplicaId}
use Rattle.ql_base.specs.declared.ids.SessId.{SessId}
use Rattle.ql_value.specs.declared.value.Value.{Value}
use Rattle.ql_exec.specs.declared.effect.Effect.{Effect}
use Rattle.ql_exec.specs.declared.folder.Answered.{Answered}
use Rattle.ql_levels.specs.declared.level.Level.{Level}
use Rattle.ql_levels.specs.declared.level.TxnLevel.{TxnLevel}

-- the level of each operation and of each declared transaction: what the store guarantees
pub record Promises : Type 0 where
  pub level : OpId → Level
  pub txn_level : DeclId → TxnLevel

pub record Rules : Type 0 where
  pub promises : Promises
  pub open promises use *
  -- whether a declared transaction uses an operation
  pub uses : DeclId → OpId → Bool
  -- answer and payload of a call, from its arguments and the effects that it sees in order of stamp and session
  pub answer : OpId → List Value → List Effect → Answered

-- a call of an operation on an object, by a session at a replica
pub record Call : Type 0 where
  pub session : SessId
  pub replica : ReplicaId
  pub object : ObjId
  pub op : OpId
  pub args : List Value
