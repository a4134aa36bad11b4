-- Why a strong call can't be answered, or that nothing prevents it.
use Rattle.std.specs.Prelude.{Option, Some, None}
use Rattle.ql_base.specs.declared.ids.ObjId.{ObjId}
use Rattle.ql_base.specs.declared.ids.ReplicaId.{ReplicaId}
use Rattle.ql_machine.specs.declared.reply.Reply.{Reply}
use Rattle.ql_machine.specs.declared.reply.Reply.TheVariants.{Held, Unavailable}
use Rattle.ql_machine.specs.Calls.{IsConnected, IsFree, IsHeldBy, IsOutside}
use Rattle.ql_machine.specs.Sets.{IsLeast}
use Rattle.ql_machine.specs.State.{Machine}

-- the least replica outside a replica's group; else the least session whose open transaction declares the object; else nothing
abbrev pub IsObstacle : Machine → ReplicaId → ObjId → Option Reply → Type 0
IsObstacle s r object None = IsConnected s r × IsFree s object
IsObstacle s r object (Some (Unavailable q)) = IsLeast (IsOutside s r) q.0
IsObstacle s r object (Some (Held session)) = IsConnected s r × IsLeast (IsHeldBy s object) session.0
IsObstacle s r object (Some _) = ⊥
