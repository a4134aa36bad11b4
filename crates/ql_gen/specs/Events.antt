-- The event that is drawn from a state, and the state after it. Draws follow one another from left to right.
use Rattle.std.specs.Prelude.{ℕ, suc, ◌+◌, ◌*◌, nat_eq, nat_lt, if◌then◌else◌, List, [], ◌∷◌, ◌++◌, codes, decimal, length, pos, slice_get, slice_index_or}
use Rattle.std.specs.Option.{option_map_or}
use Rattle.ql_base.specs.declared.ids.MsgId.{MsgId}
use Rattle.ql_base.specs.declared.ids.ReplicaId.{ReplicaId}
use Rattle.ql_base.specs.declared.ids.SessId.{SessId}
use Rattle.ql_lang.specs.declared.operation.Base.{Base}
use Rattle.ql_lang.specs.declared.operation.Base.TheVariants as base
use Rattle.ql_lang.specs.declared.operation.Param.{Param}
use Rattle.ql_lang.specs.declared.program.Program.{Program}
use Rattle.ql_machine.specs.declared.event.Event.{Event}
use Rattle.ql_machine.specs.declared.event.Event.TheVariants.{Begin, Call, Commit, Deliver, Heal, Lose, Partition, Repeat}
use Rattle.ql_typing.specs.Operations.{all_ops, op_kinds}
use Rattle.ql_value.specs.declared.value.Value.{Value}
use Rattle.ql_value.specs.declared.value.Value.TheVariants.{Bool, Int, Text}
use Rattle.ql_gen.specs.Draws.{draw, next}
use Rattle.ql_gen.specs.Objects.{first_objects}

-- ---- parts of events

-- one of four sessions, then one of three replicas
abbrev pub session_of : ℕ → SessId
session_of x = record { 0 = draw 4 x }

abbrev pub replica_of : ℕ → ReplicaId
replica_of x = record { 0 = draw 3 (next x) }

-- one of the first j messages, for event j
abbrev pub message_of : ℕ → ℕ → MsgId
message_of j x = record { 0 = suc (draw j x) }

-- ---- calls

abbrev pub arg_of : Base → ℕ → Value
arg_of base.Int x = Int (pos (draw 100 x))
arg_of base.Bool x = Bool (nat_eq (draw 2 x) 1)
arg_of base.Text x = Text (codes "t" ++ decimal (draw 10 x))

unfoldable pub args_of : List Param → ℕ → List Value
args_of [] x = []
args_of (p ∷ ps) x = arg_of p.base x ∷ args_of ps (next x)

-- the state after an argument for each parameter
unfoldable pub after_args : List Param → ℕ → ℕ
after_args [] x = x
after_args (p ∷ ps) x = after_args ps (next x)

module _ (p : Program) where
  abbrev pub op_of : ℕ → ℕ
  op_of x = draw (length (all_ops p.types)) x

  abbrev pub params_of : ℕ → List Param
  params_of o = option_map_or (λ d. d.params) (slice_get (all_ops p.types) o) []

  -- a call of an operation on one of the two objects of its type
  abbrev pub call_at : SessId → ReplicaId → ℕ → ℕ → ℕ → Event
  call_at session replica o k x =
      Call session replica (record { 0 = 2 * slice_index_or (op_kinds p.types) o 0 + k }) (record { 0 = o }) (args_of (params_of o) x)

  -- a session, a replica, an operation, which of the two objects, and an argument for each parameter; `heal` if there
  -- is no operation
  abbrev pub call_of : ℕ → Event
  call_of x = if nat_eq (length (all_ops p.types)) 0 then Heal
      else call_at (session_of x) (replica_of x) (op_of (next (next x))) (draw 2 (next (next (next x)))) (next (next (next (next x))))

  abbrev pub after_call : ℕ → ℕ
  after_call x = if nat_eq (length (all_ops p.types)) 0 then x
      else after_args (params_of (op_of (next (next x)))) (next (next (next (next x))))

  -- ---- transactions

  -- a session, a replica and a transaction, on the first object of each type; `heal` if there is no transaction
  abbrev pub begin_of : ℕ → Event
  begin_of x = if nat_eq (length p.txns) 0 then Heal
      else Begin (session_of x) (replica_of x) (record { 0 = draw (length p.txns) (next (next x)) }) (first_objects (length p.types))

  abbrev pub after_begin : ℕ → ℕ
  after_begin x = if nat_eq (length p.txns) 0 then x else next (next (next x))

-- ---- the network

abbrev pub network_of : ℕ → ℕ → Event
network_of j x =
    if nat_eq (draw 4 x) 0 then Partition (0 ∷ 0 ∷ 1 ∷ [])
    else if nat_eq (draw 4 x) 1 then Heal
    else if nat_eq (draw 4 x) 2 then Lose (message_of j (next x)) else Repeat (message_of j (next x))

abbrev pub after_network : ℕ → ℕ
after_network x = if nat_lt (draw 4 x) 2 then next x else next (next x)

-- ---- events, each of one of twelve kinds

module _ (p : Program) where
  abbrev pub event_of_kind : ℕ → ℕ → ℕ → Event
  event_of_kind j k x =
      if nat_lt k 6 then call_of p x
      else if nat_lt k 9 then Deliver (message_of j x)
      else if nat_eq k 9 then network_of j x
      else if nat_eq k 10 then begin_of p x else Commit (session_of x) (replica_of x)

  abbrev pub after_kind : ℕ → ℕ → ℕ
  after_kind k x =
      if nat_lt k 6 then after_call p x
      else if nat_lt k 9 then next x
      else if nat_eq k 9 then after_network x
      else if nat_eq k 10 then after_begin p x else next (next x)

  -- event j, counted from 1
  abbrev pub event_of : ℕ → ℕ → Event
  event_of j x = event_of_kind j (draw 12 x) (next x)

  abbrev pub after_event : ℕ → ℕ
  after_event x = after_kind (draw 12 x) (next x)
