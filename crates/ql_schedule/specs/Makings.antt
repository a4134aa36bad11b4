-- What a line that breaks no rule adds to a schedule.
use Rattle.std.specs.Prelude.{ℕ, suc, List, [], ◌∷◌, ◌++◌, unwrap_or}
use Rattle.ql_base.specs.IdLists.{with_id}
use Rattle.ql_base.specs.Numbering.{place, with_name}
use Rattle.ql_lang.specs.declared.program.Program.{Program}
use Rattle.ql_machine.specs.declared.event.Event.{Event}
use Rattle.ql_machine.specs.declared.event.Event.TheVariants as event
use Rattle.ql_typing.specs.Lookups.{txn_place, type_place}
use Rattle.ql_typing.specs.Operations.{op_place}
use Rattle.ql_schedule.specs.declared.event_line.EventLine.{EventLine}
use Rattle.ql_schedule.specs.declared.event_line.EventLine.TheVariants.{Call, Begin, Commit, Deliver, Repeat, Lose, Resend, Partition, Heal, Join}
use Rattle.ql_schedule.specs.declared.schedule.Schedule.{Schedule}
use Rattle.ql_schedule.specs.Arguments.{argument_values}

-- the number of a declared name
abbrev pub id_of : List (List ℕ) → List ℕ → ℕ
id_of names w = unwrap_or (place names w) 0

-- ascending ids with the numbers of declared names among them
unfoldable pub declared_from : List (List ℕ) → List ℕ → List (List ℕ) → List ℕ
declared_from names ids [] = ids
declared_from names ids (w ∷ ws) = declared_from names (with_id ids (id_of names w)) ws

-- the event of a line
abbrev pub event_of : Program → Schedule → EventLine → Event
event_of p s (Call c object op args) =
    event.Call (record { 0 = c.session }) (record { 0 = c.replica }) (record { 0 = id_of s.objects object }) (record { 0 = unwrap_or (op_place p.types op) 0 }) (argument_values args)
event_of p s (Begin c txn objects) =
    event.Begin (record { 0 = c.session }) (record { 0 = c.replica }) (record { 0 = unwrap_or (txn_place p.txns txn) 0 }) (declared_from s.objects [] objects)
event_of p s (Commit c) = event.Commit (record { 0 = c.session }) (record { 0 = c.replica })
event_of p s (Deliver n) = event.Deliver (record { 0 = n })
event_of p s (Repeat n) = event.Repeat (record { 0 = n })
event_of p s (Lose n) = event.Lose (record { 0 = n })
event_of p s (Resend effect sender receiver) = event.Resend (record { 0 = effect }) (record { 0 = sender }) (record { 0 = receiver })
event_of p s (Partition groups) = event.Partition groups
event_of p s Heal = event.Heal
event_of p s (Join near copy) = event.Join (record { 0 = near }) copy

-- how many replicas there are after a line
abbrev pub replicas_with : ℕ → EventLine → ℕ
replicas_with replicas (Join near copy) = suc replicas
replicas_with replicas _ = replicas

-- a schedule without objects and events
abbrev pub of_replicas : ℕ → ℕ → Schedule
of_replicas version n = record { version = version; replicas = n; objects = []; kinds = []; events = [] }

abbrev pub with_object : Program → Schedule → List ℕ → List ℕ → Schedule
with_object p s name kind = record {
  version = s.version;
  replicas = s.replicas;
  objects = with_name s.objects name;
  kinds = s.kinds ++ record { 0 = unwrap_or (type_place p.types kind) 0 } ∷ [];
  events = s.events;
}

abbrev pub with_event : Schedule → Event → Schedule
with_event s e = record { version = s.version; replicas = s.replicas; objects = s.objects; kinds = s.kinds; events = s.events ++ e ∷ [] }
