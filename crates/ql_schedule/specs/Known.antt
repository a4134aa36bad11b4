-- The numbers that the names of an event's line stand for.
use Rattle.std.specs.Prelude.{◌≡◌, ◌<◌, true, false, List, ℕ, [], length, is_none, IfSome, MatchOption}
use Rattle.std.specs.List.{list_any}
use Rattle.std.specs.Option.{option_map}
use Rattle.ql_base.specs.Numbering.{place}
use Rattle.ql_lang.specs.declared.program.Program.{Program}
use Rattle.ql_typing.specs.Lookups.{txn_place}
use Rattle.ql_typing.specs.Operations.{all_ops, op_place}
use Rattle.ql_schedule.specs.declared.event_line.EventLine.{EventLine}
use Rattle.ql_schedule.specs.declared.event_line.EventLine.TheVariants.{Call, Begin}
use Rattle.ql_schedule.specs.declared.known.Known.{Known}
use Rattle.ql_schedule.specs.declared.schedule.Schedule.{Schedule}
use Rattle.ql_schedule.specs.Makings.{declared_from}

-- the number of an object and that of an operation
pub record IsCallKnown (p : Program) (s : Schedule) (object_name op_name : List ℕ) (k : Known) : Type 0 where
  pub object : k.object ≡ place s.objects object_name
  pub op : option_map (λ o. o.0) k.op ≡ op_place p.types op_name
  pub within : IfSome k.op (λ o. o.0 < length (all_ops p.types))

-- the number of a transaction, and those of objects if all are declared
pub record IsBeginKnown (p : Program) (s : Schedule) (txn : List ℕ) (names : List (List ℕ)) (k : Known) : Type 0 where
  pub decl : option_map (λ d. d.0) k.decl ≡ txn_place p.txns txn
  pub objects : MatchOption k.objects (list_any (λ w. is_none (place s.objects w)) names ≡ true)
      (λ ids. (list_any (λ w. is_none (place s.objects w)) names ≡ false) × (ids ≡ declared_from s.objects [] names))

abbrev pub AreNumbers : Program → Schedule → EventLine → Known → Type 0
AreNumbers p s (Call c object op args) k = IsCallKnown p s object op k
AreNumbers p s (Begin c txn objects) k = IsBeginKnown p s txn objects k
AreNumbers p s _ k = Unit {0}
