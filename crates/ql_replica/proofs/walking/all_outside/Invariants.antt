use Rattle.std.proofs.Common.{◌≡◌, ℕ, ◌&&◌, not, take}
use Rattle.ql_base.specs.IdLists.{IsAscending, has_id}
use Rattle.ql_ranges.specs.Ranges.{ids_of}
use Rattle.ql_replica.proofs.walking.all_outside.Given as goal

abbrev pub invariant-loop-id : goal.invariant-loop-id
invariant-loop-id l = record {
  ascending : IsAscending l.rest;
  lacks : (a : ℕ) → has_id l.rest a ≡ (has_id (take l.id-index l.ids) a && not (has_id (ids_of l.set) a));
}
