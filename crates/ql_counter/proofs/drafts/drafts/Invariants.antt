use Rattle.std.proofs.Common.{◌≡◌, map, take}
use Rattle.ql_atoms.specs.Atoms.{size_of}
use Rattle.ql_counter.specs.Built.{draft_of}
use Rattle.ql_counter.specs.Assigned.{pattern_of}
use Rattle.ql_counter.specs.Coded.{members_by}
use Rattle.ql_counter.proofs.drafts.drafts.Given as goal

abbrev pub invariant-loop-slot : goal.invariant-loop-slot
invariant-loop-slot l = l.drafts.items ≡ map (draft_of (pattern_of l.a (size_of l.s) (members_by l.a (size_of l.s) l.declared)) l.slots) (take l.slot-index l.slots)
