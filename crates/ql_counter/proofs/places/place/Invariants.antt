use Rattle.std.specs.List.{slice_index_or}
use Rattle.ql_counter.specs.Blocks.{slot_of}
use Rattle.ql_counter.specs.Built.{is_own}
use Rattle.ql_counter.specs.declared.slot.Part.TheVariants.{Own}
use Rattle.ql_counter.proofs.Loops.{NoneBelow}
use Rattle.ql_counter.proofs.places.place.Given as goal

abbrev pub invariant-loop-k : goal.invariant-loop-k
invariant-loop-k l = NoneBelow l.k (λ k. is_own l.leader (slice_index_or l.slots k (slot_of 0 Own)))
