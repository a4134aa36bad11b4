use Rattle.ql_base.proofs.Filled.{row_of}
use Rattle.ql_base.proofs.word.Word.of.Goals as goal

pub invariant_of-result : goal.invariant_of-result
invariant_of-result c = rw c.copy_from_slice.ensures.after (row_of _ c.requires.some c.requires.few)
