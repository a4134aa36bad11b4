use Rattle.ql_baseline.proofs.Joining.{compared_said}
use Rattle.ql_baseline.proofs.comparison.compare.Goals as goal

pub returns-in-Ok-read_file : goal.returns-in-Ok-read_file
returns-in-Ok-read_file c =
    compared_said c.args.source.now c.args.baseline.now c.in-Ok.typed.program c.in-Ok-read_file.stored c.in-Ok.ensures.source c.in-Ok-read_file.ensures c.against.result
    (rw c.items.ensures at c.against.ensures)
