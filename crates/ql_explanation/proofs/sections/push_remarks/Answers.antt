use Rattle.ql_explanation.proofs.Known.{uses_known}
use Rattle.ql_explanation.proofs.sections.push_remarks.Goals as goal

pub push_ways_out-requires : goal.push_ways_out-requires
push_ways_out-requires c = uses_known c.args.t.now.program c.args.g c.args.remarks.uses.now c.requires.uses
