use Rattle.ql_schedule.specs.Parts.{parts_of}
use Rattle.ql_schedule.proofs.Fronts.{count_read}
use Rattle.ql_schedule.proofs.header.read_replicas.Goals as goal

pub returns : goal.returns
returns c = count_read (parts_of c.args.text.now) (parts_of c.in_ok-rest.rest.now) c.one_number.result c.in_ok-rest.ensures c.one_number.ensures
