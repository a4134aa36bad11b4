use Rattle.ql_lines.specs.Fields.{fields_of}
use Rattle.ql_cert.proofs.Refusals.{not_three}
use Rattle.ql_cert.proofs.cert_reader.read_heading.Goals as goal

pub returns-in_default : goal.returns-in_default
returns-in_default c = λ h fits e. not_three (fields_of c.args.text.now) c.in_default.ensures h.name h.level e
