use Rattle.ql_lines.specs.Fields.{fields_of}
use Rattle.ql_cert.proofs.ProofRefusals.{not_begun}
use Rattle.ql_cert.proofs.proof_reader.begun.Goals as goal

pub returns-in-None : goal.returns-in-None
returns-in-None c = not_begun (fields_of c.args.text.now) c.in-None.ensures
