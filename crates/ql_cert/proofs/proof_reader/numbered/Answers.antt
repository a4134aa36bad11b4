use Rattle.std.proofs.lemmas.Result.{err_from_is_err_and}
use Rattle.ql_lines.specs.Fields.{fields_of}
use Rattle.ql_cert.proofs.ProofRefusals.{extended, not_extended}
use Rattle.ql_cert.proofs.proof_reader.numbered.Goals as goal

pub returns-in_err-more : goal.returns-in_err-more
returns-in_err-more c =
    let p = err_from_is_err_and c.from_residual.result c.from_residual.ensures.1 in
    rw (p.1, p.2) (not_extended c.args.clauses c.args.lines c.args.number (fields_of c.args.body.now) c.ranges.number.fits c.in_err-more.field-0.0 c.in_err-more.ensures)

pub returns : goal.returns
returns c = extended c.args.clauses c.args.lines c.args.number (fields_of c.args.body.now) c.in_ok-more.more c.in_ok-more.ensures
