use Rattle.std.proofs.lemmas.Result.{err_from_is_err_and}
use Rattle.ql_lines.specs.Fields.{fields_of}
use Rattle.ql_cert.proofs.Refusals.{extended, no_section, not_extended}
use Rattle.ql_cert.proofs.cert_reader.numbered.Goals as goal

pub returns-in_default : goal.returns-in_default
returns-in_default c = no_section c.args.done c.args.last c.args.number (fields_of c.args.body.now) c.ranges.number.fits c.in_default.is

pub returns-in_err-lines : goal.returns-in_err-lines
returns-in_err-lines c =
    let p = err_from_is_err_and c.from_residual.result c.from_residual.ensures.1 in
    rw (p.1, p.2) (not_extended c.args.done c.args.last c.in-Some.section c.args.number (fields_of c.args.body.now) c.ranges.number.fits c.in-Some.is c.in_err-lines.field-0.0 c.in_err-lines.ensures)

pub returns : goal.returns
returns c =
    extended c.args.done c.args.last c.in-Some.section c.args.number (fields_of c.args.body.now) c.in_ok-lines.lines c.in-Some.is c.in_ok-lines.ensures
