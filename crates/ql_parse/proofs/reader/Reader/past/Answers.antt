use Rattle.std.proofs.Common.{refl}
use Rattle.std.proofs.lemmas.Result.{err_from_is_err_and}
use Rattle.ql_parse.proofs.reader.Reader.past.Goals as goal

pub returns-in_err-take-clause-refused : goal.returns-in_err-take-clause-refused
returns-in_err-take-clause-refused g c =
    let p = err_from_is_err_and c.from_residual.result c.from_residual.ensures.1 in
    rw (p.1, p.2) (λ f is below vs. c.in_err-take.ensures.refused f is _ _)

pub returns-clause-took : goal.returns-clause-took
returns-clause-took g c = (refl, λ below vs. c.in_ok-take.ensures.took below vs)
