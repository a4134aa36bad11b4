use Rattle.std.proofs.lemmas.Result.{err_from_is_err_and}
use Rattle.ql_reply.specs.Arguments.{word_texts}
use Rattle.ql_app.specs.Words.{IsRequest, NamedRequest, TwoFiles}
use Rattle.ql_app.proofs.RequestLaws.{reports_of}
use Rattle.ql_app.proofs.outcome.outcome.Goals as goal

pub returns-in-Some-TwoFiles-clause-lacking : goal.returns-in-Some-TwoFiles-clause-lacking
returns-in-Some-TwoFiles-clause-lacking g c = λ named request.
    let words = word_texts c.args.words.now in
    let asked : NamedRequest = TwoFiles c.in-Some-TwoFiles.command c.in-Some-TwoFiles.name.now c.in-Some-TwoFiles.other.now in
    let requested : IsRequest words asked = rw c.in-Some-TwoFiles.field-0-is at c.in-Some-TwoFiles.ensures in
    reports_of (g.S.Shelf.lacks c.args.shelf.now) words asked named c.of_files.result requested request c.of_files.ensures.lacking

pub returns-in_err-text-in-None-clause-says : goal.returns-in_err-text-in-None-clause-says
returns-in_err-text-in-None-clause-says g c = let p = err_from_is_err_and c.from_residual.result c.from_residual.ensures.1 in rw p.1 tt
