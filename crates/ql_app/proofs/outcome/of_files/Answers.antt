use Rattle.std.proofs.lemmas.Result.{err_from_is_err_and}
use Rattle.std.proofs.Common.{◌≡◌, ℕ, List, Option, arith, subst}
use Rattle.std.specs.Prelude.{IfSome}
use Rattle.ql_app.proofs.OutcomeLaws.{two}
use Rattle.ql_app.proofs.outcome.of_files.Goals as goal

pub returns-clause-says : goal.returns-clause-says
returns-clause-says g c =
    let second = c.in-Ok-read_whole.second.items in
    let reply = c.in_ok-answer_pair.field-0 in
    let same : IfSome (g.S.Shelf.held c.args.shelf.now c.args.other.now) (λ whole. second ≡ whole) =
    subst (λ (held : Option (List ℕ)). IfSome held (λ whole. second ≡ whole)) (c.in-Ok.ensures.same_contents c.args.other.now) c.in-Ok-read_whole.ensures.whole in
    two c.args.limits (g.S.Shelf.held c.args.shelf.now) (g.S.Shelf.faults c.args.shelf.now) (g.S.Shelf.faults c.read_whole-2.new.shelf)
    c.args.command c.args.name.now c.args.other.now c.in-Ok.first.items second reply.status reply.text.items
    c.in-Ok.ensures.whole (omega (arith, c.in-Ok.first.ok.0, c.in-Ok.ensures.in_limit)) same (omega (arith, c.in-Ok-read_whole.second.ok.0, c.in-Ok-read_whole.ensures.in_limit))
    (rw (c.as_slice.ensures.value, c.as_slice-2.ensures.value) at c.in_ok-answer_pair.ensures)

pub returns-in_err-answer_pair-clause-lacking : goal.returns-in_err-answer_pair-clause-lacking
returns-in_err-answer_pair-clause-lacking g c = let p = err_from_is_err_and c.from_residual.result c.from_residual.ensures.1 in rw p.1 tt

pub returns-in_err-answer_pair-clause-says : goal.returns-in_err-answer_pair-clause-says
returns-in_err-answer_pair-clause-says g c = let p = err_from_is_err_and c.from_residual.result c.from_residual.ensures.1 in rw p.1 tt
