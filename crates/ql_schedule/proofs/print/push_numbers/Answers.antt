use Rattle.std.proofs.lemmas.Result.{err_from_is_err_and}
use Rattle.std.proofs.Common.{decimal}
use Rattle.ql_schedule.proofs.Printing.{nothing_behind, spaced_at}
use Rattle.ql_schedule.proofs.print.push_numbers.Goals as goal

pub loop-number-init : goal.loop-number-init
loop-number-init c = nothing_behind c.args.out.now.items

pub loop-number-preserved : goal.loop-number-preserved
loop-number-preserved c =
    rw (c.in_ok-push_number.ensures.ok, c.in_ok-push_bytes.ensures.ok, c.loop-number.invariant)
    (spaced_at decimal c.args.numbers.now c.loop-number.number-index _ c.args.out.now.items c.loop-number-test.true)

pub returns-in_err-push_bytes : goal.returns-in_err-push_bytes
returns-in_err-push_bytes c = let p = err_from_is_err_and c.from_residual.result c.from_residual.ensures.1 in rw p.1 tt

pub returns-in_err-push_number : goal.returns-in_err-push_number
returns-in_err-push_number c = let p = err_from_is_err_and c.from_residual-in_err-push_number.result c.from_residual-in_err-push_number.ensures.1 in rw p.1 tt
