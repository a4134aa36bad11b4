use Rattle.ql_cert.specs.Spelling.{hint_field}
use Rattle.ql_cert.proofs.Printing.{nothing_behind, one_more_at}
use Rattle.ql_cert.proofs.print.push_hints.Goals as goal

pub loop-hint-init : goal.loop-hint-init
loop-hint-init c = nothing_behind c.args.out.now.items

pub loop-hint-preserved : goal.loop-hint-preserved
loop-hint-preserved c = rw (c.in_ok-push_hint.ensures, c.in_ok-push_bytes.ensures.ok, c.loop-hint.invariant)
    (one_more_at hint_field c.args.hints.now c.loop-hint.hint-index _ c.args.out.now.items c.loop-hint-test.true)
