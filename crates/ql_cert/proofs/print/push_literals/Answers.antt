use Rattle.ql_cert.specs.Spelling.{lit_field}
use Rattle.ql_cert.proofs.Printing.{nothing_behind, one_more_at}
use Rattle.ql_cert.proofs.print.push_literals.Goals as goal

pub loop-literal-init : goal.loop-literal-init
loop-literal-init c = nothing_behind c.args.out.now.items

pub loop-literal-preserved : goal.loop-literal-preserved
loop-literal-preserved c = rw (c.in_ok-push_literal.ensures, c.in_ok-push_bytes.ensures.ok, c.loop-literal.invariant)
    (one_more_at lit_field c.args.literals.now c.loop-literal.literal-index _ c.args.out.now.items c.loop-literal-test.true)
