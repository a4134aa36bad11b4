use Rattle.std.proofs.Common.{◌+◌, ap, refl}
use Rattle.ql_cert.proofs.Printing.{no_numbered, one_more_line}
use Rattle.ql_cert.proofs.print.push_lines.Goals as goal

pub loop-line-init : goal.loop-line-init
loop-line-init c = (refl, no_numbered c.args.out.now.items)

pub loop-line-preserved : goal.loop-line-preserved
loop-line-preserved c = (
  ap (λ n. n + 1) c.loop-line.invariant.0,
  rw (c.in_ok-push_line.ensures, c.loop-line.invariant.1)
      (one_more_line c.args.lines.now c.loop-line.line-index c.loop-line.number c.line-item.result c.args.out.now.items c.loop-line-test.true c.line-item.is c.loop-line.invariant.0),
)
