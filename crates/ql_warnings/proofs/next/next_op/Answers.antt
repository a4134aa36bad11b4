use Rattle.std.proofs.Common.{arith}
use Rattle.ql_lang.specs.declared.operation.OpDecl.{OpDecl}
use Rattle.ql_typing.specs.Operations.{all_ops}
use Rattle.ql_warnings.proofs.Following.{all_among, none_among, one_among}
use Rattle.ql_warnings.proofs.next.next_op.Goals as goal

pub loop-o-init : goal.loop-o-init
loop-o-init c = none_among (λ (d : OpDecl). d.name.at) (all_ops c.args.t.now.program.types) c.args.at c.args.end

pub loop-o-preserved : goal.loop-o-preserved
loop-o-preserved c =
    one_among (λ (d : OpDecl). d.name.at) (all_ops c.args.t.now.program.types) c.args.at c.args.end c.loop-o.next c.nearer-next.result c.loop-o.o c.op.result.now c.op.ensures c.loop-o.invariant c.nearer-next.ensures

pub returns : goal.returns
returns c = all_among (λ (d : OpDecl). d.name.at) (all_ops c.args.t.now.program.types) c.args.at c.args.end c.loop-o.next c.loop-o.o (omega arith) c.loop-o.invariant
