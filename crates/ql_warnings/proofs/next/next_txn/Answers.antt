use Rattle.std.proofs.Common.{arith}
use Rattle.ql_lang.specs.declared.program.TxnDecl.{TxnDecl}
use Rattle.ql_warnings.proofs.Following.{all_among, none_among, one_among}
use Rattle.ql_warnings.proofs.next.next_txn.Goals as goal

pub loop-d-init : goal.loop-d-init
loop-d-init c = none_among (λ (d : TxnDecl). d.name.at) c.args.t.now.program.txns c.args.at c.args.end

pub loop-d-preserved : goal.loop-d-preserved
loop-d-preserved c =
    one_among (λ (d : TxnDecl). d.name.at) c.args.t.now.program.txns c.args.at c.args.end c.loop-d.next c.nearer-next.result c.loop-d.d c.txn.result.now c.txn.ensures c.loop-d.invariant c.nearer-next.ensures

pub returns : goal.returns
returns c = all_among (λ (d : TxnDecl). d.name.at) c.args.t.now.program.txns c.args.at c.args.end c.loop-d.next c.loop-d.d (omega arith) c.loop-d.invariant
