use Rattle.std.proofs.Common.{inl, inr, length}
use Rattle.ql_warnings.specs.Warnings.{IsOpName, IsTargetName, IsTxnName}
use Rattle.ql_warnings.proofs.Following.{next_more}
use Rattle.ql_warnings.proofs.next.next_name.Goals as goal

pub returns : goal.returns
returns c =
    let p = c.args.t.now.program in
    next_more (IsOpName p) (IsTxnName p) (IsTargetName p) c.args.at (length c.args.source.now) c.next_op-next.result c.next_txn.result (λ n is. is) (λ n is. inl is) (λ n is. inr is) c.next_op-next.ensures c.next_txn.ensures
