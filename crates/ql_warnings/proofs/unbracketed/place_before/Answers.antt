use Rattle.std.proofs.Common.{inl, arith}
use Rattle.ql_warnings.proofs.Joining.{place_exact}
use Rattle.ql_warnings.proofs.unbracketed.place_before.Goals as goal

pub returns-then-end-at : goal.returns-then-end-at
returns-then-end-at c = inl (omega arith)

pub returns : goal.returns
returns c = place_exact c.args.source.now c.args.at c.args.end c.place_in.result (omega arith) c.place_in.ensures
