use Rattle.std.proofs.lemmas.Bool.{MatchBool-at_false, MatchBool-at_true}
use Rattle.ql_warnings.proofs.Clashing.{named_exact, not_free}
use Rattle.ql_warnings.proofs.named.named_as.Goals as goal

pub returns-then-not-is_free : goal.returns-then-not-is_free
returns-then-not-is_free c =
    not_free c.args.t.now.program c.args.vars.now c.args.k c.var_at-var.result.now c.var_at-var.ensures (MatchBool-at_false _ _ c.if-not-is_free.true c.is_free.ensures)

pub returns : goal.returns
returns c =
    named_exact c.args.t.now.program c.args.vars.now c.args.k c.var_at-var.result.now c.op_of.result c.var_at-var.ensures
    (MatchBool-at_true _ _ c.if-not-is_free.false c.is_free.ensures) c.op_of.ensures
