use Rattle.std.proofs.lemmas.Result.{err_from_is_err_and}
use Rattle.ql_parse.proofs.ReaderLemmas.{operator_past, operator_refused, operator_passed, operator_not_empty, operator_shorter, takes_operator}
use Rattle.ql_parse.proofs.reader.Reader.operator.Goals as goal

pub returns-in_err-op-clause-refused : goal.returns-in_err-op-clause-refused
returns-in_err-op-clause-refused c =
    let p = err_from_is_err_and c.from_residual.result c.from_residual.ensures.1 in
    rw (p.1, p.2, c.in_err-op.ensures.err) (operator_refused c.args.self.now c.args.precedence c.in_err-op.ensures.misses)

pub returns-in_err-count-clause-refused : goal.returns-in_err-count-clause-refused
returns-in_err-count-clause-refused c =
    let p = err_from_is_err_and c.from_residual-in_err-count.result c.from_residual-in_err-count.ensures.1 in
    rw (p.1, p.2) (operator_past c.args.self.now c.args.precedence c.in_ok-op.op _ c.in_ok-op.ensures.sees (rw (← c.place-at.ensures) c.in_err-count.ensures.err))

pub advance-requires : goal.advance-requires
advance-requires c = rw c.in_ok-count.ensures.tokens (operator_not_empty c.args.precedence c.in_ok-op.op c.args.self.now.tokens c.in_ok-op.ensures.sees)

pub returns-clause-gave : goal.returns-clause-gave
returns-clause-gave c = takes_operator (operator_passed c.in_ok-op.ensures.sees c.place-at.ensures c.in_ok-count.ensures.ok c.in_ok-count.ensures.tokens c.in_ok-count.ensures.end c.advance.ensures)

pub returns-clause-shorter : goal.returns-clause-shorter
returns-clause-shorter c = operator_shorter (operator_passed c.in_ok-op.ensures.sees c.place-at.ensures c.in_ok-count.ensures.ok c.in_ok-count.ensures.tokens c.in_ok-count.ensures.end c.advance.ensures)
