use Rattle.std.proofs.Common.{length, arith}
use Rattle.ql_warnings.proofs.Spans.{begins_before, ends, ends_within, goes_on}
use Rattle.ql_warnings.proofs.unbracketed.+joined.Goals as goal

pub sign_at-sign-requires-clause-order : goal.sign_at-sign-requires-clause-order
sign_at-sign-requires-clause-order t c = omega (arith, begins_before 0 (length c.args.source.now) c.args.tokens.now c.args.k c.token_at-token.result c.requires.spans c.token_at-token.ensures)

pub sign_at-sign-requires-clause-within : goal.sign_at-sign-requires-clause-within
sign_at-sign-requires-clause-within t c = ends_within 0 (length c.args.source.now) c.args.tokens.now c.args.k c.token_at-token.result c.requires.spans c.token_at-token.ensures

pub returns-in-Some : goal.returns-in-Some
returns-in-Some t c =
    goes_on c.args.source.now c.args.tokens.now c.args.k c.token_at-token.result c.sign_at-sign.result c.args.depth c.in-Some.inside c.args.found c.met-next.result c.joined.result
    c.token_at-token.ensures c.sign_at-sign.ensures c.in-Some.ensures.exact c.met-next.ensures c.joined.ensures

pub returns-in-None : goal.returns-in-None
returns-in-None t c =
    ends c.args.source.now c.args.tokens.now c.args.k c.token_at-token.result c.sign_at-sign.result c.args.depth c.args.found c.reported.result
    c.token_at-token.ensures c.sign_at-sign.ensures c.in-None.ensures.exact c.reported.ensures
