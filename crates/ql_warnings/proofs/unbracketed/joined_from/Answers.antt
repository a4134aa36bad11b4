use Rattle.std.proofs.Common.{length, sym, ◌∙◌, arith}
use Rattle.std.proofs.lemmas.Bool.{MatchBool-at_false, MatchBool-at_true}
use Rattle.ql_warnings.proofs.Joining.{begins_sooner, joined_exact, points_not}
use Rattle.ql_warnings.proofs.Spans.{begins_before, ends_within}
use Rattle.ql_warnings.proofs.unbracketed.joined_from.Goals as goal

pub sign_at-requires-clause-order : goal.sign_at-requires-clause-order
sign_at-requires-clause-order c = omega (arith, begins_before 0 (length c.args.source.now) c.args.tokens.now c.args.k c.token_at-token.result c.requires.spans c.token_at-token.ensures)

pub sign_at-requires-clause-within : goal.sign_at-requires-clause-within
sign_at-requires-clause-within c = ends_within 0 (length c.args.source.now) c.args.tokens.now c.args.k c.token_at-token.result c.requires.spans c.token_at-token.ensures

pub returns-then-token-start : goal.returns-then-token-start
returns-then-token-start c = begins_sooner c.args.source.now c.args.start c.args.tokens.now c.args.k c.token_at-token.result c.token_at-token.ensures (omega arith)

pub returns-then-not-points : goal.returns-then-not-points
returns-then-not-points c =
    points_not c.args.source.now c.args.start c.args.tokens.now c.args.k c.token_at-token.result c.token_at-token.ensures
    (λ is. MatchBool-at_false _ _ c.if-not-points.true c.points.ensures (c.sign_at.ensures ∙ is))

pub returns : goal.returns
returns c =
    joined_exact c.args.source.now c.args.start c.args.tokens.now c.args.k c.token_at-token.result c.joined.result c.token_at-token.ensures
    (sym c.sign_at.ensures ∙ MatchBool-at_true _ _ c.if-not-points.false c.points.ensures) (omega arith) c.joined.ensures
