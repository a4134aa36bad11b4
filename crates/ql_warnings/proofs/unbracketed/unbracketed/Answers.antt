use Rattle.std.proofs.lemmas.Result.{err_from_is_err_and}
use Rattle.std.proofs.Common.{arith}
use Rattle.ql_warnings.proofs.Joining.{all_bracketed, lexed_at}
use Rattle.ql_warnings.proofs.unbracketed.unbracketed.Goals as goal

pub push_joined-requires-clause-lexed : goal.push_joined-requires-clause-lexed
push_joined-requires-clause-lexed c = rw c.source-source.ensures.same (lexed_at c.args.lexed.now c.tokens-tokens.result.now c.loop-k.k c.tokens-tokens.ensures (omega arith)).0

pub push_joined-requires-clause-spans : goal.push_joined-requires-clause-spans
push_joined-requires-clause-spans c = rw c.source-source.ensures.same (lexed_at c.args.lexed.now c.tokens-tokens.result.now c.loop-k.k c.tokens-tokens.ensures (omega arith)).1

pub returns : goal.returns
returns c =
    all_bracketed c.one_answer.ensures.one c.args.lexed.now c.args.extent.start c.args.extent.end c.tokens-tokens.result.now c.loop-k.k c.loop-k.found.items
    c.tokens-tokens.ensures (omega arith) c.loop-k.invariant

pub returns-in_err-push_joined : goal.returns-in_err-push_joined
returns-in_err-push_joined c = let p = err_from_is_err_and c.from_residual.result c.from_residual.ensures.1 in rw p.1 tt
