use Rattle.std.proofs.lemmas.Result.{err_from_is_err_and}
use Rattle.ql_lex.proofs.Steps.{at_no_token, at_too_long, at_no_number}
use Rattle.ql_lex.proofs.scan.tokens.Goals as goal

pub returns-in-NoToken-clause-exact : goal.returns-in-NoToken-clause-exact
returns-in-NoToken-clause-exact c = at_no_token c.args.bytes.now c.loop-at.at c.loop-at.found.items c.loop-at.invariant.1 c.in-NoToken.len c.in-NoToken.ensures.kind

pub returns-in-TooLong-clause-exact : goal.returns-in-TooLong-clause-exact
returns-in-TooLong-clause-exact c = at_too_long c.args.bytes.now c.loop-at.at c.loop-at.found.items c.loop-at.invariant.1 c.in-TooLong.ensures.kind

pub returns-in-NoNumber-clause-exact : goal.returns-in-NoNumber-clause-exact
returns-in-NoNumber-clause-exact c = at_no_number c.args.bytes.now c.loop-at.at c.loop-at.found.items c.loop-at.invariant.1 c.in-NoNumber.ensures.kind

pub returns-in_err-push-in-Lexeme-clause-spans : goal.returns-in_err-push-in-Lexeme-clause-spans
returns-in_err-push-in-Lexeme-clause-spans c = let p = err_from_is_err_and c.from_residual.result c.from_residual.ensures.1 in rw p.1 tt
