use Rattle.std.proofs.Common.{◌≤◌, ◌-◌, drop, length, List, Result}
use Rattle.ql_lex.specs.declared.token.Token.{Token}
use Rattle.ql_lex.specs.declared.token.LexFault.{LexFault}
use Rattle.ql_lex.specs.Tokens.{Lexes, preceded}
use Rattle.ql_lex.proofs.scan.tokens.Given as goal

abbrev pub invariant-loop-at : goal.invariant-loop-at
invariant-loop-at l =
    (l.at ≤ length l.bytes)
    × ((r : Result (List Token) LexFault) → Lexes l.at (drop l.at l.bytes) r → Lexes 0 l.bytes (preceded l.found.items r))

abbrev pub decreases-loop-at : goal.decreases-loop-at
decreases-loop-at l = length l.bytes - l.at
