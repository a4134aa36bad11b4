use Rattle.std.proofs.lemmas.Bool.{MatchBool-at_false, MatchBool-at_true}
use Rattle.ql_explanation.proofs.StrongUses.{use_pushed, use_skipped}
use Rattle.ql_explanation.proofs.uses.push_strong_use.Goals as goal

pub returns-then-not-is_strong_use : goal.returns-then-not-is_strong_use
returns-then-not-is_strong_use c =
    use_skipped c.args.t.now.program c.args.d.0 c.args.o c.args.uses.now.items (MatchBool-at_false _ _ c.if-not-is_strong_use.true c.is_strong_use.ensures)

pub returns : goal.returns
returns c =
    use_pushed c.args.t.now.program c.args.d.0 c.args.o c.args.uses.now.items _ (MatchBool-at_true _ _ c.if-not-is_strong_use.false c.is_strong_use.ensures) c.in_ok-push.ensures.items
