use Rattle.std.proofs.Common.{inr}
use Rattle.std.proofs.lemmas.Bool.{MatchBool-at_false, MatchBool-at_true}
use Rattle.ql_explanation.proofs.Judged.{accepted, refused_level}
use Rattle.ql_explanation.proofs.answer.answer_of.Goals as goal

pub returns-then-not-all_have_levels : goal.returns-then-not-all_have_levels
returns-then-not-all_have_levels c =
    refused_level c.args.t.now.program c.args.findings.now c.requires (MatchBool-at_false _ _ c.if-not-all_have_levels.true c.all_have_levels.ensures)

pub returns-then-has_strong_use : goal.returns-then-has_strong_use
returns-then-has_strong_use c = inr (MatchBool-at_true _ _ c.if-has_strong_use.true c.has_strong_use.ensures)

pub returns : goal.returns
returns c =
    accepted c.args.t.now.program c.args.findings.now c.requires (MatchBool-at_true _ _ c.if-not-all_have_levels.false c.all_have_levels.ensures)
    (MatchBool-at_false _ _ c.if-has_strong_use.false c.has_strong_use.ensures)
