use Rattle.std.proofs.Common.{◌∙◌, get_or}
use Rattle.ql_value.proofs.QuotedText.{letter, other_letter, no_letter, within}
use Rattle.ql_value.proofs.reading_scalar.word_end.Goals as goal

pub returns-then-not-is_at : goal.returns-then-not-is_at
returns-then-not-is_at c = (c.loop-letter.invariant.0, c.loop-letter.invariant.1 ∙ other_letter c.args.word.now c.args.bytes.now c.loop-letter.letter-index c.loop-letter.place c.loop-letter-test.true (cc))

pub loop-letter-preserved : goal.loop-letter-preserved
loop-letter-preserved c = (within c.args.bytes.now c.loop-letter.place (get_or c.args.word.now c.loop-letter.letter-index 0) (cc), c.loop-letter.invariant.1 ∙ letter c.args.word.now c.args.bytes.now c.loop-letter.letter-index c.loop-letter.place c.loop-letter-test.true (cc))

pub returns : goal.returns
returns c = (c.loop-letter.invariant.0, c.loop-letter.invariant.1 ∙ no_letter c.args.word.now c.args.bytes.now c.loop-letter.letter-index c.loop-letter.place c.loop-letter-test.false)
