use Rattle.std.proofs.Common.{◌∙◌, sym, ap, drop, length-drop, Err}
use Rattle.std.specs.Prelude.{codes}
use Rattle.std.proofs.Common.{true, false}
use Rattle.ql_value.specs.declared.scalar.Scalar.TheVariants.{Bool as Truth}
use Rattle.ql_value.specs.Reading.{scalar_at, word_at, quoted_at, negative_at, plain_at}
use Rattle.ql_value.proofs.ReadSteps.{moved, reads_true, reads_false, reads_quoted, reads_negative, reads_plain, reads_none}
use Rattle.ql_value.proofs.reading_scalar.scalar.Goals as goal

pub returns-then-is_at : goal.returns-then-is_at
returns-then-is_at c = moved scalar_at (word_at (Truth true) (codes "true")) c.args.bytes.now c.args.at c.args.at c.word.result (reads_true (drop c.args.at c.args.bytes.now) (sym c.is_at.ensures ∙ c.if-is_at.true)) c.word.ensures

pub returns-then-is_at-2 : goal.returns-then-is_at-2
returns-then-is_at-2 c = moved scalar_at (word_at (Truth false) (codes "false")) c.args.bytes.now c.args.at c.args.at c.word-then-is_at-2.result (reads_false (drop c.args.at c.args.bytes.now) (sym c.is_at.ensures ∙ c.if-is_at.false) (sym c.is_at-else-is_at.ensures ∙ c.if-is_at-2.true)) c.word-then-is_at-2.ensures

pub returns-then-is_at-3 : goal.returns-then-is_at-3
returns-then-is_at-3 c = moved scalar_at (λ t. quoted_at t (drop 1 t)) c.args.bytes.now c.args.at c.args.at c.quoted.result (reads_quoted (drop c.args.at c.args.bytes.now) (sym c.is_at.ensures ∙ c.if-is_at.false) (sym c.is_at-else-is_at.ensures ∙ c.if-is_at-2.false) (sym c.is_at-else-is_at-2.ensures ∙ c.if-is_at-3.true)) c.quoted.ensures

pub returns-then-is_at-4 : goal.returns-then-is_at-4
returns-then-is_at-4 c = moved scalar_at (λ t. negative_at t (drop 1 t)) c.args.bytes.now c.args.at c.args.at c.negative.result (reads_negative (drop c.args.at c.args.bytes.now) (sym c.is_at.ensures ∙ c.if-is_at.false) (sym c.is_at-else-is_at.ensures ∙ c.if-is_at-2.false) (sym c.is_at-else-is_at-2.ensures ∙ c.if-is_at-3.false) (sym c.is_at-else-is_at-3.ensures ∙ c.if-is_at-4.true)) c.negative.ensures

pub returns-then-is_digit_at : goal.returns-then-is_digit_at
returns-then-is_digit_at c = moved scalar_at plain_at c.args.bytes.now c.args.at c.args.at c.plain.result (reads_plain (drop c.args.at c.args.bytes.now) (sym c.is_at.ensures ∙ c.if-is_at.false) (sym c.is_at-else-is_at.ensures ∙ c.if-is_at-2.false) (sym c.is_at-else-is_at-2.ensures ∙ c.if-is_at-3.false) (sym c.is_at-else-is_at-3.ensures ∙ c.if-is_at-4.false) (sym c.is_digit_at.ensures ∙ c.if-is_digit_at.true)) c.plain.ensures

pub returns-else-is_digit_at : goal.returns-else-is_digit_at
returns-else-is_digit_at c = (c.requires, reads_none (drop c.args.at c.args.bytes.now) (sym c.is_at.ensures ∙ c.if-is_at.false) (sym c.is_at-else-is_at.ensures ∙ c.if-is_at-2.false) (sym c.is_at-else-is_at-2.ensures ∙ c.if-is_at-3.false) (sym c.is_at-else-is_at-3.ensures ∙ c.if-is_at-4.false) (sym c.is_digit_at.ensures ∙ c.if-is_digit_at.false) ∙ ap Err (length-drop c.args.at c.args.bytes.now))
