use Rattle.std.proofs.Common.{arith}
use Rattle.ql_value.proofs.QuotedText.{too_long, not_closed, closed, is_text, within}
use Rattle.ql_value.proofs.reading_scalar.quoted.Goals as goal

pub returns-then-end-first-gt-MAX_TEXT_BYTES : goal.returns-then-end-first-gt-MAX_TEXT_BYTES
returns-then-end-first-gt-MAX_TEXT_BYTES c = (omega arith, too_long c.args.bytes.now c.args.at c.text_end-end.result c.text_end-end.ensures.end c.if-end-first-gt-MAX_TEXT_BYTES.true)

pub returns-then-not-is_at : goal.returns-then-not-is_at
returns-then-not-is_at c = (c.text_end-end.ensures.within, not_closed c.args.bytes.now c.args.at c.text_end-end.result c.text_end-end.ensures.end c.if-end-first-gt-MAX_TEXT_BYTES.false (cc))

pub of-requires : goal.of-requires
of-requires c = rw c.in_ok-text.ensures.items (is_text c.args.bytes.now c.args.at c.text_end-end.result c.text_end-end.ensures.end c.if-end-first-gt-MAX_TEXT_BYTES.false)

pub returns : goal.returns
returns c = (within c.args.bytes.now c.text_end-end.result 34 (cc), rw (c.of.ensures, c.in_ok-text.ensures.items) (closed c.args.bytes.now c.args.at c.text_end-end.result c.text_end-end.ensures.end c.if-end-first-gt-MAX_TEXT_BYTES.false (cc)))
