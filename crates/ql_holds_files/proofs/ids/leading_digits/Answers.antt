use Rattle.std.proofs.Common.{◌≡◌, ◌∙◌, true, get_or, sym, arith}
use Rattle.std.proofs.lemmas.Int.Digits.{digits_value_more}
use Rattle.std.proofs.lemmas.List.Elements.{All-more}
use Rattle.ql_base.specs.Bytes.{is_digit}
use Rattle.ql_base.proofs.Numerals.{digit_range}
use Rattle.ql_holds_files.proofs.ShortIds.{digit_value_of}
use Rattle.ql_holds_files.proofs.ids.leading_digits.Goals as goal

pub overflow_sub-text : goal.overflow_sub-text
overflow_sub-text c = (digit_range _ (sym c.is_digit.ensures ∙ c.if-is_digit.true)).0

pub loop-count-preserved : goal.loop-count-preserved
loop-count-preserved c =
    let text = c.args.text.now in
    let count = c.loop-count.count in
    let inside = c.loop-count-test.true in
    let digit : is_digit (get_or text count 0) ≡ true = sym c.is_digit.ensures ∙ c.if-is_digit.true in
    let range = digit_range (get_or text count 0) digit in
    let low = range.0 in
    let high = range.1 in
    let small = c.if-value-lt100000000.true in
    let added = c.from.ensures in
    let more = digits_value_more 10 text count inside in
    let of_digit = digit_value_of (get_or text count 0) digit in
    let h = c.loop-count.invariant in
    let value = h.3 in (
      omega (arith, inside),
      omega (arith, small, low, high, added),
      All-more (λ b. is_digit b ≡ true) text count 0 inside h.2 digit,
      omega (arith, more, of_digit, value, added, low),
    )
