use Rattle.std.proofs.Common.{◌≡◌, ◌∙◌, ◌∷◌, ◌++◌, ◌<◌, ◌^◌, sym, ap, subst, arith, take, drop}
use Rattle.std.specs.List.{AllPass}
use Rattle.std.specs.Str.Parse.{digits_value}
use Rattle.std.proofs.lemmas.List.{take-append-drop}
use Rattle.ql_base.specs.Bytes.{is_digit}
use Rattle.ql_holds_files.proofs.ShortIds.{short_field}
use Rattle.ql_holds_files.proofs.ids.short_id.Goals as goal

pub returns-then-ends_field : goal.returns-then-ends_field
returns-then-ends_field c =
    let start = c.in_ok-first.start.now in
    let digits = c.split_at.result.0.now in
    let after = c.split_at.result.1.now in
    let id = c.leading_digits-id.result.0 in
    let count = c.leading_digits-id.result.1 in
    let space : c.in_ok-first.first.now ≡ 32 = grind (arith, c.if-first-ne32.false) in
    let text_is : c.args.text.now ≡ 32 ∷ start = c.in_ok-first.ensures.cases.0 ∙ ap (λ b. b ∷ start) space in
    let front : digits ≡ take count start = c.split_at.ensures.front in
    let back : after ≡ drop count start = c.split_at.ensures.back in
    let start_is : start ≡ digits ++ after = sym (ap (λ l. l ++ after) front ∙ ap (λ l. take count start ++ l) back ∙ take-append-drop count start) in
    let all : AllPass is_digit digits = subst (AllPass is_digit) (sym front) c.leading_digits-id.ensures.digits in
    let value : id ≡ digits_value 10 digits = c.leading_digits-id.ensures.value ∙ ap (digits_value 10) (sym front) in
    let first = sym c.begins_above_zero.ensures ∙ c.if-begins_above_zero.true in
    let ends = sym c.ends_field.ensures ∙ c.if-ends_field.true in
    let small : id < 2 ^ 32 = omega arith in
    (small, short_field c.args.text.now start digits after id text_is start_is all value small first ends)
