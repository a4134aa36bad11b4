use Rattle.std.proofs.Common.{◌≡◌, ◌<◌, length, take, drop, arith, sym, subst, ap, ◌∙◌}
use Rattle.std.specs.List.{before_first}
use Rattle.ql_lines.specs.Fields.{FirstField, is_space}
use Rattle.ql_lines.proofs.FieldLaws.{first_field_is, no_field}
use Rattle.ql_lines.proofs.fields.first_field.Goals as goal

pub returns-then-is_empty : goal.returns-then-is_empty
returns-then-is_empty c =
    let none : length c.after_spaces-start.result.now ≡ 0 = grind (arith, c.is_empty.ensures, c.if-is_empty.true) in
    no_field c.args.text.now (sym (ap length c.after_spaces-start.ensures.spaces) ∙ none)

pub returns : goal.returns
returns c =
    let text = c.args.text.now in
    let start = c.after_spaces-start.result.now in
    let some : 0 < length start = grind (arith, c.is_empty.ensures, c.if-is_empty.false) in
    let front = sym (c.split_at.ensures.front ∙ ap (λ n. take n start) c.field_bytes.ensures.longest) in
    let back = sym (c.split_at.ensures.back ∙ ap (λ n. drop n start) c.field_bytes.ensures.longest) in
    subst (λ f. FirstField text f c.split_at.result.1.now) front (subst (λ r. FirstField text (before_first is_space start) r) back (first_field_is text start (sym c.after_spaces-start.ensures.spaces) some))
