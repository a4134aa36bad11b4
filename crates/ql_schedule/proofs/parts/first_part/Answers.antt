use Rattle.std.proofs.Common.{◌≡◌, ◌<◌, ◌∷◌, length, take, drop, arith, sym, ap, ◌∙◌}
use Rattle.ql_schedule.specs.Parts.{part_len, parts_of}
use Rattle.ql_schedule.proofs.PartLaws.{first_part_is, no_part}
use Rattle.ql_schedule.proofs.parts.first_part.Goals as goal

pub returns-then-is_empty-clause-first : goal.returns-then-is_empty-clause-first
returns-then-is_empty-clause-first c =
    let none : length c.after_spaces-start.result.now ≡ 0 = grind (arith, c.is_empty.ensures, c.if-is_empty.true) in
    no_part c.args.text.now (sym (ap length c.after_spaces-start.ensures.spaces) ∙ none)

pub returns-clause-first : goal.returns-clause-first
returns-clause-first c =
    let text = c.args.text.now in
    let start = c.after_spaces-start.result.now in
    let some : 0 < length start = grind (arith, c.is_empty.ensures, c.if-is_empty.false) in
    let front = sym (c.split_at.ensures.front ∙ ap (λ n. take n start) c.part_bytes.ensures.all) in
    let back = sym (c.split_at.ensures.back ∙ ap (λ n. drop n start) c.part_bytes.ensures.all) in
    first_part_is text start (sym c.after_spaces-start.ensures.spaces) some ∙ ap (λ f. f ∷ parts_of (drop (part_len start) start)) front ∙ ap (λ r. c.split_at.result.0.now ∷ parts_of r) back
