use Rattle.std.proofs.Common.{◌++◌, ◌∷◌, [], ap, sym, subst, ◌∙◌, append_assoc}
use Rattle.ql_lines.specs.Fields.{Fields}
use Rattle.ql_schedule.specs.EventLines.{AreNumbers}
use Rattle.ql_schedule.specs.Parts.{parts_of}
use Rattle.ql_schedule.proofs.Loops.{number_there, numbers_more}
use Rattle.ql_schedule.proofs.event_parts.numbers.Goals as goal

pub returns-in_default-number : goal.returns-in_default-number
returns-in_default-number c = λ ns all.
    let h = c.loop-part.invariant in
    let are = h.1 ∙ ap (λ (ps : Fields). h.0 ++ ps) c.in-Some.ensures.first in
    let there = number_there h.0 c.in-Some.part.now (parts_of c.in-Some.remaining.now) ns (subst (λ ps. AreNumbers ps ns) are all) in
    c.in_default-number.ensures there.0 there.1

pub loop-part-preserved : goal.loop-part-preserved
loop-part-preserved c =
    let h = c.loop-part.invariant in
    let part = c.in-Some.part.now in
    let are = h.1 ∙ ap (λ (ps : Fields). h.0 ++ ps) c.in-Some.ensures.first in (
      h.0 ++ part ∷ [],
      are ∙ sym (append_assoc h.0 (part ∷ []) (parts_of c.in-Some.remaining.now)),
      subst (AreNumbers (h.0 ++ part ∷ [])) (sym c.in_ok-push.ensures.items) (numbers_more h.0 c.loop-part.numbers.items part c.in-Some-number.number h.2 c.in-Some-number.ensures),
    )
