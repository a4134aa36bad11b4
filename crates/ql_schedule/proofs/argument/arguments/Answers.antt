use Rattle.std.proofs.Common.{◌++◌, ◌∷◌, [], ap, sym, subst, ◌∙◌, append_assoc}
use Rattle.ql_lines.specs.Fields.{Fields}
use Rattle.ql_schedule.specs.declared.argument.Argument.{Argument}
use Rattle.ql_schedule.specs.Arguments.{AreArguments, IsArgument}
use Rattle.ql_schedule.specs.Parts.{parts_of}
use Rattle.ql_schedule.proofs.Loops.{argument_there, arguments_more, none_read, some_read}
use Rattle.ql_schedule.proofs.argument.arguments.Goals as goal

pub returns-in_default-2 : goal.returns-in_default-2
returns-in_default-2 c = λ args all.
    let h = c.loop-part.invariant in
    let part = c.in-Some.part.now in
    let are = h.1 ∙ ap (λ (ps : Fields). h.0 ++ ps) c.in-Some.ensures.first in
    let there = argument_there h.0 part (parts_of c.in-Some.remaining.now) args (subst (λ ps. AreArguments ps args) are all) in
    none_read c.in_ok-argument.field-0 ((a : Argument) → IsArgument part a → ⊥) (λ a. IsArgument part a) c.in_default-2.is c.in_ok-argument.ensures there.0 there.1

pub loop-part-preserved : goal.loop-part-preserved
loop-part-preserved c =
    let h = c.loop-part.invariant in
    let part = c.in-Some.part.now in
    let are = h.1 ∙ ap (λ (ps : Fields). h.0 ++ ps) c.in-Some.ensures.first in
    let is = some_read c.in_ok-argument.field-0 ((a : Argument) → IsArgument part a → ⊥) (λ a. IsArgument part a) c.in-Some-2.argument c.in-Some-2.is c.in_ok-argument.ensures in (
      h.0 ++ part ∷ [],
      are ∙ sym (append_assoc h.0 (part ∷ []) (parts_of c.in-Some.remaining.now)),
      subst (AreArguments (h.0 ++ part ∷ [])) (sym c.in_ok-push.ensures.items) (arguments_more h.0 c.loop-part.arguments.items part c.in-Some-2.argument h.2 is),
    )
