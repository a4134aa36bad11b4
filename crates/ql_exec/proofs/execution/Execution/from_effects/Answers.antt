use Rattle.std.proofs.Common.{◌≡◌, ◌∷◌, [], ◌++◌, ◌∙◌, refl, ap, sym, length, length-append, arith}
use Rattle.std.proofs.lemmas.List.{nil_from_length}
use Rattle.std.specs.Vec.Iter.{into_iter_items, into_iter_len}
use Rattle.ql_exec.specs.Execution.{made_after, effect_of}
use Rattle.ql_exec.proofs.Making.{made_step, IsMade-refused}
use Rattle.ql_exec.proofs.execution.Execution.from_effects.Goals as goal

pub loop-draft-init : goal.loop-draft-init
loop-draft-init c =
    let items = c.into_iter-draft-iterator.ensures.into_iter_gives.0 in
    let given = c.into_iter-draft-iterator.ensures.into_iter_gives.1 in
    let lens : into_iter_len c.into_iter-draft-iterator.result ≡ length c.args.drafts.items = omega (arith, given, c.args.drafts.ok.0) in
    rw (items, c.new-execution.ensures) (tt, tt, refl, omega arith, lens)

pub push-requires : goal.push-requires
push-requires c =
    let few = c.loop-draft.invariant.3 in
    let items = ap length c.in-Some.ensures.steps.0 in
    let all = c.requires in
    record { room = omega (arith, few, items, all) }

pub loop-draft-preserved : goal.loop-draft-preserved
loop-draft-preserved c =
    let x = c.loop-draft.execution in
    let left = into_iter_items c.next.new.self in
    let items = c.in-Some.ensures.steps.0 in
    let pushed : c.push.new.self ≡ x ++ effect_of x c.in-Some.draft ∷ [] = c.in_default.ensures.pushed in
    let same = c.loop-draft.invariant.2 ∙ ap (made_after x) items ∙ made_step x c.in-Some.draft left c.in_default.ensures.answer.0 in
    let few = c.loop-draft.invariant.3 in
    let count = ap length items in
    let one = c.in-Some.ensures.steps.1 in
    let was = c.loop-draft.invariant.4 in
    rw pushed (tt, tt, same, omega (arith, few, count, length-append x (effect_of x c.in-Some.draft ∷ [])), omega (arith, count, one, was))

pub returns-in-Err : goal.returns-in-Err
returns-in-Err c =
    IsMade-refused c.args.drafts.items (into_iter_items c.next.new.self) c.loop-draft.execution c.in-Some.draft c.in-Err.fault
    (c.loop-draft.invariant.2 ∙ ap (made_after c.loop-draft.execution) c.in-Some.ensures.steps.0) c.in-Err.ensures.answer

pub returns : goal.returns
returns c =
    let none = nil_from_length (into_iter_items c.loop-draft.draft-iterator) (sym c.loop-draft.invariant.4 ∙ c.in-None.ensures.steps.0) in
    c.loop-draft.invariant.2 ∙ ap (made_after c.loop-draft.execution) none
