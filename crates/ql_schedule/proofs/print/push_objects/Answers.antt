use Rattle.std.proofs.Common.{◌<◌, ◌++◌, ◌∷◌, [], length, take, get_or, arith, ap, subst, sym, ◌∙◌}
use Rattle.std.proofs.lemmas.Option.{get_or_from_slice_get}
use Rattle.ql_base.specs.declared.ids.TypeId.{TypeId}
use Rattle.ql_lines.specs.Texts.{file_text, joined}
use Rattle.ql_schedule.specs.Texts.{object_fields, object_lines}
use Rattle.ql_schedule.proofs.Printing.{all_objects, no_objects, object_more}
use Rattle.ql_schedule.proofs.print.push_objects.Goals as goal

pub loop-k-init : goal.loop-k-init
loop-k-init c = no_objects c.args.t.now.program c.args.out.now.items

pub loop-k-preserved : goal.loop-k-preserved
loop-k-preserved c =
    let p = c.args.t.now.program in
    let names = c.args.s.now.objects in
    let kinds = c.args.s.now.kinds in
    let k = c.loop-k.k in
    let kind = c.kind_at.result in
    let out = c.args.out.now.items in
    let before = out ++ file_text (object_lines p (take k names) (take k kinds)) in
    let name_is = get_or_from_slice_get names k c.name.result.now [] c.name.ensures in
    let kind_is = get_or_from_slice_get kinds k kind kind c.kind_at.ensures in
    let lt : k < length names = omega (arith, c.loop-k-test.true, c.len-k-end.ensures.count) in
    c.in_ok-push_object.ensures ∙ ap (λ r. r ++ (joined (object_fields p c.name.result.now kind) ++ 10 ∷ [])) c.loop-k.invariant
    ∙ ap (λ n. before ++ (joined (object_fields p n kind) ++ 10 ∷ [])) (sym name_is)
    ∙ ap (λ t. before ++ (joined (object_fields p (get_or names k []) t) ++ 10 ∷ [])) (sym kind_is)
    ∙ object_more p names kinds k [] kind out lt c.requires.typed

pub push_object-requires : goal.push_object-requires
push_object-requires c =
    let p = c.args.t.now.program in
    let kinds = c.args.s.now.kinds in
    let k = c.loop-k.k in
    let kind = c.kind_at.result in
    let lt : k < length kinds = omega (arith, c.loop-k-test.true, c.len-k-end.ensures.count, c.requires.typed) in
    subst (λ (t : TypeId). t.0 < length p.types) (get_or_from_slice_get kinds k kind kind c.kind_at.ensures) (c.requires.types k kind lt)

pub returns : goal.returns
returns c =
    all_objects c.args.t.now.program c.args.s.now.objects c.args.s.now.kinds c.loop-k.k c.args.out.now.items c.loop-k.out.items
    (omega (arith, c.loop-k-test.false, c.len-k-end.ensures.count)) c.requires.typed c.loop-k.invariant
