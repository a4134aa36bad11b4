use Rattle.std.proofs.Common.{◌∷◌, [], length, length-append, ap, arith, ◌∙◌}
use Rattle.ql_gen.specs.Objects.{drawn_object_name, drawn_object_names}
use Rattle.ql_gen.proofs.ObjectLaws.{first_put, length_names, second_put}
use Rattle.ql_gen.proofs.objects.name_two.Goals as goal

pub number-requires-clause-room : goal.number-requires-clause-room
number-requires-clause-room c =
    let long = ap length c.requires.before in
    omega (arith, long, length_names c.args.i, c.requires.few)

pub number-requires-2-clause-room : goal.number-requires-2-clause-room
number-requires-2-clause-room c =
    let first = first_put c.args.i c.requires.few c.args.names.now c.number.new.self c.deref.result.now c.in_ok-number.ensures.names c.requires.before (c.deref.ensures.value ∙ c.in_ok-object_name.ensures.name) in
    omega (arith, ap length first, length_names c.args.i, length-append (drawn_object_names c.args.i) (drawn_object_name c.args.i 0 ∷ []), c.requires.few)

pub returns : goal.returns
returns c =
    let first = first_put c.args.i c.requires.few c.args.names.now c.number.new.self c.deref.result.now c.in_ok-number.ensures.names c.requires.before (c.deref.ensures.value ∙ c.in_ok-object_name.ensures.name) in
    second_put c.args.i c.requires.few c.number.new.self c.number-2.new.self c.deref-2.result.now c.in_ok-number-2.ensures.names first (c.deref-2.ensures.value ∙ c.in_ok-object_name-2.ensures.name)
