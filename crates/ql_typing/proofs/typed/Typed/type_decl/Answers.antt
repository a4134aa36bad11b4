use Rattle.std.proofs.Common.{arith, ap, refl, ◌∙◌, get_or, length}
use Rattle.std.proofs.lemmas.Option.{slice_get_read}
use Rattle.ql_typing.proofs.typed.Typed.type_decl.Goals as goal

pub bounds-items-t : goal.bounds-items-t
bounds-items-t c = omega (arith, c.requires, ap length c.items.ensures)

pub returns : goal.returns
returns c =
    slice_get_read c.args.self.now.program.types (length c.args.self.now.program.types) c.args.t.0 _ refl c.requires
    (c.index-items-t.is ∙ ap (λ xs. get_or xs c.args.t.0 c.index-items-t.result) c.items.ensures)
