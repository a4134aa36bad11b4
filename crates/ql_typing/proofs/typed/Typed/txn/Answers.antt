use Rattle.std.proofs.Common.{arith, ap, refl, ◌∙◌, get_or, length}
use Rattle.std.proofs.lemmas.Option.{slice_get_read}
use Rattle.ql_typing.proofs.typed.Typed.txn.Goals as goal

pub bounds-items-d : goal.bounds-items-d
bounds-items-d c = omega (arith, c.requires, ap length c.items.ensures)

pub returns : goal.returns
returns c =
    slice_get_read c.args.self.now.program.txns (length c.args.self.now.program.txns) c.args.d.0 _ refl c.requires
    (c.index-items-d.is ∙ ap (λ xs. get_or xs c.args.d.0 c.index-items-d.result) c.items.ensures)
