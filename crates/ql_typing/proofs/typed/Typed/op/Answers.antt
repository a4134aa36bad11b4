use Rattle.std.proofs.Common.{ap, sym, ◌∙◌}
use Rattle.std.specs.Option.{option_copied}
use Rattle.std.specs.List.{slice_get}
use Rattle.ql_typing.specs.Operations.{all_ops}
use Rattle.ql_typing.proofs.Flat.{copied_there, is_there}
use Rattle.ql_typing.proofs.typed.Typed.op.Goals as goal

pub unwrap-requires : goal.unwrap-requires
unwrap-requires c =
    copied_there c.find_op.result
    (rw (c.find_op.ensures, c.items.ensures) (is_there (all_ops c.args.self.now.program.types) c.args.o.0 c.requires))

pub returns : goal.returns
returns c =
    ap (λ types. slice_get (all_ops types) c.args.o.0) (sym c.items.ensures) ∙ sym c.find_op.ensures ∙ ap option_copied c.unwrap.ensures
