use Rattle.std.proofs.Common.{◌<◌, length, sym, nat_eq}
use Rattle.ql_typing.specs.Operations.{all_ops}
use Rattle.ql_effect_lines.proofs.Lawful.{found}
use Rattle.ql_effect_lines.proofs.effects_read.is_mixed.Goals as goal

pub kind-requires : goal.kind-requires
kind-requires c = found (λ e. nat_eq e.object.0 c.args.object.0) (λ e. e.op.0 < length (all_ops c.args.t.now.program.types)) c.args.effects.now c.in-Some.first.now (sym c.in-Some.ensures) c.requires.known
