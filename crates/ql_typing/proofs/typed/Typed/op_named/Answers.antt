use Rattle.std.proofs.Common.{◌∙◌, ap, option_map}
use Rattle.ql_base.specs.declared.ids.OpId.{OpId}
use Rattle.ql_typing.proofs.Positions.{op_place_of}
use Rattle.ql_typing.proofs.typed.Typed.op_named.Goals as goal

pub returns-in_err-number-clause-place : goal.returns-in_err-number-clause-place
returns-in_err-number-clause-place c =
    ap (λ r. option_map (λ (o : OpId). o.0) r) c.from_residual.ensures ∙ c.in_err-number.ensures.numbered
    ∙ op_place_of c.args.self.now.ops c.args.self.now.program.types c.args.w.now c.args.self.now.named

pub returns-clause-place : goal.returns-clause-place
returns-clause-place c = c.in_ok-number.ensures.numbered ∙ op_place_of c.args.self.now.ops c.args.self.now.program.types c.args.w.now c.args.self.now.named
