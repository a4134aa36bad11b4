use Rattle.std.proofs.Common.{arith, ◌∙◌}
use Rattle.ql_atoms.specs.Atoms.{size_of}
use Rattle.ql_typing.specs.Operations.{uses_op}
use Rattle.ql_ground.proofs.Growth.{upto_more, upto_done}
use Rattle.ql_relative.specs.Relative.{used_at}
use Rattle.ql_relative.proofs.used.add_used.Goals as goal

pub loop-effect-preserved : goal.loop-effect-preserved
loop-effect-preserved c = record {
  clauses = upto_more (used_at (uses_op c.args.t.now.program c.args.d.0) (size_of c.args.s)) c.args.c.now.clauses c.loop-effect.c.clauses c.add_used_at.new.c.clauses c.loop-effect.effect c.loop-effect.invariant.clauses c.in_ok-add_used_at.ensures.clauses;
  variables = c.in_ok-add_used_at.ensures.variables ∙ c.loop-effect.invariant.variables;
}

pub returns-clause-clauses : goal.returns-clause-clauses
returns-clause-clauses c = upto_done (used_at (uses_op c.args.t.now.program c.args.d.0) (size_of c.args.s)) c.args.c.now.clauses c.loop-effect.c.clauses c.loop-effect.effect c.args.s.constants (omega arith) c.loop-effect.invariant.clauses
