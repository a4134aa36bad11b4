use Rattle.std.proofs.Common.{arith, ◌∙◌}
use Rattle.ql_atoms.specs.Atoms.{size_of}
use Rattle.ql_ground.proofs.Growth.{upto_more, upto_done}
use Rattle.ql_relative.specs.Relative.{kept_of}
use Rattle.ql_relative.proofs.kept.add_operations.Goals as goal

pub loop-effect-preserved : goal.loop-effect-preserved
loop-effect-preserved c = record {
  clauses = upto_more (kept_of c.args.levels.now (size_of c.args.s)) c.args.c.now.clauses c.loop-effect.c.clauses c.add_kept_of.new.c.clauses c.loop-effect.effect c.loop-effect.invariant.clauses c.in_ok-add_kept_of.ensures.clauses;
  variables = c.in_ok-add_kept_of.ensures.variables ∙ c.loop-effect.invariant.variables;
}

pub returns-clause-clauses : goal.returns-clause-clauses
returns-clause-clauses c = upto_done (kept_of c.args.levels.now (size_of c.args.s)) c.args.c.now.clauses c.loop-effect.c.clauses c.loop-effect.effect c.args.s.constants (omega arith) c.loop-effect.invariant.clauses
