use Rattle.std.proofs.Common.{arith, ap, sym, ◌++◌, ◌∙◌}
use Rattle.std.proofs.lemmas.Option.{get_or_from_slice_get}
use Rattle.ql_atoms.specs.Atoms.{size_of}
use Rattle.ql_base.specs.Ids.{op}
use Rattle.ql_cnf.specs.Circuits.{clauses_of}
use Rattle.ql_levels.specs.declared.level.Level.{Level}
use Rattle.ql_levels.specs.declared.level.Level.TheVariants.{Strong}
use Rattle.ql_ground.proofs.Growth.{upto_more, upto_done}
use Rattle.ql_relative.specs.Keeping.{op_level}
use Rattle.ql_relative.specs.Relative.{kept_at}
use Rattle.ql_relative.proofs.kept.add_kept_of.Goals as goal

pub loop-o-preserved : goal.loop-o-preserved
loop-o-preserved c = record {
  clauses = upto_more (λ o. kept_at (size_of c.args.s) c.args.effect (op o) (op_level c.args.levels.now o)) c.args.c.now.clauses c.loop-o.c.clauses c.add_kept_at.new.c.clauses c.loop-o.o c.loop-o.invariant.clauses
      (c.in_ok-add_kept_at.ensures.clauses
      ∙ ap (λ (level : Level). c.loop-o.c.clauses ++ clauses_of (kept_at (size_of c.args.s) c.args.effect (op c.loop-o.o) level)) (sym (get_or_from_slice_get c.args.levels.now.ops c.loop-o.o c.op.result Strong c.op.ensures)));
  variables = c.in_ok-add_kept_at.ensures.variables ∙ c.loop-o.invariant.variables;
}

pub returns-clause-clauses : goal.returns-clause-clauses
returns-clause-clauses c = upto_done (λ o. kept_at (size_of c.args.s) c.args.effect (op o) (op_level c.args.levels.now o)) c.args.c.now.clauses c.loop-o.c.clauses c.loop-o.o c.args.s.operations (omega arith) c.loop-o.invariant.clauses
