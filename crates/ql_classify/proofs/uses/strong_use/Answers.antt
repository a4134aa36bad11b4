use Rattle.std.proofs.Common.{◌≡◌, ℕ, Some, sym, subst, ap, ◌∙◌}
use Rattle.ql_classify.specs.Targets.{IsOpLevel}
use Rattle.ql_levels.specs.declared.level.Level.TheVariants.{Strong}
use Rattle.ql_classify.proofs.uses.strong_use.Goals as goal

pub returns-in-Strong-clause-strong : goal.returns-in-Strong-clause-strong
returns-in-Strong-clause-strong c =
    (sym c.in_ok-op.ensures.place, c.requires.each c.in_ok-op.op.0 Strong (c.level_of.ensures ∙ ap Some c.in-Strong.is))

pub returns-in_default : goal.returns-in_default
returns-in_default c = record {
  strong = tt;
  weak = λ (o : ℕ) e.
      let named : Some c.in_ok-op.op.0 ≡ Some o = c.in_ok-op.ensures.place ∙ e in
      let same : c.in_ok-op.op.0 ≡ o = cc in
      (c.level_of.result, subst (λ k. IsOpLevel c.args.t.now.program k c.level_of.result) same (c.requires.each c.in_ok-op.op.0 c.level_of.result c.level_of.ensures), c.in_default.not-Strong);
}
