use Rattle.std.proofs.lemmas.Result.{err_from_is_err_and}
use Rattle.std.proofs.Common.{◌≡◌, Some, [], ◌∷◌, ◌++◌, length, arith, refl, sym, subst, ap, ◌∙◌}
use Rattle.std.specs.List.{slice_get}
use Rattle.ql_cert.proofs.Printing.{titled_more}
use Rattle.ql_cert.specs.CertFile.{IsSection}
use Rattle.ql_cert.specs.declared.cert.Section.{Section}
use Rattle.ql_classify.specs.Targets.{goals_at}
use Rattle.ql_lang.specs.declared.program.Program.{Program}
use Rattle.ql_levels.specs.Lists.{LevelLists}
use Rattle.ql_typing.specs.Operations.{all_ops}
use Rattle.ql_commands.specs.Prove.{IsSectionOf, level_of, name_of}
use Rattle.ql_commands.proofs.Headings.{all_more, all_zipped, length_goals, one_more_zipped, section_spelled}
use Rattle.ql_commands.proofs.certificate.certificate.Goals as goal

pub loop-target-init : goal.loop-target-init
loop-target-init c = record {
  sections = [];
  of_targets = tt;
  spelled = tt;
  printed = c.in_ok-text.ensures;
}

pub loop-target-preserved : goal.loop-target-preserved
loop-target-preserved c =
    let p = c.args.classified.now.program in
    let goals = goals_at c.args.classified.now.levels in
    let g = c.refutation.ensures.refuted.0 in
    let at : slice_get goals c.loop-target.target ≡ Some g = c.refutation.ensures.refuted.1 in
    let here : slice_get (goals_at c.levels-levels.result.now) c.loop-target.target ≡ Some g = subst (λ (l : LevelLists). slice_get (goals_at l) c.loop-target.target ≡ Some g) (sym c.levels-levels.ensures.same) at in
    let s : Section = record { name = c.heading-name.result.0; level = c.heading-name.result.1; refutation = c.refutation.result.now } in
    let name : s.name ≡ name_of p g = c.heading-name.ensures.name g here ∙ ap (λ (q : Program). name_of q g) c.typed-typed.ensures in
    let level : s.level ≡ level_of g = c.heading-name.ensures.level g here in
    let of_target : IsSectionOf p g s = record { name = name; level = level; refuted = c.refutation.ensures.refuted.2 } in
    let before = c.loop-target.invariant in
    record {
      sections = before.sections ++ s ∷ [];
      of_targets = one_more_zipped (IsSectionOf p) goals c.loop-target.target g before.sections _ s at refl before.of_targets of_target;
      spelled = all_more IsSection before.sections s before.spelled (section_spelled s c.heading-name.ensures.is_name c.refutation.ensures.numbered);
      printed = titled_more before.sections s c.loop-target.text.items _ before.printed c.in_ok-text-2.ensures;
    }

pub returns-clause-text : goal.returns-clause-text
returns-clause-text c =
    let p = c.args.classified.now.program in
    let levels = c.args.classified.now.levels in
    let count = length_goals levels in
    let ops : length levels.ops ≡ length (all_ops p.types) = c.levels-levels.ensures.ops in
    let txns : length levels.txns ≡ length p.txns = c.levels-levels.ensures.txns in
    let of_ops = c.ops.ensures.count ∙ ap (λ (q : Program). length (all_ops q.types)) c.typed-typed.ensures in
    let of_txns = c.txns.ensures.count ∙ ap (λ (q : Program). length q.txns) c.typed-typed.ensures in
    let past = c.loop-target-test.false in
    let all = c.loop-target.invariant in
    record {
      sections = all.sections;
      of_targets = all_zipped (IsSectionOf p) (goals_at levels) c.loop-target.target all.sections (omega (arith, count, ops, txns, of_ops, of_txns, past)) all.of_targets;
      printed = c.in_ok-text-3.ensures.cert all.sections all.printed;
      spells = c.in_ok-text-3.ensures.again all.sections all.printed all.spelled;
    }

pub returns-in_err-text-2-clause-levels : goal.returns-in_err-text-2-clause-levels
returns-in_err-text-2-clause-levels c = let p = err_from_is_err_and c.from_residual-in_err-text-2.result c.from_residual-in_err-text-2.ensures.1 in rw p.1 tt

pub returns-in_err-text-2-clause-text : goal.returns-in_err-text-2-clause-text
returns-in_err-text-2-clause-text c = let p = err_from_is_err_and c.from_residual-in_err-text-2.result c.from_residual-in_err-text-2.ensures.1 in rw p.1 tt

pub returns-in_err-text-3-clause-levels : goal.returns-in_err-text-3-clause-levels
returns-in_err-text-3-clause-levels c = let p = err_from_is_err_and c.from_residual-in_err-text-3.result c.from_residual-in_err-text-3.ensures.1 in rw p.1 tt

pub returns-in_err-text-3-clause-text : goal.returns-in_err-text-3-clause-text
returns-in_err-text-3-clause-text c = let p = err_from_is_err_and c.from_residual-in_err-text-3.result c.from_residual-in_err-text-3.ensures.1 in rw p.1 tt

pub returns-in_err-text-clause-levels : goal.returns-in_err-text-clause-levels
returns-in_err-text-clause-levels c = let p = err_from_is_err_and c.from_residual.result c.from_residual.ensures.1 in rw p.1 tt

pub returns-in_err-text-clause-text : goal.returns-in_err-text-clause-text
returns-in_err-text-clause-text c = let p = err_from_is_err_and c.from_residual.result c.from_residual.ensures.1 in rw p.1 tt
