use Rattle.std.proofs.lemmas.Result.{err_from_is_err_and}
use Rattle.std.proofs.Common.{◌≡◌, ◌+◌, ◌++◌, ◌∷◌, [], slice_get, Some, length, take, ap, sym, subst, arith, ◌∙◌, add-one}
use Rattle.std.proofs.lemmas.List.{take_all}
use Rattle.std.proofs.lemmas.Option.{get_or_from_slice_get, slice_get_within}
use Rattle.ql_lines.specs.Texts.{file_text, joined}
use Rattle.ql_exec.specs.Effects.{effect_at}
use Rattle.ql_report.specs.EffectTexts.{HasValues, HaveValues, IsNamed, effect_fields}
use Rattle.ql_report.specs.NumberedLines.{lines_from}
use Rattle.ql_report.proofs.Printing.{all_more, more_lines, no_lines}
use Rattle.ql_report.proofs.effects.push_effects.Goals as goal

pub loop-k-init : goal.loop-k-init
loop-k-init c = record {
  text = no_lines (effect_fields c.args.t.now.program c.args.objects.now) c.args.out.now.items;
  values = λ i d less. absurd (omega (arith, less));
}

pub loop-k-preserved : goal.loop-k-preserved
loop-k-preserved c =
    let line = effect_fields c.args.t.now.program c.args.objects.now in
    let x = c.args.x.now in
    let k = c.loop-k.k in
    let e = c.get.result.now in
    let at : slice_get x k ≡ Some e = sym (ap (λ n. effect_at x n) (add-one k)) ∙ c.get.ensures in
    record {
      text = c.in_ok-push_effect.ensures.text ∙ ap (λ r. r ++ (joined (line (k + 1) e) ++ 10 ∷ [])) c.loop-k.invariant.text ∙ more_lines line x k e c.args.out.now.items at;
      values = all_more HasValues x k e (slice_get_within x k e at) (sym (get_or_from_slice_get x k e e at)) c.loop-k.invariant.values c.in_ok-push_effect.ensures.values;
    }

pub push_effect-requires : goal.push_effect-requires
push_effect-requires c =
    let x = c.args.x.now in
    let k = c.loop-k.k in
    let e = c.get.result.now in
    let at : slice_get x k ≡ Some e = sym (ap (λ n. effect_at x n) (add-one k)) ∙ c.get.ensures in
    subst (IsNamed c.args.t.now.program (length c.args.objects.now)) (get_or_from_slice_get x k e e at) (c.requires.named k e (slice_get_within x k e at))

pub returns-clause-text : goal.returns-clause-text
returns-clause-text c =
    c.loop-k.invariant.text ∙ ap (λ ys. c.args.out.now.items ++ file_text (lines_from (effect_fields c.args.t.now.program c.args.objects.now) 1 ys)) (take_all c.loop-k.k c.args.x.now (omega arith))

pub returns-clause-values : goal.returns-clause-values
returns-clause-values c = subst HaveValues (take_all c.loop-k.k c.args.x.now (omega arith)) c.loop-k.invariant.values

pub returns-in_err-push_effect-clause-text : goal.returns-in_err-push_effect-clause-text
returns-in_err-push_effect-clause-text c = let p = err_from_is_err_and c.from_residual.result c.from_residual.ensures.1 in rw p.1 tt

pub returns-in_err-push_effect-clause-values : goal.returns-in_err-push_effect-clause-values
returns-in_err-push_effect-clause-values c = let p = err_from_is_err_and c.from_residual.result c.from_residual.ensures.1 in rw p.1 tt
