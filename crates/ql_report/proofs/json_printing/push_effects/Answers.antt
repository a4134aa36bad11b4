use Rattle.std.proofs.lemmas.Result.{err_from_is_err_and}
use Rattle.std.proofs.Common.{◌≡◌, ◌+◌, ◌∷◌, [], ◌++◌, List, ℕ, slice_get, nat_lt, false, Some, refl, ap, sym, ◌∙◌, add-one, append_assoc, arith}
use Rattle.std.specs.Prelude.{length}
use Rattle.std.proofs.lemmas.List.Elements.{recursion_from_All}
use Rattle.ql_exec.specs.Effects.{effect_at}
use Rattle.ql_report.specs.EffectTexts.{IsNamed}
use Rattle.serde_json.specs.Data.{Items}
use Rattle.serde_json.specs.Written.{items_text}
use Rattle.ql_report.proofs.Lists.{effect_there}
use Rattle.ql_report.proofs.Texts.{effects_left, later_one, list_reads_back, more_reads_back, more_text, no_items_read_back, none_left}
use Rattle.ql_report.proofs.json_printing.push_effects.Goals as goal

pub loop-k-init : goal.loop-k-init
loop-k-init c = (refl, λ all. all)

pub push_effect-requires : goal.push_effect-requires
push_effect-requires c =
    let x = c.args.x.now in
    let e = c.get.result.now in
    let at : slice_get x c.loop-k.k ≡ Some e = sym (ap (λ n. effect_at x n) (add-one c.loop-k.k)) ∙ c.get.ensures in
    effect_there (IsNamed c.args.t.now.program (length c.args.objects.now)) x c.loop-k.k e (recursion_from_All (IsNamed c.args.t.now.program (length c.args.objects.now)) x c.requires) at

pub loop-k-preserved : goal.loop-k-preserved
loop-k-preserved c =
    let p = c.args.t.now.program in
    let objects = c.args.objects.now in
    let x = c.args.x.now in
    let k = c.loop-k.k in
    let e = c.get.result.now in
    let at : slice_get x k ≡ Some e = sym (ap (λ n. effect_at x n) (add-one k)) ∙ c.get.ensures in
    let next = c.push_effect.new.out.items in (
      c.loop-k.invariant.0 ∙ more_text p objects c.loop-k.out.items next x k e (nat_lt 1 (k + 1)) at c.in_ok-push_effect.ensures.text
          ∙ ap (λ b. next ++ items_text b (effects_left p objects x (k + 1))) (sym (later_one k)),
      λ all. c.loop-k.invariant.1 (more_reads_back p objects x k e at c.in_ok-push_effect.ensures.again all),
    )

pub returns-clause-text : goal.returns-clause-text
returns-clause-text c =
    let p = c.args.t.now.program in
    let objects = c.args.objects.now in
    let x = c.args.x.now in
    let k = c.loop-k.k in
    let none = none_left p objects x k (omega arith) in
    sym (c.loop-k.invariant.0 ∙ ap (λ (ds : Items). c.loop-k.out.items ++ items_text (nat_lt 1 (k + 1)) ds) none ∙ sym c.in_ok-push-2.ensures.items)
    ∙ ap (λ (t : List ℕ). t ++ items_text false (effects_left p objects x 0)) c.in_ok-push.ensures.items ∙ append_assoc c.args.out.now.items (91 ∷ []) (items_text false (effects_left p objects x 0))

pub returns-clause-again : goal.returns-clause-again
returns-clause-again c =
    let p = c.args.t.now.program in
    let objects = c.args.objects.now in
    let x = c.args.x.now in
    let none = none_left p objects x c.loop-k.k (omega arith) in
    list_reads_back (effects_left p objects x 0) (c.loop-k.invariant.1 (no_items_read_back (effects_left p objects x c.loop-k.k) none))

pub returns-in_err-push-2-clause-again : goal.returns-in_err-push-2-clause-again
returns-in_err-push-2-clause-again c = let p = err_from_is_err_and c.from_residual-in_err-push-2.result c.from_residual-in_err-push-2.ensures.1 in rw p.1 tt

pub returns-in_err-push-2-clause-text : goal.returns-in_err-push-2-clause-text
returns-in_err-push-2-clause-text c = let p = err_from_is_err_and c.from_residual-in_err-push-2.result c.from_residual-in_err-push-2.ensures.1 in rw p.1 tt

pub returns-in_err-push-clause-again : goal.returns-in_err-push-clause-again
returns-in_err-push-clause-again c = let p = err_from_is_err_and c.from_residual.result c.from_residual.ensures.1 in rw p.1 tt

pub returns-in_err-push-clause-text : goal.returns-in_err-push-clause-text
returns-in_err-push-clause-text c = let p = err_from_is_err_and c.from_residual.result c.from_residual.ensures.1 in rw p.1 tt

pub returns-in_err-push_effect-clause-again : goal.returns-in_err-push_effect-clause-again
returns-in_err-push_effect-clause-again c = let p = err_from_is_err_and c.from_residual-in_err-push_effect.result c.from_residual-in_err-push_effect.ensures.1 in rw p.1 tt

pub returns-in_err-push_effect-clause-text : goal.returns-in_err-push_effect-clause-text
returns-in_err-push_effect-clause-text c = let p = err_from_is_err_and c.from_residual-in_err-push_effect.result c.from_residual-in_err-push_effect.ensures.1 in rw p.1 tt
