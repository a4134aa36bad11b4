use Rattle.std.proofs.lemmas.Result.{err_from_is_err_and}
use Rattle.std.proofs.Common.{◌≡◌, ◌<◌, ◌+◌, ℕ, List, [], ◌∷◌, ◌++◌, Option, length, get_or, map, take, ap, sym, ◌∙◌}
use Rattle.std.specs.List.{cons_option, filter_map}
use Rattle.std.specs.Option.{option_copied}
use Rattle.std.proofs.lemmas.List.{append-nil, map_push, take_all, take_more}
use Rattle.std.proofs.lemmas.List.Elements.{filter_map-append}
use Rattle.ql_exec.specs.declared.effect.Effect.{Effect}
use Rattle.ql_eval.specs.Folds.{emitting_at}
use Rattle.ql_eval.proofs.order.emitting.Goals as goal
use Rattle.ql_eval.proofs.order.emitting.Goals.{in-Some+in_ok-push, in_default}

one_more : (g : ℕ → Option Effect) (ids : List ℕ) (k d : ℕ) (o : Option Effect) → k < length ids → o ≡ g (get_or ids k d)
    → filter_map g (take (k + 1) ids) ≡ filter_map g (take k ids) ++ cons_option o []
one_more g ids k d o lt is =
    ap (filter_map g) (take_more ids k d lt) ∙ filter_map-append g (take k ids) (get_or ids k d ∷ [])
    ∙ ap (λ p. filter_map g (take k ids) ++ cons_option p []) (sym is)

pub loop-id-preserved : goal.loop-id-preserved
loop-id-preserved c =
    let next = one_more (emitting_at c.args.effects.now) c.args.ids.now c.loop-id.id-index _ (option_copied c.find_emitting.result) c.loop-id-test.true c.find_emitting.ensures in
    elim c.match-find_emitting.branch [
      | in-Some+in_ok-push w ↦
          ap (λ v. map (λ e. e.now) v.items) w.found-is ∙ ap (map (λ e. e.now)) w.in_ok-push.ensures.items ∙ map_push (λ e. e.now) c.loop-id.found.items w.in-Some.effect
          ∙ ap (λ es. es ++ w.in-Some.effect.now ∷ []) c.loop-id.invariant ∙ sym (rw w.in-Some.is at next)
      | in_default w ↦ ap (λ v. map (λ e. e.now) v.items) w.found-is ∙ c.loop-id.invariant ∙ sym (append-nil _) ∙ sym (rw w.in_default.is at next)
    ]

pub returns : goal.returns
returns c = c.loop-id.invariant ∙ ap (filter_map (emitting_at c.args.effects.now)) (take_all c.loop-id.id-index c.args.ids.now c.loop-id-test.false)

pub returns-in_err-found : goal.returns-in_err-found
returns-in_err-found c = let p = err_from_is_err_and c.from_residual.result c.from_residual.ensures.1 in rw p.1 tt

pub returns-in_err-push : goal.returns-in_err-push
returns-in_err-push c = let p = err_from_is_err_and c.from_residual-in_err-push.result c.from_residual-in_err-push.ensures.1 in rw p.1 tt
