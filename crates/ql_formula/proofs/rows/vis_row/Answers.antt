use Rattle.std.proofs.Common.{◌≡◌, ◌||◌, suc, sym, ap, subst, refl, ℕ, List, Bool, true, false, length, get_or, arith, ◌∙◌}
use Rattle.std.proofs.lemmas.Option.{slice_get_read}
use Rattle.std.proofs.lemmas.List.{length-replicate}
use Rattle.ql_base.specs.IdLists.{has_id}
use Rattle.ql_exec.specs.declared.effect.Effect.{Effect}
use Rattle.ql_formula.proofs.RowLaws.{seen_within, vis_cell, none_marked}
use Rattle.ql_formula.proofs.rows.vis_row.Goals as goal

pub mark-requires : goal.mark-requires
mark-requires c =
    let x = c.args.effects.now in
    let k = c.args.k in
    let e = c.index-effects-k.result in
    let at = slice_get_read x (length x) k e refl c.requires.within c.index-effects-k.is in
    let seen : c.items.result.now ≡ e.seen = c.items.ensures.same ∙ ap (λ (f : Effect). f.seen) (sym c.index-effects-k.is) in
    let count : length c.in_ok-row.row ≡ k = ap length c.in_ok-row.ensures ∙ length-replicate k false in
    λ a has.
    let within = seen_within x k e c.requires.execution at a (subst (λ (l : List ℕ). has_id l a ≡ true) seen has) in
    let high = within.1 in
    (within.0, omega (arith, high, count))

pub returns : goal.returns
returns c =
    let x = c.args.effects.now in
    let k = c.args.k in
    let e = c.index-effects-k.result in
    let at = slice_get_read x (length x) k e refl c.requires.within c.index-effects-k.is in
    let seen : c.items.result.now ≡ e.seen = c.items.ensures.same ∙ ap (λ (f : Effect). f.seen) (sym c.index-effects-k.is) in
    let count : length c.in_ok-row.row ≡ k = ap length c.in_ok-row.ensures ∙ length-replicate k false in (
      ap suc (c.mark.ensures.length ∙ count),
      λ j.
          c.mark.ensures.marked j
          ∙ ap (λ (b : Bool). b || has_id c.items.result.now (suc j)) (ap (λ (l : List Bool). get_or l j false) c.in_ok-row.ensures ∙ none_marked k j)
          ∙ ap (λ (l : List ℕ). has_id l (suc j)) seen ∙ vis_cell x k e c.requires.execution at (suc j),
    )
