use Rattle.std.proofs.Common.{◌≡◌, ◌<◌, subst, ℕ, Some, slice_get, filter, not, take, ap, ◌∙◌, sym, add-one}
use Rattle.std.proofs.lemmas.Option.{slice_get-get_or}
use Rattle.ql_base.specs.IdLists.{has_id}
use Rattle.ql_summary.proofs.IdParts.{next_other}
use Rattle.ql_summary.proofs.covering.others.Goals as goal

pub loop-k-preserved : goal.loop-k-preserved
loop-k-preserved c =
    let k = c.loop-k.k in
    let ids = c.args.ids.now in
    let seen = c.args.seen.now in
    let at : slice_get seen k ≡ Some c.get.result = slice_get-get_or seen k 0 (subst (λ (n : ℕ). k < n) c.len-k-end.ensures.length c.loop-k-test.true) ∙ ap (λ n. Some n) (sym c.get.ensures) in
    c.in_ok-add_other.ensures ∙ next_other ids seen c.loop-k.others k c.get.result c.len-k-end.ensures.ascending at c.loop-k.invariant
    ∙ sym (ap (λ n. filter (λ (a : ℕ). not (has_id ids a)) (take n seen)) (add-one k))
