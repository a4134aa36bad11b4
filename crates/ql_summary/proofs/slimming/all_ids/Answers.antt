use Rattle.std.proofs.Common.{◌≡◌, Some, slice_get, length, take, refl, ap, ◌∙◌, sym, add-one}
use Rattle.std.proofs.lemmas.Option.{slice_get_read}
use Rattle.ql_summary.specs.Keeping.{is_kept}
use Rattle.ql_summary.proofs.KeptStates.{more_kept}
use Rattle.ql_summary.proofs.slimming.all_ids.Goals as goal

pub loop-one-preserved : goal.loop-one-preserved
loop-one-preserved c = λ a.
    let items = c.objects-one-items.result.now in
    let i = c.loop-one.one-index in
    let one = c.one-item.result in
    let at : slice_get items i ≡ Some one = slice_get_read items (length items) i one refl c.loop-one-test.true c.one-item.is in
    more_kept items i one c.loop-one.ids c.in_ok-ids.ids at c.loop-one.invariant c.in_ok-ids.ensures a ∙ sym (ap (λ n. is_kept (take n items) a) (add-one i))
