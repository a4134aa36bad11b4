use Rattle.std.proofs.Common.{◌≡◌, ℕ, Result, true, false, sym, subst}
use Rattle.std.specs.Prelude.{IfOk, IfErr, ◌≤◌, length, insert}
use Rattle.ql_base.specs.IdLists.{has_id, with_id}
use Rattle.ql_base.proofs.IdLemmas.{absent-place, found-place}
use Rattle.ql_shim.proofs.lookup.search.Goals as goal

pub returns-in-Ok : goal.returns-in-Ok
returns-in-Ok c =
    let ids = c.args.ids.now in
    let id = c.args.id in
    sym (subst (λ (r : Result ℕ ℕ). IfOk r (λ at. (has_id ids id ≡ true) × (with_id ids id ≡ ids))) c.in-Ok.is (found-place ids id c.binary_search.result c.requires c.binary_search.ensures.position)).0

pub returns-in-Err : goal.returns-in-Err
returns-in-Err c =
    let ids = c.args.ids.now in
    let id = c.args.id in
    sym (subst (λ (r : Result ℕ ℕ). IfErr r (λ at. (at ≤ length ids) × (has_id ids id ≡ false) × (with_id ids id ≡ insert ids at id))) c.in-Err.is (absent-place ids id c.binary_search.result c.requires c.binary_search.ensures.position)).1
