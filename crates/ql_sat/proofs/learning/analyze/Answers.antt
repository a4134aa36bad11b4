use Rattle.std.proofs.lemmas.Result.{err_from_is_err_and}
use Rattle.std.proofs.Common.{◌≡◌, ◌<◌, ◌-◌, ◌+◌, ℕ, Some, length, arith, refl, subst}
use Rattle.std.proofs.lemmas.Option.{slice_get_read}
use Rattle.std.specs.List.{slice_get}
use Rattle.ql_sat.specs.State.{IsAnalyzed}
use Rattle.ql_sat.proofs.Analysis.{has_reason}
use Rattle.ql_sat.proofs.learning.analyze.Goals as goal

pub resolve-requires-clause-reason : goal.resolve-requires-clause-reason
resolve-requires-clause-reason c =
    let within : c.loop-place.place - 1 < length c.args.trail.now.steps.items = omega (arith, c.loop-place.invariant.within, c.loop-place-test.true) in
    let here : slice_get c.args.trail.now.steps.items (c.loop-place.place - 1) ≡ Some c.index-then-is_seen.result.now = slice_get_read c.args.trail.now.steps.items _ _ _ refl within c.index-then-is_seen.ensures in
    has_reason c.args.known.given.now c.args.known.lines.now c.args.trail.now.steps.items c.args.trail.now.marks.items (c.loop-place.place - 1) c.index-then-is_seen.result.now _ c.requires.sound here (rw c.deref-then-is_seen.ensures.value at c.in_default.ensures)

pub loop-place-preserved-in_ok-resolve : goal.loop-place-preserved-in_ok-resolve
loop-place-preserved-in_ok-resolve c =
    let within : c.loop-place.place - 1 < length c.args.trail.now.steps.items = omega (arith, c.loop-place.invariant.within, c.loop-place-test.true) in
    let here : slice_get c.args.trail.now.steps.items (c.loop-place.place - 1) ≡ Some c.index-then-is_seen.result.now = slice_get_read c.args.trail.now.steps.items _ _ _ refl within c.index-then-is_seen.ensures in
    let next : c.loop-place.place ≡ c.loop-place.place - 1 + 1 = omega (arith, c.loop-place-test.true) in
    record {
      within = omega (arith, c.loop-place.invariant.within);
      analyzed = c.in_ok-resolve.ensures.analyzed c.args.trail.now (c.loop-place.place - 1) c.requires.sound here (subst (λ (n : ℕ). IsAnalyzed c.args.known c.args.trail.now n c.loop-place.analysis) next c.loop-place.invariant.analyzed);
      seen = c.in_ok-resolve.ensures.seen;
    }

pub returns-in_err-begin-clause-analyzed : goal.returns-in_err-begin-clause-analyzed
returns-in_err-begin-clause-analyzed c = let p = err_from_is_err_and c.from_residual.result c.from_residual.ensures.1 in rw p.1 tt

pub returns-in_err-begin-clause-found : goal.returns-in_err-begin-clause-found
returns-in_err-begin-clause-found c = let p = err_from_is_err_and c.from_residual.result c.from_residual.ensures.1 in rw p.1 tt

pub returns-in_err-begin-clause-seen : goal.returns-in_err-begin-clause-seen
returns-in_err-begin-clause-seen c = let p = err_from_is_err_and c.from_residual.result c.from_residual.ensures.1 in rw p.1 tt

pub returns-in_err-resolve-clause-analyzed : goal.returns-in_err-resolve-clause-analyzed
returns-in_err-resolve-clause-analyzed c = let p = err_from_is_err_and c.from_residual-in_err-resolve.result c.from_residual-in_err-resolve.ensures.1 in rw p.1 tt

pub returns-in_err-resolve-clause-found : goal.returns-in_err-resolve-clause-found
returns-in_err-resolve-clause-found c = let p = err_from_is_err_and c.from_residual-in_err-resolve.result c.from_residual-in_err-resolve.ensures.1 in rw p.1 tt

pub returns-in_err-resolve-clause-seen : goal.returns-in_err-resolve-clause-seen
returns-in_err-resolve-clause-seen c = let p = err_from_is_err_and c.from_residual-in_err-resolve.result c.from_residual-in_err-resolve.ensures.1 in rw p.1 tt
