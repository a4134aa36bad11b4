use Rattle.std.proofs.lemmas.Result.{err_from_is_err_and}
use Rattle.std.proofs.Common.{◌≡◌, ◌<◌, true, ◌∷◌, [], ℕ, List, length, slice_index_or, map, subst, sym}
use Rattle.ql_exec.specs.declared.effect.Effect.{Effect}
use Rattle.ql_exec.specs.Execution.{effect_of}
use Rattle.ql_base.specs.declared.ids.EffId.{EffId}
use Rattle.ql_machine.specs.Changes.{received_by_all}
use Rattle.ql_machine.specs.Sets.{AreThose}
use Rattle.ql_machine.specs.State.{committed}
use Rattle.ql_holder.specs.Closed.{Has}
use Rattle.ql_holder.specs.Needs.{AreWhole}
use Rattle.ql_shim.specs.Transactions.{open_txns}
use Rattle.ql_store.proofs.MadeLaws.{package-alone}
use Rattle.ql_store.proofs.NoteSets.{noted-pop, noted-some}
use Rattle.ql_store.proofs.StrongLaws.{popped}
use Rattle.ql_store.proofs.strong.make_strong.Given as given
use Rattle.ql_store.proofs.strong.make_strong.Goals as goal

pub synced-requires-clause-fit : goal.synced-requires-clause-fit
synced-requires-clause-fit g c =
    subst (λ (hs : List g.row.H.Denot). (k : ℕ) → (d : g.row.H.Denot) → k < length hs → g.H.Holder.fits (slice_index_or hs k d) c.push_noted.new.x) (sym c.deref.ensures.value)
    (λ k d inside.
    let h = slice_index_or c.args.holders.now.items k d in
    subst (λ (y : List Effect). g.H.Holder.fits h y) (sym c.in_ok-id.ensures.made)
    (g.met.H.Holder.fits_more h c.args.x.now (effect_of c.args.x.now c.args.draft ∷ []) c.requires.lawful (c.requires.fit k d inside) (c.requires.apart k d inside)))

pub synced-requires-clause-package : goal.synced-requires-clause-package
synced-requires-clause-package g c =
    package-alone c.args.x.now c.push_noted.new.x c.args.draft c.in_ok-id.id c.in_ok-id.ensures.made c.in_ok-id.ensures.number c.requires.alone

pub undo-requires : goal.undo-requires
undo-requires g c = noted-some c.args.x.now c.push_noted.new.x (effect_of c.args.x.now c.args.draft) c.push_noted.new.sessions c.in_ok-id.ensures.made c.in_ok-id.ensures.noted

pub returns-in-Err-clause-fit : goal.returns-in-Err-clause-fit
returns-in-Err-clause-fit g c = λ k d inside.
    subst (λ (y : List Effect). g.H.Holder.fits (slice_index_or c.args.holders.now.items k d) y)
    (sym (popped c.args.x.now c.push_noted.new.x c.pop.new.self (effect_of c.args.x.now c.args.draft) c.in_ok-id.ensures.made c.pop.ensures))
    (c.requires.fit k d inside)

pub returns-in-Err-clause-noted : goal.returns-in-Err-clause-noted
returns-in-Err-clause-noted g c =
    noted-pop c.args.x.now c.push_noted.new.x c.pop.new.self (effect_of c.args.x.now c.args.draft) c.push_noted.new.sessions c.undo.new.self
    c.in_ok-id.ensures.made c.in_ok-id.ensures.noted c.pop.ensures c.undo.ensures

-- the ids that were committed before
committed_ids : (g : given.Over) (c : goal.After-deref g) → AreThose (λ a. committed c.args.x.now (open_txns c.args.shim.now) a ≡ true) c.in_ok-done.done
committed_ids g c = subst (λ (y : List Effect). AreThose (λ a. committed y (open_txns c.args.shim.now) a ≡ true) c.in_ok-done.done) c.effects.ensures.same c.in_ok-done.ensures

pub synced-requires-clause-ascending : goal.synced-requires-clause-ascending
synced-requires-clause-ascending g c = c.in_ok-done.ensures.ascending

pub synced-requires-clause-within : goal.synced-requires-clause-within
synced-requires-clause-within g c =
    subst (λ (hs : List g.row.H.Denot). (k : ℕ) → (d : g.row.H.Denot) → k < length hs → (a : ℕ) → Has (g.H.Holder.received (slice_index_or hs k d)) a → Has c.in_ok-done.done a) (sym c.deref.ensures.value)
    (λ k d inside a has. (committed_ids g c).all a (c.requires.done k d inside a has))

pub synced-requires-clause-whole : goal.synced-requires-clause-whole
synced-requires-clause-whole g c =
    subst (λ (y : List Effect). AreWhole y c.in_ok-done.done) (sym c.in_ok-id.ensures.made) (c.requires.whole c.in_ok-done.done (committed_ids g c))

pub returns-in_err-done-clause-made : goal.returns-in_err-done-clause-made
returns-in_err-done-clause-made g c = let p = err_from_is_err_and c.from_residual.result c.from_residual.ensures.1 in rw p.1 tt

pub returns-in_err-done-clause-received : goal.returns-in_err-done-clause-received
returns-in_err-done-clause-received g c = let p = err_from_is_err_and c.from_residual.result c.from_residual.ensures.1 in rw p.1 tt

pub returns-in_err-done-clause-reply : goal.returns-in_err-done-clause-reply
returns-in_err-done-clause-reply g c = let p = err_from_is_err_and c.from_residual.result c.from_residual.ensures.1 in rw p.1 tt

pub returns-in_err-id-clause-made : goal.returns-in_err-id-clause-made
returns-in_err-id-clause-made g c = let p = err_from_is_err_and c.from_residual-in_err-id.result c.from_residual-in_err-id.ensures.1 in rw p.1 tt

pub returns-in_err-id-clause-received : goal.returns-in_err-id-clause-received
returns-in_err-id-clause-received g c = let p = err_from_is_err_and c.from_residual-in_err-id.result c.from_residual-in_err-id.ensures.1 in rw p.1 tt

pub returns-in_err-id-clause-reply : goal.returns-in_err-id-clause-reply
returns-in_err-id-clause-reply g c = let p = err_from_is_err_and c.from_residual-in_err-id.result c.from_residual-in_err-id.ensures.1 in rw p.1 tt

pub returns-clause-fit : goal.returns-clause-fit
returns-clause-fit g c = c.in-Ok.ensures.fit

pub returns-clause-made : goal.returns-clause-made
returns-clause-made g c = c.in_ok-id.ensures.made

pub returns-clause-noted : goal.returns-clause-noted
returns-clause-noted g c = c.in_ok-id.ensures.noted

pub returns-clause-received : goal.returns-clause-received
returns-clause-received g c =
    let ids = subst (λ (y : List Effect). AreThose (λ a. committed y (open_txns c.args.shim.now) a ≡ true) c.in_ok-done.done) c.effects.ensures.same c.in_ok-done.ensures in
    let before : List g.row.H.Denot → List (List ℕ) = λ hs. received_by_all (map g.H.Holder.received hs) c.in_ok-done.done in
    let after = subst (λ (hs : List g.row.H.Denot). map g.H.Holder.received c.in-Ok.synced.items ≡ received_by_all (before hs) (c.in_ok-id.id.0 ∷ [])) c.deref.ensures.value c.in-Ok.ensures.received in
    (c.in_ok-done.done, ids, subst (λ (id : EffId). map g.H.Holder.received c.in-Ok.synced.items ≡ received_by_all (before c.args.holders.now.items) (id.0 ∷ [])) c.in_ok-id.ensures.number after)

pub returns-in-Err-clause-same : goal.returns-in-Err-clause-same
returns-in-Err-clause-same g c =
    popped c.args.x.now c.push_noted.new.x c.pop.new.self (effect_of c.args.x.now c.args.draft) c.in_ok-id.ensures.made c.pop.ensures

pub push_noted-requires-clause-lawful : goal.push_noted-requires-clause-lawful
push_noted-requires-clause-lawful g c = c.requires.lawful

pub push_noted-requires-clause-noted : goal.push_noted-requires-clause-noted
push_noted-requires-clause-noted g c = c.requires.noted
