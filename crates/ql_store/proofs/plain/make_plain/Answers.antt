use Rattle.std.proofs.lemmas.Result.{err_from_is_err_and}
use Rattle.std.proofs.Common.{◌≡◌, ℕ, List, false, map, sym, subst, refl}
use Rattle.ql_base.specs.IdLists.{has_id}
use Rattle.ql_base.specs.declared.ids.EffId.{EffId}
use Rattle.ql_exec.specs.Execution.{effect_of, next_id}
use Rattle.ql_machine.specs.State.{received_at}
use Rattle.ql_store.proofs.MadeLaws.{each-list, next-absent, package-alone}
use Rattle.ql_store.proofs.NoteSets.{noted-pop, noted-some}
use Rattle.ql_store.proofs.plain.make_plain.Goals as goal

pub spread_one-requires-clause-package : goal.spread_one-requires-clause-package
spread_one-requires-clause-package g c =
    package-alone c.args.x.now c.push_noted.new.x c.args.draft c.in_ok-id.id c.in_ok-id.ensures.made c.in_ok-id.ensures.number c.requires.alone

pub spread_one-requires-clause-new : goal.spread_one-requires-clause-new
spread_one-requires-clause-new g c =
    let x = c.args.x.now in
    subst (λ (id : EffId). has_id (received_at (map g.H.Holder.received c.args.holders.now.items) c.args.r.0) id.0 ≡ false) (sym c.in_ok-id.ensures.number)
    (each-list g.H.Holder.received (λ (ids : List ℕ). has_id ids (next_id x).0 ≡ false) refl c.args.holders.now.items
    (λ k d inside. next-absent x _ (g.met.H.Holder.fits_whole _ x (c.requires.fit k d inside)).there) c.args.r.0)

pub undo-requires : goal.undo-requires
undo-requires g c = noted-some c.args.x.now c.push_noted.new.x (effect_of c.args.x.now c.args.draft) c.push_noted.new.sessions c.in_ok-id.ensures.made c.in_ok-id.ensures.noted

pub returns-in-Err-clause-noted : goal.returns-in-Err-clause-noted
returns-in-Err-clause-noted g c =
    noted-pop c.args.x.now c.push_noted.new.x c.pop.new.self (effect_of c.args.x.now c.args.draft) c.push_noted.new.sessions c.undo.new.self
    c.in_ok-id.ensures.made c.in_ok-id.ensures.noted c.pop.ensures c.undo.ensures

pub push_noted-requires-clause-room : goal.push_noted-requires-clause-room
push_noted-requires-clause-room g c = c.requires.room

pub push_noted-requires-clause-lawful : goal.push_noted-requires-clause-lawful
push_noted-requires-clause-lawful g c = c.requires.lawful

pub push_noted-requires-clause-noted : goal.push_noted-requires-clause-noted
push_noted-requires-clause-noted g c = c.requires.noted

pub spread_one-requires-clause-replica : goal.spread_one-requires-clause-replica
spread_one-requires-clause-replica g c = c.requires.replica

pub spread_one-requires-clause-room : goal.spread_one-requires-clause-room
spread_one-requires-clause-room g c = c.requires.room_messages

pub returns-in_err-id-clause-made : goal.returns-in_err-id-clause-made
returns-in_err-id-clause-made g c = let p = err_from_is_err_and c.from_residual.result c.from_residual.ensures.1 in rw p.1 tt

pub returns-in_err-id-clause-received : goal.returns-in_err-id-clause-received
returns-in_err-id-clause-received g c = let p = err_from_is_err_and c.from_residual.result c.from_residual.ensures.1 in rw p.1 tt

pub returns-in_err-id-clause-reply : goal.returns-in_err-id-clause-reply
returns-in_err-id-clause-reply g c = let p = err_from_is_err_and c.from_residual.result c.from_residual.ensures.1 in rw p.1 tt

pub returns-in_err-id-clause-sent : goal.returns-in_err-id-clause-sent
returns-in_err-id-clause-sent g c = let p = err_from_is_err_and c.from_residual.result c.from_residual.ensures.1 in rw p.1 tt
