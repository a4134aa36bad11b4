use Rattle.std.proofs.Common.{◌≡◌, ◌<◌, ◌≤◌, ℕ, List, length, get_or, sym, subst, ap, ◌∙◌, arith}
use Rattle.std.proofs.lemmas.Result.{IfOk-weaker}
use Rattle.ql_machine.specs.State.{received_at}
use Rattle.ql_store.specs.State.{StoreState}
use Rattle.ql_store.proofs.ReceiptLaws.{held-at}
use Rattle.ql_store.proofs.ReceivedLaws.{all-received}
use Rattle.ql_store.proofs.store.Store.received_at.Goals as goal

pub returns-in-Some : goal.returns-in-Some
returns-in-Some g c =
    let fields = c.self.inside in
    let holder = c.in-Some.holder.now in
    let r = c.args.r.0 in
    let within : r < length fields.holders.items = subst (λ (holders : List g.row.H.Denot). r < length holders) c.deref.ensures.value c.in-Some.ensures.lookup.3.0 in
    let at : holder ≡ get_or fields.holders.items r holder = subst (λ (holders : List g.row.H.Denot). holder ≡ get_or holders r holder) c.deref.ensures.value c.in-Some.ensures.lookup.1 in
    let fits = subst (λ (h : g.row.H.Denot). g.H.Holder.fits h fields.execution) (sym at) (c.self.invariant.1 r holder within) in
    let whole = g.met.H.Holder.fits_whole holder fields.execution fits in
    let held = held-at g.H.Holder.received fields.holders.items r holder within at in
    let there : (a : ℕ) → _ → (1 ≤ a) × (a ≤ c.len.result) = λ a has. (let both = whole.there a has in let high = both.1 in let size = c.len.ensures.length in (both.0, omega (arith, high, size))) in
    IfOk-weaker c.received_effects.result _ _
    (λ ids those. all-received (g.H.Holder.received holder) c.len.result ids (g.met.H.Holder.fits_ascending holder fields.execution fits) there those
    ∙ (sym held ∙ ap (λ (v : StoreState). received_at v.machine.received r) c.self.view_is))
    c.received_effects.ensures
