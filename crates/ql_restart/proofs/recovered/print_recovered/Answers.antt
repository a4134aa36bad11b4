use Rattle.std.proofs.Common.{◌≤◌, ◌-◌, ◌++◌, ℕ, List, codes, sym, ◌∙◌, ap, subst}
use Rattle.std.proofs.lemmas.Option.{MatchOption-at_none, MatchOption-at_some}
use Rattle.std.proofs.lemmas.Result.{IfOk-weaker}
use Rattle.ql_journal.specs.MemDisks.{content_of}
use Rattle.ql_exec.specs.declared.effect.Effect.{Effect}
use Rattle.ql_holder.specs.Arrivals.{Applied}
use Rattle.ql_journal.specs.Stations.{holder_of}
use Rattle.ql_machine.specs.Sets.{AreThose}
use Rattle.ql_holder.specs.Closed.{Has}
use Rattle.ql_restart.specs.Journaled.{IsJournaled, packages}
use Rattle.ql_restart.specs.Progress.{HasKnown, IsJournal}
use Rattle.ql_restart.specs.Restarts.{IsRestartText, id_line, no_journal, recovered}
use Rattle.ql_restart.proofs.Recovering.{applied_are, known, received_are}
use Rattle.ql_restart.proofs.recovered.print_recovered.Goals as goal

pub recovered-requires-clause-known : goal.recovered-requires-clause-known
recovered-requires-clause-known g c =
    let s = c.args.store.now.machine in
    let arrivals = c.args.arrivals.now in
    let x_is = c.execution-x.ensures in
    let file = content_of c.in-Some.disk in
    let calls = c.args.cut - 3 in
    let found = MatchOption-at_some _ _ c.in-Some.disk c.in-Some.is c.in_ok-stopped_disk.ensures in
    let journal = subst (λ (x : List Effect). IsJournal x (packages x arrivals) calls file) x_is found.1 in
    let ids = c.in_ok-committed-in-Some.committed in
    subst (λ (x : List Effect). HasKnown x ids file) (sym x_is) (known s arrivals c.requires ids c.in_ok-committed-in-Some.ensures calls file journal)

pub returns-in_ok-from_slice-in-None : goal.returns-in_ok-from_slice-in-None
returns-in_ok-from_slice-in-None g c =
    let less = MatchOption-at_none _ _ c.in-None.is c.in_ok-stopped_disk.ensures in
    subst (IsRestartText c.args.store.now.machine c.args.arrivals.now c.args.cut) (sym c.in_ok-from_slice-in-None.ensures.items) (no_journal less)

pub returns-in_ok-applied-in-Some : goal.returns-in_ok-applied-in-Some
returns-in_ok-applied-in-Some g c =
    let s = c.args.store.now.machine in
    let arrivals = c.args.arrivals.now in
    let cut = c.args.cut in
    let x_is = c.execution-x.ensures in
    let file = content_of c.in-Some.disk in
    let found = MatchOption-at_some _ _ c.in-Some.disk c.in-Some.is c.in_ok-stopped_disk.ensures in
    let enough : 3 ≤ cut = found.0 in
    let journal = subst (λ (x : List Effect). IsJournal x (packages x arrivals) (cut - 3) file) x_is found.1 in
    let ids = c.in_ok-committed-in-Some.committed in
    let those = c.in_ok-committed-in-Some.ensures in
    let station = c.in_ok-station-in-Some.station in
    let held = g.H.Holder.received (holder_of station) in
    let same = c.in_ok-station-in-Some.ensures.received journal.records journal.has in
    let received = c.in_ok-received-in-Some.received in
    let applied = c.in_ok-applied-in-Some.applied in
    let among : AreThose (λ a. Has ids a × Has held a) received =
    subst (λ (l : List ℕ). AreThose (λ a. Has l a × Has held a) received) c.items.ensures.same
    (subst (λ h. AreThose (λ a. Has c.items.result.now a × Has (g.H.Holder.received h) a) received) c.holder.ensures c.in_ok-received-in-Some.ensures) in
    let fits = subst (g.H.Holder.fits (holder_of station)) x_is c.in_ok-station-in-Some.ensures.fits in
    let apply : AreThose (λ a. Has received a × Applied s.effects held a) applied =
    subst (λ (l : List ℕ). AreThose (λ a. Has l a × Applied s.effects held a) applied) c.items-in-Some.ensures.same
    (subst (λ h. AreThose (λ a. Has c.items-in-Some.result.now a × Applied s.effects (g.H.Holder.received h) a) applied) c.holder-in-Some.ensures
    (c.in_ok-applied-in-Some.ensures s.effects (subst (λ h. g.H.Holder.fits h s.effects) (sym c.holder-in-Some.ensures) fits))) in
    let are : AreThose (IsJournaled s.effects arrivals cut) received = received_are s arrivals c.requires ids those cut enough file journal held same received among in
    let are_applied = applied_are s arrivals c.requires ids those cut enough file journal held same received applied are apply in
    IfOk-weaker c.print_ids.result _ _
    (λ text is.
    subst (IsRestartText s arrivals cut)
    (sym (is ∙ ap (λ (l : List ℕ). id_line (codes "received") l ++ id_line (codes "applied") c.items-in-Some-3.result.now ++ codes "end\n") c.items-in-Some-2.ensures.same
    ∙ ap (λ (l : List ℕ). id_line (codes "received") received ++ id_line (codes "applied") l ++ codes "end\n") c.items-in-Some-3.ensures.same))
    (recovered received applied enough are are_applied))
    c.print_ids.ensures
