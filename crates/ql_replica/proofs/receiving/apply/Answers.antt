use Rattle.std.proofs.lemmas.Result.{err_from_is_err_and}
use Rattle.ql_ranges.specs.Ranges.{ids_of}
use Rattle.slab.specs.Slab.{get}
use Rattle.ql_replica.proofs.ReceiptLaws.{apply-alone, apply-fits, decided-all, gain-exact, reached-first, reached-further}
use Rattle.ql_replica.proofs.receiving.apply.Goals as goal

pub walk_waiting-requires-clause-known : goal.walk_waiting-requires-clause-known
walk_waiting-requires-clause-known c =
    (reached-first c.args.x.now (ids_of c.args.after.now) c.args.pack.now (ids_of c.args.applied.now) c.args.found (ids_of c.in_ok-more.more)
    c.requires.known c.requires.found c.requires.within c.in_ok-more.ensures.united).known

pub returns-then-not-is_watched-clause-ok : goal.returns-then-not-is_watched-clause-ok
returns-then-not-is_watched-clause-ok c = λ received fits new ascending.
    let x = c.args.x.now in
    let pack = c.args.pack.now in
    let after = ids_of c.args.after.now in
    let before = ids_of c.args.applied.now in
    let applied = ids_of c.in_ok-more.more in
    let held = get c.args.waiting.now in
    let reached = reached-first x after pack before c.args.found applied c.requires.known c.requires.found c.requires.within c.in_ok-more.ensures.united in
    let behind = apply-alone x received pack after before applied held fits c.requires.package new ascending reached.known reached.grows reached.own c.if-not-is_watched.ensures.none in (
      behind,
      reached.own,
      gain-exact x received after before applied c.args.found c.in_ok-gain.gain held held fits behind reached.made
          c.in_ok-gain.ensures.lacks c.in_ok-gain.ensures.ascending,
    )

pub returns-clause-ok : goal.returns-clause-ok
returns-clause-ok c = λ received fits new ascending.
    let x = c.args.x.now in
    let pack = c.args.pack.now in
    let after = ids_of c.args.after.now in
    let before = ids_of c.args.applied.now in
    let applied = ids_of c.in_ok-more.more in
    let more = ids_of c.walk_waiting.new.progress.applied in
    let gain = c.walk_waiting.new.progress.gain in
    let held = get c.args.waiting.now in
    let slots = get c.settle.new.waiting in
    let watches = c.in_ok-watches.watches.items in
    let first = reached-first x after pack before c.args.found applied c.requires.known c.requires.found c.requires.within c.in_ok-more.ensures.united in
    let reached = reached-further x after pack before applied c.args.found more gain first c.in_ok-watches.ensures.known c.in_ok-watches.ensures.advances in
    let behind =
    apply-fits x received pack after before more held slots watches fits c.requires.package new ascending reached.known reached.grows reached.own
    (decided-all x after more c.args.waiting.now.slots watches c.in_ok-watches.ensures.slots c.in_ok-watches.ensures.decided) c.settle.ensures.slots in (
      behind,
      reached.own,
      gain-exact x received after before more gain c.in_ok-gain-2.gain held slots fits behind reached.made
          c.in_ok-gain-2.ensures.lacks c.in_ok-gain-2.ensures.ascending,
    )

pub returns-in_err-gain-2-clause-ok : goal.returns-in_err-gain-2-clause-ok
returns-in_err-gain-2-clause-ok c = let p = err_from_is_err_and c.from_residual-in_err-gain-2.result c.from_residual-in_err-gain-2.ensures.1 in rw p.1 tt

pub returns-in_err-gain-clause-ok : goal.returns-in_err-gain-clause-ok
returns-in_err-gain-clause-ok c = let p = err_from_is_err_and c.from_residual-in_err-gain.result c.from_residual-in_err-gain.ensures.1 in rw p.1 tt

pub returns-in_err-more-clause-ok : goal.returns-in_err-more-clause-ok
returns-in_err-more-clause-ok c = let p = err_from_is_err_and c.from_residual.result c.from_residual.ensures.1 in rw p.1 tt

pub returns-in_err-watches-clause-ok : goal.returns-in_err-watches-clause-ok
returns-in_err-watches-clause-ok c = let p = err_from_is_err_and c.from_residual-in_err-watches.result c.from_residual-in_err-watches.ensures.1 in rw p.1 tt
