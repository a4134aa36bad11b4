use Rattle.std.proofs.Common.{length, ◌∙◌, ap}
use Rattle.std.proofs.lemmas.Result.{on_err_weaker}
use Rattle.ql_journal.specs.Bytes.{DiskBytes, MayLeave}
use Rattle.ql_journal.proofs.Stops.{started, goes_on}
use Rattle.ql_journal.proofs.Lasting.{after_failure, at_first, torn, written, at_last}
use Rattle.ql_journal.proofs.durable.write_durably.Goals as goal

pub returns-in_err-write_at-clause-any_moment : goal.returns-in_err-write_at-clause-any_moment
returns-in_err-write_at-clause-any_moment g c = λ reported.
    let old = g.D.Disk.held c.args.disk.now in
    let clean = c.requires.clean reported in
    let P = MayLeave old.content c.args.at (length c.args.bytes.now) in
    let at_start = started g.D.Disk.moment g.D.Disk.left_since c.args.disk.now P
    (λ image left. at_first old clean c.args.at (length c.args.bytes.now) image (g.met.D.Disk.only_now c.args.disk.now image reported left)) in
    goes_on g.D.Disk.moment g.D.Disk.left_since c.args.disk.now c.args.disk.now c.write_at.new.self P _ at_start (c.write_at.ensures.time reported)
    (torn old clean c.args.at (length c.args.bytes.now) _ (c.in_err-write_at.ensures.torn reported))

pub returns-clause-any_moment : goal.returns-clause-any_moment
returns-clause-any_moment g c = λ reported.
    let old = g.D.Disk.held c.args.disk.now in
    let clean = c.requires.clean reported in
    let P = MayLeave old.content c.args.at (length c.args.bytes.now) in
    let is = c.in_ok-write_at.ensures.written reported in
    let at_start = started g.D.Disk.moment g.D.Disk.left_since c.args.disk.now P
    (λ image left. at_first old clean c.args.at (length c.args.bytes.now) image (g.met.D.Disk.only_now c.args.disk.now image reported left)) in
    let put = goes_on g.D.Disk.moment g.D.Disk.left_since c.args.disk.now c.args.disk.now c.write_at.new.self P _ at_start (c.write_at.ensures.time reported)
    (written old clean c.args.at c.args.bytes.now _ is) in
    goes_on g.D.Disk.moment g.D.Disk.left_since c.args.disk.now c.write_at.new.self c.sync.new.self P _ put (c.sync.ensures.time reported)
    (at_last old clean c.args.at c.args.bytes.now c.sync.result _ _ (c.requires.begins reported) is (c.sync.ensures.synced reported) c.sync.ensures.same)

pub returns-in_err-write_at-clause-base : goal.returns-in_err-write_at-clause-base
returns-in_err-write_at-clause-base g c = λ reported. after_failure c.from_residual.result ((c.in_err-write_at.ensures.torn reported).base ∙ (c.requires.clean reported).base)

pub returns-clause-base : goal.returns-clause-base
returns-clause-base g c = λ reported.
    on_err_weaker c.sync.result
    (λ same. ap (λ (d : DiskBytes). d.base) same ∙ (c.in_ok-write_at.ensures.written reported).base ∙ (c.requires.clean reported).base)
    c.sync.ensures.same
