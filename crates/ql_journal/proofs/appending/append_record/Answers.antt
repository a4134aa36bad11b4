use Rattle.std.proofs.Common.{◌+◌, length, inl, sym, subst}
use Rattle.std.proofs.lemmas.Result.{on_err_weaker, on_ok_weaker}
use Rattle.ql_journal.specs.Bytes.{MayLeave}
use Rattle.ql_journal.proofs.Lasting.{after_failure}
use Rattle.ql_journal.proofs.Stops.{joined, weaker}
use Rattle.ql_journal.specs.Images.{IsBeforeOrAfter}
use Rattle.ql_journal.specs.Records.{HasRecords}
use Rattle.ql_journal.proofs.AppendingLaws.{staged, opened, whole}
use Rattle.ql_journal.proofs.appending.append_record.Goals as goal

pub returns-in_err-write_durably-clause-any_moment : goal.returns-in_err-write_durably-clause-any_moment
returns-in_err-write_durably-clause-any_moment g c = λ reported records ids is.
    let file = (g.D.Disk.held c.args.disk.now).content in
    weaker g.D.Disk.moment g.D.Disk.left_since c.args.disk.now c.write_durably.new.disk
    (MayLeave file (c.args.gate + 1) (length c.args.bytes.now)) (IsBeforeOrAfter records ids) (c.write_durably.ensures.any_moment reported)
    (λ image left. inl (staged records ids c.args.bytes.now file c.args.gate is image left))

pub returns-clause-any_moment : goal.returns-clause-any_moment
returns-clause-any_moment g c = λ reported records ids is.
    let file = (g.D.Disk.held c.args.disk.now).content in
    let mid = (g.D.Disk.held c.write_durably.new.disk).content in
    let P = IsBeforeOrAfter records ids in
    let first = weaker g.D.Disk.moment g.D.Disk.left_since c.args.disk.now c.write_durably.new.disk
    (MayLeave file (c.args.gate + 1) (length c.args.bytes.now)) P (c.write_durably.ensures.any_moment reported)
    (λ image left. inl (staged records ids c.args.bytes.now file c.args.gate is image left)) in
    joined g.D.Disk.moment g.D.Disk.left_since c.args.disk.now c.write_durably.new.disk c.write_durably-2.new.disk P (MayLeave mid c.args.gate 1)
    first (c.write_durably-2.ensures.any_moment reported)
    (opened records ids c.args.bytes.now file c.args.gate is mid (c.in_ok-write_durably.ensures.written reported))

pub returns-clause-appended : goal.returns-clause-appended
returns-clause-appended g c = λ reported records ids is.
    let file = (g.D.Disk.held c.args.disk.now).content in
    let mid = (g.D.Disk.held c.write_durably.new.disk).content in
    on_ok_weaker c.write_durably-2.result
    (whole records ids c.args.bytes.now file c.args.gate is mid (c.in_ok-write_durably.ensures.written reported) (g.D.Disk.held c.write_durably-2.new.disk).content)
    (c.write_durably-2.ensures.written reported)

pub returns-in_err-write_durably-clause-kept : goal.returns-in_err-write_durably-clause-kept
returns-in_err-write_durably-clause-kept g c = λ reported records ids is.
    after_failure c.from_residual.result (subst (HasRecords records) (sym (c.in_err-write_durably.ensures.base reported)) is.has)

pub returns-clause-kept : goal.returns-clause-kept
returns-clause-kept g c = λ reported records ids is.
    let file = (g.D.Disk.held c.args.disk.now).content in
    let mid = c.write_durably.new.disk in
    let put = c.write_durably.ensures.any_moment reported in
    let left = put.each (g.D.Disk.held mid).content
    (g.met.D.Disk.counts_now mid (g.D.Disk.moment c.args.disk.now) (g.D.Disk.held mid).content reported put.later (g.met.D.Disk.reads_an_image mid reported)) in
    on_err_weaker c.write_durably-2.result
    (λ base. subst (HasRecords records) (sym base) (staged records ids c.args.bytes.now file c.args.gate is (g.D.Disk.held mid).content left))
    (c.write_durably-2.ensures.base reported)
