use Rattle.std.proofs.lemmas.Result.{err_from_is_err_and}
use Rattle.std.proofs.Common.{◌≡◌, ℕ, nat_le, false, None, arith, ap, sym, ◌∙◌}
use Rattle.std.specs.Prelude.{◌||◌}
use Rattle.std.proofs.lemmas.Bool.Decides.{nat_tests}
use Rattle.ql_base.specs.declared.ids.ReplicaId.{ReplicaId}
use Rattle.ql_machine.specs.declared.event.Event.TheVariants as event
use Rattle.ql_lang.specs.declared.program.Program.{Program}
use Rattle.ql_schedule.specs.declared.event_line.EventLine.{EventLine}
use Rattle.ql_schedule.specs.declared.event_line.EventLine.TheVariants.{Deliver, Repeat, Lose, Resend, Join}
use Rattle.ql_schedule.specs.declared.schedule.Schedule.{Schedule}
use Rattle.ql_schedule.specs.Judging.{event_faults, is_caller_out, is_number_out, is_out}
use Rattle.ql_schedule.specs.Makings.{event_of}
use Rattle.ql_schedule.specs.Rules.{lowest}
use Rattle.ql_schedule.proofs.Clean.{clean, either}
use Rattle.ql_schedule.proofs.making.event.Goals as goal

-- a line that breaks no rule is in range
in_range : (p : Program) (s : Schedule) (n : ℕ) (l m : EventLine) → l ≡ m → lowest (event_faults p s n l) ≡ None → is_out n m ≡ false
in_range p s n l m is lawful = sym (ap (is_out n) is) ∙ (clean (event_faults p s n l) lawful).range

pub call-requires : goal.call-requires
call-requires c = (either (is_caller_out c.args.replicas c.in-Call.caller) _ (in_range c.args.t.now.program c.args.so_far.now c.args.replicas c.args.line _ c.in-Call.is c.requires.lawful)).0

pub begin-requires : goal.begin-requires
begin-requires c = in_range c.args.t.now.program c.args.so_far.now c.args.replicas c.args.line _ c.in-Begin.is c.requires.lawful

pub commit-requires : goal.commit-requires
commit-requires c = in_range c.args.t.now.program c.args.so_far.now c.args.replicas c.args.line _ c.in-Commit.is c.requires.lawful

pub resend-requires : goal.resend-requires
resend-requires c =
    let n = c.args.replicas in
    let e = c.in-Resend.effect in
    let from = c.in-Resend.from in
    let to = c.in-Resend.to in
    let out = either (is_number_out e || nat_le n from) (nat_le n to) (in_range c.args.t.now.program c.args.so_far.now n c.args.line (Resend e from to) c.in-Resend.is c.requires.lawful) in
    let first = either (is_number_out e) (nat_le n from) out.0 in
    record { effect = grind (arith, nat_tests, first.0); from = grind (arith, nat_tests, first.1); to = grind (arith, nat_tests, out.1) }

pub returns-in-Commit : goal.returns-in-Commit
returns-in-Commit c = c.commit.ensures ∙ sym (ap (event_of c.args.t.now.program c.args.so_far.now) c.in-Commit.is)

pub returns-in-Resend : goal.returns-in-Resend
returns-in-Resend c = c.resend.ensures ∙ sym (ap (event_of c.args.t.now.program c.args.so_far.now) c.in-Resend.is)

pub overflow_cast-result : goal.overflow_cast-result
overflow_cast-result c =
    let h = in_range c.args.t.now.program c.args.so_far.now c.args.replicas c.args.line (Deliver c.in-Deliver.n) c.in-Deliver.is c.requires.lawful in
    grind (arith, nat_tests, h)

pub overflow_cast-result-in-Repeat : goal.overflow_cast-result-in-Repeat
overflow_cast-result-in-Repeat c =
    let h = in_range c.args.t.now.program c.args.so_far.now c.args.replicas c.args.line (Repeat c.in-Repeat.n) c.in-Repeat.is c.requires.lawful in
    grind (arith, nat_tests, h)

pub overflow_cast-result-in-Lose : goal.overflow_cast-result-in-Lose
overflow_cast-result-in-Lose c =
    let h = in_range c.args.t.now.program c.args.so_far.now c.args.replicas c.args.line (Lose c.in-Lose.n) c.in-Lose.is c.requires.lawful in
    grind (arith, nat_tests, h)

pub replica-requires : goal.replica-requires
replica-requires c =
    let h = in_range c.args.t.now.program c.args.so_far.now c.args.replicas c.args.line (Join c.in-Join.near c.in-Join.copy) c.in-Join.is c.requires.lawful in
    grind (arith, nat_tests, h)

pub returns-in-Deliver : goal.returns-in-Deliver
returns-in-Deliver c = sym (ap (event_of c.args.t.now.program c.args.so_far.now) c.in-Deliver.is)

pub returns-in-Repeat : goal.returns-in-Repeat
returns-in-Repeat c = sym (ap (event_of c.args.t.now.program c.args.so_far.now) c.in-Repeat.is)

pub returns-in-Lose : goal.returns-in-Lose
returns-in-Lose c = sym (ap (event_of c.args.t.now.program c.args.so_far.now) c.in-Lose.is)

pub returns-in-Heal : goal.returns-in-Heal
returns-in-Heal c = sym (ap (event_of c.args.t.now.program c.args.so_far.now) c.in-Heal.is)

pub returns : goal.returns
returns c = ap (λ (near : ReplicaId). event.Join near c.in-Join.copy) c.replica.ensures ∙ sym (ap (event_of c.args.t.now.program c.args.so_far.now) c.in-Join.is)

pub returns-in_err-groups-in-Partition : goal.returns-in_err-groups-in-Partition
returns-in_err-groups-in-Partition c = let p = err_from_is_err_and c.from_residual.result c.from_residual.ensures.1 in rw p.1 tt
