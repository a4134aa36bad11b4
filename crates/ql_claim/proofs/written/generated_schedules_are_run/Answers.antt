use Rattle.std.proofs.Common.{◌≡◌, ◌⊎◌, inl, inr, ℕ, List, refl}
use Rattle.ql_reply.specs.declared.status.Status.{Status}
use Rattle.ql_reply.specs.declared.status.Status.TheVariants.{Done, No, Bad, ReadFault, WriteFault, Usage, TooLarge}
use Rattle.ql_app.specs.declared.words.PairCommand.TheVariants.{Run}
use Rattle.ql_app.specs.Outcome.{PairSays}
use Rattle.ql_gen.specs.Generated.{generated}
use Rattle.ql_lines.specs.Lines.{ahead_from}
use Rattle.ql_running.specs.declared.form.Form.{Form}
use Rattle.ql_running.specs.Runs.{AreRunnable}
use Rattle.ql_claim.proofs.written.generated_schedules_are_run.Goals as goal

runs : (source file text : List ℕ) (form : Form) (status : Status) → AreRunnable source file → PairSays (Run form) source file status text → (status ≡ Done) ⊎ (status ≡ No)
runs source file text form Done runnable says = inl refl
runs source file text form No runnable says = inr refl
runs source file text form Bad runnable (inl bad) = absurd (bad.0 (runnable.0, runnable.1))
runs source file text form Bad runnable (inr bad) = absurd (bad.0 runnable)
runs source file text form ReadFault runnable says = absurd says
runs source file text form WriteFault runnable says = absurd says
runs source file text form Usage runnable says = absurd says
runs source file text form TooLarge runnable says = absurd says

pub returns-clause-accepted : goal.returns-clause-accepted
returns-clause-accepted c = λ source file text number events form status in_range generates says.
    runs source file text form status (c.generated_schedules_are_read.ensures.accepted source file number events generates in_range.1) says

pub returns-clause-shown : goal.returns-clause-shown
returns-clause-shown c = λ source file text number events form in_range generates reported.
    c.one_schedule.ensures.one reported.program (ahead_from 1 file) reported.schedule (generated reported.program number events) reported.is_schedule
    (c.generated_schedules_are_read.ensures.read source file number events reported.program generates in_range.1 reported.is_source)
