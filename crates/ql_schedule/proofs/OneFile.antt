-- a file says one schedule or has one first fault, and never both or neither
use Rattle.std.proofs.Common.{◌≡◌, Result, Ok, Err, refl, ap, sym, ◌∙◌}
use Rattle.ql_lang.specs.declared.program.Program.{Program}
use Rattle.ql_lines.specs.declared.fault.Broken.{Broken}
use Rattle.ql_lines.specs.Outcomes.{Outcome}
use Rattle.ql_lines.proofs.OneOutcome as law
use Rattle.ql_lines.specs.Lines.{Ahead}
use Rattle.ql_schedule.specs.declared.fault.SchedFault.{SchedFault}
use Rattle.ql_schedule.specs.declared.reading.Reading.TheVariants.{Untitled}
use Rattle.ql_schedule.specs.declared.rules.SchedRule.{SchedRule}
use Rattle.ql_schedule.specs.declared.schedule.Schedule.{Schedule}
use Rattle.ql_schedule.specs.Files.{GivesLine, IsFirstFault, IsScheduleFile}
use Rattle.ql_schedule.specs.OneLine.{closes_one, closes_some, gives_one, gives_some}
use Rattle.ql_schedule.specs.Outcomes.{Closes, rule_at}
use Rattle.ql_schedule.specs.Parts.{parts_of}

module _ (p : Program) (file : Ahead) where
  one : (x y : Result Schedule (Broken SchedRule)) → Outcome (GivesLine p) Closes Untitled file x → Outcome (GivesLine p) Closes Untitled file y → x ≡ y
  one = law.one_outcome (GivesLine p) Closes (λ s l x y. gives_one p s (parts_of l.text) x y) closes_one Untitled file

  pub one_schedule : (s t : Schedule) → IsScheduleFile p file s → IsScheduleFile p file t → s ≡ t
  one_schedule s t h k = let same : ◌≡◌ {A = Result Schedule (Broken SchedRule)} (Ok s) (Ok t) = one (Ok s) (Ok t) h k in cc

  pub one_fault : (f g : SchedFault) → IsFirstFault p file f → IsFirstFault p file g → f ≡ g
  one_fault f g h k =
      let same : ◌≡◌ {A = Result Schedule (Broken SchedRule)} (Err h.broken) (Err k.broken) = one (Err h.broken) (Err k.broken) h.first k.first in
      let broken : h.broken ≡ k.broken = cc in
      h.is ∙ ap (λ (b : Broken SchedRule). rule_at b.rule b.line) broken ∙ sym k.is

  pub apart : (s : Schedule) (f : SchedFault) → IsScheduleFile p file s → IsFirstFault p file f → ⊥
  apart s f h k = let same : ◌≡◌ {A = Result Schedule (Broken SchedRule)} (Ok s) (Err k.broken) = one (Ok s) (Err k.broken) h k.first in absurd cc

  both_none : ((s : Schedule) → IsScheduleFile p file s → ⊥) → ((f : SchedFault) → IsFirstFault p file f → ⊥) → (x : Result Schedule (Broken SchedRule)) → Outcome (GivesLine p) Closes Untitled file x → ⊥
  both_none none no_fault (Ok s) h = none s h
  both_none none no_fault (Err b) h = no_fault (rule_at b.rule b.line) (record { broken = b; first = h; is = refl })

  pub some_outcome_of : ((s : Schedule) → IsScheduleFile p file s → ⊥) → ((f : SchedFault) → IsFirstFault p file f → ⊥) → ⊥
  some_outcome_of none no_fault =
      law.some_outcome (GivesLine p) Closes (λ s l n. gives_some p s (parts_of l.text) n) (λ s end n. closes_some s end n) Untitled file (both_none none no_fault)
