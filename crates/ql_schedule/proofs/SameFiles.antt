-- Programs that are read as one source have the same schedule files.
use Rattle.std.proofs.Common.{◌≡◌, ℕ, not, List, [], ◌∷◌, slice_get, Option, None, Some, Ok, refl, sym, ap, ◌∙◌}
use Rattle.std.specs.Option.{option_map}
use Rattle.std.proofs.lemmas.Option.{slice_get-map}
use Rattle.ql_base.specs.Numbering.{place}
use Rattle.ql_typing.proofs.SameSource.{same-op-kinds, same-op-place, same-ops, same-txn-place, same-type-place}
use Rattle.ql_lang.specs.declared.operation.OpDecl.{OpDecl}
use Rattle.ql_lang.specs.declared.program.Program.{Program}
use Rattle.ql_lang.specs.Programs.{Operation, operation_of, source_of}
use Rattle.ql_lines.specs.Outcomes.{Leads}
use Rattle.ql_lines.specs.Fields.{Fields}
use Rattle.ql_lines.specs.Lines.{Ahead, Numbered}
use Rattle.ql_schedule.specs.declared.argument.Argument.{Argument}
use Rattle.ql_schedule.specs.declared.event_line.EventLine.{EventLine}
use Rattle.ql_schedule.specs.declared.event_line.EventLine.TheVariants.{Call, Begin, Commit, Deliver, Repeat, Lose, Resend, Partition, Heal, Join}
use Rattle.ql_schedule.specs.declared.header.Declaration.{Declaration}
use Rattle.ql_schedule.specs.declared.header.Declaration.TheVariants.{Object, Events}
use Rattle.ql_schedule.specs.declared.reading.Reading.{Reading}
use Rattle.ql_schedule.specs.declared.reading.Reading.TheVariants.{Untitled, Titled, Declaring, Running}
use Rattle.ql_schedule.specs.declared.rules.Faults.{Faults}
use Rattle.ql_schedule.specs.declared.schedule.Schedule.{Schedule}
use Rattle.ql_schedule.specs.Arguments.{fit}
use Rattle.ql_schedule.specs.EventLines.{IsEventIn}
use Rattle.ql_schedule.specs.Files.{GivesLine, IsScheduleFile}
use Rattle.ql_schedule.specs.Headers.{IsDeclaration}
use Rattle.ql_schedule.specs.Judging.{declaration_faults, event_faults, fit_op, is_misfit, is_unknown, may_call}
use Rattle.ql_schedule.specs.Makings.{event_of}
use Rattle.ql_schedule.specs.Outcomes.{Closes, ExtendsSchedule, Makes, after_declaration, after_event}
use Rattle.ql_schedule.specs.Parts.{parts_of}
use Rattle.ql_schedule.specs.Rules.{lowest}
use Rattle.ql_typing.specs.Operations.{all_ops, op_place}

module _ (p q : Program) (e : source_of p ≡ source_of q) where
  -- ---- rules

  fit-alike : (args : List Argument) (a b : Option OpDecl) → option_map operation_of a ≡ option_map operation_of b → fit_op a args ≡ fit_op b args
  fit-alike args None None s = refl
  fit-alike args None (Some b) s = absurd cc
  fit-alike args (Some a) None s = absurd cc
  fit-alike args (Some a) (Some b) s = let same : operation_of a ≡ operation_of b = cc in ap (λ (o : Operation). fit o.params args) same

  fits : (op : ℕ) (args : List Argument) → fit_op (slice_get (all_ops p.types) op) args ≡ fit_op (slice_get (all_ops q.types) op) args
  fits op args =
      fit-alike args (slice_get (all_ops p.types) op) (slice_get (all_ops q.types) op)
      (sym (slice_get-map operation_of (all_ops p.types) op) ∙ ap (λ (os : List Operation). slice_get os op) (same-ops p q e) ∙ slice_get-map operation_of (all_ops q.types) op)

  call-same : (s : Schedule) (object op : Option ℕ) (args : List Argument) → may_call p s object op args ≡ may_call q s object op args
  call-same s None op args = refl
  call-same s (Some object) None args = refl
  call-same s (Some object) (Some op) args = rw (same-op-kinds p q e, fits op args) refl

  declaration-same : (s : Schedule) (d : Declaration) → declaration_faults p s d ≡ declaration_faults q s d
  declaration-same s (Object name kind) = rw (same-type-place p q e kind) refl
  declaration-same s Events = refl

  unknown-same : (s : Schedule) (l : EventLine) → is_unknown p s l ≡ is_unknown q s l
  unknown-same s (Call c object op args) = rw (same-op-place p q e op) refl
  unknown-same s (Begin c txn objects) = rw (same-txn-place p q e txn) refl
  unknown-same s (Commit c) = refl
  unknown-same s (Deliver n) = refl
  unknown-same s (Repeat n) = refl
  unknown-same s (Lose n) = refl
  unknown-same s (Resend effect sender receiver) = refl
  unknown-same s (Partition groups) = refl
  unknown-same s Heal = refl
  unknown-same s (Join near copy) = refl

  misfit-same : (s : Schedule) (l : EventLine) → is_misfit p s l ≡ is_misfit q s l
  misfit-same s (Call c object op args) = rw (same-op-place p q e op) (ap not (call-same s (place s.objects object) (op_place q.types op) args))
  misfit-same s (Begin c txn objects) = refl
  misfit-same s (Commit c) = refl
  misfit-same s (Deliver n) = refl
  misfit-same s (Repeat n) = refl
  misfit-same s (Lose n) = refl
  misfit-same s (Resend effect sender receiver) = refl
  misfit-same s (Partition groups) = refl
  misfit-same s Heal = refl
  misfit-same s (Join near copy) = refl

  event-faults-same : (s : Schedule) (replicas : ℕ) (l : EventLine) → event_faults p s replicas l ≡ event_faults q s replicas l
  event-faults-same s replicas l = rw (unknown-same s l, misfit-same s l) refl

  -- ---- what a line adds

  event-same : (s : Schedule) (l : EventLine) → event_of p s l ≡ event_of q s l
  event-same s (Call c object op args) = rw (same-op-place p q e op) refl
  event-same s (Begin c txn objects) = rw (same-txn-place p q e txn) refl
  event-same s (Commit c) = refl
  event-same s (Deliver n) = refl
  event-same s (Repeat n) = refl
  event-same s (Lose n) = refl
  event-same s (Resend effect sender receiver) = refl
  event-same s (Partition groups) = refl
  event-same s Heal = refl
  event-same s (Join near copy) = refl

  after-declaration-same : (s : Schedule) (d : Declaration) → after_declaration p s d ≡ after_declaration q s d
  after-declaration-same s (Object name kind) = rw (same-type-place p q e kind) refl
  after-declaration-same s Events = refl

  after-event-same : (s : Schedule) (replicas : ℕ) (l : EventLine) → after_event p s replicas l ≡ after_event q s replicas l
  after-event-same s replicas l = rw (event-same s l) refl

  -- ---- files

  makes : {L : Type 0} (Is : L → Type 0) (f g : L → Faults) (n m : L → Reading) → ((l : L) → f l ≡ g l) → ((l : L) → n l ≡ m l) → (after : Reading) → Makes Is f n after → Makes Is g m after
  makes Is f g n m same-faults same-next after made = record {
    line = made.line;
    is = made.is;
    lawful = ap lowest (sym (same-faults made.line)) ∙ made.lawful;
    to = made.to ∙ same-next made.line;
  }

  extends : (before : Reading) (parts : Fields) (after : Reading) → ExtendsSchedule p before parts (Ok after) → ExtendsSchedule q before parts (Ok after)
  extends Untitled parts after h = h
  extends (Titled version) parts after h = h
  extends (Declaring s) parts after h =
      makes (IsDeclaration parts) (declaration_faults p s) (declaration_faults q s) (after_declaration p s) (after_declaration q s) (declaration-same s) (after-declaration-same s) after h
  extends (Running s replicas) parts after h =
      makes (IsEventIn s.version parts) (event_faults p s replicas) (event_faults q s replicas) (after_event p s replicas) (after_event q s replicas) (event-faults-same s replicas)
      (after-event-same s replicas) after h

  leads : (ls : List Numbered) (before after : Reading) → Leads (GivesLine p) Closes before ls after → Leads (GivesLine q) Closes before ls after
  unfolding Leads
  leads [] before after h = h
  leads (l ∷ ls) before after h = (h.0, extends before (parts_of l.text) h.0 h.1, leads ls h.0 after h.2)

  pub same-schedule-file : (file : Ahead) (s : Schedule) → IsScheduleFile p file s → IsScheduleFile q file s
  same-schedule-file file s is = record { state = is.state; leads = leads file.lines Untitled is.state is.leads; ends = is.ends }
