-- What `verify` can answer of the text of a run.
use Rattle.std.proofs.Common.{◌≡◌, ◌⊎◌, inl, inr, ℕ, List, map, Some, None, slice_get, refl, ap, sym, subst, ◌∙◌}
use Rattle.std.proofs.lemmas.Bool.{both_ways}
use Rattle.ql_commands.specs.Sources.{IsSourceOf}
use Rattle.ql_exec.specs.declared.effect.Effect.{Effect}
use Rattle.ql_execution_files.specs.ExecutionFile.{IsExecutionFile}
use Rattle.ql_execution_files.proofs.Trees.{spelled}
use Rattle.ql_judging.specs.Verify.{ReportsExecution, VerifySays, VerifyReports}
use Rattle.ql_reply.specs.declared.status.Status.{Status}
use Rattle.ql_reply.specs.declared.status.Status.TheVariants.{Done, No, Bad, ReadFault, WriteFault, Usage, TooLarge}
use Rattle.ql_lang.specs.Formulas.{Resolved}
use Rattle.ql_lang.specs.declared.program.Program.{Program}
use Rattle.ql_lang.specs.Programs.{Source, source_of}
use Rattle.ql_levels.specs.Lists.{LevelLists}
use Rattle.ql_lines.specs.Lines.{ahead_from}
use Rattle.ql_machine.specs.declared.reply.Reply.{Reply}
use Rattle.ql_parse.specs.Parsing.{IsProgramText}
use Rattle.ql_verdicts.specs.Printable.{IsPrintable}
use Rattle.ql_verdicts.specs.Renumbered.{IsRenumbered}
use Rattle.ql_report.specs.RunTexts.{run_text}
use Rattle.ql_running.specs.Forms.{IsRunText}
use Rattle.ql_running.specs.Runs.{ReportsRun}
use Rattle.ql_verify.specs.Verdicts.{IsVerdict}
use Rattle.ql_verify.specs.declared.breach.Breach.{Breach}
use Rattle.ql_verify.specs.declared.breach.Breach.TheVariants.{AtOp, AtTxn}
use Rattle.ql_judging.proofs.OneExecution.{never-both, one-execution}
use Rattle.ql_judging.proofs.SamePrograms.{same-execution, same-op-contracts, same-txn-contracts}
use Rattle.ql_verdicts.proofs.Verdicts.{sound-verdict}

-- where all contracts hold there is no breach
no-breach : (p : Program) (y : List Effect) → IsVerdict p y None → (b : Breach) → IsVerdict p y (Some b) → ⊥
no-breach p y holds (AtOp a places) breach =
    both_ways _ breach.is_false.is_false (holds.0 a.0 breach.contract breach.judged (map (λ id. id.0) places) breach.is_false.chosen)
no-breach p y holds (AtTxn run places) breach =
    both_ways _ breach.1.is_false.is_false (holds.1 run.0 breach.1.contract breach.1.judged (map (λ id. id.0) places) breach.1.is_false.chosen)

-- the contracts of a program that is read as the same source hold too
verdict-of : (p q : Program) (y : List Effect) → source_of p ≡ source_of q → IsVerdict p y None → IsVerdict q y None
verdict-of p q y same holds = (
  (λ a f judged. holds.0 a f (record {
    effect = judged.effect;
    is = judged.is;
    contract = ap (λ (fs : List Resolved). slice_get fs judged.effect.op.0) (same-op-contracts p q same) ∙ judged.contract;
  })),
  (λ run f judged. holds.1 run f (record {
    name = judged.name;
    begun = judged.begun;
    contract = ap (λ (fs : List Resolved). slice_get fs judged.name) (same-txn-contracts p q same) ∙ judged.contract;
  })),
)

module _ (tree : (bytes : List ℕ) (s t : Source) → IsProgramText bytes s → IsProgramText bytes t → s ≡ t)
    (source text : List ℕ) (p : Program) (is : IsSourceOf source p) (y : List Effect) (reports : ReportsExecution p text y) (holds : IsVerdict p y None) where
  same-as : (q : Program) → IsSourceOf source q → source_of p ≡ source_of q
  same-as q is_q = tree source (source_of p) (source_of q) is.0 is_q.0

  never-fails : (said : List ℕ) → VerifyReports source text No said → ⊥
  never-fails said judged =
      let q = judged.0 in
      let same = same-as q judged.1 in
      let x = judged.2 in
      let here : y ≡ x = one-execution q text y x (same-execution p q same text y reports) judged.3 in
      let says = judged.4 in
      no-breach q x (subst (λ (z : List Effect). IsVerdict q z None) here (verdict-of p q y same holds)) says.1 says.2

  judged-so : (said : List ℕ) (j : Status) → VerifySays source text j said → (j ≡ Done) ⊎ (j ≡ TooLarge)
  judged-so said Done says = inl refl
  judged-so said TooLarge says = inr refl
  judged-so said No says = absurd (never-fails said says)
  judged-so said ReadFault says = absurd says
  judged-so said WriteFault says = absurd says
  judged-so said Usage says = absurd says
  judged-so said Bad (inl bad) = absurd (bad.0 (p, is))
  judged-so said Bad (inr bad) =
      absurd (never-both bad.1 text y bad.3 (same-execution p bad.1 (same-as bad.1 bad.2) text y reports) bad.4)

pub run-judged : ((bytes : List ℕ) (s t : Source) → IsProgramText bytes s → IsProgramText bytes t → s ≡ t)
    → ((p : Program) (objects : List (List ℕ)) (levels : LevelLists) (replies : List Reply) (x : List Effect) → IsPrintable p objects x
    → (y : List Effect) × IsRenumbered x y × IsExecutionFile p (ahead_from 1 (run_text p objects levels replies x)) y)
    → (source schedule text said : List ℕ) (j : Status) (reports : ReportsRun IsRunText source schedule text) → IsPrintable reports.program reports.schedule.objects reports.prints.last.effects
    → VerifySays source text j said → (j ≡ Done) ⊎ (j ≡ TooLarge)
run-judged tree again source schedule text said j reports printable says =
    let p = reports.program in
    let run = reports.prints in
    let x = run.last.effects in
    let read = again p reports.schedule.objects reports.levels run.replies x printable in
    let file = subst (λ (t : List ℕ). IsExecutionFile p (ahead_from 1 t) read.0) (sym run.printed.written) read.2 in
    judged-so tree source text p reports.is_source read.0 (spelled p (ahead_from 1 text) read.0 file) (sound-verdict p x read.0 printable.execution run.sound read.1) said j says
