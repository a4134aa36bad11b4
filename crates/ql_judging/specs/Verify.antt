-- What `verify` says of a source and an execution.
use Rattle.std.specs.Prelude.{◌≡◌, ◌⊎◌, ◌<◌, ◌≤◌, ℕ, List, [], ◌∷◌, ◌++◌, map, Option, None, Some, codes, decimal}
use Rattle.ql_base.specs.declared.ids.EffId.{EffId}
use Rattle.ql_commands.specs.Sources.{IsSourceOf, BadSourceSays}
use Rattle.ql_effect_lines.specs.declared.effect_line.EffectLine.{EffectLine}
use Rattle.ql_exec.specs.declared.effect.Effect.{Effect}
use Rattle.ql_exec.specs.Effects.{effect_at}
use Rattle.ql_execution_files.specs.declared.report_fault.ReportFault.{ReportFault}
use Rattle.ql_execution_files.specs.declared.report_fault.ReportFault.TheVariants.{Unexpected, Unknown, Mixed, Stamp, NotForward, OtherObject, SplitTxn, TooMany, NoMemory}
use Rattle.ql_execution_files.specs.FirstFaults.{FirstTextFault}
use Rattle.ql_execution_files.specs.Grammar.{IsExecutionText}
use Rattle.ql_execution_files.specs.Readings.{SaysExecution}
use Rattle.ql_lang.specs.declared.contract.Var.{Var}
use Rattle.ql_lang.specs.declared.program.Program.{Program}
use Rattle.ql_lines.specs.Lines.{ahead_from, texts_of}
use Rattle.ql_reply.specs.Lines.{fault_line}
use Rattle.ql_reply.specs.declared.status.Status.{Status}
use Rattle.ql_reply.specs.declared.status.Status.TheVariants.{Done, No, Bad, TooLarge}
use Rattle.ql_report.specs.Refusals.{op_vars, txn_vars}
use Rattle.ql_typing.specs.Names.{op_name, txn_name}
use Rattle.ql_verify.specs.Verdicts.{IsVerdict}
use Rattle.ql_verify.specs.Work.{work_of}
use Rattle.ql_verify.specs.declared.breach.Breach.{Breach}
use Rattle.ql_verify.specs.declared.breach.Breach.TheVariants.{AtOp, AtTxn}
use Rattle.ql_judging.specs.Members.{IsBegunOf}

-- ---- the execution's text

-- the file's lines are those of effects that say this execution of the program
abbrev pub ReportsExecution : Program → List ℕ → List Effect → Type 0
ReportsExecution p bytes x = (effects : List EffectLine) × IsExecutionText (texts_of (ahead_from 1 bytes).lines) effects × SaysExecution p effects x

-- the line that reports its first fault, and none where memory ran out
abbrev pub execution_fault_text : ReportFault → Option (List ℕ)
execution_fault_text (Unexpected line) = Some (fault_line (codes "execution") line (codes "Unexpected"))
execution_fault_text (Unknown line) = Some (fault_line (codes "execution") line (codes "Unknown"))
execution_fault_text (Mixed line) = Some (fault_line (codes "execution") line (codes "Mixed"))
execution_fault_text (Stamp line) = Some (fault_line (codes "execution") line (codes "Stamp"))
execution_fault_text (NotForward line) = Some (fault_line (codes "execution") line (codes "NotForward"))
execution_fault_text (OtherObject line) = Some (fault_line (codes "execution") line (codes "OtherObject"))
execution_fault_text (SplitTxn line) = Some (fault_line (codes "execution") line (codes "SplitTxn"))
execution_fault_text (TooMany line) = Some (fault_line (codes "execution") line (codes "TooMany"))
execution_fault_text NoMemory = None

-- ---- the answer

-- the effects of a contract's variables, as ` a=1`
abbrev pub places_text : List Var → List ℕ → List ℕ
places_text [] places = []
places_text (v ∷ vars) [] = []
places_text (v ∷ vars) (p ∷ places) = 32 ∷ v.name.word ++ 61 ∷ decimal p ++ places_text vars places

-- fails op F at E
abbrev pub op_text : Program → ℕ → ℕ → List ℕ → List ℕ
op_text p op at places = codes "fails op " ++ op_name p op ++ codes " at " ++ decimal at ++ places_text (op_vars p op) places ++ codes "\n"

-- fails txn K:F
abbrev pub txn_breach_text : Program → ℕ → ℕ → List ℕ → List ℕ
txn_breach_text p run name places = codes "fails txn " ++ decimal run ++ codes ":" ++ txn_name p name ++ places_text (txn_vars p name) places ++ codes "\n"

abbrev pub effect_numbers : List EffId → List ℕ
effect_numbers ids = map (λ id. id.0) ids

-- the text reports a breach: with the effect's operation, or with the transaction that the begun one is declared as
abbrev pub ReportsBreach : Program → List Effect → Breach → List ℕ → Type 0
ReportsBreach p x (AtOp at places) text = (e : Effect) × (effect_at x at.0 ≡ Some e) × (text ≡ op_text p e.op.0 at.0 (effect_numbers places))
ReportsBreach p x (AtTxn run places) text = (name : ℕ) × IsBegunOf x run.0 name × (text ≡ txn_breach_text p run.0 name (effect_numbers places))

-- what is said of an execution
abbrev pub ExecutionSays : Program → List Effect → Status → List ℕ → Type 0
ExecutionSays p x Done text = (work_of p x ≤ 20000000) × IsVerdict p x None × (text ≡ codes "holds\n")
ExecutionSays p x No text = (work_of p x ≤ 20000000) × (b : Breach) × IsVerdict p x (Some b) × ReportsBreach p x b text
ExecutionSays p x TooLarge text = (20000000 < work_of p x) × (text ≡ codes "too much " ++ decimal (work_of p x) ++ codes "\n")
ExecutionSays p x _ text = ⊥

-- ---- the two files

-- the source is a typed program's, the other file reports an execution of it, and its work isn't above the limit
abbrev pub AreJudgeable : List ℕ → List ℕ → Type 0
AreJudgeable source execution = (p : Program) × IsSourceOf source p × (x : List Effect) × ReportsExecution p execution x × (work_of p x ≤ 20000000)

-- the first fault of the execution's file
abbrev pub BadExecutionSays : List ℕ → List ℕ → List ℕ → Type 0
BadExecutionSays source execution text =
    (AreJudgeable source execution → ⊥) × (p : Program) × IsSourceOf source p
    × (f : ReportFault) × FirstTextFault p (ahead_from 1 execution) f × (execution_fault_text f ≡ Some text)

abbrev pub VerifyReports : List ℕ → List ℕ → Status → List ℕ → Type 0
VerifyReports source execution status text = (p : Program) × IsSourceOf source p × (x : List Effect) × ReportsExecution p execution x × ExecutionSays p x status text

abbrev pub VerifySays : List ℕ → List ℕ → Status → List ℕ → Type 0
VerifySays source execution Done text = VerifyReports source execution Done text
VerifySays source execution No text = VerifyReports source execution No text
VerifySays source execution TooLarge text = (AreJudgeable source execution → ⊥) × VerifyReports source execution TooLarge text
VerifySays source execution Bad text = BadSourceSays source text ⊎ BadExecutionSays source execution text
VerifySays source execution _ text = ⊥
