-- A file reports one execution of a program at most, and none where it has a fault.
use Rattle.std.proofs.Common.{◌≡◌, ℕ, List, sym, subst}
use Rattle.ql_effect_lines.specs.declared.effect_line.EffectLine.{EffectLine}
use Rattle.ql_exec.specs.declared.effect.Effect.{Effect}
use Rattle.ql_execution_files.specs.declared.report_fault.ReportFault.{ReportFault}
use Rattle.ql_execution_files.proofs.Files.{apart}
use Rattle.ql_execution_files.specs.FirstFaults.{FirstTextFault}
use Rattle.ql_execution_files.specs.Readings.{SaysExecution}
use Rattle.ql_execution_files.proofs.FaultLaws.{fault_outcome}
use Rattle.ql_execution_files.proofs.Saying.{one_said}
use Rattle.ql_execution_files.proofs.Trees.{one_tree, read}
use Rattle.ql_lang.specs.declared.program.Program.{Program}
use Rattle.ql_lines.specs.Lines.{ahead_from, texts_of}
use Rattle.ql_judging.specs.Verify.{ReportsExecution}

pub one-execution : (p : Program) (bytes : List ℕ) (x y : List Effect) → ReportsExecution p bytes x → ReportsExecution p bytes y → x ≡ y
one-execution p bytes x y (effects, are, says) (others, are_too, others_say) =
    let same : effects ≡ others = one_tree (texts_of (ahead_from 1 bytes).lines) effects others are are_too in
    one_said p effects x y says (subst (λ (es : List EffectLine). SaysExecution p es y) (sym same) others_say)

pub never-both : (p : Program) (bytes : List ℕ) (x : List Effect) (f : ReportFault) → ReportsExecution p bytes x → FirstTextFault p (ahead_from 1 bytes) f → ⊥
never-both p bytes x f (effects, are, says) fault =
    apart p (ahead_from 1 bytes) x f (read p (ahead_from 1 bytes) effects x are says) (fault_outcome p (ahead_from 1 bytes) f fault)
