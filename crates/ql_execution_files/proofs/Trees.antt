-- A file says the execution of the effects whose lines are the file's.
use Rattle.std.proofs.Common.{◌≡◌, ℕ, List, Ok, refl, subst}
use Rattle.ql_lang.specs.declared.program.Program.{Program}
use Rattle.ql_lines.specs.Lines.{Ahead, texts_of}
use Rattle.ql_exec.specs.declared.effect.Effect.{Effect}
use Rattle.ql_effect_lines.specs.declared.effect_line.EffectLine.{EffectLine}
use Rattle.ql_effect_lines.specs.declared.effects_read.EffectsRead.{EffectsRead}
use Rattle.ql_execution_files.specs.declared.format.ExecutionReading.{ExecutionReading}
use Rattle.ql_execution_files.specs.declared.format.ExecutionReading.TheVariants.{Unbegun, WithEffects, Ended}
use Rattle.ql_execution_files.specs.ExecutionFile.{ClosesExecution, IsExecutionFile}
use Rattle.ql_execution_files.specs.Grammar.{IsExecutionText}
use Rattle.ql_execution_files.specs.Readings.{SaysExecution, read_as}
use Rattle.ql_execution_files.proofs.EffectLists.{AscendInEach, Ending, ascending, ending, one_whole}
use Rattle.ql_execution_files.proofs.Opening.{Whole, holds_too, opened_of, text_of}
use Rattle.ql_execution_files.proofs.Reached.{HasRead, Reached, leads, reached}
use Rattle.ql_execution_files.proofs.Saying.{said, said_back}

pub one_tree : (lines : List (List ℕ)) (es us : List EffectLine) → IsExecutionText lines es → IsExecutionText lines us → es ≡ us
one_tree lines es us h k =
    let o = opened_of lines es h in
    one_whole 1 o.rest es us o.holds (holds_too (Whole es) (Whole us) lines o (opened_of lines us k))

pub ascend_whole : (ls : List (List ℕ)) (es : List EffectLine) → Whole es ls → AscendInEach es
ascend_whole ls es h = let rest : Ending 1 ls es = ending 1 ls es h in ascending 1 rest.others es rest.spelled

module _ (p : Program) where
  -- effects that were read up to the end
  pub file_of : (lines : List (List ℕ)) (read : EffectsRead) → HasRead p Whole lines read → (es : List EffectLine) × IsExecutionText lines es × SaysExecution p es read.effects
  file_of lines read has =
      let says = said p has.effects read (ascend_whole has.opened.rest has.effects has.opened.holds) has.in_turn in
      (has.effects, text_of lines has.effects has.opened, says.1)

  said_at_end : (lines : List (List ℕ)) (s : ExecutionReading) (end : ℕ) (x : List Effect) → Reached p lines s → ClosesExecution s end (Ok x) → (es : List EffectLine) × IsExecutionText lines es × SaysExecution p es x
  said_at_end lines Unbegun end x has c = absurd cc
  said_at_end lines (WithEffects read) end x has c = absurd cc
  said_at_end lines (Ended read) end x has c =
      let same : read.effects ≡ x = cc in
      let whole = file_of lines read has in
      (whole.0, whole.1, subst (SaysExecution p whole.0) same whole.2)

  pub spelled : (file : Ahead) (x : List Effect) → IsExecutionFile p file x → (es : List EffectLine) × IsExecutionText (texts_of file.lines) es × SaysExecution p es x
  spelled file x h = said_at_end (texts_of file.lines) h.state file.end x (reached p file.lines h.state h.leads) h.ends

  -- where the lines of effects that say an execution lead
  pub has_whole : (lines : List (List ℕ)) (es : List EffectLine) (x : List Effect) → IsExecutionText lines es → SaysExecution p es x → HasRead p Whole lines (read_as es x)
  has_whole lines es x h says = record { effects = es; opened = opened_of lines es h; in_turn = said_back p es x says }

  pub read : (file : Ahead) (es : List EffectLine) (x : List Effect) → IsExecutionText (texts_of file.lines) es → SaysExecution p es x → IsExecutionFile p file x
  read file es x h says = record {
    state = Ended (read_as es x);
    leads = leads p file.lines (Ended (read_as es x)) (has_whole (texts_of file.lines) es x h says);
    ends = refl;
  }
