-- What is proved of a run and of a certificate, from what the commands say of their bytes.
use Rattle.std.proofs.Common.{◌≡◌, ◌≢◌, ℕ, zero, suc, ◌<◌, true, List, [], ◌∷◌, length, get_or, slice_get, Some, refl, subst, arith}
use Rattle.ql_classify.specs.Outcome.{IsAccepted}
use Rattle.ql_classify.specs.Targets.{IsLeastLevel, IsOpLevel}
use Rattle.ql_reply.specs.declared.status.Status.TheVariants.{Done}
use Rattle.ql_classify.specs.Least.{AreLeast, AreLevelsOf}
use Rattle.ql_commands.specs.Prove.{ProveSays}
use Rattle.ql_commands.specs.Sources.{IsSourceOf}
use Rattle.ql_lang.specs.declared.program.Program.{Program}
use Rattle.ql_lang.specs.Programs.{Source, source_of}
use Rattle.ql_levels.specs.Lists.{LevelLists}
use Rattle.ql_levels.specs.declared.level.Level.{Level}
use Rattle.ql_levels.specs.declared.level.Level.TheVariants.{Strong}
use Rattle.ql_parse.specs.Parsing.{IsProgramText}
use Rattle.ql_running.specs.declared.form.Form.{Form}
use Rattle.ql_running.specs.Forms.{format_of}
use Rattle.ql_running.specs.Runs.{ReportsRun}
use Rattle.ql_typing.specs.Operations.{uses_op}
use Rattle.ql_typing.specs.Programs.{program_faults}
use Rattle.ql_claim.specs.Headline.{IsProvedCertificate, IsProvedRun, UseNoStrong}
use Rattle.ql_claim.proofs.OneLevel.{of-op}

-- an item that is there
slice_get-within : {A : Type 0} (xs : List A) (k : ℕ) (a : A) → slice_get xs k ≡ Some a → k < length xs
slice_get-within [] k a at = absurd (cc)
slice_get-within (x ∷ xs) zero a at = omega arith
slice_get-within (x ∷ xs) (suc k) a at = let more = slice_get-within xs k a at in omega (arith, more)

slice_get-get_or : {A : Type 0} (xs : List A) (k : ℕ) (a : A) → slice_get xs k ≡ Some a → get_or xs k a ≡ a
slice_get-get_or [] k a at = absurd (cc)
slice_get-get_or (x ∷ xs) zero a at = let same : x ≡ a = cc in same
slice_get-get_or (x ∷ xs) (suc k) a at = slice_get-get_or xs k a at

no-strong : (weak : (p : Program) → program_faults p ≡ [] → IsAccepted p → (d o : ℕ) (level : Level) → uses_op p d o ≡ true → IsOpLevel p o level → level ≢ Strong)
    → (p : Program) → program_faults p ≡ [] → (levels : LevelLists) → AreLevelsOf p levels → UseNoStrong p levels
no-strong weak p typed levels are d o uses at =
    let less : o < length levels.ops = slice_get-within levels.ops o Strong at in
    let same : get_or levels.ops o Strong ≡ Strong = slice_get-get_or levels.ops o Strong at in
    weak p typed are.accepted d o Strong uses (subst (λ (l : Level). IsOpLevel p o l) same (of-op (IsLeastLevel p) levels are.first o less)) refl

pub proved-run : (weak : (p : Program) → program_faults p ≡ [] → IsAccepted p → (d o : ℕ) (level : Level) → uses_op p d o ≡ true → IsOpLevel p o level → level ≢ Strong)
    → (form : Form) (source file text : List ℕ) → ReportsRun (format_of form) source file text → IsProvedRun form source file text
proved-run weak form source file text told = record {
  program = told.program;
  is_source = told.is_source;
  schedule = told.schedule;
  is_schedule = told.is_schedule;
  levels = told.levels;
  are_least = told.are_least.least;
  use_no_strong = no-strong weak told.program told.is_source.1 told.levels told.are_least;
  replies = told.prints.replies;
  last = told.prints.last;
  is_run = told.prints.run;
  is_shown = told.prints.printed;
  operations = told.prints.sound.operations;
  transactions = told.prints.sound.transactions;
  answers = told.prints.sound.answers;
}

module _ (tree : (bytes : List ℕ) (s t : Source) → IsProgramText bytes s → IsProgramText bytes t → s ≡ t)
    (one : (p q : Program) → source_of p ≡ source_of q → (l k : LevelLists) → AreLeast p l → AreLeast q k → l ≡ k)
    (weak : (p : Program) → program_faults p ≡ [] → IsAccepted p → (d o : ℕ) (level : Level) → uses_op p d o ≡ true → IsOpLevel p o level → level ≢ Strong) where
  pub proved-certificate : (source text : List ℕ) → ProveSays source Done text → IsProvedCertificate source text
  proved-certificate source text says =
      let p = says.0 in
      let are = says.3.least in
      let same : (q : Program) → IsSourceOf source q → source_of q ≡ source_of p = λ q is. tree source (source_of q) (source_of p) is.0 says.1.0 in
      record {
        program = p;
        is_source = says.1;
        levels = says.2;
        are_least = are;
        use_no_strong = no-strong weak p says.1.1 says.2 says.3;
        are_only = λ q others is others_least. one q p (same q is) others says.2 others_least are;
        sections = says.4.sections;
        are_refuted = says.4.of_targets;
        is_shown = says.4.printed;
        is_read = says.4.spells;
      }
