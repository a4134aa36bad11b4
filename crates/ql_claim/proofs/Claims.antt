-- The headline, from what `quelea` wrote; and the answer of `check` to what `prove` wrote.
use Rattle.std.proofs.Common.{◌≡◌, ◌≢◌, inl, inr, ℕ, ◌≤◌, true, length, List, [], ◌∷◌, ◌++◌, Option, Some, Result, Ok, Err, codes, refl, sym, ap, subst, ◌∙◌}
use Rattle.std.specs.Prelude.{IfOk}
use Rattle.std.proofs.lemmas.List.{append_cancel_left}
use Rattle.ql_base.specs.declared.no_memory.NoMemory.{NoMemory}
use Rattle.ql_ports.specs.Faults.{Rose}
use Rattle.ql_ports.specs.Written.{appended}
use Rattle.ql_app.specs.declared.outcome.Limits.{Limits}
use Rattle.ql_reply.specs.declared.status.Status.{Status}
use Rattle.ql_reply.specs.declared.status.Status.TheVariants.{Done, No, Bad, ReadFault, WriteFault, Usage, TooLarge}
use Rattle.ql_app.specs.declared.words.Command.TheVariants.{Prove}
use Rattle.ql_app.specs.declared.words.PairCommand.TheVariants.{Check}
use Rattle.ql_app.specs.Outcome.{AreHeld, IsAnswered, NoneRose, Says}
use Rattle.ql_reply.specs.Wrote.{Wrote}
use Rattle.ql_claim.specs.RunWritten.{WritesRun}
use Rattle.ql_app.specs.Words.{NamedRequest, IsRequest, TwoFiles}
use Rattle.ql_classify.specs.Outcome.{IsAccepted}
use Rattle.ql_classify.specs.Targets.{IsOpLevel}
use Rattle.ql_commands.specs.Prove.{ProveSays}
use Rattle.ql_commands.proofs.Accepted.{accepted_again}
use Rattle.ql_classify.specs.Least.{AreLeast}
use Rattle.ql_lang.specs.declared.program.Program.{Program}
use Rattle.ql_lang.specs.Programs.{Source, source_of}
use Rattle.ql_levels.specs.Lists.{LevelLists}
use Rattle.ql_levels.specs.declared.level.Level.{Level}
use Rattle.ql_levels.specs.declared.level.Level.TheVariants.{Strong}
use Rattle.ql_parse.specs.Parsing.{IsProgramText}
use Rattle.ql_typing.specs.Operations.{uses_op}
use Rattle.ql_typing.specs.Programs.{program_faults}
use Rattle.ql_claim.specs.Headline.{Headline}
use Rattle.ql_claim.specs.InTurn.{AreInTurn, NothingFailed}
use Rattle.ql_claim.proofs.Asked.{asks-check, asks-prove, said-of-file, said-of-files}
use Rattle.ql_claim.proofs.Certificates.{proved-certificate, proved-run}

module _ (limits : Limits) (words : List (List ℕ)) (held : List ℕ → Option (List ℕ)) (before after : List ℕ → ℕ) (was is : Option (List ℕ)) (faults sums : ℕ)
    (wrote : Wrote (Says limits words held before after) was is faults sums Done) (name source start : List ℕ) (are : words ≡ codes "prove" ∷ name ∷ []) (name_held : held name ≡ Some source) (begun : was ≡ Some start) where
  -- what `prove` appended is said of the source
  pub proved : (text : List ℕ) × (is ≡ Some (start ++ text)) × (length source ≤ limits.file) × ProveSays source Done text
  proved = by wrote.1 wrote.2
    where
      by : Says limits words held before after Done wrote.0 → is ≡ appended was wrote.0 → (text : List ℕ) × (is ≡ Some (start ++ text)) × (length source ≤ limits.file) × ProveSays source Done text
      by (inl asks) put =
          let told = said-of-file limits held Done wrote.0 Prove name source name_held asks.0 (asks-prove words name are asks.0 asks.1) asks.2 in
          (wrote.0, put ∙ ap (λ (w : Option (List ℕ)). appended w wrote.0) begun, told.0, told.1)
      by (inr usage) put = absurd (let never : Done ≡ Usage = usage.0 in cc)

module _ (tree : (bytes : List ℕ) (s t : Source) → IsProgramText bytes s → IsProgramText bytes t → s ≡ t) where
  module _ (one : (p q : Program) → source_of p ≡ source_of q → (l k : LevelLists) → AreLeast p l → AreLeast q k → l ≡ k)
      (weak : (p : Program) → program_faults p ≡ [] → IsAccepted p → (d o : ℕ) (level : Level) → uses_op p d o ≡ true → IsOpLevel p o level → level ≢ Strong)
      (limits : Limits) (words : List (List ℕ)) (held : List ℕ → Option (List ℕ)) (before after : List ℕ → ℕ) (was is : Option (List ℕ)) (faults sums : ℕ) where
    pub claimed : (Wrote (Says limits words held before after) was is faults sums Done → WritesRun words held was is)
        → Wrote (Says limits words held before after) was is faults sums Done → Headline words held was is
    claimed runs wrote = record {
      run = λ form name other source file start are name_held other_held begun.
          (let shown = runs wrote form name other source file start are name_held other_held begun in
          (shown.0, shown.1, proved-run weak form source file shown.0 shown.2));
      prove = λ name source start are name_held begun.
          (let told = proved limits words held before after was is faults sums wrote name source start are name_held begun in
          (told.0, told.1, proved-certificate tree one weak source told.0 told.3));
    }

  -- ---- `check` after `prove`

  module _ (limits : Limits) (words : List (List ℕ)) (held : List ℕ → Option (List ℕ)) (before after : List ℕ → ℕ) (was is : Option (List ℕ)) (faults sums : ℕ)
      (wrote : Wrote (Says limits words held before after) was is faults sums Done)
      (next : List (List ℕ)) (next_held : List ℕ → Option (List ℕ)) (turn : AreInTurn words held was is next next_held) where
    printed : (length turn.source ≤ limits.file) × ProveSays turn.source Done turn.certificate
    printed =
        let told = proved limits words held before after was is faults sums wrote turn.name turn.source turn.before turn.proves turn.source_held turn.began in
        let both : Some (turn.before ++ told.0) ≡ Some (turn.before ++ turn.certificate) = sym told.1 ∙ turn.wrote in
        let ends : turn.before ++ told.0 ≡ turn.before ++ turn.certificate = cc in
        let same : told.0 ≡ turn.certificate = append_cancel_left turn.before told.0 turn.certificate ends in
        (told.2, subst (λ (text : List ℕ). ProveSays turn.source Done text) same told.3)

    module _ (next_before next_after : List ℕ → ℕ) (next_was next_is : Option (List ℕ)) (next_faults next_sums : ℕ) where
      -- the files are in their grammars
      answered : (result : Result Status NoMemory) → length turn.certificate ≤ limits.second
          → ((call : NamedRequest) → IsRequest next call → AreHeld limits next_held call → NoneRose next_before next_after call → (Rose next_faults next_sums → ⊥) → IsAnswered result)
          → NothingFailed next_before next_after turn.again turn.other next_faults next_sums → IsAnswered result
      answered result within complete nothing =
          complete (TwoFiles Check turn.again turn.other) (turn.checks, tt, turn.again_named, turn.other_named)
          (turn.source, turn.again_held, printed.0, (turn.certificate, turn.certificate_held, within, ((printed.1.0, printed.1.1), (printed.1.4.sections, printed.1.4.spells))))
          (nothing.first_file, nothing.second_file) nothing.sink

      not-no : Wrote (Says limits next next_held next_before next_after) next_was next_is next_faults next_sums No → No ≡ Done
      not-no told = by told.1
        where
          by : Says limits next next_held next_before next_after No told.0 → No ≡ Done
          by (inl asks) =
              let says = said-of-files limits next_held No told.0 Check turn.again turn.other turn.source turn.certificate turn.again_held turn.certificate_held
              asks.0 (asks-check next turn.again turn.other turn.checks asks.0 asks.1) asks.2 in
              accepted_again tree turn.source turn.certificate told.0 No printed.1 says
          by (inr usage) = absurd (let never : No ≡ Usage = usage.0 in cc)

      accepts : (status : Status) → Wrote (Says limits next next_held next_before next_after) next_was next_is next_faults next_sums status → IsAnswered (Ok status) → status ≡ Done
      accepts Done told is = refl
      accepts No told is = not-no told
      accepts Bad told is = absurd is
      accepts ReadFault told is = absurd is
      accepts WriteFault told is = absurd is
      accepts Usage told is = absurd is
      accepts TooLarge told is = absurd is

      pub accepted : (status : Status) → length turn.certificate ≤ limits.second
          → ((call : NamedRequest) → IsRequest next call → AreHeld limits next_held call → NoneRose next_before next_after call → (Rose next_faults next_sums → ⊥) → IsAnswered (Ok status))
          → Wrote (Says limits next next_held next_before next_after) next_was next_is next_faults next_sums status
          → NothingFailed next_before next_after turn.again turn.other next_faults next_sums → status ≡ Done
      accepted status within complete told nothing = accepts status told (answered (Ok status) within complete nothing)

-- ---- calls

-- what is claimed of a call with status 0, where it ended
pub claim-of : (May : Status → List ℕ → Type 0) (was is : Option (List ℕ)) (faults sums : ℕ) (Claim : Type 0) (result : Result Status NoMemory)
    → IfOk result (Wrote May was is faults sums) → (Wrote May was is faults sums Done → Claim) → IfOk result (λ status. status ≡ Done → Claim)
claim-of May was is faults sums Claim (Ok status) wrote law = λ done. law (subst (Wrote May was is faults sums) done wrote)
claim-of May was is faults sums Claim (Err error) wrote law = tt
