-- Soundness, from what `quelea` wrote to `classify` and to `check`.
use Rattle.std.proofs.Common.{◌≡◌, ◌⊎◌, inl, inr, ℕ, ◌≤◌, length, List, [], ◌∷◌, ◌++◌, Option, Some, Result, Ok, Err, codes, ap, subst, ◌∙◌}
use Rattle.std.specs.Prelude.{IfOk}
use Rattle.ql_base.specs.declared.no_memory.NoMemory.{NoMemory}
use Rattle.ql_ports.specs.Written.{appended}
use Rattle.ql_app.specs.declared.outcome.Limits.{Limits}
use Rattle.ql_reply.specs.declared.status.Status.{Status}
use Rattle.ql_reply.specs.declared.status.Status.TheVariants.{Done, No, Usage}
use Rattle.ql_app.specs.declared.words.Command.TheVariants.{Classify}
use Rattle.ql_app.specs.declared.words.PairCommand.TheVariants.{Check}
use Rattle.ql_app.specs.Outcome.{Says}
use Rattle.ql_reply.specs.Wrote.{Wrote}
use Rattle.ql_commands.specs.Check.{CheckSays, order_text}
use Rattle.ql_commands.specs.Classify.{ClassifySays}
use Rattle.ql_verdicts.specs.Commands.{ReportsAccepted}
use Rattle.ql_claim.specs.Headline.{Gained}
use Rattle.ql_claim.specs.Soundness.{IsSoundAnswer, Soundness}
use Rattle.ql_claim.proofs.Asked.{asks-check, asks-classify, said-of-file, said-of-files}
use Rattle.ql_claim.proofs.SoundLines.{IsPrinted, check-sound, levels-printed, order-sound}

-- what was appended to what was there
pub gained : (was is : Option (List ℕ)) (start text : List ℕ) → was ≡ Some start → is ≡ appended was text → is ≡ Some (start ++ text)
gained was is start text begun put = put ∙ ap (λ (w : Option (List ℕ)). appended w text) begun

module _ (limits : Limits) (words : List (List ℕ)) (held : List ℕ → Option (List ℕ)) (before after : List ℕ → ℕ) (was is : Option (List ℕ)) (faults sums : ℕ)
    (name source start : List ℕ) (name_held : held name ≡ Some source) (begun : was ≡ Some start) where
  -- what `classify` appended is printed levels of the source
  pub classified : words ≡ codes "classify" ∷ name ∷ []
      → Wrote (Says limits words held before after) was is faults sums Done → (text : List ℕ) × (is ≡ Some (start ++ text)) × (length source ≤ limits.file) × IsPrinted source text
  classified are wrote = by wrote.1 wrote.2
    where
      by : Says limits words held before after Done wrote.0 → is ≡ appended was wrote.0 → (text : List ℕ) × (is ≡ Some (start ++ text)) × (length source ≤ limits.file) × IsPrinted source text
      by (inl asks) put =
          let said = said-of-file limits held Done wrote.0 Classify name source name_held asks.0 (asks-classify words name are asks.0 asks.1) asks.2 in
          let told : ClassifySays source Done wrote.0 = said.1 in
          (wrote.0, gained was is start wrote.0 begun put, said.0, levels-printed source told.0 told.1 wrote.0 told.2 told.3.least.enough told.4)
      by (inr usage) put = absurd (let never : Done ≡ Usage = usage.0 in cc)

  module _ (other certificate : List ℕ) (other_held : held other ≡ Some certificate) (are : words ≡ codes "check" ∷ name ∷ other ∷ []) where
    pub accepted-all : ((source cert text : List ℕ) → CheckSays source cert Done text → ReportsAccepted source cert Done text)
        → Wrote (Says limits words held before after) was is faults sums Done → Gained start is (IsSoundAnswer (codes " accepted") source)
    accepted-all law wrote = by wrote.1 wrote.2
      where
        by : Says limits words held before after Done wrote.0 → is ≡ appended was wrote.0 → (text : List ℕ) × (is ≡ Some (start ++ text)) × IsSoundAnswer (codes " accepted") source text
        by (inl asks) put =
            let said = said-of-files limits held Done wrote.0 Check name other source certificate name_held other_held asks.0 (asks-check words name other are asks.0 asks.1) asks.2 in
            (wrote.0, gained was is start wrote.0 begun put, check-sound source certificate Done wrote.0 (law source certificate wrote.0 said))
        by (inr usage) put = absurd (let never : Done ≡ Usage = usage.0 in cc)

    pub accepted-some : ((source cert text : List ℕ) → CheckSays source cert No text → ((place : ℕ) × (text ≡ order_text place)) ⊎ ReportsAccepted source cert No text)
        → Wrote (Says limits words held before after) was is faults sums No → Gained start is (IsSoundAnswer (codes " accepted") source)
    accepted-some law wrote = by wrote.1 wrote.2
      where
        sound : (text : List ℕ) → CheckSays source certificate No text → ((place : ℕ) × (text ≡ order_text place)) ⊎ ReportsAccepted source certificate No text → IsSoundAnswer (codes " accepted") source text
        sound text said (inl order) = order-sound source said.0 said.1 order.0 text order.1
        sound text said (inr told) = check-sound source certificate No text told

        by : Says limits words held before after No wrote.0 → is ≡ appended was wrote.0 → (text : List ℕ) × (is ≡ Some (start ++ text)) × IsSoundAnswer (codes " accepted") source text
        by (inl asks) put =
            let said = said-of-files limits held No wrote.0 Check name other source certificate name_held other_held asks.0 (asks-check words name other are asks.0 asks.1) asks.2 in
            (wrote.0, gained was is start wrote.0 begun put, sound wrote.0 said (law source certificate wrote.0 said))
        by (inr usage) put = absurd (let never : No ≡ Usage = usage.0 in cc)

pub all-sound : ((source cert text : List ℕ) → CheckSays source cert Done text → ReportsAccepted source cert Done text)
    → ((source cert text : List ℕ) → CheckSays source cert No text → ((place : ℕ) × (text ≡ order_text place)) ⊎ ReportsAccepted source cert No text)
    → (status : Status) (limits : Limits) (words : List (List ℕ)) (held : List ℕ → Option (List ℕ)) (before after : List ℕ → ℕ) (was is : Option (List ℕ)) (faults sums : ℕ)
    → Wrote (Says limits words held before after) was is faults sums status → Soundness status words held was is
all-sound accepted refused status limits words held before after was is faults sums wrote = record {
  classify = λ name source start done are name_held begun.
      (let printed = classified limits words held before after was is faults sums name source start name_held begun are (subst (Wrote (Says limits words held before after) was is faults sums) done wrote) in
      (printed.0, printed.1, printed.3.sound));
  check = λ name other source certificate start ended are name_held other_held begun. elim ended [
    | inl done ↦ accepted-all limits words held before after was is faults sums name source start name_held begun other certificate other_held are accepted
        (subst (Wrote (Says limits words held before after) was is faults sums) done wrote)
    | inr said_no ↦ accepted-some limits words held before after was is faults sums name source start name_held begun other certificate other_held are refused
        (subst (Wrote (Says limits words held before after) was is faults sums) said_no wrote)
  ];
}

-- what is so of what a call wrote is so where it ended
pub of-call : (May : Status → List ℕ → Type 0) (was is : Option (List ℕ)) (faults sums : ℕ) (Claim : Status → Type 0) (result : Result Status NoMemory)
    → IfOk result (Wrote May was is faults sums) → ((status : Status) → Wrote May was is faults sums status → Claim status) → IfOk result Claim
of-call May was is faults sums Claim (Ok status) wrote law = law status wrote
of-call May was is faults sums Claim (Err error) wrote law = tt
