-- What a finding says of its target's levels, and which answer the findings give.
use Rattle.std.proofs.Common.{◌≡◌, ℕ, zero, suc, ◌+◌, ◌<◌, true, false, inl, inr, List, [], ◌∷◌, Bool, length, None, Option, Some, slice_get, refl, sym, subst, arith}
use Rattle.std.specs.Bool.{MatchBool}
use Rattle.std.specs.List.{All}
use Rattle.std.proofs.lemmas.List.Elements.{All-push}
use Rattle.std.proofs.lemmas.Option.{slice_get_past, slice_get_within}
use Rattle.std.proofs.lemmas.Bool.{cases_lt}
use Rattle.ql_base.specs.declared.ids.OpId.{OpId}
use Rattle.ql_classify.proofs.OneOutcome.{one_op_level, one_outcome}
use Rattle.ql_classify.specs.Finding.{IsFinding, IsHighest, IsOfTarget}
use Rattle.ql_counter.specs.Countermodels.{IsSatisfiedBy}
use Rattle.ql_classify.specs.Outcome.{OpHasLevel, Passes, Test, TxnHasLevel}
use Rattle.ql_classify.specs.Targets.{IsLeastLevel, IsOpLevel, IsTxnLevel}
use Rattle.ql_classify.specs.declared.classless.Classless.TheVariants as classless
use Rattle.ql_classify.specs.declared.finding.Finding.{Finding}
use Rattle.ql_classify.specs.declared.finding.Finding.TheVariants.{Least, NoLevel}
use Rattle.ql_reply.specs.declared.status.Status.{Status}
use Rattle.ql_reply.specs.declared.status.Status.TheVariants.{Done, No, Bad, ReadFault, WriteFault, Usage, TooLarge}
use Rattle.ql_commands.specs.Sources.{IsSourceOf}
use Rattle.ql_ground.specs.declared.goal.Goal.{Goal}
use Rattle.ql_ground.specs.declared.goal.Goal.TheVariants.{OpAt, TxnAt}
use Rattle.ql_lang.specs.declared.program.Program.{Program}
use Rattle.ql_lang.specs.declared.program.TxnDecl.{TxnDecl}
use Rattle.ql_levels.specs.declared.level.Level.{Level}
use Rattle.ql_levels.specs.declared.level.Level.TheVariants.{Strong}
use Rattle.ql_levels.specs.declared.level.TxnLevel.{TxnLevel}
use Rattle.ql_levels.specs.declared.level.TxnLevel.TheVariants.{Rr}
use Rattle.ql_typing.specs.Operations.{all_ops, names_op, uses_op}
use Rattle.ql_warnings.specs.Warnings.{AreFindings, HasLevel}
use Rattle.ql_explanation.specs.Explanation.{HasLeastLevel, HasAllLevels, IsStatusOf, LacksLevel, IsStrongFinding, IsStrongIn, SaysBy}

-- a list's item
item_at : {X : Type 0} (xs : List X) (k : ℕ) → k < length xs → (x : X) × (slice_get xs k ≡ Some x)
item_at [] k less = absurd (omega (arith, less))
item_at (x ∷ xs) zero less = (x, refl)
item_at (x ∷ xs) (suc k) less = item_at xs k (omega (arith, less))

module _ (p : Program) where
  passes_one : (t : Test) → Passes p t → All (Passes p) (t ∷ [])
  passes_one t passes = All-push (Passes p) [] t (λ k d less. absurd (omega (arith, less))) passes

  -- where the highest level isn't enough, no level is the target's least one
  no_op_level : (o : ℕ) (g : Goal) (a : List Bool) → IsOfTarget p o g → IsHighest g → IsSatisfiedBy p g a → o < length (all_ops p.types) → (level : Level) → IsOpLevel p o level → ⊥
  no_op_level o (OpAt n highest) a of is satisfied less level least =
      one_outcome p (OpHasLevel o ∷ []) (classless.NoLevel o a) (passes_one (OpHasLevel o) (level, least))
      (inl (refl, subst (λ k. IsSatisfiedBy p (OpAt (record { 0 = k }) Strong) a) (sym of.0) (subst (λ (l : Level). IsSatisfiedBy p (OpAt n l) a) is satisfied)))
  no_op_level o (TxnAt d highest) a of is satisfied less level least = absurd (omega (arith, of.0, less))

  no_txn_level : (d : ℕ) (g : Goal) (a : List Bool) → IsOfTarget p (length (all_ops p.types) + d) g → IsHighest g → IsSatisfiedBy p g a → (level : TxnLevel) → IsTxnLevel p d level → ⊥
  no_txn_level d (OpAt n highest) a of is satisfied level least = absurd (omega (arith, of.0, of.1))
  no_txn_level d (TxnAt n highest) a of is satisfied level least =
      let same : d ≡ n.0 = omega (arith, of.0) in
      one_outcome p (TxnHasLevel d ∷ []) (classless.NoLevel (length (all_ops p.types) + d) a) (passes_one (TxnHasLevel d) (level, least))
      (inl (refl, subst (λ k. IsSatisfiedBy p (TxnAt (record { 0 = k }) Rr) a) (sym same) (subst (λ (l : TxnLevel). IsSatisfiedBy p (TxnAt n l) a) is satisfied)))

  -- ---- strong operations

  -- an operation's finding that is strong, and one that isn't
  pub strong_level : (o : ℕ) (f : Finding) → IsFinding p o f → IsStrongFinding f → IsOpLevel p o Strong
  strong_level o (Least (OpAt n level) below) is strong = subst (λ k. IsOpLevel p k Strong) (sym is.0.0) (subst (λ (l : Level). IsOpLevel p n.0 l) strong is.1)
  strong_level o (Least (TxnAt d level) below) is strong = absurd strong
  strong_level o (NoLevel u) is strong = absurd strong

  pub other_level : (o : ℕ) (f : Finding) → o < length (all_ops p.types) → IsFinding p o f → (IsStrongFinding f → ⊥) → IsOpLevel p o Strong → ⊥
  other_level o (Least (OpAt n level) below) less is other strong = other (one_op_level p o level Strong (subst (λ k. IsOpLevel p k level) (sym is.0.0) is.1) strong)
  other_level o (Least (TxnAt d level) below) less is other strong = absurd (omega (arith, is.0.0, less))
  other_level o (NoLevel u) less is other strong = no_op_level o u.goal u.assignment is.0 is.1 is.2 less Strong strong

  -- whether a transaction uses an operation that is strong, where it uses it
  pub strong_use : (findings : List Finding) (d : ℕ) (o : OpId) (f : Finding) (strong : Bool) → AreFindings p findings → o.0 < length (all_ops p.types) → slice_get findings o.0 ≡ Some f → uses_op p d o.0 ≡ true
      → MatchBool strong (IsStrongFinding f) (IsStrongFinding f → ⊥) → MatchBool strong (IsStrongIn p d o) (IsStrongIn p d o → ⊥)
  strong_use findings d o f true are known here used is = record { known = known; used = used; strong = strong_level o.0 f (are.each o.0 f here) is }
  strong_use findings d o f false are known here used other = λ is. other_level o.0 f known (are.each o.0 f here) other is.strong

  -- a transaction that uses an operation is one of the program's
  pub txn_known : (d o : ℕ) → uses_op p d o ≡ true → d < length p.txns
  txn_known d o used = elim (cases_lt d (length p.txns)) [
    | inl less ↦ less
    | inr past ↦ absurd (none (subst (λ (t : Option TxnDecl). names_op t (slice_get (all_ops p.types) o) ≡ true) (slice_get_past p.txns d past) used))
  ] where
    none : names_op None (slice_get (all_ops p.types) o) ≡ true → ⊥
    none e = absurd (cc)

  -- ---- the answer

  module _ (findings : List Finding) (are : AreFindings p findings) where
    least_level : (target : ℕ) (f : Finding) → IsFinding p target f → HasLevel f → HasLeastLevel p target
    least_level target (Least g below) is has = (g, is.0, is.1)
    least_level target (NoLevel u) is has = absurd has

    no_level_of : (target : ℕ) (g top : Goal) (a : List Bool) → IsOfTarget p target top → IsHighest top → IsSatisfiedBy p top a → IsOfTarget p target g → IsLeastLevel p g → ⊥
    no_level_of target (OpAt o level) top a of is satisfied same least =
        no_op_level target top a of is satisfied (omega (arith, same.0, same.1)) level (subst (λ k. IsOpLevel p k level) (sym same.0) least)
    no_level_of target (TxnAt d level) top a of is satisfied same least =
        no_txn_level d.0 top a (subst (λ k. IsOfTarget p k top) same.0 of) is satisfied level least

    no_level : (target : ℕ) (f : Finding) → IsFinding p target f → (HasLevel f → ⊥) → HasLeastLevel p target → ⊥
    no_level target (Least g below) is none found = none tt
    no_level target (NoLevel u) is none found = no_level_of target found.0 u.goal u.assignment is.0 is.1 is.2 found.1 found.2

    pub refused_level : ((k : ℕ) × (f : Finding) × (slice_get findings k ≡ Some f) × (HasLevel f → ⊥)) → LacksLevel p
    refused_level (k, f, here, none) =
        inl (k, subst (λ n. k < n) are.all (slice_get_within findings k f here), no_level k f (are.each k f here) none)

    pub accepted : ((k : ℕ) (f : Finding) → slice_get findings k ≡ Some f → HasLevel f) → ((d : ℕ) (o : OpId) → d < length p.txns → IsStrongIn p d o → ⊥) → HasAllLevels p
    accepted levels weak = record {
      levels = λ target less.
          let found = item_at findings target (subst (λ n. target < n) (sym are.all) less) in
          least_level target found.0 (are.each target found.0 found.1) (levels target found.0 found.1);
      weak = λ d o is. weak d o (txn_known d o.0 is.used) is;
    }

-- what is said with an answer, in any form of explanation
pub explained : (Explains : List ℕ → Program → List ℕ → Type 0) (source text : List ℕ) (p : Program) (answer : Status) → IsSourceOf source p → IsStatusOf p answer → Explains source p text
    → SaysBy Explains source answer text
explained Explains source text p Done of is told = (p, of, is, told)
explained Explains source text p No of is told = (p, of, is, told)
explained Explains source text p Bad of is told = absurd is
explained Explains source text p ReadFault of is told = absurd is
explained Explains source text p WriteFault of is told = absurd is
explained Explains source text p Usage of is told = absurd is
explained Explains source text p TooLarge of is told = absurd is
