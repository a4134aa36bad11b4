-- The strong operations that a transaction uses, one after another.
use Rattle.std.proofs.Common.{◌≡◌, ℕ, ◌+◌, ◌<◌, ◌≤◌, inl, inr, List, [], ◌∷◌, ◌++◌, length, get_or, map, sym, ap, subst, arith}
use Rattle.std.specs.List.{All, Contains}
use Rattle.std.proofs.lemmas.Bool.{cases_lt}
use Rattle.std.proofs.lemmas.List.{map-append}
use Rattle.std.proofs.lemmas.List.Elements.{All-head, All-push, All-tail, Contains-append_left, Contains-push}
use Rattle.ql_base.specs.IdLists.{IsAscending, IsBelowAll}
use Rattle.ql_base.specs.declared.ids.OpId.{OpId}
use Rattle.ql_lang.specs.declared.program.Program.{Program}
use Rattle.ql_typing.specs.Operations.{all_ops}
use Rattle.ql_explanation.specs.Explanation.{AreStrongIn, IsStrongIn}
use Rattle.ql_explanation.specs.Parts.{AreStrongBelow}

abbrev number : OpId → ℕ
number o = o.0

below_pushed : (id last : ℕ) (ids : List ℕ) → id < last → IsBelowAll id ids → IsBelowAll id (ids ++ last ∷ [])
below_pushed id last [] less below = (less, tt)
below_pushed id last (other ∷ ids) less below = (below.0, below_pushed id last ids less below.1)

-- a greater number after ascending ones
ascending_pushed : (last : ℕ) (uses : List OpId) → All (λ (o : OpId). o.0 < last) uses → IsAscending (map number uses) → IsAscending (map number uses ++ last ∷ [])
ascending_pushed last [] below ascending = (tt, tt)
ascending_pushed last (o ∷ uses) below ascending =
    (below_pushed o.0 last (map number uses) (All-head (λ (x : OpId). x.0 < last) o uses below) ascending.0, ascending_pushed last uses (All-tail (λ (x : OpId). x.0 < last) o uses below) ascending.1)

module _ (p : Program) (d : ℕ) where
  -- an operation of a number
  at_number : (o other : OpId) → o.0 ≡ other.0 → o ≡ other
  at_number o other same = let made : ℕ → OpId = λ n. record { 0 = n } in ap made same

  later : (n : ℕ) (uses : List OpId) → All (λ (o : OpId). o.0 < n) uses → All (λ (o : OpId). o.0 < n + 1) uses
  later n uses all k e less = let here : (get_or uses k e).0 < n = all k e less in omega arith

  pub none_below : AreStrongBelow p d 0 []
  none_below = record {
    sound = λ k e less. absurd (omega (arith, less));
    complete = λ o less is. absurd (omega (arith, less));
    ascending = tt;
    below = λ k e less. absurd (omega (arith, less));
  }

  pub use_pushed : (o : OpId) (old new : List OpId) → IsStrongIn p d o → new ≡ old ++ o ∷ [] → AreStrongBelow p d o.0 old → AreStrongBelow p d (o.0 + 1) new
  use_pushed o old new is longer are = subst (AreStrongBelow p d (o.0 + 1)) (sym longer) (record {
    sound = All-push (IsStrongIn p d) old o are.sound is;
    complete = λ other less strong. elim (cases_lt other.0 o.0) [
      | inl sooner ↦ Contains-append_left old (o ∷ []) other (are.complete other sooner strong)
      | inr past ↦ subst (Contains (old ++ o ∷ [])) (sym (at_number other o (omega arith))) (Contains-push old o)
    ];
    ascending = subst IsAscending (sym (map-append number old (o ∷ []))) (ascending_pushed o.0 old are.below are.ascending);
    below = All-push (λ (x : OpId). x.0 < o.0 + 1) old o (later o.0 old are.below) (omega arith);
  })

  pub use_skipped : (o : OpId) (uses : List OpId) → (IsStrongIn p d o → ⊥) → AreStrongBelow p d o.0 uses → AreStrongBelow p d (o.0 + 1) uses
  use_skipped o uses other are = record {
    sound = are.sound;
    complete = λ x less strong. elim (cases_lt x.0 o.0) [
      | inl sooner ↦ are.complete x sooner strong
      | inr past ↦ absurd (other (subst (IsStrongIn p d) (at_number x o (omega arith)) strong))
    ];
    ascending = are.ascending;
    below = later o.0 uses are.below;
  }

  -- one more that isn't among them
  pub none_more : (o : OpId) → ((x : OpId) → x.0 < o.0 → IsStrongIn p d x → ⊥) → (IsStrongIn p d o → ⊥) → (x : OpId) → x.0 < o.0 + 1 → IsStrongIn p d x → ⊥
  none_more o before other x less strong = elim (cases_lt x.0 o.0) [
    | inl sooner ↦ before x sooner strong
    | inr past ↦ other (subst (IsStrongIn p d) (at_number x o (omega arith)) strong)
  ]

  pub all_uses : (count : ℕ) (uses : List OpId) → length (all_ops p.types) ≤ count → AreStrongBelow p d count uses → AreStrongIn p d uses
  all_uses count uses past are = record { sound = are.sound; complete = λ o strong. are.complete o (omega (arith, strong.known)) strong; ascending = are.ascending }
