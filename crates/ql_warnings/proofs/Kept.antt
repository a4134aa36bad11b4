-- Warnings that are kept, and of what they are.
use Rattle.std.proofs.Common.{◌≡◌, ℕ, ◌<◌, inl, inr, List, ◌++◌, length, get_or, Result, Ok, Err, refl, sym, subst, ◌∙◌, arith}
use Rattle.std.specs.Prelude.{IfOk, OnOk}
use Rattle.ql_base.specs.declared.no_memory.NoMemory.{NoMemory}
use Rattle.std.proofs.lemmas.List.Elements.{All-append, Contains-append_left, Contains-append_right}
use Rattle.std.proofs.lemmas.Option.{same_Some, slice_get_within}
use Rattle.std.specs.List.{All, Contains}
use Rattle.ql_lang.specs.Formulas.{BothOf, IfThen, Resolved, Statement}
use Rattle.ql_lang.specs.declared.contract.Var.{Var}
use Rattle.ql_lang.specs.declared.formula.OpChoice.{OpChoice}
use Rattle.ql_lang.specs.declared.program.Program.{Program}
use Rattle.ql_ground.specs.declared.goal.Goal.{Goal}
use Rattle.ql_ground.specs.declared.goal.Goal.TheVariants.{OpAt, TxnAt}
use Rattle.ql_warnings.specs.Brackets.{IsUnbracketed}
use Rattle.ql_warnings.specs.Kept.{AreBracketWarnings, AreNameWarnings, IsBracketWarning, IsNameWarning, IsLeastBetween, PremisesKept}
use Rattle.ql_warnings.specs.Places.{IsPlaceOf}
use Rattle.ql_warnings.specs.Premises.{IsTargetContract}
use Rattle.ql_warnings.specs.Warnings.{AreWarnings, Declares, IsBeforeNext, IsSyntactic, IsNamedAs, IsOfPremise, IsOfPremises, IsTargetName, IsWarning}
use Rattle.ql_warnings.specs.declared.warning.Place.{Place}
use Rattle.ql_warnings.specs.declared.warning.Warning.{Warning}
use Rattle.ql_warnings.specs.declared.warning.Warning.TheVariants.{AsksNothing, NamedAsOperation, NeverApplies, RuledOut, Unbracketed, Unneeded}

named_is : (source : List ℕ) (p : Program) (g : Goal) (vars : List Var) (at : ℕ) → Declares p g vars at → (w : Warning) → IsNameWarning p vars w → IsWarning source p g w
named_is source p g vars at d (NamedAsOperation v op) h = (vars, at, d, h)
named_is source p g vars at d (Unbracketed place) h = absurd h
named_is source p g vars at d AsksNothing h = absurd h
named_is source p g vars at d (NeverApplies place) h = absurd h
named_is source p g vars at d (Unneeded place) h = absurd h
named_is source p g vars at d (RuledOut op e) h = absurd h

pub all_named : (source : List ℕ) (p : Program) (g : Goal) (vars : List Var) (at : ℕ) (ws : List Warning) → Declares p g vars at → All (IsNameWarning p vars) ws → All (IsWarning source p g) ws
all_named source p g vars at ws d all k w less = named_is source p g vars at d (get_or ws k w) (all k w less)

module _ (source : List ℕ) (p : Program) (g : Goal) (vars : List Var) (at end : ℕ) (d : Declares p g vars at) (next : IsLeastBetween (IsTargetName p) at (length source) end) where
  bracket_is : (w : Warning) → IsBracketWarning source at end w → IsWarning source p g w
  bracket_is (Unbracketed place) h = (vars, at, d, h.0, h.1, λ n is less. omega (arith, h.2, next.least n is less))
  bracket_is (NamedAsOperation v op) h = absurd h
  bracket_is AsksNothing h = absurd h
  bracket_is (NeverApplies place) h = absurd h
  bracket_is (Unneeded place) h = absurd h
  bracket_is (RuledOut op e) h = absurd h

  pub all_brackets : (ws : List Warning) → All (IsBracketWarning source at end) ws → All (IsWarning source p g) ws
  all_brackets ws all k w less = bracket_is (get_or ws k w) (all k w less)

premise_is : (source : List ℕ) (p : Program) (g : Goal) (f : Resolved) → IsTargetContract p g f → (w : Warning) → IsOfPremises source p g f.vars f.body w → IsWarning source p g w
premise_is source p g f is (NeverApplies place) h = (f, is, h)
premise_is source p g f is (Unneeded place) h = (f, is, h)
premise_is source p g f is (NamedAsOperation v op) h = absurd h.2
premise_is source p g f is (Unbracketed place) h = absurd h.2
premise_is source p g f is AsksNothing h = absurd h.2
premise_is source p g f is (RuledOut op e) h = absurd h.2

pub all_premises : (source : List ℕ) (p : Program) (g : Goal) (f : Resolved) (ws : List Warning) → IsTargetContract p g f → All (IsOfPremises source p g f.vars f.body) ws → All (IsWarning source p g) ws
all_premises source p g f ws is all k w less = premise_is source p g f is (get_or ws k w) (all k w less)

-- ---- all of a contract

-- a goal's target has one contract as it is written, and one name
one_vars : (p : Program) (g : Goal) (vars others : List Var) (at other : ℕ) → Declares p g vars at → Declares p g others other → vars ≡ others
one_vars p (OpAt o level) vars others at other x y = same_Some vars others (sym x.0 ∙ y.0)
one_vars p (TxnAt n level) vars others at other x y = same_Some vars others (sym x.0 ∙ y.0)

one_name_offset : (p : Program) (g : Goal) (vars others : List Var) (at other : ℕ) → Declares p g vars at → Declares p g others other → at ≡ other
one_name_offset p (OpAt o level) vars others at other x y = same_Some at other (sym x.1 ∙ y.1)
one_name_offset p (TxnAt n level) vars others at other x y = same_Some at other (sym x.1 ∙ y.1)

module _ (source : List ℕ) (p : Program) (g : Goal) (vars : List Var) (at end : ℕ) (d : Declares p g vars at) (next : IsLeastBetween (IsTargetName p) at (length source) end)
    (names brackets rest : List Warning) (named : AreNameWarnings p vars (length vars) names) (joined : AreBracketWarnings source at end brackets) where
  -- an offset before the next target's name
  before_end : (place : Place) → IsPlaceOf source place → IsBeforeNext p at place.at → place.at < end
  before_end place placed before = elim next.some [ inl same ↦ omega (arith, placed.within, same) | inr found ↦ before end found.1 found.0 ]

  among : (w : Warning) → IsSyntactic w → IsWarning source p g w → Contains ((names ++ brackets) ++ rest) w
  among (NamedAsOperation v op) decided is =
      let here : IsNamedAs p vars v op = subst (λ (vs : List Var). IsNamedAs p vs v op) (one_vars p g is.0 vars is.1 at is.2 d) is.3 in
      Contains-append_left (names ++ brackets) rest (NamedAsOperation v op)
      (Contains-append_left names brackets (NamedAsOperation v op) (named.complete v op (slice_get_within vars v here.var here.there) here))
  among (Unbracketed place) decided is =
      let same : is.1 ≡ at = one_name_offset p g is.0 vars is.1 at is.2 d in
      let here : IsUnbracketed source at place.at = subst (λ n. IsUnbracketed source n place.at) same is.4 in
      Contains-append_left (names ++ brackets) rest (Unbracketed place)
      (Contains-append_right names brackets (Unbracketed place)
      (joined.complete place is.3 here (before_end place is.3 (subst (λ n. IsBeforeNext p n place.at) same is.5))))
  among AsksNothing decided is = absurd decided
  among (NeverApplies place) decided is = absurd decided
  among (Unneeded place) decided is = absurd decided
  among (RuledOut op e) decided is = absurd decided

  pub all_warnings : All (IsWarning source p g) rest → AreWarnings source p g ((names ++ brackets) ++ rest)
  all_warnings others = record {
    sound = All-append (IsWarning source p g) (names ++ brackets) rest
        (All-append (IsWarning source p g) names brackets (all_named source p g vars at names d named.sound) (all_brackets source p g vars at end d next brackets joined.sound))
        others;
    complete = among;
  }

-- ---- premises one after another; the last step may run out of memory

pub two_bodies : (source : List ℕ) (p : Program) (g : Goal) (vars : List OpChoice) (s r : Statement) (a b c : List Warning) → PremisesKept source p g vars s a b → PremisesKept source p g vars r b c → PremisesKept source p g vars (BothOf s r) a c
two_bodies source p g vars s r a b c left right whole h all = right whole (λ part m. h part (inr m)) (left whole (λ part m. h part (inl m)) all)

pub premise_first : (source : List ℕ) (p : Program) (g : Goal) (vars : List OpChoice) (s r : Statement) (a found b c : List Warning) → All (IsOfPremise source p g vars s) found → b ≡ a ++ found → PremisesKept source p g vars r b c → PremisesKept source p g vars (IfThen s r) a c
premise_first source p g vars s r a found b c of same rest whole h all =
    rest whole (λ part m. h part (inr m))
    (subst (All (IsOfPremises source p g vars whole)) (sym same) (All-append (IsOfPremises source p g vars whole) a found all (λ k w less. (s, h s (inl refl), of k w less))))

pub two_ok : {A : Type 0} (source : List ℕ) (p : Program) (g : Goal) (vars : List OpChoice) (s r : Statement) (a b c : List Warning) (last : Result A NoMemory) → PremisesKept source p g vars s a b → OnOk last (PremisesKept source p g vars r b c) → OnOk last (PremisesKept source p g vars (BothOf s r) a c)
two_ok source p g vars s r a b c (Ok done) left right = two_bodies source p g vars s r a b c left right
two_ok source p g vars s r a b c (Err e) left right = tt

pub first_ok : {A : Type 0} (source : List ℕ) (p : Program) (g : Goal) (vars : List OpChoice) (s r : Statement) (a found b c : List Warning) (last : Result A NoMemory) → All (IsOfPremise source p g vars s) found → b ≡ a ++ found → OnOk last (PremisesKept source p g vars r b c) → OnOk last (PremisesKept source p g vars (IfThen s r) a c)
first_ok source p g vars s r a found b c (Ok done) of same rest = premise_first source p g vars s r a found b c of same rest
first_ok source p g vars s r a found b c (Err e) of same rest = tt

pub ok_map : {A : Type 0} {P Q : A → Type 0} (last : Result A NoMemory) → ((a : A) → P a → Q a) → IfOk last P → IfOk last Q
ok_map (Ok a) more is = more a is
ok_map (Err e) more is = tt
