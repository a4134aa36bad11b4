-- What is known in each scene.
use Rattle.std.proofs.Common.{◌≡◌, ◌≢◌, ℕ, zero, suc, ◌≤◌, Bool, true, false, ◌||◌, nat_eq, inl, inr, List, [], ◌∷◌, length, Option, None, Some, get_or, slice_get, refl, sym, ap, subst, ◌∙◌, arith, eqb-true, eq-eqb}
use Rattle.std.proofs.lemmas.Bool.{and_parts, cases_Bool, or_cases}
use Rattle.std.proofs.lemmas.Option.{get_or_from_slice_get, same_Some, slice_get-get_or, slice_get_past, slice_get_within}
use Rattle.std.specs.List.{All, list_any}
use Rattle.ql_base.specs.IdLists.{has_id}
use Rattle.ql_base.specs.declared.ids.OpId.{OpId}
use Rattle.ql_lang.specs.Formulas.{Statement, Always, Related, BothOf, IfThen, InOneTxn}
use Rattle.ql_lang.specs.Formulas as formula
use Rattle.ql_lang.specs.Trees.{Basic}
use Rattle.ql_lang.specs.declared.formula.OpChoice.{OpChoice}
use Rattle.ql_lang.specs.declared.formula.OpChoice.TheVariants.{Any, OneOf}
use Rattle.ql_lang.specs.declared.formula.Term.{Term}
use Rattle.ql_lang.specs.declared.formula.Term.TheVariants.{Cur, Var}
use Rattle.ql_lang.specs.declared.program.Program.{Program}
use Rattle.ql_typing.specs.Operations.{all_ops, op_kinds}
use Rattle.ql_ground.specs.declared.goal.Goal.{Goal}
use Rattle.ql_ground.specs.declared.goal.Goal.TheVariants.{OpAt, TxnAt}
use Rattle.ql_exec.specs.declared.effect.Effect.{Effect}
use Rattle.ql_exec.specs.Effects.{both, effect_at, one}
use Rattle.ql_exec.specs.Relations.{sameobj}
use Rattle.ql_formula.specs.Truth.{Chosen, in_range, named, place_of, statement_true}
use Rattle.ql_warnings.specs.Clashes.{HaveNoCommonType, CantHold, choice_may, is_operation_of, may_be, has_kind}
use Rattle.ql_warnings.specs.Known.{Entails, IsKnownAt, IsPartOf}
use Rattle.ql_warnings.specs.Names.{is_on_object, is_order, is_symmetric, is_within}
use Rattle.ql_warnings.specs.Premises.{IsAlways, IsPart, IsScene, IsUnneeded, known_statement}
use Rattle.ql_warnings.specs.declared.known.Known.{Known}
use Rattle.ql_warnings.proofs.Names.{no_order_back, on_object, within_holds}
use Rattle.ql_warnings.proofs.Names as names
use Rattle.ql_lang.specs.declared.program.TypeDecl.{TypeDecl}
use Rattle.ql_ground.proofs.Typing.{count_types}

-- an item of a list
pub all_at : {A : Type 0} (P : A → Type 0) (xs : List A) (k : ℕ) (a : A) → All P xs → slice_get xs k ≡ Some a → P a
all_at P xs k a all at = subst P (get_or_from_slice_get xs k a a at) (all k a (slice_get_within xs k a at))

-- ---- parts of a statement

pub parts_true : (x : List Effect) (inside : ℕ → Bool) (places : List ℕ) (cur : ℕ) (s part : Statement) → IsPart s part → statement_true x inside places cur s ≡ true → statement_true x inside places cur part ≡ true
parts_true x inside places cur (BothOf p q) part (inl l) h = parts_true x inside places cur p part l (and_parts (statement_true x inside places cur p) (statement_true x inside places cur q) h).0
parts_true x inside places cur (BothOf p q) part (inr r) h = parts_true x inside places cur q part r (and_parts (statement_true x inside places cur p) (statement_true x inside places cur q) h).1
parts_true x inside places cur Always part e h = subst (λ s. statement_true x inside places cur s ≡ true) e h
parts_true x inside places cur (Related r t u) part e h = subst (λ s. statement_true x inside places cur s ≡ true) e h
parts_true x inside places cur (formula.OneOf p q) part e h = subst (λ s. statement_true x inside places cur s ≡ true) e h
parts_true x inside places cur (IfThen p q) part e h = subst (λ s. statement_true x inside places cur s ≡ true) e h
parts_true x inside places cur (InOneTxn ms os) part e h = subst (λ s. statement_true x inside places cur s ≡ true) e h

pub parts_known : (x : List Effect) (inside : ℕ → Bool) (places : List ℕ) (cur : ℕ) (s : Statement) (known : List Known) → All (IsPartOf s) known → statement_true x inside places cur s ≡ true → All (IsKnownAt x places cur) known
parts_known x inside places cur s known all h = λ k d less. parts_true x inside places cur s (known_statement (get_or known k d)) (all k d less) h

-- a statement whose parts can't all hold
pub never_true : (p : Program) (g : Goal) (vars : List OpChoice) (s : Statement) (known : List Known) → All (IsPartOf s) known → CantHold p g vars known → IsAlways p g vars s false
never_true p g vars s known all cant x inside places cur scene = elim (cases_Bool (statement_true x inside places cur s)) [
  | inl holds ↦ absurd (cant x places cur scene (parts_known x inside places cur s known all holds))
  | inr fails ↦ fails
]

-- the offset of a relation
abbrev at_of : Statement → ℕ
at_of (Related (Basic name at) t u) = at
at_of s = 0

-- a part that another one gives
pub unneeded : (p : Program) (g : Goal) (vars : List OpChoice) (s : Statement) (part other : Known) → IsPartOf s part → IsPartOf s other → other.at ≢ part.at → Entails other part → IsUnneeded p g vars s part.at
unneeded p g vars s part other among given differ gives = record {
  part = part;
  place = refl;
  among = among;
  follows = λ x inside places cur scene others. gives x scene.lawful places cur (others (known_statement other) given (λ same. differ (ap at_of same)));
}

-- ---- types

first : (a b : Bool) → a ≡ true → (a || b) ≡ true
first true b h = refl
first false b h = absurd (cc)

second : (a b : Bool) → b ≡ true → (a || b) ≡ true
second true b h = refl
second false b h = h

-- a chosen effect is one of those that the variable stands for
chosen_in : (x : List Effect) (vars : List OpChoice) (places : List ℕ) (v : ℕ) (choice : OpChoice) → Chosen x vars places → slice_get vars v ≡ Some choice → in_range x choice (place_of places 0 (Var v)) ≡ true
chosen_in x [] places v choice chosen at = absurd (cc)
chosen_in x (c ∷ vars) [] v choice chosen at = absurd chosen
chosen_in x (c ∷ vars) (a ∷ places) zero choice chosen at = subst (λ o. in_range x o a ≡ true) (same_Some c choice at) chosen.0
chosen_in x (c ∷ vars) (a ∷ places) (suc v) choice chosen at = chosen_in x vars places v choice chosen.1 at

same_self : (kind : ℕ) → nat_eq kind kind ≡ true
same_self kind = eq-eqb kind kind refl

of_itself : (kinds : List ℕ) (o kind : ℕ) → slice_get kinds o ≡ Some kind → is_operation_of kinds o kind ≡ true
of_itself kinds o kind at = subst (λ r. has_kind r kind ≡ true) (sym at) (same_self kind)

some_of : (kinds ops : List ℕ) (o kind : ℕ) → has_id ops o ≡ true → slice_get kinds o ≡ Some kind → list_any (λ k. is_operation_of kinds k kind) ops ≡ true
some_of kinds [] o kind has at = absurd (cc)
some_of kinds (k ∷ ops) o kind has at = elim (or_cases (nat_eq k o) (has_id ops o) has) [
  | inl same ↦ first (is_operation_of kinds k kind) (list_any (λ k. is_operation_of kinds k kind) ops) (subst (λ n. is_operation_of kinds n kind ≡ true) (sym (eqb-true k o same)) (of_itself kinds o kind at))
  | inr more ↦ second (is_operation_of kinds k kind) (list_any (λ k. is_operation_of kinds k kind) ops) (some_of kinds ops o kind more at)
]

may_var : (kinds : List ℕ) (x : List Effect) (a : ℕ) (choice : Option OpChoice) (e : Effect) (kind : ℕ) → ((c : OpChoice) → choice ≡ Some c → in_range x c a ≡ true)
    → effect_at x a ≡ Some e → slice_get kinds e.op.0 ≡ Some kind → choice_may kinds choice kind ≡ true
may_var kinds x a None e kind range here at = refl
may_var kinds x a (Some Any) e kind range here at = refl
may_var kinds x a (Some (OneOf ops)) e kind range here at =
    some_of kinds ops e.op.0 kind (subst (λ o. one (λ e. has_id ops e.op.0) o ≡ true) here (range (OneOf ops) refl)) at

-- the type of a term's effect is one that the term may have
might : (p : Program) (g : Goal) (vars : List OpChoice) (x : List Effect) (places : List ℕ) (cur : ℕ) → IsScene p g vars x places cur
    → (t : Term) (e : Effect) (kind : ℕ) → effect_at x (place_of places cur t) ≡ Some e → slice_get (op_kinds p.types) e.op.0 ≡ Some kind → may_be (op_kinds p.types) g vars t kind ≡ true
might p (OpAt o level) vars x places cur scene Cur e kind here at =
    let same : scene.current.0 ≡ e = same_Some scene.current.0 e (sym scene.current.1 ∙ here) in
    let of : e.op ≡ o = subst (λ (f : Effect). f.op ≡ o) same scene.current.2 in
    of_itself (op_kinds p.types) o.0 kind (subst (λ (q : OpId). slice_get (op_kinds p.types) q.0 ≡ Some kind) of at)
might p (TxnAt d level) vars x places cur scene Cur e kind here at = refl
might p (OpAt o level) vars x places cur scene (Var v) e kind here at = may_var (op_kinds p.types) x (place_of places cur (Var v)) (slice_get vars v) e kind (λ c is. chosen_in x vars places v c scene.chosen is) here at
might p (TxnAt d level) vars x places cur scene (Var v) e kind here at = may_var (op_kinds p.types) x (place_of places cur (Var v)) (slice_get vars v) e kind (λ c is. chosen_in x vars places v c scene.chosen is) here at

-- two effects on one object are there
both_there : (x : List Effect) (a b : ℕ) → sameobj x a b ≡ true → (e : Effect) × (f : Effect) × (effect_at x a ≡ Some e) × (effect_at x b ≡ Some f) × (e.object.0 ≡ f.object.0)
both_there x a b h = found (effect_at x a) (effect_at x b) refl refl h where
  found : (r s : Option Effect) → effect_at x a ≡ r → effect_at x b ≡ s → both (λ e f. nat_eq e.object.0 f.object.0) r s ≡ true
      → (e : Effect) × (f : Effect) × (effect_at x a ≡ Some e) × (effect_at x b ≡ Some f) × (e.object.0 ≡ f.object.0)
  found None s i j h = absurd (cc)
  found (Some e) None i j h = absurd (cc)
  found (Some e) (Some f) i j h = (e, f, i, j, eqb-true e.object.0 f.object.0 h)

-- a relation on one object between terms that no type is possible for
pub apart : (p : Program) (g : Goal) (vars : List OpChoice) (known : List Known) (i : ℕ) (k : Known) → slice_get known i ≡ Some k → is_on_object k.name ≡ true
    → HaveNoCommonType (op_kinds p.types) g vars k.first k.second → CantHold p g vars known
apart p g vars known i k at is none x places cur scene all =
    let kinds : List ℕ = op_kinds p.types in
    let a : ℕ = place_of places cur k.first in
    let b : ℕ = place_of places cur k.second in
    let there = both_there x a b (on_object x scene.lawful k.name a b is (all_at (IsKnownAt x places cur) known i k all at)) in
    let e : Effect = there.0 in
    let f : Effect = there.1 in
    let at-e : effect_at x a ≡ Some e = there.2 in
    let at-f : effect_at x b ≡ Some f = there.3 in
    let kind : ℕ = get_or kinds e.op.0 0 in
    let of-e : slice_get kinds e.op.0 ≡ Some kind = slice_get-get_or kinds e.op.0 0 (scene.fits.known a e at-e) in
    let one : kind ≡ get_or kinds f.op.0 0 = scene.fits.one_type a b e f at-e at-f there.4 in
    let of-f : slice_get kinds f.op.0 ≡ Some kind = slice_get-get_or kinds f.op.0 0 (scene.fits.known b f at-f) ∙ ap (λ n. Some n) (sym one) in
    none e.op.0 kind of-e (might p g vars x places cur scene k.first e kind at-e of-e) (might p g vars x places cur scene k.second f kind at-f of-f)

-- two that say of two effects that each is earlier
pub turned : (p : Program) (g : Goal) (vars : List OpChoice) (known : List Known) (i j : ℕ) (k other : Known) → slice_get known i ≡ Some k → slice_get known j ≡ Some other
    → is_order k.name ≡ true → is_order other.name ≡ true → other.first ≡ k.second → other.second ≡ k.first → CantHold p g vars known
turned p g vars known i j k other at-k at-other is-k is-other one two x places cur scene all =
    no_order_back x scene.lawful k.name other.name (place_of places cur k.first) (place_of places cur k.second) is-k is-other
    (all_at (IsKnownAt x places cur) known i k all at-k)
    (subst (λ t. named x other.name t (place_of places cur k.first) ≡ true) (ap (place_of places cur) one)
    (subst (λ t. named x other.name (place_of places cur other.first) t ≡ true) (ap (place_of places cur) two) (all_at (IsKnownAt x places cur) known j other all at-other)))

-- ---- for the code

-- no operation has a number past the last
pub past_kinds : (types : List TypeDecl) (o kind : ℕ) → length (all_ops types) ≤ o → is_operation_of (op_kinds types) o kind ≡ false
past_kinds types o kind past = ap (λ r. has_kind r kind) (slice_get_past (op_kinds types) o (omega (arith, past, count_types types (op_kinds types) refl)))

-- what one relation gives of the same effects, and of the same ones turned
pub same_way : (k wanted : Known) → is_within k.name wanted.name ≡ true → k.first ≡ wanted.first → k.second ≡ wanted.second → Entails k wanted
same_way k wanted is one two x law places cur h =
    within_holds x law k.name wanted.name (place_of places cur wanted.first) (place_of places cur wanted.second) is
    (subst (λ t. named x k.name t (place_of places cur wanted.second) ≡ true) (ap (place_of places cur) one)
    (subst (λ t. named x k.name (place_of places cur k.first) t ≡ true) (ap (place_of places cur) two) h))

pub other_way : (k wanted : Known) → is_within k.name wanted.name ≡ true → is_symmetric wanted.name ≡ true → k.first ≡ wanted.second → k.second ≡ wanted.first → Entails k wanted
other_way k wanted is both one two x law places cur h =
    names.turned x law wanted.name (place_of places cur wanted.second) (place_of places cur wanted.first) both
    (within_holds x law k.name wanted.name (place_of places cur wanted.second) (place_of places cur wanted.first) is
    (subst (λ t. named x k.name t (place_of places cur wanted.first) ≡ true) (ap (place_of places cur) one)
    (subst (λ t. named x k.name (place_of places cur k.first) t ≡ true) (ap (place_of places cur) two) h)))
