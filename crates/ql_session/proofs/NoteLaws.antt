-- What the lists of notes are after one note more, and of an execution.
use Rattle.std.proofs.Common.{◌≡◌, ◌⊎◌, ℕ, zero, suc, ◌≤◌, ◌+◌, Option, Some, None, sym, slice_get, Bool, true, false, cond, nat_eq, List, [], ◌∷◌, ◌++◌, length, map, refl, ap, ◌∙◌, subst, inl, inr, arith}
use Rattle.std.specs.List.{filter}
use Rattle.std.proofs.lemmas.Bool.{false≢true, or_cases, or_left, or_right, eq-eqb, eqb-true}
use Rattle.ql_base.specs.IdLists.{IsBelowAll, IsAscending, has_id}
use Rattle.ql_base.specs.declared.ids.ObjId.{ObjId}
use Rattle.ql_exec.specs.declared.effect.Effect.{Effect}
use Rattle.ql_exec.specs.Effects.{effect_at}
use Rattle.ql_exec.specs.Execution.{IsOn}
use Rattle.ql_holder.specs.Closed.{Has}
use Rattle.ql_machine.specs.Sets.{AreThose}
use Rattle.ql_session.specs.Notes.{effects_on, effects_where}
use Rattle.ql_session.specs.declared.note.Note.{Note}
use Rattle.ql_session.specs.Executions.{note_of, notes_after, notes_of}

-- an execution longer by one effect has one note more
pub notes_after-push : (k : ℕ) (x : List Effect) (e : Effect) → notes_after k (x ++ e ∷ []) ≡ notes_after k x ++ note_of (k + length x + 1) e ∷ []
notes_after-push k [] e = ap (λ (n : ℕ). note_of n e ∷ []) (omega arith)
notes_after-push k (f ∷ x) e =
    ap (λ (notes : List Note). note_of (suc k) f ∷ notes) (notes_after-push (suc k) x e
    ∙ ap (λ (n : ℕ). notes_after (suc k) x ++ note_of n e ∷ []) (omega arith))

-- ---- the notes of an execution that pass a test, by ids

ids-below : (test : Note → Bool) (k : ℕ) (x : List Effect) (least : ℕ) → least ≤ k → IsBelowAll least (effects_where test (notes_after k x))
ids-below test k [] least below = tt
ids-below test k (e ∷ x) least below = by (test (note_of (suc k) e)) (ids-below test (suc k) x least (omega arith))
  where
    by : (b : Bool) → IsBelowAll least (effects_where test (notes_after (suc k) x))
        → IsBelowAll least (map (λ (n : Note). n.effect.0) (cond b (note_of (suc k) e ∷ filter test (notes_after (suc k) x)) (filter test (notes_after (suc k) x))))
    by true rest = (omega arith, rest)
    by false rest = rest

pub ids-ascend : (test : Note → Bool) (k : ℕ) (x : List Effect) → IsAscending (effects_where test (notes_after k x))
ids-ascend test k [] = tt
ids-ascend test k (e ∷ x) = by (test (note_of (suc k) e)) (ids-ascend test (suc k) x)
  where
    by : (b : Bool) → IsAscending (effects_where test (notes_after (suc k) x))
        → IsAscending (map (λ (n : Note). n.effect.0) (cond b (note_of (suc k) e ∷ filter test (notes_after (suc k) x)) (filter test (notes_after (suc k) x))))
    by true rest = (ids-below test (suc k) x (suc k) (omega arith), rest)
    by false rest = rest

-- a note more or none before the others
has-after : (b : Bool) (id a : ℕ) (e : Effect) (notes : List Note) → Has (map (λ (n : Note). n.effect.0) notes) a
    → Has (map (λ (n : Note). n.effect.0) (cond b (note_of id e ∷ notes) notes)) a
has-after true id a e notes has = or_right (nat_eq id a) (has_id (map (λ (n : Note). n.effect.0) notes) a) has
has-after false id a e notes has = has

has-before : (b : Bool) (id a : ℕ) (e : Effect) (notes : List Note) → Has (map (λ (n : Note). n.effect.0) (cond b (note_of id e ∷ notes) notes)) a
    → ((b ≡ true) × (id ≡ a)) ⊎ Has (map (λ (n : Note). n.effect.0) notes) a
has-before true id a e notes has = elim (or_cases (nat_eq id a) (has_id (map (λ (n : Note). n.effect.0) notes) a) has) [
  | inl here ↦ inl (refl, eqb-true id a here)
  | inr later ↦ inr later
]
has-before false id a e notes has = inr has

-- an effect whose note passes is among them
pub ids-have : (test : Note → Bool) (k : ℕ) (x : List Effect) (i a : ℕ) (e : Effect) → slice_get x i ≡ Some e → suc (k + i) ≡ a
    → test (note_of a e) ≡ true → Has (effects_where test (notes_after k x)) a
ids-have test k [] zero a e is at pass = cc
ids-have test k [] (suc i) a e is at pass = cc
ids-have test k (f ∷ x) zero a e is at pass =
    let here : suc k ≡ a = omega (arith, at) in
    let same : f ≡ e = cc in
    let first : test (note_of (suc k) f) ≡ true = ap (λ (n : ℕ). test (note_of n f)) here ∙ ap (λ (g : Effect). test (note_of a g)) same ∙ pass in
    rw first (or_left (nat_eq (suc k) a) (has_id (effects_where test (notes_after (suc k) x)) a) (eq-eqb (suc k) a here))
ids-have test k (f ∷ x) (suc i) a e is at pass =
    has-after (test (note_of (suc k) f)) (suc k) a f (filter test (notes_after (suc k) x)) (ids-have test (suc k) x i a e is (omega (arith, at)) pass)

-- each of them is an effect whose note passes
pub ids-are : (test : Note → Bool) (k : ℕ) (x : List Effect) (a : ℕ) → Has (effects_where test (notes_after k x)) a
    → (i : ℕ) × (e : Effect) × (slice_get x i ≡ Some e) × (suc (k + i) ≡ a) × (test (note_of a e) ≡ true)
ids-are test k [] a has = absurd (false≢true has)
ids-are test k (f ∷ x) a has = elim (has-before (test (note_of (suc k) f)) (suc k) a f (filter test (notes_after (suc k) x)) has) [
  | inl here ↦ (zero, f, refl, omega (arith, here.1), subst (λ (n : ℕ). test (note_of n f) ≡ true) here.1 here.0)
  | inr later ↦ (let rest = ids-are test (suc k) x a later in let at = rest.3 in (suc rest.0, rest.1, rest.2, omega (arith, at), rest.4))
]

-- the notes that pass a test are of the effects of which something holds, where the test tells it
pub those : (x : List Effect) (holds : Option Effect → Type 0) (test : Note → Bool) → (holds None → ⊥)
    → ((a : ℕ) (e : Effect) → holds (Some e) → test (note_of a e) ≡ true) → ((a : ℕ) (e : Effect) → test (note_of a e) ≡ true → holds (Some e))
    → AreThose (λ a. holds (effect_at x a)) (effects_where test (notes_of x))
those x holds test none passes tells = record {
  ascending = ids-ascend test 0 x;
  all = all;
  only = λ a has. (let is = ids-are test 0 x a has in let at : suc is.0 ≡ a = (let e = is.3 in omega (arith, e)) in
      subst (λ (n : ℕ). holds (effect_at x n)) at (subst holds (sym is.2) (tells a is.1 is.4)));
}
  where
    by : (i : ℕ) (o : Option Effect) → effect_at x (suc i) ≡ o → holds o → Has (effects_where test (notes_of x)) (suc i)
    by i None is held = absurd (none held)
    by i (Some e) is held = ids-have test 0 x i (suc i) e is (omega arith) (passes (suc i) e held)

    all : (a : ℕ) → holds (effect_at x a) → Has (effects_where test (notes_of x)) a
    all zero held = absurd (none held)
    all (suc i) held = by i (effect_at x (suc i)) refl held

pub object-is : (o p : ObjId) → nat_eq o.0 p.0 ≡ true → o ≡ p
object-is o p same = ap (λ (n : ℕ). let id : ObjId = record { 0 = n } in id) (eqb-true o.0 p.0 same)

-- the effects on an object
pub on-those : (x : List Effect) (o : ObjId) → AreThose (λ a. IsOn o (effect_at x a)) (effects_on (notes_of x) o)
on-those x o =
    those x (IsOn o) (λ (n : Note). nat_eq n.object.0 o.0) (λ never. never)
    (λ a e held. eq-eqb e.object.0 o.0 (ap (λ (p : ObjId). p.0) held)) (λ a e pass. object-is e.object o pass)
