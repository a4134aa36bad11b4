-- The effects on an object that a transaction sees, gathered one after another.
use Rattle.std.proofs.Common.{◌≡◌, ◌⊎◌, ℕ, zero, suc, ◌<◌, true, false, nat_eq, List, [], ◌∷◌, length, get_or, take, Option, Some, None, refl, ap, sym, subst, ◌∙◌, inl, inr, arith}
use Rattle.std.proofs.lemmas.Bool.{false≢true, or_cases, or_left, or_right, and_parts, and_from, eq-eqb, eqb-true}
use Rattle.ql_base.specs.IdLists.{IsBelowAll, IsAscending, has_id, with_id}
use Rattle.ql_base.proofs.IdLemmas.{IsAscending-with_id}
use Rattle.ql_base.specs.declared.ids.ObjId.{ObjId}
use Rattle.ql_base.specs.declared.ids.SessId.{SessId}
use Rattle.ql_exec.specs.declared.effect.Effect.{Effect}
use Rattle.ql_exec.specs.Effects.{effect_at}
use Rattle.ql_exec.specs.Execution.{IsExecution, IsOn}
use Rattle.ql_exec.specs.Relations.{so, soo, sameobj, vis, hbo_step}
use Rattle.ql_exec.proofs.Finding.{both-found, so_from}
use Rattle.std.proofs.lemmas.Option.{same_Some}
use Rattle.ql_holder.specs.Closed.{Has}
use Rattle.ql_holder.proofs.IdSets.{has_id-with}
use Rattle.ql_holder.proofs.Members.{index-has}
use Rattle.ql_machine.specs.Blocking.{IsOf}
use Rattle.ql_machine.specs.Sets.{AreThose, has_all}

-- ---- lists of ids

pub all-has : (ids others : List ℕ) → has_all others ids ≡ true → (a : ℕ) → Has ids a → Has others a
all-has [] others all a has = absurd (false≢true has)
all-has (id ∷ ids) others all a has =
    let parts = and_parts (has_id others id) (has_all others ids) all in
    elim (or_cases (nat_eq id a) (has_id ids a) has) [
      | inl here ↦ subst (λ (n : ℕ). Has others n) (eqb-true id a here) parts.0
      | inr later ↦ all-has ids others parts.1 a later
    ]

pub has-all : (ids others : List ℕ) → ((a : ℕ) → Has ids a → Has others a) → has_all others ids ≡ true
has-all [] others each = refl
has-all (id ∷ ids) others each =
    and_from (has_id others id) (has_all others ids) (each id (or_left (nat_eq id id) (has_id ids id) (eq-eqb id id refl)))
    (has-all ids others (λ a has. each a (or_right (nat_eq id a) (has_id ids a) has)))

has-above : (least : ℕ) (ids : List ℕ) (a : ℕ) → IsBelowAll least ids → Has ids a → least < a
has-above least [] a below has = absurd (false≢true has)
has-above least (id ∷ ids) a below has = elim (or_cases (nat_eq id a) (has_id ids a) has) [
  | inl here ↦ (let same = eqb-true id a here in let less : least < id = below.0 in omega (arith, same, less))
  | inr later ↦ has-above least ids a below.1 later
]

-- the first of an ascending list are those below the next
pub front-below : (ids : List ℕ) (k : ℕ) → IsAscending ids → k < length ids → (a : ℕ) → Has (take k ids) a → a < get_or ids k 0
front-below [] k order inside a has = absurd (omega (arith, inside))
front-below (id ∷ ids) zero order inside a has = absurd (false≢true has)
front-below (id ∷ ids) (suc k) order inside a has = elim (or_cases (nat_eq id a) (has_id (take k ids) a) has) [
  | inl here ↦ (let same = eqb-true id a here in let less = has-above id ids (get_or ids k 0) order.0 (index-has ids k (omega (arith, inside))) in omega (arith, same, less))
  | inr later ↦ front-below ids k order.1 (omega (arith, inside)) a later
]

pub below-front : (ids : List ℕ) (k : ℕ) → IsAscending ids → k < length ids → (a : ℕ) → Has ids a → a < get_or ids k 0 → Has (take k ids) a
below-front [] k order inside a has less = absurd (omega (arith, inside))
below-front (id ∷ ids) zero order inside a has less = elim (or_cases (nat_eq id a) (has_id ids a) has) [
  | inl here ↦ absurd (let same = eqb-true id a here in omega (arith, same, less))
  | inr later ↦ absurd (let more = has-above id ids a order.0 later in omega (arith, more, less))
]
below-front (id ∷ ids) (suc k) order inside a has less = elim (or_cases (nat_eq id a) (has_id ids a) has) [
  | inl here ↦ or_left (nat_eq id a) (has_id (take k ids) a) here
  | inr later ↦ or_right (nat_eq id a) (has_id (take k ids) a) (below-front ids k order.1 (omega (arith, inside)) a later less)
]

pub front-has : (ids : List ℕ) (k a : ℕ) → Has (take k ids) a → Has ids a
front-has ids zero a has = absurd (false≢true has)
front-has [] (suc k) a has = absurd (false≢true has)
front-has (id ∷ ids) (suc k) a has = elim (or_cases (nat_eq id a) (has_id (take k ids) a) has) [
  | inl here ↦ or_left (nat_eq id a) (has_id ids a) here
  | inr later ↦ or_right (nat_eq id a) (has_id ids a) (front-has ids k a later)
]

-- the first and the next
pub next-has : (ids : List ℕ) (k : ℕ) → k < length ids → (a : ℕ) → Has (take (suc k) ids) a → Has (take k ids) a ⊎ (get_or ids k 0 ≡ a)
next-has [] k inside a has = absurd (omega (arith, inside))
next-has (id ∷ ids) zero inside a has = elim (or_cases (nat_eq id a) false has) [ inl here ↦ inr (eqb-true id a here) | inr never ↦ absurd (false≢true never) ]
next-has (id ∷ ids) (suc k) inside a has = elim (or_cases (nat_eq id a) (has_id (take (suc k) ids) a) has) [
  | inl here ↦ inl (or_left (nat_eq id a) (has_id (take k ids) a) here)
  | inr later ↦ elim (next-has ids k (omega (arith, inside)) a later) [
    | inl old ↦ inl (or_right (nat_eq id a) (has_id (take k ids) a) old)
    | inr new ↦ inr new
  ]
]

pub has-old : (ids : List ℕ) (k a : ℕ) → Has (take k ids) a → Has (take (suc k) ids) a
has-old ids zero a has = absurd (false≢true has)
has-old [] (suc k) a has = absurd (false≢true has)
has-old (id ∷ ids) (suc k) a has = elim (or_cases (nat_eq id a) (has_id (take k ids) a) has) [
  | inl here ↦ or_left (nat_eq id a) (has_id (take (suc k) ids) a) here
  | inr later ↦ or_right (nat_eq id a) (has_id (take (suc k) ids) a) (has-old ids k a later)
]

pub has-next : (ids : List ℕ) (k : ℕ) → k < length ids → Has (take (suc k) ids) (get_or ids k 0)
has-next [] k inside = absurd (omega (arith, inside))
has-next (id ∷ ids) zero inside = or_left (nat_eq id id) false (eq-eqb id id refl)
has-next (id ∷ ids) (suc k) inside = or_right (nat_eq id (get_or ids k 0)) (has_id (take (suc k) ids) (get_or ids k 0)) (has-next ids k (omega (arith, inside)))

-- those of the first that something holds of, with the next where it holds of it
pub those-more : (ids : List ℕ) (holds : ℕ → Type 0) (k : ℕ) (found : List ℕ) → k < length ids → holds (get_or ids k 0)
    → AreThose (λ a. Has (take k ids) a × holds a) found → AreThose (λ a. Has (take (suc k) ids) a × holds a) (with_id found (get_or ids k 0))
those-more ids holds k found inside is those = record {
  ascending = IsAscending-with_id found (get_or ids k 0) those.ascending;
  all = λ a held. has_id-with found (get_or ids k 0) a ∙ elim (next-has ids k inside a held.0) [
    | inl old ↦ or_right (nat_eq (get_or ids k 0) a) (has_id found a) (those.all a (old, held.1))
    | inr new ↦ or_left (nat_eq (get_or ids k 0) a) (has_id found a) (eq-eqb (get_or ids k 0) a new)
  ];
  only = λ a has. elim (or_cases (nat_eq (get_or ids k 0) a) (has_id found a) (sym (has_id-with found (get_or ids k 0) a) ∙ has)) [
    | inl new ↦ (let P : ℕ → Type 0 = λ n. Has (take (suc k) ids) n × holds n in subst P (eqb-true (get_or ids k 0) a new) (has-next ids k inside, is))
    | inr old ↦ (let held = those.only a old in (has-old ids k a held.0, held.1))
  ];
}

pub those-same : (ids : List ℕ) (holds : ℕ → Type 0) (k : ℕ) (found : List ℕ) → k < length ids → (holds (get_or ids k 0) → ⊥)
    → AreThose (λ a. Has (take k ids) a × holds a) found → AreThose (λ a. Has (take (suc k) ids) a × holds a) found
those-same ids holds k found inside other those = record {
  ascending = those.ascending;
  all = λ a held. elim (next-has ids k inside a held.0) [
    | inl old ↦ those.all a (old, held.1)
    | inr new ↦ absurd (other (subst holds (sym new) held.1))
  ];
  only = λ a has. (let held = those.only a has in (has-old ids k a held.0, held.1));
}

-- ---- steps on an object

on-found : (o : ObjId) (found : Option Effect) → IsOn o found → (e : Effect) × (found ≡ Some e) × (e.object ≡ o)
on-found o None on = absurd on
on-found o (Some e) on = (e, refl, on)

pub of-found : (s : SessId) (found : Option Effect) → IsOf s found → (e : Effect) × (found ≡ Some e) × (e.session ≡ s)
of-found s None own = absurd own
of-found s (Some e) own = (e, refl, own)

object-same : (p o : ObjId) → p.0 ≡ o.0 → p ≡ o
object-same p o same = ap (λ (n : ℕ). let id : ObjId = record { 0 = n } in id) same

-- what is a step before an effect is on its object
pub step-on : (x : List Effect) → IsExecution x → (o : ObjId) (a b : ℕ) → IsOn o (effect_at x a) → hbo_step x b a ≡ true → IsOn o (effect_at x b)
step-on x law o a b on is = elim (or_cases (soo x b a) (vis x b a) is) [
  | inl ordered ↦
      let found = both-found (λ e f. nat_eq e.object.0 f.object.0) (effect_at x b) (effect_at x a) (and_parts (so x b a) (sameobj x b a) ordered).1 in
      let here = on-found o (effect_at x a) on in
      let same : found.1.object ≡ o = ap (λ (e : Effect). e.object) (same_Some found.1 here.0 (sym found.3 ∙ here.1)) ∙ here.2 in
      subst (IsOn o) (sym found.2) (object-same found.0.object o (eqb-true found.0.object.0 found.1.object.0 found.4 ∙ ap (λ (p : ObjId). p.0) same))
  | inr seen ↦
      let found = both-found (λ e f. has_id f.seen b) (effect_at x b) (effect_at x a) seen in
      let here = on-found o (effect_at x a) on in
      let same : found.1.object ≡ o = ap (λ (e : Effect). e.object) (same_Some found.1 here.0 (sym found.3 ∙ here.1)) ∙ here.2 in
      subst (λ (p : ObjId). IsOn p (effect_at x b)) same ((law.sees a found.1 found.3).0 b found.4).1
]

-- an effect sees one
pub step-seen : (x : List Effect) → IsExecution x → (a b : ℕ) (e : Effect) → effect_at x a ≡ Some e → Has e.seen b → hbo_step x b a ≡ true
step-seen x law a b e at seen =
    let before = on-found e.object (effect_at x b) ((law.sees a e at).0 b seen).1 in
    or_right (soo x b a) (vis x b a) (rw (before.1, at) seen)

-- one of its session stands before it on its object
pub step-session : (x : List Effect) (o : ObjId) (s : SessId) (a b : ℕ) → IsOn o (effect_at x a) → IsOn o (effect_at x b) → IsOf s (effect_at x a) → IsOf s (effect_at x b) → b < a → hbo_step x b a ≡ true
step-session x o s a b on_a on_b of_a of_b less =
    let e = on-found o (effect_at x b) on_b in
    let f = on-found o (effect_at x a) on_a in
    let es = of-found s (effect_at x b) of_b in
    let fs = of-found s (effect_at x a) of_a in
    let e_same : es.0 ≡ e.0 = same_Some es.0 e.0 (sym es.1 ∙ e.1) in
    let f_same : fs.0 ≡ f.0 = same_Some fs.0 f.0 (sym fs.1 ∙ f.1) in
    let session : e.0.session.0 ≡ f.0.session.0 = ap (λ (t : SessId). t.0) (ap (λ (g : Effect). g.session) (sym e_same) ∙ es.2 ∙ sym (ap (λ (g : Effect). g.session) (sym f_same) ∙ fs.2)) in
    let object : e.0.object.0 ≡ f.0.object.0 = ap (λ (p : ObjId). p.0) (e.2 ∙ sym f.2) in
    or_left (soo x b a) (vis x b a)
    (and_from (so x b a) (sameobj x b a) (so_from x b a e.0 f.0 e.1 f.1 session less) (rw (e.1, f.1) (eq-eqb e.0.object.0 f.0.object.0 object)))
