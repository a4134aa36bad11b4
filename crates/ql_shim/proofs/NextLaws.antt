-- One effect more on the object, in order.
use Rattle.std.proofs.Common.{◌≡◌, ◌↔◌, ◌⊎◌, ℕ, zero, suc, ◌<◌, ◌≤◌, ◌-◌, Bool, true, false, cond, not, ◌&&◌, ◌||◌, nat_eq, List, [], length, get_or, take, Some, refl, ap, sym, subst, ◌∙◌, inl, inr, arith}
use Rattle.std.proofs.lemmas.Bool.{false≢true, or_cases, or_left, or_right, and_parts, and_from, eq-eqb, eqb-true, cases_Bool}
use Rattle.std.proofs.lemmas.Option.{same_Some, slice_get_read}
use Rattle.ql_base.specs.IdLists.{IsAscending, has_id, with_id}
use Rattle.ql_base.proofs.IdLemmas.{IsAscending-with_id}
use Rattle.ql_base.specs.declared.ids.ObjId.{ObjId}
use Rattle.ql_base.specs.declared.ids.SessId.{SessId}
use Rattle.ql_exec.specs.declared.effect.Effect.{Effect}
use Rattle.ql_exec.specs.Effects.{effect_at}
use Rattle.ql_exec.specs.Execution.{IsExecution, IsOn}
use Rattle.ql_exec.specs.Relations.{so, soo, sameobj, vis, hbo_step}
use Rattle.ql_exec.proofs.Finding.{both-found, so_parts}
use Rattle.ql_holder.specs.Closed.{Has}
use Rattle.ql_holder.proofs.NeedsLaws.{step-before}
use Rattle.ql_holder.proofs.IdSets.{has_id-with}
use Rattle.ql_holder.proofs.Members.{index-has}
use Rattle.ql_machine.specs.Blocking.{IsOf}
use Rattle.ql_machine.specs.Sets.{AreThose, has_all}
use Rattle.ql_shim.specs.Joined.{IsJoined, IsNextJoined, is_seen_next}
use Rattle.ql_shim.proofs.JoinedLaws.{all-has, has-all, front-below, below-front, front-has, has-old, has-next, next-has, step-on, step-seen, step-session}

-- ---- ids with one more where a test passes

grown-old : (ids : List ℕ) (a : ℕ) (t : Bool) (b : ℕ) → Has ids b → Has (cond t (with_id ids a) ids) b
grown-old ids a true b has = has_id-with ids a b ∙ or_right (nat_eq a b) (has_id ids b) has
grown-old ids a false b has = has

grown-new : (ids : List ℕ) (a : ℕ) (t : Bool) → t ≡ true → Has (cond t (with_id ids a) ids) a
grown-new ids a true is = has_id-with ids a a ∙ or_left (nat_eq a a) (has_id ids a) (eq-eqb a a refl)
grown-new ids a false is = absurd (false≢true is)

grown-cases : (ids : List ℕ) (a : ℕ) (t : Bool) (b : ℕ) → Has (cond t (with_id ids a) ids) b → Has ids b ⊎ ((a ≡ b) × (t ≡ true))
grown-cases ids a true b has = elim (or_cases (nat_eq a b) (has_id ids b) (sym (has_id-with ids a b) ∙ has)) [
  | inl new ↦ inr (eqb-true a b new, refl)
  | inr old ↦ inl old
]
grown-cases ids a false b has = inl has

grown-ascends : (ids : List ℕ) (a : ℕ) (t : Bool) → IsAscending ids → IsAscending (cond t (with_id ids a) ids)
grown-ascends ids a true order = IsAscending-with_id ids a order
grown-ascends ids a false order = order

-- ---- what is known where the next effect is come to

-- the effects in front of one, and with it
pub record IsNext (x : List Effect) (on front more : List ℕ) (a : ℕ) (e : Effect) : Type 0 where
  pub at : effect_at x a ≡ Some e
  pub on_it : Has on a
  pub below : (b : ℕ) → Has front b → b < a
  pub in_front : (b : ℕ) → Has on b → b < a → Has front b
  pub front_on : (b : ℕ) → Has front b → Has on b
  pub old : (b : ℕ) → Has front b → Has more b
  pub new : Has more a
  pub cases : (b : ℕ) → Has more b → Has front b ⊎ (a ≡ b)

pub next-is : (x : List Effect) (on : List ℕ) (k : ℕ) (e : Effect) → IsAscending on → k < length on → effect_at x (get_or on k 0) ≡ Some e
    → IsNext x on (take k on) (take (suc k) on) (get_or on k 0) e
next-is x on k e order inside at = record {
  at = at;
  on_it = index-has on k inside;
  below = front-below on k order inside;
  in_front = below-front on k order inside;
  front_on = front-has on k;
  old = has-old on k;
  new = has-next on k inside;
  cases = next-has on k inside;
}

-- the effects in front were come to
pub record IsUnderWay (x : List Effect) (s : SessId) (own others front ids : List ℕ) (whole : Bool) : Type 0 where
  pub joined : IsJoined x own others front ids
  pub flag : whole ≡ true ↔ ((b : ℕ) → Has front b → IsOf s (effect_at x b) → Has ids b)

pub record IsOrdered (x : List Effect) (s : SessId) (o : ObjId) (own on : List ℕ) : Type 0 where
  pub law : IsExecution x
  pub on_object : AreThose (λ a. IsOn o (effect_at x a)) on
  pub own_of : (a : ℕ) → Has own a → IsOf s (effect_at x a)

session-same : (t s : SessId) → t.0 ≡ s.0 → t ≡ s
session-same t s same = ap (λ (n : ℕ). let id : SessId = record { 0 = n } in id) same

-- an own one is seen where all that is a step before it is
seen-steps : (x : List Effect) (s : SessId) (o : ObjId) (own others on front more ids : List ℕ) (whole : Bool) (a : ℕ) (e : Effect)
    → IsOrdered x s o own on → IsUnderWay x s own others front ids whole → IsNext x on front more a e → Has own a
    → (whole && has_all ids e.seen) ≡ true → (c : ℕ) → hbo_step x c a ≡ true → Has ids c
seen-steps x s o own others on front more ids whole a e ordered way next is_own seen c step =
    let both_are = and_parts whole (has_all ids e.seen) seen in
    elim (or_cases (soo x c a) (vis x c a) step) [
      | inl session ↦
          let order = so_parts x c a (and_parts (so x c a) (sameobj x c a) session).0 in
          let on_c : Has on c = ordered.on_object.all c (step-on x ordered.law o a c (ordered.on_object.only a next.on_it) step) in
          let of_a : IsOf s (Some e) = subst (IsOf s) next.at (ordered.own_of a is_own) in
          let second : order.second ≡ e = same_Some order.second e (sym order.second_at ∙ next.at) in
          let session_is : order.first.session.0 ≡ s.0 = order.one_session ∙ ap (λ (f : Effect). f.session.0) second ∙ ap (λ (t : SessId). t.0) of_a in
          let of_c : IsOf s (effect_at x c) = subst (IsOf s) (sym order.first_at) (session-same order.first.session s session_is) in
          way.flag.0 both_are.0 c (next.in_front c on_c order.less) of_c
      | inr visible ↦
          let found = both-found (λ g f. has_id f.seen c) (effect_at x c) (effect_at x a) visible in
          let same : found.1 ≡ e = same_Some found.1 e (sym found.3 ∙ next.at) in
          all-has e.seen ids both_are.1 c (subst (λ (f : Effect). Has f.seen c) same found.4)
    ]

steps-seen : (x : List Effect) (s : SessId) (o : ObjId) (own others on front more ids : List ℕ) (whole : Bool) (a : ℕ) (e : Effect)
    → IsOrdered x s o own on → IsUnderWay x s own others front ids whole → IsNext x on front more a e → Has own a
    → ((c : ℕ) → hbo_step x c a ≡ true → Has ids c) → (whole && has_all ids e.seen) ≡ true
steps-seen x s o own others on front more ids whole a e ordered way next is_own each =
    and_from whole (has_all ids e.seen)
    (way.flag.1 (λ c in_front of_c. each c
    (step-session x o s a c (ordered.on_object.only a next.on_it) (ordered.on_object.only c (next.front_on c in_front)) (ordered.own_of a is_own) of_c (next.below c in_front))))
    (has-all e.seen ids (λ c seen. each c (step-seen x ordered.law a c e next.at seen)))

-- ---- one more

-- below the next one the same are seen
still : (ids : List ℕ) (a : ℕ) (t : Bool) (b : ℕ) → b < a → Has (cond t (with_id ids a) ids) b → Has ids b
still ids a t b less has = elim (grown-cases ids a t b has) [
  | inl old ↦ old
  | inr new ↦ absurd (let same = new.0 in omega (arith, same, less))
]

-- the next one is seen by the test alone
new-tested : (x : List Effect) (own others on front more ids : List ℕ) (a : ℕ) (e : Effect) (t : Bool) → IsNext x on front more a e → IsJoined x own others front ids
    → Has (cond t (with_id ids a) ids) a → t ≡ true
new-tested x own others on front more ids a e t next joined has = elim (grown-cases ids a t a has) [
  | inl old ↦ absurd (let less = next.below a (joined.within a old) in omega (arith, less))
  | inr new ↦ new.1
]

-- the test, by whether it is an own one
tested-own : (ids : List ℕ) (whole : Bool) (e : Effect) (a : ℕ) (own others : List ℕ) → Has own a → is_seen_next ids whole e a own others ≡ (whole && has_all ids e.seen)
tested-own ids whole e a own others is_own = rw is_own refl

tested-other : (ids : List ℕ) (whole : Bool) (e : Effect) (a : ℕ) (own others : List ℕ) → has_id own a ≡ false → is_seen_next ids whole e a own others ≡ has_id others a
tested-other ids whole e a own others other = rw other refl

next-joined : (x : List Effect) (s : SessId) (o : ObjId) (own others on front more ids : List ℕ) (whole : Bool) (a : ℕ) (e : Effect) (t : Bool)
    → IsOrdered x s o own on → IsUnderWay x s own others front ids whole → IsNext x on front more a e → t ≡ is_seen_next ids whole e a own others
    → IsJoined x own others more (cond t (with_id ids a) ids)
next-joined x s o own others on front more ids whole a e t ordered way next test = record {
  ascending = grown-ascends ids a t way.joined.ascending;
  within = λ b has. elim (grown-cases ids a t b has) [
    | inl old ↦ next.old b (way.joined.within b old)
    | inr new ↦ subst (λ (n : ℕ). Has more n) new.0 next.new
  ];
  theirs = λ b is_on other. elim (next.cases b is_on) [
    | inl old ↦ (
      λ has. (way.joined.theirs b old other).0 (still ids a t b (next.below b old) has),
      λ has. grown-old ids a t b ((way.joined.theirs b old other).1 has),
    )
    | inr new ↦
        let apart : has_id own a ≡ false = subst (λ (n : ℕ). has_id own n ≡ false) (sym new) other in
        let is : t ≡ has_id others a = test ∙ tested-other ids whole e a own others apart in
        subst (λ (n : ℕ). Has (cond t (with_id ids a) ids) n ↔ Has others n) new (
          λ has. sym is ∙ new-tested x own others on front more ids a e t next way.joined has,
          λ has. grown-new ids a t (is ∙ has),
        )
  ];
  ours = λ b is_on is_own. elim (next.cases b is_on) [
    | inl old ↦ (
      λ has c step. grown-old ids a t c ((way.joined.ours b old is_own).0 (still ids a t b (next.below b old) has) c step),
      λ each. grown-old ids a t b ((way.joined.ours b old is_own).1 (λ c step.
          still ids a t c (let less = (step-before x ordered.law b c step).1 in let below = next.below b old in omega (arith, less, below)) (each c step))),
    )
    | inr new ↦
        let mine : Has own a = subst (λ (n : ℕ). Has own n) (sym new) is_own in
        let is : t ≡ (whole && has_all ids e.seen) = test ∙ tested-own ids whole e a own others mine in
        subst (λ (n : ℕ). Has (cond t (with_id ids a) ids) n ↔ ((c : ℕ) → hbo_step x c n ≡ true → Has (cond t (with_id ids a) ids) c)) new (
          λ has c step. grown-old ids a t c
              (seen-steps x s o own others on front more ids whole a e ordered way next mine (sym is ∙ new-tested x own others on front more ids a e t next way.joined has) c step),
          λ each. grown-new ids a t (is ∙ steps-seen x s o own others on front more ids whole a e ordered way next mine
              (λ c step. still ids a t c (step-before x ordered.law a c step).1 (each c step))),
        )
  ];
}

next-flag : (x : List Effect) (s : SessId) (o : ObjId) (own others on front more ids : List ℕ) (whole : Bool) (a : ℕ) (e : Effect) (t : Bool)
    → IsUnderWay x s own others front ids whole → IsNext x on front more a e
    → (whole && (t || not (nat_eq e.session.0 s.0))) ≡ true ↔ ((b : ℕ) → Has more b → IsOf s (effect_at x b) → Has (cond t (with_id ids a) ids) b)
next-flag x s o own others on front more ids whole a e t way next = (
  λ is b is_more of_b. (let parts = and_parts whole (t || not (nat_eq e.session.0 s.0)) is in elim (next.cases b is_more) [
    | inl old ↦ grown-old ids a t b (way.flag.0 parts.0 b old of_b)
    | inr new ↦
        let of_a : IsOf s (Some e) = subst (IsOf s) next.at (subst (λ (n : ℕ). IsOf s (effect_at x n)) (sym new) of_b) in
        subst (λ (n : ℕ). Has (cond t (with_id ids a) ids) n) new (grown-new ids a t (passed parts.1 (ap (λ (u : SessId). u.0) of_a)))
  ]),
  λ each. and_from whole (t || not (nat_eq e.session.0 s.0))
      (way.flag.1 (λ b old of_b. still ids a t b (next.below b old) (each b (next.old b old) of_b)))
      (by (cases_Bool t) (cases_Bool (nat_eq e.session.0 s.0)) each),
)
  where
    passed : (t || not (nat_eq e.session.0 s.0)) ≡ true → e.session.0 ≡ s.0 → t ≡ true
    passed is same = elim (or_cases t (not (nat_eq e.session.0 s.0)) is) [
      | inl yes_it ↦ yes_it
      | inr apart ↦ absurd (false≢true (subst (λ (b : Bool). not b ≡ true) (eq-eqb e.session.0 s.0 same) apart))
    ]

    by : (t ≡ true) ⊎ (t ≡ false) → (nat_eq e.session.0 s.0 ≡ true) ⊎ (nat_eq e.session.0 s.0 ≡ false)
        → ((b : ℕ) → Has more b → IsOf s (effect_at x b) → Has (cond t (with_id ids a) ids) b) → (t || not (nat_eq e.session.0 s.0)) ≡ true
    by (inl is) session each = or_left t (not (nat_eq e.session.0 s.0)) is
    by (inr is) (inr apart) each = or_right t (not (nat_eq e.session.0 s.0)) (rw apart refl)
    by (inr is) (inl same) each =
        or_left t (not (nat_eq e.session.0 s.0))
        (new-tested x own others on front more ids a e t next way.joined
        (each a next.new (subst (IsOf s) (sym next.at) (session-same e.session s (eqb-true e.session.0 s.0 same)))))

-- the next effect was come to
pub way-on : (x : List Effect) (s : SessId) (o : ObjId) (own others on front more ids ids' : List ℕ) (whole whole' : Bool) (a : ℕ) (e : Effect)
    → IsOrdered x s o own on → IsNext x on front more a e → IsNextJoined ids whole e a s own others ids' whole'
    → IsUnderWay x s own others front ids whole → IsUnderWay x s own others more ids' whole'
way-on x s o own others on front more ids ids' whole whole' a e ordered next step way =
    let t = is_seen_next ids whole e a own others in
    rw (step.ids_are, step.whole_is) (record {
      joined = next-joined x s o own others on front more ids whole a e t ordered way next refl;
      flag = next-flag x s o own others on front more ids whole a e t way next;
    })

pub way-begins : (x : List Effect) (s : SessId) (own others : List ℕ) → IsUnderWay x s own others [] [] true
way-begins x s own others = record {
  joined = record {
    ascending = tt;
    within = λ a has. has;
    theirs = λ a never other. absurd (false≢true never);
    ours = λ a never mine. absurd (false≢true never);
  };
  flag = (λ is b never of_b. never, λ each. refl);
}

-- an effect that is read by its id
pub effect-read : (x effects : List Effect) (a : ℕ) (e : Effect) → effects ≡ x → 1 ≤ a → a ≤ length x → e ≡ get_or effects (a - 1) e → effect_at x a ≡ Some e
effect-read x effects zero e same first last is = absurd (omega (arith, first))
effect-read x effects (suc k) e same first last is =
    let before : suc k - 1 ≡ k = omega arith in
    slice_get_read x _ k e refl (omega (arith, last)) (is ∙ ap (λ (i : ℕ). get_or effects i e) before ∙ ap (λ (list : List Effect). get_or list k e) same)
