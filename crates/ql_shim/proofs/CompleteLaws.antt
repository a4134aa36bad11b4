-- Where nothing is left out that own effects need, all of them are seen.
use Rattle.std.proofs.Common.{◌≡◌, ℕ, suc, ◌<◌, Bool, true, false, ◌||◌, nat_eq, List, [], length, get_or, take, Some, refl, ap, sym, subst, ◌∙◌, inl, inr}
use Rattle.std.proofs.lemmas.Bool.{false≢true, or_cases, or_left, or_right, and_parts, or_parts, eq-eqb}
use Rattle.std.proofs.lemmas.Option.{same_Some}
use Rattle.ql_base.specs.IdLists.{has_id, with_id}
use Rattle.ql_base.specs.declared.ids.ObjId.{ObjId}
use Rattle.ql_base.specs.declared.ids.SessId.{SessId}
use Rattle.ql_exec.specs.declared.effect.Effect.{Effect}
use Rattle.ql_exec.specs.Effects.{effect_at}
use Rattle.ql_exec.specs.Execution.{IsExecution, IsOn}
use Rattle.ql_exec.specs.Relations.{so, soo, sameobj, vis, hbo_step}
use Rattle.ql_exec.proofs.Finding.{so_parts}
use Rattle.ql_holder.specs.Closed.{Has}
use Rattle.ql_machine.specs.Blocking.{IsOf}
use Rattle.ql_machine.specs.Sets.{AreThose}
use Rattle.ql_shim.specs.Joined.{IsComplete, IsJoined}
use Rattle.ql_shim.proofs.JoinedLaws.{next-has, of-found, step-on, those-more, those-same}

-- ---- one effect after another

pub complete-begins : (x : List Effect) (own saw others : List ℕ) (s : SessId) → IsComplete x own saw others s [] []
complete-begins x own saw others s = record {
  those = record {
    ascending = tt;
    all = λ a held. held.0;
    only = λ a has. absurd (false≢true has);
  };
  rest = λ a never. absurd (false≢true never);
}

-- the next is kept
pub complete-kept : (x : List Effect) (own saw others : List ℕ) (s : SessId) (on : List ℕ) (k : ℕ) (ids : List ℕ) → k < length on
    → (has_id own (get_or on k 0) || has_id others (get_or on k 0)) ≡ true
    → IsComplete x own saw others s (take k on) ids → IsComplete x own saw others s (take (suc k) on) (with_id ids (get_or on k 0))
complete-kept x own saw others s on k ids inside is complete = record {
  those = those-more on (λ a. (has_id own a || has_id others a) ≡ true) k ids inside is complete.those;
  rest = λ a has out. elim (next-has on k inside a has) [
    | inl old ↦ complete.rest a old out
    | inr new ↦ absurd (false≢true (sym (subst (λ (n : ℕ). (has_id own n || has_id others n) ≡ false) (sym new) out) ∙ is))
  ];
}

-- the next is passed over, where no own effect may need it
pub complete-passed : (x : List Effect) (own saw others : List ℕ) (s : SessId) (on : List ℕ) (k : ℕ) (ids : List ℕ) (e : Effect) → k < length on
    → (has_id own (get_or on k 0) || has_id others (get_or on k 0)) ≡ false → effect_at x (get_or on k 0) ≡ Some e
    → (has_id saw (get_or on k 0) || nat_eq e.session.0 s.0) ≡ false
    → IsComplete x own saw others s (take k on) ids → IsComplete x own saw others s (take (suc k) on) ids
complete-passed x own saw others s on k ids e inside out at free complete = record {
  those = those-same on (λ a. (has_id own a || has_id others a) ≡ true) k ids inside (λ is. false≢true (sym out ∙ is)) complete.those;
  rest = λ a has not_kept. elim (next-has on k inside a has) [
    | inl old ↦ complete.rest a old not_kept
    | inr new ↦ subst (λ (n : ℕ). (has_id saw n ≡ false) × (IsOf s (effect_at x n) → ⊥)) new (
      (or_parts (has_id saw (get_or on k 0)) (nat_eq e.session.0 s.0) free).0,
      λ of_it. (let session = subst (IsOf s) at of_it in
          false≢true (sym (or_parts (has_id saw (get_or on k 0)) (nat_eq e.session.0 s.0) free).1 ∙ eq-eqb e.session.0 s.0 (ap (λ (t : SessId). t.0) session))),
    )
  ];
}

-- ---- all are seen

session-same : (t s : SessId) → t.0 ≡ s.0 → t ≡ s
session-same t s same = ap (λ (n : ℕ). let id : SessId = record { 0 = n } in id) same

-- the session of an effect is that of the one that it follows in session order
session-before : (x : List Effect) (s : SessId) (a b : ℕ) → so x b a ≡ true → IsOf s (effect_at x a) → IsOf s (effect_at x b)
session-before x s a b before of_a =
    let order = so_parts x b a before in
    let here = of-found s (effect_at x a) of_a in
    let second : order.second ≡ here.0 = same_Some order.second here.0 (sym order.second_at ∙ here.1) in
    let session : order.first.session.0 ≡ s.0 = order.one_session ∙ ap (λ (f : Effect). f.session.0) second ∙ ap (λ (t : SessId). t.0) here.2 in
    subst (IsOf s) (sym order.first_at) (session-same order.first.session s session)

module _ (x : List Effect) (s : SessId) (o : ObjId) (own saw others on ids : List ℕ) (law : IsExecution x)
    (on_object : AreThose (λ a. IsOn o (effect_at x a)) on) (own_of : (a : ℕ) → Has own a → IsOf s (effect_at x a))
    (saw_of : (a b : ℕ) → Has own b → vis x a b ≡ true → Has saw a) (complete : IsComplete x own saw others s on ids) where
  -- what is a step before an own effect is there
  step-there : (a b : ℕ) → Has on a → Has own a → hbo_step x b a ≡ true → Has ids b
  step-there a b is_on is_own step = by (has_id own b || has_id others b) refl
    where
      on_b : Has on b
      on_b = on_object.all b (step-on x law o a b (on_object.only a is_on) step)

      by : (t : Bool) → (has_id own b || has_id others b) ≡ t → Has ids b
      by true is = complete.those.all b (on_b, is)
      by false is =
          let left_out = complete.rest b on_b is in
          elim (or_cases (soo x b a) (vis x b a) step) [
            | inl session ↦ absurd (left_out.1 (session-before x s a b (and_parts (so x b a) (sameobj x b a) session).0 (own_of a is_own)))
            | inr seen ↦ absurd (false≢true (sym left_out.0 ∙ saw_of b a is_own seen))
          ]

  pub complete-joined : IsJoined x own others on ids
  complete-joined = record {
    ascending = complete.those.ascending;
    within = λ a has. (complete.those.only a has).0;
    theirs = λ a is_on not_own. (
      λ has. elim (or_cases (has_id own a) (has_id others a) (complete.those.only a has).1) [
        | inl is_own ↦ absurd (false≢true (sym not_own ∙ is_own))
        | inr is_other ↦ is_other
      ],
      λ has. complete.those.all a (is_on, or_right (has_id own a) (has_id others a) has),
    );
    ours = λ a is_on is_own. (
      λ has b step. step-there a b is_on is_own step,
      λ all. complete.those.all a (is_on, or_left (has_id own a) (has_id others a) is_own),
    );
  }
