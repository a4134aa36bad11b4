-- What a holder received, effect by effect.
use Rattle.std.proofs.Common.{◌≡◌, ℕ, ◌+◌, ◌≤◌, ◌⊎◌, true, false, nat_eq, List, [], refl, sym, ◌∙◌, inl, inr, arith, subst}
use Rattle.std.proofs.lemmas.Bool.{or_cases, or_left, or_right, eqb-true, eq-eqb, cases_lt, both_ways}
use Rattle.ql_base.specs.IdLists.{IsAscending, has_id, with_id}
use Rattle.ql_base.proofs.IdLemmas.{IsAscending-with_id}
use Rattle.ql_machine.specs.Sets.{AreThose}
use Rattle.ql_holder.specs.Closed.{Has}
use Rattle.ql_holder.proofs.IdSets.{has_id-with, same_ids}
use Rattle.ql_store.specs.Received.{IsReceivedOf}

pub none-yet : (received : List ℕ) → AreThose (IsReceivedOf received 0) []
none-yet received = record { ascending = tt; all = λ a is. let low = is.0 in let high = is.1 in absurd (omega (arith, low, high)); only = λ a has. absurd (both_ways (has_id [] a) refl has) }

up_to : (received : List ℕ) (k a : ℕ) → IsReceivedOf received k a → IsReceivedOf received (k + 1) a
up_to received k a is = let high = is.1 in (is.0, omega (arith, high), is.2)

last_or : (k a : ℕ) → a ≤ k + 1 → (a ≡ k + 1) ⊎ (a ≤ k)
last_or k a high = elim (cases_lt k a) [
  | inl above ↦ inl (omega (arith, above, high))
  | inr within ↦ inr within
]

pub one-more : (received : List ℕ) (k : ℕ) (ids after : List ℕ) → has_id received (k + 1) ≡ true → after ≡ with_id ids (k + 1)
    → AreThose (IsReceivedOf received k) ids → AreThose (IsReceivedOf received (k + 1)) after
one-more received k ids after has is those = rw is (record {
  ascending = IsAscending-with_id ids (k + 1) those.ascending;
  all = λ a of. rw has_id-with (elim (last_or k a of.1) [
    | inl same ↦ or_left (nat_eq (k + 1) a) (has_id ids a) (eq-eqb (k + 1) a (sym same))
    | inr within ↦ or_right (nat_eq (k + 1) a) (has_id ids a) (those.all a (of.0, within, of.2))
  ]);
  only = λ a in_it. elim (or_cases (nat_eq (k + 1) a) (has_id ids a) (sym (has_id-with ids (k + 1) a) ∙ in_it)) [
    | inl same ↦ let is_last = eqb-true (k + 1) a same in (omega (arith, is_last), omega (arith, is_last), subst (λ (b : ℕ). Has received b) is_last has)
    | inr there ↦ up_to received k a (those.only a there)
  ];
})

pub no-more : (received : List ℕ) (k : ℕ) (ids : List ℕ) → has_id received (k + 1) ≡ false → AreThose (IsReceivedOf received k) ids → AreThose (IsReceivedOf received (k + 1)) ids
no-more received k ids absent those = record {
  ascending = those.ascending;
  all = λ a of. elim (last_or k a of.1) [
    | inl same ↦ absurd (both_ways (has_id received a) (subst (λ (b : ℕ). has_id received b ≡ false) (sym same) absent) of.2)
    | inr within ↦ those.all a (of.0, within, of.2)
  ];
  only = λ a there. up_to received k a (those.only a there);
}

-- all that was received, where that is of these effects
pub all-received : (received : List ℕ) (count : ℕ) (ids : List ℕ) → IsAscending received → ((a : ℕ) → Has received a → (1 ≤ a) × (a ≤ count))
    → AreThose (IsReceivedOf received count) ids → ids ≡ received
all-received received count ids ascending there those =
    same_ids ids received those.ascending ascending (λ a has. (those.only a has).2) (λ a has. those.all a ((there a has).0, (there a has).1, has))
