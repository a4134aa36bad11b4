-- The effects that stand for a contract's variables are ones over which these range.
use Rattle.std.proofs.Common.{◌≡◌, ℕ, zero, suc, ◌+◌, ◌<◌, ◌≤◌, Bool, true, ◌==◌, get_or, List, [], ◌∷◌, ◌++◌, length, Some, slice_index, refl, sym, ap, ◌∙◌, inl, inr, arith, length-append}
use Rattle.std.proofs.lemmas.Bool.{cases_eq, eqb-true, false≢true, or_cases}
use Rattle.std.proofs.lemmas.List.{get_or_append_left, get_or-append-add}
use Rattle.ql_base.specs.IdLists.{has_id}
use Rattle.ql_base.specs.Ranges.{upto}
use Rattle.ql_atoms.specs.Atoms.{Size}
use Rattle.ql_lang.specs.declared.formula.OpChoice.{OpChoice}
use Rattle.ql_lang.specs.declared.formula.OpChoice.TheVariants.{Any, OneOf}
use Rattle.ql_exec.specs.Effects.{effect_at, one}
use Rattle.ql_exec.specs.declared.effect.Effect.{Effect}
use Rattle.ql_exec.specs.declared.effect.Member.{Member}
use Rattle.ql_formula.specs.Truth.{Chosen}
use Rattle.ql_typing.specs.WellFormed.{AreBelow, AreChoicesOf}
use Rattle.ql_ground.specs.Ground.{variable_operations, all_variable_operations}
use Rattle.ql_counter.specs.declared.slot.Slot.{Slot}
use Rattle.ql_counter.specs.declared.slot.Extra.{Extra}
use Rattle.ql_counter.specs.Patterns.{Pattern, leader}
use Rattle.ql_counter.specs.Built.{op_in, built, constant_place}
use Rattle.ql_counter.proofs.Alike.{leader-equal}
use Rattle.ql_counter.proofs.Building.{there-effect}
use Rattle.ql_counter.proofs.Arranged.{IsArranged}
use Rattle.ql_counter.proofs.Agreement.{place-is}
use Rattle.ql_counter.specs.Assigned.{pattern_of}
use Rattle.ql_counter.proofs.Firing.{AllHold, both-hold}
use Rattle.ql_counter.proofs.Reading.{Axioms, op-only, pattern-lawful, variable-op}

-- ---- lists of one item a number
pub ones-length : (n : ℕ) (g : ℕ → ℕ) → length (upto n (λ c. g c ∷ [])) ≡ n
ones-length zero g = refl
ones-length (suc n) g = let rest = ones-length n g in omega (arith, rest, length-append (upto n (λ c. g c ∷ [])) (g n ∷ []))

pub ones-at : (n : ℕ) (g : ℕ → ℕ) (i : ℕ) → i < n → slice_index (upto n (λ c. g c ∷ [])) i ≡ g i
ones-at zero g i l = absurd (omega (arith, l))
ones-at (suc n) g i l = elim (cases_eq i n) [
  | inl same ↦
      let long = ones-length n g in
      ap (λ k. get_or (upto n (λ c. g c ∷ []) ++ g n ∷ []) k 0) (omega (arith, same, long)) ∙ get_or-append-add (upto n (λ c. g c ∷ [])) (g n ∷ []) 0 0 ∙ ap g (sym same)
  | inr other ↦
      let long = ones-length n g in
      get_or_append_left (upto n (λ c. g c ∷ [])) (g n ∷ []) 0 i (omega (arith, l, other, long)) ∙ ones-at n g i (omega (arith, l, other))
]

below-has : (n : ℕ) (ops : List ℕ) (o : ℕ) → AreBelow n ops → has_id ops o ≡ true → o < n
below-has n [] o b h = absurd (false≢true h)
below-has n (q ∷ ops) o b h = elim (or_cases (q == o) (has_id ops o) h) [
  | inl here ↦ let e = eqb-true q o here in let l = b.0 in omega (arith, e, l)
  | inr more ↦ below-has n ops o b.1 more
]

module _ (a : List Bool) (s : Size) (types : List ℕ) (member : ℕ → Member) (g : Axioms a s types) (extra : Extra) (slots : List Slot) (arranged : IsArranged (pattern_of a s member) extra slots) where
  abbrev p : Pattern
  p = pattern_of a s member

  abbrev x : List Effect
  x = built p slots

  abbrev place : ℕ → ℕ
  place c = constant_place p slots c

  -- the effect of a constant, with the constant's operation
  pub effect-of : (c : ℕ) → c < s.constants → (e : Effect) × (effect_at x (place c) ≡ Some e) × (e.op.0 ≡ p.op c)
  effect-of c l =
      let law = pattern-lawful a s types member g in
      let i = place-is p law extra slots arranged c l in
      let e = there-effect p slots (place c) i.0 in
      (_, e.1, ap (λ (t : Slot). op_in p t.part t.block) i.1 ∙ law.alike_op (leader p c) c (leader-equal p law c l))

  in-ops : (ops : List ℕ) (v : ℕ) → v < s.constants → AreBelow s.operations ops → AllHold a s (variable_operations s v (OneOf ops)) → has_id ops (p.op v) ≡ true
  in-ops ops v l b h =
      let found = variable-op a s types member g ops v h in
      ap (has_id ops) (op-only a s types member g v found.0 l (below-has s.operations ops found.0 b found.1) found.2) ∙ found.1

  pub chosen-all : (vars : List OpChoice) (v : ℕ) → AreChoicesOf s.operations vars → AllHold a s (all_variable_operations s v vars) → v + length vars ≤ s.constants → (places : List ℕ) → length places ≡ length vars → ((i : ℕ) → i < length vars → slice_index places i ≡ place (v + i)) → Chosen x vars places
  chosen-all [] v b h l [] e at = tt
  chosen-all [] v b h l (q ∷ places) e at = absurd (omega (arith, e))
  chosen-all (choice ∷ vars) v b h l [] e at = absurd (omega (arith, e))
  chosen-all (Any ∷ vars) v b h l (q ∷ places) e at =
      let here : q ≡ place v = at 0 (omega arith) ∙ ap place (omega arith) in
      let f = effect-of v (omega (arith, l)) in (
        ap (λ k. one (λ u. true) (effect_at x k)) here ∙ ap (one (λ u. true)) f.1,
        chosen-all vars (suc v) b h (omega (arith, l)) places (omega (arith, e)) (λ i m. at (suc i) (omega (arith, m)) ∙ ap place (omega arith)),
      )
  chosen-all (OneOf ops ∷ vars) v b h l (q ∷ places) e at =
      let here : q ≡ place v = at 0 (omega arith) ∙ ap place (omega arith) in
      let within : v < s.constants = omega (arith, l) in
      let f = effect-of v within in
      let both = both-hold a s (variable_operations s v (OneOf ops)) (all_variable_operations s (suc v) vars) h in (
        ap (λ k. one (λ u. has_id ops u.op.0) (effect_at x k)) here ∙ ap (one (λ u. has_id ops u.op.0)) f.1 ∙ ap (has_id ops) f.2 ∙ in-ops ops v within b.0 both.0,
        chosen-all vars (suc v) b.1 both.1 (omega (arith, l)) places (omega (arith, e)) (λ i m. at (suc i) (omega (arith, m)) ∙ ap place (omega arith)),
      )
