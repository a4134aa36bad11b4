-- Where the formula of a level holds, its rules are true.
use Rattle.std.proofs.Common.{◌≡◌, ℕ, ◌-◌, ◌<◌, Bool, true, false, not, ◌&&◌, ◌||◌, ◌==◌, inl, inr, List, [], ◌∷◌, ◌++◌, Some, refl, sym, ◌∙◌, ap, arith}
use Rattle.std.proofs.lemmas.Bool.{and_from, and_parts, or_cases, cases_Bool, not_from_false, false_from_ne_true, both_ways}
use Rattle.std.specs.Prelude.{slice_index}
use Rattle.std.specs.List.{list_all}
use Rattle.ql_atoms.specs.Atoms.{Size}
use Rattle.ql_cnf.specs.Satisfaction.{clause_true}
use Rattle.ql_lang.specs.declared.formula.OpChoice.TheVariants.{Any}
use Rattle.ql_levels.specs.declared.level.Level.{Level}
use Rattle.ql_levels.specs.declared.level.Level.TheVariants.{Eventual, Causal, Wide, Strong}
use Rattle.ql_levels.specs.declared.level.TxnLevel.{TxnLevel}
use Rattle.ql_levels.specs.declared.level.TxnLevel.TheVariants.{Rc, Mav, Rr}
use Rattle.ql_levels.specs.Formulas.{formula_of, txn_formula_of}
use Rattle.ql_ground.specs.Effects.{Effect, effect_at}
use Rattle.ql_ground.specs.Relations.{so, vis, sameobj, sametxn, hb, hbo, inside}
use Rattle.ql_ground.specs.Rules.{Rule, level_rule, committed_rule, monotonic_rule, repeatable_rule, txn_level_rules}
use Rattle.ql_ground.specs.Ground.{chosen, instances, all_instances}
use Rattle.ql_ground.specs.Truth.{in_range, in_one_txn, Holds, HoldsTxn}
use Rattle.ql_ground.proofs.Laws.{found-one, sametxn-refl, sametxn-sym, inside-closed}
use Rattle.ql_ground.proofs.Upto.{all-append}
use Rattle.ql_ground.proofs.ReadOff.{ReadsOff}
use Rattle.ql_ground.proofs.Instances.{implied-from, instances-true}
use Rattle.ql_ground.proofs.Axioms.{atom_true}

pub gives : (a c : Bool) → (not a || c) ≡ true → a ≡ true → c ≡ true
gives true c h e = h
gives false c h e = absurd (both_ways false refl e)

module _ (x : List Effect) (current : ℕ → Bool) (effects : List ℕ) (s : Size) (there : (i : ℕ) → i < s.constants → (e : Effect) × (effect_at x (slice_index effects i) ≡ Some e)) (assigned : List Bool) (reads : ReadsOff assigned s (atom_true x current effects)) where
  abbrev place : ℕ → ℕ
  place i = slice_index effects i

  abbrev True : Rule → Type 0
  True r = list_all (clause_true assigned) (instances s r) ≡ true

  any : (i : ℕ) → i < s.constants → in_range x Any (place i) ≡ true
  any i l = let e = there i l in found-one (λ f. true) (effect_at x (place i)) e.0 e.1 refl

  pub level-true : (level : Level) (cur : ℕ) → slice_index effects (s.constants - 1) ≡ cur → Holds x (formula_of level) cur → True (level_rule level)
  unfolding chosen
  level-true Eventual cur last holds = instances-true assigned s (atom_true x current effects) reads (level_rule Eventual) (omega arith) (tt, (tt, tt)) (tt, tt)
      (λ i l j m. implied-from _ _ (λ g. inl (
      ap (λ c. vis x (place i) c) last
      ∙ gives (hbo x (place i) (place j) && vis x (place j) cur) (vis x (place i) cur) (holds (place i ∷ place j ∷ []) (any i l, (any j m, tt)))
      (and_from (hbo x (place i) (place j)) (vis x (place j) cur) g.0 (ap (λ c. vis x (place j) c) (sym last) ∙ g.1.0)))))
  level-true Causal cur last holds = instances-true assigned s (atom_true x current effects) reads (level_rule Causal) (omega arith) (tt, tt) (tt, tt)
      (λ i l. implied-from _ _ (λ g. inl (
      ap (λ c. vis x (place i) c) last
      ∙ gives (hbo x (place i) cur) (vis x (place i) cur) (holds (place i ∷ []) (any i l, tt)) (ap (λ c. hbo x (place i) c) (sym last) ∙ g.0))))
  level-true Wide cur last holds = instances-true assigned s (atom_true x current effects) reads (level_rule Wide) (omega arith) (tt, (tt, tt)) (tt, tt)
      (λ i l. implied-from _ _ (λ g. inl (
      ap (λ c. vis x (place i) c) last
      ∙ gives (hb x (place i) cur && sameobj x (place i) cur) (vis x (place i) cur) (holds (place i ∷ []) (any i l, tt))
      (and_from (hb x (place i) cur) (sameobj x (place i) cur) (ap (λ c. hb x (place i) c) (sym last) ∙ g.0) (ap (λ c. sameobj x (place i) c) (sym last) ∙ g.1.0)))))
  level-true Strong cur last holds = instances-true assigned s (atom_true x current effects) reads (level_rule Strong) (omega arith) (tt, tt) (tt, (tt, (tt, tt)))
      (λ i l. implied-from _ _ (λ g.
      let some : ((vis x (place i) cur || vis x cur (place i)) || (place i == cur)) ≡ true =
      gives (sameobj x (place i) cur) ((vis x (place i) cur || vis x cur (place i)) || (place i == cur)) (holds (place i ∷ []) (any i l, tt)) (ap (λ c. sameobj x (place i) c) (sym last) ∙ g.0) in
      elim (or_cases (vis x (place i) cur || vis x cur (place i)) (place i == cur) some) [
        | inl seen ↦ elim (or_cases (vis x (place i) cur) (vis x cur (place i)) seen) [
          | inl before ↦ inl (ap (λ c. vis x (place i) c) last ∙ before)
          | inr after ↦ inr (inl (ap (λ c. vis x c (place i)) last ∙ after))
        ]
        | inr same ↦ inr (inr (inl (ap (λ c. place i == c) last ∙ same)))
      ]))

  module _ (run : ℕ) (is_run : (a : ℕ) → current a ≡ inside x run a) where
    closed : (a b : ℕ) → current a ≡ true → sametxn x a b ≡ true → current b ≡ true
    closed a b h g = is_run b ∙ inside-closed x run a b (sym (is_run a) ∙ h) g

    -- two effects of one transaction: neither is current where the first isn't
    apart : (c d : ℕ) → current c ≡ false → sametxn x c d ≡ true → current d ≡ false
    apart c d h g = false_from_ne_true (current d) (λ e. both_ways (current c) h (closed d c e (sametxn-sym x c d g)))

    one_txn-from : (members : List ℕ) (c d : ℕ) → list_all current members ≡ true → current c ≡ false → sametxn x c d ≡ true → in_one_txn x current members (c ∷ d ∷ []) ≡ true
    one_txn-from members c d h e g =
        and_from (list_all current members) _ h (and_from _ _
        (and_from (not (current c)) _ (not_from_false (current c) e) (and_from (not (current d)) true (not_from_false (current d) (apart c d e g)) refl))
        (and_from (sametxn x c c) _ (sametxn-refl x c) (and_from (sametxn x c d) true g refl)))

    committed-true : ((i j k : ℕ) → i < s.constants → j < s.constants → k < s.constants → (not ((in_one_txn x current (place i ∷ []) (place j ∷ place k ∷ []) && sameobj x (place j) (place k)) && vis x (place j) (place i)) || vis x (place k) (place i)) ≡ true) → True committed_rule
    unfolding chosen
    committed-true h = instances-true assigned s (atom_true x current effects) reads committed_rule (omega arith) (tt, (tt, (tt, (tt, tt)))) (tt, (tt, tt))
        (λ i l j m k n. implied-from _ _ (λ g. elim (cases_Bool (current (place j))) [
          | inl is ↦ inl is
          | inr isnt ↦ inr (inl (gives ((in_one_txn x current (place i ∷ []) (place j ∷ place k ∷ []) && sameobj x (place j) (place k)) && vis x (place j) (place i)) (vis x (place k) (place i)) (h i j k l m n)
              (and_from _ _ (and_from _ _ (one_txn-from (place i ∷ []) (place j) (place k) (and_from (current (place i)) true g.0 refl) isnt g.1.0) g.1.1.0) g.1.1.1.0)))
        ]))

    monotonic-true : ((i j k l : ℕ) → i < s.constants → j < s.constants → k < s.constants → l < s.constants → (not (((in_one_txn x current (place i ∷ place j ∷ []) (place k ∷ place l ∷ []) && so x (place i) (place j)) && vis x (place k) (place i)) && sameobj x (place l) (place j)) || vis x (place l) (place j)) ≡ true) → True monotonic_rule
    unfolding chosen
    monotonic-true h = instances-true assigned s (atom_true x current effects) reads monotonic_rule (omega arith) (tt, (tt, (tt, (tt, (tt, (tt, tt)))))) (tt, (tt, tt))
        (λ i p j q k r l o. implied-from _ _ (λ g. elim (cases_Bool (current (place k))) [
          | inl is ↦ inl is
          | inr isnt ↦ inr (inl (gives (((in_one_txn x current (place i ∷ place j ∷ []) (place k ∷ place l ∷ []) && so x (place i) (place j)) && vis x (place k) (place i)) && sameobj x (place l) (place j)) (vis x (place l) (place j)) (h i j k l p q r o)
              (and_from _ _ (and_from _ _ (and_from _ _ (one_txn-from (place i ∷ place j ∷ []) (place k) (place l) (and_from (current (place i)) _ g.0 (and_from (current (place j)) true g.1.0 refl)) isnt g.1.1.0) g.1.1.1.0) g.1.1.1.1.0) g.1.1.1.1.1.0)))
        ]))

    repeatable-true : ((i j k l : ℕ) → i < s.constants → j < s.constants → k < s.constants → l < s.constants → (not ((in_one_txn x current (place i ∷ place j ∷ []) (place k ∷ place l ∷ []) && vis x (place k) (place i)) && sameobj x (place l) (place j)) || vis x (place l) (place j)) ≡ true) → True repeatable_rule
    unfolding chosen
    repeatable-true h = instances-true assigned s (atom_true x current effects) reads repeatable_rule (omega arith) (tt, (tt, (tt, (tt, (tt, tt))))) (tt, (tt, tt))
        (λ i p j q k r l o. implied-from _ _ (λ g. elim (cases_Bool (current (place k))) [
          | inl is ↦ inl is
          | inr isnt ↦ inr (inl (gives ((in_one_txn x current (place i ∷ place j ∷ []) (place k ∷ place l ∷ []) && vis x (place k) (place i)) && sameobj x (place l) (place j)) (vis x (place l) (place j)) (h i j k l p q r o)
              (and_from _ _ (and_from _ _ (one_txn-from (place i ∷ place j ∷ []) (place k) (place l) (and_from (current (place i)) _ g.0 (and_from (current (place j)) true g.1.0 refl)) isnt g.1.1.0) g.1.1.1.0) g.1.1.1.1.0)))
        ]))

-- where the formula of a transaction's level holds, its rules are true
pub txn_level-true : (x : List Effect) (run : ℕ) (effects : List ℕ) (s : Size) (there : (i : ℕ) → i < s.constants → (e : Effect) × (effect_at x (slice_index effects i) ≡ Some e)) (assigned : List Bool) (reads : ReadsOff assigned s (atom_true x (inside x run) effects)) (level : TxnLevel) → HoldsTxn x (txn_formula_of level) run → list_all (clause_true assigned) (all_instances s (txn_level_rules level)) ≡ true
txn_level-true x run effects s there assigned reads Rc holds =
    let any = any x (inside x run) effects s there assigned reads in
    let p = λ (i : ℕ). slice_index effects i in
    all-append (clause_true assigned) (instances s committed_rule) []
    (committed-true x (inside x run) effects s there assigned reads run (λ a. refl) (λ i j k l m n. holds (p i ∷ p j ∷ p k ∷ []) (any i l, (any j m, (any k n, tt)))))
    refl
txn_level-true x run effects s there assigned reads Mav holds =
    let any = any x (inside x run) effects s there assigned reads in
    let p = λ (i : ℕ). slice_index effects i in
    all-append (clause_true assigned) (instances s committed_rule) (instances s monotonic_rule ++ [])
    (committed-true x (inside x run) effects s there assigned reads run (λ a. refl) (λ i j k l m n. (and_parts _ _ (holds (p i ∷ p j ∷ p k ∷ p k ∷ []) (any i l, (any j m, (any k n, (any k n, tt)))))).0))
    (all-append (clause_true assigned) (instances s monotonic_rule) []
    (monotonic-true x (inside x run) effects s there assigned reads run (λ a. refl) (λ i j k l q r t u. (and_parts _ _ (holds (p i ∷ p j ∷ p k ∷ p l ∷ []) (any i q, (any j r, (any k t, (any l u, tt)))))).1))
    refl)
txn_level-true x run effects s there assigned reads Rr holds =
    let any = any x (inside x run) effects s there assigned reads in
    let p = λ (i : ℕ). slice_index effects i in
    all-append (clause_true assigned) (instances s repeatable_rule) []
    (repeatable-true x (inside x run) effects s there assigned reads run (λ a. refl) (λ i j k l q r t u. holds (p i ∷ p j ∷ p k ∷ p l ∷ []) (any i q, (any j r, (any k t, (any l u, tt))))))
    refl
