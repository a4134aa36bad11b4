-- The axioms are true of the relations of every execution, at any choice of effects.
use Rattle.std.proofs.Common.{◌≡◌, ℕ, ◌<◌, Bool, true, ◌==◌, ◌⊎◌, inl, inr, List, [], ◌∷◌, Some, refl, sym, ◌∙◌, ap, arith}
use Rattle.std.proofs.lemmas.Bool.{and_from, or_left, or_right, eqb-true, eq-eqb}
use Rattle.std.specs.Prelude.{slice_index}
use Rattle.std.specs.List.{list_all}
use Rattle.ql_atoms.specs.declared.atoms.Atom.{Atom}
use Rattle.ql_atoms.specs.declared.atoms.Atom.TheVariants.{Pair, Current, Is}
use Rattle.ql_atoms.specs.declared.atoms.PairKind.{PairKind}
use Rattle.ql_atoms.specs.declared.atoms.PairKind.TheVariants.{Eq, So, SameObj, Vis, Hbo, Hb, SameTxn}
use Rattle.ql_atoms.specs.Atoms.{Size}
use Rattle.ql_cnf.specs.Satisfaction.{clause_true}
use Rattle.ql_ground.specs.Effects.{Effect, effect_at}
use Rattle.ql_ground.specs.Relations.{so, vis, sameobj, soo, sametxn, hbo, hb, is_op, IsExecution}
use Rattle.ql_ground.specs.Rules.{Rule, rule, reflexive, symmetric, transitive, irreflexive, within, alike_left, alike_right, equality_rules, alike_op, alike_current, session_rules, object_rules, object_order_rules, order_rules, transaction_rules}
use Rattle.ql_base.specs.Ids.{op}
use Rattle.ql_ground.specs.Ground.{chosen, instances, all_instances, alike_operations}
use Rattle.ql_ground.proofs.Laws.{so-trans, so-forward, so-backward, sameobj-refl, sameobj-sym, sameobj-trans, hb-one, hbo-one, hb-trans, hbo-trans, hb-irreflexive, hbo-sameobj, hbo-hb, sametxn-refl, sametxn-sym, sametxn-trans, sametxn-order}
use Rattle.ql_ground.proofs.Upto.{all-append, upto-all}
use Rattle.ql_ground.proofs.ReadOff.{ReadsOff}
use Rattle.ql_ground.proofs.Instances.{implied-from, instances-true}

-- the truth of an atom where each constant is an effect
abbrev pub pair_true : List Effect → PairKind → ℕ → ℕ → Bool
pair_true x Eq a b = a == b
pair_true x So a b = so x a b
pair_true x SameObj a b = sameobj x a b
pair_true x Vis a b = vis x a b
pair_true x Hbo a b = hbo x a b
pair_true x Hb a b = hb x a b
pair_true x SameTxn a b = sametxn x a b

abbrev pub atom_true : List Effect → (ℕ → Bool) → List ℕ → Atom → Bool
atom_true x current effects (Pair r i j) = pair_true x r (slice_index effects i) (slice_index effects j)
atom_true x current effects (Current i) = current (slice_index effects i)
atom_true x current effects (Is o i) = is_op x o.0 (slice_index effects i)

-- what the current effects of a transaction keep
pub record IsCurrent (x : List Effect) (current : ℕ → Bool) : Type 0 where
  pub together : (a b : ℕ) → current a ≡ true → current b ≡ true → sametxn x a b ≡ true
  pub closed : (a b : ℕ) → current a ≡ true → sametxn x a b ≡ true → current b ≡ true

three_ways : {a b c : Bool} → (a ≡ true) ⊎ ((b ≡ true) ⊎ (c ≡ true)) → (a ≡ true) ⊎ ((b ≡ true) ⊎ ((c ≡ true) ⊎ ⊥))
three_ways (inl h) = inl h
three_ways (inr (inl h)) = inr (inl h)
three_ways (inr (inr h)) = inr (inr (inl h))

module _ (x : List Effect) (law : IsExecution x) (current : ℕ → Bool) (effects : List ℕ) (s : Size) (there : (i : ℕ) → i < s.constants → (e : Effect) × (effect_at x (slice_index effects i) ≡ Some e)) (assigned : List Bool) (reads : ReadsOff assigned s (atom_true x current effects)) where
  abbrev place : ℕ → ℕ
  place i = slice_index effects i

  abbrev True : Rule → Type 0
  True r = list_all (clause_true assigned) (instances s r) ≡ true

  transitive-true : (r : PairKind) → ((a b c : ℕ) → pair_true x r a b ≡ true → pair_true x r b c ≡ true → pair_true x r a c ≡ true) → True (transitive r)
  unfolding chosen
  transitive-true r h = instances-true assigned s (atom_true x current effects) reads (transitive r) (omega arith) (tt, (tt, tt)) (tt, tt)
      (λ i _ j _ k _. implied-from _ _ (λ g. inl (h (place i) (place j) (place k) g.0 g.1.0)))

  symmetric-true : (r : PairKind) → ((a b : ℕ) → pair_true x r a b ≡ true → pair_true x r b a ≡ true) → True (symmetric r)
  unfolding chosen
  symmetric-true r h = instances-true assigned s (atom_true x current effects) reads (symmetric r) (omega arith) (tt, tt) (tt, tt)
      (λ i _ j _. implied-from _ _ (λ g. inl (h (place i) (place j) g.0)))

  reflexive-true : (r : PairKind) → ((i : ℕ) → i < s.constants → pair_true x r (place i) (place i) ≡ true) → True (reflexive r)
  unfolding chosen
  reflexive-true r h = instances-true assigned s (atom_true x current effects) reads (reflexive r) (omega arith) tt (tt, tt)
      (λ i l. implied-from _ _ (λ g. inl (h i l)))

  within-true : (r q : PairKind) → ((a b : ℕ) → pair_true x r a b ≡ true → pair_true x q a b ≡ true) → True (within r q)
  unfolding chosen
  within-true r q h = instances-true assigned s (atom_true x current effects) reads (within r q) (omega arith) (tt, tt) (tt, tt)
      (λ i _ j _. implied-from _ _ (λ g. inl (h (place i) (place j) g.0)))

  alike_left-true : (r : PairKind) → True (alike_left r)
  unfolding chosen
  alike_left-true r = instances-true assigned s (atom_true x current effects) reads (alike_left r) (omega arith) (tt, (tt, tt)) (tt, tt)
      (λ i _ j _ k _. implied-from _ _ (λ g. inl (ap (λ a. pair_true x r a (place k)) (sym (eqb-true (place i) (place j) g.0)) ∙ g.1.0)))

  alike_right-true : (r : PairKind) → True (alike_right r)
  unfolding chosen
  alike_right-true r = instances-true assigned s (atom_true x current effects) reads (alike_right r) (omega arith) (tt, (tt, tt)) (tt, tt)
      (λ i _ j _ k _. implied-from _ _ (λ g. inl (ap (λ a. pair_true x r (place k) a) (sym (eqb-true (place i) (place j) g.0)) ∙ g.1.0)))

  EachTrue : List Rule → Type 0
  EachTrue [] = Unit {0}
  EachTrue (r ∷ rules) = True r × EachTrue rules

  rules-true : (rules : List Rule) → EachTrue rules → list_all (clause_true assigned) (all_instances s rules) ≡ true
  unfolding EachTrue
  rules-true [] h = refl
  rules-true (r ∷ rules) h = all-append (clause_true assigned) (instances s r) (all_instances s rules) h.0 (rules-true rules h.1)

  pub equality-true : list_all (clause_true assigned) (all_instances s equality_rules) ≡ true
  unfolding EachTrue
  equality-true = rules-true equality_rules (
    reflexive-true Eq (λ i l. eq-eqb (place i) (place i) refl),
    (
      symmetric-true Eq (λ a b h. eq-eqb b a (sym (eqb-true a b h))),
      (
        transitive-true Eq (λ a b c h g. eq-eqb a c (eqb-true a b h ∙ eqb-true b c g)),
        (
          alike_left-true So,
          (
            alike_right-true So,
            (
              alike_left-true SameObj,
              (
                alike_right-true SameObj,
                (
                  alike_left-true Vis,
                  (
                    alike_right-true Vis,
                    (
                      alike_left-true Hbo,
                      (
                        alike_right-true Hbo,
                        (alike_left-true Hb, (alike_right-true Hb, (alike_left-true SameTxn, (alike_right-true SameTxn, tt)))),
                      ),
                    ),
                  ),
                ),
              ),
            ),
          ),
        ),
      ),
    ),
  )

  pub session-true : list_all (clause_true assigned) (all_instances s session_rules) ≡ true
  unfolding EachTrue chosen
  session-true = rules-true session_rules (
    transitive-true So (so-trans x),
    (
      instances-true assigned s (atom_true x current effects) reads (rule 3 (Pair So 0 1 ∷ Pair So 0 2 ∷ []) (Pair So 1 2 ∷ Pair So 2 1 ∷ Pair Eq 1 2 ∷ [])) (omega arith) (tt, (tt, tt)) (tt, (tt, (tt, tt)))
          (λ i _ j _ k _. implied-from _ _ (λ g. three_ways (so-forward x (place i) (place j) (place k) g.0 g.1.0))),
      (
        instances-true assigned s (atom_true x current effects) reads (rule 3 (Pair So 0 2 ∷ Pair So 1 2 ∷ []) (Pair So 0 1 ∷ Pair So 1 0 ∷ Pair Eq 0 1 ∷ [])) (omega arith) (tt, (tt, tt)) (tt, (tt, (tt, tt)))
            (λ i _ j _ k _. implied-from _ _ (λ g. three_ways (so-backward x (place i) (place j) (place k) g.0 g.1.0))),
        tt,
      ),
    ),
  )

  pub object-true : list_all (clause_true assigned) (all_instances s object_rules) ≡ true
  unfolding EachTrue
  object-true = rules-true object_rules (
    reflexive-true SameObj (λ i l. let e = there i l in sameobj-refl x (place i) e.0 e.1),
    (
      symmetric-true SameObj (sameobj-sym x),
      (
        transitive-true SameObj (sameobj-trans x),
        (within-true Vis SameObj law.sees_own_object, tt),
      ),
    ),
  )

  pub object_order-true : list_all (clause_true assigned) (all_instances s object_order_rules) ≡ true
  unfolding EachTrue chosen
  object_order-true = rules-true object_order_rules (
    within-true Vis Hbo (λ a b h. hbo-one x law a b (or_right (soo x a b) (vis x a b) h)),
    (
      instances-true assigned s (atom_true x current effects) reads (rule 2 (Pair So 0 1 ∷ Pair SameObj 0 1 ∷ []) (Pair Hbo 0 1 ∷ [])) (omega arith) (tt, (tt, tt)) (tt, tt)
          (λ i _ j _. implied-from _ _ (λ g. inl (hbo-one x law (place i) (place j) (or_left (soo x (place i) (place j)) (vis x (place i) (place j)) (and_from (so x (place i) (place j)) (sameobj x (place i) (place j)) g.0 g.1.0))))),
      (
        transitive-true Hbo (hbo-trans x law),
        (within-true Hbo SameObj (hbo-sameobj x law), tt),
      ),
    ),
  )

  pub order-true : list_all (clause_true assigned) (all_instances s order_rules) ≡ true
  unfolding EachTrue chosen
  order-true = rules-true order_rules (
    within-true Hbo Hb (hbo-hb x law),
    (
      within-true So Hb (λ a b h. hb-one x law a b (or_left (so x a b) (vis x a b) h)),
      (
        within-true Vis Hb (λ a b h. hb-one x law a b (or_right (so x a b) (vis x a b) h)),
        (
          transitive-true Hb (hb-trans x law),
          (
            instances-true assigned s (atom_true x current effects) reads (irreflexive Hb) (omega arith) (tt, tt) tt
                (λ i _. implied-from _ _ (λ g. hb-irreflexive x law (place i) g.0)),
            tt,
          ),
        ),
      ),
    ),
  )

  pub transaction-true : IsCurrent x current → list_all (clause_true assigned) (all_instances s transaction_rules) ≡ true
  unfolding EachTrue chosen
  transaction-true is_current = rules-true transaction_rules (
    reflexive-true SameTxn (λ i l. sametxn-refl x (place i)),
    (
      symmetric-true SameTxn (sametxn-sym x),
      (
        transitive-true SameTxn (sametxn-trans x),
        (
          instances-true assigned s (atom_true x current effects) reads (rule 2 (Pair SameTxn 0 1 ∷ []) (Pair So 0 1 ∷ Pair So 1 0 ∷ Pair Eq 0 1 ∷ [])) (omega arith) (tt, tt) (tt, (tt, (tt, tt)))
              (λ i _ j _. implied-from _ _ (λ g. three_ways (sametxn-order x law (place i) (place j) g.0))),
          (
            instances-true assigned s (atom_true x current effects) reads (rule 3 (Pair SameTxn 0 2 ∷ Pair So 0 1 ∷ Pair So 1 2 ∷ []) (Pair SameTxn 0 1 ∷ [])) (omega arith) (tt, (tt, (tt, tt))) (tt, tt)
                (λ i _ j _ k _. implied-from _ _ (λ g. inl (law.contiguous (place i) (place j) (place k) g.0 g.1.0 g.1.1.0))),
            (
              instances-true assigned s (atom_true x current effects) reads (rule 2 (Current 0 ∷ Current 1 ∷ []) (Pair SameTxn 0 1 ∷ [])) (omega arith) (tt, (tt, tt)) (tt, tt)
                  (λ i _ j _. implied-from _ _ (λ g. inl (is_current.together (place i) (place j) g.0 g.1.0))),
              (
                instances-true assigned s (atom_true x current effects) reads (rule 2 (Current 0 ∷ Pair SameTxn 0 1 ∷ []) (Current 1 ∷ [])) (omega arith) (tt, (tt, tt)) (tt, tt)
                    (λ i _ j _. implied-from _ _ (λ g. inl (is_current.closed (place i) (place j) g.0 g.1.0))),
                tt,
              ),
            ),
          ),
        ),
      ),
    ),
  )

  pub alike_current-true : True alike_current
  unfolding chosen
  alike_current-true = instances-true assigned s (atom_true x current effects) reads alike_current (omega arith) (tt, (tt, tt)) (tt, tt)
      (λ i _ j _. implied-from _ _ (λ g. inl (ap current (sym (eqb-true (place i) (place j) g.0)) ∙ g.1.0)))

  pub alike_operations-true : list_all (clause_true assigned) (alike_operations s) ≡ true
  unfolding chosen
  alike_operations-true = upto-all (clause_true assigned) s.operations (λ o. instances s (alike_op (op o))) (λ o l.
      instances-true assigned s (atom_true x current effects) reads (alike_op (op o)) (omega arith) (tt, (l, tt)) (l, tt)
      (λ i _ j _. implied-from _ _ (λ g. inl (ap (λ a. is_op x o a) (sym (eqb-true (place i) (place j) g.0)) ∙ g.1.0))))
