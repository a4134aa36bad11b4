-- Where all effects keep their levels, the clauses for what they keep are true.
use Rattle.std.proofs.Common.{◌≡◌, ℕ, ◌<◌, Bool, true, false, ◌&&◌, ◌||◌, ◌==◌, cond, inl, inr, List, [], ◌∷◌, length, Some, refl, ◌∙◌, ap, subst, arith, eqb-true}
use Rattle.std.proofs.lemmas.Bool.{and_from, both_ways, or_cases, or_left, eq-eqb}
use Rattle.std.specs.Prelude.{slice_index, if◌then◌else◌}
use Rattle.std.specs.List.{list_all, list_any}
use Rattle.ql_base.specs.Ids.{op}
use Rattle.ql_base.specs.Ranges.{upto}
use Rattle.ql_atoms.specs.Atoms.{Size}
use Rattle.ql_atoms.specs.declared.atoms.Atom.{Atom}
use Rattle.ql_atoms.specs.declared.atoms.Atom.TheVariants.{Current, Is}
use Rattle.ql_cnf.specs.Satisfaction.{clause_true}
use Rattle.ql_lang.specs.declared.formula.OpChoice.TheVariants.{Any}
use Rattle.ql_levels.specs.declared.level.Level.{Level}
use Rattle.ql_levels.specs.declared.level.Level.TheVariants.{Eventual, Causal, Wide, Strong}
use Rattle.ql_levels.specs.Formulas.{formula_of}
use Rattle.ql_levels.specs.Lists.{LevelLists}
use Rattle.ql_ground.specs.Effects.{Effect, Member, Alone, Inside, effect_at}
use Rattle.ql_ground.specs.Ground.{chosen, implication, instances}
use Rattle.ql_ground.specs.Implication.{FitsProgram}
use Rattle.ql_ground.specs.Relations.{IsExecution, hb, hbo, in_run, inside, is_op, sameobj, vis}
use Rattle.ql_ground.specs.Truth.{Holds, in_range}
use Rattle.ql_ground.proofs.Axioms.{atom_true}
use Rattle.ql_ground.proofs.Instances.{AllFit, implied-from, implication-true, instance-true, instances-true, one_clause}
use Rattle.ql_ground.proofs.Laws.{found-one, one-found}
use Rattle.ql_ground.proofs.LevelRules.{gives}
use Rattle.ql_ground.proofs.Operations.{AllFit-upto, some_from}
use Rattle.ql_ground.proofs.ReadOff.{ReadsOff}
use Rattle.ql_ground.proofs.Upto.{all-append, upto-all, upto-any}
use Rattle.ql_relative.specs.Keeping.{op_level}
use Rattle.ql_relative.specs.Relative.{causal_rule, eventual_rule, kept, kept_at, kept_of, strong_rule, used, used_at, used_atoms, wide_rule}
use Rattle.ql_relative.proofs.PlainKeeping.{KeepsLevel, KeepsLevels}
use Rattle.ql_relative.proofs.Lowest.{before-seen}

module _ (x : List Effect) (law : IsExecution x) (levels : LevelLists) (keeps : KeepsLevels levels x) (current : ℕ → Bool) (effects : List ℕ) (s : Size) (there : (i : ℕ) → i < s.constants → (e : Effect) × (effect_at x (slice_index effects i) ≡ Some e)) (assigned : List Bool) (reads : ReadsOff assigned s (atom_true x current effects)) where
  abbrev place : ℕ → ℕ
  place i = slice_index effects i

  abbrev t : Atom → Bool
  t a = atom_true x current effects a

  any : (i : ℕ) → i < s.constants → in_range x Any (place i) ≡ true
  any i l = let e = there i l in found-one (λ f. true) (effect_at x (place i)) e.0 e.1 refl

  eventual-true : list_all (clause_true assigned) (instances s eventual_rule) ≡ true
  unfolding chosen
  eventual-true = instances-true assigned s t reads eventual_rule (omega arith) (tt, (tt, tt)) (tt, tt)
      (λ i l j m k n. implied-from _ _ (λ g.
      let e = there i l in
      inl (before-seen x law (op_level levels e.0.op) (place i) (keeps (place i) e.0 e.1) (place j) (place k) (any j m) (any k n) g.0 g.1.0)))

  -- an effect of the operation keeps the operation's level
  own : (o i : ℕ) (level : Level) → op_level levels o ≡ level → is_op x o (place i) ≡ true → Holds x (formula_of level) (place i)
  own o i level same is =
      let found = one-found (λ e. e.op == o) (effect_at x (place i)) is in
      subst (λ l. Holds x (formula_of l) (place i)) (ap (op_level levels) (eqb-true found.effect.op o found.holds) ∙ same) (keeps (place i) found.effect found.effect_is)

  kept_at-true : (i o : ℕ) (level : Level) → i < s.constants → o < s.operations → op_level levels o ≡ level → list_all (clause_true assigned) (kept_at s i (op o) level) ≡ true
  unfolding chosen
  kept_at-true i o Eventual l m same = refl
  kept_at-true i o Causal l m same = upto-all (clause_true assigned) s.constants _ (λ j n.
      instance-true assigned s t reads (causal_rule (op o)) (i ∷ j ∷ []) (omega (arith, l)) (l, (n, tt)) (m, (tt, tt)) (tt, tt)
      (implied-from _ _ (λ g. inl (gives (hbo x (place j) (place i)) (vis x (place j) (place i)) (own o i Causal same g.0 (place j ∷ []) (any j n, tt)) g.1.0))))
  kept_at-true i o Wide l m same = upto-all (clause_true assigned) s.constants _ (λ j n.
      instance-true assigned s t reads (wide_rule (op o)) (i ∷ j ∷ []) (omega (arith, l)) (l, (n, tt)) (m, (tt, (tt, tt))) (tt, tt)
      (implied-from _ _ (λ g. inl (gives (hb x (place j) (place i) && sameobj x (place j) (place i)) (vis x (place j) (place i)) (own o i Wide same g.0 (place j ∷ []) (any j n, tt)) (and_from (hb x (place j) (place i)) (sameobj x (place j) (place i)) g.1.0 g.1.1.0)))))
  kept_at-true i o Strong l m same = upto-all (clause_true assigned) s.constants _ (λ j n.
      instance-true assigned s t reads (strong_rule (op o)) (i ∷ j ∷ []) (omega (arith, l)) (l, (n, tt)) (m, (tt, tt)) (tt, (tt, (tt, tt)))
      (implied-from _ _ (λ g.
      let some : ((vis x (place j) (place i) || vis x (place i) (place j)) || (place j == place i)) ≡ true =
      gives (sameobj x (place j) (place i)) ((vis x (place j) (place i) || vis x (place i) (place j)) || (place j == place i)) (own o i Strong same g.0 (place j ∷ []) (any j n, tt)) g.1.0 in
      elim (or_cases (vis x (place j) (place i) || vis x (place i) (place j)) (place j == place i) some) [
        | inl seen ↦ elim (or_cases (vis x (place j) (place i)) (vis x (place i) (place j)) seen) [
          | inl before ↦ inl before
          | inr after ↦ inr (inl after)
        ]
        | inr same ↦ inr (inr (inl same))
      ])))

  -- all that all effects keep
  pub kept-true : list_all (clause_true assigned) (kept levels s) ≡ true
  kept-true = all-append (clause_true assigned) (instances s eventual_rule) (upto s.constants (kept_of levels s)) eventual-true
      (upto-all (clause_true assigned) s.constants (kept_of levels s) (λ i l.
      upto-all (clause_true assigned) s.operations (λ o. kept_at s i (op o) (op_level levels o)) (λ o m. kept_at-true i o (op_level levels o) l m refl)))

-- an effect that is inside the begun transaction is of its number and of some name
inside-name : (run : ℕ) (m : Member) → in_run run m ≡ true → (name : ℕ) × (m ≡ Inside run name)
inside-name run Alone h = absurd (both_ways false refl h)
inside-name run (Inside other name) h = (name, ap (λ k. Inside k name) (eqb-true other run h))

module _ (x : List Effect) (types : List ℕ) (fits : FitsProgram types x) (levels : LevelLists) (uses : ℕ → Bool) (run d : ℕ) (keeps : KeepsLevel levels uses x run d) (effects : List ℕ) (s : Size) (sized : s.operations ≡ length types) (there : (i : ℕ) → i < s.constants → (e : Effect) × (effect_at x (slice_index effects i) ≡ Some e)) (assigned : List Bool) (reads : ReadsOff assigned s (atom_true x (inside x run) effects)) where
  abbrev truth : Atom → Bool
  truth a = atom_true x (inside x run) effects a

  one_used : (i o : ℕ) → i < s.constants → o < s.operations → (b : Bool) → AllFit s (cond b (Is (op o) i ∷ []) [])
  one_used i o l m true = ((m, l), tt)
  one_used i o l m false = tt

  used_at-true : (i : ℕ) → i < s.constants → list_all (clause_true assigned) (used_at uses s i) ≡ true
  used_at-true i l = one_clause assigned s truth reads (implication s (Current i ∷ []) (used_atoms uses s i))
      (implication-true assigned s truth reads (Current i ∷ []) (used_atoms uses s i) (l, tt)
      (AllFit-upto s s.operations (λ o. if uses o then Is (op o) i ∷ [] else []) (λ o m. one_used i o l m (uses o)))
      (implied-from _ _ (λ g.
      let a : ℕ = slice_index effects i in
      let found = one-found (λ e. in_run run e.member) (effect_at x a) g.0 in
      let e : Effect = found.effect in
      let name = inside-name run e.member found.holds in
      let used : uses e.op ≡ true = (keeps.own a e name.0 found.effect_is name.1).1 in
      let is : is_op x e.op a ≡ true = found-one (λ f. f.op == e.op) (effect_at x a) e found.effect_is (eq-eqb e.op e.op refl) in
      let known : e.op < s.operations = omega (arith, fits.known a e.op is) in
      some_from truth (used_atoms uses s i) (upto-any truth s.operations (λ o. if uses o then Is (op o) i ∷ [] else []) e.op known
      (ap (λ b. list_any truth (cond b (Is (op e.op) i ∷ []) [])) used ∙ or_left (is_op x e.op a) false is)))))

  -- each current effect is of an operation that is used
  pub used-true : list_all (clause_true assigned) (used uses s) ≡ true
  used-true = upto-all (clause_true assigned) s.constants (used_at uses s) used_at-true
