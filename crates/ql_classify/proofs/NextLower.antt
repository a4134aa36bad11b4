-- The next lower goal of a target, from the assignments for all lower ones.
use Rattle.std.proofs.Common.{◌≡◌, ℕ, zero, suc, ◌+◌, Bool, List, [], ◌∷◌, ◌++◌, length, Option, Some, None, slice_get, refl, sym, ap, subst, ◌∙◌}
use Rattle.std.specs.List.{AllZip}
use Rattle.std.specs.Option.{option_to_list}
use Rattle.std.proofs.lemmas.Option.{same_Some}
use Rattle.ql_base.specs.declared.ids.OpId.{OpId}
use Rattle.ql_base.specs.declared.ids.DeclId.{DeclId}
use Rattle.ql_ground.specs.declared.goal.Goal.{Goal}
use Rattle.ql_ground.specs.declared.goal.Goal.TheVariants.{OpAt, TxnAt}
use Rattle.ql_lang.specs.declared.program.Program.{Program}
use Rattle.ql_levels.specs.declared.level.Level.{Level}
use Rattle.ql_levels.specs.declared.level.Level.TheVariants.{Eventual, Causal, Wide, Strong}
use Rattle.ql_levels.specs.declared.level.TxnLevel.{TxnLevel}
use Rattle.ql_levels.specs.declared.level.TxnLevel.TheVariants.{Rc, Mav, Rr}
use Rattle.ql_classify.specs.Finding.{IsLastUnmet}
use Rattle.ql_counter.specs.Countermodels.{IsSatisfiedBy}
use Rattle.ql_classify.specs.Targets.{goals_below, step_level, step_txn_level}
use Rattle.ql_classify.specs.declared.finding.Unmet.{Unmet}

-- the last of some pairs
zip_last : {A B : Type 0} (R : A → B → Type 0) (xs : List A) (ys : List B) (y : B) → AllZip R xs (ys ++ y ∷ []) → (x : A) × (suc (length ys) ≡ length xs) × (slice_get xs (length ys) ≡ Some x) × R x y
zip_last R [] [] y h = absurd h
zip_last R [] (b ∷ ys) y h = absurd h
zip_last R (x ∷ []) [] y h = (x, refl, refl, h.0)
zip_last R (x ∷ z ∷ xs) [] y h = absurd h.1
zip_last R (x ∷ xs) (b ∷ ys) y h = let (z, count, at, r) = zip_last R xs ys y h.1 in (z, ap suc count, at, r)

zip_none : {A B : Type 0} (R : A → B → Type 0) (xs : List A) → AllZip R xs [] → xs ≡ []
zip_none R [] h = refl
zip_none R (x ∷ xs) h = absurd h

op_below : (o : OpId) (level : Level) (step : ℕ) (lower : Goal) → slice_get (goals_below (OpAt o level)) step ≡ Some lower → lower ≡ OpAt o (step_level step)
op_below o Eventual step lower e = absurd (cc)
op_below o Causal zero lower e = sym (same_Some _ lower e)
op_below o Causal (suc step) lower e = absurd (cc)
op_below o Wide zero lower e = sym (same_Some _ lower e)
op_below o Wide (suc zero) lower e = sym (same_Some _ lower e)
op_below o Wide (suc (suc step)) lower e = absurd (cc)
op_below o Strong zero lower e = sym (same_Some _ lower e)
op_below o Strong (suc zero) lower e = sym (same_Some _ lower e)
op_below o Strong (suc (suc zero)) lower e = sym (same_Some _ lower e)
op_below o Strong (suc (suc (suc step))) lower e = absurd (cc)

txn_below : (d : DeclId) (level : TxnLevel) (step : ℕ) (lower : Goal) → slice_get (goals_below (TxnAt d level)) step ≡ Some lower → lower ≡ TxnAt d (step_txn_level step)
txn_below d Rc step lower e = absurd (cc)
txn_below d Mav zero lower e = sym (same_Some _ lower e)
txn_below d Mav (suc step) lower e = absurd (cc)
txn_below d Rr zero lower e = sym (same_Some _ lower e)
txn_below d Rr (suc zero) lower e = sym (same_Some _ lower e)
txn_below d Rr (suc (suc step)) lower e = absurd (cc)

module _ (p : Program) where
  at_last : (goals : List Goal) (init : List (List Bool)) (a : List Bool) (u : Unmet) → ((g : Goal) → slice_get goals (length init) ≡ Some g → g ≡ u.goal) → u.assignment ≡ a
      → AllZip (IsSatisfiedBy p) goals (init ++ a ∷ []) → IsLastUnmet p goals (Some u)
  at_last goals init a u is same h =
      let (g, count, at, satisfied) = zip_last (IsSatisfiedBy p) goals init a h in
      let goal : g ≡ u.goal = is g at in
      (length init, count, at ∙ ap (λ (k : Goal). Some k) goal, subst (λ (k : Goal). IsSatisfiedBy p k u.assignment) goal (subst (λ (b : List Bool). IsSatisfiedBy p g b) (sym same) satisfied))

  -- the assignments of an operation's lower goals but the last, and the last one
  pub op_last : (o : OpId) (level below : Level) (lower init : List (List Bool)) (popped : Option (List Bool)) (a : List Bool) → AllZip (IsSatisfiedBy p) (goals_below (OpAt o level)) lower
      → lower ≡ init ++ option_to_list popped → popped ≡ Some a → below ≡ step_level (length init)
      → IsLastUnmet p (goals_below (OpAt o level)) (Some (record { goal = OpAt o below; assignment = a }))
  op_last o level below lower init popped a h list some is =
      at_last (goals_below (OpAt o level)) init a (record { goal = OpAt o below; assignment = a })
      (λ g at. op_below o level (length init) g at ∙ ap (λ (k : Level). OpAt o k) (sym is)) refl
      (subst (λ (z : List (List Bool)). AllZip (IsSatisfiedBy p) (goals_below (OpAt o level)) z) (list ∙ ap (λ (k : Option (List Bool)). init ++ option_to_list k) some) h)

  pub txn_last : (d : DeclId) (level below : TxnLevel) (lower init : List (List Bool)) (popped : Option (List Bool)) (a : List Bool) → AllZip (IsSatisfiedBy p) (goals_below (TxnAt d level)) lower
      → lower ≡ init ++ option_to_list popped → popped ≡ Some a → below ≡ step_txn_level (length init)
      → IsLastUnmet p (goals_below (TxnAt d level)) (Some (record { goal = TxnAt d below; assignment = a }))
  txn_last d level below lower init popped a h list some is =
      at_last (goals_below (TxnAt d level)) init a (record { goal = TxnAt d below; assignment = a })
      (λ g at. txn_below d level (length init) g at ∙ ap (λ (k : TxnLevel). TxnAt d k) (sym is)) refl
      (subst (λ (z : List (List Bool)). AllZip (IsSatisfiedBy p) (goals_below (TxnAt d level)) z) (list ∙ ap (λ (k : Option (List Bool)). init ++ option_to_list k) some) h)

  -- and where there is no last one
  pub none_below : (goals : List Goal) (lower init : List (List Bool)) (popped : Option (List Bool)) → AllZip (IsSatisfiedBy p) goals lower
      → lower ≡ init ++ option_to_list popped → length init ≡ 0 → popped ≡ None → goals ≡ []
  none_below goals lower [] popped h list none is =
      zip_none (IsSatisfiedBy p) goals (subst (λ (z : List (List Bool)). AllZip (IsSatisfiedBy p) goals z) (list ∙ ap (λ (k : Option (List Bool)). option_to_list k) is) h)
  none_below goals lower (a ∷ init) popped h list none is = absurd (cc)
