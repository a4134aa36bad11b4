-- The effects inside a begun transaction are under one declared name, which is that of the first of them.
use Rattle.std.proofs.Common.{◌≡◌, ◌⊎◌, inl, inr, ◌<◌, ℕ, zero, suc, Bool, true, false, ◌||◌, cond, nat_eq, nat_lt, List, [], ◌∷◌, Option, None, Some, refl, sym, ap, subst, ◌∙◌, arith}
use Rattle.std.specs.List.{slice_get}
use Rattle.std.specs.Prelude.{option_map}
use Rattle.std.specs.Option.{IsSome}
use Rattle.std.proofs.lemmas.Bool.Decides.{nat_tests}
use Rattle.ql_base.specs.IdLists.{has_id, with_id}
use Rattle.ql_base.specs.declared.ids.DeclId.{DeclId}
use Rattle.ql_exec.specs.declared.effect.Effect.{Effect}
use Rattle.ql_exec.specs.declared.effect.Member.{Member}
use Rattle.ql_exec.specs.declared.effect.Member.TheVariants.{Alone, Inside}
use Rattle.ql_exec.specs.Effects.{both, effect_at}
use Rattle.ql_exec.specs.Execution.{IsExecution, same_name}
use Rattle.ql_exec.specs.Relations.{same_run, sametxn}
use Rattle.ql_verify.specs.Work.{with_run, with_runs}
use Rattle.ql_judging.specs.Members.{IsBegun, IsBegunOf, first_name, name_if, or_else}

-- an effect inside a begun transaction under a name
pub record IsUnder (x : List Effect) (run name : ℕ) : Type 0 where
  pub place : ℕ
  pub effect : Effect
  pub is : slice_get x place ≡ Some effect
  pub member : effect.member ≡ Inside (record { 0 = run }) (record { 0 = name })

later_under : (e : Effect) (x : List Effect) (run name : ℕ) → IsUnder x run name → IsUnder (e ∷ x) run name
later_under e x run name u = record { place = suc u.place; effect = u.effect; is = u.is; member = u.member }

-- ---- the begun transactions of a declared one have effects

of_with_id : (ids : List ℕ) (id other : ℕ) → has_id (with_id ids id) other ≡ true → (id ≡ other) ⊎ (has_id ids other ≡ true)
of_with_id [] id other h = by (nat_eq id other) refl h
  where
    by : (b : Bool) → nat_eq id other ≡ b → (b || false) ≡ true → (id ≡ other) ⊎ (false ≡ true)
    by true e g = inl (grind (arith, nat_tests))
    by false e g = inr g
of_with_id (o ∷ ids) id other h = by (nat_lt id o) (nat_lt o id) (λ g. of_with_id ids id other g) h
  where
    first : (b : Bool) → nat_eq id other ≡ b → (b || has_id (o ∷ ids) other) ≡ true → (id ≡ other) ⊎ (has_id (o ∷ ids) other ≡ true)
    first true e g = inl (grind (arith, nat_tests))
    first false e g = inr g

    more : (b : Bool) → (has_id (with_id ids id) other ≡ true → (id ≡ other) ⊎ (has_id ids other ≡ true)) → (b || has_id (with_id ids id) other) ≡ true → (id ≡ other) ⊎ ((b || has_id ids other) ≡ true)
    more true rest g = inr refl
    more false rest g = rest g

    by : (b c : Bool) → (has_id (with_id ids id) other ≡ true → (id ≡ other) ⊎ (has_id ids other ≡ true)) → has_id (cond b (id ∷ o ∷ ids) (cond c (o ∷ with_id ids id) (o ∷ ids))) other ≡ true → (id ≡ other) ⊎ (has_id (o ∷ ids) other ≡ true)
    by true c rest g = first (nat_eq id other) refl g
    by false true rest g = more (nat_eq o other) rest g
    by false false rest g = inr g

module _ (name run : ℕ) where
  of_run : (runs : List ℕ) (m : Member) → has_id (with_run name runs m) run ≡ true → (m ≡ Inside (record { 0 = run }) (record { 0 = name })) ⊎ (has_id runs run ≡ true)
  of_run runs Alone h = inr h
  of_run runs (Inside r n) h = by (nat_eq n.0 name) refl h
    where
      here : n.0 ≡ name → (r.0 ≡ run) ⊎ (has_id runs run ≡ true) → (Inside r n ≡ Inside (record { 0 = run }) (record { 0 = name })) ⊎ (has_id runs run ≡ true)
      here e (inl f) = inl (rw (← e, ← f) refl)
      here e (inr g) = inr g

      by : (b : Bool) → nat_eq n.0 name ≡ b → has_id (cond b (with_id runs r.0) runs) run ≡ true → (Inside r n ≡ Inside (record { 0 = run }) (record { 0 = name })) ⊎ (has_id runs run ≡ true)
      by true e g = here (grind (arith, nat_tests)) (of_with_id runs r.0 run g)
      by false e g = inr g

  of_runs : (runs : List ℕ) (x : List Effect) → has_id (with_runs name runs x) run ≡ true → IsUnder x run name ⊎ (has_id runs run ≡ true)
  of_runs runs [] h = inr h
  of_runs runs (e ∷ x) h = by (of_runs (with_run name runs e.member) x h)
    where
      here : (e.member ≡ Inside (record { 0 = run }) (record { 0 = name })) ⊎ (has_id runs run ≡ true) → IsUnder (e ∷ x) run name ⊎ (has_id runs run ≡ true)
      here (inl m) = inl (record { place = 0; effect = e; is = refl; member = m })
      here (inr g) = inr g

      by : IsUnder x run name ⊎ (has_id (with_run name runs e.member) run ≡ true) → IsUnder (e ∷ x) run name ⊎ (has_id runs run ≡ true)
      by (inl u) = inl (later_under e x run name u)
      by (inr g) = here (of_run runs e.member g)

  pub under : (x : List Effect) → IsBegunOf x run name → IsUnder x run name
  under x h = by (of_runs [] x h)
    where
      by : IsUnder x run name ⊎ (false ≡ true) → IsUnder x run name
      by (inl u) = u
      by (inr g) = absurd (cc)

-- ---- the first of them

module _ (run : ℕ) where
  if_named : (m : Member) (name : ℕ) → name_if run m ≡ Some name → m ≡ Inside (record { 0 = run }) (record { 0 = name })
  if_named Alone name h = absurd (cc)
  if_named (Inside r n) name h = by (nat_eq r.0 run) refl h
    where
      by : (b : Bool) → nat_eq r.0 run ≡ b → cond b (Some n.0) None ≡ Some name → Inside r n ≡ Inside (record { 0 = run }) (record { 0 = name })
      by true e g = let f : r.0 ≡ run = grind (arith, nat_tests) in let k : n.0 ≡ name = cc in rw (← f, ← k) refl
      by false e g = absurd (cc)

  is_named : (name : ℕ) → name_if run (Inside (record { 0 = run }) (record { 0 = name })) ≡ Some name
  is_named name = let same : nat_eq run run ≡ true = grind (arith, nat_tests) in rw same refl

  first_under : (x : List Effect) (name : ℕ) → first_name run x ≡ Some name → IsUnder x run name
  first_under [] name h = absurd (cc)
  first_under (e ∷ x) name h = by (λ g. first_under x name g) (name_if run e.member) refl h
    where
      by : (first_name run x ≡ Some name → IsUnder x run name) → (o : Option ℕ) → name_if run e.member ≡ o → or_else o (first_name run x) ≡ Some name → IsUnder (e ∷ x) run name
      by rest None is g = later_under e x run name (rest g)
      by rest (Some n) is g = record { place = 0; effect = e; is = refl; member = if_named e.member name (is ∙ g) }

  some_first : (x : List Effect) (i : ℕ) (e : Effect) (name : ℕ) → slice_get x i ≡ Some e → e.member ≡ Inside (record { 0 = run }) (record { 0 = name }) → first_name run x ≡ None → ⊥
  some_first [] i e name is m h = absurd (cc)
  some_first (f ∷ x) zero e name is m h =
      let same : f ≡ e = cc in
      let named : name_if run f.member ≡ Some name = subst (λ q. name_if run q ≡ Some name) (sym (ap (λ (u : Effect). u.member) same ∙ m)) (is_named name) in
      let found : or_else (Some name) (first_name run x) ≡ None = subst (λ o. or_else o (first_name run x) ≡ None) named h in
      absurd (cc)
  some_first (f ∷ x) (suc i) e name is m h = by (λ g. some_first x i e name is m g) (name_if run f.member) h
    where
      by : (first_name run x ≡ None → ⊥) → (o : Option ℕ) → or_else o (first_name run x) ≡ None → ⊥
      by rest None g = rest g
      by rest (Some n) g = absurd (cc)

-- ---- all are under one name

module _ (x : List Effect) (lawful : IsExecution x) (run : ℕ) where
  below : (a b : ℕ) (u : IsUnder x run a) (v : IsUnder x run b) → u.place < v.place → a ≡ b
  below a b u v lt =
      let e = u.effect in
      let f = v.effect in
      let same : nat_eq run run ≡ true = grind (arith, nat_tests) in
      let runs : same_run e.member f.member ≡ true = rw (u.member, v.member, same) refl in
      let are : both (λ e f. same_run e.member f.member) (effect_at x (suc u.place)) (effect_at x (suc v.place)) ≡ true = rw (u.is, v.is) runs in
      let txn : sametxn x (suc u.place) (suc v.place) ≡ true = or_true (nat_eq (suc u.place) (suc v.place)) _ are in
      let names : both (λ e f. same_name e.member f.member) (effect_at x (suc u.place)) (effect_at x (suc v.place)) ≡ true = lawful.one_name (suc u.place) (suc v.place) (omega (arith, lt)) txn in
      let named : same_name e.member f.member ≡ true = subst (λ o. both (λ e f. same_name e.member f.member) o (Some f) ≡ true) u.is (subst (λ o. both (λ e f. same_name e.member f.member) (effect_at x (suc u.place)) o ≡ true) v.is names) in
      let numbers : nat_eq a b ≡ true = subst (λ m. same_name m (Inside (record { 0 = run }) (record { 0 = b })) ≡ true) u.member (subst (λ m. same_name e.member m ≡ true) v.member named) in
      grind (arith, nat_tests)
    where
      or_true : (c d : Bool) → d ≡ true → (c || d) ≡ true
      or_true true d h = refl
      or_true false d h = h

  abbrev name_in : Member → ℕ
  name_in Alone = 0
  name_in (Inside r n) = n.0

  pub one_name : (a b : ℕ) → IsUnder x run a → IsUnder x run b → a ≡ b
  one_name a b u v = by (nat_lt u.place v.place) (nat_lt v.place u.place) refl refl
    where
      by : (c d : Bool) → nat_lt u.place v.place ≡ c → nat_lt v.place u.place ≡ d → a ≡ b
      by true d lt ge = below a b u v (grind (arith, nat_tests))
      by false true ge lt = sym (below b a v u (grind (arith, nat_tests)))
      by false false ge le =
          let here : u.place ≡ v.place = grind (arith, nat_tests) in
          let at : slice_get x v.place ≡ Some u.effect = subst (λ n. slice_get x n ≡ Some u.effect) here u.is in
          let is = v.is in
          let same : u.effect ≡ v.effect = cc in
          let members : Inside (record { 0 = run }) (record { 0 = a }) ≡ Inside (record { 0 = run }) (record { 0 = b }) = sym u.member ∙ (ap (λ (e : Effect). e.member) same ∙ v.member) in
          ap (name_in) members

  pub first_is : (name : ℕ) → IsBegunOf x run name → first_name run x ≡ Some name
  first_is name h = by (first_name run x) refl
    where
      by : (o : Option ℕ) → first_name run x ≡ o → o ≡ Some name
      by None e = let u = under name run x h in absurd (some_first run x u.place u.effect name u.is u.member e)
      by (Some n) e = ap Some (one_name n name (first_under run x n e) (under name run x h))

-- ---- what the search finds

pub is_found : (x : List Effect) → IsExecution x → (run : ℕ) (found : Option DeclId) → option_map (λ d. d.0) found ≡ first_name run x → IsBegun x run → IsSome found
is_found x lawful run None e begun =
    let first = first_is x lawful run begun.0 begun.1 in
    absurd (cc)
is_found x lawful run (Some d) e begun = refl

pub is_declared : (x : List Effect) → IsExecution x → (run : ℕ) (found : Option DeclId) (d : DeclId) → option_map (λ d. d.0) found ≡ first_name run x → found ≡ Some d → (name : ℕ) → IsBegunOf x run name → d.0 ≡ name
is_declared x lawful run None d e is name begun = absurd (cc)
is_declared x lawful run (Some c) d e is name begun =
    let first : first_name run x ≡ Some name = first_is x lawful run name begun in
    let same : c ≡ d = cc in
    let number : c.0 ≡ name = cc in
    ap (λ (k : DeclId). k.0) (sym same) ∙ number
