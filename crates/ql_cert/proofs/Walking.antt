-- walks from line to line, where each line leads from one state to at most one
use Rattle.std.proofs.Common.{◌≡◌, List, [], ◌∷◌, ◌++◌, refl, sym, subst, ◌∙◌}
use Rattle.ql_lines.specs.Fields.{Fields}

module _ {State : Type 0} (Takes : State → Fields → State → Type 0) where
  unfoldable pub Walks : State → List Fields → State → Type 0
  Walks s [] t = s ≡ t
  Walks s (f ∷ fs) t = (u : State) × Takes s f u × Walks u fs t

  pub joined : (fs gs : List Fields) (s u t : State) → Walks s fs u → Walks u gs t → Walks s (fs ++ gs) t
  unfolding Walks
  joined [] gs s u t p q = subst (λ v. Walks v gs t) (sym p) q
  joined (f ∷ fs) gs s u t p q = (p.0, p.1, joined fs gs p.0 u t p.2 q)

  pub parted : (fs gs : List Fields) (s t : State) → Walks s (fs ++ gs) t → (u : State) × Walks s fs u × Walks u gs t
  unfolding Walks
  parted [] gs s t p = (s, refl, p)
  parted (f ∷ fs) gs s t p = let rest = parted fs gs p.0 t p.2 in (rest.0, (p.0, p.1, rest.1), rest.2)

  pub next_state : (s : State) (f : Fields) (fs : List Fields) (t : State) → Walks s (f ∷ fs) t → (u : State) × Takes s f u
  unfolding Walks
  next_state s f fs t p = (p.0, p.1)

  pub one_walk : ((s : State) (f : Fields) (a b : State) → Takes s f a → Takes s f b → a ≡ b) → (fs : List Fields) (s a b : State) → Walks s fs a → Walks s fs b → a ≡ b
  unfolding Walks
  one_walk one [] s a b p q = sym p ∙ q
  one_walk one (f ∷ fs) s a b p q = one_walk one fs p.0 a b p.2 (subst (λ u. Walks u fs b) (one s f q.0 p.0 q.1 p.1) q.2)
