-- From evidence to least levels.
use Rattle.std.proofs.Common.{◌≡◌, ℕ, Bool, List, [], ◌∷◌, length, Some, sym, subst, ◌∙◌}
use Rattle.std.specs.List.{AllZip, slice_get}
use Rattle.ql_base.specs.declared.ids.OpId.{OpId}
use Rattle.ql_base.specs.declared.ids.DeclId.{DeclId}
use Rattle.ql_cnf.specs.Satisfaction.{Satisfies, IsUnsatisfiable}
use Rattle.ql_lang.specs.Formulas.{Resolved}
use Rattle.ql_lang.specs.declared.program.Program.{Program}
use Rattle.ql_levels.specs.declared.level.Level.{Level}
use Rattle.ql_levels.specs.declared.level.Level.TheVariants.{Eventual, Causal, Wide, Strong}
use Rattle.ql_levels.specs.declared.level.TxnLevel.{TxnLevel}
use Rattle.ql_levels.specs.declared.level.TxnLevel.TheVariants.{Rc, Mav, Rr}
use Rattle.ql_typing.specs.Operations.{op_kinds, op_contracts, txn_contracts}
use Rattle.ql_ground.specs.declared.goal.Goal.{Goal}
use Rattle.ql_ground.specs.declared.goal.Goal.TheVariants.{OpAt, TxnAt}
use Rattle.ql_ground.specs.Ground.{op_problem, txn_problem}
use Rattle.ql_ground.specs.Least.{IsLeastOpLevel, IsLeastTxn}
use Rattle.ql_refute.specs.declared.refutation.Line.{Line}
use Rattle.ql_refute.proofs.Soundness.{accepted_is_unsatisfiable}
use Rattle.ql_counter.specs.Countermodels.{IsSatisfiedBy}
use Rattle.ql_classify.specs.Goals.{IsEnough, IsFirstRefuted}
use Rattle.ql_classify.specs.Targets.{op_at, txn_at, op_goals, txn_goals, goals_below, step_level, step_txn_level, IsLeastLevel, IsEvidence}
use Rattle.ql_classify.specs.declared.evidence.Evidence.{Evidence}

module _ (p : Program) where
  pub op_satisfied : (o : OpId) (level : Level) (a : List Bool) (f : Resolved) → slice_get (op_contracts p.types) o.0 ≡ Some f → IsSatisfiedBy p (OpAt o level) a → Satisfies a (op_problem (op_kinds p.types) o.0 level f)
  op_satisfied o level a f at h =
      let other : Some h.1.0 ≡ Some f = sym h.1.1 ∙ at in
      let same : h.1.0 ≡ f = cc in
      subst (λ k. Satisfies a (op_problem (op_kinds p.types) o.0 level k)) same (subst (λ c. Satisfies a c) h.1.2 h.2)

  pub txn_satisfied : (d : DeclId) (level : TxnLevel) (a : List Bool) (f : Resolved) → slice_get (txn_contracts p) d.0 ≡ Some f → IsSatisfiedBy p (TxnAt d level) a → Satisfies a (txn_problem (op_kinds p.types) level f)
  txn_satisfied d level a f at h =
      let other : Some h.1.0 ≡ Some f = sym h.1.1 ∙ at in
      let same : h.1.0 ≡ f = cc in
      subst (λ k. Satisfies a (txn_problem (op_kinds p.types) level k)) same (subst (λ c. Satisfies a c) h.1.2 h.2)

  op_least : (o : OpId) (level : Level) (lower : List (List Bool)) (f : Resolved) → slice_get (op_contracts p.types) o.0 ≡ Some f → AllZip (IsSatisfiedBy p) (goals_below (OpAt o level)) lower → IsUnsatisfiable (op_problem (op_kinds p.types) o.0 level f) → IsLeastOpLevel (op_kinds p.types) o.0 f level
  op_least o Eventual lower f at h u = u
  op_least o Causal [] f at h u = absurd h
  op_least o Causal (a ∷ lower) f at h u = ((a, op_satisfied o Eventual a f at h.0), u)
  op_least o Wide [] f at h u = absurd h
  op_least o Wide (a ∷ []) f at h u = absurd h.1
  op_least o Wide (a ∷ b ∷ lower) f at h u = ((a, op_satisfied o Eventual a f at h.0), (b, op_satisfied o Causal b f at h.1.0), u)
  op_least o Strong [] f at h u = absurd h
  op_least o Strong (a ∷ []) f at h u = absurd h.1
  op_least o Strong (a ∷ b ∷ []) f at h u = absurd h.1.1
  op_least o Strong (a ∷ b ∷ c ∷ lower) f at h u =
      ((a, op_satisfied o Eventual a f at h.0), (b, op_satisfied o Causal b f at h.1.0), (c, op_satisfied o Wide c f at h.1.1.0), u)

  txn_least : (d : DeclId) (level : TxnLevel) (lower : List (List Bool)) (f : Resolved) → slice_get (txn_contracts p) d.0 ≡ Some f → AllZip (IsSatisfiedBy p) (goals_below (TxnAt d level)) lower → IsUnsatisfiable (txn_problem (op_kinds p.types) level f) → IsLeastTxn (op_kinds p.types) f level
  txn_least d Rc lower f at h u = u
  txn_least d Mav [] f at h u = absurd h
  txn_least d Mav (a ∷ lower) f at h u = ((a, txn_satisfied d Rc a f at h.0), u)
  txn_least d Rr [] f at h u = absurd h
  txn_least d Rr (a ∷ []) f at h u = absurd h.1
  txn_least d Rr (a ∷ b ∷ lower) f at h u = ((a, txn_satisfied d Rc a f at h.0), (b, txn_satisfied d Mav b f at h.1.0), u)

  -- evidence shows that the level is least
  pub least : (g : Goal) (e : Evidence) → IsEvidence p g e → IsLeastLevel p g
  least (OpAt o level) e h =
      let r = h.enough.0 in (
        r.1.0,
        r.1.1,
        op_least o level e.lower.items r.1.0 r.1.1 h.lower
            (subst (λ c. IsUnsatisfiable c) r.1.2 (accepted_is_unsatisfiable r.0 e.refutation.lines r.2)),
      )
  least (TxnAt d level) e h =
      let r = h.enough.0 in (
        r.1.0,
        r.1.1,
        txn_least d level e.lower.items r.1.0 r.1.1 h.lower
            (subst (λ c. IsUnsatisfiable c) r.1.2 (accepted_is_unsatisfiable r.0 e.refutation.lines r.2)),
      )

  abbrev Shows : Goal → List (List Bool) → List Line → Type 0
  Shows g lower lines = AllZip (IsSatisfiedBy p) (goals_below g) lower × IsEnough p g lines

  op_shows : (o : ℕ) (lower : List (List Bool)) (lines : List Line) → IsFirstRefuted p (op_goals o) lower lines → Shows (op_at o (step_level (length lower))) lower lines
  op_shows o [] lines h = (tt, h)
  op_shows o (a ∷ []) lines h = ((h.0, tt), h.1)
  op_shows o (a ∷ b ∷ []) lines h = ((h.0, (h.1.0, tt)), h.1.1)
  op_shows o (a ∷ b ∷ c ∷ []) lines h = ((h.0, (h.1.0, (h.1.1.0, tt))), h.1.1.1)
  op_shows o (a ∷ b ∷ c ∷ d ∷ lower) lines h = absurd h.1.1.1.1

  txn_shows : (d : ℕ) (lower : List (List Bool)) (lines : List Line) → IsFirstRefuted p (txn_goals d) lower lines → Shows (txn_at d (step_txn_level (length lower))) lower lines
  txn_shows d [] lines h = (tt, h)
  txn_shows d (a ∷ []) lines h = ((h.0, tt), h.1)
  txn_shows d (a ∷ b ∷ []) lines h = ((h.0, (h.1.0, tt)), h.1.1)
  txn_shows d (a ∷ b ∷ c ∷ lower) lines h = absurd h.1.1.1

  -- what a search through an operation's goals found is evidence at the level of its length
  pub op_evidence : (o : ℕ) (level : Level) (e : Evidence) → IsFirstRefuted p (op_goals o) e.lower.items e.refutation.lines → level ≡ step_level (length e.lower.items) → IsEvidence p (op_at o level) e
  op_evidence o level e h l =
      let shown = subst (λ k. Shows (op_at o k) e.lower.items e.refutation.lines) (sym l) (op_shows o e.lower.items e.refutation.lines h) in
      record { lower = shown.0; enough = shown.1 }

  pub txn_evidence : (d : ℕ) (level : TxnLevel) (e : Evidence) → IsFirstRefuted p (txn_goals d) e.lower.items e.refutation.lines → level ≡ step_txn_level (length e.lower.items) → IsEvidence p (txn_at d level) e
  txn_evidence d level e h l =
      let shown = subst (λ k. Shows (txn_at d k) e.lower.items e.refutation.lines) (sym l) (txn_shows d e.lower.items e.refutation.lines h) in
      record { lower = shown.0; enough = shown.1 }
