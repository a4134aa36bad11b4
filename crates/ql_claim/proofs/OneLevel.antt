-- Levels that are least over all executions are one, of all programs that are read as one source.
use Rattle.std.proofs.Common.{◌≡◌, ℕ, zero, suc, ◌+◌, ◌<◌, List, [], ◌∷◌, length, get_or, slice_get, Some, refl, ap, sym, subst, ◌∙◌, arith, length-append, get_or-append-add}
use Rattle.std.specs.List.{All}
use Rattle.std.proofs.lemmas.List.{get_or_append_left, length-map}
use Rattle.ql_base.specs.declared.ids.OpId.{OpId}
use Rattle.ql_base.specs.declared.ids.DeclId.{DeclId}
use Rattle.ql_classify.specs.Targets.{goals_at, goals_below, op_at, ops_from, txn_at, txns_from}
use Rattle.ql_commands.proofs.SameProblems.{same_count}
use Rattle.ql_typing.proofs.SameSource.{same-op-kinds, same-txns}
use Rattle.ql_counter.specs.Countermodels.{HasCounter}
use Rattle.ql_exec.specs.declared.effect.Effect.{Effect}
use Rattle.ql_ground.specs.declared.goal.Goal.{Goal}
use Rattle.ql_ground.specs.declared.goal.Goal.TheVariants.{OpAt, TxnAt}
use Rattle.ql_implication.specs.Countermodels.{IsCounter, IsTxnCounter}
use Rattle.ql_implication.specs.Executions.{IsImplied, IsImpliedTxn}
use Rattle.ql_implication.specs.OfPrograms.{GivesContract}
use Rattle.ql_classify.specs.Least.{AreLeast, EachFails, LowerFail}
use Rattle.ql_lang.specs.Formulas.{Resolved}
use Rattle.ql_lang.specs.declared.program.Program.{Program}
use Rattle.ql_lang.specs.Programs.{Transaction, source_of, transaction_of}
use Rattle.ql_levels.specs.Lists.{LevelLists}
use Rattle.ql_levels.specs.declared.level.Level.{Level}
use Rattle.ql_levels.specs.declared.level.Level.TheVariants.{Eventual, Causal, Wide, Strong}
use Rattle.ql_levels.specs.declared.level.TxnLevel.{TxnLevel}
use Rattle.ql_levels.specs.declared.level.TxnLevel.TheVariants.{Rc, Mav, Rr}
use Rattle.ql_typing.specs.Operations.{op_kinds}
use Rattle.ql_judging.proofs.SamePrograms.{same-op-contracts, same-txn-contracts}

-- ---- lists

same-items : {A : Type 0} (d : A) (xs ys : List A) → length xs ≡ length ys → ((k : ℕ) → k < length xs → get_or xs k d ≡ get_or ys k d) → xs ≡ ys
same-items d [] [] n at = refl
same-items d [] (y ∷ ys) n at = absurd (omega (arith, n))
same-items d (x ∷ xs) [] n at = absurd (omega (arith, n))
same-items {A} d (x ∷ xs) (y ∷ ys) n at =
    let one : x ≡ y = at 0 (omega arith) in
    let more : xs ≡ ys = same-items d xs ys (omega (arith, n)) (λ k l. at (suc k) (omega (arith, l))) in
    ap (λ (z : A). z ∷ xs) one ∙ ap (λ (zs : List A). y ∷ zs) more

op-goal : (levels : List Level) (from k j : ℕ) (d : Goal) → j ≡ from + k → k < length levels → get_or (ops_from from levels) k d ≡ op_at j (get_or levels k Strong)
op-goal [] from k j d is less = absurd (omega (arith, less))
op-goal (level ∷ levels) from zero j d is less = let same : from ≡ j = omega (arith, is) in ap (λ (n : ℕ). op_at n level) same
op-goal (level ∷ levels) from (suc k) j d is less = op-goal levels (suc from) k j d (omega (arith, is)) (omega (arith, less))

txn-goal : (levels : List TxnLevel) (from k j : ℕ) (d : Goal) → j ≡ from + k → k < length levels → get_or (txns_from from levels) k d ≡ txn_at j (get_or levels k Rr)
txn-goal [] from k j d is less = absurd (omega (arith, less))
txn-goal (level ∷ levels) from zero j d is less = let same : from ≡ j = omega (arith, is) in ap (λ (n : ℕ). txn_at n level) same
txn-goal (level ∷ levels) from (suc k) j d is less = txn-goal levels (suc from) k j d (omega (arith, is)) (omega (arith, less))

length-ops : (from : ℕ) (levels : List Level) → length (ops_from from levels) ≡ length levels
length-ops from [] = refl
length-ops from (level ∷ levels) = ap suc (length-ops (suc from) levels)

length-txns : (from : ℕ) (levels : List TxnLevel) → length (txns_from from levels) ≡ length levels
length-txns from [] = refl
length-txns from (level ∷ levels) = ap suc (length-txns (suc from) levels)

abbrev lists : List Level → List TxnLevel → LevelLists
lists ops txns = record { ops = ops; txns = txns }

same-lists : (a b : List Level) (c d : List TxnLevel) → a ≡ b → c ≡ d → lists a c ≡ lists b d
same-lists a b c d ops txns = rw (ops, txns) refl

-- what is so of each goal is so of each operation's and of each transaction's
module _ (P : Goal → Type 0) (levels : LevelLists) (each : All P (goals_at levels)) where
  pub of-op : (o : ℕ) → o < length levels.ops → P (op_at o (get_or levels.ops o Strong))
  of-op o less =
      let long = length-ops 0 levels.ops in
      let d = op_at 0 Strong in
      let within : o < length (goals_at levels) = omega (arith, less, long, length-append (ops_from 0 levels.ops) (txns_from 0 levels.txns)) in
      subst P
      (get_or_append_left (ops_from 0 levels.ops) (txns_from 0 levels.txns) d o (omega (arith, less, long)) ∙ op-goal levels.ops 0 o o d (omega arith) less)
      (each o d within)

  pub of-txn : (k : ℕ) → k < length levels.txns → P (txn_at k (get_or levels.txns k Rr))
  of-txn k less =
      let long = length-ops 0 levels.ops in
      let more = length-txns 0 levels.txns in
      let d = op_at 0 Strong in
      let within : length (ops_from 0 levels.ops) + k < length (goals_at levels) = omega (arith, less, more, length-append (ops_from 0 levels.ops) (txns_from 0 levels.txns)) in
      subst P
      (get_or-append-add (ops_from 0 levels.ops) (txns_from 0 levels.txns) k d ∙ txn-goal levels.txns 0 k k d (omega arith) less)
      (each (length (ops_from 0 levels.ops) + k) d within)

-- ---- programs that are read as one source

module _ (p q : Program) (e : source_of p ≡ source_of q) where
  kinds : op_kinds q.types ≡ op_kinds p.types
  kinds = sym (same-op-kinds p q e)

  count-txns : length p.txns ≡ length q.txns
  count-txns = sym (length-map p.txns transaction_of) ∙ ap (λ (ts : List Transaction). length ts) (same-txns p q e) ∙ length-map q.txns transaction_of

  gives : (g : Goal) → GivesContract q g → GivesContract p g
  gives (OpAt o level) h =
      (h.0, ap (λ (fs : List Resolved). slice_get fs o.0) (same-op-contracts p q e) ∙ h.1, subst (λ (ks : List ℕ). IsImplied ks o.0 level h.0) kinds h.2)
  gives (TxnAt d level) h =
      (h.0, ap (λ (fs : List Resolved). slice_get fs d.0) (same-txn-contracts p q e) ∙ h.1, subst (λ (ks : List ℕ). IsImpliedTxn ks level h.0) kinds h.2)

  counter : (g : Goal) → HasCounter q g → HasCounter p g
  counter (OpAt o level) (f, at, x, cur, places, is) =
      (f, ap (λ (fs : List Resolved). slice_get fs o.0) (same-op-contracts p q e) ∙ at, x, cur, places, subst (λ (ks : List ℕ). IsCounter ks o.0 level f x cur places) kinds is)
  counter (TxnAt d level) (f, at, x, run, places, is) =
      (f, ap (λ (fs : List Resolved). slice_get fs d.0) (same-txn-contracts p q e) ∙ at, x, run, places, subst (λ (ks : List ℕ). IsTxnCounter ks d.0 level f x run places) kinds is)

  fail : (gs : List Goal) → EachFails q gs → EachFails p gs
  fail [] h = tt
  fail (g ∷ gs) (one, more) = (counter g one, fail gs more)

-- ---- one level

module _ (op_refuted : (types : List ℕ) (o : ℕ) (level : Level) (f : Resolved) (x : List Effect) (cur : ℕ) (places : List ℕ) → IsCounter types o level f x cur places → IsImplied types o level f → ⊥)
    (txn_refuted : (types : List ℕ) (d : ℕ) (level : TxnLevel) (f : Resolved) (x : List Effect) (run : ℕ) (places : List ℕ) → IsTxnCounter types d level f x run places → IsImpliedTxn types level f → ⊥) where
  -- a level that fails isn't enough
  never : (p : Program) (g : Goal) → HasCounter p g → GivesContract p g → ⊥
  never p (OpAt o level) (f, at, x, cur, places, is) (h, there, implied) =
      let both : Some f ≡ Some h = sym at ∙ there in
      let same : f ≡ h = cc in
      op_refuted (op_kinds p.types) o.0 level h x cur places (subst (λ (r : Resolved). IsCounter (op_kinds p.types) o.0 level r x cur places) same is) implied
  never p (TxnAt d level) (f, at, x, run, places, is) (h, there, implied) =
      let both : Some f ≡ Some h = sym at ∙ there in
      let same : f ≡ h = cc in
      txn_refuted (op_kinds p.types) d.0 level h x run places (subst (λ (r : Resolved). IsTxnCounter (op_kinds p.types) d.0 level r x run places) same is) implied

  one-op : (p : Program) (o : OpId) (l k : Level) → GivesContract p (OpAt o l) → LowerFail p (OpAt o l) → GivesContract p (OpAt o k) → LowerFail p (OpAt o k) → l ≡ k
  one-op p o Eventual Eventual gl fl gk fk = refl
  one-op p o Eventual Causal gl fl gk (a, fk) = absurd (never p (OpAt o Eventual) a gl)
  one-op p o Eventual Wide gl fl gk (a, fk) = absurd (never p (OpAt o Eventual) a gl)
  one-op p o Eventual Strong gl fl gk (a, fk) = absurd (never p (OpAt o Eventual) a gl)
  one-op p o Causal Eventual gl (a, fl) gk fk = absurd (never p (OpAt o Eventual) a gk)
  one-op p o Causal Causal gl fl gk fk = refl
  one-op p o Causal Wide gl fl gk (a, (b, fk)) = absurd (never p (OpAt o Causal) b gl)
  one-op p o Causal Strong gl fl gk (a, (b, fk)) = absurd (never p (OpAt o Causal) b gl)
  one-op p o Wide Eventual gl (a, fl) gk fk = absurd (never p (OpAt o Eventual) a gk)
  one-op p o Wide Causal gl (a, (b, fl)) gk fk = absurd (never p (OpAt o Causal) b gk)
  one-op p o Wide Wide gl fl gk fk = refl
  one-op p o Wide Strong gl fl gk (a, (b, (c, fk))) = absurd (never p (OpAt o Wide) c gl)
  one-op p o Strong Eventual gl (a, fl) gk fk = absurd (never p (OpAt o Eventual) a gk)
  one-op p o Strong Causal gl (a, (b, fl)) gk fk = absurd (never p (OpAt o Causal) b gk)
  one-op p o Strong Wide gl (a, (b, (c, fl))) gk fk = absurd (never p (OpAt o Wide) c gk)
  one-op p o Strong Strong gl fl gk fk = refl

  one-txn : (p : Program) (d : DeclId) (l k : TxnLevel) → GivesContract p (TxnAt d l) → LowerFail p (TxnAt d l) → GivesContract p (TxnAt d k) → LowerFail p (TxnAt d k) → l ≡ k
  one-txn p d Rc Rc gl fl gk fk = refl
  one-txn p d Rc Mav gl fl gk (a, fk) = absurd (never p (TxnAt d Rc) a gl)
  one-txn p d Rc Rr gl fl gk (a, fk) = absurd (never p (TxnAt d Rc) a gl)
  one-txn p d Mav Rc gl (a, fl) gk fk = absurd (never p (TxnAt d Rc) a gk)
  one-txn p d Mav Mav gl fl gk fk = refl
  one-txn p d Mav Rr gl fl gk (a, (b, fk)) = absurd (never p (TxnAt d Mav) b gl)
  one-txn p d Rr Rc gl (a, fl) gk fk = absurd (never p (TxnAt d Rc) a gk)
  one-txn p d Rr Mav gl (a, (b, fl)) gk fk = absurd (never p (TxnAt d Mav) b gk)
  one-txn p d Rr Rr gl fl gk fk = refl

  pub one-least : (p q : Program) → source_of p ≡ source_of q → (l k : LevelLists) → AreLeast p l → AreLeast q k → l ≡ k
  one-least p q e l k least other =
      let op : (o : ℕ) → o < length l.ops → get_or l.ops o Strong ≡ get_or k.ops o Strong = λ o less.
      (let theirs : o < length k.ops = omega (arith, less, least.enough.ops, other.enough.ops, same_count p q e) in
      let at : OpId = record { 0 = o } in
      let m = get_or k.ops o Strong in
      one-op p at (get_or l.ops o Strong) m
      (of-op (GivesContract p) l least.enough.each o less) (of-op (LowerFail p) l least.lower o less)
      (gives p q e (OpAt at m) (of-op (GivesContract q) k other.enough.each o theirs)) (lower-as p q e (OpAt at m) (of-op (LowerFail q) k other.lower o theirs))) in
      let txn : (d : ℕ) → d < length l.txns → get_or l.txns d Rr ≡ get_or k.txns d Rr = λ d less.
      (let theirs : d < length k.txns = omega (arith, less, least.enough.txns, other.enough.txns, count-txns p q e) in
      let at : DeclId = record { 0 = d } in
      let m = get_or k.txns d Rr in
      one-txn p at (get_or l.txns d Rr) m
      (of-txn (GivesContract p) l least.enough.each d less) (of-txn (LowerFail p) l least.lower d less)
      (gives p q e (TxnAt at m) (of-txn (GivesContract q) k other.enough.each d theirs)) (lower-as p q e (TxnAt at m) (of-txn (LowerFail q) k other.lower d theirs))) in
      let ops : l.ops ≡ k.ops = same-items Strong l.ops k.ops (omega (arith, least.enough.ops, other.enough.ops, same_count p q e)) op in
      let txns : l.txns ≡ k.txns = same-items Rr l.txns k.txns (omega (arith, least.enough.txns, other.enough.txns, count-txns p q e)) txn in
      same-lists l.ops k.ops l.txns k.txns ops txns
    where
      lower-as : (p q : Program) (e : source_of p ≡ source_of q) (g : Goal) → LowerFail q g → LowerFail p g
      lower-as p q e g h = fail p q e (goals_below g) h
