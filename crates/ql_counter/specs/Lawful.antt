-- What relations of executions satisfy, for constants: equality, under which equals are alike, session order, objects,
-- and happens-before, on one object and across.
use Rattle.std.specs.Prelude.{ℕ, suc, ◌≡◌, ◌<◌, ◌⊎◌, Bool, true}
use Rattle.ql_atoms.specs.declared.atoms.PairKind.{PairKind}
use Rattle.ql_atoms.specs.declared.atoms.PairKind.TheVariants.{Eq, So, SameObj, Vis, Hbo, Hb, SameTxn}
use Rattle.ql_base.specs.declared.ids.DeclId.{DeclId}
use Rattle.ql_exec.specs.declared.effect.Member.TheVariants.{Inside}
use Rattle.ql_exec.specs.Execution.{same_name}
use Rattle.ql_exec.specs.Relations.{same_run}
use Rattle.ql_levels.specs.declared.level.Level.{Level}
use Rattle.ql_levels.specs.declared.level.Level.TheVariants.{Eventual, Causal, Wide, Strong}
use Rattle.ql_levels.specs.declared.level.TxnLevel.{TxnLevel}
use Rattle.ql_levels.specs.declared.level.TxnLevel.TheVariants.{Rc, Mav, Rr}
use Rattle.ql_counter.specs.Patterns.{Pattern, class_of, least, one_session}

-- the relation holds from the first constant to the second
abbrev pub Has : Pattern → PairKind → ℕ → ℕ → Type 0
Has p r i j = p.rel r i j ≡ true

pub record IsLawful (p : Pattern) : Type 0 where
  pub within : (r : PairKind) (i j : ℕ) → Has p r i j → (i < p.count) × (j < p.count)
  pub eq_refl : (i : ℕ) → i < p.count → Has p Eq i i
  pub eq_sym : (i j : ℕ) → Has p Eq i j → Has p Eq j i
  pub eq_trans : (i j k : ℕ) → Has p Eq i j → Has p Eq j k → Has p Eq i k
  -- equal constants are alike
  pub alike_left : (r : PairKind) (i j k : ℕ) → Has p Eq i j → Has p r i k → Has p r j k
  pub alike_right : (r : PairKind) (i j k : ℕ) → Has p Eq i j → Has p r k i → Has p r k j
  pub alike_op : (i j : ℕ) → Has p Eq i j → p.op i ≡ p.op j
  -- session order is an order of each session's constants
  pub so_trans : (i j k : ℕ) → Has p So i j → Has p So j k → Has p So i k
  pub so_from_one : (i j k : ℕ) → Has p So i j → Has p So i k → Has p So j k ⊎ (Has p So k j ⊎ Has p Eq j k)
  pub so_to_one : (i j k : ℕ) → Has p So i k → Has p So j k → Has p So i j ⊎ (Has p So j i ⊎ Has p Eq i j)
  pub object_refl : (i : ℕ) → i < p.count → Has p SameObj i i
  pub object_sym : (i j : ℕ) → Has p SameObj i j → Has p SameObj j i
  pub object_trans : (i j k : ℕ) → Has p SameObj i j → Has p SameObj j k → Has p SameObj i k
  pub vis_object : (i j : ℕ) → Has p Vis i j → Has p SameObj i j
  -- happens-before on one object
  pub vis_hbo : (i j : ℕ) → Has p Vis i j → Has p Hbo i j
  pub so_hbo : (i j : ℕ) → Has p So i j → Has p SameObj i j → Has p Hbo i j
  pub hbo_trans : (i j k : ℕ) → Has p Hbo i j → Has p Hbo j k → Has p Hbo i k
  pub hbo_object : (i j : ℕ) → Has p Hbo i j → Has p SameObj i j
  -- happens-before
  pub hbo_hb : (i j : ℕ) → Has p Hbo i j → Has p Hb i j
  pub so_hb : (i j : ℕ) → Has p So i j → Has p Hb i j
  pub vis_hb : (i j : ℕ) → Has p Vis i j → Has p Hb i j
  pub hb_trans : (i j k : ℕ) → Has p Hb i j → Has p Hb j k → Has p Hb i k
  pub hb_irreflexive : (i : ℕ) → Has p Hb i i → ⊥

-- a transaction's constants are in one session, under one name, with none of another between them there
pub record IsGrouped (p : Pattern) : Type 0 where
  pub session : (i j : ℕ) → i < p.count → j < p.count → same_run (p.member i) (p.member j) ≡ true → one_session p i j ≡ true
  pub name : (i j : ℕ) → same_run (p.member i) (p.member j) ≡ true → same_name (p.member i) (p.member j) ≡ true
  pub unbroken : (i j k : ℕ) → same_run (p.member i) (p.member k) ≡ true → Has p So i j → Has p So j k → same_run (p.member i) (p.member j) ≡ true

-- ---- what levels guarantee, for constants
abbrev pub Promises : Pattern → Level → ℕ → Type 0
Promises p Eventual cur = (i j : ℕ) → Has p Hbo i j → Has p Vis j cur → Has p Vis i cur
Promises p Causal cur = (i : ℕ) → Has p Hbo i cur → Has p Vis i cur
Promises p Wide cur = (i : ℕ) → Has p Hb i cur → Has p SameObj i cur → Has p Vis i cur
Promises p Strong cur = (i : ℕ) → Has p SameObj i cur → Has p Vis i cur ⊎ (Has p Vis cur i ⊎ Has p Eq i cur)

-- ---- transactions
abbrev pub txn_of : Pattern → ℕ → ℕ
txn_of p c = class_of p.count (p.rel SameTxn) c

-- what transactions satisfy, for constants of which some are current; each constant is in a begun transaction, all of
-- one name
pub record IsTxnLawful (p : Pattern) (current : ℕ → Bool) (name : DeclId) : Type 0 where
  pub txn_refl : (i : ℕ) → i < p.count → Has p SameTxn i i
  pub txn_sym : (i j : ℕ) → Has p SameTxn i j → Has p SameTxn j i
  pub txn_trans : (i j k : ℕ) → Has p SameTxn i j → Has p SameTxn j k → Has p SameTxn i k
  pub one_session : (i j : ℕ) → Has p SameTxn i j → Has p So i j ⊎ (Has p So j i ⊎ Has p Eq i j)
  pub unbroken : (i j k : ℕ) → Has p SameTxn i k → Has p So i j → Has p So j k → Has p SameTxn i j
  -- the current constants are one transaction
  pub current_within : (i : ℕ) → current i ≡ true → i < p.count
  pub current_alike : (i j : ℕ) → Has p Eq i j → current i ≡ true → current j ≡ true
  pub current_in_one : (i j : ℕ) → current i ≡ true → current j ≡ true → Has p SameTxn i j
  pub current_whole : (i j : ℕ) → current i ≡ true → Has p SameTxn i j → current j ≡ true
  pub members : (c : ℕ) → p.member c ≡ Inside (record { 0 = suc (txn_of p c) }) name

-- the begun transaction of the current constants; one without effects where there are none
abbrev pub run_of : Pattern → (ℕ → Bool) → ℕ
run_of p current = suc (txn_of p (least p.count current))

abbrev pub TxnPromises : Pattern → (ℕ → Bool) → TxnLevel → Type 0
TxnPromises p current Rc =
    (i j k : ℕ) → current i ≡ true → Has p SameTxn j k → Has p SameObj j k → Has p Vis j i → (current j ≡ true) ⊎ Has p Vis k i
TxnPromises p current Mav =
    ((i j k : ℕ) → current i ≡ true → Has p SameTxn j k → Has p SameObj j k → Has p Vis j i → (current j ≡ true) ⊎ Has p Vis k i)
    × ((i j k l : ℕ) → current i ≡ true → current j ≡ true → Has p SameTxn k l → Has p So i j → Has p Vis k i → Has p SameObj l j → (current k ≡ true) ⊎ Has p Vis l j)
TxnPromises p current Rr =
    (i j k l : ℕ) → current i ≡ true → current j ≡ true → Has p SameTxn k l → Has p Vis k i → Has p SameObj l j → (current k ≡ true) ⊎ Has p Vis l j
