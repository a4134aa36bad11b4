-- The goal of a target, and the sections of goals.
use Rattle.std.proofs.Common.{◌≡◌, ℕ, zero, suc, ◌+◌, ◌≤◌, List, [], ◌∷◌, ◌++◌, length, take, add-one, Some, refl, sym, ap, subst, ◌∙◌, arith}
use Rattle.std.specs.List.{AllByRecursion, AllZip, slice_get}
use Rattle.std.proofs.lemmas.List.{take_all, length-append}
use Rattle.ql_base.specs.Names.{IsName}
use Rattle.ql_cert.specs.CertFile.{IsSection}
use Rattle.ql_cert.specs.declared.cert.Section.{Section}
use Rattle.ql_cert.specs.declared.cert.SectionLevel.TheVariants.{Op, Txn}
use Rattle.ql_classify.specs.Targets.{op_at, txn_at, ops_from, txns_from, goals_at}
use Rattle.ql_ground.specs.declared.goal.Goal.{Goal}
use Rattle.ql_lang.specs.declared.operation.OpDecl.{OpDecl}
use Rattle.ql_lang.specs.declared.program.Program.{Program}
use Rattle.ql_lang.specs.declared.program.TxnDecl.{TxnDecl}
use Rattle.ql_levels.specs.Lists.{LevelLists}
use Rattle.ql_levels.specs.declared.level.Level.{Level}
use Rattle.ql_levels.specs.declared.level.TxnLevel.{TxnLevel}
use Rattle.ql_sat.specs.Answer.{AreNumbered}
use Rattle.ql_typing.specs.Operations.{all_ops}
use Rattle.ql_commands.specs.Names.{HasNames}
use Rattle.ql_commands.specs.Prove.{name_of, level_of}
use Rattle.ql_commands.proofs.SpelledLines.{spelled_lines}

pub op-goal : (k : ℕ) (levels : List Level) (o : ℕ) (rest : List Goal) (l : Level) → slice_get levels o ≡ Some l → slice_get (ops_from k levels ++ rest) o ≡ Some (op_at (k + o) l)
op-goal k [] o rest l e = absurd (cc)
op-goal k (x ∷ xs) zero rest l e =
    let same : x ≡ l = cc in
    let place : k ≡ k + 0 = omega arith in
    ap (λ (z : Level). Some (op_at k z)) same ∙ ap (λ n. Some (op_at n l)) place
op-goal k (x ∷ xs) (suc o) rest l e =
    let place : suc k + o ≡ k + suc o = omega arith in
    op-goal (suc k) xs o rest l e ∙ ap (λ n. Some (op_at n l)) place

txn-goal : (k : ℕ) (levels : List TxnLevel) (d : ℕ) (l : TxnLevel) → slice_get levels d ≡ Some l → slice_get (txns_from k levels) d ≡ Some (txn_at (k + d) l)
txn-goal k [] d l e = absurd (cc)
txn-goal k (x ∷ xs) zero l e =
    let same : x ≡ l = cc in
    let place : k ≡ k + 0 = omega arith in
    ap (λ (z : TxnLevel). Some (txn_at k z)) same ∙ ap (λ n. Some (txn_at n l)) place
txn-goal k (x ∷ xs) (suc d) l e =
    let place : suc k + d ≡ k + suc d = omega arith in
    txn-goal (suc k) xs d l e ∙ ap (λ n. Some (txn_at n l)) place

past-ops : (k : ℕ) (levels : List Level) (d : ℕ) (rest : List Goal) → slice_get (ops_from k levels ++ rest) (length levels + d) ≡ slice_get rest d
past-ops k [] d rest = let place : 0 + d ≡ d = omega arith in ap (λ (n : ℕ). slice_get rest n) place
past-ops k (x ∷ xs) d rest =
    let place : length (x ∷ xs) + d ≡ suc (length xs + d) = omega arith in
    ap (λ (n : ℕ). slice_get (ops_from k (x ∷ xs) ++ rest) n) place ∙ past-ops (suc k) xs d rest

module _ (p : Program) (levels : LevelLists) where
  same-goal : (n : ℕ) (g h : Goal) → slice_get (goals_at levels) n ≡ Some g → slice_get (goals_at levels) n ≡ Some h → h ≡ g
  same-goal n g h e f = let same : Some h ≡ Some g = sym f ∙ e in cc

  pub op-is : (o : ℕ) (g : Goal) (l : Level) → slice_get (goals_at levels) o ≡ Some g → slice_get levels.ops o ≡ Some l → op_at o l ≡ g
  op-is o g l e f =
      let place : 0 + o ≡ o = omega arith in
      same-goal o g (op_at o l) e (op-goal 0 levels.ops o (txns_from 0 levels.txns) l f ∙ ap (λ n. Some (op_at n l)) place)

  pub txn-is : (n d : ℕ) (g : Goal) (l : TxnLevel) → n ≡ length levels.ops + d → slice_get (goals_at levels) n ≡ Some g → slice_get levels.txns d ≡ Some l → txn_at d l ≡ g
  txn-is n d g l place e f =
      let number : 0 + d ≡ d = omega arith in
      same-goal n g (txn_at d l) e
      (ap (λ (k : ℕ). slice_get (goals_at levels) k) place ∙ past-ops 0 levels.ops d (txns_from 0 levels.txns) ∙ txn-goal 0 levels.txns d l f ∙ ap (λ m. Some (txn_at m l)) number)

  pub op_name_is : (o : ℕ) (g : Goal) (l : Level) (d : OpDecl) → slice_get (goals_at levels) o ≡ Some g → slice_get levels.ops o ≡ Some l → slice_get (all_ops p.types) o ≡ Some d → d.name.word ≡ name_of p g
  op_name_is o g l d e f at = let name : name_of p (op_at o l) ≡ d.name.word = rw at refl in sym name ∙ ap (name_of p) (op-is o g l e f)

  pub op_level_is : (o : ℕ) (g : Goal) (l : Level) → slice_get (goals_at levels) o ≡ Some g → slice_get levels.ops o ≡ Some l → Op l ≡ level_of g
  op_level_is o g l e f = ap level_of (op-is o g l e f)

  pub txn_name_is : (n d : ℕ) (g : Goal) (l : TxnLevel) (t : TxnDecl) → n ≡ length levels.ops + d → slice_get (goals_at levels) n ≡ Some g → slice_get levels.txns d ≡ Some l → slice_get p.txns d ≡ Some t → t.name.word ≡ name_of p g
  txn_name_is n d g l t place e f at = let name : name_of p (txn_at d l) ≡ t.name.word = rw at refl in sym name ∙ ap (name_of p) (txn-is n d g l place e f)

  pub txn_level_is : (n d : ℕ) (g : Goal) (l : TxnLevel) → n ≡ length levels.ops + d → slice_get (goals_at levels) n ≡ Some g → slice_get levels.txns d ≡ Some l → Txn l ≡ level_of g
  txn_level_is n d g l place e f = ap level_of (txn-is n d g l place e f)

-- ---- one goal more with its section

zip-one : {A B : Type 0} (R : A → B → Type 0) (gs : List A) (k : ℕ) (g : A) (ss : List B) (s : B) → slice_get gs k ≡ Some g → AllZip R (take k gs) ss → R g s → AllZip R (take (suc k) gs) (ss ++ s ∷ [])
zip-one R [] k g ss s e h r = absurd (cc)
zip-one R (x ∷ gs) zero g [] s e h r = let same : g ≡ x = cc in (subst (λ z. R z s) same r, tt)
zip-one R (x ∷ gs) zero g (u ∷ ss) s e h r = absurd h
zip-one R (x ∷ gs) (suc k) g [] s e h r = absurd h
zip-one R (x ∷ gs) (suc k) g (u ∷ ss) s e h r = (h.0, zip-one R gs k g ss s e h.1 r)

pub one_more_zipped : {A B : Type 0} (R : A → B → Type 0) (gs : List A) (k : ℕ) (g : A) (ss now : List B) (s : B) → slice_get gs k ≡ Some g → now ≡ ss ++ s ∷ [] → AllZip R (take k gs) ss → R g s → AllZip R (take (k + 1) gs) now
one_more_zipped R gs k g ss now s e is h r =
    subst (λ z. AllZip R (take (k + 1) gs) z) (sym is) (subst (λ n. AllZip R (take n gs) (ss ++ s ∷ [])) (sym (add-one k)) (zip-one R gs k g ss s e h r))

pub all_more : {A : Type 0} (P : A → Type 0) (xs : List A) (x : A) → AllByRecursion P xs → P x → AllByRecursion P (xs ++ x ∷ [])
all_more P [] x all last = (last, tt)
all_more P (y ∷ ys) x all last = (all.0, all_more P ys x all.1 last)

pub all_zipped : {A B : Type 0} (R : A → B → Type 0) (gs : List A) (k : ℕ) (ss : List B) → length gs ≤ k → AllZip R (take k gs) ss → AllZip R gs ss
all_zipped R gs k ss l h = subst (λ z. AllZip R z ss) (take_all k gs l) h

length-ops : (k : ℕ) (levels : List Level) → length (ops_from k levels) ≡ length levels
length-ops k [] = refl
length-ops k (l ∷ levels) = ap suc (length-ops (suc k) levels)

length-txns : (k : ℕ) (levels : List TxnLevel) → length (txns_from k levels) ≡ length levels
length-txns k [] = refl
length-txns k (l ∷ levels) = ap suc (length-txns (suc k) levels)

pub length_goals : (levels : LevelLists) → length (goals_at levels) ≡ length levels.ops + length levels.txns
length_goals levels =
    let whole = length-append (ops_from 0 levels.ops) (txns_from 0 levels.txns) in
    let ops = length-ops 0 levels.ops in
    let txns = length-txns 0 levels.txns in
    omega (arith, whole, ops, txns)

-- ---- names

named-at : {A : Type 0} (P : A → Type 0) (xs : List A) (k : ℕ) (x : A) → AllByRecursion P xs → slice_get xs k ≡ Some x → P x
named-at P [] k x all e = absurd (cc)
named-at P (y ∷ ys) zero x all e = let same : y ≡ x = cc in subst P same all.0
named-at P (y ∷ ys) (suc k) x all e = named-at P ys k x all.1 e

pub op_is_named : (p : Program) (o : ℕ) (d : OpDecl) → HasNames p → slice_get (all_ops p.types) o ≡ Some d → IsName d.name.word
op_is_named p o d names e = named-at (λ (op : OpDecl). IsName op.name.word) (all_ops p.types) o d names.ops e

pub txn_is_named : (p : Program) (n : ℕ) (d : TxnDecl) → HasNames p → slice_get p.txns n ≡ Some d → IsName d.name.word
txn_is_named p n d names e = named-at (λ (txn : TxnDecl). IsName txn.name.word) p.txns n d names.txns e

-- ---- a section

pub section_spelled : (s : Section) → IsName s.name → AreNumbered s.refutation.lines → IsSection s
section_spelled s name numbered = record {
  name = name;
  lines = spelled_lines s.refutation.lines numbered.each;
  few = numbered.few;
}
