-- Types, operations and declared transactions of a source's program are found by their names.
use Rattle.std.proofs.Common.{◌≡◌, ℕ, zero, suc, ◌+◌, ◌<◌, Bool, true, false, not, ◌||◌, cond, nat_lt, List, [], ◌∷◌, ◌++◌, Some, None, map, length, slice_get, if◌then◌else◌, refl, ap, sym, subst, arith, ◌∙◌}
use Rattle.std.specs.List.{AllByRecursion, position, prefix_len}
use Rattle.std.specs.Str.{bytes_eq}
use Rattle.std.proofs.lemmas.Bool.{both_ways, lt-ltb, ltb-true}
use Rattle.std.proofs.lemmas.List.Folds.{list_any-append}
use Rattle.std.proofs.lemmas.Slice.Eq.{bytes_eq-Decides}
use Rattle.ql_base.specs.Names.{IsName}
use Rattle.ql_base.specs.Numbering.{has_name, with_name}
use Rattle.ql_lang.specs.declared.name.Name.{Name}
use Rattle.ql_lang.specs.declared.operation.OpDecl.{OpDecl}
use Rattle.ql_lang.specs.declared.program.Program.{Program}
use Rattle.ql_lang.specs.declared.program.TxnDecl.{TxnDecl}
use Rattle.ql_lang.specs.declared.program.TypeDecl.{TypeDecl}
use Rattle.ql_typing.specs.Faults.{repeats}
use Rattle.ql_typing.specs.Lookups.{txn_place, type_place}
use Rattle.ql_typing.specs.Operations.{all_ops, op_place}
use Rattle.ql_typing.specs.Programs.{program_faults}
use Rattle.ql_typing.specs.declared.fault.TypeFault.TheVariants.{Twice}
use Rattle.ql_typing.proofs.Parts.{flat_of_map, left_none, right_none, reported_false}
use Rattle.ql_commands.specs.Sources.{IsSourceOf}
use Rattle.ql_commands.proofs.ReadNames.{has_names}

left-false : (a b : Bool) → (a || b) ≡ false → a ≡ false
left-false false b h = refl
left-false true b h = h

right-false : (a b : Bool) → (a || b) ≡ false → b ≡ false
right-false false b h = h
right-false true b h = absurd (both_ways true h refl)

-- a name that is none of those met, nor the one that is met now
unmet : (before : List (List ℕ)) (m w : List ℕ) → has_name before m ≡ false → has_name (with_name before m) w ≡ false → (has_name before w ≡ false) × (bytes_eq w m ≡ false)
unmet before m w new h =
    let longer : has_name (before ++ m ∷ []) w ≡ false = subst (λ b. has_name (if b then before else before ++ m ∷ []) w ≡ false) new h in
    let split : (has_name before w || (bytes_eq w m || false)) ≡ false = sym (list_any-append (bytes_eq w) before (m ∷ [])) ∙ longer in
    (left-false (has_name before w) (bytes_eq w m || false) split, left-false (bytes_eq w m) false (right-false (has_name before w) (bytes_eq w m || false) split))

first-place : (m n : ℕ) → m < n → cond (nat_lt m n) (Some m) None ≡ Some m
first-place m n less = rw (lt-ltb m n less) refl

later-place : (m n k : ℕ) (b : Bool) → nat_lt m n ≡ b → cond b (Some m) None ≡ Some k → cond (nat_lt (1 + m) (suc n)) (Some (1 + m)) None ≡ Some (suc k)
later-place m n k true is g =
    let same : m ≡ k = cc in
    let less = ltb-true m n is in
    let next : 1 + m ≡ suc k = omega (arith, same) in
    first-place (1 + m) (suc n) (omega (arith, less)) ∙ ap (λ (j : ℕ). Some j) next
later-place m n k false is g = absurd (let never : None ≡ Some k = g in cc)

module _ {X : Type 0} (name : X → Name) where
  not-before : (before : List (List ℕ)) (xs : List X) (k : ℕ) (x : X) → repeats before (map name xs) ≡ [] → slice_get xs k ≡ Some x → has_name before (name x).word ≡ false
  unfolding repeats
  not-before before [] k x h is = absurd (let never : None ≡ Some x = is in cc)
  not-before before (y ∷ xs) zero x h is =
      let same : y ≡ x = cc in
      subst (λ (z : X). has_name before (name z).word ≡ false) same (reported_false (has_name before (name y).word) (Twice (name y).at) (left_none _ _ h))
  not-before before (y ∷ xs) (suc k) x h is =
      let new : has_name before (name y).word ≡ false = reported_false (has_name before (name y).word) (Twice (name y).at) (left_none _ _ h) in
      (unmet before (name y).word (name x).word new (not-before (with_name before (name y).word) xs k x (right_none _ _ h) is)).0

  -- the first of a name stands where it does
  pub place-of : (before : List (List ℕ)) (xs : List X) (k : ℕ) (x : X) → repeats before (map name xs) ≡ [] → slice_get xs k ≡ Some x → position (λ y. bytes_eq (name x).word (name y).word) xs ≡ Some k
  unfolding repeats
  place-of before [] k x h is = absurd (let never : None ≡ Some x = is in cc)
  place-of before (y ∷ xs) zero x h is =
      let same : y ≡ x = cc in
      let here : bytes_eq (name x).word (name y).word ≡ true = (bytes_eq-Decides (name x).word (name y).word).1 (ap (λ (z : X). (name z).word) (sym same)) in
      rw here (first-place 0 (suc (length xs)) (omega arith))
  place-of before (y ∷ xs) (suc k) x h is =
      let new : has_name before (name y).word ≡ false = reported_false (has_name before (name y).word) (Twice (name y).at) (left_none _ _ h) in
      let met : bytes_eq (name x).word (name y).word ≡ false = (unmet before (name y).word (name x).word new (not-before (with_name before (name y).word) xs k x (right_none _ _ h) is)).1 in
      let later = place-of (with_name before (name y).word) xs k x (right_none _ _ h) is in
      rw met (next (prefix_len (λ z. not (bytes_eq (name x).word (name z).word)) xs) later)
    where
      next : (m : ℕ) → cond (nat_lt m (length xs)) (Some m) None ≡ Some k → cond (nat_lt (1 + m) (suc (length xs))) (Some (1 + m)) None ≡ Some (suc k)
      next m e = later-place m (length xs) k (nat_lt m (length xs)) refl e

-- ---- types, operations and transactions

pub found : {X : Type 0} (xs : List X) (k : ℕ) → k < length xs → (x : X) × (slice_get xs k ≡ Some x)
found [] k less = absurd (omega (arith, less))
found (x ∷ xs) zero less = (x, refl)
found (x ∷ xs) (suc k) less = found xs k (omega (arith, less))

all-at : {X : Type 0} (P : X → Type 0) (xs : List X) (k : ℕ) (x : X) → AllByRecursion P xs → slice_get xs k ≡ Some x → P x
all-at P [] k x all is = absurd (let never : None ≡ Some x = is in cc)
all-at P (y ∷ xs) zero x all is = let same : y ≡ x = cc in subst P same all.0
all-at P (y ∷ xs) (suc k) x all is = all-at P xs k x all.1 is

types-apart : (p : Program) → program_faults p ≡ [] → repeats [] (map (λ (t : TypeDecl). t.name) p.types) ≡ []
unfolding program_faults
types-apart p typed = left_none _ _ (left_none _ _ (left_none _ _ typed))

ops-apart : (p : Program) → program_faults p ≡ [] → repeats [] (map (λ (o : OpDecl). o.name) (all_ops p.types)) ≡ []
unfolding program_faults
ops-apart p typed =
    subst (λ (ns : List Name). repeats [] ns ≡ []) (flat_of_map (λ (o : OpDecl). o.name) (λ (t : TypeDecl). t.ops) p.types)
    (right_none (repeats [] (map (λ t. t.name) p.types) ++ repeats [] (map (λ d. d.name) p.txns)) _ (left_none _ _ typed))

txns-apart : (p : Program) → program_faults p ≡ [] → repeats [] (map (λ (d : TxnDecl). d.name) p.txns) ≡ []
unfolding program_faults
txns-apart p typed = right_none (repeats [] (map (λ t. t.name) p.types)) _ (left_none _ _ (left_none _ _ typed))

-- a name of the language, by which the item is found
module _ (source : List ℕ) (p : Program) (is : IsSourceOf source p) where
  pub type-found : (k : ℕ) (t : TypeDecl) → slice_get p.types k ≡ Some t → IsName t.name.word × (type_place p.types t.name.word ≡ Some k)
  type-found k t at = (all-at (λ (type : TypeDecl). IsName type.name.word) p.types k t (has_names source p is.0).types at, place-of (λ (type : TypeDecl). type.name) [] p.types k t (types-apart p is.1) at)

  pub op-found : (k : ℕ) (o : OpDecl) → slice_get (all_ops p.types) k ≡ Some o → IsName o.name.word × (op_place p.types o.name.word ≡ Some k)
  op-found k o at = (all-at (λ (op : OpDecl). IsName op.name.word) (all_ops p.types) k o (has_names source p is.0).ops at, place-of (λ (op : OpDecl). op.name) [] (all_ops p.types) k o (ops-apart p is.1) at)

  pub txn-found : (k : ℕ) (d : TxnDecl) → slice_get p.txns k ≡ Some d → IsName d.name.word × (txn_place p.txns d.name.word ≡ Some k)
  txn-found k d at = (all-at (λ (txn : TxnDecl). IsName txn.name.word) p.txns k d (has_names source p is.0).txns at, place-of (λ (txn : TxnDecl). txn.name) [] p.txns k d (txns-apart p is.1) at)
