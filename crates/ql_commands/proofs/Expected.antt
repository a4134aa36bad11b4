-- The targets that are expected, by place, and the first place out of order.
use Rattle.std.proofs.Common.{◌≡◌, ◌≢◌, ℕ, zero, suc, ◌+◌, ◌-◌, ◌≤◌, ◌<◌, ◌⊎◌, inl, inr, Bool, false, List, [], ◌∷◌, ◌++◌, map, length, take, drop, add-one, Option, None, Some, refl, sym, ap, ◌∙◌, arith, length-append}
use Rattle.std.specs.Bool.{IsTrue}
use Rattle.std.specs.List.{slice_get}
use Rattle.std.specs.Option.{option_map_or}
use Rattle.std.proofs.lemmas.Bool.{cases_lt}
use Rattle.std.proofs.lemmas.List.{length-map, take_all}
use Rattle.std.proofs.lemmas.Option.{slice_get_past, slice_get_within}
use Rattle.ql_cert.specs.declared.cert.Section.{Section}
use Rattle.ql_cert.specs.declared.cert.SectionLevel.{SectionLevel}
use Rattle.ql_cert.specs.declared.cert.SectionLevel.TheVariants.{Op, Txn}
use Rattle.ql_ground.specs.OfPrograms.{IsGoalOf}
use Rattle.ql_lang.specs.declared.operation.OpDecl.{OpDecl}
use Rattle.ql_lang.specs.declared.program.Program.{Program}
use Rattle.ql_lang.specs.declared.program.TxnDecl.{TxnDecl}
use Rattle.ql_typing.specs.Operations.{all_ops}
use Rattle.ql_typing.specs.Names.{op_name, txn_name}
use Rattle.ql_commands.specs.Check.{Target, Operation, Transaction, expected_targets, target_of, target_named, goal_at, AreExpected, BeginOtherwise, IsOutOfOrder}
use Rattle.ql_commands.specs.Judging.{AreExpectedFrom}

-- ---- items of lists by place

at-map : {A B : Type 0} (f : A → B) (d : B) (xs : List A) (k : ℕ) → k < length xs → slice_get (map f xs) k ≡ Some (option_map_or f (slice_get xs k) d)
at-map f d [] k l = absurd (omega (arith, l))
at-map f d (x ∷ xs) zero l = refl
at-map f d (x ∷ xs) (suc k) l = at-map f d xs k (omega (arith, l))

at-front : {A : Type 0} (xs ys : List A) (k : ℕ) → k < length xs → slice_get (xs ++ ys) k ≡ slice_get xs k
at-front [] ys k l = absurd (omega (arith, l))
at-front (x ∷ xs) ys zero l = refl
at-front (x ∷ xs) ys (suc k) l = at-front xs ys k (omega (arith, l))

at-back : {A : Type 0} (xs ys : List A) (k : ℕ) → slice_get (xs ++ ys) (length xs + k) ≡ slice_get ys k
at-back [] ys k = let place : 0 + k ≡ k = omega arith in ap (λ (n : ℕ). slice_get ys n) place
at-back (x ∷ xs) ys k =
    let place : length (x ∷ xs) + k ≡ suc (length xs + k) = omega arith in
    ap (λ (n : ℕ). slice_get ((x ∷ xs) ++ ys) n) place ∙ at-back xs ys k

module _ (p : Program) where
  pub expected_count : length (expected_targets p) ≡ length (all_ops p.types) + length p.txns
  expected_count =
      let whole = length-append (map (λ (op : OpDecl). Operation op.name.word) (all_ops p.types)) (map (λ (txn : TxnDecl). Transaction txn.name.word) p.txns) in
      let first = length-map (all_ops p.types) (λ (op : OpDecl). Operation op.name.word) in
      let second = length-map p.txns (λ (txn : TxnDecl). Transaction txn.name.word) in
      omega (arith, whole, first, second)

  op-at : (o : ℕ) → o < length (all_ops p.types) → option_map_or (λ (op : OpDecl). Operation op.name.word) (slice_get (all_ops p.types) o) (Operation []) ≡ Operation (op_name p o)
  op-at o l = step (slice_get (all_ops p.types) o)
    where
      step : (x : Option OpDecl) → option_map_or (λ (op : OpDecl). Operation op.name.word) x (Operation []) ≡ Operation (option_map_or (λ (op : OpDecl). op.name.word) x [])
      step None = refl
      step (Some op) = refl

  txn-at : (d : ℕ) → option_map_or (λ (txn : TxnDecl). Transaction txn.name.word) (slice_get p.txns d) (Transaction []) ≡ Transaction (txn_name p d)
  txn-at d = step (slice_get p.txns d)
    where
      step : (x : Option TxnDecl) → option_map_or (λ (txn : TxnDecl). Transaction txn.name.word) x (Transaction []) ≡ Transaction (option_map_or (λ (txn : TxnDecl). txn.name.word) x [])
      step None = refl
      step (Some txn) = refl

  pub expected_op : (o : ℕ) → o < length (all_ops p.types) → slice_get (expected_targets p) o ≡ Some (Operation (op_name p o))
  expected_op o l =
      let count = length-map (all_ops p.types) (λ (op : OpDecl). Operation op.name.word) in
      at-front (map (λ (op : OpDecl). Operation op.name.word) (all_ops p.types)) (map (λ (txn : TxnDecl). Transaction txn.name.word) p.txns) o (omega (arith, l, count))
      ∙ at-map (λ (op : OpDecl). Operation op.name.word) (Operation []) (all_ops p.types) o l ∙ ap (λ (t : Target). Some t) (op-at o l)

  pub expected_txn : (k d : ℕ) → k ≡ length (all_ops p.types) + d → d < length p.txns → slice_get (expected_targets p) k ≡ Some (Transaction (txn_name p d))
  expected_txn k d is l =
      let count = length-map (all_ops p.types) (λ (op : OpDecl). Operation op.name.word) in
      let place : k ≡ length (map (λ (op : OpDecl). Operation op.name.word) (all_ops p.types)) + d = omega (arith, is, count) in
      ap (λ (n : ℕ). slice_get (expected_targets p) n) place
      ∙ at-back (map (λ (op : OpDecl). Operation op.name.word) (all_ops p.types)) (map (λ (txn : TxnDecl). Transaction txn.name.word) p.txns) d
      ∙ at-map (λ (txn : TxnDecl). Transaction txn.name.word) (Transaction []) p.txns d l ∙ ap (λ (t : Target). Some t) (txn-at d)

  expected-none : (k : ℕ) → length (all_ops p.types) + length p.txns ≤ k → slice_get (expected_targets p) k ≡ None
  expected-none k l = slice_get_past (expected_targets p) k (omega (arith, l, expected_count))

  -- an operation is expected below the count of operations alone
  pub op_below : (k : ℕ) (w : List ℕ) → slice_get (expected_targets p) k ≡ Some (Operation w) → k < length (all_ops p.types)
  op_below k w e = elim (cases_lt k (length (all_ops p.types))) [
    | inl less ↦ less
    | inr more ↦ elim (cases_lt (k - length (all_ops p.types)) (length p.txns)) [
      | inl within ↦ let at = expected_txn k (k - length (all_ops p.types)) (omega (arith, more)) within in absurd (cc)
      | inr past ↦ let none = expected-none k (omega (arith, more, past)) in absurd (cc)
    ]
  ]

  pub txn_above : (k : ℕ) (w : List ℕ) → slice_get (expected_targets p) k ≡ Some (Transaction w) → (length (all_ops p.types) ≤ k) × (k - length (all_ops p.types) < length p.txns)
  txn_above k w e = elim (cases_lt k (length (all_ops p.types))) [
    | inl less ↦ let at = expected_op k less in absurd (cc)
    | inr more ↦ elim (cases_lt (k - length (all_ops p.types)) (length p.txns)) [
      | inl within ↦ (more, within)
      | inr past ↦ let none = expected-none k (omega (arith, more, past)) in absurd (cc)
    ]
  ]

  pub expected_is_goal : (k : ℕ) (w : List ℕ) (level : SectionLevel) → slice_get (expected_targets p) k ≡ Some (target_named w level) → IsGoalOf p (goal_at (length (all_ops p.types)) k level)
  expected_is_goal k w (Op level) e = op_below k w e
  expected_is_goal k w (Txn level) e = (txn_above k w e).1

  from-place : (k : ℕ) (ss : List Section) → ((j : ℕ) → slice_get (map target_of ss) j ≡ slice_get (expected_targets p) (k + j)) → AreExpectedFrom p k ss
  from-place k [] same = tt
  from-place k (s ∷ ss) same =
      let place : k + 0 ≡ k = omega arith in
      let first : Some (target_of s) ≡ slice_get (expected_targets p) (k + 0) = same 0 in (
        sym (first ∙ ap (λ (n : ℕ). slice_get (expected_targets p) n) place),
        from-place (suc k) ss (λ j. let next : k + suc j ≡ suc k + j = omega arith in same (suc j) ∙ ap (λ (n : ℕ). slice_get (expected_targets p) n) next),
      )

  pub expected_from : (ss : List Section) → AreExpected p ss → AreExpectedFrom p 0 ss
  expected_from ss expected = from-place 0 ss (λ j. let place : j ≡ 0 + j = omega arith in ap (λ (ts : List Target). slice_get ts j) expected ∙ ap (λ (n : ℕ). slice_get (expected_targets p) n) place)

-- ---- lists that are alike up to a place

take-more : {A : Type 0} (xs ys : List A) (k : ℕ) → k < length xs → take k xs ≡ take k ys → slice_get xs k ≡ slice_get ys k → take (suc k) xs ≡ take (suc k) ys
take-more [] ys k l e f = absurd (omega (arith, l))
take-more (x ∷ xs) [] zero l e f = absurd (cc)
take-more (x ∷ xs) [] (suc k) l e f = absurd (cc)
take-more (x ∷ xs) (y ∷ ys) zero l e f = let same : x ≡ y = cc in ap (λ z. z ∷ []) same
take-more (x ∷ xs) (y ∷ ys) (suc k) l e f =
    let head : x ≡ y = cc in
    let tail : take k xs ≡ take k ys = cc in
    ap (λ z. z ∷ take (suc k) xs) head ∙ ap (λ zs. y ∷ zs) (take-more xs ys k (omega (arith, l)) tail f)

pub alike_more : (xs ys : List Target) (k : ℕ) → k < length xs → take k xs ≡ take k ys → slice_get xs k ≡ slice_get ys k → take (k + 1) xs ≡ take (k + 1) ys
alike_more xs ys k l e f = ap (λ (n : ℕ). take n xs) (add-one k) ∙ take-more xs ys k l e f ∙ ap (λ (n : ℕ). take n ys) (sym (add-one k))

parts : {A : Type 0} (k : ℕ) (xs : List A) → xs ≡ take k xs ++ drop k xs
parts zero xs = refl
parts (suc k) [] = refl
parts (suc k) (x ∷ xs) = ap (λ zs. x ∷ zs) (parts k xs)

length-take : {A : Type 0} (k : ℕ) (xs : List A) → k ≤ length xs → length (take k xs) ≡ k
length-take zero xs l = refl
length-take (suc k) [] l = absurd (omega (arith, l))
length-take (suc k) (x ∷ xs) l = ap suc (length-take k xs (omega (arith, l)))

first-ended : (k : ℕ) (ys : List Target) → None ≢ slice_get ys k → BeginOtherwise [] (drop k ys)
first-ended zero [] h = h refl
first-ended zero (y ∷ ys) h = tt
first-ended (suc k) [] h = h refl
first-ended (suc k) (y ∷ ys) h = first-ended k ys h

second-ended : (k : ℕ) (xs : List Target) → slice_get xs k ≢ None → BeginOtherwise (drop k xs) []
second-ended zero [] h = h refl
second-ended zero (x ∷ xs) h = tt
second-ended (suc k) [] h = h refl
second-ended (suc k) (x ∷ xs) h = second-ended k xs h

otherwise : (k : ℕ) (xs ys : List Target) → slice_get xs k ≢ slice_get ys k → BeginOtherwise (drop k xs) (drop k ys)
otherwise zero [] [] h = h refl
otherwise zero [] (y ∷ ys) h = tt
otherwise zero (x ∷ xs) [] h = tt
otherwise zero (x ∷ xs) (y ∷ ys) h = λ same. h (ap (λ (t : Target). Some t) same)
otherwise (suc k) [] [] h = h refl
otherwise (suc k) [] (y ∷ ys) h = first-ended k ys h
otherwise (suc k) (x ∷ xs) [] h = second-ended k xs h
otherwise (suc k) (x ∷ xs) (y ∷ ys) h = otherwise k xs ys h

-- the first place at which the sections aren't those that are expected
pub out_of_order : (p : Program) (ss : List Section) (k place : ℕ) → place ≡ k + 1 → k ≤ length (expected_targets p) → take k (expected_targets p) ≡ take k (map target_of ss) → slice_get (expected_targets p) k ≢ slice_get (map target_of ss) k → IsOutOfOrder p ss place
out_of_order p ss k place is l alike differ =
    let count = length-take k (expected_targets p) l in
    record {
      before = take k (expected_targets p);
      at = omega (arith, is, count);
      expected = drop k (expected_targets p);
      given = drop k (map target_of ss);
      are_expected = parts k (expected_targets p);
      are_given = parts k (map target_of ss) ∙ ap (λ (ts : List Target). ts ++ drop k (map target_of ss)) (sym alike);
      differ = otherwise k (expected_targets p) (map target_of ss) differ;
    }

-- more sections than targets, and no more
pub too_many : (p : Program) (ss : List Section) (k : ℕ) → k ≡ length (expected_targets p) → k < length ss → slice_get (expected_targets p) k ≢ slice_get (map target_of ss) k
too_many p ss k is l same =
    let none : slice_get (expected_targets p) k ≡ None = slice_get_past (expected_targets p) k (omega (arith, is)) in
    let count = length-map ss target_of in
    present (map target_of ss) k (omega (arith, l, count)) (sym same ∙ none)
  where
    present : (xs : List Target) (k : ℕ) → k < length xs → slice_get xs k ≡ None → ⊥
    present [] k l e = omega (arith, l)
    present (x ∷ xs) zero l e = absurd (cc)
    present (x ∷ xs) (suc k) l e = present xs k (omega (arith, l)) e

pub all_expected : (p : Program) (ss : List Section) (k : ℕ) → k ≡ length (expected_targets p) → length ss ≤ k → take k (expected_targets p) ≡ take k (map target_of ss) → AreExpected p ss
all_expected p ss k is l alike =
    let count = length-map ss target_of in
    sym (sym (take_all k (expected_targets p) (omega (arith, is))) ∙ alike ∙ take_all k (map target_of ss) (omega (arith, l, count)))

-- ---- what the order test reports of one place

module _ (p : Program) (k : ℕ) (w : List ℕ) where
  pub op_reported : (b : Bool) (name : List ℕ) (d : OpDecl) → slice_get (all_ops p.types) k ≡ Some d → name ≡ d.name.word → (IsTrue b → name ≡ w) × (name ≡ w → IsTrue b)
      → (IsTrue b → slice_get (expected_targets p) k ≡ Some (Operation w)) × (slice_get (expected_targets p) k ≡ Some (Operation w) → IsTrue b)
  op_reported b name d at is same =
      let own : op_name p k ≡ name = rw at (sym is) in
      let expected : slice_get (expected_targets p) k ≡ Some (Operation name) = expected_op p k (slice_get_within (all_ops p.types) k d at) ∙ ap (λ (n : List ℕ). Some (Operation n)) own in (
        λ yes. expected ∙ ap (λ (n : List ℕ). Some (Operation n)) (same.0 yes),
        λ e. let both : Some (Operation name) ≡ Some (Operation w) = sym expected ∙ e in let equal : name ≡ w = cc in same.1 equal,
      )

  pub op_not : (length (all_ops p.types) ≤ k) → (IsTrue false → slice_get (expected_targets p) k ≡ Some (Operation w)) × (slice_get (expected_targets p) k ≡ Some (Operation w) → IsTrue false)
  op_not past = (λ no. absurd (cc), λ e. let below = op_below p k w e in absurd (omega (arith, past, below)))

  pub txn_reported : (b : Bool) (name : List ℕ) (n : ℕ) (d : TxnDecl) → k ≡ length (all_ops p.types) + n → slice_get p.txns n ≡ Some d → name ≡ d.name.word → (IsTrue b → name ≡ w) × (name ≡ w → IsTrue b)
      → (IsTrue b → slice_get (expected_targets p) k ≡ Some (Transaction w)) × (slice_get (expected_targets p) k ≡ Some (Transaction w) → IsTrue b)
  txn_reported b name n d place at is same =
      let own : txn_name p n ≡ name = rw at (sym is) in
      let expected : slice_get (expected_targets p) k ≡ Some (Transaction name) = expected_txn p k n place (slice_get_within p.txns n d at) ∙ ap (λ (m : List ℕ). Some (Transaction m)) own in (
        λ yes. expected ∙ ap (λ (m : List ℕ). Some (Transaction m)) (same.0 yes),
        λ e. let both : Some (Transaction name) ≡ Some (Transaction w) = sym expected ∙ e in let equal : name ≡ w = cc in same.1 equal,
      )

  pub txn_not : (k < length (all_ops p.types)) ⊎ (length p.txns ≤ k - length (all_ops p.types)) → (IsTrue false → slice_get (expected_targets p) k ≡ Some (Transaction w)) × (slice_get (expected_targets p) k ≡ Some (Transaction w) → IsTrue false)
  txn_not out = (
    λ no. absurd (cc),
    λ e. let above = txn_above p k w e in elim out [
      | inl low ↦ let first = above.0 in absurd (omega (arith, low, first))
      | inr high ↦ let second = above.1 in absurd (omega (arith, high, second))
    ],
  )
