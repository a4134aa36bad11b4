-- Items of lists one after another, by their places.
use Rattle.std.proofs.Common.{◌≡◌, ◌<◌, ◌≤◌, ◌+◌, ◌-◌, ℕ, zero, suc, List, [], ◌∷◌, ◌++◌, Option, Some, None, length, drop, get_or, is_some, true, refl, sym, ap, ◌∙◌, arith, replicate, add-one}
use Rattle.std.specs.Borrow.{Bor}
use Rattle.std.specs.List.{slice_get}
use Rattle.std.specs.Option.{option_copied}
use Rattle.std.proofs.lemmas.List.{length-append}
use Rattle.std.proofs.lemmas.Option.{slice_get_read}
use Rattle.ql_typing.proofs.Each.{next_item, no_item}
use Rattle.ql_lang.specs.declared.program.TypeDecl.{TypeDecl}
use Rattle.ql_lang.specs.declared.operation.OpDecl.{OpDecl}
use Rattle.ql_typing.specs.Operations.{all_ops, kinds_from, op_kinds}

pub get_left : {A : Type 0} (xs ys : List A) (k : ℕ) → k < length xs → slice_get (xs ++ ys) k ≡ slice_get xs k
get_left [] ys k below = absurd (omega (arith, below))
get_left (x ∷ xs) ys zero below = refl
get_left (x ∷ xs) ys (suc k) below = get_left xs ys k (omega (arith, below))

pub get_right : {A : Type 0} (xs ys : List A) (k : ℕ) → length xs ≤ k → slice_get (xs ++ ys) k ≡ slice_get ys (k - length xs)
get_right [] ys k past =
    let same : k ≡ k - 0 = omega arith in
    ap (slice_get ys) same
get_right (x ∷ xs) ys zero past = absurd (omega (arith, past))
get_right (x ∷ xs) ys (suc k) past =
    let same : k - length xs ≡ suc k - suc (length xs) = omega arith in
    get_right xs ys k (omega (arith, past)) ∙ ap (slice_get ys) same

pub get_copy : {A : Type 0} (n k : ℕ) (x : A) → k < n → slice_get (replicate n x) k ≡ Some x
get_copy zero k x below = absurd (omega (arith, below))
get_copy (suc n) zero x below = refl
get_copy (suc n) (suc k) x below = get_copy n k x (omega (arith, below))

pub length_copies : {A : Type 0} (n : ℕ) (x : A) → length (replicate n x) ≡ n
length_copies zero x = refl
length_copies (suc n) x = ap suc (length_copies n x)

-- the operations of the first type stand first
module _ (t : TypeDecl) (ts : List TypeDecl) (left : ℕ) where
  pub op_here : left < length t.ops → slice_get (all_ops (t ∷ ts)) left ≡ slice_get t.ops left
  op_here below = get_left t.ops (all_ops ts) left below

  pub op_later : length t.ops ≤ left → slice_get (all_ops (t ∷ ts)) left ≡ slice_get (all_ops ts) (left - length t.ops)
  op_later past = get_right t.ops (all_ops ts) left past

  pub kind_first : (k : ℕ) → left < length t.ops → slice_get (kinds_from k (t ∷ ts)) left ≡ Some k
  unfolding kinds_from
  kind_first k below =
      get_left (replicate (length t.ops) k) (kinds_from (suc k) ts) left (omega (arith, below, length_copies (length t.ops) k))
      ∙ get_copy (length t.ops) left k below

  pub kind_later : (k : ℕ) → length t.ops ≤ left → slice_get (kinds_from k (t ∷ ts)) left ≡ slice_get (kinds_from (suc k) ts) (left - length t.ops)
  unfolding kinds_from
  kind_later k past =
      get_right (replicate (length t.ops) k) (kinds_from (suc k) ts) left (omega (arith, past, length_copies (length t.ops) k))
      ∙ ap (λ n. slice_get (kinds_from (suc k) ts) (left - n)) (length_copies (length t.ops) k)

-- there are as many types of operations as operations
pub length-kinds : (k : ℕ) (ts : List TypeDecl) → length (kinds_from k ts) ≡ length (all_ops ts)
unfolding kinds_from
length-kinds k [] = refl
length-kinds k (t ∷ ts) =
    length-append (replicate (length t.ops) k) (kinds_from (suc k) ts) ∙ (λ i. length_copies (length t.ops) k i + length-kinds (suc k) ts i) ∙ sym (length-append t.ops (all_ops ts))

-- an item stands at each place within a list
pub is_there : {A : Type 0} (xs : List A) (k : ℕ) → k < length xs → is_some (slice_get xs k) ≡ true
is_there [] k below = absurd (omega (arith, below))
is_there (x ∷ xs) zero below = refl
is_there (x ∷ xs) (suc k) below = is_there xs k (omega (arith, below))

-- what is behind a reference is there where the reference is
pub copied_there : {A : Type 0} (r : Option (Bor A)) → is_some (option_copied r) ≡ true → is_some r ≡ true
copied_there None there = there
copied_there (Some x) there = refl

-- from a place in a list of types on: the operation is found in the type there, or looked for after it
module _ (types : List TypeDecl) (i : ℕ) (t : TypeDecl) (ops : List OpDecl) (left number : ℕ) (below : i < length types) (is : t ≡ get_or types i t) (ops_are : ops ≡ t.ops) where
  pub found_op : (op : OpDecl) → left < length ops → op ≡ get_or ops left op
      → slice_get (all_ops (drop i types)) left ≡ slice_get (all_ops types) number → Some op ≡ slice_get (all_ops types) number
  found_op op within op_is so_far =
      sym (slice_get_read ops (length ops) left op refl within op_is)
      ∙ ap (λ xs. slice_get xs left) ops_are
      ∙ sym (op_here t (drop (i + 1) types) left (omega (arith, within, ap length ops_are)))
      ∙ ap (λ ts. slice_get (all_ops ts) left) (sym (next_item types i t below is)) ∙ so_far

  pub passed_op : length ops ≤ left → slice_get (all_ops (drop i types)) left ≡ slice_get (all_ops types) number
      → slice_get (all_ops (drop (i + 1) types)) (left - length ops) ≡ slice_get (all_ops types) number
  passed_op past so_far =
      ap (λ xs. slice_get (all_ops (drop (i + 1) types)) (left - length xs)) ops_are
      ∙ sym (op_later t (drop (i + 1) types) left (omega (arith, past, ap length ops_are)))
      ∙ ap (λ ts. slice_get (all_ops ts) left) (sym (next_item types i t below is)) ∙ so_far

  pub found_kind : left < length ops → slice_get (kinds_from i (drop i types)) left ≡ slice_get (op_kinds types) number → Some i ≡ slice_get (op_kinds types) number
  found_kind within so_far =
      sym (kind_first t (drop (i + 1) types) left i (omega (arith, within, ap length ops_are)))
      ∙ ap (λ ts. slice_get (kinds_from i ts) left) (sym (next_item types i t below is)) ∙ so_far

  pub passed_kind : length ops ≤ left → slice_get (kinds_from i (drop i types)) left ≡ slice_get (op_kinds types) number
      → slice_get (kinds_from (i + 1) (drop (i + 1) types)) (left - length ops) ≡ slice_get (op_kinds types) number
  passed_kind past so_far =
      ap (λ n. slice_get (kinds_from n (drop (i + 1) types)) (left - length ops)) (add-one i)
      ∙ ap (λ xs. slice_get (kinds_from (suc i) (drop (i + 1) types)) (left - length xs)) ops_are
      ∙ sym (kind_later t (drop (i + 1) types) left i (omega (arith, past, ap length ops_are)))
      ∙ ap (λ ts. slice_get (kinds_from i ts) left) (sym (next_item types i t below is)) ∙ so_far

pub no_kind : (types : List TypeDecl) (i left number : ℕ) → length types ≤ i → slice_get (kinds_from i (drop i types)) left ≡ slice_get (op_kinds types) number → None ≡ slice_get (op_kinds types) number
unfolding kinds_from
no_kind types i left number past so_far = ap (λ ts. slice_get (kinds_from i ts) left) (sym (no_item types i past)) ∙ so_far
