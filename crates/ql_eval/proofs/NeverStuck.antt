-- an expression that has a kind has a value of that kind
use Rattle.std.proofs.Common.{◌≡◌, ℕ, ℤ, Bool, true, false, ◌&&◌, cond, List, [], ◌∷◌, Option, None, Some, All, refl, ap, ◌∙◌, subst}
use Rattle.std.specs.Str.{bytes_eq}
use Rattle.ql_lang.specs.declared.operation.Base.{Base}
use Rattle.ql_lang.specs.declared.operation.Base.TheVariants as base
use Rattle.ql_lang.specs.declared.operation.Kind.{Kind}
use Rattle.ql_lang.specs.declared.operation.Kind.TheVariants as kind
use Rattle.ql_lang.specs.declared.expression.BinOp.{BinOp}
use Rattle.ql_lang.specs.declared.expression.BinOp.TheVariants as op
use Rattle.ql_lang.specs.Expressions as e
use Rattle.ql_lang.specs.Expressions.{Expression, NoMore, More}
use Rattle.ql_typing.specs.declared.function.Function.{Function}
use Rattle.ql_typing.specs.declared.function.Function.TheVariants as function
use Rattle.ql_typing.specs.declared.scope.Known.{Known}
use Rattle.ql_typing.specs.Functions.{function_named, of_base}
use Rattle.ql_typing.specs.Kinds.{base_only, chosen_kind, combined_kind, gives_of, kept_kind, kind_in, kind_of, kind_where, meets, operand_of, result_of, same_base, same_kind, second_of, signature_at, third_of}
use Rattle.ql_value.specs.declared.scalar.Scalar.{Scalar}
use Rattle.ql_value.specs.declared.scalar.Scalar.TheVariants.{Int as IntScalar, Bool as TruthScalar, Text as TextScalar}
use Rattle.ql_value.specs.declared.value.Value.{Value}
use Rattle.ql_value.specs.declared.value.Value.TheVariants.{Int as Number, Bool as Truth, Text, Set, Map}
use Rattle.ql_value.specs.Collections.{added, contains, dropped, keys, put_in, removed, value_for_key}
use Rattle.ql_eval.specs.Evaluation.{Bindings, called_on, called_with_three, called_with_two, chosen_by, combined, denied, negative_of, single, value_in, value_of}
use Rattle.ql_eval.specs.ValueKinds.{FitsScope, HasBase, HasBases, HasKind, HasValue, IsNeverStuck}
use Rattle.ql_eval.proofs.Preserved.{added_all, dropped_all, found_all, put_all, removed_all, united_all}

-- names
found_or : (b : Bool) (k : Kind) (v : Value) (ks : Option Kind) (vs : Option Value) → HasKind k v → HasValue ks vs → HasValue (cond b (Some k) ks) (cond b (Some v) vs)
found_or true k v ks vs here rest = here
found_or false k v ks vs here rest = rest

pub name_has_value : (scope : List Known) (env : Bindings) (w : List ℕ) → FitsScope scope env → HasValue (kind_in scope w) (value_in env w)
unfolding kind_in value_in
name_has_value [] [] w fits = tt
name_has_value [] (p ∷ ps) w fits = absurd fits
name_has_value (k ∷ ks) [] w fits = absurd fits
name_has_value (k ∷ ks) (p ∷ ps) w fits = rw fits.0.word (found_or (bytes_eq p.0 w) k.kind p.1 (kind_in ks w) (value_in ps w) fits.0.value (name_has_value ks ps w fits.1))

-- kinds that are the same are equal
both : (a b : Bool) → (a && b) ≡ true → (a ≡ true) × (b ≡ true)
both true true h = (refl, refl)
both true false h = cc
both false b h = cc

pub same_base_is : (b c : Base) → same_base b c ≡ true → b ≡ c
same_base_is base.Int base.Int h = refl
same_base_is base.Bool base.Bool h = refl
same_base_is base.Text base.Text h = refl
same_base_is _ _ h = cc

pub same_kind_is : (k l : Kind) → same_kind k l ≡ true → k ≡ l
same_kind_is kind.Unit kind.Unit h = refl
same_kind_is kind.Int kind.Int h = refl
same_kind_is kind.Bool kind.Bool h = refl
same_kind_is kind.Text kind.Text h = refl
same_kind_is (kind.Set b) (kind.Set c) h = ap kind.Set (same_base_is b c h)
same_kind_is (kind.Map b c) (kind.Map d f) h =
    let p = both (same_base b d) (same_base c f) h in
    ap (λ x. kind.Map x c) (same_base_is b d p.0) ∙ ap (λ x. kind.Map d x) (same_base_is c f p.1)
same_kind_is _ _ h = cc

pub meets_is : (a b : Option Kind) → meets a b ≡ true → b ≡ a
meets_is (Some w) (Some k) h = ap Some (same_kind_is k w h)
meets_is None b h = cc
meets_is (Some w) None h = cc

-- values by their kinds
is_number : (v : Option Value) → HasValue (Some kind.Int) v → (n : ℤ) × (v ≡ Some (Number n))
is_number (Some (Number n)) h = (n, refl)
is_number (Some _) h = absurd h
is_number None h = absurd h

is_truth : (v : Option Value) → HasValue (Some kind.Bool) v → (b : Bool) × (v ≡ Some (Truth b))
is_truth (Some (Truth b)) h = (b, refl)
is_truth (Some _) h = absurd h
is_truth None h = absurd h

is_there : (k : Kind) (v : Option Value) → HasValue (Some k) v → (x : Value) × (v ≡ Some x)
is_there k (Some x) h = (x, refl)
is_there k None h = absurd h

record IsSingle (b : Base) (v : Option Value) : Type 0 where
  scalar : Scalar
  value : v ≡ Some (single scalar)
  base_kind : HasBase b scalar

is_single : (b : Base) (v : Option Value) → HasValue (Some (of_base b)) v → IsSingle b v
is_single base.Int (Some (Number n)) h = record { scalar = IntScalar n; value = refl; base_kind = tt }
is_single base.Int (Some _) h = absurd h
is_single base.Bool (Some (Truth b)) h = record { scalar = TruthScalar b; value = refl; base_kind = tt }
is_single base.Bool (Some _) h = absurd h
is_single base.Text (Some (Text t)) h = record { scalar = TextScalar t; value = refl; base_kind = tt }
is_single base.Text (Some _) h = absurd h
is_single base.Int None h = absurd h
is_single base.Bool None h = absurd h
is_single base.Text None h = absurd h

single_kind : (b : Base) (x : Scalar) → HasBase b x → HasKind (of_base b) (single x)
single_kind base.Int (IntScalar n) h = tt
single_kind base.Bool (TruthScalar n) h = tt
single_kind base.Text (TextScalar n) h = tt
single_kind base.Int (TruthScalar n) h = absurd h
single_kind base.Int (TextScalar n) h = absurd h
single_kind base.Bool (IntScalar n) h = absurd h
single_kind base.Bool (TextScalar n) h = absurd h
single_kind base.Text (IntScalar n) h = absurd h
single_kind base.Text (TruthScalar n) h = absurd h

as_wanted : (w k : Option Kind) (v : Option Value) → meets w k ≡ true → HasValue k v → HasValue w v
as_wanted w k v m h = subst (λ x. HasValue x v) (meets_is w k m) h

-- a kind where a test holds
where_so : (t : Bool) (k : Option Kind) (v : Option Value) → (t ≡ true → HasValue k v) → HasValue (cond t k None) v
where_so true k v h = h refl
where_so false k v h = tt

numbers_ok : (o : BinOp) (k : Option Kind) (a b : Option Value) → HasValue (Some kind.Int) a → HasValue (Some kind.Int) b
    → ((m n : ℤ) → HasValue k (combined o (Some (Number m)) (Some (Number n)))) → HasValue k (combined o a b)
numbers_ok o k a b h i each = let x = is_number a h in let y = is_number b i in rw (x.1, y.1) (each x.0 y.0)

truths_ok : (o : BinOp) (k : Option Kind) (a b : Option Value) → HasValue (Some kind.Bool) a → HasValue (Some kind.Bool) b
    → ((m n : Bool) → HasValue k (combined o (Some (Truth m)) (Some (Truth n)))) → HasValue k (combined o a b)
truths_ok o k a b h i each = let x = is_truth a h in let y = is_truth b i in rw (x.1, y.1) (each x.0 y.0)

some_by : (w : Option Kind) (k : Option Kind) (v : Option Value) → meets w k ≡ true → HasValue k v → (x : Value) × (v ≡ Some x)
some_by (Some w) (Some k) v m h = is_there k v h
some_by None k v m h = cc
some_by (Some w) None v m h = cc

operands_ok : (o : BinOp) (j k : Option Kind) (a b : Option Value) → HasValue j a → HasValue k b → meets (operand_of o j) j ≡ true → meets (operand_of o j) k ≡ true → HasValue (Some (gives_of o)) (combined o a b)
operands_ok op.Or j k a b h i m n = truths_ok op.Or (Some kind.Bool) a b (as_wanted (Some kind.Bool) j a m h) (as_wanted (Some kind.Bool) k b n i) (λ x y. tt)
operands_ok op.And j k a b h i m n = truths_ok op.And (Some kind.Bool) a b (as_wanted (Some kind.Bool) j a m h) (as_wanted (Some kind.Bool) k b n i) (λ x y. tt)
operands_ok op.Eq j k a b h i m n = let x = some_by (base_only j) j a m h in let y = some_by (base_only j) k b n i in rw (x.1, y.1) tt
operands_ok op.Ne j k a b h i m n = let x = some_by (base_only j) j a m h in let y = some_by (base_only j) k b n i in rw (x.1, y.1) tt
operands_ok op.Lt j k a b h i m n = numbers_ok op.Lt (Some kind.Bool) a b (as_wanted (Some kind.Int) j a m h) (as_wanted (Some kind.Int) k b n i) (λ x y. tt)
operands_ok op.Le j k a b h i m n = numbers_ok op.Le (Some kind.Bool) a b (as_wanted (Some kind.Int) j a m h) (as_wanted (Some kind.Int) k b n i) (λ x y. tt)
operands_ok op.Gt j k a b h i m n = numbers_ok op.Gt (Some kind.Bool) a b (as_wanted (Some kind.Int) j a m h) (as_wanted (Some kind.Int) k b n i) (λ x y. tt)
operands_ok op.Ge j k a b h i m n = numbers_ok op.Ge (Some kind.Bool) a b (as_wanted (Some kind.Int) j a m h) (as_wanted (Some kind.Int) k b n i) (λ x y. tt)
operands_ok op.Add j k a b h i m n = numbers_ok op.Add (Some kind.Int) a b (as_wanted (Some kind.Int) j a m h) (as_wanted (Some kind.Int) k b n i) (λ x y. tt)
operands_ok op.Sub j k a b h i m n = numbers_ok op.Sub (Some kind.Int) a b (as_wanted (Some kind.Int) j a m h) (as_wanted (Some kind.Int) k b n i) (λ x y. tt)
operands_ok op.Mul j k a b h i m n = numbers_ok op.Mul (Some kind.Int) a b (as_wanted (Some kind.Int) j a m h) (as_wanted (Some kind.Int) k b n i) (λ x y. tt)

combined_ok : (o : BinOp) (j k : Option Kind) (a b : Option Value) → HasValue j a → HasValue k b → HasValue (combined_kind o j k) (combined o a b)
combined_ok o j k a b h i = where_so (meets (operand_of o j) j && meets (operand_of o j) k) (Some (gives_of o)) (combined o a b)
    (λ t. let p = both (meets (operand_of o j) j) (meets (operand_of o j) k) t in operands_ok o j k a b h i p.0 p.1)

denied_ok : (k : Option Kind) (a : Option Value) → HasValue k a → HasValue (kept_kind kind.Bool k) (denied a)
denied_ok k a h = where_so (meets (Some kind.Bool) k) (Some kind.Bool) (denied a) (λ m. let x = is_truth a (as_wanted (Some kind.Bool) k a m h) in rw x.1 tt)

negated_ok : (k : Option Kind) (a : Option Value) → HasValue k a → HasValue (kept_kind kind.Int k) (negative_of a)
negated_ok k a h = where_so (meets (Some kind.Int) k) (Some kind.Int) (negative_of a) (λ m. let x = is_number a (as_wanted (Some kind.Int) k a m h) in rw x.1 tt)

part_ok : (t : Bool) (j k : Option Kind) (a b : Option Value) → HasValue j a → HasValue k b → meets j k ≡ true → HasValue j (chosen_by (Some (Truth t)) a b)
part_ok true j k a b h i m = h
part_ok false j k a b h i m = as_wanted j k b m i

chosen_ok : (l j k : Option Kind) (t a b : Option Value) → HasValue l t → HasValue j a → HasValue k b → HasValue (chosen_kind l j k) (chosen_by t a b)
chosen_ok l j k t a b g h i = where_so (meets (Some kind.Bool) l && meets j k) j (chosen_by t a b)
    (λ m. let p = both (meets (Some kind.Bool) l) (meets j k) m in
    let x = is_truth t (as_wanted (Some kind.Bool) l t p.0 g) in
    rw x.1 (part_ok x.0 j k a b h i p.1))

-- calls of one argument
one_ok : (f : Option Function) (k : Option Kind) (v : Option Value) → HasValue k v → HasValue (result_of (signature_at f 1 k)) (called_on f v [])
one_ok None None v h = tt
one_ok None (Some k) v h = tt
one_ok (Some f) None v h = tt
one_ok (Some function.Size) (Some (kind.Set b)) (Some (Set s)) h = tt
one_ok (Some function.Size) (Some (kind.Set b)) (Some _) h = absurd h
one_ok (Some function.Size) (Some (kind.Set b)) None h = absurd h
one_ok (Some function.Size) (Some (kind.Map b c)) (Some (Map m)) h = tt
one_ok (Some function.Size) (Some (kind.Map b c)) (Some _) h = absurd h
one_ok (Some function.Size) (Some (kind.Map b c)) None h = absurd h
one_ok (Some function.Sum) (Some (kind.Map b base.Int)) (Some (Map m)) h = tt
one_ok (Some function.Sum) (Some (kind.Map b base.Int)) (Some _) h = absurd h
one_ok (Some function.Sum) (Some (kind.Map b base.Int)) None h = absurd h
one_ok (Some f) (Some k) v h = tt

-- a scalar argument
has_set : (s : List Scalar) (x : Scalar) → called_with_two (Some function.Has) (Set s) (Some (single x)) ≡ Some (Truth (contains s x))
has_set s (IntScalar n) = refl
has_set s (TruthScalar n) = refl
has_set s (TextScalar n) = refl

has_map : (m : List (Scalar × Scalar)) (x : Scalar) → called_with_two (Some function.Has) (Map m) (Some (single x)) ≡ Some (Truth (contains (keys m) x))
has_map m (IntScalar n) = refl
has_map m (TruthScalar n) = refl
has_map m (TextScalar n) = refl

add_set : (s : List Scalar) (x : Scalar) → called_with_two (Some function.Add) (Set s) (Some (single x)) ≡ Some (Set (added s x))
add_set s (IntScalar n) = refl
add_set s (TruthScalar n) = refl
add_set s (TextScalar n) = refl

remove_set : (s : List Scalar) (x : Scalar) → called_with_two (Some function.Remove) (Set s) (Some (single x)) ≡ Some (Set (removed s x))
remove_set s (IntScalar n) = refl
remove_set s (TruthScalar n) = refl
remove_set s (TextScalar n) = refl

drop_map : (m : List (Scalar × Scalar)) (x : Scalar) → called_with_two (Some function.Drop) (Map m) (Some (single x)) ≡ Some (Map (dropped m x))
drop_map m (IntScalar n) = refl
drop_map m (TruthScalar n) = refl
drop_map m (TextScalar n) = refl

second_ok : (b : Base) (j : Option Kind) (v : Option Value) → HasValue j v → meets (Some (of_base b)) j ≡ true → IsSingle b v
second_ok b j v h m = is_single b v (as_wanted (Some (of_base b)) j v m h)

is_set : (b : Base) (v : Option Value) → HasValue (Some (kind.Set b)) v → (s : List Scalar) × (v ≡ Some (Set s)) × All (λ x. HasBase b x) s
is_set b (Some (Set s)) h = (s, refl, h)
is_set b (Some _) h = absurd h
is_set b None h = absurd h

is_map : (b c : Base) (v : Option Value) → HasValue (Some (kind.Map b c)) v → (m : List (Scalar × Scalar)) × (v ≡ Some (Map m)) × All (λ x. HasBases b c x) m
is_map b c (Some (Map m)) h = (m, refl, h)
is_map b c (Some _) h = absurd h
is_map b c None h = absurd h

two_ok : (f : Option Function) (k j : Option Kind) (a b : Option Value) → HasValue k a → HasValue j b
    → HasValue (kind_where (meets (second_of (signature_at f 2 k)) j) (result_of (signature_at f 2 k))) (called_on f a (b ∷ []))
two_ok None None j a b h i = tt
two_ok None (Some k) j a b h i = tt
two_ok (Some f) None j a b h i = tt
two_ok (Some function.Has) (Some (kind.Set c)) j a b h i = where_so (meets (Some (of_base c)) j) (Some kind.Bool) (called_on (Some function.Has) a (b ∷ []))
    (λ m. let s = is_set c a h in let x = second_ok c j b i m in rw (s.1, x.value, has_set s.0 x.scalar) tt)
two_ok (Some function.Has) (Some (kind.Map c d)) j a b h i = where_so (meets (Some (of_base c)) j) (Some kind.Bool) (called_on (Some function.Has) a (b ∷ []))
    (λ m. let s = is_map c d a h in let x = second_ok c j b i m in rw (s.1, x.value, has_map s.0 x.scalar) tt)
two_ok (Some function.Add) (Some (kind.Set c)) j a b h i = where_so (meets (Some (of_base c)) j) (Some (kind.Set c)) (called_on (Some function.Add) a (b ∷ []))
    (λ m. let s = is_set c a h in let x = second_ok c j b i m in rw (s.1, x.value, add_set s.0 x.scalar) (added_all (λ y. HasBase c y) x.scalar s.0 x.base_kind s.2))
two_ok (Some function.Remove) (Some (kind.Set c)) j a b h i = where_so (meets (Some (of_base c)) j) (Some (kind.Set c)) (called_on (Some function.Remove) a (b ∷ []))
    (λ m. let s = is_set c a h in let x = second_ok c j b i m in rw (s.1, x.value, remove_set s.0 x.scalar) (removed_all (λ y. HasBase c y) x.scalar s.0 s.2))
two_ok (Some function.Union) (Some (kind.Set c)) j a b h i = where_so (meets (Some (kind.Set c)) j) (Some (kind.Set c)) (called_on (Some function.Union) a (b ∷ []))
    (λ m. let s = is_set c a h in let t = is_set c b (as_wanted (Some (kind.Set c)) j b m i) in rw (s.1, t.1) (united_all (λ y. HasBase c y) s.0 t.0 s.2 t.2))
two_ok (Some function.Drop) (Some (kind.Map c d)) j a b h i = where_so (meets (Some (of_base c)) j) (Some (kind.Map c d)) (called_on (Some function.Drop) a (b ∷ []))
    (λ m. let s = is_map c d a h in let x = second_ok c j b i m in rw (s.1, x.value, drop_map s.0 x.scalar) (dropped_all (λ y. HasBases c d y) x.scalar s.0 s.2))
two_ok (Some f) (Some k) j a b h i = tt

-- calls of three arguments
put_map : (m : List (Scalar × Scalar)) (x y : Scalar) → called_with_three (Some function.Put) (Map m) (Some (single x)) (Some (single y)) ≡ Some (Map (put_in m x y))
put_map m (IntScalar n) (IntScalar k) = refl
put_map m (IntScalar n) (TruthScalar k) = refl
put_map m (IntScalar n) (TextScalar k) = refl
put_map m (TruthScalar n) (IntScalar k) = refl
put_map m (TruthScalar n) (TruthScalar k) = refl
put_map m (TruthScalar n) (TextScalar k) = refl
put_map m (TextScalar n) (IntScalar k) = refl
put_map m (TextScalar n) (TruthScalar k) = refl
put_map m (TextScalar n) (TextScalar k) = refl

get_map : (m : List (Scalar × Scalar)) (x y : Scalar) → called_with_three (Some function.Get) (Map m) (Some (single x)) (Some (single y)) ≡ Some (single (value_for_key m x y))
get_map m (IntScalar n) (IntScalar k) = refl
get_map m (IntScalar n) (TruthScalar k) = refl
get_map m (IntScalar n) (TextScalar k) = refl
get_map m (TruthScalar n) (IntScalar k) = refl
get_map m (TruthScalar n) (TruthScalar k) = refl
get_map m (TruthScalar n) (TextScalar k) = refl
get_map m (TextScalar n) (IntScalar k) = refl
get_map m (TextScalar n) (TruthScalar k) = refl
get_map m (TextScalar n) (TextScalar k) = refl

three_ok : (f : Option Function) (k j l : Option Kind) (a b c : Option Value) → HasValue k a → HasValue j b → HasValue l c
    → HasValue (kind_where (meets (second_of (signature_at f 3 k)) j && meets (third_of (signature_at f 3 k)) l) (result_of (signature_at f 3 k))) (called_on f a (b ∷ c ∷ []))
three_ok None None j l a b c h i g = tt
three_ok None (Some k) j l a b c h i g = tt
three_ok (Some f) None j l a b c h i g = tt
three_ok (Some function.Put) (Some (kind.Map p q)) j l a b c h i g = where_so (meets (Some (of_base p)) j && meets (Some (of_base q)) l) (Some (kind.Map p q)) (called_on (Some function.Put) a (b ∷ c ∷ []))
    (λ t. let both_fit = both (meets (Some (of_base p)) j) (meets (Some (of_base q)) l) t in
    let s = is_map p q a h in let x = second_ok p j b i both_fit.0 in let y = second_ok q l c g both_fit.1 in
    rw (s.1, x.value, y.value, put_map s.0 x.scalar y.scalar) (put_all p q x.scalar y.scalar s.0 x.base_kind y.base_kind s.2))
three_ok (Some function.Get) (Some (kind.Map p q)) j l a b c h i g = where_so (meets (Some (of_base p)) j && meets (Some (of_base q)) l) (Some (of_base q)) (called_on (Some function.Get) a (b ∷ c ∷ []))
    (λ t. let both_fit = both (meets (Some (of_base p)) j) (meets (Some (of_base q)) l) t in
    let s = is_map p q a h in let x = second_ok p j b i both_fit.0 in let y = second_ok q l c g both_fit.1 in
    rw (s.1, x.value, y.value, get_map s.0 x.scalar y.scalar) (single_kind q (value_for_key s.0 x.scalar y.scalar) (found_all p q x.scalar y.scalar s.0 y.base_kind s.2)))
three_ok (Some f) (Some k) j l a b c h i g = tt

-- the law, by recursion on the expression
pub never_stuck : (x : Expression) → IsNeverStuck x
unfolding kind_of value_of
never_stuck (e.Number at n) scope env fits = tt
never_stuck (e.Literal at text) scope env fits = tt
never_stuck (e.Truth at b) scope env fits = tt
never_stuck (e.Nothing at) scope env fits = tt
never_stuck (e.Reading at name) scope env fits = name_has_value scope env name.word fits
never_stuck (e.Calling at name NoMore) scope env fits = tt
never_stuck (e.Calling at name (More a NoMore)) scope env fits = one_ok (function_named name.word) (kind_of scope a) (value_of env a) (never_stuck a scope env fits)
never_stuck (e.Calling at name (More a (More b NoMore))) scope env fits =
    two_ok (function_named name.word) (kind_of scope a) (kind_of scope b) (value_of env a) (value_of env b) (never_stuck a scope env fits) (never_stuck b scope env fits)
never_stuck (e.Calling at name (More a (More b (More c NoMore)))) scope env fits =
    three_ok (function_named name.word) (kind_of scope a) (kind_of scope b) (kind_of scope c) (value_of env a) (value_of env b) (value_of env c) (never_stuck a scope env fits) (never_stuck b scope env fits) (never_stuck c scope env fits)
never_stuck (e.Calling at name (More a (More b (More c (More d rest))))) scope env fits = tt
never_stuck (e.Choosing at test a b) scope env fits =
    chosen_ok (kind_of scope test) (kind_of scope a) (kind_of scope b) (value_of env test) (value_of env a) (value_of env b) (never_stuck test scope env fits) (never_stuck a scope env fits) (never_stuck b scope env fits)
never_stuck (e.Combining at o a b) scope env fits =
    combined_ok o (kind_of scope a) (kind_of scope b) (value_of env a) (value_of env b) (never_stuck a scope env fits) (never_stuck b scope env fits)
never_stuck (e.Denying at a) scope env fits = denied_ok (kind_of scope a) (value_of env a) (never_stuck a scope env fits)
never_stuck (e.Negating at a) scope env fits = negated_ok (kind_of scope a) (value_of env a) (never_stuck a scope env fits)
