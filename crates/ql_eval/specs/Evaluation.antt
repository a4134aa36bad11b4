use Rattle.std.specs.Prelude.{ℕ, ℤ, pos, neg_ℤ, ◌+ℤ◌, ◌-ℤ◌, ◌*ℤ◌, int_lt, int_le, Bool, true, false, not, ◌&&◌, ◌||◌, nat_le, List, [], ◌∷◌, length, Option, None, Some, if◌then◌else◌}
use Rattle.std.specs.List.{list_all}
use Rattle.std.specs.Option.{option_and_then}
use Rattle.std.specs.Ordering.{is_eq}
use Rattle.std.specs.Str.{bytes_eq}
use Rattle.ql_base.specs.Bytes.{is_text_byte}
use Rattle.ql_lang.specs.declared.expression.BinOp.{BinOp}
use Rattle.ql_lang.specs.declared.expression.BinOp.TheVariants as op
use Rattle.ql_lang.specs.Expressions as e
use Rattle.ql_lang.specs.Expressions.{Expression, Operands, NoMore, More}
use Rattle.ql_typing.specs.declared.function.Function.{Function}
use Rattle.ql_typing.specs.declared.function.Function.TheVariants as function
use Rattle.ql_typing.specs.Functions.{function_named}
use Rattle.ql_value.specs.declared.scalar.Scalar.{Scalar}
use Rattle.ql_value.specs.declared.scalar.Scalar.TheVariants.{Int as IntScalar, Bool as TruthScalar, Text as TextScalar}
use Rattle.ql_value.specs.declared.value.Value.{Value}
use Rattle.ql_value.specs.declared.value.Value.TheVariants.{Unit as Nothing, Int as Number, Bool as Truth, Text, Set, Map}
use Rattle.ql_value.specs.Collections.{added, contains, dropped, keys, put_in, removed, sum_of, united, value_for_key}
use Rattle.ql_value.specs.Saturating.{saturated}
use Rattle.ql_value.specs.ValueOrder.{value_cmp}

-- The value of an expression, by recursion on it, under the values of the names in scope. There is none if a name isn't
-- in scope or an operand has another kind than its operator takes.

-- names and their values
abbrev pub Bindings : Type 0
Bindings = List (List ℕ × Value)

-- the value of a name: that of its first pair
unfoldable pub value_in : Bindings → List ℕ → Option Value
value_in [] w = None
value_in (p ∷ ps) w = if bytes_eq p.0 w then Some p.1 else value_in ps w

-- a literal's text, or the empty text for bytes that no literal of a source has
abbrev pub text_of : List ℕ → List ℕ
text_of bytes = if nat_le (length bytes) 64 && list_all is_text_byte bytes then bytes else []

-- a single value as a scalar
abbrev pub scalar_of : Value → Option Scalar
scalar_of (Number n) = Some (IntScalar n)
scalar_of (Truth b) = Some (TruthScalar b)
scalar_of (Text t) = Some (TextScalar t)
scalar_of _ = None

-- a scalar as a value
abbrev pub single : Scalar → Value
single (IntScalar n) = Number n
single (TruthScalar b) = Truth b
single (TextScalar t) = Text t

-- operators of numbers: sums, differences and products saturate
abbrev pub on_numbers : BinOp → ℤ → ℤ → Option Value
on_numbers op.Lt a b = Some (Truth (int_lt a b))
on_numbers op.Le a b = Some (Truth (int_le a b))
on_numbers op.Gt a b = Some (Truth (int_lt b a))
on_numbers op.Ge a b = Some (Truth (int_le b a))
on_numbers op.Add a b = Some (Number (saturated (a +ℤ b)))
on_numbers op.Sub a b = Some (Number (saturated (a -ℤ b)))
on_numbers op.Mul a b = Some (Number (saturated (a *ℤ b)))
on_numbers _ a b = None

-- operators of truth values
abbrev pub on_truths : BinOp → Bool → Bool → Option Value
on_truths op.Or a b = Some (Truth (a || b))
on_truths op.And a b = Some (Truth (a && b))
on_truths _ a b = None

-- an operator that depends on the kind of its operands
abbrev pub on_same : BinOp → Value → Value → Option Value
on_same o (Number a) (Number b) = on_numbers o a b
on_same o (Truth a) (Truth b) = on_truths o a b
on_same o _ _ = None

-- values are equal if neither is below the other, so texts are equal by their bytes
abbrev pub on_values : BinOp → Value → Value → Option Value
on_values op.Eq a b = Some (Truth (is_eq (value_cmp a b)))
on_values op.Ne a b = Some (Truth (not (is_eq (value_cmp a b))))
on_values o a b = on_same o a b

abbrev pub combined : BinOp → Option Value → Option Value → Option Value
combined o (Some a) (Some b) = on_values o a b
combined o _ _ = None

abbrev pub denied : Option Value → Option Value
denied (Some (Truth b)) = Some (Truth (not b))
denied _ = None

abbrev pub negative_of : Option Value → Option Value
negative_of (Some (Number n)) = Some (Number (saturated (neg_ℤ n)))
negative_of _ = None

-- a value as a truth value, if it is one
abbrev pub truth_in : Option Value → Option Bool
truth_in (Some (Truth b)) = Some b
truth_in _ = None

-- one of two parts, by a test
abbrev pub chosen_by : Option Value → Option Value → Option Value → Option Value
chosen_by (Some (Truth true)) a b = a
chosen_by (Some (Truth false)) a b = b
chosen_by _ a b = None

-- functions of one argument
abbrev pub called_with_one : Option Function → Value → Option Value
called_with_one (Some function.Size) (Set s) = Some (Number (pos (length s)))
called_with_one (Some function.Size) (Map m) = Some (Number (pos (length (keys m))))
called_with_one (Some function.Sum) (Map m) = Some (Number (sum_of m))
called_with_one _ _ = None

-- functions of a collection and a scalar
abbrev pub with_scalar : Function → Value → Scalar → Option Value
with_scalar function.Has (Set s) k = Some (Truth (contains s k))
with_scalar function.Has (Map m) k = Some (Truth (contains (keys m) k))
with_scalar function.Add (Set s) k = Some (Set (added s k))
with_scalar function.Remove (Set s) k = Some (Set (removed s k))
with_scalar function.Drop (Map m) k = Some (Map (dropped m k))
with_scalar _ _ k = None

abbrev pub called_with_two : Option Function → Value → Option Value → Option Value
called_with_two (Some function.Union) (Set s) (Some (Set t)) = Some (Set (united s t))
called_with_two (Some f) a (Some b) = option_and_then (λ k. with_scalar f a k) (scalar_of b)
called_with_two _ a _ = None

-- functions of a map, a key and a value
abbrev pub with_scalars : Function → Value → Option Scalar → Option Scalar → Option Value
with_scalars function.Put (Map m) (Some k) (Some v) = Some (Map (put_in m k v))
with_scalars function.Get (Map m) (Some k) (Some v) = Some (single (value_for_key m k v))
with_scalars _ _ _ _ = None

abbrev pub called_with_three : Option Function → Value → Option Value → Option Value → Option Value
called_with_three (Some f) a (Some b) (Some c) = with_scalars f a (scalar_of b) (scalar_of c)
called_with_three _ a _ _ = None

abbrev pub called : Option Function → Value → List (Option Value) → Option Value
called f a [] = called_with_one f a
called f a (b ∷ []) = called_with_two f a b
called f a (b ∷ c ∷ []) = called_with_three f a b c
called f a (b ∷ c ∷ d ∷ more) = None

-- a call by its first argument, if that has a value
abbrev pub called_on : Option Function → Option Value → List (Option Value) → Option Value
called_on f (Some a) more = called f a more
called_on f None more = None

unfoldable mutual
  pub value_of : Bindings → Expression → Option Value
  value_of env (e.Number at n) = Some (Number n)
  value_of env (e.Literal at text) = Some (Text (text_of text))
  value_of env (e.Truth at b) = Some (Truth b)
  value_of env (e.Nothing at) = Some Nothing
  value_of env (e.Reading at name) = value_in env name.word
  value_of env (e.Calling at name args) = call_value env name.word args
  value_of env (e.Choosing at test a b) = chosen_by (value_of env test) (value_of env a) (value_of env b)
  value_of env (e.Combining at o a b) = combined o (value_of env a) (value_of env b)
  value_of env (e.Denying at a) = denied (value_of env a)
  value_of env (e.Negating at a) = negative_of (value_of env a)

  pub call_value : Bindings → List ℕ → Operands → Option Value
  call_value env f NoMore = None
  call_value env f (More a more) = called_on (function_named f) (value_of env a) (values_of env more)

  pub values_of : Bindings → Operands → List (Option Value)
  values_of env NoMore = []
  values_of env (More a more) = value_of env a ∷ values_of env more
