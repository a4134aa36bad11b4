use Rattle.std.specs.Prelude.{ℕ, Bool, true, false, ◌&&◌, nat_eq, List, [], ◌∷◌, ◌++◌, Option, None, Some, if◌then◌else◌}
use Rattle.std.specs.Str.{bytes_eq}
use Rattle.ql_lang.specs.declared.name.Name.{Name}
use Rattle.ql_lang.specs.declared.operation.Base.{Base}
use Rattle.ql_lang.specs.declared.operation.Base.TheVariants as base
use Rattle.ql_lang.specs.declared.operation.Kind.{Kind}
use Rattle.ql_lang.specs.declared.operation.Kind.TheVariants as kind
use Rattle.ql_lang.specs.declared.expression.BinOp.{BinOp}
use Rattle.ql_lang.specs.declared.expression.BinOp.TheVariants as op
use Rattle.ql_lang.specs.Expressions.{Expression, Number, Literal, Truth, Nothing, Reading, Calling, Choosing, Combining, Denying, Negating, Operands, NoMore, More}
use Rattle.ql_typing.specs.declared.fault.TypeFault.{TypeFault}
use Rattle.ql_typing.specs.declared.fault.TypeFault.TheVariants as fault
use Rattle.ql_typing.specs.declared.function.Function.{Function}
use Rattle.ql_typing.specs.declared.function.Signature.{Signature}
use Rattle.ql_typing.specs.declared.scope.Known.{Known}
use Rattle.ql_typing.specs.Faults.{unless}
use Rattle.ql_typing.specs.Functions.{arity_of, function_named, signature_of}

-- the kind of a name in scope: that of its first declaration
unfoldable pub kind_in : List Known → List ℕ → Option Kind
kind_in [] w = None
kind_in (k ∷ ks) w = if bytes_eq k.word w then Some k.kind else kind_in ks w

abbrev pub same_base : Base → Base → Bool
same_base base.Int base.Int = true
same_base base.Bool base.Bool = true
same_base base.Text base.Text = true
same_base _ _ = false

abbrev pub same_kind : Kind → Kind → Bool
same_kind kind.Unit kind.Unit = true
same_kind kind.Int kind.Int = true
same_kind kind.Bool kind.Bool = true
same_kind kind.Text kind.Text = true
same_kind (kind.Set b) (kind.Set c) = same_base b c
same_kind (kind.Map b c) (kind.Map d e) = same_base b d && same_base c e
same_kind _ _ = false

abbrev pub is_base : Kind → Bool
is_base kind.Int = true
is_base kind.Bool = true
is_base kind.Text = true
is_base _ = false

-- whether there is a kind and it is the expected one
abbrev pub meets : Option Kind → Option Kind → Bool
meets (Some wanted) (Some k) = same_kind k wanted
meets _ _ = false

-- another kind than expected, if both are known, at a source offset
abbrev pub mismatch : Option Kind → ℕ → Option Kind → List TypeFault
mismatch (Some wanted) at (Some k) = unless (same_kind k wanted) (fault.Kind at)
mismatch _ at _ = []

-- a base kind alone
abbrev pub base_only : Option Kind → Option Kind
base_only (Some k) = if is_base k then Some k else None
base_only None = None

-- the kind expected of both operands, by that of the left one
abbrev pub operand_of : BinOp → Option Kind → Option Kind
operand_of op.Or k = Some kind.Bool
operand_of op.And k = Some kind.Bool
operand_of op.Eq k = base_only k
operand_of op.Ne k = base_only k
operand_of _ k = Some kind.Int

-- what is wrong with the left operand's kind: equality is of base kinds
abbrev pub left_faults : BinOp → ℕ → Option Kind → List TypeFault
left_faults op.Eq at (Some k) = unless (is_base k) (fault.Kind at)
left_faults op.Ne at (Some k) = unless (is_base k) (fault.Kind at)
left_faults o at k = mismatch (operand_of o k) at k

-- the kind of an operator's result
abbrev pub gives_of : BinOp → Kind
gives_of op.Add = kind.Int
gives_of op.Sub = kind.Int
gives_of op.Mul = kind.Int
gives_of _ = kind.Bool

abbrev pub combined_kind : BinOp → Option Kind → Option Kind → Option Kind
combined_kind o a b = if meets (operand_of o a) a && meets (operand_of o a) b then Some (gives_of o) else None

-- an operand of one kind yields that kind
abbrev pub kept_kind : Kind → Option Kind → Option Kind
kept_kind wanted k = if meets (Some wanted) k then Some wanted else None

-- both parts of a choice have one kind, and its test is a truth value
abbrev pub chosen_kind : Option Kind → Option Kind → Option Kind → Option Kind
chosen_kind test a b = if meets (Some kind.Bool) test && meets a b then a else None

-- the signature of a function with a number of arguments, by the kind of its first
abbrev pub signature_at : Option Function → ℕ → Option Kind → Option Signature
signature_at (Some f) n (Some k) = if nat_eq (arity_of f) n then signature_of f k else None
signature_at _ n _ = None

abbrev pub second_of : Option Signature → Option Kind
second_of (Some s) = s.second
second_of None = None

abbrev pub third_of : Option Signature → Option Kind
third_of (Some s) = s.third
third_of None = None

abbrev pub result_of : Option Signature → Option Kind
result_of (Some s) = Some s.gives
result_of None = None

abbrev pub kind_where : Bool → Option Kind → Option Kind
kind_where b k = if b then k else None

-- a first argument whose kind doesn't fit
abbrev pub unfit : ℕ → Option Signature → List TypeFault
unfit at (Some s) = []
unfit at None = fault.Kind at ∷ []

-- what is wrong with a call by its name, its count of arguments and the first of them
abbrev pub head_faults : ℕ → Name → Option Function → ℕ → ℕ → Option Kind → List TypeFault
head_faults at name None n first k = fault.Unknown name.at ∷ []
head_faults at name (Some f) n first None = unless (nat_eq (arity_of f) n) (fault.Kind at)
head_faults at name (Some f) n first (Some k) = if nat_eq (arity_of f) n then unfit first (signature_of f k) else fault.Kind at ∷ []

-- no function takes that many arguments
abbrev pub count_faults : ℕ → Name → Option Function → List TypeFault
count_faults at name None = fault.Unknown name.at ∷ []
count_faults at name (Some f) = fault.Kind at ∷ []

-- an expression's source offset
abbrev pub begins_at : Expression → ℕ
begins_at (Number at n) = at
begins_at (Literal at text) = at
begins_at (Truth at b) = at
begins_at (Nothing at) = at
begins_at (Reading at name) = at
begins_at (Calling at name args) = at
begins_at (Choosing at test a b) = at
begins_at (Combining at o a b) = at
begins_at (Denying at a) = at
begins_at (Negating at a) = at

-- an expression's kind, if it and its parts have the expected kinds
unfoldable pub kind_of : List Known → Expression → Option Kind
kind_of scope (Number at n) = Some kind.Int
kind_of scope (Literal at text) = Some kind.Text
kind_of scope (Truth at b) = Some kind.Bool
kind_of scope (Nothing at) = Some kind.Unit
kind_of scope (Reading at name) = kind_in scope name.word
kind_of scope (Calling at name NoMore) = None
kind_of scope (Calling at name (More a NoMore)) = result_of (signature_at (function_named name.word) 1 (kind_of scope a))
kind_of scope (Calling at name (More a (More b NoMore))) =
    let s = signature_at (function_named name.word) 2 (kind_of scope a) in
    kind_where (meets (second_of s) (kind_of scope b)) (result_of s)
kind_of scope (Calling at name (More a (More b (More c NoMore)))) =
    let s = signature_at (function_named name.word) 3 (kind_of scope a) in
    kind_where (meets (second_of s) (kind_of scope b) && meets (third_of s) (kind_of scope c)) (result_of s)
kind_of scope (Calling at name (More a (More b (More c (More d rest))))) = None
kind_of scope (Choosing at test a b) = chosen_kind (kind_of scope test) (kind_of scope a) (kind_of scope b)
kind_of scope (Combining at o a b) = combined_kind o (kind_of scope a) (kind_of scope b)
kind_of scope (Denying at a) = kept_kind kind.Bool (kind_of scope a)
kind_of scope (Negating at a) = kept_kind kind.Int (kind_of scope a)

-- what is wrong with an expression's kind, if one is expected
abbrev pub other_kind : List Known → Option Kind → Expression → List TypeFault
other_kind scope wanted e = mismatch wanted (begins_at e) (kind_of scope e)

-- what is wrong with a call, its arguments themselves aside
unfoldable pub call_faults : List Known → ℕ → Name → Operands → List TypeFault
call_faults scope at name NoMore = count_faults at name (function_named name.word)
call_faults scope at name (More a NoMore) =
    head_faults at name (function_named name.word) 1 (begins_at a) (kind_of scope a)
call_faults scope at name (More a (More b NoMore)) =
    head_faults at name (function_named name.word) 2 (begins_at a) (kind_of scope a)
    ++ other_kind scope (second_of (signature_at (function_named name.word) 2 (kind_of scope a))) b
call_faults scope at name (More a (More b (More c NoMore))) =
    head_faults at name (function_named name.word) 3 (begins_at a) (kind_of scope a)
    ++ (other_kind scope (second_of (signature_at (function_named name.word) 3 (kind_of scope a))) b
    ++ other_kind scope (third_of (signature_at (function_named name.word) 3 (kind_of scope a))) c)
call_faults scope at name (More a (More b (More c (More d rest)))) = count_faults at name (function_named name.word)

-- a name that isn't in scope
abbrev pub reading_faults : Option Kind → ℕ → List TypeFault
reading_faults (Some k) at = []
reading_faults None at = fault.Unknown at ∷ []

unfoldable mutual
  -- what is wrong in an expression
  pub faults_of : List Known → Expression → List TypeFault
  faults_of scope (Number at n) = []
  faults_of scope (Literal at text) = []
  faults_of scope (Truth at b) = []
  faults_of scope (Nothing at) = []
  faults_of scope (Reading at name) = reading_faults (kind_in scope name.word) name.at
  faults_of scope (Calling at name args) = operand_faults scope args ++ call_faults scope at name args
  faults_of scope (Choosing at test a b) =
      (faults_of scope test ++ other_kind scope (Some kind.Bool) test)
      ++ (faults_of scope a ++ (faults_of scope b ++ other_kind scope (kind_of scope a) b))
  faults_of scope (Combining at o a b) =
      (faults_of scope a ++ left_faults o (begins_at a) (kind_of scope a))
      ++ (faults_of scope b ++ other_kind scope (operand_of o (kind_of scope a)) b)
  faults_of scope (Denying at a) = faults_of scope a ++ other_kind scope (Some kind.Bool) a
  faults_of scope (Negating at a) = faults_of scope a ++ other_kind scope (Some kind.Int) a

  pub operand_faults : List Known → Operands → List TypeFault
  operand_faults scope NoMore = []
  operand_faults scope (More e es) = faults_of scope e ++ operand_faults scope es

-- what is wrong in an expression of which a kind is expected
abbrev pub faults_as : List Known → Option Kind → Expression → List TypeFault
faults_as scope wanted e = faults_of scope e ++ other_kind scope wanted e
