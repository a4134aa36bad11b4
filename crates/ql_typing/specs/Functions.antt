use Rattle.std.specs.Prelude.{ℕ, List, Option, Some, None, if◌then◌else◌, codes}
use Rattle.std.specs.Str.{bytes_eq}
use Rattle.ql_lang.specs.declared.operation.Base.{Base}
use Rattle.ql_lang.specs.declared.operation.Base.TheVariants as base
use Rattle.ql_lang.specs.declared.operation.Kind.{Kind}
use Rattle.ql_lang.specs.declared.operation.Kind.TheVariants as kind
use Rattle.ql_typing.specs.declared.function.Function.{Function}
use Rattle.ql_typing.specs.declared.function.Function.TheVariants.{Has, Size, Add, Remove, Union, Put, Drop, Get, Sum}
use Rattle.ql_typing.specs.declared.function.Signature.{Signature}

-- a base kind as a kind
abbrev pub of_base : Base → Kind
of_base base.Int = kind.Int
of_base base.Bool = kind.Bool
of_base base.Text = kind.Text

-- the function with a name
abbrev pub function_named : List ℕ → Option Function
function_named w =
    if bytes_eq w (codes "has") then Some Has
    else if bytes_eq w (codes "size") then Some Size
    else if bytes_eq w (codes "add") then Some Add
    else if bytes_eq w (codes "remove") then Some Remove
    else if bytes_eq w (codes "union") then Some Union
    else if bytes_eq w (codes "put") then Some Put
    else if bytes_eq w (codes "drop") then Some Drop
    else if bytes_eq w (codes "get") then Some Get
    else if bytes_eq w (codes "sum") then Some Sum
    else None

-- how many arguments a function takes
abbrev pub arity_of : Function → ℕ
arity_of Has = 2
arity_of Size = 1
arity_of Add = 2
arity_of Remove = 2
arity_of Union = 2
arity_of Put = 3
arity_of Drop = 2
arity_of Get = 3
arity_of Sum = 1

-- the kinds that a function expects after its first argument, and the kind of its result
abbrev pub takes : Option Kind → Option Kind → Kind → Option Signature
takes second third gives = Some (record { second = second; third = third; gives = gives })

-- a function's signature by its first argument's kind, if that fits
abbrev pub signature_of : Function → Kind → Option Signature
signature_of Has (kind.Set b) = takes (Some (of_base b)) None kind.Bool
signature_of Has (kind.Map b c) = takes (Some (of_base b)) None kind.Bool
signature_of Size (kind.Set b) = takes None None kind.Int
signature_of Size (kind.Map b c) = takes None None kind.Int
signature_of Add (kind.Set b) = takes (Some (of_base b)) None (kind.Set b)
signature_of Remove (kind.Set b) = takes (Some (of_base b)) None (kind.Set b)
signature_of Union (kind.Set b) = takes (Some (kind.Set b)) None (kind.Set b)
signature_of Put (kind.Map b c) = takes (Some (of_base b)) (Some (of_base c)) (kind.Map b c)
signature_of Drop (kind.Map b c) = takes (Some (of_base b)) None (kind.Map b c)
signature_of Get (kind.Map b c) = takes (Some (of_base b)) (Some (of_base c)) (of_base c)
signature_of Sum (kind.Map b base.Int) = takes None None kind.Int
signature_of _ _ = None
