use Rattle.std.specs.Prelude.{◌≡◌, ℕ, List}
use Rattle.std.specs.Str.{bytes_eq}
use Rattle.indexmap.specs.IndexMap.{IndexMap, get}
use Rattle.ql_lang.specs.declared.operation.Kind.{Kind}
use Rattle.ql_typing.specs.declared.scope.Known.{Known}
use Rattle.ql_typing.specs.Kinds.{kind_in}

-- the map has each name's kind in scope
abbrev pub FindsKinds : {S : Type 0} → IndexMap (List ℕ) Kind S → List Known → Type 0
FindsKinds kinds known = (w : List ℕ) → get bytes_eq kinds w ≡ kind_in known w
