-- the items and members of JSON values as lists
use Rattle.std.proofs.Common.{◌≡◌, List, [], ◌∷◌, map, refl, ap}
use Rattle.std.specs.String.{string_bytes}
use Rattle.std.specs.Prelude.{String}
use Rattle.std.specs.declared.alloc.Global.{Global}
use Rattle.serde_json.specs.Data.{Data}
use Rattle.serde_json.specs.View.{items_of, members_view, view}
use Rattle.serde_json.specs.declared.value.Value.{Value}
use Rattle.ql_trace.specs.Json.{items_in, members_in}

pub items-back : (ds : List Data) → items_in (items_of ds) ≡ ds
items-back [] = refl
items-back (d ∷ ds) = ap (λ es. d ∷ es) (items-back ds)

pub members-back : (ms : List (String Global × Value)) → members_in (members_view ms) ≡ map (λ m. (string_bytes m.0, view m.1)) ms
members-back [] = refl
members-back (m ∷ ms) = ap (λ rest. (string_bytes m.0, view m.1) ∷ rest) (members-back ms)
