use Rattle.std.proofs.Common.{◌≡◌, List, [], ◌∷◌, ◌∙◌, ap, refl, rules, tests, ◌||◌}
use Rattle.std.specs.List.{list_any}
use Rattle.std.specs.Ordering.{is_eq}
use Rattle.std.proofs.lemmas.Iterator.{YieldsList-from_slice}
use Rattle.std.proofs.lemmas.Iterator.Search.{any_from_yields_List}
use Rattle.ql_value.specs.declared.scalar.Scalar.{Scalar}
use Rattle.ql_value.specs.Order.{scalar_cmp}
use Rattle.ql_value.specs.Collections.{keys, contains}
use Rattle.ql_value.proofs.contents.has.Goals as goal

-- a key is sought among the entries
among_keys : (m : List (Scalar × Scalar)) (k : Scalar) → list_any (λ entry. is_eq (scalar_cmp entry.0 k)) m ≡ contains (keys m) k
among_keys [] k = refl
among_keys (entry ∷ m) k = ap (λ b. is_eq (scalar_cmp entry.0 k) || b) (among_keys m k)

pub returns-in-Map : goal.returns-in-Map
returns-in-Map c =
    let f = any_from_yields_List (λ entry. is_eq (scalar_cmp entry.0 c.args.key.now)) _ _ c.any-in-Map.result c.any-in-Map.ensures.ran (YieldsList-from_slice _ c.iter-in-Map.ensures.rest) (λ x b q k. search (rules, tests)) in
    let g = rw c.items-in-Map.ensures.same at f in
    rw c.in-Map.is (g ∙ among_keys c.in-Map.map c.args.key.now)
