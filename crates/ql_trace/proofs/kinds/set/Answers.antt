use Rattle.std.proofs.Common.{sym, ◌∙◌, ap, arith, map}
use Rattle.std.proofs.lemmas.List.{length-map}
use Rattle.std.specs.Option.{option_map}
use Rattle.serde_json.specs.View.{view}
use Rattle.ql_trace.specs.Kinds.{as_scalar}
use Rattle.ql_trace.proofs.Each.{each-length}
use Rattle.ql_trace.proofs.kinds.set.Goals as goal

pub set_of-requires : goal.set_of-requires
set_of-requires c =
    let as_many = each-length (as_scalar c.args.base) (map view c.in-Some.items.now) c.in-Some-2.elements.items (sym c.in_ok-elements.ensures ∙ ap (option_map (λ v. v.items)) c.in-Some-2.is) in
    record { few = omega (arith, as_many, length-map c.in-Some.items.now view, c.in-Some.ensures.few) }
