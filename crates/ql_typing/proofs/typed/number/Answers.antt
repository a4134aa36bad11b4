use Rattle.std.proofs.Common.{◌≡◌, [], arith, length, map, ap, ◌∙◌}
use Rattle.std.proofs.lemmas.Grind.{merely}
use Rattle.std.proofs.lemmas.List.{length-map}
use Rattle.ql_typing.specs.Faults.{names_met}
use Rattle.ql_typing.specs.Programs.{op_names}
use Rattle.ql_typing.specs.Operations.{all_ops, op_contract, op_words, txn_contract}
use Rattle.ql_typing.proofs.FaultFree.{few_ops, known_words, txns_typed, types_typed}
use Rattle.ql_typing.proofs.typed.number.Goals as goal

pub number_ops-requires : goal.number_ops-requires
number_ops-requires c =
    rw c.items.ensures (omega (arith, few_ops c.args.program c.requires, ap length (known_words c.args.program c.requires), length-map (all_ops c.args.program.types) (λ o. o.name.word)))

pub resolve_all-requires-clause-ops : goal.resolve_all-requires-clause-ops
resolve_all-requires-clause-ops c = rw (c.in_ok-ops.ensures, c.items.ensures, known_words c.args.program c.requires) (types_typed c.args.program c.requires)

pub resolve_all-requires-clause-txns : goal.resolve_all-requires-clause-txns
resolve_all-requires-clause-txns c = rw (c.in_ok-ops.ensures, c.items.ensures, known_words c.args.program c.requires) (txns_typed c.args.program c.requires)

pub invariant_of-result : goal.invariant_of-result
invariant_of-result c =
    let named : c.in_ok-ops.ops ≡ op_words c.args.program.types =
    c.in_ok-ops.ensures ∙ ap (λ ts. names_met [] (op_names ts)) c.items.ensures ∙ known_words c.args.program c.requires in
    record {
      well_typed = merely c.requires;
      named = named;
      of_ops = merely (c.in_ok-formulas.ensures.of_ops ∙ ap (λ ws. map (op_contract ws) (all_ops c.args.program.types)) named);
      of_txns = merely (c.in_ok-formulas.ensures.of_txns ∙ ap (λ ws. map (txn_contract ws) c.args.program.txns) named);
    }
