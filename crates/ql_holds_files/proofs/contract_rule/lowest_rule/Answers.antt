use Rattle.ql_lang.specs.Trees.{sentence_of}
use Rattle.ql_holds_files.proofs.ContractRules.{lowest_bound, lowest_unknown}
use Rattle.ql_holds_files.proofs.contract_rule.lowest_rule.Goals as goal

pub returns-then-is_open : goal.returns-then-is_open
returns-then-is_open c =
    lowest_unknown (sentence_of c.args.contract.now) c.requires c.items.result.now c.items.ensures c.in_ok-met.met.names c.in_ok-met.ensures.names
    c.is_open.result c.is_open.ensures c.if-is_open.true

pub returns : goal.returns
returns c =
    lowest_bound (sentence_of c.args.contract.now) c.requires c.items.result.now c.items.ensures c.in_ok-met.met.names c.in_ok-met.ensures.names
    c.is_open.result c.is_open.ensures c.if-is_open.false c.in_ok-met.met.twice c.in_ok-met.ensures.twice c.rule_of_bound.result c.rule_of_bound.ensures
