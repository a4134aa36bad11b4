use Rattle.std.proofs.Common.{◌++◌, ◌∙◌, ap, codes, option_map}
use Rattle.std.proofs.lemmas.Result.{on_ok_weaker}
use Rattle.ql_lang.specs.Trees.{sentence_of}
use Rattle.ql_lang.specs.Expressions.{expression_of}
use Rattle.ql_lang.specs.Programs.{emission_of}
use Rattle.ql_lang.specs.Spelling.{contract_text}
use Rattle.ql_lang.specs.ExpressionSpelling.{expression_text}
use Rattle.ql_lang.specs.ProgramSpelling.{effect_text}
use Rattle.ql_lang.proofs.Appending.{behind}
use Rattle.ql_lang.proofs.print_programs.push_body.Goals as goal

pub returns : goal.returns
returns c =
    let op = c.args.op.now in
    let old = c.args.out.now.items in
    let word = codes "    contract " in
    let contract = word ++ contract_text (sentence_of op.contract) in
    let asked = contract ++ codes ";\n    answer " in
    let answered = asked ++ expression_text (expression_of op.answer) in
    let first = behind old contract (codes ";\n    answer ") (behind old word (contract_text (sentence_of op.contract)) c.in_ok-push_bytes.ensures.ok c.in_ok-push_contract.ensures) c.in_ok-push_bytes-2.ensures.ok in
    let second = behind old answered (codes ";\n") (behind old asked (expression_text (expression_of op.answer)) first c.in_ok-push_expression.ensures) c.in_ok-push_bytes-3.ensures.ok in
    on_ok_weaker c.push_effect.result
    (λ last. behind old (answered ++ codes ";\n") (effect_text (option_map emission_of op.effect)) second (last ∙ ap (λ o. c.push_bytes-3.new.out.items ++ effect_text (option_map emission_of o)) c.as_ref.ensures.value))
    c.push_effect.ensures
