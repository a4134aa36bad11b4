use Rattle.std.proofs.Common.{◌≡◌, ◌++◌, ◌∙◌, ap, codes}
use Rattle.std.proofs.lemmas.Result.{on_ok_weaker}
use Rattle.ql_lang.specs.Trees.{sentence_of}
use Rattle.ql_lang.specs.Spelling.{contract_text}
use Rattle.ql_lang.specs.ProgramSpelling.{uses_text}
use Rattle.ql_lang.proofs.Appending.{behind}
use Rattle.ql_lang.proofs.print_programs.push_transaction.Goals as goal

pub returns : goal.returns
returns c =
    let txn = c.args.txn.now in
    let old = c.args.out.now.items in
    let word = codes "transaction " in
    let opened = word ++ txn.name.word ++ codes " {\n" in
    let uses = opened ++ uses_text txn.uses in
    let said = uses ++ codes "  contract " in
    let first : c.push_all.new.out.items ≡ old ++ opened = c.in_ok-push_all.ensures ∙ ap (λ w. old ++ (word ++ w ++ codes " {\n")) c.bytes.ensures.same in
    let used = behind old opened (uses_text txn.uses) first (c.in_ok-push_uses.ensures ∙ ap (λ ns. c.push_all.new.out.items ++ uses_text ns) c.items.ensures) in
    let contract = behind old said (contract_text (sentence_of txn.contract)) (behind old uses (codes "  contract ") used c.in_ok-push_bytes.ensures.ok) c.in_ok-push_contract.ensures in
    on_ok_weaker c.push_bytes-2.result (λ last. behind old (said ++ contract_text (sentence_of txn.contract)) (codes ";\n}\n") contract last) c.push_bytes-2.ensures.ok
