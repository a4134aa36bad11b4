use Rattle.std.proofs.Common.{◌++◌, ◌∷◌, [], Option, map, ap, sym, ◌∙◌}
use Rattle.std.specs.Option.{option_map_or}
use Rattle.ql_lang.specs.declared.program.TxnDecl.{TxnDecl}
use Rattle.ql_lines.specs.Fields.{Fields}
use Rattle.ql_lines.specs.Texts.{spaced_fields}
use Rattle.ql_typing.specs.Names.{txn_name}
use Rattle.ql_schedule.specs.Texts.{name_at}
use Rattle.ql_schedule.proofs.Printing.{on_ok, one_more}
use Rattle.ql_schedule.proofs.print.push_txn.Goals as goal

pub returns : goal.returns
returns c =
    let out = c.args.out.now.items in
    let txn = txn_name c.args.t.now.program c.args.decl.0 in
    let vs : Fields = map (name_at c.args.objects.now) c.args.ids.now in
    let named = c.bytes.ensures.same ∙ sym (ap (λ (o : Option TxnDecl). option_map_or (λ d. d.name.word) o []) c.txn.ensures) in
    let first = c.in_ok-push_field.ensures ∙ ap (λ f. out ++ 32 ∷ f) named in
    on_ok c.push_names.result (λ e. e ∙ ap (λ r. r ++ spaced_fields vs) first ∙ one_more out txn vs) c.push_names.ensures
