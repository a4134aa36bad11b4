use Rattle.std.proofs.Common.{◌++◌, ◌∷◌, [], List, ℕ, Option, map, ap, sym, ◌∙◌}
use Rattle.std.specs.Option.{option_map_or}
use Rattle.ql_lang.specs.declared.operation.OpDecl.{OpDecl}
use Rattle.ql_lines.specs.Fields.{Fields}
use Rattle.ql_lines.specs.Texts.{spaced_fields}
use Rattle.ql_typing.specs.Names.{op_name}
use Rattle.ql_value.specs.Spelling.{value_text}
use Rattle.ql_schedule.specs.Texts.{name_at}
use Rattle.ql_schedule.proofs.Printing.{on_ok, two_more}
use Rattle.ql_schedule.proofs.print.push_call.Goals as goal

pub returns : goal.returns
returns c =
    let out = c.args.out.now.items in
    let name = name_at c.args.objects.now c.args.object.0 in
    let op = op_name c.args.t.now.program c.args.op.0 in
    let vs : Fields = map value_text c.args.args.now in
    let named = c.bytes.ensures.same ∙ sym (ap (λ (o : Option (List ℕ)). option_map_or (λ w. w) o []) c.name.ensures) in
    let op_named = c.bytes-2.ensures.same ∙ sym (ap (λ (o : Option OpDecl). option_map_or (λ d. d.name.word) o []) c.op.ensures) in
    let first = c.in_ok-push_field.ensures ∙ ap (λ f. out ++ 32 ∷ f) named in
    let second = c.in_ok-push_field-2.ensures ∙ ap (λ f. c.push_field.new.out.items ++ 32 ∷ f) op_named ∙ ap (λ r. r ++ 32 ∷ op) first in
    on_ok c.push_values.result (λ e. e ∙ ap (λ r. r ++ spaced_fields vs) second ∙ two_more out name op vs) c.push_values.ensures
