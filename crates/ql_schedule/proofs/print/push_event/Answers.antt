use Rattle.std.proofs.lemmas.Result.{err_from_is_err_and}
use Rattle.std.proofs.Common.{◌++◌, ◌∷◌, List, ℕ, codes, map, decimal, ap, sym, ◌∙◌}
use Rattle.ql_lines.specs.Fields.{Fields}
use Rattle.ql_lines.specs.Texts.{spaced_fields, joined}
use Rattle.ql_machine.specs.declared.event.Event.{Event}
use Rattle.ql_typing.specs.Names.{op_name, txn_name}
use Rattle.ql_value.specs.declared.value.Value.{Value}
use Rattle.ql_value.specs.Spelling.{value_text}
use Rattle.ql_schedule.specs.Texts.{caller_fields, event_fields, name_at}
use Rattle.ql_schedule.proofs.Printing.{more_fields, on_ok, partition_pieces}
use Rattle.ql_schedule.proofs.print.push_event.Goals as goal

pub returns-in_ok-push_caller-in-Call : goal.returns-in_ok-push_caller-in-Call
returns-in_ok-push_caller-in-Call c =
    let p = c.args.t.now.program in
    let objects = c.args.objects.now in
    let out = c.args.out.now.items in
    let fs = caller_fields c.in-Call.session.0 c.in-Call.replica.0 in
    let name = name_at objects c.in-Call.object.0 in
    let op = op_name p c.in-Call.op.0 in
    let vs : Fields = map value_text c.in-Call.args in
    let whole = ap (λ r. r ++ spaced_fields (name ∷ op ∷ vs)) c.in_ok-push_caller-in-Call.ensures ∙ more_fields out (codes "call") fs (name ∷ op ∷ vs) in
    let event = ap (λ (e : Event). out ++ joined (event_fields p objects e)) (sym c.in-Call.is) in
    on_ok c.push_call.result (λ e. e ∙ ap (λ (xs : List Value). c.push_caller.new.out.items ++ spaced_fields (name ∷ op ∷ map value_text xs)) c.items.ensures ∙ whole ∙ event) c.push_call.ensures

pub returns-in_ok-push_caller-in-Begin : goal.returns-in_ok-push_caller-in-Begin
returns-in_ok-push_caller-in-Begin c =
    let p = c.args.t.now.program in
    let objects = c.args.objects.now in
    let out = c.args.out.now.items in
    let fs = caller_fields c.in-Begin.session.0 c.in-Begin.replica.0 in
    let txn = txn_name p c.in-Begin.decl.0 in
    let vs : Fields = map (name_at objects) c.in-Begin.ids in
    let whole = ap (λ r. r ++ spaced_fields (txn ∷ vs)) c.in_ok-push_caller-in-Begin.ensures ∙ more_fields out (codes "begin") fs (txn ∷ vs) in
    let event = ap (λ (e : Event). out ++ joined (event_fields p objects e)) (sym c.in-Begin.is) in
    on_ok c.push_txn.result (λ e. e ∙ ap (λ (xs : List ℕ). c.push_caller-in-Begin.new.out.items ++ spaced_fields (txn ∷ map (name_at objects) xs)) c.items-in-Begin.ensures.same ∙ whole ∙ event) c.push_txn.ensures

pub returns-in_ok-push_bytes-in-Partition : goal.returns-in_ok-push_bytes-in-Partition
returns-in_ok-push_bytes-in-Partition c =
    let p = c.args.t.now.program in
    let objects = c.args.objects.now in
    let out = c.args.out.now.items in
    let vs : Fields = map decimal c.in-Partition.groups in
    let whole = ap (λ r. r ++ spaced_fields vs) c.in_ok-push_bytes-in-Partition.ensures.ok ∙ partition_pieces out (codes "partition") vs in
    let event = ap (λ (e : Event). out ++ joined (event_fields p objects e)) (sym c.in-Partition.is) in
    on_ok c.push_numbers.result (λ e. e ∙ ap (λ (xs : List ℕ). c.push_bytes.new.out.items ++ spaced_fields (map decimal xs)) c.items-in-Partition.ensures ∙ whole ∙ event) c.push_numbers.ensures

pub returns-in_err-push_bytes-in-Partition : goal.returns-in_err-push_bytes-in-Partition
returns-in_err-push_bytes-in-Partition c = let p = err_from_is_err_and c.from_residual-in_err-push_bytes-in-Partition.result c.from_residual-in_err-push_bytes-in-Partition.ensures.1 in rw p.1 tt

pub returns-in_err-push_caller-in-Begin : goal.returns-in_err-push_caller-in-Begin
returns-in_err-push_caller-in-Begin c = let p = err_from_is_err_and c.from_residual-in_err-push_caller-in-Begin.result c.from_residual-in_err-push_caller-in-Begin.ensures.1 in rw p.1 tt

pub returns-in_err-push_caller-in-Call : goal.returns-in_err-push_caller-in-Call
returns-in_err-push_caller-in-Call c = let p = err_from_is_err_and c.from_residual.result c.from_residual.ensures.1 in rw p.1 tt
