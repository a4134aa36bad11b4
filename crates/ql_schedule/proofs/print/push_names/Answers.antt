use Rattle.std.proofs.lemmas.Result.{err_from_is_err_and}
use Rattle.std.proofs.Common.{◌++◌, ◌∷◌, [], List, ℕ, Option, get_or, ap, sym, ◌∙◌}
use Rattle.std.specs.Option.{option_map_or}
use Rattle.ql_schedule.specs.Texts.{name_at}
use Rattle.ql_schedule.proofs.Printing.{nothing_behind, one_more_behind}
use Rattle.ql_schedule.proofs.print.push_names.Goals as goal

pub loop-id-init : goal.loop-id-init
loop-id-init c = nothing_behind c.args.out.now.items

pub loop-id-preserved : goal.loop-id-preserved
loop-id-preserved c =
    let i = c.loop-id.id-index in
    let named = ap (λ (o : Option (List ℕ)). option_map_or (λ w. w) o []) c.name.ensures in
    c.in_ok-push_field.ensures ∙ ap (λ f. c.loop-id.out.items ++ 32 ∷ f) (c.bytes.ensures.same ∙ sym named)
    ∙ ap (λ r. r ++ 32 ∷ name_at c.args.names.now (get_or c.args.ids.now i 0)) c.loop-id.invariant
    ∙ one_more_behind (name_at c.args.names.now) c.args.ids.now i 0 c.args.out.now.items c.loop-id-test.true

pub returns-in_err-push_field : goal.returns-in_err-push_field
returns-in_err-push_field c = let p = err_from_is_err_and c.from_residual.result c.from_residual.ensures.1 in rw p.1 tt
