use Rattle.std.proofs.lemmas.Result.{err_from_is_err_and}
use Rattle.std.proofs.Common.{◌++◌, ap, subst, ◌∙◌}
use Rattle.std.specs.List.{AllByRecursion}
use Rattle.std.proofs.lemmas.Bool.{false≢true}
use Rattle.ql_base.specs.Names.{IsName}
use Rattle.ql_lines.specs.Fields.{Fields}
use Rattle.ql_schedule.specs.Parts.{parts_of}
use Rattle.ql_schedule.proofs.Loops.{name_there}
use Rattle.ql_schedule.proofs.event_parts.names.Goals as goal

pub returns-then-not-is_name : goal.returns-then-not-is_name
returns-then-not-is_name c =
    let h = c.loop-part.invariant in
    let words = c.loop-part.words.items in
    let are = h.0 ∙ ap (λ (ps : Fields). words ++ ps) c.in-Some.ensures.first in
    λ all. false≢true (c.if-not-is_name.ensures.1 (name_there words c.in-Some.part.now (parts_of c.in-Some.remaining.now) (subst (AllByRecursion IsName) are all)))

pub returns-in_err-push : goal.returns-in_err-push
returns-in_err-push c = let p = err_from_is_err_and c.from_residual.result c.from_residual.ensures.1 in rw p.1 tt
