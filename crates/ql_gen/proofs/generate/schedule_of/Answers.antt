use Rattle.std.proofs.lemmas.Result.{err_from_is_err_and}
use Rattle.ql_schedule.proofs.Named.{named_of}
use Rattle.ql_gen.proofs.Lawful.{made_schedule}
use Rattle.ql_gen.proofs.generate.schedule_of.Goals as goal

pub returns-clause-guarantees : goal.returns-clause-guarantees
returns-clause-guarantees c =
    made_schedule c.args.t.now.program c.args.number c.args.events c.types-types.result c.in_ok-object_names.field-0 c.in_ok-object_kinds.field-0 c.in_ok-draw_events.field-0
    c.types-types.ensures.count c.types-types.ensures.few c.requires.few c.in_ok-object_names.ensures c.in_ok-object_kinds.ensures c.in_ok-draw_events.ensures

pub returns-clause-named : goal.returns-clause-named
returns-clause-named c =
    named_of c.args.t.now.program (record { version = 1; replicas = 3; objects = c.in_ok-object_names.field-0; kinds = c.in_ok-object_kinds.field-0; events = c.in_ok-draw_events.field-0 })
    (made_schedule c.args.t.now.program c.args.number c.args.events c.types-types.result c.in_ok-object_names.field-0 c.in_ok-object_kinds.field-0 c.in_ok-draw_events.field-0
    c.types-types.ensures.count c.types-types.ensures.few c.requires.few c.in_ok-object_names.ensures c.in_ok-object_kinds.ensures c.in_ok-draw_events.ensures)

pub returns-in_err-draw_events-clause-guarantees : goal.returns-in_err-draw_events-clause-guarantees
returns-in_err-draw_events-clause-guarantees c = let p = err_from_is_err_and c.from_residual-in_err-draw_events.result c.from_residual-in_err-draw_events.ensures.1 in rw p.1 tt

pub returns-in_err-draw_events-clause-named : goal.returns-in_err-draw_events-clause-named
returns-in_err-draw_events-clause-named c = let p = err_from_is_err_and c.from_residual-in_err-draw_events.result c.from_residual-in_err-draw_events.ensures.1 in rw p.1 tt

pub returns-in_err-draw_events-clause-stated : goal.returns-in_err-draw_events-clause-stated
returns-in_err-draw_events-clause-stated c = let p = err_from_is_err_and c.from_residual-in_err-draw_events.result c.from_residual-in_err-draw_events.ensures.1 in rw p.1 tt

pub returns-in_err-object_kinds-clause-guarantees : goal.returns-in_err-object_kinds-clause-guarantees
returns-in_err-object_kinds-clause-guarantees c = let p = err_from_is_err_and c.from_residual-in_err-object_kinds.result c.from_residual-in_err-object_kinds.ensures.1 in rw p.1 tt

pub returns-in_err-object_kinds-clause-named : goal.returns-in_err-object_kinds-clause-named
returns-in_err-object_kinds-clause-named c = let p = err_from_is_err_and c.from_residual-in_err-object_kinds.result c.from_residual-in_err-object_kinds.ensures.1 in rw p.1 tt

pub returns-in_err-object_kinds-clause-stated : goal.returns-in_err-object_kinds-clause-stated
returns-in_err-object_kinds-clause-stated c = let p = err_from_is_err_and c.from_residual-in_err-object_kinds.result c.from_residual-in_err-object_kinds.ensures.1 in rw p.1 tt

pub returns-in_err-object_names-clause-guarantees : goal.returns-in_err-object_names-clause-guarantees
returns-in_err-object_names-clause-guarantees c = let p = err_from_is_err_and c.from_residual.result c.from_residual.ensures.1 in rw p.1 tt

pub returns-in_err-object_names-clause-named : goal.returns-in_err-object_names-clause-named
returns-in_err-object_names-clause-named c = let p = err_from_is_err_and c.from_residual.result c.from_residual.ensures.1 in rw p.1 tt

pub returns-in_err-object_names-clause-stated : goal.returns-in_err-object_names-clause-stated
returns-in_err-object_names-clause-stated c = let p = err_from_is_err_and c.from_residual.result c.from_residual.ensures.1 in rw p.1 tt
