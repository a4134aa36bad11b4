use Rattle.std.proofs.Common.{◌∙◌, ap, sym, subst}
use Rattle.ql_base.specs.IdLists.{IsAscending}
use Rattle.ql_machine.specs.Sets.{AreThose}
use Rattle.ql_exec.specs.Effects.{effect_at}
use Rattle.ql_exec.specs.Execution.{IsOn}
use Rattle.ql_session.specs.Notes.{effects_on}
use Rattle.ql_session.proofs.NoteLaws.{on-those}
use Rattle.ql_session.proofs.PastLaws.{least-same, on-there}
use Rattle.ql_session.proofs.sessions.Sessions.least_missing_wide.Goals as goal

pub first_missing-requires : goal.first_missing-requires
first_missing-requires c =
    subst IsAscending (sym (c.on.ensures ∙ ap (λ n. effects_on n c.args.o) c.requires)) (on-those c.args.x.now c.args.o).ascending

pub returns : goal.returns
returns c =
    let on = subst (AreThose (λ a. IsOn c.args.o (effect_at c.args.x.now a))) (sym (c.on.ensures ∙ ap (λ n. effects_on n c.args.o) c.requires)) (on-those c.args.x.now c.args.o) in
    least-same c.first_missing.result
    (λ a is. let place = on-there c.args.x.now c.args.o a (on.only a is.0) in (on.only a is.0, (c.in_ok-past.ensures a place.0 place.1).0 is.1, is.2))
    (λ a is. let place = on-there c.args.x.now c.args.o a is.0 in (on.all a is.0, (c.in_ok-past.ensures a place.0 place.1).1 is.1, is.2))
    c.first_missing.ensures
