use Rattle.std.proofs.Common.{ℕ, List, ap, subst, sym, ◌∙◌}
use Rattle.ql_exec.specs.Effects.{effect_at}
use Rattle.ql_exec.specs.Execution.{IsOn}
use Rattle.ql_machine.specs.Sets.{AreThose}
use Rattle.ql_session.specs.declared.note.Note.{Note}
use Rattle.ql_session.specs.Notes.{effects_on}
use Rattle.ql_store.proofs.NoteSets.{on-those}
use Rattle.ql_store.proofs.view.plain_view.Goals as goal

pub returns-clause-ids : goal.returns-clause-ids
returns-clause-ids g c = λ fits.
    let x = c.args.x.now in
    let found = c.in_ok-ids.ensures x fits in
    let on : AreThose (λ a. IsOn c.args.object (effect_at x a)) c.on.result.now =
    subst (AreThose (λ (a : ℕ). IsOn c.args.object (effect_at x a))) (sym (c.on.ensures ∙ ap (λ (notes : List Note). effects_on notes c.args.object) c.requires)) (on-those x c.args.object) in
    record {
      ascending = found.ascending;
      all = λ a is. found.all a (on.all a is.0, is.1);
      only = λ a has. (let is = found.only a has in (on.only a is.0, is.1));
    }
