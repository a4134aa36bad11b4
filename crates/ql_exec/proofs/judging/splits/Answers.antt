use Rattle.std.proofs.Common.{sym, ap, ◌∙◌}
use Rattle.std.specs.Option.{option_copied}
use Rattle.ql_exec.specs.Effects.{one, in_run}
use Rattle.ql_exec.proofs.Law.{splits-own, splits-other}
use Rattle.ql_exec.proofs.judging.splits.Goals as goal

pub returns-then-is_in : goal.returns-then-is_in
returns-then-is_in c =
    let is = sym c.requires.session ∙ ap option_copied c.in-Some.is in
    rw (c.in-Inside.is, c.is_under_name.ensures)
    (splits-own c.args.effects.now c.args.session c.in-Inside.run' c.in-Inside.name c.in-Some.last.now c.requires.execution is (sym c.is_in.ensures ∙ c.if-is_in.true))

pub returns-else-is_in : goal.returns-else-is_in
returns-else-is_in c =
    let is = sym c.requires.session ∙ ap option_copied c.in-Some.is in
    rw (c.in-Inside.is, c.has_begun.ensures)
    (splits-other c.args.effects.now c.args.session c.in-Inside.run' c.in-Inside.name
    (ap (one (λ e. in_run c.in-Inside.run'.0 e.member)) is ∙ sym c.is_in.ensures ∙ c.if-is_in.false))

pub returns-in-None : goal.returns-in-None
returns-in-None c =
    let is = sym c.requires.session ∙ ap option_copied c.in-None.is in
    rw (c.in-Inside.is, c.has_begun-in-None.ensures)
    (splits-other c.args.effects.now c.args.session c.in-Inside.run' c.in-Inside.name
    (ap (one (λ e. in_run c.in-Inside.run'.0 e.member)) is))
