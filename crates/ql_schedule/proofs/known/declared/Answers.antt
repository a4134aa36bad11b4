use Rattle.std.proofs.lemmas.Result.{err_from_is_err_and}
use Rattle.std.proofs.Common.{◌∙◌, List, ℕ, ap, sym}
use Rattle.std.specs.Prelude.{is_none}
use Rattle.std.specs.List.{list_any}
use Rattle.std.proofs.lemmas.List.{drop_all}
use Rattle.ql_base.specs.Numbering.{place}
use Rattle.ql_schedule.specs.Makings.{declared_from}
use Rattle.ql_schedule.proofs.known.declared.Goals as goal

pub returns : goal.returns
unfolding declared_from
returns c =
    let names = c.args.so_far.now.objects in
    let none = drop_all c.loop-name.name-index c.args.names.now c.loop-name-test.false in (
      c.loop-name.invariant.1 ∙ ap (list_any (λ (w : List ℕ). is_none (place names w))) none,
      sym (c.loop-name.invariant.0 ∙ ap (declared_from names c.loop-name.ids) none),
    )

pub returns-in_err-insert : goal.returns-in_err-insert
returns-in_err-insert c = let p = err_from_is_err_and c.from_residual.result c.from_residual.ensures.1 in rw p.1 tt
