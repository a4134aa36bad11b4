use Rattle.std.proofs.Common.{◌+◌, ◌∙◌, ap, arith}
use Rattle.ql_sat.proofs.Naming.{no_lines}
use Rattle.ql_sat.proofs.Searching.{searching_start}
use Rattle.ql_sat.proofs.state.Search.new.Goals as goal

pub returns : goal.returns
returns c = record {
  sound = rw (c.new.ensures.items, c.in_ok-new.ensures.empty) (searching_start c.args.c.now c.in_ok-new.field-0.marks.items c.in_ok-new.ensures.clear (c.in_ok-new.ensures.len ∙ ap (λ n. n + 1) c.variables.ensures) c.in_ok-new-3.ensures.few (omega (arith, c.variables.ensures, c.variables.type_inv)));
  watched = rw (c.new.ensures.items, c.in_ok-new.ensures.empty, no_lines c.args.c.now) c.in_ok-new-3.ensures.watched;
  seen = c.in_ok-new-2.ensures ∙ ap (λ n. n + 1) c.variables-2.ensures;
}
