use Rattle.std.proofs.Common.{◌≡◌, ◌+◌, length, subst, sym, ap, ◌∙◌}
use Rattle.std.proofs.Math.ListN.{replicate}
use Rattle.std.proofs.lemmas.List.{length-replicate}
use Rattle.ql_refute.specs.Marks.{IsClear}
use Rattle.ql_sat.proofs.Searching.{clear_zeros}
use Rattle.ql_sat.proofs.trail.Trail.new.Goals as goal

pub returns : goal.returns
returns c =
    let zeros : c.in_ok-vec.field-0.items ≡ replicate (c.args.variables + 1) 0 = c.in_ok-vec.ensures.items_if_clones_equal (λ y e. e) in
    record {
      empty = c.new.ensures.items;
      clear = subst IsClear (sym zeros) (clear_zeros (c.args.variables + 1));
      len = ap length zeros ∙ length-replicate (c.args.variables + 1) 0;
    }
