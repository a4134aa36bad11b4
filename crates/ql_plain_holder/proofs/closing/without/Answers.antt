use Rattle.std.proofs.Common.{◌&&◌, not, Bool, get_or, take, ap, sym, ◌∙◌, arith}
use Rattle.ql_base.specs.IdLists.{has_id}
use Rattle.ql_holder.proofs.Members.{has_id-take}
use Rattle.ql_holder.proofs.Missing.{missing-more}
use Rattle.ql_plain_holder.proofs.closing.without.Goals as goal

pub loop-id-preserved : goal.loop-id-preserved
loop-id-preserved c =
    let ids = c.args.ids.now in
    let k = c.loop-id.id-index in
    record {
      ascending = c.insert_missing.ensures.ascending;
      lacks = λ a.
          missing-more c.loop-id.rest c.insert_missing.new.rest c.args.others.now (has_id (take k ids) a) (get_or ids k 0) a (c.loop-id.invariant.lacks a) (c.in_ok-insert_missing.ensures.added a)
          ∙ ap (λ (b : Bool). b && not (has_id c.args.others.now a)) (sym (has_id-take ids k a (omega arith)));
    }
