use Rattle.std.proofs.lemmas.Result.{err_from_is_err_and}
use Rattle.std.proofs.Common.{◌&&◌, not, Bool, get_or, take, ap, sym, ◌∙◌, arith}
use Rattle.ql_base.specs.IdLists.{has_id}
use Rattle.ql_ranges.specs.Ranges.{ids_of}
use Rattle.ql_holder.proofs.Members.{has_id-take}
use Rattle.ql_holder.proofs.Missing.{missing-more}
use Rattle.ql_replica.proofs.walking.all_outside.Goals as goal

pub loop-id-preserved : goal.loop-id-preserved
loop-id-preserved c =
    let ids = c.args.ids.now in
    let k = c.loop-id.id-index in
    record {
      ascending = c.insert_outside.ensures.ascending;
      lacks = λ a.
          missing-more c.loop-id.rest c.insert_outside.new.rest (ids_of c.args.set.now) (has_id (take k ids) a) (get_or ids k 0) a (c.loop-id.invariant.lacks a) (c.in_ok-insert_outside.ensures.added a)
          ∙ ap (λ (b : Bool). b && not (has_id (ids_of c.args.set.now) a)) (sym (has_id-take ids k a (omega arith)));
    }

pub returns-in_err-insert_outside-clause-ascending : goal.returns-in_err-insert_outside-clause-ascending
returns-in_err-insert_outside-clause-ascending c = let p = err_from_is_err_and c.from_residual.result c.from_residual.ensures.1 in rw p.1 tt

pub returns-in_err-insert_outside-clause-lacks : goal.returns-in_err-insert_outside-clause-lacks
returns-in_err-insert_outside-clause-lacks c = let p = err_from_is_err_and c.from_residual.result c.from_residual.ensures.1 in rw p.1 tt
