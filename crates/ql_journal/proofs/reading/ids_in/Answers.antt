use Rattle.std.proofs.Common.{◌<◌, arith}
use Rattle.ql_journal.proofs.Numbers.{last_id}
use Rattle.ql_journal.proofs.ReadingLaws.{stuck, grown, are_grown, last_grown, read}
use Rattle.ql_journal.proofs.reading.ids_in.Goals as goal

pub returns-then-id-last : goal.returns-then-id-last
returns-then-id-last c =
    let i = c.loop-rest.invariant in
    stuck c.args.bytes.now c.loop-rest.ids c.loop-rest.rest.now c.split_at.result.0.now c.split_at.result.1.now c.number_of-id.result
    i.split i.are_ids c.split_at.ensures.front c.split_at.ensures.back c.number_of-id.ensures c.number_of-id.type_inv
    (omega (arith, i.last, c.if-id-last.true))

pub loop-rest-preserved : goal.loop-rest-preserved
loop-rest-preserved c =
    let i = c.loop-rest.invariant in
    let more : last_id 0 c.loop-rest.ids < c.number_of-id.result = omega (arith, i.last, c.if-id-last.false) in
    let after = c.in_ok-insert.ensures.added in
    record {
      split = rw after (grown c.args.bytes.now c.loop-rest.ids c.loop-rest.rest.now c.split_at.result.0.now c.split_at.result.1.now c.number_of-id.result
          i.split i.are_ids c.split_at.ensures.front c.split_at.ensures.back c.number_of-id.ensures c.number_of-id.type_inv more);
      are_ids = rw after (are_grown c.args.bytes.now c.loop-rest.ids c.loop-rest.rest.now c.split_at.result.0.now c.split_at.result.1.now c.number_of-id.result
          i.split i.are_ids c.split_at.ensures.front c.split_at.ensures.back c.number_of-id.ensures c.number_of-id.type_inv more);
      last = rw after (last_grown c.args.bytes.now c.loop-rest.ids c.loop-rest.rest.now c.split_at.result.0.now c.split_at.result.1.now c.number_of-id.result
          i.split i.are_ids c.split_at.ensures.front c.split_at.ensures.back c.number_of-id.ensures c.number_of-id.type_inv more);
    }

pub returns : goal.returns
returns c =
    let i = c.loop-rest.invariant in
    (i.are_ids, read c.args.bytes.now c.loop-rest.ids c.loop-rest.rest.now c.requires.0 i.split c.requires.1 c.loop-rest-test.false)
