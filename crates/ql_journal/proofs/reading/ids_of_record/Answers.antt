use Rattle.std.proofs.lemmas.Bool.{iff_false}
use Rattle.ql_journal.proofs.ReadingLaws.{fits, found}
use Rattle.ql_journal.proofs.reading.ids_of_record.Goals as goal

pub returns-then-not-is_whole : goal.returns-then-not-is_whole
returns-then-not-is_whole c = λ ids more lawful same.
    iff_false c.is_whole.ensures c.if-not-is_whole.true (fits c.args.bytes.now c.split_at.result.0.now c.split_at.result.1.now c.number_of-count.result
    c.split_at.ensures.front c.split_at.ensures.back c.number_of-count.ensures c.number_of-count.type_inv ids more lawful same)

pub returns : goal.returns
returns c =
    let sized = c.is_whole.ensures.0 c.if-not-is_whole.false in
    found c.args.bytes.now c.split_at.result.0.now c.split_at.result.1.now c.number_of-count.result
    c.split_at.ensures.front c.split_at.ensures.back c.number_of-count.ensures c.number_of-count.type_inv sized.0 sized.1 sized.2 c.ids_in.result c.ids_in.ensures
