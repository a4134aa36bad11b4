use Rattle.ql_draw.specs.Outcomes.{SaysPicture}
use Rattle.ql_draw.specs.Words.{picture_asked}
use Rattle.ql_reply.specs.Arguments.{word_texts}
use Rattle.ql_draw.proofs.Writing.{never}
use Rattle.ql_reply.proofs.Replies.{wrote}
use Rattle.ql_draw.proofs.program.draw.Goals as goal

pub returns-clause-wrote : goal.returns-clause-wrote
returns-clause-wrote g c =
    let held = g.S.Shelf.held c.args.shelf.now in
    let before = g.S.Shelf.faults c.args.shelf.now in
    let after = g.S.Shelf.faults c.outcome.new.shelf in
    let words = word_texts c.args.words.now in
    let text = c.in_ok-reply.reply.text.items in
    wrote (SaysPicture words held before after) (g.K.Sink.written c.args.sink.now) (g.K.Sink.written c.write_reply.new.sink) (g.K.Sink.faults c.args.sink.now) (g.K.Sink.faults c.write_reply.new.sink)
    c.in_ok-reply.reply.status c.write_reply.result text (never held before after (picture_asked words) text) c.in_ok-reply.ensures.says (rw c.deref.ensures.value at c.write_reply.ensures.written)
