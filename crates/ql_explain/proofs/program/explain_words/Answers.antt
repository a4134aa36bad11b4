use Rattle.ql_explain.specs.Outcomes.{SaysInquiry}
use Rattle.ql_explain.specs.Words.{inquiry}
use Rattle.ql_reply.specs.Arguments.{word_texts}
use Rattle.ql_explain.proofs.Report.{never}
use Rattle.ql_reply.proofs.Replies.{wrote}
use Rattle.ql_explain.proofs.program.explain_words.Goals as goal

pub returns-clause-wrote : goal.returns-clause-wrote
returns-clause-wrote g c =
    let held = g.S.Shelf.held c.args.shelf.now in
    let before = g.S.Shelf.faults c.args.shelf.now in
    let after = g.S.Shelf.faults c.outcome.new.shelf in
    let words = word_texts c.args.words.now in
    let text = c.in_ok-answered.answered.reply.text.items in
    wrote (SaysInquiry words held before after) (g.K.Sink.written c.args.sink.now) (g.K.Sink.written c.write_reply-status.new.sink) (g.K.Sink.faults c.args.sink.now) (g.K.Sink.faults c.write_reply-status.new.sink)
    c.in_ok-answered.answered.reply.status c.write_reply-status.result text (never held before after (inquiry words) text) c.in_ok-answered.ensures.says (rw c.deref.ensures.value at c.write_reply-status.ensures.written)
