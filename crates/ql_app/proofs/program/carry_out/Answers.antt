use Rattle.std.proofs.lemmas.Result.{err_from_is_err_and}
use Rattle.std.proofs.Common.{◌≡◌, ℕ, List, Ok, subst, sym}
use Rattle.ql_reply.specs.Lines.{reported_line}
use Rattle.ql_reply.specs.declared.status.Status.{Status}
use Rattle.ql_reply.specs.declared.status.Status.TheVariants.{Bad}
use Rattle.ql_reply.specs.Arguments.{word_texts}
use Rattle.ql_reply.proofs.Replies.{ended_so, weaker, wrote}
use Rattle.ql_app.specs.declared.outcome.Limits.{Limits}
use Rattle.ql_app.specs.MissingFiles.{ReportsMissing}
use Rattle.ql_app.specs.Outcome.{IsAnswered, Says}
use Rattle.ql_app.proofs.Answered.{complete, never, says_held}
use Rattle.ql_app.proofs.program.carry_out.Goals as goal

pub returns-clause-wrote : goal.returns-clause-wrote
returns-clause-wrote g c =
    let limits : Limits = record { file = 1048576; second = 67108864 } in
    let held = g.S.Shelf.held c.args.shelf.now in
    let before = g.S.Shelf.faults c.args.shelf.now in
    let after = g.S.Shelf.faults c.outcome.new.shelf in
    let words = word_texts c.args.words.now in
    let text = c.in_ok-answered.answered.reply.text.items in
    wrote (Says limits words held before after) (g.K.Sink.written c.args.sink.now) (g.K.Sink.written c.write_reply-status.new.sink) (g.K.Sink.faults c.args.sink.now) (g.K.Sink.faults c.write_reply-status.new.sink)
    c.in_ok-answered.answered.reply.status c.write_reply-status.result text (never limits words held before after text) c.in_ok-answered.ensures.says (rw c.deref.ensures.value at c.write_reply-status.ensures.written)

pub returns-clause-lacking : goal.returns-clause-lacking
returns-clause-lacking g c = λ named request.
    let limits : Limits = record { file = 1048576; second = 67108864 } in
    let held = g.S.Shelf.held c.args.shelf.now in
    let before = g.S.Shelf.faults c.args.shelf.now in
    let after = g.S.Shelf.faults c.outcome.new.shelf in
    let words = word_texts c.args.words.now in
    let text = c.in_ok-answered.answered.reply.text.items in
    let Both : Status → List ℕ → Type 0 = λ status line. Says limits words held before after status line × ReportsMissing (g.S.Shelf.lacks c.args.shelf.now) named status line in
    weaker Both (ReportsMissing (g.S.Shelf.lacks c.args.shelf.now) named) (g.K.Sink.written c.args.sink.now) (g.K.Sink.written c.write_reply-status.new.sink) (g.K.Sink.faults c.args.sink.now) (g.K.Sink.faults c.write_reply-status.new.sink)
    c.write_reply-status.result (λ status line both. both.1)
    (wrote Both (g.K.Sink.written c.args.sink.now) (g.K.Sink.written c.write_reply-status.new.sink) (g.K.Sink.faults c.args.sink.now) (g.K.Sink.faults c.write_reply-status.new.sink)
    c.in_ok-answered.answered.reply.status c.write_reply-status.result text (λ both. never limits words held before after text both.0)
    (c.in_ok-answered.ensures.says, c.in_ok-answered.ensures.lacking named request) (rw c.deref.ensures.value at c.write_reply-status.ensures.written))

pub returns-clause-complete : goal.returns-clause-complete
returns-clause-complete g c =
    λ named request are_held none sink_none.
    let limits : Limits = record { file = 1048576; second = 67108864 } in
    let held = g.S.Shelf.held c.args.shelf.now in
    let before = g.S.Shelf.faults c.args.shelf.now in
    let after = g.S.Shelf.faults c.outcome.new.shelf in
    let words = word_texts c.args.words.now in
    let status = c.in_ok-answered.answered.reply.status in
    let text = c.in_ok-answered.answered.reply.text.items in
    let same =
    ended_so status c.write_reply-status.result c.deref.result.now (g.K.Sink.written c.args.sink.now) (g.K.Sink.written c.write_reply-status.new.sink) (g.K.Sink.faults c.args.sink.now) (g.K.Sink.faults c.write_reply-status.new.sink)
    c.write_reply-status.ensures.written sink_none in
    subst (λ s. IsAnswered (Ok s)) (sym same)
    (complete limits words held before after status text named request are_held none (says_held limits words held before after status text c.in_ok-answered.ensures.says))

pub returns-clause-noted : goal.returns-clause-noted
returns-clause-noted g c = λ fault is.
    let Reports : Status → List ℕ → Type 0 = λ status text. (status ≡ Bad) × (text ≡ reported_line fault) in
    wrote Reports (g.K.Sink.written c.args.sink.now) (g.K.Sink.written c.write_reply-status.new.sink) (g.K.Sink.faults c.args.sink.now) (g.K.Sink.faults c.write_reply-status.new.sink)
    c.in_ok-answered.answered.reply.status c.write_reply-status.result c.in_ok-answered.answered.reply.text.items (λ both. let same = both.0 in absurd (cc))
    (c.in_ok-answered.answered.reply.noted fault is) (rw c.deref.ensures.value at c.write_reply-status.ensures.written)

pub returns-in_err-answered-clause-noted : goal.returns-in_err-answered-clause-noted
returns-in_err-answered-clause-noted g c = let p = err_from_is_err_and c.from_residual.result c.from_residual.ensures.1 in rw p.1 tt

pub returns-in_err-answered-clause-wrote : goal.returns-in_err-answered-clause-wrote
returns-in_err-answered-clause-wrote g c = let p = err_from_is_err_and c.from_residual.result c.from_residual.ensures.1 in rw p.1 tt
