use Rattle.std.proofs.Common.{subst}
use Rattle.ql_app.specs.declared.outcome.Limits.{Limits}
use Rattle.ql_app.specs.Outcome.{Says}
use Rattle.ql_reply.specs.Wrote.{Wrote}
use Rattle.ql_reply.specs.Arguments.{word_texts}
use Rattle.ql_claim.proofs.KeptClaims.{kept-upheld}
use Rattle.ql_claim.proofs.calls.classify_and_verify.Goals as goal

pub returns : goal.returns
returns g c =
    let limits : Limits = record { file = 1048576; second = 67108864 } in
    let words = word_texts c.args.words.now in
    let held = g.S.Shelf.held c.args.shelf.now in
    let before = g.S.Shelf.faults c.args.shelf.now in
    let after = g.S.Shelf.faults c.quelea.new.shelf in
    let was = g.K.Sink.written c.args.sink.now in
    let is = g.K.Sink.written c.quelea.new.sink in
    let faults = g.K.Sink.faults c.args.sink.now in
    let sums = g.K.Sink.faults c.quelea.new.sink in
    record {
      upheld = λ turn nothing done.
          (kept-upheld c.one_program_answer.ensures.tree c.reported_executions_fit.ensures.lawful c.reported_executions_fit.ensures.fits
          limits words held before after was is faults sums
          (subst (Wrote (Says limits words held before after) was is faults sums) done c.in_ok-classified.ensures.wrote)
          (word_texts c.args.next.now) (g.T.Shelf.held c.args.next_shelf.now) turn
          (g.T.Shelf.faults c.args.next_shelf.now) (g.T.Shelf.faults c.quelea-2.new.shelf) (g.L.Sink.written c.args.next_sink.now) (g.L.Sink.written c.quelea-2.new.sink)
          (g.L.Sink.faults c.args.next_sink.now) (g.L.Sink.faults c.quelea-2.new.sink)
          c.in_ok-verified.verified turn.within nothing c.in_ok-verified.ensures.wrote);
    }
