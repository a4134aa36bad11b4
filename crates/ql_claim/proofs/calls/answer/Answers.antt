use Rattle.ql_app.specs.declared.outcome.Limits.{Limits}
use Rattle.ql_reply.specs.declared.status.Status.{Status}
use Rattle.ql_app.specs.Outcome.{Says}
use Rattle.ql_reply.specs.Arguments.{word_texts}
use Rattle.ql_claim.specs.Headline.{Headline}
use Rattle.ql_claim.specs.Soundness.{Soundness}
use Rattle.ql_claim.proofs.Claims.{claim-of}
use Rattle.ql_claim.proofs.SoundClaims.{of-call}
use Rattle.ql_claim.proofs.calls.answer.Goals as goal

pub returns : goal.returns
returns g c =
    let limits : Limits = record { file = 1048576; second = 67108864 } in
    let words = word_texts c.args.words.now in
    let held = g.S.Shelf.held c.args.shelf.now in
    let before = g.S.Shelf.faults c.args.shelf.now in
    let after = g.S.Shelf.faults c.quelea.new.shelf in
    let was = g.K.Sink.written c.args.sink.now in
    let is = g.K.Sink.written c.quelea.new.sink in
    let faults = g.K.Sink.faults c.args.sink.now in
    let sums = g.K.Sink.faults c.quelea.new.sink in
    record {
      headline = claim-of (Says limits words held before after) was is faults sums (Headline words held was is) c.quelea.result c.quelea.ensures.wrote
          (c.headline.ensures limits words held before after was is faults sums);
      sound = of-call (Says limits words held before after) was is faults sums (λ (status : Status). Soundness status words held was is) c.quelea.result c.quelea.ensures.wrote
          (λ status. c.soundness.ensures status limits words held before after was is faults sums);
    }
