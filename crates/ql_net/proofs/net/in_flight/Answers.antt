use Rattle.std.proofs.Common.{◌≡◌, ◌<◌, ◌-◌, get_or, length, ℕ, ap, sym, ltb-true, arith, ◌∙◌}
use Rattle.ql_machine.specs.declared.message.Message.{Message}
use Rattle.ql_net.proofs.SentLaws.{kept-message, message-kept}
use Rattle.ql_net.proofs.net.in_flight.Goals as goal

pub returns-then-message-eq0 : goal.returns-then-message-eq0
returns-then-message-eq0 c = λ message at.
    let all = c.args.messages.now in
    let sent = c.in_ok-message.message.now in
    let index : c.in_ok-at.at ≡ c.args.m.0 - 1 = c.in_ok-at.ensures.1 in
    ap (λ (m : Message). m.copies) (message-kept all c.args.m.0 message sent at (c.in_ok-message.ensures.lookup.1 ∙ ap (λ (k : ℕ). get_or all k sent) index)) ∙ c.if-message-eq0.true

pub returns : goal.returns
returns c =
    let all = c.args.messages.now in
    let sent = c.in_ok-message.message.now in
    let index : c.in_ok-at.at ≡ c.args.m.0 - 1 = c.in_ok-at.ensures.1 in
    let inside : c.in_ok-at.at < length all = ltb-true c.in_ok-at.at (length all) (sym c.in_ok-message.ensures.lookup.0) in
    let some = c.if-message-eq0.false in (
      kept-message all c.args.m.0 sent c.in_ok-at.ensures.0 (omega (arith, inside, index)) (c.in_ok-message.ensures.lookup.1 ∙ ap (λ (k : ℕ). get_or all k sent) index),
      omega (arith, some),
    )
