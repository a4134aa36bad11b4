use Rattle.std.proofs.Common.{◌≡◌, ◌≤◌, ◌<◌, Bool, true, false, if◌then◌else◌, suc, List, Some, length, slice_get, take, arith, add-one, refl, subst, ap, ◌∙◌}
use Rattle.std.proofs.lemmas.List.{length-take-le, take_all}
use Rattle.std.proofs.lemmas.Option.{slice_get_read}
use Rattle.ql_machine.specs.declared.event.Event.{Event}
use Rattle.ql_machine.specs.Runs.{replicas_after, replicas_at_end}
use Rattle.ql_schedule.proofs.Joins.{behind-most, count-taken}
use Rattle.ql_schedule.proofs.schedule.Schedule.last_replicas.Goals as goal
use Rattle.ql_schedule.proofs.schedule.Schedule.last_replicas.Goals.{then-is_join, else-is_join}

pub overflow_add-replicas : goal.overflow_add-replicas
overflow_add-replicas c =
    let events = c.args.self.now.events in
    let k = c.loop-event.event-index in
    let inside : k < length events = subst (λ (items : List Event). k < length items) c.items-event-items.ensures c.loop-event-test.true in
    let most = behind-most c.args.self.now.replicas (take k events) in
    let within : k ≤ length events = omega (arith, inside) in
    let taken = length-take-le k events within in
    let is = c.loop-event.invariant in
    let room = c.requires in
    omega (arith, inside, most, taken, is, room)

pub loop-event-preserved : goal.loop-event-preserved
loop-event-preserved c =
    let events = c.args.self.now.events in
    let k = c.loop-event.event-index in
    let at : slice_get events k ≡ Some c.event-item.result =
    subst (λ (items : List Event). slice_get items k ≡ Some c.event-item.result) c.items-event-items.ensures (slice_get_read c.items-event-items.result.now _ k c.event-item.result refl c.loop-event-test.true c.event-item.is) in
    let after = c.is_join.ensures in
    rw add-one (elim c.if-is_join.branch [
      | then-is_join w ↦
          count-taken c.args.self.now.replicas events k c.event-item.result c.loop-event.replicas c.if-is_join.replicas true at
          (λ m. subst (λ (b : Bool). replicas_after m c.event-item.result ≡ (if b then suc m else m)) w.if-is_join.true (after m)) c.loop-event.invariant (let is = w.replicas-is in omega (arith, is))
      | else-is_join w ↦
          count-taken c.args.self.now.replicas events k c.event-item.result c.loop-event.replicas c.if-is_join.replicas false at
          (λ m. subst (λ (b : Bool). replicas_after m c.event-item.result ≡ (if b then suc m else m)) w.if-is_join.false (after m)) c.loop-event.invariant w.replicas-is
    ])

pub returns : goal.returns
returns c =
    let events = c.args.self.now.events in
    let all : length events ≤ c.loop-event.event-index = subst (λ (items : List Event). length items ≤ c.loop-event.event-index) c.items-event-items.ensures (omega arith) in
    c.loop-event.invariant ∙ ap (λ (es : List Event). replicas_at_end c.args.self.now.replicas es) (take_all c.loop-event.event-index events all)
