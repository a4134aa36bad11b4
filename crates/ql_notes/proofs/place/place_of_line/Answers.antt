use Rattle.std.proofs.Common.{◌==◌, ap, arith}
use Rattle.ql_notes.proofs.Scans.{IsPassedOver, blank_feed, blank_other, other_byte, scan_feed, scan_other}
use Rattle.ql_notes.proofs.place.place_of_line.Goals as goal
use Rattle.ql_notes.proofs.place.place_of_line.Goals.{then-text-k-eq10, else-text-k-eq10, else-line-number-via-then-line-number+else-text-k-ne32, else-line-number-via-else-line-number}

-- src/place.rt:34:5
passed : (c : goal.Joined-text-k-eq10) → IsPassedOver c.args.text.now c.args.number c.loop-k.k c.loop-k.line
passed c = elim c.else-line-number.branch [
  | else-line-number-via-then-line-number+else-text-k-ne32 w ↦ λ is. w.if-text-k-ne32.false
  | else-line-number-via-else-line-number w ↦ λ is. absurd (w.if-line-number.false is)
]

pub loop-k-preserved : goal.loop-k-preserved
loop-k-preserved c =
    elim c.if-text-k-eq10.branch [
      | then-text-k-eq10 w ↦ rw (w.line-is, w.start-is) (
        scan_feed _ _ _ _ c.loop-k-test.true (ap (λ b. b == 10) w.if-text-k-eq10.true) c.loop-k.invariant.0,
        omega (arith, c.loop-k.invariant.1),
        blank_feed _ _ _ _ _ c.loop-k.invariant.0 (passed c) c.loop-k.invariant.2,
      )
      | else-text-k-eq10 w ↦ rw (w.line-is, w.start-is) (
        scan_other _ _ _ _ c.loop-k-test.true (other_byte _ w.if-text-k-eq10.false) c.loop-k.invariant.0,
        omega (arith, c.loop-k.invariant.1),
        blank_other _ _ _ _ _ c.loop-k.invariant.0 (passed c) c.loop-k.invariant.2,
      )
    ]
