-- A summary of a run without joins counts each reply in one of its lines.
use Rattle.std.proofs.Common.{◌≡◌, ℕ, ◌+◌, List, ◌∷◌, length, codes, refl, arith}
use Rattle.std.specs.List.{AllByRecursion}
use Rattle.std.specs.Str.{bytes_eq}
use Rattle.ql_machine.specs.declared.event.Event.{Event}
use Rattle.ql_machine.specs.declared.reply.Reply.{Reply}
use Rattle.ql_machine.specs.declared.reply.Reply.TheVariants as reply
use Rattle.ql_machine.specs.Calls.{IsCall, undeclared, unused, unavailable, held, blocked, makes, makes_strong, makes_own}
use Rattle.ql_machine.specs.Deliveries.{IsDelivery, gone, cut, again, waits, applies}
use Rattle.ql_machine.specs.Rules.{Call, Rules}
use Rattle.ql_machine.specs.Runs.{Leads, stop, step}
use Rattle.ql_machine.specs.State.{Machine}
use Rattle.ql_machine.specs.Steps.{IsStep, calls, already_open, begins, none_open, commits, delivers, none_to_repeat, repeats, none_to_lose, loses, absent, resends, splits, heals, joins_copy, joins_bare}
use Rattle.ql_schedule.specs.Guarantees.{IsOfVersion}
use Rattle.ql_generated.specs.Summaries.{count, counted, reply_word}
use Rattle.ql_generated.proofs.Counting.{one_if}

-- a reply to another event than a join
abbrev IsPlain : Reply → Type 0
IsPlain (reply.Joined r) = ⊥
IsPlain _ = Unit {0}

-- in how many lines a reply is counted
abbrev lines_of : Reply → ℕ
lines_of r =
    one_if (bytes_eq (reply_word r) (codes "ok")) + one_if (bytes_eq (reply_word r) (codes "begun"))
    + one_if (bytes_eq (reply_word r) (codes "committed")) + one_if (bytes_eq (reply_word r) (codes "blocked"))
    + one_if (bytes_eq (reply_word r) (codes "unavailable")) + one_if (bytes_eq (reply_word r) (codes "held"))
    + one_if (bytes_eq (reply_word r) (codes "cut")) + one_if (bytes_eq (reply_word r) (codes "gone"))
    + one_if (bytes_eq (reply_word r) (codes "again")) + one_if (bytes_eq (reply_word r) (codes "waits"))
    + one_if (bytes_eq (reply_word r) (codes "applies")) + one_if (bytes_eq (reply_word r) (codes "lost"))
    + one_if (bytes_eq (reply_word r) (codes "split")) + one_if (bytes_eq (reply_word r) (codes "healed"))
    + one_if (bytes_eq (reply_word r) (codes "sent")) + one_if (bytes_eq (reply_word r) (codes "refused"))

one_line : (r : Reply) → IsPlain r → lines_of r ≡ 1
one_line (reply.Ok e) is = refl
one_line reply.Begun is = refl
one_line (reply.Committed ids) is = refl
one_line (reply.Blocked e) is = refl
one_line (reply.Unavailable r) is = refl
one_line (reply.Held s) is = refl
one_line reply.Cut is = refl
one_line reply.Gone is = refl
one_line reply.Again is = refl
one_line (reply.Waits e) is = refl
one_line (reply.Applies ids) is = refl
one_line reply.Lost is = refl
one_line reply.Split is = refl
one_line reply.Healed is = refl
one_line (reply.Sent m) is = refl
one_line (reply.Refused why) is = refl
one_line (reply.Joined r) is = absurd is

one_more : (r : Reply) (rs : List Reply) → counted (r ∷ rs) ≡ lines_of r + counted rs
unfolding count
one_more r rs = omega arith

call_plain : (rules : Rules) (s : Machine) (c : Call) (t : Machine) (r : Reply) → IsCall rules s c t r → IsPlain r
call_plain rules s c _ _ (undeclared _ _ _) = tt
call_plain rules s c _ _ (unused _ _ _ _) = tt
call_plain rules s c _ _ (unavailable _ _ _ _) = tt
call_plain rules s c _ _ (held _ _ _ _ _) = tt
call_plain rules s c _ _ (blocked _ _ _) = tt
call_plain rules s c _ _ (makes _ _ _ _) = tt
call_plain rules s c _ _ (makes_strong _ _ _ _ _ _) = tt
call_plain rules s c _ _ (makes_own _ _ _ _) = tt

delivery_plain : (s : Machine) (m : ℕ) (t : Machine) (r : Reply) → IsDelivery s m t r → IsPlain r
delivery_plain s m _ _ (gone _) = tt
delivery_plain s m _ _ (cut _ _ _) = tt
delivery_plain s m _ _ (again _ _ _ _) = tt
delivery_plain s m _ _ (waits _ _ _ _) = tt
delivery_plain s m _ _ (applies _ _ _ _ _) = tt

step_plain : (rules : Rules) (s : Machine) (event : Event) (t : Machine) (r : Reply) → IsStep rules s event t r → IsOfVersion 1 event → IsPlain r
step_plain rules s _ _ _ (calls session replica object op args after r is) plain = call_plain rules s _ after r is
step_plain rules s _ _ _ (already_open _ _ _ _ _ _) plain = tt
step_plain rules s _ _ _ (begins _ _ _ _ _ _ _ _) plain = tt
step_plain rules s _ _ _ (none_open _ _ _) plain = tt
step_plain rules s _ _ _ (commits _ _ _ _ _ _) plain = tt
step_plain rules s _ _ _ (delivers m after r is) plain = delivery_plain s m.0 after r is
step_plain rules s _ _ _ (none_to_repeat _ _) plain = tt
step_plain rules s _ _ _ (repeats _ _ _) plain = tt
step_plain rules s _ _ _ (none_to_lose _ _) plain = tt
step_plain rules s _ _ _ (loses _ _ _) plain = tt
step_plain rules s _ _ _ (absent _ _ _ _) plain = tt
step_plain rules s _ _ _ (resends _ _ _ _ _ _) plain = tt
step_plain rules s _ _ _ (splits _) plain = tt
step_plain rules s _ _ _ heals plain = tt
step_plain rules s _ _ _ (joins_copy _ _) plain = absurd (omega (arith, plain))
step_plain rules s _ _ _ (joins_bare _ _ _ _) plain = absurd (omega (arith, plain))

-- each event of a run has one reply, and that is counted once
pub each_counted : (rules : Rules) (s : Machine) (events : List Event) (replies : List Reply) (last : Machine) → Leads rules s events replies last
    → AllByRecursion (IsOfVersion 1) events → counted replies ≡ length events
unfolding count
each_counted rules _ _ _ _ (stop s) plain = refl
each_counted rules _ _ _ _ (step s event next reply events replies last is more) plain =
    let one = one_line reply (step_plain rules s event next reply is plain.0) in
    let rest = each_counted rules next events replies last more plain.1 in
    omega (arith, one_more reply replies, one, rest)
