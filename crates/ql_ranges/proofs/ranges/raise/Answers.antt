use Rattle.std.proofs.Common.{◌+◌, ◌<◌, ◌≤◌, List, length, get_or, set, ap, sym, subst, refl}
use Rattle.ql_ranges.specs.Places.{Adds}
use Rattle.ql_ranges.specs.declared.ranges.IdRange.{IdRange}
use Rattle.ql_ranges.proofs.Edits.{raised-adds, joined-adds}
use Rattle.ql_ranges.proofs.ranges.raise.Goals as goal

pub returns-then-is_free : goal.returns-then-is_free
returns-then-is_free c =
    let d = c.index.result.now in
    let above = c.args.at + 1 in
    raised-adds c.args.ranges.now.items c.args.at above c.args.id d (record { from = d.from; to = c.args.id }) c.requires.apart c.requires.place c.requires.inside refl (c.requires.next d)
    (subst (λ (l : List IdRange). (e : IdRange) → above < length l → c.args.id + 2 ≤ (get_or l above e).from) c.deref.ensures.value c.if-is_free.ensures)
    (ap (λ (r : IdRange). r.from) c.index.ensures) refl

pub returns-else-is_free : goal.returns-else-is_free
returns-else-is_free c =
    let xs = c.args.ranges.now.items in
    let d = c.index.result.now in
    let e = c.remove-to.result in
    let above = c.args.at + 1 in
    let new : IdRange = record { from = d.from; to = e.to } in
    let next : (above < length xs) × ((f : IdRange) → (get_or xs above f).from ≤ c.args.id + 1) =
    subst (λ (l : List IdRange). (above < length l) × ((f : IdRange) → (get_or l above f).from ≤ c.args.id + 1)) c.deref.ensures.value c.if-is_free.ensures in
    subst (λ (l : List IdRange). Adds xs c.args.id (set l c.args.at new)) (sym c.remove-to.ensures.items)
    (joined-adds xs c.args.at above c.args.id d e new c.requires.apart c.requires.place next.0 refl (c.requires.next d) (next.1 e)
    (ap (λ (r : IdRange). r.from) c.index.ensures) (ap (λ (r : IdRange). r.to) c.remove-to.ensures.value))
