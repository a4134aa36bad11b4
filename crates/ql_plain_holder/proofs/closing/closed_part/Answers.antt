use Rattle.std.proofs.Common.{◌≡◌, ◌<◌, ℕ, List, get_or, length, take, sym, subst, ◌∙◌, arith}
use Rattle.std.proofs.lemmas.List.{take_all}
use Rattle.ql_holder.specs.Closed.{Has}
use Rattle.ql_holder.specs.Needs.{Needs}
use Rattle.ql_holder.proofs.ClosedLaws.{closed-member}
use Rattle.ql_holder.proofs.Members.{index-has}
use Rattle.ql_plain_holder.proofs.PlainReceipts.{closed-more}
use Rattle.ql_plain_holder.proofs.closing.closed_part.Goals as goal

pub close-requires-clause-first : goal.close-requires-clause-first
close-requires-clause-first c =
    let ids = c.args.ids.now in
    let inside : c.loop-id.id-index < length ids = omega arith in
    (c.requires.whole.there (get_or ids c.loop-id.id-index 0) (subst (λ (l : List ℕ). Has l (get_or ids c.loop-id.id-index 0)) c.requires.same (index-has ids c.loop-id.id-index inside))).0

pub close-requires-clause-last : goal.close-requires-clause-last
close-requires-clause-last c =
    let ids = c.args.ids.now in
    let inside : c.loop-id.id-index < length ids = omega arith in
    (c.requires.whole.there (get_or ids c.loop-id.id-index 0) (subst (λ (l : List ℕ). Has l (get_or ids c.loop-id.id-index 0)) c.requires.same (index-has ids c.loop-id.id-index inside))).1

pub loop-id-preserved : goal.loop-id-preserved
loop-id-preserved c =
    closed-more c.args.x.now c.args.after.now c.args.ids.now c.loop-id.closed c.close.new.closed c.loop-id.id-index (omega arith) c.loop-id.invariant c.in_ok-close.ensures

pub returns : goal.returns
returns c = λ a.
    let ids = c.args.ids.now in
    let all : take c.loop-id.id-index ids ≡ c.args.after.now = take_all c.loop-id.id-index ids (omega arith) ∙ c.requires.same in (
      λ is. ((c.loop-id.invariant a).0 is).1,
      λ closed. (c.loop-id.invariant a).1 (subst (λ (l : List ℕ). Has l a) (sym all) (closed-member (Needs c.args.x.now) (Has c.args.after.now) a closed), closed),
    )
