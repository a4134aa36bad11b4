use Rattle.std.proofs.Common.{◌≡◌, ◌+◌, ◌&&◌, ℕ, nat_le, nat_lt, length, ap, ◌∙◌, arith}
use Rattle.ql_base.specs.IdLists.{has_id}
use Rattle.ql_exec.specs.Relations.{sametxn}
use Rattle.ql_plain_holder.proofs.PlainReceipts.{members-more, package-from, package-has}
use Rattle.ql_plain_holder.proofs.closing.package_of.Goals as goal

pub loop-k-preserved : goal.loop-k-preserved
loop-k-preserved c = λ a.
    members-more c.args.x.now c.args.id (c.loop-k.k + 1) a (has_id c.loop-k.pack a) (has_id c.add_member.new.pack a) (omega arith) (c.loop-k.invariant a) (c.in_ok-add_member.ensures a)

up_to_end : (c : goal.After-loop-k) → (a : ℕ) → has_id c.loop-k.pack a ≡ ((nat_le 1 a && nat_lt a (length c.args.x.now + 1)) && sametxn c.args.x.now c.args.id a)
up_to_end c a =
    let all : c.loop-k.k ≡ length c.args.x.now = omega arith in
    c.loop-k.invariant a ∙ ap (λ (n : ℕ). (nat_le 1 a && nat_lt a (n + 1)) && sametxn c.args.x.now c.args.id a) all

pub returns-clause-package : goal.returns-clause-package
returns-clause-package c = package-from c.args.x.now c.args.id c.loop-k.pack c.requires.first c.requires.last (up_to_end c)

pub returns-clause-has : goal.returns-clause-has
returns-clause-has c = package-has c.args.x.now c.args.id c.loop-k.pack c.requires.first c.requires.last (up_to_end c)
