use Rattle.std.proofs.Common.{◌≡◌, ◌∙◌, sym}
use Rattle.ql_levels.specs.declared.level.Level.TheVariants.{Eventual, Causal, Wide, Strong}
use Rattle.ql_store.specs.Asking.{call_of}
use Rattle.ql_store.specs.State.{machine_of}
use Rattle.ql_store.proofs.OwnLaws.{refused-below, refused-strong, refused-undeclared, refused-unused}
use Rattle.ql_store.proofs.own.refusal.Goals as goal

pub returns-then-not-has : goal.returns-then-not-has
returns-then-not-has c = λ rules x received long now uses level.
    refused-undeclared rules (machine_of x received c.args.net.now c.args.shim.now) (call_of c.args.asked.now) c.args.txn.now now (sym c.has.ensures ∙ c.if-not-has.true)

pub returns-then-not-is_used : goal.returns-then-not-is_used
returns-then-not-is_used c = λ rules x received long now uses level.
    refused-unused rules (machine_of x received c.args.net.now c.args.shim.now) (call_of c.args.asked.now) c.args.txn.now now (sym c.has.ensures ∙ c.if-not-has.false)
    (uses ∙ c.if-not-is_used.true)

pub returns-in-Eventual : goal.returns-in-Eventual
returns-in-Eventual c = λ rules x received long now uses level.
    refused-below rules (machine_of x received c.args.net.now c.args.shim.now) (call_of c.args.asked.now) c.args.txn.now now (sym c.has.ensures ∙ c.if-not-has.false)
    (uses ∙ c.if-not-is_used.false) (λ strong. let never : Eventual ≡ Strong = sym c.in-Eventual.is ∙ sym level ∙ strong in cc)

pub returns-in-Causal : goal.returns-in-Causal
returns-in-Causal c = λ rules x received long now uses level.
    refused-below rules (machine_of x received c.args.net.now c.args.shim.now) (call_of c.args.asked.now) c.args.txn.now now (sym c.has.ensures ∙ c.if-not-has.false)
    (uses ∙ c.if-not-is_used.false) (λ strong. let never : Causal ≡ Strong = sym c.in-Causal.is ∙ sym level ∙ strong in cc)

pub returns-in-Wide : goal.returns-in-Wide
returns-in-Wide c = λ rules x received long now uses level.
    refused-below rules (machine_of x received c.args.net.now c.args.shim.now) (call_of c.args.asked.now) c.args.txn.now now (sym c.has.ensures ∙ c.if-not-has.false)
    (uses ∙ c.if-not-is_used.false) (λ strong. let never : Wide ≡ Strong = sym c.in-Wide.is ∙ sym level ∙ strong in cc)

pub returns-in-Strong : goal.returns-in-Strong
returns-in-Strong c = λ rules x received long now uses level.
    refused-strong rules (machine_of x received c.args.net.now c.args.shim.now) (call_of c.args.asked.now) c.args.txn.now now (sym c.has.ensures ∙ c.if-not-has.false)
    (uses ∙ c.if-not-is_used.false) (level ∙ c.in-Strong.is) c.obstacle.result (c.obstacle.ensures x received long)
