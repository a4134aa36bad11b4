use Rattle.std.proofs.Common.{sym, ◌∙◌, refl, ◌∷◌, arith}
use Rattle.std.proofs.lemmas.Result.{err_from_is_err_and}
use Rattle.ql_grammar.specs.ContractGrammar.{Either, Whole}
use Rattle.ql_grammar.specs.Table.{Then, PropAt, MoreImplied}
use Rattle.ql_grammar.proofs.Choices.{read-do}
use Rattle.ql_grammar.proofs.Rules.{atom-truth, atom-group, read-as, then-on, then-past}
use Rattle.ql_parse.proofs.JunctionLaws.{props_begin, props_on, props_past}
use Rattle.ql_parse.proofs.PrecedenceLaws.{if_ok, if_err}
use Rattle.ql_parse.proofs.reader.Reader.+prop.Goals as goal

pub atom-returns-then-sees-clause-gave : goal.atom-returns-then-sees-clause-gave
atom-returns-then-sees-clause-gave t c = if_ok c.past.result c.past.ensures.took (λ x read below vs. rw read.0 (atom-truth c.args.self.now below vs (sym c.sees.ensures ∙ c.if-sees.true) ∙ read.1 _ _ ∙ read-do _ _ _ _))

pub atom-returns-then-sees-clause-refused : goal.atom-returns-then-sees-clause-refused
atom-returns-then-sees-clause-refused t c = if_err c.past.result c.past.ensures.refused (λ e refused f is below vs. atom-truth c.args.self.now below vs (sym c.sees.ensures ∙ c.if-sees.true) ∙ refused f is _ _)

pub atom-returns-in_err-take-clause-refused : goal.atom-returns-in_err-take-clause-refused
atom-returns-in_err-take-clause-refused t c =
    let p = err_from_is_err_and c.from_residual.result c.from_residual.ensures.1 in
    rw (p.1, p.2) (λ f is below vs. atom-group c.args.self.now below vs (sym c.sees.ensures ∙ c.if-sees.false) (sym c.sees-2.ensures ∙ c.if-sees-2.true) ∙ c.in_err-take.ensures.refused f is _ _)

pub atom-returns-in_err-inside-clause-refused : goal.atom-returns-in_err-inside-clause-refused
atom-returns-in_err-inside-clause-refused t c =
    let p = err_from_is_err_and c.from_residual-in_err-inside.result c.from_residual-in_err-inside.ensures.1 in
    rw (p.1, p.2) (λ f is below vs. atom-group c.args.self.now below vs (sym c.sees.ensures ∙ c.if-sees.false) (sym c.sees-2.ensures ∙ c.if-sees-2.true) ∙ c.in_ok-take.ensures.took _ _ ∙ c.in_err-inside.ensures.refused f is _ _)

pub atom-returns-then-sees-2-clause-gave : goal.atom-returns-then-sees-2-clause-gave
atom-returns-then-sees-2-clause-gave t c = if_ok c.past-then-sees-2.result c.past-then-sees-2.ensures.took (λ x read below vs. rw read.0 (atom-group c.args.self.now below vs (sym c.sees.ensures ∙ c.if-sees.false) (sym c.sees-2.ensures ∙ c.if-sees-2.true) ∙ c.in_ok-take.ensures.took _ _ ∙ c.in_ok-inside.ensures.gave _ _ ∙ read.1 _ _))

pub atom-returns-then-sees-2-clause-refused : goal.atom-returns-then-sees-2-clause-refused
atom-returns-then-sees-2-clause-refused t c = if_err c.past-then-sees-2.result c.past-then-sees-2.ensures.refused (λ e refused f is below vs. atom-group c.args.self.now below vs (sym c.sees.ensures ∙ c.if-sees.false) (sym c.sees-2.ensures ∙ c.if-sees-2.true) ∙ c.in_ok-take.ensures.took _ _ ∙ c.in_ok-inside.ensures.gave _ _ ∙ refused f is _ _)

pub joined_props-returns-in_err-left-clause-refused : goal.joined_props-returns-in_err-left-clause-refused
joined_props-returns-in_err-left-clause-refused t c =
    let p = err_from_is_err_and c.from_residual.result c.from_residual.ensures.1 in
    rw (p.1, p.2) (λ f is below vs. props_begin c.args.self.now c.args.junction below vs ∙ c.in_err-left.ensures.refused f is _ _)

pub joined_props-more-init : goal.joined_props-more-init
joined_props-more-init t c = record {
  so_far = λ below vs. props_begin c.args.self.now c.args.junction below vs ∙ c.in_ok-left.ensures.gave _ _;
  shorter = c.in_ok-left.ensures.shorter;
}

pub joined_props-more-preserved : goal.joined_props-more-preserved
joined_props-more-preserved t c = record {
  so_far = λ below vs. c.more.invariant.so_far below vs ∙ c.in_ok-left-2.ensures.turned _ _;
  shorter = omega (arith, c.more.invariant.shorter, c.in_ok-left-2.ensures.shorter);
}

pub joined_props-returns-clause-gave : goal.joined_props-returns-clause-gave
joined_props-returns-clause-gave t c = λ below vs. c.more.invariant.so_far below vs ∙ props_past c.more.self c.args.junction _ c.prop_mark-mark.ensures below _ (sym c.sees.ensures ∙ c.more-test.false)

pub more_props-returns-in_err-left-clause-refused : goal.more_props-returns-in_err-left-clause-refused
more_props-returns-in_err-left-clause-refused t c =
    let p = err_from_is_err_and c.from_residual.result c.from_residual.ensures.1 in
    rw (p.1, p.2) (λ f is below vs. props_on c.args.self.now c.args.junction _ c.prop_mark.ensures below _ c.requires ∙ c.in_err-left.ensures.refused f is _ _)

pub more_props-returns-in_err-left-2-clause-refused : goal.more_props-returns-in_err-left-2-clause-refused
more_props-returns-in_err-left-2-clause-refused t c =
    let p = err_from_is_err_and c.from_residual-in_err-left-2.result c.from_residual-in_err-left-2.ensures.1 in
    rw (p.1, p.2) (λ f is below vs. props_on c.args.self.now c.args.junction _ c.prop_mark.ensures below _ c.requires ∙ c.in_ok-left.ensures.took.1 _ _ ∙ (rw c.in_err-left-2.ensures.refused at c.prop_operand.ensures.refused) f is _ _)

pub more_props-returns-clause-turned : goal.more_props-returns-clause-turned
more_props-returns-clause-turned t c = λ below vs. rw (c.of_props.ensures, c.in_ok-left-3.ensures.left, c.in_ok-left-3.ensures.right, c.in_ok-left-2.ensures.parts.0, c.in_ok-left.ensures.took.0) (props_on c.args.self.now c.args.junction _ c.prop_mark.ensures below _ c.requires ∙ c.in_ok-left.ensures.took.1 _ _ ∙ (rw c.in_ok-left-2.ensures.parts.1 at c.prop_operand.ensures.gave) _ _ ∙ read-do _ _ _ _)

pub more_props-returns-clause-shorter : goal.more_props-returns-clause-shorter
more_props-returns-clause-shorter t c =
    let behind = rw c.in_ok-left-2.ensures.parts.1 at c.prop_operand.ensures.shorter in
    omega (arith, c.in_ok-left.ensures.shorter, behind)

pub prop-returns-in_err-left-clause-refused : goal.prop-returns-in_err-left-clause-refused
prop-returns-in_err-left-clause-refused t c =
    let p = err_from_is_err_and c.from_residual.result c.from_residual.ensures.1 in
    rw (p.1, p.2) (λ f is below vs. read-as c.args.self.now (PropAt Whole) (PropAt Either) below (Then MoreImplied ∷ below) vs refl ∙ c.in_err-left.ensures.refused f is _ _)

pub prop-returns-in_err-left-2-clause-refused : goal.prop-returns-in_err-left-2-clause-refused
prop-returns-in_err-left-2-clause-refused t c =
    let p = err_from_is_err_and c.from_residual-in_err-left-2.result c.from_residual-in_err-left-2.ensures.1 in
    rw (p.1, p.2) (λ f is below vs. read-as c.args.self.now (PropAt Whole) (PropAt Either) below (Then MoreImplied ∷ below) vs refl ∙ c.in_ok-left.ensures.gave _ _ ∙ then-on c.joined_props.new.self MoreImplied below _ (sym c.sees.ensures ∙ c.if-not-sees.false) ∙ c.in_err-left-2.ensures.refused f is _ _)

pub prop-returns-in_err-left-3-clause-refused : goal.prop-returns-in_err-left-3-clause-refused
prop-returns-in_err-left-3-clause-refused t c =
    let p = err_from_is_err_and c.from_residual-in_err-left-3.result c.from_residual-in_err-left-3.ensures.1 in
    rw (p.1, p.2) (λ f is below vs. read-as c.args.self.now (PropAt Whole) (PropAt Either) below (Then MoreImplied ∷ below) vs refl ∙ c.in_ok-left.ensures.gave _ _ ∙ then-on c.joined_props.new.self MoreImplied below _ (sym c.sees.ensures ∙ c.if-not-sees.false) ∙ c.in_ok-left-2.ensures.took.1 _ _ ∙ (rw c.in_err-left-3.ensures.refused at c.prop.ensures.refused) f is _ _)

pub prop-returns-clause-gave : goal.prop-returns-clause-gave
prop-returns-clause-gave t c = λ below vs. rw (c.in_ok-left-4.ensures.left, c.in_ok-left-4.ensures.right, c.in_ok-left-3.ensures.parts.0, c.in_ok-left-2.ensures.took.0) (read-as c.args.self.now (PropAt Whole) (PropAt Either) below (Then MoreImplied ∷ below) vs refl ∙ c.in_ok-left.ensures.gave _ _ ∙ then-on c.joined_props.new.self MoreImplied below _ (sym c.sees.ensures ∙ c.if-not-sees.false) ∙ c.in_ok-left-2.ensures.took.1 _ _ ∙ (rw c.in_ok-left-3.ensures.parts.1 at c.prop.ensures.gave) _ _ ∙ read-do _ _ _ _)

pub prop-returns-clause-shorter : goal.prop-returns-clause-shorter
prop-returns-clause-shorter t c =
    let behind = rw c.in_ok-left-3.ensures.parts.1 at c.prop.ensures.shorter in
    omega (arith, c.in_ok-left.ensures.shorter, c.in_ok-left-2.ensures.shorter, behind)

pub prop-returns-then-not-sees-clause-gave : goal.prop-returns-then-not-sees-clause-gave
prop-returns-then-not-sees-clause-gave t c = λ below vs. read-as c.args.self.now (PropAt Whole) (PropAt Either) below (Then MoreImplied ∷ below) vs refl ∙ c.in_ok-left.ensures.gave _ _ ∙ then-past c.joined_props.new.self MoreImplied below _ (sym c.sees.ensures ∙ c.if-not-sees.true)

pub atom-returns-in_err-inside-clause-gave : goal.atom-returns-in_err-inside-clause-gave
atom-returns-in_err-inside-clause-gave t c = let p = err_from_is_err_and c.from_residual-in_err-inside.result c.from_residual-in_err-inside.ensures.1 in rw p.1 tt

pub atom-returns-in_err-inside-clause-shorter : goal.atom-returns-in_err-inside-clause-shorter
atom-returns-in_err-inside-clause-shorter t c = let p = err_from_is_err_and c.from_residual-in_err-inside.result c.from_residual-in_err-inside.ensures.1 in rw p.1 tt

pub atom-returns-in_err-take-clause-gave : goal.atom-returns-in_err-take-clause-gave
atom-returns-in_err-take-clause-gave t c = let p = err_from_is_err_and c.from_residual.result c.from_residual.ensures.1 in rw p.1 tt

pub atom-returns-in_err-take-clause-shorter : goal.atom-returns-in_err-take-clause-shorter
atom-returns-in_err-take-clause-shorter t c = let p = err_from_is_err_and c.from_residual.result c.from_residual.ensures.1 in rw p.1 tt

pub joined_props-returns-in_err-left-2-clause-gave : goal.joined_props-returns-in_err-left-2-clause-gave
joined_props-returns-in_err-left-2-clause-gave t c = let p = err_from_is_err_and c.from_residual-in_err-left-2.result c.from_residual-in_err-left-2.ensures.1 in rw p.1 tt

pub joined_props-returns-in_err-left-2-clause-shorter : goal.joined_props-returns-in_err-left-2-clause-shorter
joined_props-returns-in_err-left-2-clause-shorter t c = let p = err_from_is_err_and c.from_residual-in_err-left-2.result c.from_residual-in_err-left-2.ensures.1 in rw p.1 tt

pub joined_props-returns-in_err-left-clause-gave : goal.joined_props-returns-in_err-left-clause-gave
joined_props-returns-in_err-left-clause-gave t c = let p = err_from_is_err_and c.from_residual.result c.from_residual.ensures.1 in rw p.1 tt

pub joined_props-returns-in_err-left-clause-shorter : goal.joined_props-returns-in_err-left-clause-shorter
joined_props-returns-in_err-left-clause-shorter t c = let p = err_from_is_err_and c.from_residual.result c.from_residual.ensures.1 in rw p.1 tt

pub more_props-returns-in_err-left-2-clause-shorter : goal.more_props-returns-in_err-left-2-clause-shorter
more_props-returns-in_err-left-2-clause-shorter t c = let p = err_from_is_err_and c.from_residual-in_err-left-2.result c.from_residual-in_err-left-2.ensures.1 in rw p.1 tt

pub more_props-returns-in_err-left-2-clause-turned : goal.more_props-returns-in_err-left-2-clause-turned
more_props-returns-in_err-left-2-clause-turned t c = let p = err_from_is_err_and c.from_residual-in_err-left-2.result c.from_residual-in_err-left-2.ensures.1 in rw p.1 tt

pub more_props-returns-in_err-left-3-clause-shorter : goal.more_props-returns-in_err-left-3-clause-shorter
more_props-returns-in_err-left-3-clause-shorter t c = let p = err_from_is_err_and c.from_residual-in_err-left-3.result c.from_residual-in_err-left-3.ensures.1 in rw p.1 tt

pub more_props-returns-in_err-left-3-clause-turned : goal.more_props-returns-in_err-left-3-clause-turned
more_props-returns-in_err-left-3-clause-turned t c = let p = err_from_is_err_and c.from_residual-in_err-left-3.result c.from_residual-in_err-left-3.ensures.1 in rw p.1 tt

pub more_props-returns-in_err-left-clause-shorter : goal.more_props-returns-in_err-left-clause-shorter
more_props-returns-in_err-left-clause-shorter t c = let p = err_from_is_err_and c.from_residual.result c.from_residual.ensures.1 in rw p.1 tt

pub more_props-returns-in_err-left-clause-turned : goal.more_props-returns-in_err-left-clause-turned
more_props-returns-in_err-left-clause-turned t c = let p = err_from_is_err_and c.from_residual.result c.from_residual.ensures.1 in rw p.1 tt

pub prop-returns-in_err-left-2-clause-gave : goal.prop-returns-in_err-left-2-clause-gave
prop-returns-in_err-left-2-clause-gave t c = let p = err_from_is_err_and c.from_residual-in_err-left-2.result c.from_residual-in_err-left-2.ensures.1 in rw p.1 tt

pub prop-returns-in_err-left-2-clause-shorter : goal.prop-returns-in_err-left-2-clause-shorter
prop-returns-in_err-left-2-clause-shorter t c = let p = err_from_is_err_and c.from_residual-in_err-left-2.result c.from_residual-in_err-left-2.ensures.1 in rw p.1 tt

pub prop-returns-in_err-left-3-clause-gave : goal.prop-returns-in_err-left-3-clause-gave
prop-returns-in_err-left-3-clause-gave t c = let p = err_from_is_err_and c.from_residual-in_err-left-3.result c.from_residual-in_err-left-3.ensures.1 in rw p.1 tt

pub prop-returns-in_err-left-3-clause-shorter : goal.prop-returns-in_err-left-3-clause-shorter
prop-returns-in_err-left-3-clause-shorter t c = let p = err_from_is_err_and c.from_residual-in_err-left-3.result c.from_residual-in_err-left-3.ensures.1 in rw p.1 tt

pub prop-returns-in_err-left-4-clause-gave : goal.prop-returns-in_err-left-4-clause-gave
prop-returns-in_err-left-4-clause-gave t c = let p = err_from_is_err_and c.from_residual-in_err-left-4.result c.from_residual-in_err-left-4.ensures.1 in rw p.1 tt

pub prop-returns-in_err-left-4-clause-shorter : goal.prop-returns-in_err-left-4-clause-shorter
prop-returns-in_err-left-4-clause-shorter t c = let p = err_from_is_err_and c.from_residual-in_err-left-4.result c.from_residual-in_err-left-4.ensures.1 in rw p.1 tt

pub prop-returns-in_err-left-clause-gave : goal.prop-returns-in_err-left-clause-gave
prop-returns-in_err-left-clause-gave t c = let p = err_from_is_err_and c.from_residual.result c.from_residual.ensures.1 in rw p.1 tt

pub prop-returns-in_err-left-clause-shorter : goal.prop-returns-in_err-left-clause-shorter
prop-returns-in_err-left-clause-shorter t c = let p = err_from_is_err_and c.from_residual.result c.from_residual.ensures.1 in rw p.1 tt
