use Rattle.std.proofs.Common.{sym, ◌∙◌, arith}
use Rattle.std.proofs.lemmas.Result.{err_from_is_err_and}
use Rattle.ql_grammar.specs.ContractGrammar.{Single}
use Rattle.ql_grammar.specs.Table.{RelationAt}
use Rattle.ql_grammar.proofs.Choices.{read-do, read-part}
use Rattle.ql_parse.proofs.JunctionLaws.{relations_begin, relations_on, relations_past}
use Rattle.ql_parse.proofs.PrecedenceLaws.{if_ok, if_err}
use Rattle.ql_parse.proofs.RelationRules.{relation-bracket, relation-name}
use Rattle.ql_parse.proofs.reader.Reader.+relation.Goals as goal

pub single-returns-in_err-take-clause-refused : goal.single-returns-in_err-take-clause-refused
single-returns-in_err-take-clause-refused t c =
    let p = err_from_is_err_and c.from_residual.result c.from_residual.ensures.1 in
    rw (p.1, p.2) (λ f is below vs. relation-bracket c.args.self.now c.args.name c.args.bracket below vs (sym c.sees.ensures ∙ c.if-sees.true) ∙ c.in_err-take.ensures.refused f is _ _)

pub single-returns-in_err-inside-clause-refused : goal.single-returns-in_err-inside-clause-refused
single-returns-in_err-inside-clause-refused t c =
    let p = err_from_is_err_and c.from_residual-in_err-inside.result c.from_residual-in_err-inside.ensures.1 in
    rw (p.1, p.2) (λ f is below vs. relation-bracket c.args.self.now c.args.name c.args.bracket below vs (sym c.sees.ensures ∙ c.if-sees.true) ∙ c.in_ok-take.ensures.took _ _ ∙ c.in_err-inside.ensures.refused f is _ _)

pub single-returns-then-sees-clause-gave : goal.single-returns-then-sees-clause-gave
single-returns-then-sees-clause-gave t c = if_ok c.past.result c.past.ensures.took (λ x read below vs. rw read.0 (relation-bracket c.args.self.now c.args.name c.args.bracket below vs (sym c.sees.ensures ∙ c.if-sees.true) ∙ c.in_ok-take.ensures.took _ _ ∙ c.in_ok-inside.ensures.gave _ _ ∙ read.1 _ _))

pub single-returns-then-sees-clause-refused : goal.single-returns-then-sees-clause-refused
single-returns-then-sees-clause-refused t c = if_err c.past.result c.past.ensures.refused (λ e refused f is below vs. relation-bracket c.args.self.now c.args.name c.args.bracket below vs (sym c.sees.ensures ∙ c.if-sees.true) ∙ c.in_ok-take.ensures.took _ _ ∙ c.in_ok-inside.ensures.gave _ _ ∙ refused f is _ _)

pub single-returns-in_err-at-clause-refused : goal.single-returns-in_err-at-clause-refused
single-returns-in_err-at-clause-refused t c =
    let p = err_from_is_err_and c.from_residual-in_err-at.result c.from_residual-in_err-at.ensures.1 in
    rw (p.1, p.2) (λ f is below vs. relation-name c.args.self.now c.args.name c.args.bracket below vs (sym c.sees.ensures ∙ c.if-sees.false) _ c.relation_word-word.ensures ∙ c.in_err-at.ensures.refused_placed f is _ _)

pub single-returns-clause-gave : goal.single-returns-clause-gave
single-returns-clause-gave t c = λ below vs. relation-name c.args.self.now c.args.name c.args.bracket below vs (sym c.sees.ensures ∙ c.if-sees.false) _ c.relation_word-word.ensures ∙ c.in_ok-at.ensures.gave _ _ ∙ read-do _ _ _ _

pub joined_relations-returns-in_err-left-clause-refused : goal.joined_relations-returns-in_err-left-clause-refused
joined_relations-returns-in_err-left-clause-refused t c =
    let p = err_from_is_err_and c.from_residual.result c.from_residual.ensures.1 in
    rw (p.1, p.2) (λ f is below vs. relations_begin c.args.self.now c.args.junction below vs ∙ c.in_err-left.ensures.refused f is _ _)

pub joined_relations-more-init : goal.joined_relations-more-init
joined_relations-more-init t c = record {
  so_far = λ below vs. relations_begin c.args.self.now c.args.junction below vs ∙ c.in_ok-left.ensures.gave _ _;
  shorter = c.in_ok-left.ensures.shorter;
}

pub joined_relations-more-preserved : goal.joined_relations-more-preserved
joined_relations-more-preserved t c = record {
  so_far = λ below vs. c.more.invariant.so_far below vs ∙ c.in_ok-left-2.ensures.turned _ _;
  shorter = omega (arith, c.more.invariant.shorter, c.in_ok-left-2.ensures.shorter);
}

pub joined_relations-returns-clause-gave : goal.joined_relations-returns-clause-gave
joined_relations-returns-clause-gave t c = λ below vs. c.more.invariant.so_far below vs ∙ relations_past c.more.self c.args.junction _ c.relation_mark-mark.ensures below _ (sym c.sees.ensures ∙ c.more-test.false)

pub more_relations-returns-in_err-left-clause-refused : goal.more_relations-returns-in_err-left-clause-refused
more_relations-returns-in_err-left-clause-refused t c =
    let p = err_from_is_err_and c.from_residual.result c.from_residual.ensures.1 in
    rw (p.1, p.2) (λ f is below vs. relations_on c.args.self.now c.args.junction _ c.relation_mark.ensures below _ c.requires ∙ c.in_err-left.ensures.refused f is _ _)

pub more_relations-returns-in_err-left-2-clause-refused : goal.more_relations-returns-in_err-left-2-clause-refused
more_relations-returns-in_err-left-2-clause-refused t c =
    let p = err_from_is_err_and c.from_residual-in_err-left-2.result c.from_residual-in_err-left-2.ensures.1 in
    rw (p.1, p.2) (λ f is below vs. relations_on c.args.self.now c.args.junction _ c.relation_mark.ensures below _ c.requires ∙ c.in_ok-left.ensures.took.1 _ _ ∙ (rw c.in_err-left-2.ensures.refused at c.relation_operand.ensures.refused) f is _ _)

pub more_relations-returns-clause-turned : goal.more_relations-returns-clause-turned
more_relations-returns-clause-turned t c = λ below vs. rw (c.of_relations.ensures, c.in_ok-left-3.ensures.left, c.in_ok-left-3.ensures.right, c.in_ok-left-2.ensures.parts.0, c.in_ok-left.ensures.took.0) (relations_on c.args.self.now c.args.junction _ c.relation_mark.ensures below _ c.requires ∙ c.in_ok-left.ensures.took.1 _ _ ∙ (rw c.in_ok-left-2.ensures.parts.1 at c.relation_operand.ensures.gave) _ _ ∙ read-do _ _ _ _)

pub more_relations-returns-clause-shorter : goal.more_relations-returns-clause-shorter
more_relations-returns-clause-shorter t c =
    let behind = rw c.in_ok-left-2.ensures.parts.1 at c.relation_operand.ensures.shorter in
    omega (arith, c.in_ok-left.ensures.shorter, behind)

pub relation_operand-returns-in-And-clause-gave : goal.relation_operand-returns-in-And-clause-gave
relation_operand-returns-in-And-clause-gave t c = rw c.in-And.is (if_ok c.single.result c.single.ensures.gave (λ x gave below vs. read-part c.args.self.now (RelationAt Single) below vs ∙ gave below vs))

pub relation_operand-returns-in-And-clause-refused : goal.relation_operand-returns-in-And-clause-refused
relation_operand-returns-in-And-clause-refused t c = rw c.in-And.is (if_err c.single.result c.single.ensures.refused (λ e refused f is below vs. read-part c.args.self.now (RelationAt Single) below vs ∙ refused f is below vs))

pub joined_relations-returns-in_err-left-2-clause-gave : goal.joined_relations-returns-in_err-left-2-clause-gave
joined_relations-returns-in_err-left-2-clause-gave t c = let p = err_from_is_err_and c.from_residual-in_err-left-2.result c.from_residual-in_err-left-2.ensures.1 in rw p.1 tt

pub joined_relations-returns-in_err-left-2-clause-shorter : goal.joined_relations-returns-in_err-left-2-clause-shorter
joined_relations-returns-in_err-left-2-clause-shorter t c = let p = err_from_is_err_and c.from_residual-in_err-left-2.result c.from_residual-in_err-left-2.ensures.1 in rw p.1 tt

pub joined_relations-returns-in_err-left-clause-gave : goal.joined_relations-returns-in_err-left-clause-gave
joined_relations-returns-in_err-left-clause-gave t c = let p = err_from_is_err_and c.from_residual.result c.from_residual.ensures.1 in rw p.1 tt

pub joined_relations-returns-in_err-left-clause-shorter : goal.joined_relations-returns-in_err-left-clause-shorter
joined_relations-returns-in_err-left-clause-shorter t c = let p = err_from_is_err_and c.from_residual.result c.from_residual.ensures.1 in rw p.1 tt

pub more_relations-returns-in_err-left-2-clause-shorter : goal.more_relations-returns-in_err-left-2-clause-shorter
more_relations-returns-in_err-left-2-clause-shorter t c = let p = err_from_is_err_and c.from_residual-in_err-left-2.result c.from_residual-in_err-left-2.ensures.1 in rw p.1 tt

pub more_relations-returns-in_err-left-2-clause-turned : goal.more_relations-returns-in_err-left-2-clause-turned
more_relations-returns-in_err-left-2-clause-turned t c = let p = err_from_is_err_and c.from_residual-in_err-left-2.result c.from_residual-in_err-left-2.ensures.1 in rw p.1 tt

pub more_relations-returns-in_err-left-3-clause-shorter : goal.more_relations-returns-in_err-left-3-clause-shorter
more_relations-returns-in_err-left-3-clause-shorter t c = let p = err_from_is_err_and c.from_residual-in_err-left-3.result c.from_residual-in_err-left-3.ensures.1 in rw p.1 tt

pub more_relations-returns-in_err-left-3-clause-turned : goal.more_relations-returns-in_err-left-3-clause-turned
more_relations-returns-in_err-left-3-clause-turned t c = let p = err_from_is_err_and c.from_residual-in_err-left-3.result c.from_residual-in_err-left-3.ensures.1 in rw p.1 tt

pub more_relations-returns-in_err-left-clause-shorter : goal.more_relations-returns-in_err-left-clause-shorter
more_relations-returns-in_err-left-clause-shorter t c = let p = err_from_is_err_and c.from_residual.result c.from_residual.ensures.1 in rw p.1 tt

pub more_relations-returns-in_err-left-clause-turned : goal.more_relations-returns-in_err-left-clause-turned
more_relations-returns-in_err-left-clause-turned t c = let p = err_from_is_err_and c.from_residual.result c.from_residual.ensures.1 in rw p.1 tt

pub single-returns-in_err-at-clause-gave : goal.single-returns-in_err-at-clause-gave
single-returns-in_err-at-clause-gave t c = let p = err_from_is_err_and c.from_residual-in_err-at.result c.from_residual-in_err-at.ensures.1 in rw p.1 tt

pub single-returns-in_err-at-clause-shorter : goal.single-returns-in_err-at-clause-shorter
single-returns-in_err-at-clause-shorter t c = let p = err_from_is_err_and c.from_residual-in_err-at.result c.from_residual-in_err-at.ensures.1 in rw p.1 tt

pub single-returns-in_err-inside-clause-gave : goal.single-returns-in_err-inside-clause-gave
single-returns-in_err-inside-clause-gave t c = let p = err_from_is_err_and c.from_residual-in_err-inside.result c.from_residual-in_err-inside.ensures.1 in rw p.1 tt

pub single-returns-in_err-inside-clause-shorter : goal.single-returns-in_err-inside-clause-shorter
single-returns-in_err-inside-clause-shorter t c = let p = err_from_is_err_and c.from_residual-in_err-inside.result c.from_residual-in_err-inside.ensures.1 in rw p.1 tt

pub single-returns-in_err-take-clause-gave : goal.single-returns-in_err-take-clause-gave
single-returns-in_err-take-clause-gave t c = let p = err_from_is_err_and c.from_residual.result c.from_residual.ensures.1 in rw p.1 tt

pub single-returns-in_err-take-clause-shorter : goal.single-returns-in_err-take-clause-shorter
single-returns-in_err-take-clause-shorter t c = let p = err_from_is_err_and c.from_residual.result c.from_residual.ensures.1 in rw p.1 tt
