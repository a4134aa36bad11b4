use Rattle.std.proofs.Common.{refl, ◌∷◌, arith}
use Rattle.std.proofs.lemmas.Result.{err_from_is_err_and}
use Rattle.ql_grammar.specs.declared.role.Role.TheVariants.{Makes}
use Rattle.ql_grammar.specs.Table.{Do, Then, Term, TermList, MoreTerms, add_term, to_terms}
use Rattle.ql_grammar.proofs.Rules.{read-as}
use Rattle.ql_parse.proofs.Lists.{begins, item_refused, read_all, read_mark}
use Rattle.ql_parse.proofs.reader.Reader.terms.Goals as goal

pub terms-init : goal.terms-init
terms-init c = rw c.new-terms.ensures.items (begins to_terms (λ below vs. read-as c.args.self.now TermList (Term (Makes 1)) below (Do to_terms ∷ Then MoreTerms ∷ below) vs refl) (λ x vs. refl) (omega arith))

pub returns-in_err-term-clause-refused : goal.returns-in_err-term-clause-refused
returns-in_err-term-clause-refused c =
    let p = err_from_is_err_and c.from_residual.result c.from_residual.ensures.1 in
    rw (p.1, p.2) (item_refused _ c.terms.invariant c.in_err-term.ensures.refused)

pub terms-preserved : goal.terms-preserved
terms-preserved c = rw c.in_ok-push.ensures.items (read_mark c.terms.invariant c.term.new.self c.in_ok-term.term c.in_ok-term.ensures.gave (c.passes.ensures.passed c.if-not-passes.false) add_term (λ below. refl) (λ y xs vs. refl) c.in_ok-term.ensures.shorter c.passes.ensures.within)

pub returns-then-not-passes-clause-gave : goal.returns-then-not-passes-clause-gave
returns-then-not-passes-clause-gave c = λ below vs. rw (c.of.ensures, c.in_ok-push.ensures.items) (read_all c.terms.invariant c.term.new.self c.in_ok-term.term c.in_ok-term.ensures.gave (c.passes.ensures.missed c.if-not-passes.true) (λ under. refl) below vs)
