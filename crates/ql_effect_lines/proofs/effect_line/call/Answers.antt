use Rattle.std.proofs.lemmas.Result.{err_from_is_err_and}
use Rattle.std.proofs.Common.{◌∙◌, ℕ, List, codes, sym, ap, subst}
use Rattle.std.proofs.lemmas.Option.{MatchOption-at_none, MatchOption-at_some}
use Rattle.ql_lines.specs.Fields.{FirstField, fields_of}
use Rattle.ql_value.specs.declared.value.Value.{Value}
use Rattle.ql_effect_lines.specs.Parts.{FieldAt, ValueAt, ValuesAt}
use Rattle.ql_effect_lines.proofs.FirstFields.{one_first}
use Rattle.ql_effect_lines.proofs.Lines.{one_values}
use Rattle.ql_effect_lines.proofs.Options.{unread}
use Rattle.ql_effect_lines.proofs.effect_line.call.Goals as goal

pub returns-in_default : goal.returns-in_default
returns-in_default c = λ args answer rest p.
    let text = c.args.text.now in
    unread c.in_ok-args.field-0 ((vs : List Value) (rest : List ℕ) → FieldAt ValuesAt vs text rest → ⊥) (λ x. FieldAt ValuesAt x.0 text x.1.now) c.in_ok-args.ensures c.in_default.not-Some args p.past_args p.called_with

pub returns-in_default-after_word : goal.returns-in_default-after_word
returns-in_default-after_word c = λ args answer rest p.
    let text = c.args.text.now in
    let read = MatchOption-at_some ((vs : List Value) (rest : List ℕ) → FieldAt ValuesAt vs text rest → ⊥) (λ x. FieldAt ValuesAt x.0 text x.1.now) (c.in-Some.args, c.in-Some.rest) c.in-Some.is c.in_ok-args.ensures in
    let same = one_values c.in-Some.args args text c.in-Some.rest.now p.past_args read p.called_with in
    c.in_default-after_word.ensures (fields_of p.past_mark) (ap fields_of same.1 ∙ p.mark.fields)

pub returns-in-None : goal.returns-in-None
returns-in-None c = λ args answer rest p.
    let text = c.args.text.now in
    let after_mark = c.in-Some-after_word.after_mark.now in
    let read = MatchOption-at_some ((vs : List Value) (rest : List ℕ) → FieldAt ValuesAt vs text rest → ⊥) (λ x. FieldAt ValuesAt x.0 text x.1.now) (c.in-Some.args, c.in-Some.rest) c.in-Some.is c.in_ok-args.ensures in
    let same = one_values c.in-Some.args args text c.in-Some.rest.now p.past_args read p.called_with in
    let mark = one_first p.past_args (codes "=") (codes "=") after_mark p.past_mark (subst (λ (t : List ℕ). FirstField t (codes "=") after_mark) same.1 c.in-Some-after_word.ensures) p.mark in
    let none = MatchOption-at_none ((v : Value) (rest : List ℕ) → FieldAt ValueAt v after_mark rest → ⊥) (λ x. FieldAt ValueAt x.0 after_mark x.1.now) c.in-None.is c.in_ok-answer.ensures in
    none answer rest (subst (λ (t : List ℕ). FieldAt ValueAt answer t rest) (sym mark.1) p.answered)

pub returns-in_err-answer : goal.returns-in_err-answer
returns-in_err-answer c = let p = err_from_is_err_and c.from_residual-in_err-answer.result c.from_residual-in_err-answer.ensures.1 in rw p.1 tt

pub returns-in_err-args : goal.returns-in_err-args
returns-in_err-args c = let p = err_from_is_err_and c.from_residual.result c.from_residual.ensures.1 in rw p.1 tt
