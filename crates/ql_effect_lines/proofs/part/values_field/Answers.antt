use Rattle.std.proofs.Common.{◌∙◌, ℕ, List, sym, subst}
use Rattle.std.proofs.lemmas.Option.{MatchOption-at_some}
use Rattle.ql_value.specs.declared.value.Value.{Value}
use Rattle.ql_effect_lines.specs.Parts.{ValuesAt}
use Rattle.ql_effect_lines.proofs.Options.{unread}
use Rattle.ql_effect_lines.proofs.Parts.{field_of, no_end, one_list, part_of, list_starts}
use Rattle.ql_effect_lines.proofs.part.values_field.Goals as goal

pub returns-in_default : goal.returns-in_default
returns-in_default c = λ v rest f.
    let start = c.after_spaces.result.now in
    let none = unread c.in_ok-values.field-0 ((x : List Value) (rest : List ℕ) → ValuesAt x start rest → ⊥) (λ x. ValuesAt x.0 start x.1.now) c.in_ok-values.ensures c.in_default.not-Some in
    none v rest (subst (λ (t : List ℕ). ValuesAt v t rest) (sym c.after_spaces.ensures.spaces) (part_of ValuesAt list_starts v c.args.text.now rest f))

pub returns-then-ends_field : goal.returns-then-ends_field
returns-then-ends_field c =
    let start = c.after_spaces.result.now in
    let read = MatchOption-at_some ((x : List Value) (rest : List ℕ) → ValuesAt x start rest → ⊥) (λ x. ValuesAt x.0 start x.1.now) (c.in-Some.values, c.in-Some.rest) c.in-Some.is c.in_ok-values.ensures in
    field_of ValuesAt list_starts c.in-Some.values c.args.text.now c.in-Some.rest.now (subst (λ (t : List ℕ). ValuesAt c.in-Some.values t c.in-Some.rest.now) c.after_spaces.ensures.spaces read)
    (sym c.ends_field.ensures ∙ c.if-ends_field.true)

pub returns-else-ends_field : goal.returns-else-ends_field
returns-else-ends_field c =
    let start = c.after_spaces.result.now in
    let read = MatchOption-at_some ((x : List Value) (rest : List ℕ) → ValuesAt x start rest → ⊥) (λ x. ValuesAt x.0 start x.1.now) (c.in-Some.values, c.in-Some.rest) c.in-Some.is c.in_ok-values.ensures in
    no_end ValuesAt list_starts one_list c.in-Some.values c.args.text.now c.in-Some.rest.now (subst (λ (t : List ℕ). ValuesAt c.in-Some.values t c.in-Some.rest.now) c.after_spaces.ensures.spaces read)
    (sym c.ends_field.ensures ∙ c.if-ends_field.false)
