use Rattle.std.proofs.Common.{◌≡◌, ◌≤◌, ◌∙◌, ℕ, true, List, Ok, length, ap, sym, subst}
use Rattle.std.proofs.lemmas.Bool.{false≢true}
use Rattle.std.proofs.lemmas.Option.{MatchOption-at_some}
use Rattle.ql_value.specs.declared.value.Value.{Value}
use Rattle.ql_value.specs.Reading.{value_at}
use Rattle.ql_effect_lines.specs.Parts.{ValueAt, ends_field}
use Rattle.ql_effect_lines.proofs.Options.{unread}
use Rattle.ql_effect_lines.proofs.Parts.{field_of, no_digit, part_of, same_value, value_starts}
use Rattle.ql_effect_lines.proofs.Values.{stands}
use Rattle.ql_effect_lines.proofs.part.value_field.Goals as goal

pub returns-in_default : goal.returns-in_default
returns-in_default c = λ v rest f.
    let start = c.after_spaces.result.now in
    let none = unread c.in_ok-value.field-0 ((x : Value) (rest : List ℕ) → ValueAt x start rest → ⊥) (λ x. (value_at start ≡ Ok (x.0, x.1.now)) × (length x.1.now ≤ length c.after_spaces.result.now)) c.in_ok-value.ensures.read c.in_default.not-Some in
    none v rest (subst (λ (t : List ℕ). ValueAt v t rest) (sym c.after_spaces.ensures.spaces) (part_of ValueAt value_starts v c.args.text.now rest f))

pub returns-then-ends_field : goal.returns-then-ends_field
returns-then-ends_field c =
    let start = c.after_spaces.result.now in
    let read = MatchOption-at_some ((x : Value) (rest : List ℕ) → ValueAt x start rest → ⊥) (λ x. (value_at start ≡ Ok (x.0, x.1.now)) × (length x.1.now ≤ length c.after_spaces.result.now)) (c.in-Some.value, c.in-Some.rest) c.in-Some.is c.in_ok-value.ensures.read in
    let end : ends_field c.in-Some.rest.now ≡ true = sym c.ends_field.ensures ∙ c.if-ends_field.true in
    let part = stands c.in-Some.value start c.in-Some.rest.now read.0 (no_digit c.in-Some.rest.now end) in
    field_of ValueAt value_starts c.in-Some.value c.args.text.now c.in-Some.rest.now (subst (λ (t : List ℕ). ValueAt c.in-Some.value t c.in-Some.rest.now) c.after_spaces.ensures.spaces part) end

pub returns-else-ends_field : goal.returns-else-ends_field
returns-else-ends_field c = λ v rest f.
    let start = c.after_spaces.result.now in
    let read = MatchOption-at_some ((x : Value) (rest : List ℕ) → ValueAt x start rest → ⊥) (λ x. (value_at start ≡ Ok (x.0, x.1.now)) × (length x.1.now ≤ length c.after_spaces.result.now)) (c.in-Some.value, c.in-Some.rest) c.in-Some.is c.in_ok-value.ensures.read in
    let part = subst (λ (t : List ℕ). ValueAt v t rest) (sym c.after_spaces.ensures.spaces) (part_of ValueAt value_starts v c.args.text.now rest f) in
    let same = same_value c.in-Some.value start c.in-Some.rest.now read.0 v rest part in
    false≢true (sym (sym c.ends_field.ensures ∙ c.if-ends_field.false) ∙ ap ends_field same.1 ∙ f.ended)
