use Rattle.std.proofs.Common.{ℕ, List}
use Rattle.ql_value.specs.declared.value.Value.{Value}
use Rattle.ql_effect_lines.specs.Parts.{ItemsAt, ValuesAt}
use Rattle.ql_effect_lines.proofs.Options.{read_on}
use Rattle.ql_effect_lines.proofs.Parts.{list_of, no_list_inside}
use Rattle.ql_effect_lines.proofs.part.values.Goals as goal

pub returns : goal.returns
returns c =
    let text = c.args.text.now in
    let inner = c.in-Some.inner.now in
    read_on c.items.result ((vs : List Value) (rest : List ℕ) → ItemsAt vs inner rest → ⊥) ((vs : List Value) (rest : List ℕ) → ValuesAt vs text rest → ⊥)
    (λ x. ItemsAt x.0 inner x.1.now) (λ x. ValuesAt x.0 text x.1.now)
    (no_list_inside text inner c.in-Some.ensures c.in_default-after_byte.ensures) (λ x h. list_of text inner c.in-Some.ensures x.0 x.1.now h) c.items.ensures
