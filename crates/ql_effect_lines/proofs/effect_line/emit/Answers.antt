use Rattle.std.proofs.Common.{ℕ, List, codes, subst}
use Rattle.ql_exec.specs.declared.effect.Payload.{Payload}
use Rattle.ql_effect_lines.specs.EffectLine.{EmitAt, PayloadAt}
use Rattle.ql_effect_lines.proofs.FirstFields.{one_first}
use Rattle.ql_effect_lines.proofs.Options.{read_on}
use Rattle.ql_effect_lines.proofs.effect_line.emit.Goals as goal

pub returns-in-Some : goal.returns-in-Some
returns-in-Some c =
    let text = c.args.text.now in
    let after_emit = c.in-Some.after_emit.now in
    read_on c.payload.result ((p : Payload) (rest : List ℕ) → PayloadAt p after_emit rest → ⊥) ((p : Payload) (rest : List ℕ) → EmitAt p text rest → ⊥)
    (λ x. PayloadAt x.0 after_emit x.1.now) (λ x. EmitAt x.0 text x.1.now)
    (λ none p rest f. none p rest (subst (λ (t : List ℕ). PayloadAt p t rest) (one_first text (codes "emit") (codes "emit") f.past_word after_emit f.word c.in-Some.ensures).1 f.carried))
    (λ x h. record { past_word = after_emit; word = c.in-Some.ensures; carried = h }) c.payload.ensures
