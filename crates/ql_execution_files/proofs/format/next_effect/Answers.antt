use Rattle.std.proofs.Common.{◌≡◌, ℕ, suc, ◌+◌, length, arith, refl, sym, subst}
use Rattle.std.proofs.lemmas.Option.{MatchOption-at_none, MatchOption-at_some}
use Rattle.ql_effect_lines.specs.declared.effect_line.EffectLine.{EffectLine}
use Rattle.ql_effect_lines.specs.EffectLine.{IsEffectLine}
use Rattle.ql_execution_files.proofs.format.next_effect.Goals as goal

pub returns-in-Some : goal.returns-in-Some
returns-in-Some c =
    let text = c.args.text.now in
    let id = c.len-id.result + 1 in
    let number : id ≡ suc (length c.args.read.now.effects) = omega (arith, c.len-id.ensures.length) in
    let read = MatchOption-at_some ((e : EffectLine) → IsEffectLine text id e → ⊥) (λ e. IsEffectLine text id e) c.in-Some.effect c.in-Some.is c.in_ok-effect.ensures in
    subst (λ (n : ℕ). IsEffectLine text n c.in-Some.effect) number read

pub returns-in-None : goal.returns-in-None
returns-in-None c =
    let text = c.args.text.now in
    let id = c.len-id.result + 1 in
    let number : id ≡ suc (length c.args.read.now.effects) = omega (arith, c.len-id.ensures.length) in
    let none = MatchOption-at_none ((e : EffectLine) → IsEffectLine text id e → ⊥) (λ e. IsEffectLine text id e) c.in-None.is c.in_ok-effect.ensures in
    (refl, λ e is. none e (subst (λ (n : ℕ). IsEffectLine text n e) (sym number) is))
