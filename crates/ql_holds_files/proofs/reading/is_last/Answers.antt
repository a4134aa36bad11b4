use Rattle.std.proofs.Common.{◌≡◌, ◌+◌, suc, length, arith, sym, ◌∙◌}
use Rattle.std.proofs.lemmas.Bool.{false≢true}
use Rattle.std.proofs.lemmas.Option.{MatchOption-at_none, MatchOption-at_some}
use Rattle.ql_lines.specs.Fields.{fields_of}
use Rattle.ql_holds_files.specs.declared.effect_line.EffectLine.{EffectLine}
use Rattle.ql_holds_files.specs.EffectLine.{IsHoldsEffectLine}
use Rattle.ql_holds_files.proofs.Lines.{effect_made, effect_refused, no_more}
use Rattle.ql_holds_files.proofs.reading.is_last.Goals as goal

pub returns-in_default : goal.returns-in_default
returns-in_default c = λ formula current.
    let fields = fields_of c.args.text.now in
    let id = c.len-id.result + 1 in
    let none = MatchOption-at_none ((e : EffectLine) → IsHoldsEffectLine fields id e → ⊥) (λ e. IsHoldsEffectLine fields id e) c.in_default.is c.in_ok-effect.ensures in
    let next : id ≡ suc (length c.args.effects.now.effects) = omega (arith, c.len-id.ensures.length) in
    no_more formula current c.args.effects.now fields id next none (λ end. false≢true (sym c.if-is_end.false ∙ c.is_end.ensures.1 end))

pub returns-in-Ok : goal.returns-in-Ok
returns-in-Ok c = λ formula current.
    let fields = fields_of c.args.text.now in
    let id = c.len-id.result + 1 in
    let read = MatchOption-at_some ((e : EffectLine) → IsHoldsEffectLine fields id e → ⊥) (λ e. IsHoldsEffectLine fields id e) c.in-Some.effect c.in-Some.is c.in_ok-effect.ensures in
    let next : id ≡ suc (length c.args.effects.now.effects) = omega (arith, c.len-id.ensures.length) in
    effect_made formula current c.args.effects.now fields id next c.in-Some.effect read c.put.new.self c.in-Ok.ensures

pub returns-in-Err : goal.returns-in-Err
returns-in-Err c = λ formula current.
    let fields = fields_of c.args.text.now in
    let id = c.len-id.result + 1 in
    let read = MatchOption-at_some ((e : EffectLine) → IsHoldsEffectLine fields id e → ⊥) (λ e. IsHoldsEffectLine fields id e) c.in-Some.effect c.in-Some.is c.in_ok-effect.ensures in
    let next : id ≡ suc (length c.args.effects.now.effects) = omega (arith, c.len-id.ensures.length) in
    effect_refused formula current c.args.effects.now fields id next c.in-Some.effect read c.in-Err.fault c.in-Err.ensures
