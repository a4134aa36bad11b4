-- The rules that a holds file keeps beyond its grammar.
use Rattle.std.specs.Prelude.{◌≡◌, ◌≤◌, ℕ, zero, suc, Bool, false, not, nat_le, List, [], ◌∷◌, ◌++◌, length, slice_get, Option, None, Some, is_none, if◌then◌else◌}
use Rattle.std.specs.List.{list_any}
use Rattle.std.specs.Str.{bytes_eq}
use Rattle.ql_base.specs.declared.limits.TheConstants.{MAX_EFFECTS}
use Rattle.ql_holds_files.specs.declared.effect_line.EffectLine.{EffectLine}
use Rattle.ql_holds_files.specs.declared.rules.HoldsRule.{HoldsRule}
use Rattle.ql_holds_files.specs.declared.rules.HoldsRule.TheVariants.{NotForward, OtherObject, TooMany}
use Rattle.ql_holds_files.specs.ContractLine.{sentence_faults}
use Rattle.ql_holds_files.specs.Grammar.{HoldsTree}

-- the effect with an id, counted from 1
abbrev pub line_at : List EffectLine → ℕ → Option EffectLine
line_at es zero = None
line_at es (suc k) = slice_get es k

-- an effect is there, and on another object
abbrev pub is_on_another : List ℕ → Option EffectLine → Bool
is_on_another object None = false
is_on_another object (Some e) = not (bytes_eq e.object object)

-- The lowest rule that an effect breaks after others: it sees an id that none of them has; it sees one on another object;
-- there are as many as there may be.
abbrev pub rule_broken : List EffectLine → EffectLine → Option HoldsRule
rule_broken before e =
    if list_any (λ id. is_none (line_at before id)) e.seen then Some NotForward
    else (if list_any (λ id. is_on_another e.object (line_at before id)) e.seen then Some OtherObject
    else (if nat_le MAX_EFFECTS (length before) then Some TooMany
    else None))

-- neither the contract of a tree nor one of its effects breaks a rule
pub record KeepsRules (t : HoldsTree) : Type 0 where
  pub contract : sentence_faults t.contract ≡ []
  pub effects : (before : List EffectLine) (e : EffectLine) (after : List EffectLine) → t.effects ≡ before ++ e ∷ after → rule_broken before e ≡ None

-- the current effect is one of the effects
abbrev pub HasCurrent : HoldsTree → Type 0
HasCurrent t = (1 ≤ t.current) × (t.current ≤ length t.effects)
