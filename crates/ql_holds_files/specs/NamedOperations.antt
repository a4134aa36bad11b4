-- A file names at most 2^31 operations in its contract, and one more in each effect. So 32 bits number them.
use Rattle.std.proofs.Common.{inl, inr, ℕ, ◌+◌, ◌^◌, ◌++◌, ◌∷◌, ◌<◌, ◌≤◌, List, [], None, Some, Ok, codes, length, replicate, ap, arith, subst, sym}
use Rattle.std.proofs.lemmas.List.{length-append}
use Rattle.ql_lang.specs.Trees.{Sentence}
use Rattle.ql_lines.specs.Fields.{FirstField}
use Rattle.ql_lines.specs.Lines.{Numbered}
use Rattle.ql_parse.proofs.FewOperations.{few_operations}
use Rattle.ql_exec.specs.Execution.{effect_of}
use Rattle.ql_typing.proofs.Growing.{ops_few}
use Rattle.ql_holds_files.specs.declared.effect_line.EffectLine.{EffectLine}
use Rattle.ql_holds_files.specs.declared.effects.NamedEffects.{NamedEffects}
use Rattle.ql_holds_files.specs.declared.reading.Stage.{Stage}
use Rattle.ql_holds_files.specs.declared.reading.Stage.TheVariants.{Unbegun, WithContract, WithEffects, Ended}
use Rattle.ql_holds_files.specs.ContractLine.{IsContractLine}
use Rattle.ql_holds_files.specs.EffectLine.{named_draft, with_named_effect}
use Rattle.ql_holds_files.specs.HoldsFile.{ExtendsHolds, no_effects}
use Rattle.ql_holds_files.specs.Limits.{given_is, made_is, not_given, one_name_more}

-- ---- the bytes of a file

-- a file or a line has fewer than 2^32 bytes
abbrev pub IsShort : ℕ → Type 0
IsShort bytes = bytes < 2 ^ 32

pub shorter : (n most : ℕ) → n ≤ most → IsShort most → IsShort n
shorter n most less short = omega (arith, less, short)

-- ---- the operations that are named

abbrev pub NamesFew : NamedEffects → Type 0
NamesFew named = length named.ops ≤ 2 ^ 31 + length named.effects

abbrev pub HasNamedFew : Stage → Type 0
HasNamedFew Unbegun = Unit {0}
HasNamedFew (WithContract formula effects) = NamesFew effects
HasNamedFew (WithEffects formula current effects) = NamesFew effects
HasNamedFew (Ended formula current effects) = NamesFew effects

-- what follows a word is no longer than the line
pub rest_within : (text word rest : List ℕ) → FirstField text word rest → length rest ≤ length text
rest_within text word rest first = omega (arith, ap length first.stands, length-append (replicate first.spaces 32 ++ word) rest)

-- a contract takes two bytes for each operation that it names
names_few : (text : List ℕ) (c : Sentence) → IsShort (length text) → IsContractLine text c → NamesFew (no_effects c)
names_few text c short is =
    let few = few_operations is.rest c is.contract in
    let within = rest_within text (codes "contract") is.rest is.first in
    omega (arith, short, few, within, ops_few [] c.vars)

-- an effect names one operation more at most
still_few : (named : NamedEffects) (e : EffectLine) → NamesFew named → NamesFew (with_named_effect named e)
still_few named e few = omega (arith, few, one_name_more named.ops e.op, length-append named.effects (effect_of named.effects (named_draft named e) ∷ []))

-- ---- lines

pub stays_few : (s t : Stage) (l : Numbered) → IsShort (length l.text) → HasNamedFew s → ExtendsHolds s l (Ok t) → HasNamedFew t
stays_few Unbegun t l short few (inl (c, is, e)) = let made = made_is _ _ t e in subst HasNamedFew (sym made.1) (names_few l.text c short is)
stays_few Unbegun t l short few (inr (none, e)) = absurd (not_given t e)
stays_few (WithContract formula effects) t l short few (inl (cur, is, e)) = subst HasNamedFew (sym (given_is _ t e)) few
stays_few (WithContract formula effects) t l short few (inr (none, e)) = absurd (not_given t e)
stays_few (WithEffects formula current effects) t l short few (inl (None, is, e)) = subst HasNamedFew (sym (given_is _ t e)) few
stays_few (WithEffects formula current effects) t l short few (inl (Some line, is, e)) = let made = made_is _ _ t e in subst HasNamedFew (sym made.1) (still_few effects line few)
stays_few (WithEffects formula current effects) t l short few (inr (none, e)) = absurd (not_given t e)
stays_few (Ended formula current effects) t l short few e = absurd (not_given t e)
