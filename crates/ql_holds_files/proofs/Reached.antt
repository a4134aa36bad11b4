-- What the lines of a file, one after another, lead to.
use Rattle.std.proofs.Common.{◌≡◌, inl, inr, ℕ, List, [], ◌∷◌, None, refl, sym, subst}
use Rattle.ql_lang.specs.Trees.{Sentence}
use Rattle.ql_lines.specs.Fields.{fields_of}
use Rattle.ql_lines.specs.Lines.{Numbered}
use Rattle.ql_lines.specs.Outcomes.{Leads}
use Rattle.ql_holds_files.specs.declared.reading.Stage.{Stage}
use Rattle.ql_holds_files.specs.declared.reading.Stage.TheVariants.{Unbegun, WithContract, WithEffects}
use Rattle.ql_holds_files.specs.ContractLine.{IsContractLine, lowest_rule, sentence_faults}
use Rattle.ql_holds_files.specs.HoldsFile.{IsCurrentLine, named_formula_of, no_effects}
use Rattle.ql_holds_files.specs.Limits.{given_is, made_is, not_given}
use Rattle.ql_holds_files.proofs.Walk.{AreRead, LeadsTo, unbroken, walk, walk_back}

-- a contract that breaks no rule, on this line
pub record HasContract (l : Numbered) (c : Sentence) : Type 0 where
  pub line : IsContractLine l.text c
  pub kept : lowest_rule (sentence_faults c) ≡ None

abbrev pub Reached : List Numbered → Stage → Type 0
Reached [] s = s ≡ Unbegun
Reached (l ∷ []) s = (c : Sentence) × HasContract l c × (s ≡ WithContract (named_formula_of c) (no_effects c))
Reached (l ∷ m ∷ ls) s =
    (c : Sentence) × HasContract l c × (current : ℕ) × IsCurrentLine (fields_of m.text) current
    × AreRead (named_formula_of c) (record { line = m.number; id = current }) (no_effects c) ls s

with_contract : (l : Numbered) (ls : List Numbered) (s : Stage) (c : Sentence) → HasContract l c → LeadsTo (WithContract (named_formula_of c) (no_effects c)) ls s → Reached (l ∷ ls) s
unfolding Leads
with_contract l [] s c has h = (c, has, sym h)
with_contract l (m ∷ ls) s c has (next, inl (current, is, e), rest) =
    (c, has, current, is, walk (named_formula_of c) (record { line = m.number; id = current }) ls (no_effects c) s (subst (λ t. LeadsTo t ls s) (given_is _ next e) rest))
with_contract l (m ∷ ls) s c has (next, inr (none, e), rest) = absurd (not_given next e)

pub reached : (ls : List Numbered) (s : Stage) → LeadsTo Unbegun ls s → Reached ls s
unfolding Leads
reached [] s h = sym h
reached (l ∷ ls) s (next, inl (c, is, e), rest) =
    let made = made_is _ _ next e in
    with_contract l ls s c (record { line = is; kept = made.0 }) (subst (λ t. LeadsTo t ls s) made.1 rest)
reached (l ∷ ls) s (next, inr (none, e), rest) = absurd (not_given next e)

pub leads : (ls : List Numbered) (s : Stage) → Reached ls s → LeadsTo Unbegun ls s
unfolding Leads
leads [] s h = sym h
leads (l ∷ []) s (c, has, to) =
    (WithContract (named_formula_of c) (no_effects c), inl (c, has.line, unbroken (lowest_rule (sentence_faults c)) (WithContract (named_formula_of c) (no_effects c)) has.kept), sym to)
leads (l ∷ m ∷ ls) s (c, has, current, is, read) =
    let second = WithEffects (named_formula_of c) (record { line = m.number; id = current }) (no_effects c) in (
      WithContract (named_formula_of c) (no_effects c),
      inl (c, has.line, unbroken (lowest_rule (sentence_faults c)) (WithContract (named_formula_of c) (no_effects c)) has.kept),
      (second, inl (current, is, refl), walk_back (named_formula_of c) (record { line = m.number; id = current }) ls (no_effects c) s read),
    )
