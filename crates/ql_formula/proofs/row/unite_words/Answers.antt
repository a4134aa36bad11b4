use Rattle.std.proofs.Common.{◌∙◌, get_or, sym, ap, arith, inl, inr}
use Rattle.std.proofs.lemmas.Bool.{cases_lt}
use Rattle.std.proofs.lemmas.List.{get_or_past}
use Rattle.std.specs.Int.Bits.{or_zero_r}
use Rattle.std.specs.Prelude.{bit_or}
use Rattle.ql_formula.proofs.row.unite_words.Goals as goal

pub returns-clause-united : goal.returns-clause-united
returns-clause-united c = λ k. elim (cases_lt k c.loop-k.k) [
  | inl done ↦ c.loop-k.invariant.1 k done
  | inr past ↦
      c.loop-k.invariant.2 k past
      ∙ sym (ap (bit_or (get_or c.args.words.now k 0)) (get_or_past c.args.others.now k 0 (omega (arith, past))) ∙ or_zero_r (get_or c.args.words.now k 0))
]
