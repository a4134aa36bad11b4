use Rattle.std.proofs.Common.{◌∙◌, ℕ, length, ◌+◌, ◌/◌, List, ap}
use Rattle.std.proofs.lemmas.List.{length-replicate}
use Rattle.ql_formula.specs.Bits.{bit}
use Rattle.ql_formula.proofs.BitLaws.{none_set, none_truths}
use Rattle.ql_formula.proofs.row.Row.empty.Goals as goal

pub invariant_of-result : goal.invariant_of-result
invariant_of-result c =
    let words = c.in_ok-no_words.ensures in (
      ap length words ∙ length-replicate (c.args.count / 64 + 1) 0,
      λ k past. ap (λ (l : List ℕ). bit l k) words ∙ none_set (c.args.count / 64 + 1) k,
    )

pub returns : goal.returns
returns c =
    none_truths c.in_ok-no_words.field-0.items c.args.count (λ k. ap (λ (l : List ℕ). bit l k) c.in_ok-no_words.ensures ∙ none_set (c.args.count / 64 + 1) k)
