use Rattle.std.proofs.Common.{◌≡◌, [], ℕ, List, ap, sym, ◌∙◌, arith}
use Rattle.std.specs.Str.Lines.{lines}
use Rattle.std.proofs.lemmas.List.{nil_from_length}
use Rattle.ql_lines.specs.Lines.{Ahead, kept_lines}
use Rattle.ql_lines.proofs.LineLaws.{passes_over, is_next}
use Rattle.ql_lines.proofs.lines.Lines.next_line.Goals as goal

pub returns-then-not-is_skipped-clause-line : goal.returns-then-not-is_skipped-clause-line
returns-then-not-is_skipped-clause-line c =
    let now = c.loop-text.self-inside in
    ap (λ (a : Ahead). a.lines) (sym c.loop-text.invariant.0)
    ∙ is_next now.next now.rest.now c.in-Some.rest.now c.in-Some.text.now c.in-Some.ensures.1 (sym c.is_skipped.ensures ∙ c.if-not-is_skipped.true)

pub loop-text-preserved : goal.loop-text-preserved
loop-text-preserved c =
    let now = c.loop-text.self-inside in (
      sym (passes_over now.next now.rest.now c.in-Some.rest.now c.in-Some.text.now c.in-Some.ensures.1 (sym c.is_skipped.ensures ∙ c.if-not-is_skipped.false))
          ∙ c.loop-text.invariant.0,
      omega (arith, c.loop-text.invariant.1, c.in-Some.ensures.0),
    )

pub returns-clause-line : goal.returns-clause-line
unfolding kept_lines
returns-clause-line c =
    let now = c.loop-text.self-inside in
    let none : kept_lines now.next (lines now.rest.now) ≡ [] = ap (λ (r : List ℕ). kept_lines now.next (lines r)) (nil_from_length now.rest.now c.in_default.ensures) in
    (ap (λ (a : Ahead). a.lines) (sym c.loop-text.invariant.0) ∙ none, none)
