use Rattle.std.proofs.Common.{◌≡◌, None, sym, ◌∙◌, ap, eqb-true, inl, inr, is_some, Some}
use Rattle.ql_base.proofs.Numbered.{none_empty, none_long, word_eq, known-place}
use Rattle.ql_base.specs.Numbering.{place}
use Rattle.ql_base.proofs.numbering.Names.find.Goals as goal

pub returns-then-is_empty : goal.returns-then-is_empty
returns-then-is_empty c =
    let none : None ≡ place c.args.self.now c.args.w.now =
    rw (← c.self.view_is) (elim c.then-is_empty.either [
      | inl empty ↦ none_empty _ c.args.w.now c.self.invariant (eqb-true _ 0 (sym c.is_empty.ensures ∙ empty))
      | inr long ↦ none_long _ c.args.w.now c.self.invariant long.1
    ]) in
    record { numbered = none; known = ap is_some none ∙ known-place c.args.self.now c.args.w.now }

pub returns-in_err-k : goal.returns-in_err-k
returns-in_err-k c =
    let none : c.from_residual.result ≡ place c.args.self.now c.args.w.now =
    rw (← c.self.view_is, ← c.of.ensures, ← word_eq) (c.from_residual.ensures ∙ c.in_err-k.ensures.index) in
    record { numbered = none; known = ap is_some none ∙ known-place c.args.self.now c.args.w.now }

pub returns : goal.returns
returns c =
    let here : Some c.in_ok-k.k ≡ place c.args.self.now c.args.w.now =
    rw (← c.self.view_is, ← c.of.ensures, ← word_eq) c.in_ok-k.ensures.index in
    record { numbered = here; known = ap is_some here ∙ known-place c.args.self.now c.args.w.now }
