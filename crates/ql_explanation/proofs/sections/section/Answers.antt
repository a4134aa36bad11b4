use Rattle.std.proofs.Common.{◌≡◌, ◌++◌, ap, subst, sym, ◌∙◌}
use Rattle.ql_warnings.specs.Warnings.{AreWarnings}
use Rattle.ql_explanation.specs.Explanation.{AreUsesOf, IsReason, first_line, strong_lines, warned_text, ways_out_text}
use Rattle.ql_explanation.proofs.Texts.{whole_section}
use Rattle.ql_explanation.proofs.sections.section.Goals as goal

pub returns : goal.returns
returns c = λ source warned. record {
  uses = c.args.remarks.uses.now;
  are_uses = subst (λ h. AreUsesOf c.args.t.now.program h c.args.remarks.uses.now) c.requires.target c.requires.uses;
  warned = c.args.remarks.warned.now;
  are_warned = subst (λ h. AreWarnings source c.args.t.now.program h c.args.remarks.warned.now) c.requires.target warned;
  reason = c.deref.result.now;
  is_reason = subst (IsReason c.args.t.now.program c.args.finding.now) (sym c.deref.ensures.value) c.in_ok-reason.ensures;
  whole = whole_section _ _ _ _ _ c.push_first_line.new.out.items c.push_remarks.new.out.items c.push_bytes.new.out.items (c.in_ok-push_first_line.ensures ∙ ap (λ t. t ++ first_line c.args.t.now.program c.args.finding.now) c.new-text.ensures.items)
      (subst (λ h. c.push_remarks.new.out.items ≡ c.push_first_line.new.out.items ++ strong_lines c.args.t.now.program h c.args.remarks.uses.now ++ ways_out_text c.args.t.now.program c.args.remarks.uses.now ++ warned_text c.args.t.now.program c.args.remarks.warned.now) c.requires.target c.in_ok-push_remarks.ensures)
      c.in_ok-push_bytes.ensures.ok;
}
