use Rattle.std.proofs.Common.{◌≡◌, ◌∷◌, ap, take_all, ◌∙◌}
use Rattle.ql_lines.specs.Texts.{file_text}
use Rattle.std.specs.List.{AllByRecursion}
use Rattle.ql_lines.specs.Lines.{ahead_from}
use Rattle.ql_cert.specs.CertFile.{IsCertOf, IsSection, cert_lines, sections_lines, title}
use Rattle.ql_cert.specs.Faults.{fields_in}
use Rattle.ql_cert.proofs.Printing.{of_made, titled_next}
use Rattle.ql_cert.proofs.print.print_cert.Goals as goal

pub loop-section-preserved : goal.loop-section-preserved
loop-section-preserved c =
    titled_next c.args.c.now.sections c.loop-section.section-index c.section-item.result c.loop-section.text.items c.in_ok-text-2.text.items
    (rw c.items-section-items.ensures at c.loop-section-test.true) (rw c.items-section-items.ensures at c.section-item.is) c.loop-section.invariant c.in_ok-text-2.ensures

pub returns-clause-text : goal.returns-clause-text
returns-clause-text c =
    let ss = c.args.c.now.sections in
    let printed = c.loop-section.invariant ∙ ap (λ ts. file_text (title ∷ sections_lines ts)) (take_all c.loop-section.section-index ss (rw c.items-section-items.ensures at c.loop-section-test.false)) in
    of_made (λ ts text. text ≡ file_text (cert_lines ts)) ss c.loop-section.text.items c.with_end.result printed c.with_end.ensures.cert

pub returns-clause-again : goal.returns-clause-again
returns-clause-again c =
    let ss = c.args.c.now.sections in
    let printed = c.loop-section.invariant ∙ ap (λ ts. file_text (title ∷ sections_lines ts)) (take_all c.loop-section.section-index ss (rw c.items-section-items.ensures at c.loop-section-test.false)) in
    of_made (λ ts text. AllByRecursion IsSection ts → IsCertOf ts (fields_in (ahead_from 1 text).lines)) ss c.loop-section.text.items c.with_end.result printed c.with_end.ensures.again
