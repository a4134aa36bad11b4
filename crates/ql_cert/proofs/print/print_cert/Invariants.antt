use Rattle.std.proofs.Common.{◌≡◌, ◌∷◌, take}
use Rattle.ql_lines.specs.Texts.{file_text}
use Rattle.ql_cert.specs.CertFile.{sections_lines, title}
use Rattle.ql_cert.proofs.print.print_cert.Given as goal

abbrev pub invariant-loop-section : goal.invariant-loop-section
invariant-loop-section l = l.text.items ≡ file_text (title ∷ sections_lines (take l.section-index l.fn.c.sections))
