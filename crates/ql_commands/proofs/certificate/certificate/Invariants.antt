use Rattle.std.proofs.Common.{◌≡◌, ◌∷◌, List, take}
use Rattle.std.specs.List.{AllByRecursion, AllZip}
use Rattle.ql_cert.specs.CertFile.{IsSection, sections_lines, title}
use Rattle.ql_cert.specs.declared.cert.Section.{Section}
use Rattle.ql_classify.specs.Targets.{goals_at}
use Rattle.ql_lines.specs.Texts.{file_text}
use Rattle.ql_commands.specs.Prove.{IsSectionOf}
use Rattle.ql_commands.proofs.certificate.certificate.Given as goal

abbrev pub invariant-loop-target : goal.invariant-loop-target
invariant-loop-target l = record {
  sections : List Section;
  of_targets : AllZip (IsSectionOf l.classified.program) (take l.target (goals_at l.classified.levels)) sections;
  spelled : AllByRecursion IsSection sections;
  printed : l.text.items ≡ file_text (title ∷ sections_lines sections);
}
