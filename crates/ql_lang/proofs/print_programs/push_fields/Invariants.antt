use Rattle.std.proofs.Common.{◌≡◌, ◌++◌, map, drop}
use Rattle.std.specs.List.{concat}
use Rattle.ql_lang.specs.ProgramSpelling.{field_text}
use Rattle.ql_lang.proofs.print_programs.push_fields.Given as goal

abbrev pub invariant-loop-field : goal.invariant-loop-field
invariant-loop-field l = l.out.items ++ concat (map field_text (drop l.field-index l.fields)) ≡ l.fn.out.items ++ concat (map field_text l.fields)
