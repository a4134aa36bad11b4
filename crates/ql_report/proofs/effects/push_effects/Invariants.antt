use Rattle.std.proofs.Common.{◌≡◌, ◌++◌, take}
use Rattle.ql_lines.specs.Texts.{file_text}
use Rattle.ql_report.specs.EffectTexts.{HaveValues, effect_fields}
use Rattle.ql_report.specs.NumberedLines.{lines_from}
use Rattle.ql_report.proofs.effects.push_effects.Given as goal

abbrev pub invariant-loop-k : goal.invariant-loop-k
invariant-loop-k l = record {
  text : l.out.items ≡ l.initial.out.items ++ file_text (lines_from (effect_fields l.t.program l.objects) 1 (take l.k l.x));
  values : HaveValues (take l.k l.x);
}
