use Rattle.std.proofs.Common.{◌≡◌, ◌++◌, take}
use Rattle.ql_lines.specs.Texts.{file_text}
use Rattle.ql_report.specs.NumberedLines.{lines_from}
use Rattle.ql_report.specs.RunTexts.{numbered_reply_fields}
use Rattle.ql_report.proofs.replies.push_replies.Given as goal

abbrev pub invariant-loop-k : goal.invariant-loop-k
invariant-loop-k l = l.out.items ≡ l.initial.out.items ++ file_text (lines_from (numbered_reply_fields l.x) 1 (take l.k l.replies))
