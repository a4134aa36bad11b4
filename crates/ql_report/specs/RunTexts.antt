-- The text of a run: the levels of the program, a line for each event with its reply, and the execution.
use Rattle.std.specs.Prelude.{ℕ, List, ◌∷◌, ◌++◌, codes, decimal}
use Rattle.ql_lang.specs.declared.program.Program.{Program}
use Rattle.ql_levels.specs.Lists.{LevelLists}
use Rattle.ql_lines.specs.Fields.{Fields}
use Rattle.ql_lines.specs.Texts.{file_text}
use Rattle.ql_exec.specs.declared.effect.Effect.{Effect}
use Rattle.ql_machine.specs.declared.reply.Reply.{Reply}
use Rattle.ql_report.specs.Levels.{levels_text}
use Rattle.ql_report.specs.EffectTexts.{execution_text}
use Rattle.ql_report.specs.NumberedLines.{lines_from}
use Rattle.ql_report.specs.ReplyTexts.{reply_fields}

-- the number of an event and its reply
abbrev pub numbered_reply_fields : List Effect → ℕ → Reply → Fields
numbered_reply_fields x n r = decimal n ∷ reply_fields x r

abbrev pub replies_text : List Effect → List Reply → List ℕ
replies_text x replies = file_text (lines_from (numbered_reply_fields x) 1 replies)

abbrev pub run_text : Program → List (List ℕ) → LevelLists → List Reply → List Effect → List ℕ
run_text p objects levels replies x =
    codes "levels\n" ++ levels_text p levels ++ codes "replies\n" ++ replies_text x replies
    ++ execution_text p objects x
