-- What is said of the files of `holds`. Their grammar, their questions and their first faults are those of ql_holds_files,
-- and truth is that of ql_formula.
use Rattle.std.specs.Prelude.{◌≡◌, ℕ, ◌<◌, ◌≤◌, ◌^◌, List, [], ◌∷◌, ◌++◌, length, codes, decimal}
use Rattle.ql_base.specs.declared.limits.TheConstants.{MAX_WORK}
use Rattle.ql_lines.specs.Lines.{ahead_from, texts_of}
use Rattle.ql_formula.specs.Truth.{Holds, IsFirstFalse, none_inside}
use Rattle.ql_lines.specs.declared.fault.Broken.{Broken}
use Rattle.ql_holds_files.specs.declared.rules.HoldsRule.{HoldsRule}
use Rattle.ql_holds_files.specs.declared.rules.HoldsRule.TheVariants.{Unexpected, Unknown, Twice, TxnAtom, Variables, Range, NotForward, OtherObject, TooMany}
use Rattle.ql_holds_files.specs.HoldsFile.{Asked}
use Rattle.ql_holds_files.specs.FirstFaults.{FirstHoldsFault}
use Rattle.ql_holds_files.specs.Grammar.{HoldsTree, IsHoldsFile}
use Rattle.ql_holds_files.specs.Questions.{IsQuestionOf}
use Rattle.ql_holds_files.specs.TreeRules.{HasCurrent, KeepsRules}
use Rattle.ql_reply.specs.Lines.{fault_line}
use Rattle.ql_reply.specs.declared.status.Status.{Status}
use Rattle.ql_reply.specs.declared.status.Status.TheVariants.{Done, No, Bad, ReadFault, WriteFault, Usage, TooLarge}

-- the file's lines are those of a tree that keeps the rules, and this is the tree's question
abbrev pub Asks : List ℕ → Asked → Type 0
Asks bytes asked = (t : HoldsTree) × IsHoldsFile (texts_of (ahead_from 1 bytes).lines) t × KeepsRules t × HasCurrent t × IsQuestionOf t asked

-- the file asks something
abbrev pub HasQuestion : List ℕ → Type 0
HasQuestion bytes = (asked : Asked) × Asks bytes asked

-- how many choices of effects there are for all variables
abbrev pub work : Asked → ℕ
work asked = length asked.execution ^ length asked.contract.formula.vars

-- the file asks something, and that isn't too much work
abbrev pub IsAnswerableHolds : List ℕ → Type 0
IsAnswerableHolds bytes = (asked : Asked) × Asks bytes asked × (work asked ≤ MAX_WORK)

-- the effects of the variables, as ` a=1`
abbrev pub named_places_text : List (List ℕ) → List ℕ → List ℕ
named_places_text [] places = []
named_places_text (name ∷ names) [] = []
named_places_text (name ∷ names) (p ∷ places) = 32 ∷ name ++ 61 ∷ decimal p ++ named_places_text names places

-- the name of a rule
abbrev pub rule_word : HoldsRule → List ℕ
rule_word Unexpected = codes "Unexpected"
rule_word Unknown = codes "Unknown"
rule_word Twice = codes "Twice"
rule_word TxnAtom = codes "TxnAtom"
rule_word Variables = codes "Variables"
rule_word Range = codes "Range"
rule_word NotForward = codes "NotForward"
rule_word OtherObject = codes "OtherObject"
rule_word TooMany = codes "TooMany"

-- what is said where this is asked
abbrev pub HoldsReports : Asked → Status → List ℕ → Type 0
HoldsReports asked Done text = (work asked ≤ MAX_WORK) × Holds asked.execution asked.contract.formula asked.cur.0 × (text ≡ codes "holds\n")
HoldsReports asked No text =
    (work asked ≤ MAX_WORK) × (places : List ℕ) × IsFirstFalse asked.execution none_inside asked.cur.0 asked.contract.formula places
    × (text ≡ codes "fails" ++ named_places_text asked.contract.names places ++ codes "\n")
HoldsReports asked TooLarge text = (MAX_WORK < work asked) × (text ≡ codes "too much " ++ decimal (work asked) ++ codes "\n")
HoldsReports asked Bad text = ⊥
HoldsReports asked ReadFault text = ⊥
HoldsReports asked WriteFault text = ⊥
HoldsReports asked Usage text = ⊥

-- what is said of a file
abbrev pub HoldsSays : List ℕ → Status → List ℕ → Type 0
HoldsSays bytes Bad text =
    (HasQuestion bytes → ⊥) × (broken : Broken HoldsRule) × FirstHoldsFault (ahead_from 1 bytes) broken
    × (text ≡ fault_line (codes "holds") broken.line (rule_word broken.rule))
HoldsSays bytes Done text = (asked : Asked) × Asks bytes asked × HoldsReports asked Done text
HoldsSays bytes No text = (asked : Asked) × Asks bytes asked × HoldsReports asked No text
HoldsSays bytes TooLarge text = (IsAnswerableHolds bytes → ⊥) × (asked : Asked) × Asks bytes asked × HoldsReports asked TooLarge text
HoldsSays bytes ReadFault text = ⊥
HoldsSays bytes WriteFault text = ⊥
HoldsSays bytes Usage text = ⊥
