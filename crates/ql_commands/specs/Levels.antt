-- Why a program has no levels.
use Rattle.std.specs.Prelude.{◌≡◌, ◌<◌, ℕ, List, [], ◌-◌, length, nat_lt, if◌then◌else◌}
use Rattle.ql_lang.specs.declared.program.Program.{Program}
use Rattle.ql_typing.specs.Operations.{all_ops}
use Rattle.ql_classify.specs.Outcome.{FirstFails, all_tests}
use Rattle.ql_classify.specs.Targets.{targets}
use Rattle.ql_classify.specs.declared.classless.Classless.{Classless}
use Rattle.ql_classify.specs.declared.classless.Classless.TheVariants.{NoLevel, StrongInTxn, NoMemory}
use Rattle.ql_report.specs.Refusals.{none_op_text, none_txn_text, strong_text}

-- the target or the operation and transaction that a refusal names are the program's
abbrev pub NamesTargets : Program → Classless → Type 0
NamesTargets p (NoLevel target a) = target < targets p
NamesTargets p (StrongInTxn d o) = (d.0 < length p.txns) × (o.0 < length (all_ops p.types))
NamesTargets p NoMemory = Unit {0}

-- the text that reports a refusal
abbrev pub refusal_text : Program → Classless → List ℕ
refusal_text p (NoLevel target a) =
    if nat_lt target (length (all_ops p.types)) then none_op_text p target a else none_txn_text p (target - length (all_ops p.types)) a
refusal_text p (StrongInTxn d o) = strong_text p d.0 o.0
refusal_text p NoMemory = []

-- the text reports the first test that fails
abbrev pub RefusalSays : Program → List ℕ → Type 0
RefusalSays p text = (e : Classless) × FirstFails p (all_tests p) e × (text ≡ refusal_text p e)
