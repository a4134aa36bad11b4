-- What `check` says of a source and a certificate.
use Rattle.std.specs.Prelude.{◌≡◌, ◌≢◌, ◌⊎◌, ℕ, suc, ◌-◌, List, [], ◌∷◌, ◌++◌, map, length, Option, None, Some, codes, decimal}
use Rattle.ql_cert.specs.declared.cert.Section.{Section}
use Rattle.ql_cert.specs.declared.cert.SectionLevel.{SectionLevel}
use Rattle.ql_cert.specs.declared.cert.SectionLevel.TheVariants.{Op, Txn}
use Rattle.ql_cert.specs.declared.fault.CertFault.{CertFault}
use Rattle.ql_cert.specs.declared.fault.CertFault.TheVariants.{Unexpected, Number, NoMemory}
use Rattle.ql_cert.specs.CertFile.{IsCertFile, kind_word, level_word}
use Rattle.ql_cert.specs.Faults.{FirstFileFault}
use Rattle.ql_classify.specs.Goals.{IsRefutedBy}
use Rattle.ql_classify.specs.Targets.{op_at, txn_at}
use Rattle.ql_cnf.specs.Satisfaction.{ClauseList}
use Rattle.ql_ground.specs.OfPrograms.{IsProblemOf}
use Rattle.ql_ground.specs.declared.goal.Goal.{Goal}
use Rattle.ql_implication.specs.OfPrograms.{GivesContract}
use Rattle.ql_lang.specs.declared.program.Program.{Program}
use Rattle.ql_lines.specs.Lines.{ahead_from}
use Rattle.ql_refute.specs.Verdict.{verdict}
use Rattle.ql_refute.specs.declared.verdict.Verdict.{Verdict}
use Rattle.ql_refute.specs.declared.verdict.Verdict.TheVariants.{Accepted, BadHint, NotUnit, NoConflict, NoEmpty, BadVariable}
use Rattle.ql_reply.specs.Lines.{fault_line}
use Rattle.ql_typing.specs.Operations.{all_ops}
use Rattle.ql_reply.specs.declared.status.Status.{Status}
use Rattle.ql_reply.specs.declared.status.Status.TheVariants.{Done, No, Bad}
use Rattle.ql_commands.specs.Certificates.{IsCertificate, SpellsCert}
use Rattle.ql_commands.specs.Sources.{IsSource, IsSourceOf, BadSourceSays}

-- ---- the certificate's text

-- the line that reports a certificate's first fault, and none where memory ran out
abbrev pub cert_fault_text : CertFault → Option (List ℕ)
cert_fault_text (Unexpected line) = Some (fault_line (codes "certificate") line (codes "Unexpected"))
cert_fault_text (Number line) = Some (fault_line (codes "certificate") line (codes "Number"))
cert_fault_text NoMemory = None

abbrev pub BadCertSays : List ℕ → List ℕ → Type 0
BadCertSays bytes text = (IsCertificate bytes → ⊥) × (f : CertFault) × FirstFileFault IsCertFile (ahead_from 1 bytes) f × (cert_fault_text f ≡ Some text)

-- ---- the order of the sections

-- a target by its kind and name
pub data Target : Type 0 where
  Operation : List ℕ → Target
  Transaction : List ℕ → Target

-- the targets of a program, in the order in which a certificate has them
abbrev pub expected_targets : Program → List Target
expected_targets p = map (λ op. Operation op.name.word) (all_ops p.types) ++ map (λ txn. Transaction txn.name.word) p.txns

abbrev pub target_named : List ℕ → SectionLevel → Target
target_named name (Op level) = Operation name
target_named name (Txn level) = Transaction name

abbrev pub target_of : Section → Target
target_of s = target_named s.name s.level

-- the sections are those that are expected
abbrev pub AreExpected : Program → List Section → Type 0
AreExpected p ss = map target_of ss ≡ expected_targets p

-- two lists begin otherwise, or one of them has ended
abbrev pub BeginOtherwise : List Target → List Target → Type 0
BeginOtherwise [] [] = ⊥
BeginOtherwise [] (u ∷ us) = Unit {0}
BeginOtherwise (t ∷ ts) [] = Unit {0}
BeginOtherwise (t ∷ ts) (u ∷ us) = t ≢ u

-- the first position, from 1, at which the sections aren't those that are expected
pub record IsOutOfOrder (p : Program) (ss : List Section) (place : ℕ) : Type 0 where
  pub before : List Target
  pub at : place ≡ suc (length before)
  pub expected : List Target
  pub given : List Target
  pub are_expected : expected_targets p ≡ before ++ expected
  pub are_given : map target_of ss ≡ before ++ given
  pub differ : BeginOtherwise expected given

abbrev pub order_text : ℕ → List ℕ
order_text place = codes "order " ++ decimal place ++ codes "\n"

-- ---- the refutations of the sections

-- the goal of the section of an index, in a program with this number of operations
abbrev pub goal_at : ℕ → ℕ → SectionLevel → Goal
goal_at ops place (Op level) = op_at place level
goal_at ops place (Txn level) = txn_at (place - ops) level

abbrev pub goal_of : Program → ℕ → Section → Goal
goal_of p place s = goal_at (length (all_ops p.types)) place s.level

-- op F LEVEL, or txn F LEVEL
abbrev pub section_text : Section → List ℕ
section_text s = kind_word s.level ++ codes " " ++ s.name ++ codes " " ++ level_word s.level

-- the end of a section's line
abbrev pub refusal_end : ℕ → List ℕ → List ℕ
refusal_end line rule = codes " refused " ++ decimal line ++ codes " " ++ rule ++ codes "\n"

abbrev pub verdict_text : Verdict → List ℕ
verdict_text Accepted = codes " accepted\n"
verdict_text (BadHint line) = refusal_end line (codes "BadHint")
verdict_text (NotUnit line) = refusal_end line (codes "NotUnit")
verdict_text (NoConflict line) = refusal_end line (codes "NoConflict")
verdict_text (BadVariable line) = refusal_end line (codes "BadVariable")
verdict_text NoEmpty = codes " refused NoEmpty\n"

-- The lines that report the sections from an index on, up to the first that is refused. Where a line ends in `accepted`,
-- the refutation is one of the section's own ground problem, and the level guarantees the contract in every execution.
pub data Reports (p : Program) : ℕ → List Section → Status → List ℕ → Type 0 where
  all : (place : ℕ) → Reports p place [] Done []
  accepted : (place : ℕ) (s : Section) (ss : List Section) (status : Status) (text : List ℕ)
      → IsRefutedBy p (goal_of p place s) s.refutation.lines → GivesContract p (goal_of p place s) → Reports p (suc place) ss status text
      → Reports p place (s ∷ ss) status (section_text s ++ verdict_text Accepted ++ text)
  refused : (place : ℕ) (s : Section) (ss : List Section) (c : ClauseList)
      → IsProblemOf p (goal_of p place s) c → verdict c s.refutation.lines ≢ Accepted
      → Reports p place (s ∷ ss) No (section_text s ++ verdict_text (verdict c s.refutation.lines))

-- what is said of a program and of sections
abbrev pub SectionsSay : Program → List Section → Status → List ℕ → Type 0
SectionsSay p ss Done text = AreExpected p ss × Reports p 0 ss Done text
SectionsSay p ss No text =
    ((place : ℕ) × IsOutOfOrder p ss place × (text ≡ order_text place)) ⊎ (AreExpected p ss × Reports p 0 ss No text)
SectionsSay p ss _ text = ⊥

abbrev pub CheckReports : List ℕ → List ℕ → Status → List ℕ → Type 0
CheckReports source cert status text = (p : Program) × IsSourceOf source p × (ss : List Section) × SpellsCert cert ss × SectionsSay p ss status text

abbrev pub CheckSays : List ℕ → List ℕ → Status → List ℕ → Type 0
CheckSays source cert Done text = CheckReports source cert Done text
CheckSays source cert No text = CheckReports source cert No text
CheckSays source cert Bad text = BadSourceSays source text ⊎ (IsSource source × BadCertSays cert text)
CheckSays source cert _ text = ⊥
