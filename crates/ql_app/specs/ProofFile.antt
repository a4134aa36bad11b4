-- What is said of the files of `proof`. Their grammar and their first faults are those of ql_cert.
use Rattle.std.specs.Prelude.{◌≡◌, ℕ, List, ◌++◌, Option, Some, None, codes, decimal}
use Rattle.ql_lines.specs.Lines.{ahead_from}
use Rattle.ql_cnf.specs.Satisfaction.{ClauseList, IsUnsatisfiable}
use Rattle.ql_refute.specs.declared.refutation.Line.{Line}
use Rattle.ql_refute.specs.declared.verdict.Verdict.{Verdict}
use Rattle.ql_refute.specs.declared.verdict.Verdict.TheVariants.{Accepted, BadHint, NotUnit, NoConflict, NoEmpty, BadVariable}
use Rattle.ql_refute.specs.Verdict.{verdict}
use Rattle.ql_cert.specs.declared.fault.CertFault.{CertFault}
use Rattle.ql_cert.specs.declared.fault.CertFault.TheVariants.{Unexpected, Number, NoMemory}
use Rattle.ql_cert.specs.Faults.{FirstFileFault, fields_in}
use Rattle.ql_cert.specs.ProofFile as files
use Rattle.ql_cert.specs.ProofFile.{IsProofOf}
use Rattle.ql_reply.specs.Lines.{fault_line}
use Rattle.ql_reply.specs.declared.status.Status.{Status}
use Rattle.ql_reply.specs.declared.status.Status.TheVariants.{Done, No, Bad, ReadFault, WriteFault, Usage, TooLarge}

-- the bytes are these clauses and these lines
abbrev pub SpellsProof : List ℕ → ClauseList → List Line → Type 0
SpellsProof bytes cs ls = IsProofOf cs ls (fields_in (ahead_from 1 bytes).lines)

-- the file is in the grammar
abbrev pub IsProofText : List ℕ → Type 0
IsProofText bytes = files.IsProofFile (fields_in (ahead_from 1 bytes).lines)

abbrev pub refused : ℕ → List ℕ → Option (List ℕ)
refused line rule = Some (codes "refused " ++ decimal line ++ rule)

-- the line that reports a refusal
abbrev pub refusal_of : Verdict → Option (List ℕ)
refusal_of Accepted = None
refusal_of NoEmpty = Some (codes "refused NoEmpty\n")
refusal_of (BadHint k) = refused k (codes " BadHint\n")
refusal_of (NotUnit k) = refused k (codes " NotUnit\n")
refusal_of (NoConflict k) = refused k (codes " NoConflict\n")
refusal_of (BadVariable k) = refused k (codes " BadVariable\n")

-- the line that reports the file's first fault
abbrev pub proof_fault_text : CertFault → List ℕ
proof_fault_text (Unexpected at) = fault_line (codes "proof") at (codes "Unexpected")
proof_fault_text (Number at) = fault_line (codes "proof") at (codes "Number")
proof_fault_text NoMemory = codes ""

-- what is said of clauses and of lines that are to refute them
abbrev pub ProofReports : ClauseList → List Line → Status → List ℕ → Type 0
ProofReports cs ls Done text = (verdict cs ls ≡ Accepted) × IsUnsatisfiable cs × (text ≡ codes "accepted\n")
ProofReports cs ls No text = refusal_of (verdict cs ls) ≡ Some text
ProofReports cs ls Bad text = ⊥
ProofReports cs ls ReadFault text = ⊥
ProofReports cs ls WriteFault text = ⊥
ProofReports cs ls Usage text = ⊥
ProofReports cs ls TooLarge text = ⊥

-- what is said of a file; where its refutation is accepted no assignment satisfies its clauses
abbrev pub ProofSays : List ℕ → Status → List ℕ → Type 0
ProofSays bytes Done text = (cs : ClauseList) × (ls : List Line) × SpellsProof bytes cs ls × ProofReports cs ls Done text
ProofSays bytes No text = (cs : ClauseList) × (ls : List Line) × SpellsProof bytes cs ls × ProofReports cs ls No text
ProofSays bytes Bad text = (IsProofText bytes → ⊥) × (f : CertFault) × FirstFileFault files.IsProofFile (ahead_from 1 bytes) f × (text ≡ proof_fault_text f)
ProofSays bytes ReadFault text = ⊥
ProofSays bytes WriteFault text = ⊥
ProofSays bytes Usage text = ⊥
ProofSays bytes TooLarge text = ⊥
