-- The lines of a file spell at most one certificate, and at most one proof.
use Rattle.std.proofs.Common.{◌≡◌, List, ap}
use Rattle.ql_cnf.specs.Satisfaction.{ClauseList}
use Rattle.ql_lines.specs.Fields.{Fields}
use Rattle.ql_refute.specs.declared.refutation.Line.{Line}
use Rattle.ql_cert.specs.declared.cert.Section.{Section}
use Rattle.ql_cert.specs.CertFile.{IsCertOf}
use Rattle.ql_cert.specs.ProofFile.{IsProofOf}
use Rattle.ql_cert.proofs.FirstFaults.{one_file}
use Rattle.ql_cert.proofs.ProofStates.{proof_reader}
use Rattle.ql_cert.proofs.States.{cert_reader}

pub one_cert : (lines : List Fields) (ss ts : List Section) → IsCertOf ss lines → IsCertOf ts lines → ss ≡ ts
one_cert lines ss ts h g = one_file cert_reader ss ts lines h g

pub one_proof : (lines : List Fields) (c d : ClauseList) (ls ms : List Line) → IsProofOf c ls lines → IsProofOf d ms lines → (c ≡ d) × (ls ≡ ms)
one_proof lines c d ls ms h g =
    let same : ◌≡◌ {A = ClauseList × List Line} (c, ls) (d, ms) = one_file proof_reader (c, ls) (d, ms) lines h g in
    (ap (λ (p : ClauseList × List Line). p.0) same, ap (λ (p : ClauseList × List Line). p.1) same)
