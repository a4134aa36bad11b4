use Rattle.ql_cert.specs.ProofFile.{IsProofFile}
use Rattle.ql_cert.proofs.FirstFaults.{no_file, not_neither, one_fault}
use Rattle.ql_cert.proofs.OneReading.{one_proof}
use Rattle.ql_cert.proofs.ProofStates.{proof_reader}
use Rattle.ql_cert.proofs.unique.one_proof.Goals as goal

pub returns-clause-reading : goal.returns-clause-reading
returns-clause-reading c = λ lines c d r s p q. one_proof lines c d r s p q

pub returns-clause-fault : goal.returns-clause-fault
returns-clause-fault c = λ file f g p q. one_fault proof_reader file f g p q

pub returns-clause-apart : goal.returns-clause-apart
returns-clause-apart c = λ file f p is. no_file IsProofFile file f p is

pub returns-clause-some : goal.returns-clause-some
returns-clause-some c = λ file none no_fault. not_neither proof_reader file none no_fault
