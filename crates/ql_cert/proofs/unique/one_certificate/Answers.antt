use Rattle.ql_cert.specs.CertFile.{IsCertFile}
use Rattle.ql_cert.proofs.FirstFaults.{no_file, not_neither, one_fault}
use Rattle.ql_cert.proofs.OneReading.{one_cert}
use Rattle.ql_cert.proofs.States.{cert_reader}
use Rattle.ql_cert.proofs.unique.one_certificate.Goals as goal

pub returns-clause-reading : goal.returns-clause-reading
returns-clause-reading c = λ lines r s p q. one_cert lines r s p q

pub returns-clause-fault : goal.returns-clause-fault
returns-clause-fault c = λ file f g p q. one_fault cert_reader file f g p q

pub returns-clause-apart : goal.returns-clause-apart
returns-clause-apart c = λ file f p is. no_file IsCertFile file f p is

pub returns-clause-some : goal.returns-clause-some
returns-clause-some c = λ file none no_fault. not_neither cert_reader file none no_fault
