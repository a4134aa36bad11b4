-- Which bytes are a certificate.
use Rattle.std.specs.Prelude.{ℕ, List}
use Rattle.ql_cert.specs.declared.cert.Section.{Section}
use Rattle.ql_cert.specs.CertFile.{IsCertFile, IsCertOf}
use Rattle.ql_cert.specs.Faults.{fields_in}
use Rattle.ql_lines.specs.Lines.{ahead_from}

-- the bytes are the certificate of these sections
abbrev pub SpellsCert : List ℕ → List Section → Type 0
SpellsCert bytes ss = IsCertOf ss (fields_in (ahead_from 1 bytes).lines)

-- the bytes are a certificate
abbrev pub IsCertificate : List ℕ → Type 0
IsCertificate bytes = IsCertFile (fields_in (ahead_from 1 bytes).lines)
