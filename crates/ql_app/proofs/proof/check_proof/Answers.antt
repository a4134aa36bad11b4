use Rattle.std.proofs.Common.{◌≡◌, ◌≢◌}
use Rattle.ql_cert.specs.declared.fault.CertFault.TheVariants.{NoMemory}
use Rattle.ql_reply.specs.declared.status.Status.TheVariants.{Bad}
use Rattle.ql_reply.proofs.Replies.{replied_once}
use Rattle.ql_app.specs.ProofFile.{ProofSays, proof_fault_text}
use Rattle.ql_app.proofs.ProofLaws.{refused_is_bad}
use Rattle.ql_app.proofs.proof.check_proof.Goals as goal

pub returns-in-Err : goal.returns-in-Err
returns-in-Err c =
    let f = c.in-Err.fault in
    replied_once (ProofSays c.args.bytes.now) (λ text. text ≡ proof_fault_text f) Bad (f ≢ NoMemory) c.bad_proof.result
    (λ text known is. refused_is_bad c.args.bytes.now f text known c.in-Err.ensures is) c.bad_proof.ensures.status c.bad_proof.ensures.text c.bad_proof.ensures.known
