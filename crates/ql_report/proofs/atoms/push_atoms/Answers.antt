use Rattle.std.proofs.Common.{ℕ, List, ◌++◌, ◌∙◌, ap, codes}
use Rattle.std.proofs.lemmas.Result.{on_ok_weaker}
use Rattle.ql_report.specs.Atoms.{atoms_line, currents_text, operations_text, relations_text}
use Rattle.ql_report.specs.Report.{reported_of}
use Rattle.ql_report.proofs.Loops.{line_pieces}
use Rattle.ql_report.proofs.atoms.push_atoms.Goals as goal

pub returns : goal.returns
unfolding atoms_line
returns c =
    let t = reported_of c.args.reported.now in
    on_ok_weaker c.push_bytes-2.result
    (λ last. last ∙ ap (λ (z : List ℕ). z ++ codes "\n")
    (c.in_ok-push_operations.ensures ∙ ap (λ (z : List ℕ). z ++ operations_text t)
    (c.in_ok-push_currents.ensures ∙ ap (λ (z : List ℕ). z ++ currents_text t)
    (c.in_ok-push_relations.ensures ∙ ap (λ (z : List ℕ). z ++ relations_text t) c.in_ok-push_bytes.ensures.ok)))
    ∙ line_pieces c.args.out.now.items (codes "atoms") (relations_text t) (currents_text t) (operations_text t) (codes "\n"))
    c.push_bytes-2.ensures.ok
