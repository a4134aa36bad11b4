use Rattle.std.proofs.Common.{◌≡◌, ◌∷◌, ◌++◌, [], ◌&&◌, ℕ, Bool, true, false, nat_eq, Option, ap, ◌∙◌, arith, refl}
use Rattle.std.proofs.lemmas.Bool.{eq-eqb, eqb-true}
use Rattle.std.specs.Cmp.Derive.{both_true}
use Rattle.ql_base.specs.declared.ids.ObjId.{ObjId}
use Rattle.ql_base.specs.declared.ids.SessId.{SessId}
use Rattle.ql_exec.specs.declared.effect.Effect.{Effect}
use Rattle.ql_exec.specs.Execution.{IsOn}
use Rattle.ql_machine.specs.Blocking.{IsOf}
use Rattle.ql_session.specs.declared.note.Note.{Note}
use Rattle.ql_session.specs.Executions.{note_of, notes_of}
use Rattle.ql_session.proofs.NoteLaws.{those, object-is, on-those, notes_after-push}
use Rattle.ql_session.proofs.law.notes_of_executions.Goals as goal

session-is : (s t : SessId) → nat_eq s.0 t.0 ≡ true → s ≡ t
session-is s t same = ap (λ (n : ℕ). let id : SessId = record { 0 = n } in id) (eqb-true s.0 t.0 same)

and_left : (a b : Bool) → (a && b) ≡ true → a ≡ true
and_left true b both = refl
and_left false b both = both

and_right : (a b : Bool) → (a && b) ≡ true → b ≡ true
and_right true b both = both
and_right false b both = cc

pub returns-clause-on : goal.returns-clause-on
returns-clause-on c = λ x o. on-those x o

pub returns-clause-by : goal.returns-clause-by
returns-clause-by c = λ x s o.
    those x (λ (found : Option Effect). IsOn o found × IsOf s found) (λ (n : Note). nat_eq n.session.0 s.0 && nat_eq n.object.0 o.0) (λ never. never.0)
    (λ a e held. both_true (eq-eqb e.session.0 s.0 (ap (λ (t : SessId). t.0) held.1)) (eq-eqb e.object.0 o.0 (ap (λ (p : ObjId). p.0) held.0)))
    (λ a e pass. (object-is e.object o (and_right (nat_eq e.session.0 s.0) _ pass), session-is e.session s (and_left (nat_eq e.session.0 s.0) _ pass)))

pub returns-clause-longer : goal.returns-clause-longer
returns-clause-longer c = λ x e. notes_after-push 0 x e ∙ ap (λ (n : ℕ). notes_of x ++ note_of n e ∷ []) (omega arith)
