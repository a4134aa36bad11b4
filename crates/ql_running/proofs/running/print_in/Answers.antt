use Rattle.std.proofs.Common.{Result, Ok, Err, IfOk, OnOk, sym, subst}
use Rattle.ql_running.specs.declared.form.Form.{Form}
use Rattle.ql_running.specs.Forms.{format_of}
use Rattle.ql_running.proofs.running.print_in.Goals as goal

-- what is known of a result that is there
of-both : {X E : Type 0} (r : Result X E) (P R : X → Type 0) (Q : Type 0) → ((x : X) → P x → Q → R x) → IfOk r P → OnOk r Q → IfOk r R
of-both (Ok x) P R Q gives p q = gives x p q
of-both (Err e) P R Q gives p q = tt

of-two : {X E : Type 0} (r : Result X E) (P Q R : X → Type 0) → ((x : X) → P x → Q x → R x) → IfOk r P → IfOk r Q → IfOk r R
of-two (Ok x) P Q R gives p q = gives x p q
of-two (Err e) P Q R gives p q = tt

pub returns-in-Text : goal.returns-in-Text
returns-in-Text c = of-both c.print_run.result _ _ _
    (λ text written values.
    subst (λ (f : Form). format_of f c.args.t.now.program c.args.objects.now c.args.levels.now c.args.replies.now.items c.args.x.now text.items)
    (sym c.in-Text.is) (record { written = written; values = values }))
    c.print_run.ensures.text c.print_run.ensures.values

pub returns-in-Json : goal.returns-in-Json
returns-in-Json c = of-two c.json_run.result _ _ _
    (λ text written again.
    subst (λ (f : Form). format_of f c.args.t.now.program c.args.objects.now c.args.levels.now c.args.replies.now.items c.args.x.now text.items)
    (sym c.in-Json.is) (record { written = written; again = again }))
    c.json_run.ensures.text c.json_run.ensures.again
