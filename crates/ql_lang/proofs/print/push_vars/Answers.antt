use Rattle.std.proofs.Common.{◌++◌, ap, codes, map}
use Rattle.std.proofs.lemmas.List.{drop_all}
use Rattle.ql_lang.specs.Spelling.{var_text}
use Rattle.ql_lang.proofs.Appending.{from_start, none_listed, one_listed, taken}
use Rattle.ql_lang.proofs.print.push_vars.Goals as goal

pub loop-var-init : goal.loop-var-init
loop-var-init c = ap (λ t. c.args.out.now.items ++ t) (from_start (codes ", ") (map var_text c.args.vars.now))

pub loop-var-preserved : goal.loop-var-preserved
loop-var-preserved c =
    one_listed c.loop-var.before.now (codes ", ") _ _ _ c.loop-var.out.items _ _ _
    (ap (λ xs. map var_text xs) (taken c.args.vars.now c.loop-var.var-index c.var-item.result c.loop-var-test.true c.var-item.is))
    c.loop-var.invariant c.in_ok-push_bytes.ensures.ok c.in_ok-push_var.ensures

pub returns : goal.returns
returns c = none_listed c.loop-var.before.now (codes ", ") _ c.loop-var.out.items _ (ap (λ xs. map var_text xs) (drop_all c.loop-var.var-index c.args.vars.now c.loop-var-test.false)) c.loop-var.invariant
