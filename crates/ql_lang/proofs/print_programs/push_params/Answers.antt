use Rattle.std.proofs.Common.{◌++◌, ap, codes, map}
use Rattle.std.proofs.lemmas.List.{drop_all}
use Rattle.ql_lang.specs.ProgramSpelling.{param_text}
use Rattle.ql_lang.proofs.Appending.{from_start, none_listed, one_listed, taken}
use Rattle.ql_lang.proofs.print_programs.push_params.Goals as goal

pub loop-param-init : goal.loop-param-init
loop-param-init c = ap (λ t. c.args.out.now.items ++ t) (from_start (codes ", ") (map param_text c.args.params.now))

pub loop-param-preserved : goal.loop-param-preserved
loop-param-preserved c =
    one_listed c.loop-param.before.now (codes ", ") _ _ _ c.loop-param.out.items _ _ _
    (ap (λ xs. map param_text xs) (taken c.args.params.now c.loop-param.param-index c.param-item.result c.loop-param-test.true c.param-item.is))
    c.loop-param.invariant c.in_ok-push_bytes.ensures.ok c.in_ok-push_typed.ensures

pub returns : goal.returns
returns c = none_listed c.loop-param.before.now (codes ", ") _ c.loop-param.out.items _ (ap (λ xs. map param_text xs) (drop_all c.loop-param.param-index c.args.params.now c.loop-param-test.false)) c.loop-param.invariant
