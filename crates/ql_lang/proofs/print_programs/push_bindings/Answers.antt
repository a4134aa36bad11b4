use Rattle.std.proofs.Common.{◌++◌, ap, codes, map}
use Rattle.std.proofs.lemmas.List.{drop_all}
use Rattle.ql_lang.specs.Programs.{binding_of}
use Rattle.ql_lang.specs.ProgramSpelling.{binding_text}
use Rattle.ql_lang.proofs.Appending.{from_start, none_listed, one_listed, taken}
use Rattle.ql_lang.proofs.print_programs.push_bindings.Goals as goal

pub loop-bind-init : goal.loop-bind-init
loop-bind-init c = ap (λ t. c.args.out.now.items ++ t) (from_start (codes ", ") (map binding_text (map binding_of c.args.binds.now)))

pub loop-bind-preserved : goal.loop-bind-preserved
loop-bind-preserved c =
    one_listed c.loop-bind.before.now (codes ", ") _ _ _ c.loop-bind.out.items _ _ _
    (ap (λ xs. map binding_text (map binding_of xs)) (taken c.args.binds.now c.loop-bind.bind-index c.bind-item.result c.loop-bind-test.true c.bind-item.is))
    c.loop-bind.invariant c.in_ok-push_bytes.ensures.ok c.in_ok-push_binding.ensures

pub returns : goal.returns
returns c = none_listed c.loop-bind.before.now (codes ", ") _ c.loop-bind.out.items _ (ap (λ xs. map binding_text (map binding_of xs)) (drop_all c.loop-bind.bind-index c.args.binds.now c.loop-bind-test.false)) c.loop-bind.invariant
