use Rattle.std.proofs.Common.{◌∙◌, ap, sym}
use Rattle.ql_lang.specs.declared.program.TypeDecl.{TypeDecl}
use Rattle.ql_typing.proofs.Flat.{found_kind, no_kind, passed_kind}
use Rattle.ql_typing.proofs.lookup.find_kind.Goals as goal

pub returns-then-left-ops-clause-kind : goal.returns-then-left-ops-clause-kind
returns-then-left-ops-clause-kind c =
    found_kind c.args.types.now c.loop-k.k c.index-types-k.result c.items-ops.result.now c.loop-k.left c.args.number c.loop-k-test.true c.index-types-k.is (c.items-ops.ensures ∙ ap (λ (t : TypeDecl). t.ops) (sym c.index-types-k.is)) c.if-left-ops.true c.loop-k.invariant

pub loop-k-preserved : goal.loop-k-preserved
loop-k-preserved c =
    passed_kind c.args.types.now c.loop-k.k c.index-types-k.result c.items-ops.result.now c.loop-k.left c.args.number c.loop-k-test.true c.index-types-k.is (c.items-ops.ensures ∙ ap (λ (t : TypeDecl). t.ops) (sym c.index-types-k.is)) c.if-left-ops.false c.loop-k.invariant

pub returns-clause-kind : goal.returns-clause-kind
returns-clause-kind c = no_kind c.args.types.now c.loop-k.k c.loop-k.left c.args.number c.loop-k-test.false c.loop-k.invariant
