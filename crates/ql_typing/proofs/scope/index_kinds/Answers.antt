use Rattle.std.proofs.Common.{◌≡◌, ◌-◌, ◌∙◌, ap, arith, cond, drop, length, sym, Some}
use Rattle.std.specs.Map.{lookup}
use Rattle.std.specs.Str.{bytes_eq}
use Rattle.indexmap.specs.IndexMap.{get}
use Rattle.ql_typing.specs.Kinds.{kind_in}
use Rattle.ql_typing.proofs.Each.{no_item}
use Rattle.ql_typing.proofs.KindsIn.{kind_before, kind_nowhere}
use Rattle.ql_typing.proofs.WordEq.{word_eq}
use Rattle.ql_typing.proofs.scope.index_kinds.Goals as goal

pub loop-k-init : goal.loop-k-init
loop-k-init c = λ w.
    ap (λ es. lookup (bytes_eq w) es) c.new-kinds.ensures.empty ∙ kind_nowhere w
    ∙ ap (λ ks. kind_in ks w) (sym (no_item c.args.known.now (length c.args.known.now - 0) (omega arith)))

pub loop-k-preserved : goal.loop-k-preserved
loop-k-preserved c = λ w.
    ap (λ eq. get eq c.insert.new.self w) (sym word_eq) ∙ c.in_ok-insert.ensures.updates.0 w
    ∙ ap (λ eq. cond (eq c.index-known-known.result.word w) (Some c.index-known-known.result.kind) (get eq c.loop-k.kinds w)) word_eq
    ∙ kind_before c.args.known.now c.loop-k.k c.index-known-known.result w (get bytes_eq c.loop-k.kinds w) c.loop-k-test.true c.index-known-known.is (c.loop-k.invariant w)

pub returns : goal.returns
returns c = λ w.
    let none : length c.args.known.now - c.loop-k.k ≡ 0 = omega (arith, c.loop-k-test.false) in
    c.loop-k.invariant w ∙ ap (λ n. kind_in (drop n c.args.known.now) w) none
