use Rattle.std.proofs.Common.{◌++◌, ◌∙◌, ap, map}
use Rattle.std.proofs.lemmas.List.{drop_all}
use Rattle.ql_lang.specs.Spelling.{word_of}
use Rattle.ql_lang.proofs.Appending.{from_start, none_listed, one_listed, taken}
use Rattle.ql_lang.proofs.print.push_names.Goals as goal

pub loop-name-init : goal.loop-name-init
loop-name-init c = ap (λ t. c.args.out.now.items ++ t) (from_start c.args.mark.now (map word_of c.args.names.now))

pub loop-name-preserved : goal.loop-name-preserved
loop-name-preserved c =
    one_listed c.loop-name.before.now c.args.mark.now _ _ _ c.loop-name.out.items _ _ _
    (ap (λ xs. map word_of xs) (taken c.args.names.now c.loop-name.name-index c.name-item.result c.loop-name-test.true c.name-item.is))
    c.loop-name.invariant c.in_ok-push_bytes.ensures.ok (c.in_ok-push_bytes-2.ensures.ok ∙ ap (λ t. c.push_bytes.new.out.items ++ t) c.bytes.ensures.same)

pub returns : goal.returns
returns c = none_listed c.loop-name.before.now c.args.mark.now _ c.loop-name.out.items _ (ap (λ xs. map word_of xs) (drop_all c.loop-name.name-index c.args.names.now c.loop-name-test.false)) c.loop-name.invariant
