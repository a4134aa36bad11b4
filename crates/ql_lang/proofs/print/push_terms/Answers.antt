use Rattle.std.proofs.Common.{◌++◌, ◌∙◌, ap, codes, map}
use Rattle.std.proofs.lemmas.List.{drop_all}
use Rattle.ql_lang.specs.Spelling.{term_text}
use Rattle.ql_lang.proofs.Appending.{from_start, none_listed, one_listed, taken}
use Rattle.ql_lang.proofs.print.push_terms.Goals as goal

pub loop-term-init : goal.loop-term-init
loop-term-init c = ap (λ t. c.args.out.now.items ++ t) (from_start (codes ", ") (map term_text c.args.terms.now))

pub loop-term-preserved : goal.loop-term-preserved
loop-term-preserved c =
    one_listed c.loop-term.before.now (codes ", ") _ _ _ c.loop-term.out.items _ _ _
    (ap (λ xs. map term_text xs) (taken c.args.terms.now c.loop-term.term-index c.term-item.result c.loop-term-test.true c.term-item.is))
    c.loop-term.invariant c.in_ok-push_bytes.ensures.ok (c.in_ok-push_bytes-2.ensures.ok ∙ ap (λ t. c.push_bytes.new.out.items ++ t) c.term_bytes.ensures)

pub returns : goal.returns
returns c = none_listed c.loop-term.before.now (codes ", ") _ c.loop-term.out.items _ (ap (λ xs. map term_text xs) (drop_all c.loop-term.term-index c.args.terms.now c.loop-term-test.false)) c.loop-term.invariant
