use Rattle.std.proofs.lemmas.Result.{err_from_is_err_and}
use Rattle.std.proofs.Common.{◌≡◌, ◌+◌, ◌++◌, ◌∷◌, [], slice_get, Some, ap, ◌∙◌, length, refl, arith}
use Rattle.std.proofs.lemmas.List.{take_all}
use Rattle.std.proofs.lemmas.Option.{slice_get_read}
use Rattle.ql_lines.specs.Texts.{file_text, joined}
use Rattle.ql_report.specs.NumberedLines.{lines_from}
use Rattle.ql_report.specs.RunTexts.{numbered_reply_fields}
use Rattle.ql_report.proofs.Printing.{more_lines, no_lines}
use Rattle.ql_report.proofs.replies.push_replies.Goals as goal

pub loop-k-init : goal.loop-k-init
loop-k-init c = no_lines (numbered_reply_fields c.args.x.now) c.args.out.now.items

pub loop-k-preserved : goal.loop-k-preserved
loop-k-preserved c =
    let line = numbered_reply_fields c.args.x.now in
    let k = c.loop-k.k in
    let r = c.index-replies-k.result in
    let at : slice_get c.args.replies.now k ≡ Some r = slice_get_read c.args.replies.now (length c.args.replies.now) k r refl c.loop-k-test.true c.index-replies-k.is in
    c.in_ok-push_event.ensures ∙ ap (λ t. t ++ (joined (line (k + 1) r) ++ 10 ∷ [])) c.loop-k.invariant ∙ more_lines line c.args.replies.now k r c.args.out.now.items at

pub returns : goal.returns
returns c = c.loop-k.invariant ∙ ap (λ rs. c.args.out.now.items ++ file_text (lines_from (numbered_reply_fields c.args.x.now) 1 rs)) (take_all c.loop-k.k c.args.replies.now (omega arith))

pub returns-in_err-push_event : goal.returns-in_err-push_event
returns-in_err-push_event c = let p = err_from_is_err_and c.from_residual.result c.from_residual.ensures.1 in rw p.1 tt
