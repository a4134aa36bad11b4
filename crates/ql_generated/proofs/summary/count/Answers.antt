use Rattle.std.proofs.Common.{◌≡◌, slice_get, Some, ap, ◌∙◌, length, take, refl, arith, add-one}
use Rattle.std.specs.Str.{bytes_eq}
use Rattle.std.proofs.lemmas.Option.{slice_get_read}
use Rattle.ql_generated.specs.Summaries.{count, reply_word}
use Rattle.ql_generated.proofs.Counting.{count_more, none_counted, one_small}
use Rattle.ql_generated.proofs.summary.count.Goals as goal

pub loop-k-init : goal.loop-k-init
loop-k-init c = (none_counted c.args.word.now c.args.replies.now, omega arith)

pub loop-k-preserved : goal.loop-k-preserved
loop-k-preserved c =
    let k = c.loop-k.k in
    let word = c.args.word.now in
    let replies = c.args.replies.now in
    let r = c.index-replies-k.result in
    let at : slice_get replies k ≡ Some r = slice_get_read replies (length replies) k r refl c.loop-k-test.true c.index-replies-k.is in
    let next = ap (λ n. count word (take n replies)) (add-one k) ∙ count_more word replies k r at in
    let small = one_small (bytes_eq (reply_word r) word) in
    (omega (arith, c.one_for-number.ensures, c.loop-k.invariant.0, next), omega (arith, c.one_for-number.ensures, c.loop-k.invariant.1, small))
