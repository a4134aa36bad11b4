use Rattle.std.proofs.lemmas.Result.{err_from_is_err_and}
use Rattle.std.proofs.Common.{◌≡◌, ◌∙◌, sym, refl, true, length, nat_le, arith, rules, tests}
use Rattle.std.specs.List.{list_all}
use Rattle.std.proofs.lemmas.Bool.Decides.{nat_tests}
use Rattle.std.proofs.lemmas.Iterator.{YieldsList-from_slice}
use Rattle.std.proofs.lemmas.Iterator.Search.{all_from_yields_List}
use Rattle.ql_base.specs.Bytes.{is_text_byte}
use Rattle.ql_eval.proofs.scalar.literal.Goals as goal

pub returns-in_ok-from_slice : goal.returns-in_ok-from_slice
returns-in_ok-from_slice c =
    let f = all_from_yields_List is_text_byte _ _ c.all.result c.all.ensures.ran (YieldsList-from_slice _ c.iter.ensures.rest) (λ x b q k. search (rules, tests)) in
    let all : list_all is_text_byte c.args.literal.now ≡ true = rw (← c.items-bytes.ensures) (sym f ∙ c.if-all.true) in
    let short : nat_le (length c.args.literal.now) 64 ≡ true = rw (← c.items-bytes.ensures) (let h = c.if-bytes-le-MAX_TEXT_BYTES.true in grind (arith, nat_tests)) in
    rw (c.of.ensures, c.in_ok-from_slice.ensures.items, c.items-bytes.ensures, short, all) refl

pub returns-in_err-from_slice : goal.returns-in_err-from_slice
returns-in_err-from_slice c = let p = err_from_is_err_and c.from_residual.result c.from_residual.ensures.1 in rw p.1 tt
