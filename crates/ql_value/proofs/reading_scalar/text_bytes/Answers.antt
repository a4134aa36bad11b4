use Rattle.std.proofs.Common.{◌≡◌, ◌∙◌, ◌<◌, ℕ, true, false, List, length, length-take, take, get_or, arith, sym, ap, refl}
use Rattle.std.proofs.lemmas.Bool.Decides.{nat_tests}
use Rattle.std.specs.List.{AllPass, list_all, prefix_len}
use Rattle.std.proofs.lemmas.List.Sums.{AllPass-from_list_all, prefix_len_is}
use Rattle.std.proofs.lemmas.List.{get_or-take}
use Rattle.ql_base.specs.Bytes.{is_text_byte}
use Rattle.ql_value.proofs.reading_scalar.text_bytes.Goals as goal

no_quote : (b : ℕ) → b ≡ 34 → is_text_byte b ≡ false
unfolding is_text_byte
no_quote b e = rw e refl

-- text bytes up to a quote are all that stand before it
quote_ends : (bytes : List ℕ) (quote : ℕ) → quote < length bytes → get_or bytes quote 0 ≡ 34 → list_all is_text_byte (take quote bytes) ≡ true → quote ≡ prefix_len is_text_byte bytes
quote_ends bytes quote lt at all =
    let passes : AllPass is_text_byte (take quote bytes) = AllPass-from_list_all is_text_byte (take quote bytes) all in
    sym (prefix_len_is is_text_byte bytes quote 0 (omega arith)
    (λ k l. ap is_text_byte (sym (get_or-take quote bytes k 0 l)) ∙ passes k 0 (omega (arith, length-take quote bytes)))
    (λ l. no_quote (get_or bytes quote 0) at))

pub returns-in-Some-clause-longest : goal.returns-in-Some-clause-longest
returns-in-Some-clause-longest c =
    let found = c.in-Some.ensures in
    quote_ends c.args.bytes.now c.in-Some.quote (found.0.high) (grind (arith, nat_tests)) (cc)
