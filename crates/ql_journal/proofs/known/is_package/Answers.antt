use Rattle.std.proofs.Common.{◌≡◌, ℕ, ◌-◌, ◌≤◌, length, get_or, sym, ◌∙◌, ap, subst, arith}
use Rattle.std.proofs.lemmas.Bool.{false≢true}
use Rattle.ql_journal.specs.Within.{AgreesUpTo}
use Rattle.ql_journal.proofs.KnownLaws.{first_bounds, package_from, agrees_from, last_within}
use Rattle.ql_journal.proofs.known.is_package.Goals as goal

pub is_package_of-requires : goal.is_package_of-requires
is_package_of-requires c =
    let ids = c.args.ids.now in
    let bounds = first_bounds c.args.x.now ids c.requires in
    let least = bounds.0 in
    let most = bounds.1 in
    let first_is : c.get-first.result ≡ get_or ids 0 0 = c.get-first.ensures in
    let last_is : c.get-last.result ≡ get_or ids (length ids - 1) 0 = c.get-last.ensures ∙ ap (λ (n : ℕ). get_or ids (n - 1) 0) c.len.ensures.length in
    let size = c.len-2.ensures.length in
    let within = c.if-last-len.false in
    record { first = omega (arith, first_is, least); last = omega (arith, first_is, last_is, most, size, within) }

pub returns-then-last-len : goal.returns-then-last-len
returns-then-last-len c =
    let ids = c.args.ids.now in
    let last_is : c.get-last.result ≡ get_or ids (length ids - 1) 0 = c.get-last.ensures ∙ ap (λ (n : ℕ). get_or ids (n - 1) 0) c.len.ensures.length in
    let size = c.len-2.ensures.length in
    let past = c.if-last-len.true in (
      λ never. absurd (false≢true never),
      λ p. let within = last_within c.args.x.now ids c.requires p in absurd (omega (arith, last_is, size, past, within)),
    )

pub returns : goal.returns
returns c =
    let ids = c.args.ids.now in
    let x = c.args.x.now in
    let first_is : c.get-first.result ≡ get_or ids 0 0 = c.get-first.ensures in
    let last_is : c.get-last.result ≡ get_or ids (length ids - 1) 0 = c.get-last.ensures ∙ ap (λ (n : ℕ). get_or ids (n - 1) 0) c.len.ensures.length in
    let size = c.len-2.ensures.length in
    let under = c.if-last-len.false in
    let within : get_or ids (length ids - 1) 0 ≤ length x = omega (arith, last_is, size, under) in (
      λ is. package_from x ids c.requires within (subst (λ (f : ℕ). AgreesUpTo x f ids (length x)) first_is (c.is_package_of.ensures.0 is)),
      λ p. c.is_package_of.ensures.1 (subst (λ (f : ℕ). AgreesUpTo x f ids (length x)) (sym first_is) (agrees_from x ids c.requires p)),
    )
