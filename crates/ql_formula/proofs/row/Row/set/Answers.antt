use Rattle.std.proofs.Common.{◌≡◌, ◌∙◌, ◌||◌, ℕ, length, get_or, nat_eq, false, ◌*◌, ◌/◌, ◌%◌, ◌^◌, Bool, List, set, sym, ap, arith}
use Rattle.std.proofs.lemmas.List.{get_or_read}
use Rattle.std.specs.Prelude.{bit_or}
use Rattle.ql_formula.specs.Bits.{truths}
use Rattle.ql_formula.proofs.BitLaws.{truths-length, truths-get, set_packed}
use Rattle.ql_formula.proofs.row.Row.set.Goals as goal

pub index_mut-requires : goal.index_mut-requires
index_mut-requires c =
    let count = sym (truths-length c.self.inside.words.items c.self.inside.count) ∙ ap length c.self.view_is in
    let long = c.self.invariant.0 in
    let ok = c.self.inside.words.ok.0 in
    omega (arith, c.requires, count, long, ok)

pub invariant_of-self : goal.invariant_of-self
invariant_of-self c =
    let words = c.self.inside.words.items in
    let k = c.args.k in
    let count = sym (truths-length words c.self.inside.count) ∙ ap length c.self.view_is in
    let long = c.self.invariant.0 in
    let word = get_or_read words (k / 64) c.index_mut.result.now (omega (arith, c.requires, count, long)) c.index_mut.ensures.value 0 in
    (set_packed words (set words (k / 64) (bit_or c.index_mut.result.now (1 * 2 ^ (k % 64) % 2 ^ 64))) c.self.inside.count k c.self.invariant (omega (arith, c.requires, count))
    (ap (λ (w : ℕ). set words (k / 64) (bit_or w (1 * 2 ^ (k % 64) % 2 ^ 64))) word)).0

pub returns-clause-length : goal.returns-clause-length
returns-clause-length c =
    let new : List ℕ = set c.self.inside.words.items (c.args.k / 64) (bit_or c.index_mut.result.now (1 * 2 ^ (c.args.k % 64) % 2 ^ 64)) in
    truths-length new c.self.inside.count ∙ sym (truths-length c.self.inside.words.items c.self.inside.count) ∙ ap length c.self.view_is

pub returns-clause-added : goal.returns-clause-added
returns-clause-added c = λ j.
    let words = c.self.inside.words.items in
    let n = c.self.inside.count in
    let k = c.args.k in
    let count = sym (truths-length words n) ∙ ap length c.self.view_is in
    let long = c.self.invariant.0 in
    let word = get_or_read words (k / 64) c.index_mut.result.now (omega (arith, c.requires, count, long)) c.index_mut.ensures.value 0 in
    let new : List ℕ = set words (k / 64) (bit_or c.index_mut.result.now (1 * 2 ^ (k % 64) % 2 ^ 64)) in
    let both = set_packed words new n k c.self.invariant (omega (arith, c.requires, count)) (ap (λ (w : ℕ). set words (k / 64) (bit_or w (1 * 2 ^ (k % 64) % 2 ^ 64))) word) in
    let before : get_or (truths words n) j false ≡ get_or c.args.self.now j false = ap (λ (l : List Bool). get_or l j false) c.self.view_is in
    truths-get new n both.0 j ∙ both.1 j ∙ ap (λ (b : Bool). b || nat_eq j k) (sym (truths-get words n c.self.invariant j) ∙ before)
