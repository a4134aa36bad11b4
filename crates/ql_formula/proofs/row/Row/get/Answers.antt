use Rattle.std.proofs.Common.{◌≡◌, ◌∙◌, ℕ, length, get_or, ◌/◌, List, sym, ap, arith}
use Rattle.ql_formula.proofs.BitLaws.{truths-get, bit_read, bit_past}
use Rattle.ql_formula.proofs.row.Row.get.Goals as goal

pub returns-in-Some : goal.returns-in-Some
returns-in-Some c =
    let words = c.self.inside.words.items in
    let k = c.args.k in
    let word : c.in-Some.word.now ≡ get_or words (k / 64) 0 =
    c.in-Some.ensures.lookup.3.1 0 ∙ ap (λ (l : List ℕ). get_or l (k / 64) 0) c.deref.ensures.value in
    rw (← c.self.view_is, word) (bit_read words k ∙ sym (truths-get words c.self.inside.count c.self.invariant k))

pub returns-in-None : goal.returns-in-None
returns-in-None c =
    let words = c.self.inside.words.items in
    let k = c.args.k in
    let past = c.in-None.ensures.lookup.3 in
    rw (← c.self.view_is) (sym (truths-get words c.self.inside.count c.self.invariant k ∙ bit_past words k (omega (arith, past, ap length c.deref.ensures.value))))
