use Rattle.std.proofs.Common.{◌≡◌, ◌∙◌, ◌||◌, ℕ, length, get_or, false, Bool, List, sym, ap, subst, arith}
use Rattle.std.proofs.lemmas.List.{with_items_is}
use Rattle.std.specs.Prelude.{bit_or}
use Rattle.std.specs.Vec.{with_items}
use Rattle.ql_formula.specs.Bits.{bit, truths, ArePacked}
use Rattle.ql_formula.proofs.BitLaws.{truths-length, truths-get, unite_packed}
use Rattle.ql_formula.proofs.row.Row.unite.Goals as goal

pub unite_words-requires : goal.unite_words-requires
unite_words-requires c =
    let count = sym (truths-length c.self.inside.words.items c.self.inside.count) ∙ ap length c.self.view_is in
    let other = sym (truths-length c.other.inside.words.items c.other.inside.count) ∙ ap length c.other.view_is in
    let long = c.self.invariant.0 in
    let others = c.other.invariant.0 in
    omega (arith, c.requires, count, other, long, others, ap length c.deref.ensures.value, ap length c.as_mut_slice.ensures.value)

pub invariant_of-self : goal.invariant_of-self
invariant_of-self c =
    let words = c.self.inside.words.items in
    let others = c.other.inside.words.items in
    let new = c.unite_words.new.words in
    let count = sym (truths-length words c.self.inside.count) ∙ ap length c.self.view_is in
    let other = sym (truths-length others c.other.inside.count) ∙ ap length c.other.view_is in
    let same : length new ≡ length words = c.unite_words.ensures.length ∙ ap length c.as_mut_slice.ensures.value in
    let ok = c.self.inside.words.ok.0 in
    let united : (k : ℕ) → get_or new k 0 ≡ bit_or (get_or words k 0) (get_or others k 0) =
    λ k. c.unite_words.ensures.united k ∙ ap (λ (l : List ℕ). bit_or (get_or l k 0) (get_or c.deref.result.now k 0)) c.as_mut_slice.ensures.value
    ∙ ap (λ (l : List ℕ). bit_or (get_or words k 0) (get_or l k 0)) c.deref.ensures.value in
    subst (λ (l : List ℕ). ArePacked l c.self.inside.count) (sym (with_items_is c.self.inside.words new (omega (arith, same, ok))))
    (unite_packed words new others c.self.inside.count c.other.inside.count c.self.invariant c.other.invariant (omega (arith, c.requires, count, other)) same united).0

pub returns-clause-length : goal.returns-clause-length
returns-clause-length c =
    truths-length (with_items c.self.inside.words c.unite_words.new.words).items c.self.inside.count
    ∙ sym (truths-length c.self.inside.words.items c.self.inside.count) ∙ ap length c.self.view_is

pub returns-clause-united : goal.returns-clause-united
returns-clause-united c = λ j.
    let words = c.self.inside.words.items in
    let others = c.other.inside.words.items in
    let n = c.self.inside.count in
    let m = c.other.inside.count in
    let new = c.unite_words.new.words in
    let count = sym (truths-length words n) ∙ ap length c.self.view_is in
    let other = sym (truths-length others m) ∙ ap length c.other.view_is in
    let same : length new ≡ length words = c.unite_words.ensures.length ∙ ap length c.as_mut_slice.ensures.value in
    let ok = c.self.inside.words.ok.0 in
    let united : (k : ℕ) → get_or new k 0 ≡ bit_or (get_or words k 0) (get_or others k 0) =
    λ k. c.unite_words.ensures.united k ∙ ap (λ (l : List ℕ). bit_or (get_or l k 0) (get_or c.deref.result.now k 0)) c.as_mut_slice.ensures.value
    ∙ ap (λ (l : List ℕ). bit_or (get_or words k 0) (get_or l k 0)) c.deref.ensures.value in
    let both = unite_packed words new others n m c.self.invariant c.other.invariant (omega (arith, c.requires, count, other)) same united in
    ap (λ (l : List ℕ). get_or (truths l n) j false) (with_items_is c.self.inside.words new (omega (arith, same, ok)))
    ∙ truths-get new n both.0 j ∙ both.1 j
    ∙ ap (λ (b : Bool). b || bit others j) (sym (truths-get words n c.self.invariant j) ∙ ap (λ (l : List Bool). get_or l j false) c.self.view_is)
    ∙ ap (λ (b : Bool). get_or c.args.self.now j false || b) (sym (truths-get others m c.other.invariant j) ∙ ap (λ (l : List Bool). get_or l j false) c.other.view_is)
