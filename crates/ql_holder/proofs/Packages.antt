-- Transactions and packages in an execution, and in a longer one.
use Rattle.std.proofs.Common.{◌≡◌, ℕ, ◌≤◌, ◌⊎◌, true, false, nat_eq, List, ◌++◌, length, Some, refl, sym, subst, ◌∙◌, inl, inr, arith, length-append}
use Rattle.std.proofs.lemmas.Option.{same_Some}
use Rattle.std.proofs.lemmas.Bool.{false≢true, or_cases, or_left, or_right, eq-eqb, eqb-true, both_ways, cases_lt, false_from_ne_true}
use Rattle.ql_base.specs.IdLists.{has_id, union_of}
use Rattle.ql_exec.specs.declared.effect.Effect.{Effect}
use Rattle.ql_exec.specs.declared.effect.Member.{Member}
use Rattle.ql_exec.specs.declared.effect.Member.TheVariants.{Alone, Inside}
use Rattle.ql_exec.specs.Effects.{effect_at, both}
use Rattle.ql_exec.specs.Execution.{IsExecution}
use Rattle.ql_exec.specs.Relations.{sametxn, same_run}
use Rattle.ql_exec.proofs.Finding.{effect_at-within, both-found}
use Rattle.ql_holder.specs.Closed.{Reaches, here, through, Has, Closed}
use Rattle.ql_holder.specs.Needs.{Needs, AreThere, AreWhole, IsPackage, IsNeeded, JoinsNone}
use Rattle.ql_holder.proofs.ClosedLaws.{closed-need, reached-along, reached-once}
use Rattle.ql_holder.proofs.NeedsLaws.{at-first, step-before, sametxn-shorter}
use Rattle.ql_holder.proofs.IdSets.{in_union-left, in_union-right, in_union-cases}

-- ---- one transaction

same_run-through : (m n q : Member) → same_run m n ≡ true → same_run n q ≡ true → same_run m q ≡ true
same_run-through m n Alone one two = absurd (false≢true two)
same_run-through m Alone (Inside r s) one two = absurd (false≢true two)
same_run-through Alone (Inside p u) (Inside r s) one two = absurd (false≢true one)
same_run-through (Inside o t) (Inside p u) (Inside r s) one two = eq-eqb o.0 r.0 (eqb-true o.0 p.0 one ∙ eqb-true p.0 r.0 two)

same_run-back : (m n : Member) → same_run m n ≡ true → same_run n m ≡ true
same_run-back m Alone is = absurd (false≢true is)
same_run-back Alone (Inside p u) is = absurd (false≢true is)
same_run-back (Inside o t) (Inside p u) is = eq-eqb p.0 o.0 (sym (eqb-true o.0 p.0 is))

sametxn_cases : (x : List Effect) (a b : ℕ) → sametxn x a b ≡ true → (a ≡ b) ⊎ (both (λ e f. same_run e.member f.member) (effect_at x a) (effect_at x b) ≡ true)
sametxn_cases x a b is = elim (or_cases (nat_eq a b) (both (λ e f. same_run e.member f.member) (effect_at x a) (effect_at x b)) is) [
  | inl same ↦ inl (eqb-true a b same)
  | inr run ↦ inr run
]

run_from : (x : List Effect) (a b : ℕ) (e f : Effect) → effect_at x a ≡ Some e → effect_at x b ≡ Some f → same_run e.member f.member ≡ true
    → both (λ e f. same_run e.member f.member) (effect_at x a) (effect_at x b) ≡ true
run_from x a b e f at there same = rw (at, there) same

sametxn_run : (x : List Effect) (a b : ℕ) → both (λ e f. same_run e.member f.member) (effect_at x a) (effect_at x b) ≡ true → sametxn x a b ≡ true
sametxn_run x a b is = or_right (nat_eq a b) (both (λ e f. same_run e.member f.member) (effect_at x a) (effect_at x b)) is

pub sametxn-itself : (x : List Effect) (a : ℕ) → sametxn x a a ≡ true
sametxn-itself x a = or_left (nat_eq a a) (both (λ e f. same_run e.member f.member) (effect_at x a) (effect_at x a)) (eq-eqb a a refl)

pub sametxn-back : (x : List Effect) (a b : ℕ) → sametxn x a b ≡ true → sametxn x b a ≡ true
sametxn-back x a b is = elim (sametxn_cases x a b is) [
  | inl same ↦ subst (λ (c : ℕ). sametxn x c a ≡ true) same (sametxn-itself x a)
  | inr run ↦
      let found = both-found (λ e f. same_run e.member f.member) (effect_at x a) (effect_at x b) run in
      sametxn_run x b a (run_from x b a found.1 found.0 found.3 found.2 (same_run-back found.0.member found.1.member found.4))
]

pub sametxn-along : (x : List Effect) (a b c : ℕ) → sametxn x a b ≡ true → sametxn x b c ≡ true → sametxn x a c ≡ true
sametxn-along x a b c one two = elim (sametxn_cases x a b one) [
  | inl same ↦ subst (λ (d : ℕ). sametxn x d c ≡ true) (sym same) two
  | inr run ↦ elim (sametxn_cases x b c two) [
    | inl same ↦ subst (λ (d : ℕ). sametxn x a d ≡ true) same one
    | inr later ↦
        let first = both-found (λ e f. same_run e.member f.member) (effect_at x a) (effect_at x b) run in
        let second = both-found (λ e f. same_run e.member f.member) (effect_at x b) (effect_at x c) later in
        let same : second.0 ≡ first.1 = same_Some second.0 first.1 (sym second.2 ∙ first.3) in
        let first_run : same_run first.0.member second.0.member ≡ true = subst (λ (e : Effect). same_run first.0.member e.member ≡ true) (sym same) first.4 in
        sametxn_run x a c (run_from x a c first.0 second.1 first.2 second.3 (same_run-through first.0.member second.0.member second.1.member first_run second.4))
  ]
]

pub sametxn-there : (x : List Effect) (a b : ℕ) → 1 ≤ a → a ≤ length x → sametxn x a b ≡ true → (1 ≤ b) × (b ≤ length x)
sametxn-there x a b first last is = elim (sametxn_cases x a b is) [
  | inl same ↦ (omega (arith, same), omega (arith, same))
  | inr run ↦
      let found = both-found (λ e f. same_run e.member f.member) (effect_at x a) (effect_at x b) run in
      (at-first x b found.1 found.3, effect_at-within x b found.1 found.3)
]

-- ---- packages

pub package-member : (x : List Effect) (ids : List ℕ) (p : IsPackage x ids) → Has ids p.member
package-member x ids p = p.all p.member ∙ sametxn-itself x p.member

pub package-whole : (x : List Effect) (ids : List ℕ) → IsPackage x ids → AreWhole x ids
package-whole x ids p = record {
  there = λ a is. sametxn-there x p.member a p.first p.last (sym (p.all a) ∙ is);
  whole = λ a b is same. p.all b ∙ sametxn-along x p.member a b (sym (p.all a) ∙ is) same;
}

pub package-each : (x : List Effect) (ids : List ℕ) → IsPackage x ids → (a b : ℕ) → Has ids a → Has ids b → sametxn x a b ≡ true
package-each x ids p a b one two = sametxn-along x a p.member b (sametxn-back x p.member a (sym (p.all a) ∙ one)) (sym (p.all b) ∙ two)

-- all of a package are in a set of whole transactions, or none is
pub package-in : (x : List Effect) (ids set : List ℕ) → IsPackage x ids → AreWhole x set → (a : ℕ) → Has ids a → Has set a → (b : ℕ) → Has ids b → Has set b
package-in x ids set p w a is there = λ b other. w.whole a b there (package-each x ids p a b is other)

pub package-out : (x : List Effect) (ids set : List ℕ) → IsPackage x ids → AreWhole x set → (a : ℕ) → Has ids a → has_id set a ≡ false → (b : ℕ) → Has ids b → has_id set b ≡ false
package-out x ids set p w a is absent = λ b other. false_from_ne_true (has_id set b) (λ there. both_ways (has_id set a) absent (package-in x ids set p w b other there a is))

-- one of a package reaches what another reaches
pub package-reach : (x : List Effect) (ids : List ℕ) → IsPackage x ids → (a b c : ℕ) → Has ids a → Has ids b → Reaches (Needs x) a c → Reaches (Needs x) b c
package-reach x ids p a b c one two reached = through b a c (inr (refl, package-each x ids p b a two one)) reached

-- one of a package is in the closed part only with all of it
pub package-closed : (x : List Effect) (ids : List ℕ) (set : ℕ → Type 0) → IsPackage x ids → (a b : ℕ) → Has ids a → Has ids b → Closed (Needs x) set a → Closed (Needs x) set b
package-closed x ids set p a b one two closed = closed-need (Needs x) set a b closed (inr (refl, package-each x ids p a b one two))

pub whole-union : (x : List Effect) (before ids : List ℕ) → AreWhole x before → IsPackage x ids → AreWhole x (union_of before ids)
whole-union x before ids w p = record {
  there = λ a is. elim (in_union-cases before ids a is) [
    | inl old ↦ w.there a old
    | inr new ↦ (package-whole x ids p).there a new
  ];
  whole = λ a b is same. elim (in_union-cases before ids a is) [
    | inl old ↦ in_union-left before ids b (w.whole a b old same)
    | inr new ↦ in_union-right before ids b ((package-whole x ids p).whole a b new same)
  ];
}

-- ---- in a longer execution

longer : (x more : List Effect) (a : ℕ) → a ≤ length x → a ≤ length (x ++ more)
longer x more a within = omega (arith, within, length-append x more)

pub whole-grown : (x more : List Effect) (ids : List ℕ) → AreWhole x ids → JoinsNone x more ids → AreWhole (x ++ more) ids
whole-grown x more ids w alone = record {
  there = λ a is. (let there = w.there a is in (there.0, longer x more a there.1));
  whole = λ a b is same. elim (cases_lt (length x) b) [
    | inl past ↦ absurd (both_ways (sametxn (x ++ more) a b) (alone a b is past) same)
    | inr within ↦ w.whole a b is (sym (sametxn-shorter x more a b (w.there a is).1 within) ∙ same)
  ];
}

pub package-grown : (x more : List Effect) (ids : List ℕ) → IsPackage x ids → JoinsNone x more ids → IsPackage (x ++ more) ids
package-grown x more ids p alone = record {
  member = p.member;
  first = p.first;
  last = longer x more p.member p.last;
  all = λ a. elim (cases_lt (length x) a) [
    | inl past ↦
        false_from_ne_true (has_id ids a) (λ is. (let there = (package-whole x ids p).there a is in absurd (omega (arith, there, past))))
        ∙ sym (alone p.member a (package-member x ids p) past)
    | inr within ↦ p.all a ∙ sym (sametxn-shorter x more p.member a p.last within)
  ];
}

-- what joins none of a set joins none of a part
pub joins-fewer : (x more : List Effect) (ids part : List ℕ) → ((a : ℕ) → Has part a → Has ids a) → JoinsNone x more ids → JoinsNone x more part
joins-fewer x more ids part within alone = λ a b is past. alone a b (within a is) past

-- ---- what is needed

pub needs-there : (x : List Effect) → IsExecution x → (a b : ℕ) → 1 ≤ a → a ≤ length x → Needs x a b → (1 ≤ b) × (b ≤ length x)
needs-there x law a b first last (inl step) =
    let before = step-before x law a b step in
    let less = before.1 in
    let most = before.2 in
    (before.0, omega (arith, less, most, last))
needs-there x law a b first last (inr txn) = sametxn-there x a b first last txn.1

reached-there : (x : List Effect) → IsExecution x → (a b : ℕ) → 1 ≤ a → a ≤ length x → Reaches (Needs x) a b → (1 ≤ b) × (b ≤ length x)
reached-there x law a b first last (here _) = (first, last)
reached-there x law a b first last (through _ c _ need rest) =
    let there = needs-there x law a c first last need in
    reached-there x law c b there.0 there.1 rest

-- what is needed by effects is an effect
pub needed-there : (x : List Effect) (ids : List ℕ) → IsExecution x → AreThere x ids → (a : ℕ) → IsNeeded x ids a → (1 ≤ a) × (a ≤ length x)
needed-there x ids law there a needed =
    let first = there needed.0 needed.1 in
    reached-there x law needed.0 a first.0 first.1 needed.2

pub needed-itself : (x : List Effect) (ids : List ℕ) (a : ℕ) → Has ids a → IsNeeded x ids a
needed-itself x ids a is = (a, is, here a)

pub needed-need : (x : List Effect) (ids : List ℕ) (a b : ℕ) → IsNeeded x ids a → Needs x a b → IsNeeded x ids b
needed-need x ids a b needed need = (needed.0, needed.1, reached-along (Needs x) needed.0 a b needed.2 (reached-once (Needs x) a b need))
