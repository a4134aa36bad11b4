-- Lines that are good, and what their numbers name.
use Rattle.std.proofs.Common.{◌≡◌, ℕ, zero, suc, ◌+◌, ◌-◌, Bool, true, false, cond, ◌||◌, List, [], ◌∷◌, ◌++◌, Option, Some, None, length, refl, arith}
use Rattle.std.proofs.lemmas.Bool.Decides.{nat_tests}
use Rattle.std.specs.Prelude.{◌==◌, slice_get}
use Rattle.std.specs.Option.{option_map}
use Rattle.ql_cnf.specs.Satisfaction.{ClauseList, AreInRange}
use Rattle.ql_cnf.specs.declared.lit.Lit.{Lit}
use Rattle.ql_refute.specs.Partial.{nothing, with_all_false}
use Rattle.ql_refute.specs.Verdict.{numbered, hinted, hints_fault, has_empty, is_empty, IsGood, AreGood, verdict}
use Rattle.ql_refute.specs.declared.refutation.Hint.{Hint}
use Rattle.ql_refute.specs.declared.refutation.Hint.TheVariants.{Earlier}
use Rattle.ql_refute.specs.declared.refutation.Line.{Line}
use Rattle.ql_refute.specs.declared.verdict.Verdict.TheVariants.{Accepted}
use Rattle.ql_refute.proofs.Laws.{AreGood-push, verdict-good}
use Rattle.ql_refute.proofs.Steps.{in_range-true}

-- a line of a conflict is good
pub good_line : (c : ClauseList) (e : List Line) (clause : List Lit) (hints : List Hint) → AreInRange c.variables clause → hints_fault c e (length e + 1) hints (with_all_false nothing clause) ≡ None → IsGood c e (record { clause = clause; hints = hints })
good_line c e clause hints inside none = rw (in_range-true c.variables clause inside) none

-- the last line's clause is the one that its number names
pub pushed_names : (c : ClauseList) (ls : List Line) (line : Line) (n : ℕ) → n ≡ length ls + 1 → hinted c (ls ++ line ∷ []) (Earlier n) ≡ Some line.clause
pushed_names c ls line n e = rw (e, number ls line) refl
  where
    at_end : (ls : List Line) (line : Line) → slice_get (ls ++ line ∷ []) (length ls) ≡ Some line
    at_end [] line = refl
    at_end (x ∷ xs) line = at_end xs line

    not_zero : (n : ℕ) → (n + 1 == 0) ≡ false
    not_zero n = grind (arith, nat_tests)

    less_one : (n : ℕ) → n + 1 - 1 ≡ n
    less_one n = omega arith

    number : (ls : List Line) (line : Line) → numbered (ls ++ line ∷ []) (length ls + 1) ≡ Some line
    number ls line = rw (not_zero (length ls), less_one (length ls)) (at_end ls line)

-- a good line more
pub pushed_good : (c : ClauseList) (ls : List Line) (clause : List Lit) (hints : List Hint) → AreGood c ls → AreInRange c.variables clause → hints_fault c ls (length ls + 1) hints (with_all_false nothing clause) ≡ None → AreGood c (ls ++ record { clause = clause; hints = hints } ∷ [])
pushed_good c ls clause hints good inside none = AreGood-push c ls (record { clause = clause; hints = hints }) good (good_line c ls clause hints inside none)

-- good lines with one that is empty are accepted
pub accepted : (c : ClauseList) (ls : List Line) (n : ℕ) → AreGood c ls → hinted c ls (Earlier n) ≡ Some [] → verdict c ls ≡ Accepted
accepted c ls n good h = verdict-good c ls good (by_line (numbered ls n) refl h)
  where
    at : (ms : List Line) (k : ℕ) (line : Line) → slice_get ms k ≡ Some line → is_empty line.clause ≡ true → has_empty ms ≡ true
    at [] k line e f = absurd (cc)
    at (x ∷ xs) zero line e f = let same : x ≡ line = cc in rw (same, f) refl
    at (x ∷ xs) (suc k) line e f = rw (at xs k line e f) (or_true (is_empty x.clause))
      where
        or_true : (b : Bool) → (b || true) ≡ true
        or_true true = refl
        or_true false = refl

    by_number : (b : Bool) (line : Line) → cond b None (slice_get ls (n - 1)) ≡ Some line → is_empty line.clause ≡ true → has_empty ls ≡ true
    by_number true line e f = absurd (cc)
    by_number false line e f = at ls (n - 1) line e f

    by_line : (o : Option Line) → numbered ls n ≡ o → option_map (λ line. line.clause) o ≡ Some [] → has_empty ls ≡ true
    by_line None e f = absurd (cc)
    by_line (Some line) e f = let none : line.clause ≡ [] = cc in by_number (n == 0) line e (rw none refl)
