-- The clauses of a clause list and of lines after it, and what names them.
use Rattle.std.proofs.Common.{◌≡◌, ℕ, ◌+◌, ◌-◌, ◌<◌, ◌≤◌, Bool, true, false, List, [], ◌∷◌, ◌++◌, map, Some, length, get_or, refl, ◌∙◌, ap, sym, arith}
use Rattle.std.proofs.lemmas.Bool.Decides.{nat_tests}
use Rattle.std.proofs.lemmas.List.{append-nil, append_assoc, get_or-append_right, get_or-map, get_or_append_left, length-append, length-map, map-append}
use Rattle.std.proofs.lemmas.Option.{slice_get-get_or}
use Rattle.std.specs.Prelude.{nat_lt}
use Rattle.ql_cnf.specs.Satisfaction.{ClauseList, with_clause}
use Rattle.ql_cnf.specs.declared.lit.Lit.{Lit}
use Rattle.ql_refute.specs.Verdict.{numbered, hinted}
use Rattle.ql_refute.specs.declared.refutation.Hint.{Hint}
use Rattle.ql_refute.specs.declared.refutation.Hint.TheVariants.{Given, Earlier}
use Rattle.ql_refute.specs.declared.refutation.Line.{Line}
use Rattle.ql_sat.specs.Settled.{with_lines}
use Rattle.ql_sat.proofs.Forcing.{given_named}
use Rattle.ql_sat.proofs.Numbers.{numbered_next}

abbrev clauses_of : List Line → List (List Lit)
clauses_of lines = map (λ line. line.clause) lines

abbrev no_line : Line
no_line = record { clause = []; hints = [] }

count_all : (c : ClauseList) (lines : List Line) → length (with_lines c lines).clauses ≡ length c.clauses + length lines
count_all c lines = length-append c.clauses (clauses_of lines) ∙ ap (λ (n : ℕ). length c.clauses + n) (length-map lines (λ line. line.clause))

pub given_within : (c : ClauseList) (lines : List Line) (k : ℕ) → k < length c.clauses → k < length (with_lines c lines).clauses
given_within c lines k l = omega (arith, l, count_all c lines)

-- the given clauses are the first ones
pub given_stays : (c : ClauseList) (lines : List Line) (k : ℕ) → k < length c.clauses → get_or (with_lines c lines).clauses k [] ≡ get_or c.clauses k []
given_stays c lines k l = get_or_append_left c.clauses (clauses_of lines) [] k l

pub no_lines : (c : ClauseList) → with_lines c [] ≡ c
no_lines c = ap (λ (cs : List (List Lit)). record { variables = c.variables; clauses = cs }) (append-nil c.clauses)

-- one line more
pub line_more : (c : ClauseList) (lines : List Line) (line : Line) → with_lines c (lines ++ line ∷ []) ≡ with_clause (with_lines c lines) (Some line.clause)
line_more c lines line =
    ap (λ (cs : List (List Lit)). record { variables = c.variables; clauses = cs })
    (ap (λ (cs : List (List Lit)). c.clauses ++ cs) (map-append (λ line. line.clause) lines (line ∷ [])) ∙ sym (append_assoc c.clauses (clauses_of lines) (line.clause ∷ [])))

line_named : (c : ClauseList) (lines : List Line) (n : ℕ) → n < length lines → hinted c lines (Earlier (n + 1)) ≡ Some (get_or lines n no_line).clause
line_named c lines n l =
    let same : n + 1 - 1 ≡ n = omega arith in
    let named : numbered lines (n + 1) ≡ Some (get_or lines n no_line) = numbered_next lines n (get_or lines n no_line) (rw same (slice_get-get_or lines n no_line l)) in
    rw named refl

names_line : (c : ClauseList) (lines : List Line) (k : ℕ) → length c.clauses ≤ k → k < length (with_lines c lines).clauses → hinted c lines (Earlier (k - length c.clauses + 1)) ≡ Some (get_or (with_lines c lines).clauses k [])
names_line c lines k least l =
    let within : k - length c.clauses < length lines = omega (arith, l, count_all c lines) in
    line_named c lines (k - length c.clauses) within
    ∙ ap Some (sym (get_or-append_right c.clauses (clauses_of lines) (length c.clauses) k [] refl least ∙ get_or-map (λ line. line.clause) lines (k - length c.clauses) no_line [] within))

-- what the name of a clause stands for
pub hint_names : (c : ClauseList) (lines : List Line) (k n : ℕ) (h : Hint) → k + 1 < n → (k < length c.clauses → h ≡ Given (k + 1)) → (length c.clauses ≤ k → k - length c.clauses + 1 < n → h ≡ Earlier (k - length c.clauses + 1)) → k < length (with_lines c lines).clauses → hinted c lines h ≡ Some (get_or (with_lines c lines).clauses k [])
hint_names c lines k n h fits given learned l = step (nat_lt k (length c.clauses)) refl
  where
    below : (a b : ℕ) → nat_lt a b ≡ true → a < b
    below a b e = grind (arith, nat_tests)

    least : (a b : ℕ) → nat_lt a b ≡ false → b ≤ a
    least a b e = grind (arith, nat_tests)

    step : (b : Bool) → nat_lt k (length c.clauses) ≡ b → hinted c lines h ≡ Some (get_or (with_lines c lines).clauses k [])
    step true e =
        let first : k < length c.clauses = below k (length c.clauses) e in
        rw (given first) (given_named c lines k first) ∙ ap Some (sym (given_stays c lines k first))
    step false e =
        let after : length c.clauses ≤ k = least k (length c.clauses) e in
        rw (learned after (omega (arith, fits, after))) (names_line c lines k after l)
