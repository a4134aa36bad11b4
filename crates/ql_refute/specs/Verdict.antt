-- The verdict on a list of lines: each is checked by unit propagation over its hints in their order.
use Rattle.std.specs.Prelude.{ℕ, ◌+◌, ◌-◌, ◌==◌, ◌≡◌, Bool, true, false, ◌&&◌, nat_le, if◌then◌else◌, List, [], ◌∷◌, ◌++◌, length, slice_get, Option, None, Some, unwrap_or}
use Rattle.std.specs.List.{list_any, list_all}
use Rattle.std.specs.Option.{option_map}
use Rattle.ql_cnf.specs.Satisfaction.{ClauseList}
use Rattle.ql_cnf.specs.declared.lit.Lit.{Lit}
use Rattle.ql_refute.specs.Partial.{Partial, nothing, with_true, with_all_false, reading}
use Rattle.ql_refute.specs.declared.marks.Reading.{Reading}
use Rattle.ql_refute.specs.declared.marks.Reading.TheVariants.{AllFalse, Forces, Neither}
use Rattle.ql_refute.specs.declared.refutation.Hint.{Hint}
use Rattle.ql_refute.specs.declared.refutation.Hint.TheVariants.{Given, Earlier}
use Rattle.ql_refute.specs.declared.refutation.Line.{Line}
use Rattle.ql_refute.specs.declared.verdict.Verdict.{Verdict}
use Rattle.ql_refute.specs.declared.verdict.Verdict.TheVariants.{Accepted, BadHint, NotUnit, NoConflict, NoEmpty, BadVariable}

-- the item of this number, from 1
abbrev pub numbered : {X : Type 0} → List X → ℕ → Option X
numbered xs n = if n == 0 then None else slice_get xs (n - 1)

-- the clause that a hint names
abbrev pub hinted : ClauseList → List Line → Hint → Option (List Lit)
hinted c earlier (Given n) = numbered c.clauses n
hinted c earlier (Earlier n) = option_map (λ line. line.clause) (numbered earlier n)

-- what a reading leads to: the line is done, or a literal is made true and the next hint is taken, or a refusal
abbrev pub after_reading : ℕ → Reading → Partial → (Partial → Option Verdict) → Option Verdict
after_reading k AllFalse p next = None
after_reading k (Forces x) p next = next (with_true p x)
after_reading k Neither p next = Some (NotUnit k)

abbrev pub after_hint : ℕ → Option (List Lit) → Partial → (Partial → Option Verdict) → Option Verdict
after_hint k None p next = Some (BadHint k)
after_hint k (Some d) p next = after_reading k (reading p d) p next

-- why the hints of line k are refused, if they are, starting from the partial assignment p
abbrev pub hints_fault : ClauseList → List Line → ℕ → List Hint → Partial → Option Verdict
hints_fault c earlier k [] p = Some (NoConflict k)
hints_fault c earlier k (h ∷ hs) p = after_hint k (hinted c earlier h) p (λ q. hints_fault c earlier k hs q)

-- the variables are 1 to n
abbrev pub variables_in_range : ℕ → List Lit → Bool
variables_in_range n c = list_all (λ x. nat_le 1 x.var && nat_le x.var n) c

-- why a line is refused after these lines, if it is
abbrev pub line_fault : ClauseList → List Line → Line → Option Verdict
line_fault c earlier line =
    if variables_in_range c.variables line.clause
    then hints_fault c earlier (length earlier + 1) line.hints (with_all_false nothing line.clause)
    else Some (BadVariable (length earlier + 1))

-- the first if there is one, or else the second
abbrev pub first_of_two : Option Verdict → Option Verdict → Option Verdict
first_of_two None w = w
first_of_two (Some v) w = Some v

-- why the first line at fault is refused, if one is; the earlier lines stand before these
abbrev pub first_fault : ClauseList → List Line → List Line → Option Verdict
first_fault c earlier [] = None
first_fault c earlier (line ∷ lines) = first_of_two (line_fault c earlier line) (first_fault c (earlier ++ line ∷ []) lines)

abbrev pub is_empty : List Lit → Bool
is_empty [] = true
is_empty (x ∷ xs) = false

-- a line is the empty clause
abbrev pub has_empty : List Line → Bool
has_empty lines = list_any (λ line. is_empty line.clause) lines

-- the verdict on the lines
abbrev pub verdict : ClauseList → List Line → Verdict
verdict c lines = unwrap_or (first_fault c [] lines) (if has_empty lines then Accepted else NoEmpty)

-- the line is good after these lines: it has no refusal there
abbrev pub IsGood : ClauseList → List Line → Line → Type 0
IsGood c earlier line = line_fault c earlier line ≡ None

-- each of the lines is good after those before it
abbrev pub AreGood : ClauseList → List Line → Type 0
AreGood c lines = first_fault c [] lines ≡ None
