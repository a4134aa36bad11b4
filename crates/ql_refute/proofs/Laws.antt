-- Laws for whoever makes refutations: how good lines are put together.
use Rattle.std.proofs.Common.{◌≡◌, ℕ, zero, suc, ◌+◌, ◌-◌, ◌≤◌, Bool, true, false, cond, ◌&&◌, List, [], ◌∷◌, ◌++◌, Option, Some, None, length, refl, sym, ◌∙◌, ap, arith, append_assoc}
use Rattle.std.proofs.lemmas.Bool.Decides.{nat_tests}
use Rattle.std.proofs.lemmas.List.{append-nil}
use Rattle.std.specs.Prelude.{◌==◌, nat_le, slice_get}
use Rattle.std.specs.Option.{option_map}
use Rattle.ql_cnf.specs.Satisfaction.{ClauseList}
use Rattle.ql_cnf.specs.declared.lit.Lit.{Lit}
use Rattle.ql_refute.specs.Partial.{Partial, nothing, with_true, with_all_false, reading}
use Rattle.ql_refute.specs.Verdict.{numbered, hinted, after_reading, after_hint, hints_fault, variables_in_range, line_fault, first_of_two, first_fault, has_empty, verdict, IsGood, AreGood}
use Rattle.ql_refute.specs.declared.marks.Reading.{Reading}
use Rattle.ql_refute.specs.declared.marks.Reading.TheVariants.{AllFalse, Forces, Neither}
use Rattle.ql_refute.specs.declared.refutation.Hint.{Hint}
use Rattle.ql_refute.specs.declared.refutation.Hint.TheVariants.{Given, Earlier}
use Rattle.ql_refute.specs.declared.refutation.Line.{Line}
use Rattle.ql_refute.specs.declared.verdict.Verdict.{Verdict}
use Rattle.ql_refute.specs.declared.verdict.Verdict.TheVariants.{Accepted, BadVariable}

-- the first fault of two runs of lines
pub first_fault-append : (c : ClauseList) (e ls ms : List Line) → first_fault c e (ls ++ ms) ≡ first_of_two (first_fault c e ls) (first_fault c (e ++ ls) ms)
first_fault-append c e [] ms = rw append-nil refl
first_fault-append c e (line ∷ ls) ms =
    ap (λ w. first_of_two (line_fault c e line) w) (first_fault-append c (e ++ line ∷ []) ls ms ∙ rw append_assoc refl)
    ∙ regroup (line_fault c e line) (first_fault c (e ++ line ∷ []) ls) (first_fault c (e ++ line ∷ ls) ms)
  where
    regroup : (o w u : Option Verdict) → first_of_two o (first_of_two w u) ≡ first_of_two (first_of_two o w) u
    regroup None w u = refl
    regroup (Some v) w u = refl

-- lines after a line at fault don't change the verdict
pub verdict-at_fault : (c : ClauseList) (ls ms : List Line) (v : Verdict) → first_fault c [] ls ≡ Some v → (verdict c (ls ++ ms) ≡ v) × (verdict c ls ≡ v)
verdict-at_fault c ls ms v h =
    let both : first_fault c [] (ls ++ ms) ≡ Some v = first_fault-append c [] ls ms ∙ rw h refl in
    (rw both refl, rw h refl)

-- the lines before lines are as good as without them
pub AreGood-front : (c : ClauseList) (ls ms : List Line) → AreGood c (ls ++ ms) → AreGood c ls
AreGood-front c ls ms h = front (first_fault c [] ls) (first_fault c ls ms) (sym (first_fault-append c [] ls ms) ∙ h)
  where
    front : (o w : Option Verdict) → first_of_two o w ≡ None → o ≡ None
    front None w e = refl
    front (Some v) w e = absurd (cc)

-- a line that is good after good lines
pub AreGood-push : (c : ClauseList) (ls : List Line) (line : Line) → AreGood c ls → IsGood c ls line → AreGood c (ls ++ line ∷ [])
AreGood-push c ls line good here = first_fault-append c [] ls (line ∷ []) ∙ rw (good, here) refl

-- good lines with an empty one are accepted
pub verdict-good : (c : ClauseList) (ls : List Line) → AreGood c ls → has_empty ls ≡ true → verdict c ls ≡ Accepted
verdict-good c ls good empty = rw (good, empty) refl

-- what each hint of one place names, it names in the other
abbrev pub NamesMore : ClauseList → List Line → ClauseList → List Line → Type 0
NamesMore c e d f = (h : Hint) (x : List Lit) → hinted c e h ≡ Some x → hinted d f h ≡ Some x

after_hint_more : (j k : ℕ) (p : Partial) (next more : Partial → Option Verdict) (o w : Option (List Lit)) → ((x : List Lit) → o ≡ Some x → w ≡ Some x) → ((q : Partial) → next q ≡ None → more q ≡ None) → after_hint j o p next ≡ None → after_hint k w p more ≡ None
after_hint_more j k p next more None w names ih h = absurd (cc)
after_hint_more j k p next more (Some x) w names ih h = rw (names x refl) (step (reading p x) h)
  where
    step : (r : Reading) → after_reading j r p next ≡ None → after_reading k r p more ≡ None
    step AllFalse e = refl
    step (Forces y) e = ih (with_true p y) e
    step Neither e = absurd (cc)

pub hints_fault-more : (c d : ClauseList) (e f : List Line) (j k : ℕ) (hs : List Hint) (p : Partial) → NamesMore c e d f → hints_fault c e j hs p ≡ None → hints_fault d f k hs p ≡ None
hints_fault-more c d e f j k [] p names h = absurd (cc)
hints_fault-more c d e f j k (x ∷ hs) p names h =
    after_hint_more j k p (λ q. hints_fault c e j hs q) (λ q. hints_fault d f k hs q) (hinted c e x) (hinted d f x) (names x) (λ q g. hints_fault-more c d e f j k hs q names g) h

slice_get-append : {X : Type 0} → (xs ys : List X) (n : ℕ) (x : X) → slice_get xs n ≡ Some x → slice_get (xs ++ ys) n ≡ Some x
slice_get-append [] ys n x h = absurd (cc)
slice_get-append (y ∷ xs) ys zero x h = h
slice_get-append (y ∷ xs) ys (suc n) x h = slice_get-append xs ys n x h

pub numbered-append : {X : Type 0} → (xs ys : List X) (n : ℕ) (x : X) → numbered xs n ≡ Some x → numbered (xs ++ ys) n ≡ Some x
numbered-append {X} xs ys n x h = step (n == 0) h
  where
    step : (b : Bool) → cond b None (slice_get xs (n - 1)) ≡ Some x → cond b None (slice_get (xs ++ ys) (n - 1)) ≡ Some x
    step true e = absurd (cc)
    step false e = slice_get-append xs ys (n - 1) x e

-- a hint names the same where clauses or lines are added at the end
pub names_more : (c d : ClauseList) (e more : List Line) (extra : List (List Lit)) → d.clauses ≡ c.clauses ++ extra → NamesMore c e d (e ++ more)
names_more c d e more extra same (Given n) x h = rw same (numbered-append c.clauses extra n x h)
names_more c d e more extra same (Earlier n) x h = step (numbered e n) refl h
  where
    step : (o : Option Line) → numbered e n ≡ o → option_map (λ line. line.clause) o ≡ Some x → option_map (λ line. line.clause) (numbered (e ++ more) n) ≡ Some x
    step None f g = absurd (cc)
    step (Some line) f g = rw (numbered-append e more n line f) g

in_range-wider : (m n : ℕ) (c : List Lit) → m ≤ n → variables_in_range m c ≡ true → variables_in_range n c ≡ true
in_range-wider m n [] h e = refl
in_range-wider m n (x ∷ xs) h e =
    let both = split (nat_le 1 x.var && nat_le x.var m) (variables_in_range m xs) e in
    rw (wider x.var both.0, in_range-wider m n xs h both.1) refl
  where
    split : (a b : Bool) → (a && b) ≡ true → (a ≡ true) × (b ≡ true)
    split true b f = (refl, f)
    split false b f = absurd (cc)

    wider : (v : ℕ) → (nat_le 1 v && nat_le v m) ≡ true → (nat_le 1 v && nat_le v n) ≡ true
    wider v f = grind (arith, nat_tests)

-- a good line stays good where variables, clauses and lines before it are added
pub IsGood-more : (c d : ClauseList) (e more : List Line) (extra : List (List Lit)) (line : Line) → c.variables ≤ d.variables → d.clauses ≡ c.clauses ++ extra → IsGood c e line → IsGood d (e ++ more) line
IsGood-more c d e more extra line wide same good = step (variables_in_range c.variables line.clause) refl good
  where
    step : (b : Bool) → variables_in_range c.variables line.clause ≡ b → cond b (hints_fault c e (length e + 1) line.hints (with_all_false nothing line.clause)) (Some (BadVariable (length e + 1))) ≡ None → IsGood d (e ++ more) line
    step true f g = rw (in_range-wider c.variables d.variables line.clause wide f) (hints_fault-more c d e (e ++ more) (length e + 1) (length (e ++ more) + 1) line.hints (with_all_false nothing line.clause) (names_more c d e more extra same) g)
    step false f g = absurd (cc)

-- good lines stay good in a longer clause list
pub AreGood-more_clauses : (c d : ClauseList) (extra : List (List Lit)) (e ls : List Line) → c.variables ≤ d.variables → d.clauses ≡ c.clauses ++ extra → first_fault c e ls ≡ None → first_fault d e ls ≡ None
AreGood-more_clauses c d extra e [] wide same h = refl
AreGood-more_clauses c d extra e (line ∷ ls) wide same h =
    let both = split (line_fault c e line) (first_fault c (e ++ line ∷ []) ls) h in
    let here : line_fault d (e ++ []) line ≡ None = IsGood-more c d e [] extra line wide same both.0 in
    rw (rw append-nil at here, AreGood-more_clauses c d extra (e ++ line ∷ []) ls wide same both.1) refl
  where
    split : (o w : Option Verdict) → first_of_two o w ≡ None → (o ≡ None) × (w ≡ None)
    split None w f = (refl, f)
    split (Some v) w f = absurd (cc)
