-- What follows from known relations.
use Rattle.std.proofs.Common.{◌≡◌, ℕ, zero, suc, Bool, true, false, not, ◌||◌, inl, inr, List, [], ◌∷◌, ◌++◌, Result, Ok, Err, ◌≢◌, refl, sym, subst, arith}
use Rattle.std.specs.Prelude.{IfOk, OnOk}
use Rattle.ql_base.specs.declared.no_memory.NoMemory.{NoMemory}
use Rattle.std.proofs.lemmas.Bool.{and_from}
use Rattle.std.proofs.lemmas.List.Elements.{All-push}
use Rattle.std.specs.List.{All}
use Rattle.ql_lang.specs.Formulas.{Resolved, Statement, Always, BothOf, IfThen}
use Rattle.ql_lang.specs.Formulas as formula
use Rattle.ql_lang.specs.declared.formula.OpChoice.{OpChoice}
use Rattle.ql_lang.specs.declared.program.Program.{Program}
use Rattle.ql_ground.specs.declared.goal.Goal.{Goal}
use Rattle.ql_exec.specs.declared.effect.Effect.{Effect}
use Rattle.ql_exec.specs.Execution.{IsExecution}
use Rattle.ql_formula.specs.Truth.{statement_true}
use Rattle.ql_warnings.specs.Clashes.{CantHold, AllEntail}
use Rattle.ql_warnings.specs.Known.{IsKnownAt, IsPartOf, PartsKept}
use Rattle.ql_warnings.specs.Premises.{AsksNothing, IsAlways, IsTargetContract, known_statement}
use Rattle.ql_warnings.specs.declared.known.Known.{Known}
use Rattle.ql_warnings.proofs.Scenes.{parts_known}

-- ---- parts that are appended

pub one_part : (k : Known) (old new : List Known) → new ≡ old ++ k ∷ [] → PartsKept (known_statement k) old new
one_part k old new e whole h all = subst (All (IsPartOf whole)) (sym e) (All-push (IsPartOf whole) old k all (h (known_statement k) refl))

pub both_parts : (p q : Statement) (a b c : List Known) → PartsKept p a b → PartsKept q b c → PartsKept (BothOf p q) a c
both_parts p q a b c left right whole h all = right whole (λ part m. h part (inr m)) (left whole (λ part m. h part (inl m)) all)

-- ---- known relations as one statement

abbrev all_of : List Known → Statement
all_of [] = Always
all_of (k ∷ known) = BothOf (known_statement k) (all_of known)

each_part : (known : List Known) → All (IsPartOf (all_of known)) known
each_part [] k d less = absurd (omega (arith, less))
each_part (a ∷ known) zero d less = inl refl
each_part (a ∷ known) (suc k) d less = inr (each_part known k d (omega (arith, less)))

all_true : (x : List Effect) (inside : ℕ → Bool) (places : List ℕ) (cur : ℕ) (known : List Known) → All (IsKnownAt x places cur) known → statement_true x inside places cur (all_of known) ≡ true
all_true x inside places cur [] all = refl
all_true x inside places cur (k ∷ known) all =
    and_from (statement_true x inside places cur (known_statement k)) (statement_true x inside places cur (all_of known)) (all 0 k (omega arith)) (all_true x inside places cur known (λ i d less. all (suc i) d (omega (arith, less))))

-- with a statement that is true, its parts are known too
more_known : (x : List Effect) (inside : ℕ → Bool) (places : List ℕ) (cur : ℕ) (s : Statement) (known more : List Known) → PartsKept s known more
    → All (IsKnownAt x places cur) known → statement_true x inside places cur s ≡ true → All (IsKnownAt x places cur) more
more_known x inside places cur s known more kept all h =
    parts_known x inside places cur (BothOf s (all_of known)) more
    (kept (BothOf s (all_of known)) (λ part m. inl m) (λ k d less. inr (each_part known k d less)))
    (and_from (statement_true x inside places cur s) (statement_true x inside places cur (all_of known)) h (all_true x inside places cur known all))

-- ---- statements that are given

module _ (p : Program) (g : Goal) (vars : List OpChoice) (known : List Known) where
  implies : (a c : Bool) → (a ≡ true → c ≡ true) → (not a || c) ≡ true
  implies true c h = h refl
  implies false c h = refl

  either : (a c : Bool) → a ≡ true → (a || c) ≡ true
  either true c h = refl
  either false c h = absurd (cc)

  other : (a c : Bool) → c ≡ true → (a || c) ≡ true
  other true c h = refl
  other false c h = h

  pub given_and : (s r : Statement) → AllEntail p g vars known s → AllEntail p g vars known r → AllEntail p g vars known (BothOf s r)
  given_and s r left right x inside places cur scene all = and_from (statement_true x inside places cur s) (statement_true x inside places cur r) (left x inside places cur scene all) (right x inside places cur scene all)

  pub given_left : (s r : Statement) → AllEntail p g vars known s → AllEntail p g vars known (formula.OneOf s r)
  given_left s r left x inside places cur scene all = either (statement_true x inside places cur s) (statement_true x inside places cur r) (left x inside places cur scene all)

  pub given_right : (s r : Statement) → AllEntail p g vars known r → AllEntail p g vars known (formula.OneOf s r)
  given_right s r right x inside places cur scene all = other (statement_true x inside places cur s) (statement_true x inside places cur r) (right x inside places cur scene all)

  pub given_if : (s r : Statement) (more : List Known) → PartsKept s known more → AllEntail p g vars more r → AllEntail p g vars known (IfThen s r)
  given_if s r more kept given x inside places cur scene all =
      implies (statement_true x inside places cur s) (statement_true x inside places cur r) (λ h. given x inside places cur scene (more_known x inside places cur s known more kept all h))

  pub given_clash : (s r : Statement) (more : List Known) → PartsKept s known more → CantHold p g vars more → AllEntail p g vars known (IfThen s r)
  given_clash s r more kept cant x inside places cur scene all =
      implies (statement_true x inside places cur s) (statement_true x inside places cur r) (λ h. absurd (cant x places cur scene (more_known x inside places cur s known more kept all h)))

  pub given_known : (wanted : Known) → ((x : List Effect) → IsExecution x → (places : List ℕ) (cur : ℕ) → All (IsKnownAt x places cur) known → IsKnownAt x places cur wanted) → AllEntail p g vars known (known_statement wanted)
  given_known wanted holds x inside places cur scene all = holds x scene.lawful places cur all

-- what is given by nothing is always so
pub always : (p : Program) (g : Goal) (vars : List OpChoice) (s : Statement) → AllEntail p g vars [] s → IsAlways p g vars s true
always p g vars s given x inside places cur scene = given x inside places cur scene (λ k d less. absurd (omega (arith, less)))

-- ---- where the last step may run out of memory

pub both_ok : {A : Type 0} (p q : Statement) (a b c : List Known) (last : Result A NoMemory) → PartsKept p a b → OnOk last (PartsKept q b c) → OnOk last (PartsKept (BothOf p q) a c)
both_ok p q a b c (Ok done) left right = both_parts p q a b c left right
both_ok p q a b c (Err e) left right = tt

pub if_ok : (p : Program) (g : Goal) (vars : List OpChoice) (known : List Known) (s r : Statement) (more : List Known) (last : Result Bool NoMemory) → PartsKept s known more
    → IfOk last (λ b. b ≡ true → AllEntail p g vars more r) → IfOk last (λ b. b ≡ true → AllEntail p g vars known (IfThen s r))
if_ok p g vars known s r more (Ok b) kept given = λ is. given_if p g vars known s r more kept (given is)
if_ok p g vars known s r more (Err e) kept given = tt

pub asked_ok : (p : Program) (g : Goal) (f : Resolved) (vars : List OpChoice) (last : Result Bool NoMemory) → IsTargetContract p g f → vars ≡ f.vars → f.body ≢ Always → IfOk last (λ b. b ≡ true → AllEntail p g vars [] f.body) → IfOk last (λ b. b ≡ true → AsksNothing p g)
asked_ok p g f vars (Ok b) is same other given = λ holds. record { contract = f; is = is; other = other; always = always p g f.vars f.body (subst (λ vs. AllEntail p g vs [] f.body) same (given holds)) }
asked_ok p g f vars (Err e) is same other given = tt
