-- The relations of an execution, as tests on the numbers of two effects. They are over the plain effects of ground
-- problems; those of `ql_exec` are over the store's effects, and the law of `ql_implication` joins the two.
use Rattle.std.specs.Prelude.{ℕ, zero, suc, ◌≡◌, ◌<◌, Bool, true, false, ◌&&◌, ◌||◌, ◌==◌, nat_lt, List, Option, None, Some}
use Rattle.std.specs.List.{list_any}
use Rattle.ql_ground.specs.Effects.{Effect, Member, Alone, Inside, effect_at}

-- the test of two effects, false where one of them isn't there
abbrev pub both : (Effect → Effect → Bool) → Option Effect → Option Effect → Bool
both test (Some e) (Some f) = test e f
both test (Some e) None = false
both test None f = false

-- the test of an effect, false where it isn't there
abbrev pub one : (Effect → Bool) → Option Effect → Bool
one test (Some e) = test e
one test None = false

-- a is an effect of the operation
abbrev pub is_op : List Effect → ℕ → ℕ → Bool
is_op x o a = one (λ e. e.op == o) (effect_at x a)

-- a is inside the begun transaction
abbrev pub in_run : ℕ → Member → Bool
in_run run Alone = false
in_run run (Inside other name) = other == run

abbrev pub inside : List Effect → ℕ → ℕ → Bool
inside x run a = one (λ e. in_run run e.member) (effect_at x a)

-- session order: the same session, and earlier
abbrev pub so : List Effect → ℕ → ℕ → Bool
so x a b = both (λ e f. (e.session == f.session) && nat_lt a b) (effect_at x a) (effect_at x b)

-- visibility: b has seen a
abbrev pub vis : List Effect → ℕ → ℕ → Bool
vis x a b = both (λ e f. list_any (λ c. c == a) f.seen) (effect_at x a) (effect_at x b)

-- the same object
abbrev pub sameobj : List Effect → ℕ → ℕ → Bool
sameobj x a b = both (λ e f. e.object == f.object) (effect_at x a) (effect_at x b)

-- session order on one object
abbrev pub soo : List Effect → ℕ → ℕ → Bool
soo x a b = so x a b && sameobj x a b

-- the two are in one begun transaction
abbrev pub same_run : Member → Member → Bool
same_run (Inside run name) m = in_run run m
same_run Alone m = false

-- the same effect, or two of one begun transaction
abbrev pub sametxn : List Effect → ℕ → ℕ → Bool
sametxn x a b = (a == b) || both (λ e f. same_run e.member f.member) (effect_at x a) (effect_at x b)

-- some number below n passes the test
abbrev pub some_below : ℕ → (ℕ → Bool) → Bool
some_below zero test = false
some_below (suc n) test = test n || some_below n test

-- A chain of at most k steps from a to b, each step to a later effect: one step, or a chain to some
-- earlier c and a step from there.
abbrev pub leads_in : (ℕ → ℕ → Bool) → ℕ → ℕ → ℕ → Bool
leads_in step zero a b = false
leads_in step (suc k) a b = step a b || some_below b (λ c. leads_in step k a c && step c b)

-- a chain of steps; one to b has at most b
unfoldable pub leads : (ℕ → ℕ → Bool) → ℕ → ℕ → Bool
leads step a b = leads_in step b a b

abbrev pub hbo_step : List Effect → ℕ → ℕ → Bool
hbo_step x a b = soo x a b || vis x a b

abbrev pub hb_step : List Effect → ℕ → ℕ → Bool
hb_step x a b = so x a b || vis x a b

-- happens-before on one object: steps of session order on one object and of visibility
abbrev pub hbo : List Effect → ℕ → ℕ → Bool
hbo x a b = leads (hbo_step x) a b

-- happens-before: steps of session order and of visibility
abbrev pub hb : List Effect → ℕ → ℕ → Bool
hb x a b = leads (hb_step x) a b

-- What holds in every execution: an effect sees earlier ones on its own object, and the effects of a begun
-- transaction are in one session, with no effect of another between them there.
pub record IsExecution (x : List Effect) : Type 0 where
  pub sees_earlier : (a b : ℕ) → vis x a b ≡ true → a < b
  pub sees_own_object : (a b : ℕ) → vis x a b ≡ true → sameobj x a b ≡ true
  pub one_session : (a b : ℕ) → a < b → sametxn x a b ≡ true → so x a b ≡ true
  pub contiguous : (a b c : ℕ) → sametxn x a c ≡ true → so x a b ≡ true → so x b c ≡ true → sametxn x a b ≡ true
