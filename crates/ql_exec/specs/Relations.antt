-- Relations between the effects of an execution, each named by its id.
-- From Sivaramakrishnan, Kaki and Jagannathan, 'Declarative Programming over Eventually Consistent Data Stores'
-- (PLDI 2015): visibility `vis`, session order `so`, `sameobj`, `soo`, which is `so` and `sameobj` together, and the
-- transitive closures `hb` of `so` or `vis` and `hbo` of `soo` or `vis`.
-- Ours: that session order is the order of ids within a session, since ids follow the run; that a closure is defined by
-- recursion on the later effect; and the exact meaning of `sametxn`.
use Rattle.std.specs.Prelude.{ℕ, zero, suc, Bool, false, ◌&&◌, ◌||◌, nat_eq, nat_lt, List}
use Rattle.ql_base.specs.IdLists.{has_id}
use Rattle.ql_exec.specs.declared.effect.Effect.{Effect}
use Rattle.ql_exec.specs.declared.effect.Member.{Member}
use Rattle.ql_exec.specs.declared.effect.Member.TheVariants.{Alone, Inside}
use Rattle.ql_exec.specs.Effects.{effect_at, one, both, in_run}

-- one session, and a before b
abbrev pub so : List Effect → ℕ → ℕ → Bool
so x a b = both (λ e f. nat_eq e.session.0 f.session.0 && nat_lt a b) (effect_at x a) (effect_at x b)

-- b sees a
abbrev pub vis : List Effect → ℕ → ℕ → Bool
vis x a b = both (λ e f. has_id f.seen a) (effect_at x a) (effect_at x b)

-- one object
abbrev pub sameobj : List Effect → ℕ → ℕ → Bool
sameobj x a b = both (λ e f. nat_eq e.object.0 f.object.0) (effect_at x a) (effect_at x b)

-- session order within one object
abbrev pub soo : List Effect → ℕ → ℕ → Bool
soo x a b = so x a b && sameobj x a b

-- a is inside the begun transaction
abbrev pub inside : List Effect → ℕ → ℕ → Bool
inside x run a = one (λ e. in_run run e.member) (effect_at x a)

-- two memberships are of one begun transaction
abbrev pub same_run : Member → Member → Bool
same_run m Alone = false
same_run m (Inside run name) = in_run run.0 m

-- one effect, or two of one begun transaction: an effect outside any is a transaction by itself
abbrev pub sametxn : List Effect → ℕ → ℕ → Bool
sametxn x a b = nat_eq a b || both (λ e f. same_run e.member f.member) (effect_at x a) (effect_at x b)

-- some number below n passes the test
abbrev pub some_below : ℕ → (ℕ → Bool) → Bool
some_below zero test = false
some_below (suc n) test = test n || some_below n test

-- A chain of at most k steps from a to b, each but the first from an earlier effect: one step, or a chain to some c
-- before b and a step from there.
abbrev pub leads_in : (ℕ → ℕ → Bool) → ℕ → ℕ → ℕ → Bool
leads_in step zero a b = false
leads_in step (suc k) a b = step a b || some_below b (λ c. leads_in step k a c && step c b)

-- A chain of steps, however long: one step, or a chain to some c before b and a step from there. No chain to b has
-- more than b + 1 steps.
unfoldable pub leads : (ℕ → ℕ → Bool) → ℕ → ℕ → Bool
leads step a b = leads_in step (suc b) a b

-- a step of happens-before within one object
abbrev pub hbo_step : List Effect → ℕ → ℕ → Bool
hbo_step x a b = soo x a b || vis x a b

-- a step of happens-before
abbrev pub hb_step : List Effect → ℕ → ℕ → Bool
hb_step x a b = so x a b || vis x a b

-- happens-before within one object
abbrev pub hbo : List Effect → ℕ → ℕ → Bool
hbo x a b = leads (hbo_step x) a b

-- happens-before
abbrev pub hb : List Effect → ℕ → ℕ → Bool
hb x a b = leads (hb_step x) a b
