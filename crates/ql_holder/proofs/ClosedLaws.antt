-- The closed part of a set, for any needs and any set.
use Rattle.std.proofs.Common.{ℕ}
use Rattle.ql_holder.specs.Closed.{Reaches, here, through, Closed}

-- ---- reaching

pub reached-once : (needs : ℕ → ℕ → Type 0) (a b : ℕ) → needs a b → Reaches needs a b
reached-once needs a b need = through a b b need (here b)

pub reached-along : (needs : ℕ → ℕ → Type 0) (a b c : ℕ) → Reaches needs a b → Reaches needs b c → Reaches needs a c
reached-along needs a b c (here _) later = later
reached-along needs a b c (through _ d _ need rest) later = through a d c need (reached-along needs d b c rest later)

-- fewer needs reach no more
pub reached-more : (needs more : ℕ → ℕ → Type 0) → ((a b : ℕ) → needs a b → more a b) → (a b : ℕ) → Reaches needs a b → Reaches more a b
reached-more needs more each a b (here _) = here a
reached-more needs more each a b (through _ c _ need rest) = through a c b (each a c need) (reached-more needs more each c b rest)

-- what is reached from a part that has all that it needs is in the part
pub reached-within : (needs : ℕ → ℕ → Type 0) (part : ℕ → Type 0) → ((a b : ℕ) → part a → needs a b → part b)
    → (a b : ℕ) → part a → Reaches needs a b → part b
reached-within needs part each a b is (here _) = is
reached-within needs part each a b is (through _ c _ need rest) = reached-within needs part each c b (each a c is need) rest

-- ---- the closed part

-- a member is in the set
pub closed-member : (needs : ℕ → ℕ → Type 0) (set : ℕ → Type 0) (a : ℕ) → Closed needs set a → set a
closed-member needs set a closed = closed a (here a)

-- what a member needs is a member
pub closed-need : (needs : ℕ → ℕ → Type 0) (set : ℕ → Type 0) (a b : ℕ) → Closed needs set a → needs a b → Closed needs set b
closed-need needs set a b closed need = λ c reached. closed c (through a b c need reached)

-- what a member reaches is a member
pub closed-reached : (needs : ℕ → ℕ → Type 0) (set : ℕ → Type 0) (a b : ℕ) → Closed needs set a → Reaches needs a b → Closed needs set b
closed-reached needs set a b closed first = λ c later. closed c (reached-along needs a b c first later)

-- a part of the set that has all that it needs is in the closed part
pub closed-from : (needs : ℕ → ℕ → Type 0) (set part : ℕ → Type 0) → ((a : ℕ) → part a → set a) → ((a b : ℕ) → part a → needs a b → part b)
    → (a : ℕ) → part a → Closed needs set a
closed-from needs set part within each a is = λ b reached. within b (reached-within needs part each a b is reached)

-- a larger set has a larger closed part
pub closed-larger : (needs : ℕ → ℕ → Type 0) (set larger : ℕ → Type 0) → ((a : ℕ) → set a → larger a)
    → (a : ℕ) → Closed needs set a → Closed needs larger a
closed-larger needs set larger within a closed = λ b reached. within b (closed b reached)

-- where members need no more than before, the closed part stays
pub closed-along : (needs others : ℕ → ℕ → Type 0) (set : ℕ → Type 0) → ((a b : ℕ) → set a → others a b → needs a b)
    → (a : ℕ) → Closed needs set a → Closed others set a
closed-along needs others set fewer a closed =
    closed-from others set (Closed needs set) (λ b is. closed-member needs set b is)
    (λ b c is need. closed-need needs set b c is (fewer b c (closed-member needs set b is) need)) a closed
