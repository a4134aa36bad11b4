-- The closures of both, whose chains have a different bound.
use Rattle.std.proofs.Common.{◌≡◌, ℕ, zero, suc, ◌<◌, ◌≤◌, Bool, false, ◌&&◌, ◌||◌, List, Option, Some, None, refl, sym, ◌∙◌, ap, arith}
use Rattle.ql_exec.specs.declared.effect.Effect.{Effect}
use Rattle.ql_exec.specs.Relations as relation
use Rattle.ql_ground.specs.Effects as plain
use Rattle.ql_ground.specs.Relations as ground
use Rattle.ql_implication.proofs.Plain.{plain_all, so-same, vis-same, soo-same}

below_same : (n : ℕ) (f g : ℕ → Bool) → ((c : ℕ) → c < n → f c ≡ g c) → ground.some_below n f ≡ relation.some_below n g
below_same zero f g h = refl
below_same (suc n) f g h = ap (λ p. p || ground.some_below n f) (h n (omega arith)) ∙ ap (λ p. g n || p) (below_same n f g (λ c l. h c (omega arith)))

below_alike : (n : ℕ) (f g : ℕ → Bool) → ((c : ℕ) → c < n → f c ≡ g c) → ground.some_below n f ≡ ground.some_below n g
below_alike zero f g h = refl
below_alike (suc n) f g h = ap (λ p. p || ground.some_below n f) (h n (omega arith)) ∙ ap (λ p. g n || p) (below_alike n f g (λ c l. h c (omega arith)))

chains_same : (s t : ℕ → ℕ → Bool) → ((a b : ℕ) → s a b ≡ t a b) → (k a b : ℕ) → ground.leads_in s k a b ≡ relation.leads_in t k a b
chains_same s t h zero a b = refl
chains_same s t h (suc k) a b =
    ap (λ p. p || ground.some_below b (λ c. ground.leads_in s k a c && s c b)) (h a b)
    ∙ ap (λ p. t a b || p) (below_same b (λ c. ground.leads_in s k a c && s c b) (λ c. relation.leads_in t k a c && t c b)
    (λ c l. ap (λ p. p && s c b) (chains_same s t h k a c) ∙ ap (λ p. relation.leads_in t k a c && p) (h c b)))

-- a chain to b has at most b steps, since none leads to 0
enough : (s : ℕ → ℕ → Bool) → ((a : ℕ) → s a zero ≡ false) → (k a b : ℕ) → b ≤ k → ground.leads_in s (suc k) a b ≡ ground.leads_in s k a b
enough s none zero a zero l = ap (λ p. p || false) (none a)
enough s none zero a (suc b) l = absurd (omega arith)
enough s none (suc k) a b l =
    ap (λ p. s a b || p) (below_alike b (λ c. ground.leads_in s (suc k) a c && s c b) (λ c. ground.leads_in s k a c && s c b)
    (λ c m. ap (λ p. p && s c b) (enough s none k a c (omega arith))))

leads_same : (s t : ℕ → ℕ → Bool) → ((a b : ℕ) → s a b ≡ t a b) → ((a : ℕ) → s a zero ≡ false) → (a b : ℕ) → ground.leads s a b ≡ relation.leads t a b
unfolding ground.leads relation.leads
leads_same s t h none a b = sym (enough s none b a b (omega arith)) ∙ chains_same s t h (suc b) a b

both-none : (test : plain.Effect → plain.Effect → Bool) (o : Option plain.Effect) → ground.both test o None ≡ false
both-none test None = refl
both-none test (Some e) = refl

so-none : (x : List plain.Effect) (a : ℕ) → ground.so x a zero ≡ false
so-none x a = both-none _ (plain.effect_at x a)

vis-none : (x : List plain.Effect) (a : ℕ) → ground.vis x a zero ≡ false
vis-none x a = both-none _ (plain.effect_at x a)

pub hb-same : (x : List Effect) (a b : ℕ) → ground.hb (plain_all x) a b ≡ relation.hb x a b
hb-same x a b = leads_same (ground.hb_step (plain_all x)) (relation.hb_step x)
    (λ c d. ap (λ p. p || ground.vis (plain_all x) c d) (so-same x c d) ∙ ap (λ p. relation.so x c d || p) (vis-same x c d))
    (λ c. ap (λ p. p || ground.vis (plain_all x) c zero) (so-none (plain_all x) c) ∙ vis-none (plain_all x) c) a b

pub hbo-same : (x : List Effect) (a b : ℕ) → ground.hbo (plain_all x) a b ≡ relation.hbo x a b
hbo-same x a b = leads_same (ground.hbo_step (plain_all x)) (relation.hbo_step x)
    (λ c d. ap (λ p. p || ground.vis (plain_all x) c d) (soo-same x c d) ∙ ap (λ p. relation.soo x c d || p) (vis-same x c d))
    (λ c. ap (λ p. (p && ground.sameobj (plain_all x) c zero) || ground.vis (plain_all x) c zero) (so-none (plain_all x) c) ∙ vis-none (plain_all x) c) a b
