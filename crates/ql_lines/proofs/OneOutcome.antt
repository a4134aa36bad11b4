-- a file says one thing or has one first fault, and never both or neither
use Rattle.std.proofs.Common.{◌≡◌, ℕ, List, [], ◌∷◌, ◌++◌, Result, Ok, Err, refl, ap, sym, subst, ◌∙◌, append_assoc}
use Rattle.std.proofs.lemmas.List.{append-nil}
use Rattle.ql_lines.proofs.Conses.{heads, tails}
use Rattle.ql_lines.specs.Lines.{Ahead, Numbered}
use Rattle.ql_lines.specs.declared.fault.Broken.{Broken}
use Rattle.ql_lines.specs.declared.fault.FileFault.{FileFault}
use Rattle.ql_lines.specs.declared.fault.FileFault.TheVariants as answer
use Rattle.ql_lines.specs.declared.fault.LineFault.{LineFault}
use Rattle.ql_lines.specs.declared.fault.LineFault.TheVariants as line
use Rattle.ql_lines.specs.Answers.{IsEndAnswer, IsLineAnswer, fault_at}
use Rattle.ql_lines.specs.Outcomes.{FirstFault, Leads, Outcome, Says}
use Rattle.ql_lines.specs.Outcomes.FirstFault.{at_line, at_end}

module _ {State Said Rule : Type 0} (gives : State → Numbered → Result State Rule → Type 0) (closes : State → ℕ → Result Said (Broken Rule) → Type 0) where
  -- ---- what was read

  pub leads_nowhere : (s : State) → Leads gives closes s [] s
  unfolding Leads
  leads_nowhere s = refl

  -- one line more
  pub leads_on : (ls : List Numbered) (s t u : State) (l : Numbered) → Leads gives closes s ls t → gives t l (Ok u) → Leads gives closes s (ls ++ l ∷ []) u
  unfolding Leads
  leads_on [] s t u l h q = (u, subst (λ r. gives r l (Ok u)) (sym h) q, refl)
  leads_on (k ∷ ls) s t u l h q = (h.0, h.1, leads_on ls h.0 t u l h.2 q)

  -- what a file's end comes to is what the file comes to
  pub ends_file : (start s : State) (file : Ahead) (x : Result Said (Broken Rule)) → Leads gives closes start file.lines s → closes s file.end x → Outcome gives closes start file x
  ends_file start s file (Ok said) h c = record { state = s; leads = h; ends = c }
  ends_file start s file (Err fault) h c = at_end s fault h c

  pub ends_answer : (start s : State) (file : Ahead) (x : Result Said (FileFault Rule)) → Leads gives closes start file.lines s → IsEndAnswer (closes s file.end) x
      → IsEndAnswer (Outcome gives closes start file) x
  ends_answer start s file (Ok said) h c = record { state = s; leads = h; ends = c }
  ends_answer start s file (Err (answer.Broken fault)) h c = at_end s fault h c
  ends_answer start s file (Err answer.NoMemory) h c = tt

  -- a line that is refused is the first fault
  pub refused_at : (start s : State) (file : Ahead) (before : List Numbered) (l : Numbered) (rest : List Numbered) (fault : LineFault Rule) → file.lines ≡ before ++ l ∷ rest
      → Leads gives closes start before s → IsLineAnswer (gives s l) (Err fault) → IsEndAnswer (Outcome gives closes start file) (Err (fault_at fault l.number))
  refused_at start s file before l rest (line.Breaks rule) are h x = at_line before l rest s rule are h x
  refused_at start s file before l rest line.NoMemory are h x = tt

  module _ (one : (s : State) (l : Numbered) (x y : Result State Rule) → gives s l x → gives s l y → x ≡ y) where
    -- ---- never two

    the_next : State → Result State Rule → State
    the_next s (Ok next) = next
    the_next s (Err rule) = s

    the_rule : Rule → Result State Rule → Rule
    the_rule r (Ok next) = r
    the_rule r (Err rule) = rule

    one_next : (s : State) (l : Numbered) (a b : State) → gives s l (Ok a) → gives s l (Ok b) → a ≡ b
    unfolding the_next
    one_next s l a b p q = ap (the_next s) (one s l (Ok a) (Ok b) p q)

    one_rule : (s : State) (l : Numbered) (a b : Rule) → gives s l (Err a) → gives s l (Err b) → a ≡ b
    unfolding the_rule
    one_rule s l a b p q = ap (the_rule a) (one s l (Err a) (Err b) p q)

    not_broken : (s : State) (l : Numbered) (a : State) (r : Rule) → gives s l (Ok a) → gives s l (Err r) → ⊥
    not_broken s l a r p q = let same : ◌≡◌ {A = Result State Rule} (Ok a) (Err r) = one s l (Ok a) (Err r) p q in absurd cc

    one_state : (ls : List Numbered) (s a b : State) → Leads gives closes s ls a → Leads gives closes s ls b → a ≡ b
    unfolding Leads
    one_state [] s a b x y = sym x ∙ y
    one_state (l ∷ ls) s a b x y = one_state ls x.0 a b x.2 (subst (λ u. Leads gives closes u ls b) (one_next s l y.0 x.0 y.1 x.1) y.2)

    breaks_off : (before : List Numbered) (l : Numbered) (rest : List Numbered) (s t u : State) (r : Rule) → Leads gives closes s (before ++ l ∷ rest) u
        → Leads gives closes s before t → gives t l (Err r) → ⊥
    unfolding Leads
    breaks_off [] l rest s t u r x y b = not_broken s l x.0 r x.1 (subst (λ v. gives v l (Err r)) (sym y) b)
    breaks_off (k ∷ before) l rest s t u r x y b =
        breaks_off before l rest x.0 t u r x.2 (subst (λ v. Leads gives closes v before t) (one_next s k y.0 x.0 y.1 x.1) y.2) b

    same_break : (b c : List Numbered) (l m : Numbered) (r q : List Numbered) (s t u : State) (j k : Rule) → b ++ l ∷ r ≡ c ++ m ∷ q
        → Leads gives closes s b t → gives t l (Err j) → Leads gives closes s c u → gives u m (Err k) → (l ≡ m) × (j ≡ k)
    unfolding Leads
    same_break [] [] l m r q s t u j k e f x g y =
        let line : l ≡ m = heads l m r q e in
        let here : gives s m (Err j) = subst (λ (n : Numbered). gives s n (Err j)) line (subst (λ v. gives v l (Err j)) (sym f) x) in
        (line, one_rule s m j k here (subst (λ v. gives v m (Err k)) (sym g) y))
    same_break [] (n ∷ c) l m r q s t u j k e f x g y =
        let line : l ≡ n = heads l n r (c ++ m ∷ q) e in
        absurd (not_broken s n g.0 j g.1 (subst (λ (o : Numbered). gives s o (Err j)) line (subst (λ v. gives v l (Err j)) (sym f) x)))
    same_break (n ∷ b) [] l m r q s t u j k e f x g y =
        let line : n ≡ m = heads n m (b ++ l ∷ r) q e in
        absurd (not_broken s n f.0 k f.1 (subst (λ (o : Numbered). gives s o (Err k)) (sym line) (subst (λ v. gives v m (Err k)) (sym g) y)))
    same_break (n ∷ b) (o ∷ c) l m r q s t u j k e f x g y =
        let line : n ≡ o = heads n o (b ++ l ∷ r) (c ++ m ∷ q) e in
        let step : g.0 ≡ f.0 = one_next s n g.0 f.0 (subst (λ (v : Numbered). gives s v (Ok g.0)) (sym line) g.1) f.1 in
        same_break b c l m r q f.0 t u j k (tails n o (b ++ l ∷ r) (c ++ m ∷ q) e) f.2 x (subst (λ v. Leads gives closes v c u) step g.2) y

    module _ (one_end : (s : State) (end : ℕ) (x y : Result Said (Broken Rule)) → closes s end x → closes s end y → x ≡ y) (start : State) (file : Ahead) where
      same_end : (a b : State) (x y : Result Said (Broken Rule)) → Leads gives closes start file.lines a → Leads gives closes start file.lines b
          → closes a file.end x → closes b file.end y → x ≡ y
      same_end a b x y h k c d = one_end b file.end x y (subst (λ s. closes s file.end x) (one_state file.lines start a b h k) c) d

      not_ended : (b : List Numbered) (l : Numbered) (r : List Numbered) (s t : State) (j : Rule) → file.lines ≡ b ++ l ∷ r → Leads gives closes start b s → gives s l (Err j)
          → Leads gives closes start file.lines t → ⊥
      not_ended b l r s t j are h x k = breaks_off b l r start s t j (subst (λ ls. Leads gives closes start ls t) are k) h x

      one_fault : (f g : Broken Rule) → FirstFault gives closes start file f → FirstFault gives closes start file g → f ≡ g
      one_fault f g (at_line b l r s j are h x) (at_line c m q t k are' h' y) =
          let same = same_break b c l m r q start s t j k (sym are ∙ are') h x h' y in
          ap (λ (n : Numbered). record { line = n.number; rule = j }) same.0 ∙ ap (λ i. record { line = m.number; rule = i }) same.1
      one_fault f g (at_line b l r s j are h x) (at_end t fault h' y) = absurd (not_ended b l r s t j are h x h')
      one_fault f g (at_end s fault h x) (at_line c m q t k are' h' y) = absurd (not_ended c m q t s k are' h' y h)
      one_fault f g (at_end s fault h x) (at_end t other h' y) =
          let same : ◌≡◌ {A = Result Said (Broken Rule)} (Err fault) (Err other) = same_end s t (Err fault) (Err other) h h' x y in
          cc

      says_or_fault : (said : Said) (f : Broken Rule) → Says gives closes start file said → FirstFault gives closes start file f → ⊥
      says_or_fault said f h (at_line b l r s j are k x) = not_ended b l r s h.state j are k x h.leads
      says_or_fault said f h (at_end s fault k x) =
          let same : ◌≡◌ {A = Result Said (Broken Rule)} (Ok said) (Err fault) = same_end h.state s (Ok said) (Err fault) h.leads k h.ends x in
          absurd cc

      pub one_outcome : (x y : Result Said (Broken Rule)) → Outcome gives closes start file x → Outcome gives closes start file y → x ≡ y
      one_outcome (Ok a) (Ok b) h k = same_end h.state k.state (Ok a) (Ok b) h.leads k.leads h.ends k.ends
      one_outcome (Ok a) (Err g) h k = absurd (says_or_fault a g h k)
      one_outcome (Err f) (Ok b) h k = absurd (says_or_fault b f k h)
      one_outcome (Err f) (Err g) h k = ap Err (one_fault f g h k)

  -- ---- never none

  module _
      (some : (s : State) (l : Numbered) → ((x : Result State Rule) → gives s l x → ⊥) → ⊥)
      (some_end : (s : State) (end : ℕ) → ((x : Result Said (Broken Rule)) → closes s end x → ⊥) → ⊥)
      (start : State) (file : Ahead) where
    goes_on : (before : List Numbered) (l : Numbered) (rest : List Numbered) (s : State) → file.lines ≡ before ++ l ∷ rest → Leads gives closes start before s
        → ((x : Result Said (Broken Rule)) → Outcome gives closes start file x → ⊥) → ((t : State) → gives s l (Ok t) → ⊥) → (x : Result State Rule) → gives s l x → ⊥
    goes_on before l rest s are h none on (Ok t) g = on t g
    goes_on before l rest s are h none on (Err rule) g = none (Err (record { line = l.number; rule = rule })) (at_line before l rest s rule are h g)

    from_here : (before rest : List Numbered) (s : State) → file.lines ≡ before ++ rest → Leads gives closes start before s
        → ((x : Result Said (Broken Rule)) → Outcome gives closes start file x → ⊥) → ⊥
    from_here before [] s are h none =
        some_end s file.end (λ x c. none x (ends_file start s file x (subst (λ ls. Leads gives closes start ls s) (sym (are ∙ append-nil before)) h) c))
    from_here before (l ∷ rest) s are h none =
        some s l (goes_on before l rest s are h none (λ t g.
        from_here (before ++ l ∷ []) rest t (are ∙ sym (append_assoc before (l ∷ []) rest)) (leads_on before start s t l h g) none))

    pub some_outcome : ((x : Result Said (Broken Rule)) → Outcome gives closes start file x → ⊥) → ⊥
    some_outcome none = from_here [] file.lines start refl (leads_nowhere start) none
