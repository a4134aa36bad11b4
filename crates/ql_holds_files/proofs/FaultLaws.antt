-- The first fault of a file is that of the grammar.
use Rattle.std.proofs.Common.{◌≡◌, inl, inr, ℕ, Bool, true, false, if◌then◌else◌, List, [], ◌∷◌, Result, Ok, Err, refl, sym, ap, subst, ◌∙◌}
use Rattle.ql_lines.specs.Lines.{Ahead, Numbered, texts_of}
use Rattle.ql_lines.specs.declared.fault.Broken.{Broken}
use Rattle.ql_lines.specs.Outcomes.FirstFault.{at_line, at_end}
use Rattle.ql_holds_files.specs.declared.reading.Stage.{Stage}
use Rattle.ql_holds_files.specs.declared.reading.Stage.TheVariants.{Unbegun, WithContract, WithEffects}
use Rattle.ql_holds_files.specs.declared.rules.HoldsRule.{HoldsRule}
use Rattle.ql_holds_files.specs.declared.rules.HoldsRule.TheVariants.{Unexpected, Range}
use Rattle.ql_holds_files.specs.HoldsFile.{Asked, HoldsOutcome, closed, is_there, named_formula_of, no_effects}
use Rattle.ql_holds_files.specs.FirstFaults.FirstHoldsFault.{at_line as line_fault, at_end as end_of_file, no_current}
use Rattle.ql_holds_files.specs.FirstFaults.{FirstHoldsFault}
use Rattle.ql_holds_files.specs.Grammar.{HoldsTree, IsHoldsFile}
use Rattle.ql_holds_files.specs.TreeRules.{KeepsRules}
use Rattle.ql_holds_files.proofs.Asking.{asked_after, tree_of}
use Rattle.ql_holds_files.proofs.Beginnings.{begins, led}
use Rattle.ql_holds_files.proofs.Breaking.{breaks, no_whole_beginning, refused_there}
use Rattle.ql_holds_files.proofs.Trees.{Lines, current_there, ends, file_of, has_current, lines_of, no_lines, one_line}
use Rattle.ql_holds_files.proofs.Keeping.{kept, no_faults}
use Rattle.ql_holds_files.proofs.Named.{named_after}
use Rattle.ql_holds_files.proofs.Reached.{Reached, leads, reached}
use Rattle.ql_holds_files.proofs.Trees as trees

abbrev file_from : List Numbered → ℕ → Ahead
file_from ls end = record { lines = ls; end = end }

-- ---- a fault at the end of a file

unclosed_fault : (end : ℕ) (fault given : Broken HoldsRule) (s t : Stage) → s ≡ t → closed t end ≡ Err given → Err fault ≡ closed s end → given ≡ fault
unclosed_fault end fault given s t to unclosed e =
    let same : ◌≡◌ {A = Result Asked (Broken HoldsRule)} (Err fault) (Err given) = e ∙ ap (λ r. closed r end) to ∙ unclosed in
    cc

is_refused : (b : Bool) (given : Asked) (broken fault : Broken HoldsRule) → Err fault ≡ (if b then Ok given else Err broken) → (b ≡ false) × (broken ≡ fault)
is_refused true given broken fault e = absurd cc
is_refused false given broken fault e = (refl, cc)

both_ways : (b : Bool) → b ≡ true → b ≡ false → ⊥
both_ways true p q = cc
both_ways false p q = cc

end_fault : (ls : List Numbered) (end : ℕ) (s : Stage) (f : Broken HoldsRule) → Reached ls s → Err f ≡ closed s end → FirstHoldsFault (file_from ls end) f
end_fault [] end s f to e =
    subst (FirstHoldsFault (file_from [] end)) (unclosed_fault end f (record { line = end; rule = Unexpected }) s Unbegun to refl e)
    (end_of_file (begins [] s to) (λ t h. no_lines t h))
end_fault (l ∷ []) end s f (c, has, to) e =
    subst (FirstHoldsFault (file_from (l ∷ []) end)) (unclosed_fault end f (record { line = end; rule = Unexpected }) s (WithContract (named_formula_of c) (no_effects c)) to refl e)
    (end_of_file (begins (l ∷ []) s (c, has, to)) (λ t h. one_line l.text t h))
end_fault (l ∷ m ∷ ls) end s f (c, has, id, is, inl read) e =
    let stage = WithEffects (named_formula_of c) (record { line = m.number; id = id }) (named_after (no_effects c) read.effects) in
    subst (FirstHoldsFault (file_from (l ∷ m ∷ ls) end)) (unclosed_fault end f (record { line = end; rule = Unexpected }) s stage read.to refl e)
    (end_of_file (begins (l ∷ m ∷ ls) s (c, has, id, is, inl read)) (λ t h.
    let lines : Lines m.text (texts_of ls) t = lines_of l.text m.text (texts_of ls) t h in
    no_whole_beginning 1 read.effects t.effects (sym read.lines ∙ lines.spelled)))
end_fault (l ∷ m ∷ ls) end s f (c, has, id, is, inr read) e =
    let es = read.effects in
    let whole = e ∙ ap (λ r. closed r end) read.to in
    let given = is_refused (is_there id (named_after (no_effects c) es)) (asked_after c id es) (record { line = m.number; rule = Range }) f whole in
    let file : IsHoldsFile (texts_of (l ∷ m ∷ ls)) (tree_of c id es) = file_of l.text m.text (texts_of ls) (tree_of c id es) has.line (record { current = is; spelled = read.lines; effects = read.fits }) in
    let keeps : KeepsRules (tree_of c id es) = record { contract = no_faults c has.kept; effects = kept c es [] read.allowed } in
    subst (FirstHoldsFault (file_from (l ∷ m ∷ ls) end)) given.1
    (no_current l m ls (tree_of c id es) refl file keeps (λ there. both_ways (is_there id (named_after (no_effects c) es)) (current_there c id es there) given.0))

pub first_fault : (file : Ahead) (f : Broken HoldsRule) → HoldsOutcome file (Err f) → FirstHoldsFault file f
first_fault file f (at_line before l rest s rule are h g) =
    let there = reached before s h in
    line_fault before l rest rule are (begins before s there) (breaks before l s rule there g)
first_fault file f (at_end s broken h e) = end_fault file.lines file.end s broken (reached file.lines s h) e

-- ---- and back

-- what doesn't end a file of the grammar is a file that ends too early
ends_early : (ls : List Numbered) (end : ℕ) (s : Stage) → Reached ls s → ((t : HoldsTree) → IsHoldsFile (texts_of ls) t → ⊥) → ◌≡◌ {A = Result Asked (Broken HoldsRule)} (Err (record { line = end; rule = Unexpected })) (closed s end)
ends_early [] end s to none = ap (λ r. closed r end) (sym to)
ends_early (l ∷ []) end s (c, has, to) none = ap (λ r. closed r end) (sym to)
ends_early (l ∷ m ∷ ls) end s (c, has, id, is, inl read) none = ap (λ r. closed r end) (sym read.to)
ends_early (l ∷ m ∷ ls) end s (c, has, id, is, inr read) none =
    absurd (none (tree_of c id read.effects) (file_of l.text m.text (texts_of ls) (tree_of c id read.effects) has.line (record { current = is; spelled = read.lines; effects = read.fits })))

refuses_there : (b : Bool) (given : Asked) (broken : Broken HoldsRule) → (b ≡ true → ⊥) → Err broken ≡ (if b then Ok given else Err broken)
refuses_there true given broken other = absurd (other refl)
refuses_there false given broken other = refl

pub fault_outcome : (file : Ahead) (f : Broken HoldsRule) → FirstHoldsFault file f → HoldsOutcome file (Err f)
fault_outcome file f (line_fault before l rest rule are begun breaks_it) =
    let at = led before begun in
    at_line before l rest at.0 rule are (leads before at.0 at.1) (refused_there before l at.0 rule at.1 breaks_it)
fault_outcome file f (end_of_file begun none) =
    let at = led file.lines begun in
    at_end at.0 (record { line = file.end; rule = Unexpected }) (leads file.lines at.0 at.1) (ends_early file.lines file.end at.0 at.1 none)
fault_outcome file f (no_current l m ls t are h keeps other) =
    let whole : IsHoldsFile (texts_of (l ∷ m ∷ ls)) t = subst (λ ks. IsHoldsFile (texts_of ks) t) are h in
    let stage = trees.at_end m.number t in
    let there = is_there t.current (named_after (no_effects t.contract) t.effects) in
    at_end stage (record { line = m.number; rule = Range }) (leads file.lines stage (subst (λ ks. Reached ks stage) (sym are) (ends l m ls t whole keeps)))
    (refuses_there there (asked_after t.contract t.current t.effects) (record { line = m.number; rule = Range }) (λ is. other (has_current t.contract t.current t.effects is)))
