-- Strong uses, by the numbers of operations.
use Rattle.std.proofs.Common.{◌≡◌, ◌≢◌, ℕ, true, false, inl, inr, List, [], ◌∷◌, Option, None, Some, map, length, option_map, get_or, refl, sym, subst, ap, ◌∙◌}
use Rattle.std.specs.List.{All, list_any, slice_get}
use Rattle.std.specs.Str.{bytes_eq}
use Rattle.std.proofs.lemmas.Bool.{both_ways}
use Rattle.std.proofs.lemmas.List.Elements.{All-append, All-cons, All-head, All-map, All-nil, All-tail}
use Rattle.std.proofs.lemmas.List.Folds.{list_any_at}
use Rattle.std.proofs.lemmas.Option.{slice_get-map, slice_get_within}
use Rattle.std.proofs.lemmas.Slice.Eq.{bytes_eq-Decides}
use Rattle.ql_base.specs.declared.ids.DeclId.{DeclId}
use Rattle.ql_base.specs.declared.ids.OpId.{OpId}
use Rattle.ql_lang.specs.declared.name.Name.{Name}
use Rattle.ql_lang.specs.declared.operation.OpDecl.{OpDecl}
use Rattle.ql_lang.specs.declared.program.Program.{Program}
use Rattle.ql_lang.specs.declared.program.TxnDecl.{TxnDecl}
use Rattle.ql_levels.specs.declared.level.Level.{Level}
use Rattle.ql_levels.specs.declared.level.Level.TheVariants.{Strong}
use Rattle.ql_typing.specs.Operations.{all_ops, names_op, uses_op}
use Rattle.ql_typing.specs.Programs.{program_faults}
use Rattle.ql_classify.specs.Outcome.{FirstFails, IsAccepted, OpHasLevel, Passes, Test, TxnHasLevel, UseIsWeak, all_tests, every_txn_tests, names_used, op_tests, txn_tests, use_tests}
use Rattle.ql_classify.specs.Targets.{IsOpLevel, IsStrongUse}
use Rattle.ql_classify.specs.declared.classless.Classless.TheVariants.{StrongInTxn}
use Rattle.ql_classify.proofs.OneOutcome.{one_op_level}
use Rattle.ql_classify.proofs.TestOrder.{all-upto}
use Rattle.ql_verdicts.proofs.Distinct.{only_uses, op_of}
use Rattle.ql_verdicts.proofs.Lists.{all_at, all_behind, all_front, all_of}

-- ---- accepted programs

pub weak_uses : (p : Program) → program_faults p ≡ [] → IsAccepted p → (d o : ℕ) (level : Level) → uses_op p d o ≡ true → IsOpLevel p o level → level ≢ Strong
weak_uses p typed accepted d o level h least =
    let names = only_uses p typed d o h in
    let txns : All (Passes p) (every_txn_tests p) = all_behind (Passes p) (op_tests p) (every_txn_tests p) accepted in
    let own : All (Passes p) (txn_tests p d) = all_of (Passes p) (length p.txns) d (txn_tests p) txns (slice_get_within p.txns d names.txn names.declared) in
    let uses : All (Passes p) (use_tests p d) = all_front (Passes p) (use_tests p d) (TxnHasLevel d ∷ []) own in
    let at : slice_get (use_tests p d) names.place ≡ Some (UseIsWeak d names.name.word) =
    ap (λ r. slice_get (map (λ (n : Name). UseIsWeak d n.word) (names_used r)) names.place) names.declared
    ∙ slice_get-map (λ (n : Name). UseIsWeak d n.word) names.txn.uses names.place
    ∙ ap (option_map (λ (n : Name). UseIsWeak d n.word)) names.listed in
    let weak = all_at (Passes p) (use_tests p d) names.place (UseIsWeak d names.name.word) uses at o names.number in
    λ e. weak.2 (one_op_level p o weak.0 level weak.1 least ∙ e)

-- ---- refused programs

-- a test of a use is of a name that the transaction has
abbrev IsOwn : Program → Test → Type 0
IsOwn p (OpHasLevel o) = Unit {0}
IsOwn p (UseIsWeak d w) = list_any (λ n. bytes_eq w n.word) (names_used (slice_get p.txns d)) ≡ true
IsOwn p (TxnHasLevel d) = Unit {0}

has_itself : (names : List Name) → All (λ (n : Name). list_any (λ (m : Name). bytes_eq n.word m.word) names ≡ true) names
has_itself names k d below =
    list_any_at (λ (m : Name). bytes_eq (get_or names k d).word m.word) names k d below ((bytes_eq-Decides (get_or names k d).word (get_or names k d).word).1 refl)

own_uses : (p : Program) (d : ℕ) → All (IsOwn p) (use_tests p d)
own_uses p d = All-map (IsOwn p) (λ (n : Name). UseIsWeak d n.word) (names_used (slice_get p.txns d)) (has_itself (names_used (slice_get p.txns d)))

own_txn : (p : Program) (d : ℕ) → All (IsOwn p) (txn_tests p d)
own_txn p d = All-append (IsOwn p) (use_tests p d) (TxnHasLevel d ∷ []) (own_uses p d) (All-cons (IsOwn p) (TxnHasLevel d) [] tt (All-nil (IsOwn p)))

own_tests : (p : Program) → All (IsOwn p) (all_tests p)
own_tests p =
    All-append (IsOwn p) (op_tests p) (every_txn_tests p)
    (all-upto (IsOwn p) (length (all_ops p.types)) (λ o. OpHasLevel o ∷ []) (λ k l. All-cons (IsOwn p) (OpHasLevel k) [] tt (All-nil (IsOwn p))))
    (all-upto (IsOwn p) (length p.txns) (txn_tests p) (λ k l. own_txn p k))

-- the test that fails with a strong use
failing : (p : Program) (tests : List Test) (d : DeclId) (o : OpId) → All (IsOwn p) tests → FirstFails p tests (StrongInTxn d o)
    → (w : List ℕ) × IsOwn p (UseIsWeak d.0 w) × IsStrongUse p w o.0
failing p [] d o own h = absurd h
failing p (OpHasLevel k ∷ tests) d o own h = elim h [
  | inl here ↦ absurd here
  | inr later ↦ failing p tests d o (All-tail (IsOwn p) (OpHasLevel k) tests own) later.1
]
failing p (UseIsWeak k w ∷ tests) d o own h = elim h [
  | inl here ↦ (w, subst (λ e. IsOwn p (UseIsWeak e w)) (sym here.0) (All-head (IsOwn p) (UseIsWeak k w) tests own), here.1)
  | inr later ↦ failing p tests d o (All-tail (IsOwn p) (UseIsWeak k w) tests own) later.1
]
failing p (TxnHasLevel k ∷ tests) d o own h = elim h [
  | inl here ↦ absurd here
  | inr later ↦ failing p tests d o (All-tail (IsOwn p) (TxnHasLevel k) tests own) later.1
]

own_used : (p : Program) (d o : ℕ) (w : List ℕ) (op : OpDecl) → slice_get (all_ops p.types) o ≡ Some op → op.name.word ≡ w → (r : Option TxnDecl) → slice_get p.txns d ≡ r
    → list_any (λ n. bytes_eq w n.word) (names_used r) ≡ true → uses_op p d o ≡ true
own_used p d o w op is same None e h = absurd (both_ways false refl h)
own_used p d o w op is same (Some t) e h =
    ap (λ r. names_op r (slice_get (all_ops p.types) o)) e
    ∙ ap (names_op (Some t)) is
    ∙ ap (λ (v : List ℕ). list_any (λ (n : Name). bytes_eq v n.word) t.uses) same
    ∙ h

pub reported_use : (p : Program) (d : DeclId) (o : OpId) → FirstFails p (all_tests p) (StrongInTxn d o) → (uses_op p d.0 o.0 ≡ true) × IsOpLevel p o.0 Strong
reported_use p d o h =
    let reported = failing p (all_tests p) d o (own_tests p) h in
    let op = op_of p.types reported.0 o.0 reported.2.0 in
    (own_used p d.0 o.0 reported.0 op.0 op.1 op.2 (slice_get p.txns d.0) refl reported.1, reported.2.1)
