-- Names of operations and their numbers in a program without faults.
use Rattle.std.proofs.Common.{◌≡◌, ℕ, zero, suc, true, false, ◌||◌, List, [], ◌∷◌, ◌++◌, Option, None, Some, map, option_map, get_or, if◌then◌else◌, refl, sym, subst, ap, ◌∙◌}
use Rattle.std.specs.List.{slice_get}
use Rattle.std.specs.Str.{bytes_eq}
use Rattle.std.proofs.lemmas.Bool.{both_ways}
use Rattle.std.proofs.lemmas.List.Folds.{list_any-append}
use Rattle.std.proofs.lemmas.List.Quantifiers.{position-Some}
use Rattle.std.proofs.lemmas.Option.{slice_get-get_or, slice_get-map}
use Rattle.std.proofs.lemmas.Slice.Eq.{bytes_eq-Decides}
use Rattle.ql_base.specs.Numbering.{has_name, with_name}
use Rattle.ql_lang.specs.declared.name.Name.{Name}
use Rattle.ql_lang.specs.declared.operation.OpDecl.{OpDecl}
use Rattle.ql_lang.specs.declared.program.Program.{Program}
use Rattle.ql_lang.specs.declared.program.TxnDecl.{TxnDecl}
use Rattle.ql_lang.specs.declared.program.TypeDecl.{TypeDecl}
use Rattle.ql_typing.specs.ContractFaults.{op_faults}
use Rattle.ql_typing.specs.Faults.{each, repeats}
use Rattle.ql_typing.specs.Operations.{all_ops, names_op, op_place, op_words, uses_op}
use Rattle.ql_typing.specs.Programs.{op_names, program_faults, txn_faults}
use Rattle.ql_typing.specs.declared.fault.TypeFault.TheVariants.{Twice, Unknown}
use Rattle.ql_typing.proofs.FaultFree.{txn_typed}
use Rattle.ql_typing.proofs.Parts.{each_at, flat_of_map, left_none, right_none, reported_false, reported_true}
use Rattle.ql_typing.proofs.Positions.{op_place_of}
use Rattle.ql_verdicts.specs.Uses.{NamesOp}
use Rattle.ql_verdicts.proofs.Lists.{any_at, any_found, or_left, or_right, place_found}

-- ---- names without a repeat

-- a name that is none of those met, nor the one that is met now
unmet : (before : List (List ℕ)) (m w : List ℕ) → has_name before m ≡ false → has_name (with_name before m) w ≡ false → (has_name before w ≡ false) × (bytes_eq w m ≡ false)
unmet before m w new h =
    let longer : has_name (before ++ m ∷ []) w ≡ false = subst (λ b. has_name (if b then before else before ++ m ∷ []) w ≡ false) new h in
    let split : (has_name before w || (bytes_eq w m || false)) ≡ false = sym (list_any-append (bytes_eq w) before (m ∷ [])) ∙ longer in
    (or_left (has_name before w) (bytes_eq w m || false) split, or_left (bytes_eq w m) false (or_right (has_name before w) (bytes_eq w m || false) split))

not_before : (before : List (List ℕ)) (ns : List Name) (k : ℕ) (n : Name) → repeats before ns ≡ [] → slice_get ns k ≡ Some n → has_name before n.word ≡ false
unfolding repeats
not_before before [] k n h is =
    let no : ⊥ = cc in
    absurd no
not_before before (m ∷ ns) zero n h is =
    let same : m ≡ n = cc in
    subst (λ (x : Name). has_name before x.word ≡ false) same (reported_false (has_name before m.word) (Twice m.at) (left_none _ _ h))
not_before before (m ∷ ns) (suc k) n h is =
    let new : has_name before m.word ≡ false = reported_false (has_name before m.word) (Twice m.at) (left_none _ _ h) in
    let later = unmet before m.word n.word new (not_before (with_name before m.word) ns k n (right_none _ _ h) is) in
    later.0

-- the first name stands nowhere after
first_apart : (before : List (List ℕ)) (m : Name) (ns : List Name) (k : ℕ) (b : Name) → repeats before (m ∷ ns) ≡ [] → slice_get ns k ≡ Some b → b.word ≡ m.word → ⊥
unfolding repeats
first_apart before m ns k b h at same =
    let new : has_name before m.word ≡ false = reported_false (has_name before m.word) (Twice m.at) (left_none _ _ h) in
    let later = unmet before m.word b.word new (not_before (with_name before m.word) ns k b (right_none _ _ h) at) in
    both_ways (bytes_eq b.word m.word) later.1 ((bytes_eq-Decides b.word m.word).1 same)

one_place : (before : List (List ℕ)) (ns : List Name) (j k : ℕ) (a b : Name) → repeats before ns ≡ [] → slice_get ns j ≡ Some a → slice_get ns k ≡ Some b → a.word ≡ b.word → j ≡ k
unfolding repeats
one_place before [] j k a b h is at same =
    let no : ⊥ = cc in
    absurd no
one_place before (m ∷ ns) zero zero a b h is at same = refl
one_place before (m ∷ ns) zero (suc k) a b h is at same =
    let first : m ≡ a = cc in
    absurd (first_apart before m ns k b h at (sym same ∙ sym (ap (λ (x : Name). x.word) first)))
one_place before (m ∷ ns) (suc j) zero a b h is at same =
    let first : m ≡ b = cc in
    absurd (first_apart before m ns j a h is (same ∙ sym (ap (λ (x : Name). x.word) first)))
one_place before (m ∷ ns) (suc j) (suc k) a b h is at same = ap suc (one_place (with_name before m.word) ns j k a b (right_none _ _ h) is at same)

-- ---- operations

named_at : (types : List TypeDecl) (i : ℕ) (a : OpDecl) → slice_get (all_ops types) i ≡ Some a → slice_get (op_names types) i ≡ Some a.name
named_at types i a is =
    ap (λ ns. slice_get ns i) (flat_of_map (λ (o : OpDecl). o.name) (λ (t : TypeDecl). t.ops) types)
    ∙ slice_get-map (λ (o : OpDecl). o.name) (all_ops types) i
    ∙ ap (option_map (λ (o : OpDecl). o.name)) is

names_apart : (p : Program) → program_faults p ≡ [] → repeats [] (op_names p.types) ≡ []
unfolding program_faults
names_apart p typed = right_none (repeats [] (map (λ t. t.name) p.types) ++ repeats [] (map (λ d. d.name) p.txns)) _ (left_none _ _ typed)

pub distinct : (p : Program) → program_faults p ≡ [] → (i j : ℕ) (a b : OpDecl) → slice_get (all_ops p.types) i ≡ Some a → slice_get (all_ops p.types) j ≡ Some b → a.name.word ≡ b.name.word → i ≡ j
distinct p typed i j a b is at same = one_place [] (op_names p.types) i j a.name b.name (names_apart p typed) (named_at p.types i a is) (named_at p.types j b at) same

-- the operation of a name
pub op_of : (types : List TypeDecl) (w : List ℕ) (o : ℕ) → op_place types w ≡ Some o → (op : OpDecl) × (slice_get (all_ops types) o ≡ Some op) × (op.name.word ≡ w)
op_of types w o h =
    let here = position-Some (bytes_eq w) (op_words types) o [] (op_place_of (op_words types) types w refl ∙ h) in
    let there : slice_get (op_words types) o ≡ Some (get_or (op_words types) o []) = slice_get-get_or (op_words types) o [] here.0 in
    by (slice_get (all_ops types) o) refl (get_or (op_words types) o []) (sym (slice_get-map (λ (x : OpDecl). x.name.word) (all_ops types) o) ∙ there) ((bytes_eq-Decides w (get_or (op_words types) o [])).0 here.1)
  where
    by : (r : Option OpDecl) → slice_get (all_ops types) o ≡ r → (v : List ℕ) → option_map (λ (x : OpDecl). x.name.word) r ≡ Some v → w ≡ v → (op : OpDecl) × (slice_get (all_ops types) o ≡ Some op) × (op.name.word ≡ w)
    by None e v g same =
        let no : ⊥ = cc in
        absurd no
    by (Some op) e v g same =
        let word : op.name.word ≡ v = cc in
        (op, e, word ∙ sym same)

-- ---- uses

-- a name that a transaction has among its uses is an operation's
known_use : (p : Program) → program_faults p ≡ [] → (d k : ℕ) (t : TxnDecl) (n : Name) → slice_get p.txns d ≡ Some t → slice_get t.uses k ≡ Some n → has_name (op_words p.types) n.word ≡ true
unfolding txn_faults op_faults
known_use p typed d k t n is at =
    let fine = txn_typed p typed d t is in
    let uses : each (op_faults (Some (op_words p.types))) t.uses ≡ [] = left_none _ _ (right_none (repeats [] t.uses) _ fine) in
    reported_true (has_name (op_words p.types) n.word) (Unknown n.at) (each_at (op_faults (Some (op_words p.types))) t.uses k n uses at)

pub used_by_number : (p : Program) (d k o : ℕ) (t : TxnDecl) (n : Name) → slice_get p.txns d ≡ Some t → slice_get t.uses k ≡ Some n → op_place p.types n.word ≡ Some o → uses_op p d o ≡ true
used_by_number p d k o t n is at number =
    let op = op_of p.types n.word o number in
    ap (λ r. names_op r (slice_get (all_ops p.types) o)) is
    ∙ ap (names_op (Some t)) op.1
    ∙ any_at (λ (m : Name). bytes_eq op.0.name.word m.word) t.uses k n at ((bytes_eq-Decides op.0.name.word n.word).1 op.2)

pub each_use : (p : Program) → program_faults p ≡ [] → (d k : ℕ) (t : TxnDecl) (n : Name) → slice_get p.txns d ≡ Some t → slice_get t.uses k ≡ Some n → (o : ℕ) × (op_place p.types n.word ≡ Some o) × (uses_op p d o ≡ true)
each_use p typed d k t n is at =
    let found = place_found (bytes_eq n.word) (op_words p.types) (known_use p typed d k t n is at) in
    let number : op_place p.types n.word ≡ Some found.0 = sym (op_place_of (op_words p.types) p.types n.word refl) ∙ found.1 in
    (found.0, number, used_by_number p d k found.0 t n is at number)

pub only_uses : (p : Program) → program_faults p ≡ [] → (d o : ℕ) → uses_op p d o ≡ true → NamesOp p d o
only_uses p typed d o h = by (slice_get p.txns d) (slice_get (all_ops p.types) o) refl refl h
  where
    by : (r : Option TxnDecl) (s : Option OpDecl) → slice_get p.txns d ≡ r → slice_get (all_ops p.types) o ≡ s → names_op r s ≡ true → NamesOp p d o
    by None None e f g = absurd (both_ways false refl g)
    by None (Some op) e f g = absurd (both_ways false refl g)
    by (Some t) None e f g = absurd (both_ways false refl g)
    by (Some t) (Some op) e f g =
        let found = any_found (λ (m : Name). bytes_eq op.name.word m.word) t.uses g in
        let number = each_use p typed d found.0 t found.1 e found.2 in
        let other = op_of p.types found.1.word number.0 number.1 in
        let same : op.name.word ≡ found.1.word = (bytes_eq-Decides op.name.word found.1.word).0 found.3 in
        let one : number.0 ≡ o = distinct p typed number.0 o other.0 op other.1 f (other.2 ∙ sym same) in
        record { txn = t; declared = e; place = found.0; name = found.1; listed = found.2; number = number.1 ∙ ap (λ (k : ℕ). Some k) one }
