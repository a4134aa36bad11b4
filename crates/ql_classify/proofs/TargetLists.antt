-- The lists of targets and of their evidence: one more item, the item of a number, all items.
use Rattle.std.proofs.Common.{◌≡◌, ℕ, zero, suc, ◌+◌, ◌<◌, Bool, List, [], ◌∷◌, ◌++◌, length, Some, refl, sym, subst, ◌∙◌, ap, arith, length-append}
use Rattle.std.specs.List.{All, AllZip, slice_get, slice_index_or}
use Rattle.std.proofs.lemmas.List.Elements.{All-nil, All-cons}
use Rattle.ql_lang.specs.declared.program.Program.{Program}
use Rattle.ql_levels.specs.Lists.{LevelLists}
use Rattle.ql_levels.specs.declared.level.Level.{Level}
use Rattle.ql_levels.specs.declared.level.TxnLevel.{TxnLevel}
use Rattle.ql_typing.specs.Operations.{all_ops}
use Rattle.ql_typing.specs.Programs.{program_faults}
use Rattle.ql_ground.specs.declared.goal.Goal.{Goal}
use Rattle.ql_implication.specs.OfPrograms.{GivesContract}
use Rattle.ql_classify.specs.Classification.{Classification}
use Rattle.ql_counter.specs.Countermodels.{IsSatisfiedBy}
use Rattle.ql_classify.specs.Kept.{IsClassified}
use Rattle.ql_classify.specs.Least.{AreLevelsOf}
use Rattle.ql_classify.specs.Outcome.{IsAccepted}
use Rattle.ql_classify.specs.Targets.{IsLowerAnswer, op_at, txn_at, ops_from, txns_from, goals_at, targets, IsOpLevel, IsLeastLevel, IsEvidence, AreOpLevels}
use Rattle.ql_classify.specs.declared.evidence.Evidence.{Evidence}
use Rattle.ql_classify.proofs.Climbing.{zip_push}
use Rattle.ql_classify.proofs.Fails.{lower_fail}
use Rattle.ql_classify.proofs.LeastLevels.{least}

pub zip-append : {A B : Type 0} (R : A → B → Type 0) (xs us : List A) (ys vs : List B) → AllZip R xs ys → AllZip R us vs → AllZip R (xs ++ us) (ys ++ vs)
zip-append R [] us [] vs h g = g
zip-append R [] us (y ∷ ys) vs h g = absurd h
zip-append R (x ∷ xs) us [] vs h g = absurd h
zip-append R (x ∷ xs) us (y ∷ ys) vs h g = (h.0, zip-append R xs us ys vs h.1 g)

-- the first item of a place in the second list has one beside it
pub zip-at : {A B : Type 0} (R : A → B → Type 0) (xs : List A) (ys : List B) (i : ℕ) (y : B) → AllZip R xs ys → slice_get ys i ≡ Some y → (x : A) × (slice_get xs i ≡ Some x) × R x y
zip-at R xs [] i y h e = absurd (cc)
zip-at R [] (z ∷ ys) i y h e = absurd h
zip-at R (x ∷ xs) (z ∷ ys) zero y h e = let same : z ≡ y = cc in (x, refl, subst (λ k. R x k) same h.0)
zip-at R (x ∷ xs) (z ∷ ys) (suc i) y h e = zip-at R xs ys i y h.1 e

pub zip-length : {A B : Type 0} (R : A → B → Type 0) (xs : List A) (ys : List B) → AllZip R xs ys → length ys ≡ length xs
zip-length R [] [] h = refl
zip-length R [] (y ∷ ys) h = absurd h
zip-length R (x ∷ xs) [] h = absurd h
zip-length R (x ∷ xs) (y ∷ ys) h = ap suc (zip-length R xs ys h.1)

-- what each pair gives of its first item, all first items have
pub zip-all : {A B : Type 0} (R : A → B → Type 0) (P : A → Type 0) → ((x : A) (y : B) → R x y → P x) → (xs : List A) (ys : List B) → AllZip R xs ys → All P xs
zip-all R P f [] ys h = All-nil P
zip-all R P f (x ∷ xs) [] h = absurd h
zip-all R P f (x ∷ xs) (y ∷ ys) h = All-cons P x xs (f x y h.0) (zip-all R P f xs ys h.1)

ops-push : (k : ℕ) (levels : List Level) (level : Level) → ops_from k (levels ++ level ∷ []) ≡ ops_from k levels ++ op_at (k + length levels) level ∷ []
ops-push k [] level = ap (λ n. op_at n level ∷ []) (omega arith)
ops-push k (l ∷ levels) level =
    ap (λ gs. op_at k l ∷ gs) (ops-push (suc k) levels level ∙ ap (λ n. ops_from (suc k) levels ++ op_at n level ∷ []) (omega arith))

txns-push : (k : ℕ) (levels : List TxnLevel) (level : TxnLevel) → txns_from k (levels ++ level ∷ []) ≡ txns_from k levels ++ txn_at (k + length levels) level ∷ []
txns-push k [] level = ap (λ n. txn_at n level ∷ []) (omega arith)
txns-push k (l ∷ levels) level =
    ap (λ gs. txn_at k l ∷ gs) (txns-push (suc k) levels level ∙ ap (λ n. txns_from (suc k) levels ++ txn_at n level ∷ []) (omega arith))

length-ops : (k : ℕ) (levels : List Level) → length (ops_from k levels) ≡ length levels
length-ops k [] = refl
length-ops k (l ∷ levels) = ap suc (length-ops (suc k) levels)

length-txns : (k : ℕ) (levels : List TxnLevel) → length (txns_from k levels) ≡ length levels
length-txns k [] = refl
length-txns k (l ∷ levels) = ap suc (length-txns (suc k) levels)

module _ (p : Program) where
  -- one more operation, and one more transaction, with its evidence
  pub ops_more : (levels now : List Level) (evidence kept : List Evidence) (o : ℕ) (level : Level) (e : Evidence) → length levels ≡ o → now ≡ levels ++ level ∷ [] → kept ≡ evidence ++ e ∷ [] → AllZip (IsEvidence p) (ops_from 0 levels) evidence → IsEvidence p (op_at o level) e → AllZip (IsEvidence p) (ops_from 0 now) kept
  ops_more levels now evidence kept o level e n is was h g =
      let place : o ≡ 0 + length levels = omega (arith, n) in
      subst (λ z. AllZip (IsEvidence p) (ops_from 0 z) kept) (sym is)
      (subst (λ z. AllZip (IsEvidence p) (ops_from 0 (levels ++ level ∷ [])) z) (sym was)
      (subst (λ z. AllZip (IsEvidence p) z (evidence ++ e ∷ [])) (sym (ops-push 0 levels level))
      (zip_push (IsEvidence p) (ops_from 0 levels) evidence (op_at (0 + length levels) level) e h (subst (λ k. IsEvidence p (op_at k level) e) place g))))

  pub txns_more : (levels now : List TxnLevel) (evidence kept : List Evidence) (d : ℕ) (level : TxnLevel) (e : Evidence) → length levels ≡ d → now ≡ levels ++ level ∷ [] → kept ≡ evidence ++ e ∷ [] → AllZip (IsEvidence p) (txns_from 0 levels) evidence → IsEvidence p (txn_at d level) e → AllZip (IsEvidence p) (txns_from 0 now) kept
  txns_more levels now evidence kept d level e n is was h g =
      let place : d ≡ 0 + length levels = omega (arith, n) in
      subst (λ z. AllZip (IsEvidence p) (txns_from 0 z) kept) (sym is)
      (subst (λ z. AllZip (IsEvidence p) (txns_from 0 (levels ++ level ∷ [])) z) (sym was)
      (subst (λ z. AllZip (IsEvidence p) z (evidence ++ e ∷ [])) (sym (txns-push 0 levels level))
      (zip_push (IsEvidence p) (txns_from 0 levels) evidence (txn_at (0 + length levels) level) e h (subst (λ k. IsEvidence p (txn_at k level) e) place g))))

  -- operations with evidence are at their least levels
  op_level_at : (k : ℕ) (levels : List Level) (evidence : List Evidence) → AllZip (IsEvidence p) (ops_from k levels) evidence → (i : ℕ) (level : Level) → slice_get levels i ≡ Some level → IsOpLevel p (k + i) level
  op_level_at k [] evidence h i level e = absurd (cc)
  op_level_at k (l ∷ levels) [] h i level e = absurd h
  op_level_at k (l ∷ levels) (v ∷ evidence) h zero level e =
      let same : l ≡ level = cc in
      let here : IsOpLevel p k l = least p (op_at k l) v h.0 in
      let place : k ≡ k + 0 = omega arith in
      subst (λ n. IsOpLevel p n level) place (subst (λ z. IsOpLevel p k z) same here)
  op_level_at k (l ∷ levels) (v ∷ evidence) h (suc i) level e =
      let place : suc k + i ≡ k + suc i = omega arith in
      subst (λ n. IsOpLevel p n level) place (op_level_at (suc k) levels evidence h.1 i level e)

  pub each_op_level : (levels : List Level) (evidence : List Evidence) → AllZip (IsEvidence p) (ops_from 0 levels) evidence → (i : ℕ) (level : Level) → slice_get levels i ≡ Some level → IsOpLevel p i level
  each_op_level levels evidence h i level e =
      let place : 0 + i ≡ i = omega arith in
      subst (λ n. IsOpLevel p n level) place (op_level_at 0 levels evidence h i level e)

  pub op_levels : (levels : List Level) (evidence : List Evidence) → length levels ≡ length (all_ops p.types) → AllZip (IsEvidence p) (ops_from 0 levels) evidence → AreOpLevels p levels
  op_levels levels evidence n h = record { all = n; each = each_op_level levels evidence h }

  -- all targets with evidence
  pub all_least : (levels : LevelLists) (evidence : List Evidence) → AllZip (IsEvidence p) (goals_at levels) evidence → All (IsLeastLevel p) (goals_at levels)
  all_least levels evidence h = zip-all (IsEvidence p) (IsLeastLevel p) (least p) (goals_at levels) evidence h

  pub all_implied : (levels : LevelLists) (evidence : List Evidence) → AllZip (IsEvidence p) (goals_at levels) evidence → All (GivesContract p) (goals_at levels)
  all_implied levels evidence h = zip-all (IsEvidence p) (GivesContract p) (λ g e v. v.enough.2) (goals_at levels) evidence h

  -- what a classified program keeps shows that its levels are least
  pub are_levels : (levels : LevelLists) (kept : List Evidence) → program_faults p ≡ [] → IsClassified p levels kept → AreLevelsOf p levels
  are_levels levels kept typed h =
      let first = all_least levels kept h.evidence in
      record {
        accepted = h.accepted;
        least = record {
          enough = record { ops = h.ops; txns = h.txns; each = all_implied levels kept h.evidence };
          lower = λ k d l. lower_fail p typed (slice_index_or (goals_at levels) k d) (first k d l);
        };
        first = first;
      }

  pub count_evidence : (levels : LevelLists) (evidence : List Evidence) → length levels.ops ≡ length (all_ops p.types) → length levels.txns ≡ length p.txns → AllZip (IsEvidence p) (goals_at levels) evidence → length evidence ≡ targets p
  count_evidence levels evidence n m h = omega (arith, zip-length (IsEvidence p) (goals_at levels) evidence h, length-append (ops_from 0 levels.ops) (txns_from 0 levels.txns), length-ops 0 levels.ops, length-txns 0 levels.txns, n, m)

-- what a classified program keeps, as its value has it
abbrev seen : Program → LevelLists → Classification
seen p levels = record { program = p; levels = levels }

pub target_within : (value : Classification) (p : Program) (levels : LevelLists) (kept list : List Evidence) (target : ℕ) → seen p levels ≡ value → IsClassified p levels kept → list ≡ kept → target < targets value.program → target < length list
target_within value p levels kept list target view h same l =
    let place : target < targets p = subst (λ (v : Classification). target < targets v.program) (sym view) l in
    omega (arith, place, ap length same, count_evidence p levels kept h.ops h.txns h.evidence)

pub evidence_at : (value : Classification) (p : Program) (levels : LevelLists) (kept list : List Evidence) (target : ℕ) (e : Evidence) → seen p levels ≡ value → IsClassified p levels kept → list ≡ kept → slice_get list target ≡ Some e → (g : Goal) × (slice_get (goals_at value.levels) target ≡ Some g) × IsEvidence value.program g e
evidence_at value p levels kept list target e view h same at =
    subst (λ (v : Classification). (g : Goal) × (slice_get (goals_at v.levels) target ≡ Some g) × IsEvidence v.program g e) view
    (zip-at (IsEvidence p) (goals_at levels) kept target e h.evidence (ap (λ (z : List Evidence). slice_get z target) (sym same) ∙ at))

pub lower_at : (p : Program) (goals : List Goal) (lower : List (List Bool)) (k : ℕ) → AllZip (IsSatisfiedBy p) goals lower → IsLowerAnswer p (slice_get goals k) (slice_get lower k)
lower_at p [] [] k h = tt
lower_at p [] (a ∷ lower) k h = absurd h
lower_at p (g ∷ goals) [] k h = absurd h
lower_at p (g ∷ goals) (a ∷ lower) zero h = h.0
lower_at p (g ∷ goals) (a ∷ lower) (suc k) h = lower_at p goals lower k h.1

-- levels with their evidence, put together
pub classified : (p : Program) (ops list : List Level) (txns : List TxnLevel) (evidence more kept : List Evidence) → list ≡ ops → length ops ≡ length (all_ops p.types) → length txns ≡ length p.txns → AllZip (IsEvidence p) (ops_from 0 ops) evidence → AllZip (IsEvidence p) (txns_from 0 txns) more → kept ≡ evidence ++ more → IsAccepted p → IsClassified p (record { ops = list; txns = txns }) kept
classified p ops list txns evidence more kept same n m h g is accepted =
    subst (λ z. IsClassified p (record { ops = z; txns = txns }) kept) (sym same)
    (record {
      ops = n;
      txns = m;
      evidence = subst (λ z. AllZip (IsEvidence p) (ops_from 0 ops ++ txns_from 0 txns) z) (sym is) (zip-append (IsEvidence p) (ops_from 0 ops) (txns_from 0 txns) evidence more h g);
      accepted = accepted;
    })
