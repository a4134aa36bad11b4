-- What is proved is accepted: a certificate whose sections refute the ground problems of their targets.
use Rattle.std.proofs.Common.{◌≡◌, inl, inr, ℕ, suc, ◌+◌, ◌-◌, List, [], ◌∷◌, ◌++◌, map, length, Some, refl, sym, ap, subst, ◌∙◌, arith}
use Rattle.std.specs.List.{AllZip, slice_get}
use Rattle.ql_cert.specs.declared.cert.Section.{Section}
use Rattle.ql_cert.specs.declared.cert.SectionLevel.{SectionLevel}
use Rattle.ql_cert.proofs.OneReading.{one_cert}
use Rattle.ql_classify.specs.Goals.{IsRefutedBy}
use Rattle.ql_classify.specs.Targets.{op_at, txn_at, ops_from, txns_from, goals_at}
use Rattle.ql_cnf.specs.Satisfaction.{ClauseList}
use Rattle.ql_ground.specs.OfPrograms.{IsProblemOf}
use Rattle.ql_ground.specs.declared.goal.Goal.{Goal}
use Rattle.ql_ground.specs.declared.goal.Goal.TheVariants.{OpAt, TxnAt}
use Rattle.ql_lang.specs.declared.operation.OpDecl.{OpDecl}
use Rattle.ql_lang.specs.declared.program.Program.{Program}
use Rattle.ql_lang.specs.declared.program.TxnDecl.{TxnDecl}
use Rattle.ql_lang.specs.Programs.{Source, source_of}
use Rattle.ql_levels.specs.Lists.{LevelLists}
use Rattle.ql_levels.specs.declared.level.Level.{Level}
use Rattle.ql_levels.specs.declared.level.TxnLevel.{TxnLevel}
use Rattle.ql_parse.specs.Parsing.{IsProgramText}
use Rattle.ql_refute.specs.Verdict.{verdict}
use Rattle.ql_refute.specs.declared.refutation.Line.{Line}
use Rattle.ql_typing.specs.Operations.{all_ops}
use Rattle.ql_reply.specs.declared.status.Status.{Status}
use Rattle.ql_reply.specs.declared.status.Status.TheVariants.{Done, No, Bad, ReadFault, WriteFault, Usage, TooLarge}
use Rattle.ql_commands.specs.Check.{AreExpected, BeginOtherwise, CheckSays, IsOutOfOrder, Operation, Target, Reports, Transaction, goal_at, goal_of, target_named, target_of}
use Rattle.ql_commands.specs.Check.Reports.{all, accepted, refused}
use Rattle.ql_classify.specs.Least.{AreLevelsOf}
use Rattle.ql_commands.specs.Prove.{IsSectionOf, ProveSays, level_of, name_of}
use Rattle.std.proofs.lemmas.List.{append_cancel_left, map-append}
use Rattle.ql_commands.proofs.SameProblems.{same_count, same_expected, same_refuted}

-- ---- sections in order are judged against the problems that they refute

-- each section from a place on refutes the problem of its own goal
abbrev AreRefuted : Program → ℕ → List Section → Type 0
AreRefuted q place [] = Unit {0}
AreRefuted q place (s ∷ ss) = IsRefutedBy q (goal_of q place s) s.refutation.lines × AreRefuted q (suc place) ss

one-problem : (q : Program) (g : Goal) (c d : ClauseList) → IsProblemOf q g c → IsProblemOf q g d → c ≡ d
one-problem q (OpAt o level) c d h g =
    let both : Some h.0 ≡ Some g.0 = sym h.1 ∙ g.1 in
    let same : h.0 ≡ g.0 = cc in
    h.2 ∙ rw same (sym g.2)
one-problem q (TxnAt o level) c d h g =
    let both : Some h.0 ≡ Some g.0 = sym h.1 ∙ g.1 in
    let same : h.0 ≡ g.0 = cc in
    h.2 ∙ rw same (sym g.2)

none-refused : (q : Program) (place : ℕ) (ss : List Section) (a : Status) (text : List ℕ) → Reports q place ss a text → AreRefuted q place ss → a ≡ No → ⊥
none-refused q place ss a text (all k) h is = absurd (cc)
none-refused q place ss a text (accepted k s more b rest refuted gives reports) h is = none-refused q (suc k) more b rest reports h.1 is
none-refused q place ss a text (refused k s more c problem not) h is =
    not (ap (λ (d : ClauseList). verdict d s.refutation.lines) (one-problem q (goal_of q k s) c h.0.0 problem h.0.1) ∙ h.0.2)

-- ---- the sections of a program's goals

-- an operation's section has its target and its goal at its place; so has a transaction's
ops-refuted : (p q : Program) (k : ℕ) (levels : List Level) (rest : List Goal) (ss : List Section)
    → AllZip (IsSectionOf p) (ops_from k levels ++ rest) ss → ((g : Goal) (lines : List Line) → IsRefutedBy p g lines → IsRefutedBy q g lines)
    → ((ts : List Section) → AllZip (IsSectionOf p) rest ts → AreRefuted q (k + length levels) ts) → AreRefuted q k ss
ops-refuted p q k [] rest ss h to later = let place : k + 0 ≡ k = omega arith in subst (λ n. AreRefuted q n ss) place (later ss h)
ops-refuted p q k (l ∷ levels) rest [] h to later = absurd h
ops-refuted p q k (l ∷ levels) rest (s ∷ ss) h to later =
    let goal : op_at k l ≡ goal_of q k s = sym (ap (goal_at (length (all_ops q.types)) k) h.0.level) in
    let place : k + length (l ∷ levels) ≡ suc k + length levels = omega arith in (
      subst (λ g. IsRefutedBy q g s.refutation.lines) goal (to (op_at k l) s.refutation.lines h.0.refuted),
      ops-refuted p q (suc k) levels rest ss h.1 to (λ ts zipped. subst (λ n. AreRefuted q n ts) place (later ts zipped)),
    )

txns-refuted : (p q : Program) (d place : ℕ) (levels : List TxnLevel) (ss : List Section) → place ≡ length (all_ops q.types) + d
    → AllZip (IsSectionOf p) (txns_from d levels) ss → ((g : Goal) (lines : List Line) → IsRefutedBy p g lines → IsRefutedBy q g lines) → AreRefuted q place ss
txns-refuted p q d place [] [] is h to = tt
txns-refuted p q d place [] (s ∷ ss) is h to = absurd h
txns-refuted p q d place (l ∷ levels) [] is h to = absurd h
txns-refuted p q d place (l ∷ levels) (s ∷ ss) is h to =
    let number : d ≡ place - length (all_ops q.types) = omega (arith, is) in
    let goal : txn_at d l ≡ goal_of q place s = ap (λ n. txn_at n l) number ∙ sym (ap (goal_at (length (all_ops q.types)) place) h.0.level) in (
      subst (λ g. IsRefutedBy q g s.refutation.lines) goal (to (txn_at d l) s.refutation.lines h.0.refuted),
      txns-refuted p q (suc d) (suc place) levels ss (omega (arith, is)) h.1 to,
    )

all-refuted : (p q : Program) (levels : LevelLists) (ss : List Section) → source_of p ≡ source_of q → AreLevelsOf p levels → AllZip (IsSectionOf p) (goals_at levels) ss → AreRefuted q 0 ss
all-refuted p q levels ss e are h =
    let to = same_refuted p q e in
    let count : 0 + length levels.ops ≡ length (all_ops q.types) + 0 = omega (arith, are.least.enough.ops, same_count p q e) in
    ops-refuted p q 0 levels.ops (txns_from 0 levels.txns) ss h to (λ ts zipped. txns-refuted p q 0 (0 + length levels.ops) levels.txns ts count zipped to)

-- ---- the sections are those that are expected

-- the name of a target
abbrev target_at : Program → Goal → Target
target_at p g = target_named (name_of p g) (level_of g)

targets-zipped : (p : Program) (gs : List Goal) (ss : List Section) → AllZip (IsSectionOf p) gs ss → map target_of ss ≡ map (target_at p) gs
targets-zipped p [] [] h = refl
targets-zipped p [] (s ∷ ss) h = absurd h
targets-zipped p (g ∷ gs) [] h = absurd h
targets-zipped p (g ∷ gs) (s ∷ ss) h =
    let one : target_of s ≡ target_at p g = ap (λ (n : List ℕ). target_named n s.level) h.0.name ∙ ap (λ (l : SectionLevel). target_named (name_of p g) l) h.0.level in
    ap (λ (t : Target). t ∷ map target_of ss) one ∙ ap (λ (ts : List Target). target_at p g ∷ ts) (targets-zipped p gs ss h.1)

at-op : (p : Program) (ops : List OpDecl) (o : OpDecl) (k : ℕ) (l : Level) → slice_get (all_ops p.types) k ≡ Some o → target_at p (op_at k l) ≡ Operation o.name.word
at-op p ops o k l e = rw e refl

-- operations from a place on, where the rest of the program's are known
ops-named : (p : Program) (k : ℕ) (levels : List Level) (ops : List OpDecl) → length levels ≡ length ops → ((j : ℕ) → slice_get (all_ops p.types) (k + j) ≡ slice_get ops j)
    → map (target_at p) (ops_from k levels) ≡ map (λ (o : OpDecl). Operation o.name.word) ops
ops-named p k [] [] n at = refl
ops-named p k [] (o ∷ ops) n at = absurd (omega (arith, n))
ops-named p k (l ∷ levels) [] n at = absurd (omega (arith, n))
ops-named p k (l ∷ levels) (o ∷ ops) n at =
    let place : k ≡ k + 0 = omega arith in
    let here : slice_get (all_ops p.types) k ≡ Some o = ap (λ (m : ℕ). slice_get (all_ops p.types) m) place ∙ at 0 in
    let later : (j : ℕ) → slice_get (all_ops p.types) (suc k + j) ≡ slice_get ops j = λ j. let next : suc k + j ≡ k + suc j = omega arith in ap (λ (m : ℕ). slice_get (all_ops p.types) m) next ∙ at (suc j) in
    ap (λ (t : Target). t ∷ map (target_at p) (ops_from (suc k) levels)) (at-op p ops o k l here)
    ∙ ap (λ (ts : List Target). Operation o.name.word ∷ ts) (ops-named p (suc k) levels ops (omega (arith, n)) later)

at-txn : (p : Program) (t : TxnDecl) (k : ℕ) (l : TxnLevel) → slice_get p.txns k ≡ Some t → target_at p (txn_at k l) ≡ Transaction t.name.word
at-txn p t k l e = rw e refl

txns-named : (p : Program) (k : ℕ) (levels : List TxnLevel) (txns : List TxnDecl) → length levels ≡ length txns → ((j : ℕ) → slice_get p.txns (k + j) ≡ slice_get txns j)
    → map (target_at p) (txns_from k levels) ≡ map (λ (t : TxnDecl). Transaction t.name.word) txns
txns-named p k [] [] n at = refl
txns-named p k [] (t ∷ txns) n at = absurd (omega (arith, n))
txns-named p k (l ∷ levels) [] n at = absurd (omega (arith, n))
txns-named p k (l ∷ levels) (t ∷ txns) n at =
    let place : k ≡ k + 0 = omega arith in
    let here : slice_get p.txns k ≡ Some t = ap (λ (m : ℕ). slice_get p.txns m) place ∙ at 0 in
    let later : (j : ℕ) → slice_get p.txns (suc k + j) ≡ slice_get txns j = λ j. let next : suc k + j ≡ k + suc j = omega arith in ap (λ (m : ℕ). slice_get p.txns m) next ∙ at (suc j) in
    ap (λ (u : Target). u ∷ map (target_at p) (txns_from (suc k) levels)) (at-txn p t k l here)
    ∙ ap (λ (ts : List Target). Transaction t.name.word ∷ ts) (txns-named p (suc k) levels txns (omega (arith, n)) later)

sections-expected : (p : Program) (levels : LevelLists) (ss : List Section) → AreLevelsOf p levels → AllZip (IsSectionOf p) (goals_at levels) ss → AreExpected p ss
sections-expected p levels ss are h =
    let ops = ops-named p 0 levels.ops (all_ops p.types) are.least.enough.ops (λ j. let place : 0 + j ≡ j = omega arith in ap (λ (n : ℕ). slice_get (all_ops p.types) n) place) in
    let txns = txns-named p 0 levels.txns p.txns are.least.enough.txns (λ j. let place : 0 + j ≡ j = omega arith in ap (λ (n : ℕ). slice_get p.txns n) place) in
    targets-zipped p (goals_at levels) ss h
    ∙ map-append (target_at p) (ops_from 0 levels.ops) (txns_from 0 levels.txns)
    ∙ ap (λ (ts : List Target). ts ++ map (target_at p) (txns_from 0 levels.txns)) ops
    ∙ ap (λ (ts : List Target). map (λ (o : OpDecl). Operation o.name.word) (all_ops p.types) ++ ts) txns

-- ---- both together

begin-alike : (ts : List Target) → BeginOtherwise ts ts → ⊥
begin-alike [] h = h
begin-alike (t ∷ ts) h = h refl

in-order : (q : Program) (ss : List Section) (place : ℕ) → AreExpected q ss → IsOutOfOrder q ss place → ⊥
in-order q ss place expected out =
    let same : out.before ++ out.expected ≡ out.before ++ out.given = sym out.are_expected ∙ sym expected ∙ out.are_given in
    let rest : out.expected ≡ out.given = append_cancel_left out.before out.expected out.given same in
    begin-alike out.given (subst (λ ts. BeginOtherwise ts out.given) rest out.differ)

pub accepted_again : (tree : (bytes : List ℕ) (s t : Source) → IsProgramText bytes s → IsProgramText bytes t → s ≡ t)
    (source cert text : List ℕ) (a : Status) → ProveSays source Done cert → CheckSays source cert a text → a ≡ Done
accepted_again tree source cert text Done proved checked = refl
accepted_again tree source cert text Bad proved checked = elim checked [
  | inl bad ↦ absurd (bad.0 (proved.0, proved.1))
  | inr bad ↦ absurd (bad.1.0 (proved.4.sections, proved.4.spells))
]
accepted_again tree source cert text ReadFault proved checked = absurd checked
accepted_again tree source cert text WriteFault proved checked = absurd checked
accepted_again tree source cert text Usage proved checked = absurd checked
accepted_again tree source cert text TooLarge proved checked = absurd checked
accepted_again tree source cert text No proved checked =
    let p = proved.0 in
    let q = checked.0 in
    let c = proved.4 in
    let same : source_of p ≡ source_of q = tree source (source_of p) (source_of q) proved.1.0 checked.1.0 in
    let one : c.sections ≡ checked.2 = one_cert _ c.sections checked.2 c.spells checked.3 in
    let expected : AreExpected q c.sections = sections-expected p proved.2 c.sections proved.3 c.of_targets ∙ same_expected p q same in
    let refuted : AreRefuted q 0 c.sections = all-refuted p q proved.2 c.sections same proved.3 c.of_targets in
    elim checked.4 [
      | inl out ↦ absurd (in-order q checked.2 out.0 (subst (λ ss. AreExpected q ss) one expected) out.1)
      | inr reported ↦ absurd (none-refused q 0 checked.2 No text reported.1 (subst (λ ss. AreRefuted q 0 ss) one refuted) refl)
    ]
