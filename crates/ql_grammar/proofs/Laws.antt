use Rattle.std.proofs.Common.{◌≡◌, ℕ, List, [], ◌∷◌, ◌++◌, Bool, true, false, Result, Ok, Err, refl, sym, ap, subst, ◌∙◌, append_assoc, append-nil, cond, nat_lt, ◌+◌}
use Rattle.ql_base.specs.declared.limits.TheConstants.{MAX_BRACKETS, MAX_NODES}
use Rattle.ql_lang.specs.Trees.{Sentence}
use Rattle.ql_lang.specs.Programs.{Source}
use Rattle.ql_grammar.specs.declared.role.Role.{Role}
use Rattle.ql_grammar.specs.declared.role.Role.TheVariants.{Plain, Makes, Opens, Closes, Before}
use Rattle.ql_grammar.specs.Tokens.{Lexeme, Marked, lexemes}
use Rattle.ql_grammar.specs.ContractGrammar.{ReadsContract}
use Rattle.ql_grammar.specs.ProgramGrammar.{ReadsProgram}
use Rattle.ql_grammar.specs.Limits.{Fault, Unexpected, Deep, Wide, Counts, counted, counted_all, with_nodes, if_within, nothing_yet}
use Rattle.ql_grammar.specs.Table.{Value, Sym, APart, Part, WholeContract, WholeSource, ASentence, ASource}
use Rattle.ql_grammar.specs.Machine.{run, finish}
use Rattle.ql_grammar.specs.Texts.{IsTextOf, Begins, ParsesAs, FirstFault, unexpected, ended, past}
use Rattle.ql_grammar.proofs.Wanted.{Has, none, contract, source}
use Rattle.ql_grammar.proofs.Told.{Reaches, Explained, stuck, ended as too_early, past as over, Told, run_told}
use Rattle.ql_grammar.proofs.Paths.{Path, path_runs}
use Rattle.ql_grammar.proofs.Again.{again_contract}
use Rattle.ql_grammar.proofs.ProgramAgain.{again_program}

-- the part that a whole text is, and the tree that its values have
pub record IsWhole {A : Type 0} (p : Part) (value : A → Value) (Reads : List Marked → List Marked → A → Type 0) : Type 0 where
  pub text : {ms : List Marked} {out : List Value} → Has (APart p ∷ []) [] ms out → (a : A) × Reads ms [] a × (out ≡ value a ∷ [])
  pub again : {ms : List Marked} {a : A} → Reads ms [] a → Path (APart p ∷ []) [] ms [] (value a ∷ []) []
  pub one : {a b : A} → value a ≡ value b → a ≡ b

-- a count gives no `Unexpected`
abbrev IsExpected : {A : Type 0} → Result A Fault → Type 0
IsExpected (Ok a) = Unit {0}
IsExpected (Err (Unexpected n)) = ⊥
IsExpected (Err (Deep n)) = Unit {0}
IsExpected (Err (Wide n)) = Unit {0}

nodes_expected : (c : Counts) (n at : ℕ) → IsExpected (with_nodes c n at)
unfolding with_nodes
nodes_expected c n at = by_test (nat_lt MAX_NODES (c.nodes + n))
  where
    by_test : (b : Bool) → IsExpected (cond b (Err (Wide at)) (Ok (record c { nodes = c.nodes + n })))
    by_test true = tt
    by_test false = tt

counted_expected : (c : Counts) (r : Role) (at : ℕ) → IsExpected (counted c r at)
unfolding counted
counted_expected c Plain at = tt
counted_expected c (Makes n) at = nodes_expected c n at
counted_expected c Closes at = tt
counted_expected c Before at = tt
counted_expected c (Opens n) at = by_test (nat_lt MAX_BRACKETS (c.open_brackets + 1))
  where
    by_test : (b : Bool) → IsExpected (cond b (Err (Deep at)) (with_nodes (record c { open_brackets = c.open_brackets + 1 }) n at))
    by_test true = tt
    by_test false = nodes_expected (record c { open_brackets = c.open_brackets + 1 }) n at

then_expected : {A : Type 0} (w : Result Counts Fault) (f : Counts → Result A Fault) → IsExpected w → ((d : Counts) → IsExpected (f d)) → IsExpected (if_within w f)
then_expected (Ok d) f first others = others d
then_expected (Err (Unexpected n)) f first others = first
then_expected (Err (Deep n)) f first others = tt
then_expected (Err (Wide n)) f first others = tt

all_expected : (c : Counts) (ms : List Marked) → IsExpected (counted_all c ms)
unfolding counted_all
all_expected c [] = tt
all_expected c (m ∷ ms) = then_expected (counted c m.role m.lexeme.at) (λ d. counted_all d ms) (counted_expected c m.role m.lexeme.at) (λ d. all_expected d ms)

pub lexemes_append : (ms ns : List Marked) → lexemes (ms ++ ns) ≡ lexemes ms ++ lexemes ns
lexemes_append [] ns = refl
lexemes_append (m ∷ ms) ns = ap (λ l. m.lexeme ∷ l) (lexemes_append ms ns)

module _ {A : Type 0} {p : Part} {value : A → Value} {Reads : List Marked → List Marked → A → Type 0} (w : IsWhole p value Reads) where
  abbrev pub start : List Sym
  start = APart p ∷ []

  begins_of : (ms : List Marked) → Reaches start [] ms → Begins (IsTextOf Reads) ms
  begins_of ms reaches = let h = w.text reaches.2 in (reaches.0, (h.0, h.1))

  -- what reads as a tree is run to it, unless a token goes past a limit
  pub text_runs : {ms : List Marked} {a : A} → Reads ms [] a → (end : ℕ) → run (lexemes ms) start [] nothing_yet end ≡ if_within (counted_all nothing_yet ms) (λ d. Ok (value a ∷ []))
  unfolding run finish
  text_runs {ms = ms} {a = a} reads end =
      let path = path_runs (w.again reads) in
      path.runs nothing_yet end ∙ ap (λ us. if_within (counted_all nothing_yet us) (λ d. Ok (value a ∷ []))) (sym (append-nil path.taken) ∙ sym path.all)

  -- a text is not run to `Unexpected`
  never_unexpected : {ms : List Marked} {a : A} (end at : ℕ) → Reads ms [] a → run (lexemes ms) start [] nothing_yet end ≡ Err (Unexpected at) → ⊥
  never_unexpected {ms = ms} {a = a} end at reads is =
      let answer : Result (List Value) Fault = if_within (counted_all nothing_yet ms) (λ d. Ok (value a ∷ [])) in
      let expected : IsExpected answer = then_expected (counted_all nothing_yet ms) (λ d. Ok (value a ∷ [])) (all_expected nothing_yet ms) (λ d. tt) in
      let same : answer ≡ Err (Unexpected at) = sym (text_runs reads end) ∙ is in
      subst (λ (o : Result (List Value) Fault). IsExpected o) same expected

  no_text : (before : List Marked) (t : Lexeme) → ((other : List Lexeme) (last : ℕ) → run (lexemes before ++ t ∷ other) start [] nothing_yet last ≡ Err (Unexpected t.at)) → (ms : List Marked) → lexemes ms ≡ lexemes before ++ t ∷ [] → Begins (IsTextOf Reads) ms → ⊥
  no_text before t stays ms same begins =
      let more : List Marked = begins.0 in
      let are : lexemes (ms ++ more) ≡ lexemes before ++ t ∷ lexemes more =
      lexemes_append ms more ∙ ap (λ l. l ++ lexemes more) same ∙ append_assoc (lexemes before) (t ∷ []) (lexemes more) in
      never_unexpected 0 t.at begins.1.1 (ap (λ l. run l start [] nothing_yet 0) are ∙ stays (lexemes more) 0)

  fault_told : {ts : List Lexeme} {end : ℕ} {f : Fault} → Explained start [] nothing_yet ts end f → FirstFault (IsTextOf Reads) ts end f
  fault_told (stuck {d = d} before t rest within reaches stays) = unexpected before t rest (d, within) (begins_of before reaches) (no_text before t stays)
  fault_told {end = end} (too_early {d = d} before within reaches stays) =
      ended before (d, within) (begins_of before reaches) (λ ms same text. never_unexpected end end text.1 (ap (λ l. run l start [] nothing_yet end) same ∙ stays))
  fault_told (over before m rest within reaches fault) = past before m rest within (begins_of (before ++ m ∷ []) reaches) fault

  -- a fault that a run answers is the first one
  pub fault_found : (ts : List Lexeme) (end : ℕ) (f : Fault) → run ts start [] nothing_yet end ≡ Err f → FirstFault (IsTextOf Reads) ts end f
  fault_found ts end f is = fault_told (subst (Told start [] nothing_yet ts end) is (run_told ts start [] nothing_yet end))

  -- a tree that a run answers is the one that the grammar has
  pub text_found : (ts : List Lexeme) (end : ℕ) (a : A) → run ts start [] nothing_yet end ≡ Ok (value a ∷ []) → ParsesAs Reads ts a
  text_found ts end a is =
      let told = subst (Told start [] nothing_yet ts end) is (run_told ts start [] nothing_yet end) in
      let text = w.text told.2 in
      let e : value text.0 ≡ value a = cc (text.2) in
      let same : text.0 ≡ a = w.one e in
      record { marks = told.0; are = told.1; within = (told.3, told.4); reads = subst (Reads told.0 []) same text.1 }

contract_text : {ms : List Marked} {out : List Value} → Has (APart WholeContract ∷ []) [] ms out → (s : Sentence) × ReadsContract ms [] s × (out ≡ ASentence s ∷ [])
contract_text (contract {s = s} reads none) = (s, reads, refl)

pub a_contract : IsWhole WholeContract ASentence ReadsContract
a_contract = record {
  text = contract_text;
  again = λ reads. again_contract reads [] [] (record { no_and = tt; no_or = tt; no_arrow = tt });
  one = λ e. cc;
}

program_text : {ms : List Marked} {out : List Value} → Has (APart WholeSource ∷ []) [] ms out → (s : Source) × ReadsProgram ms [] s × (out ≡ ASource s ∷ [])
program_text (source {s = s} reads none) = (s, reads, refl)

pub a_program : IsWhole WholeSource ASource ReadsProgram
a_program = record {
  text = program_text;
  again = λ reads. again_program reads [] [] tt tt;
  one = λ e. cc;
}
