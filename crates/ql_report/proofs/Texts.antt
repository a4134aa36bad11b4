-- The text of a list is made of the texts of its elements, that of a run of its three parts; and what is made of parts
-- that read back reads back.
use Rattle.std.proofs.Common.{◌≡◌, ◌≤◌, ◌+◌, ℕ, zero, suc, Bool, true, false, max, List, [], ◌∷◌, ◌++◌, Option, Some, length, drop, nat_lt, slice_get, codes, option_map, option_and_then, refl, sym, ap, ap₂, ◌∙◌, arith, append_assoc, append-nil}
use Rattle.std.proofs.lemmas.Bool.{lt-ltb}
use Rattle.std.proofs.lemmas.List.{drop_all}
use Rattle.json.specs.Token.{Token}
use Rattle.json.specs.Lex.{tokens}
use Rattle.json.specs.Print.{print}
use Rattle.json.specs.Json as json
use Rattle.json.specs.Tree as tree
use Rattle.json.proofs.Numbered.{ArePrintableOrBad-tokens, value-HasNumbers}
use Rattle.json.proofs.Printed.Tokens.{tokens-print}
use Rattle.json.proofs.Printed.Trees.{ArePrintable-json_tokens, value-json_tokens}
use Rattle.serde_json.specs.Data.{Data, null, boolean, number, string, array, object, Items, no_items, item, Members, no_members, member, depth, items_depth, members_depth}
use Rattle.serde_json.specs.Read.{max_depth, of_items, of_json, read}
use Rattle.serde_json.specs.View.{items_of}
use Rattle.serde_json.specs.Written.{IsInOrder, comma_if, compact_text, has_float, items_outline, items_text, members_outline, outline}
use Rattle.serde_json.proofs.OnLiterals.{serde_json_on_literals}
use Rattle.serde_json.proofs.Texts.{print-outline, tokens_from_order}
use Rattle.ql_exec.specs.declared.effect.Effect.{Effect}
use Rattle.ql_lang.specs.declared.program.Program.{Program}
use Rattle.ql_report.specs.JsonRuns.{effect_data, effects_from}
use Rattle.ql_report.specs.JsonReading.{ReadsBack}
use Rattle.ql_report.proofs.Members.{run_members}

-- ---- what is read

abbrev last_read : Option (json.Json × List Token) → Option Data
last_read found = option_and_then of_json (option_and_then (λ p. json.if_last p.0 p.1) found)

mutual
  outline_depth : (d : Data) → tree.depth (outline d) ≡ depth d
  outline_depth null = refl
  outline_depth (boolean b) = refl
  outline_depth (number n) = refl
  outline_depth (string s) = refl
  outline_depth (array ds) = ap suc (items_outline_depth ds)
  outline_depth (object ms) = ap suc (members_outline_depth ms)

  items_outline_depth : (ds : Items) → tree.items_depth (items_outline ds) ≡ items_depth ds
  items_outline_depth no_items = refl
  items_outline_depth (item d ds) = ap₂ max (outline_depth d) (items_outline_depth ds)

  members_outline_depth : (ms : Members) → tree.members_depth (members_outline ms) ≡ members_depth ms
  members_outline_depth no_members = refl
  members_outline_depth (member k d ms) = ap₂ max (outline_depth d) (members_outline_depth ms)

-- the outline is read from its tokens
outline_read : (d : Data) (ts : List Token) → ts ≡ tree.json_tokens (outline d) → depth d ≤ max_depth → json.value max_depth ts ≡ Some (outline d, [])
outline_read d ts is shallow =
    let same = outline_depth d in
    ap (json.value max_depth) (is ∙ sym (append-nil (tree.json_tokens (outline d)))) ∙ value-json_tokens (outline d) max_depth [] (omega (arith, same, shallow))

pub printed_reads_back : (text : List ℕ) (d : Data) → IsInOrder text d → has_float d ≡ false → depth d ≤ max_depth → read text ≡ Some d → ReadsBack d
printed_reads_back text d order none shallow reads =
    let found = outline_read d (tokens text) (tokens_from_order text d order none) shallow in
    (value-HasNumbers max_depth (tokens text) [] (outline d) (ArePrintableOrBad-tokens text) found, sym (ap last_read found) ∙ reads)

text_tokens : (d : Data) → ReadsBack d → tokens (compact_text d) ≡ tree.json_tokens (outline d)
text_tokens d back = ap tokens (sym (print-outline d)) ∙ tokens-print (tree.json_tokens (outline d)) (ArePrintable-json_tokens (outline d) back.0)

pub text_read : (d : Data) → ReadsBack d → depth d ≤ max_depth → read (compact_text d) ≡ Some d
text_read d back shallow = ap last_read (outline_read d (tokens (compact_text d)) (text_tokens d back) shallow) ∙ back.1

pub text_compact : (d : Data) → ReadsBack d → compact_text d ≡ print (tokens (compact_text d))
text_compact d back = sym (print-outline d) ∙ ap print (sym (text_tokens d back))

-- ---- lists

abbrev pub ItemsReadBack : Items → Type 0
ItemsReadBack ds = tree.ItemsHaveNumbers (items_outline ds) × (of_items (items_outline ds) ≡ Some ds)

pub one_reads_back : (d : Data) (ds : Items) → ReadsBack d → ItemsReadBack ds → ItemsReadBack (item d ds)
one_reads_back d ds back all = (
  (back.0, all.0),
  ap (λ found. option_and_then (λ e. option_map (item e) (of_items (items_outline ds))) found) back.1 ∙ ap (option_map (item d)) all.1,
)

pub list_reads_back : (ds : Items) → ItemsReadBack ds → ReadsBack (array ds)
list_reads_back ds all = (all.0, ap (option_map array) all.1)

pub no_items_read_back : (ds : Items) → ds ≡ no_items → ItemsReadBack ds
no_items_read_back ds none = rw none (tt, refl)

-- a comma stands before each but the first
pub later_one : (k : ℕ) → nat_lt 1 (k + 1 + 1) ≡ true
later_one k = lt-ltb 1 (k + 1 + 1) (omega arith)

-- the effects from the k-th on, counted from 0
module _ (p : Program) (objects : List (List ℕ)) where
  abbrev pub effects_left : List Effect → ℕ → Items
  effects_left x k = items_of (effects_from p objects (k + 1) (drop k x))

  next_effect : (x : List Effect) (k : ℕ) (e : Effect) → slice_get x k ≡ Some e → drop k x ≡ e ∷ drop (k + 1) x
  next_effect [] k e at = let no : ⊥ = cc in absurd no
  next_effect (g ∷ gs) zero e at = let same : g ≡ e = cc in ap (λ (h : Effect). h ∷ gs) same
  next_effect (g ∷ gs) (suc k) e at = let more : suc k + 1 ≡ suc (k + 1) = omega arith in rw more (next_effect gs k e at)

  one_left : (x : List Effect) (k : ℕ) (e : Effect) → slice_get x k ≡ Some e → effects_left x k ≡ item (effect_data p objects (k + 1) e) (effects_left x (k + 1))
  unfolding effects_from
  one_left x k e at = ap (λ es. items_of (effects_from p objects (k + 1) es)) (next_effect x k e at)

  pub none_left : (x : List Effect) (k : ℕ) → length x ≤ k → effects_left x k ≡ no_items
  unfolding effects_from
  none_left x k past = ap (λ es. items_of (effects_from p objects (k + 1) es)) (drop_all k x past)

  pub more_text : (out next : List ℕ) (x : List Effect) (k : ℕ) (e : Effect) (later : Bool) → slice_get x k ≡ Some e → next ≡ out ++ (comma_if later ++ compact_text (effect_data p objects (k + 1) e))
      → out ++ items_text later (effects_left x k) ≡ next ++ items_text true (effects_left x (k + 1))
  more_text out next x k e later at step =
      let one = compact_text (effect_data p objects (k + 1) e) in
      let rest = items_text true (effects_left x (k + 1)) in
      ap (λ ds. out ++ items_text later ds) (one_left x k e at)
      ∙ ap (λ t. out ++ t) (sym (append_assoc (comma_if later) one rest)) ∙ sym (append_assoc out (comma_if later ++ one) rest) ∙ ap (λ t. t ++ rest) (sym step)

  pub more_reads_back : (x : List Effect) (k : ℕ) (e : Effect) → slice_get x k ≡ Some e → ReadsBack (effect_data p objects (k + 1) e) → ItemsReadBack (effects_left x (k + 1)) → ItemsReadBack (effects_left x k)
  more_reads_back x k e at back all = rw (one_left x k e at) (one_reads_back (effect_data p objects (k + 1) e) (effects_left x (k + 1)) back all)

-- ---- the three parts of a run

abbrev pub run_of : Data → Data → Data → Data
run_of execution levels replies = object (member (codes "execution") execution (member (codes "levels") levels (member (codes "replies") replies no_members)))

pub run_text : (execution levels replies : Data)
    → compact_text (run_of execution levels replies)
    ≡ codes "{\"execution\":" ++ (compact_text execution ++ (codes ",\"levels\":" ++ (compact_text levels ++ (codes ",\"replies\":" ++ (compact_text replies ++ codes "}")))))
unfolding serde_json_on_literals
run_text execution levels replies = refl

pub run_reads_back : (execution levels replies : Data) → ReadsBack execution → ReadsBack levels → ReadsBack replies → ReadsBack (run_of execution levels replies)
run_reads_back execution levels replies e l r = (
  (e.0, (l.0, (r.0, tt))),
  rw (e.1, l.1, r.1) (ap (λ ms. Some (object ms)) (run_members execution levels replies)),
)

regroup_line : (a e b l c r d n : List ℕ) → (((((a ++ e) ++ b) ++ l) ++ c) ++ r) ++ (d ++ n) ≡ (a ++ (e ++ (b ++ (l ++ (c ++ (r ++ d)))))) ++ n
regroup_line a e b l c r d n = simp append_assoc

pub run_line : (execution levels replies : Data) (start a b c d e f g : List ℕ) → start ≡ [] → a ≡ start ++ codes "{\"execution\":" → b ≡ a ++ compact_text execution → c ≡ b ++ codes ",\"levels\":" → d ≡ c ++ compact_text levels
    → e ≡ d ++ codes ",\"replies\":" → f ≡ e ++ compact_text replies → g ≡ f ++ codes "}\n" → g ≡ compact_text (run_of execution levels replies) ++ codes "\n"
run_line execution levels replies start a b c d e f g none a_is b_is c_is d_is e_is f_is g_is =
    let first = codes "{\"execution\":" in
    let second = codes ",\"levels\":" in
    let third = codes ",\"replies\":" in
    let x = compact_text execution in
    let l = compact_text levels in
    let r = compact_text replies in
    g_is ∙ ap (λ (t : List ℕ). t ++ codes "}\n") (
    f_is ∙ ap (λ (t : List ℕ). t ++ r) (e_is ∙ ap (λ (t : List ℕ). t ++ third) (d_is ∙ ap (λ (t : List ℕ). t ++ l) (c_is ∙ ap (λ (t : List ℕ). t ++ second) (b_is ∙ ap (λ (t : List ℕ). t ++ x) (a_is ∙ ap (λ (t : List ℕ). t ++ first) none)))))
    )
    ∙ regroup_line first x second l third r (codes "}") (codes "\n") ∙ ap (λ (t : List ℕ). t ++ codes "\n") (sym (run_text execution levels replies))
