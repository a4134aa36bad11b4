-- The tokens before a first fault begin a text of the grammar, and go on in some spelling.
use Rattle.std.proofs.Common.{◌≡◌, ℕ, ◌+◌, Bool, true, false, cond, nat_lt, List, [], ◌∷◌, ◌++◌, Result, Ok, Err, ◌⊎◌, inl, inr, refl, sym, ap, ◌∙◌, subst, append_assoc, append-nil}
use Rattle.ql_base.specs.declared.limits.TheConstants.{MAX_BRACKETS, MAX_NODES}
use Rattle.ql_grammar.specs.declared.role.Role.{Role}
use Rattle.ql_grammar.specs.declared.role.Role.TheVariants.{Plain, Makes, Opens, Closes, Before}
use Rattle.ql_grammar.specs.Limits.{Fault, Unexpected, Deep, Wide, Counts, counted, with_nodes}
use Rattle.ql_grammar.specs.Table.{Value, Part}
use Rattle.ql_grammar.specs.Texts.{IsTextOf, Begins, FirstFault, unexpected, ended, past}
use Rattle.ql_grammar.specs.Tokens.{Lexeme, Marked, lexemes}
use Rattle.ql_grammar.proofs.Laws.{IsWhole, start}
use Rattle.ql_text_laws.specs.Prefixes.{offset_of}
use Rattle.ql_text_laws.proofs.Respelled.{Walk, walk_of, walk_wanted, alike_behind}
use Rattle.ql_text_laws.proofs.Terminals.{walk_tokens, tokens_behind}
use Rattle.ql_text_laws.proofs.Continued.{Spelled, marks_of, respelled, respelled_alike}

-- a token past a limit has its own offset, and is none that is unexpected

abbrev IsFaultAt : ℕ → Result Counts Fault → Type 0
IsFaultAt at (Ok c) = Unit {0}
IsFaultAt at (Err (Unexpected n)) = ⊥
IsFaultAt at (Err (Deep n)) = at ≡ n
IsFaultAt at (Err (Wide n)) = at ≡ n

fault_at : (at : ℕ) (f : Fault) → IsFaultAt at (Err f) → at ≡ offset_of f
fault_at at (Unexpected n) is = absurd is
fault_at at (Deep n) is = is
fault_at at (Wide n) is = is

nodes_fault : (c : Counts) (n at : ℕ) → IsFaultAt at (with_nodes c n at)
unfolding with_nodes
nodes_fault c n at = by_test (nat_lt MAX_NODES (c.nodes + n))
  where
    by_test : (b : Bool) → IsFaultAt at (cond b (Err (Wide at)) (Ok (record c { nodes = c.nodes + n })))
    by_test true = refl
    by_test false = tt

counted_fault : (c : Counts) (r : Role) (at : ℕ) → IsFaultAt at (counted c r at)
unfolding counted
counted_fault c Plain at = tt
counted_fault c (Makes n) at = nodes_fault c n at
counted_fault c Closes at = tt
counted_fault c Before at = tt
counted_fault c (Opens n) at = by_test (nat_lt MAX_BRACKETS (c.open_brackets + 1))
  where
    by_test : (b : Bool) → IsFaultAt at (cond b (Err (Deep at)) (with_nodes (record c { open_brackets = c.open_brackets + 1 }) n at))
    by_test true = refl
    by_test false = nodes_fault (record c { open_brackets = c.open_brackets + 1 }) n at

-- the first of these tokens is at this offset, or where there is none the end is
abbrev pub StartsAt : List Lexeme → ℕ → ℕ → Type 0
StartsAt [] end at = end ≡ at
StartsAt (t ∷ ts) end at = t.at ≡ at

-- some of the tokens begin a text of the grammar, and this is the offset after them
pub record Begun {A : Type 0} (Reads : List Marked → List Marked → A → Type 0) (ts : List Lexeme) (end at : ℕ) : Type 0 where
  pub before : List Marked
  pub rest : List Lexeme
  pub are : ts ≡ lexemes before ++ rest
  pub begins : Begins (IsTextOf Reads) before
  pub place : StartsAt rest end at

pub fault_begun : {A : Type 0} {Reads : List Marked → List Marked → A → Type 0} {ts : List Lexeme} {end : ℕ} {f : Fault} → FirstFault (IsTextOf Reads) ts end f → Begun Reads ts end (offset_of f)
fault_begun (unexpected before t rest within begins none) = record { before = before; rest = t ∷ rest; are = refl; begins = begins; place = refl }
fault_begun (ended before within begins none) = record { before = before; rest = []; are = sym (append-nil (lexemes before)); begins = begins; place = refl }
fault_begun {Reads = Reads} (past before m rest {c = c} {f = f} within begins over) = record {
  before = before;
  rest = m.lexeme ∷ rest;
  are = refl;
  begins = (m ∷ begins.0, subst (IsTextOf Reads) (append_assoc before (m ∷ []) begins.0) begins.1);
  place = fault_at m.lexeme.at f (subst (IsFaultAt m.lexeme.at) over (counted_fault c m.role m.lexeme.at));
}

-- a token with which no text goes on, at this offset
pub record IsStuck {A : Type 0} (Reads : List Marked → List Marked → A → Type 0) (ts : List Lexeme) (at : ℕ) : Type 0 where
  pub before : List Marked
  pub token : Lexeme
  pub rest : List Lexeme
  pub are : ts ≡ lexemes before ++ token ∷ rest
  pub place : token.at ≡ at
  pub none : (ms : List Marked) → lexemes ms ≡ lexemes before ++ token ∷ [] → Begins (IsTextOf Reads) ms → ⊥

-- tokens that end too early, at this offset
pub record IsEnded {A : Type 0} (Reads : List Marked → List Marked → A → Type 0) (ts : List Lexeme) (end at : ℕ) : Type 0 where
  pub place : end ≡ at
  pub none : (ms : List Marked) → lexemes ms ≡ ts → IsTextOf Reads ms → ⊥

pub unexpected_at : {A : Type 0} {Reads : List Marked → List Marked → A → Type 0} {ts : List Lexeme} {end : ℕ} {f : Fault} (at : ℕ) → FirstFault (IsTextOf Reads) ts end f → f ≡ Unexpected at → IsStuck Reads ts at ⊎ IsEnded Reads ts end at
unexpected_at at (unexpected before t rest within begins none) is = inl (record { before = before; token = t; rest = rest; are = refl; place = cc; none = none })
unexpected_at at (ended before within begins none) is = inr (record { place = cc; none = none })
unexpected_at at (past before m rest {c = c} within begins over) is = absurd (subst (IsFaultAt m.lexeme.at) (over ∙ ap Err is) (counted_fault c m.role m.lexeme.at))

-- what begins a text goes on in some spelling, from any offset on
pub record Continued {A : Type 0} (Reads : List Marked → List Marked → A → Type 0) (before : List Marked) (at : ℕ) : Type 0 where
  pub more : List Spelled
  pub tree : A
  pub reads : Reads (before ++ marks_of at more) [] tree

pub continued : {A : Type 0} {p : Part} {value : A → Value} {Reads : List Marked → List Marked → A → Type 0} → IsWhole p value Reads → (before : List Marked) → Begins (IsTextOf Reads) before → (at : ℕ) → Continued Reads before at
continued w before begins at =
    let walk : Walk (start w) [] (before ++ begins.0) = walk_of (w.again begins.1.1) refl refl in
    let some = tokens_behind before begins.0 (walk_tokens walk refl) in
    let more = respelled begins.0 some in
    let wanted = walk_wanted walk (before ++ marks_of at more) (alike_behind before begins.0 (marks_of at more) (respelled_alike begins.0 some at)) [] in
    let text = w.text wanted.1 in
    record { more = more; tree = text.0; reads = text.1 }
