-- A text is one contract, or one source, or has one first fault.
use Rattle.std.proofs.Common.{◌≡◌, ℕ, List, [], Result, Ok, Err, ◌⊎◌, inl, inr, refl, subst, length}
use Rattle.ql_lex.specs.Tokens.{Lexes}
use Rattle.ql_lex.specs.declared.token.LexFault.{LexFault}
use Rattle.ql_lex.specs.declared.token.Token.{Token}
use Rattle.ql_grammar.specs.Limits as limits
use Rattle.ql_grammar.specs.Tokens.{Lexeme, Marked}
use Rattle.ql_grammar.specs.Texts.{FirstFault, IsTextOf, ParsesAs}
use Rattle.ql_grammar.specs.Limits.{nothing_yet}
use Rattle.ql_grammar.specs.Table.{Part, Value}
use Rattle.ql_grammar.specs.Machine.{run}
use Rattle.ql_grammar.proofs.Told.{Told, run_told}
use Rattle.ql_grammar.proofs.Laws.{IsWhole, start, fault_found}
use Rattle.ql_parse.specs.Readers.{lexemes_of}
use Rattle.ql_parse.specs.Parsing.{IsFaultAs, IsTextAs}

abbrev pub Answer : Type 0
Answer = Result (List Token) LexFault

ok_same : (ts us : List Token) → ◌≡◌ {A = Answer} (Ok ts) (Ok us) → ts ≡ us
ok_same ts us e = cc

ok_or_err : (ts : List Token) (f : LexFault) → ◌≡◌ {A = Answer} (Ok ts) (Err f) → ⊥
ok_or_err ts f e = cc

same_tokens : ((text : List ℕ) (r s : Answer) → Lexes 0 text r → Lexes 0 text s → r ≡ s) → (bytes : List ℕ) (ts us : List Token) → Lexes 0 bytes (Ok ts) → Lexes 0 bytes (Ok us) → ts ≡ us
same_tokens one bytes ts us p q = ok_same ts us (one bytes (Ok ts) (Ok us) p q)

-- what the laws of tokens and of the grammar say of bytes
module _ {A : Type 0} {Reads : List Marked → List Marked → A → Type 0} (one : (text : List ℕ) (r s : Answer) → Lexes 0 text r → Lexes 0 text s → r ≡ s) where
  pub one_tree : ((ts : List Lexeme) (s t : A) → ParsesAs Reads ts s → ParsesAs Reads ts t → s ≡ t) → (bytes : List ℕ) (s t : A) → IsTextAs Reads bytes s → IsTextAs Reads bytes t → s ≡ t
  one_tree tree bytes s t p q =
      let same = same_tokens one bytes p.tokens q.tokens p.lexes q.lexes in
      tree (lexemes_of bytes q.tokens) s t (subst (λ ts. ParsesAs Reads (lexemes_of bytes ts) s) same p.parses) q.parses

  pub one_fault : ((ts : List Lexeme) (end : ℕ) (f g : limits.Fault) → FirstFault (IsTextOf Reads) ts end f → FirstFault (IsTextOf Reads) ts end g → f ≡ g) → (bytes : List ℕ) (f g : limits.Fault) → IsFaultAs Reads bytes f → IsFaultAs Reads bytes g → f ≡ g
  one_fault fault bytes f g p q =
      let same = same_tokens one bytes p.tokens q.tokens p.lexes q.lexes in
      fault (lexemes_of bytes q.tokens) (length bytes) f g (subst (λ ts. FirstFault (IsTextOf Reads) (lexemes_of bytes ts) (length bytes) f) same p.first) q.first

  pub not_both : ((ts : List Lexeme) (end : ℕ) (s : A) (f : limits.Fault) → ParsesAs Reads ts s → FirstFault (IsTextOf Reads) ts end f → ⊥) → (bytes : List ℕ) (s : A) (f : limits.Fault) → IsTextAs Reads bytes s → IsFaultAs Reads bytes f → ⊥
  not_both apart bytes s f p q =
      let same = same_tokens one bytes p.tokens q.tokens p.lexes q.lexes in
      apart (lexemes_of bytes q.tokens) (length bytes) s f (subst (λ ts. ParsesAs Reads (lexemes_of bytes ts) s) same p.parses) q.first

  pub no_lexical : (bytes : List ℕ) (s : A) (e : LexFault) → IsTextAs Reads bytes s → Lexes 0 bytes (Err e) → ⊥
  no_lexical bytes s e p q = ok_or_err p.tokens e (one bytes (Ok p.tokens) (Err e) p.lexes q)

  pub no_lexical_fault : (bytes : List ℕ) (f : limits.Fault) (e : LexFault) → IsFaultAs Reads bytes f → Lexes 0 bytes (Err e) → ⊥
  no_lexical_fault bytes f e p q = ok_or_err p.tokens e (one bytes (Ok p.tokens) (Err e) p.lexes q)

-- each list of tokens is a text of the grammar or has a first fault
module _ {A : Type 0} {p : Part} {value : A → Value} {Reads : List Marked → List Marked → A → Type 0} (w : IsWhole p value Reads) where
  abbrev HasAnswer : List Lexeme → ℕ → Type 0
  HasAnswer ts end = ((s : A) × ParsesAs Reads ts s) ⊎ ((f : limits.Fault) × FirstFault (IsTextOf Reads) ts end f)

  by_run : (ts : List Lexeme) (end : ℕ) (o : Result (List Value) limits.Fault) → run ts (start w) [] nothing_yet end ≡ o → HasAnswer ts end
  by_run ts end (Ok out) is =
      let told = subst (Told (start w) [] nothing_yet ts end) is (run_told ts (start w) [] nothing_yet end) in
      let text = w.text told.2 in
      inl (text.0, record { marks = told.0; are = told.1; within = (told.3, told.4); reads = text.1 })
  by_run ts end (Err f) is = inr (f, fault_found w ts end f is)

  abbrev pub IsAnswered : List ℕ → Type 0
  IsAnswered bytes = ((s : A) × IsTextAs Reads bytes s) ⊎ (((f : limits.Fault) × IsFaultAs Reads bytes f) ⊎ ((e : LexFault) × Lexes 0 bytes (Err e)))

  with_tokens : (bytes : List ℕ) (ts : List Token) → Lexes 0 bytes (Ok ts) → HasAnswer (lexemes_of bytes ts) (length bytes) → IsAnswered bytes
  with_tokens bytes ts lexes (inl s) = inl (s.0, record { tokens = ts; lexes = lexes; parses = s.1 })
  with_tokens bytes ts lexes (inr f) = inr (inl (f.0, record { tokens = ts; lexes = lexes; first = f.1 }))

  of_tokens : (bytes : List ℕ) (r : Answer) → Lexes 0 bytes r → IsAnswered bytes
  of_tokens bytes (Ok ts) lexes = with_tokens bytes ts lexes (by_run (lexemes_of bytes ts) (length bytes) (run (lexemes_of bytes ts) (start w) [] nothing_yet (length bytes)) refl)
  of_tokens bytes (Err e) lexes = inr (inr (e, lexes))

  pub some_answer : ((text : List ℕ) → (r : Answer) × Lexes 0 text r) → (bytes : List ℕ) → IsAnswered bytes
  some_answer some bytes = let r = some bytes in of_tokens bytes r.0 r.1
