use Rattle.std.proofs.Common.{◌≡◌, ℕ, List, [], ◌∷◌, Some, None, true, false, Err, refl, sym, ◌∙◌, drop}
use Rattle.ql_grammar.specs.declared.terminal.Terminal.{Terminal}
use Rattle.ql_grammar.specs.declared.terminal.Terminal.TheVariants.{NameToken}
use Rattle.ql_grammar.specs.declared.role.Role.{Role}
use Rattle.ql_grammar.specs.Tokens.{Lexeme}
use Rattle.ql_grammar.specs.Limits.{Unexpected, Counts, counted, if_within}
use Rattle.ql_lang.specs.declared.expression.BinOp.{BinOp}
use Rattle.ql_grammar.specs.declared.precedence.Precedence.{Precedence}
use Rattle.ql_grammar.specs.declared.role.Role.TheVariants.{Makes}
use Rattle.ql_grammar.specs.Table.{ASpelling, AnOperator, Kept, Operator, operator_at, Value, APlace, AName, Sym, Word, Placed, ANameOf}
use Rattle.ql_grammar.proofs.Operators.{ahead_is, none_ahead}
use Rattle.ql_grammar.specs.Machine.{operator_ahead, lead, step, finish, Reading, run, read, is_ahead, place_ahead}

-- What a reading does at a word or a name.

-- the reading after the next token, with these counts
abbrev pub behind : Reading → Counts → Reading
behind r c = record { tokens = drop 1 r.tokens; counts = c; end = r.end }

-- the bytes of the next token
abbrev pub text_ahead : List Lexeme → List ℕ
text_ahead [] = []
text_ahead (t ∷ ts) = t.text

word_at : (ts : List Lexeme) (c : Counts) (end : ℕ) (k : Terminal) (role : Role) (below : List Sym) (vs : List Value) → is_ahead k ts ≡ true → run ts (Word k role ∷ below) vs c end ≡ if_within (counted c role (place_ahead ts end)) (λ d. run (drop 1 ts) below vs d end)
unfolding run step lead is_ahead
word_at [] c end k role below vs sees = cc
word_at (t ∷ ts) c end k role below vs sees = rw sees refl

word_not_at : (ts : List Lexeme) (c : Counts) (end : ℕ) (k : Terminal) (role : Role) (below : List Sym) (vs : List Value) → is_ahead k ts ≡ false → run ts (Word k role ∷ below) vs c end ≡ Err (Unexpected (place_ahead ts end))
unfolding run step lead is_ahead finish
word_not_at [] c end k role below vs sees = refl
word_not_at (t ∷ ts) c end k role below vs sees = rw sees refl

placed_at : (ts : List Lexeme) (c : Counts) (end : ℕ) (k : Terminal) (role : Role) (below : List Sym) (vs : List Value) → is_ahead k ts ≡ true → run ts (Placed k role ∷ below) vs c end ≡ if_within (counted c role (place_ahead ts end)) (λ d. run (drop 1 ts) below (APlace (place_ahead ts end) ∷ vs) d end)
unfolding run step lead is_ahead
placed_at [] c end k role below vs sees = cc
placed_at (t ∷ ts) c end k role below vs sees = rw sees refl

placed_not_at : (ts : List Lexeme) (c : Counts) (end : ℕ) (k : Terminal) (role : Role) (below : List Sym) (vs : List Value) → is_ahead k ts ≡ false → run ts (Placed k role ∷ below) vs c end ≡ Err (Unexpected (place_ahead ts end))
unfolding run step lead is_ahead finish
placed_not_at [] c end k role below vs sees = refl
placed_not_at (t ∷ ts) c end k role below vs sees = rw sees refl

name_at : (ts : List Lexeme) (c : Counts) (end : ℕ) (role : Role) (below : List Sym) (vs : List Value) → is_ahead NameToken ts ≡ true → run ts (ANameOf role ∷ below) vs c end ≡ if_within (counted c role (place_ahead ts end)) (λ d. run (drop 1 ts) below (AName (record { word = text_ahead ts; at = place_ahead ts end }) ∷ vs) d end)
unfolding run step lead is_ahead
name_at [] c end role below vs sees = cc
name_at (t ∷ ts) c end role below vs sees = rw sees refl

name_not_at : (ts : List Lexeme) (c : Counts) (end : ℕ) (role : Role) (below : List Sym) (vs : List Value) → is_ahead NameToken ts ≡ false → run ts (ANameOf role ∷ below) vs c end ≡ Err (Unexpected (place_ahead ts end))
unfolding run step lead is_ahead finish
name_not_at [] c end role below vs sees = refl
name_not_at (t ∷ ts) c end role below vs sees = rw sees refl

kept_at : (ts : List Lexeme) (c : Counts) (end : ℕ) (k : Terminal) (role : Role) (below : List Sym) (vs : List Value) → is_ahead k ts ≡ true → run ts (Kept k role ∷ below) vs c end ≡ if_within (counted c role (place_ahead ts end)) (λ d. run (drop 1 ts) below (ASpelling (place_ahead ts end) (text_ahead ts) ∷ vs) d end)
unfolding run step lead is_ahead
kept_at [] c end k role below vs sees = cc
kept_at (t ∷ ts) c end k role below vs sees = rw sees refl

kept_not_at : (ts : List Lexeme) (c : Counts) (end : ℕ) (k : Terminal) (role : Role) (below : List Sym) (vs : List Value) → is_ahead k ts ≡ false → run ts (Kept k role ∷ below) vs c end ≡ Err (Unexpected (place_ahead ts end))
unfolding run step lead is_ahead finish
kept_not_at [] c end k role below vs sees = refl
kept_not_at (t ∷ ts) c end k role below vs sees = rw sees refl

operator_found_at : (ts : List Lexeme) (c : Counts) (end : ℕ) (l : Precedence) (o : BinOp) (below : List Sym) (vs : List Value) → operator_ahead l ts ≡ Some o → run ts (Operator l ∷ below) vs c end ≡ if_within (counted c (Makes 1) (place_ahead ts end)) (λ d. run (drop 1 ts) below (AnOperator o ∷ vs) d end)
unfolding run step lead
operator_found_at [] c end l o below vs sees = let e : None ≡ Some o = sym (none_ahead l) ∙ sees in cc
operator_found_at (t ∷ ts) c end l o below vs sees = let e : operator_at l t.what ≡ Some o = sym (ahead_is l t ts) ∙ sees in rw e refl

operator_not_at : (ts : List Lexeme) (c : Counts) (end : ℕ) (l : Precedence) (below : List Sym) (vs : List Value) → operator_ahead l ts ≡ None → run ts (Operator l ∷ below) vs c end ≡ Err (Unexpected (place_ahead ts end))
unfolding run step lead finish
operator_not_at [] c end l below vs misses = refl
operator_not_at (t ∷ ts) c end l below vs misses = let e : operator_at l t.what ≡ None = sym (ahead_is l t ts) ∙ misses in rw e refl

pub operator_missing : (r : Reading) (l : Precedence) (below : List Sym) (vs : List Value) → operator_ahead l r.tokens ≡ None → read r (Operator l ∷ below) vs ≡ Err (Unexpected (place_ahead r.tokens r.end))
unfolding read
operator_missing r l below vs misses = operator_not_at r.tokens r.counts r.end l below vs misses

-- where an operator comes next, there is a token
pub some_operator_ahead : (l : Precedence) (o : BinOp) (ts : List Lexeme) → operator_ahead l ts ≡ Some o → (t : Lexeme) × (us : List Lexeme) × (ts ≡ t ∷ us)
some_operator_ahead l o [] sees = let e : None ≡ Some o = sym (none_ahead l) ∙ sees in cc
some_operator_ahead l o (t ∷ ts) sees = (t, ts, refl)

pub kept_taken : (r : Reading) (k : Terminal) (role : Role) (below : List Sym) (vs : List Value) → is_ahead k r.tokens ≡ true → read r (Kept k role ∷ below) vs ≡ if_within (counted r.counts role (place_ahead r.tokens r.end)) (λ d. read (behind r d) below (ASpelling (place_ahead r.tokens r.end) (text_ahead r.tokens) ∷ vs))
unfolding read
kept_taken r k role below vs sees = kept_at r.tokens r.counts r.end k role below vs sees

pub kept_missing : (r : Reading) (k : Terminal) (role : Role) (below : List Sym) (vs : List Value) → is_ahead k r.tokens ≡ false → read r (Kept k role ∷ below) vs ≡ Err (Unexpected (place_ahead r.tokens r.end))
unfolding read
kept_missing r k role below vs sees = kept_not_at r.tokens r.counts r.end k role below vs sees

pub operator_counted : (r : Reading) (l : Precedence) (o : BinOp) (below : List Sym) (vs : List Value) → operator_ahead l r.tokens ≡ Some o → read r (Operator l ∷ below) vs ≡ if_within (counted r.counts (Makes 1) (place_ahead r.tokens r.end)) (λ d. read (behind r d) below (AnOperator o ∷ vs))
unfolding read
operator_counted r l o below vs sees = operator_found_at r.tokens r.counts r.end l o below vs sees

pub word_taken : (r : Reading) (k : Terminal) (role : Role) (below : List Sym) (vs : List Value) → is_ahead k r.tokens ≡ true → read r (Word k role ∷ below) vs ≡ if_within (counted r.counts role (place_ahead r.tokens r.end)) (λ d. read (behind r d) below vs)
unfolding read
word_taken r k role below vs sees = word_at r.tokens r.counts r.end k role below vs sees

pub word_missing : (r : Reading) (k : Terminal) (role : Role) (below : List Sym) (vs : List Value) → is_ahead k r.tokens ≡ false → read r (Word k role ∷ below) vs ≡ Err (Unexpected (place_ahead r.tokens r.end))
unfolding read
word_missing r k role below vs sees = word_not_at r.tokens r.counts r.end k role below vs sees

pub placed_taken : (r : Reading) (k : Terminal) (role : Role) (below : List Sym) (vs : List Value) → is_ahead k r.tokens ≡ true → read r (Placed k role ∷ below) vs ≡ if_within (counted r.counts role (place_ahead r.tokens r.end)) (λ d. read (behind r d) below (APlace (place_ahead r.tokens r.end) ∷ vs))
unfolding read
placed_taken r k role below vs sees = placed_at r.tokens r.counts r.end k role below vs sees

pub placed_missing : (r : Reading) (k : Terminal) (role : Role) (below : List Sym) (vs : List Value) → is_ahead k r.tokens ≡ false → read r (Placed k role ∷ below) vs ≡ Err (Unexpected (place_ahead r.tokens r.end))
unfolding read
placed_missing r k role below vs sees = placed_not_at r.tokens r.counts r.end k role below vs sees

pub name_taken : (r : Reading) (role : Role) (below : List Sym) (vs : List Value) → is_ahead NameToken r.tokens ≡ true → read r (ANameOf role ∷ below) vs ≡ if_within (counted r.counts role (place_ahead r.tokens r.end)) (λ d. read (behind r d) below (AName (record { word = text_ahead r.tokens; at = place_ahead r.tokens r.end }) ∷ vs))
unfolding read
name_taken r role below vs sees = name_at r.tokens r.counts r.end role below vs sees

pub name_missing : (r : Reading) (role : Role) (below : List Sym) (vs : List Value) → is_ahead NameToken r.tokens ≡ false → read r (ANameOf role ∷ below) vs ≡ Err (Unexpected (place_ahead r.tokens r.end))
unfolding read
name_missing r role below vs sees = name_not_at r.tokens r.counts r.end role below vs sees

-- where the next token is some one, there is a token
pub some_ahead : (k : Terminal) (ts : List Lexeme) → is_ahead k ts ≡ true → (t : Lexeme) × (us : List Lexeme) × (ts ≡ t ∷ us)
unfolding is_ahead
some_ahead k [] sees = cc
some_ahead k (t ∷ ts) sees = (t, ts, refl)
