-- A JSON text that was printed is read as before with a line feed behind it.
use Rattle.std.proofs.Common.{◌≡◌, ℕ, Bool, true, false, cond, ◌&&◌, List, [], ◌∷◌, ◌++◌, Some, refl, sym, ap, ap₂, ◌∙◌, append_assoc, append-nil}
use Rattle.json.specs.Token.{Token, begin_object, end_object, begin_array, end_array, key, string, number, boolean, null, bad}
use Rattle.json.specs.Word.{ends_word, word}
use Rattle.json.specs.Lex.{Lexeme, token, comma, colon, string_token, lex, between, fresh, punctuate, tokens}
use Rattle.json.specs.Print.{ArePrintableOrBad, IsPrintableOrBad, begins, ends, escape, print, print_from, quoted, separator, token_text}
use Rattle.json.proofs.Numbered.{ArePrintableOrBad-tokens}
use Rattle.json.proofs.Printed.Numbers.{in_word-ended, lex-number}
use Rattle.json.proofs.Printed.Strings.{content-escape, lex-escape}
use Rattle.serde_json.specs.Data.{Data}
use Rattle.serde_json.specs.Read.{read}

abbrev token_lexemes : Token → List Lexeme
token_lexemes begin_object = token begin_object ∷ []
token_lexemes end_object = token end_object ∷ []
token_lexemes begin_array = token begin_array ∷ []
token_lexemes end_array = token end_array ∷ []
token_lexemes (key s) = token (string s) ∷ colon ∷ []
token_lexemes (string s) = token (string s) ∷ []
token_lexemes (number s) = token (number s) ∷ []
token_lexemes (boolean b) = token (boolean b) ∷ []
token_lexemes null = token null ∷ []
token_lexemes bad = []

abbrev lexemes : Bool → List Token → List Lexeme
lexemes c [] = []
lexemes c (t ∷ ts) = cond (c && begins t) (comma ∷ []) [] ++ (token_lexemes t ++ lexemes (ends t) ts)

-- after a value stands a comma, a closing bracket or what is behind it all
value_ends : (ts : List Token) (r : List ℕ) → ends_word r ≡ true → ends_word (print_from true ts ++ r) ≡ true
unfolding print_from
value_ends [] r end = end
value_ends (begin_object ∷ ts) r end = refl
value_ends (end_object ∷ ts) r end = refl
value_ends (begin_array ∷ ts) r end = refl
value_ends (end_array ∷ ts) r end = refl
value_ends (key s ∷ ts) r end = refl
value_ends (string s ∷ ts) r end = refl
value_ends (number s ∷ ts) r end = refl
value_ends (boolean b ∷ ts) r end = refl
value_ends (null ∷ ts) r end = refl
value_ends (bad ∷ ts) r end = refl

lex_quoted : (s r : List ℕ) → lex between (quoted s ++ r) ≡ token (string s) ∷ lex between r
unfolding lex
lex_quoted s r =
    ap (λ (l : List ℕ). lex between (34 ∷ l)) (append_assoc (escape s) (34 ∷ []) r)
    ∙ ap₂ (λ o l. token (string_token o) ∷ l) (content-escape s r) (lex-escape s r)

lex_token : (t : Token) (r : List ℕ) → IsPrintableOrBad t → (ends t ≡ true → ends_word r ≡ true) → lex between (token_text t ++ r) ≡ token_lexemes t ++ lex between r
unfolding lex word
lex_token begin_object r h ended = refl
lex_token end_object r h ended = refl
lex_token begin_array r h ended = refl
lex_token end_array r h ended = refl
lex_token (key s) r h ended = ap (lex between) (append_assoc (quoted s) (58 ∷ []) r) ∙ lex_quoted s (58 ∷ r)
lex_token (string s) r h ended = lex_quoted s r
lex_token (number s) r h ended = lex-number s r h (ended refl)
lex_token (boolean true) r h ended = ap₂ (λ b l. token (cond b (boolean true) bad) ∷ l) (ended refl) (in_word-ended r (ended refl))
lex_token (boolean false) r h ended = ap₂ (λ b l. token (cond b (boolean false) bad) ∷ l) (ended refl) (in_word-ended r (ended refl))
lex_token null r h ended = ap₂ (λ b l. token (cond b null bad) ∷ l) (ended refl) (in_word-ended r (ended refl))
lex_token bad r h ended = refl

lex_separator : (b : Bool) (r : List ℕ) → lex between (cond b (44 ∷ []) [] ++ r) ≡ cond b (comma ∷ []) [] ++ lex between r
unfolding lex
lex_separator true r = refl
lex_separator false r = refl

-- what is printed is lexed token by token, whatever ends a word behind it
lex_printed : (c : Bool) (ts : List Token) (r : List ℕ) → ends_word r ≡ true → ArePrintableOrBad ts → lex between (print_from c ts ++ r) ≡ lexemes c ts ++ lex between r
unfolding print_from
lex_printed c [] r end h = refl
lex_printed c (t ∷ ts) r end h =
    let behind = print_from (ends t) ts ++ r in
    let comma_text = separator c t in
    let marks = cond (c && begins t) (comma ∷ []) [] in
    ap (lex between) (append_assoc comma_text (token_text t ++ print_from (ends t) ts) r ∙ ap (λ (l : List ℕ). comma_text ++ l) (append_assoc (token_text t) (print_from (ends t) ts) r))
    ∙ lex_separator (c && begins t) (token_text t ++ behind)
    ∙ ap (λ (l : List Lexeme). marks ++ l) (
    lex_token t behind h.0 (λ e. ap (λ b. ends_word (print_from b ts ++ r)) e ∙ value_ends ts r end)
    ∙ ap (λ (l : List Lexeme). token_lexemes t ++ l) (lex_printed (ends t) ts r end h.1)
    ∙ sym (append_assoc (token_lexemes t) (lexemes (ends t) ts) (lex between r))
    )
    ∙ sym (append_assoc marks (token_lexemes t ++ lexemes (ends t) ts) (lex between r))

same_tokens : (ts : List Token) → ArePrintableOrBad ts → tokens (print ts ++ 10 ∷ []) ≡ tokens (print ts)
unfolding lex
same_tokens ts h =
    ap (punctuate fresh) (lex_printed false ts (10 ∷ []) refl h ∙ sym (lex_printed false ts [] refl h) ∙ ap (lex between) (append-nil (print ts)))

pub reads_line : (text : List ℕ) (d : Data) → text ≡ print (tokens text) → read text ≡ Some d → read (text ++ 10 ∷ []) ≡ Some d
reads_line text d compact reads =
    let same : tokens (text ++ 10 ∷ []) ≡ tokens text =
    ap (λ (t : List ℕ). tokens (t ++ 10 ∷ [])) compact ∙ same_tokens (tokens text) (ArePrintableOrBad-tokens text) ∙ ap tokens (sym compact) in
    rw same reads
