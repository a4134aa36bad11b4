-- A text that is cut before one of its tokens, and goes on otherwise so that no token before gets longer, has the tokens
-- before the cut and then those of what it goes on with.
use Rattle.std.proofs.Common.{◌≡◌, ℕ, ◌+◌, Bool, false, List, [], ◌∷◌, ◌++◌, Result, Ok, Err, length, drop, map, refl, sym, ap, ◌∙◌, subst, arith, append_assoc, length-append}
use Rattle.std.proofs.Math.Seq.{drop-append_seam}
use Rattle.std.proofs.lemmas.Bool.Decides.{nat_tests}
use Rattle.ql_base.specs.Bytes.{StopsBefore, is_name_byte, is_word_byte}
use Rattle.ql_lex.specs.Bytes.{is_in_line}
use Rattle.ql_lex.specs.Starts.{StartsWith}
use Rattle.ql_lex.specs.Starts.StartsWith.{blank, comment, name, keyword, number, text as text_front, pair, mark}
use Rattle.ql_lex.specs.Marks.{is_mark_pair}
use Rattle.ql_lex.specs.Tokens.{Lexes, ends, gap, token, no_token, too_long, no_number, preceded}
use Rattle.ql_lex.specs.declared.start.Start.{Start}
use Rattle.ql_lex.specs.declared.start.Start.TheVariants.{Gap, Lexeme}
use Rattle.ql_lex.specs.declared.token.Token.{Token}
use Rattle.ql_lex.specs.declared.token.TokenKind.{TokenKind}
use Rattle.ql_lex.specs.declared.token.TokenKind.TheVariants.{Text}
use Rattle.ql_lex.specs.declared.token.LexFault.{LexFault}
use Rattle.ql_grammar.specs.Tokens.{lexeme_of}
use Rattle.ql_text_laws.proofs.LexemePrefixes.{lexeme_at}

-- each test that a line feed fails and that stops before the one text stops before the other
abbrev pub StopsAlike : List ℕ → List ℕ → Type 0
StopsAlike rest other = (test : ℕ → Bool) → test 10 ≡ false → StopsBefore test rest → StopsBefore test other

pub cut_stops : (pre post other : List ℕ) → StopsAlike post other → StopsAlike (pre ++ post) (pre ++ other)
cut_stops [] post other alike = alike
cut_stops (b ∷ pre) post other alike = λ test fails stops. stops

-- a line feed stops each of these tests
pub stops_at_line : (rest more : List ℕ) → StopsAlike rest (10 ∷ more)
stops_at_line rest more test fails stops = fails

-- the bytes of a gap or a token, and the text after it, which may be another
pub record Start-of (text : List ℕ) (f : Start) (n : ℕ) : Type 0 where
  pub bytes : List ℕ
  pub rest : List ℕ
  pub is : text ≡ bytes ++ rest
  pub len : length bytes ≡ n
  pub again : (other : List ℕ) → StopsAlike rest other → StartsWith (bytes ++ other) f

gap_front : {t : List ℕ} {n : ℕ} → StartsWith t (Gap n) → Start-of t (Gap n) n
gap_front (blank {b = b} {rest = rest} is) = record { bytes = b ∷ []; rest = rest; is = refl; len = refl; again = λ other stops. blank is }
gap_front (comment line rest all stop) = record {
  bytes = 35 ∷ line;
  rest = rest;
  is = refl;
  len = omega arith;
  again = λ other stops. comment line other all (stops is_in_line refl stop);
}

no_pair : (a : ℕ) → is_mark_pair a 10 ≡ false
unfolding is_mark_pair
no_pair a = grind (arith, nat_tests)

pub token_front : {t : List ℕ} {what : TokenKind} {n : ℕ} → StartsWith t (Lexeme what n) → Start-of t (Lexeme what n) n
unfolding is_name_byte is_word_byte
token_front (name w rest word stop free short) = record { bytes = w; rest = rest; is = refl; len = refl; again = λ other stops. name w other word (stops is_name_byte refl stop) free short }
token_front (keyword w rest word stop kept) = record { bytes = w; rest = rest; is = refl; len = refl; again = λ other stops. keyword w other word (stops is_name_byte refl stop) kept }
token_front (number w rest spelled stop) = record { bytes = w; rest = rest; is = refl; len = refl; again = λ other stops. number w other spelled (stops is_word_byte refl stop) }
token_front (text_front w rest all short) = record {
  bytes = 34 ∷ (w ++ 34 ∷ []);
  rest = rest;
  is = ap (λ t. 34 ∷ t) (sym (append_assoc w (34 ∷ []) rest));
  len = omega (arith, length-append w (34 ∷ []));
  again = λ other stops. subst (λ t. StartsWith (34 ∷ t) (Lexeme Text (length w + 2))) (sym (append_assoc w (34 ∷ []) other)) (text_front w other all short);
}
token_front (pair {a = a} {b = b} {rest = rest} is) = record { bytes = a ∷ b ∷ []; rest = rest; is = refl; len = refl; again = λ other stops. pair is }
token_front (mark {a = a} {rest = rest} is stop) = record { bytes = a ∷ []; rest = rest; is = refl; len = refl; again = λ other stops. mark is (stops (is_mark_pair a) (no_pair a) stop) }

-- the text has this token at its front, at the offset `at`
pub record StandsFirst (at : ℕ) (text : List ℕ) (t : Token) : Type 0 where
  pub from : t.from ≡ at
  pub len : ℕ
  pub to : t.to ≡ at + len
  pub front : StartsWith text (Lexeme t.what len)

-- the cut is before the first of these tokens, or at the end
abbrev pub IsBefore : ℕ → List ℕ → List Token → Type 0
IsBefore at post [] = post ≡ []
IsBefore at post (t ∷ ts) = StandsFirst at post t

-- a text with the bytes `before` in front of it, cut between its tokens `ts` and `us`
pub record Cut (before text : List ℕ) (ts us : List Token) : Type 0 where
  pub pre : List ℕ
  pub post : List ℕ
  pub is : text ≡ pre ++ post
  pub place : IsBefore (length before + length pre) post us
  pub lexemes : (other : List ℕ) → map (lexeme_of (before ++ text)) ts ≡ map (lexeme_of (before ++ (pre ++ other))) ts
  pub lexes : (other : List ℕ) (r : Result (List Token) LexFault) → StopsAlike post other → Lexes (length before + length pre) other r → Lexes (length before) (pre ++ other) (preceded ts r)

preceded_none : (r : Result (List Token) LexFault) → r ≡ preceded [] r
preceded_none (Ok us) = refl
preceded_none (Err f) = refl

preceded_more : (t : Token) (ts : List Token) (r : Result (List Token) LexFault) → preceded (t ∷ []) (preceded ts r) ≡ preceded (t ∷ ts) r
preceded_more t ts (Ok us) = refl
preceded_more t ts (Err f) = refl

-- no gap and no token before the cut
cut_here : (before text : List ℕ) (us : List Token) → IsBefore (length before + 0) text us → Cut before text [] us
cut_here before text us place = record {
  pre = [];
  post = text;
  is = refl;
  place = place;
  lexemes = λ other. refl;
  lexes = λ other r alike h.
      let same : length before + 0 ≡ length before = omega arith in
      subst (λ at. Lexes at other (preceded [] r)) same (subst (λ s. Lexes (length before + 0) other s) (preceded_none r) h);
}

-- a text with a front of these bytes
module _ (before text bytes rest : List ℕ) (is : text ≡ bytes ++ rest) where
  behind_is : drop (length bytes) text ≡ rest
  behind_is = rw is (drop-append_seam bytes rest)

  further : (pre : List ℕ) → length (before ++ bytes) + length pre ≡ length before + length (bytes ++ pre)
  further pre = omega (arith, length-append before bytes, length-append bytes pre)

  module _ {ts us : List Token} (next : Cut (before ++ bytes) rest ts us) where
    part_is : text ≡ (bytes ++ next.pre) ++ next.post
    part_is = is ∙ ap (λ t. bytes ++ t) next.is ∙ sym (append_assoc bytes next.pre next.post)

    place_is : IsBefore (length before + length (bytes ++ next.pre)) next.post us
    place_is = subst (λ at. IsBefore at next.post us) (further next.pre) next.place

    goes_on : (other : List ℕ) → StopsAlike next.post other → StopsAlike rest (next.pre ++ other)
    goes_on other alike = subst (λ t. StopsAlike t (next.pre ++ other)) (sym next.is) (cut_stops next.pre next.post other alike)

    cut_lexemes : (other : List ℕ) → map (lexeme_of (before ++ text)) ts ≡ map (lexeme_of (before ++ ((bytes ++ next.pre) ++ other))) ts
    cut_lexemes other =
        let old : (before ++ bytes) ++ rest ≡ before ++ text = append_assoc before bytes rest ∙ ap (λ t. before ++ t) (sym is) in
        let new : (before ++ bytes) ++ (next.pre ++ other) ≡ before ++ ((bytes ++ next.pre) ++ other) =
        append_assoc before bytes (next.pre ++ other) ∙ ap (λ t. before ++ t) (sym (append_assoc bytes next.pre other)) in
        ap (λ t. map (lexeme_of t) ts) (sym old) ∙ next.lexemes other ∙ ap (λ t. map (lexeme_of t) ts) new

    -- what stands behind the front, for a cut text
    cut_behind : (other : List ℕ) (r : Result (List Token) LexFault) → StopsAlike next.post other → (at n : ℕ) → at ≡ length before → length bytes ≡ n → Lexes (length before + length (bytes ++ next.pre)) other r → Lexes (at + n) (drop n (bytes ++ (next.pre ++ other))) (preceded ts r)
    cut_behind other r alike at n here len h =
        let there : length (before ++ bytes) ≡ at + n = omega (arith, length-append before bytes) in
        let tail : next.pre ++ other ≡ drop n (bytes ++ (next.pre ++ other)) =
        subst (λ i. next.pre ++ other ≡ drop i (bytes ++ (next.pre ++ other))) len (sym (drop-append_seam bytes (next.pre ++ other))) in
        let moved = next.lexes other r alike (subst (λ i. Lexes i other r) (sym (further next.pre)) h) in
        subst (λ t. Lexes (at + n) t (preceded ts r)) tail (subst (λ i. Lexes i (next.pre ++ other) (preceded ts r)) there moved)

    -- a gap at the front, and the cut of what stands behind it
    cut_gap : (at n : ℕ) → at ≡ length before → length bytes ≡ n → ((other : List ℕ) → StopsAlike rest other → StartsWith (bytes ++ other) (Gap n)) → Cut before text ts us
    cut_gap at n here len again = record {
      pre = bytes ++ next.pre;
      post = next.post;
      is = part_is;
      place = place_is;
      lexemes = cut_lexemes;
      lexes = λ other r alike h.
          subst (λ i. Lexes i ((bytes ++ next.pre) ++ other) (preceded ts r)) here
          (subst (λ t. Lexes at t (preceded ts r)) (sym (append_assoc bytes next.pre other)) (gap (again (next.pre ++ other) (goes_on other alike)) (cut_behind other r alike at n here len h)));
    }

    token_same : (what : TokenKind) (at n : ℕ) (other : List ℕ) → at ≡ length before → length bytes ≡ n → lexeme_of (before ++ text) (record { what = what; from = at; to = at + n }) ≡ lexeme_of (before ++ ((bytes ++ next.pre) ++ other)) (record { what = what; from = at; to = at + n })
    token_same what at n other here len =
        let t : Token = record { what = what; from = at; to = at + n } in
        ap (λ b. lexeme_of (before ++ b) t) is ∙ lexeme_at before bytes rest what at n here len
        ∙ sym (ap (λ b. lexeme_of (before ++ b) t) (append_assoc bytes next.pre other) ∙ lexeme_at before bytes (next.pre ++ other) what at n here len)

    -- a token at the front, likewise
    cut_token : (what : TokenKind) (at n : ℕ) → at ≡ length before → length bytes ≡ n → ((other : List ℕ) → StopsAlike rest other → StartsWith (bytes ++ other) (Lexeme what n)) → Cut before text (record { what = what; from = at; to = at + n } ∷ ts) us
    cut_token what at n here len again =
        let t : Token = record { what = what; from = at; to = at + n } in
        record {
          pre = bytes ++ next.pre;
          post = next.post;
          is = part_is;
          place = place_is;
          lexemes = λ other.
              ap (λ l. l ∷ map (lexeme_of (before ++ text)) ts) (token_same what at n other here len)
              ∙ ap (λ ls. lexeme_of (before ++ ((bytes ++ next.pre) ++ other)) t ∷ ls) (cut_lexemes other);
          lexes = λ other r alike h.
              let whole : Lexes at (bytes ++ (next.pre ++ other)) (preceded (t ∷ []) (preceded ts r)) =
              token (again (next.pre ++ other) (goes_on other alike)) (cut_behind other r alike at n here len h) in
              subst (λ i. Lexes i ((bytes ++ next.pre) ++ other) (preceded (t ∷ ts) r)) here
              (subst (λ b. Lexes at b (preceded (t ∷ ts) r)) (sym (append_assoc bytes next.pre other)) (subst (λ s. Lexes at (bytes ++ (next.pre ++ other)) s) (preceded_more t ts r) whole));
        }

-- a cut of what stands behind a front, told by the text after it
moved_cut : {before text rest : List ℕ} {ts us : List Token} → text ≡ rest → Cut before text ts us → Cut before rest ts us
moved_cut {before} {ts = ts} {us = us} is cut = subst (λ t. Cut before t ts us) is cut

-- the cuts of a text whose tokens are these
abbrev Cuts : ℕ → List ℕ → List ℕ → Result (List Token) LexFault → Type 0
Cuts at before text r = (ts us : List Token) → r ≡ Ok (ts ++ us) → Cut before text ts us

behind_gap : {text : List ℕ} (before : List ℕ) (at n : ℕ) (r : Result (List Token) LexFault) (f : Start-of text (Gap n) n) → at ≡ length before → Cuts (at + n) (before ++ f.bytes) (drop n text) r → Cuts at before text r
behind_gap {text} before at n r f here next ts us is =
    let tail : drop n text ≡ f.rest = subst (λ i. drop i text ≡ f.rest) f.len (behind_is before text f.bytes f.rest f.is) in
    cut_gap before text f.bytes f.rest f.is (moved_cut tail (next ts us is)) at n here f.len f.again

behind_token : {text : List ℕ} {what : TokenKind} (before : List ℕ) (at n : ℕ) (r : Result (List Token) LexFault) → StartsWith text (Lexeme what n) → (f : Start-of text (Lexeme what n) n) → at ≡ length before → Cuts (at + n) (before ++ f.bytes) (drop n text) r → Cuts at before text (preceded (record { what = what; from = at; to = at + n } ∷ []) r)
behind_token before at n (Err e) front f here next ts us is = cc
behind_token {text} {what} before at n (Ok vs) front f here next [] us is =
    let t : Token = record { what = what; from = at; to = at + n } in
    let all : t ∷ vs ≡ us = cc in
    let place : IsBefore (length before + 0) text (t ∷ vs) = record { from = omega arith; len = n; to = omega arith; front = front } in
    cut_here before text us (subst (IsBefore (length before + 0) text) all place)
behind_token {text} {what} before at n (Ok vs) front f here next (u ∷ ts) us is =
    let t : Token = record { what = what; from = at; to = at + n } in
    let all : t ∷ vs ≡ u ∷ (ts ++ us) = cc in
    let first : t ≡ u = cc in
    let others : Ok vs ≡ Ok (ts ++ us) = cc in
    let tail : drop n text ≡ f.rest = subst (λ i. drop i text ≡ f.rest) f.len (behind_is before text f.bytes f.rest f.is) in
    subst (λ (v : Token). Cut before text (v ∷ ts) us) first (cut_token before text f.bytes f.rest f.is (moved_cut tail (next ts us others)) what at n here f.len f.again)

cut_end : (before : List ℕ) (ts us : List Token) → ◌≡◌ {A = Result (List Token) LexFault} (Ok []) (Ok (ts ++ us)) → Cut before [] ts us
cut_end before [] [] is = cut_here before [] [] refl
cut_end before [] (u ∷ us) is = cc
cut_end before (t ∷ ts) us is = cc

pub cut : {at : ℕ} {text : List ℕ} {r : Result (List Token) LexFault} → Lexes at text r → (before : List ℕ) → at ≡ length before → Cuts at before text r
cut ends before here = cut_end before
cut (gap {at = at} {n = n} {text = text} {r = r} front lexes) before here =
    let f = gap_front front in
    let there : at + n ≡ length (before ++ f.bytes) = omega (arith, length-append before f.bytes, f.len) in
    behind_gap before at n r f here (cut lexes (before ++ f.bytes) there)
cut (token {at = at} {n = n} {what = what} {text = text} {r = r} front lexes) before here =
    let f = token_front front in
    let there : at + n ≡ length (before ++ f.bytes) = omega (arith, length-append before f.bytes, f.len) in
    behind_token before at n r front f here (cut lexes (before ++ f.bytes) there)
cut (no_token front) before here = λ ts us is. cc
cut (too_long front) before here = λ ts us is. cc
cut (no_number front) before here = λ ts us is. cc
