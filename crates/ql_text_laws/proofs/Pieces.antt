-- Texts as pieces: blanks, ends of lines, and tokens in their roles. What stands in pieces has these tokens, and they are within
-- the limits where the text opens few brackets and the tokens make few nodes.
use Rattle.std.proofs.Common.{◌≡◌, ℕ, ◌+◌, ◌-◌, ◌≤◌, ◌==◌, Bool, true, false, List, [], ◌∷◌, ◌++◌, Ok, length, slice_range, nat_lt, refl, sym, ap, ◌∙◌, subst, arith, append_assoc, codes, length-append}
use Rattle.std.specs.List.{AllPass, list_any}
use Rattle.std.proofs.Math.Seq.{take-append_seam, drop-append_seam}
use Rattle.std.proofs.lemmas.Bool.Decides.{nat_tests}
use Rattle.ql_base.specs.Bytes.{is_blank, is_name_byte, StopsBefore}
use Rattle.ql_base.specs.Names.{IsWord, IsName, is_keyword}
use Rattle.ql_base.proofs.Fronts.{passes_head, passes_tail}
use Rattle.ql_lex.specs.Starts.{StartsWith}
use Rattle.ql_lex.specs.Starts.StartsWith.{blank, name, keyword, pair, mark}
use Rattle.ql_lex.specs.Marks.{is_mark_byte, is_mark_pair}
use Rattle.ql_lex.specs.Tokens.{Lexes, gap, token, ends}
use Rattle.ql_lex.specs.declared.start.Start.TheVariants.{Gap, Lexeme}
use Rattle.ql_lex.specs.declared.token.Token.{Token}
use Rattle.ql_lex.specs.declared.token.TokenKind.{TokenKind}
use Rattle.ql_lex.specs.declared.token.TokenKind.TheVariants.{Name, Mark, Keyword}
use Rattle.ql_base.specs.declared.limits.TheConstants.{MAX_BRACKETS, MAX_NODES}
use Rattle.ql_grammar.specs.declared.terminal.Terminal.{Terminal}
use Rattle.ql_grammar.specs.declared.terminal.Terminal.TheVariants.{NameToken}
use Rattle.ql_grammar.specs.declared.role.Role.{Role}
use Rattle.ql_grammar.specs.declared.role.Role.TheVariants.{Plain, Makes, Opens, Closes, Before}
use Rattle.ql_grammar.specs.Limits.{Counts, counted, counted_all, with_nodes}
use Rattle.ql_grammar.specs.Tokens.{Marked, marked, lexemes, lexeme_of, terminal_of}
use Rattle.ql_parse.specs.Readers.{lexemes_of}
use Rattle.ql_text_laws.specs.Printed.{open_after, quoted_after, OpensAtMost}

pub data Piece : Type 0 where
  Blank : Piece
  Line : Piece
  Said : TokenKind → Terminal → Role → List ℕ → Piece

abbrev pub text_of : List Piece → List ℕ
text_of [] = []
text_of (Blank ∷ ps) = 32 ∷ text_of ps
text_of (Line ∷ ps) = 10 ∷ text_of ps
text_of (Said k t r w ∷ ps) = w ++ text_of ps

abbrev pub tokens_of : ℕ → List Piece → List Token
tokens_of at [] = []
tokens_of at (Blank ∷ ps) = tokens_of (at + 1) ps
tokens_of at (Line ∷ ps) = tokens_of (at + 1) ps
tokens_of at (Said k t r w ∷ ps) = record { what = k; from = at; to = at + length w } ∷ tokens_of (at + length w) ps

abbrev pub marks_of : ℕ → List Piece → List Marked
marks_of at [] = []
marks_of at (Blank ∷ ps) = marks_of (at + 1) ps
marks_of at (Line ∷ ps) = marks_of (at + 1) ps
marks_of at (Said k t r w ∷ ps) = marked r t w at ∷ marks_of (at + length w) ps

-- the brackets that are open after a token, and the nodes that it makes
abbrev pub open_by : Role → ℕ → ℕ
open_by (Opens n) before = before + 1
open_by Closes before = before - 1
open_by Before before = 0
open_by _ before = before

abbrev pub made_by : Role → ℕ
made_by (Makes n) = n
made_by (Opens n) = n
made_by _ = 0

abbrev pub nodes_of : List Piece → ℕ
nodes_of [] = 0
nodes_of (Blank ∷ ps) = nodes_of ps
nodes_of (Line ∷ ps) = nodes_of ps
nodes_of (Said k t r w ∷ ps) = made_by r + nodes_of ps

-- a token opens and closes the brackets that its role says
abbrev pub Opening : Bool → Role → List ℕ → List ℕ → Type 0
Opening true r w rest = (most before : ℕ) → OpensAtMost most false before (w ++ rest) → OpensAtMost most false (open_by r before) rest
Opening false r w rest = Unit {0}

-- this token, with the text after it, is at the front, and where its brackets count, it opens and closes what its role
-- says
pub record IsSaid (counts : Bool) (k : TokenKind) (t : Terminal) (r : Role) (w rest : List ℕ) : Type 0 where
  pub front : StartsWith (w ++ rest) (Lexeme k (length w))
  pub terminal : terminal_of k w ≡ t
  pub opens : Opening counts r w rest

abbrev pub Stands : Bool → List Piece → Type 0
Stands counts [] = Unit {0}
Stands counts (Blank ∷ ps) = Stands counts ps
Stands counts (Line ∷ ps) = Stands counts ps
Stands counts (Said k t r w ∷ ps) = IsSaid counts k t r w (text_of ps) × Stands counts ps

-- its tokens

blank_front : (text : List ℕ) → StartsWith (32 ∷ text) (Gap 1)
unfolding is_blank
blank_front text = blank refl

line_front : (text : List ℕ) → StartsWith (10 ∷ text) (Gap 1)
unfolding is_blank
line_front text = blank refl

pub pieces_lex : (counts : Bool) (ps : List Piece) (at : ℕ) → Stands counts ps → Lexes at (text_of ps) (Ok (tokens_of at ps))
pieces_lex counts [] at stands = ends
pieces_lex counts (Blank ∷ ps) at stands = gap (blank_front (text_of ps)) (pieces_lex counts ps (at + 1) stands)
pieces_lex counts (Line ∷ ps) at stands = gap (line_front (text_of ps)) (pieces_lex counts ps (at + 1) stands)
pieces_lex counts (Said k t r w ∷ ps) at stands =
    token {r = Ok (tokens_of (at + length w) ps)} stands.0.front
    (subst (λ u. Lexes (at + length w) u (Ok (tokens_of (at + length w) ps))) (sym (drop-append_seam w (text_of ps))) (pieces_lex counts ps (at + length w) stands.1))

-- what stands after so many bytes
part_at : (before w rest bytes : List ℕ) → bytes ≡ before ++ (w ++ rest) → slice_range bytes (length before) (length before + length w) ≡ w
part_at before w rest bytes is =
    let n : length before + length w - length before ≡ length w = omega arith in
    rw (is, drop-append_seam before (w ++ rest), n) (take-append_seam w rest)

pub pieces_lexemes : (counts : Bool) (ps : List Piece) (before bytes : List ℕ) (at : ℕ) → at ≡ length before → bytes ≡ before ++ text_of ps → Stands counts ps → lexemes_of bytes (tokens_of at ps) ≡ lexemes (marks_of at ps)
pieces_lexemes counts [] before bytes at here is stands = refl
pieces_lexemes counts (Blank ∷ ps) before bytes at here is stands =
    pieces_lexemes counts ps (before ++ 32 ∷ []) bytes (at + 1) (omega (arith, length-append before (32 ∷ []))) (is ∙ sym (append_assoc before (32 ∷ []) (text_of ps))) stands
pieces_lexemes counts (Line ∷ ps) before bytes at here is stands =
    pieces_lexemes counts ps (before ++ 10 ∷ []) bytes (at + 1) (omega (arith, length-append before (10 ∷ []))) (is ∙ sym (append_assoc before (10 ∷ []) (text_of ps))) stands
pieces_lexemes counts (Said k t r w ∷ ps) before bytes at here is stands =
    let part : slice_range bytes at (at + length w) ≡ w = rw here (part_at before w (text_of ps) bytes is) in
    let first : lexeme_of bytes (record { what = k; from = at; to = at + length w }) ≡ record { what = t; text = w; at = at } = rw (part, stands.0.terminal) refl in
    let others = pieces_lexemes counts ps (before ++ w) bytes (at + length w) (omega (arith, length-append before w)) (is ∙ sym (append_assoc before w (text_of ps))) stands.1 in
    ap (λ l. l ∷ lexemes_of bytes (tokens_of (at + length w) ps)) first ∙ ap (λ ls. record { what = t; text = w; at = at } ∷ ls) others

-- its limits

few_now : (most : ℕ) (quoted : Bool) (before : ℕ) (text : List ℕ) → OpensAtMost most quoted before text → before ≤ most
few_now most quoted before [] h = h
few_now most quoted before (b ∷ bs) h = h.0

-- the nodes of an expression or contract after a token of this role
abbrev pub nodes_by : Role → ℕ → ℕ
nodes_by (Makes n) before = before + n
nodes_by (Opens n) before = before + n
nodes_by Before before = 0
nodes_by _ before = before

-- with so many brackets open, and so many nodes made, no piece goes past a limit
abbrev pub StaysIn : ℕ → ℕ → List Piece → Type 0
StaysIn o n [] = Unit {0}
StaysIn o n (Blank ∷ ps) = StaysIn o n ps
StaysIn o n (Line ∷ ps) = StaysIn o n ps
StaysIn o n (Said k t r w ∷ ps) = (open_by r o ≤ MAX_BRACKETS) × (nodes_by r n ≤ MAX_NODES) × StaysIn (open_by r o) (nodes_by r n) ps

-- no piece goes past a limit, whatever was open and made before
abbrev pub Resets : List Piece → Type 0
Resets ps = (o n : ℕ) → o ≤ MAX_BRACKETS → n ≤ MAX_NODES → StaysIn o n ps

count_nodes : (c : Counts) (n at : ℕ) → c.nodes + n ≤ MAX_NODES → with_nodes c n at ≡ Ok (record c { nodes = c.nodes + n })
unfolding with_nodes
count_nodes c n at few = let le : nat_lt MAX_NODES (c.nodes + n) ≡ false = grind (arith, nat_tests) in rw le refl

count_one : (r : Role) (c : Counts) (at : ℕ) → open_by r c.open_brackets ≤ MAX_BRACKETS → nodes_by r c.nodes ≤ MAX_NODES → counted c r at ≡ Ok (record { open_brackets = open_by r c.open_brackets; nodes = nodes_by r c.nodes })
unfolding counted
count_one Plain c at few small = refl
count_one (Makes n) c at few small = count_nodes c n at small
count_one (Opens n) c at few small =
    let le : nat_lt MAX_BRACKETS (c.open_brackets + 1) ≡ false = grind (arith, nat_tests) in
    rw le (count_nodes (record c { open_brackets = c.open_brackets + 1 }) n at small)
count_one Closes c at few small = refl
count_one Before c at few small = refl

pub stays_counted : (ps : List Piece) (at : ℕ) (c : Counts) → StaysIn c.open_brackets c.nodes ps → (d : Counts) × (counted_all c (marks_of at ps) ≡ Ok d)
unfolding counted_all
stays_counted [] at c stays = (c, refl)
stays_counted (Blank ∷ ps) at c stays = stays_counted ps (at + 1) c stays
stays_counted (Line ∷ ps) at c stays = stays_counted ps (at + 1) c stays
stays_counted (Said k t r w ∷ ps) at c stays =
    rw (count_one r c at stays.0 stays.1) (stays_counted ps (at + length w) (record { open_brackets = open_by r c.open_brackets; nodes = nodes_by r c.nodes }) stays.2)

made_at_most : (r : Role) (n : ℕ) → nodes_by r n ≤ n + made_by r
made_at_most Plain n = omega arith
made_at_most (Makes k) n = omega arith
made_at_most (Opens k) n = omega arith
made_at_most Closes n = omega arith
made_at_most Before n = omega arith

-- pieces whose text opens few brackets and that make few nodes stay within the limits
pub pieces_stay : (ps below : List Piece) (o n : ℕ) → Stands true ps → OpensAtMost MAX_BRACKETS false o (text_of ps) → n + nodes_of ps ≤ MAX_NODES → Resets below → StaysIn o n (ps ++ below)
pieces_stay [] below o n stands opens few resets = resets o n opens (omega arith)
pieces_stay (Blank ∷ ps) below o n stands opens few resets = pieces_stay ps below o n stands opens.1 few resets
pieces_stay (Line ∷ ps) below o n stands opens few resets = pieces_stay ps below o n stands opens.1 few resets
pieces_stay (Said k t r w ∷ ps) below o n stands opens few resets =
    let opened : OpensAtMost MAX_BRACKETS false (open_by r o) (text_of ps) = stands.0.opens MAX_BRACKETS o opens in (
      few_now MAX_BRACKETS false (open_by r o) (text_of ps) opened,
      omega (arith, made_at_most r n),
      pieces_stay ps below (open_by r o) (nodes_by r n) stands.1 opened (omega (arith, made_at_most r n)) resets,
    )

-- tokens that stand

-- a role that opens and closes nothing
pub data IsQuiet : Role → Type 0 where
  plain : IsQuiet Plain
  makes : {n : ℕ} → IsQuiet (Makes n)

quiet_opens : {r : Role} → IsQuiet r → (before : ℕ) → before ≡ open_by r before
quiet_opens plain before = refl
quiet_opens makes before = refl

name_quiet : (before b : ℕ) → is_name_byte b ≡ true → open_after false before b ≡ before
unfolding is_name_byte
name_quiet before b h =
    let a : (b == 40) ≡ false = grind (arith, nat_tests) in
    let c : (b == 91) ≡ false = grind (arith, nat_tests) in
    let d : (b == 41) ≡ false = grind (arith, nat_tests) in
    let e : (b == 93) ≡ false = grind (arith, nat_tests) in
    rw (a, c, d, e) refl

name_unquoted : (b : ℕ) → is_name_byte b ≡ true → quoted_after false b ≡ false
unfolding is_name_byte
name_unquoted b h = let no : (b == 34) ≡ false = grind (arith, nat_tests) in rw no refl

pub same_open : (most before after : ℕ) (quoted : Bool) (rest : List ℕ) → quoted ≡ false → after ≡ before → OpensAtMost most quoted after rest → OpensAtMost most false before rest
same_open most before after quoted rest q e h = subst (λ n. OpensAtMost most false n rest) e (subst (λ b. OpensAtMost most b after rest) q h)

run_opens : (w rest : List ℕ) (most before : ℕ) → AllPass is_name_byte w → OpensAtMost most false before (w ++ rest) → OpensAtMost most false before rest
run_opens [] rest most before quiet h = h
run_opens (b ∷ bs) rest most before quiet h =
    let is_name = passes_head is_name_byte b bs quiet in
    run_opens bs rest most before (passes_tail is_name_byte b bs quiet) (same_open most before (open_after false before b) (quoted_after false b) (bs ++ rest) (name_unquoted b is_name) (name_quiet before b is_name) h.1)

pub opening : (counts : Bool) (r : Role) (w rest : List ℕ) → Opening true r w rest → Opening counts r w rest
opening true r w rest h = h
opening false r w rest h = tt

pub quiet_word : (counts : Bool) {r : Role} (w rest : List ℕ) → AllPass is_name_byte w → IsQuiet r → Opening counts r w rest
quiet_word counts {r} w rest all quiet =
    opening counts r w rest (λ most before h. subst (λ n. OpensAtMost most false n rest) (quiet_opens quiet before) (run_opens w rest most before all h))

pub said_word : {counts : Bool} {t : Terminal} {r : Role} (w rest : List ℕ) → IsWord w → is_keyword w ≡ true → terminal_of Keyword w ≡ t → IsQuiet r → StopsBefore is_name_byte rest → IsSaid counts Keyword t r w rest
said_word {counts} w rest word kept is quiet stops = record { front = keyword w rest word stops kept; terminal = is; opens = quiet_word counts w rest word.all quiet }

pub said_name : {counts : Bool} {r : Role} (w rest : List ℕ) → IsName w → IsQuiet r → StopsBefore is_name_byte rest → IsSaid counts Name NameToken r w rest
unfolding terminal_of
said_name {counts} w rest named quiet stops = record { front = name w rest named.shape stops named.free named.short; terminal = refl; opens = quiet_word counts w rest named.shape.all quiet }

pub said_mark : {counts : Bool} {t : Terminal} {r : Role} (a : ℕ) (rest : List ℕ) → is_mark_byte a ≡ true → StopsBefore (is_mark_pair a) rest → terminal_of Mark (a ∷ []) ≡ t → ((before : ℕ) → open_after false before a ≡ open_by r before) → quoted_after false a ≡ false → IsSaid counts Mark t r (a ∷ []) rest
said_mark {counts} {r = r} a rest is_one stops is moves unquoted = record {
  front = mark is_one stops;
  terminal = is;
  opens = opening counts r (a ∷ []) rest (λ most before h. same_open most (open_by r before) (open_after false before a) (quoted_after false a) rest unquoted (moves before) h.1);
}

pub said_pair : {counts : Bool} {t : Terminal} {r : Role} (a b : ℕ) (rest : List ℕ) → is_mark_pair a b ≡ true → terminal_of Mark (a ∷ b ∷ []) ≡ t → ((before : ℕ) → open_after (quoted_after false a) (open_after false before a) b ≡ open_by r before) → quoted_after (quoted_after false a) b ≡ false → IsSaid counts Mark t r (a ∷ b ∷ []) rest
said_pair {counts} {r = r} a b rest is_pair is moves unquoted = record {
  front = pair is_pair;
  terminal = is;
  opens = opening counts r (a ∷ b ∷ []) rest (λ most before h. same_open most (open_by r before) (open_after (quoted_after false a) (open_after false before a) b) (quoted_after (quoted_after false a) b) rest unquoted (moves before) h.1.1);
}

-- marks that begin no longer one
pub lone : (a : ℕ) → list_any (λ m. m == a) (codes ":=!<>/\\") ≡ false → (rest : List ℕ) → StopsBefore (is_mark_pair a) rest
unfolding is_mark_pair
lone a h [] = refl
lone a h (b ∷ rest) = grind (arith, nat_tests)
