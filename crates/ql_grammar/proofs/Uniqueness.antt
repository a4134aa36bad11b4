use Rattle.std.proofs.Common.{◌≡◌, ℕ, List, [], ◌∷◌, ◌++◌, Option, Some, None, Result, Ok, Err, refl, sym, ap, subst, ◌∙◌, append_assoc, append-nil}
use Rattle.ql_grammar.specs.Tokens.{Lexeme, Marked, marked, lexemes}
use Rattle.ql_grammar.specs.Limits.{Fault, Unexpected, Counts, counted, counted_all, if_within, nothing_yet}
use Rattle.ql_grammar.specs.Table.{Value, Sym, Part}
use Rattle.ql_grammar.specs.Machine.{Taken, step, finish, run}
use Rattle.ql_grammar.specs.Texts.{IsTextOf, Begins, ParsesAs, FirstFault, unexpected, ended, past}
use Rattle.ql_grammar.proofs.Wanted.{Has}
use Rattle.ql_grammar.proofs.Steps.{IsSound, step_sound, EndsSoundly, finish_sound, Wish, wish}
use Rattle.ql_grammar.proofs.Paths.{Path, SameHead, here, take, via, take_run, within_then}
use Rattle.ql_grammar.proofs.Laws.{IsWhole, start, text_runs, lexemes_append}

-- The machine takes these tokens, each in its role, and comes from the first stacks to the others.
data Walk : List Sym → List Value → List Marked → List Sym → List Value → Type 0 where
  stay : {st : List Sym} {vs : List Value} → Walk st vs [] st vs
  walk : {st s to : List Sym} {vs w out : List Value} {m : Marked} {ms : List Marked} → step st vs m.lexeme.what m.lexeme.text m.lexeme.at ≡ Some (record { role = m.role; stack = s; values = w }) → Walk s w ms to out → Walk st vs (m ∷ ms) to out

abbrev Walks : List Sym → List Value → List Marked → Type 0
Walks st vs ms = (to : List Sym) × (out : List Value) × Walk st vs ms to out

walk_front : {st s : List Sym} {vs w : List Value} (m : Marked) (ms more ts : List Marked) → ts ≡ m ∷ (ms ++ more) → SameHead st vs s w ts → Walks s w (m ∷ ms) → Walks st vs (m ∷ ms)
walk_front {st = st} {s = s} {vs = vs} {w = w} m ms more ts is same (to, out, walk e next) =
    let head : SameHead st vs s w (m ∷ (ms ++ more)) = subst (SameHead st vs s w) is same in
    (to, out, walk (head ∙ e) next)

walk_of : {st to : List Sym} {vs out : List Value} {ts rest : List Marked} → Path st vs ts to out rest → rest ≡ [] → (ms more : List Marked) → ts ≡ ms ++ more → Walks st vs ms
walk_of {st = st} {vs = vs} p none [] more is = (st, vs, stay)
walk_of here none (m ∷ ms) more is = let e : [] ≡ m ∷ (ms ++ more) = sym none ∙ is in cc
walk_of (take {st = st} {s = s} {vs = vs} {w = w} {r = r} {k = k} {x = x} {n = n} e p) none (m ∷ ms) more is =
    let head : marked r k x n ≡ m = cc in
    let next = walk_of p none ms more (cc) in
    subst (λ (a : Marked). Walks st vs (a ∷ ms)) head (next.0, next.1, walk e next.2)
walk_of {ts = ts} (via same p) none (m ∷ ms) more is = walk_front m ms more ts is same (walk_of p none (m ∷ ms) more is)

walk_run : {st to : List Sym} {vs out : List Value} {ms : List Marked} → Walk st vs ms to out → (other : List Lexeme) (c : Counts) (end : ℕ) → run (lexemes ms ++ other) st vs c end ≡ if_within (counted_all c ms) (λ d. run other to out d end)
unfolding counted_all
walk_run stay other c end = refl
walk_run {st = st} {to = to} {vs = vs} {out = out} {ms = m ∷ ms} (walk {s = s} {w = w} e next) other c end =
    take_run st vs m.lexeme.what m.lexeme.text m.lexeme.at (lexemes ms ++ other) c end e
    ∙ within_then (counted c m.role m.lexeme.at) (λ d. run (lexemes ms ++ other) s w d end) (λ d. counted_all d ms) (λ d. run other to out d end) (λ d. walk_run next other d end)

walk_has : {st to : List Sym} {vs out end : List Value} {ms ts : List Marked} → Walk st vs ms to out → Has to out ts end → Has st vs (ms ++ ts) end
walk_has stay h = h
walk_has {st = st} {vs = vs} {end = end} {ms = m ∷ ms} {ts = ts} (walk {s = s} {w = w} e next) h =
    let sound : IsSound st vs m.lexeme.what m.lexeme.text m.lexeme.at (Some (record { role = m.role; stack = s; values = w })) = subst (IsSound st vs m.lexeme.what m.lexeme.text m.lexeme.at) e (step_sound st vs m.lexeme.what m.lexeme.text m.lexeme.at) in
    sound end (ms ++ ts) (walk_has next h)

stops : (t : Lexeme) (rest : List Lexeme) (to : List Sym) (out : List Value) (c : Counts) (end : ℕ) → step to out t.what t.text t.at ≡ None → run (t ∷ rest) to out c end ≡ Err (Unexpected t.at)
unfolding run
stops t rest to out c end none = rw none refl

finishes : (to : List Sym) (out : List Value) (c : Counts) (end : ℕ) → run [] to out c end ≡ finish to out end
unfolding run
finishes to out c end = refl

counted_append : (c : Counts) (ms ns : List Marked) → counted_all c (ms ++ ns) ≡ if_within (counted_all c ms) (λ d. counted_all d ns)
unfolding counted_all
counted_append c [] ns = refl
counted_append c (m ∷ ms) ns = counted_cases (counted c m.role m.lexeme.at) (λ d. counted_all d (ms ++ ns)) (λ d. counted_all d ms) (λ d. counted_all d ns) (λ d. counted_append d ms ns)
  where
    counted_cases : (w : Result Counts Fault) (f g h : Counts → Result Counts Fault) → ((d : Counts) → f d ≡ if_within (g d) h) → if_within w f ≡ if_within (if_within w g) h
    counted_cases (Ok d) f g h same = same d
    counted_cases (Err e) f g h same = refl

counted_one : (c : Counts) (m : Marked) (f : Fault) → counted c m.role m.lexeme.at ≡ Err f → counted_all c (m ∷ []) ≡ Err f
unfolding counted_all
counted_one c m f over = rw over refl

module _ {A : Type 0} {p : Part} {value : A → Value} {Reads : List Marked → List Marked → A → Type 0} (w : IsWhole p value Reads) where
  -- the machine walks along what some text begins with
  begun : (ms more : List Marked) (a : A) → Reads (ms ++ more) [] a → Walks (start w) [] ms
  begun ms more a reads = walk_of (w.again reads) refl ms more refl

  is_text : {ms : List Marked} {out : List Value} → Has (start w) [] ms out → IsTextOf Reads ms
  is_text h = let text = w.text h in (text.0, text.1)

  no_step : (before : List Marked) (t : Lexeme) (to : List Sym) (out : List Value) → Walk (start w) [] before to out → ((ms : List Marked) → lexemes ms ≡ lexemes before ++ t ∷ [] → Begins (IsTextOf Reads) ms → ⊥) → (o : Option Taken) → step to out t.what t.text t.at ≡ o → o ≡ None
  no_step before t to out walks none None is = refl
  no_step before t to out walks none (Some taken) is =
      let m : Marked = marked taken.role t.what t.text t.at in
      let sound : IsSound to out t.what t.text t.at (Some taken) = subst (IsSound to out t.what t.text t.at) is (step_sound to out t.what t.text t.at) in
      let more : Wish taken.stack taken.values = wish taken.stack taken.values in
      let text : (IsTextOf Reads) (before ++ m ∷ more.0) = is_text (walk_has walks (sound more.1 more.0 more.2)) in
      absurd (none (before ++ m ∷ []) (lexemes_append before (m ∷ [])) (more.0, subst (IsTextOf Reads) (sym (append_assoc before (m ∷ []) more.0)) text))

  no_end : (before : List Marked) (to : List Sym) (out : List Value) (end : ℕ) → Walk (start w) [] before to out → ((ms : List Marked) → lexemes ms ≡ lexemes before → (IsTextOf Reads) ms → ⊥) → (o : Result (List Value) Fault) → EndsSoundly to out end o → o ≡ Err (Unexpected end)
  no_end before to out end walks none (Err f) sound = ap Err sound
  no_end before to out end walks none (Ok last) sound =
      let text : (IsTextOf Reads) (before ++ []) = is_text (walk_has walks sound) in
      absurd (none before refl (subst (IsTextOf Reads) (append-nil before) text))

  -- the first fault is what the machine answers
  pub fault_runs : {ts : List Lexeme} {end : ℕ} {f : Fault} → FirstFault (IsTextOf Reads) ts end f → run ts (start w) [] nothing_yet end ≡ Err f
  fault_runs {end = end} (unexpected before t rest within begins none) =
      let b = begun before begins.0 begins.1.0 begins.1.1 in
      walk_run b.2 (t ∷ rest) nothing_yet end
      ∙ ap (λ (o : Result Counts Fault). if_within o (λ d. run (t ∷ rest) b.0 b.1 d end)) within.1
      ∙ stops t rest b.0 b.1 within.0 end (no_step before t b.0 b.1 b.2 none (step b.0 b.1 t.what t.text t.at) refl)
  fault_runs {end = end} (ended before within begins none) =
      let b = begun before begins.0 begins.1.0 begins.1.1 in
      ap (λ ts. run ts (start w) [] nothing_yet end) (sym (append-nil (lexemes before)))
      ∙ walk_run b.2 [] nothing_yet end
      ∙ ap (λ (o : Result Counts Fault). if_within o (λ d. run [] b.0 b.1 d end)) within.1
      ∙ finishes b.0 b.1 within.0 end
      ∙ no_end before b.0 b.1 end b.2 none (finish b.0 b.1 end) (finish_sound b.0 b.1 end)
  fault_runs {end = end} {f = f} (past before m rest {c = c} within begins over) =
      let b = begun (before ++ m ∷ []) begins.0 begins.1.0 begins.1.1 in
      let are : lexemes before ++ m.lexeme ∷ rest ≡ lexemes (before ++ m ∷ []) ++ rest =
      sym (ap (λ l. l ++ rest) (lexemes_append before (m ∷ [])) ∙ append_assoc (lexemes before) (m.lexeme ∷ []) rest) in
      let counts : counted_all nothing_yet (before ++ m ∷ []) ≡ Err f =
      counted_append nothing_yet before (m ∷ []) ∙ ap (λ (o : Result Counts Fault). if_within o (λ d. counted_all d (m ∷ []))) within ∙ counted_one c m f over in
      ap (λ ts. run ts (start w) [] nothing_yet end) are
      ∙ walk_run b.2 rest nothing_yet end
      ∙ ap (λ (o : Result Counts Fault). if_within o (λ d. run rest b.0 b.1 d end)) counts

  -- the tree of a text is what the machine answers
  pub text_answers : {ts : List Lexeme} {a : A} → ParsesAs Reads ts a → (end : ℕ) → run ts (start w) [] nothing_yet end ≡ Ok (value a ∷ [])
  text_answers {a = a} p end =
      ap (λ ts. run ts (start w) [] nothing_yet end) (sym p.are) ∙ text_runs w p.reads end
      ∙ ap (λ (o : Result Counts Fault). if_within o (λ d. Ok (value a ∷ []))) p.within.1

  pub one_tree : (ts : List Lexeme) (a b : A) → ParsesAs Reads ts a → ParsesAs Reads ts b → a ≡ b
  one_tree ts a b p q = let e : ◌≡◌ {A = Result (List Value) Fault} (Ok (value a ∷ [])) (Ok (value b ∷ [])) = sym (text_answers p 0) ∙ text_answers q 0 in w.one (cc)

  pub one_fault : (ts : List Lexeme) (end : ℕ) (f g : Fault) → FirstFault (IsTextOf Reads) ts end f → FirstFault (IsTextOf Reads) ts end g → f ≡ g
  one_fault ts end f g p q = let e : ◌≡◌ {A = Result (List Value) Fault} (Err f) (Err g) = sym (fault_runs p) ∙ fault_runs q in cc

  pub not_both : (ts : List Lexeme) (end : ℕ) (a : A) (f : Fault) → ParsesAs Reads ts a → FirstFault (IsTextOf Reads) ts end f → ⊥
  not_both ts end a f p q = let e : Ok (value a ∷ []) ≡ Err f = sym (text_answers p end) ∙ fault_runs q in cc
