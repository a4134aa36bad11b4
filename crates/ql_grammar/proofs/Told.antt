use Rattle.std.proofs.Common.{◌≡◌, ℕ, List, [], ◌∷◌, ◌++◌, Option, Some, None, Result, Ok, Err, refl, sym, ap, subst, ◌∙◌}
use Rattle.ql_grammar.specs.declared.terminal.Terminal.{Terminal}
use Rattle.ql_grammar.specs.Tokens.{Lexeme, Marked, marked, lexemes}
use Rattle.ql_grammar.specs.Limits.{Fault, Unexpected, Counts, counted, counted_all, if_within}
use Rattle.ql_grammar.specs.Table.{Value, Sym}
use Rattle.ql_grammar.specs.Machine.{Taken, step, finish, run, go_on}
use Rattle.ql_grammar.proofs.Wanted.{Has}
use Rattle.ql_grammar.proofs.Steps.{IsSound, step_sound, EndsSoundly, finish_sound, Wish, wish}

-- some text that the stack wants begins so
abbrev pub Reaches : List Sym → List Value → List Marked → Type 0
Reaches st vs ms = (more : List Marked) × (out : List Value) × Has st vs (ms ++ more) out

-- why a run ends in a fault: at a token that no text goes on with, whatever follows it; at an end that comes too
-- early; or at a token past a limit
pub data Explained : List Sym → List Value → Counts → List Lexeme → ℕ → Fault → Type 0 where
  stuck : {st : List Sym} {vs : List Value} {c d : Counts} {end : ℕ} (before : List Marked) (t : Lexeme) (rest : List Lexeme) → counted_all c before ≡ Ok d → Reaches st vs before → ((other : List Lexeme) (last : ℕ) → run (lexemes before ++ t ∷ other) st vs c last ≡ Err (Unexpected t.at)) → Explained st vs c (lexemes before ++ t ∷ rest) end (Unexpected t.at)
  ended : {st : List Sym} {vs : List Value} {c d : Counts} {end : ℕ} (before : List Marked) → counted_all c before ≡ Ok d → Reaches st vs before → run (lexemes before) st vs c end ≡ Err (Unexpected end) → Explained st vs c (lexemes before) end (Unexpected end)
  past : {st : List Sym} {vs : List Value} {c d : Counts} {end : ℕ} {f : Fault} (before : List Marked) (m : Marked) (rest : List Lexeme) → counted_all c before ≡ Ok d → Reaches st vs (before ++ m ∷ []) → counted d m.role m.lexeme.at ≡ Err f → Explained st vs c (lexemes before ++ m.lexeme ∷ rest) end f

-- what the answer of a run says of its tokens
abbrev pub Told : List Sym → List Value → Counts → List Lexeme → ℕ → Result (List Value) Fault → Type 0
Told st vs c ts end (Ok out) = (ms : List Marked) × (lexemes ms ≡ ts) × Has st vs ms out × (d : Counts) × (counted_all c ms ≡ Ok d)
Told st vs c ts end (Err f) = Explained st vs c ts end f

-- the token `k` leads from these stacks and counts to those
pub record Moves (st : List Sym) (vs : List Value) (c : Counts) (k : Terminal) (x : List ℕ) (n : ℕ) (t : Taken) (d : Counts) : Type 0 where
  pub taken : step st vs k x n ≡ Some t
  pub within : counted c t.role n ≡ Ok d

pub run_on : {st : List Sym} {vs : List Value} {c d : Counts} {k : Terminal} {x : List ℕ} {n : ℕ} {t : Taken} → Moves st vs c k x n t d → (ts : List Lexeme) (end : ℕ) → run (record { what = k; text = x; at = n } ∷ ts) st vs c end ≡ run ts t.stack t.values d end
unfolding run
run_on m ts end = rw (m.taken, m.within) refl

pub counted_on : (c : Counts) (m : Marked) {d e : Counts} (ms : List Marked) → counted c m.role m.lexeme.at ≡ Ok d → counted_all d ms ≡ Ok e → counted_all c (m ∷ ms) ≡ Ok e
unfolding counted_all
counted_on c m ms first others = rw first others

has_on : {st : List Sym} {vs out : List Value} {c d : Counts} {k : Terminal} {x : List ℕ} {n : ℕ} {t : Taken} {ms : List Marked} → Moves st vs c k x n t d → Has t.stack t.values ms out → Has st vs (marked t.role k x n ∷ ms) out
has_on {st = st} {vs = vs} {out = out} {k = k} {x = x} {n = n} {t = t} {ms = ms} m h =
    let sound : IsSound st vs k x n (Some t) = subst (IsSound st vs k x n) m.taken (step_sound st vs k x n) in
    sound out ms h

front : {st : List Sym} {vs : List Value} {c d : Counts} {k : Terminal} {x : List ℕ} {n : ℕ} {t : Taken} (ts : List Lexeme) (end : ℕ) → Moves st vs c k x n t d → (o : Result (List Value) Fault) → Told t.stack t.values d ts end o → Told st vs c (record { what = k; text = x; at = n } ∷ ts) end o
front {c = c} {k = k} {x = x} {n = n} {t = t} ts end m (Ok out) told =
    (marked t.role k x n ∷ told.0, ap (λ l. record { what = k; text = x; at = n } ∷ l) told.1, has_on m told.2, told.3, counted_on c (marked t.role k x n) told.0 m.within told.4)
front {c = c} {k = k} {x = x} {n = n} {t = t} ts end m (Err f) told = front_fault m told
  where
    front_fault : {st : List Sym} {vs : List Value} {c d : Counts} {k : Terminal} {x : List ℕ} {n : ℕ} {t : Taken} {ts : List Lexeme} {end : ℕ} {f : Fault} → Moves st vs c k x n t d → Explained t.stack t.values d ts end f → Explained st vs c (record { what = k; text = x; at = n } ∷ ts) end f
    front_fault {c = c} {k = k} {x = x} {n = n} {t = t} m (stuck before u rest w reaches stays) =
        stuck (marked t.role k x n ∷ before) u rest (counted_on c (marked t.role k x n) before m.within w) (reaches.0, reaches.1, has_on m reaches.2) (λ other last. run_on m (lexemes before ++ u ∷ other) last ∙ stays other last)
    front_fault {c = c} {k = k} {x = x} {n = n} {t = t} {end = end} m (ended before w reaches stays) =
        ended (marked t.role k x n ∷ before) (counted_on c (marked t.role k x n) before m.within w) (reaches.0, reaches.1, has_on m reaches.2) (run_on m (lexemes before) end ∙ stays)
    front_fault {c = c} {k = k} {x = x} {n = n} {t = t} m (past before u rest w reaches over) =
        past (marked t.role k x n ∷ before) u rest (counted_on c (marked t.role k x n) before m.within w) (reaches.0, reaches.1, has_on m reaches.2) over

module _ (st : List Sym) (vs : List Value) (c : Counts) (k : Terminal) (x : List ℕ) (n : ℕ) (ts : List Lexeme) (end : ℕ) where
  within_told : (t : Taken) → step st vs k x n ≡ Some t → ((s : List Sym) (w : List Value) (d : Counts) → Told s w d ts end (run ts s w d end)) → (w : Result Counts Fault) → counted c t.role n ≡ w → Told st vs c (record { what = k; text = x; at = n } ∷ ts) end (if_within w (λ d. run ts t.stack t.values d end))
  unfolding counted_all
  within_told t taken rest (Ok d) within = front ts end (record { taken = taken; within = within }) (run ts t.stack t.values d end) (rest t.stack t.values d)
  within_told t taken rest (Err f) over =
      let sound : IsSound st vs k x n (Some t) = subst (IsSound st vs k x n) taken (step_sound st vs k x n) in
      let more : Wish t.stack t.values = wish t.stack t.values in
      past [] (marked t.role k x n) ts refl (more.0, more.1, sound more.1 more.0 more.2) over

  step_told : ((s : List Sym) (w : List Value) (d : Counts) → Told s w d ts end (run ts s w d end)) → (o : Option Taken) → step st vs k x n ≡ o → Told st vs c (record { what = k; text = x; at = n } ∷ ts) end (go_on o c n (λ s w d. run ts s w d end))
  unfolding counted_all run
  step_told rest None none = stuck [] (record { what = k; text = x; at = n }) ts refl (wish st vs) (λ other last. rw none refl)
  step_told rest (Some t) some = within_told t some rest (counted c t.role n) refl

end_told : (st : List Sym) (vs : List Value) (c : Counts) (end : ℕ) (o : Result (List Value) Fault) → finish st vs end ≡ o → EndsSoundly st vs end o → Told st vs c [] end o
unfolding counted_all run
end_told st vs c end (Ok out) is sound = ([], refl, sound, c, refl)
end_told st vs c end (Err f) is sound = subst (Explained st vs c [] end) (sym sound) (ended [] refl (wish st vs) (is ∙ ap Err sound))

-- each run tells of its tokens what its answer says
pub run_told : (ts : List Lexeme) (st : List Sym) (vs : List Value) (c : Counts) (end : ℕ) → Told st vs c ts end (run ts st vs c end)
unfolding run
run_told [] st vs c end = end_told st vs c end (finish st vs end) refl (finish_sound st vs end)
run_told (t ∷ ts) st vs c end =
    step_told st vs c t.what t.text t.at ts end (λ s w d. run_told ts s w d end) (step st vs t.what t.text t.at) refl
