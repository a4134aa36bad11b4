-- one more step of a fold, of statements and of names with values
use Rattle.std.proofs.Common.{◌≡◌, ◌≤◌, ◌<◌, ◌+◌, ℕ, zero, suc, Bool, true, false, not, cond, filter, List, [], ◌∷◌, ◌++◌, Option, Some, None, length, get_or, set, take, drop, map, min, refl, sym, ap, ◌∙◌, arith, append_assoc, add-one, one-add}
use Rattle.std.specs.List.{prefix_len}
use Rattle.std.specs.Option.{option_and_then, option_map}
use Rattle.std.specs.Str.{bytes_eq}
use Rattle.std.proofs.Math.Seq.{drop-cons}
use Rattle.std.proofs.lemmas.List.{append-nil, drop_all, map-append, take_more}
use Rattle.ql_lang.specs.declared.operation.Bind.{Bind}
use Rattle.ql_lang.specs.declared.operation.Stmt.{Stmt}
use Rattle.ql_lang.specs.declared.operation.OpDecl.{OpDecl}
use Rattle.ql_lang.specs.Expressions.{expression_of}
use Rattle.ql_value.specs.declared.value.Value.{Value}
use Rattle.ql_exec.specs.declared.effect.Effect.{Effect}
use Rattle.ql_exec.specs.declared.effect.Payload.{Payload}
use Rattle.ql_exec.specs.declared.effect.Payload.TheVariants.{Nothing, Emitted}
use Rattle.ql_eval.specs.Evaluation.{Bindings, value_in, value_of}
use Rattle.ql_eval.specs.Folds.{after_payload, after_stmt, after_stmts, assigned, bound_values, folded, has_emitted, is_emitted, under}

pub next_item : {A : Type 0} (xs : List A) (i : ℕ) (x : A) → i < length xs → x ≡ get_or xs i x → drop i xs ≡ x ∷ drop (i + 1) xs
next_item xs i x lt is = drop-cons xs i x lt ∙ rw (← is, add-one i) refl

-- a name is given another value where it stands first
pub assigns : (ps : Bindings) (w : List ℕ) (v : Value) → prefix_len (λ p. not (bytes_eq p.0 w)) ps < length ps → set ps (prefix_len (λ p. not (bytes_eq p.0 w)) ps) (w, v) ≡ assigned ps w v
unfolding assigned
assigns [] w v lt = absurd (omega arith)
assigns (p ∷ ps) w v lt = by_test (bytes_eq p.0 w) lt (assigns ps w v) where
  by_test : (b : Bool) → cond (not b) (1 + prefix_len (λ q. not (bytes_eq q.0 w)) ps) 0 < suc (length ps)
      → (prefix_len (λ q. not (bytes_eq q.0 w)) ps < length ps → set ps (prefix_len (λ q. not (bytes_eq q.0 w)) ps) (w, v) ≡ assigned ps w v)
      → set (p ∷ ps) (cond (not b) (1 + prefix_len (λ q. not (bytes_eq q.0 w)) ps) 0) (w, v) ≡ cond b ((w, v) ∷ ps) (p ∷ assigned ps w v)
  by_test true lt' rest = refl
  by_test false lt' rest = rw (one-add (prefix_len (λ q. not (bytes_eq q.0 w)) ps)) (ap (λ qs. p ∷ qs) (rest (omega arith)))

pub assigns_none : (ps : Bindings) (w : List ℕ) (v : Value) → length ps ≤ prefix_len (λ p. not (bytes_eq p.0 w)) ps → ps ≡ assigned ps w v
unfolding assigned
assigns_none [] w v le = refl
assigns_none (p ∷ ps) w v le = by_test (bytes_eq p.0 w) le (assigns_none ps w v) where
  by_test : (b : Bool) → suc (length ps) ≤ cond (not b) (1 + prefix_len (λ q. not (bytes_eq q.0 w)) ps) 0
      → (length ps ≤ prefix_len (λ q. not (bytes_eq q.0 w)) ps → ps ≡ assigned ps w v)
      → p ∷ ps ≡ cond b ((w, v) ∷ ps) (p ∷ assigned ps w v)
  by_test true le' rest = absurd (omega arith)
  by_test false le' rest = ap (λ qs. p ∷ qs) (rest (omega arith))

pub assigned_front : (ps qs : Bindings) (w : List ℕ) (v : Value) → prefix_len (λ p. not (bytes_eq p.0 w)) ps < length ps → assigned ps w v ++ qs ≡ assigned (ps ++ qs) w v
unfolding assigned
assigned_front [] qs w v lt = absurd (omega arith)
assigned_front (p ∷ ps) qs w v lt = by_test (bytes_eq p.0 w) lt (assigned_front ps qs w v) where
  by_test : (b : Bool) → cond (not b) (1 + prefix_len (λ q. not (bytes_eq q.0 w)) ps) 0 < suc (length ps)
      → (prefix_len (λ q. not (bytes_eq q.0 w)) ps < length ps → assigned ps w v ++ qs ≡ assigned (ps ++ qs) w v)
      → cond b ((w, v) ∷ ps) (p ∷ assigned ps w v) ++ qs ≡ cond b ((w, v) ∷ ps ++ qs) (p ∷ assigned (ps ++ qs) w v)
  by_test true lt' rest = refl
  by_test false lt' rest = ap (λ rs. p ∷ rs) (rest (omega arith))

-- the value of a name
pub value_here : (p : List ℕ × Value) (ps : Bindings) (w : List ℕ) → bytes_eq p.0 w ≡ true → value_in (p ∷ ps) w ≡ Some p.1
unfolding value_in
value_here p ps w e = rw e refl

pub value_after : (p : List ℕ × Value) (ps : Bindings) (w : List ℕ) → bytes_eq p.0 w ≡ false → value_in (p ∷ ps) w ≡ value_in ps w
unfolding value_in
value_after p ps w e = rw e refl

pub value_nowhere : (w : List ℕ) → None ≡ value_in [] w
unfolding value_in
value_nowhere w = refl

pub value_in_first : (ps qs : Bindings) (w : List ℕ) (v : Value) → Some v ≡ value_in ps w → Some v ≡ value_in (ps ++ qs) w
unfolding value_in
value_in_first [] qs w v e = let no : Some v ≡ None = e in cc
value_in_first (p ∷ ps) qs w v e = by (bytes_eq p.0 w) e (value_in_first ps qs w v)
  where
    by : (b : Bool) → Some v ≡ cond b (Some p.1) (value_in ps w) → (Some v ≡ value_in ps w → Some v ≡ value_in (ps ++ qs) w) → Some v ≡ cond b (Some p.1) (value_in (ps ++ qs) w)
    by true here rest = here
    by false later rest = rest later

pub value_in_later : (ps qs : Bindings) (w : List ℕ) → None ≡ value_in ps w → value_in qs w ≡ value_in (ps ++ qs) w
unfolding value_in
value_in_later [] qs w e = refl
value_in_later (p ∷ ps) qs w e = by (bytes_eq p.0 w) e (value_in_later ps qs w)
  where
    by : (b : Bool) → None ≡ cond b (Some p.1) (value_in ps w) → (None ≡ value_in ps w → value_in qs w ≡ value_in (ps ++ qs) w) → value_in qs w ≡ cond b (Some p.1) (value_in (ps ++ qs) w)
    by true here rest = let no : None ≡ Some p.1 = here in cc
    by false later rest = rest later

-- statements
pub more_stmts : (env : Bindings) (stmts : List Stmt) (i : ℕ) (s : Stmt) (next : Bindings) → i < length stmts → s ≡ get_or stmts i s → Some next ≡ after_stmt env s → after_stmts env (drop i stmts) ≡ after_stmts next (drop (i + 1) stmts)
unfolding after_stmts
more_stmts env stmts i s next lt is e =
    ap (after_stmts env) (next_item stmts i s lt is) ∙ ap (λ o. option_and_then (λ n. after_stmts n (drop (i + 1) stmts)) o) (sym e)

pub stuck_stmt : (env : Bindings) (stmts : List Stmt) (i : ℕ) (s : Stmt) → i < length stmts → s ≡ get_or stmts i s → None ≡ after_stmt env s → after_stmts env (drop i stmts) ≡ None
unfolding after_stmts
stuck_stmt env stmts i s lt is e =
    ap (after_stmts env) (next_item stmts i s lt is) ∙ ap (λ o. option_and_then (λ n. after_stmts n (drop (i + 1) stmts)) o) (sym e)

pub no_stmts : (env : Bindings) (stmts : List Stmt) (i : ℕ) → length stmts ≤ i → after_stmts env (drop i stmts) ≡ Some env
unfolding after_stmts
no_stmts env stmts i past = ap (after_stmts env) (drop_all i stmts past)

-- effects
pub more_effects : {X : Type 0} (f : X → Effect) (ops : List OpDecl) (state : Bindings) (xs : List X) (i : ℕ) (x : X) (next : Bindings) → i < length xs → x ≡ get_or xs i x → Some next ≡ after_payload ops (f x).op.0 state (f x).payload
    → folded ops state (map f (drop i xs)) ≡ folded ops next (map f (drop (i + 1) xs))
unfolding folded
more_effects f ops state xs i x next lt is e =
    ap (λ ys. folded ops state (map f ys)) (next_item xs i x lt is) ∙ ap (λ o. option_and_then (λ n. folded ops n (map f (drop (i + 1) xs))) o) (sym e)

pub stuck_effect : {X : Type 0} (f : X → Effect) (ops : List OpDecl) (state : Bindings) (xs : List X) (i : ℕ) (x : X) → i < length xs → x ≡ get_or xs i x → None ≡ after_payload ops (f x).op.0 state (f x).payload
    → folded ops state (map f (drop i xs)) ≡ None
unfolding folded
stuck_effect f ops state xs i x lt is e =
    ap (λ ys. folded ops state (map f ys)) (next_item xs i x lt is) ∙ ap (λ o. option_and_then (λ n. folded ops n (map f (drop (i + 1) xs))) o) (sym e)

pub no_effects : {X : Type 0} (f : X → Effect) (ops : List OpDecl) (state : Bindings) (xs : List X) (i : ℕ) → length xs ≤ i → folded ops state (map f (drop i xs)) ≡ Some state
unfolding folded
no_effects f ops state xs i past = ap (λ ys. folded ops state (map f ys)) (drop_all i xs past)

-- what emitted nothing leaves the state as it is
pub folded_emitting : (ops : List OpDecl) (state : Bindings) (es : List Effect) → folded ops state (filter has_emitted es) ≡ folded ops state es
unfolding folded
folded_emitting ops state [] = refl
folded_emitting ops state (e ∷ es) = by e.payload refl (λ next. folded_emitting ops next es)
  where
    after : (o : Option Bindings) → ((next : Bindings) → folded ops next (filter has_emitted es) ≡ folded ops next es)
        → option_and_then (λ next. folded ops next (filter has_emitted es)) o ≡ option_and_then (λ next. folded ops next es) o
    after None same = refl
    after (Some next) same = same next

    by : (payload : Payload) → e.payload ≡ payload → ((next : Bindings) → folded ops next (filter has_emitted es) ≡ folded ops next es)
        → folded ops state (cond (is_emitted payload) (e ∷ filter has_emitted es) (filter has_emitted es)) ≡ option_and_then (λ next. folded ops next es) (after_payload ops e.op.0 state payload)
    by Nothing is same = same state
    by (Emitted values) is same = ap (λ p. option_and_then (λ next. folded ops next (filter has_emitted es)) (after_payload ops e.op.0 state p)) is ∙ after (after_payload ops e.op.0 state (Emitted values)) same

-- names with values
pub more_under : {X : Type 0} (word : X → List ℕ) (env : Bindings) (xs : List X) (vs : List Value) (i : ℕ) (x : X) (v : Value) → i < length xs → i < length vs → x ≡ get_or xs i x → v ≡ get_or vs i v
    → env ++ under word (drop i xs) (drop i vs) ≡ (env ++ (word x, v) ∷ []) ++ under word (drop (i + 1) xs) (drop (i + 1) vs)
more_under word env xs vs i x v lt lt' is v_is =
    rw (next_item xs i x lt is, next_item vs i v lt' v_is) (sym (append_assoc env ((word x, v) ∷ []) (under word (drop (i + 1) xs) (drop (i + 1) vs))))

pub next_under : {X : Type 0} (word : X → List ℕ) (xs : List X) (vs : List Value) (i : ℕ) (x : X) (v : Value) → i < length xs → i < length vs
    → under word (drop i xs) (drop i vs) ≡ (word (get_or xs i x), get_or vs i v) ∷ under word (drop (i + 1) xs) (drop (i + 1) vs)
next_under word xs vs i x v lt lt' = rw (drop-cons xs i x lt, drop-cons vs i v lt', add-one i) refl

under_none : {X : Type 0} (word : X → List ℕ) (xs : List X) → under word xs [] ≡ []
under_none word [] = refl
under_none word (x ∷ xs) = refl

pub under_end : {X : Type 0} (word : X → List ℕ) (xs : List X) (vs : List Value) (i : ℕ) → min (length xs) (length vs) ≤ i → under word (drop i xs) (drop i vs) ≡ []
under_end {X} word [] vs i past = rw (drop_all {X = X} i [] (omega arith)) refl
under_end word (x ∷ xs) [] i past = rw (drop_all {X = Value} i [] (omega arith)) (under_none word (drop i (x ∷ xs)))
under_end word (x ∷ xs) (v ∷ vs) zero past = absurd (omega arith)
under_end word (x ∷ xs) (v ∷ vs) (suc i) past = under_end word xs vs i (omega arith)

pub no_under : {X : Type 0} (word : X → List ℕ) (env : Bindings) (xs : List X) (vs : List Value) (i : ℕ) → min (length xs) (length vs) ≤ i → env ++ under word (drop i xs) (drop i vs) ≡ env
no_under word env xs vs i past = rw (under_end word xs vs i past) (append-nil env)

-- what holds of a list made item by item
pub map_more : {X Y : Type 0} (f : X → Y) (xs : List X) (i : ℕ) (x : X) → i < length xs → x ≡ get_or xs i x → map f (take i xs) ++ f x ∷ [] ≡ map f (take (i + 1) xs)
map_more f xs i x lt is = sym (ap (map f) (take_more xs i x lt) ∙ map-append f (take i xs) (get_or xs i x ∷ []) ∙ ap (λ y. map f (take i xs) ++ f y ∷ []) (sym is))

-- emitted values
joined : (values : List Value) (v : Value) (o : Option (List Value)) → option_map (λ vs. values ++ vs) (option_map (λ vs. v ∷ vs) o) ≡ option_map (λ vs. (values ++ v ∷ []) ++ vs) o
joined values v None = refl
joined values v (Some vs) = ap Some (sym (append_assoc values (v ∷ []) vs))

pub first_values : (o : Option (List Value)) → o ≡ option_map (λ vs. [] ++ vs) o
first_values None = refl
first_values (Some vs) = refl

pub more_values : (env : Bindings) (binds : List Bind) (values : List Value) (i : ℕ) (b : Bind) (v : Value) → i < length binds → b ≡ get_or binds i b → Some v ≡ value_of env (expression_of b.value)
    → option_map (λ vs. values ++ vs) (bound_values env (drop i binds)) ≡ option_map (λ vs. (values ++ v ∷ []) ++ vs) (bound_values env (drop (i + 1) binds))
unfolding bound_values
more_values env binds values i b v lt is e =
    ap (λ bs. option_map (λ vs. values ++ vs) (bound_values env bs)) (next_item binds i b lt is)
    ∙ ap (λ o. option_map (λ vs. values ++ vs) (option_and_then (λ w. option_map (λ vs. w ∷ vs) (bound_values env (drop (i + 1) binds))) o)) (sym e)
    ∙ joined values v (bound_values env (drop (i + 1) binds))

pub stuck_value : (env : Bindings) (binds : List Bind) (values : List Value) (i : ℕ) (b : Bind) → i < length binds → b ≡ get_or binds i b → None ≡ value_of env (expression_of b.value)
    → option_map (λ vs. values ++ vs) (bound_values env (drop i binds)) ≡ None
unfolding bound_values
stuck_value env binds values i b lt is e =
    ap (λ bs. option_map (λ vs. values ++ vs) (bound_values env bs)) (next_item binds i b lt is)
    ∙ ap (λ o. option_map (λ vs. values ++ vs) (option_and_then (λ w. option_map (λ vs. w ∷ vs) (bound_values env (drop (i + 1) binds))) o)) (sym e)

pub no_values : (env : Bindings) (binds : List Bind) (values : List Value) (i : ℕ) → length binds ≤ i → option_map (λ vs. values ++ vs) (bound_values env (drop i binds)) ≡ Some values
unfolding bound_values
no_values env binds values i past = ap (λ bs. option_map (λ vs. values ++ vs) (bound_values env bs)) (drop_all i binds past) ∙ ap Some (append-nil values)
