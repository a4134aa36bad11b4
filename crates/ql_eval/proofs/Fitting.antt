-- What is well typed keeps states whose values have their fields' kinds.
use Rattle.std.proofs.Common.{◌≡◌, ◌<◌, ℕ, zero, suc, Bool, true, false, cond, List, [], ◌∷◌, ◌++◌, All, Option, None, Some, length, take, map, refl, sym, ap, ◌∙◌, subst, arith}
use Rattle.std.specs.List.{slice_get}
use Rattle.std.specs.Option.{option_and_then, option_map}
use Rattle.std.specs.Str.{bytes_eq}
use Rattle.std.proofs.lemmas.List.Elements.{All-head, All-tail}
use Rattle.std.proofs.lemmas.Slice.Eq.{bytes_eq-Decides}
use Rattle.ql_lang.specs.declared.operation.Kind.{Kind}
use Rattle.ql_lang.specs.declared.operation.Kind.TheVariants as kind
use Rattle.ql_lang.specs.declared.operation.Stmt.{Stmt}
use Rattle.ql_lang.specs.declared.operation.EmitDecl.{EmitDecl}
use Rattle.ql_lang.specs.declared.operation.OpDecl.{OpDecl}
use Rattle.ql_lang.specs.declared.program.Field.{Field}
use Rattle.ql_lang.specs.declared.program.InitNode.{InitNode}
use Rattle.ql_lang.specs.declared.program.InitNode.TheVariants as init
use Rattle.ql_lang.specs.declared.program.TypeDecl.{TypeDecl}
use Rattle.ql_lang.specs.declared.program.Program.{Program}
use Rattle.ql_lang.specs.Expressions.{expression_of}
use Rattle.ql_lang.specs.Trees.{sentence_of}
use Rattle.ql_typing.specs.declared.fault.TypeFault.TheVariants as fault
use Rattle.ql_typing.specs.declared.scope.Known.{Known}
use Rattle.ql_typing.specs.Faults.{each, names_met, repeats}
use Rattle.ql_typing.specs.ContractFaults.{contract_faults}
use Rattle.ql_typing.specs.Kinds.{faults_as, kind_in, reading_faults}
use Rattle.ql_typing.specs.Operations.{all_ops, op_kinds, op_words}
use Rattle.ql_typing.specs.Programs.{above, bind_faults, bind_names, binds_known, effect_faults, field_names, fields_known, init_faults, may_begin, maybe_effect_faults, op_decl_faults, param_names, params_known, places, program_faults, stmt_faults, target_names, type_faults}
use Rattle.ql_typing.proofs.Parts.{left_none, right_none, reported_true}
use Rattle.ql_typing.proofs.FaultFree.{type_typed}
use Rattle.ql_typing.proofs.Flat.{length-kinds}
use Rattle.ql_typing.proofs.InTypes.{op_fault_free}
use Rattle.ql_value.specs.declared.value.Value.{Value}
use Rattle.ql_value.specs.declared.value.Value.TheVariants.{Unit as Nothing, Int as Number, Bool as Truth, Text}
use Rattle.ql_exec.specs.declared.effect.Effect.{Effect}
use Rattle.ql_exec.specs.declared.effect.Payload.{Payload}
use Rattle.ql_exec.specs.declared.effect.Payload.TheVariants.{Nothing as NoChange, Emitted}
use Rattle.ql_eval.specs.Able.{AreEmitted, AreFields, AreOfKinds, FitsOp, IsOfType, bind_kind, field_kind, type_of_op}
use Rattle.ql_eval.specs.Evaluation.{Bindings, text_of, value_of}
use Rattle.ql_eval.specs.Folds.{after_emit, after_op, after_payload, after_stmt, after_stmts, applied, assigned, begun, begun_value, bind_word, field_word, fold_of, folded, under, values_in}
use Rattle.ql_eval.specs.ValueKinds.{FitsName, FitsScope, HasKind, HasValue}
use Rattle.ql_eval.proofs.Accepted.{accepted}
use Rattle.ql_eval.proofs.NeverStuck.{same_kind_is}

-- a state that is there and fits
abbrev pub Fits : List Known → Option Bindings → Type 0
Fits scope None = ⊥
Fits scope (Some env) = FitsScope scope env

and_then_fits : (ks ls : List Known) (next : Bindings → Option Bindings) (o : Option Bindings) → Fits ks o → ((env : Bindings) → FitsScope ks env → Fits ls (next env)) → Fits ls (option_and_then next o)
and_then_fits ks ls next None f then = absurd f
and_then_fits ks ls next (Some env) f then = then env f

-- two scopes, one behind the other
pub together : (ks ls : List Known) (ps qs : Bindings) → FitsScope ks ps → FitsScope ls qs → FitsScope (ks ++ ls) (ps ++ qs)
together [] ls [] qs f g = g
together [] ls (p ∷ ps) qs f g = absurd f
together (k ∷ ks) ls [] qs f g = absurd f
together (k ∷ ks) ls (p ∷ ps) qs f g = (f.0, together ks ls ps qs f.1 g)

front : (ks ls : List Known) (state env : Bindings) → FitsScope ks state → FitsScope (ks ++ ls) env → FitsScope ks (take (length state) env)
front [] ls [] env f g = tt
front [] ls (s ∷ state) env f g = absurd f
front (k ∷ ks) ls [] env f g = absurd f
front (k ∷ ks) ls (s ∷ state) [] f g = absurd g
front (k ∷ ks) ls (s ∷ state) (p ∷ env) f g = (g.0, front ks ls state env f.1 g.1)

front_fits : (ks ls : List Known) (state : Bindings) (o : Option Bindings) → FitsScope ks state → Fits (ks ++ ls) o → Fits ks (option_map (λ env. take (length state) env) o)
front_fits ks ls state None f g = absurd g
front_fits ks ls state (Some env) f g = front ks ls state env f g

-- values of declared kinds under the declared names, and back
abbrev pub known_as : {X : Type 0} → (X → List ℕ) → (X → Kind) → X → Known
known_as word kind x = record { word = word x; kind = kind x }

pub under_fits : {X : Type 0} (word : X → List ℕ) (kind : X → Kind) (xs : List X) (vs : List Value) → AreOfKinds kind xs vs → FitsScope (map (known_as word kind) xs) (under word xs vs)
under_fits word kind [] [] h = tt
under_fits word kind [] (v ∷ vs) h = absurd h
under_fits word kind (x ∷ xs) [] h = absurd h
under_fits word kind (x ∷ xs) (v ∷ vs) h = (record { word = refl; value = h.0 }, under_fits word kind xs vs h.1)

values_fit : {X : Type 0} (word : X → List ℕ) (kind : X → Kind) (xs : List X) (ps : Bindings) → FitsScope (map (known_as word kind) xs) ps → AreOfKinds kind xs (values_in ps)
values_fit word kind [] [] h = tt
values_fit word kind [] (p ∷ ps) h = absurd h
values_fit word kind (x ∷ xs) [] h = absurd h
values_fit word kind (x ∷ xs) (p ∷ ps) h = (h.0.value, values_fit word kind xs ps h.1)

-- what fields begin with
begins : (k : Kind) (i : InitNode) → may_begin k i ≡ true → HasKind k (begun_value k i)
begins k (init.Int n) h = subst (λ j. HasKind j (Number n)) (same_kind_is kind.Int k h) tt
begins k (init.Text text) h = subst (λ j. HasKind j (Text (text_of text))) (same_kind_is kind.Text k h) tt
begins k (init.Bool b) h = subst (λ j. HasKind j (Truth b)) (same_kind_is kind.Bool k h) tt
begins k init.Unit h = subst (λ j. HasKind j Nothing) (same_kind_is kind.Unit k h) tt
begins (kind.Set b) init.Empty h = λ k d below. absurd (omega arith)
begins (kind.Map b c) init.Empty h = λ k d below. absurd (omega arith)
begins kind.Unit init.Empty h = cc
begins kind.Int init.Empty h = cc
begins kind.Bool init.Empty h = cc
begins kind.Text init.Empty h = cc

begun_fits : (fields : List Field) → each init_faults fields ≡ [] → FitsScope (fields_known fields) (begun fields)
unfolding each init_faults
begun_fits [] h = tt
begun_fits (f ∷ fs) h = (
  record { word = refl; value = begins f.kind f.init.node (reported_true (may_begin f.kind f.init.node) (fault.Kind f.init.at) (left_none _ _ h)) },
  begun_fits fs (right_none (init_faults f) _ h),
)

-- statements
assigned_at : (x : Known) (xs : List Known) (p : List ℕ × Value) (ps : Bindings) (w : List ℕ) (k : Kind) (v : Value) (b : Bool) → bytes_eq p.0 w ≡ b → FitsName x p → FitsScope xs ps
    → cond b (Some x.kind) (kind_in xs w) ≡ Some k → HasKind k v → (kind_in xs w ≡ Some k → FitsScope xs (assigned ps w v)) → FitsScope (x ∷ xs) (cond b ((w, v) ∷ ps) (p ∷ assigned ps w v))
assigned_at x xs p ps w k v true e f fs is h rest =
    let same : k ≡ x.kind = cc in
    (record { word = f.word ∙ (bytes_eq-Decides p.0 w).0 e; value = subst (λ j. HasKind j v) same h }, fs)
assigned_at x xs p ps w k v false e f fs is h rest = (f, rest is)

assigned_fits : (scope : List Known) (env : Bindings) (w : List ℕ) (k : Kind) (v : Value) → FitsScope scope env → kind_in scope w ≡ Some k → HasKind k v → FitsScope scope (assigned env w v)
unfolding kind_in assigned
assigned_fits [] [] w k v f is h = tt
assigned_fits [] (p ∷ ps) w k v f is h = absurd f
assigned_fits (x ∷ xs) [] w k v f is h = absurd f
assigned_fits (x ∷ xs) (p ∷ ps) w k v f is h =
    assigned_at x xs p ps w k v (bytes_eq p.0 w) refl f.0 f.1 (subst (λ u. cond (bytes_eq u w) (Some x.kind) (kind_in xs w) ≡ Some k) f.0.word is) h (λ e. assigned_fits xs ps w k v f.1 e h)

kind_in_front : (ks ls : List Known) (w : List ℕ) (k : Kind) → kind_in ks w ≡ Some k → kind_in (ks ++ ls) w ≡ Some k
unfolding kind_in
kind_in_front [] ls w k h = cc
kind_in_front (x ∷ ks) ls w k h = by (bytes_eq x.word w) h (kind_in_front ks ls w k)
  where
    by : (b : Bool) → cond b (Some x.kind) (kind_in ks w) ≡ Some k → (kind_in ks w ≡ Some k → kind_in (ks ++ ls) w ≡ Some k) → cond b (Some x.kind) (kind_in (ks ++ ls) w) ≡ Some k
    by true e rest = e
    by false e rest = rest e

reported_kind : (k : Option Kind) (at : ℕ) → reading_faults k at ≡ [] → (j : Kind) × (k ≡ Some j)
reported_kind (Some j) at h = (j, refl)
reported_kind None at h = let no : ⊥ = cc in absurd no

value_assigned : (scope : List Known) (env : Bindings) (w : List ℕ) (k : Kind) (v : Option Value) → FitsScope scope env → kind_in scope w ≡ Some k → HasValue (Some k) v → Fits scope (option_map (λ x. assigned env w x) v)
value_assigned scope env w k (Some v) f is h = assigned_fits scope env w k v f is h
value_assigned scope env w k None f is h = absurd h

stmt_fits : (fields more : List Known) (env : Bindings) (s : Stmt) → FitsScope (fields ++ more) env → stmt_faults fields (fields ++ more) s ≡ [] → Fits (fields ++ more) (after_stmt env s)
unfolding stmt_faults
stmt_fits fields more env s f h =
    let t = reported_kind (kind_in fields s.target.word) s.target.at (left_none _ _ h) in
    let typed : faults_as (fields ++ more) (Some t.0) (expression_of s.value) ≡ [] =
    subst (λ k. faults_as (fields ++ more) k (expression_of s.value) ≡ []) t.1 (right_none (reading_faults (kind_in fields s.target.word) s.target.at) _ h) in
    value_assigned (fields ++ more) env s.target.word t.0 (value_of env (expression_of s.value)) f (kind_in_front fields more s.target.word t.0 t.1) (accepted (expression_of s.value) (fields ++ more) env t.0 f typed)

stmts_fit : (fields more : List Known) (env : Bindings) (stmts : List Stmt) → FitsScope (fields ++ more) env → each (stmt_faults fields (fields ++ more)) stmts ≡ [] → Fits (fields ++ more) (after_stmts env stmts)
unfolding each after_stmts
stmts_fit fields more env [] f h = f
stmts_fit fields more env (s ∷ ss) f h =
    and_then_fits (fields ++ more) (fields ++ more) (λ n. after_stmts n ss) (after_stmt env s) (stmt_fits fields more env s f (left_none _ _ h)) (λ n g. stmts_fit fields more n ss g (right_none (stmt_faults fields (fields ++ more) s) _ h))

-- an operation's statements
emit_fits : (names : List (List ℕ)) (fields scope : List Known) (state : Bindings) (e : EmitDecl) (payload : List Value) → FitsScope fields state → effect_faults names fields scope e ≡ [] → AreOfKinds bind_kind e.binds payload
    → Fits fields (after_emit state e payload)
unfolding effect_faults
emit_fits names fields scope state e payload f h fits =
    let stmts : each (stmt_faults fields (fields ++ binds_known e.binds)) e.stmts ≡ [] =
    right_none (above 64 (places (target_names e.stmts))) _ (right_none (faults_as scope (Some kind.Bool) (expression_of e.test)) _ (right_none (each (bind_faults scope) e.binds) _ (right_none (above 4 (places (bind_names e.binds))) _ (right_none (repeats names (bind_names e.binds)) _ h)))) in
    front_fits fields (binds_known e.binds) state _ f (stmts_fit fields (binds_known e.binds) (state ++ under bind_word e.binds payload) e.stmts (together fields (binds_known e.binds) state (under bind_word e.binds payload) f (under_fits bind_word bind_kind e.binds payload fits)) stmts)

-- the parts of an operation without faults
module _ (known names : List (List ℕ)) (fields : List Known) (o : OpDecl) (h : op_decl_faults known names fields o ≡ []) where
  op_expressions : faults_as (fields ++ params_known o.params) (Some o.kind) (expression_of o.answer) ++ maybe_effect_faults names fields (fields ++ params_known o.params) o.effect ≡ []
  unfolding op_decl_faults
  op_expressions = right_none (contract_faults (Some known) false (sentence_of o.contract)) _ (right_none (above 8 (places (param_names o.params))) _ (right_none (repeats names (param_names o.params)) _ h))

  pub op_answer : faults_as (fields ++ params_known o.params) (Some o.kind) (expression_of o.answer) ≡ []
  op_answer = left_none _ _ op_expressions

  pub op_effect : maybe_effect_faults names fields (fields ++ params_known o.params) o.effect ≡ []
  op_effect = right_none (faults_as (fields ++ params_known o.params) (Some o.kind) (expression_of o.answer)) _ op_expressions

effect_after : (names : List (List ℕ)) (fields scope : List Known) (state : Bindings) (e : Option EmitDecl) (payload : List Value) → FitsScope fields state → maybe_effect_faults names fields scope e ≡ [] → AreEmitted e payload
    → Fits fields (option_and_then (λ x. after_emit state x payload) e)
effect_after names fields scope state None payload f h fits = absurd fits
effect_after names fields scope state (Some e) payload f h fits = emit_fits names fields scope state e payload f h fits

op_after : (known names : List (List ℕ)) (fields : List Known) (o : OpDecl) (state : Bindings) (payload : List Value) → FitsScope fields state → op_decl_faults known names fields o ≡ [] → AreEmitted o.effect payload
    → Fits fields (after_op (Some o) state payload)
op_after known names fields o state payload f h fits = effect_after names fields (fields ++ params_known o.params) state o.effect payload f (op_effect known names fields o h) fits

payload_after : (known names : List (List ℕ)) (fields : List Known) (ops : List OpDecl) (k : ℕ) (o : OpDecl) (state : Bindings) (p : Payload) → slice_get ops k ≡ Some o → FitsScope fields state → op_decl_faults known names fields o ≡ []
    → FitsOp (slice_get ops k) p → Fits fields (after_payload ops k state p)
payload_after known names fields ops k o state NoChange is f h fits = f
payload_after known names fields ops k o state (Emitted payload) is f h fits =
    subst (λ r. Fits fields (after_op r state payload)) (sym is) (op_after known names fields o state payload f h (subst (λ r. FitsOp r (Emitted payload)) is fits))

pub item_at : {X : Type 0} (xs : List X) (k : ℕ) → k < length xs → (x : X) × (slice_get xs k ≡ Some x)
item_at [] k lt = absurd (omega arith)
item_at (x ∷ xs) zero lt = (x, refl)
item_at (x ∷ xs) (suc k) lt = item_at xs k (omega arith)

-- folds over a program without faults
module _ (p : Program) (typed : program_faults p ≡ []) (k : ℕ) (t : TypeDecl) (declared : slice_get p.types k ≡ Some t) where
  -- an operation of the type has no faults there
  pub op_fine : (o : ℕ) (op : OpDecl) → slice_get (all_ops p.types) o ≡ Some op → slice_get (op_kinds p.types) o ≡ Some k → op_decl_faults (op_words p.types) (names_met [] (field_names t.fields)) (fields_known t.fields) op ≡ []
  op_fine o op is kind =
      let fine = op_fault_free p typed o k op is kind in
      let found = fine.declared in
      let same : fine.type ≡ t = cc in
      subst (λ u. op_decl_faults (op_words p.types) (names_met [] (field_names u.fields)) (fields_known u.fields) op ≡ []) same fine.no_faults

  effect_fits : (state : Bindings) (e : Effect) → FitsScope (fields_known t.fields) state → IsOfType p.types (Some k) e → Fits (fields_known t.fields) (after_payload (all_ops p.types) e.op.0 state e.payload)
  effect_fits state e f h =
      let o = item_at (all_ops p.types) e.op.0 h.within in
      payload_after (op_words p.types) (names_met [] (field_names t.fields)) (fields_known t.fields) (all_ops p.types) e.op.0 o.0 state e.payload o.1 f (op_fine e.op.0 o.0 o.1 h.type) h.payload

  folded_fits : (state : Bindings) (effects : List Effect) → FitsScope (fields_known t.fields) state → All (IsOfType p.types (Some k)) effects → Fits (fields_known t.fields) (folded (all_ops p.types) state effects)
  unfolding folded
  folded_fits state [] f h = f
  folded_fits state (e ∷ effects) f h =
      and_then_fits (fields_known t.fields) (fields_known t.fields) (λ next. folded (all_ops p.types) next effects) (after_payload (all_ops p.types) e.op.0 state e.payload)
      (effect_fits state e f (All-head (IsOfType p.types (Some k)) e effects h))
      (λ next g. folded_fits next effects g (All-tail (IsOfType p.types (Some k)) e effects h))

  begin_fits : FitsScope (fields_known t.fields) (begun t.fields)
  unfolding type_faults
  begin_fits = begun_fits t.fields (left_none _ _ (right_none (above 16 (map (λ f. f.at) t.fields)) _ (right_none (repeats [] (field_names t.fields)) _ (type_typed p typed k t declared))))

  pub fold_fits : (effects : List Effect) → All (IsOfType p.types (Some k)) effects → Fits (fields_known t.fields) (fold_of p.types k effects)
  fold_fits effects h =
      subst (λ r. Fits (fields_known t.fields) (option_and_then (λ u. folded (all_ops p.types) (begun u.fields) effects) r)) (sym declared) (folded_fits (begun t.fields) effects begin_fits h)

  -- an operation's statements over the values of a state
  pub applied_fits : (o : ℕ) (state payload : List Value) → o < length (all_ops p.types) → slice_get (op_kinds p.types) o ≡ Some k → AreOfKinds field_kind t.fields state → FitsOp (slice_get (all_ops p.types) o) (Emitted payload)
      → Fits (fields_known t.fields) (after_op (slice_get (all_ops p.types) o) (under field_word t.fields state) payload)
  applied_fits o state payload within kind fits emitted =
      let op = item_at (all_ops p.types) o within in
      payload_after (op_words p.types) (names_met [] (field_names t.fields)) (fields_known t.fields) (all_ops p.types) o op.0 (under field_word t.fields state) (Emitted payload) op.1
      (under_fits field_word field_kind t.fields state fits) (op_fine o op.0 op.1 kind) emitted

-- the values of a state that fits
pub values_of_state : (t : TypeDecl) (o : Option Bindings) → Fits (fields_known t.fields) o → (vs : List Value) × (option_map values_in o ≡ Some vs) × AreOfKinds field_kind t.fields vs
values_of_state t None f = absurd f
values_of_state t (Some env) f = (values_in env, refl, values_fit field_word field_kind t.fields env f)

applied_by : (types : List TypeDecl) (o : ℕ) (state payload : List Value) (k : ℕ) (t : TypeDecl) → slice_get (op_kinds types) o ≡ Some k → slice_get types k ≡ Some t
    → applied types o state payload ≡ option_map values_in (after_op (slice_get (all_ops types) o) (under field_word t.fields state) payload)
applied_by types o state payload k t is declared = rw (is, declared) refl

-- the values of a state are told, and have the kinds of a type's fields
pub record IsState (type : Option TypeDecl) (made : Option (List Value)) : Type 0 where
  pub values : List Value
  pub is : made ≡ Some values
  pub fits : AreFields type values

module _ (p : Program) (typed : program_faults p ≡ []) where
  pub fold_state : (k : ℕ) (effects : List Effect) → k < length p.types → All (IsOfType p.types (Some k)) effects → IsState (slice_get p.types k) (option_map values_in (fold_of p.types k effects))
  fold_state k effects within own =
      let t = item_at p.types k within in
      let made = values_of_state t.0 (fold_of p.types k effects) (fold_fits p typed k t.0 t.1 effects own) in
      record { values = made.0; is = made.1; fits = subst (λ r. AreFields r made.0) (sym t.1) made.2 }

  pub applied_state : (o : ℕ) (state payload : List Value) → o < length (all_ops p.types) → AreFields (type_of_op p.types o) state → FitsOp (slice_get (all_ops p.types) o) (Emitted payload)
      → IsState (type_of_op p.types o) (applied p.types o state payload)
  applied_state o state payload within fits emitted =
      let op = item_at (all_ops p.types) o within in
      let k = item_at (op_kinds p.types) o (subst (λ n. o < n) (sym (length-kinds 0 p.types)) within) in
      let fine = op_fault_free p typed o k.0 op.0 op.1 k.1 in
      let is : type_of_op p.types o ≡ Some fine.type = ap (option_and_then (slice_get p.types)) k.1 ∙ fine.declared in
      let made = values_of_state fine.type (after_op (slice_get (all_ops p.types) o) (under field_word fine.type.fields state) payload)
      (applied_fits p typed k.0 fine.type fine.declared o state payload within k.1 (subst (λ r. AreFields r state) is fits) emitted) in
      record { values = made.0; is = applied_by p.types o state payload k.0 fine.type k.1 fine.declared ∙ made.1; fits = subst (λ r. AreFields r made.0) (sym is) made.2 }
