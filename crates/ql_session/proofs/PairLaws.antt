-- The list of a session and an object after one of the lists changed.
use Rattle.std.proofs.Common.{◌≡◌, ℕ, Bool, true, false, cond, ◌&&◌, nat_eq, List, Vec, [], Option, Some, refl, sym, ap, ◌∙◌}
use Rattle.std.specs.Global.{Global}
use Rattle.std.specs.Option.{option_map_or}
use Rattle.std.proofs.lemmas.Bool.{eqb-true}
use Rattle.indexmap.specs.IndexMap.{get, Updates}
use Rattle.ql_base.specs.declared.ids.ObjId.{ObjId}
use Rattle.ql_base.specs.declared.ids.SessId.{SessId}
use Rattle.ql_session.specs.declared.note.Note.{Note}
use Rattle.ql_session.specs.Index.{Pairs, is_by, pair_of, same_pair}

and_left : (a b : Bool) → (a && b) ≡ true → a ≡ true
and_left true b both = refl
and_left false b both = both

and_right : (a b : Bool) → (a && b) ≡ true → b ≡ true
and_right true b both = both
and_right false b both = cc

-- equal pairs have one list
same-key : {S : Type 0} (pairs : Pairs S) (p q : ℕ × ℕ) → same_pair p q ≡ true → get same_pair pairs q ≡ get same_pair pairs p
same-key pairs p q same =
    let first = eqb-true p.0 q.0 (and_left (nat_eq p.0 q.0) (nat_eq p.1 q.1) same) in
    let second = eqb-true p.1 q.1 (and_right (nat_eq p.0 q.0) (nat_eq p.1 q.1) same) in
    ap (λ (m : ℕ). get same_pair pairs (m, q.1)) (sym first) ∙ ap (λ (n : ℕ). get same_pair pairs (p.0, n)) (sym second)

-- the list for the session and the object of a note is what f makes of it
pub pair-changed : {S : Type 0} (f : List ℕ → List ℕ) (before after : Pairs S) (note : Note) (was : Option (Vec ℕ Global)) (row : Vec ℕ Global)
    → was ≡ get same_pair before (note.session.0, note.object.0) → Updates same_pair before after (note.session.0, note.object.0) (Some row)
    → row.items ≡ f (option_map_or (λ (v : Vec ℕ Global). v.items) was []) → (s : SessId) (o : ObjId)
    → pair_of after s o ≡ cond (is_by s o note) (f (pair_of before s o)) (pair_of before s o)
pair-changed f before after note was row is updates made s o =
    ap list (updates.0 (s.0, o.0)) ∙ by (is_by s o note) refl
  where
    list : Option (Vec ℕ Global) → List ℕ
    list kept = option_map_or (λ (v : Vec ℕ Global). v.items) kept []

    by : (b : Bool) → is_by s o note ≡ b → list (cond b (Some row) (get same_pair before (s.0, o.0))) ≡ cond b (f (pair_of before s o)) (pair_of before s o)
    by true same = made ∙ ap (λ (kept : Option (Vec ℕ Global)). f (list kept)) (is ∙ sym (same-key before (note.session.0, note.object.0) (s.0, o.0) same))
    by false other = refl

-- each list is as it was
pub pair-kept : {S : Type 0} (before after : Pairs S) (note : Note) (was : Option (Vec ℕ Global)) (row : Vec ℕ Global)
    → was ≡ get same_pair before (note.session.0, note.object.0) → Updates same_pair before after (note.session.0, note.object.0) (Some row)
    → row.items ≡ option_map_or (λ (v : Vec ℕ Global). v.items) was [] → (s : SessId) (o : ObjId) → pair_of after s o ≡ pair_of before s o
pair-kept before after note was row is updates same s o =
    pair-changed (λ list. list) before after note was row is updates same s o ∙ either (is_by s o note) (pair_of before s o)
  where
    either : (b : Bool) (list : List ℕ) → cond b list list ≡ list
    either true list = refl
    either false list = refl
