-- The lists by session and object, by object and by session that are kept for some notes.
use Rattle.std.specs.Prelude.{◌≡◌, ℕ, Bool, ◌&&◌, nat_eq, if◌then◌else◌, List, [], ◌∷◌, ◌++◌, Vec}
use Rattle.std.specs.Global.{Global}
use Rattle.std.specs.Option.{option_map_or}
use Rattle.indexmap.specs.IndexMap.{IndexMap, get}
use Rattle.ql_base.specs.declared.ids.ObjId.{ObjId}
use Rattle.ql_base.specs.declared.ids.SessId.{SessId}
use Rattle.ql_session.specs.declared.note.Note.{Note}
use Rattle.ql_session.specs.Notes.{effects_by, effects_on, stamps_of}
use Rattle.ql_session.specs.Rows.{all_but_last, row_at}

-- lists by session and object
abbrev pub Pairs : Type 0 → Type 0
Pairs S = IndexMap (ℕ × ℕ) (Vec ℕ Global) S

-- the same session and the same object
abbrev pub same_pair : ℕ × ℕ → ℕ × ℕ → Bool
same_pair p q = nat_eq p.0 q.0 && nat_eq p.1 q.1

-- the list of a session and an object, empty if none is kept
abbrev pub pair_of : {S : Type 0} → Pairs S → SessId → ObjId → List ℕ
pair_of pairs s o = option_map_or (λ row. row.items) (get same_pair pairs (s.0, o.0)) []

-- a note is of a session and an object
abbrev pub is_by : SessId → ObjId → Note → Bool
is_by s o note = nat_eq note.session.0 s.0 && nat_eq note.object.0 o.0

-- the list for a note's session and object has its effect added at the end, and the others stay
abbrev pub IsPairPushed : {S : Type 0} → Pairs S → Pairs S → Note → Type 0
IsPairPushed before after note = (s : SessId) (o : ObjId) →
    pair_of after s o ≡ (if is_by s o note then pair_of before s o ++ note.effect.0 ∷ [] else pair_of before s o)

-- the list for a note's session and object is without its last effect, and the others stay
abbrev pub IsPairPopped : {S : Type 0} → Pairs S → Pairs S → Note → Type 0
IsPairPopped before after note = (s : SessId) (o : ObjId) →
    pair_of after s o ≡ (if is_by s o note then all_but_last (pair_of before s o) else pair_of before s o)

-- the lists are the same
abbrev pub ArePairsSame : {S : Type 0} → Pairs S → Pairs S → Type 0
ArePairsSame before after = (s : SessId) (o : ObjId) → pair_of after s o ≡ pair_of before s o

pub record AreIndexed {S : Type 0} (notes : List Note) (pairs : Pairs S) (objects stamps : List (List ℕ)) : Type 0 where
  pub by_pair : (s : SessId) (o : ObjId) → pair_of pairs s o ≡ effects_by notes s o
  pub by_object : (o : ObjId) → row_at objects o.0 ≡ effects_on notes o
  pub by_session : (s : SessId) → row_at stamps s.0 ≡ stamps_of notes s
