-- The notes of an execution: one for each effect, in their order.
use Rattle.std.specs.Prelude.{ℕ, suc, List, [], ◌∷◌}
use Rattle.ql_exec.specs.declared.effect.Effect.{Effect}
use Rattle.ql_session.specs.declared.note.Note.{Note}

-- the note of the effect with this id
abbrev pub note_of : ℕ → Effect → Note
note_of id e = record { session = e.session; object = e.object; effect = record { 0 = id }; stamp = e.stamp }

-- the notes of effects that come after this many others
abbrev pub notes_after : ℕ → List Effect → List Note
notes_after k [] = []
notes_after k (e ∷ x) = note_of (suc k) e ∷ notes_after (suc k) x

abbrev pub notes_of : List Effect → List Note
notes_of x = notes_after 0 x
