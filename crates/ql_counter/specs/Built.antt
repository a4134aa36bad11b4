-- The execution that is built from a pattern's blocks.
use Rattle.std.specs.Prelude.{ℕ, suc, Bool, true, false, ◌&&◌, ◌==◌, if◌then◌else◌, List, [], ◌∷◌, ◌++◌, map, length}
use Rattle.std.specs.List.{slice_index_or}
use Rattle.ql_atoms.specs.declared.atoms.PairKind.TheVariants.{Vis, Hbo, Hb}
use Rattle.ql_value.specs.declared.value.Value.TheVariants as value
use Rattle.ql_exec.specs.declared.effect.Effect.{Effect}
use Rattle.ql_exec.specs.declared.effect.Draft.{Draft}
use Rattle.ql_exec.specs.declared.effect.Payload.TheVariants.{Nothing}
use Rattle.ql_exec.specs.Execution.{effect_of}
use Rattle.ql_counter.specs.declared.slot.Part.{Part}
use Rattle.ql_counter.specs.declared.slot.Part.TheVariants.{Opening, Aide, Own, Closing}
use Rattle.ql_counter.specs.declared.slot.Slot.{Slot}
use Rattle.ql_counter.specs.Patterns.{Pattern, least, leader, session_of, object_of}
use Rattle.ql_counter.specs.Blocks.{slot_of}

-- The second part, in c's block, sees the first, in b's: an own effect sees what is visible to it, an aide what happens
-- before it on its object, an opening the closings of what happens before it.
abbrev pub sees_as : Pattern → Part → Part → ℕ → ℕ → Bool
sees_as p Own Own b c = p.rel Vis b c
sees_as p Aide Own b c = p.rel Vis b c
sees_as p Own Aide b c = p.rel Hbo b c
sees_as p Aide Aide b c = p.rel Hbo b c
sees_as p Closing Opening b c = p.rel Hb b c
sees_as p _ _ b c = false

abbrev pub sees : Pattern → Slot → Slot → Bool
sees p s t = sees_as p s.part t.part s.block t.block

-- openings and closings are on an object of no constant, all of one operation
abbrev pub object_in : Pattern → Part → ℕ → ℕ
object_in p Own b = object_of p b
object_in p Aide b = object_of p b
object_in p Opening b = p.count
object_in p Closing b = p.count

abbrev pub op_in : Pattern → Part → ℕ → ℕ
op_in p Own b = p.op b
op_in p Aide b = p.op b
op_in p Opening b = p.op 0
op_in p Closing b = p.op 0

-- the numbers of the slots that pass the test, counted from k
abbrev pub places_from : ℕ → (Slot → Bool) → List Slot → List ℕ
places_from k test [] = []
places_from k test (s ∷ slots) = if test s then k ∷ places_from (suc k) test slots else places_from (suc k) test slots

abbrev pub draft_of : Pattern → List Slot → Slot → Draft
draft_of p slots t = record {
  object = record { 0 = object_in p t.part t.block };
  op = record { 0 = op_in p t.part t.block };
  args = [];
  payload = Nothing;
  answer = value.Unit;
  session = record { 0 = session_of p t.block };
  member = p.member t.block;
  seen = places_from 1 (λ s. sees p s t) slots;
}

-- the effects, and after them those of the drafts, each stamped after those before it
unfoldable pub stored_after : List Effect → List Draft → List Effect
stored_after x [] = x
stored_after x (d ∷ drafts) = stored_after (x ++ effect_of x d ∷ []) drafts

abbrev pub drafts_of : Pattern → List Slot → List Draft
drafts_of p slots = map (draft_of p slots) slots

abbrev pub built : Pattern → List Slot → List Effect
built p slots = stored_after [] (drafts_of p slots)

-- the own effect of a block
abbrev pub is_own_part : Part → Bool
is_own_part Own = true
is_own_part _ = false

abbrev pub is_own : ℕ → Slot → Bool
is_own b s = (s.block == b) && is_own_part s.part

-- the number of the effect that stands for a constant
abbrev pub constant_place : Pattern → List Slot → ℕ → ℕ
constant_place p slots c = suc (least (length slots) (λ k. is_own (leader p c) (slice_index_or slots k (slot_of 0 Own))))
