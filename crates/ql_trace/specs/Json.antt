-- Parts of a JSON value.
use Rattle.std.specs.Prelude.{ℕ, List, [], ◌∷◌, Option, None, Some, option_map, option_and_then, nat_lt, if◌then◌else◌, decimal}
use Rattle.serde_json.specs.Data.{Data, Items, no_items, item, Members, no_members, member}
use Rattle.serde_json.specs.Find.{as_array, as_number, as_str, as_u64}

abbrev pub items_in : Items → List Data
items_in no_items = []
items_in (item d ds) = d ∷ items_in ds

abbrev pub members_in : Members → List (List ℕ × Data)
members_in no_members = []
members_in (member k d ms) = (k, d) ∷ members_in ms

-- the items of a list
abbrev pub as_items : Data → Option (List Data)
as_items d = option_map items_in (as_array d)

-- the two items of a list of two
abbrev pub pair_in : List Data → Option (Data × Data)
pair_in (a ∷ b ∷ []) = Some (a, b)
pair_in _ = None

abbrev pub as_pair : Data → Option (Data × Data)
as_pair d = option_and_then pair_in (as_items d)

-- a number below 2^53
abbrev pub if_small : ℕ → Option ℕ
if_small n = if nat_lt n 9007199254740992 then Some n else None

-- an integer from 0 below 2^53
abbrev pub as_count : Data → Option ℕ
as_count d = option_and_then if_small (option_and_then as_u64 (as_number d))

abbrev pub id_of_text : Option (List ℕ) → Data → Option (List ℕ)
id_of_text (Some text) d = Some text
id_of_text None d = option_map decimal (as_count d)

-- an ID: a text, or such an integer, which stands for its decimal
abbrev pub as_id : Data → Option (List ℕ)
as_id d = id_of_text (as_str d) d
