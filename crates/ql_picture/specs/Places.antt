-- The coordinates of spots in a picture.
use Rattle.std.specs.Prelude.{ℕ, Bool, true, false, ◌==◌, ◌&&◌, Option, Some, None, slice_index, position}
use Rattle.std.specs.Option.{option_map_or}
use Rattle.ql_history.specs.declared.messages.Spot.{Spot}
use Rattle.ql_picture.specs.declared.grid.Grid.{Grid}
use Rattle.ql_picture.specs.declared.lanes.Lane.{Lane}
use Rattle.ql_picture.specs.declared.shape.Point.{Point}

abbrev pub same_session : Option ℕ → Option ℕ → Bool
same_session (Some a) (Some b) = a == b
same_session None None = true
same_session _ _ = false

-- the row of a session at a replica, or of a replica's own line
abbrev pub is_lane_of : Spot → Lane → Bool
is_lane_of spot lane = (lane.replica == spot.replica) && same_session lane.session spot.session

-- the x coordinate of a column, 0 where there is none
abbrev pub x_of : Grid → ℕ → ℕ
x_of grid column = slice_index grid.columns column

-- the y coordinate of the row of a spot, 0 where it has none
abbrev pub y_of : Grid → Spot → ℕ
y_of grid spot = option_map_or (slice_index grid.rows.items) (position (is_lane_of spot) grid.lanes.items) 0

abbrev pub point_of : Grid → Spot → Point
point_of grid spot = record { x = x_of grid spot.column; y = y_of grid spot }
