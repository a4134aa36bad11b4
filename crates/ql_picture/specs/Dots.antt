-- The dots of effects.
use Rattle.std.specs.Prelude.{ℕ, ◌≡◌, ◌%◌, if◌then◌else◌, List, map}
use Rattle.ql_history.specs.declared.seat.Seat.{Seat}
use Rattle.ql_picture.specs.Places.{point_of}
use Rattle.ql_picture.specs.declared.grid.Grid.{Grid}
use Rattle.ql_picture.specs.declared.kind.Kind.TheVariants.{Effect, StrongEffect}
use Rattle.ql_picture.specs.declared.kind.Style.{Style}
use Rattle.ql_picture.specs.declared.shape.Dot.{Dot}
use Rattle.ql_picture.specs.declared.shape.Point.{Point}

-- what is visible of a dot
pub record Seen : Type 0 where
  pub style : Style
  pub at : Point
  pub title : List ℕ

abbrev pub seen : Dot → Seen
seen dot = record { style = dot.style; at = dot.at; title = dot.title.items }

-- the style of an effect's dot, in the colour of its object, of which there are eight
abbrev pub dot_style : Seat → Style
dot_style seat = record { kind = (if seat.is_strong then StrongEffect else Effect); colour = seat.object % 8 }

-- an effect's dot: in the column of its event, in the row of its session at its replica, with its title
abbrev pub dot_of : Grid → Seat → Seen
dot_of grid seat = record { style = dot_style seat; at = point_of grid seat.spot; title = seat.title.items }

-- the dots are those of these effects, one for each, in order
abbrev pub AreDotsOf : Grid → List Seat → List Dot → Type 0
AreDotsOf grid seats dots = map seen dots ≡ map (dot_of grid) seats
