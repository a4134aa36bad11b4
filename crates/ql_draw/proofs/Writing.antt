-- What is drawn, and what is written.
use Rattle.std.proofs.Common.{◌≡◌, ℕ, List, Option, Some, None, Result, Ok, Err}
use Rattle.std.specs.Prelude.{IfOk}
use Rattle.std.specs.Global.{Vec}
use Rattle.ql_base.specs.declared.no_memory.NoMemory.{NoMemory}
use Rattle.ql_history.specs.declared.history.History.{History}
use Rattle.ql_picture.specs.Dots.{AreDotsOf}
use Rattle.ql_picture.specs.declared.grid.Grid.{Grid}
use Rattle.ql_picture.specs.Svg.{svg_text}
use Rattle.ql_picture.specs.declared.picture.Picture.{Picture}
use Rattle.ql_draw.specs.Outcomes.{IsDrawn, SaysPictureOf}
use Rattle.ql_draw.specs.Words.{PictureAsked}
use Rattle.ql_draw.specs.declared.sheet.TheConstants.{SHEET}
use Rattle.ql_reply.proofs.Replies.{no_usage}
use Rattle.ql_reply.specs.declared.status.Status.TheVariants.{WriteFault}

pub is_drawn : (history : History) (grid : Grid) (picture : Picture) (made : Result (Vec ℕ) NoMemory) → IfOk made (λ text. text.items ≡ svg_text SHEET.now picture)
    → AreDotsOf grid history.seats.items picture.dots.items → IfOk made (λ text. IsDrawn text.items)
is_drawn history grid picture (Ok text) svg dots = record { history = history; grid = grid; picture = picture; svg = svg; dots = dots }
is_drawn history grid picture (Err e) svg dots = tt

-- nothing is to be written with the status of a write fault
pub never : (held : List ℕ → Option (List ℕ)) (before after : List ℕ → ℕ) (a : Option PictureAsked) (text : List ℕ) → SaysPictureOf held before after a WriteFault text → ⊥
never held before after None text says = no_usage says.0
never held before after (Some a) text says = says
