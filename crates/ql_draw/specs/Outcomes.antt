-- What is written: for the arguments, what the shelf holds and counts, and a status.
use Rattle.std.specs.Prelude.{◌≡◌, ◌⊎◌, ℕ, ◌<◌, List, ◌++◌, length, Option, Some, None, IfSome, codes}
use Rattle.ql_history.specs.declared.fault.DrawnRule.{DrawnRule}
use Rattle.ql_history.specs.declared.fault.DrawnRule.TheVariants.{Unexpected, NotForward, TooMany, Range}
use Rattle.ql_history.specs.declared.history.History.{History}
use Rattle.ql_picture.specs.Dots.{AreDotsOf}
use Rattle.ql_picture.specs.declared.grid.Grid.{Grid}
use Rattle.ql_ports.specs.Faults.{Rose}
use Rattle.ql_picture.specs.Svg.{svg_text}
use Rattle.ql_picture.specs.declared.picture.Picture.{Picture}
use Rattle.ql_draw.specs.Words.{PictureAsked, picture_asked}
use Rattle.ql_draw.specs.declared.help.TheConstants.{HELP}
use Rattle.ql_draw.specs.declared.sheet.TheConstants.{SHEET}
use Rattle.ql_draw.specs.declared.drawing.Fault.{Fault}
use Rattle.ql_draw.specs.declared.drawing.Fault.TheVariants as fault
use Rattle.ql_reply.specs.Lines.{fault_line}
use Rattle.ql_reply.specs.declared.status.Status.{Status}
use Rattle.ql_reply.specs.declared.status.Status.TheVariants.{Done, No, Bad, ReadFault, WriteFault, Usage, TooLarge}

-- the text of a picture with a dot for each effect of a history, in its column and its row
pub record IsDrawn (text : List ℕ) : Type 0 where
  pub history : History
  pub grid : Grid
  pub picture : Picture
  pub svg : text ≡ svg_text SHEET.now picture
  pub dots : AreDotsOf grid history.seats.items picture.dots.items

abbrev pub rule_text : DrawnRule → List ℕ
rule_text Unexpected = codes "Unexpected"
rule_text NotForward = codes "NotForward"
rule_text TooMany = codes "TooMany"
rule_text Range = codes "Range"

-- the line that says why something can't be drawn
abbrev pub IsFaultText : Fault → List ℕ → Type 0
IsFaultText (fault.Run line rule) text = text ≡ fault_line (codes "execution") line (rule_text rule)
IsFaultText (fault.Schedule line rule) text = text ≡ fault_line (codes "schedule") line (rule_text rule)
IsFaultText fault.OtherRun text = text ≡ codes "bad schedule: it is another run's\n"
IsFaultText fault.NoMemory text = ⊥

-- what is written once the files are read
abbrev pub IsPictureAnswer : Status → List ℕ → Type 0
IsPictureAnswer Done text = IsDrawn text
IsPictureAnswer Bad text = (fault : Fault) × IsFaultText fault text
IsPictureAnswer _ text = ⊥

-- this is the name of a file of the request
abbrev pub IsPictureFile : PictureAsked → List ℕ → Type 0
IsPictureFile a name = (name ≡ a.file) ⊎ (a.schedule ≡ Some name)

-- a file that couldn't be read
abbrev pub PictureUnread : (List ℕ → ℕ) → (List ℕ → ℕ) → PictureAsked → List ℕ → Type 0
PictureUnread before after a text = (name : List ℕ) × IsPictureFile a name × Rose (before name) (after name) × (text ≡ codes "read fault " ++ name ++ codes "\n")

-- a file with more bytes than its limit, 67,108,864 for a run's and 1,048,576 for a schedule's
abbrev pub limit_of : PictureAsked → List ℕ → ℕ → Type 0
limit_of a name limit = ((name ≡ a.file) × (limit ≡ 67108864)) ⊎ ((a.schedule ≡ Some name) × (limit ≡ 1048576))

abbrev pub PictureTooLarge : (List ℕ → Option (List ℕ)) → PictureAsked → List ℕ → Type 0
PictureTooLarge held a text =
    (name : List ℕ) × (limit : ℕ) × limit_of a name limit × IfSome (held name) (λ bytes. limit < length bytes) × (text ≡ codes "too large " ++ name ++ codes "\n")

-- what is written for a request
abbrev pub ReportsPicture : (List ℕ → Option (List ℕ)) → (List ℕ → ℕ) → (List ℕ → ℕ) → PictureAsked → Status → List ℕ → Type 0
ReportsPicture held before after a Done text = IsDrawn text
ReportsPicture held before after a No text = ⊥
ReportsPicture held before after a Bad text = (fault : Fault) × IsFaultText fault text
ReportsPicture held before after a ReadFault text = PictureUnread before after a text
ReportsPicture held before after a TooLarge text = PictureTooLarge held a text
ReportsPicture held before after a WriteFault text = ⊥
ReportsPicture held before after a Usage text = ⊥

-- The text to be written with a status. `held` is what the shelf holds under each name, where it reports it, and the
-- counts are those of its faults at each name, before and after the call.
abbrev pub SaysPictureOf : (List ℕ → Option (List ℕ)) → (List ℕ → ℕ) → (List ℕ → ℕ) → Option PictureAsked → Status → List ℕ → Type 0
SaysPictureOf held before after None status text = (status ≡ Usage) × (text ≡ HELP.now)
SaysPictureOf held before after (Some a) status text = ReportsPicture held before after a status text

abbrev pub SaysPicture : List (List ℕ) → (List ℕ → Option (List ℕ)) → (List ℕ → ℕ) → (List ℕ → ℕ) → Status → List ℕ → Type 0
SaysPicture words held before after status text = SaysPictureOf held before after (picture_asked words) status text
