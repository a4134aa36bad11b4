-- The classes of shapes that the style sheet has rules for.
use Rattle.std.specs.Prelude.{ℕ, List, ◌++◌, codes, decimal}
use Rattle.ql_picture.specs.declared.kind.Kind.{Kind}
use Rattle.ql_picture.specs.declared.kind.Kind.TheVariants.{Band, Wall, Replica, ReplicaName, Lane, LaneName, Move, Transaction, TransactionName, Message, Repeated, Lost, Cut, Sees, Unseen, Step, Joint, Asks, Sign, Stroke, Mark, Effect, StrongEffect, Number, Call, Answer, Refusal, Event, Axis, Ring, Board, Variable, Swatch, Object, Note}
use Rattle.ql_picture.specs.declared.kind.Style.{Style}

abbrev pub kind_text : Kind → List ℕ
kind_text Band = codes "band"
kind_text Wall = codes "wall"
kind_text Replica = codes "replica"
kind_text ReplicaName = codes "replica-name"
kind_text Lane = codes "lane"
kind_text LaneName = codes "lane-name"
kind_text Move = codes "move"
kind_text Transaction = codes "transaction"
kind_text TransactionName = codes "transaction-name"
kind_text Message = codes "message"
kind_text Repeated = codes "repeated"
kind_text Lost = codes "lost"
kind_text Cut = codes "cut"
kind_text Sees = codes "sees"
kind_text Unseen = codes "unseen"
kind_text Step = codes "step"
kind_text Joint = codes "joint"
kind_text Asks = codes "asks"
kind_text Sign = codes "sign"
kind_text Stroke = codes "stroke"
kind_text Mark = codes "mark"
kind_text Effect = codes "effect"
kind_text StrongEffect = codes "effect strong"
kind_text Number = codes "number"
kind_text Call = codes "call"
kind_text Answer = codes "answer"
kind_text Refusal = codes "refusal"
kind_text Event = codes "event"
kind_text Axis = codes "axis"
kind_text Ring = codes "ring"
kind_text Board = codes "board"
kind_text Variable = codes "variable"
kind_text Swatch = codes "swatch"
kind_text Object = codes "object"
kind_text Note = codes "note"

-- sees o3
abbrev pub style_text : Style → List ℕ
style_text style = kind_text style.kind ++ codes " o" ++ decimal style.colour
