-- The grammar of the arguments.
use Rattle.std.specs.Prelude.{◌≡◌, ℕ, ◌≤◌, ◌<◌, ◌^◌, List, [], ◌∷◌, codes, decimal}
use Rattle.ql_app.specs.declared.words.Command.{Command}
use Rattle.ql_app.specs.declared.words.Command.TheVariants.{Holds, Proof, Classify, ClassifyWhy, Prove, Gen, Soak}
use Rattle.ql_app.specs.declared.words.PairCommand.{PairCommand}
use Rattle.ql_app.specs.declared.words.PairCommand.TheVariants.{Check, Verify, Run, Slim, Restart}
use Rattle.ql_reply.specs.Arguments.{IsFileName}
use Rattle.ql_running.specs.declared.form.Form.TheVariants.{Text, Json}

-- the arguments of a command on the file of a name
abbrev pub command_words : Command → List ℕ → List (List ℕ)
command_words Holds name = codes "holds" ∷ name ∷ []
command_words Proof name = codes "proof" ∷ name ∷ []
command_words Classify name = codes "classify" ∷ name ∷ []
command_words ClassifyWhy name = codes "classify" ∷ codes "--why" ∷ name ∷ []
command_words Prove name = codes "prove" ∷ name ∷ []
command_words (Gen number events) name = codes "gen" ∷ name ∷ decimal number ∷ decimal events ∷ []
command_words (Soak number) name = codes "soak" ∷ name ∷ decimal number ∷ []

-- the numbers of a command are in range
abbrev pub IsInRange : Command → Type 0
IsInRange (Gen number events) = (number < 2 ^ 31) × (events ≤ 4000)
IsInRange (Soak number) = number < 2 ^ 31
IsInRange _ = Unit {0}

-- the arguments of a command on the files of two names
abbrev pub pair_words : PairCommand → List ℕ → List ℕ → List (List ℕ)
pair_words Check name other = codes "check" ∷ name ∷ other ∷ []
pair_words Verify name other = codes "verify" ∷ name ∷ other ∷ []
pair_words (Run Text) name other = codes "run" ∷ name ∷ other ∷ []
pair_words (Run Json) name other = codes "run" ∷ codes "--json" ∷ name ∷ other ∷ []
pair_words Slim name other = codes "slim" ∷ name ∷ other ∷ []
pair_words (Restart replica cut) name other = codes "restart" ∷ name ∷ other ∷ decimal replica ∷ decimal cut ∷ []

-- and its numbers are in range
abbrev pub IsPairInRange : PairCommand → Type 0
IsPairInRange (Restart replica cut) = (replica ≤ 15) × (1 ≤ cut) × (cut ≤ 1000000)
IsPairInRange _ = Unit {0}

-- what can be asked for: a command on one file, or on two, by their names
pub data NamedRequest : Type 0 where
  OneFile : Command → List ℕ → NamedRequest
  TwoFiles : PairCommand → List ℕ → List ℕ → NamedRequest

-- the arguments ask for this
abbrev pub IsRequest : List (List ℕ) → NamedRequest → Type 0
IsRequest words (OneFile command name) = (words ≡ command_words command name) × IsInRange command × IsFileName name
IsRequest words (TwoFiles command name other) = (words ≡ pair_words command name other) × IsPairInRange command × IsFileName name × IsFileName other
