-- What may be printed: for the arguments, the bytes of the files that they name and a status.
use Rattle.std.specs.Prelude.{◌≡◌, ◌⊎◌, ℕ, ◌<◌, ◌≤◌, List, ◌++◌, length, Option, Some, Result, Ok, Err, IfSome, codes}
use Rattle.ql_base.specs.declared.no_memory.NoMemory.{NoMemory}
use Rattle.ql_ports.specs.Faults.{Rose}
use Rattle.ql_app.specs.declared.outcome.Limits.{Limits}
use Rattle.ql_reply.specs.Read.{IsRead}
use Rattle.ql_reply.specs.declared.status.Status.{Status}
use Rattle.ql_reply.specs.declared.status.Status.TheVariants.{Done, No, Bad, ReadFault, WriteFault, Usage, TooLarge}
use Rattle.ql_app.specs.declared.words.Command.{Command}
use Rattle.ql_app.specs.declared.words.Command.TheVariants.{Holds, Proof, Classify, ClassifyWhy, Prove, Gen, Soak}
use Rattle.ql_app.specs.declared.words.PairCommand.{PairCommand}
use Rattle.ql_app.specs.declared.words.PairCommand.TheVariants.{Check, Verify, Run, Slim, Restart}
use Rattle.ql_app.specs.Words.{NamedRequest, OneFile, TwoFiles, IsRequest}
use Rattle.ql_app.specs.HoldsFile as holds
use Rattle.ql_app.specs.HoldsFile.{HoldsSays}
use Rattle.ql_app.specs.ProofFile.{ProofSays, IsProofText}
use Rattle.ql_commands.specs.Certificates.{IsCertificate}
use Rattle.ql_commands.specs.Check.{CheckSays}
use Rattle.ql_commands.specs.Classify.{ClassifySays}
use Rattle.ql_commands.specs.Prove.{ProveSays}
use Rattle.ql_commands.specs.Sources.{IsSource}
use Rattle.ql_generated.specs.Schedules.{GenSays}
use Rattle.ql_generated.specs.Soaks.{SoakSays}
use Rattle.ql_judging.specs.Verify.{AreJudgeable, VerifySays}
use Rattle.ql_restart.specs.Restarts.{RestartSays}
use Rattle.ql_running.specs.Forms.{format_of}
use Rattle.ql_running.specs.Runs.{AreRunnable, RunSays}
use Rattle.ql_slimming.specs.Slims.{SlimSays}
use Rattle.ql_why.specs.Why.{WhySays}

-- what a command says of its file's bytes
abbrev pub CommandSays : Command → List ℕ → Status → List ℕ → Type 0
CommandSays Holds bytes status text = HoldsSays bytes status text
CommandSays Proof bytes status text = ProofSays bytes status text
CommandSays Classify bytes status text = ClassifySays bytes status text
CommandSays ClassifyWhy bytes status text = WhySays bytes status text
CommandSays Prove bytes status text = ProveSays bytes status text
CommandSays (Gen number events) bytes status text = GenSays bytes number events status text
CommandSays (Soak number) bytes status text = SoakSays bytes number status text

-- and of the bytes of two files
abbrev pub PairSays : PairCommand → List ℕ → List ℕ → Status → List ℕ → Type 0
PairSays Check bytes more status text = CheckSays bytes more status text
PairSays Verify bytes more status text = VerifySays bytes more status text
PairSays (Run form) bytes more status text = RunSays (format_of form) bytes more status text
PairSays Slim bytes more status text = SlimSays bytes more status text
PairSays (Restart replica cut) bytes more status text = RestartSays bytes more replica cut status text

-- the bytes are in the grammar of the command's files, and don't ask for too much work
abbrev pub IsAnswerable : Command → List ℕ → Type 0
IsAnswerable Holds bytes = holds.IsAnswerableHolds bytes
IsAnswerable Proof bytes = IsProofText bytes
IsAnswerable Classify bytes = IsSource bytes
IsAnswerable ClassifyWhy bytes = IsSource bytes
IsAnswerable Prove bytes = IsSource bytes
IsAnswerable (Gen number events) bytes = IsSource bytes
IsAnswerable (Soak number) bytes = IsSource bytes

-- and those of two files
abbrev pub AreAnswerable : PairCommand → List ℕ → List ℕ → Type 0
AreAnswerable Check bytes more = IsSource bytes × IsCertificate more
AreAnswerable Verify bytes more = AreJudgeable bytes more
AreAnswerable (Run form) bytes more = AreRunnable bytes more
AreAnswerable Slim bytes more = AreRunnable bytes more
AreAnswerable (Restart replica cut) bytes more = AreRunnable bytes more

-- the limit of the second file: certificates and executions may be longer than schedules
abbrev pub second_limit : Limits → PairCommand → ℕ
second_limit limits Check = limits.second
second_limit limits Verify = limits.second
second_limit limits (Run form) = limits.file
second_limit limits Slim = limits.file
second_limit limits (Restart replica cut) = limits.file

-- the files were read whole, in the order of the arguments, and this is said of them
abbrev pub Judges : Limits → (List ℕ → Option (List ℕ)) → NamedRequest → Status → List ℕ → Type 0
Judges limits held (OneFile command name) status text = IsRead limits.file (held name) (λ bytes. CommandSays command bytes status text)
Judges limits held (TwoFiles command name other) status text =
    IsRead limits.file (held name) (λ bytes. IsRead (second_limit limits command) (held other) (λ more. PairSays command bytes more status text))

-- a file couldn't be read
abbrev pub FailsToRead : (List ℕ → ℕ) → (List ℕ → ℕ) → List ℕ → List ℕ → Type 0
FailsToRead before after name text = Rose (before name) (after name) × (text ≡ codes "read fault " ++ name ++ codes "\n")

-- the first file that couldn't be read, after those that were
abbrev pub MeetsFault : Limits → (List ℕ → Option (List ℕ)) → (List ℕ → ℕ) → (List ℕ → ℕ) → NamedRequest → List ℕ → Type 0
MeetsFault limits held before after (OneFile command name) text = FailsToRead before after name text
MeetsFault limits held before after (TwoFiles command name other) text =
    FailsToRead before after name text ⊎ (IsRead limits.file (held name) (λ _. Unit {0}) × FailsToRead before after other text)

-- a file has more bytes than its limit, where its shelf reports them
abbrev pub IsOver : ℕ → (List ℕ → Option (List ℕ)) → List ℕ → List ℕ → Type 0
IsOver limit held name text = IfSome (held name) (λ bytes. limit < length bytes) × (text ≡ codes "too large " ++ name ++ codes "\n")

abbrev pub MeetsLimit : Limits → (List ℕ → Option (List ℕ)) → NamedRequest → List ℕ → Type 0
MeetsLimit limits held (OneFile command name) text = IsOver limits.file held name text
MeetsLimit limits held (TwoFiles command name other) text =
    IsOver limits.file held name text ⊎ (IsRead limits.file (held name) (λ _. Unit {0}) × IsOver (second_limit limits command) held other text)

-- what is said of a call
abbrev pub RequestSays : Limits → (List ℕ → Option (List ℕ)) → (List ℕ → ℕ) → (List ℕ → ℕ) → NamedRequest → Status → List ℕ → Type 0
RequestSays limits held before after named Done text = Judges limits held named Done text
RequestSays limits held before after named No text = Judges limits held named No text
RequestSays limits held before after named Bad text = Judges limits held named Bad text
RequestSays limits held before after named ReadFault text = MeetsFault limits held before after named text
RequestSays limits held before after named WriteFault text = ⊥
RequestSays limits held before after named Usage text = ⊥
RequestSays limits held before after named TooLarge text = Judges limits held named TooLarge text ⊎ MeetsLimit limits held named text

-- the arguments ask for something, of which this is said
abbrev pub ForRequest : List (List ℕ) → (NamedRequest → Type 0) → Type 0
ForRequest words P = (named : NamedRequest) × IsRequest words named × P named

-- The text that is to be written with a status. `held` is what the shelf holds under each name, where it reports it, and the
-- counts are those of the shelf's faults at each name, before the call and after it.
abbrev pub Says : Limits → List (List ℕ) → (List ℕ → Option (List ℕ)) → (List ℕ → ℕ) → (List ℕ → ℕ) → Status → List ℕ → Type 0
Says limits words held before after status text =
    ForRequest words (λ named. RequestSays limits held before after named status text)
    ⊎ ((status ≡ Usage) × (ForRequest words (λ _. Unit {0}) → ⊥) × (text ≡ codes "usage\n"))

-- the files are held whole, within their limits and in their grammars
abbrev pub IsHeld : ℕ → Option (List ℕ) → (List ℕ → Type 0) → Type 0
IsHeld limit held P = (bytes : List ℕ) × (held ≡ Some bytes) × (length bytes ≤ limit) × P bytes

abbrev pub AreHeld : Limits → (List ℕ → Option (List ℕ)) → NamedRequest → Type 0
AreHeld limits held (OneFile command name) = IsHeld limits.file (held name) (IsAnswerable command)
AreHeld limits held (TwoFiles command name other) =
    IsHeld limits.file (held name) (λ bytes. IsHeld (second_limit limits command) (held other) (λ more. AreAnswerable command bytes more))

-- no file's count rose
abbrev pub NoneRose : (List ℕ → ℕ) → (List ℕ → ℕ) → NamedRequest → Type 0
NoneRose before after (OneFile command name) = Rose (before name) (after name) → ⊥
NoneRose before after (TwoFiles command name other) = (Rose (before name) (after name) → ⊥) × (Rose (before other) (after other) → ⊥)

-- yes, no, or running out of memory
abbrev pub IsAnswered : Result Status NoMemory → Type 0
IsAnswered (Ok Done) = Unit {0}
IsAnswered (Ok No) = Unit {0}
IsAnswered (Err error) = Unit {0}
IsAnswered (Ok Bad) = ⊥
IsAnswered (Ok ReadFault) = ⊥
IsAnswered (Ok WriteFault) = ⊥
IsAnswered (Ok Usage) = ⊥
IsAnswered (Ok TooLarge) = ⊥
