-- What the commands on levels say of a source, in the store's executions.
use Rattle.std.specs.Prelude.{◌≡◌, ◌≢◌, ℕ, suc, List, [], ◌∷◌, ◌++◌}
use Rattle.ql_cert.specs.declared.cert.Section.{Section}
use Rattle.ql_classify.specs.Least.{AreLeast, TopFails}
use Rattle.ql_classify.specs.declared.classless.Classless.{Classless}
use Rattle.ql_lang.specs.declared.program.Program.{Program}
use Rattle.ql_levels.specs.Lists.{LevelLists}
use Rattle.ql_refute.specs.declared.verdict.Verdict.{Verdict}
use Rattle.ql_refute.specs.declared.verdict.Verdict.TheVariants.{Accepted}
use Rattle.ql_report.specs.Levels.{levels_text}
use Rattle.ql_reply.specs.declared.status.Status.{Status}
use Rattle.ql_reply.specs.declared.status.Status.TheVariants.{Done, No}
use Rattle.ql_commands.specs.Certificates.{SpellsCert}
use Rattle.ql_commands.specs.Check.{AreExpected, goal_of, section_text, verdict_text}
use Rattle.ql_commands.specs.Levels.{refusal_text}
use Rattle.ql_commands.specs.Sources.{IsSourceOf}
use Rattle.ql_implication.specs.OfPrograms.{GivesContract}

-- the text reports the least levels of the source
abbrev pub ReportsLeast : List ℕ → List ℕ → Type 0
ReportsLeast source text = (p : Program) × IsSourceOf source p × (levels : LevelLists) × AreLeast p levels × (text ≡ levels_text p levels)

-- the text says why the source's program has no levels: where no level is enough for a target, its highest fails in some execution
abbrev pub ReportsNone : List ℕ → List ℕ → Type 0
ReportsNone source text = (p : Program) × IsSourceOf source p × (e : Classless) × TopFails p e × (text ≡ refusal_text p e)

-- the sections from an index on, each with a level that guarantees the contract of the target of its index
abbrev pub EachGives : Program → ℕ → List Section → Type 0
EachGives p place [] = Unit {0}
EachGives p place (s ∷ ss) = GivesContract p (goal_of p place s) × EachGives p (suc place) ss

-- a line for each section, which ends in `accepted`
unfoldable pub accepted_lines : List Section → List ℕ
accepted_lines [] = []
accepted_lines (s ∷ ss) = section_text s ++ verdict_text Accepted ++ accepted_lines ss

-- what stands after the accepted lines: nothing where no section is left and the answer is yes, and else the line of
-- the next section, with another verdict
abbrev pub EndsWith : List Section → Status → List ℕ → Type 0
EndsWith [] Done end = end ≡ []
EndsWith (s ∷ ss) No end = (v : Verdict) × (v ≢ Accepted) × (end ≡ section_text s ++ verdict_text v)
EndsWith _ _ end = ⊥

-- The text has a line for each of the first sections from an index on, whose levels guarantee their contracts, and then an end.
pub record AcceptsPrefix (p : Program) (place : ℕ) (ss : List Section) (status : Status) (text : List ℕ) : Type 0 where
  pub prefix : List Section
  pub others : List Section
  pub end : List ℕ
  pub sections : ss ≡ prefix ++ others
  pub lines : text ≡ accepted_lines prefix ++ end
  pub each : EachGives p place prefix
  pub ends : EndsWith others status end

-- The certificate has the sections that are expected of the source's program, and the text is as above: each line that ends in
-- `accepted` states an implication that is valid in the store's executions.
abbrev pub ReportsAccepted : List ℕ → List ℕ → Status → List ℕ → Type 0
ReportsAccepted source cert status text =
    (p : Program) × IsSourceOf source p × (ss : List Section) × SpellsCert cert ss × AreExpected p ss × AcceptsPrefix p 0 ss status text
