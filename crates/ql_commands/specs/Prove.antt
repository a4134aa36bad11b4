-- What `prove` says of a source.
use Rattle.std.specs.Prelude.{◌≡◌, ℕ, List}
use Rattle.std.specs.List.{AllZip}
use Rattle.ql_cert.specs.declared.cert.Section.{Section}
use Rattle.ql_cert.specs.declared.cert.SectionLevel.{SectionLevel}
use Rattle.ql_cert.specs.declared.cert.SectionLevel.TheVariants.{Op, Txn}
use Rattle.ql_cert.specs.CertFile.{cert_lines}
use Rattle.ql_classify.specs.Goals.{IsRefutedBy}
use Rattle.ql_classify.specs.Targets.{goals_at}
use Rattle.ql_ground.specs.declared.goal.Goal.{Goal}
use Rattle.ql_ground.specs.declared.goal.Goal.TheVariants.{OpAt, TxnAt}
use Rattle.ql_lang.specs.declared.program.Program.{Program}
use Rattle.ql_levels.specs.Lists.{LevelLists}
use Rattle.ql_lines.specs.Texts.{file_text}
use Rattle.ql_reply.specs.declared.status.Status.{Status}
use Rattle.ql_reply.specs.declared.status.Status.TheVariants.{Done, No, Bad}
use Rattle.ql_typing.specs.Names.{op_name, txn_name}
use Rattle.ql_commands.specs.Certificates.{SpellsCert}
use Rattle.ql_classify.specs.Least.{AreLevelsOf}
use Rattle.ql_commands.specs.Levels.{RefusalSays}
use Rattle.ql_commands.specs.Sources.{IsSourceOf, BadSourceSays}

-- the name of a goal's target, and its level
abbrev pub name_of : Program → Goal → List ℕ
name_of p (OpAt o level) = op_name p o.0
name_of p (TxnAt d level) = txn_name p d.0

abbrev pub level_of : Goal → SectionLevel
level_of (OpAt o level) = Op level
level_of (TxnAt d level) = Txn level

-- the section of a goal: its target's name, its level, and a refutation of its ground problem that the checker accepts
pub record IsSectionOf (p : Program) (g : Goal) (s : Section) : Type 0 where
  pub name : s.name ≡ name_of p g
  pub level : s.level ≡ level_of g
  pub refuted : IsRefutedBy p g s.refutation.lines

-- a certificate has a section for each target at its level, and is read as these sections again
pub record IsCertificateFor (p : Program) (levels : LevelLists) (text : List ℕ) : Type 0 where
  pub sections : List Section
  pub of_targets : AllZip (IsSectionOf p) (goals_at levels) sections
  pub printed : text ≡ file_text (cert_lines sections)
  pub spells : SpellsCert text sections

abbrev pub ProveSays : List ℕ → Status → List ℕ → Type 0
ProveSays bytes Done text = (p : Program) × IsSourceOf bytes p × (levels : LevelLists) × AreLevelsOf p levels × IsCertificateFor p levels text
ProveSays bytes No text = (p : Program) × IsSourceOf bytes p × RefusalSays p text
ProveSays bytes Bad text = BadSourceSays bytes text
ProveSays bytes _ text = ⊥
