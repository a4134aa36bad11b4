-- What `explain` says of a source: of each target its least level or that none is enough, the strong operations that it
-- uses, warnings, and a countermodel of it at the next lower level, or at the highest.
use Rattle.std.specs.Prelude.{ℕ, ◌≡◌, ◌<◌, ◌⊎◌, true, List, [], ◌∷◌, ◌++◌, Option, None, Some, length, map, codes}
use Rattle.std.specs.List.{All, Contains}
use Rattle.ql_base.specs.IdLists.{IsAscending}
use Rattle.ql_base.specs.declared.ids.OpId.{OpId}
use Rattle.ql_classify.specs.Finding.{IsOfTarget}
use Rattle.ql_classify.specs.Targets.{IsLeastLevel, IsOpLevel, targets}
use Rattle.ql_classify.specs.declared.finding.Finding.{Finding}
use Rattle.ql_classify.specs.declared.finding.Unmet.{Unmet}
use Rattle.ql_classify.specs.declared.finding.Finding.TheVariants.{Least, NoLevel}
use Rattle.ql_reply.specs.declared.status.Status.{Status}
use Rattle.ql_reply.specs.declared.status.Status.TheVariants.{Done, No, Bad}
use Rattle.ql_commands.specs.Sources.{BadSourceSays, IsSourceOf}
use Rattle.ql_ground.specs.declared.goal.Goal.{Goal}
use Rattle.ql_ground.specs.declared.goal.Goal.TheVariants.{OpAt, TxnAt}
use Rattle.ql_lang.specs.declared.program.Program.{Program}
use Rattle.ql_levels.specs.declared.level.Level.TheVariants.{Strong}
use Rattle.ql_report.specs.Refusals.{strong_text}
use Rattle.ql_typing.specs.Operations.{all_ops, uses_op}
use Rattle.ql_typing.specs.Names.{op_name, txn_name}
use Rattle.ql_why.specs.Why.{InTurn, counter_text, target_line}
use Rattle.ql_counter.specs.Countermodels.{IsCounterOf}
use Rattle.ql_counter.specs.declared.counter.Counter.{Counter}
use Rattle.ql_warnings.specs.Texts.{warning_text}
use Rattle.ql_warnings.specs.Warnings.{AreFindings, AreWarnings, IsRuledOut}
use Rattle.ql_warnings.specs.declared.warning.Warning.{Warning}
use Rattle.ql_explanation.specs.declared.words.TheConstants.{LOWEST, STRONG_USE, WAY_OUT}

-- ---- what is found

-- the target of a finding, at its least level or at the highest
abbrev pub goal_of_finding : Finding → Goal
goal_of_finding (Least g below) = g
goal_of_finding (NoLevel u) = u.goal

-- the goal that isn't met: the next lower one, or the highest
abbrev pub unmet_of : Finding → Option Unmet
unmet_of (Least g below) = below
unmet_of (NoLevel u) = Some u

-- it is an operation's, whose least level is strong
abbrev pub IsStrongFinding : Finding → Type 0
IsStrongFinding (Least (OpAt o level) below) = level ≡ Strong
IsStrongFinding _ = ⊥

-- the transaction uses the operation, whose least level is strong
pub record IsStrongIn (p : Program) (d : ℕ) (o : OpId) : Type 0 where
  pub known : o.0 < length (all_ops p.types)
  pub used : uses_op p d o.0 ≡ true
  pub strong : IsOpLevel p o.0 Strong

-- the strong operations that a transaction uses: all of them, each once and in order
pub record AreStrongIn (p : Program) (d : ℕ) (uses : List OpId) : Type 0 where
  pub sound : All (IsStrongIn p d) uses
  pub complete : (o : OpId) → IsStrongIn p d o → Contains uses o
  pub ascending : IsAscending (map (λ (o : OpId). o.0) uses)

abbrev pub AreUsesOf : Program → Goal → List OpId → Type 0
AreUsesOf p (OpAt o level) uses = uses ≡ []
AreUsesOf p (TxnAt d level) uses = AreStrongIn p d.0 uses

-- ---- the answer

-- some level is the target's least one
abbrev pub HasLeastLevel : Program → ℕ → Type 0
HasLeastLevel p target = (g : Goal) × IsOfTarget p target g × IsLeastLevel p g

-- each target has a least level, and no transaction uses an operation whose least level is strong
pub record HasAllLevels (p : Program) : Type 0 where
  pub levels : (target : ℕ) → target < targets p → HasLeastLevel p target
  pub weak : (d : ℕ) (o : OpId) → IsStrongIn p d o → ⊥

-- some target has none, or some transaction uses such an operation
abbrev pub LacksLevel : Program → Type 0
LacksLevel p = ((target : ℕ) × (target < targets p) × (HasLeastLevel p target → ⊥)) ⊎ ((d : ℕ) × (o : OpId) × IsStrongIn p d o)

-- yes or no, by that
abbrev pub IsStatusOf : Program → Status → Type 0
IsStatusOf p Done = HasAllLevels p
IsStatusOf p No = LacksLevel p
IsStatusOf p _ = ⊥

-- ---- the text

-- none op F, and none txn F
abbrev pub none_line : Program → Goal → List ℕ
none_line p (OpAt o level) = codes "none op " ++ op_name p o.0 ++ codes "\n"
none_line p (TxnAt d level) = codes "none txn " ++ txn_name p d.0 ++ codes "\n"

abbrev pub first_line : Program → Finding → List ℕ
first_line p (Least g below) = target_line p g
first_line p (NoLevel u) = none_line p u.goal

-- strong F in G, for each
abbrev pub strong_uses_text : Program → ℕ → List OpId → List ℕ
strong_uses_text p d [] = []
strong_uses_text p d (o ∷ uses) = strong_text p d o.0 ++ strong_uses_text p d uses

abbrev pub strong_lines : Program → Goal → List OpId → List ℕ
strong_lines p (OpAt o level) uses = []
strong_lines p (TxnAt d level) uses = strong_uses_text p d.0 uses

-- the sentences on why a transaction can't use a strong operation, and what one can do
abbrev pub way_out_text : List ℕ → List ℕ
way_out_text name = codes "  No transaction may use " ++ name ++ STRONG_USE.now ++ codes "  Call " ++ name ++ WAY_OUT.now

-- those sentences for each operation
abbrev pub ways_out_text : Program → List OpId → List ℕ
ways_out_text p [] = []
ways_out_text p (o ∷ uses) = way_out_text (op_name p o.0) ++ ways_out_text p uses

-- warnings, each a line
abbrev pub warned_text : Program → List Warning → List ℕ
warned_text p [] = []
warned_text p (w ∷ ws) = codes "  " ++ warning_text p w ++ codes "\n" ++ warned_text p ws

-- words that are left open, warnings that are so of a countermodel, and its text
abbrev pub IsCounterPart : Program → Goal → List ℕ → Type 0
IsCounterPart p g text =
    (c : Counter) × IsCounterOf p g c × (words : List ℕ) × (warned : List Warning) × All (IsRuledOut p g c) warned × (text ≡ words ++ warned_text p warned ++ codes "\n" ++ counter_text p g c)

-- why the lower levels, or all, aren't enough; or that there is no lower one
abbrev pub IsReasonText : Program → Option Unmet → List ℕ → Type 0
IsReasonText p None text = text ≡ LOWEST.now
IsReasonText p (Some u) text = IsCounterPart p u.goal text

abbrev pub IsReason : Program → Finding → List ℕ → Type 0
IsReason p f text = IsReasonText p (unmet_of f) text

-- the section of a target
pub record IsTargetSection (source : List ℕ) (p : Program) (f : Finding) (text : List ℕ) : Type 0 where
  pub uses : List OpId
  pub are_uses : AreUsesOf p (goal_of_finding f) uses
  pub warned : List Warning
  pub are_warned : AreWarnings source p (goal_of_finding f) warned
  pub reason : List ℕ
  pub is_reason : IsReason p f reason
  pub whole : text ≡ first_line p f ++ strong_lines p (goal_of_finding f) uses ++ ways_out_text p uses ++ warned_text p warned ++ reason

-- a section after a blank line
abbrev pub IsNextSection : List ℕ → Program → Finding → List ℕ → Type 0
IsNextSection source p f text = (section : List ℕ) × IsTargetSection source p f section × (text ≡ codes "\n" ++ section)

-- the section of each finding in order, with a blank line between them
abbrev pub AreSections : List ℕ → Program → List Finding → List ℕ → Type 0
AreSections source p [] text = text ≡ []
AreSections source p (f ∷ findings) text =
    (first : List ℕ) × (others : List ℕ) × IsTargetSection source p f first × InTurn (IsNextSection source p) findings others × (text ≡ first ++ others)

abbrev pub IsExplanation : List ℕ → Program → List ℕ → Type 0
IsExplanation source p text = (findings : List Finding) × AreFindings p findings × AreSections source p findings text

-- what is said of a source: the answer with an explanation of this form, or its first fault
abbrev pub SaysBy : (List ℕ → Program → List ℕ → Type 0) → List ℕ → Status → List ℕ → Type 0
SaysBy Explains bytes Done text = (p : Program) × IsSourceOf bytes p × HasAllLevels p × Explains bytes p text
SaysBy Explains bytes No text = (p : Program) × IsSourceOf bytes p × LacksLevel p × Explains bytes p text
SaysBy Explains bytes Bad text = BadSourceSays bytes text
SaysBy Explains bytes _ text = ⊥

abbrev pub ExplainSays : List ℕ → Status → List ℕ → Type 0
ExplainSays bytes status text = SaysBy IsExplanation bytes status text
