-- What the commands on levels report, over executions.
use Rattle.std.proofs.Common.{◌≡◌, inl, inr, ◌⊎◌, ℕ, suc, List, [], ◌∷◌, ◌++◌, refl, sym, ap, ◌∙◌, append_assoc}
use Rattle.ql_cert.specs.declared.cert.Section.{Section}
use Rattle.ql_lang.specs.declared.program.Program.{Program}
use Rattle.ql_refute.specs.Verdict.{verdict}
use Rattle.ql_refute.specs.declared.verdict.Verdict.TheVariants.{Accepted}
use Rattle.ql_reply.specs.declared.status.Status.{Status}
use Rattle.ql_reply.specs.declared.status.Status.TheVariants.{Done, No}
use Rattle.ql_commands.specs.Check.{CheckSays, Reports, order_text, section_text, verdict_text}
use Rattle.ql_commands.specs.Check.Reports.{all, accepted, refused}
use Rattle.ql_commands.specs.Classify.{ClassifySays}
use Rattle.ql_verdicts.specs.Commands.{AcceptsPrefix, ReportsAccepted, ReportsLeast, ReportsNone, accepted_lines}
use Rattle.ql_classify.proofs.Fails.{top_fails}

pub levels_least : (source text : List ℕ) → ClassifySays source Done text → ReportsLeast source text
levels_least source text says = (says.0, says.1, says.2, says.3.least, says.4)

pub none_reported : (source text : List ℕ) → ClassifySays source No text → ReportsNone source text
none_reported source text says = (says.0, says.1, says.2.0, top_fails says.0 says.1.1 says.2.0 says.2.1, says.2.2)

-- the lines of the sections from a place on
lines_reported : (p : Program) (place : ℕ) (ss : List Section) (a : Status) (text : List ℕ) → Reports p place ss a text → AcceptsPrefix p place ss a text
unfolding accepted_lines
lines_reported p place ss a text (all k) = record { prefix = []; others = []; end = []; sections = refl; lines = refl; each = tt; ends = refl }
lines_reported p place ss a text (accepted k s more b rest refuted gives reports) =
    let later = lines_reported p (suc k) more b rest reports in
    record {
      prefix = s ∷ later.prefix;
      others = later.others;
      end = later.end;
      sections = ap (λ ts. s ∷ ts) later.sections;
      lines = ap (λ t. section_text s ++ verdict_text Accepted ++ t) later.lines
          ∙ sym (append_assoc (section_text s ++ verdict_text Accepted) (accepted_lines later.prefix) later.end);
      each = (gives, later.each);
      ends = later.ends;
    }
lines_reported p place ss a text (refused k s more c problem not) =
    record { prefix = []; others = s ∷ more; end = text; sections = refl; lines = refl; each = tt; ends = (verdict c s.refutation.lines, not, refl) }

pub all_accepted : (source cert text : List ℕ) → CheckSays source cert Done text → ReportsAccepted source cert Done text
all_accepted source cert text says = (says.0, says.1, says.2, says.3, says.4.0, lines_reported says.0 0 says.2 Done text says.4.1)

pub front_accepted : (source cert text : List ℕ) → CheckSays source cert No text → ((place : ℕ) × (text ≡ order_text place)) ⊎ ReportsAccepted source cert No text
front_accepted source cert text says = elim says.4 [
  | inl out ↦ inl (out.0, out.2)
  | inr reported ↦ inr (says.0, says.1, says.2, says.3, reported.0, lines_reported says.0 0 says.2 No text reported.1)
]
