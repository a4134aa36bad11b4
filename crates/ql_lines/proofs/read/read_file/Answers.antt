use Rattle.std.proofs.Common.{◌≡◌, ◌++◌, ◌∷◌, [], List, Err, length, ap, sym, subst, ◌∙◌, append_assoc}
use Rattle.std.proofs.lemmas.List.{append-nil}
use Rattle.ql_lines.specs.Lines.{Ahead, Numbered, ahead_from}
use Rattle.ql_lines.specs.Answers.{IsEndAnswer}
use Rattle.ql_lines.specs.Outcomes.{Leads, Outcome}
use Rattle.ql_lines.proofs.ShortLines.{line_within}
use Rattle.ql_lines.proofs.OneOutcome.{ends_answer, leads_nowhere, leads_on, refused_at}
use Rattle.ql_lines.proofs.read.read_file.Goals as goal

pub loop-line-init : goal.loop-line-init
loop-line-init g c =
    let of = g.F.LineFormat in
    let f = c.args.format.now in
    let start = sym c.of-lines.ensures in
    let first = sym c.start-state.ensures in (
      [],
      ap (λ (a : Ahead). a.lines) start,
      ap (λ (a : Ahead). a.end) start,
      subst (λ s. Leads (of.gives f) (of.closes f) (of.start f) [] s) first (leads_nowhere (of.gives f) (of.closes f) (of.start f)),
      subst (λ s. of.sound f s (length c.of-lines.result.lines)) first (subst (λ (a : Ahead). of.sound f (of.start f) (length a.lines)) start c.requires.sound),
    )

pub returns-in-Err : goal.returns-in-Err
returns-in-Err g c =
    let of = g.F.LineFormat in
    let f = c.args.format.now in
    let h = c.loop-line.invariant in
    let file : Ahead = ahead_from 1 c.args.bytes.now in
    let line : Numbered = record { number = c.in-Some.line.number; text = c.in-Some.line.text.now } in
    let rest = c.next_line.new.self.lines in
    let are : file.lines ≡ h.0 ++ line ∷ rest = h.1 ∙ ap (λ (ls : List Numbered). h.0 ++ ls) c.in-Some.ensures.line in
    subst (λ fault. IsEndAnswer (Outcome (of.gives f) (of.closes f) (of.start f) file) (Err fault)) (sym c.at.ensures)
    (refused_at (of.gives f) (of.closes f) (of.start f) c.loop-line.state file h.0 line rest c.in-Err.fault are h.3 c.in-Err.ensures)

pub loop-line-preserved : goal.loop-line-preserved
loop-line-preserved g c =
    let of = g.F.LineFormat in
    let f = c.args.format.now in
    let h = c.loop-line.invariant in
    let line : Numbered = record { number = c.in-Some.line.number; text = c.in-Some.line.text.now } in
    let rest = c.next_line.new.self.lines in
    let are : (ahead_from 1 c.args.bytes.now).lines ≡ h.0 ++ line ∷ rest = h.1 ∙ ap (λ (ls : List Numbered). h.0 ++ ls) c.in-Some.ensures.line in
    let allowed = g.met.F.LineFormat.allows_less f (length line.text) (length c.args.bytes.now) (line_within c.args.bytes.now h.0 line rest are) c.requires.allowed in (
      h.0 ++ line ∷ [],
      are ∙ sym (append_assoc h.0 (line ∷ []) rest),
      h.2 ∙ sym c.in-Some.ensures.end,
      leads_on (of.gives f) (of.closes f) h.0 (of.start f) c.loop-line.state c.in-Ok.more line h.3 c.in-Ok.ensures,
      g.met.F.LineFormat.stays_sound f c.loop-line.state c.in-Ok.more line (length rest) allowed (subst (λ (ls : List Numbered). of.sound f c.loop-line.state (length ls)) c.in-Some.ensures.line h.4) c.in-Ok.ensures,
    )

pub take-requires-clause-allowed : goal.take-requires-clause-allowed
take-requires-clause-allowed g c =
    let f = c.args.format.now in
    let h = c.loop-line.invariant in
    let line : Numbered = record { number = c.in-Some.line.number; text = c.in-Some.line.text.now } in
    let rest = c.next_line.new.self.lines in
    let are : (ahead_from 1 c.args.bytes.now).lines ≡ h.0 ++ line ∷ rest = h.1 ∙ ap (λ (ls : List Numbered). h.0 ++ ls) c.in-Some.ensures.line in
    g.met.F.LineFormat.allows_less f (length line.text) (length c.args.bytes.now) (line_within c.args.bytes.now h.0 line rest are) c.requires.allowed

pub returns : goal.returns
returns g c =
    let of = g.F.LineFormat in
    let f = c.args.format.now in
    let h = c.loop-line.invariant in
    let state = c.loop-line.state in
    let file : Ahead = ahead_from 1 c.args.bytes.now in
    let are : file.lines ≡ h.0 = h.1 ∙ ap (λ (ls : List Numbered). h.0 ++ ls) c.in_default.ensures.line.0 ∙ append-nil h.0 in
    let end : c.end.result ≡ file.end = c.end.ensures ∙ c.in_default.ensures.end ∙ sym h.2 in
    let leads = subst (λ (ls : List Numbered). Leads (of.gives f) (of.closes f) (of.start f) ls state) (sym are) h.3 in
    ends_answer (of.gives f) (of.closes f) (of.start f) state file c.finish.result leads
    (subst (λ at. IsEndAnswer (of.closes f state at) c.finish.result) end c.finish.ensures)
