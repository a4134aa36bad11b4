use Rattle.std.proofs.Common.{sym, ap, ◌∙◌, ◌≤◌, arith, pos, w64}
use Rattle.std.specs.Str.Parse.{digits_value}
use Rattle.std.proofs.lemmas.Int.{to_z_pos}
use Rattle.ql_lex.specs.declared.token.TokenKind.TheVariants.{Name}
use Rattle.ql_grammar.specs.Machine.{Reading}
use Rattle.ql_parse.proofs.ReaderLemmas.{number_ahead_fits, spelled_value}
use Rattle.ql_parse.proofs.reader.Reader.value_ahead.Goals as goal

pub bounds-self-inside-0 : goal.bounds-self-inside-0
bounds-self-inside-0 c = (number_ahead_fits c.self.inside.bytes.now c.self.inside.rest.now (record { what = Name; from = 0; to = 0 }) c.args.self.now (ap (λ (r : Reading). r.tokens) (sym c.self.view_is)) c.self.invariant.spans c.requires).some

pub returns-in-Some : goal.returns-in-Some
returns-in-Some c =
    let fits = number_ahead_fits c.self.inside.bytes.now c.self.inside.rest.now (record { what = Name; from = 0; to = 0 }) c.args.self.now (ap (λ (r : Reading). r.tokens) (sym c.self.view_is)) c.self.invariant.spans c.requires in
    let spells = c.in-Some.ensures in
    let most : c.in-Some.value ≤ 9223372036854775807 = spells.bounded in
    to_z_pos w64 c.in-Some.value (omega arith) ∙ ap (λ n. pos n) (sym (ap (digits_value 10) fits.text ∙ spelled_value spells))

pub returns-in-None : goal.returns-in-None
returns-in-None c =
    let fits = number_ahead_fits c.self.inside.bytes.now c.self.inside.rest.now (record { what = Name; from = 0; to = 0 }) c.args.self.now (ap (λ (r : Reading). r.tokens) (sym c.self.view_is)) c.self.invariant.spans c.requires in
    absurd (c.in-None.ensures fits.value fits.spells)
