use Rattle.std.proofs.Common.{sym, ap}
use Rattle.ql_lex.specs.declared.token.TokenKind.TheVariants.{Name}
use Rattle.ql_grammar.specs.Machine.{Reading}
use Rattle.ql_parse.proofs.ReaderLemmas.{name_ahead_fits}
use Rattle.ql_parse.proofs.reader.Reader.word_ahead.Goals as goal

pub bounds-self-inside-0 : goal.bounds-self-inside-0
bounds-self-inside-0 c = (name_ahead_fits c.self.inside.bytes.now c.self.inside.rest.now (record { what = Name; from = 0; to = 0 }) c.args.self.now (ap (λ (r : Reading). r.tokens) (sym c.self.view_is)) c.self.invariant.spans c.requires).some

pub of-requires-clause-some : goal.of-requires-clause-some
of-requires-clause-some c = (name_ahead_fits c.self.inside.bytes.now c.self.inside.rest.now (record { what = Name; from = 0; to = 0 }) c.args.self.now (ap (λ (r : Reading). r.tokens) (sym c.self.view_is)) c.self.invariant.spans c.requires).least

pub of-requires-clause-few : goal.of-requires-clause-few
of-requires-clause-few c = (name_ahead_fits c.self.inside.bytes.now c.self.inside.rest.now (record { what = Name; from = 0; to = 0 }) c.args.self.now (ap (λ (r : Reading). r.tokens) (sym c.self.view_is)) c.self.invariant.spans c.requires).most
