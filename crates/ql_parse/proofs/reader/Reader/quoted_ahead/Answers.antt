use Rattle.std.proofs.Common.{sym, ap, arith}
use Rattle.ql_lex.specs.declared.token.TokenKind.TheVariants.{Name}
use Rattle.ql_grammar.specs.Machine.{Reading}
use Rattle.ql_parse.proofs.ReaderLemmas.{text_ahead_fits}
use Rattle.ql_parse.proofs.reader.Reader.quoted_ahead.Goals as goal

pub bounds-self-inside-0 : goal.bounds-self-inside-0
bounds-self-inside-0 c = (text_ahead_fits c.self.inside.bytes.now c.self.inside.rest.now (record { what = Name; from = 0; to = 0 }) c.args.self.now (ap (λ (r : Reading). r.tokens) (sym c.self.view_is)) c.self.invariant.spans c.requires).some

pub overflow_sub-result : goal.overflow_sub-result
overflow_sub-result c =
    let long = (text_ahead_fits c.self.inside.bytes.now c.self.inside.rest.now (record { what = Name; from = 0; to = 0 }) c.args.self.now (ap (λ (r : Reading). r.tokens) (sym c.self.view_is)) c.self.invariant.spans c.requires).long in
    omega arith

pub slice_bounds-result-count : goal.slice_bounds-result-count
slice_bounds-result-count c =
    let long = (text_ahead_fits c.self.inside.bytes.now c.self.inside.rest.now (record { what = Name; from = 0; to = 0 }) c.args.self.now (ap (λ (r : Reading). r.tokens) (sym c.self.view_is)) c.self.invariant.spans c.requires).long in
    omega arith

pub slice_bounds-result-start : goal.slice_bounds-result-start
slice_bounds-result-start c =
    let long = (text_ahead_fits c.self.inside.bytes.now c.self.inside.rest.now (record { what = Name; from = 0; to = 0 }) c.args.self.now (ap (λ (r : Reading). r.tokens) (sym c.self.view_is)) c.self.invariant.spans c.requires).long in
    omega arith
