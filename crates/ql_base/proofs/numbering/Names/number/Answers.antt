use Rattle.std.proofs.lemmas.Result.{err_from_is_err_and}
use Rattle.std.proofs.Common.{◌≡◌, ◌<◌, length}
use Rattle.std.specs.List.{position_or_len}
use Rattle.std.specs.Str.{bytes_eq}
use Rattle.ql_base.proofs.Numbered.{place-with_name, word_eq}
use Rattle.ql_base.specs.Numbering.{with_name}
use Rattle.ql_base.proofs.numbering.Names.number.Goals as goal

pub returns-clause-names : goal.returns-clause-names
returns-clause-names c = rw (← c.self.view_is, ← c.of.ensures, ← word_eq) c.in_ok-k.ensures.keys

pub returns-clause-numbered : goal.returns-clause-numbered
returns-clause-numbered c =
    let keys : c.insert_full.new.self.keys ≡ with_name c.self.inside.words.keys c.args.w.now = rw (← c.of.ensures, ← word_eq) c.in_ok-k.ensures.keys in
    let index : c.in_ok-k.k ≡ position_or_len (bytes_eq c.args.w.now) c.self.inside.words.keys = rw (← c.of.ensures, ← word_eq) c.in_ok-k.ensures.index in
    let within : position_or_len (bytes_eq c.args.w.now) c.self.inside.words.keys < length (with_name c.self.inside.words.keys c.args.w.now) = rw (← keys, ← index) c.in_ok-k.ensures.within in
    rw (keys, index) (place-with_name c.self.inside.words.keys c.args.w.now within)

pub returns-in_err-k-clause-names : goal.returns-in_err-k-clause-names
returns-in_err-k-clause-names c = let p = err_from_is_err_and c.from_residual.result c.from_residual.ensures.1 in rw p.1 tt

pub returns-in_err-k-clause-numbered : goal.returns-in_err-k-clause-numbered
returns-in_err-k-clause-numbered c = let p = err_from_is_err_and c.from_residual.result c.from_residual.ensures.1 in rw p.1 tt
