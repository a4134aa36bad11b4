use Rattle.std.proofs.Common.{sym, ap}
use Rattle.std.specs.List.{list_all}
use Rattle.std.proofs.lemmas.List.Folds.{list_all_more}
use Rattle.std.proofs.lemmas.List.{take_all}
use Rattle.ql_base.specs.Bytes.{is_text_byte}
use Rattle.ql_base.proofs.bytes.are_text_bytes.Goals as goal

pub loop-b-preserved : goal.loop-b-preserved
loop-b-preserved c = rw (c.is_text_byte-all.ensures, c.loop-b.invariant) (sym (list_all_more is_text_byte c.args.text.now c.loop-b.b-index 0 c.loop-b-test.true))

pub returns : goal.returns
returns c = rw (c.loop-b.invariant) (ap (list_all is_text_byte) (take_all c.loop-b.b-index c.args.text.now c.loop-b-test.false))
