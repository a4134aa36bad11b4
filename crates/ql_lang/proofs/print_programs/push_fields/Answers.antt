use Rattle.std.proofs.lemmas.Result.{err_from_is_err_and}
use Rattle.ql_lang.specs.ProgramSpelling.{field_text}
use Rattle.ql_lang.proofs.Appending.{one_less}
use Rattle.ql_lang.proofs.print_programs.push_fields.Goals as goal

pub loop-field-preserved : goal.loop-field-preserved
loop-field-preserved c =
    one_less field_text c.args.fields.now c.loop-field.field-index c.field-item.result c.loop-field.out.items c.push_field.new.out.items _ c.loop-field-test.true c.field-item.is c.loop-field.invariant c.in_ok-push_field.ensures

pub returns-in_err-push_field : goal.returns-in_err-push_field
returns-in_err-push_field c = let p = err_from_is_err_and c.from_residual.result c.from_residual.ensures.1 in rw p.1 tt
