use Rattle.std.proofs.lemmas.Result.{err_from_is_err_and}
use Rattle.std.proofs.Common.{◌<◌, length, refl, sym, subst, inl, arith}
use Rattle.ql_base.specs.declared.ids.ObjId.{ObjId}
use Rattle.ql_machine.specs.Sets.{AreThose}
use Rattle.ql_slimming.specs.Stability.{AreViews, IsStable}
use Rattle.ql_slimming.proofs.Leaving.{all_later, is_fit, is_typed, keeping_goes, still_stands}
use Rattle.ql_slimming.proofs.keeping.keep_stable.Goals as goal

pub advance-requires-clause-stands : goal.advance-requires-clause-stands
advance-requires-clause-stands c =
    let o : ObjId = record { 0 = c.loop-o.o } in
    still_stands c.args.t.now.program (length c.args.kinds.now) c.loop-o.o c.args.kinds.now c.args.store.now.machine c.loop-o.kept c.loop-o.invariant o refl c.execution-in-loop-o.result.now c.execution-in-loop-o.ensures

pub advance-requires-clause-later : goal.advance-requires-clause-later
advance-requires-clause-later c =
    let o : ObjId = record { 0 = c.loop-o.o } in
    all_later c.args.t.now.program (length c.args.kinds.now) c.loop-o.o c.args.kinds.now c.args.store.now.machine c.loop-o.kept c.loop-o.invariant o refl c.execution-in-loop-o.result.now c.execution-in-loop-o.ensures c.in_ok-more.more

pub advance-requires-clause-one_type : goal.advance-requires-clause-one_type
advance-requires-clause-one_type c =
    let o : ObjId = record { 0 = c.loop-o.o } in
    let less : c.loop-o.o < length c.args.kinds.now = (let test = c.loop-o-test.true in omega (arith, test)) in
    is_typed c.args.t.now.program (length c.args.kinds.now) c.loop-o.o c.args.kinds.now c.args.store.now.machine c.loop-o.kept c.loop-o.invariant o refl c.execution-in-loop-o.result.now c.execution-in-loop-o.ensures c.requires.fits less

pub advance-requires-clause-fit : goal.advance-requires-clause-fit
advance-requires-clause-fit c =
    let o : ObjId = record { 0 = c.loop-o.o } in
    is_fit c.args.t.now.program (length c.args.kinds.now) c.loop-o.o c.args.kinds.now c.args.store.now.machine c.loop-o.kept c.loop-o.invariant o refl c.execution-in-loop-o.result.now c.execution-in-loop-o.ensures c.requires.fits c.in_ok-more.more

pub loop-o-preserved : goal.loop-o-preserved
loop-o-preserved c =
    let p = c.args.t.now.program in
    let s = c.args.store.now.machine in
    let o : ObjId = record { 0 = c.loop-o.o } in
    let views = subst (AreViews s o) (sym c.deref.ensures.value) c.in_ok-views.ensures in
    let those : AreThose (IsStable s o) c.in_ok-more.more = c.in_ok-more.ensures s (sym c.execution.ensures) views in
    let done = c.in_ok-advance.ensures in
    keeping_goes p s (length c.args.kinds.now) c.loop-o.o c.loop-o.kept c.advance.new.self o c.in_ok-more.more refl c.loop-o.invariant those done.count (done.stands s.effects c.loop-o.invariant.stands (inl c.execution-in-loop-o.ensures)) done.gained done.others

pub returns-in_err-advance-clause-count : goal.returns-in_err-advance-clause-count
returns-in_err-advance-clause-count c = let p = err_from_is_err_and c.from_residual-in_err-advance.result c.from_residual-in_err-advance.ensures.1 in rw p.1 tt

pub returns-in_err-advance-clause-stable : goal.returns-in_err-advance-clause-stable
returns-in_err-advance-clause-stable c = let p = err_from_is_err_and c.from_residual-in_err-advance.result c.from_residual-in_err-advance.ensures.1 in rw p.1 tt

pub returns-in_err-advance-clause-stands : goal.returns-in_err-advance-clause-stands
returns-in_err-advance-clause-stands c = let p = err_from_is_err_and c.from_residual-in_err-advance.result c.from_residual-in_err-advance.ensures.1 in rw p.1 tt

pub returns-in_err-kept-clause-count : goal.returns-in_err-kept-clause-count
returns-in_err-kept-clause-count c = let p = err_from_is_err_and c.from_residual.result c.from_residual.ensures.1 in rw p.1 tt

pub returns-in_err-kept-clause-stable : goal.returns-in_err-kept-clause-stable
returns-in_err-kept-clause-stable c = let p = err_from_is_err_and c.from_residual.result c.from_residual.ensures.1 in rw p.1 tt

pub returns-in_err-kept-clause-stands : goal.returns-in_err-kept-clause-stands
returns-in_err-kept-clause-stands c = let p = err_from_is_err_and c.from_residual.result c.from_residual.ensures.1 in rw p.1 tt

pub returns-in_err-more-clause-count : goal.returns-in_err-more-clause-count
returns-in_err-more-clause-count c = let p = err_from_is_err_and c.from_residual-in_err-more.result c.from_residual-in_err-more.ensures.1 in rw p.1 tt

pub returns-in_err-more-clause-stable : goal.returns-in_err-more-clause-stable
returns-in_err-more-clause-stable c = let p = err_from_is_err_and c.from_residual-in_err-more.result c.from_residual-in_err-more.ensures.1 in rw p.1 tt

pub returns-in_err-more-clause-stands : goal.returns-in_err-more-clause-stands
returns-in_err-more-clause-stands c = let p = err_from_is_err_and c.from_residual-in_err-more.result c.from_residual-in_err-more.ensures.1 in rw p.1 tt

pub returns-in_err-views-clause-count : goal.returns-in_err-views-clause-count
returns-in_err-views-clause-count c = let p = err_from_is_err_and c.from_residual-in_err-views.result c.from_residual-in_err-views.ensures.1 in rw p.1 tt

pub returns-in_err-views-clause-stable : goal.returns-in_err-views-clause-stable
returns-in_err-views-clause-stable c = let p = err_from_is_err_and c.from_residual-in_err-views.result c.from_residual-in_err-views.ensures.1 in rw p.1 tt

pub returns-in_err-views-clause-stands : goal.returns-in_err-views-clause-stands
returns-in_err-views-clause-stands c = let p = err_from_is_err_and c.from_residual-in_err-views.result c.from_residual-in_err-views.ensures.1 in rw p.1 tt
