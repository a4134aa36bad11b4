use Rattle.std.proofs.lemmas.Result.{err_from_is_err_and}
use Rattle.std.proofs.Common.{[], ◌∷◌, arith, length-append}
use Rattle.ql_exec.specs.Execution.{effect_of}
use Rattle.ql_store.proofs.NoteSets.{noted-pop, noted-some}
use Rattle.ql_store.proofs.own.make_own.Goals as goal

pub undo-requires : goal.undo-requires
undo-requires c = noted-some c.args.x.now c.push_noted.new.x (effect_of c.args.x.now c.args.draft) c.push_noted.new.sessions c.in_ok-id.ensures.made c.in_ok-id.ensures.noted

pub returns-in-Err-clause-noted : goal.returns-in-Err-clause-noted
returns-in-Err-clause-noted c =
    noted-pop c.args.x.now c.push_noted.new.x c.pop.new.self (effect_of c.args.x.now c.args.draft) c.push_noted.new.sessions c.undo.new.self
    c.in_ok-id.ensures.made c.in_ok-id.ensures.noted c.pop.ensures c.undo.ensures

pub push_noted-requires-clause-room : goal.push_noted-requires-clause-room
push_noted-requires-clause-room c = c.requires.room

pub push_noted-requires-clause-lawful : goal.push_noted-requires-clause-lawful
push_noted-requires-clause-lawful c = c.requires.lawful

pub push_noted-requires-clause-noted : goal.push_noted-requires-clause-noted
push_noted-requires-clause-noted c = c.requires.noted

pub get-requires-clause-first : goal.get-requires-clause-first
get-requires-clause-first c = rw c.in_ok-id.ensures.number (omega arith)

pub get-requires-clause-last : goal.get-requires-clause-last
get-requires-clause-last c =
    let x = c.args.x.now in
    rw (c.in_ok-id.ensures.number, c.in_ok-id.ensures.made) (omega (arith, length-append x (effect_of x c.args.draft ∷ [])))

pub pop-requires : goal.pop-requires
pop-requires c =
    let x = c.args.x.now in
    rw c.in_ok-id.ensures.made (omega (arith, length-append x (effect_of x c.args.draft ∷ [])))

pub returns-clause-made : goal.returns-clause-made
returns-clause-made c = c.in_ok-id.ensures.made

pub returns-in_err-id-clause-made : goal.returns-in_err-id-clause-made
returns-in_err-id-clause-made c = let p = err_from_is_err_and c.from_residual.result c.from_residual.ensures.1 in rw p.1 tt

pub returns-in_err-id-clause-own : goal.returns-in_err-id-clause-own
returns-in_err-id-clause-own c = let p = err_from_is_err_and c.from_residual.result c.from_residual.ensures.1 in rw p.1 tt

pub returns-in_err-id-clause-reply : goal.returns-in_err-id-clause-reply
returns-in_err-id-clause-reply c = let p = err_from_is_err_and c.from_residual.result c.from_residual.ensures.1 in rw p.1 tt
