use Rattle.std.proofs.lemmas.Result.{err_from_is_err_and}
use Rattle.std.proofs.Common.{[], ◌∷◌, arith, length-append}
use Rattle.ql_exec.specs.Execution.{effect_of}
use Rattle.ql_store.proofs.NoteSets.{noted-push}
use Rattle.ql_store.proofs.plain.push_noted.Goals as goal

pub returns-clause-noted : goal.returns-clause-noted
returns-clause-noted c =
    noted-push c.args.x.now c.push_lawful.new.x c.args.draft c.in_ok-id.id c.get.result.now c.args.sessions.now c.note.new.self
    c.in_ok-id.ensures.made c.in_ok-id.ensures.number c.get.ensures c.requires.noted c.in-Ok.ensures.ok

pub push_lawful-requires-clause-room : goal.push_lawful-requires-clause-room
push_lawful-requires-clause-room c = c.requires.room

pub push_lawful-requires-clause-lawful : goal.push_lawful-requires-clause-lawful
push_lawful-requires-clause-lawful c = c.requires.lawful

pub get-requires-clause-first : goal.get-requires-clause-first
get-requires-clause-first c = rw c.in_ok-id.ensures.number (omega arith)

pub get-requires-clause-last : goal.get-requires-clause-last
get-requires-clause-last c =
    let x = c.args.x.now in
    rw (c.in_ok-id.ensures.number, c.in_ok-id.ensures.made) (omega (arith, length-append x (effect_of x c.args.draft ∷ [])))

pub pop-requires : goal.pop-requires
pop-requires c =
    let x = c.args.x.now in
    rw c.in_ok-id.ensures.made (omega (arith, length-append x (effect_of x c.args.draft ∷ [])))

pub returns-clause-number : goal.returns-clause-number
returns-clause-number c = c.in_ok-id.ensures.number

pub returns-clause-made : goal.returns-clause-made
returns-clause-made c = c.in_ok-id.ensures.made

pub returns-in_err-id-clause-made : goal.returns-in_err-id-clause-made
returns-in_err-id-clause-made c = let p = err_from_is_err_and c.from_residual.result c.from_residual.ensures.1 in rw p.1 tt

pub returns-in_err-id-clause-number : goal.returns-in_err-id-clause-number
returns-in_err-id-clause-number c = let p = err_from_is_err_and c.from_residual.result c.from_residual.ensures.1 in rw p.1 tt
