use Rattle.std.proofs.lemmas.Result.{err_from_is_err_and}
use Rattle.std.proofs.Common.{◌≡◌, ◌<◌, ◌+◌, ◌*◌, ◌^◌, length, sym, ◌∙◌, ap, subst, arith}
use Rattle.std.proofs.lemmas.List.{get_or_default}
use Rattle.ql_cnf.specs.Literals.{negated}
use Rattle.ql_cnf.specs.declared.lit.Lit.{Lit}
use Rattle.ql_sat.specs.Settled.{falsified_at}
use Rattle.ql_sat.specs.State.{all_clauses}
use Rattle.ql_sat.specs.Watch.{index_of}
use Rattle.ql_sat.specs.declared.trail.Step.{Step}
use Rattle.ql_sat.proofs.Naming.{hint_names}
use Rattle.ql_sat.proofs.Visiting.{falsified_has_list, visiting_end, visiting_start}
use Rattle.ql_sat.proofs.propagation.visit_watchers.Goals as goal

pub loop-clause-init : goal.loop-clause-init
loop-clause-init c =
    let literal : c.negated-falsified.result ≡ falsified_at c.args.trail.now.steps.items c.args.place = c.negated-falsified.ensures ∙ ap (λ (s : Step). negated s.lit) (c.index.ensures ∙ get_or_default c.args.trail.now.steps.items c.args.place c.index.result.now _ c.requires.within) in
    let inside : index_of (falsified_at c.args.trail.now.steps.items c.args.place) < 2 * (c.args.known.given.now.variables + 1) = falsified_has_list c.args.known.given.now c.args.known.lines.now c.args.trail.now.steps.items c.args.trail.now.marks.items c.args.place c.requires.sound c.requires.within in
    let there : index_of (falsified_at c.args.trail.now.steps.items c.args.place) < length c.args.watches.now.lists.items = omega (arith, inside, c.requires.watched.guarded.room) in
    record {
      sound = c.requires.sound;
      visited = visiting_start (all_clauses c.args.known) c.args.trail.now.steps.items c.args.watches.now.lists.items c.args.watches.now.pairs.items c.args.place c.negated-falsified.result c.requires.watched.guarded c.requires.within literal c.requires.watched.settled c.args.watches.now.listed (subst (λ (x : Lit). index_of x < length c.args.watches.now.lists.items) (sym literal) there);
      number = omega arith;
    }

pub visit-requires-clause-hint : goal.visit-requires-clause-hint
visit-requires-clause-hint c =
    λ l. hint_names c.args.known.given.now c.args.known.lines.now c.in-Some.clause (2 ^ 64) c.hint_of-hint.result (omega (arith, l, c.loop-clause.invariant.visited.guarded.counted, c.loop-clause.watches.pairs.ok.0, c.loop-clause.watches.pairs.small)) c.hint_of-hint.ensures.given c.hint_of-hint.ensures.learned l

pub returns : goal.returns
returns c =
    let visiting = c.loop-clause.invariant.visited in
    record {
      sound = c.loop-clause.invariant.sound;
      guarded = visiting.guarded;
      watched = record {
        guarded = visiting.guarded;
        within = omega (arith, visiting.within);
        settled = visiting_end (all_clauses c.args.known) c.loop-clause.trail.steps.items c.loop-clause.watches.lists.items c.loop-clause.watches.pairs.items c.args.place c.loop-clause.at c.negated-falsified.result c.in_default.ensures.none visiting;
      };
      conflict = tt;
      number = c.loop-clause.invariant.number;
    }

pub returns-in_err-next : goal.returns-in_err-next
returns-in_err-next c = let p = err_from_is_err_and c.from_residual.result c.from_residual.ensures.1 in rw p.1 tt
