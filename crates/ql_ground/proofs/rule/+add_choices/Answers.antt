use Rattle.std.proofs.Common.{◌≡◌, ℕ, ◌<◌, ◌++◌, length, take, arith, subst, sym, List, [], ◌∷◌, ◌∙◌}
use Rattle.std.proofs.lemmas.List.{take_more_set}
use Rattle.std.proofs.lemmas.List.Elements.{All-push}
use Rattle.std.proofs.lemmas.Result.{on_ok_weaker}
use Rattle.std.specs.List.{All}
use Rattle.ql_atoms.specs.Atoms.{size_of}
use Rattle.ql_cnf.specs.Circuits.{clauses_of}
use Rattle.ql_ground.specs.Parts.{rule_of, instance}
use Rattle.ql_ground.proofs.Growth.{choices_more, choices_done, choices_one}
use Rattle.ql_ground.proofs.rule.+add_choices.Goals as goal

pub returns-then-depth-r-clause-clauses : goal.returns-then-depth-r-clause-clauses
returns-then-depth-r-clause-clauses t c = on_ok_weaker c.add_instance.result
    (λ (h : c.add_instance.new.c.clauses ≡ c.args.c.now.clauses ++ clauses_of (instance (size_of c.args.s) (rule_of c.args.r.now) (take c.args.depth c.args.chosen))).
    choices_one c.args.s.constants c.args.r.now.places c.args.depth (instance (size_of c.args.s) (rule_of c.args.r.now)) (take c.args.depth c.args.chosen)
    c.args.c.now.clauses c.add_instance.new.c.clauses c.if-depth-r.true h)
    c.add_instance.ensures.clauses

pub add_choices-requires : goal.add_choices-requires
add_choices-requires t c =
    let less : c.args.depth < c.args.r.now.places = omega arith in
    let inside : c.args.depth < length c.args.chosen = omega arith in
    let below : All (λ (k : ℕ). k < c.args.s.constants) (take c.args.depth c.args.chosen ++ c.loop-k.k ∷ []) = All-push (λ (k : ℕ). k < c.args.s.constants) (take c.args.depth c.args.chosen) c.loop-k.k c.requires.chosen c.loop-k-test.true in (
      omega arith,
      (
        c.requires.places,
        (
          omega arith,
          (
            omega arith,
            (
              subst (λ (xs : List ℕ). All (λ (k : ℕ). k < c.args.s.constants) xs) (sym (take_more_set c.args.chosen c.args.depth c.loop-k.k inside)) below,
              (
                c.requires.hypotheses,
                (
                  c.requires.conclusions,
                  rw c.loop-k.invariant.variables c.requires.variables,
                ),
              ),
            ),
          ),
        ),
      ),
    )

pub loop-k-preserved : goal.loop-k-preserved
loop-k-preserved t c = record {
  clauses = choices_more c.args.s.constants c.args.r.now.places c.args.depth c.loop-k.k (instance (size_of c.args.s) (rule_of c.args.r.now)) c.args.chosen
      c.args.c.now.clauses c.loop-k.c.clauses c.add_choices.new.c.clauses (omega arith) c.loop-k.invariant.clauses c.in_ok-add_choices.ensures.clauses;
  variables = c.in_ok-add_choices.ensures.variables ∙ c.loop-k.invariant.variables;
}

pub returns-clause-clauses : goal.returns-clause-clauses
returns-clause-clauses t c =
    choices_done c.args.s.constants c.args.r.now.places c.args.depth c.loop-k.k (instance (size_of c.args.s) (rule_of c.args.r.now)) (take c.args.depth c.args.chosen)
    c.args.c.now.clauses c.loop-k.c.clauses (omega arith) (omega arith) c.loop-k.invariant.clauses
