use Rattle.std.proofs.Common.{arith, refl, subst, sym}
use Rattle.std.specs.List.{All}
use Rattle.ql_lang.specs.Formulas.{statement_of}
use Rattle.ql_warnings.specs.Known.{IsPartOf}
use Rattle.ql_warnings.proofs.Kept.{ok_map}
use Rattle.ql_warnings.proofs.Scenes.{all_at, never_true}
use Rattle.ql_warnings.proofs.premises.of_premise.Goals as goal

pub returns-in-Some : goal.returns-in-Some
returns-in-Some c =
    let p = c.args.scene.program.now.program in
    let g = c.args.scene.goal in
    let vars = c.args.scene.vars.now in
    let s = statement_of c.args.premise.now in
    let parts = subst (All (IsPartOf s)) (sym c.deref.ensures.value) (c.in_ok-known.ensures s (λ part m. m) (λ k d less. absurd (omega (arith, less)))) in
    ok_map c.of_clash.result (λ found of. of p g vars s (record {
      part = c.in-Some.clash;
      place = refl;
      among = all_at (IsPartOf s) c.deref.result.now c.in-Some.ensures.member.0 c.in-Some.clash parts c.in-Some.ensures.member.1;
      never = never_true p g vars s c.deref.result.now parts c.in-Some.ensures.clash;
    })) c.of_clash.ensures

pub returns : goal.returns
returns c =
    let p = c.args.scene.program.now.program in
    let g = c.args.scene.goal in
    let vars = c.args.scene.vars.now in
    let s = statement_of c.args.premise.now in
    let parts = subst (All (IsPartOf s)) (sym c.deref-in-None.ensures.value) (c.in_ok-known.ensures s (λ part m. m) (λ k d less. absurd (omega (arith, less)))) in
    ok_map c.of_parts.result (λ found of. of p g vars s parts) c.of_parts.ensures
