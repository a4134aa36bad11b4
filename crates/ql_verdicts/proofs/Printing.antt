-- The execution of a schedule's run can be printed.
use Rattle.std.proofs.Common.{◌≡◌, ℕ, suc, ◌<◌, ◌≤◌, List, [], Option, Some, get_or, length, slice_get, ap, sym, arith, ◌∙◌}
use Rattle.std.specs.Prelude.{unwrap_or}
use Rattle.std.specs.Option.{option_map}
use Rattle.std.proofs.lemmas.List.Elements.{recursion_from_All}
use Rattle.std.proofs.lemmas.Option.{slice_get-get_or, unwrap_or-slice_get}
use Rattle.ql_base.specs.Numbering.{place}
use Rattle.ql_base.specs.declared.ids.TypeId.{TypeId}
use Rattle.ql_exec.specs.declared.effect.Effect.{Effect}
use Rattle.ql_exec.specs.declared.effect.Member.{Member}
use Rattle.ql_exec.specs.declared.effect.Member.TheVariants.{Alone, Inside}
use Rattle.ql_running.specs.Stores.{rules_of}
use Rattle.ql_lang.specs.declared.program.Program.{Program}
use Rattle.ql_lines.specs.Lines.{ahead_from}
use Rattle.ql_machine.proofs.Runs.{kept}
use Rattle.ql_verdicts.specs.Printable.{AreObjects, FitsMember, IsPrintable, IsWritable}
use Rattle.ql_report.specs.EffectTexts.{IsDeclared}
use Rattle.ql_running.specs.Forms.{IsRunText}
use Rattle.ql_running.specs.Runs.{ReportsRun}
use Rattle.ql_schedule.proofs.ObjectNames.{file_names, found_by_name}
use Rattle.ql_schedule.proofs.Sound.{file_sound}
use Rattle.ql_schedule.specs.Spelled.{AreNew}
use Rattle.ql_typing.specs.Operations.{op_kinds}
use Rattle.ql_verdicts.proofs.FoundNames.{finds-names}
use Rattle.ql_verdicts.proofs.Made.{IsMember, Keeps, run-keeps}

module _ (p : Program) (objects : ℕ) (kinds : List TypeId) where
  declared : (begun : ℕ) (m : Member) → IsMember p objects kinds begun m → IsDeclared p m
  declared begun Alone h = tt
  declared begun (Inside run decl) h = h.2

  numbered : (begun : ℕ) (m : Member) → begun ≤ 4000 → IsMember p objects kinds begun m → FitsMember m
  numbered begun Alone few h = tt
  numbered begun (Inside run decl) few h = let high = h.1 in (h.0, omega (arith, high, few))

-- names apart are found each by itself, so no two are the same
objects-apart : (objects : List (List ℕ)) → AreNew [] objects → AreObjects objects
objects-apart objects new = record {
  named = λ o less. (found_by_name objects o new less).0;
  apart = λ o q less below same.
      (let one : Some o ≡ Some q = sym (found_by_name objects o new less).1 ∙ ap (place objects) same ∙ (found_by_name objects q new below).1 in
      ap (λ (k : Option ℕ). unwrap_or k 0) one);
}

pub run-printable : (source file text : List ℕ) (reported : ReportsRun IsRunText source file text) → IsPrintable reported.program reported.schedule.objects reported.prints.last.effects
run-printable source file text reported =
    let p = reported.program in
    let s = reported.schedule in
    let run = reported.prints in
    let x = run.last.effects in
    let rules = rules_of p reported.levels in
    let lawful = file_sound p (ahead_from 1 file) s reported.is_schedule in
    let made : Keeps p (length s.objects) s.kinds (length s.events) x run.last.open_txns run.last.begun =
    run-keeps p (length s.objects) s.kinds rules s.replicas s.events run.replies run.last run.run lawful.events in
    let events = lawful.few_events in
    let few = made.few in
    let few_begun = made.few_begun in
    let begun : run.last.begun ≤ 4000 = omega (arith, events, few_begun) in
    let each = λ (k : ℕ) (d : Effect) (less : k < length x). made.made (suc k) (get_or x k d) (slice_get-get_or x k d less) in
    record {
      names = finds-names source p reported.is_source;
      distinct = objects-apart s.objects (file_names p (ahead_from 1 file) s reported.is_schedule);
      execution = (kept rules s.replicas s.events run.replies run.last run.run).sound.execution;
      few = omega (arith, events, few);
      named = λ k d less. record {
        object = (each k d less).object;
        op = (each k d less).op;
        txn = declared p (length s.objects) s.kinds run.last.begun (get_or x k d).member (each k d less).member;
      };
      one_type = λ a b e g at there same.
          (let type : slice_get (op_kinds p.types) e.op.0 ≡ slice_get (op_kinds p.types) g.op.0 =
          sym (made.made a e at).type ∙ ap (λ (o : ℕ). option_map (λ (t : TypeId). t.0) (slice_get s.kinds o)) same ∙ (made.made b g there).type in
          sym (unwrap_or-slice_get (op_kinds p.types) e.op.0 0) ∙ ap (λ (o : Option ℕ). unwrap_or o 0) type ∙ unwrap_or-slice_get (op_kinds p.types) g.op.0 0);
      effects = recursion_from_All IsWritable x
          (λ k d less. record {
            values = run.printed.values k d less;
            session = (let session = (each k d less).session in omega (arith, session));
            member = numbered p (length s.objects) s.kinds run.last.begun (get_or x k d).member begun (each k d less).member;
          });
    }
