use Rattle.std.proofs.Common.{◌≡◌, ℕ, List, None, true, false, [], sym, subst}
use Rattle.std.specs.Prelude.{MatchOption, is_none}
use Rattle.std.specs.List.{list_any}
use Rattle.std.specs.Option.{option_map}
use Rattle.ql_base.specs.Numbering.{place}
use Rattle.ql_typing.specs.Lookups.{txn_place}
use Rattle.ql_schedule.specs.declared.event_line.EventLine.{EventLine}
use Rattle.ql_schedule.specs.Known.{AreNumbers}
use Rattle.ql_schedule.specs.Makings.{declared_from}
use Rattle.ql_schedule.proofs.known.look_up.Goals as goal

pub returns-in_ok-declared-in-Begin : goal.returns-in_ok-declared-in-Begin
returns-in_ok-declared-in-Begin c =
    let p = c.args.t.now.program in
    let s = c.args.so_far.now in
    let ids = c.in_ok-declared-in-Begin.field-0 in
    subst (λ (l : EventLine). AreNumbers p s l (record { object = None; op = None; decl = c.txn_named.result; objects = ids })) (sym c.in-Begin.is) (record {
      decl = subst (λ (w : List ℕ). option_map (λ d. d.0) c.txn_named.result ≡ txn_place p.txns w) c.bytes-in-Begin.ensures.same c.txn_named.ensures.place;
      objects = subst (λ (ws : List (List ℕ)). MatchOption ids (list_any (λ w. is_none (place s.objects w)) ws ≡ true)
          (λ found. (list_any (λ w. is_none (place s.objects w)) ws ≡ false) × (found ≡ declared_from s.objects [] ws))) c.items.ensures c.in_ok-declared-in-Begin.ensures;
    })
