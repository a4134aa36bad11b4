use Rattle.std.proofs.Common.{◌≡◌, ◌+◌, ◌++◌, nat_lt, false}
use Rattle.serde_json.specs.Written.{items_text}
use Rattle.ql_report.proofs.Texts.{ItemsReadBack, effects_left}
use Rattle.ql_report.proofs.json_printing.push_effects.Given as goal

-- what was added makes the whole list with what is left
abbrev pub invariant-loop-k : goal.invariant-loop-k
invariant-loop-k l =
    let left = effects_left l.t.program l.objects l.x in
    (l.initial.out.items ++ items_text false (left 0) ≡ l.out.items ++ items_text (nat_lt 1 (l.k + 1)) (left l.k)) × (ItemsReadBack (left l.k) → ItemsReadBack (left 0))
