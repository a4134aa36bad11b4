use Rattle.std.proofs.Common.{◌≡◌, ◌++◌, map, drop}
use Rattle.std.specs.List.{concat}
use Rattle.ql_base.proofs.push.push_all.Given as goal

abbrev pub invariant-loop-text : goal.invariant-loop-text
invariant-loop-text l = l.out.items ++ concat (map (λ t. t.now) (drop l.text-index l.texts)) ≡ l.fn.out.items ++ concat (map (λ t. t.now) l.texts)
