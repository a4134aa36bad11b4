use Rattle.std.proofs.Common.{◌≡◌, ◌+◌, ◌-◌, ◌<◌, ◌≤◌, ℕ, List, true, false, nat_le, length, drop, subst, sym, arith, rules}
use Rattle.std.proofs.lemmas.Bool.{leb-true, leb-false}
use Rattle.std.proofs.lemmas.List.{length-drop, take_rest}
use Rattle.std.proofs.lemmas.List.Sorted.{IsPartitionPoint-from_clause, IsPartitionedBy-leb}
use Rattle.std.specs.List.Sorted.{IsPartitionedBy, IsPartitionPoint}
use Rattle.ql_base.proofs.IdLemmas.{IsAscending-drop}
use Rattle.ql_ranges.proofs.Ends.{ascending-rise, id-behind}
use Rattle.ql_ranges.proofs.ranges.search_above.Goals as goal

point : (c : goal.After-partition_point) → IsPartitionPoint (λ id. nat_le id c.args.bound ≡ true) (λ id. nat_le id c.args.bound ≡ false) (drop c.args.from c.args.ids.now) c.partition_point.result
point c =
    let rest = drop c.args.from c.args.ids.now in
    let whole = take_rest c.args.ids.now c.args.from in
    let parted = IsPartitionedBy-leb (λ id. id) rest c.args.bound (ascending-rise rest (IsAscending-drop c.args.from c.args.ids.now c.requires.ascending)) in
    subst (λ (ids : List ℕ). IsPartitionPoint (λ id. nat_le id c.args.bound ≡ true) (λ id. nat_le id c.args.bound ≡ false) ids c.partition_point.result) whole
    (IsPartitionPoint-from_clause (λ id. nat_le id c.args.bound) _ _ c.partition_point.ensures.partitioned
    (subst (λ (ids : List ℕ). IsPartitionedBy (λ id. nat_le id c.args.bound) ids) (sym whole) parted) (λ a r q k. search rules))

pub returns-clause-each : goal.returns-clause-each
returns-clause-each c = λ k behind below.
    subst (λ (id : ℕ). id ≤ c.args.bound) (id-behind c.args.ids.now c.args.from k behind) (leb-true _ _ ((point c).0 (k - c.args.from) 0 (omega arith) (omega (arith, behind, below))))

pub returns-clause-above : goal.returns-clause-above
returns-clause-above c = λ inside.
    let end : ℕ = c.args.from + c.partition_point.result in
    let left = length-drop c.args.from c.args.ids.now in
    let within : end - c.args.from < length (drop c.args.from c.args.ids.now) = omega (arith, inside, left) in
    subst (λ (id : ℕ). c.args.bound < id) (id-behind c.args.ids.now c.args.from end (omega arith)) (leb-false _ _ ((point c).1 (end - c.args.from) 0 (omega arith) within))
