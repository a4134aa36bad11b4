use Rattle.std.proofs.Common.{arith}
use Rattle.std.proofs.lemmas.Bool.Decides.{nat_tests}
use Rattle.std.proofs.lemmas.List.Sums.{AllPass-from_list_all, list_all-from_AllPass}
use Rattle.ql_base.specs.Bytes.{is_name_byte}
use Rattle.ql_base.proofs.name.is_word.Goals as goal
use Rattle.ql_base.proofs.name.is_word.Goals.{then-not-is_empty, else-not-is_empty}

pub returns-then-is_lower : goal.returns-then-is_lower
returns-then-is_lower c = elim c.if-not-is_empty.branch [
  | then-not-is_empty w ↦ (
    λ t. record {
      some = grind (arith, nat_tests);
      first = cc;
      all = AllPass-from_list_all is_name_byte c.args.text.now cc;
    },
    λ word. let e = list_all-from_AllPass is_name_byte c.args.text.now word.all in cc,
  )
  | else-not-is_empty w ↦ cc
]
