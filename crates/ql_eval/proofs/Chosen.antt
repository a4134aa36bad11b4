-- What a choice gives by the truth value of its test.
use Rattle.std.proofs.Common.{◌≡◌, true, false, Option, None, Some, refl}
use Rattle.ql_value.specs.declared.value.Value.{Value}
use Rattle.ql_value.specs.declared.value.Value.TheVariants.{Unit as Nothing, Int as Number, Bool as Truth, Text, Set, Map}
use Rattle.ql_eval.specs.Evaluation.{chosen_by, truth_in}

pub chosen_first : (t a b : Option Value) → truth_in t ≡ Some true → chosen_by t a b ≡ a
chosen_first (Some (Truth true)) a b h = refl
chosen_first (Some (Truth false)) a b h = cc
chosen_first None a b h = cc
chosen_first (Some Nothing) a b h = cc
chosen_first (Some (Number n)) a b h = cc
chosen_first (Some (Text x)) a b h = cc
chosen_first (Some (Set s)) a b h = cc
chosen_first (Some (Map m)) a b h = cc

pub chosen_second : (t a b : Option Value) → truth_in t ≡ Some false → chosen_by t a b ≡ b
chosen_second (Some (Truth true)) a b h = cc
chosen_second (Some (Truth false)) a b h = refl
chosen_second None a b h = cc
chosen_second (Some Nothing) a b h = cc
chosen_second (Some (Number n)) a b h = cc
chosen_second (Some (Text x)) a b h = cc
chosen_second (Some (Set s)) a b h = cc
chosen_second (Some (Map m)) a b h = cc

pub chosen_none : (t a b : Option Value) → truth_in t ≡ None → chosen_by t a b ≡ None
chosen_none (Some (Truth true)) a b h = cc
chosen_none (Some (Truth false)) a b h = cc
chosen_none None a b h = refl
chosen_none (Some Nothing) a b h = refl
chosen_none (Some (Number n)) a b h = refl
chosen_none (Some (Text x)) a b h = refl
chosen_none (Some (Set s)) a b h = refl
chosen_none (Some (Map m)) a b h = refl
