use Rattle.std.proofs.Common.{◌&&◌, Bool, ap, sym}
use Rattle.std.specs.List.{list_all}
use Rattle.ql_ground.specs.Relations.{inside}
use Rattle.ql_ground.proofs.Bodies.{others-law}
use Rattle.ql_ground.proofs.Laws.{inside-closed}
use Rattle.ql_ground.proofs.level_laws.first_other_decides.Goals as goal

pub returns : goal.returns
returns c x run members first others =
    ap (λ (b : Bool). list_all (inside x run) members && b) (sym (others-law x (inside x run) (inside-closed x run) first others))
