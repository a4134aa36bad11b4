-- Members that are put in the order of their keys stand in that order.
use Rattle.std.proofs.Common.{◌≡◌, codes, refl}
use Rattle.serde_json.specs.Data.{Data, member, no_members, put}
use Rattle.serde_json.proofs.OnLiterals.{serde_json_on_literals}

pub fact_members : (claim effects holds : Data)
    → put (codes "holds") holds (put (codes "effects") effects (put (codes "claim") claim no_members))
    ≡ member (codes "claim") claim (member (codes "effects") effects (member (codes "holds") holds no_members))
unfolding serde_json_on_literals
fact_members claim effects holds = refl

pub counter_members : (here execution facts level variables warnings : Data)
    → put (codes "warnings") warnings (put (codes "variables") variables (put (codes "level") level (put (codes "facts") facts (put (codes "execution") execution (put (codes "at") here no_members)))))
    ≡ member (codes "at") here (member (codes "execution") execution (member (codes "facts") facts (member (codes "level") level (member (codes "variables") variables
    (member (codes "warnings") warnings no_members)))))
unfolding serde_json_on_literals
counter_members here execution facts level variables warnings = refl

pub warning_members : (kind place text : Data)
    → put (codes "text") text (put (codes "place") place (put (codes "kind") kind no_members))
    ≡ member (codes "kind") kind (member (codes "place") place (member (codes "text") text no_members))
unfolding serde_json_on_literals
warning_members kind place text = refl

pub target_members : (reason kind level name uses warnings : Data)
    → put (codes "warnings") warnings (put (codes "uses_strong") uses (put (codes "name") name (put (codes "level") level (put (codes "kind") kind (put (codes "countermodel") reason no_members)))))
    ≡ member (codes "countermodel") reason (member (codes "kind") kind (member (codes "level") level (member (codes "name") name
    (member (codes "uses_strong") uses (member (codes "warnings") warnings no_members)))))
unfolding serde_json_on_literals
target_members reason kind level name uses warnings = refl
