-- Members that are put in the order of their keys stand in that order.
use Rattle.std.proofs.Common.{◌≡◌, codes, refl}
use Rattle.serde_json.specs.Data.{Data, member, no_members, put}
use Rattle.serde_json.proofs.OnLiterals.{serde_json_on_literals}

pub run_members : (execution levels replies : Data)
    → put (codes "replies") replies (put (codes "levels") levels (put (codes "execution") execution no_members))
    ≡ member (codes "execution") execution (member (codes "levels") levels (member (codes "replies") replies no_members))
unfolding serde_json_on_literals
run_members execution levels replies = refl

pub effect_members : (answer args id o op payload session stamp txn seen : Data)
    → put (codes "vis") seen (put (codes "txn") txn (put (codes "stamp") stamp (put (codes "session") session (put (codes "payload") payload
    (put (codes "op") op (put (codes "object") o (put (codes "id") id (put (codes "args") args (put (codes "answer") answer no_members)))))))))
    ≡ member (codes "answer") answer (member (codes "args") args (member (codes "id") id (member (codes "object") o (member (codes "op") op
    (member (codes "payload") payload (member (codes "session") session (member (codes "stamp") stamp (member (codes "txn") txn (member (codes "vis") seen no_members)))))))))
unfolding serde_json_on_literals
effect_members answer args id o op payload session stamp txn seen = refl
