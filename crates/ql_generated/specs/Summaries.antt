-- The summary of a run: how many replies begin with each word, how many effects there are, how many ids they see together,
-- and their greatest stamp.
use Rattle.std.specs.Prelude.{◌≡◌, ℕ, ◌+◌, max, List, [], ◌∷◌, ◌++◌, if◌then◌else◌, codes, decimal, length}
use Rattle.std.specs.Str.{bytes_eq}
use Rattle.ql_exec.specs.declared.effect.Effect.{Effect}
use Rattle.ql_machine.specs.declared.reply.Reply.{Reply}
use Rattle.ql_machine.specs.declared.reply.Reply.TheVariants as reply
use Rattle.ql_running.specs.Runs.{Format}

-- the word that a reply begins with
abbrev pub reply_word : Reply → List ℕ
reply_word (reply.Ok e) = codes "ok"
reply_word reply.Begun = codes "begun"
reply_word (reply.Committed ids) = codes "committed"
reply_word (reply.Blocked e) = codes "blocked"
reply_word (reply.Unavailable r) = codes "unavailable"
reply_word (reply.Held s) = codes "held"
reply_word reply.Cut = codes "cut"
reply_word reply.Gone = codes "gone"
reply_word reply.Again = codes "again"
reply_word (reply.Waits e) = codes "waits"
reply_word (reply.Applies ids) = codes "applies"
reply_word reply.Lost = codes "lost"
reply_word reply.Split = codes "split"
reply_word reply.Healed = codes "healed"
reply_word (reply.Joined r) = codes "joined"
reply_word (reply.Sent m) = codes "sent"
reply_word (reply.Refused why) = codes "refused"

-- how many replies begin with a word
unfoldable pub count : List ℕ → List Reply → ℕ
count word [] = 0
count word (r ∷ rs) = (if bytes_eq (reply_word r) word then 1 else 0) + count word rs

-- how many replies the lines of a summary count together
abbrev pub counted : List Reply → ℕ
counted rs =
    count (codes "ok") rs + count (codes "begun") rs + count (codes "committed") rs + count (codes "blocked") rs
    + count (codes "unavailable") rs + count (codes "held") rs + count (codes "cut") rs + count (codes "gone") rs
    + count (codes "again") rs + count (codes "waits") rs + count (codes "applies") rs + count (codes "lost") rs
    + count (codes "split") rs + count (codes "healed") rs + count (codes "sent") rs + count (codes "refused") rs

-- how many ids are seen by the effects together
unfoldable pub seen_count : List Effect → ℕ
seen_count [] = 0
seen_count (e ∷ es) = length e.seen + seen_count es

-- the greatest stamp, and 0 where there is none
unfoldable pub last_stamp : List Effect → ℕ
last_stamp [] = 0
last_stamp (e ∷ es) = max e.stamp (last_stamp es)

-- a name and a number
abbrev pub line : List ℕ → ℕ → List ℕ
line name n = name ++ codes " " ++ decimal n ++ codes "\n"

module _ (replies : List Reply) where
  abbrev pub count_line : List ℕ → List ℕ
  count_line word = line word (count word replies)

  abbrev pub call_lines : List ℕ
  call_lines =
      count_line (codes "ok") ++ count_line (codes "begun") ++ count_line (codes "committed")
      ++ count_line (codes "blocked") ++ count_line (codes "unavailable") ++ count_line (codes "held")

  abbrev pub message_lines : List ℕ
  message_lines =
      count_line (codes "cut") ++ count_line (codes "gone") ++ count_line (codes "again")
      ++ count_line (codes "waits") ++ count_line (codes "applies") ++ count_line (codes "lost")

  abbrev pub network_lines : List ℕ
  network_lines =
      count_line (codes "split") ++ count_line (codes "healed") ++ count_line (codes "sent") ++ count_line (codes "refused")

  abbrev pub summary_text : List Effect → List ℕ
  summary_text x =
      line (codes "events") 4000 ++ call_lines ++ message_lines ++ network_lines
      ++ line (codes "effects") (length x) ++ line (codes "seen") (seen_count x) ++ line (codes "stamp") (last_stamp x)

-- a run as its summary
abbrev pub IsSummary : Format
IsSummary p objects levels replies x text = text ≡ summary_text replies x
