use Rattle.std.specs.Prelude.{◌≡◌, ℕ, ◌-◌, ◌&&◌, not, min, nat_eq, if◌then◌else◌, List, [], length, Bool, true, false, Option, Some, None}
use Rattle.ql_ports.specs.declared.mem_sink.MemSink.{MemSink}
use Rattle.ql_ports.specs.Faults.{next_count_of}
use Rattle.ql_ports.specs.Memory.{is_failing}

-- the bytes that a sink in memory took
abbrev pub taken_of : MemSink → List ℕ
taken_of sink = sink.taken.items

-- how many bytes it has room for in total
abbrev pub room_of : MemSink → ℕ
room_of sink = sink.room

-- how many bytes a put takes at most
abbrev pub piece_of : MemSink → ℕ
piece_of sink = sink.piece

-- the numbers of the puts that fail
abbrev pub failing_of : MemSink → List ℕ
failing_of sink = sink.failing.items

-- how many puts were made
abbrev pub puts_of : MemSink → ℕ
puts_of sink = sink.puts

-- how many faults it has met
abbrev pub count_of : MemSink → ℕ
count_of sink = sink.faults

-- how many bytes a put takes: `None` if it is to fail, or if no room is left for them
abbrev pub taken : Bool → ℕ → ℕ → ℕ → Option ℕ
taken true piece left size = None
taken false piece left size = if nat_eq left 0 && not (nat_eq size 0) then None else Some (min (min piece left) size)

-- how many bytes the next put of a sink takes, if it doesn't fail
abbrev pub put_of : MemSink → List ℕ → Option ℕ
put_of sink bytes =
    taken (is_failing (failing_of sink) (next_count_of (puts_of sink))) (piece_of sink) (room_of sink - length (taken_of sink)) (length bytes)

-- a sink before its first put
pub record IsNewSink (room piece : ℕ) (failing : List ℕ) (sink : MemSink) : Type 0 where
  pub empty : taken_of sink ≡ []
  pub has_room : room_of sink ≡ room
  pub takes : piece_of sink ≡ piece
  pub fails : failing_of sink ≡ failing
  pub no_put : puts_of sink ≡ 0
  pub no_fault : count_of sink ≡ 0

-- a sink after one more put: nothing differs but what it took and the counts
pub record IsPutSink (before after : MemSink) : Type 0 where
  pub has_room : room_of after ≡ room_of before
  pub takes : piece_of after ≡ piece_of before
  pub fails : failing_of after ≡ failing_of before
  pub put : puts_of after ≡ next_count_of (puts_of before)
