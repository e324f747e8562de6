-- Writing into a lent room that may be too short: bytes go in one after another while there is room, and the first that finds none is the
-- last to count.
use Rattle.std.specs.Prelude.{ℕ, ◌+◌, Bool, true, false, cond, List, [], ◌∷◌, length, set, ltb, Result, Ok, Err}
use Rattle.room.specs.declared.Sink.{Sink}
use Rattle.room.specs.declared.Full.{Full}

-- a room's bytes; where the next byte goes; whether a byte found no room
pub record Filling : Type 0 where
  pub bytes : List ℕ
  pub at : ℕ
  pub over : Bool

-- before anything is put
abbrev pub started : List ℕ → Filling
started bytes = record { bytes = bytes; at = 0; over = false }

-- before something is put
abbrev pub begun : Sink → Filling
begun s = record { bytes = s.room.now; at = s.at; over = false }

-- after a byte that found no room
abbrev pub stopped : Sink → Filling
stopped s = record { bytes = s.room.now; at = s.at; over = true }

-- after something was put, with this result
abbrev pub filling : {A : Type 0} → Sink → Result A Full → Filling
filling s (Ok x) = begun s
filling s (Err e) = stopped s

abbrev pub stored : List ℕ → ℕ → ℕ → Bool → Filling
stored bytes at b true = record { bytes = set bytes at b; at = at + 1; over = false }
stored bytes at b false = record { bytes = bytes; at = at; over = true }

-- one byte
abbrev pub put_one : Filling → ℕ → Filling
put_one f b = cond f.over f (stored f.bytes f.at b (ltb f.at (length f.bytes)))

-- some bytes
unfoldable pub puts : Filling → List ℕ → Filling
puts f [] = f
puts f (b ∷ bs) = puts (put_one f b) bs
