-- What decoding answers, and what it leaves in the room, for the bytes that the digits mean.
use Rattle.std.specs.Prelude.{ℕ, ◌<◌, ◌≤◌, ◌≡◌, List, ◌++◌, length, drop}
use Rattle.std.specs.Prelude as std
use Rattle.std.proofs.Math.Option.{Option, none, some}

abbrev pub Decodes : Option (List ℕ) → std.Option ℕ → List ℕ → List ℕ → Type 0
Decodes (some bytes) (std.Some n) old new = (n ≡ length bytes) × (n ≤ length old) × (new ≡ bytes ++ drop n old)
Decodes (some bytes) std.None old new = length old < length bytes
Decodes none (std.Some n) old new = ⊥
Decodes none std.None old new = Unit {0}
