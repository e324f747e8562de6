-- Bytes in hexadecimal, two digits each, in small letters.
use Rattle.std.specs.Prelude.{ℕ, ◌+◌, ◌-◌, ◌*◌, Bool, true, false, cond, List, [], ◌∷◌, ltb}
use Rattle.std.proofs.Math.Option.{Option, none, some}

-- 48 to 57 are the digits 0 to 9, 97 to 102 are a to f; 16 is no digit
unfoldable pub digit_of : ℕ → ℕ
digit_of d = cond (ltb d 48) 16 (cond (ltb d 58) (d - 48) (cond (ltb d 97) 16 (cond (ltb d 103) (d - 97 + 10) 16)))

-- 256 is no byte
unfoldable pub byte_of : ℕ → ℕ → ℕ
byte_of high low = cond (ltb (digit_of high) 16) (cond (ltb (digit_of low) 16) (16 * digit_of high + digit_of low) 256) 256

-- a byte before others, where it is one
abbrev pub before : Bool → ℕ → Option (List ℕ) → Option (List ℕ)
before true x (some rest) = some (x ∷ rest)
before true x none = none
before false x rest = none

-- the bytes that digits mean; none where a digit is wrong or has no partner
unfoldable pub bytes_of_hex : List ℕ → Option (List ℕ)
bytes_of_hex [] = some []
bytes_of_hex (high ∷ []) = none
bytes_of_hex (high ∷ low ∷ rest) = before (ltb (byte_of high low) 256) (byte_of high low) (bytes_of_hex rest)
