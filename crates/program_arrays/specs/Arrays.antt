-- A program in four lent arrays, whose instructions are any bytes, and what a step that writes there adds.
use Rattle.std.specs.Prelude.{ℕ, ◌+◌, ◌≤◌, ◌≡◌, List, ◌++◌, map, length, take, ℤ}
use Rattle.page_meaning.specs.Limits.{most_decisions}
use Rattle.page_formulas.specs.Program as P
use Rattle.page_formulas.specs.Kinds.{kinds_of}
use Rattle.page_formulas.specs.Costs.{most_instructions}
use Rattle.program_arrays.specs.declared.types.End.{End}

-- The first `count` kinds are the program: 0 place, 1 and, 2 or, 3 not, 4 true, 5 false. The first `places` entries of the other three
-- lists are its places in order: left − right ≤ most. Contracts speak of it; no code builds one.
pub record Arrays : Type 0 where
  pub kinds : List ℕ
  pub count : ℕ
  pub left : List ℕ
  pub right : List ℕ
  pub most : List ℤ
  pub places : ℕ

-- the program in four lent arrays, as far as it is written
abbrev pub arrays_of : List ℕ → List ℕ → List ℕ → List ℤ → End → Arrays
arrays_of kinds left right most e = record { kinds = kinds; count = e.count; left = left; right = right; most = most; places = e.places }

-- its arrays are as long as declared
pub record LongIn (p : Arrays) : Type 0 where
  pub kinds : length p.kinds ≡ most_instructions
  pub left : length p.left ≡ most_decisions
  pub right : length p.right ≡ most_decisions
  pub most : length p.most ≡ most_decisions

-- so many instructions and places more fit
pub record RoomIn (p : Arrays) (n m : ℕ) : Type 0 where
  pub long : LongIn p
  pub instructions : p.count + n ≤ most_instructions
  pub places : p.places + m ≤ most_decisions

-- r is p with the instructions x after it
pub record EmitsIn (p r : Arrays) (x : P.Program) : Type 0 where
  pub kinds : take r.count r.kinds ≡ take p.count p.kinds ++ kinds_of x
  pub left : take r.places r.left ≡ take p.places p.left ++ map (λ a. a.left) (P.places x)
  pub right : take r.places r.right ≡ take p.places p.right ++ map (λ a. a.right) (P.places x)
  pub most : take r.places r.most ≡ take p.places p.most ++ map (λ a. a.most) (P.places x)
  pub count : r.count ≡ p.count + length x
  pub places : r.places ≡ p.places + length (P.places x)

-- r is p with x after it, which is so many instructions and places at most
pub record BuildsIn (p r : Arrays) (n m : ℕ) (x : P.Program) : Type 0 where
  pub long : LongIn r
  pub emits : EmitsIn p r x
  pub few : r.count ≤ p.count + n
  pub few_places : r.places ≤ p.places + m
