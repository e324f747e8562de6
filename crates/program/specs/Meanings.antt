-- What the declared words mean: instructions, places, terms, and what a vertex ranges over.
use Rattle.std.specs.Prelude.{ℕ, List, take, pos, Option, Some, None}
use Rattle.std.proofs.Math.Option as maybe
use Rattle.page_meaning.specs.Contents as M
use Rattle.page_formulas.specs.Program as P
use Rattle.page_formulas.specs.Kinds.{nowhere}
use Rattle.program.specs.declared.types.Instruction.{Instruction}
use Rattle.program.specs.declared.types.Instruction.TheVariants as does
use Rattle.program.specs.declared.types.Place.{Place}
use Rattle.program.specs.declared.types.Program.{Program}
use Rattle.program.specs.declared.types.Range.{Range}
use Rattle.program.specs.declared.types.Term.{Term}

-- the number of an instruction, as the pages number them
abbrev pub number_of : Instruction → ℕ
number_of does.Place = 0
number_of does.And = 1
number_of does.Or = 2
number_of does.Not = 3
number_of does.True = 4
number_of does.False = 5

-- what it does by itself; of a place, which it takes from the places, no more than that it is one
abbrev pub instr_of : Instruction → P.Instr
instr_of does.Place = P.place nowhere
instr_of does.And = P.and_i
instr_of does.Or = P.or_i
instr_of does.Not = P.not_i
instr_of does.True = P.true_i
instr_of does.False = P.false_i

-- it stands by itself: it is no place
abbrev pub Bare : Instruction → Type 0
Bare does.Place = ⊥
Bare does.And = Unit {0}
Bare does.Or = Unit {0}
Bare does.Not = Unit {0}
Bare does.True = Unit {0}
Bare does.False = Unit {0}

abbrev pub place_of : Place → P.Place
place_of a = record { left = a.left; right = a.right; most = a.most }

-- the machine's place past the end of an array
abbrev pub no_place : Place
no_place = record { left = 0; right = 0; most = pos 0 }

abbrev pub term_of : Term → P.Term
term_of t = record { vertex = t.vertex; offset = t.offset }

-- the used parts of a program
abbrev pub instructions_of : Program → List Instruction
instructions_of p = take p.length p.instructions

abbrev pub places_of : Program → List Place
places_of p = take p.decisions p.places

abbrev pub range_of : Range → M.Range
range_of g = record { lo = g.lo; hi = g.hi }

-- a vertex's range, where the formula has the vertex
abbrev pub entry_of : Option Range → maybe.Option M.Range
entry_of None = maybe.none
entry_of (Some g) = maybe.some (range_of g)

-- zero's
abbrev pub zero_range : Range
zero_range = record { lo = pos 0; hi = pos 0 }
