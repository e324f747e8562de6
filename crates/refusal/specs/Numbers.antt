-- The number of each fault (FORMAT 4.3).
use Rattle.std.specs.Prelude.{ℕ}
use Rattle.refusal.specs.declared.Fault.{Fault}
use Rattle.refusal.specs.declared.Fault.TheVariants.{Short, Mark, Version, Code, Range, Token, Column, Hidden, Long, SheetShort, SheetMark, SheetVersion, SheetCode, SheetFalse, SheetLong, Asked, Room}

abbrev pub number_of : Fault → ℕ
number_of Short = 1
number_of Mark = 2
number_of Version = 3
number_of Code = 4
number_of Range = 5
number_of Token = 6
number_of Column = 7
number_of Hidden = 8
number_of Long = 9
number_of SheetShort = 11
number_of SheetMark = 12
number_of SheetVersion = 13
number_of SheetCode = 14
number_of SheetFalse = 15
number_of SheetLong = 16
number_of Asked = 20
number_of Room = 21
