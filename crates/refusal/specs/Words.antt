-- Refusals as text (FORMAT 9.4).
use Rattle.std.specs.Prelude.{ℕ, List, ◌++◌, codes, decimal}
use Rattle.refusal.specs.Numbers.{number_of}
use Rattle.refusal.specs.declared.Fault.{Fault}
use Rattle.refusal.specs.declared.Fault.TheVariants.{Short, Mark, Version, Code, Range, Token, Column, Hidden, Long, SheetShort, SheetMark, SheetVersion, SheetCode, SheetFalse, SheetLong, Asked, Room}
use Rattle.refusal.specs.declared.Refusal.{Refusal}

-- what a fault means
abbrev pub meaning_of : Fault → List ℕ
meaning_of Short = codes "a field runs past the end"
meaning_of Mark = codes "wrong mark"
meaning_of Version = codes "wrong version"
meaning_of Code = codes "a count, kind, table, mode, visible byte, kept constant or unused column is not as said, or a seventh comparison"
meaning_of Range = codes "a number out of range"
meaning_of Token = codes "an unknown token or operator, a missing operand or an unfinished condition"
meaning_of Column = codes "a column that does not exist or is not of the changed table"
meaning_of Hidden = codes "no visible column"
meaning_of Long = codes "bytes after the question's end"
meaning_of SheetShort = codes "the sheet is too short"
meaning_of SheetMark = codes "the sheet has a wrong mark"
meaning_of SheetVersion = codes "the sheet has a wrong version"
meaning_of SheetCode = codes "a byte of the sheet is none of the values that it may have"
meaning_of SheetFalse = codes "a leaf, branch, value or row of the sheet does not hold"
meaning_of SheetLong = codes "bytes after the sheet's end"
meaning_of Asked = codes "asked for neither irrelevant nor computable"
meaning_of Room = codes "the sheet is longer than the room"

-- its number and its place
abbrev pub text_of : Refusal → List ℕ
text_of r = decimal (number_of r.fault) ++ (codes " " ++ decimal r.place)
