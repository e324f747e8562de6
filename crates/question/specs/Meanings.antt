-- What the parts of a question mean: their used fields as the lists that `page_meaning` speaks of.
use Rattle.std.specs.Prelude.{ℕ, List, map, take}
use Rattle.page_meaning.specs.Condition as C
use Rattle.page_meaning.specs.Contents as M
use Rattle.page_questions.specs.Layout as L
use Rattle.question.specs.declared.types.Op.{Op}
use Rattle.question.specs.declared.types.Op.TheVariants.{Less, AtMost, Equal, AtLeast, More, Unequal}
use Rattle.question.specs.declared.types.Side.{Side}
use Rattle.question.specs.declared.types.Side.TheVariants as side
use Rattle.question.specs.declared.types.Kind.{Kind}
use Rattle.question.specs.declared.types.Kind.TheVariants.{Compare, Both, Either, Negate}
use Rattle.question.specs.declared.types.Token.{Token}
use Rattle.question.specs.declared.types.Condition.{Condition}
use Rattle.question.specs.declared.types.Column.{Column}
use Rattle.question.specs.declared.types.Mode.{Mode}
use Rattle.question.specs.declared.types.Mode.TheVariants.{Keep, Become, Shift}
use Rattle.question.specs.declared.types.Setting.{Setting}
use Rattle.question.specs.declared.types.Row.{Row}
use Rattle.question.specs.declared.types.Verb.{Verb}
use Rattle.question.specs.declared.types.Verb.TheVariants.{Insert, Delete, Modify}
use Rattle.question.specs.declared.types.Change.{Change}
use Rattle.question.specs.declared.types.Shape.{Shape}
use Rattle.question.specs.declared.types.Version.{Version}
use Rattle.question.specs.declared.types.Version.TheVariants.{One, Two}
use Rattle.question.specs.Sizes.{widths_of}

-- ---- conditions

abbrev pub op_of : Op → C.Op
op_of Less = C.less
op_of AtMost = C.at_most
op_of Equal = C.equal
op_of AtLeast = C.at_least
op_of More = C.more
op_of Unequal = C.unequal

abbrev pub side_of : Side → C.Side
side_of (side.Constant k) = C.constant k
side_of (side.Column i k) = C.column i k

abbrev pub kind_of : Kind → C.Token
kind_of (Compare o i s) = C.compare (op_of o) i (side_of s)
kind_of Both = C.both
kind_of Either = C.either
kind_of Negate = C.negate

abbrev pub token_of : Token → C.Token
token_of t = kind_of t.kind

-- the first `count` tokens
abbrev pub condition_of : Condition → C.Condition
condition_of c = map token_of (take c.count c.tokens)

-- ---- columns

abbrev pub column_of : Column → L.Column
column_of c = record { range = record { lo = c.lo; hi = c.hi }; shown = c.visible }

-- ---- the change

abbrev pub mode_of : Mode → M.Mode
mode_of Keep = M.keep
mode_of (Become k) = M.become k
mode_of (Shift j k) = M.shift j k

abbrev pub setting_of : Setting → M.Mode
setting_of s = mode_of s.mode

-- the first `width` values of an inserted row
abbrev pub row_of : ℕ → Row → M.Values
row_of width r = take width r.values

-- the number of a kind of change (FORMAT 3.2)
abbrev pub verb_number : Verb → ℕ
verb_number Insert = 1
verb_number Delete = 2
verb_number Modify = 3

-- a change of a table of so many columns, by its verb
abbrev pub change_by : Verb → ℕ → Change → M.Change
change_by Insert width ch = M.insert (map (row_of width) (take ch.count ch.rows))
change_by Delete width ch = M.delete (condition_of ch.condition)
change_by Modify width ch = M.modify (condition_of ch.condition) (map setting_of (take width ch.settings))

abbrev pub change_of : ℕ → Change → M.Change
change_of width ch = change_by ch.verb width ch

-- ---- the question

abbrev pub version_of : Version → M.Version
version_of One = M.version1
version_of Two = M.version2

-- the question of these parts
abbrev pub question_with : Version → Shape → List Column → Condition → Change → M.Question
question_with v h cs c ch =
    L.question_from (version_of v) (widths_of h) h.changed (map column_of (take h.total cs)) (condition_of c) (change_of h.width ch)
