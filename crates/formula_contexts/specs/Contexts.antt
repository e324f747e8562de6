-- What the code takes for granted of a question when it writes its formulas, and what they are read under.
use Rattle.std.specs.Prelude.{ℕ, ◌<◌, ◌≡◌, Bool, true, List, [], map, length, get_or, take, ℤ}
use Rattle.page_meaning.specs.Limits.{most_columns}
use Rattle.page_meaning.specs.Contents.{Mode, become, columns, first}
use Rattle.page_meaning.specs.Contents as M
use Rattle.page_meaning.specs.Condition as C
use Rattle.page_meaning.specs.WellFormed.{Reads}
use Rattle.question.specs.Held.{condition_of, setting_of, question_of}
use Rattle.question.specs.Held as H
use Rattle.question.specs.declared.types.Question.{Question}
use Rattle.question.specs.declared.types.Shape.{Shape}
use Rattle.question.specs.declared.types.Setting.{Setting}
use Rattle.question.specs.declared.types.Token.{Token}
use Rattle.question.specs.declared.types.Row.{Row}
use Rattle.question.specs.declared.types.Verb.{Verb}
use Rattle.question.specs.declared.types.Verb.TheVariants.{Insert, Delete, Modify}
use Rattle.page_formulas.specs.Compilation as S
use Rattle.page_formulas.specs.Formulas.{bounded_all}
use Rattle.sights.specs.Sights.{There, Has, Usable, modes_of, visible_of}
use Rattle.pieces.specs.Pieces.{tokens_of, Compilable, table_from}
use Rattle.sights.specs.declared.types.Sight.{Sight}
use Rattle.formula_contexts.specs.declared.contexts.Context.{Context}

-- ---- the question

-- the modify's modes
abbrev pub settled_modes : Question → List Mode
settled_modes q = map setting_of (take q.shape.width q.change.settings)

-- a column of these tables
abbrev pub Of : Shape → ℕ → Type 0
Of h i = i < h.total

-- the tokens of its list's condition, and of its change's
abbrev pub listed_tokens : Question → List Token
listed_tokens q = take q.condition.count q.condition.tokens

abbrev pub chosen_tokens : Question → List Token
chosen_tokens q = take q.change.condition.count q.change.condition.tokens

-- its list can be worked out
abbrev pub Able : Question → Type 0
Able q = Compilable (There q) (listed_tokens q)

-- and a delete's condition
pub record Chooses (q : Question) : Type 0 where
  pub able : Able q
  pub chosen : Compilable (There q) (chosen_tokens q)

-- and a modify's new values
pub record Modifies (q : Question) : Type 0 where
  pub chooses : Chooses q
  pub reads : Reads (There q) (settled_modes q)

-- what its change asks
abbrev pub Buildable : Verb → Question → Type 0
Buildable Insert q = Able q
Buildable Delete q = Chooses q
Buildable Modify q = Modifies q

-- ---- what it is read under

-- the machine's row past the end of an array
abbrev pub no_row : Row
no_row = record { values = [] }

-- the condition and the modes of formula i
abbrev pub condition_for : Verb → Question → C.Condition
condition_for Insert q = []
condition_for Delete q = condition_of q.change.condition
condition_for Modify q = condition_of q.change.condition

abbrev pub modes_for : Verb → Question → ℕ → List Mode
modes_for Insert q i = map become (H.row_of q.shape.width (get_or q.change.rows i no_row))
modes_for Delete q i = []
modes_for Modify q i = settled_modes q

-- one row of a sight, as it is or moved
abbrev pub view_of : Sight → Bool → Bool → Sight
view_of s second moved = record { columns = s.columns; modes = s.modes; first = s.first; second = second; moved = moved }

-- its columns and conditions are the question's
pub record Under (Q : M.Question) (d : Context) : Type 0 where
  pub first : first Q ≡ d.sight.first
  pub total : length (columns Q) ≡ length d.sight.columns.now
  pub visible : Q.visible ≡ visible_of d.sight
  pub listed : Q.condition ≡ tokens_of d.listed.now
  pub tests : (σ : S.Sight) → bounded_all σ (table_from d.sight.first d.sight.columns.now) (modes_of d.sight) ≡ bounded_all σ Q.changed (modes_of d.sight)

-- it is some question's, and its sight and conditions can be read
pub record Legible (d : Context) : Type 0 where
  pub question : M.Question
  pub under : Under question d
  pub usable : Usable d.sight
  pub moved : d.sight.moved ≡ true
  pub listed : Compilable (Has d.sight) d.listed.now
  pub chosen : Compilable (Has d.sight) d.chosen.now

-- the context of the question Q, as it is declared
pub record Made (Q : M.Question) (d : C.Condition) (ms : List Mode) (two : Bool) (r : Context) : Type 0 where
  pub legible : Legible r
  pub under : Under Q r
  pub condition : tokens_of r.chosen.now ≡ d
  pub modes : modes_of r.sight ≡ ms
  pub pairs : r.pairs ≡ two

-- and of a declared question
abbrev pub Done : Question → C.Condition → List Mode → Bool → Context → Type 0
Done q d ms two r = Made (question_of q) d ms two r

-- settings that put the values in
pub record Becomes (vs : List ℤ) (ss : List Setting) : Type 0 where
  pub long : length ss ≡ most_columns
  pub modes : map setting_of ss ≡ map become vs
