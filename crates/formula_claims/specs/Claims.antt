-- The table's words under a context, and the rows that they speak of.
use Rattle.std.specs.Prelude.{Bool, cond, ◌&&◌}
use Rattle.page_meaning.specs.Contents as M
use Rattle.page_meaning.specs.Claims as claim
use Rattle.page_formulas.specs.Compilation as S
use Rattle.page_formulas.specs.Program as P
use Rattle.page_formulas.specs.Formulas as F
use Rattle.sights.specs.Sights.{modes_of}
use Rattle.pieces.specs.Pieces.{tokens_of}
use Rattle.formula_contexts.specs.declared.contexts.Context.{Context}

-- the rows of a line: two, or the first
abbrev pub rows_of : M.Question → Bool → Bool → S.Sight
rows_of Q pairs i = cond (pairs && i) (F.second_sight Q) F.first_sight

-- the table's words under a context
abbrev pub words_of : M.Question → Context → claim.Reading S.Sight P.Program
words_of Q d = F.programs Q (tokens_of d.chosen.now) (modes_of d.sight)
