-- What the code finds for a column is what the sight says: its vertex, its mode.
use Rattle.std.proofs.Common.{◌≡◌, ℕ, zero, suc, ◌+◌, ◌-◌, ◌≤◌, Bool, true, false, List, [], ◌∷◌, ◌++◌, get_or, replicate, refl, sym, ap, ◌∙◌, arith}
use mathlib.Core.Path.{ap₂}
use Rattle.page_meaning.specs.Contents.{Mode, keep, become, shift}
use Rattle.page_meaning.specs.WellFormed.{Reads}
use Rattle.question.specs.Held.{question_of}
use Rattle.question.specs.declared.types.Question.{Question}
use Rattle.sights.specs.Sights.{no_column, row_sight, vertex_of, modes_of, mode_in, There, Whole, Has, Usable, ModeReads}
use Rattle.sights.specs.declared.types.Sight.{Sight}
use Rattle.sights.proofs.Shapes.{visible_is, columns_length}

-- a question's column has the vertex of its row
pub row_vertex : (q : Question) (w : Whole q) (second : Bool) (i : ℕ) → There q i → vertex_of second (get_or q.columns i no_column).visible q.shape.total i ≡ (row_sight (question_of q) second i).vertex
row_vertex q w true i h = ap₂ (λ b n. vertex_of true b n i) (sym (visible_is q i h)) (sym (columns_length q w))
row_vertex q w false i h = refl

-- ---- modes

from : (n : ℕ) (ms : List Mode) (i : ℕ) → n ≤ i → get_or (replicate n keep ++ ms) i keep ≡ get_or ms (i - n) keep
from zero ms i h = ap (λ k. get_or ms k keep) (omega arith)
from (suc n) ms zero h = absurd (omega arith)
from (suc n) ms (suc i) h = from n ms i (omega arith) ∙ ap (λ k. get_or ms k keep) (omega arith)

pub reads_at : (P : ℕ → Type 0) (ms : List Mode) (j : ℕ) → Reads P ms → ModeReads P (get_or ms j keep)
reads_at P [] j r = tt
reads_at P (keep ∷ ms) zero r = tt
reads_at P (become k ∷ ms) zero r = tt
reads_at P (shift o k ∷ ms) zero r = r.0
reads_at P (keep ∷ ms) (suc j) r = reads_at P ms j r
reads_at P (become k ∷ ms) (suc j) r = reads_at P ms j r
reads_at P (shift o k ∷ ms) (suc j) r = reads_at P ms j r.1

module _ (s : Sight) (i : ℕ) (e : s.moved ≡ true) where
  -- the changed table's column j
  pub mode_from : (j : ℕ) → i ≡ s.first + j → mode_in s i ≡ get_or (modes_of s) j keep
  mode_from j h = rw e (from s.first (modes_of s) i (omega arith) ∙ ap (λ k. get_or (modes_of s) k keep) (omega arith))

  pub mode_reads : (j : ℕ) → Usable s → ModeReads (Has s) (get_or (modes_of s) j keep)
  mode_reads j u = reads_at (Has s) (modes_of s) j (rw e at u.reads)
