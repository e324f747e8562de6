-- The formula of the trouble lists at a position, with what holds of each there, and the rows that the writer shows for it.
use Prim.Native.Nat.{ℕ, zero, suc, ◌<◌}
use mathlib.Core.Path.{◌≡◌, ap}
use mathlib.Core.List.{List, [], ◌∷◌}
use native.Mathlib.Omega.{arith}
use lib.ListN.{length, get_or}
use Rattle.page_meaning.specs.Contents.{Question}
use Rattle.page_meaning.specs.Trouble.{All}
use Rattle.page_formulas.specs.Formulas.{Formula}
use Rattle.page_formulas.proofs.Agreement.{Agrees, AgreeAll}
use Rattle.page_meaning.specs.Trouble as trouble

pub pairs_of_lem : {F G : Formula} → F ≡ G → F.pairs ≡ G.pairs
pairs_of_lem e = ap (λ H. H.pairs) e

module _ (q : Question) where
  -- the one at position i, with what holds of each
  pub agree_at : (P : trouble.Formula → Type 0) (φs : List trouble.Formula) (Fs : List Formula) → AgreeAll q φs Fs → trouble.All P φs → (i : ℕ) (F : Formula) → i < length Fs → (φ : trouble.Formula) × P φ × Agrees q φ (get_or Fs i F)
  agree_at P [] [] a p i F h = absurd (omega arith)
  agree_at P [] (G ∷ Gs) a p i F h = absurd a
  agree_at P (φ ∷ φs) [] a p i F h = absurd a
  agree_at P (φ ∷ φs) (G ∷ Gs) a p zero F h = (φ, p.0, a.0)
  agree_at P (φ ∷ φs) (G ∷ Gs) a p (suc i) F h = agree_at P φs Gs a.1 p.1 i F (omega arith)
