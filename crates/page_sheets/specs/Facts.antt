-- The facts of a formula as edges of a grid: of its ranges, and of its places as they are decided.
use Rattle.std.specs.Prelude.{ℕ, suc, Bool, true, false, [], ◌∷◌, negsuc, ◌+ℤ◌, neg_ℤ}
use Rattle.std.proofs.Math.Option.{Option, none, some}
use Rattle.page_meaning.specs.Contents.{Range}
use Rattle.page_walks.specs.Grid.{Grid, tighten, blank}
use Rattle.page_formulas.specs.Program.{Place}
use Rattle.page_formulas.specs.Vertices.{Ranges}

-- FORMAT 5.6: both ends of a range are facts
abbrev pub confine : Grid → ℕ → Option Range → Grid
confine g v none = g
confine g v (some r) = tighten (tighten g 0 v r.hi) v 0 (neg_ℤ r.lo)

-- of vertices v, v + 1, ..
unfoldable pub confine_all : Grid → ℕ → Ranges → Grid
confine_all g v [] = g
confine_all g v (r ∷ rs) = confine_all (confine g v r) (suc v) rs

-- before any decision, over N vertex numbers
abbrev pub start : ℕ → Ranges → Grid
start N rs = confine_all (blank N) 1 rs

-- FORMAT 5.6: a place that is false
abbrev pub negation : Place → Place
negation p = record { left = p.right; right = p.left; most = neg_ℤ p.most +ℤ negsuc 0 }

-- a place taken as true, or as false
abbrev pub taken : Place → Bool → Place
taken p true = p
taken p false = negation p

-- FORMAT 5.6: a decided place as an edge; of several the least counts
abbrev pub decide : Grid → Place → Bool → Grid
decide g p d = tighten g (taken p d).right (taken p d).left (taken p d).most
