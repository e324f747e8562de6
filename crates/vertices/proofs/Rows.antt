-- A formula's vertices, one vertex number after another.
use Rattle.std.proofs.Common.{◌≡◌, ℕ, zero, suc, ◌+◌, ◌<◌, Bool, not, ◌&&◌, List, [], ◌∷◌, ◌++◌, map, Option, Some, None, is_some, length, get_or, take, set, replicate, refl, sym, ap, ◌∙◌, subst, append_assoc, add-one, arith, length-append, length-set, get_or-set_other, get_or-set_same}
use Rattle.std.proofs.Math.Option as maybe
use mathlib.Core.List.{append-nil}
use Rattle.std.proofs.Math.Seq.{get_or-append_seam, take-suc}
use native.Mathlib.Decide.{ℕ_discrete}
use Rattle.page_meaning.specs.Limits.{most_vertices}
use Rattle.page_meaning.specs.Contents as M
use Rattle.page_formulas.specs.Vertices.{Ranges}
use Rattle.question.specs.Held.{column_of}
use Rattle.question.specs.declared.types.Column.{Column}
use Rattle.sights.specs.Sights.{no_column}
use Rattle.program.specs.Meanings.{entry_of, zero_range}
use Rattle.program.specs.Compiled.{Spans, range_if}
use Rattle.program.specs.declared.types.Range.{Range}
use Rattle.program.specs.declared.types.Vertices.{Vertices}
use Rattle.vertices.specs.Rows.{row_ranges, Widen, Widens}

-- an entry at the end, and the others
last : (rs : Ranges) (o : maybe.Option M.Range) (k : ℕ) → k ≡ length rs → get_or (rs ++ (o ∷ [])) k maybe.none ≡ o
last rs o k e = ap (λ k. get_or (rs ++ (o ∷ [])) k maybe.none) e ∙ get_or-append_seam rs o [] maybe.none

other : (rs : Ranges) (o : maybe.Option M.Range) (k : ℕ) → (k ≡ length rs → ⊥) → get_or (rs ++ (o ∷ [])) k maybe.none ≡ get_or rs k maybe.none
other [] o zero h = absurd (h refl)
other [] o (suc k) h = refl
other (r ∷ rs) o zero h = refl
other (r ∷ rs) o (suc k) h = other rs o k (λ e. h (ap suc e))

abbrev pub widened : Vertices → Option Range → Vertices
widened v o = record { count = v.count + 1; ranges = set v.ranges v.count o }

module _ (v : Vertices) (rs : Ranges) (s : Spans v rs) (o : Option Range) (long : length v.ranges ≡ most_vertices) (room : v.count < most_vertices) where
  entry_at : (k : ℕ) → Dec (k ≡ length rs) → entry_of (get_or (set v.ranges v.count o) (suc k) None) ≡ get_or (rs ++ (entry_of o ∷ [])) k maybe.none
  entry_at k (yes e) =
      let n : suc k ≡ v.count = omega (arith, s.count) in
      ap (λ n. entry_of (get_or (set v.ranges v.count o) n None)) n ∙ ap entry_of (get_or-set_same v.ranges v.count o None (omega arith)) ∙ sym (last rs (entry_of o) k e)
  entry_at k (no h) = ap entry_of (get_or-set_other v.ranges v.count (suc k) o None (λ e. h (omega (arith, s.count)))) ∙ s.covers.agree k ∙ sym (other rs (entry_of o) k h)

  pub spans_add : Spans (widened v o) (rs ++ (entry_of o ∷ []))
  spans_add =
      record {
        count = omega (arith, s.count, length-append rs (entry_of o ∷ []));
        covers = record { zero = ap is_some (get_or-set_other v.ranges v.count 0 o None (λ e. absurd (omega (arith, s.count)))) ∙ s.covers.zero; agree = λ k. entry_at k (ℕ_discrete k (length rs)) };
      }

-- ---- a row's

pub widens_none : (v : Vertices) (n : ℕ) → Widen v n → Widens v v 0 []
widens_none v n w = record { long = w.long; count = omega arith; spans = λ rs s. subst (Spans v) (sym (append-nil rs)) s }

module _ (v r : Vertices) (i : ℕ) (more : Ranges) (w : Widens v r i more) (room : r.count < most_vertices) (o : Option Range) where
  pub widens_more : Widens v (widened r o) (i + 1) (more ++ (entry_of o ∷ []))
  widens_more =
      record {
        long = length-set r.ranges r.count o ∙ w.long;
        count = omega (arith, w.count);
        spans = λ rs s. subst (Spans (widened r o)) (append_assoc rs more (entry_of o ∷ [])) (spans_add r (rs ++ more) (w.spans rs s) o w.long room);
      }

map_append : {A B : Type 0} (f : A → B) (s t : List A) → map f (s ++ t) ≡ map f s ++ map f t
map_append f [] t = refl
map_append f (a ∷ s) t = ap (λ l. f a ∷ l) (map_append f s t)

-- one column more
pub row_more : (second : Bool) (cs : List Column) (i : ℕ) (o : Option Range) → i < length cs → entry_of o ≡ range_if (not (second && (get_or cs i no_column).visible)) (column_of (get_or cs i no_column)).range → row_ranges second (take i cs) ++ (entry_of o ∷ []) ≡ row_ranges second (take (i + 1) cs)
row_more second cs i o h e =
    let f : Column → maybe.Option M.Range = λ c. range_if (not (second && c.visible)) (column_of c).range in
    ap (λ r. row_ranges second (take i cs) ++ (r ∷ [])) e
    ∙ sym (ap (map f) (ap (λ n. take n cs) (add-one i) ∙ take-suc cs i no_column h) ∙ map_append f (take i cs) (get_or cs i no_column ∷ []))

-- vertex 0 alone
pub zero_spans : Spans (record { count = 1; ranges = set (replicate most_vertices None) 0 (Some zero_range) }) []
zero_spans = record { count = refl; covers = record { zero = refl; agree = λ k. ap entry_of (nothing 24 k) } }
  where
    nothing : (n k : ℕ) → get_or {A = Option Range} (replicate n None) k None ≡ None
    nothing zero k = refl
    nothing (suc n) zero = refl
    nothing (suc n) (suc k) = nothing n k
