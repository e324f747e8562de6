-- A compiled formula's ranges, as they are lent: they are small and have a value.
use Rattle.std.proofs.Common.{◌≡◌, ℕ, zero, suc, ◌<◌, List, [], ◌∷◌, Option, Some, None, is_some, length, get_or, sym, ap, ◌∙◌, subst, arith, refl}
use Rattle.std.proofs.Math.Option as maybe
use Rattle.page_meaning.specs.Limits.{most_vertices}
use Rattle.page_meaning.specs.Contents as M
use Rattle.page_questions.specs.Guarantees.{Every}
use Rattle.page_formulas.specs.Vertices.{Ranges, present}
use Rattle.page_formulas.specs.Vertices as V
use Rattle.page_formulas.specs.Formulas as F
use Rattle.page_formulas.specs.ProperFormulas.{SmallRange, Nonempty}
use Rattle.program.specs.Meanings.{range_of, entry_of}
use Rattle.program.specs.Compiled.{Covers, Compiled, Spanned, SmallSpans, Ranging, Ranged}
use Rattle.program.specs.Lent.{Flagged}
use Rattle.program.specs.declared.types.Range.{Range}
use Rattle.program.specs.declared.types.Formula.{Formula}

-- ---- ranges by position

range_at : (Q : maybe.Option M.Range → Type 0) (rs : Ranges) → Every Q rs → Q maybe.none → (k : ℕ) → Q (get_or rs k maybe.none)
range_at Q [] a n k = n
range_at Q (r ∷ rs) a n zero = a.0
range_at Q (r ∷ rs) a n (suc k) = range_at Q rs a.1 n k

module _ (ranges : List (Option Range)) (rs : Ranges) (c : Covers ranges rs) where
  -- a vertex that is there has its range
  pub covered : (k : ℕ) (g : Range) → get_or ranges (suc k) None ≡ Some g → get_or rs k maybe.none ≡ maybe.some (range_of g)
  covered k g e = sym (c.agree k) ∙ ap entry_of e

  some_entry : (o : Option Range) → is_some o ≡ V.is_some (entry_of o)
  some_entry None = refl
  some_entry (Some g) = refl

  pub flagged : Flagged ranges rs
  flagged = record { agree = go }
    where
      go : (v : ℕ) → is_some (get_or ranges v None) ≡ present rs v
      go zero = c.zero
      go (suc k) = some_entry (get_or ranges (suc k) None) ∙ ap V.is_some (c.agree k)

  -- what holds of each range holds of each vertex's, but zero's
  at_vertex : (Q : maybe.Option M.Range → Type 0) → Every Q rs → Q maybe.none → (v : ℕ) → 0 < v → (g : Range) → get_or ranges v None ≡ Some g → Q (maybe.some (range_of g))
  at_vertex Q a n zero z g e = absurd (omega arith)
  at_vertex Q a n (suc k) z g e = subst Q (covered k g e) (range_at Q rs a n k)

  module _ (small : Every SmallRange rs) where
    pub small_spans : SmallSpans ranges
    small_spans =
        record {
          low = λ v z g e. let b = at_vertex SmallRange small tt v z g e in record { high = omega (arith, b.2); low = omega (arith, b.3) };
          high = λ v z g e. let b = at_vertex SmallRange small tt v z g e in record { high = omega (arith, b.0); low = omega (arith, b.1) };
        }

pub ranged : (rs : Ranges) (count : ℕ) (ranges : List (Option Range)) → Ranging rs count ranges → Every SmallRange rs → Every Nonempty rs → Ranged count ranges
ranged rs count ranges r small some-value = record {
  some_vertex = omega (arith, r.count_is);
  few = omega (arith, r.count_is, r.spans.few);
  nonempty = λ v z h g e. at_vertex ranges rs r.spans.covers Nonempty some-value tt v z g e;
  small_lo = λ v z h g e. let b = at_vertex ranges rs r.spans.covers SmallRange small tt v z g e in (b.2, b.3);
  small_hi = λ v z h g e. let b = at_vertex ranges rs r.spans.covers SmallRange small tt v z g e in (b.0, b.1);
}

-- ---- a compiled formula's

module _ (f : Formula) (F : F.Formula) (c : Compiled f F) where
  pub shows_of : Flagged f.vertices.ranges F.ranges
  shows_of = flagged f.vertices.ranges F.ranges c.vertices.covers

  module _ (few : length F.ranges < most_vertices) where
    pub spanned_of : Spanned F.ranges f.vertices.ranges
    spanned_of = record { few = few; covers = c.vertices.covers }

    pub ranging_of : Ranging F.ranges f.vertices.count f.vertices.ranges
    ranging_of = record { count_is = c.vertices.count; spans = spanned_of }
