-- Insert: its formulas are exact.
use mathlib.Core.Path.{◌≡◌, refl, sym, ap, ◌∙◌, subst}
use mathlib.Core.Logic.{◌⊎◌, inl, inr}
use mathlib.Core.List.{List, [], ◌∷◌, ◌++◌, map}
use lib.Dec.{T}
use Rattle.page_meaning.specs.Contents.{Question, insert, Values, Table, TableFits, TablesFit, Joined, ◌∈◌, each, columns_of, look, part, Contents, Valid, values, row, Listed, after_by}
use Rattle.page_meaning.specs.Claims.{unless_alone}
use Rattle.page_meaning.specs.Trouble.{Formula, one, All, Met, AllFail, irrelevance}
use Rattle.page_meaning.proofs.Words.{C, put}
use Rattle.page_meaning.specs.Witness.{cut, none, witness}
use Rattle.page_meaning.proofs.MovedRows.{Wide, with, fits_length, put_same}
use Rattle.page_meaning.proofs.Tables.{joined_fits, fits_append, cut_fits, cut_values, alone_joined}
use Rattle.page_meaning.proofs.RowsAfter.{adding}
use Rattle.page_meaning.proofs.QuietRows.{InRange}
use Rattle.page_meaning.proofs.BreakingContents.{Broken1, Broken2, Exact}

all_at : (P : Formula → Type 0) (g : Values → Formula) (l : List Values) → All P (map g l) → (n : Values) → n ∈ l → P (g n)
all_at P g [] a n h = absurd h
all_at P g (x ∷ l) a n (inl e) = subst (λ y. P (g y)) (sym e) a.0
all_at P g (x ∷ l) a n (inr h) = all_at P g l a.1 n h

all_map : (P : Formula → Type 0) (g : Values → Formula) (l : List Values) → ((n : Values) → n ∈ l → P (g n)) → All P (map g l)
all_map P g [] f = tt
all_map P g (x ∷ l) f = (f x (inl refl), all_map P g l (λ n h. f n (inr h)))

-- with no other table, any contents have the same rows there: none
lonely : (a b : List (List Values)) (s : Values) → TablesFit [] a → TablesFit [] b → Joined a s → Joined b s
lonely [] [] s f g j = j
lonely [] (y ∷ b) s f g j = absurd g
lonely (x ∷ a) b s f g j = absurd f

none_join : (t : Table) (ts us : List Table) → us ≡ t ∷ ts → (s : Values) → ¬ Joined (none us) s
unfolding none
none_join t ts us e s j = (subst (λ l. Joined (none l) s) e j).2

module _ (q : Question) (new : List Values) (ok : TableFits q.changed new) where
  -- formulas that fail: no full row with an inserted row meets C
  barren : AllFail q (irrelevance q (insert new)) → (c : Contents) → Valid q c → (v : Values) → ¬ Listed q (adding (insert new) c) v
  barren f c o v t = let x = t.0 in let n = x.here in let h = t.1.here in
      let b = joined_fits q.front c.front o.front x.before t.1.before in
      let a = joined_fits q.back c.back o.back x.after t.1.after in
      let w : Wide q x = record { before = fits_length (columns_of q.front) x.before b; here = ok n h } in
      let i : InRange q (values x) = fits_append (columns_of q.front) (q.changed ++ columns_of q.back) x.before (n ++ x.after) b (fits_append q.changed (columns_of q.back) n x.after (ok n h) a) in
      all_at (λ φ. ¬ Met q φ) (λ n. one (λ r. C q (put q n r))) new f n h (values x, i, rw (← put_same q x w n (ok n h)) t.2.0)

  fresh : (a b : List Table) → q.front ≡ a → q.back ≡ b → AllFail q (unless_alone a b (irrelevance q (insert new))) → (c d : Contents) → Valid q c → Valid q d → (v : Values) → Listed q (adding (insert new) c) v → Listed q (adding (insert new) d) v
  fresh [] [] e g h c d o p v t = (
    t.0,
    record {
      before = lonely c.front d.front t.0.before (rw e at o.front) (rw e at p.front) t.1.before;
      here = t.1.here;
      after = lonely c.back d.back t.0.after (rw g at o.back) (rw g at p.back) t.1.after;
    },
    t.2,
  )
  fresh [] (t ∷ ts) e g h c d o p v l = absurd (barren h c o v l)
  fresh (t ∷ ts) us e g h c d o p v l = absurd (barren h c o v l)

  -- the inserted row in a full row
  insert_listed : (n : Values) → n ∈ new → (u : Values) → InRange q u → T (C q (put q n (look u))) → Listed q (after_by q (insert new) (witness q (insert new) u)) (part q (put q n (look u)))
  unfolding each
  insert_listed n h u i t = let k = cut_fits q u i in
      let w : Wide q (cut q u) = record { before = fits_length (columns_of q.front) (cut q u).before k.before; here = k.here } in
      let e : row (with (cut q u) n) ≡ put q n (look u) = put_same q (cut q u) w n (ok n h) ∙ ap (λ l. put q n (look l)) (cut_values q u) in
      (with (cut q u) n, record { before = alone_joined q.front (cut q u).before k.before; here = h; after = alone_joined q.back (cut q u).after k.after }, (subst (λ r. T (C q r)) (sym e) t, ap (part q) e))

  -- no full row before; none after either where another table is empty
  against_empty : ((s : Values) → ¬ Joined (none q.front) s) ⊎ ((s : Values) → ¬ Joined (none q.back) s) → All (Broken2 q (insert new)) (irrelevance q (insert new))
  against_empty f = all_map (Broken2 q (insert new)) (λ n. one (λ r. C q (put q n r))) new (λ n h m. (
    λ v. (λ s. absurd s.1.here, λ s. absurd s.1.here),
    λ same. let s = (same (part q (put q n (look m.0)))).0 (insert_listed n h m.0 m.1 m.2) in elim f [ inl g ↦ g s.0.before s.1.before | inr g ↦ g s.0.after s.1.after ],
  ))

  unless_alone_lem : (a b : List Table) → q.front ≡ a → q.back ≡ b → All (Broken2 q (insert new)) (unless_alone a b (irrelevance q (insert new)))
  unless_alone_lem [] [] e g = tt
  unless_alone_lem [] (t ∷ ts) e g = against_empty (inr (none_join t ts q.back g))
  unless_alone_lem (t ∷ ts) us e g = against_empty (inl (none_join t ts q.front e))

  pub insert_exact : Exact q (insert new)
  insert_exact = record {
    quiet = λ f. record { remain = λ u i c. inl tt; enter = λ u i m. absurd m; same = λ u i m. absurd m; fresh = barren f };
    settled = λ f. record { enter = λ u i m. absurd m; together = λ u w p s. inl tt; both = λ u w p m. absurd m; mixed = λ u w p m. absurd m; fresh = fresh q.front q.back refl refl f };
    broken1 = all_map (Broken1 q (insert new)) (λ n. one (λ r. C q (put q n r))) new (λ n h m same. ((same (part q (put q n (look m.0)))).1 (insert_listed n h m.0 m.1 m.2)).1.here);
    broken2 = unless_alone_lem q.front q.back refl refl;
  }
