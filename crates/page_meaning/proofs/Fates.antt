-- What becomes of a full row: it stays, moves or goes. What one or two such rows show before and after.
use mathlib.Core.Path.{◌≡◌, refl, sym, ◌∙◌}
use mathlib.Core.Logic.{◌⊎◌, inl, inr, ◌≢◌}
use mathlib.Core.Bool.{Bool}
use lib.Dec.{T}
use Rattle.page_meaning.specs.Condition.{Row}
use Rattle.page_meaning.specs.Contents.{Question, Values, part, Shows, Same}
use Rattle.page_meaning.proofs.Words.{C}

-- some rows stay, some move to where `after` takes them, the others go
pub record Fate : Type 0 where
  pub stays : Row → Bool
  pub moves : Row → Bool
  pub after : Row → Row
  pub apart : (r : Row) → T (stays r) → ¬ T (moves r)

-- what becomes of a full row shows v
abbrev pub Then : Question → Fate → Row → Values → Type 0
Then q k r v = (T (k.stays r) × Shows q r v) ⊎ (T (k.moves r) × Shows q (k.after r) v)

-- what becomes of a full row that met C meets C
abbrev pub Seen : Question → Fate → Row → Type 0
Seen q k r = T (k.stays r) ⊎ (T (k.moves r) × T (C q (k.after r)))

module _ (q : Question) (k : Fate) where
  then_seen : (r : Row) (v : Values) → Then q k r v → Seen q k r
  then_seen r v (inl t) = inl t.0
  then_seen r v (inr t) = inr (t.0, t.1.0)

  seen_then : (r : Row) → T (C q r) → Seen q k r → (v : Values) × Then q k r v
  seen_then r c (inl s) = (part q r, inl (s, (c, refl)))
  seen_then r c (inr m) = (part q (k.after r), inr (m.0, (m.1, refl)))

  module _ (r : Row) where
    pub vanishes : T (C q r) → ¬ Seen q k r → ¬ Same (Shows q r) (Then q k r)
    vanishes c f same = f (then_seen r (part q r) ((same (part q r)).0 (c, refl)))

    pub appears : T (k.moves r) → ¬ T (C q r) → T (C q (k.after r)) → ¬ Same (Shows q r) (Then q k r)
    appears m f n same = f ((same (part q (k.after r))).1 (inr (m, (n, refl)))).0

    pub alters : T (k.moves r) → T (C q r) → part q (k.after r) ≢ part q r → ¬ Same (Shows q r) (Then q k r)
    alters m c f same = go ((same (part q r)).0 (c, refl))
      where
        go : Then q k r (part q r) → ⊥
        go (inl s) = k.apart r s.0 m
        go (inr t) = f t.1.1

    module _ (s : Row) where
      pub both_show : T (C q r) → T (C q s) → part q r ≡ part q s → Same (Shows q r) (Shows q s)
      both_show c d e v = (λ t. (d, sym e ∙ t.1), λ t. (c, e ∙ t.1))

      pub one_left : T (C q r) → Seen q k r → ¬ Seen q k s → ¬ Same (Then q k r) (Then q k s)
      one_left c t f same = let v = seen_then r c t in f (then_seen s v.0 ((same v.0).0 v.1))

      pub two_moved : T (k.moves r) → T (k.moves s) → T (C q (k.after r)) → part q (k.after r) ≢ part q (k.after s) → ¬ Same (Then q k r) (Then q k s)
      two_moved m n c f same = go ((same (part q (k.after r))).0 (inr (m, (c, refl))))
        where
          go : Then q k s (part q (k.after r)) → ⊥
          go (inl t) = k.apart s t.0 n
          go (inr t) = f (sym t.1.1)

      pub one_moved : T (k.moves r) → T (k.stays s) → T (C q (k.after r)) → part q (k.after r) ≢ part q s → ¬ Same (Then q k r) (Then q k s)
      one_moved m n c f same = go ((same (part q (k.after r))).0 (inr (m, (c, refl))))
        where
          go : Then q k s (part q (k.after r)) → ⊥
          go (inl t) = f (sym t.1.1)
          go (inr t) = k.apart s n t.0
