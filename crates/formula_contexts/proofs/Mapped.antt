-- An array that is made of another, one entry of each.
use Rattle.std.proofs.Common.{◌≡◌, ℕ, ◌<◌, List, [], ◌∷◌, map, length, get_or, refl, sym, ap, ◌∙◌, arith}
use Rattle.std.proofs.Math.ListN.{length-map, get_or-map}
use Rattle.std.proofs.lemmas.List.{ext_get_or}
use Rattle.std.specs.Array.{IsMapOf}
use Rattle.std.specs.Fn.{Called, Mut}

-- what each call makes of an entry, as w and h see the two, all calls make of the list; d and e stand past the ends
pub mapped : {F A B C : Type 0} (g : Mut F (A × Unit {0}) B) (w : B → C) (h : A → C) (d : A) (e : B) {f : F} {xs : List A} {ys : List B} {n : ℕ}
    → w e ≡ h d → length xs ≡ n → IsMapOf g f xs ys n
    → ((i : ℕ) (p : F) (y : B) (q : F) → i < n → Called g p (get_or xs i d, tt) y q → w y ≡ h (get_or xs i d))
    → map w ys ≡ map h xs
mapped g w h d e {xs = xs} {ys = ys} same long m each =
    ext_get_or (w e) (map w ys) (map h xs) (length-map ys w ∙ m.long ∙ sym long ∙ sym (length-map xs h)) λ i b.
    let k : i < _ = omega (arith, length-map ys w, m.long) in
    let c = m.at i d e k in
    get_or-map w ys i e ∙ each i c.0 _ c.1 k c.2 ∙ sym (ap (get_or (map h xs) i) same ∙ get_or-map h xs i d)

pub map_same : {A : Type 0} (l : List A) → map (λ a. a) l ≡ l
map_same [] = refl
map_same (x ∷ l) = ap (λ m. x ∷ m) (map_same l)
