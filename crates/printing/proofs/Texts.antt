-- What a value's sign and digits are as text, and what they are once written.
use Rattle.std.proofs.Common.{◌≡◌, ℕ, ◌-◌, Bool, true, false, cond, not, suc, List, [], ◌∷◌, ◌++◌, length, ℤ, pos, negsuc, refl, sym, ap, le-ltb, le-leb, ◌∙◌, arith}
use Rattle.std.proofs.lemmas.List.{append-nil, append_assoc}
use Rattle.std.specs.Prelude.{decimal, nat_abs}
use Rattle.std.specs.Int.{is_negative}
use Rattle.std.specs.Int.Signed.{le_z}
use Rattle.std.specs.List.{FoldsTo, concat}
use Rattle.std.specs.Fmt.{IsDefaultSpec, WritesInCalls, padded_integral, padding_before, signed_decimal, sign_text, char_count, formatter_spec}
use Rattle.std.specs.Fmt.InlineText.{AppendsIfIntact, IsIntact, inline_text}
use Rattle.std.specs.declared.fmt.Formatter.{Formatter}
use Rattle.std.specs.declared.fmt.InlineText.{InlineText}

same : {A : Type 0} (t : Bool) (x : A) → cond t x x ≡ x
same true x = refl
same false x = refl

pub not_below : (z : ℤ) → not (le_z (pos 0) z) ≡ is_negative z
not_below (pos n) = rw (le-ltb n 0 (omega arith), le-leb 0 n (omega arith)) refl
not_below (negsuc n) = refl

module _ {W : Type 0} (f : Formatter W) (d : IsDefaultSpec (formatter_spec f)) where
  none_before : padding_before (formatter_spec f) 0 3 ≡ 0
  none_before = rw (same, same) refl

  -- with no options, a number is its sign and its digits
  plain : (negative : Bool) (digits : List ℕ) → padded_integral (formatter_spec f) negative [] digits ≡ sign_text negative ++ digits
  unfolding padded_integral
  plain negative digits =
      let none : (formatter_spec f).width - length digits - length (sign_text negative) - char_count [] ≡ 0 = omega (arith, d.width) in
      rw (d.plus, d.alternate, none, none_before) (simp (same, append-nil))

  -- and a signed number is written so
  pub plain_value : (z : ℤ) → padded_integral (formatter_spec f) (is_negative z) [] (decimal (nat_abs z)) ≡ signed_decimal z
  plain_value (pos n) = rw (le-ltb n 0 (omega arith)) (plain false (decimal n))
  plain_value (negsuc n) = plain true (decimal (suc n))

module _ {n : ℕ} where
  after : (w : InlineText n) (parts : List (List ℕ)) (v : InlineText n) → FoldsTo AppendsIfIntact w parts v → IsIntact w → inline_text v ≡ inline_text w ++ concat parts
  after w [] v p i = sym (append-nil (inline_text w) ∙ ap inline_text p)
  after w (x ∷ xs) v p i = let one = p.1 i in after p.0 xs v p.2 one.0 ∙ ap (λ l. l ++ concat xs) one.1 ∙ append_assoc (inline_text w) x (concat xs)

  -- what was written into an empty text is the text
  pub written : (w : InlineText n) (bs : List ℕ) (v : InlineText n) → inline_text w ≡ [] → IsIntact w → WritesInCalls AppendsIfIntact w bs v → inline_text v ≡ bs
  written w bs v none i p = after w p.parts v p.calls i ∙ ap (λ l. l ++ concat p.parts) none ∙ p.whole
