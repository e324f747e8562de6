-- All trees one after another.
use Prim.Native.Nat.{ℕ, ◌+◌, ◌<◌}
use mathlib.Core.Path.{◌≡◌, refl, sym, ap, ◌∙◌, subst}
use mathlib.Core.Bool.{true}
use mathlib.Core.List.{List, [], ◌∷◌, ◌++◌}
use native.Mathlib.Numerals.{add-one}
use lib.ListN.{length}
use Rattle.page_meaning.specs.Contents.{Question}
use Rattle.page_formulas.specs.Formulas.{Formula, no_formula, formulas}
use Rattle.formula.specs.Formulas.{formula_at}
use Rattle.page_sheets.specs.Growth.{grow_tree}
use Rattle.page_sheets.specs.Sheet.{last_vertex, finding_under, finding_of}
use Rattle.page_sheets.specs.Tree.{Tree, bytes_of}
use Rattle.page_sheets.specs.Trees.{all_shut, write_trees, bytes_all}
use Rattle.page_sheets.proofs.Positions.{ShutBefore, shut_more, found_shut, shut_there, first_trees, bytes_append, bytes_more}
use Rattle.room.specs.Room.{Filling, puts}
use Rattle.room.proofs.PutBytes.{puts_append, puts_over}
use Rattle.writer_trees.specs.Trees.{Grows}

module _ (q : Question) (a : ℕ) where
  abbrev Fs : List Formula
  Fs = formulas q a

  -- ---- the trees: those of the formulas before i were put, from f on
  module _ (f : Filling) where
    pub record Sown (i : ℕ) (g : Filling) : Type 0 where
      pub trees : List Tree
      pub shut_are : ShutBefore last_vertex Fs i trees
      pub stand : g ≡ puts f (bytes_all trees)

    pub sown_start : Sown 0 f
    unfolding puts bytes_all
    sown_start = record { trees = []; shut_are = tt; stand = refl }

    module _ (i : ℕ) (g : Filling) (w : Sown i g) (ts : List Tree) (all : finding_of q a ≡ all_shut ts) where
      written : write_trees last_vertex Fs ≡ all_shut ts
      unfolding finding_under
      written = all

      -- one tree more
      pub sown_more : i < length Fs → (h : Filling) → Grows g (grow_tree last_vertex (formula_at Fs i)) h → Sown (i + 1) h
      sown_more l h r =
          let t = shut_there last_vertex Fs ts written i no_formula l in
          let e : h ≡ puts g (bytes_of t.0) = rw t.1 at r in
          record {
            trees = w.trees ++ t.0 ∷ [];
            shut_are = subst (λ n. ShutBefore last_vertex Fs n (w.trees ++ t.0 ∷ [])) (sym (add-one i)) (shut_more last_vertex Fs i w.trees no_formula t.0 w.shut_are l t.1);
            stand = e ∙ ap (λ x. puts x (bytes_of t.0)) w.stand ∙ sym (puts_append f (bytes_all w.trees) (bytes_of t.0)) ∙ ap (puts f) (sym (bytes_more w.trees t.0));
          }

      -- past the room's end the rest changes nothing
      pub sown_over : g.over ≡ true → g ≡ puts f (bytes_all ts)
      sown_over o =
          let v = first_trees last_vertex Fs ts written i w.trees w.shut_are in
          let e : puts f (bytes_all (w.trees ++ v.0)) ≡ puts g (bytes_all v.0) = ap (puts f) (bytes_append w.trees v.0) ∙ puts_append f (bytes_all w.trees) (bytes_all v.0) ∙ ap (λ x. puts x (bytes_all v.0)) (sym w.stand) in
          sym (ap (λ us. puts f (bytes_all us)) v.1 ∙ e ∙ puts_over g (bytes_all v.0) o)

      -- all of them
      pub sown_end : i ≡ length Fs → g ≡ puts f (bytes_all ts)
      sown_end e =
          let f : all_shut w.trees ≡ all_shut ts = sym (found_shut last_vertex Fs w.trees (subst (λ n. ShutBefore last_vertex Fs n w.trees) e w.shut_are)) ∙ written in
          let same : w.trees ≡ ts = cc in
          rw same at w.stand
