-- What the two verdicts are proved to say, and what a no shows.
use Rattle.page_meaning.specs.Contents.{Question, Contents, Valid, Listed, Same, Family, Unchanged, after_change}
use Rattle.page_meaning.specs.Witness.{Small}

-- a family of valid contents that has in it all those with at most one row a table
pub record Ample (q : Question) (W : Family) : Type 0 where
  pub inside : (c : Contents) → W c → Valid q c
  pub holds : (c : Contents) → Valid q c → Small c → W c

-- at most one row a table, and the list changes
pub record Relevant (q : Question) (c : Contents) : Type 0 where
  pub valid : Valid q c
  pub small : Small c
  pub changes : ¬ Unchanged q c

-- at most one row a table, and equal lists become unequal
pub record Uncomputable (q : Question) (c d : Contents) : Type 0 where
  pub valid : Valid q c × Valid q d
  pub small : Small c × Small d
  pub before : Same (Listed q c) (Listed q d)
  pub after : ¬ Same (Listed q (after_change q c)) (Listed q (after_change q d))
