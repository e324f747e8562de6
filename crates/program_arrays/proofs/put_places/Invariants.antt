use Rattle.std.proofs.Common.{◌≡◌, ◌+◌, ◌++◌, map, take, length}
use Rattle.page_meaning.specs.Limits.{most_decisions}
use Rattle.program_arrays.proofs.put_places.Given as goal

abbrev pub invariant-loop-i : goal.invariant-loop-i
invariant-loop-i l = record {
  left_long : length l.left ≡ most_decisions;
  right_long : length l.right ≡ most_decisions;
  most_long : length l.most ≡ most_decisions;
  left : take (l.at + l.i) l.left ≡ take l.at l.initial.left ++ map (λ a. a.left) (take l.i l.places);
  right : take (l.at + l.i) l.right ≡ take l.at l.initial.right ++ map (λ a. a.right) (take l.i l.places);
  most : take (l.at + l.i) l.most ≡ take l.at l.initial.most ++ map (λ a. a.most) (take l.i l.places);
}
