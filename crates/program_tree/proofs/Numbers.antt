-- The rows of numbers, entry by entry.
use Rattle.std.proofs.Common.{ℕ, zero, suc, ◌<◌, ◌≡◌, refl, ap, ◌∙◌, Bool, List, map, get_or, arith, pos}
use lib.ListN.{get_or-map}
use Rattle.page_formulas.specs.Postfix.{says}
use Rattle.program.specs.Meanings.{number_of}
use Rattle.program_tree.specs.declared.types.Row.{Row}
use Rattle.program_tree.specs.declared.types.Rows.{Rows}
use Rattle.program_tree.specs.Nodes.{node, kind_at}
use Rattle.program_tree.specs.Numbers.{instruction_of, node_of, tree_of}

-- past the end of the rows
abbrev pub no_row : Row
no_row = record { kind = 0; size = 0; left = 0; right = 0; most = pos 0 }

pub node_in : (rows : List Row) (i : ℕ) → node (map node_of rows) i ≡ node_of (get_or rows i no_row)
node_in rows i = get_or-map node_of rows i no_row

-- the number of what a number does: itself, up to 5
pub number_kept : (k : ℕ) → k < 6 → number_of (instruction_of k) ≡ k
number_kept zero h = refl
number_kept (suc zero) h = refl
number_kept (suc (suc zero)) h = refl
number_kept (suc (suc (suc zero))) h = refl
number_kept (suc (suc (suc (suc zero)))) h = refl
number_kept (suc (suc (suc (suc (suc zero))))) h = refl
number_kept (suc (suc (suc (suc (suc (suc k)))))) h = absurd (omega arith)

-- a greater one says what 5 does
pub says_numbered : (k : ℕ) (t a b : Bool) → says (number_of (instruction_of k)) t a b ≡ says k t a b
says_numbered zero t a b = refl
says_numbered (suc zero) t a b = refl
says_numbered (suc (suc zero)) t a b = refl
says_numbered (suc (suc (suc zero))) t a b = refl
says_numbered (suc (suc (suc (suc zero)))) t a b = refl
says_numbered (suc (suc (suc (suc (suc k))))) t a b = refl

pub says_row : (t : Rows) (j : ℕ) (a b c : Bool) → says (kind_at (tree_of t) j) a b c ≡ says (get_or t.rows j no_row).kind a b c
says_row t j a b c = ap (λ n. says (number_of n.instruction) a b c) (node_in t.rows j) ∙ says_numbered (get_or t.rows j no_row).kind a b c
