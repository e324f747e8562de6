use Rattle.std.proofs.Common.{ℕ, sym, ap, ◌∙◌, subst, true, get_or, arith, rules, w64, SFits}
use mir.Facts.{to_z-of_z}
use Rattle.program.specs.Meanings.{place_of}
use Rattle.program_tree.specs.Nodes.{place_in, Placed}
use Rattle.program_tree.specs.declared.types.Rows.{Rows}
use Rattle.program_tree.specs.Numbers.{node_of, tree_of}
use Rattle.program_tree.proofs.Numbers.{no_row, node_in}
use Rattle.program_tree.proofs.as_tree.RowsAsTree.place.Goals as goal

-- the place that the row is
placed : (t : Rows) (i : ℕ) → Placed t.last (place_in (tree_of t) i) → Placed t.last (place_of (node_of (get_or t.rows i no_row)).place)
placed t i p = subst (λ n. Placed t.last (place_of n.place)) (node_in t.rows i) p

pub overflow_cast-result : goal.overflow_cast-result
overflow_cast-result c = let p = placed c.args.self.now c.args.i c.requires.1 in let f = p.facts true in record { fits = omega (arith, p.few, f.from_is, f.to_is) }

pub overflow_cast-result-2 : goal.overflow_cast-result-2
overflow_cast-result-2 c = let p = placed c.args.self.now c.args.i c.requires.1 in let f = p.facts true in record { fits = omega (arith, p.few, f.from_is, f.to_is) }

pub returns : goal.returns
returns c = let t = c.args.self.now in let row = get_or t.rows c.args.i no_row in let w : SFits w64 row.most = search rules in
    ap (λ m. place_of (record { left = row.left; right = row.right; most = m })) (to_z-of_z {w = w64} w) ∙ sym (ap (λ n. place_of n.place) (node_in t.rows c.args.i))
