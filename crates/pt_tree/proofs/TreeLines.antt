-- The lines below a directory, entry by entry.
use Rattle.std.proofs.Common.{◌≡◌, ◌<◌, ◌-◌, ◌++◌, ◌∷◌, ℕ, zero, suc, List, arith, ap, slice_get}
use Rattle.std.specs.List.{flat_map}
use Rattle.pt_tree.specs.Listing.{line_at, lines_below}
use Rattle.pt_node.specs.Paths.{names_at}
use Rattle.pt_node.specs.declared.node.Node.{Node}

-- the lines of one entry of the directory with this path
abbrev pub entry_lines : ℕ → List Node → List ℕ → List ℕ × ℕ → List ℕ
entry_lines depth nodes path entry =
    line_at nodes (path ++ 47 ∷ entry.0) entry.1 (slice_get nodes entry.1)
    ++ lines_below depth nodes (path ++ 47 ∷ entry.0) entry.1

pub lines_below-more : (depth : ℕ) (nodes : List Node) (path : List ℕ) (dir : ℕ) → 0 < depth →
    lines_below depth nodes path dir ≡ flat_map (entry_lines (depth - 1) nodes path) (names_at (slice_get nodes dir))
lines_below-more zero nodes path dir some = absurd (omega arith)
lines_below-more (suc depth) nodes path dir some =
    ap (λ n. flat_map (entry_lines n nodes path) (names_at (slice_get nodes dir))) (less_one depth)
  where
    less_one : (n : ℕ) → n ≡ suc n - 1
    less_one n = omega arith
