-- Believed. How many links an object has, by the names that there are, after `stat(2)` and `inode(7)`.
use Rattle.std.specs.Prelude.{ℕ, ◌+◌, min, List, count_by, sum_by}
use Rattle.std.specs.Map.{values_of}
use Rattle.pt_host.specs.Words.{is}
use Rattle.pt_node.specs.Entries.{is_directory_at}
use Rattle.pt_node.specs.Limits.{links_max}
use Rattle.pt_node.specs.Node.{names_in}
use Rattle.pt_node.specs.declared.node.Node.{Node}
use Rattle.pt_node.specs.declared.node.Content.{Content}
use Rattle.pt_node.specs.declared.node.Content.TheVariants.{Directory, Regular, Link, Special}

-- how many of these names lead to the object
abbrev pub names_to : ℕ → List (List ℕ × ℕ) → ℕ
names_to object names = sum_by (is object) (values_of names)

-- how many names it has, in whatever directory
abbrev pub names_of : List Node → ℕ → ℕ
names_of nodes object = sum_by (λ node. names_to object (names_in node.content)) nodes

-- how many of these names lead to a directory
abbrev pub directories_in : List Node → List (List ℕ × ℕ) → ℕ
directories_in nodes names = count_by (is_directory_at nodes) (values_of names)

-- A directory has two links and one by each directory in it, also where it has lost its own name. Any other object
-- has one by each of its names.
abbrev pub links_by : List Node → ℕ → Content → ℕ
links_by nodes object (Directory names) = 2 + directories_in nodes names
links_by nodes object (Regular bytes) = names_of nodes object
links_by nodes object (Link target) = names_of nodes object
links_by nodes object (Special kind) = names_of nodes object

-- the count stands still where its type ends
abbrev pub links_of : List Node → ℕ → Node → ℕ
links_of nodes object node = min (links_by nodes object node.content) links_max
