-- Believed. A tree as text: a line for each name from the root on, depth first, the names of a directory in byte order.
use Rattle.std.specs.Prelude.{ℕ, zero, suc, List, [], ◌∷◌, ◌++◌, length, codes, decimal, Option, Some, None, slice_get}
use Rattle.std.specs.List.{flat_map}
use Rattle.pt_text.specs.ByteWord.{byte_word}
use Rattle.pt_node.specs.Links.{links_of}
use Rattle.pt_node.specs.Node.{bytes_in, mode_of}
use Rattle.pt_rules.specs.State.{State}
use Rattle.pt_node.specs.declared.node.Node.{Node}
use Rattle.pt_node.specs.Paths.{names_at}

abbrev pub number_word : ℕ → List ℕ
number_word number = 32 ∷ decimal number

-- inode number, device, mount, mode, number of links, owner, group, device of a special file
abbrev pub numbers_of : ℕ → Node → List ℕ
numbers_of links node =
    node.ids.ino ∷ node.ids.dev ∷ node.ids.mnt_id ∷ mode_of node ∷ links ∷ node.uid ∷ node.gid ∷ node.rdev ∷ []

-- `obj PATH`, the numbers and what it holds
abbrev pub object_line : List ℕ → ℕ → Node → List ℕ
object_line path links node =
    codes "obj " ++ (byte_word path
    ++ (flat_map number_word (numbers_of links node) ++ (32 ∷ byte_word (bytes_in node.content) ++ 10 ∷ [])))

-- `xattr PATH NAME VALUE`
abbrev pub xattr_line : List ℕ → List ℕ × List ℕ → List ℕ
xattr_line path entry =
    codes "xattr " ++ (byte_word path ++ (32 ∷ byte_word entry.0 ++ (32 ∷ byte_word entry.1 ++ 10 ∷ [])))

-- the object's line and those of its attributes
abbrev pub line_at : List Node → List ℕ → ℕ → Option Node → List ℕ
line_at nodes path object None = []
line_at nodes path object (Some node) =
    object_line path (links_of nodes object node) node ++ flat_map (xattr_line path) node.xattrs

-- the lines of what lies below the directory at this place, down to a depth
abbrev pub lines_below : ℕ → List Node → List ℕ → ℕ → List ℕ
lines_below zero nodes path dir = []
lines_below (suc depth) nodes path dir =
    flat_map (λ entry. line_at nodes (path ++ 47 ∷ entry.0) entry.1 (slice_get nodes entry.1)
    ++ lines_below depth nodes (path ++ 47 ∷ entry.0) entry.1)
    (names_at (slice_get nodes dir))

-- nothing lies deeper than there are objects
abbrev pub listing_of : State → List ℕ
listing_of state = line_at state.nodes (47 ∷ []) 0 (slice_get state.nodes 0)
    ++ lines_below (length state.nodes) state.nodes [] 0
