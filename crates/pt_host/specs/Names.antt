-- Believed. What calls and edits do to names: a name is a directory object and a word in it. After the manual pages of
-- mkdir(2), mknod(2), symlink(2), link(2), unlink(2), rmdir(2) and rename(2).
use Rattle.std.specs.Prelude.{◌≡◌, ◌≢◌, ◌<◌, ◌⊎◌, ℕ, List, [], ◌∷◌, ◌++◌, length, Option, Some, None}
use Rattle.std.specs.Str.{bytes_eq}
use Rattle.std.specs.Map.{update}
use Rattle.pt_host.specs.Words.{set_at}
use Rattle.pt_host.specs.Tree.{Tree, Object}

-- the tree in which the name leads there from the directory, or nowhere
abbrev pub led_to : Tree → ℕ → List ℕ → Option ℕ → Tree
led_to tree dir name object =
    record tree { names = set_at dir (update bytes_eq (tree.names dir) name object) tree.names }

-- the tree with one object more, which no name leads to yet
abbrev pub grown_by : Tree → Object → Tree
grown_by tree what = record tree { objects = tree.objects ++ what ∷ [] }

-- the name, which was there, is taken away
pub record TakesName (tree : Tree) (dir : ℕ) (name : List ℕ) (after : Tree) : Type 0 where
  pub object : ℕ
  pub there : tree.names dir name ≡ Some object
  pub takes : after ≡ led_to tree dir name None

-- a new object is put under the name, which was free
pub record MakesObject (tree : Tree) (dir : ℕ) (name : List ℕ) (after : Tree) : Type 0 where
  pub what : Object
  pub listed : dir < length tree.objects
  pub free : tree.names dir name ≡ None
  pub makes : after ≡ led_to (grown_by tree what) dir name (Some (length tree.objects))

-- the name, which was free, leads to an object that was there
pub record LinksName (tree : Tree) (object dir : ℕ) (name : List ℕ) (after : Tree) : Type 0 where
  pub free : tree.names dir name ≡ None
  pub links : after ≡ led_to tree dir name (Some object)

-- the new name leads to the object, and the old one nowhere; where both led to one object nothing changes
abbrev pub NameMoves : Tree → ℕ → List ℕ → ℕ → List ℕ → ℕ → Tree → Type 0
NameMoves tree dir name to new object after =
    ((tree.names to new ≡ Some object) × (after ≡ tree))
    ⊎ ((tree.names to new ≢ Some object) × (after ≡ led_to (led_to tree to new (Some object)) dir name None))

-- the new name leads to the object of the old one, which was there and leads nowhere now
pub record MovesName (tree : Tree) (dir : ℕ) (name : List ℕ) (to : ℕ) (new : List ℕ) (after : Tree) : Type 0 where
  pub object : ℕ
  pub there : tree.names dir name ≡ Some object
  pub moves : NameMoves tree dir name to new object after

-- both names were there, and each leads to the other's object
pub record ExchangesNames (tree : Tree) (dir : ℕ) (name : List ℕ) (to : ℕ) (new : List ℕ) (after : Tree) : Type 0 where
  pub object : ℕ
  pub another : ℕ
  pub there : tree.names dir name ≡ Some object
  pub also : tree.names to new ≡ Some another
  pub exchanges : after ≡ led_to (led_to tree to new (Some object)) dir name (Some another)

-- by the flags 0, `RENAME_NOREPLACE` and `RENAME_EXCHANGE`; with others none succeeds
abbrev pub Renames : Tree → ℕ → List ℕ → ℕ → List ℕ → ℕ → Tree → Type 0
Renames tree dir name to new flags after =
    ((flags ≡ 0) × MovesName tree dir name to new after)
    ⊎ ((flags ≡ 1) × (tree.names to new ≡ None) × MovesName tree dir name to new after)
    ⊎ ((flags ≡ 2) × ExchangesNames tree dir name to new after)
