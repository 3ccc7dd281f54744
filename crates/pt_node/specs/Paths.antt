-- Believed. Where a name and a path lead, after path_resolution(7).
use Rattle.std.specs.Prelude.{ℕ, ◌==◌, List, [], ◌∷◌, Option, Some, None, Result, Ok, Err, ok_or, slice_get}
use Rattle.std.specs.Prelude.{if◌then◌else◌, option_and_then, option_map}
use Rattle.std.specs.Borrow.{Bor}
use Rattle.std.specs.List.{slice_split}
use Rattle.pt_host.specs.Errno.{enoent, enotdir}
use Rattle.pt_host.specs.declared.ids.Errno.{Errno}
use Rattle.pt_node.specs.Names.{found}
use Rattle.pt_node.specs.Node.{is_directory, names_in, name_at}
use Rattle.pt_node.specs.declared.node.Node.{Node}

-- what a name leads to, with the object itself
abbrev pub led_on : List Node → Option ℕ → Option (ℕ × Node)
led_on nodes None = None
led_on nodes (Some object) = option_map (λ node. (object, node)) (slice_get nodes object)

-- one part of a path, from an object; an empty part leads nowhere else
abbrev pub step_from : List Node → ℕ × Node → List ℕ → Result (ℕ × Node) Errno
step_from nodes at [] = Ok at
step_from nodes at name =
    if is_directory at.1 then ok_or (led_on nodes (found name (names_in at.1.content))) enoent else Err enotdir

-- on from where the part led, unless it is refused
abbrev pub then_on : {A B : Type 0} → Result A Errno → (A → Result B Errno) → Result B Errno
then_on (Ok at) rest = rest at
then_on (Err errno) rest = Err errno

abbrev pub walk : List Node → ℕ × Node → List (List ℕ) → Result (ℕ × Node) Errno
walk nodes at [] = Ok at
walk nodes at (part ∷ more) = then_on (step_from nodes at part) (λ next. walk nodes next more)

abbrev pub parts : List ℕ → List (List ℕ)
parts path = slice_split (λ byte. byte == 47) path

-- the parts of what stands after a slash, where there is one
abbrev pub parts_after : Option (List ℕ) → List (List ℕ)
parts_after None = []
parts_after (Some path) = parts path

-- where a path begins that has to begin with a slash: at the root
abbrev pub from_root : List Node → List ℕ → Option (ℕ × Node)
from_root nodes [] = None
from_root nodes (first ∷ path) = if first == 47 then led_on nodes (Some 0) else None

-- the empty part before the slash leads nowhere else
abbrev pub walk_root : List Node → List ℕ → Result (ℕ × Node) Errno
walk_root nodes path = then_on (ok_or (from_root nodes path) enoent) (λ root. walk nodes root (parts path))

abbrev pub ok_unless : {A : Type 0} → Option Errno → Result A Errno → Result A Errno
ok_unless None otherwise = otherwise
ok_unless (Some errno) otherwise = Err errno

abbrev pub names_at : Option Node → List (List ℕ × ℕ)
names_at None = []
names_at (Some node) = names_in node.content

-- where any path begins: at the root with a slash, and else here; an empty one leads nowhere
abbrev pub from_here : List Node → ℕ × Node → List ℕ → Option (ℕ × Node)
from_here nodes here [] = None
from_here nodes here (first ∷ path) = if first == 47 then led_on nodes (Some 0) else Some here

abbrev pub walk_from : List Node → ℕ × Node → List ℕ → Result (ℕ × Node) Errno
walk_from nodes here path = then_on (ok_or (from_here nodes here path) enoent) (λ at. walk nodes at (parts path))

-- what stands at the end of a path
abbrev pub object_below : List Node → ℕ → List (List ℕ) → Option ℕ
object_below nodes at [] = Some at
object_below nodes at (name ∷ more) = option_and_then (λ child. object_below nodes child more) (name_at nodes at name)

abbrev pub object_after : List Node → List ℕ → Option ℕ
object_after nodes [] = Some 0
object_after nodes (first ∷ path) = object_below nodes 0 (parts (first ∷ path))

abbrev pub object_named : List Node → List ℕ → Option ℕ
object_named nodes [] = None
object_named nodes (first ∷ path) = if first == 47 then object_after nodes path else None

-- an object that was found as code has it, behind a reference
abbrev pub seen_led : ℕ × Bor Node → ℕ × Node
seen_led at = (at.0, at.1.now)

abbrev pub seen_walked : Result (ℕ × Bor Node) Errno → Result (ℕ × Node) Errno
seen_walked (Ok at) = Ok (seen_led at)
seen_walked (Err errno) = Err errno
