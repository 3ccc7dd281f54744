-- Inner. The groups that a list has, wherever it lies.
use Rattle.std.specs.Prelude.{ℕ, List}
use Rattle.pt_host.specs.declared.groups.Place.{Place}
use Rattle.pt_host.specs.declared.groups.Place.TheVariants.{Few, Many}

abbrev pub groups_at : Place → List ℕ
groups_at (Few groups) = groups
groups_at (Many groups) = groups.items
