-- Inner. Where a listing of names stopped, as code remembers it.
use Rattle.std.specs.Prelude.{◌≡◌, ⊤, ℕ, List, Option, Some, None, Vec, option_map, slice_get}
use Rattle.std.specs.declared.alloc.Global.{Global}
use Rattle.pt_node.specs.declared.names.Stop.{Stop}

-- at the name that stands at the place
abbrev pub IsStop : Option Stop → List (Vec ℕ Global × ℕ) → Type 0
IsStop None entries = ⊤
IsStop (Some stop) entries = option_map (λ entry. entry.0.items) (slice_get entries stop.place) ≡ Some stop.name.items
