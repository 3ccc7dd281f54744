-- Believed. Ranges of ids, and what one rule makes of ids, after virtiofsd's documentation of `--translate-uid` and
-- `--translate-gid`: each direction is translated by itself, and `map` alone speaks of both.
use Rattle.std.specs.Prelude.{ℕ, ◌+◌, ◌-◌, ◌^◌, List, [], ◌∷◌, Bool, ◌&&◌, nat_le, nat_lt, min, max, Option, Some}
use Rattle.std.specs.Prelude.{None}
use Rattle.std.specs.List.{list_any}
use Rattle.pt_maps.specs.declared.range.IdRange.{IdRange}
use Rattle.pt_maps.specs.declared.rule.IdRule.{IdRule}
use Rattle.pt_maps.specs.declared.rule.IdRule.TheVariants.{Guest, Host, SquashGuest, SquashHost, ForbidGuest, Map}
use Rattle.pt_maps.specs.declared.rule.Direction.{Direction}
use Rattle.pt_maps.specs.declared.rule.Direction.TheVariants.{ToHost, ToGuest}

-- so many ids from the first one on
abbrev pub ids_from : ℕ → ℕ → IdRange
ids_from start count = record { start = start; count = count }

-- the first id behind a range
abbrev pub range_end : IdRange → ℕ
range_end range = range.start + range.count

-- whether an id lies in a range
abbrev pub holds : IdRange → ℕ → Bool
holds range id = nat_le range.start id && nat_lt id (range_end range)

-- whether two ranges have an id in common: the later one starts before the earlier one ends
abbrev pub meets : IdRange → IdRange → Bool
meets one other = nat_lt (max one.start other.start) (min (range_end one) (range_end other))

-- the guest's ids of which a rule says what they become on the host
abbrev pub guest_ids : IdRule → IdRange
guest_ids (Guest first target count) = ids_from first count
guest_ids (SquashGuest first target count) = ids_from first count
guest_ids (ForbidGuest first count) = ids_from first count
guest_ids (Map guest host count) = ids_from guest count
guest_ids (Host first target count) = ids_from 0 0
guest_ids (SquashHost first target count) = ids_from 0 0

-- the host's ids of which a rule says what they become in the guest
abbrev pub host_ids : IdRule → IdRange
host_ids (Host first target count) = ids_from first count
host_ids (SquashHost first target count) = ids_from first count
host_ids (Map guest host count) = ids_from host count
host_ids (Guest first target count) = ids_from 0 0
host_ids (SquashGuest first target count) = ids_from 0 0
host_ids (ForbidGuest first count) = ids_from 0 0

-- the ids of which a rule says something in a direction: its source range
abbrev pub source : Direction → IdRule → IdRange
source ToHost rule = guest_ids rule
source ToGuest rule = host_ids rule

-- the host's id that a rule makes of one of its guest's ids, where it is not forbidden
abbrev pub host_id : IdRule → ℕ → Option ℕ
host_id (Guest first target count) id = Some (target + (id - first))
host_id (SquashGuest first target count) id = Some target
host_id (ForbidGuest first count) id = None
host_id (Map guest host count) id = Some (host + (id - guest))
host_id (Host first target count) id = Some id
host_id (SquashHost first target count) id = Some id

-- the guest's id that a rule makes of one of its host's ids
abbrev pub guest_id : IdRule → ℕ → ℕ
guest_id (Host first target count) id = target + (id - first)
guest_id (SquashHost first target count) id = target
guest_id (Map guest host count) id = guest + (id - host)
guest_id (Guest first target count) id = id
guest_id (SquashGuest first target count) id = id
guest_id (ForbidGuest first count) id = id

-- the ranges that a rule names: where ids come from, and where they go unless all go to one
abbrev pub named_ranges : IdRule → List IdRange
named_ranges (Guest first target count) = ids_from first count ∷ ids_from target count ∷ []
named_ranges (Host first target count) = ids_from first count ∷ ids_from target count ∷ []
named_ranges (SquashGuest first target count) = ids_from first count ∷ []
named_ranges (SquashHost first target count) = ids_from first count ∷ []
named_ranges (ForbidGuest first count) = ids_from first count ∷ []
named_ranges (Map guest host count) = ids_from guest count ∷ ids_from host count ∷ []

-- whether one of them goes past the last id
abbrev pub is_past_end : IdRule → Bool
is_past_end rule = list_any (λ range. nat_lt (2 ^ 32) (range_end range)) (named_ranges rule)
