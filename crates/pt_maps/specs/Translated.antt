-- Believed. What rules make of an id, in each direction: what the rule whose source range holds it says. Other ids
-- stay.
use Rattle.std.specs.Prelude.{ℕ, List, Option, Some, find}
use Rattle.std.specs.Option.{option_map_or}
use Rattle.pt_maps.specs.declared.rule.IdRule.{IdRule}
use Rattle.pt_maps.specs.declared.rule.Direction.{Direction}
use Rattle.pt_maps.specs.declared.rule.Direction.TheVariants.{ToHost, ToGuest}
use Rattle.pt_maps.specs.Rule.{holds, source, host_id, guest_id}

-- the rule whose source range holds an id
abbrev pub rule_of : Direction → List IdRule → ℕ → Option IdRule
rule_of direction rules id = find (λ rule. holds (source direction rule) id) rules

-- the host's id for one of the guest's, where it is not forbidden
abbrev pub to_host : List IdRule → ℕ → Option ℕ
to_host rules id = option_map_or (λ rule. host_id rule id) (rule_of ToHost rules id) (Some id)

-- the guest's id for one of the host's
abbrev pub to_guest : List IdRule → ℕ → ℕ
to_guest rules id = option_map_or (λ rule. guest_id rule id) (rule_of ToGuest rules id) id
