use Rattle.std.proofs.Common.{take}
use Rattle.pt_maps.specs.Index.{IsIndexed}
use Rattle.pt_maps.proofs.id_map.IdMap.from_rules.Given as goal

abbrev pub invariant-loop-place : goal.invariant-loop-place
invariant-loop-place l = IsIndexed (take l.place l.rules) l.starts.to_host l.starts.to_guest
