use Rattle.std.proofs.Common.{◌≡◌, take, map, Some}
use Rattle.pt_maps.specs.MappedNames.{listed_names}
use Rattle.pt_maps.proofs.xattr_map.XattrMap.map_server_xattrlist.Given as goal

abbrev pub invariant-loop-name : goal.invariant-loop-name
invariant-loop-name l =
    listed_names l.self (take l.name-index (map (λ name. name.now) l.name-items)) ≡ Some l.kept.items
