use Rattle.std.proofs.Common.{◌≡◌, take, map}
use Rattle.std.specs.List.{flat_map}
use Rattle.pt_xattr.specs.Listed.{if_unblocked}
use Rattle.pt_xattr.proofs.listed.unblocked.Given as goal

abbrev pub invariant-loop-name : goal.invariant-loop-name
invariant-loop-name l =
    l.kept.items ≡ flat_map (if_unblocked l.agreed) (take l.name-index (map (λ name. name.now) l.name-items))
