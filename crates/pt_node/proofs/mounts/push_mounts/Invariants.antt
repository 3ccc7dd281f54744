use Rattle.std.proofs.Common.{◌≡◌, ◌++◌}
use Rattle.std.specs.List.{flat_map}
use Rattle.pt_node.specs.Mounts.{mount_line, mounts_text}
use Rattle.pt_node.proofs.mounts.push_mounts.Given as goal

abbrev pub invariant-loop-id : goal.invariant-loop-id
invariant-loop-id l = l.out.items ++ flat_map mount_line l.id-iterator ≡ l.fn.out.items ++ mounts_text l.mounts
