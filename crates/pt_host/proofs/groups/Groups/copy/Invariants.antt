use Rattle.std.proofs.Common.{◌≡◌, take}
use Rattle.pt_host.proofs.groups.Groups.copy.Given as goal

abbrev pub invariant-loop-group : goal.invariant-loop-group
invariant-loop-group l = l.kept.items ≡ take l.group-index l.group-items
