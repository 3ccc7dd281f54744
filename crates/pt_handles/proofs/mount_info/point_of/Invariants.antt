use Rattle.std.proofs.Common.{◌≤◌, ℕ, List, Option, length}
use Rattle.pt_handles.specs.MountInfo.{TellsFirst, lines_within, lines_of}
use Rattle.pt_handles.proofs.mount_info.point_of.Given as goal

abbrev pub invariant-loop-end : goal.invariant-loop-end
invariant-loop-end l =
    (more : ℕ) × (length l.left ≤ more)
    × ((found : Option (List ℕ)) → TellsFirst l.mount_id (lines_within more l.left) found →
    TellsFirst l.mount_id (lines_of l.text) found)

abbrev pub decreases-loop-end : goal.decreases-loop-end
decreases-loop-end l = length l.left
