use Rattle.std.proofs.Common.{◌≡◌, ◌-◌, ◌<◌, length}
use Rattle.std.specs.List.{flat_map, fold}
use Rattle.pt_rules.specs.OpeningCalls.{kept_path, lesser, paths_below}
use Rattle.pt_node.specs.Laws.NameOrder.{seen}
use Rattle.pt_change.proofs.TreePaths.{entry_paths}
use Rattle.pt_change.proofs.fd_paths.+look_below.Given as goal

abbrev pub decreases-look_below : goal.decreases-look_below
decreases-look_below l = l.depth

abbrev pub invariant-loop-name : goal.invariant-loop-name
invariant-loop-name l = record {
  path : l.path.items ≡ l.fn.path.items;
  from : l.length ≡ length l.fn.path.items;
  deep : 0 < l.depth;
  best : fold lesser (kept_path l.best)
      (flat_map (entry_paths (l.depth - 1) l.nodes l.fn.path.items l.object) (seen l.name-iterator))
      ≡ fold lesser (kept_path l.fn.best) (paths_below l.depth l.nodes l.fn.path.items l.dir l.object);
}
