use Rattle.std.proofs.Common.{◌++◌, ap, ◌∙◌}
use Rattle.std.specs.List.{flat_map}
use Rattle.pt_node.specs.Mounts.{mount_line}
use Rattle.pt_node.proofs.mounts.push_mounts.Goals as goal

pub loop-id-init : goal.loop-id-init
loop-id-init c =
    ap (λ entries. c.args.out.now.items ++ flat_map mount_line entries)
    (c.into_iter-id-iterator.ensures.into_iter_gives ∙ c.iter-id-items.ensures.rest ∙ c.mounts.view_is)
