use Rattle.std.proofs.Common.{◌≡◌, ◌++◌, ap, ◌∙◌}
use Rattle.pt_node.specs.Attributes.{names_listed}
use Rattle.pt_node.specs.Laws.NameOrder.{seen}
use Rattle.pt_change.proofs.attribute_checks.names_listed.Goals as goal

pub loop-name-init : goal.loop-name-init
loop-name-init c =
    let entries : seen c.into_iter-name-iterator.result ≡ c.args.xattrs.now =
    ap seen (c.into_iter-name-iterator.ensures.into_iter_gives ∙ c.iter-name-items.ensures.rest) ∙ c.xattrs.view_is in
    ap (λ names. names ++ names_listed (seen c.into_iter-name-iterator.result)) c.new-names.ensures.items
    ∙ ap names_listed entries
