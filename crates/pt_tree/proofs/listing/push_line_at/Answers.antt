use Rattle.std.proofs.Common.{◌++◌, List, ℕ, Option, Some, slice_get, ap, sym, ◌∙◌, append_assoc}
use Rattle.std.specs.List.{flat_map}
use Rattle.std.proofs.lemmas.Option.{slice_get-get_or}
use Rattle.pt_node.specs.Links.{links_of}
use Rattle.pt_tree.specs.Listing.{line_at, object_line, xattr_line}
use Rattle.pt_node.specs.declared.node.Node.{Node}
use Rattle.pt_tree.proofs.listing.push_line_at.Goals as goal

pub links_of-links-requires-clause-there : goal.links_of-links-requires-clause-there
links_of-links-requires-clause-there c =
    let node = c.in-Some.node.now in
    let lookup = c.in-Some.ensures.lookup in
    ap (λ (ns : List Node). slice_get ns c.args.object) (sym c.deref.ensures.value)
    ∙ slice_get-get_or c.deref.result.now c.args.object node lookup.3.0
    ∙ ap (λ (n : Node). Some n) (sym lookup.1)

pub push_object-requires : goal.push_object-requires
push_object-requires c =
    let node = c.in-Some.node.now in
    let lookup = c.in-Some.ensures.lookup in
    let there = ap (λ (ns : List Node). slice_get ns c.args.object) (sym c.deref.ensures.value)
    ∙ slice_get-get_or c.deref.result.now c.args.object node lookup.3.0
    ∙ ap (λ (n : Node). Some n) (sym lookup.1) in
    (c.requires.sound.made c.args.object node there).permissions

pub returns-in_ok-push_xattrs-in-Some : goal.returns-in_ok-push_xattrs-in-Some
returns-in_ok-push_xattrs-in-Some c =
    let nodes = c.args.store.now.nodes.items in
    let object = c.args.object in
    let path = c.args.path.now in
    let out = c.args.out.now.items in
    let node = c.in-Some.node.now in
    let lookup = c.in-Some.ensures.lookup in
    let there = ap (λ (ns : List Node). slice_get ns object) (sym c.deref.ensures.value)
    ∙ slice_get-get_or c.deref.result.now object node lookup.3.0
    ∙ ap (λ (n : Node). Some n) (sym lookup.1) in
    let line = c.in_ok-push_object-in-Some.ensures
    ∙ ap (λ (links : ℕ). out ++ object_line path links node) c.links_of-links.ensures in
    c.in_ok-push_xattrs-in-Some.ensures
    ∙ ap (λ (front : List ℕ). front ++ flat_map (xattr_line path) node.xattrs) line
    ∙ append_assoc out (object_line path (links_of nodes object node) node) (flat_map (xattr_line path) node.xattrs)
    ∙ ap (λ (at : Option Node). out ++ line_at nodes path object at) (sym there)
