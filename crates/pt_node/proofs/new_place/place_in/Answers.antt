use Rattle.std.proofs.Common.{sym, ap, ◌∙◌, ◌≡◌, ◌∷◌, option_and_then}
use Rattle.pt_node.specs.Paths.{parts}
use Rattle.pt_node.specs.NewPlace.{place_in}
use Rattle.pt_node.proofs.NewPlaces.{place-bad, place-next}
use Rattle.pt_node.proofs.new_place.place_in.Goals as goal

pub returns-then-not-is_good_name : goal.returns-then-not-is_good_name
returns-then-not-is_good_name c =
    sym (place-bad c.args.nodes.now c.loop-name.dir c.loop-name.left.now c.cut.result.0.now _ c.cut.ensures.parts
    (sym c.is_good_name.ensures ∙ c.if-not-is_good_name.true))
    ∙ c.loop-name.invariant

pub returns-in-None : goal.returns-in-None
returns-in-None c =
    let first : parts c.loop-name.left.now ≡ c.cut.result.0.now ∷ parts c.in-Some.rest.now =
    rw c.in-Some.is at c.cut.ensures.parts in
    let goes = place-next c.args.nodes.now c.loop-name.dir c.loop-name.left.now c.cut.result.0.now c.in-Some.rest.now
    first
    (sym c.is_good_name.ensures ∙ c.if-not-is_good_name.false) in
    sym (goes ∙ ap (option_and_then (λ child. place_in c.args.nodes.now child (parts c.in-Some.rest.now)))
    (sym c.in-None.ensures))
    ∙ c.loop-name.invariant
