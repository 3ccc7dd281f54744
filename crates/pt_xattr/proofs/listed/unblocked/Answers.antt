use Rattle.std.proofs.Common.{◌≡◌, ◌<◌, ◌≤◌, ◌∙◌, ◌++◌, ℕ, length, List, [], take, get_or, sym, ap}
use Rattle.std.specs.List.{flat_map}
use Rattle.std.specs.Borrow.{Bor}
use Rattle.std.proofs.lemmas.List.{length-map}
use Rattle.pt_maps.specs.MappedNames.{names_of_list}
use Rattle.pt_maps.proofs.ListedNames.{texts, text_at}
use Rattle.pt_xattr.specs.Listed.{if_unblocked, unblocked}
use Rattle.pt_xattr.proofs.Lists.{flat_next, flat_whole}
use Rattle.pt_xattr.proofs.listed.unblocked.Goals as goal

abbrev no_name : Bor (List ℕ)
no_name = record { ref_ptr = (0, 0); now = [] }

pub loop-name-init : goal.loop-name-init
loop-name-init c = c.new-kept.ensures.items

pub loop-name-preserved : goal.loop-name-preserved
loop-name-preserved c =
    let items = c.deref-name-items.result.now in
    let place = c.loop-name.name-index in
    let agreed = c.args.agreed in
    let within : place < length (texts items) = rw length-map c.loop-name-test.true in
    c.in_ok-push_unblocked.ensures
    ∙ ap (λ kept. kept ++ if_unblocked agreed (get_or items place no_name).now) c.loop-name.invariant
    ∙ ap (λ name. flat_map (if_unblocked agreed) (take place (texts items)) ++ if_unblocked agreed name)
    (text_at items place no_name)
    ∙ sym (flat_next (if_unblocked agreed) (texts items) place [] within)

pub returns : goal.returns
returns c =
    let items = c.deref-name-items.result.now in
    let agreed = c.args.agreed in
    let all : texts items ≡ names_of_list c.args.list.now =
    ap texts c.deref-name-items.ensures.value ∙ c.in_ok-names.ensures in
    let past : length (texts items) ≤ c.loop-name.name-index = rw length-map c.loop-name-test.false in
    c.from_vec.ensures ∙ c.loop-name.invariant
    ∙ flat_whole (if_unblocked agreed) (texts items) c.loop-name.name-index past
    ∙ ap (flat_map (if_unblocked agreed)) all
