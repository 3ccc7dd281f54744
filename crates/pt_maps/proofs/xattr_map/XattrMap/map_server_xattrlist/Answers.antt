use Rattle.std.proofs.Common.{◌≡◌, ◌≢◌, ◌<◌, ◌≤◌, length, Some, None, List, [], ◌++◌, ℕ, sym, ap, ◌∙◌}
use Rattle.std.specs.Prelude.{option_map}
use Rattle.std.specs.Borrow.{Bor}
use Rattle.std.proofs.lemmas.List.{length-map}
use Rattle.pt_maps.specs.declared.error.MapError.TheVariants.{Memory, Unmet}
use Rattle.pt_maps.specs.MappedNames.{listed_name, listed_names, names_of_list, server_list}
use Rattle.pt_maps.proofs.ListedNames.{texts, text_at, listed_next, unmet_here, listed_whole}
use Rattle.pt_maps.proofs.Whole.{passed}
use Rattle.pt_maps.proofs.xattr_map.XattrMap.map_server_xattrlist.Goals as goal

abbrev no_name : Bor (List ℕ)
no_name = record { ref_ptr = (0, 0); now = [] }

pub loop-name-init : goal.loop-name-init
loop-name-init c = ap (λ items. Some items) (sym c.new-kept.ensures.items)

pub loop-name-preserved : goal.loop-name-preserved
loop-name-preserved c =
    let items = c.deref-name-items.result.now in
    let place = c.loop-name.name-index in
    let within : place < length (texts items) = rw length-map c.loop-name-test.true in
    listed_next c.args.self.now (texts items) place [] c.loop-name.kept.items within c.loop-name.invariant
    ∙ ap (λ name. option_map (λ one. c.loop-name.kept.items ++ one) (listed_name c.args.self.now name))
    (sym (text_at items place no_name))
    ∙ c.in_ok-push_listed.ensures.kept

pub returns-in_err-push_listed-clause-unmet : goal.returns-in_err-push_listed-clause-unmet
returns-in_err-push_listed-clause-unmet c =
    let items = c.deref-name-items.result.now in
    let place = c.loop-name.name-index in
    let rules = c.args.self.now in
    let within : place < length (texts items) = rw length-map c.loop-name-test.true in
    let all : texts items ≡ names_of_list c.args.list.now =
    ap texts c.deref-name-items.ensures.value ∙ c.in_ok-names.ensures in
    passed (λ error. error ≢ Memory → (error ≡ Unmet) × (server_list rules c.args.list.now ≡ None)) _ _
    c.from_residual-in_err-push_listed.ensures.1
    (λ differs. let why = c.in_err-push_listed.ensures.unmet differs in (
      why.0,
      ap (λ names. listed_names rules names) (sym all)
          ∙ unmet_here rules (texts items) place [] c.loop-name.kept.items within c.loop-name.invariant
          (ap (λ name. listed_name rules name) (sym (text_at items place no_name)) ∙ why.1),
    ))

pub returns-clause-names : goal.returns-clause-names
returns-clause-names c =
    let items = c.deref-name-items.result.now in
    let rules = c.args.self.now in
    let all : texts items ≡ names_of_list c.args.list.now =
    ap texts c.deref-name-items.ensures.value ∙ c.in_ok-names.ensures in
    let past : length (texts items) ≤ c.loop-name.name-index = rw length-map c.loop-name-test.false in
    ap (λ names. listed_names rules names) (sym all)
    ∙ listed_whole rules (texts items) c.loop-name.name-index [] c.loop-name.kept.items past c.loop-name.invariant
    ∙ ap (λ told. Some told) (sym c.from_vec.ensures)
