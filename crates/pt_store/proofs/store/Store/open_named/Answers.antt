use Rattle.std.proofs.Common.{inl, inr, sym, ◌∙◌}
use Rattle.pt_store.specs.StoreState.{state_of}
use Rattle.pt_rules.specs.Laws.Finding.{led_is}
use Rattle.pt_rules.specs.Laws.NameFair.{there_at}
use Rattle.pt_store.proofs.Found.{open_there}
use Rattle.pt_store.proofs.store.Store.open_named.Goals as goal

pub open-requires-clause-lives : goal.open-requires-clause-lives
open-requires-clause-lives c =
    let dir = c.in-Some.dir.now in
    let name = c.args.name.now in
    let at = open_there _ _ _ _ dir c.in-Some.ensures.found c.deref.ensures.value in
    inr (inl (
      _,
      name,
      there_at (state_of c.args.self.now) _ dir name at ∙ sym c.lookup.ensures
          ∙ (led_is _ _ _ (sym c.in-Some-led_on.ensures)).0,
    ))
