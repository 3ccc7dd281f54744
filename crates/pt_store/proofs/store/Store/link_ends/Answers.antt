use Rattle.std.proofs.Common.{inr, refl}
use Rattle.pt_store.proofs.Found.{open_is, open_there}
use Rattle.pt_store.proofs.store.Store.link_ends.Goals as goal

pub links_of-links-requires-clause-there : goal.links_of-links-requires-clause-there
links_of-links-requires-clause-there c =
    open_there _ _ _ c.in-Some.linked c.in-Some.node.now c.in-Some.ensures.found c.deref.ensures.value

-- it is open
pub returns-in-None-clause-lives : goal.returns-in-None-clause-lives
returns-in-None-clause-lives c =
    inr (inr (
      c.args.from.0,
      c.in-Some.linked,
      open_is _ _ c.in-Some.linked c.in-Some.node.now c.in-Some.ensures.found,
      refl,
    ))
