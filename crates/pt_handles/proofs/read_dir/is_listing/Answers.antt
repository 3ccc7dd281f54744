use Rattle.pt_handles.proofs.Listings.{is_a_listing, no_listing}
use Rattle.pt_handles.proofs.read_dir.is_listing.Goals as goal

pub returns-in-None : goal.returns-in-None
returns-in-None c = is_a_listing _ c.in-None.ensures.none.0 c.in-None.ensures.none.1

pub returns-in-Some : goal.returns-in-Some
returns-in-Some c = no_listing _ c.in-Some._place c.in-Some.ensures.some
