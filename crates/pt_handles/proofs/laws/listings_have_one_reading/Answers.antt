use Rattle.std.proofs.Common.{◌∙◌, sym}
use Rattle.pt_handles.proofs.Listings.{listing_in}
use Rattle.pt_handles.proofs.laws.listings_have_one_reading.Goals as goal

pub returns : goal.returns
returns c bytes one other is also = sym (listing_in bytes one is) ∙ listing_in bytes other also
