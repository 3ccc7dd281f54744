use Rattle.std.proofs.Common.{ℕ, List, subst, arith}
use Rattle.pt_handles.specs.Record.{Dirent, IsListing, BreaksAt}
use Rattle.pt_handles.proofs.Listings.{own_listing, broken_is_none}
use Rattle.pt_handles.proofs.read_dir.ReadDir.from_bytes.Goals as goal

pub invariant_of-result : goal.invariant_of-result
invariant_of-result c =
    let found =
    subst (λ (l : List ℕ). (entries : List Dirent) × IsListing l entries) c.as_slice.ensures c.in-None.ensures.none
    in
    record { within = omega arith; left = own_listing c.args.bytes found.0 found.1 }

pub returns-in-None-clause-read : goal.returns-in-None-clause-read
returns-in-None-clause-read c =
    let found =
    subst (λ (l : List ℕ). (entries : List Dirent) × IsListing l entries) c.as_slice.ensures c.in-None.ensures.none
    in
    own_listing c.args.bytes found.0 found.1

pub returns-in-Some-clause-no_listing : goal.returns-in-Some-clause-no_listing
returns-in-Some-clause-no_listing c =
    broken_is_none c.args.bytes c.in-Some.place
    (subst (λ (l : List ℕ). BreaksAt l c.in-Some.place) c.as_slice.ensures c.in-Some.ensures.some)
