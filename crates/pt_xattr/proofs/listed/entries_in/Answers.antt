use Rattle.std.proofs.Common.{◌≡◌, ◌∙◌, ℕ, List, map, ap, sym, subst}
use Rattle.std.specs.Prelude.{IfOk}
use Rattle.pt_iface.specs.declared.directory.DirEntry.{DirEntry}
use Rattle.pt_handles.specs.Dirents.{dirents_in}
use Rattle.pt_handles.specs.Listed.{IsRead}
use Rattle.pt_handles.specs.Record.{Dirent, IsListing}
use Rattle.pt_handles.proofs.Listings.{listing_in, seen_listing}
use Rattle.pt_xattr.specs.Listed.{entry_told}
use Rattle.pt_xattr.proofs.listed.entries_in.Goals as goal

pub returns : goal.returns
returns c =
    let read = listing_in c.in_ok-copy.field-0 c.in-Ok.reader c.in-Ok.ensures.read in
    let all : map entry_told c.in-Ok.reader ≡ map entry_told (dirents_in c.args.bytes.now) =
    ap (λ (l : List Dirent). map entry_told l) (sym read ∙ ap dirents_in c.in_ok-copy.ensures)
    in
    subst (λ (told : List DirEntry). IfOk c.rest_of.result (λ entries. entries ≡ told)) all c.rest_of.ensures

pub unreachable-requires : goal.unreachable-requires
unreachable-requires c =
    c.in-Err.ensures.no_listing (dirents_in c.args.bytes.now)
    (subst (λ (l : List ℕ). IsListing l (dirents_in c.args.bytes.now)) (sym c.in_ok-copy.ensures)
    (seen_listing c.args.bytes.now c.requires))
