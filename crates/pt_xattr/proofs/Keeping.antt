-- Each request of extended attributes and of listings is told, asks and brings no more than there is room for.
use Rattle.std.proofs.Common.{◌≡◌, ◌==◌, ℕ, zero, suc, Bool, true, false, List, [], Option, Some, None, Result, Ok, Err}
use Rattle.std.proofs.Common.{refl, sym, subst, if◌then◌else◌}
use Rattle.std.specs.List.{list_any}
use Rattle.pt_host.specs.Call.{Call}
use Rattle.pt_host.specs.Errno.{einval, eio, enosys}
use Rattle.pt_host.specs.declared.ids.Errno.{Errno}
use Rattle.pt_host.specs.declared.ids.Fd.{Fd}
use Rattle.pt_host.specs.declared.op.KeptHostOp.TheVariants as call
use Rattle.pt_tables.specs.declared.form.Negotiated.{Negotiated}
use Rattle.pt_tables.specs.declared.reply.Resolved.{Resolved}
use Rattle.pt_iface.specs.declared.answer.Answer.TheVariants as answer
use Rattle.pt_iface.specs.declared.directory.DirEntry.{DirEntry}
use Rattle.pt_iface.specs.declared.flags.SetxattrFlags.{SetxattrFlags}
use Rattle.pt_frame.specs.Tree.{RequestTree, Gives, by_bytes, by_entries, make_bytes, make_entries}
use Rattle.pt_frame.specs.Machine.Room.{Keeps, KeepsOn, most_holds, most_rows, most_told}
use Rattle.pt_frame.specs.declared.product.Product.{Product}
use Rattle.pt_frame.specs.declared.product.Product.TheVariants as product
use Rattle.pt_frame.proofs.Keeping.{sooner}
use Rattle.pt_req.specs.Entries.{can_open}
use Rattle.pt_req.specs.Parts.{file_of, open_inode}
use Rattle.pt_req.specs.Steps.{begin}
use Rattle.pt_req.specs.declared.begun.BegunSession.{BegunSession}
use Rattle.pt_req.specs.declared.plan.Plan.{Plan}
use Rattle.pt_req.proofs.Keeping.{capability_keeps, file_keeps, host_name_keeps, if_keeps, if_keeps_on, inode_keeps, more}
use Rattle.pt_req.proofs.Keeping.{placed_keeps, plus, step, step_on}
use Rattle.pt_xattr.specs.Listed.{entries_of, names_told}
use Rattle.pt_xattr.specs.Parts.{allowed, allowed_to_read, as_missing, file_by, kills_sgid, list_length, list_told}
use Rattle.pt_xattr.specs.Parts.{list_whole, nul_free, sgid_killed, value_length, value_told, value_whole, with_xattr}
use Rattle.pt_xattr.specs.Parts.{xattr_file}
use Rattle.pt_xattr.specs.Requests.{getxattr, listed_from, listing, listxattr, readdir, removexattr, setxattr}
use Rattle.pt_xattr.specs.declared.parts.XattrFile.{XattrFile}

-- checks
with_keeps : (plan : Plan) (next : RequestTree) (told acts room rows : ℕ) → KeepsOn next told acts room rows →
    KeepsOn (with_xattr plan next) told acts room rows
unfolding with_xattr
with_keeps plan next told acts room rows is =
    if_keeps_on plan.config.xattr next (Gives (answer.Refused enosys)) told acts room rows is tt

nul_keeps : (name : List ℕ) (next : RequestTree) (told acts room rows : ℕ) → KeepsOn next told acts room rows →
    KeepsOn (nul_free name next) told acts room rows
unfolding nul_free
nul_keeps name next told acts room rows is =
    if_keeps_on (list_any (λ byte. byte == 0) name) (Gives (answer.Refused einval)) next told acts room rows tt is

allowed_keeps : (found : Result (List ℕ) Errno) (next : List ℕ → RequestTree) (told acts room rows : ℕ) →
    ((name : List ℕ) → Keeps (next name) told acts room rows) → Keeps (allowed found next) told acts room rows
unfolding allowed
allowed_keeps (Ok name) next told acts room rows is = is name
allowed_keeps (Err errno) next told acts room rows is = tt

read_keeps : (found : Result (List ℕ) Errno) (next : List ℕ → RequestTree) (told acts room rows : ℕ) →
    ((name : List ℕ) → Keeps (next name) told acts room rows) → Keeps (allowed_to_read found next) told acts room rows
unfolding allowed_to_read
read_keeps (Ok name) next told acts room rows is = is name
read_keeps (Err errno) next told acts room rows is = tt

-- what attributes are asked by
xattr_keeps : (plan : Plan) (session : BegunSession) (row : Resolved) (number : ℕ) (next : XattrFile → RequestTree)
    (told acts room rows : ℕ) → ((file : XattrFile) → Keeps (next file) told acts room rows) →
    Keeps (xattr_file plan session row number next) (plus 2 told) (plus 4 acts) (plus 2 room) rows
unfolding xattr_file
xattr_keeps plan session row number next told acts room rows is =
    if_keeps (can_open row.mode) (open_inode plan session number 2048 (λ fd. next (file_by false fd)))
    (file_of row.form (λ fd. next (file_by true fd))) (plus 2 told) (plus 4 acts) (plus 2 room) rows
    (inode_keeps plan session number 2048 (λ fd. next (file_by false fd)) told acts room rows (λ fd. is _))
    (file_keeps row.form (λ fd. next (file_by true fd)) (plus 2 told) (plus 4 acts) (plus 2 room) rows (λ fd.
    more 2 4 2 0 (next (file_by true fd)) told acts room rows (is _)))

killed_keeps : (is : Bool) (file : XattrFile) (next : RequestTree) (told acts room rows : ℕ) →
    Keeps next told acts room rows → Keeps (sgid_killed is file next) (plus 2 told) (plus 2 acts) room rows
killed_keeps false file next told acts room rows is = more 2 2 0 0 next told acts room rows is
killed_keeps true file next told acts room rows is =
    step _ _ (plus 1 told) (plus 1 acts) room rows (λ stat. step _ _ told acts room rows (λ done. is))

value_keeps : (file : XattrFile) (name : List ℕ) (size told acts room rows : ℕ) →
    Keeps (value_told file name size) (plus 1 told) (plus 1 acts) room rows
unfolding value_told
value_keeps file name size told acts room rows =
    if_keeps (size == 0) (value_length file name size) (value_whole file name size) (plus 1 told) (plus 1 acts) room
    rows (step _ _ told acts room rows (λ count. tt)) (step _ _ told acts room rows (λ value. tt))

made_keeps : (made : List ℕ) (next : List ℕ → RequestTree) (told acts room rows : ℕ) →
    ((bytes : List ℕ) → Keeps (next bytes) told acts room rows) →
    KeepsOn (make_bytes made next) (plus 1 told) acts room rows
made_keeps made next told acts room rows is = by
  where
    by : (kept : Product) → Keeps (by_bytes next kept) told acts room rows
    by (product.Bytes bytes) = is bytes
    by (product.Entries entries) = tt

entries_keep : (made : List DirEntry) (next : List DirEntry → RequestTree) (told acts room rows : ℕ) →
    ((entries : List DirEntry) → Keeps (next entries) told acts room rows) →
    KeepsOn (make_entries made next) (plus 1 told) acts room rows
entries_keep made next told acts room rows is = by
  where
    by : (kept : Product) → Keeps (by_entries next kept) told acts room rows
    by (product.Entries entries) = is entries
    by (product.Bytes bytes) = tt

list_keeps : (plan : Plan) (agreed : Negotiated) (file : XattrFile) (size told acts room rows : ℕ) →
    Keeps (list_told plan agreed file size) (plus 2 told) (plus 1 acts) room rows
unfolding list_told
list_keeps plan agreed file size told acts room rows =
    if_keeps (size == 0) (list_length file size) (list_whole plan agreed file size) (plus 2 told) (plus 1 acts) room
    rows (step _ _ (plus 1 told) acts room rows (λ count. tt))
    (step_on _ _ (plus 1 told) acts room rows (λ list.
    made_keeps (names_told plan agreed list) _ told acts room rows (λ names. tt)))

-- the requests
pub setxattr_keeps : (plan : Plan) (inode : ℕ) (name value : List ℕ) (flags : ℕ) (extra : SetxattrFlags) →
    Keeps (begin (setxattr plan inode name value flags extra)) most_told 48 most_holds most_rows
setxattr_keeps plan inode name value flags extra = step_on _ _ 31 47 17 4 (λ session.
    with_keeps plan _ 31 47 17 4 (nul_keeps name _ 31 47 17 4 (
    step_on _ _ 30 45 16 4 (λ row.
    host_name_keeps plan session.agreed name _ 29 45 16 4 (λ found.
    allowed_keeps found _ 29 45 16 4 (λ named.
    xattr_keeps plan session row inode _ 27 41 14 4 (λ file.
    capability_keeps plan.capability file.fd file.through _ 26 40 14 4 (
    killed_keeps (kills_sgid session.agreed extra named) file _ 24 38 14 4 (
    step _ _ 23 37 14 4 (λ done. tt))))))))))

pub getxattr_keeps : (plan : Plan) (inode : ℕ) (name : List ℕ) (size : ℕ) →
    Keeps (begin (getxattr plan inode name size)) most_told 48 most_holds most_rows
getxattr_keeps plan inode name size = step_on _ _ 31 47 17 4 (λ session.
    with_keeps plan _ 31 47 17 4 (nul_keeps name _ 31 47 17 4 (
    host_name_keeps plan session.agreed name _ 30 47 17 4 (λ found.
    read_keeps found _ 30 47 17 4 (λ named.
    step _ _ 29 45 16 4 (λ row.
    xattr_keeps plan session row inode _ 27 41 14 4 (λ file. value_keeps file named size 26 40 14 4)))))))

pub listxattr_keeps : (plan : Plan) (inode size : ℕ) →
    Keeps (begin (listxattr plan inode size)) most_told 48 most_holds most_rows
listxattr_keeps plan inode size = step_on _ _ 31 47 17 4 (λ session.
    with_keeps plan _ 31 47 17 4 (
    step _ _ 30 45 16 4 (λ row.
    xattr_keeps plan session row inode _ 28 41 14 4 (λ file. list_keeps plan session.agreed file size 26 40 14 4))))

pub removexattr_keeps : (plan : Plan) (inode : ℕ) (name : List ℕ) →
    Keeps (begin (removexattr plan inode name)) most_told 48 most_holds most_rows
removexattr_keeps plan inode name = step_on _ _ 31 47 17 4 (λ session.
    with_keeps plan _ 31 47 17 4 (nul_keeps name _ 31 47 17 4 (
    step_on _ _ 30 45 16 4 (λ row.
    host_name_keeps plan session.agreed name _ 29 45 16 4 (λ found.
    allowed_keeps found _ 29 45 16 4 (λ named.
    xattr_keeps plan session row inode _ 27 41 14 4 (λ file. step _ _ 26 40 14 4 (λ done. tt))))))))

listing_keeps : (entries : Option (List DirEntry)) (told acts room rows : ℕ) →
    KeepsOn (listing entries) (plus 1 told) acts room rows
listing_keeps None told acts room rows = tt
listing_keeps (Some entries) told acts room rows = entries_keep entries _ told acts room rows (λ made. tt)

pub readdir_keeps : (inode handle size offset : ℕ) →
    Keeps (begin (readdir inode handle size offset)) most_told 8 most_holds most_rows
unfolding readdir
readdir_keeps inode handle size offset = step _ _ 31 7 17 4 (λ session.
    if_keeps (size == 0) (Gives (answer.Listing [])) (listed_from inode handle size offset) 31 7 17 4 tt (
    placed_keeps offset _ 31 7 17 4 (
    step _ _ 30 5 16 4 (λ fd.
    step_on _ _ 29 4 16 4 (λ bytes. listing_keeps (entries_of bytes) 28 4 16 4)))))
