-- Each request of names, attributes and contents is told, asks and brings no more than there is room for.
use Rattle.std.proofs.Common.{◌≡◌, ℕ, suc, Bool, true, false, List, Option, Some, None, Result, Ok, Err, refl, sym}
use Rattle.std.proofs.Common.{subst}
use Rattle.std.specs.Prelude.{◌||◌}
use Rattle.std.specs.List.{list_any}
use Rattle.pt_host.specs.Call.{Call}
use Rattle.pt_host.specs.Errno.{einval, estale}
use Rattle.pt_host.specs.declared.ids.Errno.{Errno}
use Rattle.pt_host.specs.declared.ids.Fd.{Fd}
use Rattle.pt_host.specs.declared.op.KeptHostOp.TheVariants as call
use Rattle.pt_host.specs.declared.seat.HostSeat.{HostSeat}
use Rattle.pt_host.specs.declared.ids.ObjIds.{ObjIds}
use Rattle.pt_maps.specs.Translated.{to_host}
use Rattle.pt_tables.specs.declared.reply.Resolved.{Resolved}
use Rattle.pt_iface.specs.declared.answer.Answer.{Answer}
use Rattle.pt_iface.specs.declared.answer.Answer.TheVariants as answer
use Rattle.pt_iface.specs.declared.flags.SetattrValid.{SetattrValid}
use Rattle.pt_iface.specs.declared.request.Context.{Context}
use Rattle.pt_iface.specs.declared.request.SetattrIn.{SetattrIn}
use Rattle.pt_frame.specs.Deed.{Calls}
use Rattle.pt_frame.specs.Machine.Brings.{brings_of}
use Rattle.pt_frame.specs.Machine.Room.{Keeps, KeepsOn, SpendsAct, most_holds, most_rows, most_told}
use Rattle.pt_frame.specs.Tree.{RequestTree, Gives, Bares, on}
use Rattle.pt_frame.specs.declared.act.ActReply.{ActReply}
use Rattle.pt_frame.specs.declared.told.Brings.{Brings}
use Rattle.pt_frame.specs.declared.told.Brings.TheVariants as brings
use Rattle.pt_req.specs.Asker.{asker_of, umask_of}
use Rattle.pt_req.specs.Attributes.{Label, host_label}
use Rattle.pt_req.specs.Capability.{drops_fsetid}
use Rattle.pt_req.specs.Options.{o_nofollow}
use Rattle.pt_req.specs.Parts.{file_of, open_row}
use Rattle.pt_req.specs.Steps.{begin, ok_in, resolve, or_refused, tried_in}
use Rattle.pt_req.specs.declared.begun.BegunSession.{BegunSession}
use Rattle.pt_req.specs.declared.plan.Plan.{Plan}
use Rattle.pt_req.proofs.Keeping.{plus, more, bared, step, if_keeps, named_keeps, placed_keeps, file_keeps, row_keeps}
use Rattle.pt_req.proofs.Keeping.{inode_keeps, look_up_keeps, fsetid_keeps, asker_keeps, capability_keeps}
use Rattle.pt_req.proofs.Keeping.{host_label_keeps, umask_keeps, handled_keeps, open_keeps, step_on}
use Rattle.pt_req.specs.declared.replies.Made.{Made}
use Rattle.pt_req.specs.declared.replies.Made.TheVariants.{New, Old}
use Rattle.pt_attr.specs.Contents.{copyfilerange, fallocate, flush, fsync, lseek, syncfs, write}
use Rattle.pt_attr.specs.Making.{ObjectAsked, is_nul, kept_at, label_at, labelled_at, make_object, mkdir, mknod}
use Rattle.pt_attr.specs.Making.{set_by_name, set_opened, symlink, targeted}
use Rattle.pt_attr.specs.Parts.{file_by, files_by, tell_attr}
use Rattle.pt_attr.specs.Requests.{access, getattr, link, readlink, rename, rmdir, statfs, unlink}
use Rattle.pt_attr.specs.Setting.{cut_if, do_if, file_set, id_set, is_missized, kills_suidgid, opens_anew, own_as}
use Rattle.pt_attr.specs.Setting.{own_if, set_owner, set_size, setattr, setting_flags, sets_atime, sets_gid, sets_mode}
use Rattle.pt_attr.specs.Setting.{sets_mtime, sets_size, sets_uid, sized, target_of, atime_set, mtime_set}
use Rattle.pt_attr.specs.Steps.{do_call, make}
use Rattle.pt_attr.specs.declared.parts.TwoFiles.{TwoFiles}
use Rattle.pt_attr.specs.declared.parts.setting.Target.{Target}
use Rattle.pt_attr.specs.Creating.{FileAsked, are_same, if_same, undone, kept_with, labelled, labelled_by, new_file}
use Rattle.pt_attr.specs.Creating.{old_file, made_file, make_file, named_handle, create}
use Rattle.pt_attr.specs.declared.parts.creating.NamedHandle.{NamedHandle}

pub same_keeps : (made found : ObjIds) (next : RequestTree) (told acts room rows : ℕ) →
    Keeps next told acts room rows → Keeps (if_same made found next) told acts room rows
unfolding if_same
same_keeps made found next told acts room rows is =
    if_keeps (are_same made found) next (Gives (answer.Refused estale)) told acts room rows is tt

-- a making
pub undone_keeps : (undoing : Call) (last : Answer) (told acts room rows : ℕ) →
    brings_of (Calls undoing) ≡ brings.Nothing → Keeps (undone undoing last) (plus 1 told) (plus 1 acts) room rows
undone_keeps undoing last told acts room rows e =
    subst (λ (may : Brings). SpendsAct may (suc acts) room rows (λ x y z.
    (reply : ActReply) → KeepsOn (on tried_in (λ done. Gives last) reply) told x y z)) (sym e)
    (step tried_in (λ done. Gives last) told acts room rows (λ done. tt))

pub or_keeps : (undoing : Call) (next : RequestTree) (refused : Option Answer) (told acts room rows : ℕ) →
    brings_of (Calls undoing) ≡ brings.Nothing → Keeps next told acts room rows →
    Keeps (or_refused (undone undoing) next refused) (plus 1 told) (plus 1 acts) room rows
or_keeps undoing next None told acts room rows e is = more 1 1 0 0 next told acts room rows is
or_keeps undoing next (Some last) told acts room rows e is = undone_keeps undoing last told acts room rows e

kept_with_keeps : (fd : Fd) (undoing : Call) (name value : List ℕ) (next : RequestTree) (told acts room rows : ℕ) →
    brings_of (Calls undoing) ≡ brings.Nothing → Keeps next told acts room rows →
    Keeps (kept_with fd undoing name value next) (plus 2 told) (plus 2 acts) room rows
kept_with_keeps fd undoing name value next told acts room rows e is =
    step _ _ _ _ _ _ (λ refused. or_keeps undoing next refused told acts room rows e is)

labelled_by_keeps : (fd : Fd) (undoing : Call) (value : List ℕ) (name : Result (List ℕ) Errno) (next : RequestTree)
    (told acts room rows : ℕ) → brings_of (Calls undoing) ≡ brings.Nothing → Keeps next told acts room rows →
    Keeps (labelled_by fd undoing value name next) (plus 2 told) (plus 2 acts) room rows
labelled_by_keeps fd undoing value (Err errno) next told acts room rows e is =
    undone_keeps undoing (answer.Refused errno) (suc told) (suc acts) room rows e
labelled_by_keeps fd undoing value (Ok name) next told acts room rows e is =
    kept_with_keeps fd undoing name value next told acts room rows e is

labelled_keeps : (fd : Fd) (undoing : Call) (label : Option Label) (next : RequestTree) (told acts room rows : ℕ) →
    brings_of (Calls undoing) ≡ brings.Nothing → Keeps next told acts room rows →
    Keeps (labelled fd undoing label next) (plus 2 told) (plus 2 acts) room rows
labelled_keeps fd undoing None next told acts room rows e is = more 2 2 0 0 next told acts room rows is
labelled_keeps fd undoing (Some label) next told acts room rows e is =
    labelled_by_keeps fd undoing label.value label.name next told acts room rows e is

new_keeps : (plan : Plan) (session : BegunSession) (asked : FileAsked) (label : Option Label) (dir fd : Fd)
    (next : NamedHandle → RequestTree) (told acts room rows : ℕ) →
    ((file : NamedHandle) → Keeps (next file) told acts room rows) →
    Keeps (new_file plan session asked label dir fd next) (plus 15 told) (plus 19 acts) (plus 7 room) (plus 2 rows)
unfolding new_file
new_keeps plan session asked label dir fd next told acts room rows is =
    step _ _ _ _ _ _ (λ made.
    labelled_keeps fd (call.Unlink dir asked.name) label _ (plus 12 told) (plus 16 acts)
    (plus 7 room) (plus 2 rows) refl (
    look_up_keeps plan session asked.parent asked.name _ (plus 3 told) (plus 4 acts) (plus 1 room) (plus 1 rows)
    (λ looked. same_keeps made.ids looked.ids _ _ _ _ _ (
    handled_keeps session looked.entry.inode fd _ told acts room rows (λ handle. is _)))))

old_keeps : (plan : Plan) (seat : HostSeat) (session : BegunSession) (asked : FileAsked)
    (next : NamedHandle → RequestTree) (told acts room rows : ℕ) →
    ((file : NamedHandle) → Keeps (next file) told acts room rows) →
    Keeps (old_file plan seat session asked next) (plus 19 told) (plus 23 acts) (plus 11 room) (plus 2 rows)
unfolding old_file
old_keeps plan seat session asked next told acts room rows is =
    look_up_keeps plan session asked.parent asked.name _ (plus 10 told) (plus 11 acts) (plus 5 room) (plus 1 rows)
    (λ looked. open_keeps plan seat session looked.entry.inode asked.kill asked.flags
    (λ handle. next (named_handle looked.entry handle)) told acts room rows (λ handle. is _))

made_keeps : (plan : Plan) (seat : HostSeat) (session : BegunSession) (asked : FileAsked) (label : Option Label)
    (dir : Fd) (made : Made) (next : NamedHandle → RequestTree) (told acts room rows : ℕ) →
    ((file : NamedHandle) → Keeps (next file) told acts room rows) →
    Keeps (made_file plan seat session asked label dir made next) (plus 19 told) (plus 23 acts) (plus 11 room)
    (plus 2 rows)
made_keeps plan seat session asked label dir (New fd) next told acts room rows is =
    more 4 4 4 0 (new_file plan session asked label dir fd next) (plus 15 told) (plus 19 acts) (plus 7 room)
    (plus 2 rows)
    (new_keeps plan session asked label dir fd next told acts room rows is)
made_keeps plan seat session asked label dir Old next told acts room rows is =
    old_keeps plan seat session asked next told acts room rows is

pub making_keeps : (plan : Plan) (seat : HostSeat) (session : BegunSession) (asked : FileAsked) (label : Option Label)
    (dir : Fd) (next : NamedHandle → RequestTree) (told acts room rows : ℕ) →
    ((file : NamedHandle) → Keeps (next file) told acts room rows) →
    Keeps (make_file plan seat session asked label dir next) (plus 26 told) (plus 34 acts) (plus 16 room) (plus 2 rows)
unfolding make_file
making_keeps plan seat session asked label dir next told acts room rows is =
    asker_keeps seat (asker_of plan session asked.who asked.ext.sup_gid) _ (plus 22 told) (plus 27 acts)
    (plus 13 room) (plus 2 rows) (
    umask_keeps (umask_of session (Some asked.umask)) _ (plus 21 told) (plus 25 acts) (plus 12 room) (plus 2 rows)
    (λ reply. bared _ _ (plus 19 told) (plus 23 acts) (plus 11 room) (plus 2 rows) (λ made.
    made_keeps plan seat session asked label dir made next told acts room rows is) reply))

pub create_keeps : (plan : Plan) (seat : HostSeat) (asked : FileAsked) →
    Keeps (begin (create plan seat asked)) most_told 96 most_holds most_rows
create_keeps plan seat asked = step _ _ _ _ _ _ (λ session. named_keeps asked.name _ _ _ _ _ (
    step_on _ _ 30 93 16 4 (λ directory. host_label_keeps plan session.agreed asked.ext.secctx _ 29 93 16 4 (λ label.
    file_keeps directory.form _ _ _ _ _ (λ dir.
    making_keeps plan seat session asked label dir _ 3 59 0 2 (λ file. tt))))))

-- calls that bring nothing
call_keeps : (asked : Call) (next : RequestTree) (told acts room rows : ℕ) → brings_of (Calls asked) ≡ brings.Nothing →
    Keeps next told acts room rows → Keeps (do_call asked next) (plus 1 told) (plus 1 acts) room rows
call_keeps asked next told acts room rows e is =
    subst (λ (may : Brings). SpendsAct may (suc acts) room rows (λ x y z.
    (reply : ActReply) → KeepsOn (on ok_in (λ done. next) reply) told x y z)) (sym e)
    (step ok_in (λ done. next) told acts room rows (λ done. is))

make_keeps : (making : Call) (next : RequestTree) (told acts room rows : ℕ) →
    brings_of (Calls making) ≡ brings.Nothing → Keeps next told acts room rows →
    Keeps (make making next) (plus 2 told) (plus 1 acts) room rows
make_keeps making next told acts room rows e is =
    subst (λ (may : Brings). SpendsAct may (suc acts) room rows (λ x y z.
    (reply : ActReply) → KeepsOn (Bares (on ok_in (λ done. next) reply)) (suc told) x y z)) (sym e)
    (bared ok_in (λ done. next) told acts room rows (λ done. is))

-- files
file_by_keeps : (number : ℕ) (next : Fd → RequestTree) (told acts room rows : ℕ) →
    ((fd : Fd) → Keeps (next fd) told acts room rows) →
    Keeps (file_by number next) (plus 1 told) (plus 2 acts) (plus 1 room) rows
file_by_keeps number next told acts room rows is =
    step _ _ told acts room rows (λ row. file_keeps row.form next told acts room rows is)

files_keeps : (first second : ℕ) (next : TwoFiles → RequestTree) (told acts room rows : ℕ) →
    ((files : TwoFiles) → Keeps (next files) told acts room rows) →
    Keeps (files_by first second next) (plus 2 told) (plus 4 acts) (plus 2 room) rows
unfolding files_by
files_keeps first second next told acts room rows is =
    step _ _ (plus 1 told) (plus 2 acts) (plus 1 room) rows (λ one.
    step _ _ told acts room rows (λ other.
    file_keeps one.form _ told acts room rows (λ from. file_keeps other.form _ told acts room rows (λ to. is _))))

attr_keeps : (plan : Plan) (inode told acts room rows : ℕ) →
    Keeps (tell_attr plan inode) (plus 2 told) (plus 3 acts) (plus 1 room) rows
attr_keeps plan inode told acts room rows =
    file_by_keeps inode _ (plus 1 told) (plus 1 acts) room rows (λ fd. step _ _ _ _ _ _ (λ stat. tt))

-- a making
opened_keeps : (attribute value : List ℕ) (opened : Result Fd Answer) (next : Option Answer → RequestTree)
    (told acts room rows : ℕ) → ((refused : Option Answer) → Keeps (next refused) told acts room rows) →
    Keeps (set_opened attribute value opened next) (plus 1 told) (plus 1 acts) room rows
opened_keeps attribute value (Ok fd) next told acts room rows is = step _ _ told acts room rows is
opened_keeps attribute value (Err last) next told acts room rows is =
    more 1 1 0 0 (next (Some last)) told acts room rows (is (Some last))

by_name_keeps : (dir : Fd) (name attribute value : List ℕ) (next : Option Answer → RequestTree)
    (told acts room rows : ℕ) → ((refused : Option Answer) → Keeps (next refused) told acts room rows) →
    Keeps (set_by_name dir name attribute value next) (plus 4 told) (plus 3 acts) (plus 2 room) rows
by_name_keeps dir name attribute value next told acts room rows is =
    step _ _ (plus 2 told) (plus 1 acts) room rows (λ opened.
    opened_keeps attribute value opened _ (plus 1 told) acts room rows is)

kept_at_keeps : (dir : Fd) (name : List ℕ) (undoing : Call) (attribute value : List ℕ) (next : RequestTree)
    (told acts room rows : ℕ) → brings_of (Calls undoing) ≡ brings.Nothing → Keeps next told acts room rows →
    Keeps (kept_at dir name undoing attribute value next) (plus 5 told) (plus 4 acts) (plus 2 room) rows
kept_at_keeps dir name undoing attribute value next told acts room rows e is =
    by_name_keeps dir name attribute value _ (plus 1 told) (plus 1 acts) room rows (λ refused.
    or_keeps undoing next refused told acts room rows e is)

label_at_keeps : (dir : Fd) (name : List ℕ) (undoing : Call) (value : List ℕ) (attribute : Result (List ℕ) Errno)
    (next : RequestTree) (told acts room rows : ℕ) → brings_of (Calls undoing) ≡ brings.Nothing →
    Keeps next told acts room rows →
    Keeps (label_at dir name undoing value attribute next) (plus 5 told) (plus 4 acts) (plus 2 room) rows
label_at_keeps dir name undoing value (Err errno) next told acts room rows e is =
    undone_keeps undoing (answer.Refused errno) (plus 4 told) (plus 3 acts) (plus 2 room) rows e
label_at_keeps dir name undoing value (Ok attribute) next told acts room rows e is =
    kept_at_keeps dir name undoing attribute value next told acts room rows e is

labelled_at_keeps : (dir : Fd) (name : List ℕ) (undoing : Call) (label : Option Label)
    (next : RequestTree) (told acts room rows : ℕ) → brings_of (Calls undoing) ≡ brings.Nothing →
    Keeps next told acts room rows →
    Keeps (labelled_at dir name undoing label next) (plus 5 told) (plus 4 acts) (plus 2 room) rows
labelled_at_keeps dir name undoing None next told acts room rows e is =
    more 5 4 2 0 next told acts room rows is
labelled_at_keeps dir name undoing (Some label) next told acts room rows e is =
    label_at_keeps dir name undoing label.value label.name next told acts room rows e is

object_keeps : (plan : Plan) (seat : HostSeat) (session : BegunSession) (asked : ObjectAsked) (label : Option Label)
    (dir : Fd) (making undoing : Call) (told acts room rows : ℕ) → brings_of (Calls making) ≡ brings.Nothing →
    brings_of (Calls undoing) ≡ brings.Nothing →
    Keeps (make_object plan seat session asked label dir making undoing) (plus 21 told) (plus 26 acts) (plus 12 room)
    (plus 1 rows)
unfolding make_object
object_keeps plan seat session asked label dir making undoing told acts room rows made unmade =
    asker_keeps seat (asker_of plan session asked.who asked.ext.sup_gid) _ (plus 17 told) (plus 19 acts) (plus 9 room)
    (plus 1 rows) (
    umask_keeps (umask_of session asked.umask) _ (plus 16 told) (plus 17 acts) (plus 8 room) (plus 1 rows) (
    make_keeps making _ (plus 14 told) (plus 16 acts) (plus 8 room) (plus 1 rows) made (
    labelled_at_keeps dir asked.name undoing label _ (plus 9 told) (plus 12 acts) (plus 6 room)
    (plus 1 rows) unmade (
    look_up_keeps plan session asked.parent asked.name _ told acts room rows (λ looked. tt)))))

-- the directory in which it is made, and its context
place_keeps : (plan : Plan) (session : BegunSession) (asked : ObjectAsked) (next : Option Label → Fd → RequestTree)
    (told acts room rows : ℕ) → ((label : Option Label) (dir : Fd) → Keeps (next label dir) told acts room rows) →
    Keeps (resolve asked.parent (λ row. host_label plan session.agreed asked.ext.secctx (λ label.
    file_of row.form (λ dir. next label dir)))) (plus 2 told) (plus 2 acts) (plus 1 room) rows
place_keeps plan session asked next told acts room rows is =
    step_on _ _ (plus 1 told) acts room rows (λ row.
    host_label_keeps plan session.agreed asked.ext.secctx _ told acts room rows (λ label.
    file_keeps row.form _ told acts room rows (λ dir. is label dir)))

-- a setting
sized_keeps : (valid : SetattrValid) (attr : SetattrIn) (next : RequestTree) (told acts room rows : ℕ) →
    Keeps next told acts room rows → Keeps (sized valid attr next) told acts room rows
unfolding sized
sized_keeps valid attr next told acts room rows is =
    if_keeps (is_missized valid attr) (Gives (answer.Refused einval)) next told acts room rows tt is

set_file_keeps : (handle : Option ℕ) (valid : SetattrValid) (row : Resolved) (next : Fd → RequestTree)
    (told acts room rows : ℕ) → ((fd : Fd) → Keeps (next fd) told acts room rows) →
    Keeps (file_set handle valid row next) (plus 1 told) (plus 2 acts) (plus 1 room) rows
unfolding file_set
set_file_keeps handle valid row next told acts room rows is =
    if_keeps (opens_anew handle valid) (open_row row setting_flags next) (file_of row.form next) (plus 1 told)
    (plus 2 acts) (plus 1 room) rows (row_keeps row setting_flags next told acts room rows is)
    (more 1 2 1 0 (file_of row.form next) told acts room rows (file_keeps row.form next told acts room rows is))

target_keeps : (inode : ℕ) (handle : Option ℕ) (file : Fd) (next : Target → RequestTree) (told acts room rows : ℕ) →
    ((target : Target) → Keeps (next target) told acts room rows) →
    Keeps (target_of inode handle file next) (plus 1 told) (plus 2 acts) (plus 1 room) rows
unfolding target_of
target_keeps inode (Some handle) file next told acts room rows is = step _ _ told acts room rows (λ fd. is _)
target_keeps inode None file next told acts room rows is = more 1 2 1 0 (next _) told acts room rows (is _)

do_if_keeps : (is : Bool) (asked : Call) (next : RequestTree) (told acts room rows : ℕ) →
    brings_of (Calls asked) ≡ brings.Nothing → Keeps next told acts room rows →
    Keeps (do_if is asked next) (plus 1 told) (plus 1 acts) room rows
do_if_keeps true asked next told acts room rows e is = call_keeps asked next told acts room rows e is
do_if_keeps false asked next told acts room rows e is = more 1 1 0 0 next told acts room rows is

own_keeps : (name : Option (List ℕ)) (file : Fd) (uid gid : Option ℕ) (next : RequestTree)
    (told acts room rows : ℕ) → Keeps next told acts room rows →
    Keeps (own_as name file uid gid next) (plus 2 told) (plus 2 acts) room rows
own_keeps name file (Some uid) (Some gid) next told acts room rows is =
    capability_keeps name file true _ (plus 1 told) (plus 1 acts) room rows
    (step _ _ told acts room rows (λ done. is))
own_keeps name file (Some uid) None next told acts room rows is = tt
own_keeps name file None gid next told acts room rows is = tt

own_if_keeps : (is : Bool) (name : Option (List ℕ)) (file : Fd) (uid gid : Option ℕ) (next : RequestTree)
    (told acts room rows : ℕ) → Keeps next told acts room rows →
    Keeps (own_if is name file uid gid next) (plus 2 told) (plus 2 acts) room rows
own_if_keeps true name file uid gid next told acts room rows is =
    own_keeps name file uid gid next told acts room rows is
own_if_keeps false name file uid gid next told acts room rows is = more 2 2 0 0 next told acts room rows is

owner_keeps : (plan : Plan) (valid : SetattrValid) (attr : SetattrIn) (file : Fd) (next : RequestTree)
    (told acts room rows : ℕ) → Keeps next told acts room rows →
    Keeps (set_owner plan valid attr file next) (plus 2 told) (plus 2 acts) room rows
owner_keeps plan valid attr file next told acts room rows is =
    own_if_keeps (sets_uid valid || sets_gid valid) plan.capability file
    (id_set (sets_uid valid) (to_host plan.uid_map attr.uid))
    (id_set (sets_gid valid) (to_host plan.gid_map attr.gid)) next told acts room rows is

cut_keeps : (is drops : Bool) (name : Option (List ℕ)) (file : Fd) (size : ℕ) (next : RequestTree)
    (told acts room rows : ℕ) → Keeps next told acts room rows →
    Keeps (cut_if is drops name file size next) (plus 4 told) (plus 4 acts) (plus 1 room) rows
cut_keeps true drops name file size next told acts room rows is =
    fsetid_keeps drops _ (plus 3 told) (plus 2 acts) room rows
    (capability_keeps name file false _ (plus 2 told) (plus 1 acts) room rows
    (step ok_in (λ done. Bares next) (plus 1 told) acts room rows (λ done. is)))
cut_keeps false drops name file size next told acts room rows is = more 4 4 1 0 next told acts room rows is

size_keeps : (plan : Plan) (seat : HostSeat) (valid : SetattrValid) (attr : SetattrIn) (target : Target)
    (next : RequestTree) (told acts room rows : ℕ) → Keeps next told acts room rows →
    Keeps (set_size plan seat valid attr target next) (plus 4 told) (plus 4 acts) (plus 1 room) rows
size_keeps plan seat valid attr target next told acts room rows is =
    cut_keeps (sets_size valid) (drops_fsetid plan seat (kills_suidgid valid)) plan.capability target.fd attr.size next
    told acts room rows is

-- the requests
pub readlink_keeps : (inode : ℕ) → Keeps (begin (readlink inode)) most_told 48 most_holds most_rows
readlink_keeps inode = step _ _ _ _ _ _ (λ session.
    file_by_keeps inode _ 30 45 16 4 (λ fd. step _ _ _ _ _ _ (λ target. tt)))

pub statfs_keeps : (inode : ℕ) → Keeps (begin (statfs inode)) most_told 48 most_holds most_rows
statfs_keeps inode = step _ _ _ _ _ _ (λ session.
    file_by_keeps inode _ 30 45 16 4 (λ fd. step _ _ _ _ _ _ (λ stat. tt)))

pub getattr_keeps : (plan : Plan) (inode : ℕ) → Keeps (begin (getattr plan inode)) most_told 48 most_holds most_rows
getattr_keeps plan inode = step _ _ _ _ _ _ (λ session. attr_keeps plan inode 29 44 16 4)

pub access_keeps : (plan : Plan) (who : Context) (inode mask : ℕ) →
    Keeps (begin (access plan who inode mask)) most_told 48 most_holds most_rows
access_keeps plan who inode mask = step _ _ _ _ _ _ (λ session.
    file_by_keeps inode _ 30 45 16 4 (λ fd. step _ _ _ _ _ _ (λ stat. tt)))

pub unlink_keeps : (parent : ℕ) (name : List ℕ) →
    Keeps (begin (unlink parent name)) most_told 48 most_holds most_rows
unlink_keeps parent name = step _ _ _ _ _ _ (λ session. named_keeps name _ _ _ _ _ (
    file_by_keeps parent _ 30 45 16 4 (λ dir. step _ _ _ _ _ _ (λ done. tt))))

pub rmdir_keeps : (parent : ℕ) (name : List ℕ) → Keeps (begin (rmdir parent name)) most_told 48 most_holds most_rows
rmdir_keeps parent name = step _ _ _ _ _ _ (λ session. named_keeps name _ _ _ _ _ (
    file_by_keeps parent _ 30 45 16 4 (λ dir. step _ _ _ _ _ _ (λ done. tt))))

pub link_keeps : (plan : Plan) (inode newparent : ℕ) (newname : List ℕ) →
    Keeps (begin (link plan inode newparent newname)) most_told 48 most_holds most_rows
link_keeps plan inode newparent newname = step _ _ _ _ _ _ (λ session. named_keeps newname _ _ _ _ _ (
    files_keeps inode newparent _ 29 43 15 4 (λ files. step _ _ 28 42 15 4 (λ done.
    look_up_keeps plan session newparent newname _ 19 30 9 3 (λ looked. tt)))))

pub rename_keeps : (olddir : ℕ) (oldname : List ℕ) (newdir : ℕ) (newname : List ℕ) (flags : ℕ) →
    Keeps (begin (rename olddir oldname newdir newname flags)) most_told 48 most_holds most_rows
rename_keeps olddir oldname newdir newname flags = step _ _ _ _ _ _ (λ session.
    named_keeps oldname _ _ _ _ _ (named_keeps newname _ _ _ _ _ (
    files_keeps olddir newdir _ 29 43 15 4 (λ files. step _ _ _ _ _ _ (λ done. tt)))))

pub setattr_keeps : (plan : Plan) (seat : HostSeat) (inode : ℕ) (handle : Option ℕ) (valid : SetattrValid)
    (attr : SetattrIn) → Keeps (begin (setattr plan seat inode handle valid attr)) most_told 48 most_holds most_rows
setattr_keeps plan seat inode handle valid attr = step _ _ _ _ _ _ (λ session. sized_keeps valid attr _ _ _ _ _ (
    step _ _ 30 45 16 4 (λ row. set_file_keeps handle valid row _ 29 43 15 4 (λ file.
    target_keeps inode handle file _ 28 41 14 4 (λ target.
    do_if_keeps (sets_mode valid) (call.ChMod target.fd target.through attr.mode) _ 27 40 14 4 refl (
    owner_keeps plan valid attr file _ 25 38 14 4 (size_keeps plan seat valid attr target _ 21 34 13 4 (
    do_if_keeps (sets_atime valid || sets_mtime valid)
    (call.SetTimes target.fd target.through (atime_set valid attr) (mtime_set valid attr)) _ 20 33 13 4 refl (
    attr_keeps plan inode 18 30 12 4)))))))))

pub mkdir_keeps : (plan : Plan) (seat : HostSeat) (asked : ObjectAsked) (mode : ℕ) →
    Keeps (begin (mkdir plan seat asked mode)) most_told 48 most_holds most_rows
mkdir_keeps plan seat asked mode = step _ _ _ _ _ _ (λ session. named_keeps asked.name _ _ _ _ _ (
    place_keeps plan session asked _ 29 45 16 4 (λ label dir.
    object_keeps plan seat session asked label dir _ _ 8 19 4 3 refl refl)))

pub mknod_keeps : (plan : Plan) (seat : HostSeat) (asked : ObjectAsked) (mode rdev : ℕ) →
    Keeps (begin (mknod plan seat asked mode rdev)) most_told 48 most_holds most_rows
mknod_keeps plan seat asked mode rdev = step _ _ _ _ _ _ (λ session. named_keeps asked.name _ _ _ _ _ (
    place_keeps plan session asked _ 29 45 16 4 (λ label dir.
    object_keeps plan seat session asked label dir _ _ 8 19 4 3 refl refl)))

targeted_keeps : (target : List ℕ) (next : RequestTree) (told acts room rows : ℕ) → Keeps next told acts room rows →
    Keeps (targeted target next) told acts room rows
unfolding targeted
targeted_keeps target next told acts room rows is =
    if_keeps (list_any is_nul target) (Gives (answer.Refused einval)) next told acts room rows tt is

pub symlink_keeps : (plan : Plan) (seat : HostSeat) (asked : ObjectAsked) (target : List ℕ) →
    Keeps (begin (symlink plan seat asked target)) most_told 48 most_holds most_rows
symlink_keeps plan seat asked target = step _ _ _ _ _ _ (λ session. named_keeps asked.name _ _ _ _ _ (
    targeted_keeps target _ _ _ _ _ (place_keeps plan session asked _ 29 45 16 4 (λ label dir.
    object_keeps plan seat session asked label dir _ _ 8 19 4 3 refl refl))))

pub write_keeps : (plan : Plan) (seat : HostSeat) (inode handle offset : ℕ) (bytes : List ℕ) (delayed kill : Bool)
    (flags : ℕ) →
    Keeps (begin (write plan seat inode handle offset bytes delayed kill flags)) most_told 8 most_holds most_rows
write_keeps plan seat inode handle offset bytes delayed kill flags = step _ _ _ _ _ _ (λ session.
    placed_keeps offset _ _ _ _ _ (step _ _ 30 5 16 4 (λ fd.
    fsetid_keeps (drops_fsetid plan seat kill) _ 29 3 15 4 (capability_keeps plan.capability fd false _ 28 2 15 4 (
    step _ _ 27 1 15 4 (λ count. tt))))))

pub fallocate_keeps : (inode handle mode offset length : ℕ) →
    Keeps (begin (fallocate inode handle mode offset length)) most_told 8 most_holds most_rows
fallocate_keeps inode handle mode offset length = step _ _ _ _ _ _ (λ session.
    placed_keeps offset _ _ _ _ _ (placed_keeps length _ _ _ _ _ (
    step _ _ _ _ _ _ (λ fd. step _ _ _ _ _ _ (λ done. tt)))))

pub lseek_keeps : (inode handle offset whence : ℕ) →
    Keeps (begin (lseek inode handle offset whence)) most_told 8 most_holds most_rows
lseek_keeps inode handle offset whence = step _ _ _ _ _ _ (λ session.
    step _ _ _ _ _ _ (λ fd. step _ _ _ _ _ _ (λ place. tt)))

pub copy_keeps : (inode handle offset inode2 handle2 offset2 length flags : ℕ) →
    Keeps (begin (copyfilerange inode handle offset inode2 handle2 offset2 length flags)) most_told 8 most_holds
    most_rows
copy_keeps inode handle offset inode2 handle2 offset2 length flags = step _ _ _ _ _ _ (λ session.
    placed_keeps offset _ _ _ _ _ (placed_keeps offset2 _ _ _ _ _ (placed_keeps length _ _ _ _ _ (
    step _ _ _ _ _ _ (λ from. step _ _ _ _ _ _ (λ to. step _ _ _ _ _ _ (λ count. tt)))))))

pub flush_keeps : (inode handle : ℕ) → Keeps (begin (flush inode handle)) most_told 8 most_holds most_rows
flush_keeps inode handle = step _ _ _ _ _ _ (λ session.
    step _ _ _ _ _ _ (λ fd. step _ _ _ _ _ _ (λ done. tt)))

pub fsync_keeps : (inode handle : ℕ) (datasync : Bool) →
    Keeps (begin (fsync inode handle datasync)) most_told 8 most_holds most_rows
fsync_keeps inode handle datasync = step _ _ _ _ _ _ (λ session.
    step _ _ _ _ _ _ (λ fd. step _ _ _ _ _ _ (λ done. tt)))

pub syncfs_keeps : (plan : Plan) (inode : ℕ) → Keeps (begin (syncfs plan inode)) most_told 48 most_holds most_rows
syncfs_keeps plan inode = step _ _ _ _ _ _ (λ session.
    inode_keeps plan session inode o_nofollow (λ fd. do_call (call.SyncFs fd) (Gives answer.Done)) 29 43 15 4 (λ fd.
    step _ _ _ _ _ _ (λ done. tt)))
