-- Each request is fit.
use Rattle.std.proofs.Common.{◌≡◌, ◌∷◌, [], inl, inr, ℕ, Bool, true, false, List, None, Some, refl}
use Rattle.std.proofs.Common.{if◌then◌else◌}
use Rattle.pt_host.specs.Errno.{eproto}
use Rattle.pt_host.specs.Flags.{o_directory}
use Rattle.pt_host.specs.Words.{Takes.{here, there}}
use Rattle.pt_host.specs.declared.ids.Fd.{Fd}
use Rattle.pt_host.specs.declared.op.KeptHostOp.TheVariants as call
use Rattle.pt_host.specs.declared.reply.HostReply.TheVariants as host
use Rattle.pt_host.specs.declared.reply.HostValue.TheVariants as value
use Rattle.pt_host.specs.declared.stat.Stat.{Stat}
use Rattle.pt_host.specs.declared.seat.HostSeat.{HostSeat}
use Rattle.pt_tables.specs.Tables.{nothing_agreed}
use Rattle.pt_iface.specs.declared.answer.Answer.TheVariants as answer
use Rattle.pt_iface.specs.declared.flags.FsOptions.{FsOptions}
use Rattle.pt_iface.specs.declared.request.Context.{Context}
use Rattle.pt_iface.specs.declared.request.Request.{Request}
use Rattle.pt_iface.specs.declared.request.Request.TheVariants as request
use Rattle.pt_frame.specs.Deed.{Calls}
use Rattle.pt_frame.specs.Tree.{Gives}
use Rattle.pt_frame.specs.declared.act.ActReply.TheVariants.{Host}
use Rattle.pt_frame.specs.declared.hold.Hold.{Hold}
use Rattle.pt_frame.specs.declared.hold.Hold.TheVariants as hold
use Rattle.pt_req.specs.Entries.{attr_of}
use Rattle.pt_req.specs.Options.{agreed_with, init_options, is_short_of, open_options, with_bits}
use Rattle.pt_req.specs.Requests.{batch_forget, destroy, init, lookup, open_file, read, release, root}
use Rattle.pt_req.specs.Steps.{session_of, begin}
use Rattle.pt_req.specs.declared.plan.Plan.{Plan}
use Rattle.pt_job.specs.Pattern.{tree_of}
use Rattle.pt_attr.specs.Access.{is_granted}
use Rattle.pt_job.specs.Requests.{object_asked}
use Rattle.pt_fit.proofs.ObjectKinds.{Directory, Link, Node}
use Rattle.pt_attr.specs.Requests.{access, allowed, getattr, link, readlink, rename, rmdir, statfs, unlink}
use Rattle.pt_law.specs.Discipline.{Notes, blank}
use Rattle.pt_fit.specs.Cause.{Asking, OpensFile, asking}
use Rattle.pt_fit.specs.Fit.{IsFit}
use Rattle.pt_fit.proofs.Calling.{fit_do_call, fit_look_at, fit_read_at, fit_read_link, fit_stat_fs}
use Rattle.pt_fit.proofs.Contents.{fit_copyfilerange, fit_fallocate, fit_flush, fit_fsync, fit_lseek, fit_syncfs}
use Rattle.pt_fit.proofs.Contents.{fit_write}
use Rattle.pt_fit.proofs.Creating.{fit_create, forbidden_from}
use Rattle.pt_fit.proofs.Holds.{nothing_bare}
use Rattle.pt_fit.proofs.Setting.{fit_setattr}
use Rattle.pt_fit.proofs.Objects.{fit_named}
use Rattle.pt_fit.proofs.Joined.{after_any_step, fit_file_by, fit_files_by, fit_gives, fit_look_up, fit_open_num}
use Rattle.pt_fit.proofs.Joined.{fit_root_open, fit_unserved}
use Rattle.pt_fit.proofs.Xattrs.{fit_getxattr, fit_listxattr, fit_readdir, fit_removexattr, fit_setxattr}
use Rattle.pt_fit.proofs.Parts.{FitOn, GoesAfter, fit_begin, fit_clear, fit_forget_all, fit_name, fit_pin_handle}
use Rattle.pt_fit.proofs.Parts.{fit_place, fit_release_handle, Seen}
use Rattle.pt_law.specs.World.{made}

fit_root : (asked : Asking) (plan : Plan) → FitOn asked [] (begin (root plan)) [] [] blank
fit_root asked plan = fit_begin _ refl (λ session.
    fit_root_open plan session None _ nothing_bare refl refl refl (λ fd told later.
    fit_gives answer.Done (λ path. (tt, tt, tt))))

fit_lookup : (plan : Plan) (who : Context) (parent : ℕ) (name : List ℕ) →
    FitOn (asking plan who (request.Lookup parent name)) [] (begin (lookup plan parent name)) [] [] blank
fit_lookup plan who parent name = fit_begin _ refl (λ session.
    fit_name name _ (λ bad. (bad, refl))
    (fit_look_up plan session parent name _ nothing_bare refl refl (λ looked found later l.
    fit_gives (answer.Entry looked.entry) (λ path. (refl, tt, tt)))))

fit_forget : (asked : Asking) (list : List (ℕ × ℕ)) → FitOn asked [] (begin (batch_forget list)) [] [] blank
fit_forget asked list = fit_begin _ refl (λ session.
    fit_forget_all list _ refl (λ later l. fit_gives answer.NoReply (λ path. (tt, tt, tt))))

-- a session begins anew; closings come between the clearing and the root
fit_init : (plan : Plan) (who : Context) (capable : FsOptions) →
    FitOn (asking plan who (request.Init capable)) [] (init plan capable) [] [] blank
fit_init plan who capable = fit_clear _ refl refl (λ era later l.
    fit_root_open plan (session_of era nothing_agreed) (Some (agreed_with plan.config capable)) _ nothing_bare
    l.0 l.1 l.4
    (λ fd told last. answered (is_short_of plan.config capable) refl))
  where
    answered : {seen : List Seen} {holds : List Hold} {marks : List ℕ} {notes : Notes} (short : Bool) →
        is_short_of plan.config capable ≡ short →
        FitOn (asking plan who (request.Init capable)) seen
        (Gives (if short then answer.Refused eproto else answer.Inited (init_options plan.config capable))) holds marks
        notes
    answered true e = fit_gives (answer.Refused eproto) (λ path. (tt, inl (e, refl), tt))
    answered false e = fit_gives (answer.Inited (init_options plan.config capable)) (λ path. (tt, tt, tt))

fit_destroy : (asked : Asking) → FitOn asked [] destroy [] [] blank
fit_destroy asked = fit_clear _ refl refl (λ era later l. fit_gives answer.NoReply (λ path. (tt, tt, tt)))

fit_open : (asked : Asking) (plan : Plan) (seat : HostSeat) (inode : ℕ) (kill : Bool) (flags : ℕ) →
    OpensFile asked.request → FitOn asked [] (begin (open_file plan seat inode kill flags)) [] [] blank
fit_open asked plan seat inode kill flags o = fit_begin _ refl (λ session.
    fit_open_num plan seat session inode kill flags _ o nothing_bare refl (λ handle later.
    fit_gives (answer.Opened handle (open_options plan.config flags)) (λ path. (tt, tt, tt))))

fit_release : (asked : Asking) (inode handle : ℕ) → FitOn asked [] (begin (release inode handle)) [] [] blank
fit_release asked inode handle = fit_begin _ refl (λ session.
    fit_release_handle handle inode _ refl (λ later l. fit_gives answer.Done (λ path. (tt, tt, tt))))

fit_read : (plan : Plan) (who : Context) (inode handle size offset : ℕ) →
    FitOn (asking plan who (request.Read inode handle size offset)) [] (begin (read inode handle size offset)) [] []
    blank
fit_read plan who inode handle size offset = fit_begin _ refl (λ session.
    fit_place offset _ (λ bad. (bad, refl))
    (fit_pin_handle handle inode _ nothing_bare (λ row fd.
    fit_read_at fd offset size row _ (λ bytes. fit_gives (answer.Read bytes) (λ path. (tt, tt, tt))))))

fit_readlink : (plan : Plan) (who : Context) (inode : ℕ) →
    FitOn (asking plan who (request.Readlink inode)) [] (begin (readlink inode)) [] [] blank
fit_readlink plan who inode = fit_begin _ refl (λ session.
    fit_file_by inode _ nothing_bare (λ row fd.
    fit_read_link fd row _ (λ target. fit_gives (answer.Link target) (λ path. (tt, tt, tt)))))

fit_statfs : (plan : Plan) (who : Context) (inode : ℕ) →
    FitOn (asking plan who (request.StatFs inode)) [] (begin (statfs inode)) [] [] blank
fit_statfs plan who inode = fit_begin _ refl (λ session.
    fit_file_by inode _ nothing_bare (λ row fd.
    fit_stat_fs fd row _ (λ told. fit_gives (answer.FsStat told) (λ path. (tt, tt, tt)))))

fit_getattr : (plan : Plan) (who : Context) (inode : ℕ) →
    FitOn (asking plan who (request.GetAttr inode)) [] (begin (getattr plan inode)) [] [] blank
fit_getattr plan who inode = fit_begin _ refl (λ session.
    fit_file_by inode _ nothing_bare (λ row fd.
    fit_look_at fd _ (((hold.Pin row (Some fd), _, here, refl), tt), tt) (λ told.
    after_any_step (
    fit_gives (answer.Attr (attr_of plan told 0) plan.config.attr_timeout) (λ path. (tt, tt, tt))))))

-- what the status does not grant is refused, of which it is the cause
fit_access : (plan : Plan) (who : Context) (inode mask : ℕ) →
    FitOn (asking plan who (request.Access inode mask)) [] (begin (access plan who inode mask)) [] [] blank
fit_access plan who inode mask = fit_begin _ refl (λ session.
    fit_file_by inode _ nothing_bare (λ row fd.
    fit_look_at fd _ (((hold.Pin row (Some fd), _, here, refl), tt), tt) (λ told.
    decided told (is_granted who mask (attr_of plan told 0)) refl)))
  where
    decided : {fd : Fd} {seen : List Seen} {holds : List Hold} {marks : List ℕ} {notes : Notes} (told : Stat)
        (granted : Bool) → is_granted who mask (attr_of plan told 0) ≡ granted →
        GoesAfter (made (Calls (call.Stat fd)) (Host (host.Ok (value.Stat told))))
        (asking plan who (request.Access inode mask)) seen
        (Gives (allowed granted)) holds marks notes
    decided told true e = record { on = λ path s. (tt, tt, tt) }
    decided {fd = fd} told false e =
        record { on = λ path s. (tt, inr (inr ((fd, told, inl (refl, refl), e), refl)), tt) }

fit_unlink : (plan : Plan) (who : Context) (parent : ℕ) (name : List ℕ) →
    FitOn (asking plan who (request.Unlink parent name)) [] (begin (unlink parent name)) [] [] blank
fit_unlink plan who parent name = fit_begin _ refl (λ session.
    fit_name name _ (λ bad. (bad, refl))
    (fit_file_by parent _ nothing_bare (λ row dir.
    fit_do_call (call.Unlink dir name) _
    (record { holds = λ told these. refl; notes = λ told these. refl })
    (((hold.Pin row (Some dir), _, here, refl), tt), tt) (λ errno. refl)
    (fit_gives answer.Done (λ path. (tt, tt, tt))))))

fit_rmdir : (plan : Plan) (who : Context) (parent : ℕ) (name : List ℕ) →
    FitOn (asking plan who (request.Rmdir parent name)) [] (begin (rmdir parent name)) [] [] blank
fit_rmdir plan who parent name = fit_begin _ refl (λ session.
    fit_name name _ (λ bad. (bad, refl))
    (fit_file_by parent _ nothing_bare (λ row dir.
    fit_do_call (call.RemoveDir dir name) _
    (record { holds = λ told these. refl; notes = λ told these. refl })
    (((hold.Pin row (Some dir), _, here, refl), tt), tt) (λ errno. refl)
    (fit_gives answer.Done (λ path. (tt, tt, tt))))))

fit_rename : (plan : Plan) (who : Context) (olddir : ℕ) (oldname : List ℕ) (newdir : ℕ) (newname : List ℕ)
    (flags : ℕ) →
    FitOn (asking plan who (request.Rename olddir oldname newdir newname flags)) []
    (begin (rename olddir oldname newdir newname flags)) [] [] blank
fit_rename plan who olddir oldname newdir newname flags = fit_begin _ refl (λ session.
    fit_name oldname _ (λ bad. (inl bad, refl))
    (fit_name newname _ (λ bad. (inr bad, refl))
    (fit_files_by olddir newdir _ (λ one other from to.
    fit_do_call (call.Rename from oldname to newname flags) _
    (record { holds = λ told these. refl; notes = λ told these. refl }) (
      (
        (hold.Pin one (Some from), _, there here, refl),
        ((hold.Pin other (Some to), _, here, refl), tt),
      ),
      tt,
    ) (λ errno. refl)
    (fit_gives answer.Done (λ path. (tt, tt, tt)))))))

fit_link : (plan : Plan) (who : Context) (inode newparent : ℕ) (newname : List ℕ) →
    FitOn (asking plan who (request.Link inode newparent newname)) [] (begin (link plan inode newparent newname)) []
    [] blank
fit_link plan who inode newparent newname = fit_begin _ refl (λ session.
    fit_name newname _ (λ bad. (bad, refl))
    (fit_files_by inode newparent _ (λ one other from dir.
    fit_do_call (call.MakeLink from dir newname) _
    (record { holds = λ told these. refl; notes = λ told these. refl }) (
      (
        (hold.Pin one (Some from), _, there here, refl),
        ((hold.Pin other (Some dir), _, here, refl), tt),
      ),
      tt,
    ) (λ errno. refl)
    (fit_look_up plan session newparent newname _ (λ top. refl) refl refl (λ looked found later l.
    fit_gives (answer.Entry looked.entry) (λ path. (refl, tt, tt)))))))

fits : (plan : Plan) (seat : HostSeat) (who : Context) (what : Request) →
    FitOn (asking plan who what) [] (tree_of plan seat who what) [] [] blank
fits plan seat who (request.Init capable) = fit_init plan who capable
fits plan seat who request.Destroy = fit_destroy (asking plan who request.Destroy)
fits plan seat who request.Root = fit_root (asking plan who request.Root) plan
fits plan seat who (request.Lookup parent name) = fit_lookup plan who parent name
fits plan seat who (request.Forget inode count) =
    fit_forget (asking plan who (request.Forget inode count)) ((inode, count) ∷ [])
fits plan seat who (request.BatchForget list) = fit_forget (asking plan who (request.BatchForget list)) list
fits plan seat who (request.Open inode kill flags) =
    fit_open (asking plan who (request.Open inode kill flags)) plan seat inode kill flags tt
fits plan seat who (request.OpenDir inode flags) =
    fit_open (asking plan who (request.OpenDir inode flags)) plan seat inode false (with_bits flags o_directory) tt
fits plan seat who (request.Release inode handle) =
    fit_release (asking plan who (request.Release inode handle)) inode handle
fits plan seat who (request.ReleaseDir inode handle) =
    fit_release (asking plan who (request.ReleaseDir inode handle)) inode handle
fits plan seat who (request.Read inode handle size offset) = fit_read plan who inode handle size offset
fits plan seat who (request.Create parent name mode kill flags umask ext) =
    fit_create plan who parent name mode kill flags umask ext seat
fits plan seat who (request.Mkdir parent name mode umask ext) =
    fit_named plan seat who (request.Mkdir parent name mode umask ext)
    (object_asked who parent name (Some umask) ext) (Directory mode) (λ bad. inl (bad, refl)) (λ bad. absurd (cc))
    (λ session none. inr (forbidden_from _ _ _ _ none, refl)) (λ agreed. refl) (λ entry. tt)
fits plan seat who (request.Mknod parent name mode rdev umask ext) =
    fit_named plan seat who (request.Mknod parent name mode rdev umask ext)
    (object_asked who parent name (Some umask) ext) (Node mode rdev) (λ bad. inl (bad, refl)) (λ bad. absurd (cc))
    (λ session none. inr (forbidden_from _ _ _ _ none, refl)) (λ agreed. refl) (λ entry. tt)
fits plan seat who (request.Symlink target parent name ext) =
    fit_named plan seat who (request.Symlink target parent name ext)
    (object_asked who parent name None ext) (Link target) (λ bad. inl (inl (bad, refl))) (λ bad. inr (bad, refl))
    (λ session none. inl (inr (forbidden_from _ _ _ _ none, refl))) (λ agreed. refl) (λ entry. tt)
fits plan seat who (request.Readlink inode) = fit_readlink plan who inode
fits plan seat who (request.StatFs inode) = fit_statfs plan who inode
fits plan seat who (request.GetAttr inode) = fit_getattr plan who inode
fits plan seat who (request.Access inode mask) = fit_access plan who inode mask
fits plan seat who (request.Unlink parent name) = fit_unlink plan who parent name
fits plan seat who (request.Rmdir parent name) = fit_rmdir plan who parent name
fits plan seat who (request.Link inode newparent newname) = fit_link plan who inode newparent newname
fits plan seat who (request.Rename olddir oldname newdir newname flags) =
    fit_rename plan who olddir oldname newdir newname flags
fits plan seat who (request.SetAttr inode handle valid attr) = fit_setattr plan seat who inode handle valid attr
fits plan seat who (request.Write inode handle offset bytes delayed kill flags) =
    fit_write plan seat who inode handle offset bytes delayed kill flags
fits plan seat who (request.Fallocate inode handle mode offset length) =
    fit_fallocate plan who inode handle mode offset length
fits plan seat who (request.Lseek inode handle offset whence) =
    fit_lseek (asking plan who (request.Lseek inode handle offset whence)) inode handle offset whence
fits plan seat who (request.CopyFileRange inode handle offset inode2 handle2 offset2 length flags) =
    fit_copyfilerange plan who inode handle offset inode2 handle2 offset2 length flags
fits plan seat who (request.Flush inode handle) =
    fit_flush (asking plan who (request.Flush inode handle)) inode handle
fits plan seat who (request.Fsync inode handle datasync) =
    fit_fsync (asking plan who (request.Fsync inode handle datasync)) inode handle datasync
fits plan seat who (request.FsyncDir inode handle datasync) =
    fit_fsync (asking plan who (request.FsyncDir inode handle datasync)) inode handle datasync
fits plan seat who (request.SyncFs inode) = fit_syncfs plan who inode
fits plan seat who (request.ReadDir inode handle size offset) = fit_readdir plan who inode handle size offset
fits plan seat who (request.SetXattr inode name value flags extra) =
    fit_setxattr plan who inode name value flags extra
fits plan seat who (request.GetXattr inode name size) = fit_getxattr plan who inode name size
fits plan seat who (request.ListXattr inode size) = fit_listxattr plan who inode size
fits plan seat who (request.RemoveXattr inode name) = fit_removexattr plan who inode name
fits plan seat who (request.Other opcode) = fit_unserved (asking plan who (request.Other opcode)) refl

-- Each request's tree is fit.
pub fit_request : (plan : Plan) (seat : HostSeat) (who : Context) (what : Request) →
    IsFit (asking plan who what) (tree_of plan seat who what)
fit_request plan seat who what = (fits plan seat who what).on [] (record { each = tt })
