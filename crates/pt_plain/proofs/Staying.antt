-- Proof. Requests that leave names, numbers and handles as they are: each is answered by numbers and handles that are
-- there.
use Rattle.std.proofs.Common.{◌≡◌, ℕ, Bool, true, false, ◌||◌, ◌==◌, List, [], Option, Some, None, Result, Ok}
use Rattle.std.proofs.Common.{Err, inl, inr, refl, if◌then◌else◌, nat_lt}
use Rattle.std.specs.Prelude.{◌^◌}
use Rattle.std.specs.Int.{w64, cast_signed}
use Rattle.std.specs.List.{list_any}
use Rattle.std.proofs.lemmas.Bool.{eqb-true}
use Rattle.pt_host.specs.Call.{Call}
use Rattle.pt_host.specs.Errno.{einval, enosys, eoverflow, eperm}
use Rattle.pt_host.specs.declared.ids.Errno.{Errno}
use Rattle.pt_host.specs.declared.ids.Fd.{Fd}
use Rattle.pt_host.specs.declared.seat.HostSeat.{HostSeat}
use Rattle.pt_host.specs.declared.op.KeptHostOp.TheVariants as call
use Rattle.pt_maps.specs.Translated.{to_host}
use Rattle.pt_tables.specs.declared.form.Negotiated.{Negotiated}
use Rattle.pt_tables.specs.declared.reply.Resolved.{Resolved}
use Rattle.pt_iface.specs.declared.answer.Answer.{Answer}
use Rattle.pt_iface.specs.declared.answer.Answer.TheVariants as answer
use Rattle.pt_iface.specs.declared.answer.GetxattrReply.{GetxattrReply}
use Rattle.pt_iface.specs.declared.answer.GetxattrReply.TheVariants as xattr
use Rattle.pt_iface.specs.declared.answer.ListxattrReply.{ListxattrReply}
use Rattle.pt_iface.specs.declared.entry.Attr.{Attr}
use Rattle.pt_iface.specs.declared.entry.Timeout.{Timeout}
use Rattle.pt_iface.specs.declared.answer.ListxattrReply.TheVariants as xattrs
use Rattle.pt_iface.specs.declared.directory.DirEntry.{DirEntry}
use Rattle.pt_iface.specs.declared.flags.SetattrValid.{SetattrValid}
use Rattle.pt_iface.specs.declared.flags.SetxattrFlags.{SetxattrFlags}
use Rattle.pt_iface.specs.declared.request.Context.{Context}
use Rattle.pt_iface.specs.declared.request.Request.{Request}
use Rattle.pt_iface.specs.declared.request.Request.TheVariants as request
use Rattle.pt_iface.specs.declared.request.SetattrIn.{SetattrIn}
use Rattle.pt_frame.specs.Deed.{Calls}
use Rattle.pt_frame.specs.Replies.{bytes_of}
use Rattle.pt_frame.specs.Tree.{RequestTree, Gives}
use Rattle.pt_req.specs.Capability.{capability_cleared, drops_fsetid}
use Rattle.pt_req.specs.Entries.{attr_of, can_open}
use Rattle.pt_req.specs.Options.{inode_flags, o_nofollow}
use Rattle.pt_req.specs.Parts.{open_inode, placed}
use Rattle.pt_req.specs.Requests.{read, unserved}
use Rattle.pt_req.specs.Steps.{begin, ok_in, pin_handle}
use Rattle.pt_req.specs.declared.begun.BegunSession.{BegunSession}
use Rattle.pt_req.specs.declared.plan.Plan.{Plan}
use Rattle.pt_attr.specs.Access.{is_granted}
use Rattle.pt_attr.specs.Contents.{appends, copyfilerange, fallocate, flush, fsync, lseek, syncfs, write}
use Rattle.pt_attr.specs.Parts.{file_by, tell_attr}
use Rattle.pt_attr.specs.Requests.{access, allowed as answered, getattr, readlink, statfs}
use Rattle.pt_attr.specs.Setting.{file_set, id_set, is_missized, kills_suidgid, opens_anew, own_as, own_if, set_mode}
use Rattle.pt_attr.specs.Setting.{set_owner, set_size, set_times, setattr, setting_flags, sized, target_as, target_of}
use Rattle.pt_attr.specs.Setting.{do_if, cut_if, sets_mode, sets_uid, sets_gid, sets_size, sets_atime, sets_mtime}
use Rattle.pt_attr.specs.Setting.{atime_set, mtime_set}
use Rattle.pt_attr.specs.Steps.{count_in, do_call, fs_stat_in}
use Rattle.pt_attr.specs.declared.parts.setting.Target.{Target}
use Rattle.pt_xattr.specs.Listed.{entries_of, names_told}
use Rattle.pt_xattr.specs.Parts.{allowed, allowed_to_read, as_missing, counted, file_by as xattr_by, kills_sgid}
use Rattle.pt_xattr.specs.Parts.{list_told, nul_free, sgid_killed, value_told, with_xattr, without_sgid, xattr_file}
use Rattle.pt_xattr.specs.Steps.{bytes_told}
use Rattle.pt_xattr.specs.Requests.{getxattr, listing, listxattr, readdir, removexattr, setxattr}
use Rattle.pt_xattr.specs.declared.parts.XattrFile.{XattrFile}
use Rattle.pt_plain.specs.Plain.{PlainTree}
use Rattle.pt_plain.specs.Serves.{Serves, OnNumber, OnHandle}
use Rattle.pt_plain.proofs.Passing.{ends, OfMild, Passes, passes_bares, passes_begin, passes_bytes, passes_call}
use Rattle.pt_plain.proofs.Passing.{passes_cleared, passes_either, passes_entries, passes_file, passes_if}
use Rattle.pt_plain.proofs.Passing.{passes_name, passes_pin, passes_placed, passes_resolve, passes_row, passes_stat}
use Rattle.pt_plain.proofs.Passing.{passes_unless, passes_without}
use Rattle.pt_plain.proofs.Through.{Held, Stood}
use Rattle.pt_plain.proofs.Walking.{IsMild}

pub mild_only : OfMild IsMild
mild_only = record { mild = λ deed m. m }

-- what is found by a number, or a handle
by_number : (state : PlainTree) (number : ℕ) → Stood state number → OnNumber state number state
by_number state number k = (k.0, k.1, refl)

by_handle : (state : PlainTree) (handle number : ℕ) → Held state handle number → OnHandle state handle number state
by_handle state handle number k = (k.0, k.1, refl)

module _ {state : PlainTree} {Q : Answer → Type 0} where
  -- a number is found, and its file is known
  stays_file : (number : ℕ) (next : Fd → RequestTree) →
      ((fd : Fd) → Passes IsMild state (λ last. Stood state number → Q last) (next fd)) →
      Passes IsMild state Q (file_by number next)
  stays_file number next t = passes_resolve mild_only number _ (λ row. passes_file mild_only row.form next t)

  stays_call : (asked : Call) {next : RequestTree} → IsMild (Calls asked) → Passes IsMild state Q next →
      Passes IsMild state Q (do_call asked next)
  stays_call asked {next} m t = passes_call mild_only asked ok_in (λ done. next) m (λ done. t)

  stays_do_if : (does : Bool) (asked : Call) {next : RequestTree} → IsMild (Calls asked) → Passes IsMild state Q next →
      Passes IsMild state Q (do_if does asked next)
  stays_do_if true asked m t = stays_call asked m t
  stays_do_if false asked m t = t

  stays_allowed : (found : Result (List ℕ) Errno) (next : List ℕ → RequestTree) →
      ((errno : Errno) → Q (answer.Refused errno)) → ((name : List ℕ) → Passes IsMild state Q (next name)) →
      Passes IsMild state Q (allowed found next)
  unfolding allowed
  stays_allowed (Ok name) next bad t = t name
  stays_allowed (Err errno) next bad t = ends mild_only (bad errno)

  stays_read : (found : Result (List ℕ) Errno) (next : List ℕ → RequestTree) →
      ((errno : Errno) → Q (answer.Refused errno)) → ((name : List ℕ) → Passes IsMild state Q (next name)) →
      Passes IsMild state Q (allowed_to_read found next)
  unfolding allowed_to_read
  stays_read (Ok name) next bad t = t name
  stays_read (Err errno) next bad t = ends mild_only (bad (as_missing errno))

  stays_killed : (is : Bool) (file : XattrFile) {next : RequestTree} → Passes IsMild state Q next →
      Passes IsMild state Q (sgid_killed is file next)
  stays_killed false file t = t
  stays_killed true file t =
      passes_stat mild_only file.fd _ (λ told.
      stays_call (call.ChMod file.fd file.through (without_sgid told.mode)) tt t)

  stays_counted : (count : ℕ) (last : Answer) → Q last → Q (answer.Refused eoverflow) →
      Passes IsMild state Q (Gives (counted count last))
  stays_counted count last q bad = ends mild_only (by (nat_lt count (2 ^ 32)))
    where
      by : (fits : Bool) → Q (if fits then last else answer.Refused eoverflow)
      by true = q
      by false = bad

-- an object is opened anew
stays_inode : {state : PlainTree} {Q : Answer → Type 0} (plan : Plan) (session : BegunSession) (number flags : ℕ)
    (next : Fd → RequestTree) → ((errno : Errno) → Q (answer.Refused errno)) →
    ((fd : Fd) → Passes IsMild state (λ last. Stood state number → Q last) (next fd)) →
    Passes IsMild state Q (open_inode plan session number flags next)
stays_inode plan session number flags next bad t =
    passes_resolve mild_only number _ (λ row.
    passes_row mild_only row (inode_flags plan.config session.agreed flags) next (λ k. bad _) t)

-- an attribute is asked by what is opened for it, or by the number's own file
stays_xattr : {state : PlainTree} {Q : Answer → Type 0} (plan : Plan) (session : BegunSession) (row : Resolved)
    (number : ℕ) (next : XattrFile → RequestTree) → ((errno : Errno) → Q (answer.Refused errno)) →
    ((file : XattrFile) → Passes IsMild state Q (next file)) →
    ((file : XattrFile) → Passes IsMild state (λ last. Stood state number → Q last) (next file)) →
    Passes IsMild state Q (xattr_file plan session row number next)
unfolding xattr_file
stays_xattr plan session row number next bad t more =
    passes_either mild_only (can_open row.mode)
    (stays_inode plan session number 2048 (λ fd. next (xattr_by false fd)) bad (λ fd. more (xattr_by false fd)))
    (passes_file mild_only row.form (λ fd. next (xattr_by true fd)) (λ fd. t (xattr_by true fd)))

-- The requests: of a number.

-- how each is answered
abbrev pub Stays : Plan → Request → PlainTree → RequestTree → Type 0
Stays plan asked state tree = Passes IsMild state (λ last. Serves plan asked state last state) tree

pub stays_readlink : (plan : Plan) (state : PlainTree) (inode : ℕ) →
    Stays plan (request.Readlink inode) state (begin (readlink inode))
stays_readlink plan state inode =
    passes_begin mild_only _ (λ session.
    stays_file inode _ (λ fd.
    passes_call mild_only (call.ReadLink fd) bytes_of _ tt (λ target.
    ends mild_only (by_number state inode))))

pub stays_statfs : (plan : Plan) (state : PlainTree) (inode : ℕ) →
    Stays plan (request.StatFs inode) state (begin (statfs inode))
stays_statfs plan state inode =
    passes_begin mild_only _ (λ session.
    stays_file inode _ (λ fd.
    passes_call mild_only (call.StatFs fd) fs_stat_in _ tt (λ told.
    ends mild_only (by_number state inode))))

pub stays_getattr : (plan : Plan) (state : PlainTree) (inode : ℕ) →
    Stays plan (request.GetAttr inode) state (begin (getattr plan inode))
stays_getattr plan state inode =
    passes_begin mild_only _ (λ session.
    stays_file inode _ (λ fd.
    passes_stat mild_only fd _ (λ told.
    ends mild_only (by_number state inode))))

pub stays_access : (plan : Plan) (state : PlainTree) (who : Context) (inode mask : ℕ) →
    Stays plan (request.Access inode mask) state (begin (access plan who inode mask))
stays_access plan state who inode mask =
    passes_begin mild_only _ (λ session.
    stays_file inode _ (λ fd.
    passes_stat mild_only fd _ (λ told.
    ends mild_only (by (is_granted who mask (attr_of plan told 0))))))
  where
    by : (granted : Bool) → Stood state inode → Serves plan (request.Access inode mask) state (answered granted) state
    by true k = by_number state inode k
    by false k = refl

pub stays_syncfs : (plan : Plan) (state : PlainTree) (inode : ℕ) →
    Stays plan (request.SyncFs inode) state (begin (syncfs plan inode))
stays_syncfs plan state inode =
    passes_begin mild_only _ (λ session.
    stays_inode plan session inode o_nofollow _ (λ errno. refl) (λ fd.
    stays_call (call.SyncFs fd) tt (
    ends mild_only (by_number state inode))))

-- Of a handle.

pub stays_read_bytes : (plan : Plan) (state : PlainTree) (inode handle size offset : ℕ) →
    Stays plan (request.Read inode handle size offset) state (begin (read inode handle size offset))
stays_read_bytes plan state inode handle size offset =
    passes_begin mild_only _ (λ session.
    passes_placed mild_only offset refl (
    passes_pin mild_only handle inode _ (λ fd.
    passes_call mild_only (call.ReadAt fd offset size) bytes_of _ tt (λ bytes.
    ends mild_only (by_handle state handle inode)))))

pub stays_write : (plan : Plan) (state : PlainTree) (seat : HostSeat) (inode handle offset : ℕ) (bytes : List ℕ)
    (delayed kill : Bool) (flags : ℕ) →
    Stays plan (request.Write inode handle offset bytes delayed kill flags) state
    (begin (write plan seat inode handle offset bytes delayed kill flags))
stays_write plan state seat inode handle offset bytes delayed kill flags =
    passes_begin mild_only _ (λ session.
    passes_placed mild_only offset refl (
    passes_pin mild_only handle inode _ (λ fd.
    passes_without mild_only (drops_fsetid plan seat kill) (
    passes_cleared mild_only plan.capability fd false (
    passes_call mild_only (call.WriteAt fd offset bytes (appends delayed flags)) count_in _ tt (λ count.
    passes_bares mild_only (
    ends mild_only (by_handle state handle inode))))))))

pub stays_fallocate : (plan : Plan) (state : PlainTree) (inode handle mode offset length : ℕ) →
    Stays plan (request.Fallocate inode handle mode offset length) state
    (begin (fallocate inode handle mode offset length))
stays_fallocate plan state inode handle mode offset length =
    passes_begin mild_only _ (λ session.
    passes_placed mild_only offset refl (
    passes_placed mild_only length refl (
    passes_pin mild_only handle inode _ (λ fd.
    stays_call (call.Allocate fd mode offset length) tt (
    ends mild_only (by_handle state handle inode))))))

pub stays_lseek : (plan : Plan) (state : PlainTree) (inode handle offset whence : ℕ) →
    Stays plan (request.Lseek inode handle offset whence) state (begin (lseek inode handle offset whence))
stays_lseek plan state inode handle offset whence =
    passes_begin mild_only _ (λ session.
    passes_pin mild_only handle inode _ (λ fd.
    passes_call mild_only (call.Seek fd (cast_signed w64 offset) whence) count_in _ tt (λ place.
    ends mild_only (by_handle state handle inode))))

pub stays_copy : (plan : Plan) (state : PlainTree) (inode handle offset inode2 handle2 offset2 length flags : ℕ) →
    Stays plan (request.CopyFileRange inode handle offset inode2 handle2 offset2 length flags) state
    (begin (copyfilerange inode handle offset inode2 handle2 offset2 length flags))
stays_copy plan state inode handle offset inode2 handle2 offset2 length flags =
    passes_begin mild_only _ (λ session.
    passes_placed mild_only offset refl (
    passes_placed mild_only offset2 refl (
    passes_placed mild_only length refl (
    passes_pin mild_only handle inode _ (λ from.
    passes_pin mild_only handle2 inode2 _ (λ to.
    passes_call mild_only (call.CopyRange from offset to offset2 length flags) count_in _ tt (λ count.
    ends mild_only (λ second first. (by_handle state handle inode first, by_handle state handle2 inode2 second)))))))))

pub stays_flush : (plan : Plan) (state : PlainTree) (inode handle : ℕ) →
    Stays plan (request.Flush inode handle) state (begin (flush inode handle))
stays_flush plan state inode handle =
    passes_begin mild_only _ (λ session.
    passes_pin mild_only handle inode _ (λ fd.
    stays_call (call.Flush fd) tt (ends mild_only (by_handle state handle inode))))

pub stays_fsync : (plan : Plan) (state : PlainTree) (inode handle : ℕ) (datasync : Bool) →
    Stays plan (request.Fsync inode handle datasync) state (begin (fsync inode handle datasync))
stays_fsync plan state inode handle datasync =
    passes_begin mild_only _ (λ session.
    passes_pin mild_only handle inode _ (λ fd.
    stays_call (call.Sync fd datasync) tt (ends mild_only (by_handle state handle inode))))

pub stays_fsyncdir : (plan : Plan) (state : PlainTree) (inode handle : ℕ) (datasync : Bool) →
    Stays plan (request.FsyncDir inode handle datasync) state (begin (fsync inode handle datasync))
stays_fsyncdir plan state inode handle datasync =
    passes_begin mild_only _ (λ session.
    passes_pin mild_only handle inode _ (λ fd.
    stays_call (call.Sync fd datasync) tt (ends mild_only (by_handle state handle inode))))

pub stays_readdir : (plan : Plan) (state : PlainTree) (inode handle size offset : ℕ) →
    Stays plan (request.ReadDir inode handle size offset) state (begin (readdir inode handle size offset))
unfolding readdir
stays_readdir plan state inode handle size offset =
    passes_begin mild_only _ (λ session. by (size == 0) refl)
  where
    Q : Answer → Type 0
    Q last = Serves plan (request.ReadDir inode handle size offset) state last state

    lists : (entries : Option (List DirEntry)) →
        Passes IsMild state (λ last. Held state handle inode → Q last) (listing entries)
    lists None = ends mild_only (λ k. refl)
    lists (Some entries) =
        passes_entries mild_only entries _ (ends mild_only (λ k. inr (by_handle state handle inode k)))

    asks : RequestTree
    asks = placed offset (pin_handle handle inode (λ fd. bytes_told (call.ListAt fd (Some offset) size) (λ bytes.
        listing (entries_of bytes))))

    by : (none : Bool) → (size == 0) ≡ none → Passes IsMild state Q (if none then Gives (answer.Listing []) else asks)
    by true e = ends mild_only (inl (eqb-true size 0 e, refl, refl))
    by false e =
        passes_placed mild_only offset refl (
        passes_pin mild_only handle inode _ (λ fd.
        passes_call mild_only (call.ListAt fd (Some offset) size) bytes_of _ tt (λ bytes. lists (entries_of bytes))))

-- Of attributes.

pub stays_setxattr : (plan : Plan) (state : PlainTree) (inode : ℕ) (name value : List ℕ) (flags : ℕ)
    (extra : SetxattrFlags) →
    Stays plan (request.SetXattr inode name value flags extra) state
    (begin (setxattr plan inode name value flags extra))
unfolding with_xattr nul_free
stays_setxattr plan state inode name value flags extra =
    passes_begin mild_only _ (λ session.
    passes_unless mild_only plan.config.xattr enosys refl (
    passes_if mild_only (list_any (λ byte. byte == 0) name) einval refl (
    passes_resolve mild_only inode _ (λ row.
    passes_name mild_only plan session.agreed name _ (λ found.
    stays_allowed found _ (λ errno k. refl) (λ named.
    stays_xattr plan session row inode _ (λ errno k. refl)
    (λ file. sets session named file (ends mild_only (by_number state inode)))
    (λ file. sets session named file (ends mild_only (λ k. by_number state inode)))))))))
  where
    sets : {Q : Answer → Type 0} (session : BegunSession) (named : List ℕ) (file : XattrFile) →
        Passes IsMild state Q (Gives answer.Done) → Passes IsMild state Q
        (capability_cleared plan.capability file.fd file.through
        (sgid_killed (kills_sgid session.agreed extra named) file
        (do_call (call.SetXattr file.fd file.through named value flags) (Gives answer.Done))))
    sets session named file t =
        passes_cleared mild_only plan.capability file.fd file.through (
        stays_killed (kills_sgid session.agreed extra named) file (
        stays_call (call.SetXattr file.fd file.through named value flags) tt t))

pub stays_removexattr : (plan : Plan) (state : PlainTree) (inode : ℕ) (name : List ℕ) →
    Stays plan (request.RemoveXattr inode name) state (begin (removexattr plan inode name))
unfolding with_xattr nul_free
stays_removexattr plan state inode name =
    passes_begin mild_only _ (λ session.
    passes_unless mild_only plan.config.xattr enosys refl (
    passes_if mild_only (list_any (λ byte. byte == 0) name) einval refl (
    passes_resolve mild_only inode _ (λ row.
    passes_name mild_only plan session.agreed name _ (λ found.
    stays_allowed found _ (λ errno k. refl) (λ named.
    stays_xattr plan session row inode _ (λ errno k. refl)
    (λ file. stays_call (call.RemoveXattr file.fd file.through named) tt (ends mild_only (by_number state inode)))
    (λ file. stays_call (call.RemoveXattr file.fd file.through named) tt
    (ends mild_only (λ k. by_number state inode)))))))))

stays_value : {state : PlainTree} {Q : Answer → Type 0} (file : XattrFile) (name : List ℕ) (size : ℕ) →
    ((told : GetxattrReply) → Q (answer.Xattr told)) → Q (answer.Refused eoverflow) →
    Passes IsMild state Q (value_told file name size)
unfolding value_told
stays_value file name size q bad =
    passes_either mild_only (size == 0)
    (passes_call mild_only (call.GetXattr file.fd file.through name size) count_in _ tt (λ count.
    stays_counted count (answer.Xattr (xattr.Count count)) (q _) bad))
    (passes_call mild_only (call.GetXattr file.fd file.through name size) bytes_of _ tt (λ value.
    ends mild_only (q _)))

pub stays_getxattr : (plan : Plan) (state : PlainTree) (inode : ℕ) (name : List ℕ) (size : ℕ) →
    Stays plan (request.GetXattr inode name size) state (begin (getxattr plan inode name size))
unfolding with_xattr nul_free
stays_getxattr plan state inode name size =
    passes_begin mild_only _ (λ session.
    passes_unless mild_only plan.config.xattr enosys refl (
    passes_if mild_only (list_any (λ byte. byte == 0) name) einval refl (
    passes_name mild_only plan session.agreed name _ (λ found.
    stays_read found _ (λ errno. refl) (λ named.
    passes_resolve mild_only inode _ (λ row.
    stays_xattr plan session row inode _ (λ errno k. refl)
    (λ file. stays_value file named size (λ told. by_number state inode) (λ k. refl))
    (λ file. stays_value file named size (λ told k. by_number state inode) (λ k l. refl))))))))

stays_list : {state : PlainTree} {Q : Answer → Type 0} (plan : Plan) (agreed : Negotiated) (file : XattrFile)
    (size : ℕ) →
    ((told : ListxattrReply) → Q (answer.Xattrs told)) → Q (answer.Refused eoverflow) →
    Passes IsMild state Q (list_told plan agreed file size)
unfolding list_told
stays_list plan agreed file size q bad =
    passes_either mild_only (size == 0)
    (passes_call mild_only (call.ListXattr file.fd file.through size) count_in _ tt (λ count.
    stays_counted count (answer.Xattrs (xattrs.Count count)) (q _) bad))
    (passes_call mild_only (call.ListXattr file.fd file.through size) bytes_of _ tt (λ list.
    passes_bytes mild_only (names_told plan agreed list) _ (ends mild_only (q _))))

pub stays_listxattr : (plan : Plan) (state : PlainTree) (inode size : ℕ) →
    Stays plan (request.ListXattr inode size) state (begin (listxattr plan inode size))
unfolding with_xattr
stays_listxattr plan state inode size =
    passes_begin mild_only _ (λ session.
    passes_unless mild_only plan.config.xattr enosys refl (
    passes_resolve mild_only inode _ (λ row.
    stays_xattr plan session row inode _ (λ errno k. refl)
    (λ file. stays_list plan session.agreed file size (λ told. by_number state inode) (λ k. refl))
    (λ file. stays_list plan session.agreed file size (λ told k. by_number state inode) (λ k l. refl)))))

-- Of setting attributes.

module _ {state : PlainTree} {Q : Answer → Type 0} (bad : (errno : Errno) → Q (answer.Refused errno)) where
  stays_own : (name : Option (List ℕ)) (file : Fd) (uid gid : Option ℕ) {next : RequestTree} →
      Passes IsMild state Q next → Passes IsMild state Q (own_as name file uid gid next)
  stays_own name file (Some uid) (Some gid) t =
      passes_cleared mild_only name file true (stays_call (call.ChOwn file uid gid) tt t)
  stays_own name file None gid t = ends mild_only (bad eperm)
  stays_own name file (Some uid) None t = ends mild_only (bad eperm)

  stays_own_if : (owns : Bool) (name : Option (List ℕ)) (file : Fd) (uid gid : Option ℕ) {next : RequestTree} →
      Passes IsMild state Q next → Passes IsMild state Q (own_if owns name file uid gid next)
  stays_own_if true name file uid gid t = stays_own name file uid gid t
  stays_own_if false name file uid gid t = t

  stays_cut_if : (cuts drops : Bool) (name : Option (List ℕ)) (file : Fd) (size : ℕ) {next : RequestTree} →
      Passes IsMild state Q next → Passes IsMild state Q (cut_if cuts drops name file size next)
  stays_cut_if true drops name file size t =
      passes_without mild_only drops (
      passes_cleared mild_only name file false (
      stays_call (call.Truncate file size) tt (
      passes_bares mild_only t)))
  stays_cut_if false drops name file size t = t

  stays_set : (plan : Plan) (seat : HostSeat) (valid : SetattrValid) (attr : SetattrIn) (file : Fd) (target : Target)
      {next : RequestTree} → Passes IsMild state Q next → Passes IsMild state Q
      (set_mode valid attr target (set_owner plan valid attr file (set_size plan seat valid attr target
      (set_times valid attr target next))))
  stays_set plan seat valid attr file target t =
      stays_do_if (sets_mode valid) (call.ChMod target.fd target.through attr.mode) tt (
      stays_own_if (sets_uid valid || sets_gid valid) plan.capability file
      (id_set (sets_uid valid) (to_host plan.uid_map attr.uid))
      (id_set (sets_gid valid) (to_host plan.gid_map attr.gid)) (
      stays_cut_if (sets_size valid) (drops_fsetid plan seat (kills_suidgid valid)) plan.capability target.fd attr.size
      (
      stays_do_if (sets_atime valid || sets_mtime valid)
      (call.SetTimes target.fd target.through (atime_set valid attr) (mtime_set valid attr)) tt t)))

-- and at last they are told
stays_tell : {state : PlainTree} {Q : Answer → Type 0} (plan : Plan) (inode : ℕ) →
    ((told : Attr) (valid : Timeout) → Stood state inode → Q (answer.Attr told valid)) →
    Passes IsMild state Q (tell_attr plan inode)
stays_tell plan inode q =
    stays_file inode _ (λ fd. passes_stat mild_only fd _ (λ told. ends mild_only (q _ _)))

pub stays_setattr : (plan : Plan) (state : PlainTree) (seat : HostSeat) (inode : ℕ) (handle : Option ℕ)
    (valid : SetattrValid) (attr : SetattrIn) →
    Stays plan (request.SetAttr inode handle valid attr) state (begin (setattr plan seat inode handle valid attr))
unfolding sized file_set target_of
stays_setattr plan state seat inode handle valid attr =
    passes_begin mild_only _ (λ session.
    passes_if mild_only (is_missized valid attr) einval refl (
    passes_resolve mild_only inode _ (λ row.
    passes_either mild_only (opens_anew handle valid)
    (passes_row mild_only row setting_flags _ (λ k. refl) (λ file. targets handle file))
    (passes_file mild_only row.form _ (λ file. targets handle file)))))
  where
    sets : Fd → Target → RequestTree
    sets file target = set_mode valid attr target (set_owner plan valid attr file (set_size plan seat valid attr target
        (set_times valid attr target (tell_attr plan inode))))

    targets : (handle : Option ℕ) (file : Fd) → Passes IsMild state
        (λ last. Stood state inode → Serves plan (request.SetAttr inode handle valid attr) state last state)
        (target_of inode handle file (sets file))
    targets (Some handle) file =
        passes_pin mild_only handle inode _ (λ fd.
        stays_set (λ errno k l. refl) plan seat valid attr file (target_as fd false) (
        stays_tell plan inode (λ told valid again held found.
        (by_number state inode found, by_handle state handle inode held))))
    targets None file =
        stays_set (λ errno k. refl) plan seat valid attr file (target_as file true) (
        stays_tell plan inode (λ told valid again found. (by_number state inode found, refl)))

pub stays_unserved : (plan : Plan) (state : PlainTree) (opcode : ℕ) →
    Stays plan (request.Other opcode) state (begin unserved)
stays_unserved plan state opcode = passes_begin mild_only _ (λ session. ends mild_only refl)
