-- What passes through each step of a request passes through those of names, attributes and contents too.
use Rattle.std.proofs.Common.{◌≡◌, ℕ, Bool, true, false, List, Option, Some, None, Result, Ok, Err, refl}
use Rattle.std.specs.Int.{w64, cast_signed}
use Rattle.std.specs.List.{list_any}
use Rattle.std.specs.Prelude.{◌||◌}
use Rattle.pt_host.specs.Call.{Call}
use Rattle.pt_host.specs.Errno.{eacces, einval, eperm, estale}
use Rattle.pt_host.specs.declared.ids.Errno.{Errno}
use Rattle.pt_host.specs.declared.ids.Fd.{Fd}
use Rattle.pt_host.specs.declared.stat.FsStat.{FsStat}
use Rattle.pt_host.specs.declared.op.KeptHostOp.TheVariants as call
use Rattle.pt_host.specs.declared.reply.HostReply.TheVariants as host
use Rattle.pt_host.specs.declared.seat.HostSeat.{HostSeat}
use Rattle.pt_host.specs.declared.ids.ObjIds.{ObjIds}
use Rattle.pt_creds.specs.Identity.{Credentials}
use Rattle.pt_tables.specs.declared.reply.Resolved.{Resolved}
use Rattle.pt_iface.specs.declared.answer.Answer.{Answer}
use Rattle.pt_iface.specs.declared.answer.Answer.TheVariants as answer
use Rattle.pt_iface.specs.declared.flags.SetattrValid.{SetattrValid}
use Rattle.pt_iface.specs.declared.request.Context.{Context}
use Rattle.pt_iface.specs.declared.request.SetattrIn.{SetattrIn}
use Rattle.pt_frame.specs.Deed.{Calls, Deed, lacks_memory}
use Rattle.pt_frame.specs.Tended.{is_of_seat}
use Rattle.pt_frame.specs.Replies.{bytes_of}
use Rattle.pt_frame.specs.Tree.{RequestTree, Gives, Bares, Shuts, on}
use Rattle.pt_frame.specs.declared.act.ActReply.{ActReply}
use Rattle.pt_frame.specs.declared.act.ActReply.TheVariants.{Host, NoCopy}
use Rattle.pt_req.specs.Asker.{asker_of, umask_of}
use Rattle.pt_req.specs.Attributes.{Label, host_label}
use Rattle.pt_req.specs.Capability.{drops_fsetid}
use Rattle.pt_req.specs.Entries.{attr_of}
use Rattle.pt_req.specs.Options.{o_nofollow, making_flags, create_options}
use Rattle.pt_req.specs.Parts.{by_path, file_of, named}
use Rattle.pt_req.specs.Steps.{begin, ok_in, or_refused, refused_in, resolve, set_xattr, tried_in, made_in}
use Rattle.pt_req.specs.declared.begun.BegunSession.{BegunSession}
use Rattle.pt_req.specs.declared.plan.Plan.{Plan}
use Rattle.pt_req.proofs.Replying.{if_bytes, if_refused, if_set, if_made, if_tried}
use Rattle.pt_req.proofs.Walking.{Walk, is_making, begins, checks, files, looks_up, refuses_so, resolves, stats, names}
use Rattle.pt_req.proofs.Walking.{places, drops_if, opens_row, opens_inode, pins, makes, InScope, OfAsker, OfAskerIn}
use Rattle.pt_req.proofs.Walking.{OfDeed, OfLabel, OfOpening, OfRemoval, Scoped, clears_capability, hosts_label}
use Rattle.pt_req.proofs.Walking.{in_clears, OfEmptying, checked, handles, opens_num}
use Rattle.pt_req.proofs.Flags.{creates as creates_file}
use Rattle.pt_attr.specs.Creating.{undone, FileAsked, are_same, if_same, labelled, labelled_by, named_handle, new_file}
use Rattle.pt_attr.specs.Creating.{old_file, made_file, make_file, takes_old, create}
use Rattle.pt_attr.specs.Access.{is_granted}
use Rattle.pt_attr.specs.Contents.{appends, copyfilerange, fallocate, flush, fsync, lseek, syncfs, write}
use Rattle.pt_attr.specs.Making.{ObjectAsked, is_nul, kept_at, label_at, labelled_at, make_object, mkdir, mknod}
use Rattle.pt_attr.specs.Making.{set_opened, symlink, targeted}
use Rattle.pt_attr.specs.Parts.{file_by, files_by, tell_attr, two_files}
use Rattle.pt_attr.specs.Requests.{access, allowed, getattr, link, readlink, rename, rmdir, statfs, unlink}
use Rattle.pt_attr.specs.Setting.{atime_set, cut_if, do_if, file_set, is_missized, kills_suidgid, mtime_set, opens_anew}
use Rattle.pt_attr.specs.Setting.{own_as, own_if, set_owner, set_size, setattr, setting_flags, sets_atime, sets_gid}
use Rattle.pt_attr.specs.Setting.{sets_mode, sets_mtime, sets_size, sets_uid, sized, target_as, target_of}
use Rattle.pt_attr.specs.Steps.{count_in, count_of, do_call, fs_stat_in, opened_in, read_link, stat_fs}
use Rattle.pt_attr.specs.declared.parts.TwoFiles.{TwoFiles}
use Rattle.pt_attr.specs.declared.parts.setting.Target.{Target}
use Rattle.pt_attr.proofs.Replying.{if_count, if_fs_stat, if_opened}
use Rattle.pt_attr.specs.declared.parts.creating.NamedHandle.{NamedHandle}

abbrev pub OfWrite : (Bool → Deed → Type 0) → Bool → Type 0
OfWrite D dropped =
    ((fd : Fd) (at : ℕ) (bytes : List ℕ) (append : Bool) → D dropped (Calls (call.WriteAt fd at bytes append)))
    × OfRemoval D dropped false

abbrev pub OfCut : (Bool → Deed → Type 0) → Bool → Type 0
OfCut D dropped =
    ((fd : Fd) (size : ℕ) → D dropped (Calls (call.Truncate fd size))) × OfRemoval D dropped false

-- and of what sets attributes
abbrev pub OfSetting : (Bool → Deed → Type 0) → Bool → Type 0
OfSetting D dropped = OfCut D dropped × OfOpening D false × OfRemoval D false true

-- under a scope bytes are written, or a size is set, and it ends
module _ (D : Bool → Deed → Type 0) (dropped : Bool) (Q : RequestTree → Type 0) where
  in_counts : (asked : Call) (next : ℕ → RequestTree) → is_of_seat (Calls asked) ≡ false →
      is_making (Calls asked) ≡ false → OfDeed D dropped (Calls asked) → ((count : ℕ) → Q (next count)) →
      Scoped D dropped Q (count_of asked (λ count. Bares (next count)))
  in_counts asked next own none may so = λ told. (
    own,
    none,
    may,
    (λ later. refl),
    if_count (InScope D dropped Q) (λ count. Bares (next count)) (λ later. refl) so,
  )

  in_calls : (asked : Call) (next : RequestTree) → is_of_seat (Calls asked) ≡ false →
      is_making (Calls asked) ≡ false → OfDeed D dropped (Calls asked) → Q next →
      Scoped D dropped Q (do_call asked (Bares next))
  in_calls asked next own none may so = λ told. (
    own,
    none,
    may,
    (λ later. refl),
    if_set (InScope D dropped Q) (Bares next) (λ later. refl) (λ told. so),
  )

module _
    {seat : HostSeat}
    {M : Credentials → Option ℕ → Type 0}
    {D : Bool → Deed → Type 0}
    {Q : RequestTree → Type 0}
    {R : ActReply → RequestTree → Type 0}
    (w : Walk seat M D Q R)
  where
    pub is_same : (made found : ObjIds) (next : RequestTree) → Q next → Q (if_same made found next)
    unfolding if_same
    is_same made found next so = checked w (are_same made found) _ _ so (refuses_so w estale)

    -- a refusal behind one more call, which the host may refuse
    pub undoes : (undoing : Call) (errno : Errno) → is_of_seat (Calls undoing) ≡ false →
        is_making (Calls undoing) ≡ false → OfDeed D false (Calls undoing) →
        Q (undone undoing (answer.Refused errno))
    undoes undoing errno own none may =
        w.asks (Calls undoing) (on tried_in (λ done. Gives (answer.Refused errno))) own none may
        (if_tried R (Gives (answer.Refused errno)) w.refuses (λ told. w.had _ _ (refuses_so w errno)))

    sets_label : (fd : Fd) (undoing : Call) (value : List ℕ) (name : Result (List ℕ) Errno)
        (next : RequestTree) → is_of_seat (Calls undoing) ≡ false → is_making (Calls undoing) ≡ false →
        OfDeed D false (Calls undoing) → Q next → Q (labelled_by fd undoing value name next)
    sets_label fd undoing value (Err errno) next own none may so = undoes undoing errno own none may
    sets_label fd undoing value (Ok name) next own none may so =
        w.asks (Calls (call.SetXattr fd false name value 0))
        (on refused_in (or_refused (undone undoing) next)) refl refl refl
        (if_refused R (or_refused (undone undoing) next) w.refuses (λ told. w.had _ _ so)
        (λ errno. w.had _ _ (undoes undoing errno own none may))
        (λ errno. w.had _ _ (undoes undoing errno own none may))
        (w.ran_out (Host host.NoMemory) (Calls undoing) refl own none may)
        (w.ran_out NoCopy (Calls undoing) refl own none may))

    labels : (fd : Fd) (undoing : Call) (label : Option Label) (next : RequestTree) →
        is_of_seat (Calls undoing) ≡ false → is_making (Calls undoing) ≡ false →
        OfDeed D false (Calls undoing) → Q next → Q (labelled fd undoing label next)
    labels fd undoing None next own none may so = so
    labels fd undoing (Some label) next own none may so =
        sets_label fd undoing label.value label.name next own none may so

    pub news : (plan : Plan) (session : BegunSession) (asked : FileAsked) (label : Option Label) (dir fd : Fd)
        (next : NamedHandle → RequestTree) → ((named : NamedHandle) → Q (next named)) →
        Q (new_file plan session asked label dir fd next)
    unfolding new_file
    news plan session asked label dir fd next so =
        stats w fd _ (λ made.
        labels fd (call.Unlink dir asked.name) label _ refl refl refl (
        looks_up w plan session asked.parent asked.name _ (λ looked.
        is_same made.ids looked.ids _ (
        handles w session looked.entry.inode fd _ (λ handle. so (named_handle looked.entry handle))))))

    pub olds : (plan : Plan) (session : BegunSession) (asked : FileAsked) (next : NamedHandle → RequestTree) →
        OfEmptying D (drops_fsetid plan seat asked.kill) → ((named : NamedHandle) → Q (next named)) →
        Q (old_file plan seat session asked next)
    unfolding old_file
    olds plan session asked next may so =
        looks_up w plan session asked.parent asked.name _ (λ looked.
        opens_num w plan session looked.entry.inode asked.kill asked.flags _ may
        (λ handle. so (named_handle looked.entry handle)))

    pub makes_file : (plan : Plan) (session : BegunSession) (asked : FileAsked) (label : Option Label) (dir : Fd)
        (next : NamedHandle → RequestTree) →
        OfAskerIn M plan session asked.who asked.ext.sup_gid (Some asked.umask) →
        OfEmptying D (drops_fsetid plan seat asked.kill) → ((named : NamedHandle) → Q (next named)) →
        Q (make_file plan seat session asked label dir next)
    unfolding make_file
    makes_file plan session asked label dir next may opening so =
        makes w (asker_of plan session asked.who asked.ext.sup_gid) (umask_of session (Some asked.umask))
        (call.OpenAt dir asked.name (making_flags asked.flags) asked.mode)
        (on (made_in (takes_old asked.flags)) (λ made. made_file plan seat session asked label dir made next))
        (creates_file asked.flags) may
        (if_made R (λ made. made_file plan seat session asked label dir made next) (takes_old asked.flags) w.refuses
        (λ fd. w.had _ _ (news plan session asked label dir fd next so))
        (λ errno. w.had _ _ (olds plan session asked next opening so))
        (λ errno. w.had _ _ (olds plan session asked next opening so)))

    -- in a session
    pub creates_in : (plan : Plan) (asked : FileAsked) (session : BegunSession) →
        OfAskerIn M plan session asked.who asked.ext.sup_gid (Some asked.umask) →
        OfEmptying D (drops_fsetid plan seat asked.kill) → OfLabel Q asked.ext.secctx →
        Q (create plan seat asked session)
    creates_in plan asked session may opening made =
        names w asked.name _ (
        resolves w asked.parent _ (λ directory.
        hosts_label w plan session.agreed asked.ext.secctx _ made (λ label.
        files w directory.form _ (λ dir.
        makes_file plan session asked label dir _ may opening answers))))
      where
        answers : (named : NamedHandle) →
            Q (Gives (answer.Created named.entry named.handle (create_options plan.config)))
        answers named =
            w.gives (answer.Created named.entry named.handle (create_options plan.config)) (refl, λ out. out)

    pub creates : (plan : Plan) (asked : FileAsked) →
        OfAsker M plan asked.who asked.ext.sup_gid (Some asked.umask) →
        OfEmptying D (drops_fsetid plan seat asked.kill) → OfLabel Q asked.ext.secctx →
        Q (begin (create plan seat asked))
    creates plan asked may opening made =
        begins w _ (λ session. creates_in plan asked session (may session) opening made)

    reads_link : (fd : Fd) (next : List ℕ → RequestTree) → ((target : List ℕ) → Q (next target)) →
        Q (read_link fd next)
    reads_link fd next so = w.asks (Calls (call.ReadLink fd)) (on bytes_of next) refl refl refl
        (if_bytes R next w.refuses (λ target. w.had _ _ (so target)))

    stats_fs : (fd : Fd) (next : FsStat → RequestTree) → ((told : FsStat) → Q (next told)) → Q (stat_fs fd next)
    stats_fs fd next so = w.asks (Calls (call.StatFs fd)) (on fs_stat_in next) refl refl refl
        (if_fs_stat R next w.refuses (λ told. w.had _ _ (so told)))

    pub calls : (asked : Call) (next : RequestTree) → is_of_seat (Calls asked) ≡ false →
        is_making (Calls asked) ≡ false → OfDeed D false (Calls asked) → Q next → Q (do_call asked next)
    calls asked next own none may so = w.asks (Calls asked) (on ok_in (λ done. next)) own none may
        (if_set R next w.refuses (λ told. w.had _ _ so))

    pub counts : (asked : Call) (next : ℕ → RequestTree) → is_of_seat (Calls asked) ≡ false →
        is_making (Calls asked) ≡ false → OfDeed D false (Calls asked) → ((count : ℕ) → Q (next count)) →
        Q (count_of asked next)
    counts asked next own none may so = w.asks (Calls asked) (on count_in next) own none may
        (if_count R next w.refuses (λ count. w.had _ _ (so count)))

    pub one_file : (number : ℕ) (next : Fd → RequestTree) → ((fd : Fd) → Q (next fd)) → Q (file_by number next)
    one_file number next so = resolves w number _ (λ row. files w row.form next so)

    pub both_files : (first second : ℕ) (next : TwoFiles → RequestTree) → ((files : TwoFiles) → Q (next files)) →
        Q (files_by first second next)
    unfolding files_by
    both_files first second next so =
        resolves w first _ (λ one.
        resolves w second _ (λ other.
        files w one.form _ (λ from.
        files w other.form _ (λ to. so (two_files from to)))))

    -- a making
    module _
        (undoing : Call)
        (own : is_of_seat (Calls undoing) ≡ false)
        (none : is_making (Calls undoing) ≡ false)
        (may : OfDeed D false (Calls undoing))
        (next : RequestTree)
      where
        abbrev shut : Option Answer → RequestTree
        shut refused = Shuts false (or_refused (undone undoing) next refused)

        shut_undone : (errno : Errno) → Q (shut (Some (answer.Refused errno)))
        shut_undone errno = w.shuts false _ (undoes undoing errno own none may)

        shut_out : (told : ActReply) → lacks_memory told ≡ true → R told (shut (Some answer.NoMemory))
        shut_out told lacks = w.shuts_after told false _ (w.ran_out told (Calls undoing) lacks own none may)

        sets : (fd : Fd) (attribute value : List ℕ) → Q next → Q (set_xattr fd true attribute value 0 shut)
        sets fd attribute value so =
            w.asks (Calls (call.SetXattr fd true attribute value 0)) (on refused_in shut) refl refl refl
            (if_refused R shut w.refuses (λ told. w.had _ _ (w.shuts false _ so))
            (λ errno. w.had _ _ (shut_undone errno)) (λ errno. w.had _ _ (shut_undone errno))
            (shut_out (Host host.NoMemory) refl) (shut_out NoCopy refl))

        keeps_at : (dir : Fd) (name attribute value : List ℕ) → Q next →
            Q (kept_at dir name undoing attribute value next)
        keeps_at dir name attribute value so =
            w.brackets _ (
            w.asks (Calls (call.OpenAt dir name by_path 0)) (on opened_in set_on) refl refl refl
            (if_opened R set_on w.refuses (λ fd. w.had _ _ (sets fd attribute value so))
            (λ errno. w.had _ _ (shut_undone errno)) (λ errno. w.had _ _ (shut_undone errno))
            (shut_out (Host host.NoMemory) refl) (shut_out NoCopy refl)))
          where
            set_on : Result Fd Answer → RequestTree
            set_on opened = set_opened attribute value opened shut

        sets_label_at : (dir : Fd) (name value : List ℕ) (attribute : Result (List ℕ) Errno) → Q next →
            Q (label_at dir name undoing value attribute next)
        sets_label_at dir name value (Err errno) so = undoes undoing errno own none may
        sets_label_at dir name value (Ok attribute) so = keeps_at dir name attribute value so

        labels_at : (dir : Fd) (name : List ℕ) (label : Option Label) → Q next →
            Q (labelled_at dir name undoing label next)
        labels_at dir name None so = so
        labels_at dir name (Some label) so = sets_label_at dir name label.value label.name so

    makes_object : (plan : Plan) (session : BegunSession) (asked : ObjectAsked) (label : Option Label) (dir : Fd)
        (making undoing : Call) → is_making (Calls making) ≡ true → is_of_seat (Calls undoing) ≡ false →
        is_making (Calls undoing) ≡ false → OfDeed D false (Calls undoing) →
        OfAskerIn M plan session asked.who asked.ext.sup_gid asked.umask →
        Q (make_object plan seat session asked label dir making undoing)
    unfolding make_object
    makes_object plan session asked label dir making undoing is own none may asker =
        makes w (asker_of plan session asked.who asked.ext.sup_gid) (umask_of session asked.umask) making _ is asker
        (if_set R _ w.refuses (λ told. w.had _ _ (
        labels_at undoing own none may _ dir asked.name label (
        looks_up w plan session asked.parent asked.name _ (λ looked.
        w.gives (answer.Entry looked.entry) (refl, λ out. out))))))

    -- in the directory, with the context
    placed_so : (plan : Plan) (session : BegunSession) (asked : ObjectAsked)
        (next : Option Label → Fd → RequestTree) → OfLabel Q asked.ext.secctx →
        ((label : Option Label) (dir : Fd) → Q (next label dir)) →
        Q (resolve asked.parent (λ row. host_label plan session.agreed asked.ext.secctx (λ label.
        file_of row.form (λ dir. next label dir))))
    placed_so plan session asked next made so =
        resolves w asked.parent _ (λ row.
        hosts_label w plan session.agreed asked.ext.secctx _ made (λ label.
        files w row.form _ (λ dir. so label dir)))

    pub makes_dir_in : (plan : Plan) (asked : ObjectAsked) (mode : ℕ) (session : BegunSession) →
        OfAskerIn M plan session asked.who asked.ext.sup_gid asked.umask → OfLabel Q asked.ext.secctx →
        Q (mkdir plan seat asked mode session)
    makes_dir_in plan asked mode session may made =
        names w asked.name _ (placed_so plan session asked _ made (λ label dir.
        makes_object plan session asked label dir (call.MakeDir dir asked.name mode) (call.RemoveDir dir asked.name)
        refl refl refl refl may))

    pub makes_dir : (plan : Plan) (asked : ObjectAsked) (mode : ℕ) →
        OfAsker M plan asked.who asked.ext.sup_gid asked.umask → OfLabel Q asked.ext.secctx →
        Q (begin (mkdir plan seat asked mode))
    makes_dir plan asked mode may made =
        begins w _ (λ session. makes_dir_in plan asked mode session (may session) made)

    pub makes_node_in : (plan : Plan) (asked : ObjectAsked) (mode rdev : ℕ) (session : BegunSession) →
        OfAskerIn M plan session asked.who asked.ext.sup_gid asked.umask → OfLabel Q asked.ext.secctx →
        Q (mknod plan seat asked mode rdev session)
    makes_node_in plan asked mode rdev session may made =
        names w asked.name _ (placed_so plan session asked _ made (λ label dir.
        makes_object plan session asked label dir (call.MakeNode dir asked.name mode rdev)
        (call.Unlink dir asked.name) refl refl refl refl may))

    pub makes_node : (plan : Plan) (asked : ObjectAsked) (mode rdev : ℕ) →
        OfAsker M plan asked.who asked.ext.sup_gid asked.umask → OfLabel Q asked.ext.secctx →
        Q (begin (mknod plan seat asked mode rdev))
    makes_node plan asked mode rdev may made =
        begins w _ (λ session. makes_node_in plan asked mode rdev session (may session) made)

    targets_checked : (target : List ℕ) (next : RequestTree) → Q next → Q (targeted target next)
    unfolding targeted
    targets_checked target next so = checks w (list_any is_nul target) _ _ (refuses_so w einval) so

    pub makes_symlink_in : (plan : Plan) (asked : ObjectAsked) (target : List ℕ) (session : BegunSession) →
        OfAskerIn M plan session asked.who asked.ext.sup_gid asked.umask → OfLabel Q asked.ext.secctx →
        Q (symlink plan seat asked target session)
    makes_symlink_in plan asked target session may made =
        names w asked.name _ (targets_checked target _ (placed_so plan session asked _ made (λ label dir.
        makes_object plan session asked label dir (call.SymLink dir asked.name target) (call.Unlink dir asked.name) refl
        refl refl refl may)))

    pub makes_symlink : (plan : Plan) (asked : ObjectAsked) (target : List ℕ) →
        OfAsker M plan asked.who asked.ext.sup_gid asked.umask → OfLabel Q asked.ext.secctx →
        Q (begin (symlink plan seat asked target))
    makes_symlink plan asked target may made =
        begins w _ (λ session. makes_symlink_in plan asked target session (may session) made)

    -- a setting
    sizes_checked : (valid : SetattrValid) (attr : SetattrIn) (next : RequestTree) → Q next → Q (sized valid attr next)
    unfolding sized
    sizes_checked valid attr next so = checks w (is_missized valid attr) _ _ (refuses_so w einval) so

    files_set : (handle : Option ℕ) (valid : SetattrValid) (row : Resolved) (next : Fd → RequestTree) →
        OfOpening D false → ((fd : Fd) → Q (next fd)) → Q (file_set handle valid row next)
    unfolding file_set
    files_set handle valid row next may so =
        checks w (opens_anew handle valid) _ _ (opens_row w row setting_flags next may so) (files w row.form next so)

    targets : (inode : ℕ) (handle : Option ℕ) (file : Fd) (next : Target → RequestTree) →
        ((target : Target) → Q (next target)) → Q (target_of inode handle file next)
    unfolding target_of
    targets inode (Some handle) file next so = pins w handle inode _ (λ fd. so (target_as fd false))
    targets inode None file next so = so (target_as file true)

    does_if : (is : Bool) (asked : Call) (next : RequestTree) → is_of_seat (Calls asked) ≡ false →
        is_making (Calls asked) ≡ false → OfDeed D false (Calls asked) → Q next → Q (do_if is asked next)
    does_if true asked next own none may so = calls asked next own none may so
    does_if false asked next own none may so = so

    cuts : (is : Bool) (plan : Plan) (kill : Bool) (file : Fd) (size : ℕ) (next : RequestTree) →
        OfCut D (drops_fsetid plan seat kill) → Q next →
        Q (cut_if is (drops_fsetid plan seat kill) plan.capability file size next)
    cuts true plan kill file size next may so =
        let dropped = drops_fsetid plan seat kill in
        drops_if w plan kill _ (
        in_clears D dropped Q plan.capability file false _ may.1 (
        in_calls D dropped Q (call.Truncate file size) next refl refl (may.0 file size) so))
    cuts false plan kill file size next may so = so

    sizes : (plan : Plan) (valid : SetattrValid) (attr : SetattrIn) (target : Target) (next : RequestTree) →
        OfCut D (drops_fsetid plan seat (kills_suidgid valid)) → Q next →
        Q (set_size plan seat valid attr target next)
    sizes plan valid attr target next may so =
        cuts (sets_size valid) plan (kills_suidgid valid) target.fd attr.size next may so

    owns : (name : Option (List ℕ)) (file : Fd) (uid gid : Option ℕ) (next : RequestTree) → OfRemoval D false true →
        Q next → Q (own_as name file uid gid next)
    owns name file (Some uid) (Some gid) next may so =
        clears_capability w name file true _ may (calls (call.ChOwn file uid gid) next refl refl refl so)
    owns name file (Some uid) None next may so = refuses_so w eperm
    owns name file None gid next may so = refuses_so w eperm

    owns_if : (is : Bool) (name : Option (List ℕ)) (file : Fd) (uid gid : Option ℕ) (next : RequestTree) →
        OfRemoval D false true → Q next → Q (own_if is name file uid gid next)
    owns_if true name file uid gid next may so = owns name file uid gid next may so
    owns_if false name file uid gid next may so = so

    sets_owner : (plan : Plan) (valid : SetattrValid) (attr : SetattrIn) (file : Fd) (next : RequestTree) →
        OfRemoval D false true → Q next → Q (set_owner plan valid attr file next)
    sets_owner plan valid attr file next may so =
        owns_if (sets_uid valid || sets_gid valid) plan.capability file _ _ next may so

    tells : (plan : Plan) (inode : ℕ) → Q (tell_attr plan inode)
    tells plan inode =
        one_file inode _ (λ fd.
        stats w fd _ (λ told.
        w.gives (answer.Attr (attr_of plan told 0) plan.config.attr_timeout) (refl, λ out. out)))

    pub sets_attr : (plan : Plan) (inode : ℕ) (handle : Option ℕ) (valid : SetattrValid) (attr : SetattrIn) →
        OfSetting D (drops_fsetid plan seat (kills_suidgid valid)) →
        Q (begin (setattr plan seat inode handle valid attr))
    sets_attr plan inode handle valid attr may =
        begins w _ (λ session.
        sizes_checked valid attr _ (
        resolves w inode _ (λ row.
        files_set handle valid row _ may.1 (λ file.
        targets inode handle file _ (λ target.
        does_if (sets_mode valid) (call.ChMod target.fd target.through attr.mode) _ refl refl refl (
        sets_owner plan valid attr file _ may.2 (
        sizes plan valid attr target _ may.0 (
        does_if (sets_atime valid || sets_mtime valid)
        (call.SetTimes target.fd target.through (atime_set valid attr) (mtime_set valid attr)) _ refl refl refl (
        tells plan inode)))))))))

    -- the other requests
    pub reads_links : (inode : ℕ) → Q (begin (readlink inode))
    reads_links inode =
        begins w _ (λ session.
        one_file inode _ (λ fd.
        reads_link fd _ (λ target. w.gives (answer.Link target) (refl, λ out. out))))

    pub tells_fs : (inode : ℕ) → Q (begin (statfs inode))
    tells_fs inode =
        begins w _ (λ session.
        one_file inode _ (λ fd.
        stats_fs fd _ (λ told. w.gives (answer.FsStat told) (refl, λ out. out))))

    pub gets_attr : (plan : Plan) (inode : ℕ) → Q (begin (getattr plan inode))
    gets_attr plan inode = begins w _ (λ session. tells plan inode)

    decides : (granted : Bool) → Q (Gives (allowed granted))
    decides true = w.gives answer.Done (refl, λ out. out)
    decides false = refuses_so w eacces

    pub allows : (plan : Plan) (who : Context) (inode mask : ℕ) → Q (begin (access plan who inode mask))
    allows plan who inode mask =
        begins w _ (λ session.
        one_file inode _ (λ fd.
        stats w fd _ (λ told. decides (is_granted who mask (attr_of plan told 0)))))

    pub unlinks : (parent : ℕ) (name : List ℕ) → Q (begin (unlink parent name))
    unlinks parent name =
        begins w _ (λ session. names w name _ (one_file parent _ (λ dir.
        calls (call.Unlink dir name) _ refl refl refl (w.gives answer.Done (refl, λ out. out)))))

    pub removes_dir : (parent : ℕ) (name : List ℕ) → Q (begin (rmdir parent name))
    removes_dir parent name =
        begins w _ (λ session. names w name _ (one_file parent _ (λ dir.
        calls (call.RemoveDir dir name) _ refl refl refl (w.gives answer.Done (refl, λ out. out)))))

    pub links : (plan : Plan) (inode newparent : ℕ) (newname : List ℕ) →
        Q (begin (link plan inode newparent newname))
    links plan inode newparent newname =
        begins w _ (λ session. names w newname _ (both_files inode newparent _ (λ files.
        calls (call.MakeLink files.from files.to newname) _ refl refl refl (
        looks_up w plan session newparent newname _ (λ looked.
        w.gives (answer.Entry looked.entry) (refl, λ out. out))))))

    pub renames : (olddir : ℕ) (oldname : List ℕ) (newdir : ℕ) (newname : List ℕ) (flags : ℕ) →
        Q (begin (rename olddir oldname newdir newname flags))
    renames olddir oldname newdir newname flags =
        begins w _ (λ session. names w oldname _ (names w newname _ (both_files olddir newdir _ (λ files.
        calls (call.Rename files.from oldname files.to newname flags) _ refl refl refl (
        w.gives answer.Done (refl, λ out. out))))))

    pub writes : (plan : Plan) (inode handle offset : ℕ) (bytes : List ℕ) (delayed kill : Bool) (flags : ℕ) →
        OfWrite D (drops_fsetid plan seat kill) →
        Q (begin (write plan seat inode handle offset bytes delayed kill flags))
    writes plan inode handle offset bytes delayed kill flags may =
        begins w _ (λ session. places w offset _ (
        pins w handle inode _ (λ fd.
        let dropped = drops_fsetid plan seat kill in
        drops_if w plan kill _ (
        in_clears D dropped Q plan.capability fd false _ may.1 (
        in_counts D dropped Q (call.WriteAt fd offset bytes (appends delayed flags))
        (λ count. Gives (answer.Wrote count)) refl refl (may.0 fd offset bytes (appends delayed flags)) (λ count.
        w.gives (answer.Wrote count) (refl, λ out. out)))))))

    pub allocates_room : (inode handle mode offset length : ℕ) → Q (begin (fallocate inode handle mode offset length))
    allocates_room inode handle mode offset length =
        begins w _ (λ session. places w offset _ (places w length _ (
        pins w handle inode _ (λ fd.
        calls (call.Allocate fd mode offset length) _ refl refl refl (w.gives answer.Done (refl, λ out. out))))))

    pub seeks : (inode handle offset whence : ℕ) → Q (begin (lseek inode handle offset whence))
    seeks inode handle offset whence =
        begins w _ (λ session.
        pins w handle inode _ (λ fd.
        counts (call.Seek fd (cast_signed w64 offset) whence) _ refl refl refl (λ place.
        w.gives (answer.Offset place) (refl, λ out. out))))

    pub copies : (inode handle offset inode2 handle2 offset2 length flags : ℕ) →
        Q (begin (copyfilerange inode handle offset inode2 handle2 offset2 length flags))
    copies inode handle offset inode2 handle2 offset2 length flags =
        begins w _ (λ session. places w offset _ (places w offset2 _ (places w length _ (
        pins w handle inode _ (λ from.
        pins w handle2 inode2 _ (λ to.
        counts (call.CopyRange from offset to offset2 length flags) _ refl refl refl (λ count.
        w.gives (answer.Wrote count) (refl, λ out. out))))))))

    pub flushes : (inode handle : ℕ) → Q (begin (flush inode handle))
    flushes inode handle =
        begins w _ (λ session.
        pins w handle inode _ (λ fd.
        calls (call.Flush fd) _ refl refl refl (w.gives answer.Done (refl, λ out. out))))

    pub syncs : (inode handle : ℕ) (datasync : Bool) → Q (begin (fsync inode handle datasync))
    syncs inode handle datasync =
        begins w _ (λ session.
        pins w handle inode _ (λ fd.
        calls (call.Sync fd datasync) _ refl refl refl (w.gives answer.Done (refl, λ out. out))))

    pub syncs_all : (plan : Plan) (inode : ℕ) → OfOpening D false → Q (begin (syncfs plan inode))
    syncs_all plan inode may =
        begins w _ (λ session.
        opens_inode w plan session inode o_nofollow _ may (λ fd.
        calls (call.SyncFs fd) _ refl refl refl (w.gives answer.Done (refl, λ out. out))))
