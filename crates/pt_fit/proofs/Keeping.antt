-- A handle that a request inserted is the one that it is answered with.
use Rattle.std.proofs.Common.{◌≡◌, inl, inr, ◌∷◌, ◌∙◌, [], if◌then◌else◌, ℕ, Bool, List, None, Option, Some}
use Rattle.std.proofs.Common.{Err, Ok, Result, ap, arith, false, refl, true}
use Rattle.std.specs.Int.{w64, cast_signed}
use Rattle.std.specs.List.{list_any}
use Rattle.std.specs.Prelude.{◌||◌, ◌==◌, ◌^◌, nat_lt}
use Rattle.pt_host.specs.Call.{Call}
use Rattle.pt_host.specs.Errno.{eio, einval, enosys, eopnotsupp, eoverflow, eperm, eproto, errno_of, estale}
use Rattle.pt_host.specs.Flags.{o_directory}
use Rattle.pt_host.specs.declared.edit.Edit.{Edit}
use Rattle.pt_host.specs.declared.flags.OpenFlags.{OpenFlags}
use Rattle.pt_host.specs.declared.ids.Errno.{Errno}
use Rattle.pt_host.specs.declared.ids.Fd.{Fd}
use Rattle.pt_host.specs.declared.ids.ObjIds.{ObjIds}
use Rattle.pt_host.specs.declared.op.KeptHostOp.TheVariants as call
use Rattle.pt_host.specs.declared.reply.HostReply.TheVariants as host
use Rattle.pt_host.specs.declared.seat.HostSeat.{HostSeat}
use Rattle.pt_creds.specs.Identity.{Credentials, override_cap}
use Rattle.pt_creds.specs.Steps.{cred_steps}
use Rattle.pt_creds.specs.declared.credentials.CredSteps.{CredSteps}
use Rattle.pt_maps.specs.MappedNames.{client_name}
use Rattle.pt_maps.specs.declared.xattr_map.AppliedRule.{AppliedRule}
use Rattle.pt_maps.specs.declared.xattr_map.AppliedRule.TheVariants as applied
use Rattle.pt_maps.specs.declared.xattr_rule.XattrRule.{XattrRule}
use Rattle.pt_tables.specs.Tables.{nothing_agreed}
use Rattle.pt_tables.specs.declared.event.KeptEvent.TheVariants as change
use Rattle.pt_tables.specs.declared.form.Negotiated.{Negotiated}
use Rattle.pt_iface.specs.declared.answer.Answer.{Answer}
use Rattle.pt_iface.specs.declared.answer.Answer.TheVariants as answer
use Rattle.pt_iface.specs.declared.answer.GetxattrReply.TheVariants as xattr
use Rattle.pt_iface.specs.declared.answer.ListxattrReply.TheVariants as xattrs
use Rattle.pt_iface.specs.declared.directory.DirEntry.{DirEntry}
use Rattle.pt_iface.specs.declared.entry.Entry.{Entry}
use Rattle.pt_iface.specs.declared.flags.SetattrValid.{SetattrValid}
use Rattle.pt_iface.specs.declared.request.Context.{Context}
use Rattle.pt_iface.specs.declared.request.Request.{Request}
use Rattle.pt_iface.specs.declared.request.Request.TheVariants as request
use Rattle.pt_iface.specs.declared.request.SecContext.{SecContext}
use Rattle.pt_iface.specs.declared.request.SetattrIn.{SetattrIn}
use Rattle.pt_frame.specs.Deed.{Calls, Changes, Deed, Step}
use Rattle.pt_frame.specs.Edit.{edit_answer, edit_grammar}
use Rattle.pt_frame.specs.Grammar.{Belongs}
use Rattle.pt_frame.specs.Replies.{bytes_of}
use Rattle.pt_frame.specs.Tree.{Bares, Gives, RequestTree, Shuts, make_bytes, on}
use Rattle.pt_frame.specs.declared.act.ActReply.{ActReply}
use Rattle.pt_frame.specs.declared.act.ActReply.TheVariants.{Host}
use Rattle.pt_frame.specs.declared.finish.Finish.TheVariants as finish
use Rattle.pt_frame.specs.declared.hold.Hold.TheVariants as hold
use Rattle.pt_req.specs.Asker.{as_asker, asker_of, cap_raised, egid_set, euid_set, group_set, taken_on}
use Rattle.pt_req.specs.Asker.{umask_of, under_umask}
use Rattle.pt_req.specs.Attributes.{Label, by_rule, by_rules, host_label, host_name, is_blocked}
use Rattle.pt_req.specs.Capability.{drops_fsetid}
use Rattle.pt_req.specs.Entries.{attr_of, can_open}
use Rattle.pt_req.specs.Options.{agreed_with, create_options, init_options, is_short_of, making_flags}
use Rattle.pt_req.specs.Options.{o_nofollow, open_options, with_bits}
use Rattle.pt_req.specs.Parts.{by_path, file_of, open_inode}
use Rattle.pt_req.specs.Requests.{batch_forget, init_answer, open_file, release, unserved}
use Rattle.pt_req.specs.Steps.{begin, made_in, make_at, ok_in, or_refused, pin_handle, pinned_in, refused_in}
use Rattle.pt_req.specs.Steps.{session_of, tried_in}
use Rattle.pt_tables.specs.declared.reply.Resolved.{Resolved}
use Rattle.pt_req.specs.declared.begun.BegunSession.{BegunSession}
use Rattle.pt_req.specs.declared.replies.Made.{Made}
use Rattle.pt_req.specs.declared.replies.Made.TheVariants.{New, Old}
use Rattle.pt_req.specs.declared.plan.Plan.{Plan}
use Rattle.pt_req.proofs.Replying.{if_bytes}
use Rattle.pt_req.proofs.Replying.{if_made, if_refused, if_pinned, if_set, if_tried}
use Rattle.pt_job.specs.Pattern.{Asked, Edits, Requests, grammar_for, tree_of}
use Rattle.pt_attr.specs.declared.parts.creating.NamedHandle.{NamedHandle}
use Rattle.pt_attr.specs.Creating.{FileAsked, are_same, if_same, labelled, labelled_by, made_file, make_file}
use Rattle.pt_attr.specs.Creating.{named_handle, new_file, old_file, takes_old, undone, create, file_asked}
use Rattle.pt_attr.specs.Access.{is_granted}
use Rattle.pt_attr.specs.Contents.{appends, fsync}
use Rattle.pt_attr.specs.Making.{ObjectAsked, is_nul, kept_at, label_at, labelled_at, make_object, set_opened}
use Rattle.pt_attr.specs.Making.{targeted}
use Rattle.pt_attr.specs.Setting.{atime_set, do_if, file_set, is_missized, mtime_set, opens_anew, own_as, set_owner}
use Rattle.pt_attr.specs.Setting.{setting_flags, sets_atime, sets_gid, sets_mode, sets_mtime, sets_size, sets_uid}
use Rattle.pt_attr.specs.Setting.{cut_if, kills_suidgid, own_if, set_size, sized, target_as, target_of}
use Rattle.pt_attr.specs.Steps.{count_in, count_of, make, opened_in}
use Rattle.pt_attr.specs.declared.parts.setting.Target.{Target}
use Rattle.pt_attr.proofs.Replying.{if_count, if_fs_stat, if_opened}
use Rattle.pt_xattr.specs.Listed.{entries_of, names_told}
use Rattle.pt_xattr.specs.Parts.{allowed, allowed_to_read, as_missing, file_by, kills_sgid, list_length, list_told}
use Rattle.pt_xattr.specs.Parts.{list_whole, nul_free, sgid_killed, value_length, value_told, value_whole, with_xattr}
use Rattle.pt_xattr.specs.Parts.{without_sgid, xattr_file}
use Rattle.pt_xattr.specs.Requests.{listed_from, listing, readdir}
use Rattle.pt_xattr.specs.Steps.{bytes_told}
use Rattle.pt_xattr.specs.declared.parts.XattrFile.{XattrFile}
use Rattle.pt_job.specs.Requests.{object_asked}
use Rattle.pt_law.specs.Branch.{AreOwn, AreOwn.{keep, none, skip}, ReturnsHold}
use Rattle.pt_law.specs.Ledger.{handle_inserted_as, weighed}
use Rattle.pt_law.specs.Told.{AllMayBeTold}
use Rattle.pt_law.proofs.Branches.{branch}
use Rattle.pt_fit.specs.Handled.{KeepsHandle, handle_count, handles_in}
use Rattle.pt_fit.proofs.HandleParts.{Hands, Yields, P, asks, bares, begins, both_files, brackets, checks, clears}
use Rattle.pt_fit.proofs.HandleParts.{clears_capability}
use Rattle.pt_fit.proofs.HandleParts.{decides, does, dones, files, gets_handle, gives, hands, looks_up, one_file}
use Rattle.pt_fit.proofs.HandleParts.{opens_inode, opens_num, opens_shared, refuses, refuses_so, resolves}
use Rattle.pt_fit.proofs.HandleParts.{names, opens_row, places, sets_on, shuts, stats, step_none, without}
use Rattle.pt_fit.proofs.ObjectKinds.{Kind, Directory, Link, Node, make_kind, make_named, making_call, targeted_as}
use Rattle.pt_fit.proofs.ObjectKinds.{unmaking_call}

files_set : (handle : Option ℕ) (valid : SetattrValid) (row : Resolved) (next : Fd → RequestTree) →
    ((fd : Fd) → Yields (next fd)) → Yields (file_set handle valid row next)
unfolding file_set
files_set handle valid row next so =
    checks (opens_anew handle valid) _ _ (opens_row row setting_flags next so) (files row.form next so)

targets : (inode : ℕ) (handle : Option ℕ) (file : Fd) (next : Target → RequestTree) →
    ((target : Target) → Yields (next target)) → Yields (target_of inode handle file next)
unfolding target_of
targets inode (Some handle) file next so =
    asks (Changes (change.PinHandle handle inode)) _ (λ h told. refl)
    (if_pinned P _ refuses (λ row fd. so (target_as fd false)))
targets inode None file next so = so (target_as file true)

does_if : (is : Bool) (asked : Call) (next : RequestTree) → Yields next → Yields (do_if is asked next)
does_if true asked next so = does asked next so
does_if false asked next so = so

owns : (name : Option (List ℕ)) (file : Fd) (uid gid : Option ℕ) (next : RequestTree) → Yields next →
    Yields (own_as name file uid gid next)
owns name file (Some uid) (Some gid) next so =
    clears_capability name file true _ (does (call.ChOwn file uid gid) next so)
owns name file (Some uid) None next so = refuses_so eperm
owns name file None gid next so = refuses_so eperm

owns_if : (is : Bool) (name : Option (List ℕ)) (file : Fd) (uid gid : Option ℕ) (next : RequestTree) → Yields next →
    Yields (own_if is name file uid gid next)
owns_if true name file uid gid next so = owns name file uid gid next so
owns_if false name file uid gid next so = so

sets_owner : (plan : Plan) (valid : SetattrValid) (attr : SetattrIn) (file : Fd) (next : RequestTree) → Yields next →
    Yields (set_owner plan valid attr file next)
sets_owner plan valid attr file next so =
    owns_if (sets_uid valid || sets_gid valid) plan.capability file _ _ next so

cuts : (is drops : Bool) (name : Option (List ℕ)) (file : Fd) (size : ℕ) (next : RequestTree) → Yields next →
    Yields (cut_if is drops name file size next)
cuts true drops name file size next so =
    without drops _ (clears_capability name file false _ (does (call.Truncate file size) _ (bares next so)))
cuts false drops name file size next so = so

sizes : (plan : Plan) (seat : HostSeat) (valid : SetattrValid) (attr : SetattrIn) (target : Target)
    (next : RequestTree) → Yields next → Yields (set_size plan seat valid attr target next)
sizes plan seat valid attr target next so =
    cuts (sets_size valid) (drops_fsetid plan seat (kills_suidgid valid)) plan.capability target.fd attr.size next so

sizes_well : (valid : SetattrValid) (attr : SetattrIn) (next : RequestTree) → Yields next →
    Yields (sized valid attr next)
unfolding sized
sizes_well valid attr next so =
    checks (is_missized valid attr) (Gives (answer.Refused einval)) next (refuses_so einval) so

opens_it : (plan : Plan) (seat : HostSeat) (inode : ℕ) (kill : Bool) (flags : ℕ) →
    Yields (begin (open_file plan seat inode kill flags))
opens_it plan seat inode kill flags =
    begins _ (λ session.
    opens_num plan seat session inode kill flags _ (λ handle.
    hands handle (answer.Opened handle (open_options plan.config flags)) (λ h. refl)))

raises : (raise : Bool) (next : RequestTree) → Yields next → Yields (cap_raised raise next)
raises false next so = so
raises true next so =
    asks (Calls (call.RaiseCap override_cap)) (on tried_in (λ done. next)) (λ h told. refl)
    (if_tried P next refuses (λ told. so))

sets_euid : (euid : Option ℕ) (next : RequestTree) → Yields next → Yields (euid_set euid next)
sets_euid None next so = so
sets_euid (Some uid) next so = sets_on (call.SetEuid uid) hold.EffectiveUid next so

sets_egid : (egid : Option ℕ) (next : RequestTree) → Yields next → Yields (egid_set egid next)
sets_egid None next so = so
sets_egid (Some gid) next so = sets_on (call.SetEgid gid) hold.EffectiveGid next so

sets_group : (groups : Option ℕ) (next : RequestTree) → Yields next → Yields (group_set groups next)
sets_group None next so = so
sets_group (Some group) next so = sets_on (call.SetGroups (group ∷ [])) hold.Groups next so

takes_on : (steps : CredSteps) (next : RequestTree) → Yields next → Yields (taken_on steps next)
takes_on steps next so =
    let raised : RequestTree = cap_raised steps.raise next in
    let under_uid : RequestTree = euid_set steps.euid raised in
    sets_group steps.groups (egid_set steps.egid under_uid)
    (sets_egid steps.egid under_uid (sets_euid steps.euid raised (raises steps.raise next so)))

sets_umask : (umask : Option ℕ) (next : RequestTree) → Yields next → Yields (under_umask umask next)
sets_umask None next so = so
sets_umask (Some mask) next so = sets_on (call.SetUmask mask) hold.Umask next so

makes : (seat : HostSeat) (asker : Option Credentials) (umask : Option ℕ) (dir : Fd) (name : List ℕ)
    (flags : OpenFlags) (mode : ℕ) (may_be : Bool) (next : Made → RequestTree) →
    ((fd : Fd) → Yields (next (New fd))) → Yields (next Old) →
    Yields (as_asker seat asker (under_umask umask (make_at dir name flags mode may_be next)))
makes seat None umask dir name flags mode may_be next so other = refuses_so eperm
makes seat (Some creds) umask dir name flags mode may_be next so other =
    takes_on (cred_steps creds seat) (under_umask umask (make_at dir name flags mode may_be next)) (
    sets_umask umask (make_at dir name flags mode may_be next) (
    asks (Calls (call.OpenAt dir name flags mode)) (λ told. Bares (on (made_in may_be) next told)) (λ h told. refl)
    (λ told. bares _ (if_made P next may_be refuses so (λ errno. other) (λ errno. other) told))))

abbrev answers : Plan → NamedHandle → RequestTree
answers plan named = Gives (answer.Created named.entry named.handle (create_options plan.config))

made_so : (plan : Plan) (entry : Entry) (handle : ℕ) → Hands handle (answers plan (named_handle entry handle))
made_so plan entry handle = hands handle (answer.Created entry handle (create_options plan.config)) (λ h. refl)

-- what is answered behind the call that undoes a making
undoes : (undoing : Call) (last : Answer) → ((handle : ℕ) → handle_count handle last ≡ 0) →
    Yields (undone undoing last)
undoes undoing last without =
    asks (Calls undoing) (on tried_in (λ done. Gives last)) (λ h told. refl)
    (if_tried P (Gives last) refuses (λ told. gives last without))

label_sets : (fd : Fd) (undoing : Call) (value : List ℕ) (name : Result (List ℕ) Errno) (next : RequestTree) →
    Yields next → Yields (labelled_by fd undoing value name next)
label_sets fd undoing value (Err errno) next so = undoes undoing (answer.Refused errno) (λ h. refl)
label_sets fd undoing value (Ok name) next so =
    asks (Calls (call.SetXattr fd false name value 0)) (on refused_in (or_refused (undone undoing) next))
    (λ h told. refl)
    (if_refused P (or_refused (undone undoing) next) refuses (λ told. so)
    (λ errno. undoes undoing (answer.Refused errno) (λ h. refl))
    (λ errno. undoes undoing (answer.Refused errno) (λ h. refl))
    (undoes undoing answer.NoMemory (λ h. refl)) (undoes undoing answer.NoMemory (λ h. refl)))

labels : (fd : Fd) (undoing : Call) (label : Option Label) (next : RequestTree) → Yields next →
    Yields (labelled fd undoing label next)
labels fd undoing None next so = so
labels fd undoing (Some label) next so = label_sets fd undoing label.value label.name next so

-- a context, by the host's name
makes_bytes : (made : List ℕ) (next : List ℕ → RequestTree) → Yields (next made) → Yields (make_bytes made next)
makes_bytes made next so = record { on = so.on; up = so.up }

label_by_rule : (fate : Option AppliedRule) (next : Result (List ℕ) Errno → RequestTree) →
    ((name : Result (List ℕ) Errno) → Yields (next name)) → Yields (by_rule fate next)
label_by_rule (Some (applied.Pass made)) next so = makes_bytes made (λ kept. next (Ok kept)) (so (Ok made))
label_by_rule (Some applied.Deny) next so = so (Err eperm)
label_by_rule (Some applied.Unsupported) next so = so (Err eopnotsupp)
label_by_rule None next so = so (Err eopnotsupp)

label_by_rules : (rules : Option (List XattrRule)) (name : List ℕ) (next : Result (List ℕ) Errno → RequestTree) →
    ((name : Result (List ℕ) Errno) → Yields (next name)) → Yields (by_rules rules name next)
label_by_rules None name next so = so (Ok name)
label_by_rules (Some rules) name next so = label_by_rule (client_name rules name) next so

names_host : (plan : Plan) (agreed : Negotiated) (name : List ℕ) (next : Result (List ℕ) Errno → RequestTree) →
    ((name : Result (List ℕ) Errno) → Yields (next name)) → Yields (host_name plan agreed name next)
unfolding host_name
names_host plan agreed name next so =
    checks (is_blocked agreed name) _ _ (so (Err eopnotsupp)) (label_by_rules plan.config.xattrmap name next so)

hosts_label : (plan : Plan) (agreed : Negotiated) (brought : Option SecContext) (next : Option Label → RequestTree) →
    ((label : Option Label) → Yields (next label)) → Yields (host_label plan agreed brought next)
hosts_label plan agreed None next so = so None
hosts_label plan agreed (Some label) next so = names_host plan agreed label.name _ (λ name. so _)

same : (is_same : Bool) (next : RequestTree) → Yields next →
    Yields (if is_same then next else Gives (answer.Refused estale))
same true next so = so
same false next so = refuses_so estale

sames : (made found : ObjIds) (next : RequestTree) → Yields next → Yields (if_same made found next)
unfolding if_same
sames made found next so = same (are_same made found) next so

makes_new : (plan : Plan) (session : BegunSession) (asked : FileAsked) (label : Option Label) (dir fd : Fd) →
    Yields (new_file plan session asked label dir fd (answers plan))
unfolding new_file
makes_new plan session asked label dir fd =
    stats fd _ (λ made.
    labels fd (call.Unlink dir asked.name) label _ (
    looks_up plan session asked.parent asked.name _ (λ looked.
    sames made.ids looked.ids _ (
    gets_handle session looked.entry.inode fd (λ handle. answers plan (named_handle looked.entry handle))
    (made_so plan looked.entry)))))

takes_old_one : (plan : Plan) (seat : HostSeat) (session : BegunSession) (asked : FileAsked) →
    Yields (old_file plan seat session asked (answers plan))
unfolding old_file
takes_old_one plan seat session asked =
    looks_up plan session asked.parent asked.name _ (λ looked.
    opens_num plan seat session looked.entry.inode asked.kill asked.flags _ (made_so plan looked.entry))

makes_file : (plan : Plan) (seat : HostSeat) (session : BegunSession) (asked : FileAsked) (label : Option Label)
    (dir : Fd) → Yields (make_file plan seat session asked label dir (answers plan))
unfolding make_file
makes_file plan seat session asked label dir =
    makes seat (asker_of plan session asked.who asked.ext.sup_gid) (umask_of session (Some asked.umask)) dir asked.name
    (making_flags asked.flags) asked.mode (takes_old asked.flags)
    (λ made. made_file plan seat session asked label dir made (answers plan))
    (makes_new plan session asked label dir) (takes_old_one plan seat session asked)

creates_it : (plan : Plan) (seat : HostSeat) (asked : FileAsked) → Yields (begin (create plan seat asked))
creates_it plan seat asked =
    begins _ (λ session.
    names asked.name _ (
    resolves asked.parent _ (λ directory.
    hosts_label plan session.agreed asked.ext.secctx _ (λ label.
    files directory.form _ (λ dir. makes_file plan seat session asked label dir)))))

-- an object under a name, which gets its context by a descriptor of its own
module _ (undoing : Call) (next : RequestTree) (so : Yields next) where
  abbrev shut : Option Answer → RequestTree
  shut refused = Shuts false (or_refused (undone undoing) next refused)

  shut_refused : (errno : Errno) → Yields (Shuts false (undone undoing (answer.Refused errno)))
  shut_refused errno = shuts false _ (undoes undoing (answer.Refused errno) (λ h. refl))

  shut_out : Yields (Shuts false (undone undoing answer.NoMemory))
  shut_out = shuts false _ (undoes undoing answer.NoMemory (λ h. refl))

  keeps_at : (dir : Fd) (name attribute value : List ℕ) → Yields (kept_at dir name undoing attribute value next)
  keeps_at dir name attribute value =
      let opened : Result Fd Answer → RequestTree = λ told. set_opened attribute value told shut in
      brackets _ (
      asks (Calls (call.OpenAt dir name by_path 0)) (on opened_in opened) (λ h told. refl)
      (if_opened P opened refuses (λ fd.
      asks (Calls (call.SetXattr fd true attribute value 0)) (on refused_in shut) (λ h told. refl)
      (if_refused P shut refuses (λ told. shuts false _ so) shut_refused shut_refused shut_out shut_out))
      shut_refused shut_refused shut_out shut_out))

  label_sets_at : (dir : Fd) (name value : List ℕ) (attribute : Result (List ℕ) Errno) →
      Yields (label_at dir name undoing value attribute next)
  label_sets_at dir name value (Err errno) = undoes undoing (answer.Refused errno) (λ h. refl)
  label_sets_at dir name value (Ok attribute) = keeps_at dir name attribute value

  labels_at : (dir : Fd) (name : List ℕ) (label : Option Label) → Yields (labelled_at dir name undoing label next)
  labels_at dir name None = so
  labels_at dir name (Some label) = label_sets_at dir name label.value label.name

makes_object : (seat : HostSeat) (asker : Option Credentials) (umask : Option ℕ) (making : Call) (next : RequestTree) →
    Yields next → Yields (as_asker seat asker (under_umask umask (make making next)))
makes_object seat None umask making next so = refuses_so eperm
makes_object seat (Some creds) umask making next so =
    takes_on (cred_steps creds seat) (under_umask umask (make making next)) (
    sets_umask umask (make making next) (
    asks (Calls making) (λ told. Bares (on ok_in (λ done. next) told)) (λ h told. refl)
    (λ told. bares _ (if_set P next refuses (λ got. so) told))))

makes_kind : (plan : Plan) (seat : HostSeat) (session : BegunSession) (object : ObjectAsked) (kind : Kind)
    (label : Option Label) (dir : Fd) → Yields (make_kind plan seat session object kind label dir)
unfolding make_object
makes_kind plan seat session object kind label dir =
    makes_object seat (asker_of plan session object.who object.ext.sup_gid) (umask_of session object.umask)
    (making_call kind dir object.name) _ (
    labels_at (unmaking_call kind dir object.name) _ (
    looks_up plan session object.parent object.name _ (λ looked.
    gives (answer.Entry looked.entry) (λ h. refl))) dir object.name label)

targeted_well : (kind : Kind) (next : RequestTree) → Yields next → Yields (targeted_as kind next)
unfolding targeted
targeted_well (Directory mode) next so = so
targeted_well (Node mode rdev) next so = so
targeted_well (Link target) next so =
    checks (list_any is_nul target) (Gives (answer.Refused einval)) next (refuses_so einval) so

makes_named : (plan : Plan) (seat : HostSeat) (object : ObjectAsked) (kind : Kind) →
    Yields (begin (make_named plan seat object kind))
makes_named plan seat object kind =
    begins _ (λ session.
    names object.name _ (
    targeted_well kind _ (
    resolves object.parent _ (λ row.
    hosts_label plan session.agreed object.ext.secctx _ (λ label.
    files row.form _ (λ dir. makes_kind plan seat session object kind label dir))))))

pins : (handle number : ℕ) (next : Fd → RequestTree) → ((fd : Fd) → Yields (next fd)) →
    Yields (pin_handle handle number next)
pins handle number next so =
    asks (Changes (change.PinHandle handle number)) (on pinned_in next) (λ h told. refl)
    (if_pinned P next refuses (λ row fd. so fd))

counts : (asked : Call) (next : ℕ → RequestTree) → ((count : ℕ) → Yields (next count)) → Yields (count_of asked next)
counts asked next so = asks (Calls asked) (on count_in next) (λ h told. refl) (if_count P next refuses so)

syncs : (inode handle : ℕ) (datasync : Bool) → Yields (begin (fsync inode handle datasync))
syncs inode handle datasync =
    begins _ (λ session. pins handle inode _ (λ fd. does (call.Sync fd datasync) _ (gives answer.Done (λ h. refl))))

forgets : (list : List (ℕ × ℕ)) → Yields (begin (batch_forget list))
forgets list = begins _ (λ session.
    dones (Changes (change.Forget list)) _ (λ h told. refl) (gives answer.NoReply (λ h. refl)))

releases : (inode handle : ℕ) → Yields (begin (release inode handle))
releases inode handle = begins _ (λ session.
    dones (Changes (change.Release handle inode)) _ (λ h told. refl) (gives answer.Done (λ h. refl)))

unserves : Yields (begin unserved)
unserves = begins _ (λ session. refuses_so (errno_of 38))

-- names of extended attributes, and what these are asked by
guest_has : (plan : Plan) (next : RequestTree) → Yields next → Yields (with_xattr plan next)
unfolding with_xattr
guest_has plan next so = checks plan.config.xattr next (Gives (answer.Refused enosys)) so (refuses_so enosys)

nul_frees : (name : List ℕ) (next : RequestTree) → Yields next → Yields (nul_free name next)
unfolding nul_free
nul_frees name next so =
    checks (list_any (λ byte. byte == 0) name) (Gives (answer.Refused einval)) next (refuses_so einval) so

allows : (name : Result (List ℕ) Errno) (next : List ℕ → RequestTree) → ((named : List ℕ) → Yields (next named)) →
    Yields (allowed name next)
unfolding allowed
allows (Ok name) next so = so name
allows (Err errno) next so = refuses_so errno

allows_to_read : (name : Result (List ℕ) Errno) (next : List ℕ → RequestTree) →
    ((named : List ℕ) → Yields (next named)) → Yields (allowed_to_read name next)
unfolding allowed_to_read
allows_to_read (Ok name) next so = so name
allows_to_read (Err errno) next so = refuses_so (as_missing errno)

opens_file : (plan : Plan) (session : BegunSession) (row : Resolved) (number : ℕ) (next : XattrFile → RequestTree) →
    ((file : XattrFile) → Yields (next file)) → Yields (xattr_file plan session row number next)
unfolding xattr_file
opens_file plan session row number next so =
    checks (can_open row.mode) (open_inode plan session number 2048 (λ fd. next (file_by false fd)))
    (file_of row.form (λ fd. next (file_by true fd)))
    (opens_inode plan session number 2048 _ (λ fd. so (file_by false fd)))
    (files row.form _ (λ fd. so (file_by true fd)))

kills : (is : Bool) (file : XattrFile) (next : RequestTree) → Yields next → Yields (sgid_killed is file next)
kills false file next so = so
kills true file next so =
    stats file.fd _ (λ told. does (call.ChMod file.fd file.through (without_sgid told.mode)) next so)

tells_bytes : (asked : Call) (next : List ℕ → RequestTree) → ((bytes : List ℕ) → Yields (next bytes)) →
    Yields (bytes_told asked next)
tells_bytes asked next so = asks (Calls asked) (on bytes_of next) (λ h told. refl) (if_bytes P next refuses so)

tells_count : (fits : Bool) (last : Answer) → ((handle : ℕ) → handle_count handle last ≡ 0) →
    Yields (Gives (if fits then last else answer.Refused eoverflow))
tells_count true last empty = gives last empty
tells_count false last empty = refuses_so eoverflow

tells_value : (file : XattrFile) (name : List ℕ) (size : ℕ) → Yields (value_told file name size)
unfolding value_told
tells_value file name size =
    checks (size == 0) (value_length file name size) (value_whole file name size)
    (counts (call.GetXattr file.fd file.through name size) _ (λ count.
    tells_count (nat_lt count (2 ^ 32)) (answer.Xattr (xattr.Count count)) (λ h. refl)))
    (tells_bytes (call.GetXattr file.fd file.through name size) _ (λ value.
    gives (answer.Xattr (xattr.Value value)) (λ h. refl)))

tells_list : (plan : Plan) (agreed : Negotiated) (file : XattrFile) (size : ℕ) →
    Yields (list_told plan agreed file size)
unfolding list_told
tells_list plan agreed file size =
    checks (size == 0) (list_length file size) (list_whole plan agreed file size)
    (counts (call.ListXattr file.fd file.through size) _ (λ count.
    tells_count (nat_lt count (2 ^ 32)) (answer.Xattrs (xattrs.Count count)) (λ h. refl)))
    (tells_bytes (call.ListXattr file.fd file.through size) _ (λ list.
    makes_bytes (names_told plan agreed list) _ (
    gives (answer.Xattrs (xattrs.Names (names_told plan agreed list))) (λ h. refl))))

lists : (entries : Option (List DirEntry)) → Yields (listing entries)
lists None = refuses_so eio
lists (Some entries) =
    let told : Yields (Gives (answer.Listing entries)) = gives (answer.Listing entries) (λ h. refl) in
    record { on = told.on; up = told.up }

reads_dir : (none : Bool) (inode handle size offset : ℕ) →
    Yields (if none then Gives (answer.Listing []) else listed_from inode handle size offset)
reads_dir true inode handle size offset = gives (answer.Listing []) (λ h. refl)
reads_dir false inode handle size offset =
    places offset _ (
    pins handle inode _ (λ fd.
    tells_bytes (call.ListAt fd (Some offset) size) _ (λ bytes. lists (entries_of bytes))))

reads_directory : (inode handle size offset : ℕ) → Yields (begin (readdir inode handle size offset))
unfolding readdir
reads_directory inode handle size offset = begins _ (λ session. reads_dir (size == 0) inode handle size offset)

each_keeps : (plan : Plan) (seat : HostSeat) (who : Context) (asked : Request) → Yields (tree_of plan seat who asked)
each_keeps plan seat who (request.Init capable) =
    clears _ (λ era.
    opens_shared plan (session_of era nothing_agreed) (Some (agreed_with plan.config capable)) _ (
    gives (init_answer plan.config capable) (answers_none (is_short_of plan.config capable))))
  where
    answers_none : (short : Bool) (handle : ℕ) → handle_count handle
        (if short then answer.Refused eproto else answer.Inited (init_options plan.config capable)) ≡ 0
    answers_none true handle = refl
    answers_none false handle = refl
each_keeps plan seat who request.Destroy = clears _ (λ era. gives answer.NoReply (λ h. refl))
each_keeps plan seat who request.Root =
    begins _ (λ session. opens_shared plan session None _ (gives answer.Done (λ h. refl)))
each_keeps plan seat who (request.Lookup parent name) =
    begins _ (λ session.
    names name _ (
    looks_up plan session parent name _ (λ looked. gives (answer.Entry looked.entry) (λ h. refl))))
each_keeps plan seat who (request.Forget inode count) = forgets ((inode, count) ∷ [])
each_keeps plan seat who (request.BatchForget list) = forgets list
each_keeps plan seat who (request.Open inode kill flags) = opens_it plan seat inode kill flags
each_keeps plan seat who (request.OpenDir inode flags) =
    opens_it plan seat inode false (with_bits flags o_directory)
each_keeps plan seat who (request.Release inode handle) = releases inode handle
each_keeps plan seat who (request.ReleaseDir inode handle) = releases inode handle
each_keeps plan seat who (request.Read inode handle size offset) =
    begins _ (λ session.
    places offset _ (
    asks (Changes (change.PinHandle handle inode)) _ (λ h told. refl) (if_pinned P _ refuses (λ row fd.
    asks (Calls (call.ReadAt fd offset size)) _ (λ h told. refl) (if_bytes P _ refuses (λ bytes.
    gives (answer.Read bytes) (λ h. refl)))))))
each_keeps plan seat who (request.Create parent name mode kill flags umask ext) =
    creates_it plan seat (file_asked who parent name mode kill flags umask ext)
each_keeps plan seat who (request.Mkdir parent name mode umask ext) =
    makes_named plan seat (object_asked who parent name (Some umask) ext) (Directory mode)
each_keeps plan seat who (request.Mknod parent name mode rdev umask ext) =
    makes_named plan seat (object_asked who parent name (Some umask) ext) (Node mode rdev)
each_keeps plan seat who (request.Symlink target parent name ext) =
    makes_named plan seat (object_asked who parent name None ext) (Link target)
each_keeps plan seat who (request.Readlink inode) =
    begins _ (λ session.
    one_file inode _ (λ fd.
    asks (Calls (call.ReadLink fd)) _ (λ h told. refl) (if_bytes P _ refuses (λ target.
    gives (answer.Link target) (λ h. refl)))))
each_keeps plan seat who (request.StatFs inode) =
    begins _ (λ session.
    one_file inode _ (λ fd.
    asks (Calls (call.StatFs fd)) _ (λ h told. refl) (if_fs_stat P _ refuses (λ told.
    gives (answer.FsStat told) (λ h. refl)))))
each_keeps plan seat who (request.GetAttr inode) =
    begins _ (λ session.
    one_file inode _ (λ fd.
    stats fd _ (λ told.
    gives (answer.Attr (attr_of plan told 0) plan.config.attr_timeout) (λ h. refl))))
each_keeps plan seat who (request.Access inode mask) =
    begins _ (λ session.
    one_file inode _ (λ fd.
    stats fd _ (λ told. decides (is_granted who mask (attr_of plan told 0)))))
each_keeps plan seat who (request.Unlink parent name) =
    begins _ (λ session.
    names name _ (
    one_file parent _ (λ dir. does (call.Unlink dir name) _ (gives answer.Done (λ h. refl)))))
each_keeps plan seat who (request.Rmdir parent name) =
    begins _ (λ session.
    names name _ (
    one_file parent _ (λ dir. does (call.RemoveDir dir name) _ (gives answer.Done (λ h. refl)))))
each_keeps plan seat who (request.Link inode newparent newname) =
    begins _ (λ session.
    names newname _ (
    both_files inode newparent _ (λ both.
    does (call.MakeLink both.from both.to newname) _ (
    looks_up plan session newparent newname _ (λ looked. gives (answer.Entry looked.entry) (λ h. refl))))))
each_keeps plan seat who (request.Rename olddir oldname newdir newname flags) =
    begins _ (λ session.
    names oldname _ (
    names newname _ (
    both_files olddir newdir _ (λ both.
    does (call.Rename both.from oldname both.to newname flags) _ (gives answer.Done (λ h. refl))))))
each_keeps plan seat who (request.SetAttr inode handle valid attr) =
    begins _ (λ session.
    sizes_well valid attr _ (
    resolves inode _ (λ row.
    files_set handle valid row _ (λ file.
    targets inode handle file _ (λ target.
    does_if (sets_mode valid) (call.ChMod target.fd target.through attr.mode) _ (
    sets_owner plan valid attr file _ (
    sizes plan seat valid attr target _ (
    does_if (sets_atime valid || sets_mtime valid)
    (call.SetTimes target.fd target.through (atime_set valid attr) (mtime_set valid attr)) _ (
    one_file inode _ (λ fd.
    stats fd _ (λ told.
    gives (answer.Attr (attr_of plan told 0) plan.config.attr_timeout) (λ h. refl))))))))))))
each_keeps plan seat who (request.Write inode handle offset bytes delayed kill flags) =
    begins _ (λ session.
    places offset _ (
    pins handle inode _ (λ fd.
    without (drops_fsetid plan seat kill) _ (
    clears_capability plan.capability fd false _ (
    counts (call.WriteAt fd offset bytes (appends delayed flags)) _ (λ count.
    bares _ (gives (answer.Wrote count) (λ h. refl))))))))
each_keeps plan seat who (request.Fallocate inode handle mode offset length) =
    begins _ (λ session.
    places offset _ (
    places length _ (
    pins handle inode _ (λ fd.
    does (call.Allocate fd mode offset length) _ (gives answer.Done (λ h. refl))))))
each_keeps plan seat who (request.Lseek inode handle offset whence) =
    begins _ (λ session.
    pins handle inode _ (λ fd.
    counts (call.Seek fd (cast_signed w64 offset) whence) _ (λ place. gives (answer.Offset place) (λ h. refl))))
each_keeps plan seat who (request.CopyFileRange inode handle offset inode2 handle2 offset2 length flags) =
    begins _ (λ session.
    places offset _ (
    places offset2 _ (
    places length _ (
    pins handle inode _ (λ from.
    pins handle2 inode2 _ (λ to.
    counts (call.CopyRange from offset to offset2 length flags) _ (λ count.
    gives (answer.Wrote count) (λ h. refl))))))))
each_keeps plan seat who (request.Flush inode handle) =
    begins _ (λ session. pins handle inode _ (λ fd. does (call.Flush fd) _ (gives answer.Done (λ h. refl))))
each_keeps plan seat who (request.Fsync inode handle datasync) = syncs inode handle datasync
each_keeps plan seat who (request.FsyncDir inode handle datasync) = syncs inode handle datasync
each_keeps plan seat who (request.SyncFs inode) =
    begins _ (λ session.
    opens_inode plan session inode o_nofollow _ (λ fd.
    does (call.SyncFs fd) _ (gives answer.Done (λ h. refl))))
each_keeps plan seat who (request.ReadDir inode handle size offset) = reads_directory inode handle size offset
each_keeps plan seat who (request.SetXattr inode name value flags extra) =
    begins _ (λ session.
    guest_has plan _ (
    nul_frees name _ (
    resolves inode _ (λ row.
    names_host plan session.agreed name _ (λ found.
    allows found _ (λ named.
    opens_file plan session row inode _ (λ file.
    clears_capability plan.capability file.fd file.through _ (
    kills (kills_sgid session.agreed extra named) file _ (
    does (call.SetXattr file.fd file.through named value flags) _ (gives answer.Done (λ h. refl)))))))))))
each_keeps plan seat who (request.GetXattr inode name size) =
    begins _ (λ session.
    guest_has plan _ (
    nul_frees name _ (
    names_host plan session.agreed name _ (λ found.
    allows_to_read found _ (λ named.
    resolves inode _ (λ row.
    opens_file plan session row inode _ (λ file. tells_value file named size)))))))
each_keeps plan seat who (request.ListXattr inode size) =
    begins _ (λ session.
    guest_has plan _ (
    resolves inode _ (λ row.
    opens_file plan session row inode _ (λ file. tells_list plan session.agreed file size))))
each_keeps plan seat who (request.RemoveXattr inode name) =
    begins _ (λ session.
    guest_has plan _ (
    nul_frees name _ (
    resolves inode _ (λ row.
    names_host plan session.agreed name _ (λ found.
    allows found _ (λ named.
    opens_file plan session row inode _ (λ file.
    does (call.RemoveXattr file.fd file.through named) _ (gives answer.Done (λ h. refl)))))))))
each_keeps plan seat who (request.Other opcode) = unserves

-- Among all steps of a job.

returns_none : (deed : Option Deed) (told : ActReply) (handle : ℕ) → ReturnsHold deed →
    weighed (handle_inserted_as handle) deed told ≡ 0
returns_none (Some (Changes (change.InsertHandle new))) told handle r = absurd r
returns_none (Some (Changes asked)) told handle r = refl
returns_none (Some (Calls asked)) told handle r = refl
returns_none None told handle r = refl

own_handles : (path steps : List Step) (handle : ℕ) → AreOwn path steps →
    handles_in handle steps ≡ handles_in handle path
own_handles _ _ handle none = refl
own_handles _ _ handle (keep {step = step} {own = own} {all = all} o) =
    let k = own_handles own all handle o in omega (arith, k)
own_handles path _ handle (skip {step = step} {all = all} r o) =
    let k = own_handles path all handle o in
    let z = returns_none step.deed step.reply handle r in
    omega (arith, k, z)

own_told : (path steps : List Step) → AreOwn path steps → AllMayBeTold steps → AllMayBeTold path
own_told _ _ none m = tt
own_told _ _ (keep {own = own} {all = all} o) m = (m.0, own_told own all o m.1)
own_told path _ (skip {all = all} r o) m = own_told path all o m.1

kept : (steps : List Step) (last : Answer) → ((handle : ℕ) → handles_in handle steps ≡ handle_count handle last) →
    KeepsHandle steps last
kept steps answer.Cut f = tt
kept steps last f = f

request_keeps : (plan : Plan) (seat : HostSeat) (who : Context) (asked : Request) (steps : List Step)
    (last : Answer) → AllMayBeTold steps →
    Belongs (grammar_for plan seat (Requests who asked)) steps (finish.Answer last) → KeepsHandle steps last
request_keeps plan seat who asked steps last m b =
    kept steps last (λ handle. elim (branch seat (tree_of plan seat who asked) [] [] steps
    (finish.Answer last) b) [
      | inl lost ↦ absurd lost
      | inr (inl gave) ↦
          let same : answer.NoMemory ≡ last = (let e = gave.answered in cc) in
          own_handles gave.path steps handle gave.own
          ∙ (each_keeps plan seat who asked).up gave.path gave.up handle
          ∙ ap (handle_count handle) same
      | inr (inr r) ↦
          let same : r.1 ≡ last = cc in
          own_handles r.0 steps handle r.2
          ∙ (each_keeps plan seat who asked).on r.0 r.1 (own_told r.0 steps r.2 m) r.4 handle
          ∙ ap (handle_count handle) same
    ])

edit_none : (told : ActReply) (handle : ℕ) → handle_count handle (edit_answer told) ≡ 0
edit_none (Host (host.Ok value)) handle = refl
edit_none (Host (host.Refused errno)) handle = refl
edit_none (Host (host.Fault errno)) handle = refl
edit_none told handle = refl

edit_keeps : (edit : Edit) (steps : List Step) (last : Answer) →
    Belongs (edit_grammar edit) steps (finish.Answer last) → KeepsHandle steps last
edit_keeps edit [] last b = absurd b
edit_keeps edit (step ∷ []) last b =
    kept (step ∷ []) last (λ handle.
    let one = step_none (Calls (call.Edit edit)) step.deed step.reply handle (λ h told. refl) b.0 in
    let same : last ≡ edit_answer step.reply = (let e = b.1 in cc) in
    let two = ap (handle_count handle) same in
    let three = edit_none step.reply handle in
    omega (arith, one, two, three))
edit_keeps edit (step ∷ more ∷ steps) last b = absurd b.1

pub asked_keeps : (plan : Plan) (seat : HostSeat) (asked : Asked) (steps : List Step) (last : Answer) →
    AllMayBeTold steps → Belongs (grammar_for plan seat asked) steps (finish.Answer last) → KeepsHandle steps last
asked_keeps plan seat (Requests who asked) steps last m b = request_keeps plan seat who asked steps last m b
asked_keeps plan seat (Edits edit) steps last m b = edit_keeps edit steps last b
