-- A request on a number that is gone is answered EBADF.
use Rattle.std.proofs.Common.{◌≡◌, ◌⊎◌, inl, inr, ℕ, List, [], ◌∷◌, ◌++◌, Bool, true, false, refl, ap, subst, ◌∙◌}
use Rattle.std.proofs.Common.{if◌then◌else◌, append_assoc, arith, Option, Some, None, sym}
use Rattle.std.specs.List.{list_any}
use Rattle.std.specs.Prelude.{◌&&◌}
use Rattle.pt_host.specs.Errno.{ebadf, einval}
use Rattle.pt_host.specs.Flags.{includes, o_directory, o_trunc}
use Rattle.pt_host.specs.declared.ids.Errno.{Errno}
use Rattle.pt_host.specs.declared.ids.Fd.{Fd}
use Rattle.pt_host.specs.declared.op.KeptHostOp.TheVariants as call
use Rattle.pt_host.specs.declared.reply.HostReply.TheVariants as host
use Rattle.pt_host.specs.declared.reply.HostValue.{HostValue}
use Rattle.pt_host.specs.declared.seat.HostSeat.{HostSeat}
use Rattle.pt_tables.specs.Change.{Change, HoldsList}
use Rattle.pt_tables.specs.Tables.{Tables, HasNumber, Agree, empty_tables}
use Rattle.pt_tables.specs.Happens.{Happens}
use Rattle.pt_tables.specs.Rows.{NoRow}
use Rattle.pt_tables.specs.declared.form.Negotiated.{Negotiated}
use Rattle.pt_tables.specs.declared.form.RowForm.TheVariants.{File}
use Rattle.pt_tables.specs.declared.event.KeptEvent.TheVariants as change
use Rattle.pt_tables.specs.declared.reply.EventReply.{EventReply}
use Rattle.pt_tables.specs.declared.reply.EventReply.TheVariants as event
use Rattle.pt_tables.specs.declared.reply.EventRefusal.TheVariants.{NotLive}
use Rattle.pt_tables.proofs.Cases.{Case, cases}
use Rattle.pt_iface.specs.declared.answer.Answer.TheVariants as answer
use Rattle.pt_iface.specs.declared.flags.SetattrValid.{SetattrValid}
use Rattle.pt_iface.specs.declared.request.Context.{Context}
use Rattle.pt_iface.specs.declared.request.Extensions.{Extensions}
use Rattle.pt_iface.specs.declared.request.Request.{Request}
use Rattle.pt_iface.specs.declared.request.Request.TheVariants as request
use Rattle.pt_iface.specs.declared.request.SetattrIn.{SetattrIn}
use Rattle.pt_frame.specs.Deed.{Deed, Calls, Changes, Step, IsStepOf}
use Rattle.pt_frame.specs.Frame.{leave}
use Rattle.pt_frame.specs.Held.{held, opened}
use Rattle.pt_frame.specs.Replies.{closings_in}
use Rattle.pt_frame.specs.Grammar.{Belongs}
use Rattle.pt_frame.specs.Tree.{RequestTree, Gives, Refuses, Asks, Bares, Brackets, Shuts, framed, on, go_on}
use Rattle.pt_frame.specs.Tree.{follows as framed_follows, grammar_of_tree, allocates}
use Rattle.pt_frame.specs.declared.act.ActReply.{ActReply}
use Rattle.pt_frame.specs.declared.act.ActReply.TheVariants.{Event, Host, NoCopy}
use Rattle.pt_frame.specs.declared.finish.Finish.{Finish}
use Rattle.pt_frame.specs.declared.finish.Finish.TheVariants as finish
use Rattle.pt_frame.specs.declared.hold.Hold.{Hold}
use Rattle.pt_frame.specs.declared.hold.Hold.TheVariants as hold
use Rattle.pt_req.specs.Attributes.{host_label}
use Rattle.pt_req.specs.Capability.{cleared_if, drops_fsetid, fsetid, without_fsetid}
use Rattle.pt_req.specs.Entries.{is_bad_name}
use Rattle.pt_req.specs.Options.{with_bits, cleaned, inode_flags, o_nofollow, open_options, create_options}
use Rattle.pt_req.specs.Parts.{by_path, file_of, handled, named, numbered, looked_of, look_up, open_row}
use Rattle.pt_job.specs.Pattern.{tree_of}
use Rattle.pt_req.specs.Requests.{lookup, open_dir, open_file}
use Rattle.pt_req.specs.Steps.{session_of, begin, resolve, open_at, stat, began_in, ok_in, resolved_in}
use Rattle.pt_tables.specs.declared.reply.Resolved.{Resolved}
use Rattle.pt_req.specs.declared.begun.BegunSession.{BegunSession}
use Rattle.pt_req.specs.declared.plan.Plan.{Plan}
use Rattle.pt_job.specs.Pattern.{grammar_of}
use Rattle.pt_attr.specs.Creating.{make_file, file_asked}
use Rattle.pt_attr.specs.Contents.{syncfs}
use Rattle.pt_attr.specs.Making.{ObjectAsked, is_nul, targeted}
use Rattle.pt_attr.specs.Setting.{file_set, is_missized, set_mode, set_owner, set_size, set_times, setattr, sized}
use Rattle.pt_attr.specs.Setting.{target_of}
use Rattle.pt_attr.specs.Steps.{do_call}
use Rattle.pt_attr.specs.Parts.{file_by, files_by, tell_attr}
use Rattle.pt_attr.specs.Requests.{access, getattr, link, readlink, rename, rmdir, statfs, unlink}
use Rattle.pt_job.specs.Requests.{object_asked}
use Rattle.pt_fit.proofs.ObjectKinds.{Kind, Directory, Link, Node, is_bad_target, make_kind, make_named}
use Rattle.pt_fit.proofs.ObjectKinds.{targeted_as}
use Rattle.pt_law.specs.World.{Turn, turn_by, TablesGo, TablesRun, steps_of}
use Rattle.pt_law.specs.Ledger.{inserted}
use Rattle.pt_law.specs.Branch.{IsGivenUp}
use Rattle.pt_law.proofs.Branches.{end_leave}
use Rattle.pt_law.proofs.Cuts.{located}
use Rattle.pt_law.proofs.Givings.{live_count, none_other}
use Rattle.pt_law.proofs.Interleaving.{tables_split}
use Rattle.pt_law.proofs.Laws.{agree_law}
use Rattle.pt_law.proofs.Reliance.{stays_gone, inserted_append, refused_law}
use Rattle.pt_fit.specs.Uses.{EndsBefore, FailsToDrop, IsOn, SomeFailsToDrop}
use Rattle.pt_fit.proofs.Leading.{ended_up, follows_plain, lost_up}

abbrev gone : ActReply
gone = Event (event.Refused NotLive)

-- an event without a list was made, and its reply is one of the tables
happened : (e : Change) (deed : Option Deed) (told : ActReply) (t t' : Tables) → (HoldsList e → ⊥) →
    IsStepOf (Changes e) deed told → TablesGo t deed told t' → (r : EventReply) × (told ≡ Event r) × Happens t e r t'
happened e None (Event r) t t' bare is go = absurd is
happened e None (Host r) t t' bare is go = absurd is
happened e None NoCopy t t' bare is go = absurd (bare is)
happened e (Some same) (Event r) t t' bare is go = (r, refl, subst (λ d. TablesGo t (Some d) (Event r) t') is go)
happened e (Some same) (Host r) t t' bare is go = absurd (subst (λ d. TablesGo t (Some d) (Host r) t') is go)
happened e (Some same) NoCopy t t' bare is go = absurd (subst (λ d. TablesGo t (Some d) NoCopy t') is.0 go)

begun_as : (t t' : Tables) (r : EventReply) → Case t change.Begin r t' →
    (era : ℕ) × (agreed : Negotiated) × (r ≡ event.Began era agreed)
begun_as t t' (event.Began era agreed) h = (era, agreed, refl)
begun_as t t' (event.Refused why) h = absurd h.0
begun_as t t' r h = absurd h

began : (t t' : Tables) (r : EventReply) → Happens t change.Begin r t' →
    (era : ℕ) × (agreed : Negotiated) × (r ≡ event.Began era agreed)
began t t' r h = begun_as t t' r (cases t t' change.Begin r h)

-- what follows an act of a job that holds the same then, and is told no closings
follows : (seat : HostSeat) (deed : Deed) (next : ActReply → RequestTree) (holds : List Hold) (marks : List ℕ)
    (step : Step) (steps : List Step) (end : Finish) → closings_in deed step.reply ≡ 0 →
    held deed step.reply holds ≡ holds → Belongs (framed seat (Asks deed next) holds marks) (step ∷ steps) end →
    IsGivenUp end ⊎ Belongs (framed seat (next step.reply) holds marks) steps end
follows seat deed next holds marks step steps end c h b =
    elim (follows_plain seat (allocates (next step.reply)) (closings_in deed step.reply)
    (held deed step.reply holds) (framed seat (next step.reply) (held deed step.reply holds) marks) steps end c b.1) [
      | inl up ↦ inl up
      | inr later ↦ inr (subst (λ (z : List Hold). Belongs (framed seat (next step.reply) z marks) steps end) h later)
    ]

abbrev Answers : Finish → Type 0
Answers end = (end ≡ finish.Answer (answer.Refused ebadf)) ⊎ IsGivenUp end

-- all that is held is given back before the answer
answered : (seat : HostSeat) (holds : List Hold) (steps : List Step) (end : Finish) →
    Belongs (leave seat holds (finish.Answer (answer.Refused ebadf))) steps end → Answers end
answered seat holds steps end b =
    elim (end_leave seat holds (finish.Answer (answer.Refused ebadf)) steps end b).0 [
      | inl e ↦ inl e
      | inr lost ↦ inr (lost_up end lost)
    ]

gone_refused : (next : Resolved → RequestTree) → on resolved_in next gone ≡ Refuses gone
unfolding on go_on
gone_refused next = refl

-- the number is resolved where it is not live
resolved : (seat : HostSeat) (holds : List Hold) (marks : List ℕ) (number : ℕ) (next : ActReply → RequestTree)
    (t t' : Tables) (step : Step) (steps : List Step) (end : Finish) → NoRow t (HasNumber number) →
    next gone ≡ Refuses gone → TablesGo t step.deed step.reply t' →
    Belongs (framed seat (Asks (Changes (change.Resolve number)) next) holds marks) (step ∷ steps) end → Answers end
resolved seat holds marks number next t t' step steps end none refuses go b =
    let h = happened (change.Resolve number) step.deed step.reply t t' (λ no. no) b.0 go in
    let told : step.reply ≡ gone = h.1 ∙ ap Event (refused_law t t' number h.0 none h.2).0 in
    elim (follows seat (Changes (change.Resolve number)) next holds marks step steps end
    (ap (closings_in (Changes (change.Resolve number))) told)
    (ap (λ r. held (Changes (change.Resolve number)) r holds) told) b) [
      | inl up ↦ inr up
      | inr later ↦ answered seat holds steps end
          (subst (λ tree. Belongs (framed seat tree holds marks) steps end) (ap next told ∙ refuses) later)
    ]

-- in a bracket, or in none
abbrev bracketed : Bool → RequestTree → RequestTree
bracketed true rest = Brackets rest
bracketed false rest = rest

-- The tree begins and resolves the number, perhaps in the scope of the capability, and passes the refusal on.
abbrev Resolves : ℕ → Bool → RequestTree → Type 0
Resolves number dropped tree =
    (wraps : Bool) × (next : BegunSession → Resolved → RequestTree)
    × (tree ≡ begin (λ session. bracketed wraps (without_fsetid dropped (resolve number (next session)))))

good_name : (bad : Bool) (next : RequestTree) → bad ≡ false →
    (if bad then Gives (answer.Refused einval) else next) ≡ next
good_name true next e = absurd (cc)
good_name false next e = refl

good_named : (name : List ℕ) (next : RequestTree) → is_bad_name name ≡ false → named name next ≡ next
unfolding named
good_named name next good = good_name (is_bad_name name) next good

good_sized : (valid : SetattrValid) (attr : SetattrIn) (next : RequestTree) → is_missized valid attr ≡ false →
    sized valid attr next ≡ next
unfolding sized
good_sized valid attr next good = good_name (is_missized valid attr) next good

good_target : (its : Kind) (next : RequestTree) → is_bad_target its ≡ false → targeted_as its next ≡ next
unfolding targeted
good_target (Directory mode) next good = refl
good_target (Node mode rdev) next good = refl
good_target (Link target) next good = good_name (list_any is_nul target) next good

on_lookup : (plan : Plan) (parent : ℕ) (name : List ℕ) → is_bad_name name ≡ false →
    Resolves parent false (begin (lookup plan parent name))
unfolding look_up
on_lookup plan parent name good = (
  true,
  (λ session directory. file_of directory.form (λ dir. open_at dir name by_path (λ fd. stat fd (λ told.
      numbered session (File fd) told (λ number.
      Shuts true (Gives (answer.Entry (looked_of plan session directory.ids told number).entry))))))),
  (λ i. begin (λ session. good_named name (look_up plan session parent name (λ looked.
      Gives (answer.Entry looked.entry))) good i)),
)

on_open : (plan : Plan) (seat : HostSeat) (inode : ℕ) (kill : Bool) (flags : ℕ) →
    Resolves inode (drops_fsetid plan seat kill) (begin (open_file plan seat inode kill flags))
on_open plan seat inode kill flags = (
  true,
  (λ session row. open_row row (inode_flags plan.config session.agreed (cleaned plan.config flags)) (λ fd.
      Bares (cleared_if (includes flags o_trunc) plan.capability fd (handled session inode fd (λ handle.
      Shuts false (Gives (answer.Opened handle (open_options plan.config flags)))))))),
  refl,
)

on_create : (plan : Plan) (seat : HostSeat) (who : Context) (parent : ℕ) (name : List ℕ) (mode : ℕ) (kill : Bool)
    (flags umask : ℕ) (ext : Extensions) → is_bad_name name ≡ false →
    Resolves parent false (tree_of plan seat who (request.Create parent name mode kill flags umask ext))
on_create plan seat who parent name mode kill flags umask ext good =
    let asked = file_asked who parent name mode kill flags umask ext in
    let next : BegunSession → Resolved → RequestTree = λ session directory.
    host_label plan session.agreed ext.secctx (λ label. file_of directory.form (λ dir.
    make_file plan seat session asked label dir (λ both.
    Gives (answer.Created both.entry both.handle (create_options plan.config))))) in (
      false,
      next,
      (λ i. begin (λ session. good_named name (resolve parent (next session)) good i)),
    )

-- what goes on with the file of the number
on_file : (number : ℕ) (next : Fd → RequestTree) → Resolves number false (begin (λ session. file_by number next))
on_file number next = (false, (λ session row. file_of row.form next), refl)

on_named_file : (number : ℕ) (name : List ℕ) (next : Fd → RequestTree) → is_bad_name name ≡ false →
    Resolves number false (begin (λ session. named name (file_by number next)))
on_named_file number name next good = (
  false,
  (λ session row. file_of row.form next),
  (λ i. begin (λ session. good_named name (file_by number next) good i)),
)

on_made : (plan : Plan) (seat : HostSeat) (object : ObjectAsked) (its : Kind) → is_bad_name object.name ≡ false →
    is_bad_target its ≡ false → Resolves object.parent false (begin (make_named plan seat object its))
on_made plan seat object its good well =
    let next : BegunSession → Resolved → RequestTree = λ session directory.
    host_label plan session.agreed object.ext.secctx (λ label.
    file_of directory.form (make_kind plan seat session object its label)) in (
      false,
      next,
      (λ i. begin (λ session.
          (good_named object.name (targeted_as its (resolve object.parent (next session))) good
          ∙ good_target its (resolve object.parent (next session)) well) i)),
    )

on_link : (plan : Plan) (inode newparent : ℕ) (newname : List ℕ) → is_bad_name newname ≡ false →
    Resolves inode false (begin (link plan inode newparent newname))
unfolding files_by
on_link plan inode newparent newname good =
    let next : BegunSession → Resolved → RequestTree = λ session one. resolve newparent (λ other.
    file_of one.form (λ from. file_of other.form (λ dir.
    do_call (call.MakeLink from dir newname) (look_up plan session newparent newname (λ looked.
    Gives (answer.Entry looked.entry)))))) in (
      false,
      next,
      (λ i. begin (λ session. good_named newname (resolve inode (next session)) good i)),
    )

on_rename : (olddir : ℕ) (oldname : List ℕ) (newdir : ℕ) (newname : List ℕ) (flags : ℕ) →
    is_bad_name oldname ≡ false → is_bad_name newname ≡ false →
    Resolves olddir false (begin (rename olddir oldname newdir newname flags))
unfolding files_by
on_rename olddir oldname newdir newname flags good also =
    let next : Resolved → RequestTree = λ one. resolve newdir (λ other.
    file_of one.form (λ from. file_of other.form (λ to.
    do_call (call.Rename from oldname to newname flags) (Gives answer.Done)))) in (
      false,
      (λ session. next),
      (λ i. begin (λ session.
          (good_named oldname (named newname (resolve olddir next)) good
          ∙ good_named newname (resolve olddir next) also) i)),
    )

on_setattr : (plan : Plan) (seat : HostSeat) (inode : ℕ) (handle : Option ℕ) (valid : SetattrValid)
    (attr : SetattrIn) →
    is_missized valid attr ≡ false → Resolves inode false (begin (setattr plan seat inode handle valid attr))
on_setattr plan seat inode handle valid attr good =
    let next : Resolved → RequestTree = λ row.
    file_set handle valid row (λ file.
    target_of inode handle file (λ target.
    set_mode valid attr target (
    set_owner plan valid attr file (
    set_size plan seat valid attr target (
    set_times valid attr target (tell_attr plan inode)))))) in (
      false,
      (λ session. next),
      (λ i. begin (λ session. good_sized valid attr (resolve inode next) good i)),
    )

on_syncfs : (plan : Plan) (inode : ℕ) → Resolves inode false (begin (syncfs plan inode))
on_syncfs plan inode = (
  false,
  (λ session row. open_row row (inode_flags plan.config session.agreed o_nofollow) (λ fd.
      do_call (call.SyncFs fd) (Gives answer.Done))),
  refl,
)

-- the capability that is dropped before the number is resolved
abbrev drops_before : Plan → HostSeat → Request → Bool
drops_before plan seat (request.Open inode kill flags) = drops_fsetid plan seat kill
drops_before plan seat what = false

-- of an opening of a directory none is
none_asked : (plan : Plan) (seat : HostSeat) → drops_fsetid plan seat false ≡ false
none_asked plan seat = go plan.config.killpriv_v2
  where
    go : (switch : Bool) → (switch && false && includes seat.eff_caps.0 fsetid.0) ≡ false
    go true = refl
    go false = refl

resolves : (plan : Plan) (seat : HostSeat) (who : Context) (what : Request) (number : ℕ) → IsOn number what →
    Resolves number (drops_before plan seat what) (tree_of plan seat who what)
resolves plan seat who (request.Lookup parent name) number it =
    subst (λ n. Resolves n false (begin (lookup plan parent name))) it.0 (on_lookup plan parent name it.1)
resolves plan seat who (request.Open inode kill flags) number it =
    subst (λ n. Resolves n (drops_fsetid plan seat kill) (begin (open_file plan seat inode kill flags))) it
    (on_open plan seat inode kill flags)
resolves plan seat who (request.OpenDir inode flags) number it =
    subst (λ n. Resolves n false (begin (open_dir plan seat inode flags))) it
    (subst (λ (b : Bool). Resolves inode b (begin (open_dir plan seat inode flags))) (none_asked plan seat)
    (on_open plan seat inode false (with_bits flags o_directory)))
resolves plan seat who (request.Create parent name mode kill flags umask ext) number it =
    subst (λ n. Resolves n false (tree_of plan seat who (request.Create parent name mode kill flags umask ext))) it.0
    (on_create plan seat who parent name mode kill flags umask ext it.1)
resolves plan seat who (request.Mkdir parent name mode umask ext) number it =
    let object = object_asked who parent name (Some umask) ext in
    subst (λ n. Resolves n false (begin (make_named plan seat object (Directory mode)))) it.0
    (on_made plan seat object (Directory mode) it.1 refl)
resolves plan seat who (request.Mknod parent name mode rdev umask ext) number it =
    let object = object_asked who parent name (Some umask) ext in
    subst (λ n. Resolves n false (begin (make_named plan seat object (Node mode rdev)))) it.0
    (on_made plan seat object (Node mode rdev) it.1 refl)
resolves plan seat who (request.Symlink target parent name ext) number it =
    let object = object_asked who parent name None ext in
    subst (λ n. Resolves n false (begin (make_named plan seat object (Link target)))) it.0
    (on_made plan seat object (Link target) it.1 it.2)
resolves plan seat who (request.Readlink inode) number it =
    subst (λ n. Resolves n false (begin (readlink inode))) it (on_file inode _)
resolves plan seat who (request.StatFs inode) number it =
    subst (λ n. Resolves n false (begin (statfs inode))) it (on_file inode _)
resolves plan seat who (request.GetAttr inode) number it =
    subst (λ n. Resolves n false (begin (getattr plan inode))) it (on_file inode _)
resolves plan seat who (request.Access inode mask) number it =
    subst (λ n. Resolves n false (begin (access plan who inode mask))) it (on_file inode _)
resolves plan seat who (request.Unlink parent name) number it =
    subst (λ n. Resolves n false (begin (unlink parent name))) it.0 (on_named_file parent name _ it.1)
resolves plan seat who (request.Rmdir parent name) number it =
    subst (λ n. Resolves n false (begin (rmdir parent name))) it.0 (on_named_file parent name _ it.1)
resolves plan seat who (request.Link inode newparent newname) number it =
    subst (λ n. Resolves n false (begin (link plan inode newparent newname))) it.0
    (on_link plan inode newparent newname it.1)
resolves plan seat who (request.Rename olddir oldname newdir newname flags) number it =
    subst (λ n. Resolves n false (begin (rename olddir oldname newdir newname flags))) it.0
    (on_rename olddir oldname newdir newname flags it.1 it.2)
resolves plan seat who (request.SetAttr inode handle valid attr) number it =
    subst (λ n. Resolves n false (begin (setattr plan seat inode handle valid attr))) it.0
    (on_setattr plan seat inode handle valid attr it.1)
resolves plan seat who (request.SyncFs inode) number it =
    subst (λ n. Resolves n false (begin (syncfs plan inode))) it (on_syncfs plan inode)
resolves plan seat who what number it = absurd it

-- each step of a job is made while the number is gone
record Gone (number : ℕ) (step : Step) : Type 0 where
  t : Tables
  t' : Tables
  none : NoRow t (HasNumber number)
  go : TablesGo t step.deed step.reply t'

gone_at : (number job : ℕ) (later : List Turn) (was now : Tables) (one : List Step) (step : Step) (two : List Step) →
    Agree was → live_count number was ≡ 0 → TablesRun was later now →
    inserted number later ≡ 0 → steps_of job later ≡ one ++ step ∷ two → Gone number step
gone_at number job later was now one step two a c r i e =
    let l = located job later one step two e in
    let k = tables_split l.0 (turn_by job step ∷ l.1) was now (subst (λ turns. TablesRun was turns now) l.2 r) in
    let n = ap (inserted number) l.2 ∙ inserted_append number l.0 (turn_by job step ∷ l.1) in
    record { t = k.0; t' = k.2.0; none = stays_gone number l.0 was k.0 a c k.1 (omega (arith, n, i)); go = k.2.1 }

-- a step among others
fails_among : (one two : List Step) (step : Step) (errno : Errno) → FailsToDrop step.deed step.reply errno →
    SomeFailsToDrop (one ++ step ∷ two) errno
fails_among [] two step errno f = inl f
fails_among (first ∷ one) two step errno f = inr (fails_among one two step errno f)

-- or it ends before, where the capability was to be dropped, and is answered as that call was
abbrev EndsRefused : List Step → Finish → Bool → Type 0
EndsRefused steps end dropped =
    Answers end
    ⊎ ((errno : Errno) × (dropped ≡ true) × SomeFailsToDrop steps errno
    × (end ≡ finish.Answer (answer.Refused errno)))

-- a call's reply is this refusal, or this failure
abbrev FailsBy : ActReply → Errno → Type 0
FailsBy told errno = (told ≡ Host (host.Refused errno)) ⊎ (told ≡ Host (host.Fault errno))

-- the reply to the call that drops the capability
data DropTold (step : Step) : Type 0 where
  done : (got : HostValue) → step.reply ≡ Host (host.Ok got) → DropTold step
  fails : (errno : Errno) → FailsToDrop step.deed step.reply errno → FailsBy step.reply errno → DropTold step
  out : (step.reply ≡ Host host.NoMemory) ⊎ (step.reply ≡ NoCopy) → DropTold step

drop_told : (step : Step) (t t' : Tables) → IsStepOf (Calls (call.DropCap fsetid)) step.deed step.reply →
    TablesGo t step.deed step.reply t' → DropTold step
drop_told step t t' i go = at step.deed step.reply i go
  where
    at : (did : Option Deed) (told : ActReply) → IsStepOf (Calls (call.DropCap fsetid)) did told →
        TablesGo t did told t' → DropTold (record { deed = did; reply = told })
    at did (Host (host.Ok got)) i go = done got refl
    at (Some same) (Host (host.Refused errno)) i go =
        fails errno (subst (λ (d : Deed). FailsToDrop (Some d) (Host (host.Refused errno)) errno) (sym i) refl)
        (inl refl)
    at (Some same) (Host (host.Fault errno)) i go =
        fails errno (subst (λ (d : Deed). FailsToDrop (Some d) (Host (host.Fault errno)) errno) (sym i) refl)
        (inr refl)
    at None (Host told) i go = absurd i
    at did (Host host.NoMemory) i go = out (inl refl)
    at did NoCopy i go = out (inr refl)
    at (Some same) (Event told) i go = absurd (subst (λ (d : Deed). TablesGo t (Some d) (Event told) t') i go)
    at None (Event told) i go = absurd i

pub gone_answered_law : (limits : List ℕ) (job : ℕ) (plan : Plan) (seat : HostSeat) (who : Context) (what : Request)
    (turns later : List Turn) (was now : Tables) (number : ℕ) (end : Finish) →
    TablesRun (empty_tables limits) turns was → NoRow was (HasNumber number) → TablesRun was later now →
    inserted number later ≡ 0 → IsOn number what → Belongs (grammar_of plan seat who what) (steps_of job later) end →
    (end ≡ finish.Answer (answer.Refused ebadf)) ⊎ IsGivenUp end
    ⊎ EndsBefore plan seat what (steps_of job later) end
unfolding on go_on
gone_answered_law limits job plan seat who what turns later was now number end r none k i it b =
    let s = resolves plan seat who what number it in
    ends_so what (first (steps_of job later) refl (drops_before plan seat what) s.0 s.1
    (subst (λ tree. Belongs (grammar_of_tree seat tree) (steps_of job later) end) s.2 b))
  where
    ends_so : (asked : Request) → EndsRefused (steps_of job later) end (drops_before plan seat asked) →
        (end ≡ finish.Answer (answer.Refused ebadf)) ⊎ IsGivenUp end
        ⊎ EndsBefore plan seat asked (steps_of job later) end
    ends_so asked (inl (inl e)) = inl e
    ends_so asked (inl (inr up)) = inr (inl up)
    ends_so (request.Open inode kill flags) (inr before) = inr (inr before)
    ends_so asked (inr before) = let no = before.1 in absurd (cc)

    at : (one : List Step) (step : Step) (two : List Step) → steps_of job later ≡ one ++ step ∷ two → Gone number step
    at one step two e =
        gone_at number job later was now one step two (agree_law limits turns was r)
        (none_other number was.rows none) k i e

    second : (one : List Step) (steps : List Step) (holds : List Hold) (marks : List ℕ)
        (next : Resolved → RequestTree) → steps_of job later ≡ one ++ steps →
        Belongs (framed seat (resolve number next) holds marks) steps end → Answers end
    second one [] holds marks next e b = absurd b
    second one (step ∷ steps) holds marks next e b = let g = at one step steps e in
        resolved seat holds marks number (on resolved_in next) g.t g.t' step steps end g.none (gone_refused next) g.go b

    -- behind the call that drops the capability
    dropped_on : (rest : RequestTree) (marks : List ℕ) (told : ActReply) (steps : List Step) →
        Belongs (framed_follows seat (allocates (on ok_in (λ done. rest) told)) 0
        (opened (hold.Dropped fsetid) told []) (framed seat (on ok_in (λ done. rest) told)
        (opened (hold.Dropped fsetid) told []) marks)) steps end → IsGivenUp end
        ⊎ Belongs (framed seat (on ok_in (λ done. rest) told) (opened (hold.Dropped fsetid) told []) marks) steps end
    dropped_on rest marks told steps b =
        follows_plain seat (allocates (on ok_in (λ done. rest) told)) 0 (opened (hold.Dropped fsetid) told [])
        (framed seat (on ok_in (λ done. rest) told) (opened (hold.Dropped fsetid) told []) marks) steps end refl b

    scoped : (dropped : Bool) (one : List Step) (steps : List Step) (marks : List ℕ)
        (next : Resolved → RequestTree) → steps_of job later ≡ one ++ steps →
        Belongs (framed seat (without_fsetid dropped (resolve number next)) [] marks) steps end →
        EndsRefused (steps_of job later) end dropped
    scoped false one steps marks next e b = inl (second one steps [] marks next e b)
    scoped true one [] marks next e b = absurd b
    scoped true one (step ∷ steps) marks next e b =
        let g = at one step steps e in
        elim (drop_told step g.t g.t' b.0 g.go) [
          | done got is ↦ elim (dropped_on (resolve number next) marks (Host (host.Ok got)) steps (moved is b.1)) [
            | inl up ↦ inl (inr up)
            | inr more ↦ inl (second (one ++ step ∷ []) steps (hold.Dropped fsetid ∷ []) marks next
                (e ∙ sym (append_assoc one (step ∷ []) steps)) more)
          ]
          | fails errno f (inl is) ↦ told_so one steps step errno e f
              (dropped_on (resolve number next) marks (Host (host.Refused errno)) steps (moved is b.1))
          | fails errno f (inr is) ↦ told_so one steps step errno e f
              (dropped_on (resolve number next) marks (Host (host.Fault errno)) steps (moved is b.1))
          | out (inl is) ↦ inl (inr (out_so (dropped_on (resolve number next) marks (Host host.NoMemory) steps
              (moved is b.1))))
          | out (inr is) ↦ inl (inr (out_so (dropped_on (resolve number next) marks NoCopy steps (moved is b.1))))
        ]
      where
        moved : {told other : ActReply} → told ≡ other →
            Belongs (framed_follows seat (allocates (on ok_in (λ done. resolve number next) told)) 0
            (opened (hold.Dropped fsetid) told []) (framed seat (on ok_in (λ done. resolve number next) told)
            (opened (hold.Dropped fsetid) told []) marks)) steps end →
            Belongs (framed_follows seat (allocates (on ok_in (λ done. resolve number next) other)) 0
            (opened (hold.Dropped fsetid) other []) (framed seat (on ok_in (λ done. resolve number next) other)
            (opened (hold.Dropped fsetid) other []) marks)) steps end
        moved is x = subst (λ (told : ActReply).
            Belongs (framed_follows seat (allocates (on ok_in (λ done. resolve number next) told)) 0
            (opened (hold.Dropped fsetid) told []) (framed seat (on ok_in (λ done. resolve number next) told)
            (opened (hold.Dropped fsetid) told []) marks)) steps end) is x

        told_so : (one steps : List Step) (step : Step) (errno : Errno) → steps_of job later ≡ one ++ step ∷ steps →
            FailsToDrop step.deed step.reply errno →
            IsGivenUp end ⊎ Belongs (leave seat [] (finish.Answer (answer.Refused errno))) steps end →
            EndsRefused (steps_of job later) end true
        told_so one steps step errno e f (inl up) = inl (inr up)
        told_so one steps step errno e f (inr more) =
            elim (end_leave seat [] (finish.Answer (answer.Refused errno)) steps end more).0 [
              | inl is ↦ inr (
                errno,
                refl,
                subst (λ (all : List Step). SomeFailsToDrop all errno) (sym e)
                    (fails_among one steps step errno f),
                is,
              )
              | inr lost ↦ inl (inr (lost_up end lost))
            ]

        out_so : IsGivenUp end ⊎ Belongs (leave seat [] (finish.Answer answer.NoMemory)) steps end → IsGivenUp end
        out_so (inl up) = up
        out_so (inr more) = ended_up end (end_leave seat [] (finish.Answer answer.NoMemory) steps end more).0

    inside : (dropped wraps : Bool) (one : List Step) (steps : List Step) (next : Resolved → RequestTree) →
        steps_of job later ≡ one ++ steps →
        Belongs (framed seat (bracketed wraps (without_fsetid dropped (resolve number next))) [] []) steps end →
        EndsRefused (steps_of job later) end dropped
    inside dropped true one steps next e b = scoped dropped one steps (0 ∷ []) next e b
    inside dropped false one steps next e b = scoped dropped one steps [] next e b

    first : (steps : List Step) → steps_of job later ≡ steps → (dropped wraps : Bool)
        (next : BegunSession → Resolved → RequestTree) →
        Belongs (grammar_of_tree seat (begin (λ session.
        bracketed wraps (without_fsetid dropped (resolve number (next session)))))) steps end →
        EndsRefused (steps_of job later) end dropped
    first [] e dropped wraps next b = absurd b
    first (step ∷ steps) e dropped wraps next b =
        let g = at [] step steps e in
        let h = happened change.Begin step.deed step.reply g.t g.t' (λ no. no) b.0 g.go in
        let n = began g.t g.t' h.0 h.2 in
        let told : step.reply ≡ Event (event.Began n.0 n.1) = h.1 ∙ ap Event n.2 in
        let asks : BegunSession → RequestTree =
        λ session. bracketed wraps (without_fsetid dropped (resolve number (next session))) in
        elim (follows seat (Changes change.Begin) (on began_in asks) [] [] step steps end
        (ap (closings_in (Changes change.Begin)) told) (ap (λ r. held (Changes change.Begin) r []) told) b) [
          | inl up ↦ inl (inr up)
          | inr more ↦ inside dropped wraps (step ∷ []) steps (next (session_of n.0 n.1)) e
              (subst (λ r. Belongs (framed seat (on began_in asks r) [] []) steps end) told more)
        ]
