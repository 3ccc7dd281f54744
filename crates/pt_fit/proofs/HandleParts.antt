-- The parts of requests keep it: a handle that is inserted is the one that is answered.
use Rattle.std.proofs.Common.{◌≡◌, ◌⊎◌, inl, inr, ◌+◌, ◌∷◌, ◌∙◌, [], if◌then◌else◌, ℕ, Bool, List, None, Option, Some}
use Rattle.std.proofs.Common.{ap, arith, false, refl, subst, sym, true}
use Rattle.pt_host.specs.Call.{Call}
use Rattle.pt_host.specs.Errno.{ebadf, einval}
use Rattle.pt_host.specs.Words.{is}
use Rattle.pt_host.specs.declared.ids.Errno.{Errno}
use Rattle.pt_host.specs.declared.ids.Fd.{Fd}
use Rattle.pt_host.specs.declared.op.KeptHostOp.TheVariants as call
use Rattle.pt_host.specs.Flags.{includes, o_trunc}
use Rattle.pt_host.specs.declared.reply.HostReply.TheVariants as host
use Rattle.pt_host.specs.declared.seat.HostSeat.{HostSeat}
use Rattle.pt_host.specs.declared.stat.Stat.{Stat}
use Rattle.pt_tables.proofs.Cases.{cases}
use Rattle.pt_tables.specs.declared.event.KeptEvent.TheVariants as change
use Rattle.pt_tables.specs.declared.form.Negotiated.{Negotiated}
use Rattle.pt_tables.specs.declared.form.RowForm.{RowForm}
use Rattle.pt_tables.specs.declared.form.RowForm.TheVariants.{File}
use Rattle.pt_tables.specs.declared.reply.EventRefusal.{EventRefusal}
use Rattle.pt_tables.specs.declared.reply.EventRefusal.TheVariants as refused
use Rattle.pt_tables.specs.declared.reply.EventReply.TheVariants as event
use Rattle.pt_iface.specs.declared.answer.Answer.{Answer}
use Rattle.pt_iface.specs.declared.answer.Answer.TheVariants as answer
use Rattle.pt_frame.specs.Deed.{Calls, Changes, Deed, IsStepOf, Step}
use Rattle.pt_frame.specs.Replies.{event_refusal, refusal}
use Rattle.pt_frame.specs.Tree.{allocates, Asks, Bares, Brackets, Gives, Opens, Refuses, RequestTree, on, go_on}
use Rattle.pt_frame.specs.Tree.{Shuts}
use Rattle.pt_frame.specs.declared.act.ActReply.{ActReply}
use Rattle.pt_frame.specs.declared.act.ActReply.TheVariants.{Event, Host, NoCopy}
use Rattle.pt_frame.specs.declared.hold.Hold.{Hold}
use Rattle.pt_frame.specs.declared.hold.Hold.TheVariants as hold
use Rattle.pt_req.specs.Capability.{capability_cleared, cleared_if, drops_fsetid, fsetid, without_fsetid}
use Rattle.pt_req.specs.Entries.{can_open, is_bad_name, is_bad_offset}
use Rattle.pt_req.specs.Options.{cleaned, inode_flags}
use Rattle.pt_req.specs.Options.{without_nofollow}
use Rattle.pt_req.specs.Parts.{by_path, file_of, look_up, looked_of, named, numbered, numbered_as, open_form}
use Rattle.pt_req.specs.Parts.{open_inode, open_num, open_row, placed, root_open}
use Rattle.pt_req.specs.Steps.{begin, clear, draw_handle, draw_node, insert, insert_handle, resolve, session_of, stat}
use Rattle.pt_req.specs.Steps.{claimed_in, claim_of, new_row_of, new_root_of, new_handle_of}
use Rattle.pt_req.specs.Steps.{take_fd, began_in, cleared_in, done_in, drawn_in, fd_in, inserted_in, numbered_in}
use Rattle.pt_req.specs.Steps.{gone_in, ok_in, resolved_in, stat_in, taken_in}
use Rattle.pt_tables.specs.declared.reply.Resolved.{Resolved}
use Rattle.pt_req.specs.declared.begun.BegunSession.{BegunSession}
use Rattle.pt_req.specs.declared.parts.looked.Looked.{Looked}
use Rattle.pt_req.specs.declared.plan.Plan.{Plan}
use Rattle.pt_req.proofs.Replying.{if_began, if_claimed, if_cleared, if_done, if_drawn, if_fd, if_numbered}
use Rattle.pt_req.proofs.Replying.{if_gone, if_resolved, if_inserted, if_set, if_stat, if_taken}
use Rattle.pt_attr.specs.Parts.{file_by, files_by, two_files}
use Rattle.pt_attr.specs.Requests.{allowed}
use Rattle.pt_attr.specs.declared.parts.TwoFiles.{TwoFiles}
use Rattle.pt_attr.specs.Steps.{do_call}
use Rattle.pt_law.specs.Branch.{Along, GivesUpAfter}
use Rattle.pt_law.specs.Ledger.{handle_inserted_as, weighed}
use Rattle.pt_law.specs.Told.{AllMayBeTold, MayBeTold, StepMayBeTold}
use Rattle.pt_fit.specs.Handled.{handle_count, handles_in}

-- On each of its branches, by replies that may come, what was inserted is what is answered; and where it may give up
-- nothing was.
pub record Yields (tree : RequestTree) : Type 0 where
  pub on : (path : List Step) (last : Answer) → AllMayBeTold path → Along tree path last → (handle : ℕ) →
      handles_in handle path ≡ handle_count handle last
  pub up : (path : List Step) → GivesUpAfter tree path → (handle : ℕ) → handles_in handle path ≡ 0

-- an answer without a handle
pub gives : (last : Answer) → ((handle : ℕ) → handle_count handle last ≡ 0) → Yields (Gives last)
gives last without = record { on = go; up = λ path g. absurd g }
  where
    go : (path : List Step) (told : Answer) → AllMayBeTold path → Along (Gives last) path told → (handle : ℕ) →
        handles_in handle path ≡ handle_count handle told
    go [] told m a handle = sym (ap (handle_count handle) a ∙ without handle)
    go (step ∷ path) told m a handle = absurd a

pub event_none : (why : EventRefusal) (handle : ℕ) → handle_count handle (event_refusal why) ≡ 0
event_none refused.Memory handle = refl
event_none why handle = refl

pub refusal_none : (told : ActReply) (handle : ℕ) → handle_count handle (refusal told) ≡ 0
refusal_none (Event (event.Refused why)) handle = event_none why handle
refusal_none (Host (host.Refused errno)) handle = refl
refusal_none (Host (host.Fault errno)) handle = refl
refusal_none (Host host.NoMemory) handle = refl
refusal_none (Host (host.Ok value)) handle = refl
refusal_none told handle = refl

pub refuses : (told : ActReply) → Yields (Refuses told)
refuses told = record { on = go; up = λ path g. absurd g }
  where
    go : (path : List Step) (last : Answer) → AllMayBeTold path → Along (Refuses told) path last → (handle : ℕ) →
        handles_in handle path ≡ handle_count handle last
    go [] last m a handle = sym (ap (handle_count handle) a ∙ refusal_none told handle)
    go (step ∷ path) last m a handle = absurd a

-- a step that inserts no handle, whatever it is told
abbrev pub InsertsNone : Deed → Type 0
InsertsNone deed = (handle : ℕ) (told : ActReply) → weighed (handle_inserted_as handle) (Some deed) told ≡ 0

pub step_none : (deed : Deed) (did : Option Deed) (told : ActReply) (handle : ℕ) → InsertsNone deed →
    IsStepOf deed did told → weighed (handle_inserted_as handle) did told ≡ 0
step_none deed None told handle spares i = refl
step_none deed (Some same) NoCopy handle spares i =
    ap (λ (d : Deed). weighed (handle_inserted_as handle) (Some d) NoCopy) i.0 ∙ spares handle NoCopy
step_none deed (Some same) told handle spares i =
    ap (λ (d : Deed). weighed (handle_inserted_as handle) (Some d) told) i ∙ spares handle told

-- at once, or behind further steps
gave_none : {may : Bool} (next : RequestTree) (path : List Step) →
    ((path : List Step) → GivesUpAfter next path → (handle : ℕ) → handles_in handle path ≡ 0) →
    ((path ≡ []) × (may ≡ true)) ⊎ GivesUpAfter next path → (handle : ℕ) → handles_in handle path ≡ 0
gave_none next path so (inl now) handle = ap (handles_in handle) now.0
gave_none next path so (inr later) handle = so path later handle

pub asks : (deed : Deed) (next : ActReply → RequestTree) → InsertsNone deed →
    ((told : ActReply) → Yields (next told)) →
    Yields (Asks deed next)
asks deed next spares so = record { on = go; up = up }
  where
    up : (path : List Step) → GivesUpAfter (Asks deed next) path → (handle : ℕ) → handles_in handle path ≡ 0
    up [] g handle = absurd g
    up (step ∷ path) g handle =
        let one = step_none deed step.deed step.reply handle spares g.0 in
        let rest = gave_none (next step.reply) path (so step.reply).up g.1 handle in
        omega (arith, one, rest)

    go : (path : List Step) (last : Answer) → AllMayBeTold path → Along (Asks deed next) path last → (handle : ℕ) →
        handles_in handle path ≡ handle_count handle last
    go [] last m a handle = absurd a
    go (step ∷ path) last m a handle =
        let one = step_none deed step.deed step.reply handle spares a.0 in
        let rest = (so step.reply).on path last m.1 a.1 handle in
        omega (arith, one, rest)

pub opens : (asked : Call) (scope : Hold) (next : ActReply → RequestTree) → ((told : ActReply) → Yields (next told)) →
    Yields (Opens asked scope next)
opens asked scope next so = record { on = go; up = up }
  where
    up : (path : List Step) → GivesUpAfter (Opens asked scope next) path → (handle : ℕ) → handles_in handle path ≡ 0
    up [] g handle = absurd g
    up (step ∷ path) g handle =
        let one = step_none (Calls asked) step.deed step.reply handle (λ h told. refl) g.0 in
        let rest = gave_none (next step.reply) path (so step.reply).up g.1 handle in
        omega (arith, one, rest)

    go : (path : List Step) (last : Answer) → AllMayBeTold path → Along (Opens asked scope next) path last →
        (handle : ℕ) → handles_in handle path ≡ handle_count handle last
    go [] last m a handle = absurd a
    go (step ∷ path) last m a handle =
        let one = step_none (Calls asked) step.deed step.reply handle (λ h told. refl) a.0 in
        let rest = (so step.reply).on path last m.1 a.1 handle in
        omega (arith, one, rest)

pub bares : (rest : RequestTree) → Yields rest → Yields (Bares rest)
bares rest so = record { on = so.on; up = so.up }

pub brackets : (rest : RequestTree) → Yields rest → Yields (Brackets rest)
brackets rest so = record { on = so.on; up = so.up }

pub shuts : (passes : Bool) (rest : RequestTree) → Yields rest → Yields (Shuts passes rest)
shuts passes rest so = record { on = so.on; up = so.up }

-- what follows its insertion is answered with the handle, at once, and does not give up
pub record Hands (handle : ℕ) (tree : RequestTree) : Type 0 where
  pub stands : allocates tree ≡ false
  pub up : (path : List Step) → GivesUpAfter tree path → ⊥
  pub on : (path : List Step) (last : Answer) → Along tree path last → (h : ℕ) →
      is handle h + handles_in h path ≡ handle_count h last

pub hands : (handle : ℕ) (last : Answer) → ((h : ℕ) → is handle h ≡ handle_count h last) → Hands handle (Gives last)
hands handle last same = record { stands = refl; up = λ path g. g; on = go }
  where
    go : (path : List Step) (told : Answer) → Along (Gives last) path told → (h : ℕ) →
        is handle h + handles_in h path ≡ handle_count h told
    go [] told a h = let e = same h in let f = ap (handle_count h) a in omega (arith, e, f)
    go (step ∷ path) told a h = absurd a

pub hands_shut : (handle : ℕ) (passes : Bool) (rest : RequestTree) → Hands handle rest →
    Hands handle (Shuts passes rest)
hands_shut handle passes rest so = record { stands = refl; up = so.up; on = so.on }

pub inserts_handle : (session : BegunSession) (handle number : ℕ) (fd : Fd) (next : RequestTree) → Hands handle next →
    Yields (insert_handle session handle number fd next)
unfolding on go_on
inserts_handle session handle number fd next so = record { on = go; up = up }
  where
    asked : Deed
    asked = Changes (change.InsertHandle (new_handle_of session.era handle number fd))

    -- by a reply that may come
    replied : (told : ActReply) (path : List Step) (last : Answer) → MayBeTold asked told → AllMayBeTold path →
        Along (on inserted_in (λ done. next) told) path last → (h : ℕ) →
        weighed (handle_inserted_as h) (Some asked) told + handles_in h path ≡ handle_count h last
    replied (Event (event.Inserted given)) path last may m a h =
        let inserting = change.InsertHandle (new_handle_of session.era handle number fd) in
        let e = (cases may.0 may.1 inserting (event.Inserted given) may.2).3 in
        let f = ap (λ n. is n h) e in
        let k = so.on path last a h in
        omega (arith, f, k)
    replied told path last may m a h = let k = (refuses told).on path last m a h in omega (arith, k)

    at : (did : Option Deed) (told : ActReply) (path : List Step) (last : Answer) → IsStepOf asked did told →
        StepMayBeTold did told → AllMayBeTold path → Along (on inserted_in (λ done. next) told) path last → (h : ℕ) →
        weighed (handle_inserted_as h) did told + handles_in h path ≡ handle_count h last
    at None told path last i may m a h = absurd (uncopied told i)
      where
        uncopied : (told : ActReply) → IsStepOf asked None told → ⊥
        uncopied NoCopy i = i
        uncopied told i = i
    at (Some same) NoCopy path last i may m a h =
        let k = (refuses NoCopy).on path last m a h in
        let z = ap (λ (d : Deed). weighed (handle_inserted_as h) (Some d) NoCopy) i.0 in
        omega (arith, k, z)
    at (Some same) told path last i may m a h =
        ap (λ (d : Deed). weighed (handle_inserted_as h) (Some d) told + handles_in h path) i
        ∙ replied told path last (subst (λ (d : Deed). MayBeTold d told) i may) m a h

    replied_up : (told : ActReply) (path : List Step) →
        ((path ≡ []) × (allocates (on inserted_in (λ done. next) told) ≡ true))
        ⊎ GivesUpAfter (on inserted_in (λ done. next) told) path →
        (h : ℕ) → weighed (handle_inserted_as h) (Some asked) told + handles_in h path ≡ 0
    replied_up (Event (event.Inserted given)) path (inl now) h =
        let may : allocates next ≡ true = now.1 in let none = so.stands in absurd (cc)
    replied_up (Event (event.Inserted given)) path (inr later) h = absurd (so.up path later)
    replied_up told path (inl now) h = let none = ap (handles_in h) now.0 in omega (arith, none)
    replied_up told path (inr later) h = absurd later

    at_up : (did : Option Deed) (told : ActReply) (path : List Step) → IsStepOf asked did told →
        ((path ≡ []) × (allocates (on inserted_in (λ done. next) told) ≡ true))
        ⊎ GivesUpAfter (on inserted_in (λ done. next) told) path →
        (h : ℕ) → weighed (handle_inserted_as h) did told + handles_in h path ≡ 0
    at_up None told path i g h = absurd (uncopied told i)
      where
        uncopied : (told : ActReply) → IsStepOf asked None told → ⊥
        uncopied NoCopy i = i
        uncopied told i = i
    at_up (Some same) NoCopy path i g h =
        ap (λ (d : Deed). weighed (handle_inserted_as h) (Some d) NoCopy + handles_in h path) i.0
        ∙ replied_up NoCopy path g h
    at_up (Some same) told path i g h =
        ap (λ (d : Deed). weighed (handle_inserted_as h) (Some d) told + handles_in h path) i ∙ replied_up told path g h

    up : (path : List Step) → GivesUpAfter (insert_handle session handle number fd next) path → (h : ℕ) →
        handles_in h path ≡ 0
    up [] g h = absurd g
    up (step ∷ path) g h = at_up step.deed step.reply path g.0 g.1 h

    go : (path : List Step) (last : Answer) → AllMayBeTold path →
        Along (insert_handle session handle number fd next) path last → (h : ℕ) →
        handles_in h path ≡ handle_count h last
    go [] last m a h = absurd a
    go (step ∷ path) last m a h = at step.deed step.reply path last a.0 m.0 m.1 a.1 h

-- Each part of a request.

abbrev pub P : ActReply → RequestTree → Type 0
P told tree = Yields tree

pub begins : (next : BegunSession → RequestTree) → ((session : BegunSession) → Yields (next session)) →
    Yields (begin next)
begins next so = asks (Changes change.Begin) (on began_in next) (λ h told. refl)
    (if_began P next refuses (λ era agreed. so (session_of era agreed)))

pub clears : (next : ℕ → RequestTree) → ((era : ℕ) → Yields (next era)) → Yields (clear next)
clears next so = asks (Changes change.Clear) (on cleared_in next) (λ h told. refl)
    (if_cleared P next refuses (λ era closings. so era))

pub resolves : (number : ℕ) (next : Resolved → RequestTree) → ((row : Resolved) → Yields (next row)) →
    Yields (resolve number next)
resolves number next so = asks (Changes (change.Resolve number)) (on resolved_in next) (λ h told. refl)
    (if_resolved P next refuses so)

pub calls_fd : (asked : Call) (next : Fd → RequestTree) → ((fd : Fd) → Yields (next fd)) →
    Yields (Asks (Calls asked) (on fd_in next))
calls_fd asked next so = asks (Calls asked) (on fd_in next) (λ h told. refl) (if_fd P next refuses so)

pub stats : (fd : Fd) (next : Stat → RequestTree) → ((told : Stat) → Yields (next told)) → Yields (stat fd next)
stats fd next so = asks (Calls (call.Stat fd)) (on stat_in next) (λ h told. refl) (if_stat P next refuses so)

pub takes : (next : RequestTree) → Yields next → Yields (take_fd next)
takes next so = asks (Changes (change.TakeFd 0)) (on taken_in (λ done. next)) (λ h told. refl)
    (if_taken P next refuses so)

pub draws_handle : (next : ℕ → RequestTree) → ((handle : ℕ) → Yields (next handle)) → Yields (draw_handle next)
draws_handle next so = asks (Changes change.DrawHandle) (on drawn_in next) (λ h told. refl) (if_drawn P next refuses so)

pub dones : (deed : Deed) (next : RequestTree) → InsertsNone deed → Yields next →
    Yields (Asks deed (on done_in (λ done. next)))
dones deed next spares so = asks deed (on done_in (λ done. next)) spares (if_done P next refuses (λ closings. so))

pub checks : (bad : Bool) (one next : RequestTree) → Yields one → Yields next → Yields (if bad then one else next)
checks true one next so other = so
checks false one next so other = other

pub refuses_so : (errno : Errno) → Yields (Gives (answer.Refused errno))
refuses_so errno = gives (answer.Refused errno) (λ h. refl)

pub files : (form : RowForm) (next : Fd → RequestTree) → ((fd : Fd) → Yields (next fd)) → Yields (file_of form next)
files (File fd) next so = so fd

pub both_files : (first second : ℕ) (next : TwoFiles → RequestTree) → ((both : TwoFiles) → Yields (next both)) →
    Yields (files_by first second next)
unfolding files_by
both_files first second next so =
    resolves first _ (λ one.
    resolves second _ (λ other.
    files one.form _ (λ from.
    files other.form _ (λ to. so (two_files from to)))))

pub does : (asked : Call) (next : RequestTree) → Yields next → Yields (do_call asked next)
does asked next so = asks (Calls asked) (on ok_in (λ done. next)) (λ h told. refl) (if_set P next refuses (λ told. so))

pub decides : (granted : Bool) → Yields (Gives (allowed granted))
decides true = gives answer.Done (λ h. refl)
decides false = gives (allowed false) (λ h. refl)

pub one_file : (number : ℕ) (next : Fd → RequestTree) → ((fd : Fd) → Yields (next fd)) → Yields (file_by number next)
one_file number next so = resolves number _ (λ row. files row.form next so)

pub numbers : (session : BegunSession) (form : RowForm) (told : Stat) (next : ℕ → RequestTree) →
    ((number : ℕ) → Yields (next number)) → Yields (numbered session form told next)
numbers session form told next so =
    let adds : ℕ → RequestTree = λ fresh. insert session fresh form told next in
    let by : Option ℕ → RequestTree = λ given. numbered_as session form told given next in
    asks (Changes (change.Claim (claim_of session.era None told.ids))) (on claimed_in by) (λ h told. refl)
    (if_claimed P by refuses (λ given. so given.number) (
    takes (draw_node adds) (
    asks (Changes change.DrawNode) (on drawn_in adds) (λ h told. refl) (
    if_drawn P adds refuses (λ fresh.
    asks (Changes (change.Insert (new_row_of session.era fresh form told))) (on numbered_in next) (λ h told. refl)
    (if_numbered P next refuses so (λ given. so given.number)))))))

pub looks_up : (plan : Plan) (session : BegunSession) (parent : ℕ) (name : List ℕ) (next : Looked → RequestTree) →
    ((looked : Looked) → Yields (next looked)) → Yields (look_up plan session parent name next)
unfolding look_up
looks_up plan session parent name next so =
    brackets _ (
    resolves parent _ (λ directory.
    files directory.form _ (λ dir.
    calls_fd (call.OpenAt dir name by_path 0) _ (λ fd.
    stats fd _ (λ told.
    numbers session (File fd) told _ (λ number.
    shuts true _ (so (looked_of plan session directory.ids told number))))))))

-- a name that is none, an offset that is none
pub names : (name : List ℕ) (next : RequestTree) → Yields next → Yields (named name next)
unfolding named
names name next so = checks (is_bad_name name) (Gives (answer.Refused einval)) next (refuses_so einval) so

pub places : (offset : ℕ) (next : RequestTree) → Yields next → Yields (placed offset next)
unfolding placed
places offset next so = checks (is_bad_offset offset) (Gives (answer.Refused einval)) next (refuses_so einval) so

-- a handle is drawn, takes its slot and is inserted, for what was opened
pub gets_handle : (session : BegunSession) (number : ℕ) (fd : Fd) (next : ℕ → RequestTree) →
    ((handle : ℕ) → Hands handle (next handle)) →
    Yields (draw_handle (λ handle. take_fd (insert_handle session handle number fd (next handle))))
gets_handle session number fd next so =
    draws_handle _ (λ handle.
    takes _ (inserts_handle session handle number fd (next handle) (so handle)))

pub reopens : (form : RowForm) (flags : ℕ) (next : Fd → RequestTree) → ((fd : Fd) → Yields (next fd)) →
    Yields (open_form form flags next)
reopens (File fd) flags next so = calls_fd (call.Reopen fd (without_nofollow flags)) next so

pub sets_on : (asked : Call) (scope : Hold) (next : RequestTree) → Yields next →
    Yields (Opens asked scope (on ok_in (λ done. next)))
sets_on asked scope next so = opens asked scope (on ok_in (λ done. next)) (if_set P next refuses (λ told. so))

pub good : (can : Bool) (one other : RequestTree) → Yields one → Yields other → Yields (if can then one else other)
good true one other so also = so
good false one other so also = also

-- what keeps it in a scope keeps it in none
pub without : (dropped : Bool) (next : RequestTree) → Yields next → Yields (without_fsetid dropped next)
without true next so = sets_on (call.DropCap fsetid) (hold.Dropped fsetid) next so
without false next so = so

-- and what keeps it where a file loses its capabilities
pub clears_capability : (name : Option (List ℕ)) (fd : Fd) (through : Bool) (next : RequestTree) → Yields next →
    Yields (capability_cleared name fd through next)
clears_capability None fd through next so = so
clears_capability (Some name) fd through next so =
    asks (Calls (call.RemoveXattr fd through name)) (on gone_in (λ done. next)) (λ h told. refl)
    (if_gone P next refuses (λ told. so))

clears_if : (emptied : Bool) (name : Option (List ℕ)) (fd : Fd) (next : RequestTree) → Yields next →
    Yields (cleared_if emptied name fd next)
clears_if false name fd next so = so
clears_if true name fd next so = clears_capability name fd false next so

pub opens_row : (row : Resolved) (flags : ℕ) (next : Fd → RequestTree) → ((fd : Fd) → Yields (next fd)) →
    Yields (open_row row flags next)
unfolding open_row
opens_row row flags next so =
    good (can_open row.mode) (open_form row.form flags next) (Gives (answer.Refused ebadf))
    (reopens row.form flags next so) (refuses_so ebadf)

pub opens_inode : (plan : Plan) (session : BegunSession) (number flags : ℕ) (next : Fd → RequestTree) →
    ((fd : Fd) → Yields (next fd)) → Yields (open_inode plan session number flags next)
opens_inode plan session number flags next so =
    resolves number _ (λ row. opens_row row (inode_flags plan.config session.agreed flags) next so)

pub opens_num : (plan : Plan) (seat : HostSeat) (session : BegunSession) (number : ℕ) (kill : Bool) (flags : ℕ)
    (next : ℕ → RequestTree) → ((handle : ℕ) → Hands handle (next handle)) →
    Yields (open_num plan seat session number kill flags next)
opens_num plan seat session number kill flags next so =
    brackets _ (
    without (drops_fsetid plan seat kill) _ (
    opens_inode plan session number (cleaned plan.config flags) _ (λ fd.
    bares _ (
    clears_if (includes flags o_trunc) plan.capability fd _ (
    gets_handle session number fd (λ handle. Shuts false (next handle)) (λ handle.
    hands_shut handle false (next handle) (so handle)))))))

pub opens_shared : (plan : Plan) (session : BegunSession) (agreed : Option Negotiated) (next : RequestTree) →
    Yields next →
    Yields (root_open plan session agreed next)
opens_shared plan session agreed next so =
    calls_fd (call.OpenRoot plan.config.root_dir by_path) _ (λ fd.
    stats fd _ (λ told.
    takes _ (
    asks (Changes (change.InsertRoot (new_root_of session.era (File fd) told agreed))) (on inserted_in (λ done. next))
    (λ h told. refl)
    (if_inserted P next refuses (λ number. so)))))
