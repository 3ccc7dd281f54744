-- What holds of plain answers and refusals, and passes through each step that is no call on the seat and through a
-- making as whoever asks, holds of each request.
use Rattle.std.proofs.Common.{◌≡◌, ℕ, Bool, true, false, ◌&&◌, List, Option, Some, None, refl, sym, subst, Result, Ok}
use Rattle.std.proofs.Common.{Err, if◌then◌else◌}
use Rattle.pt_host.specs.Call.{Call}
use Rattle.pt_host.specs.Errno.{eio, eperm, ebadf, einval, eopnotsupp, eproto, errno_of}
use Rattle.pt_host.specs.declared.ids.Errno.{Errno}
use Rattle.pt_host.specs.Flags.{includes, o_creat, o_trunc}
use Rattle.pt_host.specs.declared.ids.Fd.{Fd}
use Rattle.pt_host.specs.declared.ids.ObjIds.{ObjIds}
use Rattle.pt_host.specs.declared.handle.FileHandle.{FileHandle}
use Rattle.pt_host.specs.declared.seat.HostSeat.{HostSeat}
use Rattle.pt_host.specs.declared.stat.Stat.{Stat}
use Rattle.pt_host.specs.declared.flags.OpenFlags.{OpenFlags}
use Rattle.pt_host.specs.declared.op.KeptHostOp.TheVariants as call
use Rattle.pt_host.specs.declared.reply.HostReply.TheVariants as host
use Rattle.pt_maps.specs.MappedNames.{client_name}
use Rattle.pt_maps.specs.declared.xattr_map.AppliedRule.{AppliedRule}
use Rattle.pt_maps.specs.declared.xattr_map.AppliedRule.TheVariants as applied
use Rattle.pt_maps.specs.declared.xattr_rule.XattrRule.{XattrRule}
use Rattle.pt_creds.specs.Identity.{Credentials}
use Rattle.pt_creds.specs.Steps.{cred_steps}
use Rattle.pt_tables.specs.declared.form.RowForm.{RowForm}
use Rattle.pt_tables.specs.declared.form.RowForm.TheVariants.{File}
use Rattle.pt_tables.specs.declared.form.Negotiated.{Negotiated}
use Rattle.pt_tables.specs.declared.event.KeptEvent.TheVariants as change
use Rattle.pt_iface.specs.declared.answer.Answer.{Answer}
use Rattle.pt_iface.specs.declared.answer.Answer.TheVariants as answer
use Rattle.pt_iface.specs.declared.flags.FsOptions.{FsOptions}
use Rattle.pt_iface.specs.declared.request.Context.{Context}
use Rattle.pt_iface.specs.declared.request.SecContext.{SecContext}
use Rattle.pt_frame.specs.Deed.{Deed, Calls, Changes, lacks_memory}
use Rattle.pt_frame.specs.Replies.{bytes_of, is_cut, closings_in, passes_with}
use Rattle.pt_frame.specs.Sparing.{IsNoMemory}
use Rattle.pt_frame.specs.Tended.{is_of_seat}
use Rattle.pt_frame.specs.Tree.{RequestTree, Gives, Refuses, Asks, Opens, Bares, Brackets, Shuts, Allocates, on}
use Rattle.pt_frame.specs.Tree.{by_bytes}
use Rattle.pt_frame.specs.declared.act.ActReply.{ActReply}
use Rattle.pt_frame.specs.declared.act.ActReply.TheVariants.{Event, Host, NoCopy}
use Rattle.pt_frame.specs.declared.product.Product.{Product}
use Rattle.pt_frame.specs.declared.product.Product.TheVariants as product
use Rattle.pt_tables.specs.Tables.{nothing_agreed}
use Rattle.pt_req.specs.Options.{cleaned, inode_flags, is_short_of, agreed_with, init_options, open_options}
use Rattle.pt_req.specs.Options.{without_nofollow}
use Rattle.pt_req.specs.Steps.{session_of, began_in, cleared_in, resolved_in, fd_in, gone_in, tried_in, claim_of}
use Rattle.pt_req.specs.Steps.{new_row_of, new_root_of, new_handle_of, stat_in, claimed_in, taken_in, drawn_in}
use Rattle.pt_req.specs.Steps.{numbered_in, inserted_in, pinned_in, done_in, begin, clear, resolve, open_root, open_at}
use Rattle.pt_req.specs.Steps.{reopen, stat, read_at, claim, take_fd, draw_node, draw_handle, insert, insert_root}
use Rattle.pt_req.specs.Steps.{insert_handle, pin_handle, forget_all, release_handle}
use Rattle.pt_req.specs.Attributes.{Label, by_rule, by_rules, host_label, host_name, is_blocked}
use Rattle.pt_req.specs.Capability.{capability_cleared, cleared_if, fsetid, drops_fsetid, without_fsetid}
use Rattle.pt_req.specs.Entries.{is_bad_name, is_bad_offset, can_open}
use Rattle.pt_req.specs.Parts.{by_path, named, placed, file_of, open_form, open_row, numbered_as, numbered, looked_of}
use Rattle.pt_req.specs.Parts.{look_up, handled, open_inode, open_num, root_open}
use Rattle.pt_req.specs.Asker.{taken_on, as_asker, asker_of, umask_of, under_umask}
use Rattle.pt_req.specs.Requests.{init_answer, init, destroy, root, lookup, batch_forget, open_file, release, read}
use Rattle.pt_req.specs.Requests.{unserved}
use Rattle.pt_req.specs.declared.begun.BegunSession.{BegunSession}
use Rattle.pt_req.specs.declared.parts.looked.Looked.{Looked}
use Rattle.pt_req.specs.declared.plan.Plan.{Plan}
use Rattle.pt_tables.specs.declared.reply.Resolved.{Resolved}
use Rattle.pt_req.proofs.Replying.{if_began, if_cleared, if_resolved, if_fd, if_stat, if_bytes, if_claimed, if_taken}
use Rattle.pt_req.proofs.Replying.{if_gone, if_drawn, if_numbered, if_inserted, if_pinned, if_done}

-- an answer that is neither given up nor cut
abbrev pub IsPlain : Answer → Type 0
IsPlain last = (is_cut last ≡ false) × (IsNoMemory last → ⊥)

-- an object may be made by it
abbrev pub is_making : Deed → Bool
is_making (Calls (call.OpenAt dir name flags mode)) = includes flags.0 o_creat
is_making (Calls (call.MakeDir dir name mode)) = true
is_making (Calls (call.MakeNode dir name mode rdev)) = true
is_making (Calls (call.SymLink dir name target)) = true
is_making deed = false

-- What has to hold of a call by which set-id bits or a file's capabilities may go, made without the capability or with
-- it, and of the event that says what is agreed on. No other call is made without the capability.
abbrev pub OfDeed : (Bool → Deed → Type 0) → Bool → Deed → Type 0
OfDeed D dropped (Calls (call.Reopen fd flags)) = D dropped (Calls (call.Reopen fd flags))
OfDeed D dropped (Calls (call.WriteAt fd offset bytes append)) =
    D dropped (Calls (call.WriteAt fd offset bytes append))
OfDeed D dropped (Calls (call.Truncate fd size)) = D dropped (Calls (call.Truncate fd size))
OfDeed D dropped (Calls (call.RemoveXattr fd through name)) = D dropped (Calls (call.RemoveXattr fd through name))
OfDeed D dropped (Calls asked) = dropped ≡ false
OfDeed D dropped (Changes (change.InsertRoot new)) = D dropped (Changes (change.InsertRoot new))
OfDeed D dropped (Changes asked) = Unit {0}

-- Such a fact of a tree under a scope, behind this reply, until the scope ends: what ends the request before is a
-- refusal.
abbrev pub InScope : (Bool → Deed → Type 0) → Bool → (RequestTree → Type 0) → ActReply → RequestTree → Type 0
InScope D dropped Q told (Gives last) = IsPlain last × (passes_with last ≡ false)
InScope D dropped Q told (Refuses same) = same ≡ told
InScope D dropped Q told (Asks deed next) =
    (is_of_seat deed ≡ false) × (is_making deed ≡ false) × OfDeed D dropped deed
    × ((later : ActReply) → closings_in deed later ≡ 0)
    × ((later : ActReply) → InScope D dropped Q later (next later))
InScope D dropped Q told (Bares rest) = Q rest
InScope D dropped Q told (Opens asked scope next) = ⊥
InScope D dropped Q told (Brackets rest) = ⊥
InScope D dropped Q told (Shuts passes rest) = ⊥
InScope D dropped Q told (Allocates made next) = ⊥

-- whatever is replied before
abbrev pub Scoped : (Bool → Deed → Type 0) → Bool → (RequestTree → Type 0) → RequestTree → Type 0
Scoped D dropped Q tree = (told : ActReply) → InScope D dropped Q told tree

-- Such a fact: of trees of jobs that begin with this seat, and of trees after a reply; and what has to hold of a
-- making, and of each deed of which more is asked.
pub record Walk
    (seat : HostSeat)
    (M : Credentials → Option ℕ → Type 0)
    (D : Bool → Deed → Type 0)
    (Q : RequestTree → Type 0)
    (R : ActReply → RequestTree → Type 0)
    : Type 0 where
  pub gives : (last : Answer) → IsPlain last → Q (Gives last)
  pub refuses : (told : ActReply) → R told (Refuses told)
  pub had : (told : ActReply) (tree : RequestTree) → Q tree → R told tree
  pub asks : (deed : Deed) (next : ActReply → RequestTree) → is_of_seat deed ≡ false → is_making deed ≡ false →
      OfDeed D false deed → ((told : ActReply) → R told (next told)) → Q (Asks deed next)
  -- memory ran out, and that is answered behind one more deed
  pub ran_out : (told : ActReply) (deed : Deed) → lacks_memory told ≡ true → is_of_seat deed ≡ false →
      is_making deed ≡ false → OfDeed D false deed → R told (Asks deed (on tried_in (λ done. Gives answer.NoMemory)))
  pub brackets : (rest : RequestTree) → Q rest → Q (Brackets rest)
  pub shuts : (passes : Bool) (rest : RequestTree) → Q rest → Q (Shuts passes rest)
  -- a bracket ends behind a reply
  pub shuts_after : (told : ActReply) (passes : Bool) (rest : RequestTree) → R told rest → R told (Shuts passes rest)
  pub makes_as : (creds : Credentials) (umask : Option ℕ) (making : Call) (next : ActReply → RequestTree) →
      is_making (Calls making) ≡ true → M creds umask → ((told : ActReply) → R told (next told)) →
      Q (taken_on (cred_steps creds seat) (under_umask umask (Asks (Calls making) (λ told. Bares (next told)))))
  -- no scope is open
  pub bares : (rest : RequestTree) → Q rest → Q (Bares rest)
  -- the capability is dropped, which is effective
  pub drops : (rest : RequestTree) → includes seat.eff_caps.0 fsetid.0 ≡ true → Scoped D true Q rest →
      Q (without_fsetid true rest)

-- it holds of what takes memory, where it holds of what follows
abbrev pub OfMade : (RequestTree → Type 0) → Type 0
OfMade Q = (made : Product) (next : Product → RequestTree) → ((kept : Product) → Q (next kept)) →
    Q (Allocates made next)

-- likewise where a context is brought
abbrev pub OfLabel : (RequestTree → Type 0) → Option SecContext → Type 0
OfLabel Q None = Unit {0}
OfLabel Q (Some label) = OfMade Q

-- it holds of whoever asks in this session, who tells this group and this umask
abbrev pub OfAskerIn :
    (Credentials → Option ℕ → Type 0) → Plan → BegunSession → Context → Option ℕ → Option ℕ → Type 0
OfAskerIn M plan session who group umask =
    (creds : Credentials) → asker_of plan session who group ≡ Some creds → M creds (umask_of session umask)

-- and in every session
abbrev pub OfAsker : (Credentials → Option ℕ → Type 0) → Plan → Context → Option ℕ → Option ℕ → Type 0
OfAsker M plan who group umask = (session : BegunSession) → OfAskerIn M plan session who group umask

-- what has to hold of each opening of a request
abbrev pub OfOpening : (Bool → Deed → Type 0) → Bool → Type 0
OfOpening D dropped = (fd : Fd) (how : OpenFlags) → D dropped (Calls (call.Reopen fd how))

-- of each removal of an attribute, by a descriptor alone or through its link in `/proc`
abbrev pub OfRemoval : (Bool → Deed → Type 0) → Bool → Bool → Type 0
OfRemoval D dropped through = (fd : Fd) (name : List ℕ) → D dropped (Calls (call.RemoveXattr fd through name))

-- and of an opening by which a file may be emptied
abbrev pub OfEmptying : (Bool → Deed → Type 0) → Bool → Type 0
OfEmptying D dropped = OfOpening D dropped × OfRemoval D false false

-- and of what it says to be agreed on, with the root
abbrev pub OfRoot : (Bool → Deed → Type 0) → Option Negotiated → Type 0
OfRoot D said =
    (era : ℕ) (form : RowForm) (told : Stat) → D false (Changes (change.InsertRoot (new_root_of era form told said)))

-- under a scope a number is looked up
module _ (D : Bool → Deed → Type 0) (dropped : Bool) (Q : RequestTree → Type 0) where
  pub in_resolves : (number : ℕ) (next : Resolved → RequestTree) →
      ((row : Resolved) → Scoped D dropped Q (next row)) → Scoped D dropped Q (resolve number next)
  in_resolves number next so = λ told. (
    refl,
    refl,
    tt,
    closes,
    if_resolved (InScope D dropped Q) next (λ later. refl) (λ row. so row _),
  )
    where
      closes : (later : ActReply) → closings_in (Changes (change.Resolve number)) later ≡ 0
      closes (Event told) = refl
      closes (Host told) = refl
      closes NoCopy = refl

  -- a check refuses
  pub in_checked : (is_good : Bool) (next : RequestTree) (errno : Errno) → Scoped D dropped Q next →
      Scoped D dropped Q (if is_good then next else Gives (answer.Refused errno))
  in_checked true next errno so = so
  in_checked false next errno so = λ told. ((refl, λ out. out), refl)

  -- an object is opened, and the scope ends
  pub in_opens_form : (form : RowForm) (flags : ℕ) (next : Fd → RequestTree) → OfOpening D dropped →
      ((fd : Fd) → Q (next fd)) → Scoped D dropped Q (open_form form flags (λ fd. Bares (next fd)))
  in_opens_form (File fd) flags next may so = λ told. (
    refl,
    refl,
    may fd (without_nofollow flags),
    λ later. refl,
    if_fd (InScope D dropped Q) (λ fd. Bares (next fd)) (λ later. refl) so,
  )

  pub in_opens_row : (row : Resolved) (flags : ℕ) (next : Fd → RequestTree) → OfOpening D dropped →
      ((fd : Fd) → Q (next fd)) → Scoped D dropped Q (open_row row flags (λ fd. Bares (next fd)))
  unfolding open_row
  in_opens_row row flags next may so =
      in_checked (can_open row.mode) _ ebadf (in_opens_form row.form flags next may so)

  -- a file's capabilities go
  pub in_clears : (name : Option (List ℕ)) (fd : Fd) (through : Bool) (next : RequestTree) →
      OfRemoval D dropped through → Scoped D dropped Q next →
      Scoped D dropped Q (capability_cleared name fd through next)
  in_clears None fd through next may so = so
  in_clears (Some name) fd through next may so = λ told. (
    refl,
    refl,
    may fd name,
    (λ later. refl),
    if_gone (InScope D dropped Q) next (λ later. refl) (λ later. so (Host later)),
  )

third : (one other last : Bool) → (one && other && last) ≡ true → last ≡ true
third true true last e = e
third true false last e = absurd (cc)
third false other last e = absurd (cc)

module _
    {seat : HostSeat}
    {M : Credentials → Option ℕ → Type 0}
    {D : Bool → Deed → Type 0}
    {Q : RequestTree → Type 0}
    {R : ActReply → RequestTree → Type 0}
    (w : Walk seat M D Q R)
  where
    pub begins : (next : BegunSession → RequestTree) → ((session : BegunSession) → Q (next session)) → Q (begin next)
    begins next so = w.asks (Changes change.Begin) (on began_in next) refl refl tt
        (if_began R next w.refuses (λ era agreed. w.had _ _ (so (session_of era agreed))))

    pub clears : (next : ℕ → RequestTree) → ((era : ℕ) → Q (next era)) → Q (clear next)
    clears next so = w.asks (Changes change.Clear) (on cleared_in next) refl refl tt
        (if_cleared R next w.refuses (λ era closings. w.had _ _ (so era)))

    pub resolves : (number : ℕ) (next : Resolved → RequestTree) → ((row : Resolved) → Q (next row)) →
        Q (resolve number next)
    resolves number next so = w.asks (Changes (change.Resolve number)) (on resolved_in next) refl refl tt
        (if_resolved R next w.refuses (λ row. w.had _ _ (so row)))

    pub opens_root : (dir : List ℕ) (flags : OpenFlags) (next : Fd → RequestTree) → ((fd : Fd) → Q (next fd)) →
        Q (open_root dir flags next)
    opens_root dir flags next so = w.asks (Calls (call.OpenRoot dir flags)) (on fd_in next) refl refl refl
        (if_fd R next w.refuses (λ fd. w.had _ _ (so fd)))

    pub opens_at : (dir : Fd) (name : List ℕ) (flags : OpenFlags) (next : Fd → RequestTree) →
        includes flags.0 o_creat ≡ false → ((fd : Fd) → Q (next fd)) → Q (open_at dir name flags next)
    opens_at dir name flags next none so = w.asks (Calls (call.OpenAt dir name flags 0)) (on fd_in next) refl none refl
        (if_fd R next w.refuses (λ fd. w.had _ _ (so fd)))

    pub reopens : (fd : Fd) (flags : OpenFlags) (next : Fd → RequestTree) → D false (Calls (call.Reopen fd flags)) →
        ((fd : Fd) → Q (next fd)) → Q (reopen fd flags next)
    reopens fd flags next may so = w.asks (Calls (call.Reopen fd flags)) (on fd_in next) refl refl may
        (if_fd R next w.refuses (λ fd. w.had _ _ (so fd)))

    pub stats : (fd : Fd) (next : Stat → RequestTree) → ((told : Stat) → Q (next told)) → Q (stat fd next)
    stats fd next so = w.asks (Calls (call.Stat fd)) (on stat_in next) refl refl refl
        (if_stat R next w.refuses (λ told. w.had _ _ (so told)))

    pub reads_at : (fd : Fd) (offset size : ℕ) (next : List ℕ → RequestTree) → ((bytes : List ℕ) → Q (next bytes)) →
        Q (read_at fd offset size next)
    reads_at fd offset size next so = w.asks (Calls (call.ReadAt fd offset size)) (on bytes_of next) refl refl refl
        (if_bytes R next w.refuses (λ bytes. w.had _ _ (so bytes)))

    pub claims : (session : BegunSession) (handle : Option FileHandle) (ids : ObjIds) (next : Option ℕ → RequestTree) →
        ((given : Option ℕ) → Q (next given)) → Q (claim session handle ids next)
    claims session handle ids next so =
        w.asks (Changes (change.Claim (claim_of session.era handle ids))) (on claimed_in next) refl refl tt
        (if_claimed R next w.refuses (λ given. w.had _ _ (so (Some given.number))) (w.had _ _ (so None)))

    pub takes : (next : RequestTree) → Q next → Q (take_fd next)
    takes next so = w.asks (Changes (change.TakeFd 0)) (on taken_in (λ done. next)) refl refl tt
        (if_taken R next w.refuses (w.had _ _ so))

    pub draws_node : (next : ℕ → RequestTree) → ((number : ℕ) → Q (next number)) → Q (draw_node next)
    draws_node next so = w.asks (Changes change.DrawNode) (on drawn_in next) refl refl tt
        (if_drawn R next w.refuses (λ number. w.had _ _ (so number)))

    pub draws_handle : (next : ℕ → RequestTree) → ((number : ℕ) → Q (next number)) → Q (draw_handle next)
    draws_handle next so = w.asks (Changes change.DrawHandle) (on drawn_in next) refl refl tt
        (if_drawn R next w.refuses (λ number. w.had _ _ (so number)))

    pub inserts : (session : BegunSession) (fresh : ℕ) (form : RowForm) (told : Stat) (next : ℕ → RequestTree) →
        ((number : ℕ) → Q (next number)) → Q (insert session fresh form told next)
    inserts session fresh form told next so =
        w.asks (Changes (change.Insert (new_row_of session.era fresh form told))) (on numbered_in next) refl refl tt
        (if_numbered R next w.refuses (λ number. w.had _ _ (so number)) (λ given. w.had _ _ (so given.number)))

    pub inserts_root : (session : BegunSession) (form : RowForm) (told : Stat) (agreed : Option Negotiated)
        (next : RequestTree) → OfRoot D agreed → Q next → Q (insert_root session form told agreed next)
    inserts_root session form told agreed next may so =
        w.asks (Changes (change.InsertRoot (new_root_of session.era form told agreed))) (on inserted_in (λ done. next))
        refl refl (may session.era form told)
        (if_inserted R next w.refuses (λ number. w.had _ _ so))

    pub inserts_handle : (session : BegunSession) (handle number : ℕ) (fd : Fd) (next : RequestTree) → Q next →
        Q (insert_handle session handle number fd next)
    inserts_handle session handle number fd next so =
        w.asks (Changes (change.InsertHandle (new_handle_of session.era handle number fd)))
        (on inserted_in (λ done. next)) refl refl tt
        (if_inserted R next w.refuses (λ handle. w.had _ _ so))

    pub pins : (handle number : ℕ) (next : Fd → RequestTree) → ((fd : Fd) → Q (next fd)) →
        Q (pin_handle handle number next)
    pins handle number next so = w.asks (Changes (change.PinHandle handle number)) (on pinned_in next) refl refl tt
        (if_pinned R next w.refuses (λ row fd. w.had _ _ (so fd)))

    pub forgets : (list : List (ℕ × ℕ)) (next : RequestTree) → Q next → Q (forget_all list next)
    forgets list next so = w.asks (Changes (change.Forget list)) (on done_in (λ done. next)) refl refl tt
        (if_done R next w.refuses (λ closings. w.had _ _ so))

    pub releases : (handle number : ℕ) (next : RequestTree) → Q next → Q (release_handle handle number next)
    releases handle number next so =
        w.asks (Changes (change.Release handle number)) (on done_in (λ done. next)) refl refl tt
        (if_done R next w.refuses (λ closings. w.had _ _ so))

    -- a check refuses at once
    pub checks : (is_bad : Bool) (refused next : RequestTree) → Q refused → Q next →
        Q (if is_bad then refused else next)
    checks true refused next bad so = bad
    checks false refused next bad so = so

    pub checked : (is_good : Bool) (next refused : RequestTree) → Q next → Q refused →
        Q (if is_good then next else refused)
    checked true next refused so bad = so
    checked false next refused so bad = bad

    pub files : (form : RowForm) (next : Fd → RequestTree) → ((fd : Fd) → Q (next fd)) → Q (file_of form next)
    files (File fd) next so = so fd

    pub opens_form : (form : RowForm) (flags : ℕ) (next : Fd → RequestTree) → OfOpening D false →
        ((fd : Fd) → Q (next fd)) → Q (open_form form flags next)
    opens_form (File fd) flags next may so = reopens fd _ next (may fd _) so

    pub opens_row : (row : Resolved) (flags : ℕ) (next : Fd → RequestTree) → OfOpening D false →
        ((fd : Fd) → Q (next fd)) → Q (open_row row flags next)
    unfolding open_row
    opens_row row flags next may so =
        checked (can_open row.mode) _ _ (opens_form row.form flags next may so)
        (w.gives (answer.Refused ebadf) (refl, λ out. out))

    pub opens_inode : (plan : Plan) (session : BegunSession) (number flags : ℕ) (next : Fd → RequestTree) →
        OfOpening D false → ((fd : Fd) → Q (next fd)) → Q (open_inode plan session number flags next)
    opens_inode plan session number flags next may so =
        resolves number _ (λ row. opens_row row (inode_flags plan.config session.agreed flags) next may so)

    numbers_as : (session : BegunSession) (form : RowForm) (told : Stat) (given : Option ℕ) (next : ℕ → RequestTree) →
        ((number : ℕ) → Q (next number)) → Q (numbered_as session form told given next)
    numbers_as session form told None next so =
        takes _ (draws_node _ (λ fresh. inserts session fresh form told next so))
    numbers_as session form told (Some number) next so = so number

    pub numbers : (session : BegunSession) (form : RowForm) (told : Stat) (next : ℕ → RequestTree) →
        ((number : ℕ) → Q (next number)) → Q (numbered session form told next)
    numbers session form told next so =
        claims session None told.ids _ (λ given. numbers_as session form told given next so)

    pub looks_up : (plan : Plan) (session : BegunSession) (parent : ℕ) (name : List ℕ) (next : Looked → RequestTree) →
        ((looked : Looked) → Q (next looked)) → Q (look_up plan session parent name next)
    unfolding look_up
    looks_up plan session parent name next so =
        w.brackets _ (
        resolves parent _ (λ directory.
        files directory.form _ (λ dir.
        opens_at dir name by_path _ refl (λ fd.
        stats fd _ (λ told.
        numbers session (File fd) told _ (λ number.
        w.shuts true _ (so (looked_of plan session directory.ids told number))))))))

    pub refuses_so : (errno : Errno) → Q (Gives (answer.Refused errno))
    refuses_so errno = w.gives (answer.Refused errno) (refl, λ out. out)

    pub names : (name : List ℕ) (next : RequestTree) → Q next → Q (named name next)
    unfolding named
    names name next so = checks (is_bad_name name) _ _ (refuses_so einval) so

    pub places : (offset : ℕ) (next : RequestTree) → Q next → Q (placed offset next)
    unfolding placed
    places offset next so = checks (is_bad_offset offset) _ _ (refuses_so einval) so

    -- what holds under a scope holds under none
    behind_reply : (told : ActReply) (tree : RequestTree) → InScope D false Q told tree → R told tree
    behind_reply told (Gives last) so = w.had told (Gives last) (w.gives last so.0)
    behind_reply told (Refuses same) so = subst (λ it. R told (Refuses it)) (sym so) (w.refuses told)
    behind_reply told (Asks deed next) so = w.had told (Asks deed next)
        (w.asks deed next so.0 so.1 so.2 (λ later. behind_reply later (next later) (so.4 later)))
    behind_reply told (Bares rest) so = w.had told (Bares rest) (w.bares rest so)
    behind_reply told (Opens asked scope next) so = absurd so
    behind_reply told (Brackets rest) so = absurd so
    behind_reply told (Shuts passes rest) so = absurd so
    behind_reply told (Allocates made next) so = absurd so

    unscoped : (tree : RequestTree) → Scoped D false Q tree → Q tree
    unscoped (Gives last) so = w.gives last (so NoCopy).0
    unscoped (Refuses same) so = absurd (both same (so NoCopy) (so (Host host.NoMemory)))
      where
        both : (it : ActReply) → it ≡ NoCopy → it ≡ Host host.NoMemory → ⊥
        both it e f = absurd (cc)
    unscoped (Asks deed next) so = w.asks deed next (so NoCopy).0 (so NoCopy).1 (so NoCopy).2
        (λ later. behind_reply later (next later) ((so NoCopy).4 later))
    unscoped (Bares rest) so = w.bares rest (so NoCopy)
    unscoped (Opens asked scope next) so = absurd (so NoCopy)
    unscoped (Brackets rest) so = absurd (so NoCopy)
    unscoped (Shuts passes rest) so = absurd (so NoCopy)
    unscoped (Allocates made next) so = absurd (so NoCopy)

    -- by the host's name of an attribute
    by_rule_so : (may : OfMade Q) (fate : Option AppliedRule) (next : Result (List ℕ) Errno → RequestTree) →
        ((name : Result (List ℕ) Errno) → Q (next name)) → Q (by_rule fate next)
    by_rule_so may (Some (applied.Pass made)) next so =
        may (product.Bytes made) (by_bytes (λ kept. next (Ok kept))) by
      where
        by : (kept : Product) → Q (by_bytes (λ name. next (Ok name)) kept)
        by (product.Bytes bytes) = so (Ok bytes)
        by (product.Entries entries) = refuses_so eio
    by_rule_so may (Some applied.Deny) next so = so (Err eperm)
    by_rule_so may (Some applied.Unsupported) next so = so (Err eopnotsupp)
    by_rule_so may None next so = so (Err eopnotsupp)

    by_rules_so : (may : OfMade Q) (rules : Option (List XattrRule)) (name : List ℕ)
        (next : Result (List ℕ) Errno → RequestTree) → ((name : Result (List ℕ) Errno) → Q (next name)) →
        Q (by_rules rules name next)
    by_rules_so may None name next so = so (Ok name)
    by_rules_so may (Some rules) name next so = by_rule_so may (client_name rules name) next so

    pub names_host : (may : OfMade Q) (plan : Plan) (agreed : Negotiated) (name : List ℕ)
        (next : Result (List ℕ) Errno → RequestTree) → ((name : Result (List ℕ) Errno) → Q (next name)) →
        Q (host_name plan agreed name next)
    unfolding host_name
    names_host may plan agreed name next so =
        checks (is_blocked agreed name) _ _ (so (Err eopnotsupp)) (by_rules_so may plan.config.xattrmap name next so)

    -- without the capability, where it is to be dropped
    pub drops_if : (plan : Plan) (kill : Bool) (rest : RequestTree) →
        Scoped D (drops_fsetid plan seat kill) Q rest → Q (without_fsetid (drops_fsetid plan seat kill) rest)
    drops_if plan kill rest so =
        either (drops_fsetid plan seat kill)
        (third plan.config.killpriv_v2 kill (includes seat.eff_caps.0 fsetid.0)) so
      where
        either : (drops : Bool) → (drops ≡ true → includes seat.eff_caps.0 fsetid.0 ≡ true) →
            Scoped D drops Q rest → Q (without_fsetid drops rest)
        either true has so = w.drops rest (has refl) so
        either false has so = unscoped rest so

    pub clears_capability : (name : Option (List ℕ)) (fd : Fd) (through : Bool) (next : RequestTree) →
        OfRemoval D false through → Q next → Q (capability_cleared name fd through next)
    clears_capability None fd through next may so = so
    clears_capability (Some name) fd through next may so =
        w.asks (Calls (call.RemoveXattr fd through name)) (on gone_in (λ done. next)) refl refl (may fd name)
        (if_gone R next w.refuses (λ told. w.had _ _ so))

    clears_if : (emptied : Bool) (name : Option (List ℕ)) (fd : Fd) (next : RequestTree) →
        OfRemoval D false false → Q next → Q (cleared_if emptied name fd next)
    clears_if false name fd next may so = so
    clears_if true name fd next may so = clears_capability name fd false next may so

    pub handles : (session : BegunSession) (number : ℕ) (fd : Fd) (next : ℕ → RequestTree) →
        ((handle : ℕ) → Q (next handle)) → Q (handled session number fd next)
    handles session number fd next so =
        draws_handle _ (λ handle. takes _ (inserts_handle session handle number fd _ (so handle)))

    pub opens_num : (plan : Plan) (session : BegunSession) (number : ℕ) (kill : Bool) (flags : ℕ)
        (next : ℕ → RequestTree) → OfEmptying D (drops_fsetid plan seat kill) → ((handle : ℕ) → Q (next handle)) →
        Q (open_num plan seat session number kill flags next)
    opens_num plan session number kill flags next may so =
        let dropped = drops_fsetid plan seat kill in
        w.brackets _ (
        drops_if plan kill _ (
        in_resolves D dropped Q number _ (λ row.
        in_opens_row D dropped Q row (inode_flags plan.config session.agreed (cleaned plan.config flags))
        (λ fd. cleared_if (includes flags o_trunc) plan.capability fd
        (handled session number fd (λ handle. Shuts false (next handle)))) may.0 (λ fd.
        clears_if (includes flags o_trunc) plan.capability fd _ may.1 (
        handles session number fd _ (λ handle. w.shuts false _ (so handle)))))))

    pub opens_shared : (plan : Plan) (session : BegunSession) (agreed : Option Negotiated) (next : RequestTree) →
        OfRoot D agreed → Q next → Q (root_open plan session agreed next)
    opens_shared plan session agreed next may so =
        opens_root plan.config.root_dir by_path _ (λ fd.
        stats fd _ (λ told.
        takes _ (
        inserts_root session (File fd) told agreed next may so)))

    -- as whoever asks, whose ids may be forbidden
    pub makes : (asker : Option Credentials) (umask : Option ℕ) (making : Call) (next : ActReply → RequestTree) →
        is_making (Calls making) ≡ true → ((creds : Credentials) → asker ≡ Some creds → M creds umask) →
        ((told : ActReply) → R told (next told)) →
        Q (as_asker seat asker (under_umask umask (Asks (Calls making) (λ told. Bares (next told)))))
    makes None umask making next is may so = refuses_so eperm
    makes (Some creds) umask making next is may so = w.makes_as creds umask making next is (may creds refl) so

    -- a context, by the host's name
    pub hosts_label : (plan : Plan) (agreed : Negotiated) (brought : Option SecContext)
        (next : Option Label → RequestTree) → OfLabel Q brought → ((label : Option Label) → Q (next label)) →
        Q (host_label plan agreed brought next)
    hosts_label plan agreed None next made so = so None
    hosts_label plan agreed (Some label) next made so = names_host made plan agreed label.name _ (λ name. so _)

    -- the requests
    pub inits : (plan : Plan) (capable : FsOptions) → OfRoot D (Some (agreed_with plan.config capable)) →
        Q (init plan capable)
    inits plan capable may =
        clears _ (λ era.
        opens_shared plan (session_of era nothing_agreed) (Some (agreed_with plan.config capable)) _ may (
        w.gives (init_answer plan.config capable) (is_plain (is_short_of plan.config capable))))
      where
        is_plain : (short : Bool) → IsPlain
            (if short then answer.Refused eproto else answer.Inited (init_options plan.config capable))
        is_plain true = (refl, λ out. out)
        is_plain false = (refl, λ out. out)

    pub destroys : Q destroy
    destroys = clears _ (λ era. w.gives answer.NoReply (refl, λ out. out))

    pub shares_root : (plan : Plan) → OfRoot D None → Q (begin (root plan))
    shares_root plan may =
        begins _ (λ session. opens_shared plan session None _ may (w.gives answer.Done (refl, λ out. out)))

    pub looks_up_name : (plan : Plan) (parent : ℕ) (name : List ℕ) → Q (begin (lookup plan parent name))
    looks_up_name plan parent name =
        begins _ (λ session.
        names name _ (
        looks_up plan session parent name _ (λ looked. w.gives (answer.Entry looked.entry) (refl, λ out. out))))

    pub forgets_all : (list : List (ℕ × ℕ)) → Q (begin (batch_forget list))
    forgets_all list = begins _ (λ session. forgets list _ (w.gives answer.NoReply (refl, λ out. out)))

    pub opens : (plan : Plan) (inode : ℕ) (kill : Bool) (flags : ℕ) → OfEmptying D (drops_fsetid plan seat kill) →
        Q (begin (open_file plan seat inode kill flags))
    opens plan inode kill flags may =
        begins _ (λ session.
        opens_num plan session inode kill flags _ may (λ handle.
        w.gives (answer.Opened handle (open_options plan.config flags)) (refl, λ out. out)))

    pub releases_it : (inode handle : ℕ) → Q (begin (release inode handle))
    releases_it inode handle = begins _ (λ session. releases handle inode _ (w.gives answer.Done (refl, λ out. out)))

    pub reads : (inode handle size offset : ℕ) → Q (begin (read inode handle size offset))
    reads inode handle size offset =
        begins _ (λ session.
        places offset _ (
        pins handle inode _ (λ fd.
        reads_at fd offset size _ (λ bytes. w.gives (answer.Read bytes) (refl, λ out. out)))))

    pub unserves : Q (begin unserved)
    unserves = begins _ (λ session. refuses_so (errno_of 38))
