-- Proof. `open`, `opendir`: a number's file gets a handle, which is open on the number's object.
use Rattle.std.proofs.Common.{◌≡◌, ◌≢◌, ◌⊎◌, inl, inr, ℕ, suc, ◌+◌, ◌<◌, ◌≤◌, List, Bool, true, false, Option, Some}
use Rattle.std.proofs.Common.{None, refl, sym, ap, subst, ◌∙◌, arith, ⊎_elim, cond}
use Rattle.std.proofs.lemmas.Bool.{cases_eq, eq-eqb}
use Rattle.pt_host.specs.Call.{Call}
use Rattle.pt_host.specs.Errno.{ebadf}
use Rattle.pt_host.specs.Flags.{includes, o_trunc}
use Rattle.pt_host.specs.Words.{set_at}
use Rattle.pt_host.specs.declared.ids.Fd.{Fd}
use Rattle.pt_host.specs.declared.ids.Errno.{Errno}
use Rattle.pt_host.specs.declared.seat.HostSeat.{HostSeat}
use Rattle.pt_host.specs.declared.op.KeptHostOp.TheVariants as call
use Rattle.pt_tables.specs.Change.{Change}
use Rattle.pt_tables.specs.Happens.{new_handle, with_handle}
use Rattle.pt_tables.specs.declared.event.KeptEvent.TheVariants as change
use Rattle.pt_tables.specs.declared.event.NewHandle.{NewHandle}
use Rattle.pt_tables.specs.declared.form.RowForm.{RowForm}
use Rattle.pt_tables.specs.declared.form.RowForm.TheVariants.{File}
use Rattle.pt_tables.specs.declared.reply.EventReply.TheVariants as event
use Rattle.pt_tables.specs.declared.reply.Resolved.{Resolved}
use Rattle.pt_tables.proofs.Cases.{cases}
use Rattle.pt_iface.specs.declared.answer.Answer.{Answer}
use Rattle.pt_iface.specs.declared.answer.Answer.TheVariants as answer
use Rattle.pt_frame.specs.Deed.{Calls, Changes}
use Rattle.pt_frame.specs.Replies.{closings_in}
use Rattle.pt_frame.specs.Tree.{RequestTree, Gives, Refuses, Asks, Bares, Shuts, on, go_on}
use Rattle.pt_frame.specs.declared.act.ActReply.{ActReply}
use Rattle.pt_frame.specs.declared.act.ActReply.TheVariants.{Event, Host, NoCopy}
use Rattle.pt_frame.specs.declared.finish.Finish.TheVariants as finish
use Rattle.pt_frame.specs.declared.hold.Hold.{Hold}
use Rattle.pt_frame.specs.declared.hold.Hold.TheVariants as hold
use Rattle.pt_req.specs.Capability.{cleared_if, drops_fsetid, fsetid, without_fsetid}
use Rattle.pt_req.specs.Entries.{can_open}
use Rattle.pt_req.specs.Options.{cleaned, inode_flags, open_options, without_nofollow}
use Rattle.pt_req.specs.Parts.{handled as gets_handle, open_form, open_inode, open_num, open_row}
use Rattle.pt_req.specs.Requests.{open_file}
use Rattle.pt_req.specs.Steps.{begin, draw_handle, drawn_in, fd_in, gone_in, insert_handle, inserted_in}
use Rattle.pt_req.specs.Steps.{new_handle_of, ok_in, open_scope, take_fd}
use Rattle.pt_req.specs.declared.begun.BegunSession.{BegunSession}
use Rattle.pt_req.specs.declared.plan.Plan.{Plan}
use Rattle.pt_law.specs.Settled.{entry_count}
use Rattle.pt_law.specs.World.{made, turn_by, World, Goes, fd_of}
use Rattle.pt_law.proofs.Givings.{live_count}
use Rattle.pt_law.proofs.Lists.{set_at_same, set_at_other}
use Rattle.pt_plain.specs.Plain.{PlainTree, Handled, handled_as}
use Rattle.pt_plain.specs.Serves.{OpensNumber}
use Rattle.pt_plain.proofs.Coming.{Comes, IdlesBy, IsSeats, Makes, seat_stays}
use Rattle.pt_plain.proofs.Counting.{IsEven}
use Rattle.pt_plain.proofs.Found.{apart, found_apart}
use Rattle.pt_plain.proofs.Passing.{ends, even_also, even_passes, Passes, passes_begin, passes_open_num}
use Rattle.pt_plain.proofs.Serving.{Alone, counts, refused_counts, shows_still, stands, walked}
use Rattle.pt_plain.proofs.Showing.{bare_tree, found, handle_at, handled, numbered, Shows}
use Rattle.pt_plain.proofs.Stilling.{IsStill}
use Rattle.pt_plain.proofs.Walking.{At, At.{by}, GivesNone, hidden_mild, idles_quiet, in_bracket, IsHidden, IsMild}
use Rattle.pt_plain.proofs.Walking.{IsRefused, IsResolved, mild_none, mild_still, Quiet, quiet_mild, quiet_none}
use Rattle.pt_plain.proofs.Walking.{quiet_on, refused_at, refused_from, some_is, walk_ask, walk_begin, walk_resolve}
use Rattle.pt_plain.proofs.Walking.{walk_take_fd, walk_unless}

-- a scope of the seat opens in no world
pub walk_scope : {G : Type 0} (j : ℕ) (asked : Call) (scope : Hold) (next : RequestTree) (w : World) (last : Answer)
    (w' : World) → IsSeats asked → last ≢ answer.NoMemory → At j (open_scope asked scope next) w last w' →
    (IsRefused w last w' → G) → (At j next w last w' → G) → G
unfolding on go_on
walk_scope {G} j asked scope next w last w' s n (by c) out goes = go (ok_in c.0) c.3
  where
    same : c.1 ≡ w
    same = seat_stays asked j w c.1 c.0 s c.2.1 c.2.2

    go : (value : Option (Unit {0})) → Comes j (go_on (λ done. next) c.0 value) c.1 last w' → G
    go (Some done) k = goes (by (subst (λ z. Comes j next z last w') same k))
    go None k = out (refused_at j w w c.0 last w' n (quiet_none w)
        (subst (λ z. Comes j (Refuses c.0) z last w') same k))

walk_without : {G : Type 0} (j : ℕ) (drops : Bool) (next : RequestTree) (w : World) (last : Answer) (w' : World) →
    last ≢ answer.NoMemory → At j (without_fsetid drops next) w last w' → (IsRefused w last w' → G) →
    (At j next w last w' → G) → G
walk_without j true next w last w' n c out goes =
    walk_scope j (call.DropCap fsetid) (hold.Dropped fsetid) next w last w' tt n c out goes
walk_without j false next w last w' n c out goes = goes c

-- a call that leaves all this, and is passed over by what is settled
abbrev IsUnsettling : Call → Type 0
IsUnsettling (call.OpenAt dir name flags mode) = ⊥
IsUnsettling (call.OpenRoot path flags) = ⊥
IsUnsettling asked = Unit {0}

call_past : (asked : Call) (told : ActReply) (j : ℕ) (w on : World) → IsUnsettling asked →
    Goes w (turn_by j (made (Calls asked) told)) on → on.past ≡ w.past
call_past (call.OpenAt dir name flags mode) told j w on s g = absurd s
call_past (call.OpenRoot path flags) told j w on s g = absurd s
call_past asked told j w on s g = g.past

-- of which neither is seen
pub walk_call : {G V : Type 0} (j : ℕ) (asked : Call) (read : ActReply → Option V) (next : V → RequestTree) (w : World)
    (last : Answer) (w' : World) → last ≢ answer.NoMemory → IsMild (Calls asked) → IsUnsettling asked →
    At j (Asks (Calls asked) (on read next)) w last w' → (IsRefused w last w' → G) →
    ((value : V) (on : World) → Quiet w on → (on.past ≡ w.past) → At j (next value) on last w' → G) → G
walk_call j asked read next w last w' n mild s c out goes =
    walk_ask j (Calls asked) read next w last w' n
    (λ told e. (mild_still (Calls asked) told mild, mild_none (Calls asked) told mild)) c out
    (λ told value mid on e m i k. goes value on
    (subst (λ (z : World). Quiet w z) (sym i) (quiet_mild j w mid (Calls asked) told mild m))
    (ap (λ (z : World). z.past) i ∙ call_past asked told j w mid s m.2) k)

pub walk_cleared : {G : Type 0} (j : ℕ) (emptied : Bool) (name : Option (List ℕ)) (fd : Fd) (next : RequestTree)
    (w : World) (last : Answer) (w' : World) → last ≢ answer.NoMemory →
    At j (cleared_if emptied name fd next) w last w' →
    (IsRefused w last w' → G) → ((on : World) → Quiet w on → (on.past ≡ w.past) → At j next on last w' → G) → G
walk_cleared j false name fd next w last w' n c out goes = goes w (quiet_none w) refl c
walk_cleared j true None fd next w last w' n c out goes = goes w (quiet_none w) refl c
walk_cleared j true (Some name) fd next w last w' n c out goes =
    walk_call j (call.RemoveXattr fd false name) gone_in (λ done. next) w last w' n tt tt c out
    (λ done on q p k. goes on q p k)

pub walk_draw_handle : {G : Type 0} (j : ℕ) (next : ℕ → RequestTree) (w : World) (last : Answer) (w' : World) →
    last ≢ answer.NoMemory → At j (draw_handle next) w last w' → (IsRefused w last w' → G) →
    ((handle : ℕ) (on : World) → IsHidden w on → (w.tables.next_handle ≤ handle) →
    (suc handle ≤ on.tables.next_handle) → At j (next handle) on last w' → G) → G
walk_draw_handle {G} j next w last w' n c out goes =
    walk_ask j (Changes change.DrawHandle) drawn_in next w last w' n
    (λ told e. (mild_still (Changes change.DrawHandle) told tt, tt)) c out go
  where
    go : (told : ActReply) (fresh : ℕ) (mid on : World) → drawn_in told ≡ Some fresh →
        Makes j w (Changes change.DrawHandle) told mid →
        IdlesBy j (closings_in (Changes change.DrawHandle) told) mid on →
        At j (next fresh) on last w' → G
    go (Event (event.Drawn given)) fresh mid on e m i k =
        let h = cases w.tables mid.tables change.DrawHandle (event.Drawn given) m.2.made.0 in
        let same = some_is e in
        let a = h.0 in
        let x = ap (λ z. z.next_handle) h.2 in
        let y = ap (λ (z : World). z.tables.next_handle) i in
        goes fresh on (hidden_mild j w mid on (Changes change.DrawHandle) _ tt m m.2.made.1 m.2.past i)
        (omega (arith, a, same)) (omega (arith, a, same, x, y)) k
    go told fresh mid on e m i k = absurd (cc)

-- a handle that was never given is open on the number's object, and nothing else is seen
pub record IsNewHandle (w on : World) (number object handle : ℕ) : Type 0 where
  pub tree : bare_tree on.tree ≡ bare_tree w.tree
  pub past : on.past.numbers ≡ w.past.numbers
  pub handles : (h : ℕ) → handle_at on h ≡ set_at handle (handled_as number object) (handle_at w) h
  pub next_number : w.tables.next_number ≤ on.tables.next_number
  pub low : w.tables.next_handle ≤ handle
  pub high : suc handle ≤ on.tables.next_handle
  pub agreed : on.tables.negotiated ≡ w.tables.negotiated

-- and only the handles are seen to change
record IsHandled (w on : World) (number object handle : ℕ) : Type 0 where
  tree : bare_tree on.tree ≡ bare_tree w.tree
  past : on.past.numbers ≡ w.past.numbers
  handles : (h : ℕ) → handle_at on h ≡ set_at handle (handled_as number object) (handle_at w) h
  next_number : on.tables.next_number ≡ w.tables.next_number
  next_handle : on.tables.next_handle ≡ w.tables.next_handle
  agreed : on.tables.negotiated ≡ w.tables.negotiated

walk_insert_handle : {G : Type 0} (j : ℕ) (session : BegunSession) (handle number object : ℕ) (fd : Fd)
    (next : RequestTree) (w : World) (last : Answer) (w' : World) → last ≢ answer.NoMemory →
    w.past.resolved j number ≡ Some object → At j (insert_handle session handle number fd next) w last w' →
    (IsRefused w last w' → G) → ((on : World) → IsHandled w on number object handle → At j next on last w' → G) → G
walk_insert_handle {G} j session handle number object fd next w last w' n noted c out goes =
    walk_ask j (Changes change_is) inserted_in (λ done. next) w last w' n refuses c out go
  where
    new : NewHandle
    new = new_handle_of session.era handle number fd

    change_is : Change
    change_is = change.InsertHandle new

    refuses : (told : ActReply) → inserted_in told ≡ None →
        IsStill (Changes change_is) told × GivesNone (Changes change_is) told
    refuses (Event (event.Inserted given)) e = absurd (cc)
    refuses (Event told) e = (tt, tt)
    refuses (Host told) e = (tt, tt)
    refuses NoCopy e = (tt, tt)

    go : (told : ActReply) (done : Unit {0}) (mid on : World) → inserted_in told ≡ Some done →
        Makes j w (Changes change_is) told mid → IdlesBy j (closings_in (Changes change_is) told) mid on →
        At j next on last w' → G
    go (Event (event.Inserted given)) done mid on e m i k =
        let h = cases w.tables mid.tables change_is (event.Inserted given) m.2.made.0 in
        goes on (subst (λ (z : World). IsHandled w z number object handle) (sym i) (record {
          tree = ap bare_tree m.2.made.1;
          past = ap (λ p. p.numbers) m.2.past;
          handles = λ x. shown h.4 x;
          next_number = ap (λ z. z.next_number) h.4;
          next_handle = ap (λ z. z.next_handle) h.4;
          agreed = ap (λ z. z.negotiated) h.4;
        })) k
      where
        shown : mid.tables ≡ with_handle w.tables (new_handle w.tables handle number fd 0) → (x : ℕ) →
            handle_at mid x ≡ set_at handle (handled_as number object) (handle_at w) x
        shown e x =
            let objects = set_at w.tables.next_row (w.past.resolved j number) w.past.objects in
            let there = ap (handled number) (set_at_same w.past.objects w.tables.next_row (w.past.resolved j number)
            ∙ noted) in
            let rest = found_apart w.past.objects w.tables.next_row (w.past.resolved j number) x w.tables.handles
            m.0.agree.sound_handles in
            (λ i. found (m.2.past i).objects x (e i).handles)
            ∙ ⊎_elim
            (λ (q : x ≡ handle).
            ap (λ b. cond b (handled number (objects w.tables.next_row)) (found objects x w.tables.handles))
            (eq-eqb handle x (sym q)) ∙ there
            ∙ sym (ap (set_at handle (handled_as number object) (handle_at w)) q
            ∙ set_at_same (handle_at w) handle (handled_as number object)))
            (λ (q : x ≢ handle).
            ap (λ b. cond b (handled number (objects w.tables.next_row)) (found objects x w.tables.handles))
            (apart handle x (λ p. q (sym p))) ∙ rest
            ∙ sym (set_at_other (handle_at w) handle (handled_as number object) x q))
            (cases_eq x handle)
    go told done mid on e m i k = absurd (cc)

set_same : (k : ℕ) (v : Option Handled) (f g : ℕ → Option Handled) → ((x : ℕ) → f x ≡ g x) → (x : ℕ) →
    set_at k v f x ≡ set_at k v g x
set_same k v f g e x = λ i. set_at k v (λ y. e y i) x

-- What was opened gets a handle.
pub walk_handled : {G : Type 0} (j : ℕ) (session : BegunSession) (number object : ℕ) (fd : Fd) (next : ℕ → RequestTree)
    (w : World) (last : Answer) (w' : World) → last ≢ answer.NoMemory → w.past.resolved j number ≡ Some object →
    At j (gets_handle session number fd next) w last w' → (IsRefused w last w' → G) →
    ((handle : ℕ) (on : World) → IsNewHandle w on number object handle → At j (next handle) on last w' → G) → G
walk_handled j session number object fd next w last w' n noted c out goes =
    walk_draw_handle j (λ handle. take_fd (insert_handle session handle number fd (next handle))) w last w' n c out
    (λ handle d hd low high cd.
    walk_take_fd j (insert_handle session handle number fd (next handle)) d last w' n cd
    (λ r. out (refused_from w d last w' hd.quiet r)) (λ e he ce.
    let qe = quiet_on w d e hd.quiet he.quiet in
    let h = he.quiet.still.next_handle in
    walk_insert_handle j session handle number object fd (next handle) e last w' n
    (ap (λ p. p.resolved j number) (he.past ∙ hd.past) ∙ noted) ce
    (λ r. out (refused_from w e last w' qe r)) (λ f x cf. goes handle f (record {
      tree = x.tree ∙ qe.still.tree;
      past = x.past ∙ qe.still.past;
      handles = λ y. x.handles y ∙ set_same handle (handled_as number object) (handle_at e) (handle_at w)
          qe.still.handles y;
      next_number = (let a = qe.still.next_number in let b = x.next_number in omega (arith, a, b));
      low = low;
      high = (let b = x.next_handle in omega (arith, high, h, b));
      agreed = x.agreed ∙ qe.still.agreed;
    }) cf)))

-- what comes before and behind a new handle
pub handle_between : (w a b on : World) (number object handle : ℕ) → Quiet w a → IsNewHandle a b number object handle →
    Quiet b on → IsNewHandle w on number object handle
handle_between w a b on number object handle q h r = record {
  tree = r.still.tree ∙ h.tree ∙ q.still.tree;
  past = r.still.past ∙ h.past ∙ q.still.past;
  handles = λ x. r.still.handles x ∙ h.handles x
      ∙ set_same handle (handled_as number object) (handle_at a) (handle_at w) q.still.handles x;
  next_number = (let x = q.still.next_number in let y = h.next_number in let z = r.still.next_number in
      omega (arith, x, y, z));
  low = (let x = q.still.next_handle in let y = h.low in omega (arith, x, y));
  high = (let x = h.high in let y = r.still.next_handle in omega (arith, x, y));
  agreed = r.still.agreed ∙ h.agreed ∙ q.still.agreed;
}

-- A number was found and its object opened by a handle that was never given.
pub record IsOpenedBy (w on : World) (number handle : ℕ) : Type 0 where
  pub object : ℕ
  pub is_object : w.past.numbers number ≡ Some object
  pub live : 0 < live_count number w.tables
  pub new : IsNewHandle w on number object handle

pub shut : {G : Type 0} {j : ℕ} {passes : Bool} {tree : RequestTree} {w w' : World} {last : Answer} →
    At j (Shuts passes tree) w last w' → ((on : World) → Quiet w on → At j tree on last w' → G) → G
shut {G} {j} {passes} {tree} {w} {w'} {last} (by c) k = k c.0 (idles_quiet j w c.0 c.1) (by c.2)

pub unbare : {j : ℕ} {tree : RequestTree} {w w' : World} {last : Answer} → At j (Bares tree) w last w' →
    At j tree w last w'
unbare (by c) = by c

pub walk_open_num : {G : Type 0} (j : ℕ) (plan : Plan) (seat : HostSeat) (session : BegunSession) (number : ℕ)
    (kill : Bool) (flags : ℕ) (next : ℕ → RequestTree) (w : World) (last : Answer) (w' : World) →
    last ≢ answer.NoMemory → At j (open_num plan seat session number kill flags next) w last w' →
    (IsRefused w last w' → G) →
    ((handle : ℕ) (on : World) → IsOpenedBy w on number handle → At j (next handle) on last w' → G) → G
unfolding open_row
walk_open_num {G} j plan seat session number kill flags next w last w' n c out goes =
    walk_without j (drops_fsetid plan seat kill) opens w last w' n (in_bracket c) out (λ ca.
    walk_resolve j number row_opens w last w' n ca out (λ row a ra cr.
    walk_unless j (can_open row.mode) ebadf (open_form row.form flags_in bares) a last w' cr
    (λ r. out (refused_from w a last w' ra.quiet r)) (λ co. opened row.form a (fd_of row.form) ra co)))
  where
    flags_in : ℕ
    flags_in = inode_flags plan.config session.agreed (cleaned plan.config flags)

    handles : Fd → RequestTree
    handles fd = gets_handle session number fd (λ handle. Shuts false (next handle))

    clears : Fd → RequestTree
    clears fd = cleared_if (includes flags o_trunc) plan.capability fd (handles fd)

    bares : Fd → RequestTree
    bares fd = Bares (clears fd)

    row_opens : Resolved → RequestTree
    row_opens row = open_row row flags_in bares

    opens : RequestTree
    opens = open_inode plan session number (cleaned plan.config flags) bares

    form_opens : (form : RowForm) (a : World) → At j (open_form form flags_in bares) a last w' →
        (IsRefused a last w' → G) →
        ((new : Fd) (on : World) → Quiet a on → (on.past ≡ a.past) → At j (bares new) on last w' → G) → G
    form_opens (File fd) a c r k =
        walk_call j (call.Reopen fd (without_nofollow flags_in)) fd_in bares a last w' n tt tt c r k

    opened : (form : RowForm) (a : World) (fd : Fd) → IsResolved j w a number fd →
        At j (open_form form flags_in bares) a last w' → G
    opened form a kept ra co =
        form_opens form a co (λ r. out (refused_from w a last w' ra.quiet r)) (λ fd b qb pb cb.
        let qa = quiet_on w a b ra.quiet qb in
        walk_cleared j (includes flags o_trunc) plan.capability fd (handles fd) b last w' n (unbare cb)
        (λ r. out (refused_from w b last w' qa r)) (λ d qd pd cd.
        let qe = quiet_on w b d qa qd in
        walk_handled j session number ra.object fd (λ handle. Shuts false (next handle)) d last w' n
        (ap (λ p. p.resolved j number) (pd ∙ pb) ∙ ra.noted) cd (λ r. out (refused_from w d last w' qe r))
        (λ handle f h cf.
        shut cf (λ g qg cg. goes handle g (record {
          object = ra.object;
          is_object = ra.is_object;
          live = ra.live;
          new = handle_between w d f g number ra.object handle qe h qg;
        }) cg))))

even_open : (plan : Plan) (seat : HostSeat) (inode : ℕ) (kill : Bool) (flags : ℕ) (state : PlainTree) →
    Passes IsEven state (λ last. Unit {0}) (begin (open_file plan seat inode kill flags))
even_open plan seat inode kill flags state =
    passes_begin even_also _ (λ session. passes_open_num even_also plan seat session inode kill flags _
    (λ k. tt) (λ handle fd. tt) (λ handle. ends even_also (λ k. tt)))

-- what an opening leaves, where it is answered or was refused
pub served_open : (plan : Plan) (j : ℕ) (seat : HostSeat) (inode : ℕ) (kill : Bool) (flags : ℕ) (w : World)
    (last : Answer) (w' : World) (state : PlainTree) → Shows w state →
    Alone j seat (begin (open_file plan seat inode kill flags)) w last w' →
    ((errno : Errno) × (last ≡ answer.Refused errno) × Shows w' state)
    ⊎ ((handle : ℕ) × (last ≡ answer.Opened handle (open_options plan.config flags))
    × ((after : PlainTree) × OpensNumber state inode handle after × Shows w' after))
served_open plan j seat inode kill flags w last w' state s a =
    walk_begin j opens w last w' a.given (walked j seat (begin (open_file plan seat inode kill flags)) w last w' a) out
    (λ session b qb cb.
    walk_open_num j plan seat session inode kill flags ends b last w' a.given cb
    (λ r. out (refused_from w b last w' qb r)) (λ handle e o ce. answered b qb handle e o ce))
  where
    ends : ℕ → RequestTree
    ends handle = Gives (answer.Opened handle (open_options plan.config flags))

    opens : BegunSession → RequestTree
    opens session = open_num plan seat session inode kill flags ends

    Goal : Type 0
    Goal = ((errno : Errno) × (last ≡ answer.Refused errno) × Shows w' state)
        ⊎ ((handle : ℕ) × (last ≡ answer.Opened handle (open_options plan.config flags))
        × ((after : PlainTree) × OpensNumber state inode handle after × Shows w' after))

    all : (n : ℕ) → live_count n w'.tables ≡ live_count n w.tables + entry_count n (finish.Answer last)
    all = counts j seat (begin (open_file plan seat inode kill flags)) w last w' a
        (even_passes (even_open plan seat inode kill flags state))

    out : IsRefused w last w' → Goal
    out r = inl (r.errno, r.is, shows_still w w' state s r.quiet.still (refused_counts w w' last r all))

    answered : (b : World) → Quiet w b → (handle : ℕ) (e : World) → IsOpenedBy b e inode handle →
        At j (ends handle) e last w' → Goal
    answered b qb handle e o (by k) =
        let qe = idles_quiet j e w' k.1 in
        let after : PlainTree = record state {
          handles = set_at handle (handled_as inode o.object) state.handles;
          handles_below = handle + 1;
        } in
        let l = qb.still.next_handle in
        let low = o.new.low in
        let h = o.new.high in
        let m = qe.still.next_handle in
        let sb = s.handles_below in
        let live = (let x = qb.falls inode in let y = o.live in (let z : 0 < live_count inode w.tables =
        omega (arith, x, y) in z)) in
        inr (
          handle,
          k.0,
          (
            after,
            (
              o.object,
              stands w state inode o.object s (ap (λ f. f inode) (sym qb.still.past) ∙ o.is_object) live,
              (omega (arith, sb, l, low), refl),
            ),
            record {
              tree = s.tree ∙ sym (qe.still.tree ∙ o.new.tree ∙ qb.still.tree);
              numbers = λ n. s.numbers n ∙ (λ i. numbered (sym (same n) i)
                  (sym (qe.still.past ∙ o.new.past ∙ qb.still.past) i n));
              handles =
                  λ x. (λ i. set_at handle (handled_as inode o.object)
                  (λ y. (s.handles y ∙ sym (qb.still.handles y)) i) x)
                  ∙ sym (qe.still.handles x ∙ o.new.handles x);
              numbers_below = (let a = s.numbers_below in let b = qb.still.next_number in let c = o.new.next_number in
                  let d = qe.still.next_number in omega (arith, a, b, c, d));
              handles_below = omega (arith, h, m);
              agreed = s.agreed ∙ sym (qe.still.agreed ∙ o.new.agreed ∙ qb.still.agreed);
            },
          ),
        )
      where
        same : (n : ℕ) → live_count n w'.tables ≡ live_count n w.tables
        same n =
            let x = all n in let z = ap (λ (y : Answer). entry_count n (finish.Answer y)) k.0 in omega (arith, x, z)
