-- The own steps by which `create` inserts its handle, behind its lookup.
use Rattle.std.proofs.Common.{append_assoc}
use Rattle.std.proofs.Common.{◌≡◌, ◌∙◌, ◌++◌, ◌∷◌, [], if◌then◌else◌, ℕ, Bool, List, None, Option, Some, ap, false}
use Rattle.std.proofs.Common.{refl, subst, sym, true}
use Rattle.pt_host.specs.Errno.{ebadf, estale}
use Rattle.pt_host.specs.Flags.{includes, o_trunc}
use Rattle.pt_host.specs.Words.{Each}
use Rattle.pt_host.specs.declared.flags.OpenFlags.{OpenFlags}
use Rattle.pt_host.specs.declared.ids.Fd.{Fd}
use Rattle.pt_host.specs.declared.ids.ObjIds.{ObjIds}
use Rattle.pt_host.specs.declared.op.KeptHostOp.TheVariants as call
use Rattle.pt_host.specs.declared.reply.HostReply.TheVariants as host
use Rattle.pt_host.specs.declared.reply.HostValue.TheVariants as value
use Rattle.pt_host.specs.declared.seat.HostSeat.{HostSeat}
use Rattle.pt_tables.specs.declared.event.KeptEvent.TheVariants as change
use Rattle.pt_tables.specs.declared.form.RowForm.{RowForm}
use Rattle.pt_tables.specs.declared.form.RowForm.TheVariants.{File}
use Rattle.pt_tables.specs.declared.reply.EventReply.TheVariants as event
use Rattle.pt_iface.specs.declared.answer.Answer.{Answer}
use Rattle.pt_iface.specs.declared.answer.Answer.TheVariants as answer
use Rattle.pt_iface.specs.declared.entry.Entry.{Entry}
use Rattle.pt_iface.specs.declared.flags.OpenOptions.{OpenOptions}
use Rattle.pt_frame.specs.Deed.{Calls, Changes, Deed, IsStepOf, Step}
use Rattle.pt_frame.specs.Replies.{passes_with}
use Rattle.pt_frame.specs.Tree.{Asks, Bares, Gives, Refuses, RequestTree, Shuts, on, go_on}
use Rattle.pt_frame.specs.declared.act.ActReply.{ActReply}
use Rattle.pt_frame.specs.declared.act.ActReply.TheVariants.{Event, Host, NoCopy}
use Rattle.pt_req.specs.Capability.{capability_cleared, cleared_if, drops_fsetid, fsetid, without_fsetid}
use Rattle.pt_req.specs.Entries.{can_open}
use Rattle.pt_req.specs.Options.{cleaned, create_options, inode_flags, without_nofollow}
use Rattle.pt_req.specs.Parts.{handled, open_form, open_num, open_row}
use Rattle.pt_req.specs.Steps.{draw_handle, insert_handle, resolve, take_fd, drawn_in, fd_in, inserted_in, ok_in}
use Rattle.pt_req.specs.Steps.{gone_in, is_gone, new_handle_of, resolved_in, taken_in}
use Rattle.pt_tables.specs.declared.reply.Resolved.{Resolved}
use Rattle.pt_req.specs.declared.begun.BegunSession.{BegunSession}
use Rattle.pt_req.specs.declared.plan.Plan.{Plan}
use Rattle.pt_attr.specs.declared.parts.creating.NamedHandle.{NamedHandle}
use Rattle.pt_attr.specs.Creating.{are_same, if_same, named_handle}
use Rattle.pt_law.specs.Branch.{Along, AreOwn, ReturnsHold}
use Rattle.pt_law.proofs.Giving.{own_quiet, own_same}
use Rattle.pt_fit.proofs.Leading.{HasEntry, no_refusal, returns_give, returns_insert}
use Rattle.pt_law.specs.World.{made}
use Rattle.pt_law.specs.Reopened.{ComesToNone}
use Rattle.pt_law.proofs.Opening.{GivesNone, InsertsNone, MakesNone}

abbrev pub answers : Plan → NamedHandle → RequestTree
answers plan named = Gives (answer.Created named.entry named.handle (create_options plan.config))

-- A branch to an answer with an entry: by which reply it goes on.

refused_along : (told : ActReply) (path : List Step) (last : Answer) → HasEntry last →
    Along (Refuses told) path last → ⊥
refused_along told [] last p a = no_refusal told (ap passes_with (sym a) ∙ p)
refused_along told (step ∷ path) last p a = a

record AlongOn (deed : Deed) (next : ActReply → RequestTree) (path : List Step) (last : Answer) : Type 0 where
  told : ActReply
  rest : List Step
  are : path ≡ made deed told ∷ rest
  on : Along (next told) rest last

along_on : (deed : Deed) (next : ActReply → RequestTree) (path : List Step) (last : Answer) →
    next NoCopy ≡ Refuses NoCopy → HasEntry last → Along (Asks deed next) path last → AlongOn deed next path last
along_on deed next [] last n p a = absurd a
along_on deed next (step ∷ path) last n p a = go step.deed step.reply a.0 a.1
  where
    go : (did : Option Deed) (told : ActReply) → IsStepOf deed did told → Along (next told) path last →
        AlongOn deed next (record { deed = did; reply = told } ∷ path) last
    go did NoCopy i on =
        absurd (refused_along NoCopy path last p (subst (λ (tree : RequestTree). Along tree path last) n on))
    go (Some same) told i on =
        record { told = told; rest = path; are = ap (λ (d : Deed). made d told ∷ path) i; on = on }
    go None told i on = absurd i

drawn_along : (next : ℕ → RequestTree) (told : ActReply) (path : List Step) (last : Answer) → HasEntry last →
    Along (on drawn_in next told) path last →
    (number : ℕ) × (told ≡ Event (event.Drawn number)) × Along (next number) path last
unfolding on go_on
drawn_along next (Event (event.Drawn number)) path last p a = (number, refl, a)
drawn_along next told path last p a = absurd (refused_along told path last p a)

taken_along : (next : RequestTree) (told : ActReply) (path : List Step) (last : Answer) → HasEntry last →
    Along (on taken_in (λ done. next) told) path last → (told ≡ Event event.Taken) × Along next path last
unfolding on go_on
taken_along next (Event event.Taken) path last p a = (refl, a)
taken_along next told path last p a = absurd (refused_along told path last p a)

handle_along : (next : RequestTree) (told : ActReply) (path : List Step) (last : Answer) → HasEntry last →
    Along (on inserted_in (λ done. next) told) path last →
    (given : ℕ) × (told ≡ Event (event.Inserted given)) × Along next path last
unfolding on go_on
handle_along next (Event (event.Inserted given)) path last p a = (given, refl, a)
handle_along next told path last p a = absurd (refused_along told path last p a)

resolved_along : (next : Resolved → RequestTree) (told : ActReply) (path : List Step) (last : Answer) →
    HasEntry last → Along (on resolved_in next told) path last →
    (row : Resolved) × (told ≡ Event (event.Resolved row)) × Along (next row) path last
unfolding on go_on
resolved_along next (Event (event.Resolved row)) path last p a = (row, refl, a)
resolved_along next told path last p a = absurd (refused_along told path last p a)

opened_along : (next : Fd → RequestTree) (told : ActReply) (path : List Step) (last : Answer) → HasEntry last →
    Along (on fd_in next told) path last →
    (fd : Fd) × (told ≡ Host (host.Ok (value.Fd fd))) × Along (next fd) path last
unfolding on go_on
opened_along next (Host (host.Ok (value.Fd fd))) path last p a = (fd, refl, a)
opened_along next told path last p a = absurd (refused_along told path last p a)

-- one step further
step_to : {deed : Deed} {told one : ActReply} {path rest more : List Step} → path ≡ made deed told ∷ rest →
    told ≡ one → rest ≡ more → path ≡ made deed one ∷ more
step_to {deed = deed} e t r = e ∙ (λ i. made deed (t i) ∷ r i)

-- A handle is drawn, a slot is taken for it, and it is inserted.

abbrev handle_drawn : ℕ → Step
handle_drawn handle = made (Changes change.DrawHandle) (Event (event.Drawn handle))

abbrev slot_taken : Step
slot_taken = made (Changes (change.TakeFd 0)) (Event event.Taken)

abbrev pub inserted : ℕ → ℕ → ℕ → Fd → ℕ → Step
inserted era handle number fd told =
    made (Changes (change.InsertHandle (new_handle_of era handle number fd))) (Event (event.Inserted told))

drawing_along : (session : BegunSession) (number : ℕ) (fd : Fd) (next : ℕ → RequestTree) (path : List Step)
    (last : Answer) → HasEntry last →
    Along (draw_handle (λ handle. take_fd (insert_handle session handle number fd (next handle)))) path last →
    (handle : ℕ) × (told : ℕ) × (rest : List Step)
    × (path ≡ handle_drawn handle ∷ slot_taken ∷ inserted session.era handle number fd told ∷ rest)
    × Along (next handle) rest last
unfolding on go_on
drawing_along session number fd next path last p a =
    let inserts : ℕ → RequestTree = λ handle. insert_handle session handle number fd (next handle) in
    let d = along_on (Changes change.DrawHandle) (on drawn_in (λ handle. take_fd (inserts handle))) path last refl p a
    in
    let k = drawn_along (λ handle. take_fd (inserts handle)) d.told d.rest last p d.on in
    let t = along_on (Changes (change.TakeFd 0)) (on taken_in (λ done. inserts k.0)) d.rest last refl p k.2 in
    let m = taken_along (inserts k.0) t.told t.rest last p t.on in
    let asks = change.InsertHandle (new_handle_of session.era k.0 number fd) in
    let i = along_on (Changes asks) (on inserted_in (λ done. next k.0)) t.rest last refl p m.1 in
    let n = handle_along (next k.0) i.told i.rest last p i.on in
    (k.0, n.0, i.rest, step_to d.are k.1 (step_to t.are m.0 (step_to i.are n.1 refl)), n.2)

-- what is answered with this entry and handle
answered_along : (plan : Plan) (entry given : Entry) (drawn handle : ℕ) (options : OpenOptions) (path : List Step) →
    Along (answers plan (named_handle entry drawn)) path (answer.Created given handle options) →
    (path ≡ []) × (entry ≡ given) × (drawn ≡ handle)
answered_along plan entry given drawn handle options [] a = (refl, cc, cc)
answered_along plan entry given drawn handle options (step ∷ path) a = absurd a

-- By its own steps a request inserted this handle for this number, and made nothing.
pub record HandlesOwn (number handle : ℕ) (path : List Step) : Type 0 where
  pub era : ℕ
  pub fd : Fd
  pub told : ℕ
  pub first : List Step
  pub are : path ≡ first ++ inserted era handle number fd told ∷ []
  pub makes_none : Each (λ (step : Step). MakesNone step.deed step.reply) first
  pub gives_none : Each (λ (step : Step). GivesNone step.deed step.reply) first

-- what was made gets the handle, while the request comes to no number
pub record HandlesMade (fd : Fd) (number handle : ℕ) (path : List Step) : Type 0 where
  pub own : HandlesOwn number handle path
  pub same_fd : own.fd ≡ fd
  pub came : Each (λ (step : Step). ComesToNone step.deed step.reply) own.first

pub handled_along : (plan : Plan) (session : BegunSession) (fd : Fd) (entry given : Entry) (handle : ℕ)
    (options : OpenOptions) (path : List Step) →
    Along (handled session entry.inode fd (λ drawn. answers plan (named_handle entry drawn))) path
    (answer.Created given handle options) →
    (entry ≡ given) × HandlesMade fd entry.inode handle path
handled_along plan session fd entry given handle options path a =
    let last = answer.Created given handle options in
    let d = drawing_along session entry.inode fd (λ handle. answers plan (named_handle entry handle)) path last refl a
    in
    let e = answered_along plan entry given d.0 handle options d.2 d.4 in
    let are : path ≡ (handle_drawn d.0 ∷ slot_taken ∷ [])
    ++ inserted session.era d.0 entry.inode fd d.1 ∷ [] =
    d.3 ∙ (λ i. handle_drawn d.0 ∷ slot_taken ∷ inserted session.era d.0 entry.inode fd d.1 ∷ e.0 i) in
    let by : HandlesMade fd entry.inode d.0 path = record {
      own = record {
        era = session.era;
        fd = fd;
        told = d.1;
        first = handle_drawn d.0 ∷ slot_taken ∷ [];
        are = are;
        makes_none = (tt, (tt, tt));
        gives_none = (tt, (tt, tt));
      };
      same_fd = refl;
      came = (tt, (tt, tt));
    } in
    (e.1, subst (λ n. HandlesMade fd entry.inode n path) e.2 by)

-- only where the name led to what was made
module _ (plan : Plan) (session : BegunSession) (fd : Fd) (entry given : Entry) (handle : ℕ)
    (options : OpenOptions) where
  abbrev then_handled : RequestTree
  then_handled = handled session entry.inode fd (λ drawn. answers plan (named_handle entry drawn))

  if_along : (same : Bool) (path : List Step) →
      Along (if same then then_handled else Gives (answer.Refused estale)) path
      (answer.Created given handle options) →
      (same ≡ true) × (entry ≡ given) × HandlesMade fd entry.inode handle path
  if_along true path a =
      let h = handled_along plan session fd entry given handle options path a in (refl, h.0, h.1)
  if_along false path a = absurd (stale path a)
    where
      stale : (path : List Step) →
          Along (Gives (answer.Refused estale)) path (answer.Created given handle options) → ⊥
      stale [] a = cc
      stale (step ∷ path) a = a

  pub same_along : (made found : ObjIds) (path : List Step) →
      Along (if_same made found then_handled) path (answer.Created given handle options) →
      (are_same made found ≡ true) × (entry ≡ given) × HandlesMade fd entry.inode handle path
  unfolding if_same
  same_along made found path a = if_along (are_same made found) path a

pub each_join : (P : Step → Type 0) (xs ys : List Step) → Each P xs → Each P ys → Each P (xs ++ ys)
each_join P [] ys a b = b
each_join P (x ∷ xs) ys a b = (a.0, each_join P xs ys a.1 b)

-- By its own steps, which make nothing, a request comes to what follows the scope of the capability.
record ComesInto (next : RequestTree) (path : List Step) (last : Answer) : Type 0 where
  first : List Step
  rest : List Step
  are : path ≡ first ++ rest
  makes_none : Each (λ (step : Step). MakesNone step.deed step.reply) first
  gives_none : Each (λ (step : Step). GivesNone step.deed step.reply) first
  on : Along next rest last

set_along : (next : RequestTree) (told : ActReply) (path : List Step) (last : Answer) → HasEntry last →
    Along (on ok_in (λ done. next) told) path last → Along next path last
unfolding on go_on
set_along next (Host (host.Ok got)) path last p a = a
set_along next told path last p a = absurd (refused_along told path last p a)

without_along : (dropped : Bool) (next : RequestTree) (path : List Step) (last : Answer) → HasEntry last →
    Along (without_fsetid dropped next) path last → ComesInto next path last
unfolding on go_on
without_along false next path last p a =
    record { first = []; rest = path; are = refl; makes_none = tt; gives_none = tt; on = a }
without_along true next [] last p a = absurd a
without_along true next (step ∷ path) last p a =
    let o = along_on (Calls (call.DropCap fsetid)) (on ok_in (λ done. next)) (step ∷ path) last refl p a in
    record {
      first = made (Calls (call.DropCap fsetid)) o.told ∷ [];
      rest = o.rest;
      are = o.are;
      makes_none = (tt, tt);
      gives_none = (tt, tt);
      on = set_along next o.told o.rest last p o.on;
    }

gone_or_told : (gone : Bool) (next : RequestTree) (told : ActReply) (path : List Step) (last : Answer) →
    HasEntry last → Along (go_on (λ done. next) told (if gone then Some (tt {0}) else None)) path last →
    Along next path last
unfolding go_on
gone_or_told true next told path last p a = a
gone_or_told false next told path last p a = absurd (refused_along told path last p a)

gone_along : (next : RequestTree) (told : ActReply) (path : List Step) (last : Answer) → HasEntry last →
    Along (on gone_in (λ done. next) told) path last → Along next path last
unfolding on
gone_along next told path last p a = gone_or_told (is_gone told) next told path last p a

-- and likewise to what follows the end of a file's capabilities
cleared_along : (name : Option (List ℕ)) (fd : Fd) (through : Bool) (next : RequestTree) (path : List Step)
    (last : Answer) → HasEntry last → Along (capability_cleared name fd through next) path last →
    ComesInto next path last
unfolding on go_on
cleared_along None fd through next path last p a =
    record { first = []; rest = path; are = refl; makes_none = tt; gives_none = tt; on = a }
cleared_along (Some name) fd through next path last p a =
    let o = along_on (Calls (call.RemoveXattr fd through name)) (on gone_in (λ done. next)) path last refl p a in
    record {
      first = made (Calls (call.RemoveXattr fd through name)) o.told ∷ [];
      rest = o.rest;
      are = o.are;
      makes_none = (tt, tt);
      gives_none = (tt, tt);
      on = gone_along next o.told o.rest last p o.on;
    }

cleared_if_along : (emptied : Bool) (name : Option (List ℕ)) (fd : Fd) (next : RequestTree) (path : List Step)
    (last : Answer) → HasEntry last → Along (cleared_if emptied name fd next) path last → ComesInto next path last
cleared_if_along false name fd next path last p a =
    record { first = []; rest = path; are = refl; makes_none = tt; gives_none = tt; on = a }
cleared_if_along true name fd next path last p a = cleared_along name fd false next path last p a

-- what was there is opened anew by its number, and that gets the handle
pub opened_num_along : (plan : Plan) (seat : HostSeat) (session : BegunSession) (kill : Bool) (flags : ℕ)
    (entry given : Entry) (handle : ℕ) (options : OpenOptions) (path : List Step) →
    Along (open_num plan seat session entry.inode kill flags (λ handle. answers plan (named_handle entry handle)))
    path (answer.Created given handle options) → (entry ≡ given) × HandlesOwn entry.inode handle path
unfolding on go_on open_row
opened_num_along plan seat session kill flags entry given handle options path a =
    let w = without_along (drops_fsetid plan seat kill) (resolve entry.inode (λ row. open_row row bits drawn)) path
    last refl a in
    let r = along_on (Changes (change.Resolve entry.inode)) (on resolved_in (λ row. open_row row bits drawn)) w.rest
    last refl refl w.on in
    let k = resolved_along (λ row. open_row row bits drawn) r.told r.rest last refl r.on in
    let o = kind (can_open k.0.mode) k.0.form r.rest k.2 in
    let c = cleared_if_along (includes flags o_trunc) plan.capability o.0 (gets_handle o.0) o.3 last refl o.5 in
    let d = drawing_along session entry.inode o.0 (λ handle. Shuts false (answers plan (named_handle entry handle)))
    c.rest last refl c.on in
    let e = answered_along plan entry given d.0 handle options d.2 d.4 in
    let takes : List Step = handle_drawn d.0 ∷ slot_taken ∷ [] in
    let opens : List Step = made (Changes (change.Resolve entry.inode)) (Event (event.Resolved k.0))
    ∷ made (Calls (call.Reopen o.1 o.2)) (Host (host.Ok (value.Fd o.0))) ∷ (c.first ++ takes) in
    let inserts : List Step = inserted session.era d.0 entry.inode o.0 d.1 ∷ [] in
    let later : w.rest ≡ opens ++ inserts =
    step_to r.are k.1 (o.4
    ∙ ap (λ (z : List Step). made (Calls (call.Reopen o.1 o.2)) (Host (host.Ok (value.Fd o.0))) ∷ z) (c.are
    ∙ ap (λ (z : List Step). c.first ++ z) (d.3
    ∙ (λ i. handle_drawn d.0 ∷ slot_taken ∷ inserted session.era d.0 entry.inode o.0 d.1 ∷ e.0 i))
    ∙ sym (append_assoc c.first takes inserts))) in
    let by : HandlesOwn entry.inode d.0 path = record {
      era = session.era;
      fd = o.0;
      told = d.1;
      first = w.first ++ opens;
      are = w.are ∙ ap (λ (z : List Step). w.first ++ z) later ∙ sym (append_assoc w.first opens inserts);
      makes_none = each_join (λ (step : Step). MakesNone step.deed step.reply) w.first opens w.makes_none (
        tt,
        (
          tt,
          each_join (λ (step : Step). MakesNone step.deed step.reply) c.first takes c.makes_none
              (tt, (tt, tt)),
        ),
      );
      gives_none = each_join (λ (step : Step). GivesNone step.deed step.reply) w.first opens w.gives_none (
        tt,
        (
          tt,
          each_join (λ (step : Step). GivesNone step.deed step.reply) c.first takes c.gives_none
              (tt, (tt, tt)),
        ),
      );
    } in
    (e.1, subst (λ n. HandlesOwn entry.inode n path) e.2 by)
  where
    last : Answer
    last = answer.Created given handle options

    bits : ℕ
    bits = inode_flags plan.config session.agreed (cleaned plan.config flags)

    gets_handle : Fd → RequestTree
    gets_handle fd = handled session entry.inode fd (λ handle. Shuts false (answers plan (named_handle entry handle)))

    drawn : Fd → RequestTree
    drawn fd = Bares (cleared_if (includes flags o_trunc) plan.capability fd (gets_handle fd))

    form_along : (form : RowForm) (rest : List Step) → Along (open_form form bits drawn) rest last →
        (fd : Fd) × (dir : Fd) × (how : OpenFlags) × (more : List Step)
        × (rest ≡ made (Calls (call.Reopen dir how)) (Host (host.Ok (value.Fd fd))) ∷ more)
        × Along (drawn fd) more last
    form_along (File dir) rest a =
        let how = without_nofollow bits in
        let o = along_on (Calls (call.Reopen dir how)) (on fd_in drawn) rest last refl refl a in
        let k = opened_along drawn o.told o.rest last refl o.on in
        (k.0, dir, how, o.rest, step_to o.are k.1 refl, k.2)

    kind : (can : Bool) (form : RowForm) (rest : List Step) →
        Along (if can then open_form form bits drawn else Gives (answer.Refused ebadf)) rest last →
        (fd : Fd) × (dir : Fd) × (how : OpenFlags) × (more : List Step)
        × (rest ≡ made (Calls (call.Reopen dir how)) (Host (host.Ok (value.Fd fd))) ∷ more)
        × Along (drawn fd) more last
    kind true form rest a = form_along form rest a
    kind false form [] a = absurd (cc)
    kind false form (step ∷ rest) a = absurd a

-- Among all steps of its job.

returns_come : (deed : Option Deed) (told : ActReply) → ReturnsHold deed → ComesToNone deed told
returns_come (Some (Changes (change.Resolve number))) told h = absurd h
returns_come (Some (Changes (change.Claim claim))) told h = absurd h
returns_come (Some (Changes (change.Insert new))) told h = absurd h
returns_come (Some (Changes asked)) told h = tt
returns_come (Some (Calls asked)) told h = tt
returns_come None told h = tt

returns_make : (deed : Option Deed) (told : ActReply) → ReturnsHold deed → MakesNone deed told
returns_make (Some (Calls (call.OpenAt dir name flags mode))) told h = absurd h
returns_make (Some (Calls asked)) told h = tt
returns_make (Some (Changes asked)) told h = tt
returns_make None told h = tt

-- The job inserted this handle, with this descriptor and behind these steps.
pub record Inserted (number handle : ℕ) (steps : List Step) : Type 0 where
  pub era : ℕ
  pub fd : Fd
  pub told : ℕ
  pub front : List Step
  pub back : List Step
  pub are : steps ≡ front ++ inserted era handle number fd told ∷ back
  pub makes_none : Each (λ (step : Step). MakesNone step.deed step.reply) steps
  pub gives_none : Each (λ (step : Step). GivesNone step.deed step.reply) steps
  -- no other is inserted behind it
  pub quiet : Each (λ (step : Step). InsertsNone step.deed step.reply) back
  pub gives_no_more : Each (λ (step : Step). GivesNone step.deed step.reply) back

pub inserted_by : (number handle : ℕ) (path steps : List Step) → AreOwn path steps → HandlesOwn number handle path →
    Inserted number handle steps
inserted_by number handle path steps o h =
    let a = inserted h.era handle number h.fd h.told in
    let own = own_same path steps h.first [] a o h.are in
    let none = each_join (λ (step : Step). MakesNone step.deed step.reply) h.first (a ∷ []) h.makes_none (tt, tt) in
    let nothing = each_join (λ (step : Step). GivesNone step.deed step.reply) h.first (a ∷ []) h.gives_none (tt, tt) in
    record {
      era = h.era;
      fd = h.fd;
      told = h.told;
      front = own.front;
      back = own.back;
      are = own.are;
      makes_none = own_quiet MakesNone returns_make path steps o
          (subst (Each (λ (step : Step). MakesNone step.deed step.reply)) (sym h.are) none);
      gives_none = own_quiet GivesNone returns_give path steps o
          (subst (Each (λ (step : Step). GivesNone step.deed step.reply)) (sym h.are) nothing);
      quiet = own_quiet InsertsNone returns_insert [] own.back own.own_back tt;
      gives_no_more = own_quiet GivesNone returns_give [] own.back own.own_back tt;
    }

-- and before it came to no number
pub record InsertedNew (fd : Fd) (number handle : ℕ) (steps : List Step) : Type 0 where
  pub all : Inserted number handle steps
  pub same_fd : all.fd ≡ fd
  pub came : Each (λ (step : Step). ComesToNone step.deed step.reply) all.front

pub inserted_new : (fd : Fd) (number handle : ℕ) (path steps : List Step) → AreOwn path steps →
    HandlesMade fd number handle path → InsertedNew fd number handle steps
unfolding inserted_by
inserted_new fd number handle path steps o h =
    let a = inserted h.own.era handle number h.own.fd h.own.told in
    let own = own_same path steps h.own.first [] a o h.own.are in
    record {
      all = inserted_by number handle path steps o h.own;
      same_fd = h.same_fd;
      came = own_quiet ComesToNone returns_come h.own.first own.front own.own_front h.came;
    }
