-- Proof. `init`, `destroy`, `root`: the session begins anew, and the root is number 1.
use Rattle.std.proofs.Common.{◌≡◌, ◌≢◌, inl, inr, ℕ, ◌+◌, ◌*◌, ◌≤◌, Bool, true, false, Option}
use Rattle.std.proofs.Common.{Some, None, refl, sym, ap, subst, ◌∙◌, arith, ⊎_elim, if◌then◌else◌}
use Rattle.std.proofs.lemmas.Bool.{cases_eq}
use Rattle.pt_host.specs.Errno.{eproto}
use Rattle.pt_host.specs.Words.{is, set_at}
use Rattle.pt_host.specs.declared.ids.Fd.{Fd}
use Rattle.pt_host.specs.declared.ids.Errno.{Errno}
use Rattle.pt_host.specs.declared.seat.HostSeat.{HostSeat}
use Rattle.pt_host.specs.declared.stat.Stat.{Stat}
use Rattle.pt_host.specs.declared.op.KeptHostOp.TheVariants as call
use Rattle.pt_tables.specs.Happens.{agreed as agreed_in, new_row, with_row}
use Rattle.pt_tables.specs.Rows.{IsRow}
use Rattle.pt_tables.specs.Tables.{HasNumber, Tables, nothing_agreed}
use Rattle.pt_tables.specs.declared.row.Row.{Row}
use Rattle.pt_tables.specs.declared.form.Negotiated.{Negotiated}
use Rattle.pt_tables.specs.declared.form.RowForm.TheVariants.{File}
use Rattle.pt_tables.specs.declared.row.HandleRow.{HandleRow}
use Rattle.pt_tables.specs.declared.event.KeptEvent.TheVariants as change
use Rattle.pt_tables.specs.declared.event.NewRoot.{NewRoot}
use Rattle.pt_tables.specs.declared.reply.EventReply.TheVariants as event
use Rattle.pt_tables.proofs.Cases.{cases}
use Rattle.pt_tables.proofs.Dying.{clears}
use Rattle.pt_iface.specs.declared.answer.Answer.{Answer}
use Rattle.pt_iface.specs.declared.answer.Answer.TheVariants as answer
use Rattle.pt_iface.specs.declared.flags.FsOptions.{FsOptions}
use Rattle.pt_iface.specs.declared.request.Request.TheVariants as request
use Rattle.pt_frame.specs.Deed.{Deed, Calls, Changes}
use Rattle.pt_frame.specs.Tree.{RequestTree, Asks, Gives, on}
use Rattle.pt_frame.specs.declared.act.ActReply.{ActReply}
use Rattle.pt_frame.specs.declared.act.ActReply.TheVariants.{Event, Host, NoCopy}
use Rattle.pt_req.specs.Options.{agreed_with, init_options, is_short_of}
use Rattle.pt_req.specs.Parts.{by_path, root_open}
use Rattle.pt_req.specs.Requests.{destroy, init, init_answer, root}
use Rattle.pt_req.specs.Steps.{began_in, begin, clear, cleared_in, fd_in, insert_root, inserted_in, new_root_of}
use Rattle.pt_req.specs.Steps.{session_of, stat, stat_in, take_fd, taken_in}
use Rattle.pt_req.specs.declared.begun.BegunSession.{BegunSession}
use Rattle.pt_req.specs.declared.plan.Plan.{Plan}
use Rattle.pt_law.specs.Ledger.{given_by}
use Rattle.pt_law.specs.World.{World}
use Rattle.pt_law.proofs.Givings.{live_count, counts_step, none_other}
use Rattle.pt_law.proofs.Knowing.{RowOpen}
use Rattle.pt_law.proofs.Laws.{counted}
use Rattle.pt_law.proofs.Lists.{is_same, is_apart, set_at_same, set_at_other, each_map, each_taken}
use Rattle.pt_plain.specs.Plain.{PlainTree, numbered_as}
use Rattle.pt_plain.specs.Serves.{Serves, HasRoot, emptied}
use Rattle.pt_plain.proofs.Coming.{Law, Makes}
use Rattle.pt_plain.proofs.Found.{found_apart, none_found}
use Rattle.pt_plain.proofs.Owning.{Gentle, gentle_on, Own, own_ask, own_gives, own_of, Same, same_made, same_on}
use Rattle.pt_plain.proofs.Owning.{shows_same}
use Rattle.pt_plain.proofs.Serving.{Alone, IsServed, numbered_is}
use Rattle.pt_plain.proofs.Showing.{bare_tree, found, handle_at, number_at, numbered, Shows}
use Rattle.pt_plain.proofs.Stilling.{IsStill}
use Rattle.pt_plain.proofs.Walking.{IsMild, mild_still}

-- a step that gives and takes nothing whatever it is told
own_step : {G V : Type 0} (j : ℕ) (deed : Deed) (read : ActReply → Option V) (next : V → RequestTree) (w : World)
    (last : Answer) (w' : World) → last ≢ answer.NoMemory → IsMild deed →
    ((told : ActReply) (n had : ℕ) → given_by n had deed told ≡ had) → Own j (Asks deed (on read next)) w last w' →
    ((errno : Errno) → last ≡ answer.Refused errno → Same w w' → G) →
    ((value : V) (mid : World) → Same w mid → Own j (next value) mid last w' → G) → G
own_step j deed read next w last w' n mild given o out goes =
    own_ask j deed read next w last w' n (λ told e. (mild_still deed told mild, given told)) o out
    (λ told value from mid e x m k. goes value mid
    (same_on w from mid x (same_made j from mid deed told m (mild_still deed told mild) (given told))) k)

-- The session began anew: the guest holds nothing.
record IsEmpty (w on : World) : Type 0 where
  tree : bare_tree on.tree ≡ bare_tree w.tree
  none : (n : ℕ) → live_count n on.tables ≡ 0
  handles : (h : ℕ) → handle_at on h ≡ None
  next_number : w.tables.next_number ≤ on.tables.next_number
  next_handle : w.tables.next_handle ≤ on.tables.next_handle
  agreed : on.tables.negotiated ≡ nothing_agreed

cleared : (j : ℕ) (w on : World) (era closings : ℕ) →
    Makes j w (Changes change.Clear) (Event (event.Cleared era closings)) on → IsEmpty w on
cleared j w on era closings m =
    let h = cases w.tables on.tables change.Clear (event.Cleared era closings) m.2.made.0 in
    let c = clears w.tables on.tables closings h.1 in
    let n = c.next_number in let k = c.next_handle in
    record {
      tree = ap bare_tree m.2.made.1;
      none = λ x. counts_step x w.tables (Some (Changes change.Clear)) (Event (event.Cleared era closings)) on.tables
          m.0.agree m.2.made.0;
      handles = λ x. none_found on.past.objects x on.tables.handles
          (each_map (λ (z : HandleRow). z.live ≡ true → ⊥) (λ (z : HandleRow). z.live ≡ true → z.handle ≢ x)
          on.tables.handles (λ z f l. absurd (f l)) c.handles);
      next_number = omega (arith, n);
      next_handle = omega (arith, k);
      agreed = c.agreed_on;
    }

none_at : (w : World) (n : ℕ) → live_count n w.tables ≡ 0 → None ≡ number_at w n
none_at w n z = sym (ap (λ x. numbered x (w.past.numbers n)) z)

shows_empty : (w from mid : World) (state : PlainTree) → Shows w state → Same w from → IsEmpty from mid →
    Shows mid (emptied state)
shows_empty w from mid state s x e =
    let a = s.numbers_below in let b = x.still.next_number in let c = e.next_number in
    let d = s.handles_below in let f = x.still.next_handle in let g = e.next_handle in
    record {
      tree = s.tree ∙ sym (e.tree ∙ x.still.tree);
      numbers = λ n. none_at mid n (e.none n);
      handles = λ h. sym (e.handles h);
      numbers_below = omega (arith, a, b, c);
      handles_below = omega (arith, d, f, g);
      agreed = sym e.agreed;
    }

-- it begins anew, or that was refused
own_clear : {G : Type 0} (j : ℕ) (next : ℕ → RequestTree) (w : World) (last : Answer) (w' : World) (state : PlainTree) →
    last ≢ answer.NoMemory → Shows w state → Own j (clear next) w last w' →
    ((errno : Errno) → last ≡ answer.Refused errno → Same w w' → G) →
    ((era : ℕ) (mid : World) → Shows mid (emptied state) → Own j (next era) mid last w' → G) → G
own_clear {G} j next w last w' state n s o out goes =
    own_ask j (Changes change.Clear) cleared_in next w last w' n refuses o out go
  where
    refuses : (told : ActReply) → cleared_in told ≡ None →
        IsStill (Changes change.Clear) told × ((n had : ℕ) → given_by n had (Changes change.Clear) told ≡ had)
    refuses (Event (event.Cleared era closings)) e = absurd (cc)
    refuses (Event told) e = (tt, λ n had. refl)
    refuses (Host told) e = (tt, λ n had. refl)
    refuses NoCopy e = (tt, λ n had. refl)

    go : (told : ActReply) (era : ℕ) (from mid : World) → cleared_in told ≡ Some era → Same w from →
        Makes j from (Changes change.Clear) told mid → Own j (next era) mid last w' → G
    go (Event (event.Cleared given closings)) era from mid e x m k =
        goes era mid (shows_empty w from mid state s x (cleared j from mid given closings m)) k
    go told era from mid e x m k = absurd (cc)

-- what was said is agreed on
abbrev said_or : Option Negotiated → Negotiated → Negotiated
said_or None agreed = agreed
said_or (Some said) agreed = said

-- The root is given twice.
record IsRooted (w on : World) (said : Option Negotiated) : Type 0 where
  tree : bare_tree on.tree ≡ bare_tree w.tree
  none : live_count 1 w.tables ≡ 0
  counts : (n : ℕ) → live_count n on.tables ≡ live_count n w.tables + is 1 n * 2
  object : Option ℕ
  past : on.past.numbers ≡ set_at 1 object w.past.numbers
  handles : (h : ℕ) → handle_at on h ≡ handle_at w h
  next_number : w.tables.next_number ≤ on.tables.next_number
  next_handle : w.tables.next_handle ≤ on.tables.next_handle
  agreed : on.tables.negotiated ≡ said_or said w.tables.negotiated

said_keeps : (said : Option Negotiated) (t : Tables) →
    ((agreed_in said t).next_number ≡ t.next_number) × ((agreed_in said t).next_handle ≡ t.next_handle)
    × ((agreed_in said t).handles ≡ t.handles) × ((agreed_in said t).negotiated ≡ said_or said t.negotiated)
said_keeps None t = (refl, refl, refl, refl)
said_keeps (Some said) t = (refl, refl, refl, refl)

rooted : (j : ℕ) (w on : World) (new : NewRoot) (given : ℕ) →
    Makes j w (Changes (change.InsertRoot new)) (Event (event.Inserted given)) on → IsRooted w on new.negotiated
rooted j w on new given m =
    let h = cases w.tables on.tables (change.InsertRoot new) (event.Inserted given) m.2.made.0 in
    let k = said_keeps new.negotiated (with_row w.tables (new_row w.tables 1 new.form new.ids new.mode 0 2)) in
    let a = ap (λ z. z.next_number) h.4 ∙ k.0 in let b = ap (λ z. z.next_handle) h.4 ∙ k.1 in
    record {
      tree = ap bare_tree m.2.made.1;
      none = none_other 1 w.tables.rows h.1.1;
      counts = λ n. (let y = counts_step n w.tables (Some (Changes (change.InsertRoot new)))
          (Event (event.Inserted given)) on.tables m.0.agree m.2.made.0 in
          let g = ap (λ i. is i n * 2) h.3 in omega (arith, y, g));
      object = w.past.roots j;
      past = ap (λ p. p.numbers) m.2.past ∙ (λ i. set_at (h.3 i) (w.past.roots j) w.past.numbers);
      handles = λ x. (λ i. found (m.2.past i).objects x (h.4 i).handles)
          ∙ ap (found (set_at w.tables.next_row (w.past.roots j) w.past.objects) x) k.2
          ∙ found_apart w.past.objects w.tables.next_row (w.past.roots j) x w.tables.handles m.0.agree.sound_handles;
      next_number = omega (arith, a);
      next_handle = omega (arith, b);
      agreed = ap (λ z. z.negotiated) h.4 ∙ k.3;
    }

-- the shared directory is numbered, or that was refused
own_root : {G : Type 0} (j : ℕ) (plan : Plan) (session : BegunSession) (said : Option Negotiated) (next : RequestTree)
    (w : World) (last : Answer) (w' : World) → last ≢ answer.NoMemory →
    Own j (root_open plan session said next) w last w' →
    ((errno : Errno) → last ≡ answer.Refused errno → Same w w' → G) →
    ((from mid : World) → Same w from → IsRooted from mid said → Own j next mid last w' → G) → G
own_root {G} j plan session said next w last w' n o out goes =
    own_step j (Calls (call.OpenRoot plan.config.root_dir by_path)) fd_in stats w last w' n tt (λ told k had. refl) o
    out
    (λ fd a xa oa.
    own_step j (Calls (call.Stat fd)) stat_in (takes fd) a last w' n tt (λ told k had. refl) oa
    (λ errno e x. out errno e (same_on w a w' xa x)) (λ told b xb ob.
    let xab = same_on w a b xa xb in
    own_step j (Changes (change.TakeFd 0)) taken_in (λ done. inserts fd told) b last w' n tt (λ told k had. refl) ob
    (λ errno e x. out errno e (same_on w b w' xab x)) (λ done d xd od.
    let x = same_on w b d xab xd in
    own_ask j (change_is fd told) inserted_in (λ done. next) d last w' n (refuses fd told) od
    (λ errno e y. out errno e (same_on w d w' x y)) (λ reply done from mid e y m k.
    goes from mid (same_on w d from x y) (put fd told reply from mid done e m) k))))
  where
    inserts : Fd → Stat → RequestTree
    inserts fd told = insert_root session (File fd) told said next

    takes : Fd → Stat → RequestTree
    takes fd told = take_fd (inserts fd told)

    stats : Fd → RequestTree
    stats fd = stat fd (takes fd)

    new : Fd → Stat → NewRoot
    new fd told = new_root_of session.era (File fd) told said

    change_is : Fd → Stat → Deed
    change_is fd told = Changes (change.InsertRoot (new fd told))

    refuses : (fd : Fd) (stat : Stat) (told : ActReply) → inserted_in told ≡ None →
        IsStill (change_is fd stat) told × ((n had : ℕ) → given_by n had (change_is fd stat) told ≡ had)
    refuses fd stat (Event (event.Inserted given)) e = absurd (cc)
    refuses fd stat (Event told) e = (tt, λ n had. refl)
    refuses fd stat (Host told) e = (tt, λ n had. refl)
    refuses fd stat NoCopy e = (tt, λ n had. refl)

    put : (fd : Fd) (stat : Stat) (told : ActReply) (from mid : World) (done : Unit {0}) →
        inserted_in told ≡ Some done →
        Makes j from (change_is fd stat) told mid → IsRooted from mid said
    put fd stat (Event (event.Inserted given)) from mid done e m = rooted j from mid (new fd stat) given m
    put fd stat told from mid done e m = absurd (cc)

gentle_root : (plan : Plan) (session : BegunSession) (said : Option Negotiated) (next : RequestTree) → Gentle next →
    Gentle (root_open plan session said next)
gentle_root plan session said next g = (
  tt,
  gentle_on fd_in stats (λ fd. (
    tt,
    gentle_on stat_in (takes fd) (λ told. (
      tt,
      gentle_on taken_in (λ done. inserts fd told) (λ done. (tt, gentle_on inserted_in (λ done. next) (λ done. g))),
    )),
  )),
)
  where
    inserts : Fd → Stat → RequestTree
    inserts fd told = insert_root session (File fd) told said next

    takes : Fd → Stat → RequestTree
    takes fd told = take_fd (inserts fd told)

    stats : Fd → RequestTree
    stats fd = stat fd (takes fd)

-- what the plain file system then shows
shows_rooted : (w from mid w' : World) (state : PlainTree) (said : Option Negotiated) → Shows w state → Same w from →
    IsRooted from mid said → Same mid w' → Law w' → (after : PlainTree)
    × HasRoot (record state { agreed = said_or said state.agreed }) after × Shows w' after
shows_rooted w from mid w' state said s x r y l =
    let x1 = s.numbers_below in let x2 = x.still.next_number in let x3 = r.next_number in let x4 = y.still.next_number
    in
    let y1 = s.handles_below in let y2 = x.still.next_handle in let y3 = r.next_handle in let y4 = y.still.next_handle
    in (
      after,
      (o.object, s.numbers 1 ∙ (λ i. numbered (none i) (w.past.numbers 1)), refl),
      record {
        tree = s.tree ∙ sym (y.still.tree ∙ r.tree ∙ x.still.tree);
        numbers = λ n. ⊎_elim
            (λ (q : n ≡ 1). ap (set_at 1 (numbered_as o.object 2) state.numbers) q
            ∙ set_at_same state.numbers 1 (numbered_as o.object 2)
            ∙ sym (numbered_is 2 o.object (Some o.object) (omega arith) refl)
            ∙ (λ i. numbered (sym two i) (sym root i)) ∙ ap (number_at w') (sym q))
            (λ (q : n ≢ 1). set_at_other state.numbers 1 (numbered_as o.object 2) n q ∙ s.numbers n
            ∙ (λ i. numbered (sym (other n q) i)
            (sym (ap (λ f. f n) past ∙ set_at_other from.past.numbers 1 r.object n q ∙ ap (λ f. f n) x.still.past) i)))
            (cases_eq n 1);
        handles = λ h. s.handles h ∙ sym (y.still.handles h ∙ r.handles h ∙ x.still.handles h);
        numbers_below = omega (arith, x1, x2, x3, x4);
        handles_below = omega (arith, y1, y2, y3, y4);
        agreed = ap (said_or said) (s.agreed ∙ sym x.still.agreed) ∙ sym (y.still.agreed ∙ r.agreed);
      },
    )
  where
    none : live_count 1 w.tables ≡ 0
    none = sym (x.counts 1) ∙ r.none

    past : w'.past.numbers ≡ set_at 1 r.object from.past.numbers
    past = y.still.past ∙ r.past

    count : (n : ℕ) → live_count n w'.tables ≡ live_count n w.tables + is 1 n * 2
    count n = y.counts n ∙ r.counts n ∙ ap (λ had. had + is 1 n * 2) (x.counts n)

    other : (n : ℕ) → n ≢ 1 → live_count n w'.tables ≡ live_count n w.tables
    other n q = let k = count n in let z = is_apart 1 n (λ p. q (sym p)) in omega (arith, k, z)

    two : live_count 1 w'.tables ≡ 2
    two = let a = count 1 in let b = none in let i = is_same 1 in omega (arith, a, b, i)

    live : (row : Row) × IsRow w'.tables row × HasNumber 1 row × (row.count ≡ live_count 1 w'.tables)
    live = (counted 1 w'.tables l.agree).live (let a = two in omega (arith, a))

    o : RowOpen w'.tree w'.past live.0
    o = each_taken (RowOpen w'.tree w'.past) live.1.1 l.shown

    root : w'.past.numbers 1 ≡ Some o.object
    root = ap w'.past.numbers (sym live.2.1) ∙ o.numbered live.2.0

    after : PlainTree
    after = record state {
      agreed = said_or said state.agreed;
      numbers = set_at 1 (numbered_as o.object 2) state.numbers;
    }

-- A session begins anew: the guest holds the root alone, twice, and what is agreed on is what `init` answers.
pub served_init : (plan : Plan) (j : ℕ) (seat : HostSeat) (capable : FsOptions) (w : World) (last : Answer)
    (w' : World) (state : PlainTree) → Shows w state → Alone j seat (init plan capable) w last w' →
    IsServed plan (request.Init capable) state last w'
served_init plan j seat capable w last w' state s a =
    own_clear j opens w last w' state a.given s (own_of j seat (init plan capable) w last w' a gentle)
    (λ errno e x. refuse errno e state (inl refl) (shows_same w w' state s x)) (λ era b sb ob.
    own_root j plan (session_of era nothing_agreed) (Some said) ends b last w' a.given ob
    (λ errno e x. refuse errno e (emptied state) (inr (inl refl)) (shows_same b w' (emptied state) sb x))
    (λ from mid x r om.
    let g = own_gives j (init_answer plan.config capable) mid last w' om in
    let k = shows_rooted b from mid w' (emptied state) (Some said) sb x r g.1 a.law in
    (k.0, answered (is_short_of plan.config capable) refl k.0 k.1 g.0, k.2)))
  where
    said : Negotiated
    said = agreed_with plan.config capable

    ends : RequestTree
    ends = Gives (init_answer plan.config capable)

    opens : ℕ → RequestTree
    opens era = root_open plan (session_of era nothing_agreed) (Some said) ends

    gentle : Gentle (init plan capable)
    gentle =
        (tt, gentle_on cleared_in opens (λ era. gentle_root plan (session_of era nothing_agreed) (Some said) ends tt))

    refuse : (errno : Errno) → last ≡ answer.Refused errno → (after : PlainTree) →
        Serves plan (request.Init capable) state (answer.Refused errno) after → Shows w' after →
        IsServed plan (request.Init capable) state last w'
    refuse errno e after k sh =
        (after, subst (λ (l : Answer). Serves plan (request.Init capable) state l after) (sym e) k, sh)

    by_short : (short : Bool) → is_short_of plan.config capable ≡ short → (after : PlainTree) →
        HasRoot (record (emptied state) { agreed = said }) after → Serves plan (request.Init capable) state
        (if short then answer.Refused eproto else answer.Inited (init_options plan.config capable)) after
    by_short true e after k = inr (inr (e, k))
    by_short false e after k = (e, refl, k)

    answered : (short : Bool) → is_short_of plan.config capable ≡ short → (after : PlainTree) →
        HasRoot (record (emptied state) { agreed = said }) after → last ≡ init_answer plan.config capable →
        Serves plan (request.Init capable) state last after
    answered short e after k is = subst (λ (l : Answer). Serves plan (request.Init capable) state l after)
        (sym (is ∙ ap (λ (b : Bool). if b then answer.Refused eproto else answer.Inited
        (init_options plan.config capable)) e))
        (by_short short e after k)

-- and where one ends, nothing
pub served_destroy : (plan : Plan) (j : ℕ) (seat : HostSeat) (w : World) (last : Answer) (w' : World)
    (state : PlainTree) →
    Shows w state → Alone j seat destroy w last w' → IsServed plan request.Destroy state last w'
served_destroy plan j seat w last w' state s a =
    own_clear j (λ era. Gives answer.NoReply) w last w' state a.given s
    (own_of j seat destroy w last w' a (tt, gentle_on cleared_in (λ era. Gives answer.NoReply) (λ era. tt)))
    (λ errno e x. (
      state,
      subst (λ (l : Answer). Serves plan request.Destroy state l state) (sym e) refl,
      shows_same w w' state s x,
    ))
    (λ era b sb ob.
    let g = own_gives j answer.NoReply b last w' ob in (
      emptied state,
      subst (λ (l : Answer). Serves plan request.Destroy state l (emptied state)) (sym g.0) refl,
      shows_same b w' (emptied state) sb g.1,
    ))

-- the daemon numbers the root in the session that goes on
pub served_root : (plan : Plan) (j : ℕ) (seat : HostSeat) (w : World) (last : Answer) (w' : World) (state : PlainTree) →
    Shows w state → Alone j seat (begin (root plan)) w last w' → IsServed plan request.Root state last w'
served_root plan j seat w last w' state s a =
    own_step j (Changes change.Begin) began_in (root plan) w last w' a.given tt (λ told n had. refl)
    (own_of j seat (begin (root plan)) w last w' a (
      tt,
      gentle_on began_in (root plan) (λ session.
          gentle_root plan session None (Gives answer.Done) tt),
    )) out (λ session b xb ob.
    own_root j plan session None (Gives answer.Done) b last w' a.given ob
    (λ errno e x. out errno e (same_on w b w' xb x))
    (λ from mid x r om.
    let g = own_gives j answer.Done mid last w' om in
    let k = shows_rooted w from mid w' state None s (same_on w b from xb x) r g.1 a.law in
    (k.0, subst (λ (l : Answer). Serves plan request.Root state l k.0) (sym g.0) k.1, k.2)))
  where
    out : (errno : Errno) → last ≡ answer.Refused errno → Same w w' → IsServed plan request.Root state last w'
    out errno e x = (
      state,
      subst (λ (l : Answer). Serves plan request.Root state l state) (sym e) refl,
      shows_same w w' state s x,
    )
