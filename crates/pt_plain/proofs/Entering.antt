-- Proof. What a name leads to is given a number: the part of a lookup, walked in a world.
use Rattle.std.proofs.Common.{◌≡◌, ◌≢◌, ◌⊎◌, inl, inr, ℕ, suc, ◌<◌, ◌≤◌, List, [], ◌∷◌, true, Option, Some, None, sym}
use Rattle.std.proofs.Common.{ap, subst, ◌∙◌, arith}
use Rattle.pt_host.specs.Call.{Call}
use Rattle.pt_host.specs.Tree.{Tree, IsOpenOn}
use Rattle.pt_host.specs.Words.{set_at, Each}
use Rattle.pt_host.specs.declared.ids.Fd.{Fd}
use Rattle.pt_host.specs.declared.ids.ObjIds.{ObjIds}
use Rattle.pt_host.specs.declared.stat.Stat.{Stat}
use Rattle.pt_host.specs.declared.op.KeptHostOp.TheVariants as call
use Rattle.pt_tables.specs.Change.{Change}
use Rattle.pt_tables.specs.declared.reply.Resolved.{Resolved}
use Rattle.pt_tables.specs.declared.form.RowForm.TheVariants.{File}
use Rattle.pt_tables.specs.declared.event.KeptEvent.TheVariants as change
use Rattle.pt_tables.specs.declared.event.NewRow.{NewRow}
use Rattle.pt_tables.specs.declared.reply.EventReply.TheVariants as event
use Rattle.pt_tables.proofs.Cases.{GivenAgain, cases}
use Rattle.pt_iface.specs.declared.answer.Answer.{Answer}
use Rattle.pt_iface.specs.declared.answer.Answer.TheVariants as answer
use Rattle.pt_frame.specs.Deed.{Deed, Calls, Changes, Step}
use Rattle.pt_frame.specs.Replies.{closings_in}
use Rattle.pt_frame.specs.Tree.{RequestTree, Shuts, on}
use Rattle.pt_frame.specs.declared.act.ActReply.{ActReply}
use Rattle.pt_frame.specs.declared.act.ActReply.TheVariants.{Event, Host, NoCopy}
use Rattle.pt_req.specs.Parts.{by_path, file_of, numbered, numbered_as, look_up, looked_of}
use Rattle.pt_req.specs.Steps.{open_at, stat, claim, claim_of, claimed_in, draw_node, drawn_in, insert, numbered_in}
use Rattle.pt_req.specs.Steps.{new_row_of}
use Rattle.pt_req.specs.declared.plan.Plan.{Plan}
use Rattle.pt_req.specs.declared.parts.looked.Looked.{Looked}
use Rattle.pt_req.specs.declared.begun.BegunSession.{BegunSession}
use Rattle.pt_law.specs.Branch.{ReturnsHold}
use Rattle.pt_law.specs.World.{World, Past, come_to, settled, turn_by, Goes, fd_of}
use Rattle.pt_law.proofs.Givings.{live_count}
use Rattle.pt_law.proofs.Knowing.{RowOpen, Shows, one_object}
use Rattle.pt_law.proofs.Lists.{each_taken, set_at_same}
use Rattle.pt_plain.proofs.Coming.{Idles, IdlesBy, Makes, Walks}
use Rattle.pt_plain.proofs.Found.{found_apart}
use Rattle.pt_plain.proofs.Showing.{bare_tree, found, handle_at}
use Rattle.pt_plain.proofs.Stilling.{IsStill, still_goes}
use Rattle.pt_plain.proofs.Walking.{At, At.{by}, GivesNone, hidden_mild, hidden_on, idles_quiet, in_bracket, IsHidden}
use Rattle.pt_plain.proofs.Walking.{IsRefused, live_row, mild_still, Quiet, quiet_goes, quiet_on, refused_from}
use Rattle.pt_plain.proofs.Walking.{some_is, walk_ask, walk_file, walk_open_at, walk_resolve, walk_stat, walk_take_fd}

-- The object of what was opened was given by this number: one that it had, or one that was never given before.
pub record IsNumbered (w on : World) (object number : ℕ) : Type 0 where
  pub tree : bare_tree on.tree ≡ bare_tree w.tree
  pub handles : (handle : ℕ) → handle_at on handle ≡ handle_at w handle
  pub next_number : w.tables.next_number ≤ on.tables.next_number
  pub next_handle : w.tables.next_handle ≤ on.tables.next_handle
  pub agreed : on.tables.negotiated ≡ w.tables.negotiated
  pub past : ((on.past.numbers ≡ w.past.numbers) × (w.past.numbers number ≡ Some object)
      × (0 < live_count number w.tables))
      ⊎ ((on.past.numbers ≡ set_at number (Some object) w.past.numbers) × (w.tables.next_number ≤ number)
      × (suc number ≤ on.tables.next_number))

-- what comes before and behind
pub numbered_from : (w mid on : World) (object number : ℕ) → Quiet w mid → IsNumbered mid on object number →
    IsNumbered w on object number
numbered_from w mid on object number q s =
    let n = q.still.next_number in let m = s.next_number in let h = q.still.next_handle in let k = s.next_handle in
    record {
      tree = s.tree ∙ q.still.tree;
      handles = λ x. s.handles x ∙ q.still.handles x;
      next_number = omega (arith, n, m);
      next_handle = omega (arith, h, k);
      agreed = s.agreed ∙ q.still.agreed;
      past = elim s.past [
        | inl old ↦ inl (
          old.0 ∙ q.still.past,
          ap (λ f. f number) (sym q.still.past) ∙ old.1,
          (let a = q.falls number in let b = old.2 in omega (arith, a, b)),
        )
        | inr new ↦ inr (
          new.0 ∙ ap (set_at number (Some object)) q.still.past,
          (let a = new.1 in omega (arith, a, n)),
          new.2,
        )
      ];
    }

pub numbered_on : (w mid on : World) (object number : ℕ) → IsNumbered w mid object number → Quiet mid on →
    IsNumbered w on object number
numbered_on w mid on object number s q =
    let n = s.next_number in let m = q.still.next_number in let h = s.next_handle in let k = q.still.next_handle in
    record {
      tree = q.still.tree ∙ s.tree;
      handles = λ x. q.still.handles x ∙ s.handles x;
      next_number = omega (arith, n, m);
      next_handle = omega (arith, h, k);
      agreed = q.still.agreed ∙ s.agreed;
      past = elim s.past [
        | inl old ↦ inl (q.still.past ∙ old.0, old.1, old.2)
        | inr new ↦ inr (q.still.past ∙ new.0, new.1, (let a = new.2 in omega (arith, a, m)))
      ];
    }

-- what a job has come to
come_noted : (p : Past) (j number : ℕ) (object : Option ℕ) → (come_to p j number object).resolved j number ≡ object
come_noted p j number object =
    ap (λ f. f number) (set_at_same p.resolved j (set_at number object (p.resolved j)))
    ∙ set_at_same (p.resolved j) number object

pub given_object : (j : ℕ) (w on : World) (deed : Deed) (told : ActReply) (fd : Fd) (object number : ℕ) (ids : ObjIds) →
    Makes j w deed told on → Shows w.tree fd object ids → GivenAgain w.tables ids number on.tables →
    w.past.numbers number ≡ Some object
given_object j w on deed told fd object number ids m sh a =
    let o = each_taken (RowOpen w.tree w.past) a.3.1 m.0.shown in
    let same : o.object ≡ object =
    (m.0.well a.0 a.3).apart (fd_of a.0.form) fd o.object object o.shows.what sh.what o.shows.open_on sh.open_on
    o.shows.is_object sh.is_object (o.shows.same_ids ∙ a.1.1 ∙ sym sh.same_ids) in
    ap w.past.numbers (sym a.2) ∙ o.numbered a.1.0 ∙ ap Some same

-- a step that gives the object's number once more: its row has the ids that were told of what is open on it
given_again : (j : ℕ) (w on : World) (deed : Deed) (told : ActReply) (fd : Fd) (object number : ℕ) (ids : ObjIds) →
    Makes j w deed told on → IsStill deed told → Shows w.tree fd object ids → GivenAgain w.tables ids number on.tables →
    IsNumbered w on object number
given_again j w on deed told fd object number ids m s sh a =
    let o = each_taken (RowOpen w.tree w.past) a.3.1 m.0.shown in
    let what = ap (λ (z : ObjIds). z) a.1.1 in
    let same : o.object ≡ object =
    (m.0.well a.0 a.3).apart (fd_of a.0.form) fd o.object object o.shows.what sh.what o.shows.open_on sh.open_on
    o.shows.is_object sh.is_object (o.shows.same_ids ∙ a.1.1 ∙ sym sh.same_ids) in
    let q = still_goes j w on deed told s m.1 m.2 in
    record {
      tree = q.tree;
      handles = q.handles;
      next_number = q.next_number;
      next_handle = q.next_handle;
      agreed = q.agreed;
      past = inl (
        q.past,
        ap w.past.numbers (sym a.2) ∙ o.numbered a.1.0 ∙ ap Some same,
        live_row number w.tables a.0 m.0.agree a.3 (a.1.0, a.2),
      );
    }

-- the object that a job opened last is inserted by a number that was drawn
record IsInserted (w on : World) (number object : ℕ) : Type 0 where
  tree : bare_tree on.tree ≡ bare_tree w.tree
  handles : (handle : ℕ) → handle_at on handle ≡ handle_at w handle
  next_number : on.tables.next_number ≡ w.tables.next_number
  next_handle : on.tables.next_handle ≡ w.tables.next_handle
  agreed : on.tables.negotiated ≡ w.tables.negotiated
  past : on.past.numbers ≡ set_at number (Some object) w.past.numbers

inserted_new : (j : ℕ) (w on : World) (new : NewRow) (given object : ℕ) →
    Makes j w (Changes (change.Insert new)) (Event (event.Inserted given)) on → w.past.latest j ≡ Some object →
    (given ≡ new.number) × IsInserted w on new.number object
inserted_new j w on new given object m latest =
    let h = cases w.tables on.tables (change.Insert new) (event.Inserted given) m.2.made.0 in (
      h.3,
      record {
        tree = ap bare_tree m.2.made.1;
        handles = λ x. (λ i. found (m.2.past i).objects x (h.4 i).handles)
            ∙ found_apart w.past.objects w.tables.next_row (w.past.latest j) x w.tables.handles m.0.agree.sound_handles;
        next_number = ap (λ z. z.next_number) h.4;
        next_handle = ap (λ z. z.next_handle) h.4;
        agreed = ap (λ z. z.negotiated) h.4;
        past = ap (λ p. p.numbers) m.2.past ∙ (λ i. set_at (h.3 i) (latest i) w.past.numbers);
      },
    )

walk_claim : {G : Type 0} (j : ℕ) (session : BegunSession) (ids : ObjIds) (next : Option ℕ → RequestTree) (w : World)
    (last : Answer) (w' : World) (fd : Fd) (object : ℕ) → last ≢ answer.NoMemory →
    Shows w.tree fd object ids → At j (claim session None ids next) w last w' → (IsRefused w last w' → G) →
    ((number : ℕ) (on : World) → IsNumbered w on object number → (on.past.resolved j number ≡ Some object) →
    At j (next (Some number)) on last w' → G) → ((on : World) → IsHidden w on → At j (next None) on last w' → G) → G
walk_claim {G} j session ids next w last w' fd object n sh c out goes none =
    walk_ask j (Changes change_is) claimed_in next w last w' n refuses c out go
  where
    change_is : Change
    change_is = change.Claim (claim_of session.era None ids)

    refuses : (told : ActReply) → claimed_in told ≡ None →
        IsStill (Changes change_is) told × GivesNone (Changes change_is) told
    refuses (Event (event.Claimed given)) e = absurd (cc)
    refuses (Event told) e = (tt, tt)
    refuses (Host told) e = (tt, tt)
    refuses NoCopy e = (tt, tt)

    go : (told : ActReply) (given : Option ℕ) (mid on : World) → claimed_in told ≡ Some given →
        Makes j w (Changes change_is) told mid → IdlesBy j (closings_in (Changes change_is) told) mid on →
        At j (next given) on last w' → G
    go (Event (event.Claimed given)) it mid on e m i k =
        let h = cases w.tables mid.tables change_is (event.Claimed given) m.2.made.0 in
        goes given.number on
        (subst (λ (z : World). IsNumbered w z object given.number) (sym i)
        (given_again j w mid (Changes change_is) _ fd object given.number ids m tt sh h.1))
        (ap (λ (z : World). z.past.resolved j given.number) i
        ∙ ap (λ p. p.resolved j given.number) m.2.past ∙ come_noted w.past j given.number (w.past.numbers given.number)
        ∙ given_object j w mid (Changes change_is) _ fd object given.number ids m sh h.1)
        (subst (λ (x : Option ℕ). At j (next x) on last w') (sym (some_is e)) k)
    go (Event event.Absent) it mid on e m i k =
        none on (subst (λ (z : World). IsHidden w z) (sym i) (record {
          quiet = quiet_goes j w mid (Changes change_is) _ m tt tt;
          tree = m.2.made.1;
          past = m.2.past;
        })) (subst (λ (x : Option ℕ). At j (next x) on last w') (sym (some_is e)) k)
    go told it mid on e m i k = absurd (cc)

walk_draw_node : {G : Type 0} (j : ℕ) (next : ℕ → RequestTree) (w : World) (last : Answer) (w' : World) →
    last ≢ answer.NoMemory → At j (draw_node next) w last w' → (IsRefused w last w' → G) →
    ((fresh : ℕ) (on : World) → IsHidden w on → (w.tables.next_number ≤ fresh) → (suc fresh ≤ on.tables.next_number) →
    At j (next fresh) on last w' → G) → G
walk_draw_node {G} j next w last w' n c out goes =
    walk_ask j (Changes change.DrawNode) drawn_in next w last w' n
    (λ told e. (mild_still (Changes change.DrawNode) told tt, tt)) c out go
  where
    go : (told : ActReply) (fresh : ℕ) (mid on : World) → drawn_in told ≡ Some fresh →
        Makes j w (Changes change.DrawNode) told mid → IdlesBy j (closings_in (Changes change.DrawNode) told) mid on →
        At j (next fresh) on last w' → G
    go (Event (event.Drawn given)) fresh mid on e m i k =
        let h = cases w.tables mid.tables change.DrawNode (event.Drawn given) m.2.made.0 in
        let same = some_is e in
        let a = h.0 in
        let x = ap (λ z. z.next_number) h.2 in
        let y = ap (λ (z : World). z.tables.next_number) i in
        goes fresh on (hidden_mild j w mid on (Changes change.DrawNode) _ tt m m.2.made.1 m.2.past i)
        (omega (arith, a, same)) (omega (arith, a, same, x, y)) k
    go told fresh mid on e m i k = absurd (cc)

walk_insert : {G : Type 0} (j : ℕ) (session : BegunSession) (fresh : ℕ) (fd : Fd) (told : Stat)
    (next : ℕ → RequestTree) (w : World) (last : Answer) (w' : World) (object : ℕ) → last ≢ answer.NoMemory →
    Shows w.tree fd object told.ids → w.past.latest j ≡ Some object →
    At j (insert session fresh (File fd) told next) w last w' → (IsRefused w last w' → G) →
    ((on : World) → IsInserted w on fresh object → (on.past.resolved j fresh ≡ Some object) →
    At j (next fresh) on last w' → G) →
    ((number : ℕ) (on : World) → IsNumbered w on object number → (on.past.resolved j number ≡ Some object) →
    At j (next number) on last w' → G) → G
walk_insert {G} j session fresh fd stat next w last w' object n sh latest c out new goes =
    walk_ask j (Changes change_is) numbered_in next w last w' n refuses c out go
  where
    row : NewRow
    row = new_row_of session.era fresh (File fd) stat

    change_is : Change
    change_is = change.Insert row

    refuses : (told : ActReply) → numbered_in told ≡ None →
        IsStill (Changes change_is) told × GivesNone (Changes change_is) told
    refuses (Event (event.Inserted given)) e = absurd (cc)
    refuses (Event (event.Found given)) e = absurd (cc)
    refuses (Event told) e = (tt, tt)
    refuses (Host told) e = (tt, tt)
    refuses NoCopy e = (tt, tt)

    go : (told : ActReply) (number : ℕ) (mid on : World) → numbered_in told ≡ Some number →
        Makes j w (Changes change_is) told mid → IdlesBy j (closings_in (Changes change_is) told) mid on →
        At j (next number) on last w' → G
    go (Event (event.Inserted given)) number mid on e m i k =
        let x = inserted_new j w mid row given object m latest in
        new on (subst (λ (z : World). IsInserted w z fresh object) (sym i) x.1)
        (ap (λ (z : World). z.past.resolved j fresh) i
        ∙ ap (λ (z : ℕ). mid.past.resolved j z) (sym x.0) ∙ ap (λ p. p.resolved j given) m.2.past
        ∙ come_noted (settled w.past given w.tables.next_row fd (w.past.latest j)) j given (w.past.latest j) ∙ latest)
        (subst (λ z. At j (next z) on last w') (sym (some_is e) ∙ x.0) k)
    go (Event (event.Found given)) number mid on e m i k =
        let h = cases w.tables mid.tables change_is (event.Found given) m.2.made.0 in
        goes given.number on
        (subst (λ (z : World). IsNumbered w z object given.number) (sym i)
        (given_again j w mid (Changes change_is) _ fd object given.number stat.ids m tt sh h.1))
        (ap (λ (z : World). z.past.resolved j given.number) i
        ∙ ap (λ p. p.resolved j given.number) m.2.past ∙ come_noted w.past j given.number (w.past.numbers given.number)
        ∙ given_object j w mid (Changes change_is) _ fd object given.number stat.ids m sh h.1)
        (subst (λ z. At j (next z) on last w') (sym (some_is e)) k)
    go told number mid on e m i k = absurd (cc)

shows_on : (w on : World) (fd : Fd) (object : ℕ) (ids : ObjIds) → on.tree ≡ w.tree → Shows w.tree fd object ids →
    Shows on.tree fd object ids
shows_on w on fd object ids e s = subst (λ (t : Tree). Shows t fd object ids) (sym e) s

pub walk_numbered : {G : Type 0} (j : ℕ) (session : BegunSession) (fd : Fd) (told : Stat) (next : ℕ → RequestTree)
    (w : World) (last : Answer) (w' : World) (object : ℕ) → last ≢ answer.NoMemory → Shows w.tree fd object told.ids →
    w.past.latest j ≡ Some object → At j (numbered session (File fd) told next) w last w' →
    (IsRefused w last w' → G) →
    ((number : ℕ) (on : World) → IsNumbered w on object number → (on.past.resolved j number ≡ Some object) →
    At j (next number) on last w' → G) → G
walk_numbered {G} j session fd told next w last w' object n sh latest c out goes =
    walk_claim j session told.ids (λ given. numbered_as session (File fd) told given next) w last w'
    fd object n sh c out goes (λ a ha ca.
    walk_take_fd j (draw_node (λ fresh. insert session fresh (File fd) told next)) a last w' n ca
    (λ r. out (refused_from w a last w' ha.quiet r)) (λ b hb cb.
    let hab = hidden_on w a b ha hb in
    walk_draw_node j (λ fresh. insert session fresh (File fd) told next) b last w' n cb
    (λ r. out (refused_from w b last w' hab.quiet r)) (λ fresh d hd low high cd.
    let h = hidden_on w b d hab hd in
    let l = hab.quiet.still.next_number in
    walk_insert j session fresh fd told next d last w' object n
    (shows_on w d fd object told.ids h.tree sh) (ap (λ p. p.latest j) h.past ∙ latest) cd
    (λ r. out (refused_from w d last w' h.quiet r))
    (λ on x noted k. goes fresh on (record {
      tree = x.tree ∙ h.quiet.still.tree;
      handles = λ y. x.handles y ∙ h.quiet.still.handles y;
      next_number = (let a = h.quiet.still.next_number in let b = x.next_number in omega (arith, a, b));
      next_handle = (let a = h.quiet.still.next_handle in let b = x.next_handle in omega (arith, a, b));
      agreed = x.agreed ∙ h.quiet.still.agreed;
      past = inr (
        x.past ∙ ap (set_at fresh (Some object)) h.quiet.still.past,
        omega (arith, l, low),
        (let b = x.next_number in omega (arith, b, high)),
      );
    }) noted k)
    (λ number on s noted k. goes number on (numbered_from w d on object number h.quiet s) noted k))))

-- what gives back settles nothing
returns_past : (j : ℕ) (w on : World) (deed : Option Deed) (told : ActReply) → ReturnsHold deed →
    Goes w (turn_by j (record { deed = deed; reply = told })) on → on.past ≡ w.past
returns_past j w on None told r g = g.past
returns_past j w on (Some (Calls asked)) told r g = by_call asked told r g
  where
    by_call : (asked : Call) (told : ActReply) → ReturnsHold (Some (Calls asked)) →
        Goes w (turn_by j (record { deed = Some (Calls asked); reply = told })) on → on.past ≡ w.past
    by_call (call.OpenAt dir name flags mode) told r g = absurd r
    by_call (call.OpenRoot path flags) told r g = absurd r
    by_call asked told r g = g.past
returns_past j w on (Some (Changes asked)) told r g = by_event asked told r g
  where
    by_event : (asked : Change) (told : ActReply) → ReturnsHold (Some (Changes asked)) →
        Goes w (turn_by j (record { deed = Some (Changes asked); reply = told })) on → on.past ≡ w.past
    by_event (change.Unpin row) told r g = g.past
    by_event (change.UnpinHandle row) told r g = g.past
    by_event (change.GiveFd class) told r g = g.past
    by_event (change.GiveBack era number) told r g = g.past
    by_event change.TakeClosing told r g = g.past
    by_event asked told r g = absurd r

walks_past : (j : ℕ) (steps : List Step) (w on : World) → Each (λ (s : Step). ReturnsHold s.deed) steps →
    Walks j w steps on → on.past ≡ w.past
walks_past j [] w on r k = ap (λ (v : World). v.past) k.1
walks_past j (step ∷ steps) w on r k =
    walks_past j steps k.2 on r.1 k.4 ∙ returns_past j w k.2 step.deed step.reply r.0 k.3

pub idles_past : (j : ℕ) (w on : World) → Idles j w on → on.past ≡ w.past
idles_past j w on i = walks_past j i.0 w on i.1 i.2

-- A name was looked up in the directory of its parent, and its object was given.
pub record IsLooked (w on : World) (parent : ℕ) (name : List ℕ) (number : ℕ) : Type 0 where
  pub dir : ℕ
  pub is_dir : w.past.numbers parent ≡ Some dir
  pub live : 0 < live_count parent w.tables
  pub object : ℕ
  pub leads : w.tree.names dir name ≡ Some object
  pub numbered : IsNumbered w on object number

pub walk_look_up : {G : Type 0} (j : ℕ) (plan : Plan) (session : BegunSession) (parent : ℕ) (name : List ℕ)
    (next : Looked → RequestTree) (w : World) (last : Answer) (w' : World) → last ≢ answer.NoMemory →
    At j (look_up plan session parent name next) w last w' → (IsRefused w last w' → G) →
    ((looked : Looked) (on : World) → (l : IsLooked w on parent name looked.entry.inode) →
    (on.past.resolved j looked.entry.inode ≡ Some l.object) → At j (next looked) on last w' → G) → G
unfolding look_up
walk_look_up {G} j plan session parent name next w last w' n c out goes =
    walk_resolve j parent found_dir w last w' n (in_bracket c) out (λ directory a ra ca.
    walk_file j directory.form (in_dir directory) a last w' ca (λ cf.
    walk_open_at j (fd_of directory.form) name _ a last w' n cf
    (λ r. out (refused_from w a last w' ra.quiet r)) (λ fd b ob cb.
    let qb = quiet_on w a b ra.quiet ob.quiet in
    walk_stat j fd _ b last w' n cb (λ r. out (refused_from w b last w' qb r)) (λ told d sd cd.
    let qd = quiet_on w b d qb sd.quiet in
    let same = one_object b.tree fd sd.object ob.object sd.shows.open_on ob.open_on in
    let shows = subst (λ o. Shows b.tree fd o told.ids) same sd.shows in
    walk_numbered j session fd told (λ number.
    Shuts true (next (looked_of plan session directory.ids told number))) d last w' ob.object n
    (shows_on b d fd ob.object told.ids sd.tree shows)
    (ap (λ p. p.latest j) sd.past ∙ ob.latest) cd (λ r. out (refused_from w d last w' qd r)) (λ number e se noted ce.
    let at = one_object a.tree (fd_of directory.form) ob.at ra.object ob.dir_open
    (subst (λ (t : Tree). IsOpenOn t (fd_of directory.form) ra.object) (sym ra.tree) ra.open_on) in
    shut ce (λ f idle cf.
    goes (looked_of plan session directory.ids told number) f (record {
      dir = ra.object;
      is_dir = ra.is_object;
      live = ra.live;
      object = ob.object;
      leads =
          ap (λ (t : Tree). t.names ra.object name) (sym ra.tree) ∙ ap (λ o. a.tree.names o name) (sym at) ∙ ob.leads;
      numbered = numbered_on w e f ob.object number (numbered_from w d e ob.object number qd se)
          (idles_quiet j e f idle);
    }) (ap (λ p. p.resolved j number) (idles_past j e f idle) ∙ noted) cf))))))
  where
    in_dir : Resolved → Fd → RequestTree
    in_dir directory dir = open_at dir name by_path (λ fd. stat fd (λ told. numbered session (File fd) told (λ number.
        Shuts true (next (looked_of plan session directory.ids told number)))))

    found_dir : Resolved → RequestTree
    found_dir directory = file_of directory.form (in_dir directory)

    shut : {tree : RequestTree} {e : World} → At j (Shuts true tree) e last w' →
        ((f : World) → Idles j e f → At j tree f last w' → G) → G
    shut (by c) k = k c.0 c.1 (by c.2)

-- what comes before and behind a lookup
pub looked_from : (w mid on : World) (parent : ℕ) (name : List ℕ) (number : ℕ) → Quiet w mid →
    IsLooked mid on parent name number → IsLooked w on parent name number
looked_from w mid on parent name number q l = record {
  dir = l.dir;
  is_dir = ap (λ f. f parent) (sym q.still.past) ∙ l.is_dir;
  live = (let a = q.falls parent in let b = l.live in omega (arith, a, b));
  object = l.object;
  leads = ap (λ (t : Tree). t.names l.dir name) (sym q.still.tree) ∙ l.leads;
  numbered = numbered_from w mid on l.object number q l.numbered;
}

pub looked_on : (w mid on : World) (parent : ℕ) (name : List ℕ) (number : ℕ) → IsLooked w mid parent name number →
    Quiet mid on → IsLooked w on parent name number
looked_on w mid on parent name number l q = record {
  dir = l.dir;
  is_dir = l.is_dir;
  live = l.live;
  object = l.object;
  leads = l.leads;
  numbered = numbered_on w mid on l.object number l.numbered q;
}
