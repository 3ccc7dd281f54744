-- Proof. What is opened gets a handle, which may be used for what it was opened for.
use Rattle.std.proofs.Common.{◌≡◌, ◌≢◌, ◌⊎◌, inl, inr, ℕ, false, Some, refl, sym, ap, subst, ◌∙◌, cond}
use Rattle.std.proofs.lemmas.Bool.{eq-eqb}
use Rattle.pt_host.specs.Tree.{Opened}
use Rattle.pt_host.specs.Words.{Each}
use Rattle.pt_host.specs.declared.ids.Errno.{Errno}
use Rattle.pt_host.specs.declared.ids.Fd.{Fd}
use Rattle.pt_tables.specs.Change.{Change}
use Rattle.pt_tables.specs.Tables.{Tables}
use Rattle.pt_tables.specs.declared.event.KeptEvent.TheVariants as change
use Rattle.pt_tables.specs.declared.event.NewHandle.{NewHandle}
use Rattle.pt_tables.specs.declared.reply.EventReply.TheVariants as event
use Rattle.pt_tables.proofs.Cases.{cases}
use Rattle.pt_iface.specs.declared.answer.Answer.{Answer}
use Rattle.pt_iface.specs.declared.answer.Answer.TheVariants as answer
use Rattle.pt_iface.specs.declared.entry.Entry.{Entry}
use Rattle.pt_iface.specs.declared.flags.OpenOptions.{OpenOptions}
use Rattle.pt_frame.specs.Deed.{Changes}
use Rattle.pt_frame.specs.Replies.{closings_in}
use Rattle.pt_frame.specs.Tree.{Gives, RequestTree, Shuts}
use Rattle.pt_frame.specs.declared.act.ActReply.{ActReply}
use Rattle.pt_frame.specs.declared.act.ActReply.TheVariants.{Event}
use Rattle.pt_req.specs.Parts.{handled as gets_handle}
use Rattle.pt_req.specs.Steps.{drawn_in, insert_handle, inserted_in, new_handle_of, take_fd, taken_in}
use Rattle.pt_req.specs.declared.begun.BegunSession.{BegunSession}
use Rattle.pt_law.specs.World.{Past}
use Rattle.pt_law.proofs.Knowing.{HandleOpen}
use Rattle.pt_law.proofs.Lists.{set_at_same}
use Rattle.pt_rules.specs.State.{State}
use Rattle.pt_plain.proofs.Coming.{Law}
use Rattle.pt_plain.proofs.Showing.{handled}
use Rattle.pt_filled.proofs.Descriptors.{IsOpenAs, access_in}
use Rattle.pt_filled.proofs.Handling.{access_by, access_of, accesses_at, row_at}
use Rattle.pt_filled.proofs.Hosting.{Full, Thread, world_of}
use Rattle.pt_filled.proofs.Parts.{At, comes_at, idles_calm, walk_ask}
use Rattle.pt_filled.proofs.Scopes.{after_shut}
use Rattle.pt_filled.proofs.Threading.{comes_law, IdlesBy, Makes}

-- it was refused
abbrev pub IsOut : Answer → Type 0
IsOut last = (errno : Errno) × (last ≡ answer.Refused errno)

-- or a handle was given that may be used so, and the rest follows
abbrev pub Lends : Thread → ℕ → (ℕ → RequestTree) → Answer → Full → Type 0
Lends j access next last w' =
    IsOut last
    ⊎ ((handle : ℕ) × (on : Full) × (accesses_at on handle ≡ access) × At j (next handle) on last w')

-- the descriptor was open then
abbrev pub LendsFd : Thread → State → Fd → (ℕ → RequestTree) → Answer → Full → Type 0
LendsFd j s fd next last w' =
    IsOut last
    ⊎ ((handle : ℕ) × (on : Full) × (accesses_at on handle ≡ access_in s fd) × (opened : Opened)
    × IsOpenAs s fd opened × At j (next handle) on last w')

pub lends_as : (j : Thread) (s : State) (fd : Fd) (next : ℕ → RequestTree) (last : Answer) (w' : Full) →
    LendsFd j s fd next last w' → Lends j (access_in s fd) next last w'
lends_as j s fd next last w' (inl r) = inl r
lends_as j s fd next last w' (inr (handle, on, a, opened, o, c)) = inr (handle, on, a, c)

module _ (j : Thread) (session : BegunSession) (number : ℕ) (fd : Fd) (next : ℕ → RequestTree) (last : Answer)
    (w' : Full) (n : last ≢ answer.NoMemory) where
  lends_inserted : (w : Full) (handle : ℕ) → At j (insert_handle session handle number fd (next handle)) w last w' →
      LendsFd j w.state fd next last w'
  lends_inserted w handle c =
      walk_ask j (Changes asked) inserted_in _ w last w' n (λ told e. tt) c (λ r. inl (r.errno, r.is)) go
    where
      new : NewHandle
      new = new_handle_of session.era handle number fd

      asked : Change
      asked = change.InsertHandle new

      -- the new row is found, and its descriptor is what was opened
      lent : (given : ℕ) (mid : Full) → Makes j w (Changes asked) (Event (event.Inserted given)) mid →
          accesses_at mid handle ≡ access_in w.state fd
      lent given mid m =
          let h = cases w.tables mid.tables asked (event.Inserted given) m.2.goes.made.0 in
          ap (access_by mid) (ap (λ (t : Tables). row_at t handle) h.4
          ∙ ap (λ b. cond b (handled number (Some w.tables.next_row)) (row_at w.tables handle))
          (eq-eqb handle handle refl))
          ∙ ap (access_of mid.state) (ap (λ (p : Past). p.fds w.tables.next_row) m.2.goes.past
          ∙ set_at_same w.past.fds w.tables.next_row (Some fd))
          ∙ ap (λ (s : State). access_in s fd) m.2.made.1

      go : (told : ActReply) (done : Unit {0}) (mid on : Full) → inserted_in told ≡ Some done →
          Makes j w (Changes asked) told mid → IdlesBy j (closings_in (Changes asked) told) mid on →
          At j (next handle) on last w' → LendsFd j w.state fd next last w'
      go (Event (event.Inserted given)) done mid on e m i k =
          let h = cases w.tables mid.tables asked (event.Inserted given) m.2.goes.made.0 in
          let l = subst (λ (z : Full). Law (world_of z)) i (comes_law j (next handle) on last w' (comes_at k)) in
          let o = (subst (λ (t : Tables). Each (HandleOpen (world_of mid).tree mid.past) t.handles) h.4 l.handled).0
          in inr (
            handle,
            on,
            subst (λ (z : Full). accesses_at z handle ≡ access_in w.state fd) (sym i) (lent given mid m),
            o.open_on.0,
            subst (λ (s : State). IsOpenAs s fd o.open_on.0) m.2.made.1 o.open_on.1,
            k,
          )
      go told done mid on e m i k = absurd (cc)

  pub lends_handled : (w : Full) → At j (gets_handle session number fd next) w last w' →
      LendsFd j w.state fd next last w'
  lends_handled w c =
      walk_ask j (Changes change.DrawHandle) drawn_in _ w last w' n (λ told e. tt) c (λ r. inl (r.errno, r.is)) drawn
    where
      Goal : Type 0
      Goal = LendsFd j w.state fd next last w'

      taken : (d : Full) (handle : ℕ) → d.state ≡ w.state → (told : ActReply) (done : Unit {0}) (mid on : Full) →
          taken_in told ≡ Some done → Makes j d (Changes (change.TakeFd 0)) told mid →
          IdlesBy j (closings_in (Changes (change.TakeFd 0)) told) mid on →
          At j (insert_handle session handle number fd (next handle)) on last w' → Goal
      taken d handle s (Event event.Taken) done mid on e m i k =
          subst (λ (z : State). LendsFd j z fd next last w')
          (ap (λ (z : Full). z.state) i ∙ m.2.made.1 ∙ s) (lends_inserted on handle k)
      taken d handle s told done mid on e m i k = absurd (cc)

      drawn : (told : ActReply) (handle : ℕ) (mid on : Full) → drawn_in told ≡ Some handle →
          Makes j w (Changes change.DrawHandle) told mid →
          IdlesBy j (closings_in (Changes change.DrawHandle) told) mid on →
          At j (take_fd (insert_handle session handle number fd (next handle))) on last w' → Goal
      drawn (Event (event.Drawn given)) handle mid on e m i k =
          walk_ask j (Changes (change.TakeFd 0)) taken_in _ on last w' n (λ told e. tt) k (λ r. inl (r.errno, r.is))
          (taken on handle (ap (λ (z : Full). z.state) i ∙ m.2.made.1))
      drawn told handle mid on e m i k = absurd (cc)

-- whatever handle was answered may be used so
abbrev pub LentTo : ℕ → Answer → Full → Type 0
LentTo access last w' = (entry : Entry) (handle : ℕ) (options : OpenOptions) →
    last ≡ answer.Created entry handle options → accesses_at w' handle ≡ access

pub lent_none : (access : ℕ) (last : Answer) (w' : Full) → IsOut last → LentTo access last w'
lent_none access last w' r entry handle options e = absurd (let x = sym r.1 ∙ e in cc)

pub lent_so : (j : Thread) (access : ℕ) (entry : Entry) (options : OpenOptions) (last : Answer) (w' : Full) →
    Lends j access (λ handle. Gives (answer.Created entry handle options)) last w' → LentTo access last w'
lent_so j access entry options last w' (inl r) other handle others e = lent_none access last w' r other handle others e
lent_so j access entry options last w' (inr (given, on, a, c)) other handle others e =
    let k = comes_at c in
    ap (accesses_at w') (same other handle others (sym e ∙ k.0)) ∙ ((idles_calm j on w' k.1).lent given).1 ∙ a
  where
    same : (other : Entry) (handle : ℕ) (others : OpenOptions) →
        answer.Created other handle others ≡ answer.Created entry given options → handle ≡ given
    same other handle others e = cc

-- the bracket ends behind that
pub lends_shut : (j : Thread) (access : ℕ) (next : ℕ → RequestTree) (last : Answer) (w' : Full) →
    Lends j access (λ handle. Shuts false (next handle)) last w' → Lends j access next last w'
lends_shut j access next last w' (inl r) = inl r
lends_shut j access next last w' (inr (handle, on, a, c)) =
    after_shut c (λ f idle cf. inr (handle, f, (idle.lent handle).1 ∙ a, cf))
