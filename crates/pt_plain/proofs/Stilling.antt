-- Proof. Which steps leave what the plain file system sees, counts aside.
use Rattle.std.proofs.Common.{◌≡◌, ◌⊎◌, inl, inr, ℕ, zero, suc, List, [], ◌∷◌, Bool, true, false, Option, Some, None}
use Rattle.std.proofs.Common.{refl, sym, ap, subst, ◌∙◌, arith}
use Rattle.pt_host.specs.Call.{Call}
use Rattle.pt_host.specs.Flags.{includes, o_creat}
use Rattle.pt_host.specs.LawfulTree.{TreeChanges}
use Rattle.pt_host.specs.Sorts.{sort_of}
use Rattle.pt_host.specs.Tree.{Tree}
use Rattle.pt_host.specs.Words.{Each}
use Rattle.pt_host.specs.declared.op.KeptHostOp.TheVariants as call
use Rattle.pt_host.specs.declared.reply.HostReply.{HostReply}
use Rattle.pt_host.specs.declared.reply.HostReply.TheVariants as host
use Rattle.pt_host.specs.declared.reply.HostValue.TheVariants as value
use Rattle.pt_tables.specs.Change.{Change}
use Rattle.pt_tables.specs.declared.event.KeptEvent.TheVariants as change
use Rattle.pt_tables.specs.declared.reply.EventReply.{EventReply}
use Rattle.pt_tables.specs.declared.reply.EventReply.TheVariants as event
use Rattle.pt_tables.proofs.Cases.{cases}
use Rattle.pt_frame.specs.Deed.{Deed, Calls, Changes, Step, LacksMemory}
use Rattle.pt_frame.specs.declared.act.ActReply.{ActReply}
use Rattle.pt_frame.specs.declared.act.ActReply.TheVariants.{Event, Host, NoCopy}
use Rattle.pt_law.specs.Branch.{ReturnsHold, ReturnsBySort, ReturnsByEvent}
use Rattle.pt_law.specs.World.{made, World, turn_by, Goes}
use Rattle.pt_plain.proofs.Coming.{Idles, IdlesBy, Walks}
use Rattle.pt_plain.proofs.Showing.{bare_tree, found, IsStillEvent, Still, still_case, still_none, still_on}

abbrev pub NotOk : HostReply → Type 0
NotOk (host.Ok told) = ⊥
NotOk (host.Refused errno) = Unit {0}
NotOk (host.Fault errno) = Unit {0}
NotOk host.NoMemory = Unit {0}

-- a call that leaves names and objects: all but these, where they are refused
abbrev pub IsStillCall : Call → HostReply → Type 0
IsStillCall (call.OpenAt dir name flags mode) told = NotOk told ⊎ (includes flags.0 o_creat ≡ false)
IsStillCall (call.MakeDir dir name mode) told = NotOk told
IsStillCall (call.MakeNode dir name mode rdev) told = NotOk told
IsStillCall (call.SymLink dir name target) told = NotOk told
IsStillCall (call.MakeLink from dir name) told = NotOk told
IsStillCall (call.Unlink dir name) told = NotOk told
IsStillCall (call.RemoveDir dir name) told = NotOk told
IsStillCall (call.Rename dir name to new flags) told = NotOk told
IsStillCall (call.Edit edit) told = NotOk told
IsStillCall asked told = Unit {0}

abbrev pub IsStill : Deed → ActReply → Type 0
IsStill (Calls asked) (Host told) = IsStillCall asked told
IsStill (Calls asked) told = Unit {0}
IsStill (Changes asked) (Event told) = IsStillEvent asked told
IsStill (Changes asked) told = Unit {0}

made_no : (flags : Bool) → flags ≡ false → flags ≡ true → ⊥
made_no flags f t = cc

call_still : (tree : Tree) (asked : Call) (told : HostReply) (after : Tree) → IsStillCall asked told →
    TreeChanges tree asked told after → bare_tree after ≡ bare_tree tree
call_still tree (call.Close fd) told after s c = ap bare_tree c
call_still tree (call.OpenRoot path flags) (host.Ok (value.Fd fd)) after s c = ap bare_tree c.1.adds
call_still tree (call.OpenPath dir path flags) (host.Ok (value.Fd fd)) after s c = ap bare_tree c.1.adds
call_still tree (call.OpenAt dir name flags mode) (host.Ok (value.Fd fd)) after (inr s) (inl c) = ap bare_tree c.3.adds
call_still tree (call.OpenAt dir name flags mode) (host.Ok (value.Fd fd)) after (inr s) (inr c) =
    absurd (made_no (includes flags.0 o_creat) s c.1)
call_still tree (call.OpenAt dir name flags mode) (host.Ok told) after (inl s) c = absurd s
call_still tree (call.Reopen fd flags) (host.Ok (value.Fd new)) after s c = ap bare_tree c.2.adds
call_still tree (call.OpenByHandle fd handle flags) (host.Ok (value.Fd new)) after s c = ap bare_tree c.2.adds
call_still tree (call.Stat fd) (host.Ok (value.Stat stat)) after s c = ap bare_tree c.5
call_still tree (call.HandleOf fd) (host.Ok (value.Handle handle)) after s c = ap bare_tree c.6
call_still tree (call.MakeDir dir name mode) (host.Ok told) after s c = absurd s
call_still tree (call.MakeNode dir name mode rdev) (host.Ok told) after s c = absurd s
call_still tree (call.SymLink dir name target) (host.Ok told) after s c = absurd s
call_still tree (call.MakeLink from dir name) (host.Ok told) after s c = absurd s
call_still tree (call.Unlink dir name) (host.Ok told) after s c = absurd s
call_still tree (call.RemoveDir dir name) (host.Ok told) after s c = absurd s
call_still tree (call.Rename dir name to new flags) (host.Ok told) after s c = absurd s
call_still tree (call.Edit edit) (host.Ok told) after s c = absurd s
call_still tree asked (host.Refused errno) after s c = ap bare_tree c.1
call_still tree asked (host.Fault errno) after s c = ap bare_tree c
call_still tree asked host.NoMemory after s c = ap bare_tree c
call_still tree asked (host.Ok told) after s c = ap bare_tree c.1

call_past : (asked : Call) (j : ℕ) (w on : World) (told : HostReply) →
    Goes w (turn_by j (made (Calls asked) (Host told))) on →
    (on.past.numbers ≡ w.past.numbers) × (on.past.objects ≡ w.past.objects)
call_past (call.OpenAt dir name flags mode) j w on (host.Ok (value.Fd fd)) g =
    (ap (λ p. p.numbers) g.past, ap (λ p. p.objects) g.past)
call_past (call.OpenRoot path flags) j w on (host.Ok (value.Fd fd)) g =
    (ap (λ p. p.numbers) g.past, ap (λ p. p.objects) g.past)
call_past asked j w on told g = (ap (λ p. p.numbers) g.past, ap (λ p. p.objects) g.past)

event_past : (asked : Change) (j : ℕ) (w on : World) (told : EventReply) → IsStillEvent asked told →
    Goes w (turn_by j (made (Changes asked) (Event told))) on →
    (on.past.numbers ≡ w.past.numbers) × (on.past.objects ≡ w.past.objects)
event_past (change.Insert new) j w on (event.Inserted given) s g = absurd s
event_past (change.InsertRoot new) j w on (event.Inserted given) s g = absurd s
event_past (change.InsertHandle new) j w on (event.Inserted given) s g = absurd s
event_past (change.Insert new) j w on (event.Found given) s g =
    (ap (λ p. p.numbers) g.past, ap (λ p. p.objects) g.past)
event_past (change.Claim claim) j w on (event.Claimed given) s g =
    (ap (λ p. p.numbers) g.past, ap (λ p. p.objects) g.past)
event_past (change.Resolve number) j w on (event.Resolved resolved) s g =
    (ap (λ p. p.numbers) g.past, ap (λ p. p.objects) g.past)
event_past asked j w on told s g = (ap (λ p. p.numbers) g.past, ap (λ p. p.objects) g.past)

-- a step that leaves it
pub still_goes : (j : ℕ) (w on : World) (deed : Deed) (told : ActReply) → IsStill deed told →
    (LacksMemory told → ⊥) → Goes w (turn_by j (made deed told)) on → Still w on
still_goes j w on deed NoCopy s n g = absurd (n refl)
still_goes j w on (Calls asked) (Event told) s n g = absurd g.made
still_goes j w on (Changes asked) (Host told) s n g = absurd g.made
still_goes j w on (Calls asked) (Host told) s n g =
    let p = call_past asked j w on told g in
    let t = g.made.1 in
    let a = ap (λ z. z.next_number) t in
    let b = ap (λ z. z.next_handle) t in
    record {
      tree = call_still w.tree asked told on.tree s g.made.0.0.trees.changes;
      past = p.0;
      handles = λ h. (λ i. found (p.1 i) h (t i).handles);
      next_number = omega (arith, a);
      next_handle = omega (arith, b);
      agreed = ap (λ z. z.negotiated) t;
      era = ap (λ z. z.era) t;
    }
still_goes j w on (Changes asked) (Event told) s n g =
    let p = event_past asked j w on told s g in
    let k = still_case w.past.objects w.tables on.tables asked told s (cases w.tables on.tables asked told g.made.0) in
    record {
      tree = ap bare_tree g.made.1;
      past = p.0;
      handles = λ h. (λ i. found (p.1 i) h on.tables.handles) ∙ k.handles h;
      next_number = k.next_number;
      next_handle = k.next_handle;
      agreed = k.agreed;
      era = k.era;
    }

returns_call : (asked : Call) (told : HostReply) → ReturnsBySort (sort_of asked) → IsStillCall asked told
returns_call (call.OpenAt dir name flags mode) told r = absurd r
returns_call (call.MakeDir dir name mode) told r = absurd r
returns_call (call.MakeNode dir name mode rdev) told r = absurd r
returns_call (call.SymLink dir name target) told r = absurd r
returns_call (call.MakeLink from dir name) told r = absurd r
returns_call (call.Unlink dir name) told r = absurd r
returns_call (call.RemoveDir dir name) told r = absurd r
returns_call (call.Rename dir name to new flags) told r = absurd r
returns_call (call.Edit edit) told r = absurd r
returns_call asked told r = tt

returns_event : (asked : Change) (told : EventReply) → ReturnsByEvent asked → IsStillEvent asked told
returns_event (change.Unpin row) told r = tt
returns_event (change.UnpinHandle row) told r = tt
returns_event (change.GiveFd class) told r = tt
returns_event (change.GiveBack era number) told r = tt
returns_event change.TakeClosing told r = tt
returns_event asked told r = absurd r

pub returns_still : (j : ℕ) (w on : World) (step : Step) → ReturnsHold step.deed → (LacksMemory step.reply → ⊥) →
    Goes w (turn_by j step) on → Still w on
returns_still j w on step r n g = go step.deed step.reply r n g
  where
    go : (deed : Option Deed) (told : ActReply) → ReturnsHold deed → (LacksMemory told → ⊥) →
        Goes w (turn_by j (record { deed = deed; reply = told })) on → Still w on
    go deed NoCopy r n g = absurd (n refl)
    go None (Event told) r n g = absurd g.made
    go None (Host told) r n g = absurd g.made
    go (Some (Calls asked)) (Event told) r n g = absurd g.made
    go (Some (Changes asked)) (Host told) r n g = absurd g.made
    go (Some (Calls asked)) (Host told) r n g =
        still_goes j w on (Calls asked) (Host told) (returns_call asked told r) n g
    go (Some (Changes asked)) (Event told) r n g =
        still_goes j w on (Changes asked) (Event told) (returns_event asked told r) n g

walks_still : (j : ℕ) (steps : List Step) (w on : World) → Each (λ (s : Step). ReturnsHold s.deed) steps →
    Walks j w steps on → Still w on
walks_still j [] w on r k = subst (λ z. Still w z) (sym k.1) (still_none w)
walks_still j (step ∷ steps) w on r k =
    still_on w k.2 on (returns_still j w k.2 step r.0 k.1 k.3) (walks_still j steps k.2 on r.1 k.4)

pub idles_still : (j : ℕ) (w on : World) → Idles j w on → Still w on
idles_still j w on i = walks_still j i.0 w on i.1 i.2

pub by_still : (j count : ℕ) (w on : World) → IdlesBy j count w on → Still w on
by_still j zero w on i = subst (λ z. Still w z) (sym i) (still_none w)
by_still j (suc count) w on i = idles_still j w on i
