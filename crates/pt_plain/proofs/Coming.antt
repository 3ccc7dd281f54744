-- Proof. A job that runs alone, read off its tree: which of its steps come in which world, and what the frame does
-- between.
use Rattle.std.proofs.Common.{◌≡◌, ◌≢◌, ◌≤◌, inl, inr, ℕ, zero, suc, List, [], ◌∷◌, ◌++◌, length, Bool, true, false}
use Rattle.std.proofs.Common.{Option, Some, None, refl, sym, ap, subst, ◌∙◌, if◌then◌else◌, nat_lt}
use Rattle.pt_host.specs.Tree.{Tree, IsWellFormed}
use Rattle.pt_host.specs.Words.{Each, set_at}
use Rattle.pt_host.specs.declared.ids.Errno.{Errno}
use Rattle.pt_host.specs.declared.seat.HostSeat.{HostSeat}
use Rattle.pt_tables.specs.Rows.{IsRow}
use Rattle.pt_tables.specs.Tables.{Agree}
use Rattle.pt_tables.specs.declared.row.Row.{Row}
use Rattle.pt_iface.specs.declared.answer.Answer.{Answer}
use Rattle.pt_iface.specs.declared.answer.Answer.TheVariants as answer
use Rattle.pt_frame.specs.Deed.{Deed, Calls, Changes, Step, IsStepOf, LacksMemory}
use Rattle.pt_frame.specs.Held.{is_scope, held, opened}
use Rattle.pt_frame.specs.Grammar.{Grammar, End, Belongs}
use Rattle.pt_frame.specs.Frame.{giving, closings, give_taken, give_slot, give, leave, or_lost, bare_one, bare, shut}
use Rattle.pt_frame.specs.Frame.{front, behind, under, mark_in, outer, answered_by}
use Rattle.pt_frame.specs.Replies.{closings_in, taken_in, refusal, restored, fault_if, passes_with}
use Rattle.pt_frame.specs.Tree.{RequestTree, Gives, Refuses, Asks, Opens, Bares, Brackets, Shuts, Allocates, framed}
use Rattle.pt_frame.specs.Tree.{follows, allocates}
use Rattle.pt_frame.specs.declared.act.ActReply.{ActReply}
use Rattle.pt_frame.specs.declared.act.ActReply.TheVariants.{Event, Host, NoCopy}
use Rattle.pt_frame.specs.declared.finish.Finish.{Finish}
use Rattle.pt_frame.specs.declared.finish.Finish.TheVariants as finish
use Rattle.pt_frame.specs.declared.hold.Hold.{Hold}
use Rattle.pt_frame.specs.declared.hold.Hold.TheVariants as hold
use Rattle.pt_frame.specs.declared.hold.Taken.{Taken}
use Rattle.pt_frame.specs.declared.hold.Taken.TheVariants as taken
use Rattle.pt_tables.specs.declared.event.KeptEvent.TheVariants as change
use Rattle.pt_host.specs.declared.op.KeptHostOp.TheVariants as call
use Rattle.pt_law.specs.Branch.{ReturnsHold}
use Rattle.pt_law.specs.Laws.{AreDistinct}
use Rattle.pt_law.proofs.Givings.{live_count}
use Rattle.pt_law.specs.Story.{Story}
use Rattle.pt_law.specs.World.{made, World, turn_by, Goes}
use Rattle.pt_law.proofs.Branches.{Ended, at_end, end_leave}
use Rattle.pt_law.proofs.Knowing.{RowOpen, HandleOpen}
use Rattle.pt_law.proofs.Steps.{set_self}
use Rattle.pt_host.specs.Call.{Call}
use Rattle.pt_host.specs.LawfulTree.{TreeChanges}
use Rattle.pt_host.specs.declared.reply.HostReply.{HostReply}
use Rattle.pt_host.specs.declared.reply.HostReply.TheVariants as host

-- what is known of each world that a run comes through
pub record Law (w : World) : Type 0 where
  pub agree : Agree w.tables
  pub well : (row : Row) → IsRow w.tables row → IsWellFormed w.tree
  pub shown : Each (RowOpen w.tree w.past) w.tables.rows
  pub handled : Each (HandleOpen w.tree w.past) w.tables.handles
  pub distinct : AreDistinct w
  pub drawn : (n : ℕ) → w.tables.next_number ≤ n → live_count n w.tables ≡ 0

-- one job's steps with none between lead from this world to that, and none lacks memory
abbrev pub Walks : ℕ → World → List Step → World → Type 0
Walks j w [] w' = Law w × (w' ≡ w)
Walks j w (step ∷ steps) w' =
    Law w × (LacksMemory step.reply → ⊥) × (mid : World) × Goes w (turn_by j step) mid × Walks j mid steps w'

pub walks_law : (j : ℕ) (steps : List Step) (w w' : World) → Walks j w steps w' → Law w
walks_law j [] w w' k = k.0
walks_law j (step ∷ steps) w w' k = k.0

-- steps that give back, which are the frame's
abbrev pub Idles : ℕ → World → World → Type 0
Idles j w on = (steps : List Step) × Each (λ (s : Step). ReturnsHold s.deed) steps × Walks j w steps on

idle_none : (j : ℕ) (w : World) → Law w → Idles j w w
idle_none j w l = ([], tt, (l, refl))

idle_step : (j : ℕ) (w mid on : World) (step : Step) → Law w → (LacksMemory step.reply → ⊥) → ReturnsHold step.deed →
    Goes w (turn_by j step) mid → Idles j mid on → Idles j w on
idle_step j w mid on step l n r g i = (step ∷ i.0, (r, i.1), (l, n, mid, g, i.2))

walks_on : (j : ℕ) (steps more : List Step) (w mid w' : World) → Walks j w steps mid → Walks j mid more w' →
    Walks j w (steps ++ more) w'
walks_on j [] more w mid w' k m = subst (λ (z : World). Walks j z more w') k.1 m
walks_on j (step ∷ steps) more w mid w' k m = (k.0, k.1, k.2, k.3, walks_on j steps more k.2 mid w' k.4 m)

each_on : (steps more : List Step) → Each (λ (s : Step). ReturnsHold s.deed) steps →
    Each (λ (s : Step). ReturnsHold s.deed) more → Each (λ (s : Step). ReturnsHold s.deed) (steps ++ more)
each_on [] more a b = b
each_on (step ∷ steps) more a b = (a.0, each_on steps more a.1 b)

idles_on : (j : ℕ) (w mid on : World) → Idles j w mid → Idles j mid on → Idles j w on
idles_on j w mid on a b = (a.0 ++ b.0, each_on a.0 b.0 a.1 b.1, walks_on j a.0 b.0 w mid on a.2 b.2)

-- none where nothing is to be closed
abbrev pub IdlesBy : ℕ → ℕ → World → World → Type 0
IdlesBy j zero w on = on ≡ w
IdlesBy j (suc count) w on = Idles j w on

-- the deed was made in this world, and was told this
abbrev pub Makes : ℕ → World → Deed → ActReply → World → Type 0
Makes j w deed told mid = Law w × (LacksMemory told → ⊥) × Goes w (turn_by j (made deed told)) mid

-- From this world the tree comes to this answer and this world, with no job between.
abbrev pub Comes : ℕ → RequestTree → World → Answer → World → Type 0
Comes j (Gives given) w last w' = (last ≡ given) × Idles j w w'
Comes j (Refuses told) w last w' = (last ≡ refusal told) × Idles j w w'
Comes j (Asks deed next) w last w' =
    (told : ActReply) × (mid : World) × (on : World) × Makes j w deed told mid
    × IdlesBy j (closings_in deed told) mid on × Comes j (next told) on last w'
Comes j (Opens asked scope next) w last w' =
    (told : ActReply) × (mid : World) × Makes j w (Calls asked) told mid × Comes j (next told) mid last w'
Comes j (Bares rest) w last w' = Comes j rest w last w'
Comes j (Brackets rest) w last w' = Comes j rest w last w'
Comes j (Shuts passes rest) w last w' = (on : World) × Idles j w on × Comes j rest on last w'
Comes j (Allocates made next) w last w' = Comes j (next made) w last w'

-- the frame gave back, and the rest follows
record Passed (j : ℕ) (w : World) (rest : Grammar) (end : Finish) (w' : World) : Type 0 where
  on : World
  idles : Idles j w on
  later : List Step
  belongs : Belongs rest later end
  walks : Walks j on later w'

back_deed : (deed : Deed) (made : Option Deed) (told : ActReply) → IsStepOf deed made told →
    ReturnsHold (Some deed) → ReturnsHold made
back_deed deed (Some same) NoCopy i g = subst (λ (d : Deed). ReturnsHold (Some d)) (sym i.0) g
back_deed deed (Some same) (Event told) i g = subst (λ (d : Deed). ReturnsHold (Some d)) (sym i) g
back_deed deed (Some same) (Host told) i g = subst (λ (d : Deed). ReturnsHold (Some d)) (sym i) g
back_deed deed None told i g = tt

giving_gives : (seat : HostSeat) (one : Hold) → ReturnsHold (Some (giving seat one))
giving_gives seat (hold.Pin row fd) = tt
giving_gives seat (hold.HandlePin row fd) = tt
giving_gives seat (hold.Fd fd) = tt
giving_gives seat (hold.Slot class) = tt
giving_gives seat (hold.Count era number) = tt
giving_gives seat hold.Groups = tt
giving_gives seat hold.EffectiveGid = tt
giving_gives seat hold.EffectiveUid = tt
giving_gives seat (hold.Dropped caps) = tt
giving_gives seat hold.Umask = tt

passed_still : (j : ℕ) (w : World) (rest : Grammar) (steps : List Step) (end : Finish) (w' : World) →
    Belongs rest steps end → Walks j w steps w' → Passed j w rest end w'
passed_still j w rest steps end w' b k =
    record { on = w; idles = idle_none j w (walks_law j steps w w' k); later = steps; belongs = b; walks = k }

-- one step that gives back comes before
passed_after : (j : ℕ) (w : World) (step : Step) (steps : List Step) (rest : Grammar) (end : Finish) (w' : World) →
    ReturnsHold step.deed → (k : Walks j w (step ∷ steps) w') → Passed j k.2 rest end w' → Passed j w rest end w'
passed_after j w step steps rest end w' r k p = record {
  on = p.on;
  idles = idle_step j w k.2 p.on step k.0 k.1 r k.3 p.idles;
  later = p.later;
  belongs = p.belongs;
  walks = p.walks;
}

passed_on : (j : ℕ) (w : World) (rest more : Grammar) (end : Finish) (w' : World) → (p : Passed j w rest end w') →
    Passed j p.on more end w' → Passed j w more end w'
passed_on j w rest more end w' p q = record {
  on = q.on;
  idles = idles_on j w p.on q.on p.idles q.idles;
  later = q.later;
  belongs = q.belongs;
  walks = q.walks;
}

pass_slot : (j : ℕ) (slot : Bool) (class count : ℕ) (holds : List Hold) (rest : Grammar) (w : World) (steps : List Step)
    (end : Finish) (w' : World) → Belongs (give_slot slot class count holds rest) steps end → Walks j w steps w' →
    Passed j w rest end w'
pass_slot j false class count holds rest w steps end w' b k = passed_still j w rest steps end w' b k
pass_slot j true class count holds rest w [] end w' b k = absurd b
pass_slot j true class count holds rest w (step ∷ steps) end w' b k =
    passed_after j w step steps rest end w' (back_deed (Changes (change.GiveFd class)) step.deed step.reply b.0 tt) k
    (passed_still j k.2 rest steps end w' b.1 k.4)

pass_taken : (j : ℕ) (brings : Taken) (count : ℕ) (holds : List Hold) (rest : Grammar) (w : World) (steps : List Step)
    (end : Finish) (w' : World) → Belongs (give_taken brings count holds rest) steps end → Walks j w steps w' →
    Passed j w rest end w'
pass_taken j taken.Nothing count holds rest w steps end w' b k = passed_still j w rest steps end w' b k
pass_taken j (taken.Slot class) count holds rest w steps end w' b k =
    pass_slot j true class count holds rest w steps end w' b k
pass_taken j (taken.Fd fd slot class) count holds rest w [] end w' b k = absurd b
pass_taken j (taken.Fd fd slot class) count holds rest w (step ∷ steps) end w' b k =
    passed_after j w step steps rest end w' (back_deed (Calls (call.Close fd)) step.deed step.reply b.0 tt) k
    (pass_slot j slot class count holds rest k.2 steps end w' b.1 k.4)

pass_closings : (j count : ℕ) (holds : List Hold) (rest : Grammar) (w : World) (steps : List Step)
    (end : Finish) (w' : World) → Belongs (closings count holds rest) steps end → Walks j w steps w' →
    Passed j w rest end w'
pass_closings j zero holds rest w steps end w' b k = passed_still j w rest steps end w' b k
pass_closings j (suc count) holds rest w [] end w' b k = absurd b
pass_closings j (suc count) holds rest w (step ∷ steps) end w' b k =
    let p = pass_taken j (taken_in step.reply) count holds (closings count holds rest) k.2 steps end w' b.1 k.4 in
    passed_after j w step steps rest end w' (back_deed (Changes change.TakeClosing) step.deed step.reply b.0 tt) k
    (passed_on j k.2 (closings count holds rest) rest end w' p
    (pass_closings j count holds rest p.on p.later end w' p.belongs p.walks))

-- those of a reply: none where nothing is to be closed
pass_by : (j count : ℕ) (holds : List Hold) (rest : Grammar) (w : World) (steps : List Step) (end : Finish)
    (w' : World) → Belongs (closings count holds rest) steps end → Walks j w steps w' →
    (on : World) × IdlesBy j count w on × (later : List Step) × Belongs rest later end × Walks j on later w'
pass_by j zero holds rest w steps end w' b k = (w, refl, steps, b, k)
pass_by j (suc count) holds rest w steps end w' b k =
    let p = pass_closings j (suc count) holds rest w steps end w' b k in
    (p.on, p.idles, p.later, p.belongs, p.walks)

pass_give : (j : ℕ) (seat : HostSeat) (one : Hold) (holds left : List Hold) (next : Option Errno → Grammar)
    (w : World) (steps : List Step) (end : Finish) (w' : World) → Belongs (give seat one holds left next) steps end →
    Walks j w steps w' → (fault : Option Errno) × Passed j w (next fault) end w'
pass_give j seat one holds left next w [] end w' b k = absurd b
pass_give j seat one holds left next w (step ∷ steps) end w' b k =
    let fault = fault_if (is_scope one) step.reply in
    let p = pass_closings j (closings_in (giving seat one) step.reply) left (next fault) k.2 steps end w' b.1 k.4 in (
      fault,
      passed_after j w step steps (next fault) end w'
          (back_deed (giving seat one) step.deed step.reply b.0 (giving_gives seat one)) k p,
    )

-- to the end
pass_leave : (j : ℕ) (seat : HostSeat) (holds : List Hold) (last : Finish) (w : World) (steps : List Step)
    (end : Finish) (w' : World) → Belongs (leave seat holds last) steps end → Walks j w steps w' → Idles j w w'
pass_leave j seat [] last w [] end w' b k = ([], tt, k)
pass_leave j seat [] last w (step ∷ steps) end w' b k = absurd b
pass_leave j seat (one ∷ holds) last w steps end w' b k =
    let p = pass_give j seat one (one ∷ holds) holds (λ fault. leave seat holds (restored last fault)) w steps end w' b
    k in
    idles_on j w p.1.on w' p.1.idles
    (pass_leave j seat holds (restored last p.0) p.1.on p.1.later end w' p.1.belongs p.1.walks)

-- a seat that is lost is told
not_lost : (seat : HostSeat) (holds : List Hold) (errno : Errno) (steps : List Step) (last : Answer) →
    Belongs (leave seat holds (finish.Lost errno)) steps (finish.Answer last) → ⊥
not_lost seat holds errno steps last b =
    elim (end_leave seat holds (finish.Lost errno) steps (finish.Answer last) b).0 [
      | inl e ↦ cc
      | inr g ↦ g
    ]

-- a bracket ends
pass_shut : (j : ℕ) (seat : HostSeat) (passing : Option Hold) (mark : ℕ) (holds : List Hold)
    (next : List Hold → Grammar) (w : World) (steps : List Step) (last : Answer) (w' : World) →
    Belongs (shut seat passing mark holds next) steps (finish.Answer last) → Walks j w steps w' →
    (left : List Hold) × Passed j w (next left) (finish.Answer last) w'
pass_shut j seat passing mark [] next w steps last w' b k =
    (under passing [], passed_still j w (next (under passing [])) steps (finish.Answer last) w' b k)
pass_shut j seat passing mark (one ∷ holds) next w steps last w' b k =
    go (nat_lt mark (length (one ∷ holds)))
    (λ on later. pass_shut j seat passing mark holds next on later last w') b
  where
    rest : Option Errno → Grammar
    rest fault = or_lost seat fault (under passing holds) (shut seat passing mark holds next)

    more : (fault : Option Errno) (on : World) (later : List Step) → Belongs (rest fault) later (finish.Answer last) →
        Belongs (shut seat passing mark holds next) later (finish.Answer last)
    more None on later b = b
    more (Some errno) on later b = absurd (not_lost seat (under passing holds) errno later last b)

    go : (c : Bool) → ((on : World) (later : List Step) →
        Belongs (shut seat passing mark holds next) later (finish.Answer last) → Walks j on later w' →
        (left : List Hold) × Passed j on (next left) (finish.Answer last) w') →
        Belongs (if c then give seat one (under passing (one ∷ holds)) (under passing holds) rest
        else next (under passing (one ∷ holds))) steps (finish.Answer last) →
        (left : List Hold) × Passed j w (next left) (finish.Answer last) w'
    go false f b = (
      under passing (one ∷ holds),
      passed_still j w (next (under passing (one ∷ holds))) steps (finish.Answer last) w' b k,
    )
    go true f b =
        let p = pass_give j seat one (under passing (one ∷ holds)) (under passing holds) rest w steps
        (finish.Answer last) w' b k in
        let q = f p.1.on p.1.later (more p.0 p.1.on p.1.later p.1.belongs) p.1.walks in
        (q.0, passed_on j w (rest p.0) (next q.0) (finish.Answer last) w' p.1 q.1)

-- A call on the seat changes nothing that a world has.
abbrev pub IsSeats : Call → Type 0
IsSeats (call.SetGroups list) = Unit {0}
IsSeats (call.SetEgid gid) = Unit {0}
IsSeats (call.SetEuid uid) = Unit {0}
IsSeats (call.RaiseCap caps) = Unit {0}
IsSeats (call.DropCap caps) = Unit {0}
IsSeats (call.SetUmask mask) = Unit {0}
IsSeats asked = ⊥

pub seat_same : (tree : Tree) (asked : Call) (told : HostReply) (after : Tree) → IsSeats asked →
    TreeChanges tree asked told after → after ≡ tree
seat_same tree (call.SetGroups list) (host.Ok told) after s c = c.1
seat_same tree (call.SetGroups list) (host.Refused errno) after s c = c.1
seat_same tree (call.SetGroups list) (host.Fault errno) after s c = c
seat_same tree (call.SetGroups list) host.NoMemory after s c = c
seat_same tree (call.SetEgid gid) (host.Ok told) after s c = c.1
seat_same tree (call.SetEgid gid) (host.Refused errno) after s c = c.1
seat_same tree (call.SetEgid gid) (host.Fault errno) after s c = c
seat_same tree (call.SetEgid gid) host.NoMemory after s c = c
seat_same tree (call.SetEuid uid) (host.Ok told) after s c = c.1
seat_same tree (call.SetEuid uid) (host.Refused errno) after s c = c.1
seat_same tree (call.SetEuid uid) (host.Fault errno) after s c = c
seat_same tree (call.SetEuid uid) host.NoMemory after s c = c
seat_same tree (call.RaiseCap caps) (host.Ok told) after s c = c.1
seat_same tree (call.RaiseCap caps) (host.Refused errno) after s c = c.1
seat_same tree (call.RaiseCap caps) (host.Fault errno) after s c = c
seat_same tree (call.RaiseCap caps) host.NoMemory after s c = c
seat_same tree (call.DropCap caps) (host.Ok told) after s c = c.1
seat_same tree (call.DropCap caps) (host.Refused errno) after s c = c.1
seat_same tree (call.DropCap caps) (host.Fault errno) after s c = c
seat_same tree (call.DropCap caps) host.NoMemory after s c = c
seat_same tree (call.SetUmask mask) (host.Ok told) after s c = c.1
seat_same tree (call.SetUmask mask) (host.Refused errno) after s c = c.1
seat_same tree (call.SetUmask mask) (host.Fault errno) after s c = c
seat_same tree (call.SetUmask mask) host.NoMemory after s c = c
seat_same tree asked told after s c = absurd s

seat_settles : (asked : Call) (j : ℕ) (w mid : World) (told : HostReply) → IsSeats asked →
    Goes w (turn_by j (made (Calls asked) (Host told))) mid → mid.past ≡ w.past
seat_settles (call.SetGroups list) j w mid told s g = g.past
seat_settles (call.SetEgid gid) j w mid told s g = g.past
seat_settles (call.SetEuid uid) j w mid told s g = g.past
seat_settles (call.RaiseCap caps) j w mid told s g = g.past
seat_settles (call.DropCap caps) j w mid told s g = g.past
seat_settles (call.SetUmask mask) j w mid told s g = g.past
seat_settles asked j w mid told s g = absurd s

-- what the jobs have found
same_found : (story : Story) (j : ℕ) →
    record { found = set_at j (story.found j) story.found; origins = story.origins } ≡ story
same_found story j = λ i. record { found = set_self story.found j (story.found j) refl i; origins = story.origins }

seat_finds : (asked : Call) (j : ℕ) (w mid : World) (told : HostReply) → IsSeats asked →
    Goes w (turn_by j (made (Calls asked) (Host told))) mid → mid.story ≡ w.story
seat_finds (call.SetGroups list) j w mid told s g = g.story ∙ same_found w.story j
seat_finds (call.SetEgid gid) j w mid told s g = g.story ∙ same_found w.story j
seat_finds (call.SetEuid uid) j w mid told s g = g.story ∙ same_found w.story j
seat_finds (call.RaiseCap caps) j w mid told s g = g.story ∙ same_found w.story j
seat_finds (call.DropCap caps) j w mid told s g = g.story ∙ same_found w.story j
seat_finds (call.SetUmask mask) j w mid told s g = g.story ∙ same_found w.story j
seat_finds asked j w mid told s g = absurd s

pub seat_stays : (asked : Call) (j : ℕ) (w mid : World) (told : ActReply) → IsSeats asked →
    (LacksMemory told → ⊥) → Goes w (turn_by j (made (Calls asked) told)) mid → mid ≡ w
seat_stays asked j w mid (Host told) s n g =
    let tree = seat_same w.tree asked told mid.tree s g.made.0.0.trees.changes in
    let past = seat_settles asked j w mid told s g in
    let story = seat_finds asked j w mid told s g in
    let tables = g.made.1 in
    λ i. record { tree = tree i; tables = tables i; past = past i; story = story i }
seat_stays asked j w mid (Event told) s n g = absurd g.made
seat_stays asked j w mid NoCopy s n g = absurd (n refl)

scope_seats : (seat : HostSeat) (one : Hold) → is_scope one ≡ true →
    (asked : Call) × (giving seat one ≡ Calls asked) × IsSeats asked
scope_seats seat hold.Groups e = (_, refl, tt)
scope_seats seat hold.EffectiveGid e = (_, refl, tt)
scope_seats seat hold.EffectiveUid e = (_, refl, tt)
scope_seats seat (hold.Dropped caps) e = (_, refl, tt)
scope_seats seat hold.Umask e = (_, refl, tt)
scope_seats seat (hold.Pin row fd) e = absurd (cc)
scope_seats seat (hold.HandlePin row fd) e = absurd (cc)
scope_seats seat (hold.Fd fd) e = absurd (cc)
scope_seats seat (hold.Slot class) e = absurd (cc)
scope_seats seat (hold.Count era number) e = absurd (cc)

-- the step that was made
pub is_made : (deed : Deed) (step : Step) → IsStepOf deed step.deed step.reply → (LacksMemory step.reply → ⊥) →
    step ≡ made deed step.reply
is_made deed step i n = go step.deed step.reply i n
  where
    go : (is : Option Deed) (told : ActReply) → IsStepOf deed is told → (LacksMemory told → ⊥) →
        record step { deed = is; reply = told } ≡ made deed told
    go (Some same) NoCopy i n = absurd (n refl)
    go (Some same) (Event told) i n = ap (λ (d : Deed). made d (Event told)) i
    go (Some same) (Host told) i n = ap (λ (d : Deed). made d (Host told)) i
    go None NoCopy i n = absurd (n refl)
    go None (Event told) i n = absurd i
    go None (Host told) i n = absurd i

made_goes : (j : ℕ) (w mid : World) (deed : Deed) (step : Step) → IsStepOf deed step.deed step.reply →
    (LacksMemory step.reply → ⊥) → Goes w (turn_by j step) mid → Goes w (turn_by j (made deed step.reply)) mid
made_goes j w mid deed step i n g = subst (λ (s : Step). Goes w (turn_by j s) mid) (is_made deed step i n) g

-- scopes end, which a world does not show
pass_bare : (j : ℕ) (seat : HostSeat) (holds : List Hold) (next : List Hold → Grammar) (w : World)
    (steps : List Step) (last : Answer) (w' : World) → Belongs (bare seat holds next) steps (finish.Answer last) →
    Walks j w steps w' → (left : List Hold) × (later : List Step) × Belongs (next left) later (finish.Answer last)
    × Walks j w later w'
pass_bare j seat [] next w steps last w' b k = ([], steps, b, k)
pass_bare j seat (one ∷ holds) next w steps last w' b k =
    go (is_scope one) refl (λ later. pass_bare j seat holds next w later last w') steps b k
  where
    rest : Option Errno → Grammar
    rest fault = or_lost seat fault holds (bare seat holds next)

    more : (fault : Option Errno) (later : List Step) → Belongs (rest fault) later (finish.Answer last) →
        Belongs (bare seat holds next) later (finish.Answer last)
    more None later b = b
    more (Some errno) later b = absurd (not_lost seat holds errno later last b)

    ended : (deed : Deed) (s : (asked : Call) × (deed ≡ Calls asked) × IsSeats asked) (step : Step) (mid : World) →
        IsStepOf deed step.deed step.reply → (LacksMemory step.reply → ⊥) → Goes w (turn_by j step) mid → mid ≡ w
    ended deed s step mid i n g =
        let e : IsStepOf (Calls s.0) step.deed step.reply =
        subst (λ (d : Deed). IsStepOf d step.deed step.reply) s.1 i in
        seat_stays s.0 j w mid step.reply s.2 n (made_goes j w mid (Calls s.0) step e n g)

    none_closed : (deed : Deed) (s : (asked : Call) × (deed ≡ Calls asked) × IsSeats asked) (told : ActReply) →
        closings_in deed told ≡ 0
    none_closed deed s told = ap (λ (d : Deed). closings_in d told) s.1

    go : (c : Bool) → is_scope one ≡ c → ((later : List Step) →
        Belongs (bare seat holds next) later (finish.Answer last) → Walks j w later w' →
        (left : List Hold) × (later : List Step) × Belongs (next left) later (finish.Answer last)
        × Walks j w later w') → (steps : List Step) →
        Belongs (bare_one seat c one holds (bare seat holds next) next) steps (finish.Answer last) →
        Walks j w steps w' →
        (left : List Hold) × (later : List Step) × Belongs (next left) later (finish.Answer last) × Walks j w later w'
    go false e f steps b k = (one ∷ holds, steps, b, k)
    go true e f [] b k = absurd b
    go true e f (step ∷ steps) b k =
        let s = scope_seats seat one e in
        let same = ended (giving seat one) s step k.2 b.0 k.1 k.3 in
        let z = none_closed (giving seat one) s step.reply in
        let d = subst (λ (n : ℕ). Belongs (closings n holds (rest (fault_if (is_scope one) step.reply))) steps
        (finish.Answer last)) z b.1 in
        f steps (more (fault_if (is_scope one) step.reply) steps d)
        (subst (λ (x : World). Walks j x steps w') same k.4)

-- an answer that is not this
same_answer : (last given : Answer) → Ended (finish.Answer given) (finish.Answer last) → last ≡ given
same_answer last given (inl e) = told_same e
  where
    told_in : Finish → Answer
    told_in (finish.Answer told) = told
    told_in (finish.Lost errno) = last

    told_same : finish.Answer last ≡ finish.Answer given → last ≡ given
    told_same e = ap told_in e
same_answer last given (inr lost) = absurd lost

comes_left : (j : ℕ) (seat : HostSeat) (holds : List Hold) (given : Answer) (w : World) (steps : List Step)
    (last : Answer) (w' : World) → Belongs (leave seat holds (finish.Answer given)) steps (finish.Answer last) →
    Walks j w steps w' → (last ≡ given) × Idles j w w'
comes_left j seat holds given w steps last w' b k = (
  same_answer last given (end_leave seat holds (finish.Answer given) steps (finish.Answer last) b).0,
  pass_leave j seat holds (finish.Answer given) w steps (finish.Answer last) w' b k,
)

comes_given : (j : ℕ) (seat : HostSeat) (passes : Bool) (holds : List Hold) (given : Answer) (w : World)
    (steps : List Step) (last : Answer) (w' : World) →
    Belongs (answered_by seat passes holds (finish.Answer given)) steps (finish.Answer last) → Walks j w steps w' →
    (last ≡ given) × Idles j w w'
comes_given j seat false holds given w steps last w' b k = comes_left j seat holds given w steps last w' b k
comes_given j seat true [] given w steps last w' b k = comes_left j seat [] given w steps last w' b k
comes_given j seat true (one ∷ holds) given w steps last w' b k =
    let p = pass_shut j seat (Some one) 0 holds (λ left. End (finish.Answer given)) w steps last w' b k in
    let e = at_end (finish.Answer given) p.1.later (finish.Answer last) p.1.belongs in
    (same_answer last given (inl e.0), idles_on j w p.1.on w' p.1.idles (ended p.1.later p.1.belongs p.1.walks))
  where
    ended : {on : World} (later : List Step) → Belongs (End (finish.Answer given)) later (finish.Answer last) →
        Walks j on later w' → Idles j on w'
    ended [] b k = ([], tt, k)
    ended (step ∷ later) b k = absurd b

-- what follows a reply, where it was not given up
comes_by : (j : ℕ) (seat : HostSeat) (wants : Bool) (count : ℕ) (holds : List Hold) (rest : Grammar) (w : World)
    (steps : List Step) (last : Answer) (w' : World) → last ≢ answer.NoMemory →
    Belongs (follows seat wants count holds rest) steps (finish.Answer last) → Walks j w steps w' →
    (on : World) × IdlesBy j count w on × (later : List Step) × Belongs rest later (finish.Answer last)
    × Walks j on later w'
comes_by j seat false count holds rest w steps last w' n b k =
    pass_by j count holds rest w steps (finish.Answer last) w' b k
comes_by j seat true count holds rest w steps last w' n (inr b) k =
    pass_by j count holds rest w steps (finish.Answer last) w' b k
comes_by j seat true count holds rest w steps last w' n (inl b) k =
    let p = pass_closings j count holds (leave seat holds (finish.Answer answer.NoMemory)) w steps
    (finish.Answer last) w' b k in
    absurd (n (comes_left j seat holds answer.NoMemory p.on p.later last w' p.belongs p.walks).0)

-- A job that runs alone and is answered, neither for want of memory nor as its seat was lost, comes to its answer by
-- its tree.
pub comes : (j : ℕ) (seat : HostSeat) (tree : RequestTree) (holds : List Hold) (marks : List ℕ) (w : World)
    (steps : List Step) (last : Answer) (w' : World) → last ≢ answer.NoMemory →
    Belongs (framed seat tree holds marks) steps (finish.Answer last) → Walks j w steps w' → Comes j tree w last w'
comes j seat (Gives given) holds marks w steps last w' n b k =
    comes_given j seat (passes_with given) holds given w steps last w' b k
comes j seat (Refuses told) holds marks w steps last w' n b k =
    comes_left j seat holds (refusal told) w steps last w' b k
comes j seat (Asks deed next) holds marks w [] last w' n b k = absurd b
comes j seat (Asks deed next) holds marks w (step ∷ steps) last w' n b k =
    let told = step.reply in
    let more = framed seat (next told) (held deed told holds) marks in
    let p = comes_by j seat (allocates (next told)) (closings_in deed told) (held deed told holds) more k.2
    steps last w' n b.1 k.4 in (
      told,
      k.2,
      p.0,
      (k.0, k.1, made_goes j w k.2 deed step b.0 k.1 k.3),
      p.1,
      comes j seat (next told) (held deed told holds) marks p.0 p.2 last w' n p.3 p.4,
    )
comes j seat (Opens asked scope next) holds marks w [] last w' n b k = absurd b
comes j seat (Opens asked scope next) holds marks w (step ∷ steps) last w' n b k =
    let told = step.reply in
    let more = framed seat (next told) (opened scope told holds) marks in
    let p = comes_by j seat (allocates (next told)) 0 (opened scope told holds) more k.2 steps last w' n b.1
    k.4 in (
      told,
      k.2,
      (k.0, k.1, made_goes j w k.2 (Calls asked) step b.0 k.1 k.3),
      comes j seat (next told) (opened scope told holds) marks k.2 p.2 last w' n p.3
          (subst (λ (x : World). Walks j x p.2 w') p.1 p.4),
    )
comes j seat (Bares rest) holds marks w steps last w' n b k =
    let p = pass_bare j seat holds (λ left. framed seat rest left marks) w steps last w' b k in
    comes j seat rest p.0 marks w p.1 last w' n p.2 p.3
comes j seat (Brackets rest) holds marks w steps last w' n b k =
    comes j seat rest holds (length holds ∷ marks) w steps last w' n b k
comes j seat (Shuts passes rest) holds marks w steps last w' n b k =
    let p = pass_shut j seat (front passes holds) (mark_in marks) (behind passes holds) (λ left.
    framed seat rest left (outer marks)) w steps last w' b k in
    (p.1.on, p.1.idles, comes j seat rest p.0 (outer marks) p.1.on p.1.later last w' n p.1.belongs p.1.walks)
comes j seat (Allocates made next) holds marks w steps last w' n b k =
    comes j seat (next made) holds marks w steps last w' n b k
