-- Inner. A tree that keeps the discipline: each deed may be made where it stands.
use Rattle.std.specs.Prelude.{◌≡◌, ℕ, zero, suc, nat_lt, true, false, if◌then◌else◌, List, [], ◌∷◌, None}
use Rattle.std.specs.Prelude.{length}
use Rattle.pt_host.specs.Words.{Takes}
use Rattle.pt_host.specs.Sorts.{Sort, OpensWith, EndsFd, OfSeat, Plain, sort_of, fds_of}
use Rattle.pt_host.specs.declared.ids.Fd.{Fd}
use Rattle.pt_tables.specs.Change.{Change}
use Rattle.pt_tables.specs.declared.event.KeptEvent.TheVariants as change
use Rattle.pt_iface.specs.declared.answer.Answer.{Answer}
use Rattle.pt_iface.specs.declared.answer.Answer.TheVariants as answer
use Rattle.pt_frame.specs.Deed.{Deed, Calls, Changes}
use Rattle.pt_frame.specs.Held.{is_scope, is_same_fd, fd_in, held, opened}
use Rattle.pt_frame.specs.Replies.{closings_in}
use Rattle.pt_frame.specs.Frame.{front, behind, under, mark_in, outer}
use Rattle.pt_frame.specs.Tree.{RequestTree, Gives, Refuses, Asks, Opens, Bares, Brackets, Shuts, Allocates}
use Rattle.pt_frame.specs.declared.act.ActReply.{ActReply}
use Rattle.pt_frame.specs.declared.hold.Hold.{Hold}
use Rattle.pt_frame.specs.declared.hold.Hold.TheVariants as hold
use Rattle.pt_law.specs.World.{fd_of}
use Rattle.pt_law.specs.Discipline.{KnowsAll, Notes, notes_after, Fits, at_job}
use Rattle.pt_law.specs.Told.{MayBeTold}

-- without the scopes that lie on top, and without any scope
abbrev pub uncovered : List Hold → List Hold
uncovered [] = []
uncovered (one ∷ holds) = if is_scope one then uncovered holds else one ∷ holds

abbrev pub unscoped : List Hold → List Hold
unscoped [] = []
unscoped (one ∷ holds) = if is_scope one then unscoped holds else one ∷ unscoped holds

-- down to the mark
abbrev pub down_to : ℕ → List Hold → List Hold
down_to mark [] = []
down_to mark (one ∷ holds) = if nat_lt mark (length (one ∷ holds)) then down_to mark holds else one ∷ holds

abbrev pub HoldsFd : List Hold → Fd → Type 0
HoldsFd holds fd = (rest : List Hold) × Takes (hold.Fd fd) holds rest

-- the descriptor is held, and it lies on a slot of this class
pub data LiesOnSlot (fd : Fd) (class : ℕ) : List Hold → Type 0 where
  here : {holds : List Hold} → LiesOnSlot fd class (hold.Fd fd ∷ hold.Slot class ∷ holds)
  there : {one : Hold} {holds : List Hold} → is_same_fd fd (fd_in one) ≡ false → LiesOnSlot fd class holds →
      LiesOnSlot fd class (one ∷ holds)

-- A request's own part may make this call, whatever it is then told: it names what it holds, and ends what it holds
-- itself.
abbrev pub MayCall : Sort → List Fd → List Hold → Type 0
MayCall (OpensWith flags) names holds = KnowsAll (unscoped holds) names
MayCall (EndsFd fd) names holds = HoldsFd holds fd
MayCall OfSeat names holds = KnowsAll (unscoped holds) names
MayCall Plain names holds = KnowsAll (unscoped holds) names

-- and this event; what gives a hold back, and the closings, are the frame's
abbrev pub MayBeMade : Change → List Hold → Type 0
MayBeMade change.Begin holds = Unit {0}
MayBeMade (change.Resolve number) holds = Unit {0}
MayBeMade (change.Claim claim) holds = Unit {0}
MayBeMade (change.TakeFd class) holds = Unit {0}
MayBeMade change.DrawNode holds = Unit {0}
MayBeMade (change.Insert new) holds = LiesOnSlot (fd_of new.form) new.class holds
MayBeMade (change.InsertRoot new) holds = LiesOnSlot (fd_of new.form) 0 holds
MayBeMade (change.Forget list) holds = Unit {0}
MayBeMade change.DrawHandle holds = Unit {0}
MayBeMade (change.InsertHandle new) holds = LiesOnSlot new.fd new.class holds
MayBeMade (change.PinHandle handle number) holds = Unit {0}
MayBeMade (change.Release handle number) holds = Unit {0}
MayBeMade change.Clear holds = Unit {0}
MayBeMade _ holds = ⊥

abbrev pub MayMake : Deed → List Hold → Notes → Type 0
MayMake (Calls asked) holds notes =
    MayCall (sort_of asked) (fds_of asked) holds × Fits (at_job (unscoped holds) notes) (Calls asked)
MayMake (Changes asked) holds notes = MayBeMade asked holds × Fits (at_job (unscoped holds) notes) (Changes asked)

-- Giving back and closings leave it noted which era it is, whether a root was opened, what number was given and what
-- was told; what else is noted may change. What closings brought is closed behind them.
abbrev pub Lasts : Notes → Notes → Type 0
Lasts notes later =
    (later.era ≡ notes.era) × (later.rooted ≡ notes.rooted) × (later.given ≡ notes.given)
    × (later.told ≡ notes.told) × (later.brought ≡ None)

-- with these notes, or after closings with whatever may follow
abbrev pub After : ℕ → (Notes → Type 0) → Notes → Type 0
After zero P notes = P notes
After (suc count) P notes = (later : Notes) → Lasts notes later → P later

-- an entry is answered with the count of its number as the last hold
abbrev pub IsCountOf : ℕ → List Hold → Type 0
IsCountOf number (hold.Count era same ∷ holds) = same ≡ number
IsCountOf number holds = ⊥

abbrev pub HoldsEntry : Answer → List Hold → Type 0
HoldsEntry (answer.Entry entry) holds = IsCountOf entry.inode holds
HoldsEntry (answer.Created entry handle options) holds = IsCountOf entry.inode holds
HoldsEntry last holds = Unit {0}

-- a call of the seat that opens this scope
abbrev pub MayOpen : Sort → Hold → Type 0
MayOpen OfSeat scope = is_scope scope ≡ true
MayOpen sort scope = ⊥

-- On each path through the tree, by replies that may come, each deed may be made; what is held says no more of the
-- seat than where the scopes are.
abbrev pub Keeps : RequestTree → List Hold → List ℕ → Notes → Type 0
Keeps (Gives last) holds marks notes = HoldsEntry last holds
Keeps (Refuses told) holds marks notes = Unit {0}
Keeps (Asks deed next) holds marks notes =
    MayMake deed holds notes
    × ((told : ActReply) → MayBeTold deed told →
    After (closings_in deed told) (λ later. Keeps (next told) (held deed told holds) marks later)
    (notes_after notes deed told))
Keeps (Opens asked scope next) holds marks notes =
    MayOpen (sort_of asked) scope
    × ((told : ActReply) → MayBeTold (Calls asked) told → Keeps (next told) (opened scope told holds) marks notes)
Keeps (Bares rest) holds marks notes = Keeps rest (uncovered holds) marks notes
Keeps (Brackets rest) holds marks notes = Keeps rest holds (length holds ∷ marks) notes
Keeps (Shuts passes rest) holds marks notes =
    (later : Notes) → Lasts notes later →
    Keeps rest (under (front passes holds) (down_to (mark_in marks) (behind passes holds))) (outer marks) later
Keeps (Allocates made next) holds marks notes = Keeps (next made) holds marks notes
