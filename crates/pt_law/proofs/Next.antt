-- What holds of the next step of a run.
use Rattle.std.proofs.Common.{ℕ, ◌+◌, ◌<◌, List, [], ◌∷◌, ◌++◌, subst, Option, Some, None}
use Rattle.pt_host.specs.Words.{Each}
use Rattle.pt_tables.specs.Change.{Change}
use Rattle.pt_tables.specs.Tables.{Tables, empty_tables}
use Rattle.pt_tables.specs.Happens.{Happens}
use Rattle.pt_tables.specs.declared.event.KeptEvent.TheVariants as change
use Rattle.pt_tables.specs.declared.reply.EventReply.{EventReply}
use Rattle.pt_tables.specs.declared.reply.EventReply.TheVariants as event
use Rattle.pt_frame.specs.Deed.{Deed, Calls, Changes}
use Rattle.pt_frame.specs.declared.act.ActReply.{ActReply}
use Rattle.pt_frame.specs.declared.act.ActReply.TheVariants.{Event, Host, NoCopy}
use Rattle.pt_law.specs.Discipline.{Job, JobMoves, MovesIf, Disciplined}
use Rattle.pt_law.specs.World.{World, Turn, TablesGo, Runs, TablesRun, steps_of}
use Rattle.pt_law.specs.Ledger.{open_count, inserted}
use Rattle.pt_law.specs.Laws.{Starts, NamesOpen, IsHonoured}
use Rattle.pt_law.specs.Discipline.{AreDisciplined}
use Rattle.pt_law.proofs.Flows.{IsHonest}
use Rattle.pt_law.proofs.Counting.{honest}
use Rattle.pt_law.proofs.Steps.{Tabled}
use Rattle.pt_law.proofs.Interleaving.{steps_same}
use Rattle.pt_law.proofs.Laws.{reach, reach_tables}
use Rattle.pt_law.proofs.Pinned.{names_open}

pub owner_of : (bound : ℕ) (turns : List Turn) (turn : Turn) (more : List Turn) →
    Each (λ s. s.job < bound) (turns ++ turn ∷ more) → turn.job < bound
owner_of bound [] turn more h = h.0
owner_of bound (s ∷ turns) turn more h = owner_of bound turns turn more h.1

-- the owner's next move
pub next_move : (turn : Turn) (more : List Turn) (job end : Job) →
    Disciplined job (steps_of turn.job (turn ∷ more)) end → (after : Job) × JobMoves job turn.step after
next_move turn more job end d = let k = subst (λ steps. Disciplined job steps end) (steps_same turn more) d in
    (k.0, k.1)

pub named_law : (limits : List ℕ) (bound : ℕ) (turns : List Turn) (turn : Turn) (more : List Turn) (start now : World) →
    Starts limits start → AreDisciplined bound (turns ++ turn ∷ more) → Runs start turns now →
    NamesOpen now.tree turn.step.deed
named_law limits bound turns turn more start now s a r =
    let v = reach limits bound turns (turn ∷ more) start now s a r in
    let lt = owner_of bound turns turn more a.owners in
    let b = v.2 turn.job lt in
    let m = next_move turn more (v.0 turn.job) b.1 b.2 in
    names_open bound (λ fd. open_count fd start.tree) (λ n. 0
    + inserted n turns) now v.0 turn.job turn.step.deed turn.step.reply m.0 lt v.1 m.1

honoured_event : (bound : ℕ) (had : ℕ → ℕ) (t : Tables) (js : ℕ →
    Job) (j : ℕ) (e : Change) (r : EventReply) (t' : Tables) (after : Job) → j < bound → Tabled bound had t js →
    Happens t e r t' →
    MovesIf (js j) (Some (Changes e)) (Event r) after → IsHonest (Changes e) (Event r) →
    IsHonoured (Some (Changes e)) (Event r)
honoured_event bound had t js j (change.Unpin row) (event.Refused why) t' after lt v h m a = a
honoured_event bound had t js j (change.UnpinHandle row) (event.Refused why) t' after lt v h m a = a
honoured_event bound had t js j (change.GiveFd class) (event.Refused why) t' after lt v h m a = a
honoured_event bound had t js j change.TakeClosing (event.Refused why) t' after lt v h m a = a
honoured_event bound had t js j e r t' after lt v h m a = tt

honoured : (bound : ℕ) (had : ℕ → ℕ) (t : Tables) (js : ℕ →
    Job) (j : ℕ) (deed : Option Deed) (told : ActReply) (t' : Tables) (after : Job) → j < bound →
    Tabled bound had t js → TablesGo t deed told t' → MovesIf (js j) deed told after → IsHonoured deed told
honoured bound had t js j (Some (Changes e)) (Event r) t' after lt v g m =
    honoured_event bound had t js j e r t' after lt v g m (honest bound t js j e r t' after lt v.books g m)
honoured bound had t js j (Some (Calls a)) (Host r) t' after lt v g m = tt
honoured bound had t js j (Some (Calls a)) NoCopy t' after lt v g m = tt
honoured bound had t js j None NoCopy t' after lt v g m = tt
honoured bound had t js j _ _ t' after lt v g m = absurd g

pub honoured_law : (limits : List ℕ) (bound : ℕ) (turns : List Turn) (turn : Turn) (more : List Turn)
    (now next : Tables) →
    AreDisciplined bound (turns ++ turn ∷ more) → TablesRun (empty_tables limits) turns now →
    TablesGo now turn.step.deed turn.step.reply next → IsHonoured turn.step.deed turn.step.reply
honoured_law limits bound turns turn more now next a r g =
    let v = reach_tables limits bound turns (turn ∷ more) now a r in
    let lt = owner_of bound turns turn more a.owners in
    let b = v.3 turn.job lt in
    let m = next_move turn more (v.0 turn.job) b.1 b.2 in
    honoured bound (λ n. inserted n turns) now v.0 turn.job turn.step.deed turn.step.reply next m.0 lt v.1 g m.1
