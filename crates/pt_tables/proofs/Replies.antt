-- Which reply an event has, that a refused event changes nothing, and that each closing is paid by a row.
use Rattle.std.proofs.Common.{◌≡◌, inl, inr, ℕ, suc, ◌+◌, ◌≤◌, List, [], ◌∷◌, Option, Some, None, length, sym, ap}
use Rattle.std.proofs.Common.{subst}
use Rattle.std.proofs.Common.{arith}
use Rattle.pt_tables.specs.Change.{Change}
use Rattle.pt_tables.specs.declared.form.Negotiated.{Negotiated}
use Rattle.pt_tables.specs.declared.event.KeptEvent.TheVariants as change
use Rattle.pt_tables.specs.declared.reply.EventRefusal.{EventRefusal}
use Rattle.pt_tables.specs.declared.reply.EventReply.{EventReply}
use Rattle.pt_tables.specs.declared.reply.EventReply.TheVariants as reply
use Rattle.pt_tables.specs.Tables.{Row, Tables}
use Rattle.pt_tables.specs.Rows.{number_rows, handle_rows}
use Rattle.pt_tables.specs.Happens.{Happens, Falls, ForgetsOne, ForgetsAll, with_row, agreed}
use Rattle.pt_tables.specs.Answers.{IsReplyFor}
use Rattle.pt_tables.specs.Laws.{IsCleared}
use Rattle.pt_tables.specs.Pending.{pending_in, put_by, added_by}
use Rattle.pt_tables.proofs.KeptRows.{numbers_kept, handles_kept}
use Rattle.pt_tables.proofs.Cases.{Case, cases}
use Rattle.pt_tables.proofs.Dying.{changes_pending, dies_pending, unpins_pending, clears_pending, clears}

answers : (tables after : Tables) (asked : Change) (told : EventReply) → Case tables asked told after →
    IsReplyFor asked told
answers tables after asked (reply.Refused refusal) h = h.0
answers tables after change.Begin (reply.Began era negotiated) h = tt
answers tables after (change.Resolve number) (reply.Resolved resolved) h = tt
answers tables after (change.Unpin serial) (reply.Done closings) h = tt
answers tables after (change.Claim claim) (reply.Claimed given) h = tt
answers tables after (change.Claim claim) reply.Absent h = tt
answers tables after (change.TakeFd class) reply.Taken h = tt
answers tables after (change.GiveFd class) reply.Given h = tt
answers tables after change.DrawNode (reply.Drawn number) h = tt
answers tables after (change.Insert new) (reply.Inserted given) h = tt
answers tables after (change.Insert new) (reply.Found given) h = tt
answers tables after (change.InsertRoot new) (reply.Inserted given) h = tt
answers tables after (change.Forget list) (reply.Done closings) h = tt
answers tables after (change.GiveBack era number) (reply.Done closings) h = tt
answers tables after change.DrawHandle (reply.Drawn handle) h = tt
answers tables after (change.InsertHandle new) (reply.Inserted given) h = tt
answers tables after (change.PinHandle handle number) (reply.Pinned serial fd) h = tt
answers tables after (change.UnpinHandle serial) (reply.Done closings) h = tt
answers tables after (change.Release handle number) (reply.Done closings) h = tt
answers tables after change.Clear (reply.Cleared era closings) h = tt
answers tables after change.TakeClosing (reply.Closing first) h = tt
answers tables after _ _ h = absurd h

pub answered : (tables after : Tables) (asked : Change) (told : EventReply) → Happens tables asked told after →
    IsReplyFor asked told
answered tables after asked told h = answers tables after asked told (cases tables after asked told h)

pub refused_stays : (tables after : Tables) (asked : Change) (refusal : EventRefusal) →
    Happens tables asked (reply.Refused refusal) after → after ≡ tables
refused_stays tables after asked refusal h = (cases tables after asked (reply.Refused refusal) h).1

falls_pending : (tables after : Tables) (row : Row) (amount closings : ℕ) → Falls tables row amount closings after →
    pending_in after + closings ≤ pending_in tables
falls_pending tables after row amount closings (inl h) =
    let n = changes_pending number_rows numbers_kept tables after row _ h.2 in omega (arith, n, h.1)
falls_pending tables after row amount closings (inr h) =
    dies_pending number_rows numbers_kept tables after row closings h.1

forgets_one_pending : (tables after : Tables) (number amount closings : ℕ) →
    ForgetsOne tables number amount closings after → pending_in after + closings ≤ pending_in tables
forgets_one_pending tables after number amount closings (inl h) =
    let n : pending_in after ≡ pending_in tables = ap pending_in h.2 in omega (arith, n, h.1)
forgets_one_pending tables after number amount closings (inr h) = falls_pending tables after h.0 amount closings h.2

forgets_all_pending : (tables after : Tables) (list : List (ℕ × ℕ)) (closings : ℕ) →
    ForgetsAll tables list closings after → pending_in after + closings ≤ pending_in tables
forgets_all_pending tables after [] closings h =
    let n : pending_in after ≡ pending_in tables = ap pending_in h.1 in omega (arith, n, h.0)
forgets_all_pending tables after (pair ∷ list) closings h =
    let a = forgets_one_pending tables h.0 pair.0 pair.1 h.1 h.3 in
    let b = forgets_all_pending h.0 after list h.2 h.4 in
    omega (arith, a, b, h.5)

agreed_pending : (tables after : Tables) (row : Row) (negotiated : Option Negotiated) →
    after ≡ agreed negotiated (with_row tables row) → pending_in after ≡ pending_in tables + 1
agreed_pending tables after row None e =
    let n : pending_in after ≡ suc (length tables.rows) + length tables.handles = ap pending_in e in omega arith
agreed_pending tables after row (Some negotiated) e =
    let n : pending_in after ≡ suc (length tables.rows) + length tables.handles = ap pending_in e in omega arith

even : (tables after : Tables) → pending_in after ≡ pending_in tables → pending_in after + 0 ≤ pending_in tables + 0
even tables after e = omega arith

paid : (tables after : Tables) (closings : ℕ) → pending_in after + closings ≤ pending_in tables →
    pending_in after + closings ≤ pending_in tables + 0
paid tables after closings l = omega arith

grown : (tables after : Tables) → pending_in after ≡ pending_in tables + 1 →
    pending_in after + 0 ≤ pending_in tables + 1
grown tables after e = omega arith

by_case : (tables after : Tables) (asked : Change) (told : EventReply) → Case tables asked told after →
    pending_in after + put_by told ≤ pending_in tables + added_by asked told
by_case tables after asked (reply.Refused refusal) h = refused_adds asked
  where
    refused_adds : (asked : Change) → pending_in after + 0 ≤ pending_in tables + added_by asked (reply.Refused
        refusal)
    refused_adds asked = let n : pending_in after ≡ pending_in tables = ap pending_in h.1 in omega (arith, n)
by_case tables after change.Begin (reply.Began era negotiated) h = even tables after (ap pending_in h.2)
by_case tables after (change.Resolve number) (reply.Resolved resolved) h =
    even tables after (changes_pending number_rows numbers_kept tables after h.0 _ h.7)
by_case tables after (change.Unpin serial) (reply.Done closings) h =
    paid tables after closings (unpins_pending number_rows numbers_kept tables after serial closings h)
by_case tables after (change.Claim claim) (reply.Claimed given) h =
    even tables after (changes_pending number_rows numbers_kept tables after h.1.0 _ h.1.4)
by_case tables after (change.Claim claim) reply.Absent h = even tables after (ap pending_in h.2)
by_case tables after (change.TakeFd class) reply.Taken h = even tables after (ap pending_in h.2)
by_case tables after (change.GiveFd class) reply.Given h = even tables after (ap pending_in h.1)
by_case tables after change.DrawNode (reply.Drawn number) h = even tables after (ap pending_in h.2)
by_case tables after (change.Insert new) (reply.Inserted given) h =
    grown tables after (agreed_pending tables after _ None h.4)
by_case tables after (change.Insert new) (reply.Found given) h =
    even tables after (changes_pending number_rows numbers_kept tables after h.1.0 _ h.1.4)
by_case tables after (change.InsertRoot new) (reply.Inserted given) h =
    grown tables after (agreed_pending tables after _ new.negotiated h.4)
by_case tables after (change.Forget list) (reply.Done closings) h =
    paid tables after closings (forgets_all_pending tables after list closings h)
by_case tables after (change.GiveBack era number) (reply.Done closings) h =
    paid tables after closings (forgets_one_pending tables after number 1 closings h.2)
by_case tables after change.DrawHandle (reply.Drawn handle) h = even tables after (ap pending_in h.2)
by_case tables after (change.InsertHandle new) (reply.Inserted given) h =
    grown tables after (let n : pending_in after ≡ length tables.rows + suc (length tables.handles) =
    ap pending_in h.4 in omega arith)
by_case tables after (change.PinHandle handle number) (reply.Pinned serial fd) h =
    even tables after (changes_pending handle_rows handles_kept tables after h.0 _ h.5)
by_case tables after (change.UnpinHandle serial) (reply.Done closings) h =
    paid tables after closings (unpins_pending handle_rows handles_kept tables after serial closings h)
by_case tables after (change.Release handle number) (reply.Done closings) h =
    paid tables after closings (dies_pending handle_rows handles_kept tables after h.0 closings h.2)
by_case tables after change.Clear (reply.Cleared era closings) h =
    paid tables after closings (clears_pending tables after closings h.1)
by_case tables after change.TakeClosing (reply.Closing first) h = even tables after (ap pending_in h.2)
by_case tables after _ _ h = absurd h

pub pays : (tables after : Tables) (asked : Change) (told : EventReply) → Happens tables asked told after →
    pending_in after + put_by told ≤ pending_in tables + added_by asked told
pays tables after asked told h = by_case tables after asked told (cases tables after asked told h)

pub cleared : (tables after : Tables) (era closings : ℕ) → Happens tables change.Clear (reply.Cleared era closings)
    after →
    IsCleared tables after era
cleared tables after era closings h = let case = cases tables after change.Clear (reply.Cleared era closings) h in
    subst (λ (e : ℕ). IsCleared tables after e) (sym case.2) (clears tables after closings case.1)
