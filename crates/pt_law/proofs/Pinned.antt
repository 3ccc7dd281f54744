-- What a job names is open.
use Rattle.std.proofs.Common.{◌≡◌, ℕ, ◌<◌, ◌≤◌, List, [], ◌∷◌, refl, sym, ap, subst, arith, Option, Some, None}
use Rattle.pt_host.specs.Words.{is, total, Takes, Each}
use Rattle.pt_host.specs.Call.{Call}
use Rattle.pt_host.specs.Sorts.{Sort, OpensWith, EndsFd, OfSeat, Plain, sort_of, fds_of}
use Rattle.pt_host.specs.Tree.{Opened, IsOpenOn}
use Rattle.pt_host.specs.declared.ids.Fd.{Fd}
use Rattle.pt_host.specs.declared.flags.OpenFlags.{OpenFlags}
use Rattle.pt_host.specs.declared.op.KeptHostOp.TheVariants as call
use Rattle.pt_host.specs.declared.reply.HostReply.TheVariants as host
use Rattle.pt_host.specs.declared.reply.HostValue.TheVariants as value
use Rattle.pt_frame.specs.Deed.{Deed, Calls, Changes}
use Rattle.pt_frame.specs.declared.act.ActReply.{ActReply}
use Rattle.pt_frame.specs.declared.act.ActReply.TheVariants.{Host}
use Rattle.pt_frame.specs.declared.hold.Hold.{Hold}
use Rattle.pt_frame.specs.declared.hold.Hold.TheVariants as hold
use Rattle.pt_law.specs.Discipline.{Job, Names, Knows, KnowsAll, ShiftsCalled, MovesIf}
use Rattle.pt_law.specs.World.{World}
use Rattle.pt_law.specs.Ledger.{some_count}
use Rattle.pt_law.proofs.Flows.{fd_held}
use Rattle.pt_law.specs.Laws.{IsOpen, NamesOpen}
use Rattle.pt_law.proofs.Lists.{total_takes, is_same}
use Rattle.pt_law.proofs.Counting.{part}
use Rattle.pt_law.proofs.PinnedRows.{pinned_row, pinned_handle}
use Rattle.pt_law.proofs.Steps.{Inv}

-- what a held pin's descriptor is open on: the object of its row
pub pinned_open : (bound : ℕ) (base had : ℕ → ℕ) (w : World) (js : ℕ → Job) (j row : ℕ) (fd : Fd) {rest : List Hold} →
    j < bound → Inv bound base had w js → Takes (hold.Pin row (Some fd)) (js j).holds rest →
    (object : ℕ) × IsOpenOn w.tree fd object × (w.past.objects row ≡ Some object)
pinned_open bound base had w js j row fd lt v t =
    pinned_row bound w.tree w.tables w.past js j row fd lt v.tabled.books v.right t

-- a held descriptor is open
held_open : (bound : ℕ) (base had : ℕ → ℕ) (w : World) (js : ℕ → Job) (j : ℕ) (fd : Fd) → j < bound →
    Inv bound base had w js → 0 < total (fd_held fd.0) (js j).holds → (object : ℕ) × IsOpenOn w.tree fd object
held_open bound base had w js j fd lt v h =
    let x = v.fds fd.0 in
    let y = part (fd_held fd.0) js bound j lt in
    let o = some_of (w.tree.opened fd.0) (omega (arith, x, y, h)) in
    (o.0.object, (o.0, o.1, refl))
  where
    some_of : (x : Option Opened) → 1 ≤ some_count x → (o : Opened) × (x ≡ Some o)
    some_of None l = absurd (omega arith)
    some_of (Some o) l = (o, refl)

known_open : (bound : ℕ) (base had : ℕ → ℕ) (w : World) (js : ℕ → Job) (j : ℕ) (fd : Fd) → j < bound →
    Inv bound base had w js → Knows (js j).holds fd → (object : ℕ) × IsOpenOn w.tree fd object
known_open bound base had w js j fd lt v k = go k.0 k.1 k.2 k.3
  where
    go : (one : Hold) (rest : List Hold) → Takes one (js j).holds rest → Names one fd →
        (object : ℕ) × IsOpenOn w.tree fd object
    go (hold.Pin row None) rest t e = absurd e
    go (hold.Pin row (Some same)) rest t e = let o = pinned_open bound base had w js j row same lt v t in
        (o.0, subst (λ f. IsOpenOn w.tree f o.0) e o.1)
    go (hold.HandlePin row same) rest t e =
        let o = pinned_handle bound w.tree w.tables w.past js j row same lt v.tabled.books v.right t in
        (o.0, subst (λ f. IsOpenOn w.tree f o.0) e o.1)
    go (hold.Fd same) rest t e =
        let a = total_takes (fd_held fd.0) t in
        let b = ap (λ (f : Fd). is f.0 fd.0) e in
        let c = is_same fd.0 in
        held_open bound base had w js j fd lt v (omega (arith, a, b, c))
    go one rest t e = absurd e

is_close : (asked : Call) (fd : Fd) → sort_of asked ≡ EndsFd fd → asked ≡ call.Close fd
is_close (call.Close same) fd e = let k : same ≡ fd = cc in ap (λ (f : Fd). call.Close f) k
is_close asked fd e = absurd (cc)

opening_knows : (flags : OpenFlags) (names : List Fd) (holds : List Hold) (told : ActReply) (next : List Hold) →
    ShiftsCalled (OpensWith flags) names holds told next → KnowsAll holds names
opening_knows flags names holds (Host (host.Ok (value.Fd fd))) next s = s.0
opening_knows flags names holds told next s = s.0

-- what the next step names is open
pub names_open : (bound : ℕ) (base had : ℕ → ℕ) (w : World) (js : ℕ →
    Job) (j : ℕ) (deed : Option Deed) (told : ActReply) (after : Job) → j < bound → Inv bound base had w js →
    MovesIf (js j) deed told after → NamesOpen w.tree deed
names_open bound base had w js j (Some (Calls asked)) told after lt v m =
    call_names (sort_of asked) refl (fds_of asked) refl after.holds m.0
  where
    all_known : (fds : List Fd) → KnowsAll (js j).holds fds → Each (IsOpen w.tree) fds
    all_known [] k = tt
    all_known (fd ∷ fds) k = (known_open bound base had w js j fd lt v k.0, all_known fds k.1)

    closes_it : (fd : Fd) → asked ≡ call.Close fd → (rest : List Hold) →
        Takes (hold.Fd fd) (js j).holds rest → Each (IsOpen w.tree) (fds_of asked)
    closes_it fd e rest t =
        let a = total_takes (fd_held fd.0) t in
        let b = is_same fd.0 in
        subst (λ c. Each (IsOpen w.tree) (fds_of c)) (sym e)
        (held_open bound base had w js j fd lt v (omega (arith, a, b)), tt)

    call_names : (sort : Sort) → sort_of asked ≡ sort → (names : List Fd) → fds_of asked ≡ names →
        (next : List Hold) → ShiftsCalled sort names (js j).holds told next →
        Each (IsOpen w.tree) (fds_of asked)
    call_names (EndsFd fd) e names f next s = closes_it fd (is_close asked fd e) next s
    call_names (OpensWith flags) e names f next s =
        subst (Each (IsOpen w.tree)) (sym f)
        (all_known names (opening_knows flags names (js j).holds told next s))
    call_names OfSeat e names f next s = subst (Each (IsOpen w.tree)) (sym f) (all_known names s.0)
    call_names Plain e names f next s = subst (Each (IsOpen w.tree)) (sym f) (all_known names s.0)
names_open bound base had w js j (Some (Changes asked)) told after lt v m = tt
names_open bound base had w js j None told after lt v m = tt
