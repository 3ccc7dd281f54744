-- What is worn of the seat lies in the scopes that are held, and what changes other holds leaves them on top.
use Rattle.std.proofs.Common.{◌≡◌, ◌≤◌, ℕ, Bool, true, false, List, [], ◌∷◌}
use Rattle.std.proofs.Common.{length}
use Rattle.std.proofs.Common.{Option, Some, None, refl, ap, sym, ◌∙◌, subst, cond, arith}
use Rattle.pt_host.specs.Call.{Call}
use Rattle.pt_host.specs.Sorts.{Sort, OpensWith, EndsFd, OfSeat, Plain, sort_of}
use Rattle.pt_host.specs.declared.ids.Fd.{Fd}
use Rattle.pt_host.specs.declared.op.KeptHostOp.TheVariants as call
use Rattle.pt_host.specs.declared.reply.HostReply.TheVariants as host
use Rattle.pt_host.specs.declared.reply.HostValue.TheVariants as value
use Rattle.pt_host.specs.declared.seat.HostSeat.{HostSeat}
use Rattle.pt_tables.specs.Change.{Change}
use Rattle.pt_tables.specs.declared.event.KeptEvent.TheVariants as change
use Rattle.pt_tables.specs.declared.reply.EventReply.{EventReply}
use Rattle.pt_tables.specs.declared.reply.EventReply.TheVariants as event
use Rattle.pt_frame.specs.Deed.{Deed, Calls, Changes}
use Rattle.pt_frame.specs.Held.{is_scope, laid, fd_in, is_some_fd, is_same_fd, is_slot, closed, slotted}
use Rattle.pt_frame.specs.Held.{unslotted, handed, handed_of, row_fd, held_called, held_changed, held}
use Rattle.pt_frame.specs.Held.{opened}
use Rattle.pt_frame.specs.Frame.{giving, bare}
use Rattle.pt_frame.specs.Frame.{front, behind, under}
use Rattle.pt_frame.specs.Past.{ends_scope, is_open, is_restoring, ended, worn_called, worn_after}
use Rattle.pt_frame.specs.Tended.{is_seats_sort, is_of_seat, WearsTop, Wears}
use Rattle.pt_frame.specs.Tended.{Undoes, IsOpening, IsRaise, IsAskedOf, IsAsked}
use Rattle.pt_frame.specs.declared.act.ActReply.{ActReply}
use Rattle.pt_frame.specs.declared.act.ActReply.TheVariants as told
use Rattle.pt_frame.specs.declared.hold.Hold.{Hold}
use Rattle.pt_frame.specs.declared.hold.Hold.TheVariants as hold

-- a call that is not the seat's ends no scope
ends_none : (asked one : Call) → is_seats_sort (sort_of asked) ≡ false → ends_scope asked one ≡ false
ends_none (call.SetGroups list) one e = absurd (cc)
ends_none (call.SetEgid gid) one e = absurd (cc)
ends_none (call.SetEuid uid) one e = absurd (cc)
ends_none (call.RaiseCap caps) one e = absurd (cc)
ends_none (call.DropCap caps) one e = absurd (cc)
ends_none (call.SetUmask mask) one e = absurd (cc)
ends_none asked one e = refl

pub opens_none : (asked : Call) (worn : List Call) → is_seats_sort (sort_of asked) ≡ false →
    is_open asked worn ≡ false
opens_none asked [] e = refl
opens_none asked (one ∷ worn) e = rw (ends_none asked one e) (opens_none asked worn e)

wears_on : (sort : Sort) (asked : Call) (told : ActReply) (worn : List Call) → is_seats_sort sort ≡ false →
    worn_called false sort asked told worn ≡ worn
wears_on (OpensWith flags) asked told worn e = refl
wears_on (EndsFd fd) asked told worn e = refl
wears_on OfSeat asked told worn e = absurd (cc)
wears_on Plain asked told worn e = refl

pub wears_same : (deed : Deed) (told : ActReply) (worn : List Call) → is_of_seat deed ≡ false →
    worn_after worn deed told ≡ worn
wears_same (Changes asked) told worn e = refl
wears_same (Calls asked) told worn e =
    ap (λ (b : Bool). worn_called b (sort_of asked) asked told worn) (opens_none asked worn e)
    ∙ wears_on (sort_of asked) asked told worn e

-- under a hold that is no scope no scope is open
abbrev pub Clear : HostSeat → List Hold → Type 0
Clear seat holds = Wears seat holds []

pub clear_cons : (seat : HostSeat) (one : Hold) (holds : List Hold) → is_scope one ≡ false → Clear seat holds →
    Clear seat (one ∷ holds)
clear_cons seat one holds e w =
    subst (λ (b : Bool). WearsTop b (giving seat one) [] (λ rest. Wears seat holds rest)) (sym e) (refl, w)

clear_top : (seat : HostSeat) (b : Bool) (deed : Deed) (P : List Call → Type 0) → WearsTop b deed [] P →
    (b ≡ false) × P []
clear_top seat true (Calls asked) P w = let e : false ≡ true = w.0 in absurd (cc)
clear_top seat true (Changes asked) P w = absurd w
clear_top seat false deed P w = (refl, w.1)

pub clear_rest : (seat : HostSeat) (one : Hold) (holds : List Hold) → Clear seat (one ∷ holds) →
    (is_scope one ≡ false) × Clear seat holds
clear_rest seat one holds w =
    clear_top seat (is_scope one) (giving seat one) (λ rest. Wears seat holds rest) w

-- what changes only holds that are no scope leaves the scopes on top
top_map : (b : Bool) (deed : Deed) (worn : List Call) (P Q : List Call → Type 0) →
    ((rest : List Call) → P rest → Q rest) → WearsTop b deed worn P → WearsTop b deed worn Q
top_map true (Calls asked) worn P Q f w = (w.0, f (ended asked worn) w.1)
top_map true (Changes asked) worn P Q f w = absurd w
top_map false deed worn P Q f w = (w.0, f [] w.1)

wears_top : (seat : HostSeat) (one : Hold) (holds other : List Hold) (worn : List Call) →
    ((rest : List Call) → Wears seat holds rest → Wears seat other rest) → Wears seat (one ∷ holds) worn →
    Wears seat (one ∷ other) worn
wears_top seat one holds other worn f w =
    top_map (is_scope one) (giving seat one) worn (λ rest. Wears seat holds rest) (λ rest. Wears seat other rest) f w

-- where the last hold is no scope none is open
top_bare : (b : Bool) (deed : Deed) (worn : List Call) (P : List Call → Type 0) → b ≡ false →
    WearsTop b deed worn P → (worn ≡ []) × P []
top_bare true deed worn P e w = absurd (cc)
top_bare false deed worn P e w = w

wears_bare : (seat : HostSeat) (one : Hold) (holds : List Hold) (worn : List Call) → is_scope one ≡ false →
    Wears seat (one ∷ holds) worn → (worn ≡ []) × Clear seat holds
wears_bare seat one holds worn e w =
    top_bare (is_scope one) (giving seat one) worn (λ rest. Wears seat holds rest) e w

wears_at : (seat : HostSeat) (holds : List Hold) (worn : List Call) → worn ≡ [] → Clear seat holds →
    Wears seat holds worn
wears_at seat holds worn e c = subst (λ (x : List Call). Wears seat holds x) (sym e) c

lays : (seat : HostSeat) (one top : Hold) (holds : List Hold) (worn : List Call) (b : Bool) → is_scope one ≡ false →
    is_scope top ≡ b → Wears seat (top ∷ holds) worn →
    ((rest : List Call) → Wears seat holds rest → Wears seat (laid one holds) rest) →
    Wears seat (cond b (top ∷ laid one holds) (one ∷ top ∷ holds)) worn
lays seat one top holds worn true e t w so = wears_top seat top holds (laid one holds) worn so w
lays seat one top holds worn false e t w so =
    let c = wears_bare seat top holds worn t w in
    wears_at seat (one ∷ top ∷ holds) worn c.0
    (clear_cons seat one (top ∷ holds) e (clear_cons seat top holds t c.1))

pub wears_laid : (seat : HostSeat) (one : Hold) (holds : List Hold) (worn : List Call) → is_scope one ≡ false →
    Wears seat holds worn → Wears seat (laid one holds) worn
wears_laid seat one [] worn e w = wears_at seat (one ∷ []) worn w (clear_cons seat one [] e refl)
wears_laid seat one (top ∷ holds) worn e w =
    lays seat one top holds worn (is_scope top) e refl w (λ rest r. wears_laid seat one holds rest e r)

fd_bare : (one : Hold) → is_some_fd (fd_in one) ≡ true → is_scope one ≡ false
fd_bare (hold.Pin row fd) e = refl
fd_bare (hold.HandlePin row fd) e = refl
fd_bare (hold.Fd fd) e = refl
fd_bare (hold.Slot class) e = refl
fd_bare (hold.Count era number) e = refl
fd_bare hold.Groups e = absurd (cc)
fd_bare hold.EffectiveGid e = absurd (cc)
fd_bare hold.EffectiveUid e = absurd (cc)
fd_bare (hold.Dropped caps) e = absurd (cc)
fd_bare hold.Umask e = absurd (cc)

same_some : (fd : Fd) (found : Option Fd) → is_same_fd fd found ≡ true → is_some_fd found ≡ true
same_some fd None e = absurd (cc)
same_some fd (Some same) e = refl

same_bare : (fd : Fd) (one : Hold) → is_same_fd fd (fd_in one) ≡ true → is_scope one ≡ false
same_bare fd one e = fd_bare one (same_some fd (fd_in one) e)

-- a hold is found, and is no scope, or the search goes on below it
found_or : (seat : HostSeat) (one : Hold) (holds found below : List Hold) (worn : List Call) (b : Bool) →
    (b ≡ true → is_scope one ≡ false) → (Clear seat holds → is_scope one ≡ false → Clear seat found) →
    ((rest : List Call) → Wears seat holds rest → Wears seat below rest) → Wears seat (one ∷ holds) worn →
    Wears seat (cond b found (one ∷ below)) worn
found_or seat one holds found below worn true bare there so w =
    let c = wears_bare seat one holds worn (bare refl) w in
    wears_at seat found worn c.0 (there c.1 (bare refl))
found_or seat one holds found below worn false bare there so w = wears_top seat one holds below worn so w

pub wears_closed : (seat : HostSeat) (fd : Fd) (holds : List Hold) (worn : List Call) → Wears seat holds worn →
    Wears seat (closed fd holds) worn
wears_closed seat fd [] worn w = w
wears_closed seat fd (one ∷ holds) worn w =
    found_or seat one holds holds (closed fd holds) worn (is_same_fd fd (fd_in one))
    (same_bare fd one) (λ c e. c) (λ rest r. wears_closed seat fd holds rest r) w

pub wears_slotted : (seat : HostSeat) (class : ℕ) (holds : List Hold) (worn : List Call) → Wears seat holds worn →
    Wears seat (slotted class holds) worn
wears_slotted seat class [] worn w = wears_at seat (hold.Slot class ∷ []) worn w (refl, refl)
wears_slotted seat class (one ∷ holds) worn w =
    found_or seat one holds (one ∷ hold.Slot class ∷ holds) (slotted class holds) worn (is_some_fd (fd_in one))
    (fd_bare one) (λ c e. clear_cons seat one (hold.Slot class ∷ holds) e (refl, c))
    (λ rest r. wears_slotted seat class holds rest r) w

clear_unslotted : (seat : HostSeat) (holds : List Hold) → Clear seat holds → Clear seat (unslotted holds)
clear_unslotted seat [] c = c
clear_unslotted seat (one ∷ holds) c =
    let r = clear_rest seat one holds c in
    both (is_slot one) r.1 c
  where
    both : (b : Bool) → Clear seat holds → Clear seat (one ∷ holds) → Clear seat (cond b holds (one ∷ holds))
    both true x y = x
    both false x y = y

pub wears_handed : (seat : HostSeat) (fd : Fd) (holds : List Hold) (worn : List Call) → Wears seat holds worn →
    Wears seat (handed fd holds) worn
wears_handed seat fd [] worn w = w
wears_handed seat fd (one ∷ holds) worn w =
    found_or seat one holds (unslotted holds) (handed fd holds) worn (is_same_fd fd (fd_in one))
    (same_bare fd one) (λ c e. clear_unslotted seat holds c) (λ rest r. wears_handed seat fd holds rest r) w

wears_handed_of : (seat : HostSeat) (fd : Option Fd) (holds : List Hold) (worn : List Call) → Wears seat holds worn →
    Wears seat (handed_of fd holds) worn
wears_handed_of seat None holds worn w = w
wears_handed_of seat (Some fd) holds worn w = wears_handed seat fd holds worn w

wears_called : (seat : HostSeat) (sort : Sort) (told : ActReply) (holds : List Hold) (worn : List Call) →
    Wears seat holds worn → Wears seat (held_called sort told holds) worn
wears_called seat (OpensWith flags) (told.Host (host.Ok (value.Fd fd))) holds worn w =
    wears_laid seat (hold.Fd fd) holds worn refl w
wears_called seat (OpensWith flags) told holds worn w = w
wears_called seat (EndsFd fd) told holds worn w = wears_closed seat fd holds worn w
wears_called seat OfSeat told holds worn w = w
wears_called seat Plain told holds worn w = w

wears_changed : (seat : HostSeat) (asked : Change) (told : EventReply) (holds : List Hold) (worn : List Call) →
    Wears seat holds worn → Wears seat (held_changed asked told holds) worn
wears_changed seat (change.Resolve number) (event.Resolved resolved) holds worn w =
    wears_laid seat (hold.Pin resolved.row (row_fd resolved.form)) holds worn refl w
wears_changed seat (change.Claim claim) (event.Claimed given) holds worn w =
    wears_laid seat (hold.Count claim.era given.number) holds worn refl w
wears_changed seat (change.TakeFd class) event.Taken holds worn w = wears_slotted seat class holds worn w
wears_changed seat (change.Insert new) (event.Inserted given) holds worn w =
    wears_laid seat (hold.Count new.era given) (handed_of (row_fd new.form) holds) worn refl
    (wears_handed_of seat (row_fd new.form) holds worn w)
wears_changed seat (change.Insert new) (event.Found given) holds worn w =
    wears_laid seat (hold.Count new.era given.number) holds worn refl w
wears_changed seat (change.InsertRoot new) (event.Inserted given) holds worn w =
    wears_handed_of seat (row_fd new.form) holds worn w
wears_changed seat (change.InsertHandle new) (event.Inserted given) holds worn w =
    wears_handed seat new.fd holds worn w
wears_changed seat (change.PinHandle handle number) (event.Pinned row fd) holds worn w =
    wears_laid seat (hold.HandlePin row fd) holds worn refl w
wears_changed seat asked told holds worn w = w

pub wears_held : (seat : HostSeat) (deed : Deed) (told : ActReply) (holds : List Hold) (worn : List Call) →
    Wears seat holds worn → Wears seat (held deed told holds) worn
wears_held seat (Calls asked) told holds worn w =
    wears_called seat (sort_of asked) told holds worn w
wears_held seat (Changes asked) (told.Event reply) holds worn w = wears_changed seat asked reply holds worn w
wears_held seat (Changes asked) (told.Host reply) holds worn w = w
wears_held seat (Changes asked) told.NoCopy holds worn w = w

-- a scope that was opened lies on top
opened_top : (deed : Deed) (asked : Call) (worn : List Call) (P : List Call → Type 0) → Undoes deed asked → P worn →
    WearsTop true deed (asked ∷ worn) P
opened_top (Calls back) asked worn P u w =
    let is : ends_scope back asked ≡ true = u in
    (rw is refl, subst (λ (b : Bool). P (cond b worn (ended back worn))) (sym is) w)
opened_top (Changes back) asked worn P u w = absurd u

opens_top : (seat : HostSeat) (asked : Call) (scope : Hold) (holds : List Hold) (worn : List Call) →
    IsOpening seat asked scope worn → Wears seat holds worn → Wears seat (scope ∷ holds) (asked ∷ worn)
opens_top seat asked scope holds worn o w =
    subst (λ (b : Bool). WearsTop b (giving seat scope) (asked ∷ worn) (λ rest. Wears seat holds rest)) (sym o.scoped)
    (opened_top (giving seat scope) asked worn (λ rest. Wears seat holds rest) o.back w)

-- what an opening leaves worn
opening_worn : (seat : HostSeat) (asked : Call) (scope : Hold) (told : ActReply) (worn : List Call) →
    IsOpening seat asked scope worn →
    worn_called false OfSeat asked told worn ≡ worn_after worn (Calls asked) told
opening_worn seat asked scope told worn o =
    ap (λ (b : Bool). worn_called b OfSeat asked told worn) (sym o.shut)
    ∙ ap (λ (s : Sort). worn_called (is_open asked worn) s asked told worn) (sym o.own)

opened_so : (seat : HostSeat) (asked : Call) (scope : Hold) (told : ActReply) (holds : List Hold) (worn : List Call) →
    IsOpening seat asked scope worn → Wears seat holds worn →
    Wears seat (opened scope told holds) (worn_called false OfSeat asked told worn)
opened_so seat asked scope (told.Host (host.Ok got)) holds worn o w = opens_top seat asked scope holds worn o w
opened_so seat asked scope (told.Host (host.Refused errno)) holds worn o w = w
opened_so seat asked scope (told.Host (host.Fault errno)) holds worn o w = w
opened_so seat asked scope (told.Host host.NoMemory) holds worn o w = w
opened_so seat asked scope (told.Event got) holds worn o w = w
opened_so seat asked scope told.NoCopy holds worn o w = w

pub wears_opened : (seat : HostSeat) (asked : Call) (scope : Hold) (told : ActReply) (holds : List Hold)
    (worn : List Call) → IsOpening seat asked scope worn → Wears seat holds worn →
    Wears seat (opened scope told holds) (worn_after worn (Calls asked) told)
wears_opened seat asked scope told holds worn o w =
    subst (λ (x : List Call). Wears seat (opened scope told holds) x) (opening_worn seat asked scope told worn o)
    (opened_so seat asked scope told holds worn o w)

-- a capability that is raised within a scope is worn with it
raise_ends : (back asked : Call) → IsRaise asked → ends_scope back asked ≡ false
raise_ends (call.SetGroups list) (call.RaiseCap caps) r = refl
raise_ends (call.SetEgid gid) (call.RaiseCap caps) r = refl
raise_ends (call.SetEuid uid) (call.RaiseCap caps) r = refl
raise_ends (call.RaiseCap other) (call.RaiseCap caps) r = refl
raise_ends (call.SetUmask mask) (call.RaiseCap caps) r = refl
raise_ends back (call.RaiseCap caps) r = refl
raise_ends back asked r = absurd r

raised_top : (b : Bool) (deed : Deed) (asked : Call) (worn : List Call) (P : List Call → Type 0) → IsRaise asked →
    1 ≤ length worn → WearsTop b deed worn P → WearsTop b deed (asked ∷ worn) P
raised_top true (Calls back) asked worn P r some w =
    let is = raise_ends back asked r in
    (rw is w.0, subst (λ (x : Bool). P (cond x worn (ended back worn))) (sym is) w.1)
raised_top true (Changes back) asked worn P r some w = absurd w
raised_top false deed asked worn P r some w = absurd (no_more w.0)
  where
    no_more : worn ≡ [] → ⊥
    no_more e = let n : 1 ≤ length {A = Call} [] = subst (λ (x : List Call). 1 ≤ length x) e some in omega (arith, n)

wears_raised : (seat : HostSeat) (asked : Call) (holds : List Hold) (worn : List Call) → IsRaise asked →
    1 ≤ length worn → Wears seat holds worn → Wears seat holds (asked ∷ worn)
wears_raised seat asked [] worn r some w = absurd (no_more w)
  where
    no_more : worn ≡ [] → ⊥
    no_more e = let n : 1 ≤ length {A = Call} [] = subst (λ (x : List Call). 1 ≤ length x) e some in omega (arith, n)
wears_raised seat asked (one ∷ holds) worn r some w =
    raised_top (is_scope one) (giving seat one) asked worn (λ rest. Wears seat holds rest) r some w

-- of a body's own call that opens no scope
asked_open : (sort : Sort) (asked : Call) (worn : List Call) → sort_of asked ≡ sort → IsAskedOf sort asked worn →
    is_open asked worn ≡ false
asked_open (OpensWith flags) asked worn e a = opens_none asked worn (ap is_seats_sort e)
asked_open (EndsFd fd) asked worn e a = opens_none asked worn (ap is_seats_sort e)
asked_open OfSeat asked worn e a = a.1
asked_open Plain asked worn e a = opens_none asked worn (ap is_seats_sort e)

pub asks_open : (deed : Deed) (worn : List Call) → IsAsked deed worn → is_restoring worn deed ≡ false
asks_open (Calls asked) worn a = asked_open (sort_of asked) asked worn refl a
asks_open (Changes asked) worn a = refl

raised_so : (seat : HostSeat) (asked : Call) (told : ActReply) (holds : List Hold) (worn : List Call) →
    IsRaise asked → 1 ≤ length worn → Wears seat holds worn →
    Wears seat holds (worn_called false OfSeat asked told worn)
raised_so seat asked (told.Host (host.Ok got)) holds worn r some w = wears_raised seat asked holds worn r some w
raised_so seat asked told holds worn r some w = w

called_so : (seat : HostSeat) (sort : Sort) (asked : Call) (told : ActReply) (holds : List Hold) (worn : List Call) →
    IsAskedOf sort asked worn → Wears seat holds worn →
    Wears seat (held_called sort told holds) (worn_called false sort asked told worn)
called_so seat (OpensWith flags) asked told holds worn a w = wears_called seat (OpensWith flags) told holds worn w
called_so seat (EndsFd fd) asked told holds worn a w = wears_closed seat fd holds worn w
called_so seat OfSeat asked told holds worn a w = raised_so seat asked told holds worn a.0 a.2 w
called_so seat Plain asked told holds worn a w = wears_called seat Plain told holds worn w

pub wears_asked : (seat : HostSeat) (deed : Deed) (told : ActReply) (holds : List Hold) (worn : List Call) →
    IsAsked deed worn → Wears seat holds worn → Wears seat (held deed told holds) (worn_after worn deed told)
wears_asked seat (Calls asked) told holds worn a w =
    subst (λ (b : Bool). Wears seat (held (Calls asked) told holds) (worn_called b (sort_of asked) asked told worn))
    (sym (asks_open (Calls asked) worn a))
    (called_so seat (sort_of asked) asked told holds worn a w)
wears_asked seat (Changes asked) told holds worn a w = wears_held seat (Changes asked) told holds worn w

pub wears_parted : (seat : HostSeat) (passes : Bool) (holds : List Hold) → Clear seat holds →
    Clear seat (under (front passes holds) (behind passes holds))
wears_parted seat false holds c = c
wears_parted seat true [] c = c
wears_parted seat true (top ∷ holds) c = c
