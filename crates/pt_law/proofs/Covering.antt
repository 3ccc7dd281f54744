-- Open scopes lie on top of what else is held, whatever is taken or handed over under them.
use Rattle.std.proofs.Common.{◌≡◌, Bool, true, false, List, [], ◌∷◌, Option, Some, None, refl, sym, ap, subst}
use Rattle.std.proofs.Common.{ℕ, if◌then◌else◌}
use Rattle.pt_host.specs.Words.{Each}
use Rattle.pt_host.specs.Sorts.{Sort, OpensWith, EndsFd, OfSeat, Plain, sort_of}
use Rattle.pt_host.specs.declared.ids.Fd.{Fd}
use Rattle.pt_host.specs.declared.reply.HostReply.TheVariants as host
use Rattle.pt_host.specs.declared.reply.HostValue.TheVariants as value
use Rattle.pt_tables.specs.Change.{Change}
use Rattle.pt_tables.specs.declared.event.KeptEvent.TheVariants as change
use Rattle.pt_tables.specs.declared.reply.EventReply.{EventReply}
use Rattle.pt_tables.specs.declared.reply.EventReply.TheVariants as event
use Rattle.pt_frame.specs.Deed.{Deed, Calls, Changes}
use Rattle.pt_frame.specs.Held.{is_scope, laid, fd_in, is_some_fd, is_same_fd, is_slot, closed, slotted}
use Rattle.pt_frame.specs.Held.{unslotted, handed, handed_of, row_fd, held_called, held_changed, held}
use Rattle.pt_frame.specs.Held.{opened}
use Rattle.pt_frame.specs.declared.act.ActReply.{ActReply}
use Rattle.pt_frame.specs.declared.act.ActReply.TheVariants.{Event, Host, NoCopy}
use Rattle.pt_frame.specs.declared.hold.Hold.{Hold}
use Rattle.pt_frame.specs.declared.hold.Hold.TheVariants as hold

-- no scope is open
abbrev pub Clear : List Hold → Type 0
Clear holds = Each (λ one. is_scope one ≡ false) holds

-- just these scopes are open, on top
abbrev pub Covers : List Hold → List Hold → Type 0
Covers [] holds = Clear holds
Covers (scope ∷ scopes) [] = ⊥
Covers (scope ∷ scopes) (one ∷ holds) = (one ≡ scope) × (is_scope one ≡ true) × Covers scopes holds

-- a scope is no descriptor and no slot
scope_fd : (one : Hold) → is_scope one ≡ true → fd_in one ≡ None
scope_fd (hold.Pin row fd) e = absurd (cc)
scope_fd (hold.HandlePin row fd) e = absurd (cc)
scope_fd (hold.Fd fd) e = absurd (cc)
scope_fd (hold.Slot class) e = absurd (cc)
scope_fd (hold.Count era number) e = absurd (cc)
scope_fd hold.Groups e = refl
scope_fd hold.EffectiveGid e = refl
scope_fd hold.EffectiveUid e = refl
scope_fd (hold.Dropped caps) e = refl
scope_fd hold.Umask e = refl

other_fd : (fd : Fd) (one : Hold) → is_scope one ≡ true → is_same_fd fd (fd_in one) ≡ false
other_fd fd one e = ap (is_same_fd fd) (scope_fd one e)

-- a new hold
clear_laid : (one : Hold) (holds : List Hold) → is_scope one ≡ false → Clear holds → Clear (laid one holds)
clear_laid one [] e c = (e, tt)
clear_laid one (top ∷ holds) e c =
    subst (λ (b : Bool). Clear (if b then top ∷ laid one holds else one ∷ top ∷ holds)) (sym c.0) (e, c)

covers_laid : (one : Hold) (scopes holds : List Hold) → is_scope one ≡ false → Covers scopes holds →
    Covers scopes (laid one holds)
covers_laid one [] holds e c = clear_laid one holds e c
covers_laid one (scope ∷ scopes) [] e c = absurd c
covers_laid one (scope ∷ scopes) (top ∷ holds) e c =
    subst (λ (b : Bool). Covers (scope ∷ scopes) (if b then top ∷ laid one holds else one ∷ top ∷ holds)) (sym c.1)
    (c.0, c.1, covers_laid one scopes holds e c.2)

-- the end of a descriptor
clear_closed : (fd : Fd) (holds : List Hold) → Clear holds → Clear (closed fd holds)
clear_closed fd [] c = tt
clear_closed fd (one ∷ holds) c = go (is_same_fd fd (fd_in one)) (clear_closed fd holds c.1)
  where
    go : (b : Bool) → Clear (closed fd holds) → Clear (if b then holds else one ∷ closed fd holds)
    go true k = c.1
    go false k = (c.0, k)

covers_closed : (fd : Fd) (scopes holds : List Hold) → Covers scopes holds → Covers scopes (closed fd holds)
covers_closed fd [] holds c = clear_closed fd holds c
covers_closed fd (scope ∷ scopes) [] c = absurd c
covers_closed fd (scope ∷ scopes) (one ∷ holds) c =
    subst (λ (b : Bool). Covers (scope ∷ scopes) (if b then holds else one ∷ closed fd holds))
    (sym (other_fd fd one c.1)) (c.0, c.1, covers_closed fd scopes holds c.2)

-- a slot
clear_slotted : (class : ℕ) (holds : List Hold) → Clear holds → Clear (slotted class holds)
clear_slotted class [] c = (refl, tt)
clear_slotted class (one ∷ holds) c = go (is_some_fd (fd_in one)) (clear_slotted class holds c.1)
  where
    go : (b : Bool) → Clear (slotted class holds) →
        Clear (if b then one ∷ hold.Slot class ∷ holds else one ∷ slotted class holds)
    go true k = (c.0, (refl, c.1))
    go false k = (c.0, k)

covers_slotted : (class : ℕ) (scopes holds : List Hold) → Covers scopes holds → Covers scopes (slotted class holds)
covers_slotted class [] holds c = clear_slotted class holds c
covers_slotted class (scope ∷ scopes) [] c = absurd c
covers_slotted class (scope ∷ scopes) (one ∷ holds) c =
    subst (λ (b : Bool). Covers (scope ∷ scopes) (if b then one ∷ hold.Slot class ∷ holds else one
    ∷ slotted class holds))
    (sym (ap is_some_fd (scope_fd one c.1))) (c.0, c.1, covers_slotted class scopes holds c.2)

-- what the tables take
clear_unslotted : (holds : List Hold) → Clear holds → Clear (unslotted holds)
clear_unslotted [] c = tt
clear_unslotted (one ∷ holds) c = go (is_slot one)
  where
    go : (b : Bool) → Clear (if b then holds else one ∷ holds)
    go true = c.1
    go false = c

clear_handed : (fd : Fd) (holds : List Hold) → Clear holds → Clear (handed fd holds)
clear_handed fd [] c = tt
clear_handed fd (one ∷ holds) c = go (is_same_fd fd (fd_in one)) (clear_handed fd holds c.1)
  where
    go : (b : Bool) → Clear (handed fd holds) → Clear (if b then unslotted holds else one ∷ handed fd holds)
    go true k = clear_unslotted holds c.1
    go false k = (c.0, k)

covers_handed : (fd : Fd) (scopes holds : List Hold) → Covers scopes holds → Covers scopes (handed fd holds)
covers_handed fd [] holds c = clear_handed fd holds c
covers_handed fd (scope ∷ scopes) [] c = absurd c
covers_handed fd (scope ∷ scopes) (one ∷ holds) c =
    subst (λ (b : Bool). Covers (scope ∷ scopes) (if b then unslotted holds else one ∷ handed fd holds))
    (sym (other_fd fd one c.1)) (c.0, c.1, covers_handed fd scopes holds c.2)

covers_handed_of : (fd : Option Fd) (scopes holds : List Hold) → Covers scopes holds →
    Covers scopes (handed_of fd holds)
covers_handed_of None scopes holds c = c
covers_handed_of (Some fd) scopes holds c = covers_handed fd scopes holds c

covers_called : (sort : Sort) (told : ActReply) (scopes holds : List Hold) → Covers scopes holds →
    Covers scopes (held_called sort told holds)
covers_called (OpensWith flags) (Host (host.Ok (value.Fd fd))) scopes holds c =
    covers_laid (hold.Fd fd) scopes holds refl c
covers_called (OpensWith flags) told scopes holds c = c
covers_called (EndsFd fd) told scopes holds c = covers_closed fd scopes holds c
covers_called OfSeat told scopes holds c = c
covers_called Plain told scopes holds c = c

covers_changed : (asked : Change) (told : EventReply) (scopes holds : List Hold) → Covers scopes holds →
    Covers scopes (held_changed asked told holds)
covers_changed (change.Resolve number) (event.Resolved resolved) scopes holds c =
    covers_laid (hold.Pin resolved.row (row_fd resolved.form)) scopes holds refl c
covers_changed (change.Claim claim) (event.Claimed given) scopes holds c =
    covers_laid (hold.Count claim.era given.number) scopes holds refl c
covers_changed (change.TakeFd class) event.Taken scopes holds c = covers_slotted class scopes holds c
covers_changed (change.Insert new) (event.Inserted given) scopes holds c =
    covers_laid (hold.Count new.era given) scopes (handed_of (row_fd new.form) holds) refl
    (covers_handed_of (row_fd new.form) scopes holds c)
covers_changed (change.Insert new) (event.Found given) scopes holds c =
    covers_laid (hold.Count new.era given.number) scopes holds refl c
covers_changed (change.InsertRoot new) (event.Inserted given) scopes holds c =
    covers_handed_of (row_fd new.form) scopes holds c
covers_changed (change.InsertHandle new) (event.Inserted given) scopes holds c =
    covers_handed new.fd scopes holds c
covers_changed (change.PinHandle handle number) (event.Pinned row fd) scopes holds c =
    covers_laid (hold.HandlePin row fd) scopes holds refl c
covers_changed asked told scopes holds c = c

pub covers_held : (deed : Deed) (told : ActReply) (scopes holds : List Hold) → Covers scopes holds →
    Covers scopes (held deed told holds)
covers_held (Calls asked) told scopes holds c = covers_called (sort_of asked) told scopes holds c
covers_held (Changes asked) (Event told) scopes holds c = covers_changed asked told scopes holds c
covers_held (Changes asked) (Host told) scopes holds c = c
covers_held (Changes asked) NoCopy scopes holds c = c

-- a scope that opens
pub covers_opened : (scope : Hold) (told : ActReply) (scopes holds : List Hold) → is_scope scope ≡ true →
    Covers scopes holds → Covers (opened scope told scopes) (opened scope told holds)
covers_opened scope (Host (host.Ok got)) scopes holds e c = (refl, e, c)
covers_opened scope (Host (host.Refused errno)) scopes holds e c = c
covers_opened scope (Host (host.Fault errno)) scopes holds e c = c
covers_opened scope (Host host.NoMemory) scopes holds e c = c
covers_opened scope (Event got) scopes holds e c = c
covers_opened scope NoCopy scopes holds e c = c
