-- Steps of a job: the opening of a name, the telling of a status, and what others are not.
use Rattle.std.proofs.Common.{◌≡◌, ◌⊎◌, inl, inr, ℕ, List, false, Option, Some, refl}
use Rattle.pt_host.specs.Flags.{includes, o_creat}
use Rattle.pt_host.specs.declared.flags.OpenFlags.{OpenFlags}
use Rattle.pt_host.specs.declared.ids.Fd.{Fd}
use Rattle.pt_host.specs.declared.ids.ObjIds.{ObjIds}
use Rattle.pt_host.specs.declared.op.KeptHostOp.TheVariants as call
use Rattle.pt_host.specs.declared.reply.HostReply.TheVariants as host
use Rattle.pt_host.specs.declared.reply.HostValue.TheVariants as value
use Rattle.pt_host.specs.declared.stat.Stat.{Stat}
use Rattle.pt_tables.specs.declared.event.NewHandle.{NewHandle}
use Rattle.pt_tables.specs.declared.event.KeptEvent.TheVariants as change
use Rattle.pt_tables.specs.declared.reply.EventReply.TheVariants as event
use Rattle.pt_tables.specs.declared.reply.Resolved.{Resolved}
use Rattle.pt_frame.specs.Deed.{Calls, Changes, Deed, Step}
use Rattle.pt_frame.specs.declared.act.ActReply.{ActReply}
use Rattle.pt_frame.specs.declared.act.ActReply.TheVariants.{Event, Host}
use Rattle.pt_law.specs.Reopened.{ComesToNone}
use Rattle.pt_law.specs.World.{made}

-- a name is opened
abbrev pub opening : Fd → List ℕ → OpenFlags → ℕ → Fd → Step
opening dir name flags mode fd = made (Calls (call.OpenAt dir name flags mode)) (Host (host.Ok (value.Fd fd)))

-- the status of what is open there is told
abbrev pub stating : Fd → Stat → Step
stating fd stat = made (Calls (call.Stat fd)) (Host (host.Ok (value.Stat stat)))

-- a handle is inserted
abbrev pub inserting_handle : NewHandle → ℕ → Step
inserting_handle new told = made (Changes (change.InsertHandle new)) (Event (event.Inserted told))

-- no number is resolved
abbrev pub ResolvesNone : Option Deed → ActReply → Type 0
ResolvesNone (Some (Changes (change.Resolve number))) (Event (event.Resolved resolved)) = ⊥
ResolvesNone deed told = Unit {0}

-- no name is opened
abbrev pub OpensNone : Option Deed → ActReply → Type 0
OpensNone (Some (Calls (call.OpenAt dir name flags mode))) (Host (host.Ok (value.Fd fd))) = ⊥
OpensNone deed told = Unit {0}

-- no name is opened in such a way that its object may be made
abbrev pub MakesNone : Option Deed → ActReply → Type 0
MakesNone (Some (Calls (call.OpenAt dir name flags mode))) (Host (host.Ok (value.Fd fd))) =
    includes flags.0 o_creat ≡ false
MakesNone deed told = Unit {0}

-- no number is given
abbrev pub GivesNone : Option Deed → ActReply → Type 0
GivesNone (Some (Changes (change.Claim claim))) (Event (event.Claimed given)) = ⊥
GivesNone (Some (Changes (change.Insert new))) (Event (event.Inserted given)) = ⊥
GivesNone (Some (Changes (change.Insert new))) (Event (event.Found given)) = ⊥
GivesNone deed told = Unit {0}

-- no handle is inserted
abbrev pub InsertsNone : Option Deed → ActReply → Type 0
InsertsNone (Some (Changes (change.InsertHandle new))) (Event (event.Inserted given)) = ⊥
InsertsNone deed told = Unit {0}

-- this number is given in this era to who asks for an object of these ids
abbrev pub GivesBy : ℕ → ℕ → ObjIds → Option Deed → ActReply → Type 0
GivesBy era number ids (Some (Changes (change.Claim claim))) (Event (event.Claimed given)) =
    (given.number ≡ number) × (claim.ids ≡ ids) × (claim.era ≡ era)
GivesBy era number ids (Some (Changes (change.Insert new))) (Event (event.Inserted given)) =
    (given ≡ number) × (new.ids ≡ ids) × (new.era ≡ era)
GivesBy era number ids (Some (Changes (change.Insert new))) (Event (event.Found given)) =
    (given.number ≡ number) × (new.ids ≡ ids) × (new.era ≡ era)
GivesBy era number ids deed told = ⊥

-- each step is of a kind, or of none

abbrev pub IsOpenAt : Step → Type 0
IsOpenAt step = (dir : Fd) × (name : List ℕ) × (flags : OpenFlags) × (mode : ℕ) × (fd : Fd)
    × (step ≡ opening dir name flags mode fd)

pub sort_opening : (deed : Option Deed) (told : ActReply) →
    IsOpenAt (record { deed = deed; reply = told }) ⊎ OpensNone deed told
sort_opening (Some (Calls (call.OpenAt dir name flags mode))) (Host (host.Ok (value.Fd fd))) =
    inl (dir, name, flags, mode, fd, refl)
sort_opening _ _ = inr tt

abbrev pub IsGivingBy : Step → Type 0
IsGivingBy step = (era : ℕ) × (number : ℕ) × (ids : ObjIds) × GivesBy era number ids step.deed step.reply

pub sort_giving : (deed : Option Deed) (told : ActReply) →
    IsGivingBy (record { deed = deed; reply = told }) ⊎ GivesNone deed told
sort_giving (Some (Changes (change.Claim claim))) (Event (event.Claimed given)) =
    inl (claim.era, given.number, claim.ids, (refl, refl, refl))
sort_giving (Some (Changes (change.Insert new))) (Event (event.Inserted given)) =
    inl (new.era, given, new.ids, (refl, refl, refl))
sort_giving (Some (Changes (change.Insert new))) (Event (event.Found given)) =
    inl (new.era, given.number, new.ids, (refl, refl, refl))
sort_giving _ _ = inr tt

abbrev pub IsInserting : Step → Type 0
IsInserting step = (new : NewHandle) × (told : ℕ) × (step ≡ inserting_handle new told)

pub sort_inserting : (deed : Option Deed) (told : ActReply) →
    IsInserting (record { deed = deed; reply = told }) ⊎ InsertsNone deed told
sort_inserting (Some (Changes (change.InsertHandle new))) (Event (event.Inserted given)) = inl (new, given, refl)
sort_inserting _ _ = inr tt

-- who comes to no number neither resolves one nor is given one
pub comes_resolves : (deed : Option Deed) (told : ActReply) → ComesToNone deed told → ResolvesNone deed told
comes_resolves (Some (Changes (change.Resolve number))) (Event (event.Resolved resolved)) c = absurd c
comes_resolves deed told c = tt

pub comes_gives : (deed : Option Deed) (told : ActReply) → ComesToNone deed told → GivesNone deed told
comes_gives (Some (Changes (change.Claim claim))) (Event (event.Claimed given)) c = absurd c
comes_gives (Some (Changes (change.Insert new))) (Event (event.Inserted given)) c = absurd c
comes_gives (Some (Changes (change.Insert new))) (Event (event.Found given)) c = absurd c
comes_gives deed told c = tt
