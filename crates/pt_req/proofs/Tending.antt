-- What each step of a request does to its seat, and that none takes memory of its own.
use Rattle.std.proofs.Common.{◌≡◌, ℕ, zero, suc, Bool, true, false, ◌||◌, List, [], ◌∷◌, refl, sym, subst}
use Rattle.std.proofs.Common.{Option, Some, None, arith}
use Rattle.std.specs.Prelude.{◌&&◌, is_some}
use Rattle.pt_host.specs.Call.{Call}
use Rattle.pt_host.specs.Sorts.{Sort, OpensWith, EndsFd, OfSeat, Plain, sort_of}
use Rattle.pt_host.specs.declared.flags.Caps.{Caps}
use Rattle.pt_host.specs.declared.op.KeptHostOp.TheVariants as call
use Rattle.pt_host.specs.declared.reply.HostReply.{HostReply}
use Rattle.pt_host.specs.declared.reply.HostReply.TheVariants as host
use Rattle.pt_host.specs.declared.reply.HostValue.{HostValue}
use Rattle.pt_host.specs.declared.seat.HostSeat.{HostSeat}
use Rattle.pt_creds.specs.Identity.{override_cap}
use Rattle.pt_creds.specs.Steps.{id_to_set}
use Rattle.pt_iface.specs.declared.answer.Answer.TheVariants as answer
use Rattle.pt_frame.specs.Deed.{Deed, Calls, Changes, lacks_memory, LacksMemory}
use Rattle.pt_frame.specs.Past.{is_open, worn_called, worn_after}
use Rattle.pt_frame.specs.Replies.{closings_in, passes_with}
use Rattle.pt_frame.specs.Sparing.{IsSparing}
use Rattle.pt_frame.specs.Tended.{is_seats_sort, is_of_seat, Tends, IsAskedOf, IsAsked, ClosesBare, PassesBare}
use Rattle.pt_frame.specs.Tended.{IsOpening}
use Rattle.pt_frame.specs.Tree.{RequestTree, Gives, Refuses, Asks, Opens, Bares, Brackets, Shuts, Allocates, on}
use Rattle.pt_frame.specs.declared.act.ActReply.{ActReply}
use Rattle.pt_frame.specs.declared.act.ActReply.TheVariants.{Host, NoCopy}
use Rattle.pt_frame.specs.declared.hold.Hold.{Hold}
use Rattle.pt_frame.specs.declared.hold.Hold.TheVariants as hold
use Rattle.pt_frame.specs.declared.hold.Taken.TheVariants.{Nothing}
use Rattle.pt_frame.proofs.Wearing.{wears_same}
use Rattle.pt_req.specs.Asker.{group_set, egid_set, euid_set, cap_raised, under_umask}
use Rattle.pt_req.specs.Capability.{fsetid}
use Rattle.pt_req.specs.Steps.{open_scope, tried_in}
use Rattle.pt_req.proofs.Replying.{if_set, if_tried}
use Rattle.pt_req.proofs.Walking.{InScope, Walk, is_making}

closes_bare : (count : ℕ) → ClosesBare Nothing count []
closes_bare zero = tt
closes_bare (suc count) = refl

closes_none : (count : ℕ) (worn : List Call) → count ≡ 0 → ClosesBare Nothing count worn
closes_none zero worn e = tt
closes_none (suc count) worn e = absurd (cc)

passes_bare : (passes : Bool) → PassesBare passes []
passes_bare true = refl
passes_bare false = tt

asked_of : (sort : Sort) (asked : Call) (worn : List Call) → is_seats_sort sort ≡ false → IsAskedOf sort asked worn
asked_of (OpensWith flags) asked worn e = tt
asked_of (EndsFd fd) asked worn e = tt
asked_of OfSeat asked worn e = absurd (cc)
asked_of Plain asked worn e = tt

is_asked : (deed : Deed) (worn : List Call) → is_of_seat deed ≡ false → IsAsked deed worn
is_asked (Calls asked) worn e = asked_of (sort_of asked) asked worn e
is_asked (Changes asked) worn e = tt

-- a call that is Ok opens its scope
worn_ok : (ends : Bool) (sort : Sort) (asked : Call) (told : HostValue) (worn : List Call) → ends ≡ false →
    sort ≡ OfSeat → worn_called ends sort asked (Host (host.Ok told)) worn ≡ asked ∷ worn
worn_ok true sort asked told worn shut own = absurd (cc)
worn_ok false OfSeat asked told worn shut own = refl
worn_ok false (OpensWith flags) asked told worn shut own = absurd (cc)
worn_ok false (EndsFd fd) asked told worn shut own = absurd (cc)
worn_ok false Plain asked told worn shut own = absurd (cc)

scopes : (seat : HostSeat) (asked : Call) (scope : Hold) (rest : RequestTree) (worn : List Call) →
    IsOpening seat asked scope worn → Tends seat rest (asked ∷ worn) → Tends seat (open_scope asked scope rest) worn
scopes seat asked scope rest worn is so = (
  is,
  if_set (λ told tree. Tends seat tree (worn_after worn (Calls asked) told)) rest (λ told. tt)
      (λ told. subst (λ (kept : List Call). Tends seat rest kept)
      (sym (worn_ok (is_open asked worn) (sort_of asked) asked told worn is.shut is.own)) so),
)

-- no umask is set
abbrev Unmasked : List Call → Type 0
Unmasked worn = (mask : ℕ) → is_open (call.SetUmask mask) worn ≡ false

-- a capability that is raised is none
raised_unmasked : (ends : Bool) (told : HostReply) (worn : List Call) → ends ≡ false → Unmasked worn →
    Unmasked (worn_called ends OfSeat (call.RaiseCap override_cap) (Host told) worn)
raised_unmasked true told worn low none = absurd (cc)
raised_unmasked false (host.Ok value) worn low none = none
raised_unmasked false (host.Refused errno) worn low none = none
raised_unmasked false (host.Fault errno) worn low none = none
raised_unmasked false host.NoMemory worn low none = none

-- An identity that is taken on by these steps is worn by what follows. A capability is raised only where the uid was
-- changed.
module _ (seat : HostSeat) (rest : RequestTree) (any : (worn : List Call) → Unmasked worn → Tends seat rest worn) where
  on_euid : (worn : List Call) → Unmasked worn → ((id : ℕ) → is_open (call.SetEuid id) worn ≡ false) →
      ((caps : Caps) → is_open (call.RaiseCap caps) worn ≡ false) → (euid : Option ℕ) (keeps : Bool) →
      Tends seat (euid_set euid (cap_raised (keeps && is_some euid) rest)) worn
  on_euid worn none shut low None true = any worn none
  on_euid worn none shut low None false = any worn none
  on_euid worn none shut low (Some uid) true =
      scopes seat (call.SetEuid uid) hold.EffectiveUid (cap_raised true rest) worn
      (record { own = refl; scoped = refl; shut = shut uid; back = refl }) (
        (tt, low override_cap, omega arith),
        λ told. (
          tt,
          if_tried (λ told tree. Tends seat tree (worn_after (call.SetEuid uid ∷ worn)
              (Calls (call.RaiseCap override_cap)) told)) rest (λ told. tt)
              (λ told. any _ (raised_unmasked (is_open (call.RaiseCap override_cap) worn) told
              (call.SetEuid uid ∷ worn) (low override_cap) none)) told,
        ),
      )
  on_euid worn none shut low (Some uid) false = scopes seat (call.SetEuid uid) hold.EffectiveUid rest worn
      (record { own = refl; scoped = refl; shut = shut uid; back = refl }) (any _ none)

  on_egid : (worn : List Call) → Unmasked worn → ((id : ℕ) → is_open (call.SetEgid id) worn ≡ false) →
      ((id : ℕ) → is_open (call.SetEuid id) worn ≡ false) →
      ((caps : Caps) → is_open (call.RaiseCap caps) worn ≡ false) →
      (egid euid : Option ℕ) (keeps : Bool) →
      Tends seat (egid_set egid (euid_set euid (cap_raised (keeps && is_some euid) rest))) worn
  on_egid worn none first shut low None euid keeps = on_euid worn none shut low euid keeps
  on_egid worn none first shut low (Some gid) euid keeps = scopes seat (call.SetEgid gid) hold.EffectiveGid
      (euid_set euid (cap_raised (keeps && is_some euid) rest)) worn
      (record { own = refl; scoped = refl; shut = first gid; back = refl })
      (on_euid (call.SetEgid gid ∷ worn) none shut low euid keeps)

  on_steps : (groups egid euid : Option ℕ) (keeps : Bool) →
      Tends seat (group_set groups (egid_set egid (euid_set euid (cap_raised (keeps && is_some euid) rest)))) []
  on_steps None egid euid keeps = on_egid [] (λ mask. refl) (λ id. refl) (λ id. refl) (λ caps. refl) egid euid keeps
  on_steps (Some group) egid euid keeps = scopes seat (call.SetGroups (group ∷ [])) hold.Groups
      (egid_set egid (euid_set euid (cap_raised (keeps && is_some euid) rest))) []
      (record { own = refl; scoped = refl; shut = refl; back = refl })
      (on_egid (call.SetGroups (group ∷ []) ∷ []) (λ mask. refl) (λ id. refl) (λ id. refl) (λ caps. refl) egid euid keeps)

-- what is no call on the seat changes nothing of it
plainly : (seat : HostSeat) (deed : Deed) (next : ActReply → RequestTree) → is_of_seat deed ≡ false →
    ((told : ActReply) → Tends seat (next told) []) → Tends seat (Asks deed next) []
plainly seat deed next own so = (
  is_asked deed [] own,
  λ told.
      subst (λ (worn : List Call). ClosesBare Nothing (closings_in deed told) worn × Tends seat (next told) worn)
      (sym (wears_same deed told [] own)) (closes_bare (closings_in deed told), so told),
)

-- under any scopes an object is made, and they end
making_tends : (seat : HostSeat) (making : Call) (next : ActReply → RequestTree) → is_making (Calls making) ≡ true →
    ((told : ActReply) → Tends seat (next told) []) → (worn : List Call) →
    Tends seat (Asks (Calls making) (λ told. Bares (next told))) worn
making_tends seat (call.OpenAt dir name flags mode) next is so worn = (tt, λ told. (tt, so told))
making_tends seat (call.MakeDir dir name mode) next is so worn = (tt, λ told. (tt, so told))
making_tends seat (call.MakeNode dir name mode rdev) next is so worn = (tt, λ told. (tt, so told))
making_tends seat (call.SymLink dir name target) next is so worn = (tt, λ told. (tt, so told))
making_tends seat asked next is so worn = absurd (cc)

-- and under a umask, if one is to be set
masked_tends : (seat : HostSeat) (umask : Option ℕ) (making : Call) (next : ActReply → RequestTree) →
    is_making (Calls making) ≡ true → ((told : ActReply) → Tends seat (next told) []) → (worn : List Call) →
    Unmasked worn → Tends seat (under_umask umask (Asks (Calls making) (λ told. Bares (next told)))) worn
masked_tends seat None making next is so worn none = making_tends seat making next is so worn
masked_tends seat (Some mask) making next is so worn none =
    scopes seat (call.SetUmask mask) hold.Umask (Asks (Calls making) (λ told. Bares (next told))) worn
    (record { own = refl; scoped = refl; shut = none mask; back = refl })
    (making_tends seat making next is so (call.SetUmask mask ∷ worn))

-- under the scope of the capability nothing else of the seat is changed, until it ends
tends_in : (seat : HostSeat) (worn : List Call) (told : ActReply) (tree : RequestTree) →
    InScope (λ dropped asked. Unit {0}) true (λ rest. Tends seat rest []) told tree → Tends seat tree worn
tends_in seat worn told (Gives last) so = (so.0.0, passes_so (passes_with last) so.1)
  where
    passes_so : (passes : Bool) → passes ≡ false → PassesBare passes worn
    passes_so true e = absurd (cc)
    passes_so false e = tt
tends_in seat worn told (Refuses same) so = tt
tends_in seat worn told (Asks deed next) so = (
  is_asked deed worn so.0,
  λ later. subst
      (λ (kept : List Call). ClosesBare Nothing (closings_in deed later) kept × Tends seat (next later) kept)
      (sym (wears_same deed later worn so.0))
      (closes_none (closings_in deed later) worn (so.3 later), tends_in seat worn later (next later) (so.4 later)),
)
tends_in seat worn told (Bares rest) so = so
tends_in seat worn told (Opens asked scope next) so = absurd so
tends_in seat worn told (Brackets rest) so = absurd so
tends_in seat worn told (Shuts passes rest) so = absurd so
tends_in seat worn told (Allocates made next) so = absurd so

-- no scope is open
pub bare : (seat : HostSeat) → Walk seat (λ creds umask. Unit {0}) (λ dropped asked. Unit {0})
    (λ tree. Tends seat tree [])
    (λ told tree. Tends seat tree [])
bare seat = record {
  gives = λ last is. (is.0, passes_bare (passes_with last));
  refuses = λ told. tt;
  had = λ told tree so. so;
  asks = λ deed next own none may so. plainly seat deed next own so;
  ran_out = λ told deed lacks own none may.
      plainly seat deed (on tried_in (λ done. Gives answer.NoMemory)) own
      (if_tried (λ later tree. Tends seat tree []) (Gives answer.NoMemory) (λ later. tt) (λ later. (refl, tt)));
  brackets = λ rest so. so;
  shuts = λ passes rest so. (refl, so);
  shuts_after = λ told passes rest so. (refl, so);
  makes_as = λ creds umask making next is may so.
      on_steps seat (under_umask umask (Asks (Calls making) (λ told. Bares (next told))))
      (masked_tends seat umask making next is so) creds.sup_gid (id_to_set creds.gid seat.eff_gid)
      (id_to_set creds.uid seat.eff_uid) creds.keep_capability;
  bares = λ rest so. so;
  drops = λ rest has so. scopes seat (call.DropCap fsetid) (hold.Dropped fsetid) rest []
      (record { own = refl; scoped = refl; shut = refl; back = refl })
      (tends_in seat (call.DropCap fsetid ∷ []) NoCopy rest (so NoCopy));
}

lacks_so : (lacks : Bool) → lacks ≡ true → (lacks || false) ≡ true
lacks_so true e = refl
lacks_so false e = absurd (cc)

more_or : (first one other : Bool) → (one ≡ true → other ≡ true) → (first || one) ≡ true → (first || other) ≡ true
more_or true one other more e = refl
more_or false one other more e = more e

-- what spares where no memory ran out spares where some did
pub spares_more : (one other : Bool) → (one ≡ true → other ≡ true) → (tree : RequestTree) → IsSparing one tree →
    IsSparing other tree
spares_more one other more (Gives last) so = λ out. more (so out)
spares_more one other more (Refuses told) so = λ lacks. more (so lacks)
spares_more one other more (Asks deed next) so = λ told.
    spares_more (lacks_memory told || one) (lacks_memory told || other) (more_or (lacks_memory told) one other more)
    (next told) (so told)
spares_more one other more (Opens asked scope next) so = λ told.
    spares_more (lacks_memory told || one) (lacks_memory told || other) (more_or (lacks_memory told) one other more)
    (next told) (so told)
spares_more one other more (Bares rest) so = spares_more one other more rest so
spares_more one other more (Brackets rest) so = spares_more one other more rest so
spares_more one other more (Shuts passes rest) so = spares_more one other more rest so
spares_more one other more (Allocates made next) so = so

spared_scope : (asked : Call) (scope : Hold) (rest : RequestTree) → IsSparing false rest →
    IsSparing false (open_scope asked scope rest)
spared_scope asked scope rest so = if_set (λ told tree. IsSparing (lacks_memory told || false) tree) rest
    (λ told. λ lacks. lacks_so (lacks_memory told) lacks) (λ told. so)

module _ (rest : RequestTree) (so : IsSparing false rest) where
  spares_raise : (raise : Bool) → IsSparing false (cap_raised raise rest)
  spares_raise true = if_tried (λ told tree. IsSparing (lacks_memory told || false) tree) rest
      (λ told. λ lacks. lacks_so (lacks_memory told) lacks)
      (λ told. spares_more false (lacks_memory (Host told) || false) (λ e. absurd (cc)) rest so)
  spares_raise false = so

  spares_euid : (euid : Option ℕ) (raise : Bool) →
      IsSparing false (euid_set euid (cap_raised raise rest))
  spares_euid None raise = spares_raise raise
  spares_euid (Some uid) raise =
      spared_scope (call.SetEuid uid) hold.EffectiveUid (cap_raised raise rest) (spares_raise raise)

  spares_egid : (egid euid : Option ℕ) (raise : Bool) →
      IsSparing false (egid_set egid (euid_set euid (cap_raised raise rest)))
  spares_egid None euid raise = spares_euid euid raise
  spares_egid (Some gid) euid raise = spared_scope (call.SetEgid gid) hold.EffectiveGid
      (euid_set euid (cap_raised raise rest)) (spares_euid euid raise)

  spares_steps : (groups egid euid : Option ℕ) (raise : Bool) →
      IsSparing false (group_set groups (egid_set egid (euid_set euid (cap_raised raise rest))))
  spares_steps None egid euid raise = spares_egid egid euid raise
  spares_steps (Some group) egid euid raise =
      spared_scope (call.SetGroups (group ∷ [])) hold.Groups
      (egid_set egid (euid_set euid (cap_raised raise rest))) (spares_egid egid euid raise)

spares_umask : (umask : Option ℕ) (rest : RequestTree) → IsSparing false rest →
    IsSparing false (under_umask umask rest)
spares_umask None rest so = so
spares_umask (Some mask) rest so = spared_scope (call.SetUmask mask) hold.Umask rest so

-- memory that ran out once did so
out_before : (later lacks : Bool) → lacks ≡ true → (later || (lacks || false)) ≡ true
out_before true lacks e = refl
out_before false true e = refl
out_before false false e = absurd (cc)

-- under a scope
spares_in : (told : ActReply) (tree : RequestTree) →
    InScope (λ dropped asked. Unit {0}) true (λ rest. IsSparing false rest) told tree →
    IsSparing (lacks_memory told || false) tree
spares_in told (Gives last) so = λ out. absurd (so.0.1 out)
spares_in told (Refuses same) so = λ lacks.
    lacks_so (lacks_memory told) (subst (λ (it : ActReply). LacksMemory it) so lacks)
spares_in told (Asks deed next) so = λ later.
    spares_more (lacks_memory later || false) (lacks_memory later || (lacks_memory told || false))
    (more_or (lacks_memory later) false (lacks_memory told || false) (λ e. absurd (cc))) (next later)
    (spares_in later (next later) (so.4 later))
spares_in told (Bares rest) so = spares_more false (lacks_memory told || false) (λ e. absurd (cc)) rest so
spares_in told (Opens asked scope next) so = absurd so
spares_in told (Brackets rest) so = absurd so
spares_in told (Shuts passes rest) so = absurd so
spares_in told (Allocates made next) so = absurd so

-- no memory ran out so far
pub in_full : (seat : HostSeat) →
    Walk seat (λ creds umask. Unit {0}) (λ dropped asked. Unit {0}) (λ tree. IsSparing false tree)
    (λ told tree. IsSparing (lacks_memory told || false) tree)
in_full seat = record {
  gives = λ last is. λ out. absurd (is.1 out);
  refuses = λ told. λ lacks. lacks_so (lacks_memory told) lacks;
  had = λ told tree so. spares_more false (lacks_memory told || false) (λ e. absurd (cc)) tree so;
  asks = λ deed next own none may so. so;
  ran_out = λ told deed lacks own none may.
      if_tried (λ later tree. IsSparing (lacks_memory later || (lacks_memory told || false)) tree)
      (Gives answer.NoMemory) (λ later. λ out. out_before (lacks_memory later) (lacks_memory told) lacks)
      (λ later. λ out. out_before (lacks_memory (Host later)) (lacks_memory told) lacks);
  brackets = λ rest so. so;
  shuts = λ passes rest so. so;
  shuts_after = λ told passes rest so. so;
  makes_as = λ creds umask making next is may so.
      spares_steps (under_umask umask (Asks (Calls making) (λ told. Bares (next told))))
      (spares_umask umask (Asks (Calls making) (λ told. Bares (next told))) so) creds.sup_gid
      (id_to_set creds.gid seat.eff_gid) (id_to_set creds.uid seat.eff_uid)
      (creds.keep_capability && is_some (id_to_set creds.uid seat.eff_uid));
  bares = λ rest so. so;
  drops = λ rest has so. if_set (λ told tree. IsSparing (lacks_memory told || false) tree) rest
      (λ told. λ lacks. lacks_so (lacks_memory told) lacks) (λ told. spares_in (Host (host.Ok told)) rest (so _));
}
