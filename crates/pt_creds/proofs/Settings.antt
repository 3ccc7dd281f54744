-- What a `set` leaves: the seat under the credentials, or the one from before.
use Rattle.std.proofs.Common.{◌≡◌, ◌≤◌, ℕ, Bool, true, false, ◌==◌, ◌||◌, ◌&&◌, not, cond, List, [], ◌∷◌, ◌++◌}
use Rattle.std.proofs.Common.{Option, Some, None, is_some, length, Result, Ok, Err, refl, sym, ap, ap₂, ◌∙◌, subst}
use Rattle.std.proofs.Common.{inl, inr, append_assoc, ne_eqb}
use Rattle.std.specs.Prelude.{nat_le, IfOk, IfErr, IfSome, IfNone}
use Rattle.std.specs.Int.RustNames.{bit_or}
use Rattle.pt_host.specs.Call.{Call}
use Rattle.pt_host.specs.Flags.{includes, cap_setgid}
use Rattle.pt_host.specs.Promises.{HasRisen}
use Rattle.pt_host.specs.SeatStep.{SeatStep}
use Rattle.pt_host.specs.declared.flags.Caps.{Caps}
use Rattle.pt_host.specs.declared.ids.Errno.{Errno}
use Rattle.pt_host.specs.declared.seat.HostSeat.{HostSeat}
use Rattle.pt_host.specs.declared.op.KeptHostOp.TheVariants as call
use Rattle.pt_host.specs.declared.reply.HostReply.{HostReply}
use Rattle.pt_host.specs.declared.reply.HostReply.TheVariants as reply
use Rattle.pt_host.specs.Relation.{HostRelation}
use Rattle.pt_creds.specs.Calls.{CallMade, CallsLead, asked_in, IsDone, AllDone, FirstFaults}
use Rattle.pt_creds.specs.Identity.{Credentials, IsWhole, uid_under, gid_under, id_under, groups_under, leaves_root}
use Rattle.pt_creds.specs.Identity.{caps_under}
use Rattle.pt_creds.specs.Identity.{seat_under, override_cap}
use Rattle.pt_creds.specs.Guard.{Guarded, if_any, euid_calls, egid_calls, calls_back}
use Rattle.pt_creds.specs.Steps.{id_to_set, cred_steps, group_calls, raise_calls, calls_of, was, changes_of, guard_of}
use Rattle.pt_creds.specs.Steps.{TakeBack}
use Rattle.pt_creds.specs.Progress.{no_change, Plays, FitsSeat, IsUndone, keeping_uid, keeping_gid, keeping_groups}
use Rattle.pt_creds.specs.Setting.{MayFail, AllPass, IsTakenBack, Sets, raises, has_raised, LeavesSeat}
use Rattle.pt_creds.specs.Setting.{RisesWhereLost, IsLeftBy}
use Rattle.pt_creds.specs.declared.error.CredError.{CredError}
use Rattle.pt_creds.specs.declared.error.CredError.TheVariants as error
use Rattle.pt_creds.proofs.Making.{Law, led, IsSure, makes_on, asked_on, done_on, leads, never_falls, stayed}
use Rattle.pt_creds.proofs.Making.{risen_before, fails_by_fault}
use Rattle.pt_creds.proofs.Returning.{caps_same, comes_back, sure_back}
use Rattle.pt_creds.proofs.Seats.{IdCase, left, kept, other, id_case, absorbed}

same_head : (x y : Call) (xs ys : List Call) → x ∷ xs ≡ y ∷ ys → x ≡ y
same_head x y xs ys e = cc

-- the seat with another effective uid, gid, groups and capabilities
abbrev seated : HostSeat → ℕ → ℕ → List ℕ → Caps → HostSeat
seated seat uid gid groups caps = record seat { eff_uid = uid; eff_gid = gid; groups = groups; eff_caps = caps }

-- credentials with these ids, and the group of others
abbrev pub with_ids : Credentials → ℕ → ℕ → Credentials
with_ids creds uid gid = record creds { uid = uid; gid = gid }

-- the seat after the group was taken on
group_leads : (creds : Credentials) (seat : HostSeat) →
    led seat (group_calls creds.sup_gid)
    ≡ seated seat seat.eff_uid seat.eff_gid (groups_under creds.sup_gid seat.groups) seat.eff_caps
group_leads creds seat = led_group creds.sup_gid seat
  where
    led_group : (o : Option ℕ) (seat : HostSeat) →
        led seat (group_calls o) ≡ seated seat seat.eff_uid seat.eff_gid (groups_under o seat.groups) seat.eff_caps
    led_group None seat = refl
    led_group (Some group) seat = refl

abbrev with_gid_of : HostSeat → ℕ → HostSeat
with_gid_of seat gid = record seat { eff_gid = gid }

-- and after the gid was
gid_leads : (id now : ℕ) (seat : HostSeat) → seat.eff_gid ≡ now → IdCase seat.real_gid id now →
    led seat (egid_calls (id_to_set id now)) ≡ with_gid_of seat (id_under seat.real_gid id now)
gid_leads id now seat is (left none same) =
    ap (λ o. led seat (egid_calls o)) none ∙ ap (λ g. with_gid_of seat g) (is ∙ sym same)
gid_leads id now seat is (kept some keeps same) =
    ap (λ o. led seat (egid_calls o)) some ∙ ap (λ t. cond t seat (with_gid_of seat id)) keeps
    ∙ ap (λ g. with_gid_of seat g) (is ∙ sym same)
gid_leads id now seat is (other some names same no_root) =
    ap (λ o. led seat (egid_calls o)) some ∙ ap (λ t. cond t seat (with_gid_of seat id)) names
    ∙ ap (λ g. with_gid_of seat g) (sym same)

abbrev no_caps : Caps
no_caps = record { 0 = 0 }

abbrev caps_going : Bool → Bool → Caps → Caps → Caps
caps_going from_root to_root permitted caps = cond from_root (cond to_root caps no_caps) (cond to_root permitted caps)

going_out : (from_root : Bool) (permitted caps : Caps) →
    caps_going from_root false permitted caps ≡ cond (from_root && true) no_caps caps
going_out true permitted caps = refl
going_out false permitted caps = refl

-- and after the uid was; the seat has the uid and the capabilities of `before` until then
uid_leads : (creds : Credentials) (before : HostSeat) (gid : ℕ) (groups : List ℕ) →
    IdCase before.real_uid creds.uid before.eff_uid →
    led (seated before before.eff_uid gid groups before.eff_caps) (euid_calls (id_to_set creds.uid before.eff_uid))
    ≡ seated before (uid_under creds before) gid groups (caps_under creds false before)
uid_leads creds before gid groups (left none same) =
    let seat : HostSeat = seated before before.eff_uid gid groups before.eff_caps in
    ap (λ o. led seat (euid_calls o)) none
    ∙ ap₂ (λ u c. seated before u gid groups c) (sym same) (sym (caps_same creds false before same))
uid_leads creds before gid groups (kept some keeps same) =
    let seat : HostSeat = seated before before.eff_uid gid groups before.eff_caps in
    ap (λ o. led seat (euid_calls o)) some
    ∙ ap (λ t. cond t seat
    (seated before creds.uid gid groups
    (caps_going (before.eff_uid == 0) (creds.uid == 0) before.perm_caps before.eff_caps))) keeps
    ∙ ap₂ (λ u c. seated before u gid groups c) (sym same) (sym (caps_same creds false before same))
uid_leads creds before gid groups (other some names same no_root) =
    let seat : HostSeat = seated before before.eff_uid gid groups before.eff_caps in
    let out : (creds.uid == 0) ≡ false = ne_eqb creds.uid 0 no_root in
    let caps : caps_going (before.eff_uid == 0) (creds.uid == 0) before.perm_caps before.eff_caps
    ≡ caps_under creds false before =
    ap (λ t. caps_going (before.eff_uid == 0) t before.perm_caps before.eff_caps) out
    ∙ going_out (before.eff_uid == 0) before.perm_caps before.eff_caps
    ∙ sym (ap (λ t. cond (before.eff_uid == 0 && not t) no_caps before.eff_caps)
    (ap (λ id. id == 0) same ∙ out)) in
    ap (λ o. led seat (euid_calls o)) some
    ∙ ap (λ t. cond t seat
    (seated before creds.uid gid groups
    (caps_going (before.eff_uid == 0) (creds.uid == 0) before.perm_caps before.eff_caps))) names
    ∙ ap₂ (λ u c. seated before u gid groups c) (sym same) caps

-- these seats are those under a part of the credentials
under_group : (creds : Credentials) (seat : HostSeat) →
    seated seat seat.eff_uid seat.eff_gid (groups_under creds.sup_gid seat.groups) seat.eff_caps
    ≡ seat_under (with_ids creds 0 0) false seat
under_group creds seat =
    ap (λ c. seated seat seat.eff_uid seat.eff_gid (groups_under creds.sup_gid seat.groups) c)
    (sym (caps_same (with_ids creds 0 0) false seat refl))

under_gid : (creds : Credentials) (seat : HostSeat) →
    seated seat seat.eff_uid (gid_under creds seat) (groups_under creds.sup_gid seat.groups) seat.eff_caps
    ≡ seat_under (with_ids creds 0 creds.gid) false seat
under_gid creds seat =
    ap (λ c. seated seat seat.eff_uid (gid_under creds seat) (groups_under creds.sup_gid seat.groups) c)
    (sym (caps_same (with_ids creds 0 creds.gid) false seat refl))

-- the seat where calls that were all Ok lead
played : {H : Type 0} (does : HostRelation H) (faults : H → ℕ) → Law does faults →
    (calls : List Call) (h0 h1 : H) (s0 s1 : HostSeat) →
    Plays does calls h0 s0 h1 s1 (Ok tt) → s1 ≡ led s0 calls
played does faults law calls h0 h1 s0 s1 p = leads does faults law p.0 h0 h1 s0 s1 p.1 p.3 ∙ ap (λ c. led s0 c) p.2

first_true : (a b : Bool) → (a && b) ≡ true → a ≡ true
first_true true b e = refl
first_true false b e = absurd (cc)

may_at : (seat : HostSeat) (list : List ℕ) (told : HostReply) (after : HostSeat) →
    SeatStep seat (call.SetGroups list) told after → IsDone told →
    includes seat.eff_caps.0 cap_setgid ≡ true
may_at seat list (reply.Ok told) after step done =
    first_true (includes seat.eff_caps.0 cap_setgid) (nat_le (length list) 32) step.answers.0
may_at seat list (reply.Refused errno) after step done = absurd done
may_at seat list (reply.Fault errno) after step done = absurd done
may_at seat list reply.NoMemory after step done = absurd done

-- groups were set by the capability for it
pub allowed : {H : Type 0} (does : HostRelation H) (faults : H → ℕ) → Law does faults →
    (o : Option ℕ) (made : List CallMade) (h0 h1 : H) (s0 s1 : HostSeat) →
    CallsLead does made h0 s0 h1 s1 → asked_in made ≡ group_calls o → AllDone made → is_some o ≡ true →
    includes s0.eff_caps.0 cap_setgid ≡ true
allowed does faults law None made h0 h1 s0 s1 makes asked done some = absurd (cc)
allowed does faults law (Some group) [] h0 h1 s0 s1 makes asked done some = absurd (cc)
allowed does faults law (Some group) (one ∷ rest) h0 h1 s0 s1 makes asked done some =
    let step = (law h0 s0 one.asked one.told makes.0 makes.1 makes.2).seats in
    let head : one.asked ≡ call.SetGroups (group ∷ []) =
    same_head one.asked (call.SetGroups (group ∷ [])) (asked_in rest) [] asked in
    may_at s0 (group ∷ []) one.told makes.1 (subst (λ a. SeatStep s0 a one.told makes.1) head step) done.0

-- a refused step whose earlier ones were taken back
pub record Undone {H : Type 0}
    (faults : H → ℕ)
    (before : HostSeat)
    (h0 h1 : H)
    (s1 : HostSeat)
    (back : List CallMade)
    (errno : Errno)
    (why : CredError)
    : Type 0 where
  pub taken : IsTakenBack back errno why
  pub seat : (e : Errno) → why ≡ error.Host e → s1 ≡ before
  pub lost : RisesWhereLost (faults h0) (faults h1) why

pub undone : {H : Type 0} (does : HostRelation H) (faults : H → ℕ) → Law does faults →
    (creds : Credentials) (before : HostSeat) → IsWhole before →
    (is_some creds.sup_gid ≡ true → includes before.eff_caps.0 cap_setgid ≡ true) →
    (calls : List Call) (guard : Guarded) (h0 h1 : H) (s0 s1 : HostSeat) (why : CredError) →
    s0 ≡ seat_under creds false before → guard ≡ changes_of (cred_steps creds before) before →
    (u : IsUndone does calls guard h0 s0 h1 s1 why) → Undone faults before h0 h1 s1 u.back u.errno why
undone does faults law creds before whole may calls guard h0 h1 s0 s1 (error.Host told) seat is u =
    let m = u.makes in
    let stays : m.1 ≡ seat_under creds false before =
    stayed s0 u.refused.asked u.refused.told m.1 u.errno
    (law h0 s0 u.refused.asked u.refused.told m.0 m.1 m.2).seats u.refusal ∙ seat in
    let asked : asked_in u.back ≡ calls_back (changes_of (cred_steps creds before) before) =
    u.taken_back ∙ ap calls_back is in
    record {
      taken = u.tells;
      seat = λ e same. leads does faults law u.back m.0 h1 m.1 s1 m.3 u.tells.0 ∙ ap₂ (λ s c. led s c) stays asked
          ∙ comes_back creds false before whole;
      lost = tt;
    }
undone does faults law creds before whole may calls guard h0 h1 s0 s1 (error.Lost told) seat is u =
    let m = u.makes in
    let first = law h0 s0 u.refused.asked u.refused.told m.0 m.1 m.2 in
    let stays : m.1 ≡ seat_under creds false before =
    stayed s0 u.refused.asked u.refused.told m.1 u.errno first.seats u.refusal ∙ seat in
    let asked : asked_in u.back ≡ calls_back (changes_of (cred_steps creds before) before) =
    u.taken_back ∙ ap calls_back is in
    let sure : IsSure (seat_under creds false before) (calls_back (changes_of (cred_steps creds before) before)) =
    sure_back creds false before whole may (subst (λ (g : Guarded). FitsSeat g.groups) is u.fits) in
    let sure_there : IsSure m.1 (asked_in u.back) =
    subst (λ s. IsSure s (asked_in u.back)) (sym stays)
    (subst (λ c. IsSure (seat_under creds false before) c) (sym asked) sure) in
    let shown = fails_by_fault does faults law u.back m.0 h1 m.1 s1 told m.3 sure_there u.tells in
    record {
      taken = shown.0;
      seat = λ e same. absurd (cc);
      lost =
          risen_before (faults h0) (faults m.0) (faults h1) first.never_falls shown.1;
    }

quiet_group : (o : Option ℕ) (asked : Call) → group_calls o ≡ asked ∷ [] → MayFail asked → ⊥
quiet_group None asked e may = absurd (cc)
quiet_group (Some group) asked e may = subst MayFail (sym (same_head (call.SetGroups (group ∷ [])) asked [] [] e)) may

quiet_gid : (o : Option ℕ) (asked : Call) → egid_calls o ≡ asked ∷ [] → MayFail asked → ⊥
quiet_gid None asked e may = absurd (cc)
quiet_gid (Some gid) asked e may = subst MayFail (sym (same_head (call.SetEgid gid) asked [] [] e)) may

quiet_uid : (o : Option ℕ) (asked : Call) → euid_calls o ≡ asked ∷ [] → MayFail asked → ⊥
quiet_uid None asked e may = absurd (cc)
quiet_uid (Some uid) asked e may = subst MayFail (sym (same_head (call.SetEuid uid) asked [] [] e)) may

-- what takes back the group, and the gid behind it
back_group : (o : Option ℕ) (seat : HostSeat) →
    TakeBack seat (group_calls o) (calls_back (record { uid = None; gid = None; groups = was o seat.groups }))
back_group None seat = refl
back_group (Some group) seat = ([], call.SetGroups seat.groups ∷ [], refl, refl, refl)

back_gid : (o p : Option ℕ) (seat : HostSeat) →
    TakeBack seat (group_calls o ++ egid_calls p)
    (calls_back (record { uid = None; gid = was p seat.eff_gid; groups = was o seat.groups }))
back_gid None None seat = refl
back_gid None (Some gid) seat = ([], call.SetEgid seat.eff_gid ∷ [], refl, refl, refl)
back_gid (Some group) None seat = ([], call.SetGroups seat.groups ∷ [], refl, refl, refl)
back_gid (Some group) (Some gid) seat = (
  call.SetEgid seat.eff_gid ∷ [],
  call.SetGroups seat.groups ∷ [],
  refl,
  ([], call.SetEgid seat.eff_gid ∷ [], refl, refl, refl),
  refl,
)

-- what is kept, step by step
kept_group : (o : Option ℕ) (seat : HostSeat) →
    keeping_groups o seat no_change ≡ record { uid = None; gid = None; groups = was o seat.groups }
kept_group None seat = refl
kept_group (Some group) seat = refl

kept_gid : (o p : Option ℕ) (before seat : HostSeat) → seat.eff_gid ≡ before.eff_gid →
    keeping_gid p seat (keeping_groups o before no_change)
    ≡ record { uid = None; gid = was p before.eff_gid; groups = was o before.groups }
kept_gid None None before seat same = refl
kept_gid (Some group) None before seat same = refl
kept_gid None (Some gid) before seat same = let G : ℕ → Guarded =
    λ g. record { uid = None; gid = Some g; groups = None } in ap G same
kept_gid (Some group) (Some gid) before seat same = let G : ℕ → Guarded =
    λ g. record { uid = None; gid = Some g; groups = Some before.groups } in ap G same

kept_uid : (o p q : Option ℕ) (before seat : HostSeat) → seat.eff_uid ≡ before.eff_uid →
    keeping_uid q seat (record { uid = None; gid = was p before.eff_gid; groups = was o before.groups })
    ≡ record { uid = was q before.eff_uid; gid = was p before.eff_gid; groups = was o before.groups }
kept_uid o p None before seat same = refl
kept_uid o p (Some uid) before seat same =
    let G : ℕ → Guarded = λ u. record { uid = Some u; gid = was p before.eff_gid; groups = was o before.groups } in
    ap G same

-- What a `set` ensures, of host and seat as it began and as it ended.
pub record Settled {H : Type 0} (does : HostRelation H) (faults : H →
    ℕ) (creds : Credentials) (h0 : H) (s0 : HostSeat) (h1 : H) (s1 : HostSeat)
    (result : Result (Option Guarded) CredError) : Type 0 where
  pub made : (made : List CallMade) × CallsLead does made h0 s0 h1 s1 × Sets (cred_steps creds s0) s0 made result ×
      LeavesSeat creds made s0 s1 result
  pub guard : IfOk result (λ guard. IfSome guard (λ g. IsLeftBy s0 g s1))
  pub unchanged : IfOk result (λ guard. IfNone guard ((h1 ≡ h0) × (s1 ≡ s0)))
  pub lost : IfErr result (λ why. RisesWhereLost (faults h0) (faults h1) why)

leaves_as : (creds : Credentials) (made : List CallMade) (s0 s1 : HostSeat) (why : CredError) →
    ((e : Errno) → why ≡ error.Host e → s1 ≡ s0) →
    LeavesSeat creds made s0 s1 (Err why)
leaves_as creds made s0 s1 (error.Host e) seat = seat e refl
leaves_as creds made s0 s1 (error.Lost e) seat = tt

rises_from : (a b c : ℕ) (why : CredError) → a ≤ b → RisesWhereLost b c why → RisesWhereLost a c why
rises_from a b c (error.Host e) falls rises = tt
rises_from a b c (error.Lost e) falls rises = risen_before a b c falls rises

-- a step of these was refused: those before it were done, and they are what the guard takes back
pub failed : {H : Type 0} (does : HostRelation H) (faults : H → ℕ) → Law does faults →
    (creds part : Credentials) (done : List CallMade) (calls later : List Call) (guard : Guarded)
    (h0 h1 h2 : H) (s0 s1 s2 : HostSeat) (why : CredError) → IsWhole s0 →
    (is_some part.sup_gid ≡ true → includes s0.eff_caps.0 cap_setgid ≡ true) →
    CallsLead does done h0 s0 h1 s1 → AllDone done →
    calls_of (cred_steps creds s0) ≡ asked_in done ++ (calls ++ later) →
    ((asked : Call) → calls ≡ asked ∷ [] → MayFail asked → ⊥) → s1 ≡ seat_under part false s0 →
    guard ≡ changes_of (cred_steps part s0) s0 →
    TakeBack s0 (asked_in done) (calls_back guard) → IsUndone does calls guard h1 s1 h2 s2 why →
    Settled does faults creds h0 s0 h2 s2 (Err why)
failed does faults law creds part done calls later guard h0 h1 h2 s0 s1 s2 why whole may makes were order quiet seat
    is back u =
    let end = undone does faults law part s0 whole may calls guard h1 h2 s1 s2 why seat is u in
    let made : List CallMade = done ++ u.refused ∷ u.back in
    record {
      made = (
        made,
        makes_on does done (u.refused ∷ u.back) h0 h1 h2 s0 s1 s2 makes u.makes,
        (
          u.back,
          u.errno,
          record {
            done = done;
            refused = u.refused;
            left = later;
            is_made = refl;
            in_order = order ∙ ap (λ c. asked_in done ++ (c ++ later)) u.only;
            were_done = were;
            refusal = (u.refusal, quiet u.refused.asked u.only);
            taken_back = subst (λ (c : List Call). TakeBack s0 (asked_in done) c) (sym u.taken_back) back;
          },
          end.taken,
        ),
        leaves_as creds made s0 s2 why end.seat,
      );
      guard = tt;
      unchanged = tt;
      lost = rises_from (faults h0) (faults h1) (faults h2) why (never_falls does faults law done h0 h1 s0 s1 makes)
          end.lost;
    }

pub failed_at_group : {H : Type 0} (does : HostRelation H) (faults : H → ℕ) → Law does faults →
    (creds : Credentials) (h0 h1 : H) (s0 s1 : HostSeat) (why : CredError) → IsWhole s0 →
    IsUndone does (group_calls creds.sup_gid) no_change h0 s0 h1 s1 why →
    Settled does faults creds h0 s0 h1 s1 (Err why)
failed_at_group does faults law creds h0 h1 s0 s1 why whole u =
    let part : Credentials = record { uid = 0; gid = 0; sup_gid = None; keep_capability = false } in
    let steps = cred_steps creds s0 in
    let G : List Call = group_calls creds.sup_gid in
    let E : List Call = egid_calls steps.egid in
    let U : List Call = euid_calls steps.euid in
    let R : List Call = raise_calls steps.raise in
    failed does faults law creds part [] G (E ++ (U ++ R)) no_change h0 h0 h1 s0 s0 s1 why whole (λ some. absurd (cc))
    (refl, refl) tt
    (append_assoc (G ++ E) U R ∙ append_assoc G E (U ++ R)) (quiet_group creds.sup_gid)
    (ap (λ c. seated s0 s0.eff_uid s0.eff_gid s0.groups c) (sym (caps_same part false s0 refl))) refl refl u

pub failed_at_gid : {H : Type 0} (does : HostRelation H) (faults : H → ℕ) → Law does faults →
    (creds : Credentials) (guard : Guarded) (h0 h1 h2 : H) (s0 s1 s2 : HostSeat) (why : CredError) →
    IsWhole s0 → Plays does (group_calls creds.sup_gid) h0 s0 h1 s1 (Ok tt) →
    guard ≡ keeping_groups creds.sup_gid s0 no_change →
    IsUndone does (egid_calls (id_to_set creds.gid s0.eff_gid)) guard h1 s1 h2 s2 why →
    Settled does faults creds h0 s0 h2 s2 (Err why)
failed_at_gid does faults law creds guard h0 h1 h2 s0 s1 s2 why whole group is u =
    let steps = cred_steps creds s0 in
    let G : List Call = group_calls creds.sup_gid in
    let E : List Call = egid_calls steps.egid in
    let U : List Call = euid_calls steps.euid in
    let R : List Call = raise_calls steps.raise in
    let kept_now : guard ≡ record { uid = None; gid = None; groups = was creds.sup_gid s0.groups } =
    is ∙ kept_group creds.sup_gid s0 in
    failed does faults law creds (with_ids creds 0 0) group.0 E (U ++ R) guard h0 h1 h2 s0 s1 s2 why whole
    (allowed does faults law creds.sup_gid group.0 h0 h1 s0 s1 group.1 group.2 group.3) group.1 group.3
    (append_assoc (G ++ E) U R ∙ append_assoc G E (U ++ R) ∙ ap (λ c. c ++ (E ++ (U ++ R))) (sym group.2))
    (quiet_gid steps.egid)
    (played does faults law G h0 h1 s0 s1 group ∙ group_leads creds s0 ∙ under_group creds s0) kept_now
    (subst (λ (c : List Call). TakeBack s0 c (calls_back guard)) (sym group.2)
    (subst (λ (x : Guarded). TakeBack s0 G (calls_back x)) (sym kept_now) (back_group creds.sup_gid s0))) u

-- group and gid were taken on
pub record Halfway {H : Type 0} (does : HostRelation H) (creds : Credentials) (guard : Guarded) (h0 h1 : H)
    (s0 s1 : HostSeat)
    : Type 0 where
  pub made : List CallMade
  pub makes : CallsLead does made h0 s0 h1 s1
  pub done : AllDone made
  pub asked : asked_in made ≡ group_calls creds.sup_gid ++ egid_calls (id_to_set creds.gid s0.eff_gid)
  pub seat : s1 ≡ seated s0 s0.eff_uid (gid_under creds s0) (groups_under creds.sup_gid s0.groups)
      s0.eff_caps
  pub guarded : guard ≡ record {
    uid = None;
    gid = was (id_to_set creds.gid s0.eff_gid) s0.eff_gid;
    groups =
        was creds.sup_gid s0.groups;
  }
  pub may : is_some creds.sup_gid ≡ true → includes s0.eff_caps.0 cap_setgid ≡ true

pub halfway : {H : Type 0} (does : HostRelation H) (faults : H → ℕ) → Law does faults →
    (creds : Credentials) (first guard : Guarded) (h0 h1 h2 : H) (s0 s1 s2 : HostSeat) →
    Plays does (group_calls creds.sup_gid) h0 s0 h1 s1 (Ok tt) → first ≡ keeping_groups creds.sup_gid s0 no_change →
    Plays does (egid_calls (id_to_set creds.gid s0.eff_gid)) h1 s1 h2 s2 (Ok tt) →
    guard ≡ keeping_gid (id_to_set creds.gid s0.eff_gid) s1 first →
    Halfway does creds guard h0 h2 s0 s2
halfway does faults law creds first guard h0 h1 h2 s0 s1 s2 group was_first gid is =
    let o : Option ℕ = id_to_set creds.gid s0.eff_gid in
    let there : s1 ≡ seated s0 s0.eff_uid s0.eff_gid (groups_under creds.sup_gid s0.groups) s0.eff_caps =
    played does faults law (group_calls creds.sup_gid) h0 h1 s0 s1 group ∙ group_leads creds s0 in
    record {
      made = group.0 ++ gid.0;
      makes = makes_on does group.0 gid.0 h0 h1 h2 s0 s1 s2 group.1 gid.1;
      done = done_on group.0 gid.0 group.3 gid.3;
      asked = asked_on group.0 gid.0 ∙ ap₂ (λ a b. a ++ b) group.2 gid.2;
      seat = played does faults law (egid_calls o) h1 h2 s1 s2 gid ∙ ap (λ s. led s (egid_calls o)) there
          ∙ gid_leads creds.gid s0.eff_gid
          (seated s0 s0.eff_uid s0.eff_gid (groups_under creds.sup_gid s0.groups) s0.eff_caps) refl
          (id_case s0.real_gid creds.gid s0.eff_gid);
      guarded = is ∙ ap (λ g. keeping_gid o s1 g) was_first
          ∙ kept_gid creds.sup_gid o s0 s1 (ap (λ (s : HostSeat). s.eff_gid) there);
      may = allowed does faults law creds.sup_gid group.0 h0 h1 s0 s1 group.1 group.2 group.3;
    }

pub failed_at_uid : {H : Type 0} (does : HostRelation H) (faults : H → ℕ) → Law does faults →
    (creds : Credentials) (guard : Guarded) (h0 h1 h2 : H) (s0 s1 s2 : HostSeat) (why : CredError) →
    IsWhole s0 → Halfway does creds guard h0 h1 s0 s1 →
    IsUndone does (euid_calls (id_to_set creds.uid s0.eff_uid)) guard h1 s1 h2 s2 why →
    Settled does faults creds h0 s0 h2 s2 (Err why)
failed_at_uid does faults law creds guard h0 h1 h2 s0 s1 s2 why whole half u =
    let steps = cred_steps creds s0 in
    let G : List Call = group_calls creds.sup_gid in
    let E : List Call = egid_calls steps.egid in
    let U : List Call = euid_calls steps.euid in
    let R : List Call = raise_calls steps.raise in
    failed does faults law creds (with_ids creds 0 creds.gid) half.made U R guard h0 h1 h2 s0 s1 s2 why whole half.may
    half.makes half.done
    (append_assoc (G ++ E) U R ∙ ap (λ c. c ++ (U ++ R)) (sym half.asked)) (quiet_uid steps.euid)
    (half.seat ∙ under_gid creds s0) half.guarded
    (subst (λ (c : List Call). TakeBack s0 c (calls_back guard)) (sym half.asked)
    (subst (λ (x : Guarded). TakeBack s0 (G ++ E) (calls_back x)) (sym half.guarded)
    (back_gid creds.sup_gid steps.egid s0))) u

pass_done : (made : List CallMade) → AllDone made → AllPass made
pass_done [] done = tt
pass_done (one ∷ made) done = (inl done.0, pass_done made done.1)

pass_on : (first second : List CallMade) → AllPass first → AllPass second → AllPass (first ++ second)
pass_on [] second pass also = also
pass_on (one ∷ first) second pass also = (pass.0, pass_on first second pass.1 also)

pass_raise : (raise : Bool) (made : List CallMade) → asked_in made ≡ raise_calls raise → AllPass made
pass_raise raise [] asked = tt
pass_raise false (one ∷ made) asked = absurd (cc)
pass_raise true (one ∷ []) asked =
    (inr (subst MayFail (sym (same_head one.asked (call.RaiseCap override_cap) [] [] asked)) tt), tt)
pass_raise true (one ∷ two ∷ made) asked = absurd (cc)

-- none of these raises a capability
abbrev IsQuiet : List Call → Type 0
IsQuiet [] = Unit {0}
IsQuiet (asked ∷ calls) = (MayFail asked → ⊥) × IsQuiet calls

quiet_on : (first second : List Call) → IsQuiet first → IsQuiet second → IsQuiet (first ++ second)
quiet_on [] second quiet also = also
quiet_on (asked ∷ first) second quiet also = (quiet.0, quiet_on first second quiet.1 also)

quiet_ids : (o p q : Option ℕ) → IsQuiet ((group_calls o ++ egid_calls p) ++ euid_calls q)
quiet_ids o p q = quiet_on (group_calls o ++ egid_calls p) (euid_calls q)
    (quiet_on (group_calls o) (egid_calls p) (of_group o) (of_gid p)) (of_uid q)
  where
    of_group : (o : Option ℕ) → IsQuiet (group_calls o)
    of_group None = tt
    of_group (Some group) = (λ may. may, tt)

    of_gid : (o : Option ℕ) → IsQuiet (egid_calls o)
    of_gid None = tt
    of_gid (Some gid) = (λ may. may, tt)

    of_uid : (o : Option ℕ) → IsQuiet (euid_calls o)
    of_uid None = tt
    of_uid (Some uid) = (λ may. may, tt)

raises_none : (asked : Call) (told : HostReply) → (MayFail asked → ⊥) → raises asked told ≡ false
raises_none (call.RaiseCap caps) told quiet = absurd (quiet tt)
raises_none asked told quiet = refl

raised_behind : (first second : List CallMade) → IsQuiet (asked_in first) →
    has_raised (first ++ second) ≡ has_raised second
raised_behind [] second quiet = refl
raised_behind (one ∷ first) second quiet =
    ap (λ t. t || has_raised (first ++ second)) (raises_none one.asked one.told quiet.0)
    ∙ raised_behind first second quiet.1

raised_caps : (leaves : Bool) (permitted caps : Caps) → caps ≡ permitted → includes permitted.0 2 ≡ true →
    bit_or (cond leaves (cond false override_cap no_caps) caps).0 2
    ≡ (cond leaves (cond true override_cap no_caps) caps).0
raised_caps true permitted caps same has = refl
raised_caps false permitted caps same has =
    absorbed caps.0 2 (subst (λ (c : Caps). includes c.0 2 ≡ true) (sym same) has)

raised_step : (creds : Credentials) (before : HostSeat) → IsWhole before → (told : HostReply) (after : HostSeat) →
    SeatStep (seat_under creds false before) (call.RaiseCap override_cap) told after →
    after ≡ seat_under creds (raises (call.RaiseCap override_cap) told || false) before
raised_step creds before whole (reply.Ok told) after step =
    let seat : HostSeat = seat_under creds false before in
    let C : ℕ → Caps = λ bits. record { 0 = bits } in
    step.leaves ∙ ap (λ bits. seated seat seat.eff_uid seat.eff_gid seat.groups (C bits))
    (raised_caps (leaves_root creds before) before.perm_caps before.eff_caps whole.caps step.answers.0)
raised_step creds before whole (reply.Refused errno) after step = step.leaves
raised_step creds before whole (reply.Fault errno) after step = step.leaves
raised_step creds before whole reply.NoMemory after step = step.leaves

-- the capability that is raised last, or not
raised_last : {H : Type 0} (does : HostRelation H) (faults : H → ℕ) → Law does faults →
    (creds : Credentials) (before : HostSeat) → IsWhole before → (raise : Bool) (made : List CallMade)
    (h0 h1 : H) (s0 s1 : HostSeat) → s0 ≡ seat_under creds false before → CallsLead does made h0 s0 h1 s1 →
    asked_in made ≡ raise_calls raise →
    s1 ≡ seat_under creds (has_raised made) before
raised_last does faults law creds before whole raise [] h0 h1 s0 s1 is makes asked = makes.1 ∙ is
raised_last does faults law creds before whole false (one ∷ made) h0 h1 s0 s1 is makes asked = absurd (cc)
raised_last does faults law creds before whole true (one ∷ two ∷ made) h0 h1 s0 s1 is makes asked = absurd (cc)
raised_last does faults law creds before whole true (one ∷ []) h0 h1 s0 s1 is makes asked =
    let head : one.asked ≡ call.RaiseCap override_cap =
    same_head one.asked (call.RaiseCap override_cap) [] [] asked in
    let step = (law h0 s0 one.asked one.told makes.0 makes.1 makes.2).seats in
    let there : SeatStep (seat_under creds false before) (call.RaiseCap override_cap) one.told makes.1 =
    subst (λ s. SeatStep s (call.RaiseCap override_cap) one.told makes.1) is
    (subst (λ a. SeatStep s0 a one.told makes.1) head step) in
    makes.3.1 ∙ raised_step creds before whole one.told makes.1 there
    ∙ ap (λ a. seat_under creds (raises a one.told || false) before) (sym head)

any_some : (P : Guarded → Type 0) (guard : Guarded) (t : Bool) → P guard → IfSome (cond t (Some guard) None) P
any_some P guard true is = is
any_some P guard false is = tt

some_was : {A B : Type 0} (o : Option A) (now : B) → is_some (was o now) ≡ is_some o
some_was None now = refl
some_was (Some value) now = refl

-- where nothing is to come back, no call was made
nothing : {H : Type 0} (does : HostRelation H) (o p q : Option ℕ) (keep : Bool) (uid gid : ℕ) (groups : List ℕ)
    (made : List CallMade) (h0 h1 : H) (s0 s1 : HostSeat) →
    asked_in made ≡ group_calls o ++ egid_calls p ++ euid_calls q ++ raise_calls (keep && is_some q) →
    CallsLead does made h0 s0 h1 s1 →
    IfNone (if_any (record { uid = was q uid; gid = was p gid; groups = was o groups })) ((h1 ≡ h0) × (s1 ≡ s0))
nothing does None None None true uid gid groups [] h0 h1 s0 s1 asked makes = makes
nothing does None None None false uid gid groups [] h0 h1 s0 s1 asked makes = makes
nothing does None None None true uid gid groups (one ∷ made) h0 h1 s0 s1 asked makes = absurd (cc)
nothing does None None None false uid gid groups (one ∷ made) h0 h1 s0 s1 asked makes = absurd (cc)
nothing does (Some x) None None keep uid gid groups made h0 h1 s0 s1 asked makes = tt
nothing does None (Some x) None keep uid gid groups made h0 h1 s0 s1 asked makes = tt
nothing does (Some x) (Some y) None keep uid gid groups made h0 h1 s0 s1 asked makes = tt
nothing does None None (Some x) keep uid gid groups made h0 h1 s0 s1 asked makes = tt
nothing does (Some y) None (Some x) keep uid gid groups made h0 h1 s0 s1 asked makes = tt
nothing does None (Some y) (Some x) keep uid gid groups made h0 h1 s0 s1 asked makes = tt
nothing does (Some z) (Some y) (Some x) keep uid gid groups made h0 h1 s0 s1 asked makes = tt

-- all steps were taken
pub succeeded : {H : Type 0} (does : HostRelation H) (faults : H → ℕ) → Law does faults →
    (creds : Credentials) (second guard : Guarded) (result : Option Guarded) (last : List CallMade) (h0 h1 h2 h3 : H)
    (s0 s1 s2 s3 : HostSeat) → IsWhole s0 → Halfway does creds second h0 h1 s0 s1 →
    Plays does (euid_calls (id_to_set creds.uid s0.eff_uid)) h1 s1 h2 s2 (Ok tt) →
    guard ≡ keeping_uid (id_to_set creds.uid s0.eff_uid) s1 second →
    CallsLead does last h2 s2 h3 s3 →
    asked_in last ≡ raise_calls (creds.keep_capability && is_some (id_to_set creds.uid s0.eff_uid)) →
    result ≡ if_any guard →
    Settled does faults creds h0 s0 h3 s3 (Ok result)
succeeded does faults law creds second guard result last h0 h1 h2 h3 s0 s1 s2 s3 whole half uid is makes asked any =
    let steps = cred_steps creds s0 in
    let o : Option ℕ = id_to_set creds.uid s0.eff_uid in
    let G : List Call = group_calls creds.sup_gid in
    let E : List Call = egid_calls steps.egid in
    let U : List Call = euid_calls steps.euid in
    let R : List Call = raise_calls steps.raise in
    let gid : ℕ = gid_under creds s0 in
    let groups : List ℕ = groups_under creds.sup_gid s0.groups in
    let ids : List CallMade = half.made ++ uid.0 in
    let made : List CallMade = ids ++ last in
    let ids_make : CallsLead does ids h0 s0 h2 s2 =
    makes_on does half.made uid.0 h0 h1 h2 s0 s1 s2 half.makes uid.1 in
    let ids_done : AllDone ids = done_on half.made uid.0 half.done uid.3 in
    let ids_asked : asked_in ids ≡ G ++ E ++ U = asked_on half.made uid.0 ∙ ap₂ (λ a b. a ++ b) half.asked uid.2 in
    let all_make : CallsLead does made h0 s0 h3 s3 = makes_on does ids last h0 h2 h3 s0 s2 s3 ids_make makes in
    let all_asked : asked_in made ≡ calls_of steps = asked_on ids last ∙ ap₂ (λ a b. a ++ b) ids_asked asked in
    let seat : s2 ≡ seat_under creds false s0 =
    played does faults law U h1 h2 s1 s2 uid ∙ ap (λ s. led s U) half.seat
    ∙ uid_leads creds s0 gid groups (id_case s0.real_uid creds.uid s0.eff_uid) in
    let quiet : IsQuiet (asked_in ids) =
    subst IsQuiet (sym ids_asked) (quiet_ids creds.sup_gid steps.egid steps.euid) in
    let end : s3 ≡ seat_under creds (has_raised last) s0 =
    raised_last does faults law creds s0 whole steps.raise last h2 h3 s2 s3 seat makes asked in
    let changes : guard ≡ changes_of steps s0 =
    is ∙ ap (λ g. keeping_uid o s1 g) half.guarded
    ∙ kept_uid creds.sup_gid steps.egid o s0 s1 (ap (λ (s : HostSeat). s.eff_uid) half.seat) in
    let answered : result ≡ guard_of steps s0 = any ∙ ap if_any changes in
    let by : IsLeftBy s0 (changes_of steps s0) s3 = record {
      creds = creds;
      raised = has_raised last;
      whole = whole;
      guarded = refl;
      seated = end;
      allowed = λ some. half.may (sym (some_was creds.sup_gid s0.groups) ∙ some);
    } in
    record {
      made = (
        made,
        all_make,
        (all_asked, pass_on ids last (pass_done ids ids_done) (pass_raise steps.raise last asked), answered),
        end ∙ ap (λ t. seat_under creds t s0) (sym (raised_behind ids last quiet)),
      );
      guard = subst (λ r. IfSome r (λ g. IsLeftBy s0 g s3)) (sym answered)
          (any_some (λ g. IsLeftBy s0 g s3) (changes_of steps s0)
          (is_some (changes_of steps s0).uid || is_some (changes_of steps s0).gid || is_some
          (changes_of steps s0).groups) by);
      unchanged = subst (λ r. IfNone r ((h3 ≡ h0) × (s3 ≡ s0))) (sym answered)
          (nothing does creds.sup_gid steps.egid o creds.keep_capability s0.eff_uid s0.eff_gid s0.groups made h0 h3 s0
          s3 all_asked all_make);
      lost = tt;
    }

-- the calls of a `restore` were all Ok
pub restored_back : {H : Type 0} (does : HostRelation H) (faults : H → ℕ) → Law does faults →
    (guard : Guarded) (before : HostSeat) (h0 h1 : H) (s0 s1 : HostSeat) → IsLeftBy before guard s0 →
    Plays does (calls_back guard) h0 s0 h1 s1 (Ok tt) → s1 ≡ before
restored_back does faults law guard before h0 h1 s0 s1 by plays =
    played does faults law (calls_back guard) h0 h1 s0 s1 plays
    ∙ ap₂ (λ s g. led s (calls_back g)) by.seated by.guarded ∙ comes_back by.creds by.raised before by.whole

-- or one was not
pub restored_lost : {H : Type 0} (does : HostRelation H) (faults : H → ℕ) → Law does faults →
    (guard : Guarded) (before : HostSeat) (h0 h1 : H) (s0 s1 : HostSeat) (errno : Errno) → IsLeftBy before guard s0 →
    FitsSeat guard.groups → (p : Plays does (calls_back guard) h0 s0 h1 s1 (Err errno)) →
    FirstFaults p.0 errno × HasRisen (faults h0) (faults h1)
restored_lost does faults law guard before h0 h1 s0 s1 errno by fits p =
    let may : is_some by.creds.sup_gid ≡ true → includes before.eff_caps.0 cap_setgid ≡ true =
    λ some. by.allowed (ap (λ (g : Guarded). is_some g.groups) by.guarded ∙ some_was by.creds.sup_gid before.groups
    ∙ some) in
    let sure : IsSure (seat_under by.creds by.raised before)
    (calls_back (changes_of (cred_steps by.creds before) before)) =
    sure_back by.creds by.raised before by.whole may (subst (λ (g : Guarded). FitsSeat g.groups) by.guarded fits) in
    let there : IsSure s0 (asked_in p.0) =
    subst (λ s. IsSure s (asked_in p.0)) (sym by.seated)
    (subst (λ c. IsSure (seat_under by.creds by.raised before) c) (sym (p.2 ∙ ap calls_back by.guarded)) sure) in
    fails_by_fault does faults law p.0 h0 h1 s0 s1 errno p.1 there p.3
