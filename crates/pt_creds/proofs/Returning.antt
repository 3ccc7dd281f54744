-- The calls back of a `set` lead to the seat from before, and none of them is refused.
use Rattle.std.proofs.Common.{◌≡◌, ℕ, Bool, true, false, ◌==◌, ◌&&◌, not, cond, List, [], ◌∷◌, ◌++◌, Option}
use Rattle.std.proofs.Common.{Some, None, is_some, length, refl, sym, ap, ap₂, ◌∙◌, subst, le-leb, ne_eqb, eq-eqb}
use Rattle.std.specs.Prelude.{nat_le}
use Rattle.pt_host.specs.Call.{Call}
use Rattle.pt_host.specs.Flags.{includes, cap_setgid}
use Rattle.pt_host.specs.Seat.{with_euid, caps_as, may_set_groups}
use Rattle.pt_host.specs.declared.flags.Caps.{Caps}
use Rattle.pt_host.specs.declared.seat.HostSeat.{HostSeat}
use Rattle.pt_creds.specs.Identity.{Credentials, IsWhole, uid_under, id_under, groups_under, caps_under, seat_under}
use Rattle.pt_creds.specs.Identity.{override_cap}
use Rattle.pt_creds.specs.Guard.{euid_calls, egid_calls, groups_calls, calls_back}
use Rattle.pt_creds.specs.Steps.{id_to_set, cred_steps, was, changes_of}
use Rattle.pt_creds.specs.Progress.{FitsSeat}
use Rattle.pt_creds.proofs.Making.{led, IsSure, goes_to}
use Rattle.pt_creds.proofs.Seats.{IdCase, left, kept, other, id_case, own_taken}

pub led_on : (seat : HostSeat) (first second : List Call) → led seat (first ++ second) ≡ led (led seat first) second
led_on seat [] second = refl
led_on seat (asked ∷ first) second = led_on (goes_to seat asked) first second

sure_on : (seat : HostSeat) (first second : List Call) → IsSure seat first → IsSure (led seat first) second →
    IsSure seat (first ++ second)
sure_on seat [] second sure also = also
sure_on seat (asked ∷ first) second sure also = (sure.0, sure_on (goes_to seat asked) first second sure.1 also)

-- root is not left
not_left : (b : Bool) → (b && not b) ≡ false
not_left true = refl
not_left false = refl

abbrev caps_if : Bool → Bool → Caps → Caps
caps_if leaves raised caps = cond leaves (cond raised override_cap (record { 0 = 0 })) caps

pub caps_same : (creds : Credentials) (raised : Bool) (before : HostSeat) →
    uid_under creds before ≡ before.eff_uid →
    caps_under creds raised before ≡ before.eff_caps
caps_same creds raised before same =
    ap (λ t. caps_if (before.eff_uid == 0 && not t) raised before.eff_caps) (ap (λ id. id == 0) same)
    ∙ ap (λ t. caps_if t raised before.eff_caps) (not_left (before.eff_uid == 0))

pub caps_no_root : (creds : Credentials) (raised : Bool) (before : HostSeat) → (before.eff_uid == 0) ≡ false →
    caps_under creds raised before ≡ before.eff_caps
caps_no_root creds raised before no_root =
    ap (λ t. caps_if (t && not (uid_under creds before == 0)) raised before.eff_caps) no_root

abbrev with_uid_caps : HostSeat → ℕ → Caps → HostSeat
with_uid_caps seat uid caps = record seat { eff_uid = uid; eff_caps = caps }

abbrev caps_going : Bool → Bool → Caps → Caps → Caps
caps_going from_root to_root permitted caps =
    cond from_root (cond to_root caps (record { 0 = 0 })) (cond to_root permitted caps)

going_same : (t : Bool) (permitted caps : Caps) → caps_going t t permitted caps ≡ caps
going_same true permitted caps = refl
going_same false permitted caps = refl

going_back : (t : Bool) (permitted caps own : Caps) → permitted ≡ own → (t ≡ false → caps ≡ own) →
    caps_going false t permitted caps ≡ own
going_back true permitted caps own same stays = same
going_back false permitted caps own same stays = stays refl

-- the uid from before, and the capabilities with it
set_back : (before seat : HostSeat) → before.eff_uid ≡ seat.real_uid →
    caps_as seat before.eff_uid ≡ before.eff_caps →
    with_euid seat before.eff_uid ≡ with_uid_caps seat before.eff_uid before.eff_caps
set_back before seat own caps =
    ap (λ t. cond t seat (with_uid_caps seat before.eff_uid (caps_as seat before.eff_uid)))
    (own_taken seat.real_uid before.eff_uid own)
    ∙ ap (λ c. with_uid_caps seat before.eff_uid c) caps

uid_by : (creds : Credentials) (raised : Bool) (before : HostSeat) → IsWhole before →
    IdCase before.real_uid creds.uid before.eff_uid →
    led (seat_under creds raised before) (euid_calls (was (id_to_set creds.uid before.eff_uid) before.eff_uid))
    ≡ with_uid_caps (seat_under creds raised before) before.eff_uid before.eff_caps
uid_by creds raised before whole (left none same) =
    let seat : HostSeat = seat_under creds raised before in
    ap (λ o. led seat (euid_calls (was o before.eff_uid))) none
    ∙ ap₂ (λ u c. with_uid_caps seat u c) same (caps_same creds raised before same)
uid_by creds raised before whole (kept some leaves same) =
    let seat : HostSeat = seat_under creds raised before in
    let going : caps_as seat before.eff_uid ≡ before.eff_caps =
    ap (λ id. caps_going (id == 0) (before.eff_uid == 0) seat.perm_caps seat.eff_caps) same
    ∙ going_same (before.eff_uid == 0) seat.perm_caps seat.eff_caps ∙ caps_same creds raised before same in
    ap (λ o. led seat (euid_calls (was o before.eff_uid))) some ∙ set_back before seat whole.eff_uid going
uid_by creds raised before whole (other some names is no_root) =
    let seat : HostSeat = seat_under creds raised before in
    let out : (seat.eff_uid == 0) ≡ false = ap (λ id. id == 0) is ∙ ne_eqb creds.uid 0 no_root in
    let going : caps_as seat before.eff_uid ≡ before.eff_caps =
    ap (λ t. caps_going t (before.eff_uid == 0) seat.perm_caps seat.eff_caps) out
    ∙ going_back (before.eff_uid == 0) seat.perm_caps seat.eff_caps before.eff_caps (sym whole.caps)
    (caps_no_root creds raised before) in
    ap (λ o. led seat (euid_calls (was o before.eff_uid))) some ∙ set_back before seat whole.eff_uid going

abbrev with_gid_of : HostSeat → ℕ → HostSeat
with_gid_of seat gid = record seat { eff_gid = gid }

gid_by : (o : Option ℕ) (now : ℕ) (seat : HostSeat) → now ≡ seat.real_gid → (o ≡ None → seat.eff_gid ≡ now) →
    led seat (egid_calls (was o now)) ≡ with_gid_of seat now
gid_by None now seat own same = ap (λ g. with_gid_of seat g) (same refl)
gid_by (Some id) now seat own same = ap (λ t. cond t seat (with_gid_of seat now)) (own_taken seat.real_gid now own)

gid_same : (real id now : ℕ) → IdCase real id now → id_to_set id now ≡ None → id_under real id now ≡ now
gid_same real id now (left none same) is = same
gid_same real id now (kept some keeps same) is = same
gid_same real id now (other some names same no_root) is = absurd (cc)

abbrev with_groups_of : HostSeat → List ℕ → HostSeat
with_groups_of seat groups = record seat { groups = groups }

groups_by : (o : Option ℕ) (now : List ℕ) (seat : HostSeat) → seat.groups ≡ groups_under o now →
    led seat (groups_calls (was o now)) ≡ with_groups_of seat now
groups_by None now seat same = ap (λ g. with_groups_of seat g) same
groups_by (Some group) now seat same = refl

-- the three parts of the way back: uid, gid and groups
record WayBack (creds : Credentials) (raised : Bool) (before : HostSeat) : Type 0 where
  mid : led (seat_under creds raised before)
      (euid_calls (was (id_to_set creds.uid before.eff_uid) before.eff_uid))
      ≡ with_uid_caps (seat_under creds raised before) before.eff_uid before.eff_caps
  late : led (with_uid_caps (seat_under creds raised before) before.eff_uid before.eff_caps)
      (egid_calls (was (id_to_set creds.gid before.eff_gid) before.eff_gid))
      ≡ with_groups_of before (groups_under creds.sup_gid before.groups)

way_back : (creds : Credentials) (raised : Bool) (before : HostSeat) → IsWhole before → WayBack creds raised before
way_back creds raised before whole = record {
  mid = uid_by creds raised before whole (id_case before.real_uid creds.uid before.eff_uid);
  late = gid_by (id_to_set creds.gid before.eff_gid) before.eff_gid
      (with_uid_caps (seat_under creds raised before) before.eff_uid before.eff_caps) whole.eff_gid
      (gid_same before.real_gid creds.gid before.eff_gid (id_case before.real_gid creds.gid before.eff_gid));
}

pub comes_back : (creds : Credentials) (raised : Bool) (before : HostSeat) → IsWhole before →
    led (seat_under creds raised before) (calls_back (changes_of (cred_steps creds before) before)) ≡ before
comes_back creds raised before whole =
    let seat : HostSeat = seat_under creds raised before in
    let euid : List Call = euid_calls (was (id_to_set creds.uid before.eff_uid) before.eff_uid) in
    let egid : List Call = egid_calls (was (id_to_set creds.gid before.eff_gid) before.eff_gid) in
    let groups : List Call = groups_calls (was creds.sup_gid before.groups) in
    let way : WayBack creds raised before = way_back creds raised before whole in
    led_on seat (euid ++ egid) groups
    ∙ ap (λ s. led s groups) (led_on seat euid egid ∙ ap (λ s. led s egid) way.mid ∙ way.late)
    ∙ groups_by creds.sup_gid before.groups
    (with_groups_of before (groups_under creds.sup_gid before.groups)) refl

not_denied : (id real : ℕ) → id ≡ real → (id == real) ≡ false → ⊥
not_denied id real own denied = let same = eq-eqb id real own in absurd (cc)

sure_euid : (o : Option ℕ) (before seat : HostSeat) → before.eff_uid ≡ seat.real_uid →
    IsSure seat (euid_calls (was o before.eff_uid))
sure_euid None before seat real = tt
sure_euid (Some id) before seat real = (λ errno denied. not_denied before.eff_uid seat.real_uid real denied, tt)

sure_egid : (o : Option ℕ) (before seat : HostSeat) → before.eff_gid ≡ seat.real_gid →
    IsSure seat (egid_calls (was o before.eff_gid))
sure_egid None before seat real = tt
sure_egid (Some id) before seat real = (λ errno denied. not_denied before.eff_gid seat.real_gid real denied, tt)

both_true : (a b : Bool) → a ≡ true → b ≡ true → (a && b) ≡ true
both_true true b one two = two
both_true false b one two = one

sure_groups : (o : Option ℕ) (before seat : HostSeat) →
    (is_some o ≡ true → includes seat.eff_caps.0 cap_setgid ≡ true) → FitsSeat (was o before.groups) →
    IsSure seat (groups_calls (was o before.groups))
sure_groups None before seat allowed fits = tt
sure_groups (Some group) before seat allowed fits = (
  λ errno denied. let may : may_set_groups seat before.groups ≡ true =
      both_true (includes seat.eff_caps.0 cap_setgid) (nat_le (length before.groups) 32) (allowed refl)
      (le-leb (length before.groups) 32 fits) in absurd (cc),
  tt,
)

-- the real ids are taken again, and groups are set under the capability that comes back with the uid
pub sure_back : (creds : Credentials) (raised : Bool) (before : HostSeat) → IsWhole before →
    (is_some creds.sup_gid ≡ true → includes before.eff_caps.0 cap_setgid ≡ true) →
    FitsSeat (was creds.sup_gid before.groups) →
    IsSure (seat_under creds raised before) (calls_back (changes_of (cred_steps creds before) before))
sure_back creds raised before whole allowed fits =
    let seat : HostSeat = seat_under creds raised before in
    let euid : List Call = euid_calls (was (id_to_set creds.uid before.eff_uid) before.eff_uid) in
    let egid : List Call = egid_calls (was (id_to_set creds.gid before.eff_gid) before.eff_gid) in
    let groups : List Call = groups_calls (was creds.sup_gid before.groups) in
    let way : WayBack creds raised before = way_back creds raised before whole in
    let mid : HostSeat = with_uid_caps seat before.eff_uid before.eff_caps in
    let late : HostSeat = with_groups_of before (groups_under creds.sup_gid before.groups) in
    sure_on seat (euid ++ egid) groups
    (sure_on seat euid egid (sure_euid (id_to_set creds.uid before.eff_uid) before seat whole.eff_uid)
    (subst (λ s. IsSure s egid) (sym way.mid)
    (sure_egid (id_to_set creds.gid before.eff_gid) before mid whole.eff_gid)))
    (subst (λ s. IsSure s groups) (sym (led_on seat euid egid ∙ ap (λ s. led s egid) way.mid ∙ way.late))
    (sure_groups creds.sup_gid before late allowed fits))
