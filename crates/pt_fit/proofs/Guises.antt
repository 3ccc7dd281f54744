-- The identity of whoever asks is taken on a scope at a time, and each can be put back. After credentials(7).
use Rattle.std.proofs.Common.{◌≡◌, ◌≢◌, ⊎_elim, inr, ℕ, Bool, true, false, ◌==◌, ◌&&◌, cond, List, [], ◌∷◌}
use Rattle.std.proofs.Common.{length, Option, Some, None, is_some, refl, sym, ap, subst, ◌∙◌, ne_eqb}
use Rattle.std.proofs.Common.{eq-eqb, le-leb, ◌≤◌, ◌<◌}
use Rattle.std.specs.Prelude.{nat_le}
use Rattle.std.proofs.lemmas.Bool.{cases_lt}
use Rattle.std.specs.Int.RustNames.{bit_or}
use Rattle.pt_host.specs.Call.{Call}
use Rattle.pt_host.specs.Flags.{includes, cap_setgid}
use Rattle.pt_host.specs.Seat.{leaves_id, caps_as, with_euid, with_egid, may_set_groups}
use Rattle.pt_host.specs.Seat.{with_groups, with_raised, with_umask, may_raise}
use Rattle.pt_host.specs.declared.flags.Caps.{Caps}
use Rattle.pt_host.specs.declared.op.KeptHostOp.TheVariants as call
use Rattle.pt_host.specs.declared.reply.HostReply.TheVariants as host
use Rattle.pt_host.specs.declared.reply.HostValue.{HostValue}
use Rattle.pt_host.specs.declared.seat.HostSeat.{HostSeat}
use Rattle.pt_creds.specs.Identity.{Credentials, IsWhole, id_under, groups_under, override_cap}
use Rattle.pt_creds.specs.Steps.{id_to_set, cred_steps}
use Rattle.pt_creds.proofs.Seats.{absorbed, raised_again, IdCase, IdCase.{left, kept, other}, id_case, own_taken}
use Rattle.pt_frame.specs.Deed.{Calls}
use Rattle.pt_frame.specs.Held.{opened}
use Rattle.pt_frame.specs.Past.{KeepsGroups}
use Rattle.pt_frame.specs.Seats.{seat_by}
use Rattle.pt_frame.specs.Tended.{is_seats_sort, is_of_seat}
use Rattle.pt_frame.specs.Tree.{RequestTree, Asks, Bares, on, go_on}
use Rattle.pt_frame.specs.declared.act.ActReply.{ActReply}
use Rattle.pt_frame.specs.declared.act.ActReply.TheVariants.{Event, Host, NoCopy}
use Rattle.pt_frame.specs.declared.hold.Hold.{Hold}
use Rattle.pt_frame.specs.declared.hold.Hold.TheVariants as hold
use Rattle.pt_law.specs.Told.{MayBeTold}
use Rattle.pt_law.specs.Under.{Identity, identity_of, Role, makes_object, SeatAnswers}
use Rattle.pt_law.specs.Wearing.{Unwinds, Seats}
use Rattle.pt_law.proofs.Wearing.{deed_leaves}
use Rattle.pt_host.specs.Sorts.{sort_of}
use Rattle.pt_req.specs.Asker.{cap_raised, egid_set, euid_set, group_set, taken_on, under_umask}
use Rattle.pt_req.specs.Steps.{open_scope, ok_in, tried_in}

-- the umask that is set, else the one that there is
abbrev pub masked : Option ℕ → ℕ → ℕ
masked None own = own
masked (Some umask) own = umask

-- as whom a call is made under these credentials
abbrev pub identity_under : Credentials → Option ℕ → HostSeat → Identity
identity_under creds umask seat = record {
  uid = id_under seat.real_uid creds.uid seat.eff_uid;
  gid = id_under seat.real_gid creds.gid seat.eff_gid;
  groups = groups_under creds.sup_gid seat.groups;
  umask = masked umask seat.umask;
}

-- uids

abbrev caps_going : Bool → Bool → Caps → Caps → Caps
caps_going from_root to_root permitted caps =
    cond from_root (cond to_root caps (record { 0 = 0 })) (cond to_root permitted caps)

-- the seat is as this one in uids and capabilities
pub record LikeUid (seat now : HostSeat) : Type 0 where
  pub eff : now.eff_uid ≡ seat.eff_uid
  pub real : now.real_uid ≡ seat.real_uid
  pub caps : now.eff_caps ≡ seat.eff_caps
  pub permitted : now.perm_caps ≡ seat.perm_caps

going_own : (t : Bool) (permitted caps : Caps) → caps_going t t permitted caps ≡ caps
going_own true permitted caps = refl
going_own false permitted caps = refl

going_back : (t : Bool) (permitted own : Caps) → permitted ≡ own →
    caps_going false t permitted (caps_going t false permitted own) ≡ own
going_back true permitted own same = same
going_back false permitted own same = refl

abbrev with_uid_caps : HostSeat → ℕ → Caps → HostSeat
with_uid_caps now uid caps = record now { eff_uid = uid; eff_caps = caps }

own_number : (seat now : HostSeat) → IsWhole seat → LikeUid seat now → seat.eff_uid ≡ now.real_uid
own_number seat now whole like = whole.eff_uid ∙ sym like.real

-- a seat that kept its uid keeps it
uid_stays : (seat now : HostSeat) → IsWhole seat → LikeUid seat now → with_euid now seat.eff_uid ≡ now
uid_stays seat now whole like =
    ap (λ t. cond t now (with_uid_caps now seat.eff_uid (caps_as now seat.eff_uid)))
    (own_taken now.real_uid seat.eff_uid (own_number seat now whole like))
    ∙ (λ i. with_uid_caps now (sym like.eff i) (going i))
  where
    going : caps_as now seat.eff_uid ≡ now.eff_caps
    going = ap (λ id. caps_going (now.eff_uid == 0) (id == 0) now.perm_caps now.eff_caps) (sym like.eff)
        ∙ going_own (now.eff_uid == 0) now.perm_caps now.eff_caps

-- a uid that was taken on is put back
uid_returns : (seat now : HostSeat) (uid : ℕ) (caps : Caps) → IsWhole seat → LikeUid seat now →
    caps_going (uid == 0) (seat.eff_uid == 0) now.perm_caps caps ≡ now.eff_caps →
    with_euid (with_uid_caps now uid caps) seat.eff_uid ≡ now
uid_returns seat now uid caps whole like going =
    ap (λ t. cond t (with_uid_caps now uid caps)
    (with_uid_caps now seat.eff_uid (caps_as (with_uid_caps now uid caps) seat.eff_uid)))
    (own_taken now.real_uid seat.eff_uid (own_number seat now whole like))
    ∙ (λ i. with_uid_caps now (sym like.eff i) (going i))

-- what is raised was permitted, and so was effective where root's uid was not left
raised_too : (now : HostSeat) (caps : Caps) → now.eff_caps ≡ now.perm_caps → may_raise now caps ≡ true →
    with_raised now caps ≡ now
raised_too now caps same may =
    raised_again now caps (ap (λ (c : Caps). includes c.0 caps.0) same ∙ may)

abbrev raised_caps : Caps → Caps → Caps
raised_caps caps more = record { 0 = bit_or caps.0 more.0 }

going_raised : (t : Bool) (permitted own more : Caps) → permitted ≡ own → includes permitted.0 more.0 ≡ true →
    caps_going false t permitted (raised_caps (caps_going t false permitted own) more) ≡ own
going_raised true permitted own more same may = same
going_raised false permitted own more same may =
    ap (λ bits. caps_of bits) (absorbed own.0 more.0 (ap (λ (c : Caps). includes c.0 more.0) (sym same) ∙ may))
  where
    caps_of : ℕ → Caps
    caps_of bits = record { 0 = bits }

-- The seat under this uid, with a capability raised or not, from one that is like the starting seat.
pub record TakesUid (seat now : HostSeat) (uid : ℕ) : Type 0 where
  pub back : with_euid (with_euid now uid) seat.eff_uid ≡ now
  pub raised : (caps : Caps) → may_raise (with_euid now uid) caps ≡ true →
      with_euid (with_raised (with_euid now uid) caps) seat.eff_uid ≡ now
  pub real : (with_euid now uid).real_uid ≡ now.real_uid
  pub is : (with_euid now uid).eff_uid ≡ id_under now.real_uid uid now.eff_uid
  pub gid : (with_euid now uid).eff_gid ≡ now.eff_gid
  pub groups : (with_euid now uid).groups ≡ now.groups
  pub umask : (with_euid now uid).umask ≡ now.umask

taken_kept : (seat now : HostSeat) (uid : ℕ) → IsWhole seat → LikeUid seat now → with_euid now uid ≡ now →
    id_under now.real_uid uid now.eff_uid ≡ now.eff_uid → TakesUid seat now uid
taken_kept seat now uid whole like e same = record {
  back = ap (λ (z : HostSeat). with_euid z seat.eff_uid) e ∙ uid_stays seat now whole like;
  raised = λ caps may.
      ap (λ (z : HostSeat). with_euid (with_raised z caps) seat.eff_uid) e
      ∙ ap (λ (z : HostSeat). with_euid z seat.eff_uid)
      (raised_too now caps (like.caps ∙ whole.caps ∙ sym like.permitted)
      (ap (λ (z : HostSeat). may_raise z caps) (sym e) ∙ may))
      ∙ uid_stays seat now whole like;
  real = ap (λ (z : HostSeat). z.real_uid) e;
  is = ap (λ (z : HostSeat). z.eff_uid) e ∙ sym same;
  gid = ap (λ (z : HostSeat). z.eff_gid) e;
  groups = ap (λ (z : HostSeat). z.groups) e;
  umask = ap (λ (z : HostSeat). z.umask) e;
}

taken_other : (seat now : HostSeat) (uid : ℕ) → IsWhole seat → LikeUid seat now →
    leaves_id now.real_uid uid ≡ false → id_under now.real_uid uid now.eff_uid ≡ uid → uid ≢ 0 →
    TakesUid seat now uid
taken_other seat now uid whole like names same no_root =
    let caps = caps_as now uid in
    let e : with_euid now uid ≡ with_uid_caps now uid caps =
    ap (λ t. cond t now (with_uid_caps now uid caps)) names in
    let out : (uid == 0) ≡ false = ne_eqb uid 0 no_root in
    let own : now.eff_caps ≡ now.perm_caps = like.caps ∙ whole.caps ∙ sym like.permitted in
    record {
      back = ap (λ (z : HostSeat). with_euid z seat.eff_uid) e
          ∙ uid_returns seat now uid caps whole like
          (ap (λ t. caps_going t (seat.eff_uid == 0) now.perm_caps (caps_going (now.eff_uid == 0) t now.perm_caps
          now.eff_caps)) out
          ∙ ap (λ id. caps_going false (seat.eff_uid == 0) now.perm_caps (caps_going (id == 0) false now.perm_caps
          now.eff_caps)) like.eff
          ∙ going_back (seat.eff_uid == 0) now.perm_caps now.eff_caps (sym own));
      raised = λ more may.
          ap (λ (z : HostSeat). with_euid (with_raised z more) seat.eff_uid) e
          ∙ uid_returns seat now uid (raised_caps caps more) whole like
          (ap (λ t. caps_going t (seat.eff_uid == 0) now.perm_caps
          (raised_caps (caps_going (now.eff_uid == 0) t now.perm_caps now.eff_caps) more)) out
          ∙ ap (λ id. caps_going false (seat.eff_uid == 0) now.perm_caps
          (raised_caps (caps_going (id == 0) false now.perm_caps now.eff_caps) more)) like.eff
          ∙ going_raised (seat.eff_uid == 0) now.perm_caps now.eff_caps more (sym own)
          (ap (λ (z : HostSeat). may_raise z more) (sym e) ∙ may));
      real = ap (λ (z : HostSeat). z.real_uid) e;
      is = ap (λ (z : HostSeat). z.eff_uid) e ∙ sym same;
      gid = ap (λ (z : HostSeat). z.eff_gid) e;
      groups = ap (λ (z : HostSeat). z.groups) e;
      umask = ap (λ (z : HostSeat). z.umask) e;
    }

-- gids

pub record TakesGid (seat now : HostSeat) (gid : ℕ) : Type 0 where
  pub back : with_egid (with_egid now gid) seat.eff_gid ≡ now
  pub real : (with_egid now gid).real_gid ≡ now.real_gid
  pub is : (with_egid now gid).eff_gid ≡ id_under now.real_gid gid now.eff_gid
  pub groups : (with_egid now gid).groups ≡ now.groups
  pub umask : (with_egid now gid).umask ≡ now.umask
  pub uid : LikeUid now (with_egid now gid)

abbrev with_gid_of : HostSeat → ℕ → HostSeat
with_gid_of now gid = record now { eff_gid = gid }

gid_stays : (seat now : HostSeat) → seat.eff_gid ≡ now.real_gid → now.eff_gid ≡ seat.eff_gid →
    with_egid now seat.eff_gid ≡ now
gid_stays seat now own same =
    ap (λ t. cond t now (with_gid_of now seat.eff_gid)) (own_taken now.real_gid seat.eff_gid own)
    ∙ ap (λ g. with_gid_of now g) (sym same)

like_same : (now later : HostSeat) → later ≡ now → LikeUid now later
like_same now later e = record {
  eff = ap (λ (z : HostSeat). z.eff_uid) e;
  real = ap (λ (z : HostSeat). z.real_uid) e;
  caps = ap (λ (z : HostSeat). z.eff_caps) e;
  permitted = ap (λ (z : HostSeat). z.perm_caps) e;
}

gid_kept : (seat now : HostSeat) (gid : ℕ) → seat.eff_gid ≡ now.real_gid → now.eff_gid ≡ seat.eff_gid →
    with_egid now gid ≡ now → id_under now.real_gid gid now.eff_gid ≡ now.eff_gid → TakesGid seat now gid
gid_kept seat now gid own at e same = record {
  back = ap (λ (z : HostSeat). with_egid z seat.eff_gid) e ∙ gid_stays seat now own at;
  real = ap (λ (z : HostSeat). z.real_gid) e;
  is = ap (λ (z : HostSeat). z.eff_gid) e ∙ sym same;
  groups = ap (λ (z : HostSeat). z.groups) e;
  umask = ap (λ (z : HostSeat). z.umask) e;
  uid = like_same now (with_egid now gid) e;
}

gid_other : (seat now : HostSeat) (gid : ℕ) → seat.eff_gid ≡ now.real_gid → now.eff_gid ≡ seat.eff_gid →
    leaves_id now.real_gid gid ≡ false → id_under now.real_gid gid now.eff_gid ≡ gid → TakesGid seat now gid
gid_other seat now gid own at names same =
    let e : with_egid now gid ≡ with_gid_of now gid = ap (λ t. cond t now (with_gid_of now gid)) names in
    record {
      back = ap (λ (z : HostSeat). with_egid z seat.eff_gid) e
          ∙ ap (λ t. cond t (with_gid_of now gid) (with_gid_of now seat.eff_gid))
          (own_taken now.real_gid seat.eff_gid own)
          ∙ ap (λ g. with_gid_of now g) (sym at);
      real = ap (λ (z : HostSeat). z.real_gid) e;
      is = ap (λ (z : HostSeat). z.eff_gid) e ∙ sym same;
      groups = ap (λ (z : HostSeat). z.groups) e;
      umask = ap (λ (z : HostSeat). z.umask) e;
      uid = record {
        eff = ap (λ (z : HostSeat). z.eff_uid) e;
        real = ap (λ (z : HostSeat). z.real_uid) e;
        caps = ap (λ (z : HostSeat). z.eff_caps) e;
        permitted = ap (λ (z : HostSeat). z.perm_caps) e;
      };
    }

-- scopes that open, and a making under them

pub opens_so : (role : Role) (seat now : HostSeat) (scopes : List Hold) (asked : Call) (scope : Hold)
    (next : RequestTree) → is_seats_sort (sort_of asked) ≡ true → Unwinds seat scopes now →
    ((got : HostValue) → SeatAnswers now (Some (Calls asked)) (Host (host.Ok got)) →
    Seats role seat next (scope ∷ scopes) (seat_by now (Some (Calls asked)) (Host (host.Ok got)))) →
    Seats role seat (open_scope asked scope next) scopes now
unfolding on go_on
opens_so role seat now scopes asked scope next own un k = (un, own, go)
  where
    go : (told : ActReply) → MayBeTold (Calls asked) told → SeatAnswers now (Some (Calls asked)) told →
        Seats role seat (on ok_in (λ done. next) told) (opened scope told scopes)
        (seat_by now (Some (Calls asked)) told)
    go (Host (host.Ok got)) m a = k got a
    go (Host (host.Refused errno)) m a = un
    go (Host (host.Fault errno)) m a = un
    go (Host host.NoMemory) m a = un
    go (Event got) m a = un
    go NoCopy m a = un

-- what the identity is taken on for
abbrev SeatsGuised : Role → HostSeat → RequestTree → Identity → Type 0
SeatsGuised role seat tree who =
    (scopes : List Hold) (now : HostSeat) → Unwinds seat scopes now → identity_of now ≡ who →
    Seats role seat tree scopes now

are_one : (now : HostSeat) (who : Identity) → now.eff_uid ≡ who.uid → now.eff_gid ≡ who.gid →
    now.groups ≡ who.groups → now.umask ≡ who.umask → identity_of now ≡ who
are_one now who u g l m = λ i. record { uid = u i; gid = g i; groups = l i; umask = m i }

-- the uid is the last, and a capability with it
module _
    (role : Role)
    (seat : HostSeat)
    (whole : IsWhole seat)
    (tree : RequestTree)
    (who : Identity)
    (k : SeatsGuised role seat tree who)
  where
    abbrev uid_set : ℕ → Bool → RequestTree
    uid_set uid keeps =
        euid_set (id_to_set uid seat.eff_uid) (cap_raised (keeps && is_some (id_to_set uid seat.eff_uid)) tree)

    opens_uid : (uid : ℕ) (keeps : Bool) (scopes : List Hold) (now : HostSeat) → Unwinds seat scopes now →
        LikeUid seat now → TakesUid seat now uid → who.uid ≡ id_under now.real_uid uid now.eff_uid →
        now.eff_gid ≡ who.gid → now.groups ≡ who.groups → now.umask ≡ who.umask →
        Seats role seat (euid_set (Some uid) (cap_raised (keeps && true) tree)) scopes now
    unfolding on go_on
    opens_uid uid keeps scopes now un like taken u g l m =
        opens_so role seat now scopes (call.SetEuid uid) hold.EffectiveUid
        (cap_raised (keeps && true) tree) refl un (λ got a. under keeps)
      where
        later : HostSeat
        later = with_euid now uid

        owed : (seat.eff_uid == later.real_uid) ≡ true
        owed = eq-eqb seat.eff_uid later.real_uid (whole.eff_uid ∙ sym like.real ∙ sym taken.real)

        back : Unwinds seat (hold.EffectiveUid ∷ scopes) later
        back = (refl, owed, subst (λ (z : HostSeat). Unwinds seat scopes z) (sym taken.back) un)

        same : identity_of later ≡ who
        same = are_one later who (taken.is ∙ sym u) (taken.gid ∙ g) (taken.groups ∙ l) (taken.umask ∙ m)

        raised : (told : ActReply) → SeatAnswers later (Some (Calls (call.RaiseCap override_cap))) told →
            Seats role seat (on tried_in (λ done. tree) told) (hold.EffectiveUid ∷ scopes)
            (seat_by later (Some (Calls (call.RaiseCap override_cap))) told)
        raised (Host (host.Ok got)) a = k (hold.EffectiveUid ∷ scopes) (with_raised later override_cap)
            (refl, owed, subst (λ (z : HostSeat). Unwinds seat scopes z) (sym (taken.raised override_cap a.0)) un) same
        raised (Host (host.Refused errno)) a = k (hold.EffectiveUid ∷ scopes) later back same
        raised (Host (host.Fault errno)) a = k (hold.EffectiveUid ∷ scopes) later back same
        raised (Host host.NoMemory) a = k (hold.EffectiveUid ∷ scopes) later back same
        raised (Event got) a = back
        raised NoCopy a = back

        under : (keeps : Bool) →
            Seats role seat (cap_raised (keeps && true) tree) (hold.EffectiveUid ∷ scopes) later
        under true = (back, tt, λ told m a. (inr refl, raised told a))
        under false = k (hold.EffectiveUid ∷ scopes) later back same

    on_uid : (uid : ℕ) (keeps : Bool) (scopes : List Hold) (now : HostSeat) → Unwinds seat scopes now →
        LikeUid seat now → who.uid ≡ id_under seat.real_uid uid seat.eff_uid →
        now.eff_gid ≡ who.gid → now.groups ≡ who.groups → now.umask ≡ who.umask →
        IdCase seat.real_uid uid seat.eff_uid →
        Seats role seat (uid_set uid keeps) scopes now
    on_uid uid keeps scopes now un like u g l m (left none same) =
        subst (λ (o : Option ℕ). Seats role seat (euid_set o (cap_raised (keeps && is_some o) tree))
        scopes now) (sym none) (go keeps)
      where
        go : (keeps : Bool) →
            Seats role seat (euid_set None (cap_raised (keeps && false) tree)) scopes now
        go true = k scopes now un (are_one now who (like.eff ∙ sym same ∙ sym u) g l m)
        go false = k scopes now un (are_one now who (like.eff ∙ sym same ∙ sym u) g l m)
    on_uid uid keeps scopes now un like u g l m (kept some leaves same) =
        let e : with_euid now uid ≡ now =
        ap (λ t. cond t now (with_uid_caps now uid (caps_as now uid))) (ap (λ r. leaves_id r uid) like.real ∙ leaves) in
        let is : id_under now.real_uid uid now.eff_uid ≡ id_under seat.real_uid uid seat.eff_uid =
        (λ i. id_under (like.real i) uid (like.eff i)) in
        subst (λ (o : Option ℕ). Seats role seat (euid_set o (cap_raised (keeps && is_some o) tree))
        scopes now) (sym some) (opens_uid uid keeps scopes now un like
        (taken_kept seat now uid whole like e (is ∙ same ∙ sym like.eff)) (u ∙ sym is) g l m)
    on_uid uid keeps scopes now un like u g l m (other some names same no_root) =
        let is : id_under now.real_uid uid now.eff_uid ≡ id_under seat.real_uid uid seat.eff_uid =
        (λ i. id_under (like.real i) uid (like.eff i)) in
        subst (λ (o : Option ℕ). Seats role seat (euid_set o (cap_raised (keeps && is_some o) tree))
        scopes now) (sym some) (opens_uid uid keeps scopes now un like
        (taken_other seat now uid whole like (ap (λ r. leaves_id r uid) like.real ∙ names) (is ∙ same) no_root)
        (u ∙ sym is) g l m)

    -- the gid before it
    opens_gid : (uid gid : ℕ) (keeps : Bool) (scopes : List Hold) (now : HostSeat) → Unwinds seat scopes now →
        LikeUid seat now → now.real_gid ≡ seat.real_gid → TakesGid seat now gid →
        who.uid ≡ id_under seat.real_uid uid seat.eff_uid → id_under now.real_gid gid now.eff_gid ≡ who.gid →
        now.groups ≡ who.groups → now.umask ≡ who.umask →
        Seats role seat (egid_set (Some gid) (uid_set uid keeps)) scopes now
    opens_gid uid gid keeps scopes now un like real taken u g l m =
        opens_so role seat now scopes (call.SetEgid gid) hold.EffectiveGid
        (uid_set uid keeps) refl un
        (λ got a. on_uid uid keeps (hold.EffectiveGid ∷ scopes) later
        (refl, owed, subst (λ (z : HostSeat). Unwinds seat scopes z) (sym taken.back) un) like_later u (taken.is ∙ g)
        (taken.groups ∙ l) (taken.umask ∙ m) (id_case seat.real_uid uid seat.eff_uid))
      where
        later : HostSeat
        later = with_egid now gid

        owed : (seat.eff_gid == later.real_gid) ≡ true
        owed = eq-eqb seat.eff_gid later.real_gid (whole.eff_gid ∙ sym real ∙ sym taken.real)

        like_later : LikeUid seat later
        like_later = record {
          eff = taken.uid.eff ∙ like.eff;
          real = taken.uid.real ∙ like.real;
          caps = taken.uid.caps ∙ like.caps;
          permitted = taken.uid.permitted ∙ like.permitted;
        }

    on_gid : (uid gid : ℕ) (keeps : Bool) (scopes : List Hold) (now : HostSeat) → Unwinds seat scopes now →
        LikeUid seat now → now.real_gid ≡ seat.real_gid → now.eff_gid ≡ seat.eff_gid →
        who.uid ≡ id_under seat.real_uid uid seat.eff_uid → who.gid ≡ id_under seat.real_gid gid seat.eff_gid →
        now.groups ≡ who.groups → now.umask ≡ who.umask → IdCase seat.real_gid gid seat.eff_gid →
        Seats role seat (egid_set (id_to_set gid seat.eff_gid) (uid_set uid keeps)) scopes now
    on_gid uid gid keeps scopes now un like real at u g l m (left none same) =
        subst (λ (o : Option ℕ). Seats role seat (egid_set o (uid_set uid keeps)) scopes now) (sym none)
        (on_uid uid keeps scopes now un like u (at ∙ sym same ∙ sym g) l m (id_case seat.real_uid uid seat.eff_uid))
    on_gid uid gid keeps scopes now un like real at u g l m (kept some leaves same) =
        let e : with_egid now gid ≡ now =
        ap (λ t. cond t now (with_gid_of now gid)) (ap (λ r. leaves_id r gid) real ∙ leaves) in
        let is : id_under now.real_gid gid now.eff_gid ≡ id_under seat.real_gid gid seat.eff_gid =
        (λ i. id_under (real i) gid (at i)) in
        subst (λ (o : Option ℕ). Seats role seat (egid_set o (uid_set uid keeps)) scopes now) (sym some)
        (opens_gid uid gid keeps scopes now un like real
        (gid_kept seat now gid (whole.eff_gid ∙ sym real) at e (is ∙ same ∙ sym at)) u (is ∙ sym g) l m)
    on_gid uid gid keeps scopes now un like real at u g l m (other some names same no_root) =
        let is : id_under now.real_gid gid now.eff_gid ≡ id_under seat.real_gid gid seat.eff_gid =
        (λ i. id_under (real i) gid (at i)) in
        subst (λ (o : Option ℕ). Seats role seat (egid_set o (uid_set uid keeps)) scopes now) (sym some)
        (opens_gid uid gid keeps scopes now un like real
        (gid_other seat now gid (whole.eff_gid ∙ sym real) at (ap (λ r. leaves_id r gid) real ∙ names) (is ∙ same)) u
        (is ∙ sym g) l m)

    -- and one group in place of the seat's own, before all
    on_groups : (uid gid : ℕ) (groups : Option ℕ) (keeps : Bool) → KeepsGroups seat →
        who.uid ≡ id_under seat.real_uid uid seat.eff_uid → who.gid ≡ id_under seat.real_gid gid seat.eff_gid →
        who.groups ≡ groups_under groups seat.groups → seat.umask ≡ who.umask →
        Seats role seat (group_set groups (egid_set (id_to_set gid seat.eff_gid) (uid_set uid keeps))) [] seat
    on_groups uid gid None keeps fits u g l m =
        on_gid uid gid keeps [] seat refl like_own refl refl u g (sym l) m (id_case seat.real_gid gid seat.eff_gid)
      where
        like_own : LikeUid seat seat
        like_own = record { eff = refl; real = refl; caps = refl; permitted = refl }
    on_groups uid gid (Some group) keeps fits u g l m =
        opens_so role seat seat [] (call.SetGroups (group ∷ [])) hold.Groups
        (egid_set (id_to_set gid seat.eff_gid) (uid_set uid keeps)) refl refl
        (λ got a. on_gid uid gid keeps (hold.Groups ∷ []) later (refl, owed a.0, refl)
        (record { eff = refl; real = refl; caps = refl; permitted = refl }) refl refl u g (sym l) m
        (id_case seat.real_gid gid seat.eff_gid))
      where
        later : HostSeat
        later = with_groups seat (group ∷ [])

        -- as the group was allowed, so are the seat's own
        first_true : (a b : Bool) → (a && b) ≡ true → a ≡ true
        first_true true b e = refl
        first_true false b e = e

        both_true : (a b : Bool) → a ≡ true → b ≡ true → (a && b) ≡ true
        both_true true b one two = two
        both_true false b one two = one

        few : (n : ℕ) → (32 < n → ⊥) → nat_le n 32 ≡ true
        few n never = le-leb n 32 (⊎_elim (λ (l : 32 < n). absurd (never l)) (λ (l : n ≤ 32). l) (cases_lt 32 n))

        owed : may_set_groups seat (group ∷ []) ≡ true → may_set_groups later seat.groups ≡ true
        owed may = both_true (includes seat.eff_caps.0 cap_setgid) (nat_le (length seat.groups) 32)
            (first_true (includes seat.eff_caps.0 cap_setgid) (nat_le (length {A = ℕ} (group ∷ [])) 32) may)
            (few (length seat.groups) fits)

-- an identity but for its umask, which is the seat's
abbrev with_mask : Identity → ℕ → Identity
with_mask who umask = record { uid = who.uid; gid = who.gid; groups = who.groups; umask = umask }

-- A making under the identity that was taken on and the umask that was set, after which all is put back.
pub guised : (role : Role) (seat : HostSeat) (creds : Credentials) (umask : Option ℕ) (making : Call)
    (next : ActReply → RequestTree) → IsWhole seat → KeepsGroups seat → is_of_seat (Calls making) ≡ false →
    makes_object making ≡ true → role.asker ≡ Some (identity_under creds umask seat) →
    ((told : ActReply) → Seats role seat (next told) [] seat) →
    Seats role seat (taken_on (cred_steps creds seat)
    (under_umask umask (Asks (Calls making) (λ told. Bares (next told))))) [] seat
guised role seat creds umask making next whole fits own makes is so =
    on_groups role seat whole (under_umask umask make) (identity_under creds None seat) (masks umask is)
    creds.uid creds.gid creds.sup_gid creds.keep_capability fits refl refl refl refl
  where
    make : RequestTree
    make = Asks (Calls making) (λ told. Bares (next told))

    makes_it : (umask : Option ℕ) → role.asker ≡ Some (identity_under creds umask seat) →
        SeatsGuised role seat make (identity_under creds umask seat)
    makes_it umask is scopes now un same = (
      un,
      rw own (rw makes (is ∙ ap Some (sym same))),
      (λ told m a. (
        inr refl,
        (
          subst (λ (z : HostSeat). Unwinds seat scopes z) (sym (deed_leaves now (Calls making) told own)) un,
          so told,
        ),
      )),
    )

    -- a umask that was set is put back as it was
    masks : (umask : Option ℕ) → role.asker ≡ Some (identity_under creds umask seat) →
        SeatsGuised role seat (under_umask umask make) (identity_under creds None seat)
    masks None is scopes now un same = makes_it None is scopes now un same
    masks (Some mask) is scopes now un same =
        opens_so role seat now scopes (call.SetUmask mask) hold.Umask make refl un (λ got a.
        makes_it (Some mask) is (hold.Umask ∷ scopes) (with_umask now mask)
        (refl, refl, subst (λ (z : HostSeat). Unwinds seat scopes z) (sym back) un)
        (ap (λ (who : Identity). with_mask who mask) same))
      where
        back : with_umask (with_umask now mask) seat.umask ≡ now
        back = ap (λ own. with_umask now own) (sym (ap (λ (who : Identity). who.umask) same))
