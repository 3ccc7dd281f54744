-- Proof. A number is opened: what that makes of contents.
use Rattle.std.specs.Prelude.{◌&&◌}
use Rattle.std.specs.Int.RustNames.{bit_and}
use Rattle.std.proofs.Common.{inl, inr, ◌≡◌, ◌≢◌, ◌<◌, ℕ, List, Bool, true, false, Option, Some, refl, sym, ap}
use Rattle.std.proofs.Common.{subst, ◌∙◌, slice_get, ◌==◌, cond, ◌⊎◌, ◌-◌, ◌^◌, not}
use Rattle.std.proofs.lemmas.Nat.{and_or_apart, and_assoc}
use Rattle.pt_host.specs.Contents.{ObjectContents}
use Rattle.pt_host.specs.Tree.{Tree, Object, Opened, IsOpenOn}
use Rattle.pt_host.specs.Flags.{includes, o_directory, o_trunc, o_path}
use Rattle.pt_host.specs.Errno.{ebadf}
use Rattle.pt_host.specs.declared.ids.Errno.{Errno}
use Rattle.pt_host.specs.declared.ids.Fd.{Fd}
use Rattle.pt_host.specs.declared.seat.HostSeat.{HostSeat}
use Rattle.pt_host.specs.declared.flags.OpenFlags.{OpenFlags}
use Rattle.pt_host.specs.declared.flags.Caps.{Caps}
use Rattle.pt_host.specs.declared.op.KeptHostOp.TheVariants as call
use Rattle.pt_host.specs.declared.reply.HostReply.TheVariants as host
use Rattle.pt_host.specs.declared.reply.HostValue.TheVariants as value
use Rattle.pt_tables.specs.declared.form.Negotiated.{Negotiated}
use Rattle.pt_tables.specs.declared.form.RowForm.{RowForm}
use Rattle.pt_tables.specs.declared.form.RowForm.TheVariants.{File}
use Rattle.pt_tables.specs.declared.reply.Resolved.{Resolved}
use Rattle.pt_iface.specs.declared.answer.Answer.{Answer}
use Rattle.pt_iface.specs.declared.answer.Answer.TheVariants as answer
use Rattle.pt_frame.specs.Deed.{Calls}
use Rattle.pt_frame.specs.Tree.{RequestTree, Bares, Shuts}
use Rattle.pt_frame.specs.declared.act.ActReply.TheVariants.{Host}
use Rattle.pt_req.specs.Capability.{drops_fsetid, without_fsetid, cleared_if}
use Rattle.pt_req.specs.Entries.{can_open}
use Rattle.pt_req.specs.Options.{cleaned, inode_flags, o_append, o_cloexec, o_direct, o_noatime, o_nofollow}
use Rattle.pt_req.specs.Options.{o_accmode, o_rdwr, passed_on, readable, with_bits, without_bits, without_nofollow}
use Rattle.pt_req.specs.Options.{written_back}
use Rattle.pt_req.specs.Parts.{handled, open_form, open_inode, open_num, open_row}
use Rattle.pt_req.specs.declared.begun.BegunSession.{BegunSession}
use Rattle.pt_req.specs.declared.plan.Plan.{Plan}
use Rattle.pt_req.specs.declared.plan.Config.{Config}
use Rattle.pt_law.specs.World.{fd_of, World}
use Rattle.pt_law.specs.Under.{seat_lacking}
use Rattle.pt_law.proofs.Givings.{live_count}
use Rattle.pt_fit.specs.Asker.{fsetid_if}
use Rattle.pt_filled.specs.Accesses.{opened_for}
use Rattle.pt_filled.specs.Contents.{is_file_kind, keeps_set_id, with_changed, emptied}
use Rattle.pt_filled.specs.Contents.{truncates, uncapped, uncapped_if}
use Rattle.pt_filled.proofs.Hosting.{Full, Keeps, Thread, contents_at, world_of, Alters, Respects, objects_at}
use Rattle.pt_filled.proofs.Hosting.{alters_on, alters_then, keeps_none}
use Rattle.pt_filled.proofs.Parts.{At, Calm, IsRefused, comes_at, keeps_on, refused_from, bared_calm, calm_on}
use Rattle.pt_filled.proofs.Parts.{IsResolved, walk_reopen, walk_resolve, walk_unless}
use Rattle.pt_filled.proofs.Scopes.{in_bracket, unbare}
use Rattle.pt_filled.proofs.Threading.{Makes, comes_law}
use Rattle.pt_filled.proofs.Clearing.{alters_twice, walk_clear, within_at}
use Rattle.pt_filled.proofs.Descriptors.{IsOpenAs, access_in, opened_as_asked}
use Rattle.pt_filled.proofs.Lending.{Lends, lends_as, lends_handled, lends_shut}
use Rattle.pt_filled.proofs.Modes.{asks_opened}
use Rattle.pt_filled.proofs.Setting.{opened_anew}
use Rattle.pt_filled.proofs.Effects.{reopened_directory, was_reopened}
use Rattle.pt_filled.proofs.Staying.{left_by}
use Rattle.pt_filled.proofs.Tails.{Leaving, leaving_handled, leaving_shuts}
use Rattle.pt_filled.proofs.Writing.{keeps_by, walk_without}

-- ---- the daemon's own flags touch neither `O_TRUNC` nor `O_PATH`

without_same : (flags bits bit : ℕ) → bit_and (2 ^ 32 - 1 - bits) bit ≡ bit →
    bit_and (without_bits flags bits) bit ≡ bit_and flags bit
without_same flags bits bit e = and_assoc bit flags (2 ^ 32 - 1 - bits) ∙ ap (bit_and flags) e

pub with_same : (flags bits bit : ℕ) → bit_and bits bit ≡ 0 → bit_and (with_bits flags bits) bit ≡ bit_and flags bit
with_same flags bits bit e = and_or_apart bit flags bits e

-- the bit is none of the daemon's own
record IsForeign (bit : ℕ) : Type 0 where
  append : bit_and (2 ^ 32 - 1 - o_append) bit ≡ bit
  noatime : bit_and (2 ^ 32 - 1 - o_noatime) bit ≡ bit
  accmode : bit_and (2 ^ 32 - 1 - o_accmode) bit ≡ bit
  direct : bit_and (2 ^ 32 - 1 - o_direct) bit ≡ bit
  nofollow : bit_and (2 ^ 32 - 1 - o_nofollow) bit ≡ bit
  rdwr : bit_and o_rdwr bit ≡ 0
  cloexec : bit_and o_cloexec bit ≡ 0

cleaned_same : (config : Config) (flags bit : ℕ) → IsForeign bit → bit_and (cleaned config flags) bit ≡ bit_and flags
    bit
cleaned_same config flags bit f = go config.clean_noatime
  where
    go : (b : Bool) → bit_and (cond b (without_bits (without_bits flags o_append) o_noatime)
        (without_bits flags o_append)) bit ≡ bit_and flags bit
    go true = without_same (without_bits flags o_append) o_noatime bit f.noatime
        ∙ without_same flags o_append bit f.append
    go false = without_same flags o_append bit f.append

readable_same : (flags bit : ℕ) → IsForeign bit → bit_and (readable flags) bit ≡ bit_and flags bit
readable_same flags bit f = go (bit_and flags o_accmode == 1)
  where
    go : (b : Bool) → bit_and (cond b (with_bits (without_bits flags o_accmode) o_rdwr) flags) bit ≡ bit_and flags bit
    go true = with_same (without_bits flags o_accmode) o_rdwr bit f.rdwr ∙ without_same flags o_accmode bit f.accmode
    go false = refl

back_same : (agreed : Negotiated) (flags bit : ℕ) → IsForeign bit →
    bit_and (written_back agreed flags) bit ≡ bit_and flags bit
back_same agreed flags bit f = go agreed.writeback
  where
    go : (b : Bool) → bit_and (cond b (without_bits (readable flags) o_append) flags) bit ≡ bit_and flags bit
    go true = without_same (readable flags) o_append bit f.append ∙ readable_same flags bit f
    go false = refl

passed_same : (config : Config) (flags bit : ℕ) → IsForeign bit → bit_and (passed_on config flags) bit ≡ bit_and flags
    bit
passed_same config flags bit f = with_same (cond config.allow_direct_io flags (without_bits flags o_direct)) o_cloexec
    bit
    f.cloexec ∙ go config.allow_direct_io
  where
    go : (b : Bool) → bit_and (cond b flags (without_bits flags o_direct)) bit ≡ bit_and flags bit
    go true = refl
    go false = without_same flags o_direct bit f.direct

abbrev pub opened_flags : Plan → Negotiated → ℕ → OpenFlags
opened_flags plan agreed flags = without_nofollow (inode_flags plan.config agreed (cleaned plan.config flags))

opened_same : (plan : Plan) (agreed : Negotiated) (flags bit : ℕ) → IsForeign bit →
    bit_and (opened_flags plan agreed flags).0 bit ≡ bit_and flags bit
opened_same plan agreed flags bit f =
    let a = cleaned plan.config flags in let b = written_back agreed a in let c = passed_on plan.config b in
    without_same c o_nofollow bit f.nofollow ∙ passed_same plan.config b bit f ∙ back_same agreed a bit f
    ∙ cleaned_same plan.config flags bit f

foreign_trunc : IsForeign o_trunc
foreign_trunc = record {
  append = refl;
  noatime = refl;
  accmode = refl;
  direct = refl;
  nofollow = refl;
  rdwr = refl;
  cloexec = refl;
}

foreign_path : IsForeign o_path
foreign_path = record {
  append = refl;
  noatime = refl;
  accmode = refl;
  direct = refl;
  nofollow = refl;
  rdwr = refl;
  cloexec = refl;
}

foreign_directory : IsForeign o_directory
foreign_directory = record {
  append = refl;
  noatime = refl;
  accmode = refl;
  direct = refl;
  nofollow = refl;
  rdwr = refl;
  cloexec = refl;
}

pub truncates_same : (plan : Plan) (agreed : Negotiated) (flags : ℕ) →
    truncates (opened_flags plan agreed flags).0 ≡ truncates flags
truncates_same plan agreed flags =
    λ i. ((opened_same plan agreed flags o_trunc foreign_trunc i == o_trunc)
    && not (opened_same plan agreed flags o_path foreign_path i == o_path))

-- ---- the opening of a number

pub respects_emptied : (keeps empties : Bool) → Respects (emptied keeps empties)
respects_emptied keeps true a b e =
    ap (λ (c : ObjectContents). record (emptied keeps true c) { atime = b.atime; mtime = b.mtime; ctime = b.ctime }) e
respects_emptied keeps false a b e = e

-- The object was changed so as it was opened, and then lost its capabilities, or was refused before it did.
abbrev pub ClearsSo : Bool → Option (List ℕ) → Full → Answer → Full → ℕ → (ObjectContents → ObjectContents) → Type 0
ClearsSo clears name w last w' object change =
    (((errno : Errno) × (last ≡ answer.Refused errno)) × Alters w w' (with_changed object change (contents_at w)))
    ⊎ Alters w w' (with_changed object (λ was. uncapped_if clears name (change was)) (contents_at w))

-- what an opening makes of an object before it loses its capabilities
abbrev pub emptied_so : Plan → HostSeat → Bool → ℕ → Bool → ObjectContents → ObjectContents
emptied_so plan seat kill flags file was = emptied (keeps_set_id plan seat kill) (file && truncates flags) was

-- What an opening that begins in the second world leaves of contents, however it ends: it was refused before, or the
-- object was emptied, or not; and what its handle may be used for.
abbrev pub OpensSo :
    Thread → Plan → Negotiated → Bool → ℕ → ℕ → (ℕ → RequestTree) → Full → Full → Answer → Full → Type 0
OpensSo j plan agreed kill flags inode next w b last w' =
    ((errno : Errno) × (last ≡ answer.Refused errno) × Keeps w w')
    ⊎ ((object : ℕ) × (d : Full) × Calm b d × (d.past.numbers inode ≡ Some object) × (0 < live_count inode d.tables)
    × ClearsSo (includes flags o_trunc) plan.capability w last w' object
    (emptied_so plan j.seat kill flags (is_file_kind (slice_get (objects_at w) object)))
    × (includes flags o_directory ≡ true → is_file_kind (slice_get (objects_at w) object) ≡ false)
    × Lends j (opened_for agreed flags) next last w')

pub opens_so : (plan : Plan) (session : BegunSession) (inode : ℕ) (kill : Bool) (flags : ℕ) (next : ℕ → RequestTree)
    (j : Thread) (w b : Full) (last : Answer) (w' : Full) → last ≢ answer.NoMemory →
    ((fd : Fd) (how : OpenFlags) → j.role.lacks (call.Reopen fd how) ≡ fsetid_if (drops_fsetid plan j.seat kill)) →
    ((handle : ℕ) → Leaving (next handle)) → Keeps w b →
    At j (open_num plan j.seat session inode kill flags next) b last w' →
    OpensSo j plan session.agreed kill flags inode next w b last w'
unfolding open_row
opens_so plan session inode kill flags next j w b last w' n lacks leaves kb cb =
    walk_without j (drops_fsetid plan j.seat kill) opens b last w' n (in_bracket cb) out (λ d bd cd.
    let qd = bared_calm j b d bd in
    walk_resolve j inode _ d last w' n cd (λ r. out (refused_from b d last w' qd.keeps r)) (λ row e re ce.
    let qe = calm_on b d e qd re.calm in
    walk_unless j (can_open row.mode) ebadf (open_form row.form flags_in bares) e last w' ce
    (λ r. out (refused_from b e last w' qe.keeps r)) (λ can ce.
    form_opens row.form d e row refl qd re ce)))
    (comes_law j (without_fsetid (drops_fsetid plan j.seat kill) opens) b last w' (comes_at (in_bracket cb)))
  where
    flags_in : ℕ
    flags_in = inode_flags plan.config session.agreed (cleaned plan.config flags)

    handles : Fd → RequestTree
    handles fd = handled session inode fd (λ handle. Shuts false (next handle))

    clears : Fd → RequestTree
    clears fd = cleared_if (includes flags o_trunc) plan.capability fd (handles fd)

    bares : Fd → RequestTree
    bares fd = Bares (clears fd)

    opens : RequestTree
    opens = open_inode plan session inode (cleaned plan.config flags) bares

    Goal : Type 0
    Goal = OpensSo j plan session.agreed kill flags inode next w b last w'

    out : IsRefused b last w' → Goal
    out r = inl (r.errno, r.is, keeps_on w b w' kb r.keeps)

    keeps : Bool
    keeps = keeps_set_id plan j.seat kill

    ends : (f g : Full) (new : Fd) → Keeps f g → At j (handles new) g last w' → Keeps f w'
    ends f g new kg c = keeps_on f g w' kg (left_by j (handles new) g last w'
        (leaving_handled session inode new (λ handle. Shuts false (next handle))
        (λ handle. leaving_shuts false (leaves handle))) c)

    cleared : (b : Bool) (f : Full) (new : Fd) (object : ℕ) (change : ObjectContents → ObjectContents) →
        Alters w f (with_changed object change (contents_at w)) → IsOpenOn (world_of f).tree new object →
        At j (cleared_if b plan.capability new (handles new)) f last w' →
        ClearsSo b plan.capability w last w' object change
    cleared false f new object change a o c = inr (alters_then w f w' _ a (ends f f new (keeps_none f) c))
    cleared true f new object change a o c =
        walk_clear j plan.capability new false (handles new) w f (with_changed object change (contents_at w)) object
        last w' n o a c (λ r. inl ((r.errno, r.is), alters_then w f w' _ a r.keeps)) (λ y u k.
        inr (alters_twice w w' object change (uncapped plan.capability)
        (alters_then w y w' (with_changed object (uncapped plan.capability) (with_changed object change
        (contents_at w))) u.alters (ends y y new (keeps_none y) k))))

    rest : (f : Full) (new : Fd) (object : ℕ) (change : ObjectContents → ObjectContents) →
        Alters w f (with_changed object change (contents_at w)) → IsOpenOn (world_of f).tree new object →
        At j (bares new) f last w' → ClearsSo (includes flags o_trunc) plan.capability w last w' object change
    rest f new object change a o c = unbare c (λ g bg cg.
        cleared (includes flags o_trunc) g new object change (alters_then w f g _ a bg.keeps)
        (subst (λ (t : Tree). IsOpenOn t new object) (sym (ap (λ (v : World). v.tree) bg.world)) o) cg)

    -- what is opened stays so until it gets a handle
    lends_then : (g : Full) (new : Fd) → At j (handles new) g last w' → Lends j (access_in g.state new) next last w'
    lends_then g new c =
        lends_shut j _ next last w' (lends_as j g.state new _ last w'
        (lends_handled j session inode new (λ handle. Shuts false (next handle)) last w' n g c))

    lends_cleared : (b : Bool) (g : Full) (new : Fd) (opened : Opened) → IsOpenAs g.state new opened →
        At j (cleared_if b plan.capability new (handles new)) g last w' → Lends j (access_in g.state new) next last w'
    lends_cleared false g new opened o c = lends_then g new c
    lends_cleared true g new opened o c =
        walk_clear j plan.capability new false (handles new) g g (contents_at g) opened.object last w' n
        (opened, o, refl) (keeps_none g) c (λ r. inl (r.errno, r.is)) (λ y u k.
        let s = u.fds new opened o in
        subst (λ (a : ℕ). Lends j a next last w') s.1 (lends_then y new k))

    lends_from : (f : Full) (new : Fd) (opened : Opened) → IsOpenAs f.state new opened →
        At j (bares new) f last w' → Lends j (access_in f.state new) next last w'
    lends_from f new opened o c = unbare c (λ g bg cg.
        let s = bg.fds new opened o in
        subst (λ (a : ℕ). Lends j a next last w') s.1 (lends_cleared (includes flags o_trunc) g new opened s.0 cg))

    lends : (e f : Full) (fd new : Fd) →
        Makes j e (Calls (call.Reopen fd (without_nofollow flags_in))) (Host (host.Ok (value.Fd new))) f →
        At j (bares new) f last w' → Lends j (opened_for session.agreed flags) next last w'
    lends e f fd new m c =
        let s = opened_as_asked e.state e.seat (call.Reopen fd (without_nofollow flags_in)) (host.Ok (value.Fd new))
        f.state f.seat m.2.made.0 new (without_nofollow flags_in) refl refl in
        subst (λ (a : ℕ). Lends j a next last w') (s.1 ∙ asks_opened plan session.agreed flags)
        (lends_from f new s.0.0 s.0.1 c)

    reopened : (d e f : Full) (fd new : Fd) (object : ℕ) → Calm b d → Keeps d e → d.past.numbers inode ≡ Some object →
        0 < live_count inode d.tables → IsOpenOn (world_of e).tree fd object →
        Makes j e (Calls (call.Reopen fd (without_nofollow flags_in))) (Host (host.Ok (value.Fd new))) f →
        At j (bares new) f last w' → Goal
    reopened d e f fd new object qd kd is live o m k =
        let qe = keeps_on w b e kb (keeps_on b d e qd.keeps kd) in
        let by_seat = subst (λ (l : Option Caps). e.seat ≡ seat_lacking l j.seat)
        (lacks fd (without_nofollow flags_in)) m.2.as_asked in
        let emptied_by = was_reopened j e f fd (without_nofollow flags_in) (value.Fd new) object keeps m.2 o
        (keeps_by plan j.seat e.seat kill by_seat) in
        let file = ap (λ (l : List Object). is_file_kind (slice_get l object)) qe.objects in
        let so : Bool → ObjectContents → ObjectContents = λ t. emptied keeps t in
        let test : (is_file_kind (slice_get (objects_at e) object)
        && truncates (opened_flags plan session.agreed flags).0)
        ≡ (is_file_kind (slice_get (objects_at w) object) && truncates flags) =
        λ i. (file i && truncates_same plan session.agreed flags i) in
        let there : Alters e f (with_changed object
        (so (is_file_kind (slice_get (objects_at w) object) && truncates flags)) (contents_at e)) =
        subst (λ (x : Bool). Alters e f (with_changed object (so x) (contents_at e))) test emptied_by in
        let change = so (is_file_kind (slice_get (objects_at w) object) && truncates flags) in
        let on = alters_on w e f (contents_at w) object change
        (within_at w e (contents_at w) fd object qe m.2.made.0.sound o)
        (respects_emptied keeps (is_file_kind (slice_get (objects_at w) object) && truncates flags)) qe there in
        let all = rest f new object change on (opened_anew j e f fd new object (without_nofollow flags_in) m o) k in
        inr (
          object,
          d,
          qd,
          is,
          live,
          all,
          λ asks. sym file ∙ reopened_directory j e f fd (without_nofollow flags_in) (value.Fd new) object m.2 o
              (ap (λ (n : ℕ). n == o_directory) (opened_same plan session.agreed flags o_directory foreign_directory)
              ∙ asks),
          lends e f fd new m k,
        )

    form_opens : (form : RowForm) (d e : Full) (row : Resolved) → row.form ≡ form → Calm b d →
        (re : IsResolved j d e inode row) → At j (open_form form flags_in bares) e last w' → Goal
    form_opens (File fd) d e row same qd re c =
        let o = subst (λ (f : RowForm). IsOpenOn (world_of e).tree (fd_of f) re.there.object) same
        (subst (λ (t : Tree). IsOpenOn t (fd_of row.form) re.there.object) (sym re.there.tree) re.there.open_on) in
        walk_reopen j fd (without_nofollow flags_in) bares e last w' n c
        (λ r. out (refused_from b e last w' (keeps_on b d e qd.keeps re.calm.keeps) r)) (λ new f m k.
        reopened d e f fd new re.there.object qd re.calm.keeps re.there.is_object re.there.live o m k)
