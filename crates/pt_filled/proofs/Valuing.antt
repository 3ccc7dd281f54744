-- Proof. `setxattr`, and what a name has once it is given a value.
use Rattle.std.specs.Prelude.{◌&&◌, ◌||◌, ◌-◌, ◌/◌, ◌*◌, ◌+◌, if◌then◌else◌}
use Rattle.std.specs.List.{list_any}
use Rattle.std.specs.Map.{update}
use Rattle.std.specs.Str.{bytes_eq}
use Rattle.std.proofs.Common.{[], ◌∷◌, ◌≡◌, ◌≢◌, ℕ, List, Bool, true, false, Option, Some, None, refl, sym, ap, subst}
use Rattle.std.proofs.Common.{◌∙◌, Result, Ok, Err, ◌==◌, is_none, is_some, inl, length, nat_lt, ◌%◌, ◌<◌}
use Rattle.std.proofs.Common.{arith, inr}
use Rattle.pt_host.specs.Contents.{ObjectContents}
use Rattle.pt_host.specs.Errno.{e2big, ebadf, eexist, einval, enodata, enosys, erange}
use Rattle.pt_host.specs.Tree.{IsOpenOn, Tree, Object}
use Rattle.pt_host.specs.Words.{set_at}
use Rattle.pt_host.specs.declared.ids.Errno.{Errno}
use Rattle.pt_host.specs.declared.ids.Fd.{Fd}
use Rattle.pt_host.specs.declared.reply.HostValue.{HostValue}
use Rattle.pt_host.specs.declared.stat.Stat.{Stat}
use Rattle.pt_host.specs.declared.op.KeptHostOp.TheVariants as call
use Rattle.pt_host.specs.declared.reply.HostReply.TheVariants as host
use Rattle.pt_host.specs.declared.reply.HostValue.TheVariants as value
use Rattle.pt_tables.specs.declared.form.Negotiated.{Negotiated}
use Rattle.pt_tables.specs.declared.reply.Resolved.{Resolved}
use Rattle.pt_iface.specs.declared.answer.Answer.{Answer}
use Rattle.pt_iface.specs.declared.flags.SetxattrFlags.{SetxattrFlags}
use Rattle.pt_iface.specs.declared.request.Context.{Context}
use Rattle.pt_iface.specs.declared.request.Request.{Request}
use Rattle.pt_iface.specs.declared.answer.Answer.TheVariants as answer
use Rattle.pt_iface.specs.declared.request.Request.TheVariants as request
use Rattle.pt_frame.specs.Deed.{Calls}
use Rattle.pt_frame.specs.Tree.{Gives, RequestTree}
use Rattle.pt_frame.specs.declared.act.ActReply.{ActReply}
use Rattle.pt_frame.specs.declared.act.ActReply.TheVariants.{Event, Host, NoCopy}
use Rattle.pt_req.specs.Capability.{capability_cleared}
use Rattle.pt_req.specs.Steps.{begin}
use Rattle.pt_req.specs.declared.begun.BegunSession.{BegunSession}
use Rattle.pt_req.specs.declared.plan.Plan.{Plan}
use Rattle.pt_attr.specs.Steps.{do_call}
use Rattle.pt_xattr.specs.Parts.{allowed, kills_sgid, nul_free, sgid_killed, with_xattr, xattr_file, without_sgid}
use Rattle.pt_xattr.specs.Requests.{setxattr}
use Rattle.pt_xattr.specs.declared.parts.XattrFile.{XattrFile}
use Rattle.pt_law.specs.World.{fd_of, made}
use Rattle.pt_law.proofs.Lists.{set_at_same}
use Rattle.pt_node.specs.Attributes.{value_of, with_value}
use Rattle.pt_node.specs.Limits.{xattr_name_max, xattr_value_max}
use Rattle.pt_node.specs.Opening.{first_refusal}
use Rattle.pt_node.specs.Node.{kind_number}
use Rattle.pt_node.specs.declared.node.Node.{Node}
use Rattle.pt_node.specs.declared.slots.OpenFile.{OpenFile}
use Rattle.pt_rules.specs.AttributeCalls.{does_not_serve, set_xattr_checks, set_xattr_row}
use Rattle.pt_rules.specs.Laws.NameTable.{found-named}
use Rattle.pt_rules.specs.Rows.{Row}
use Rattle.pt_rules.specs.State.{contents_where, tree_of}
use Rattle.pt_plain.specs.Plain.{PlainTree}
use Rattle.pt_plain.proofs.Stilling.{IsStill}
use Rattle.pt_filled.specs.Contents.{IsSame, sgid_taken, uncapped, valued, with_changed}
use Rattle.pt_filled.specs.Fills.{Fills, IsFit}
use Rattle.pt_filled.specs.Told.{name_held}
use Rattle.pt_filled.proofs.Clearing.{alters_idle, alters_twice, walk_clear, within_at}
use Rattle.pt_filled.proofs.Effects.{was_moded, was_seen, objects_still, ok_has, rowed, row_there, same_parts}
use Rattle.pt_filled.proofs.Hosting.{world_of, Alters, Full, Steps, Thread, alters_on, alters_then}
use Rattle.pt_filled.proofs.Hosting.{contents_at}
use Rattle.pt_filled.proofs.Parts.{leaves_keeps, walk_stat, At, IsRefused, comes_at, idles_calm}
use Rattle.pt_filled.proofs.Parts.{refused_from, refused_with, walk_begin, walk_do, walk_if, walk_unless}
use Rattle.pt_filled.proofs.Setting.{still_mode}
use Rattle.pt_filled.proofs.Tails.{stat_leaves}
use Rattle.pt_filled.proofs.Filling.{Between, filled, IsFilledBy, refused_fills, become}
use Rattle.pt_filled.proofs.Finding.{Found, walk_found}
use Rattle.pt_filled.proofs.Tables.{alters_row}
use Rattle.pt_filled.proofs.Threading.{Comes, Makes}
use Rattle.pt_filled.proofs.Valued.{IsHeldAs, walk_name, walk_xattr_file}

-- ---- a name after one is given a value

values_after : (name v : List ℕ) (values : List (List ℕ × List ℕ)) →
    ◌≡◌ {A = List ℕ → Option (List ℕ)} (λ q. value_of q (with_value name v values))
    (update bytes_eq (λ k. value_of k values) name (Some v))
values_after name v values = λ i q. found-named q name v values i

-- ---- the call

none_there : (there : Option (List ℕ)) → is_some there ≡ false → there ≡ None
none_there None e = refl
none_there (Some value) e = absurd (cc)

some_there : (there : Option (List ℕ)) → is_none there ≡ false → is_some there ≡ true
some_there None e = absurd (cc)
some_there (Some value) e = refl

fits_last : (flags : ℕ) (there : Option (List ℕ)) (t u : Errno) → (one two : Bool) →
    ((flags == 1) && is_some there) ≡ one → ((flags == 2) && is_none there) ≡ two →
    first_refusal ((one, t) ∷ (two, u) ∷ []) ≡ None → IsFit flags there
fits_last flags there t u true two p q e = absurd (cc)
fits_last flags there t u false true p q e = absurd (cc)
fits_last flags there t u false false p q e = (
  λ is. none_there there (sym (ap (λ (n : ℕ). (n == 1) && is_some there) is) ∙ p),
  λ is. some_there there (sym (ap (λ (n : ℕ). (n == 2) && is_none there) is) ∙ q),
)

fits : (flags : ℕ) (there : Option (List ℕ)) (a b c d : Bool) (x y z v t u : Errno) →
    first_refusal ((a, x) ∷ (b, y) ∷ (c, z) ∷ (d, v) ∷ ((flags == 1) && is_some there, t)
    ∷ ((flags == 2) && is_none there, u) ∷ []) ≡ None → IsFit flags there
fits flags there true b c d x y z v t u e = absurd (cc)
fits flags there false true c d x y z v t u e = absurd (cc)
fits flags there false false true d x y z v t u e = absurd (cc)
fits flags there false false false true x y z v t u e = absurd (cc)
fits flags there false false false false x y z v t u e =
    fits_last flags there t u ((flags == 1) && is_some there) ((flags == 2) && is_none there) refl refl e

fits_checks : (file : OpenFile) (through : Bool) (name bytes : List ℕ) (flags : ℕ) (there : Option (List ℕ)) →
    first_refusal (set_xattr_checks file through name bytes flags there) ≡ None → IsFit flags there
fits_checks file through name bytes flags there e =
    fits flags there (does_not_serve file through) ((length name == 0) || nat_lt xattr_name_max (length name))
    (nat_lt xattr_value_max (length bytes)) (nat_lt 2 flags) ebadf erange e2big einval eexist enodata e

pub was_set : (j : Thread) (w on : Full) (fd : Fd) (through : Bool) (name bytes : List ℕ) (flags : ℕ) (told : HostValue)
    (object : ℕ) → Steps j w (made (Calls (call.SetXattr fd through name bytes flags)) (Host (host.Ok told))) on →
    IsOpenOn (tree_of w.state) fd object →
    IsFit flags ((contents_at w object).xattrs name)
    × Alters w on (with_changed object (valued name (Some bytes)) (contents_at w))
was_set j w on fd through name bytes flags told object s o =
    let row : OpenFile → Node → Row = set_xattr_row w.state through name bytes flags in
    let r = rowed j w on (call.SetXattr fd through name bytes flags) fd row told refl (λ numbers. refl) s in
    let held = ap (λ (x : Option Node). (contents_where x).xattrs name) (row_there w on fd row told object r o) in (
      subst (IsFit flags) (sym held) (fits_checks r.ok.file through name bytes flags
          (value_of name r.ok.node.xattrs) r.ok.passes),
      alters_row w on fd row told r.after (valued name (Some bytes)) object
          (objects_still j w on (call.SetXattr fd through name bytes flags) told tt (ok_has told) s) r.nodes r.ok o
          (same_parts (valued name (Some bytes) (contents_where (Some r.ok.node))) _ refl refl refl refl refl
          (values_after name bytes r.ok.node.xattrs)),
    )

still_valued : (fd : Fd) (through : Bool) (name bytes : List ℕ) (flags : ℕ) (told : ActReply) →
    IsStill (Calls (call.SetXattr fd through name bytes flags)) told
still_valued fd through name bytes flags (Host told) = tt
still_valued fd through name bytes flags (Event told) = tt
still_valued fd through name bytes flags NoCopy = tt

-- ---- the request

-- the set-group-id bit goes, as the status tells the mode
bits : (a b : Bool) (m q : ℕ) → a ≡ b → m ≡ q → m < 4096 →
    (if a then m - 1024 else m) % 4096 ≡ (if b then q - 1024 else q)
bits true true m q e f l = omega (arith, f, l)
bits false false m q e f l = omega (arith, f, l)
bits true false m q e f l = absurd (cc)
bits false true m q e f l = absurd (cc)

below : (n : ℕ) → n % 4096 < 4096
below n = omega arith

third : (k p : ℕ) → (4096 * k + p) / 1024 % 2 ≡ p / 1024 % 2
third k p = omega arith

low : (k p : ℕ) → (4096 * k + p) % 4096 ≡ p % 4096
low k p = omega arith

small_bits : (b : Bool) (q : ℕ) → q < 4096 → (if b then q - 1024 else q) < 4096
small_bits true q l = omega (arith, l)
small_bits false q l = l

taken_is : (k p : ℕ) → without_sgid (4096 * k + p) % 4096 ≡ without_sgid p
taken_is k p =
    bits ((4096 * k + p) / 1024 % 2 == 1) (p / 1024 % 2 == 1) ((4096 * k + p) % 4096) (p % 4096)
    (ap (λ (n : ℕ). n == 1) (third k p)) (low k p) (below (4096 * k + p))

-- as the status told the mode, so it is without the bit
was_taken : (j : Thread) (w e x : Full) (fd : Fd) (through : Bool) (told : Stat) (said : HostValue) (object : ℕ) →
    Steps j w (made (Calls (call.Stat fd)) (Host (host.Ok (value.Stat told)))) e →
    Steps j e (made (Calls (call.ChMod fd through (without_sgid told.mode))) (Host (host.Ok said))) x →
    IsOpenOn (tree_of w.state) fd object → IsOpenOn (tree_of e.state) fd object →
    IsSame (contents_at w object) (contents_at e object) →
    Alters e x (with_changed object (sgid_taken true) (contents_at e))
was_taken j w e x fd through told said object s t ow oe same =
    let seen = was_seen j w e fd told object s ow in
    let kind = kind_number seen.node.content in
    let mode : (contents_at e object).mode ≡ seen.node.permissions =
    ap (λ (c : ObjectContents). c.mode) same
    ∙ ap (λ (n : Option Node). (contents_where n).mode) seen.there in
    let taken : without_sgid told.mode % 4096 ≡ without_sgid (contents_at e object).mode =
    ap (λ (stat : Stat). without_sgid stat.mode % 4096) seen.is ∙ taken_is kind seen.node.permissions
    ∙ ap without_sgid (sym mode) in
    let a = was_moded j e x fd through (without_sgid told.mode) said object t oe in
    subst (λ (c : ObjectContents). Alters e x (set_at object c (contents_at e)))
    (ap (λ (m : ℕ). record (contents_at e object) { mode = m }) taken) a

-- before the value comes
record Readied (w e : Full) (are : ℕ → ObjectContents) (object : ℕ) (kills : Bool) (fd : Fd) : Type 0 where
  alters : Alters w e (with_changed object (sgid_taken kills) are)
  open_on : IsOpenOn (world_of e).tree fd object

walk_killed : {G : Type 0} (j : Thread) (kills : Bool) (file : XattrFile) (next : RequestTree) (w d : Full)
    (are : ℕ → ObjectContents) (last : Answer) (w' : Full) (object : ℕ) → last ≢ answer.NoMemory → Alters w d are →
    IsOpenOn (world_of d).tree file.fd object → At j (sgid_killed kills file next) d last w' → (IsRefused d last w' →
    G) → ((e : Full) → Readied w e are object kills file.fd → At j next e last w' → G) → G
walk_killed j false file next w d are last w' object n a o c out goes =
    goes d (record { alters = alters_idle w d are object a; open_on = o }) c
walk_killed j true file next w d are last w' object n a o c out goes =
    walk_stat j file.fd _ d last w' n c out (λ told e m c.
    let kept = leaves_keeps j d e (Calls (call.Stat file.fd)) (Host (host.Ok (value.Stat told))) m
    (stat_leaves file.fd (Host (host.Ok (value.Stat told)))) in
    let oe = later d e m.2.goes.made.0.0.trees.changes.5 o in
    walk_do j (call.ChMod file.fd file.through (without_sgid told.mode)) next e last w' n
    (λ said z. still_mode file.fd file.through (without_sgid told.mode) said) c
    (λ r. out (refused_from d e last w' kept r)) (λ said x t c.
    let within = within_at w d are file.fd object a m.2.made.0.sound o in
    goes x (record {
      alters = alters_on w e x are object (sgid_taken true) within (λ p q z. ap (λ (c : ObjectContents).
          record (sgid_taken true c) { atime = q.atime; mtime = q.mtime; ctime = q.ctime }) z)
          (alters_then w d e are a kept)
          (was_taken j d e x file.fd file.through told said object m.2 t.2 o oe
          (kept.same object (subst (λ (z : List Object). object < length z) (sym a.objects) within)));
      open_on = later e x t.2.goes.made.0.0.trees.changes.1 oe;
    }) c))
  where
    later : (x y : Full) → (world_of y).tree ≡ (world_of x).tree → IsOpenOn (world_of x).tree file.fd object →
        IsOpenOn (world_of y).tree file.fd object
    later x y e o = subst (λ (t : Tree). IsOpenOn t file.fd object) (sym e) o

xattrs_kept : (kills : Bool) (was : ObjectContents) → (sgid_taken kills was).xattrs ≡ was.xattrs
xattrs_kept true was = refl
xattrs_kept false was = refl

module _ (plan : Plan) (who : Context) (j : Thread) (w : Full) (last : Answer) (w' : Full) (state after : PlainTree)
    (g : Between w w' state after) (n : last ≢ answer.NoMemory) where
  pub fills_setxattr : (inode : ℕ) (name value : List ℕ) (flags : ℕ) (extra : SetxattrFlags) →
      At j (begin (setxattr plan inode name value flags extra)) w last w' →
      IsFilledBy plan j.seat who (request.SetXattr inode name value flags extra) state w last after w'
  unfolding with_xattr nul_free allowed
  fills_setxattr inode name value flags extra c =
      walk_begin j _ w last w' n c out (λ session b q z k.
      walk_unless j plan.config.xattr enosys _ b last w' k (λ r. out (refused_from w b last w' q.keeps r)) (λ can k.
      walk_if j (list_any (λ byte. byte == 0) name) einval _ b last w' k (λ r. out (refused_from w b last w' q.keeps
      r)) (λ k.
      walk_found j w last w' state g.shows n out inode _ b q k (λ row d f k.
      walk_name j plan session.agreed name _ d last w' k (λ found is k. by_name session row d z f found is k)))))
    where
      asked : Request
      asked = request.SetXattr inode name value flags extra

      out : IsRefused w last w' → IsFilledBy plan j.seat who asked state w last after w'
      out = refused_fills plan j.seat who asked w w' state after last g.shows (λ k. inl k)

      setting : XattrFile → List ℕ → RequestTree
      setting file held = do_call (call.SetXattr file.fd file.through held value flags) (Gives answer.Done)

      kills : List ℕ → Bool
      kills held = kills_sgid state.agreed extra held

      cleared : ObjectContents → ObjectContents
      cleared = uncapped plan.capability

      readied : List ℕ → ObjectContents → ObjectContents
      readied held was = sgid_taken (kills held) (uncapped plan.capability was)

      is_set : (held : List ℕ) → name_held plan state.agreed name ≡ Some held → (file : XattrFile) (d e h : Full)
          (f : Found w d state inode file.fd) → Alters w e (with_changed f.object (readied held) (contents_at w)) →
          IsOpenOn (world_of e).tree file.fd f.object → (told : HostValue) →
          Makes j e (Calls (call.SetXattr file.fd file.through held value flags)) (Host (host.Ok told)) h →
          Comes j (Gives answer.Done) h last w' → IsFilledBy plan j.seat who asked state w last after w'
      is_set held is file d e h f a o told m k =
          let was = was_set j e h file.fd file.through held value flags told f.object m.2 o in
          let within = within_at w e (with_changed f.object (readied held) (contents_at w)) file.fd f.object a
          m.2.made.0.sound o in
          let there : ObjectContents = uncapped plan.capability (contents_at w f.object) in
          let same : (contents_at e f.object).xattrs held ≡ there.xattrs held =
          ap (λ (c : ObjectContents). c.xattrs held) (a.same f.object within)
          ∙ ap (λ (c : ObjectContents). c.xattrs held) (set_at_same (contents_at w) f.object
          (sgid_taken (kills held) there))
          ∙ ap (λ (x : List ℕ → Option (List ℕ)). x held) (xattrs_kept (kills held) there) in
          let whole = alters_twice w h f.object (readied held) (valued held (Some value))
          (alters_on w e h (with_changed f.object (readied held) (contents_at w)) f.object
          (valued held (Some value)) within (λ p q z. ap (λ (c : ObjectContents). record (valued held (Some value) c) {
            atime = q.atime;
            mtime = q.mtime;
            ctime = q.ctime;
          }) z) a was.1) in
          subst (λ (x : Answer). Fills plan j.seat who asked (filled state w) x (filled after w')) (sym k.0) (
            f.object,
            f.stands,
            (
              held,
              is,
              (
                subst (IsFit flags) same was.0,
                become w w' state after _ g.shows (alters_then w h w' _ whole (idles_calm j h w' k.1).keeps),
              ),
            ),
          )

      -- refused behind the end of the capabilities, with the bit or without
      left : (held : List ℕ) → name_held plan state.agreed name ≡ Some held → (taken : Bool) →
          (taken ≡ true → kills held ≡ true) → (file : XattrFile) (d e : Full) (f : Found w d state inode file.fd) →
          Alters w e (with_changed f.object (λ was. sgid_taken taken (uncapped plan.capability was)) (contents_at w)) →
          IsRefused e last w' → IsFilledBy plan j.seat who asked state w last after w'
      left held is taken so file d e f a z =
          subst (λ (x : Answer). Fills plan j.seat who asked (filled state w) x (filled after w')) (sym z.is) (inr (
            f.object,
            f.stands,
            (held, is, (taken, so, become w w' state after _ g.shows (alters_then w e w' _ a z.keeps))),
          ))

      setting_so : (held : List ℕ) → name_held plan state.agreed name ≡ Some held → (file : XattrFile) (d y : Full)
          (f : Found w d state inode file.fd) → Alters w y (with_changed f.object cleared (contents_at w)) →
          IsOpenOn (world_of y).tree file.fd f.object →
          At j (sgid_killed (kills held) file (setting file held)) y last w' →
          IsFilledBy plan j.seat who asked state w last after w'
      setting_so held is file d y f a o k =
          walk_killed j (kills held) file (setting file held) w y (with_changed f.object cleared (contents_at w)) last
          w' f.object n a o k (left held is false (λ e. absurd (cc)) file d y f a) (λ h r k.
          let ready = alters_twice w h f.object cleared (sgid_taken (kills held)) r.alters in
          walk_do j (call.SetXattr file.fd file.through held value flags) (Gives answer.Done) h last w' n
          (λ told z. still_valued file.fd file.through held value flags told) k
          (left held is (kills held) (λ e. e) file d h f ready)
          (λ told x m k. is_set held is file d h x f ready r.open_on told m (comes_at k)))

      by_name : (session : BegunSession) (row : Resolved) (d : Full) → session.agreed ≡ w.tables.negotiated →
          Found w d state inode (fd_of row.form) → (found : Result (List ℕ) Errno) →
          IsHeldAs plan session.agreed name found →
          At j (allowed found (λ named. xattr_file plan session row inode (λ file.
          capability_cleared plan.capability file.fd file.through
          (sgid_killed (kills_sgid session.agreed extra named) file (setting file named))))) d last w' →
          IsFilledBy plan j.seat who asked state w last after w'
      by_name session row d z f (Err errno) is c =
          out (refused_from w d last w' f.calm.keeps (refused_with j d errno last w' (comes_at c)))
      by_name session row d z f (Ok held) is c =
          walk_xattr_file plan session j inode row _ w d last w' state g.shows n f c out (λ file e f k.
          walk_clear j plan.capability file.fd file.through _ w e (contents_at w) f.object last w' n f.open_on
          f.calm.keeps k (λ r. out (refused_from w e last w' f.calm.keeps r)) (λ y u k.
          setting_so held held_so file e y f u.alters
          (subst (λ (t : Tree). IsOpenOn t file.fd f.object) (sym u.tree) f.open_on)
          (subst (λ (x : Negotiated). At j (sgid_killed (kills_sgid x extra held) file (setting file held)) y last w')
          agreed k)))
        where
          agreed : session.agreed ≡ state.agreed
          agreed = z ∙ sym g.shows.agreed

          held_so : name_held plan state.agreed name ≡ Some held
          held_so = ap (λ (x : Negotiated). name_held plan x name) (sym agreed) ∙ is held refl
