-- Proof. `getxattr`, and by what an extended attribute is asked.
use Rattle.std.specs.Prelude.{if◌then◌else◌}
use Rattle.std.specs.List.{list_any}
use Rattle.std.proofs.Common.{[], ◌∷◌, ◌≡◌, ◌≢◌, ℕ, List, length, Bool, true, false, Option, Some, None, refl, sym}
use Rattle.std.proofs.Common.{ap, subst, ◌∙◌, Result, Ok, Err, ◌==◌, cond, ◌^◌, is_none, unwrap_or, nat_lt}
use Rattle.pt_host.specs.Contents.{ObjectContents}
use Rattle.pt_host.specs.Tree.{IsOpenOn}
use Rattle.pt_host.specs.Errno.{ebadf, eperm, enosys, eopnotsupp, einval, eoverflow}
use Rattle.pt_host.specs.LawfulContents.{empties}
use Rattle.pt_host.specs.declared.ids.Errno.{Errno}
use Rattle.pt_host.specs.declared.ids.Fd.{Fd}
use Rattle.pt_host.specs.declared.reply.HostValue.{HostValue}
use Rattle.pt_host.specs.declared.op.KeptHostOp.TheVariants as call
use Rattle.pt_host.specs.declared.reply.HostReply.TheVariants as host
use Rattle.pt_host.specs.declared.reply.HostValue.TheVariants as value
use Rattle.pt_maps.specs.MappedNames.{client_name}
use Rattle.pt_maps.specs.declared.xattr_map.AppliedRule.{AppliedRule}
use Rattle.pt_maps.specs.declared.xattr_rule.XattrRule.{XattrRule}
use Rattle.pt_maps.specs.declared.xattr_map.AppliedRule.TheVariants as applied
use Rattle.pt_tables.specs.declared.form.Negotiated.{Negotiated}
use Rattle.pt_tables.specs.declared.form.RowForm.{RowForm}
use Rattle.pt_tables.specs.declared.form.RowForm.TheVariants.{File}
use Rattle.pt_tables.specs.declared.reply.Resolved.{Resolved}
use Rattle.pt_iface.specs.declared.answer.Answer.{Answer}
use Rattle.pt_iface.specs.declared.request.Context.{Context}
use Rattle.pt_iface.specs.declared.request.Request.{Request}
use Rattle.pt_iface.specs.declared.answer.GetxattrReply.{GetxattrReply}
use Rattle.pt_iface.specs.declared.answer.Answer.TheVariants as answer
use Rattle.pt_iface.specs.declared.request.Request.TheVariants as request
use Rattle.pt_iface.specs.declared.answer.GetxattrReply.TheVariants as xattr
use Rattle.pt_frame.specs.Deed.{Calls}
use Rattle.pt_frame.specs.Tree.{Gives, RequestTree}
use Rattle.pt_frame.specs.declared.act.ActReply.{ActReply}
use Rattle.pt_frame.specs.declared.act.ActReply.TheVariants.{Event, Host, NoCopy}
use Rattle.pt_req.specs.Steps.{begin, resolve}
use Rattle.pt_req.specs.Entries.{can_open}
use Rattle.pt_req.specs.Options.{inode_flags, without_nofollow}
use Rattle.pt_req.specs.Parts.{open_form, open_inode, open_row, file_of}
use Rattle.pt_req.specs.Attributes.{by_rule, by_rules, host_name, is_blocked}
use Rattle.pt_req.specs.declared.begun.BegunSession.{BegunSession}
use Rattle.pt_req.specs.declared.plan.Plan.{Plan}
use Rattle.pt_req.specs.declared.plan.Config.{Config}
use Rattle.pt_attr.specs.Steps.{count_in}
use Rattle.pt_xattr.specs.Parts.{allowed_to_read, as_missing, file_by, nul_free, value_length, value_told}
use Rattle.pt_xattr.specs.Parts.{value_whole, with_xattr, xattr_file}
use Rattle.pt_xattr.specs.Requests.{getxattr}
use Rattle.pt_xattr.specs.declared.parts.XattrFile.{XattrFile}
use Rattle.pt_law.specs.World.{made, fd_of}
use Rattle.pt_node.specs.Attributes.{value_of}
use Rattle.pt_node.specs.Opening.{first_refusal}
use Rattle.pt_node.specs.declared.node.Node.{Node}
use Rattle.pt_rules.specs.State.{contents_where, tree_of}
use Rattle.pt_rules.specs.AttributeCalls.{get_xattr_row, sized}
use Rattle.pt_plain.specs.Plain.{PlainTree}
use Rattle.pt_plain.proofs.Showing.{Shows}
use Rattle.pt_plain.proofs.Stilling.{IsStill}
use Rattle.pt_plain.proofs.Walking.{some_is}
use Rattle.pt_filled.specs.Fills.{Fills}
use Rattle.pt_filled.specs.Told.{held_by, name_held, passed, TellsValue}
use Rattle.pt_filled.proofs.Effects.{rowed, row_there}
use Rattle.pt_filled.proofs.Filling.{Between, filled, IsFilledBy, refused_fills, stay}
use Rattle.pt_filled.proofs.Finding.{Found, same_at, walk_found}
use Rattle.pt_filled.proofs.Hosting.{Full, Keeps, Steps, Thread, contents_at, world_of}
use Rattle.pt_filled.proofs.Parts.{At, Calm, IsRefused, Leaves, comes_at, idles_calm, keeps_on, leaves_read}
use Rattle.pt_filled.proofs.Parts.{refused_from, walk_begin, walk_bytes, walk_read, calm_on, walk_reopen, walk_unless}
use Rattle.pt_filled.proofs.Parts.{calm_goes, refused_with, walk_file, At.{by}, walk_if}
use Rattle.pt_filled.proofs.Threading.{Comes, Makes}
use Rattle.pt_filled.proofs.Setting.{opened_anew}
use Rattle.pt_filled.proofs.Tails.{reopen_leaves}

-- the host's name of a guest's, where it may be used
abbrev pub IsHeldAs : Plan → Negotiated → List ℕ → Result (List ℕ) Errno → Type 0
IsHeldAs plan agreed name found = (held : List ℕ) → found ≡ Ok held → name_held plan agreed name ≡ Some held

walk_rule : {G : Type 0} (j : Thread) (fate : Option AppliedRule) (next : Result (List ℕ) Errno → RequestTree) (w :
    Full)
    (last : Answer) (w' : Full) → At j (by_rule fate next) w last w' →
    ((found : Result (List ℕ) Errno) → ((held : List ℕ) → found ≡ Ok held → passed fate ≡ Some held) →
    At j (next found) w last w' → G) → G
walk_rule j (Some (applied.Pass made)) next w last w' (by c) goes =
    goes (Ok made) (λ held e. ap (λ (x : List ℕ). Some x) (same_ok e)) (by c)
  where
    same_ok : {one other : List ℕ} → ◌≡◌ {A = Result (List ℕ) Errno} (Ok one) (Ok other) → one ≡ other
    same_ok e = cc
walk_rule j (Some applied.Deny) next w last w' c goes = goes (Err eperm) (λ held e. absurd (cc)) c
walk_rule j (Some applied.Unsupported) next w last w' c goes = goes (Err eopnotsupp) (λ held e. absurd (cc)) c
walk_rule j None next w last w' c goes = goes (Err eopnotsupp) (λ held e. absurd (cc)) c

walk_rules : {G : Type 0} (j : Thread) (rules : Option (List XattrRule)) (name : List ℕ)
    (next : Result (List ℕ) Errno → RequestTree) (w : Full) (last : Answer) (w' : Full) →
    At j (by_rules rules name next) w last w' →
    ((found : Result (List ℕ) Errno) → ((held : List ℕ) → found ≡ Ok held → held_by rules name ≡ Some held) →
    At j (next found) w last w' → G) → G
walk_rules j None name next w last w' c goes = goes (Ok name) (λ held e. ap (λ (x : List ℕ). Some x) (same_ok e)) c
  where
    same_ok : {one other : List ℕ} → ◌≡◌ {A = Result (List ℕ) Errno} (Ok one) (Ok other) → one ≡ other
    same_ok e = cc
walk_rules j (Some rules) name next w last w' c goes = walk_rule j (client_name rules name) next w last w' c goes

pub walk_name : {G : Type 0} (j : Thread) (plan : Plan) (agreed : Negotiated) (name : List ℕ)
    (next : Result (List ℕ) Errno → RequestTree) (w : Full) (last : Answer) (w' : Full) →
    At j (host_name plan agreed name next) w last w' →
    ((found : Result (List ℕ) Errno) → IsHeldAs plan agreed name found → At j (next found) w last w' → G) → G
unfolding host_name
walk_name {G} j plan agreed name next w last w' c goes = go (is_blocked agreed name) c goes
  where
    go : (b : Bool) → At j (if b then next (Err eopnotsupp) else by_rules plan.config.xattrmap name next) w last w' →
        ((found : Result (List ℕ) Errno) → ((held : List ℕ) → found ≡ Ok held →
        (if b then None else held_by plan.config.xattrmap name) ≡ Some held) → At j (next found) w last w' → G) → G
    go true c goes = goes (Err eopnotsupp) (λ held e. absurd (cc)) c
    go false c goes = walk_rules j plan.config.xattrmap name next w last w' c goes

-- the flags with which an attribute's object is opened, `O_RDONLY | O_NONBLOCK`
reads : (config : Config) (agreed : Negotiated) → empties (without_nofollow (inode_flags config agreed 2048)) ≡ false
reads config agreed = by agreed.writeback config.allow_direct_io
  where
    by : (written direct : Bool) → empties (without_nofollow (inode_flags (record config { allow_direct_io = direct })
        (record agreed { writeback = written }) 2048)) ≡ false
    by false false = refl
    by false true = refl
    by true false = refl
    by true true = refl

-- what the attribute is asked by is open on the number's object
pub walk_xattr_file : {G : Type 0} (plan : Plan) (session : BegunSession) (j : Thread) (number : ℕ) (row : Resolved)
    (next : XattrFile → RequestTree) (w d : Full) (last : Answer) (w' : Full) (state : PlainTree) →
    Shows (world_of w) state → last ≢ answer.NoMemory → Found w d state number (fd_of row.form) →
    At j (xattr_file plan session row number next) d last w' → (IsRefused w last w' → G) →
    ((file : XattrFile) (e : Full) → Found w e state number file.fd → At j (next file) e last w' → G) → G
unfolding xattr_file open_row
walk_xattr_file {G} plan session j number row next w d last w' state s n f c out goes = go (can_open row.mode) c
  where
    flags : ℕ
    flags = inode_flags plan.config session.agreed 2048

    opens : (row : Resolved) (e : Full) → Found w e state number (fd_of row.form) → (form : RowForm) → row.form ≡ form →
        At j (open_form form flags (λ fd. next (file_by false fd))) e last w' → G
    opens row e f (File fd) same c =
        walk_reopen j fd (without_nofollow flags) _ e last w' n c (λ r. out (refused_from w e last w' f.calm.keeps r))
        (λ new h m k.
        let l = reopen_leaves fd (without_nofollow flags) (reads plan.config session.agreed)
        (Host (host.Ok (value.Fd new))) in
        let o = subst (λ (form : RowForm). IsOpenOn (world_of e).tree (fd_of form) f.object) same f.open_on in
        goes (file_by false new) h (record {
          calm = calm_on w e h f.calm (calm_goes j e h (Calls (call.Reopen fd (without_nofollow flags))) _ m l.0 l.1
              tt (λ fd e. cc));
          object = f.object;
          stands = f.stands;
          open_on = opened_anew j e h fd new f.object (without_nofollow flags) m o;
        }) k)

    go : (can : Bool) → At j (if can then open_inode plan session number 2048 (λ fd. next (file_by false fd))
        else file_of row.form (λ fd. next (file_by true fd))) d last w' → G
    go true c =
        walk_found j w last w' state s n out number _ d f.calm c (λ row e f c.
        walk_unless j (can_open row.mode) ebadf (open_form row.form flags (λ fd. next (file_by false fd))) e last w' c
        (λ r. out (refused_from w e last w' f.calm.keeps r)) (λ can c. opens row e f row.form refl c))
    go false c =
        walk_file j row.form (λ fd. next (file_by true fd)) d last w' c (λ c. goes (file_by true (fd_of row.form)) d f
        c)

get_leaves : (fd : Fd) (through : Bool) (name : List ℕ) (size : ℕ) (told : ActReply) →
    Leaves (Calls (call.GetXattr fd through name size)) told
get_leaves fd through name size = leaves_read (call.GetXattr fd through name size) still (λ told tree after object no.
    no)
  where
    still : (told : ActReply) → IsStill (Calls (call.GetXattr fd through name size)) told
    still (Host told) = tt
    still (Event told) = tt
    still NoCopy = tt

pub present : (there : Option (List ℕ)) (first later : Bool) (x y z : Errno) →
    first_refusal ((first, x) ∷ (is_none there, y) ∷ (later, z) ∷ []) ≡ None → (bytes : List ℕ) × (there ≡ Some bytes)
present None true later x y z e = absurd (cc)
present None false later x y z e = absurd (cc)
present (Some bytes) first later x y z e = (bytes, refl)

-- it is there, and told as the size asks
was_valued : (j : Thread) (w on : Full) (fd : Fd) (through : Bool) (name : List ℕ) (size : ℕ) (told : HostValue)
    (object : ℕ) → Steps j w (made (Calls (call.GetXattr fd through name size)) (Host (host.Ok told))) on →
    IsOpenOn (tree_of w.state) fd object →
    (bytes : List ℕ) × ((contents_at w object).xattrs name ≡ Some bytes) × (told ≡ sized size bytes)
was_valued j w on fd through name size told object s o =
    let r = rowed j w on (call.GetXattr fd through name size) fd (get_xattr_row through name size) told refl
    (λ numbers. refl) s in
    let held = ap (λ (x : Option Node). (contents_where x).xattrs name)
    (row_there w on fd (get_xattr_row through name size) told object r o) in
    let p = present (value_of name r.ok.node.xattrs) _ _ _ _ _ r.ok.passes in (
      p.0,
      held ∙ p.1,
      r.ok.tells ∙ ap (λ (x : Option (List ℕ)). sized size (unwrap_or x [])) p.1,
    )

pub sized_count : (size : ℕ) (bytes : List ℕ) (count : ℕ) → value.Count count ≡ sized size bytes →
    (size == 0) ≡ true → count ≡ length bytes
sized_count size bytes count e z = same (e ∙ ap (λ (b : Bool). cond b (value.Count (length bytes)) (value.Bytes
    bytes)) z)
  where
    same : {one other : ℕ} → value.Count one ≡ value.Count other → one ≡ other
    same e = cc

pub sized_bytes : (size : ℕ) (bytes told : List ℕ) → value.Bytes told ≡ sized size bytes → (size == 0) ≡ false →
    told ≡ bytes
sized_bytes size bytes told e z =
    same (e ∙ ap (λ (b : Bool). cond b (value.Count (length bytes)) (value.Bytes bytes)) z)
  where
    same : {one other : List ℕ} → value.Bytes one ≡ value.Bytes other → one ≡ other
    same e = cc

module _ (plan : Plan) (who : Context) (j : Thread) (w : Full) (last : Answer) (w' : Full) (state after : PlainTree)
    (g : Between w w' state after) (n : last ≢ answer.NoMemory) where
  pub fills_getxattr : (inode : ℕ) (name : List ℕ) (size : ℕ) → At j (begin (getxattr plan inode name size)) w last w' →
      IsFilledBy plan j.seat who (request.GetXattr inode name size) state w last after w'
  unfolding with_xattr nul_free allowed_to_read value_told
  fills_getxattr inode name size c =
      walk_begin j _ w last w' n c out (λ session b q z k.
      walk_unless j plan.config.xattr enosys _ b last w' k (λ r. out (refused_from w b last w' q.keeps r)) (λ can k.
      walk_if j (list_any (λ byte. byte == 0) name) einval _ b last w' k (λ r. out (refused_from w b last w' q.keeps
      r)) (λ k.
      walk_name j plan session.agreed name _ b last w' k (λ found is k. by_name session b q z found is k))))
    where
      asked : Request
      asked = request.GetXattr inode name size

      out : IsRefused w last w' → IsFilledBy plan j.seat who asked state w last after w'
      out = refused_fills plan j.seat who asked w w' state after last g.shows (λ k. k)

      tells : (d e : Full) (file : XattrFile) (held : List ℕ) (told : HostValue) (f : Found w d state inode file.fd) →
          name_held plan state.agreed name ≡ Some held →
          Makes j d (Calls (call.GetXattr file.fd file.through held size)) (Host (host.Ok told)) e → Keeps d e →
          (reply : GetxattrReply) → ((bytes : List ℕ) → told ≡ sized size bytes → TellsValue size bytes reply) →
          Comes j (Gives (answer.Xattr reply)) e last w' → IsFilledBy plan j.seat who asked state w last after w'
      tells d e file held told f is m kept reply so k =
          let v = was_valued j d e file.fd file.through held size told f.object m.2 f.open_on in
          let same = ap (λ (c : ObjectContents). c.xattrs held) (same_at w d file.fd f.object f.calm m.2.made.0.sound
          f.open_on) in
          subst (λ (x : Answer). Fills plan j.seat who asked (filled state w) x (filled after w')) (sym k.0) (
            (f.object, f.stands, (held, is, (v.0, sym same ∙ v.1, so v.0 v.2))),
            stay w w' state after g.shows (keeps_on w d w' f.calm.keeps (keeps_on d e w' kept (idles_calm j e w'
                k.1).keeps)),
          )

      length_told : (d : Full) (file : XattrFile) (held : List ℕ) → Found w d state inode file.fd →
          name_held plan state.agreed name ≡ Some held → (size == 0) ≡ true →
          At j (value_length file held size) d last w' → IsFilledBy plan j.seat who asked state w last after w'
      length_told d file held f is z c =
          walk_read j (call.GetXattr file.fd file.through held size) count_in _ d last w' n
          (get_leaves file.fd file.through held size) ok c (λ r. out (refused_from w d last w' f.calm.keeps r))
          (λ count said e q m kept k. by_count count said e q m kept (nat_lt count (2 ^ 32)) k)
        where
          ok : (told : ActReply) (count : ℕ) → count_in told ≡ Some count → (said : HostValue) × (told ≡ Host (host.Ok
              said))
          ok (Host (host.Ok said)) count e = (said, refl)
          ok told count e = absurd (cc)

          by_count : (count : ℕ) (said : HostValue) (e : Full) → count_in (Host (host.Ok said)) ≡ Some count →
              Makes j d (Calls (call.GetXattr file.fd file.through held size)) (Host (host.Ok said)) e → Keeps d e →
              (fits : Bool) → At j (Gives (if fits then answer.Xattr (xattr.Count count)
              else answer.Refused eoverflow)) e last w' → IsFilledBy plan j.seat who asked state w last after w'
          by_count count (value.Count told) e q m kept true k =
              tells d e file held (value.Count told) f is m kept (xattr.Count count)
              (λ bytes same. ap (λ (x : ℕ). xattr.Count x) (sym (some_is q) ∙ sized_count size bytes told same z)
              ∙ sym (ap (λ (b : Bool). cond b (xattr.Count (length bytes)) (xattr.Value bytes)) z)) (comes_at k)
          by_count count (value.Count told) e q m kept false k =
              out (refused_from w d last w' f.calm.keeps (refused_from d e last w' kept
              (refused_with j e eoverflow last w' (comes_at k))))
          by_count count said e q m kept fits k = absurd (cc)

      value_read : (d : Full) (file : XattrFile) (held : List ℕ) → Found w d state inode file.fd →
          name_held plan state.agreed name ≡ Some held → (size == 0) ≡ false →
          At j (value_whole file held size) d last w' → IsFilledBy plan j.seat who asked state w last after w'
      value_read d file held f is z c =
          walk_bytes j (call.GetXattr file.fd file.through held size) _ d last w' n
          (get_leaves file.fd file.through held size) c (λ r. out (refused_from w d last w' f.calm.keeps r))
          (λ bytes e m kept k.
          tells d e file held (value.Bytes bytes) f is m kept (xattr.Value bytes)
          (λ there same. ap (λ (x : List ℕ). xattr.Value x) (sized_bytes size there bytes same z)
          ∙ sym (ap (λ (b : Bool). cond b (xattr.Count (length there)) (xattr.Value there)) z)) (comes_at k))

      by_size : (d : Full) (file : XattrFile) (held : List ℕ) → Found w d state inode file.fd →
          name_held plan state.agreed name ≡ Some held → (b : Bool) → (size == 0) ≡ b →
          At j (if b then value_length file held size else value_whole file held size) d last w' →
          IsFilledBy plan j.seat who asked state w last after w'
      by_size d file held f is true z c = length_told d file held f is z c
      by_size d file held f is false z c = value_read d file held f is z c

      by_name : (session : BegunSession) (b : Full) → Calm w b → session.agreed ≡ w.tables.negotiated →
          (found : Result (List ℕ) Errno) → IsHeldAs plan session.agreed name found →
          At j (allowed_to_read found (λ named. resolve inode (λ row. xattr_file plan session row inode (λ file.
          value_told file named size)))) b last w' → IsFilledBy plan j.seat who asked state w last after w'
      by_name session b q z (Err errno) is c =
          out (refused_from w b last w' q.keeps (refused_with j b (as_missing errno) last w' (comes_at c)))
      by_name session b q z (Ok held) is c =
          walk_found j w last w' state g.shows n out inode _ b q c (λ row d f k.
          walk_xattr_file plan session j inode row _ w d last w' state g.shows n f k out (λ file e f k.
          by_size e file held f (ap (λ (x : Negotiated). name_held plan x name) (g.shows.agreed ∙ sym z) ∙ is held refl)
          (size == 0) refl k))
