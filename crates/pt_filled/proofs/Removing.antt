-- Proof. `removexattr`, and what a name has once it is taken away.
use Rattle.std.specs.List.{list_any}
use Rattle.std.proofs.Common.{[], ◌∷◌, ◌≡◌, ◌≢◌, ℕ, List, Bool, true, false, Option, Some, None, refl, sym, ap, subst}
use Rattle.std.proofs.Common.{◌∙◌, Result, Ok, Err, ◌==◌, is_none, is_some}
use Rattle.pt_host.specs.Contents.{ObjectContents}
use Rattle.pt_host.specs.Errno.{ebadf, einval, enodata, enosys}
use Rattle.pt_host.specs.Tree.{IsOpenOn}
use Rattle.pt_host.specs.declared.ids.Errno.{Errno}
use Rattle.pt_host.specs.declared.ids.Fd.{Fd}
use Rattle.pt_host.specs.declared.reply.HostValue.{HostValue}
use Rattle.pt_host.specs.declared.op.KeptHostOp.TheVariants as call
use Rattle.pt_host.specs.declared.reply.HostReply.TheVariants as host
use Rattle.pt_tables.specs.declared.form.Negotiated.{Negotiated}
use Rattle.pt_tables.specs.declared.reply.Resolved.{Resolved}
use Rattle.pt_iface.specs.declared.answer.Answer.{Answer}
use Rattle.pt_iface.specs.declared.request.Context.{Context}
use Rattle.pt_iface.specs.declared.request.Request.{Request}
use Rattle.pt_iface.specs.declared.answer.Answer.TheVariants as answer
use Rattle.pt_iface.specs.declared.request.Request.TheVariants as request
use Rattle.pt_frame.specs.Deed.{Calls}
use Rattle.pt_frame.specs.Tree.{Gives, RequestTree}
use Rattle.pt_frame.specs.declared.act.ActReply.{ActReply}
use Rattle.pt_frame.specs.declared.act.ActReply.TheVariants.{Event, Host, NoCopy}
use Rattle.pt_req.specs.Steps.{begin}
use Rattle.pt_req.specs.declared.begun.BegunSession.{BegunSession}
use Rattle.pt_req.specs.declared.plan.Plan.{Plan}
use Rattle.pt_attr.specs.Steps.{do_call}
use Rattle.pt_xattr.specs.Parts.{allowed, nul_free, with_xattr, xattr_file}
use Rattle.pt_xattr.specs.Requests.{removexattr}
use Rattle.pt_xattr.specs.declared.parts.XattrFile.{XattrFile}
use Rattle.pt_law.specs.World.{fd_of, made}
use Rattle.pt_node.specs.Attributes.{value_of}
use Rattle.pt_node.specs.Opening.{first_refusal}
use Rattle.pt_node.specs.declared.node.Node.{Node}
use Rattle.pt_node.specs.declared.slots.OpenFile.{OpenFile}
use Rattle.pt_rules.specs.AttributeCalls.{does_not_serve, remove_xattr_row}
use Rattle.pt_rules.specs.Rows.{Row}
use Rattle.pt_rules.specs.Sound.{IsSound}
use Rattle.pt_rules.specs.State.{contents_where, tree_of}
use Rattle.pt_plain.specs.Plain.{PlainTree}
use Rattle.pt_plain.proofs.Stilling.{IsStill}
use Rattle.pt_filled.specs.Contents.{valued, with_changed}
use Rattle.pt_filled.specs.Fills.{Fills}
use Rattle.pt_filled.specs.Told.{name_held}
use Rattle.pt_filled.proofs.Clearing.{values_without, within_at}
use Rattle.pt_filled.proofs.Effects.{objects_still, ok_has, rowed, row_there, same_parts}
use Rattle.pt_filled.proofs.Filling.{Between, become, filled, IsFilledBy, refused_fills}
use Rattle.pt_filled.proofs.Finding.{Found, same_at, walk_found}
use Rattle.pt_filled.proofs.Hosting.{Alters, alters_on, alters_then, contents_at, Full, Steps, Thread}
use Rattle.pt_filled.proofs.Parts.{At, comes_at, idles_calm, IsRefused, refused_from, refused_with, walk_begin, walk_do}
use Rattle.pt_filled.proofs.Parts.{walk_if, walk_unless}
use Rattle.pt_filled.proofs.Tables.{alters_row}
use Rattle.pt_filled.proofs.Threading.{Comes, Makes}
use Rattle.pt_filled.proofs.Valued.{IsHeldAs, walk_name, walk_xattr_file}

was_there : (there : Option (List ℕ)) (first : Bool) (x y : Errno) →
    first_refusal ((first, x) ∷ (is_none there, y) ∷ []) ≡ None → is_some there ≡ true
was_there None true x y e = absurd (cc)
was_there None false x y e = absurd (cc)
was_there (Some bytes) first x y e = refl

pub was_removed : (j : Thread) (w on : Full) (fd : Fd) (through : Bool) (name : List ℕ) (told : HostValue) (object : ℕ) →
    Steps j w (made (Calls (call.RemoveXattr fd through name)) (Host (host.Ok told))) on → IsSound w.state →
    IsOpenOn (tree_of w.state) fd object →
    (is_some ((contents_at w object).xattrs name) ≡ true)
    × Alters w on (with_changed object (valued name None) (contents_at w))
was_removed j w on fd through name told object s sound o =
    let row : OpenFile → Node → Row = remove_xattr_row w.state through name in
    let r = rowed j w on (call.RemoveXattr fd through name) fd row told refl (λ numbers. refl) s in
    let held = ap (λ (x : Option Node). (contents_where x).xattrs name) (row_there w on fd row told object r o) in
    let ordered = (sound.made r.ok.file.object r.ok.node r.ok.there).attributed in (
      ap is_some held ∙ was_there (value_of name r.ok.node.xattrs) (does_not_serve r.ok.file through) ebadf enodata
          r.ok.passes,
      alters_row w on fd row told r.after (valued name None) object
          (objects_still j w on (call.RemoveXattr fd through name) told tt (ok_has told) s) r.nodes r.ok o
          (same_parts (valued name None (contents_where (Some r.ok.node))) _ refl refl refl refl refl
          (values_without name r.ok.node.xattrs ordered)),
    )

pub still_removed : (fd : Fd) (through : Bool) (name : List ℕ) (told : ActReply) →
    IsStill (Calls (call.RemoveXattr fd through name)) told
still_removed fd through name (Host told) = tt
still_removed fd through name (Event told) = tt
still_removed fd through name NoCopy = tt

module _ (plan : Plan) (who : Context) (j : Thread) (w : Full) (last : Answer) (w' : Full) (state after : PlainTree)
    (g : Between w w' state after) (n : last ≢ answer.NoMemory) where
  pub fills_removexattr : (inode : ℕ) (name : List ℕ) → At j (begin (removexattr plan inode name)) w last w' →
      IsFilledBy plan j.seat who (request.RemoveXattr inode name) state w last after w'
  unfolding with_xattr nul_free allowed
  fills_removexattr inode name c =
      walk_begin j _ w last w' n c out (λ session b q z k.
      walk_unless j plan.config.xattr enosys _ b last w' k (λ r. out (refused_from w b last w' q.keeps r)) (λ can k.
      walk_if j (list_any (λ byte. byte == 0) name) einval _ b last w' k (λ r. out (refused_from w b last w' q.keeps
      r)) (λ k.
      walk_found j w last w' state g.shows n out inode _ b q k (λ row d f k.
      walk_name j plan session.agreed name _ d last w' k (λ found is k. by_name session row d z f found is k)))))
    where
      asked : Request
      asked = request.RemoveXattr inode name

      out : IsRefused w last w' → IsFilledBy plan j.seat who asked state w last after w'
      out = refused_fills plan j.seat who asked w w' state after last g.shows (λ k. k)

      removing : XattrFile → List ℕ → RequestTree
      removing file held = do_call (call.RemoveXattr file.fd file.through held) (Gives answer.Done)

      removes : (held : List ℕ) → name_held plan state.agreed name ≡ Some held → (file : XattrFile) (d e : Full)
          (f : Found w d state inode file.fd) (told : HostValue) →
          Makes j d (Calls (call.RemoveXattr file.fd file.through held)) (Host (host.Ok told)) e →
          Comes j (Gives answer.Done) e last w' → IsFilledBy plan j.seat who asked state w last after w'
      removes held is file d e f told m k =
          let sound = m.2.made.0.sound in
          let was = was_removed j d e file.fd file.through held told f.object m.2 sound f.open_on in
          let within = within_at w d (contents_at w) file.fd f.object f.calm.keeps sound f.open_on in
          let same = ap (λ (c : ObjectContents). is_some (c.xattrs held)) (same_at w d file.fd f.object f.calm sound
          f.open_on) in
          let whole = alters_on w d e (contents_at w) f.object (valued held None) within (λ p q z.
          ap (λ (c : ObjectContents). record (valued held None c) {
            atime = q.atime;
            mtime = q.mtime;
            ctime = q.ctime;
          }) z) f.calm.keeps was.1 in
          subst (λ (x : Answer). Fills plan j.seat who asked (filled state w) x (filled after w')) (sym k.0) (
            f.object,
            f.stands,
            (
              held,
              is,
              (
                sym same ∙ was.0,
                become w w' state after _ g.shows (alters_then w e w' _ whole (idles_calm j e w' k.1).keeps),
              ),
            ),
          )

      by_name : (session : BegunSession) (row : Resolved) (d : Full) → session.agreed ≡ w.tables.negotiated →
          Found w d state inode (fd_of row.form) → (found : Result (List ℕ) Errno) →
          IsHeldAs plan session.agreed name found →
          At j (allowed found (λ named. xattr_file plan session row inode (λ file. removing file named))) d last w' →
          IsFilledBy plan j.seat who asked state w last after w'
      by_name session row d z f (Err errno) is c =
          out (refused_from w d last w' f.calm.keeps (refused_with j d errno last w' (comes_at c)))
      by_name session row d z f (Ok held) is c =
          walk_xattr_file plan session j inode row _ w d last w' state g.shows n f c out (λ file e f k.
          walk_do j (call.RemoveXattr file.fd file.through held) (Gives answer.Done) e last w' n
          (λ told z. still_removed file.fd file.through held told) k
          (λ r. out (refused_from w e last w' f.calm.keeps r))
          (λ told x m k. removes held held_so file e x f told m (comes_at k)))
        where
          held_so : name_held plan state.agreed name ≡ Some held
          held_so = ap (λ (x : Negotiated). name_held plan x name) (g.shows.agreed ∙ sym z) ∙ is held refl
