-- Proof. `listxattr`: the names of all extended attributes of an object.
use Rattle.std.specs.Prelude.{◌||◌, if◌then◌else◌}
use Rattle.std.specs.List.{list_any}
use Rattle.std.specs.Map.{keys_of}
use Rattle.std.specs.Str.{bytes_eq}
use Rattle.std.proofs.Common.{[], ◌∷◌, ◌≡◌, ◌≢◌, ℕ, List, length, Bool, true, false, Option, Some, refl, sym, ap}
use Rattle.std.proofs.Common.{subst, ◌∙◌, ◌==◌, cond, ◌^◌, is_some, nat_lt}
use Rattle.pt_host.specs.Contents.{ObjectContents}
use Rattle.pt_host.specs.Errno.{enosys, eoverflow}
use Rattle.pt_host.specs.Tree.{IsOpenOn}
use Rattle.pt_host.specs.declared.ids.Fd.{Fd}
use Rattle.pt_host.specs.declared.reply.HostValue.{HostValue}
use Rattle.pt_host.specs.declared.op.KeptHostOp.TheVariants as call
use Rattle.pt_host.specs.declared.reply.HostReply.TheVariants as host
use Rattle.pt_host.specs.declared.reply.HostValue.TheVariants as value
use Rattle.pt_tables.specs.declared.form.Negotiated.{Negotiated}
use Rattle.pt_iface.specs.declared.answer.Answer.{Answer}
use Rattle.pt_iface.specs.declared.answer.ListxattrReply.{ListxattrReply}
use Rattle.pt_iface.specs.declared.request.Context.{Context}
use Rattle.pt_iface.specs.declared.request.Request.{Request}
use Rattle.pt_iface.specs.declared.answer.Answer.TheVariants as answer
use Rattle.pt_iface.specs.declared.answer.ListxattrReply.TheVariants as xattrs
use Rattle.pt_iface.specs.declared.request.Request.TheVariants as request
use Rattle.pt_frame.specs.Deed.{Calls}
use Rattle.pt_frame.specs.Tree.{Gives}
use Rattle.pt_frame.specs.declared.act.ActReply.{ActReply}
use Rattle.pt_frame.specs.declared.act.ActReply.TheVariants.{Event, Host, NoCopy}
use Rattle.pt_req.specs.Steps.{begin}
use Rattle.pt_req.specs.declared.plan.Plan.{Plan}
use Rattle.pt_attr.specs.Steps.{count_in}
use Rattle.pt_xattr.specs.Listed.{names_told}
use Rattle.pt_xattr.specs.Parts.{list_length, list_told, list_whole, names_made, with_xattr}
use Rattle.pt_xattr.specs.Requests.{listxattr}
use Rattle.pt_xattr.specs.declared.parts.XattrFile.{XattrFile}
use Rattle.pt_law.specs.World.{made}
use Rattle.pt_node.specs.Attributes.{names_listed, value_of}
use Rattle.pt_node.specs.declared.node.Node.{Node}
use Rattle.pt_node.specs.declared.slots.OpenFile.{OpenFile}
use Rattle.pt_rules.specs.AttributeCalls.{list_xattr_row, sized}
use Rattle.pt_rules.specs.Rows.{Row}
use Rattle.pt_rules.specs.Sound.{AreOrdered, IsSound}
use Rattle.pt_rules.specs.State.{contents_where, tree_of}
use Rattle.pt_rules.specs.Laws.NameTable.{distinct}
use Rattle.pt_plain.specs.Plain.{PlainTree}
use Rattle.pt_plain.proofs.Stilling.{IsStill}
use Rattle.pt_plain.proofs.Walking.{some_is}
use Rattle.pt_filled.specs.Fills.{Fills}
use Rattle.pt_filled.proofs.Effects.{rowed, row_there}
use Rattle.pt_filled.proofs.Filling.{Between, filled, IsFilledBy, refused_fills, stay}
use Rattle.pt_filled.proofs.Finding.{Found, same_at, walk_found}
use Rattle.pt_filled.proofs.Hosting.{contents_at, Full, Keeps, Steps, Thread}
use Rattle.pt_filled.proofs.Parts.{At, At.{by}, comes_at, idles_calm, IsRefused, keeps_on, Leaves, leaves_read}
use Rattle.pt_filled.proofs.Parts.{refused_from, refused_with, walk_begin, walk_bytes, walk_read, walk_unless}
use Rattle.pt_filled.proofs.Threading.{Comes, Makes}
use Rattle.pt_filled.proofs.Valued.{sized_bytes, sized_count, walk_xattr_file}

-- a name is one of the keys where it has a value
has_where : (b any : Bool) (bytes : List ℕ) (later : Option (List ℕ)) → any ≡ is_some later →
    (b || any) ≡ is_some (cond b (Some bytes) later)
has_where true any bytes later e = refl
has_where false any bytes later e = e

keys_have : (name : List ℕ) (values : List (List ℕ × List ℕ)) →
    list_any (bytes_eq name) (keys_of values) ≡ is_some (value_of name values)
keys_have name [] = refl
keys_have name (entry ∷ values) =
    has_where (bytes_eq name entry.0) (list_any (bytes_eq name) (keys_of values)) entry.1 (value_of name values)
    (keys_have name values)

-- the attributes that the object has, and what is told of their names
record Listed (d : Full) (size : ℕ) (told : HostValue) (object : ℕ) : Type 0 where
  values : List (List ℕ × List ℕ)
  ordered : AreOrdered values
  has : (contents_at d object).xattrs ≡ (λ name. value_of name values)
  is : told ≡ sized size (names_listed values)

was_listed : (j : Thread) (d on : Full) (fd : Fd) (through : Bool) (size : ℕ) (told : HostValue) (object : ℕ) →
    Steps j d (made (Calls (call.ListXattr fd through size)) (Host (host.Ok told))) on → IsSound d.state →
    IsOpenOn (tree_of d.state) fd object → Listed d size told object
was_listed j d on fd through size told object s sound o =
    let row : OpenFile → Node → Row = list_xattr_row through size in
    let r = rowed j d on (call.ListXattr fd through size) fd row told refl (λ numbers. refl) s in record {
      values = r.ok.node.xattrs;
      ordered = (sound.made r.ok.file.object r.ok.node r.ok.there).attributed;
      has = ap (λ (x : Option Node). (contents_where x).xattrs) (row_there d on fd row told object r o);
      is = r.ok.tells;
    }

list_leaves : (fd : Fd) (through : Bool) (size : ℕ) (told : ActReply) →
    Leaves (Calls (call.ListXattr fd through size)) told
list_leaves fd through size told = leaves_read (call.ListXattr fd through size) still (λ told tree after object no.
    no) told
  where
    still : (told : ActReply) → IsStill (Calls (call.ListXattr fd through size)) told
    still (Host told) = tt
    still (Event told) = tt
    still NoCopy = tt

-- what is told of names that stand in a list
abbrev TellsList : Plan → Negotiated → ℕ → List ℕ → ListxattrReply → Type 0
TellsList plan agreed size list reply =
    reply ≡ (if size == 0 then xattrs.Count (length list) else xattrs.Names (names_told plan agreed list))

module _ (plan : Plan) (who : Context) (j : Thread) (w : Full) (last : Answer) (w' : Full) (state after : PlainTree)
    (g : Between w w' state after) (n : last ≢ answer.NoMemory) where
  pub fills_listxattr : (inode size : ℕ) → At j (begin (listxattr plan inode size)) w last w' →
      IsFilledBy plan j.seat who (request.ListXattr inode size) state w last after w'
  unfolding with_xattr list_told
  fills_listxattr inode size c =
      walk_begin j _ w last w' n c out (λ session b q z k.
      walk_unless j plan.config.xattr enosys _ b last w' k (λ r. out (refused_from w b last w' q.keeps r)) (λ can k.
      walk_found j w last w' state g.shows n out inode _ b q k (λ row d f k.
      walk_xattr_file plan session j inode row _ w d last w' state g.shows n f k out (λ file e f k.
      by_size e file f (size == 0) refl
      (subst (λ (x : Negotiated). At j (if size == 0 then list_length file size else list_whole plan x file size) e last
      w') (z ∙ sym g.shows.agreed) k)))))
    where
      asked : Request
      asked = request.ListXattr inode size

      out : IsRefused w last w' → IsFilledBy plan j.seat who asked state w last after w'
      out = refused_fills plan j.seat who asked w w' state after last g.shows (λ k. k)

      tells : (d e : Full) (file : XattrFile) (told : HostValue) (f : Found w d state inode file.fd) →
          Makes j d (Calls (call.ListXattr file.fd file.through size)) (Host (host.Ok told)) e → Keeps d e →
          (reply : ListxattrReply) → ((list : List ℕ) → told ≡ sized size list →
          TellsList plan state.agreed size list reply) →
          Comes j (Gives (answer.Xattrs reply)) e last w' → IsFilledBy plan j.seat who asked state w last after w'
      tells d e file told f m kept reply so k =
          let sound = m.2.made.0.sound in
          let v = was_listed j d e file.fd file.through size told f.object m.2 sound f.open_on in
          let same = ap (λ (c : ObjectContents). c.xattrs) (same_at w d file.fd f.object f.calm sound f.open_on) in
          subst (λ (x : Answer). Fills plan j.seat who asked (filled state w) x (filled after w')) (sym k.0) (
            (
              f.object,
              f.stands,
              (
                keys_of v.values,
                (
                  distinct v.values v.ordered,
                  λ name. keys_have name v.values
                      ∙ sym (ap (λ (x : List ℕ → Option (List ℕ)). is_some (x name)) (sym same ∙ v.has)),
                ),
                so (names_listed v.values) v.is,
              ),
            ),
            stay w w' state after g.shows (keeps_on w d w' f.calm.keeps (keeps_on d e w' kept (idles_calm j e w'
                k.1).keeps)),
          )

      length_told : (d : Full) (file : XattrFile) → Found w d state inode file.fd → (size == 0) ≡ true →
          At j (list_length file size) d last w' → IsFilledBy plan j.seat who asked state w last after w'
      length_told d file f z c =
          walk_read j (call.ListXattr file.fd file.through size) count_in _ d last w' n
          (list_leaves file.fd file.through size) ok c (λ r. out (refused_from w d last w' f.calm.keeps r))
          (λ count said e q m kept k. by_count count said e q m kept (nat_lt count (2 ^ 32)) k)
        where
          ok : (told : ActReply) (count : ℕ) → count_in told ≡ Some count → (said : HostValue) × (told ≡ Host (host.Ok
              said))
          ok (Host (host.Ok said)) count e = (said, refl)
          ok told count e = absurd (cc)

          by_count : (count : ℕ) (said : HostValue) (e : Full) → count_in (Host (host.Ok said)) ≡ Some count →
              Makes j d (Calls (call.ListXattr file.fd file.through size)) (Host (host.Ok said)) e → Keeps d e →
              (fits : Bool) → At j (Gives (if fits then answer.Xattrs (xattrs.Count count)
              else answer.Refused eoverflow)) e last w' → IsFilledBy plan j.seat who asked state w last after w'
          by_count count (value.Count told) e q m kept true k =
              tells d e file (value.Count told) f m kept (xattrs.Count count)
              (λ list same. ap (λ (x : ℕ). xattrs.Count x) (sym (some_is q) ∙ sized_count size list told same z)
              ∙ sym (ap (λ (b : Bool). cond b (xattrs.Count (length list))
              (xattrs.Names (names_told plan state.agreed list))) z)) (comes_at k)
          by_count count (value.Count told) e q m kept false k =
              out (refused_from w d last w' f.calm.keeps (refused_from d e last w' kept
              (refused_with j e eoverflow last w' (comes_at k))))
          by_count count said e q m kept fits k = absurd (cc)

      -- what the names are made of takes no step
      names_whole : (d e : Full) (file : XattrFile) (list : List ℕ) → Found w d state inode file.fd →
          (size == 0) ≡ false →
          Makes j d (Calls (call.ListXattr file.fd file.through size)) (Host (host.Ok (value.Bytes list))) e →
          Keeps d e → At j (names_made plan state.agreed list) e last w' →
          IsFilledBy plan j.seat who asked state w last after w'
      names_whole d e file list f z m kept (by c) =
          tells d e file (value.Bytes list) f m kept (xattrs.Names (names_told plan state.agreed list))
          (λ there same. ap (λ (x : List ℕ). xattrs.Names (names_told plan state.agreed x))
          (sized_bytes size there list same z)
          ∙ sym (ap (λ (b : Bool). cond b (xattrs.Count (length there))
          (xattrs.Names (names_told plan state.agreed there))) z)) c

      by_size : (d : Full) (file : XattrFile) → Found w d state inode file.fd → (b : Bool) → (size == 0) ≡ b →
          At j (if b then list_length file size else list_whole plan state.agreed file size) d last w' →
          IsFilledBy plan j.seat who asked state w last after w'
      by_size d file f true z c = length_told d file f z c
      by_size d file f false z c =
          walk_bytes j (call.ListXattr file.fd file.through size) _ d last w' n
          (list_leaves file.fd file.through size) c (λ r. out (refused_from w d last w' f.calm.keeps r))
          (λ list e m kept k. names_whole d e file list f z m kept k)
