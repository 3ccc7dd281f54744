-- Proof. Requests that tell what is there, and change nothing.
use Rattle.std.specs.Prelude.{take, drop}
use Rattle.std.proofs.Common.{◌≡◌, ◌≢◌, ℕ, ℤ, List, Bool, true, false, Option, Some, refl, sym, ap, subst, ◌∙◌}
use Rattle.pt_host.specs.Contents.{ObjectContents}
use Rattle.pt_host.specs.Tree.{IsOpenOn}
use Rattle.pt_host.specs.declared.ids.Fd.{Fd}
use Rattle.pt_host.specs.declared.reply.HostValue.{HostValue}
use Rattle.pt_host.specs.declared.stat.FsStat.{FsStat}
use Rattle.pt_host.specs.declared.stat.Stat.{Stat}
use Rattle.pt_host.specs.declared.op.KeptHostOp.TheVariants as call
use Rattle.pt_host.specs.declared.reply.HostReply.TheVariants as host
use Rattle.pt_host.specs.declared.reply.HostValue.TheVariants as value
use Rattle.pt_iface.specs.declared.answer.Answer.{Answer}
use Rattle.pt_iface.specs.declared.request.Context.{Context}
use Rattle.pt_iface.specs.declared.request.Request.{Request}
use Rattle.pt_iface.specs.declared.answer.Answer.TheVariants as answer
use Rattle.pt_iface.specs.declared.request.Request.TheVariants as request
use Rattle.pt_frame.specs.Deed.{Calls}
use Rattle.pt_frame.specs.Tree.{Gives}
use Rattle.pt_frame.specs.declared.act.ActReply.{ActReply}
use Rattle.pt_frame.specs.declared.act.ActReply.TheVariants.{Event, Host, NoCopy}
use Rattle.pt_req.specs.Entries.{attr_of}
use Rattle.pt_req.specs.Requests.{read}
use Rattle.pt_req.specs.Steps.{begin}
use Rattle.pt_req.specs.declared.plan.Plan.{Plan}
use Rattle.pt_attr.specs.Access.{is_granted}
use Rattle.pt_attr.specs.Requests.{access, allowed, getattr, readlink, statfs}
use Rattle.pt_attr.specs.Steps.{fs_stat_in}
use Rattle.pt_law.specs.World.{made}
use Rattle.pt_node.specs.declared.node.Node.{Node}
use Rattle.pt_rules.specs.OpeningCalls.{read_link_row, stat_fs_row}
use Rattle.pt_rules.specs.State.{contents_where, tree_of}
use Rattle.pt_plain.specs.Plain.{PlainTree}
use Rattle.pt_plain.proofs.Stilling.{IsStill}
use Rattle.pt_plain.proofs.Walking.{some_is}
use Rattle.pt_filled.specs.Accesses.{reads}
use Rattle.pt_filled.specs.Contents.{AllStay}
use Rattle.pt_filled.specs.Fills.{Fills}
use Rattle.pt_filled.specs.Told.{TellsFs}
use Rattle.pt_filled.proofs.Effects.{rowed, row_there, was_read, was_seen}
use Rattle.pt_filled.proofs.Filling.{Between, filled, IsFilledBy, refused_fills, stat_of, stay}
use Rattle.pt_filled.proofs.Finding.{Found, Held, same_at, walk_by, walk_held}
use Rattle.pt_filled.proofs.Hosting.{Full, Keeps, Steps, Thread, contents_at}
use Rattle.pt_filled.proofs.Parts.{At, IsRefused, Leaves, comes_at, idles_calm, keeps_on, leaves_keeps, leaves_read}
use Rattle.pt_filled.proofs.Parts.{refused_from, walk_begin, walk_bytes, walk_placed, walk_read, walk_stat}
use Rattle.pt_filled.proofs.Threading.{Comes, Makes}
use Rattle.pt_filled.proofs.Using.{was_readable}

still_ask : (fd : Fd) (told : ActReply) → IsStill (Calls (call.Stat fd)) told
still_ask fd (Host told) = tt
still_ask fd (Event told) = tt
still_ask fd NoCopy = tt

link_leaves : (fd : Fd) (told : ActReply) → Leaves (Calls (call.ReadLink fd)) told
link_leaves fd = leaves_read (call.ReadLink fd) still (λ told tree after object no. no)
  where
    still : (told : ActReply) → IsStill (Calls (call.ReadLink fd)) told
    still (Host told) = tt
    still (Event told) = tt
    still NoCopy = tt

bytes_leave : (fd : Fd) (offset size : ℕ) (told : ActReply) → Leaves (Calls (call.ReadAt fd offset size)) told
bytes_leave fd offset size = leaves_read (call.ReadAt fd offset size) still (λ told tree after object no. no)
  where
    still : (told : ActReply) → IsStill (Calls (call.ReadAt fd offset size)) told
    still (Host told) = tt
    still (Event told) = tt
    still NoCopy = tt

fs_leaves : (fd : Fd) (told : ActReply) → Leaves (Calls (call.StatFs fd)) told
fs_leaves fd = leaves_read (call.StatFs fd) still (λ told tree after object no. no)
  where
    still : (told : ActReply) → IsStill (Calls (call.StatFs fd)) told
    still (Host told) = tt
    still (Event told) = tt
    still NoCopy = tt

seek_leaves : (fd : Fd) (offset : ℤ) (whence : ℕ) (told : ActReply) → Leaves (Calls (call.Seek fd offset whence)) told
seek_leaves fd offset whence = leaves_read (call.Seek fd offset whence) still (λ told tree after object no. no)
  where
    still : (told : ActReply) → IsStill (Calls (call.Seek fd offset whence)) told
    still (Host told) = tt
    still (Event told) = tt
    still NoCopy = tt

was_linked : (j : Thread) (w on : Full) (fd : Fd) (bytes : List ℕ) (object : ℕ) →
    Steps j w (made (Calls (call.ReadLink fd)) (Host (host.Ok (value.Bytes bytes)))) on →
    IsOpenOn (tree_of w.state) fd object → value.Bytes bytes ≡ value.Bytes (contents_at w object).bytes
was_linked j w on fd bytes object s o =
    let r = rowed j w on (call.ReadLink fd) fd (read_link_row w.state) (value.Bytes bytes) refl (λ numbers. refl) s in
    r.ok.tells ∙ ap (λ (n : Option Node). value.Bytes (contents_where n).bytes)
    (sym (row_there w on fd (read_link_row w.state) (value.Bytes bytes) object r o))

same_value : (one other : List ℕ) → value.Bytes one ≡ value.Bytes other → one ≡ other
same_value one other e = cc

fs_told : (j : Thread) (w on : Full) (fd : Fd) (told : FsStat) →
    Steps j w (made (Calls (call.StatFs fd)) (Host (host.Ok (value.FsStat told)))) on → TellsFs told
fs_told j w on fd told s =
    let r = rowed j w on (call.StatFs fd) fd (stat_fs_row w.state) (value.FsStat told) refl (λ numbers. refl) s in
    same told _ r.ok.tells
  where
    same : (one other : FsStat) → value.FsStat one ≡ value.FsStat other → one ≡ record other { files = one.files }
    same one other e = λ i. record (files_of other (e i)) { files = one.files }
      where
        files_of : FsStat → HostValue → FsStat
        files_of otherwise (value.FsStat it) = it
        files_of otherwise told = otherwise

module _ (plan : Plan) (who : Context) (j : Thread) (w : Full) (last : Answer) (w' : Full) (state after : PlainTree)
    (g : Between w w' state after) (n : last ≢ answer.NoMemory) where
  -- contents stay
  stays : Keeps w w' → AllStay (filled state w) (filled after w')
  stays k = stay w w' state after g.shows k

  tells : (asked : Request) (given : Answer) → last ≡ given →
      Fills plan j.seat who asked (filled state w) given (filled after w') →
      IsFilledBy plan j.seat who asked state w last after w'
  tells asked given e f = subst (λ (x : Answer). Fills plan j.seat who asked (filled state w) x (filled after w'))
      (sym e) f

  -- what is left behind the call
  left : (d e : Full) {given : Answer} → Keeps w d → Keeps d e → Comes j (Gives given) e last w' → Keeps w w'
  left d e a b k = keeps_on w d w' a (keeps_on d e w' b (idles_calm j e w' k.1).keeps)

  pub fills_getattr : (inode : ℕ) → At j (begin (getattr plan inode)) w last w' →
      IsFilledBy plan j.seat who (request.GetAttr inode) state w last after w'
  fills_getattr inode c =
      walk_begin j _ w last w' n c out (λ session b q agreed k.
      walk_by j w last w' state g.shows n out inode _ b q k (λ fd d f k.
      walk_stat j fd _ d last w' n k (λ r. out (refused_from w d last w' f.calm.keeps r)) (λ told e m k.
      answered d e fd told f m (comes_at k))))
    where
      out : IsRefused w last w' → IsFilledBy plan j.seat who (request.GetAttr inode) state w last after w'
      out = refused_fills plan j.seat who (request.GetAttr inode) w w' state after last g.shows (λ k. k)

      answered : (d e : Full) (fd : Fd) (told : Stat) (f : Found w d state inode fd) →
          Makes j d (Calls (call.Stat fd)) (Host (host.Ok (value.Stat told))) e →
          Comes j (Gives (answer.Attr (attr_of plan told 0) plan.config.attr_timeout)) e last w' →
          IsFilledBy plan j.seat who (request.GetAttr inode) state w last after w'
      answered d e fd told f m k =
          let seen = was_seen j d e fd told f.object m.2 f.open_on in
          let kept = leaves_keeps j d e (Calls (call.Stat fd)) _ m (tt, λ tree after object no. no) in
          tells (request.GetAttr inode) _ k.0 (
            (f.object, f.stands, (told, stat_of w d state fd f.object told g.shows f.calm.keeps f.calm.quiet.still.tree seen, refl)),
            refl,
            stays (left d e f.calm.keeps kept k),
          )

  pub fills_access : (inode mask : ℕ) → At j (begin (access plan who inode mask)) w last w' →
      IsFilledBy plan j.seat who (request.Access inode mask) state w last after w'
  fills_access inode mask c =
      walk_begin j _ w last w' n c out (λ session b q agreed k.
      walk_by j w last w' state g.shows n out inode _ b q k (λ fd d f k.
      walk_stat j fd _ d last w' n k (λ r. out (refused_from w d last w' f.calm.keeps r)) (λ told e m k.
      answered d e fd told f m (is_granted who mask (attr_of plan told 0)) refl (comes_at k))))
    where
      out : IsRefused w last w' → IsFilledBy plan j.seat who (request.Access inode mask) state w last after w'
      out = refused_fills plan j.seat who (request.Access inode mask) w w' state after last g.shows (λ k. k)

      answered : (d e : Full) (fd : Fd) (told : Stat) (f : Found w d state inode fd) →
          Makes j d (Calls (call.Stat fd)) (Host (host.Ok (value.Stat told))) e → (granted : Bool) →
          is_granted who mask (attr_of plan told 0) ≡ granted → Comes j (Gives (allowed granted)) e last w' →
          IsFilledBy plan j.seat who (request.Access inode mask) state w last after w'
      answered d e fd told f m false is k =
          let kept = leaves_keeps j d e (Calls (call.Stat fd)) _ m (tt, λ tree after object no. no) in
          tells (request.Access inode mask) _ k.0 (stays (left d e f.calm.keeps kept k))
      answered d e fd told f m true is k =
          let seen = was_seen j d e fd told f.object m.2 f.open_on in
          let kept = leaves_keeps j d e (Calls (call.Stat fd)) _ m (tt, λ tree after object no. no) in
          tells (request.Access inode mask) _ k.0 (
            (
              f.object,
              f.stands,
              (
                attr_of plan told 0,
                (told, stat_of w d state fd f.object told g.shows f.calm.keeps f.calm.quiet.still.tree seen, refl),
                is,
              ),
            ),
            stays (left d e f.calm.keeps kept k),
          )

  pub fills_statfs : (inode : ℕ) → At j (begin (statfs inode)) w last w' →
      IsFilledBy plan j.seat who (request.StatFs inode) state w last after w'
  fills_statfs inode c =
      walk_begin j _ w last w' n c out (λ session b q agreed k.
      walk_by j w last w' state g.shows n out inode _ b q k (λ fd d f k.
      walk_read j (call.StatFs fd) fs_stat_in _ d last w' n (fs_leaves fd) ok k
      (λ r. out (refused_from w d last w' f.calm.keeps r)) (λ told said e is m kept k.
      answered d e fd told said f is m kept (comes_at k))))
    where
      out : IsRefused w last w' → IsFilledBy plan j.seat who (request.StatFs inode) state w last after w'
      out = refused_fills plan j.seat who (request.StatFs inode) w w' state after last g.shows (λ k. k)

      ok : (told : ActReply) (it : FsStat) → fs_stat_in told ≡ Some it → (said : HostValue) × (told ≡ Host (host.Ok
          said))
      ok (Host (host.Ok said)) it e = (said, refl)
      ok told it e = absurd (cc)

      answered : (d e : Full) (fd : Fd) (told : FsStat) (said : HostValue) → Found w d state inode fd →
          fs_stat_in (Host (host.Ok said)) ≡ Some told → Makes j d (Calls (call.StatFs fd)) (Host (host.Ok said)) e →
          Keeps d e → Comes j (Gives (answer.FsStat told)) e last w' →
          IsFilledBy plan j.seat who (request.StatFs inode) state w last after w'
      answered d e fd told (value.FsStat it) f is m kept k =
          tells (request.StatFs inode) _ k.0
          (subst TellsFs (some_is is) (fs_told j d e fd it m.2), stays (left d e f.calm.keeps kept k))
      answered d e fd told said f is m kept k = absurd (cc)

  pub fills_readlink : (inode : ℕ) → At j (begin (readlink inode)) w last w' →
      IsFilledBy plan j.seat who (request.Readlink inode) state w last after w'
  fills_readlink inode c =
      walk_begin j _ w last w' n c out (λ session b q agreed k.
      walk_by j w last w' state g.shows n out inode _ b q k (λ fd d f k.
      walk_bytes j (call.ReadLink fd) _ d last w' n (link_leaves fd) k
      (λ r. out (refused_from w d last w' f.calm.keeps r)) (λ target e m kept k.
      answered d e fd target f m kept (comes_at k))))
    where
      out : IsRefused w last w' → IsFilledBy plan j.seat who (request.Readlink inode) state w last after w'
      out = refused_fills plan j.seat who (request.Readlink inode) w w' state after last g.shows (λ k. k)

      answered : (d e : Full) (fd : Fd) (target : List ℕ) (f : Found w d state inode fd) →
          Makes j d (Calls (call.ReadLink fd)) (Host (host.Ok (value.Bytes target))) e → Keeps d e →
          Comes j (Gives (answer.Link target)) e last w' →
          IsFilledBy plan j.seat who (request.Readlink inode) state w last after w'
      answered d e fd target f m kept k =
          let told = was_linked j d e fd target f.object m.2 f.open_on in
          tells (request.Readlink inode) _ k.0 (
            (
              f.object,
              f.stands,
              same_value target _ told
                  ∙ ap (λ (c : ObjectContents). c.bytes) (same_at w d fd f.object f.calm m.2.made.0.sound f.open_on),
            ),
            stays (left d e f.calm.keeps kept k),
          )

  pub fills_read : (inode handle size offset : ℕ) → At j (begin (read inode handle size offset)) w last w' →
      IsFilledBy plan j.seat who (request.Read inode handle size offset) state w last after w'
  fills_read inode handle size offset c =
      walk_begin j _ w last w' n c out (λ session b q agreed k.
      walk_placed j offset _ b last w' k (λ r. out (refused_from w b last w' q.keeps r)) (λ k.
      walk_held j w last w' state g.shows n out handle inode _ b q k (λ fd d f k.
      walk_bytes j (call.ReadAt fd offset size) _ d last w' n (bytes_leave fd offset size) k
      (λ r. out (refused_from w d last w' f.calm.keeps r)) (λ bytes e m kept k.
      answered d e fd bytes f m kept (comes_at k)))))
    where
      asked : Request
      asked = request.Read inode handle size offset

      out : IsRefused w last w' → IsFilledBy plan j.seat who (request.Read inode handle size offset) state w last
          after w'
      out = refused_fills plan j.seat who asked w w' state after last g.shows (λ k. k)

      answered : (d e : Full) (fd : Fd) (bytes : List ℕ) (f : Held w d state handle inode fd) →
          Makes j d (Calls (call.ReadAt fd offset size)) (Host (host.Ok (value.Bytes bytes))) e → Keeps d e →
          Comes j (Gives (answer.Read bytes)) e last w' → IsFilledBy plan j.seat who asked state w last after w'
      answered d e fd bytes f m kept k =
          let seen = was_read j d e fd offset size bytes f.object m.2 f.open_on in
          tells asked _ k.0 (
            (
              f.object,
              f.held,
              (
                same_value bytes _ seen ∙ ap (λ (c : ObjectContents). take size (drop offset c.bytes))
                    (same_at w d fd f.object f.calm m.2.made.0.sound f.open_on),
                stays (left d e f.calm.keeps kept k),
              ),
            ),
            ap reads f.lends ∙ was_readable j d e fd (value.Bytes bytes) offset size m.2,
          )
