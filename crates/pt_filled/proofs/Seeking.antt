-- Proof. `lseek`.
use Rattle.std.specs.Int.{w64, cast_signed}
use Rattle.std.proofs.Common.{◌≡◌, ◌≢◌, ℕ, ℤ, length, Option, Some, refl, sym, ap, subst, ◌∙◌, slice_get, Result, Ok}
use Rattle.std.proofs.Common.{Err}
use Rattle.pt_host.specs.Call.{Call}
use Rattle.pt_host.specs.Contents.{ObjectContents}
use Rattle.pt_host.specs.Tree.{IsOpenOn}
use Rattle.pt_host.specs.Promises.{FitsCall}
use Rattle.pt_host.specs.declared.ids.Errno.{Errno}
use Rattle.pt_host.specs.declared.ids.Fd.{Fd}
use Rattle.pt_host.specs.declared.reply.HostValue.{HostValue}
use Rattle.pt_host.specs.declared.op.KeptHostOp.TheVariants as call
use Rattle.pt_host.specs.declared.reply.HostReply.TheVariants as host
use Rattle.pt_host.specs.declared.reply.HostValue.TheVariants as value
use Rattle.pt_iface.specs.declared.answer.Answer.{Answer}
use Rattle.pt_iface.specs.declared.request.Context.{Context}
use Rattle.pt_iface.specs.declared.request.Request.{Request}
use Rattle.pt_iface.specs.declared.answer.Answer.TheVariants as answer
use Rattle.pt_iface.specs.declared.request.Request.TheVariants as request
use Rattle.pt_frame.specs.Deed.{Calls}
use Rattle.pt_frame.specs.Tree.{Gives}
use Rattle.pt_frame.specs.declared.act.ActReply.{ActReply}
use Rattle.pt_frame.specs.declared.act.ActReply.TheVariants.{Event, Host, NoCopy}
use Rattle.pt_req.specs.Steps.{begin}
use Rattle.pt_req.specs.declared.plan.Plan.{Plan}
use Rattle.pt_attr.specs.Contents.{lseek}
use Rattle.pt_law.specs.World.{made}
use Rattle.pt_node.specs.Node.{size_of}
use Rattle.pt_node.specs.Slots.{open_at}
use Rattle.pt_node.specs.declared.node.Node.{Node}
use Rattle.pt_node.specs.declared.slots.OpenFile.{OpenFile}
use Rattle.pt_rules.specs.Calls.{Answered, checked, refused}
use Rattle.pt_rules.specs.ContentCalls.{seek, seek_checks, seek_to, sought}
use Rattle.pt_rules.specs.State.{State, contents_where, tree_of}
use Rattle.pt_rules.specs.Laws.Cases.{by_fd, by_checks}
use Rattle.pt_plain.specs.Plain.{PlainTree}
use Rattle.pt_plain.proofs.Stilling.{IsStill}
use Rattle.pt_filled.specs.Fills.{Fills}
use Rattle.pt_filled.proofs.Effects.{size_is}
use Rattle.pt_filled.proofs.Filling.{Between, filled, IsFilledBy, refused_fills, stay}
use Rattle.pt_filled.proofs.Finding.{Held, same_at, walk_held}
use Rattle.pt_filled.proofs.Hosting.{Full, Steps, Thread}
use Rattle.pt_filled.proofs.Parts.{At, IsRefused, comes_at, idles_calm, keeps_on, leaves_keeps, refused_from}
use Rattle.pt_filled.proofs.Parts.{walk_begin, walk_count}
use Rattle.pt_filled.proofs.Tables.{opened_object, ok_not_refused, tabled, Tabled}
use Rattle.pt_filled.proofs.Threading.{Comes, Makes}

-- from some position of the descriptor
abbrev SoughtAt : State → ℕ → ℤ → ℕ → ℕ → Type 0
SoughtAt s object offset whence place =
    (position : ℕ)
    × (sought position (length (contents_where (slice_get s.nodes object)).bytes) offset whence ≡ Ok place)

same_place : (one other : ℕ) → host.Ok (value.Count one) ≡ host.Ok (value.Count other) → one ≡ other
same_place one other e = cc

seek_so : (s : State) (fd : Fd) (offset : ℤ) (whence object place : ℕ) (after : State) → IsOpenOn (tree_of s) fd
    object →
    (host.Ok (value.Count place), after) ≡ seek s fd offset whence → SoughtAt s object offset whence place
seek_so s fd offset whence object place after o =
    by_fd s P refuses fd (λ file node. checked s (seek_checks file node)
    (seek_to s fd.0 (sought file.position (size_of node.content) offset whence))) (λ file node is there.
    by_checks s P refuses (seek_checks file node)
    (seek_to s fd.0 (sought file.position (size_of node.content) offset whence)) (λ none.
    by_sought file node is there (sought file.position (size_of node.content) offset whence) refl))
  where
    P : Answered → Type 0
    P a = (host.Ok (value.Count place), after) ≡ a → SoughtAt s object offset whence place

    refuses : (errno : Errno) → P (refused s errno)
    refuses errno e = absurd (ok_not_refused (value.Count place) errno (ap (λ (a : Answered). a.0) e))

    by_sought : (file : OpenFile) (node : Node) → open_at s.slots fd.0 ≡ Some file →
        slice_get s.nodes file.object ≡ Some node → (to : Result ℕ Errno) →
        sought file.position (size_of node.content) offset whence ≡ to → P (seek_to s fd.0 to)
    by_sought file node is there (Err errno) q = refuses errno
    by_sought file node is there (Ok found) q = λ e.
        let held = ap (λ (n : Option Node). length (contents_where n).bytes)
        (ap (slice_get s.nodes) (sym (opened_object s fd object file o is)) ∙ there) in (
          file.position,
          ap (λ (n : ℕ). sought file.position n offset whence) (held ∙ sym (size_is node.content)) ∙ q
              ∙ ap (λ (n : ℕ). Ok n) (sym (same_place place found (ap (λ (a : Answered). a.0) e))),
        )

seek_counts : (fd : Fd) (offset : ℤ) (whence : ℕ) (told : HostValue) → FitsCall (call.Seek fd offset whence) told →
    (count : ℕ) × (told ≡ value.Count count)
seek_counts fd offset whence (value.Count count) f = (count, refl)
seek_counts fd offset whence told f = absurd f

still_seek : (fd : Fd) (offset : ℤ) (whence : ℕ) (told : ActReply) → IsStill (Calls (call.Seek fd offset whence)) told
still_seek fd offset whence (Host told) = tt
still_seek fd offset whence (Event told) = tt
still_seek fd offset whence NoCopy = tt

was_sought : (j : Thread) (w on : Full) (fd : Fd) (offset : ℤ) (whence place object : ℕ) →
    Steps j w (made (Calls (call.Seek fd offset whence)) (Host (host.Ok (value.Count place)))) on →
    IsOpenOn (tree_of w.state) fd object → SoughtAt w.state object offset whence place
was_sought j w on fd offset whence place object s o =
    let t : Tabled w.state w.seat (call.Seek fd offset whence) (value.Count place) on.state =
    tabled w.state w.seat (call.Seek fd offset whence) (value.Count place) on.state on.seat refl s.made.0 in
    seek_so w.state fd offset whence object place t.after o t.answered

module _ (plan : Plan) (who : Context) (j : Thread) (w : Full) (last : Answer) (w' : Full) (state after : PlainTree)
    (g : Between w w' state after) (n : last ≢ answer.NoMemory) where
  pub fills_lseek : (inode handle offset whence : ℕ) → At j (begin (lseek inode handle offset whence)) w last w' →
      IsFilledBy plan j.seat who (request.Lseek inode handle offset whence) state w last after w'
  fills_lseek inode handle offset whence c =
      walk_begin j _ w last w' n c out (λ session b q agreed k.
      walk_held j w last w' state g.shows n out handle inode _ b q k (λ fd d f k.
      walk_count j (makes fd) _ d last w' n (still_seek fd (cast_signed w64 offset) whence)
      (seek_counts fd (cast_signed w64 offset) whence) k (λ r. out (refused_from w d last w' f.calm.keeps r))
      (λ place e m k. answered d e fd place f m (comes_at k))))
    where
      asked : Request
      asked = request.Lseek inode handle offset whence

      makes : Fd → Call
      makes fd = call.Seek fd (cast_signed w64 offset) whence

      out : IsRefused w last w' → IsFilledBy plan j.seat who asked state w last after w'
      out = refused_fills plan j.seat who asked w w' state after last g.shows (λ k. k)

      answered : (d e : Full) (fd : Fd) (place : ℕ) (f : Held w d state handle inode fd) →
          Makes j d (Calls (makes fd)) (Host (host.Ok (value.Count place))) e →
          Comes j (Gives (answer.Offset place)) e last w' → IsFilledBy plan j.seat who asked state w last after w'
      answered d e fd place f m k =
          let told = was_sought j d e fd (cast_signed w64 offset) whence place f.object m.2 f.open_on in
          let held = ap (λ (c : ObjectContents). sought told.0 (length c.bytes) (cast_signed w64 offset) whence)
          (same_at w d fd f.object f.calm m.2.made.0.sound f.open_on) in
          let kept = leaves_keeps j d e (Calls (makes fd)) _ m (tt, λ tree after object no. no) in
          subst (λ (x : Answer). Fills plan j.seat who asked (filled state w) x (filled after w')) (sym k.0) (
            (f.object, f.held, (told.0, sym held ∙ told.1)),
            stay w w' state after g.shows (keeps_on w d w' f.calm.keeps (keeps_on d e w' kept (idles_calm j e w'
                k.1).keeps)),
          )
