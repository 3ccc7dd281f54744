-- Proof. `unlink`, `rmdir`, `rename`.
use Rattle.std.proofs.Common.{◌≡◌, ◌≢◌, ℕ, List, None, sym, subst}
use Rattle.pt_host.specs.Call.{Call}
use Rattle.pt_host.specs.declared.ids.Fd.{Fd}
use Rattle.pt_host.specs.declared.op.KeptHostOp.TheVariants as call
use Rattle.pt_host.specs.declared.reply.HostReply.TheVariants as host
use Rattle.pt_iface.specs.declared.answer.Answer.{Answer}
use Rattle.pt_iface.specs.declared.request.Context.{Context}
use Rattle.pt_iface.specs.declared.request.Request.{Request}
use Rattle.pt_iface.specs.declared.answer.Answer.TheVariants as answer
use Rattle.pt_iface.specs.declared.request.Request.TheVariants as request
use Rattle.pt_frame.specs.Deed.{Calls}
use Rattle.pt_frame.specs.Tree.{Gives}
use Rattle.pt_frame.specs.declared.act.ActReply.{ActReply}
use Rattle.pt_frame.specs.declared.act.ActReply.TheVariants.{Event, Host, NoCopy}
use Rattle.pt_req.specs.Steps.{begin, ok_in}
use Rattle.pt_req.specs.declared.plan.Plan.{Plan}
use Rattle.pt_attr.specs.Requests.{rename, rmdir, unlink}
use Rattle.pt_plain.specs.Plain.{PlainTree}
use Rattle.pt_plain.proofs.Stilling.{IsStill}
use Rattle.pt_filled.specs.Contents.{AllStay}
use Rattle.pt_filled.specs.Fills.{Fills}
use Rattle.pt_filled.proofs.Filling.{Between, filled, IsFilledBy, refused_fills, stay}
use Rattle.pt_filled.proofs.Finding.{walk_by}
use Rattle.pt_filled.proofs.Hosting.{Full, Keeps, Thread}
use Rattle.pt_filled.proofs.Parts.{At, IsRefused, comes_at, idles_calm, keeps_on, refused_from, walk_begin, walk_do}
use Rattle.pt_filled.proofs.Parts.{walk_files, walk_named}
use Rattle.pt_filled.proofs.Threading.{Comes}
use Rattle.pt_filled.proofs.Moving.{was_renamed, was_rmdired, was_unlinked}

module _ (plan : Plan) (who : Context) (j : Thread) (w : Full) (last : Answer) (w' : Full) (state after : PlainTree)
    (g : Between w w' state after) (n : last ≢ answer.NoMemory) where
  done_all : (asked : Request) (d e : Full) → Keeps w d → Keeps d e →
      (AllStay (filled state w) (filled after w') → Fills plan j.seat who asked (filled state w) answer.Done (filled
      after w')) →
      Comes j (Gives answer.Done) e last w' → IsFilledBy plan j.seat who asked state w last after w'
  done_all asked d e a b f k =
      subst (λ (x : Answer). Fills plan j.seat who asked (filled state w) x (filled after w')) (sym k.0)
      (f (stay w w' state after g.shows (keeps_on w d w' a (keeps_on d e w' b (idles_calm j e w' k.1).keeps))))

  pub fills_unlink : (parent : ℕ) (name : List ℕ) → At j (begin (unlink parent name)) w last w' →
      IsFilledBy plan j.seat who (request.Unlink parent name) state w last after w'
  fills_unlink parent name c =
      walk_begin j _ w last w' n c out (λ session b q z k.
      walk_named j name _ b last w' k (λ r. out (refused_from w b last w' q.keeps r)) (λ k.
      walk_by j w last w' state g.shows n out parent _ b q k (λ dir d f k.
      walk_do j (call.Unlink dir name) _ d last w' n (still dir) k (λ r. out (refused_from w d last w' f.calm.keeps r))
      (λ told e m k. done_all (request.Unlink parent name) d e f.calm.keeps (was_unlinked j d e dir name told m) (λ k.
      k)
      (comes_at k)))))
    where
      still : (dir : Fd) (told : ActReply) → ok_in told ≡ None → IsStill (Calls (call.Unlink dir name)) told
      still dir (Host (host.Ok told)) e = absurd (cc)
      still dir (Host (host.Refused errno)) e = tt
      still dir (Host (host.Fault errno)) e = tt
      still dir (Host host.NoMemory) e = tt
      still dir (Event told) e = tt
      still dir NoCopy e = tt

      out : IsRefused w last w' → IsFilledBy plan j.seat who (request.Unlink parent name) state w last after w'
      out = refused_fills plan j.seat who (request.Unlink parent name) w w' state after last g.shows (λ k. k)

  pub fills_rmdir : (parent : ℕ) (name : List ℕ) → At j (begin (rmdir parent name)) w last w' →
      IsFilledBy plan j.seat who (request.Rmdir parent name) state w last after w'
  fills_rmdir parent name c =
      walk_begin j _ w last w' n c out (λ session b q z k.
      walk_named j name _ b last w' k (λ r. out (refused_from w b last w' q.keeps r)) (λ k.
      walk_by j w last w' state g.shows n out parent _ b q k (λ dir d f k.
      walk_do j (call.RemoveDir dir name) _ d last w' n (still dir) k (λ r. out (refused_from w d last w' f.calm.keeps
      r))
      (λ told e m k. done_all (request.Rmdir parent name) d e f.calm.keeps (was_rmdired j d e dir name told m) (λ k. k)
      (comes_at k)))))
    where
      still : (dir : Fd) (told : ActReply) → ok_in told ≡ None → IsStill (Calls (call.RemoveDir dir name)) told
      still dir (Host (host.Ok told)) e = absurd (cc)
      still dir (Host (host.Refused errno)) e = tt
      still dir (Host (host.Fault errno)) e = tt
      still dir (Host host.NoMemory) e = tt
      still dir (Event told) e = tt
      still dir NoCopy e = tt

      out : IsRefused w last w' → IsFilledBy plan j.seat who (request.Rmdir parent name) state w last after w'
      out = refused_fills plan j.seat who (request.Rmdir parent name) w w' state after last g.shows (λ k. k)

  pub fills_rename : (olddir : ℕ) (oldname : List ℕ) (newdir : ℕ) (newname : List ℕ) (flags : ℕ) →
      At j (begin (rename olddir oldname newdir newname flags)) w last w' →
      IsFilledBy plan j.seat who (request.Rename olddir oldname newdir newname flags) state w last after w'
  fills_rename olddir oldname newdir newname flags c =
      walk_begin j _ w last w' n c out (λ session b q z k.
      walk_named j oldname _ b last w' k (λ r. out (refused_from w b last w' q.keeps r)) (λ k.
      walk_named j newname _ b last w' k (λ r. out (refused_from w b last w' q.keeps r)) (λ k.
      walk_files j olddir newdir _ b last w' n k (λ r. out (refused_from w b last w' q.keeps r)) (λ from to d kd k.
      let kept = keeps_on w b d q.keeps kd.keeps in
      walk_do j (makes from to) _ d last w' n (still from to) k (λ r. out (refused_from w d last w' kept r)) (λ told e
      m k.
      done_all asked d e kept (was_renamed j d e from oldname to newname flags told m) (λ k. k) (comes_at k))))))
    where
      asked : Request
      asked = request.Rename olddir oldname newdir newname flags

      makes : Fd → Fd → Call
      makes from to = call.Rename from oldname to newname flags

      still : (from to : Fd) (told : ActReply) → ok_in told ≡ None → IsStill (Calls (makes from to)) told
      still from to (Host (host.Ok told)) e = absurd (cc)
      still from to (Host (host.Refused errno)) e = tt
      still from to (Host (host.Fault errno)) e = tt
      still from to (Host host.NoMemory) e = tt
      still from to (Event told) e = tt
      still from to NoCopy e = tt

      out : IsRefused w last w' → IsFilledBy plan j.seat who asked state w last after w'
      out = refused_fills plan j.seat who asked w w' state after last g.shows (λ k. k)
