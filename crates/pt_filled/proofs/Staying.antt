-- Proof. Requests that leave contents, and tell nothing of them.
use Rattle.std.proofs.Common.{◌≡◌, ℕ, List, [], ◌∷◌, Bool, true, false, Option, Some, None, refl, sym}
use Rattle.pt_host.specs.LawfulContents.{empties}
use Rattle.pt_host.specs.declared.ids.Fd.{Fd}
use Rattle.pt_host.specs.declared.op.KeptHostOp.TheVariants as call
use Rattle.pt_host.specs.declared.reply.HostReply.TheVariants as host
use Rattle.pt_host.specs.declared.reply.HostValue.TheVariants as value
use Rattle.pt_tables.specs.Tables.{nothing_agreed}
use Rattle.pt_tables.specs.declared.form.Negotiated.{Negotiated}
use Rattle.pt_iface.specs.declared.answer.Answer.{Answer}
use Rattle.pt_iface.specs.declared.flags.FsOptions.{FsOptions}
use Rattle.pt_iface.specs.declared.request.Context.{Context}
use Rattle.pt_iface.specs.declared.request.Request.{Request}
use Rattle.pt_iface.specs.declared.answer.Answer.TheVariants as answer
use Rattle.pt_iface.specs.declared.request.Request.TheVariants as request
use Rattle.pt_frame.specs.Deed.{Calls}
use Rattle.pt_frame.specs.Tree.{Gives, RequestTree}
use Rattle.pt_frame.specs.declared.act.ActReply.{ActReply}
use Rattle.pt_frame.specs.declared.act.ActReply.TheVariants.{Event, Host, NoCopy}
use Rattle.pt_req.specs.Options.{agreed_with, inode_flags, without_nofollow, o_nofollow}
use Rattle.pt_req.specs.Parts.{by_path, root_open}
use Rattle.pt_req.specs.Requests.{batch_forget, destroy, init, init_answer, release, root, unserved}
use Rattle.pt_req.specs.Steps.{begin, began_in, cleared_in, done_in, fd_in, inserted_in, pinned_in, resolved_in}
use Rattle.pt_req.specs.Steps.{session_of}
use Rattle.pt_req.specs.declared.begun.BegunSession.{BegunSession}
use Rattle.pt_req.specs.declared.plan.Config.{Config}
use Rattle.pt_req.specs.declared.plan.Plan.{Plan}
use Rattle.pt_attr.specs.Contents.{flush, fsync, syncfs}
use Rattle.pt_plain.specs.Plain.{PlainTree}
use Rattle.pt_plain.specs.Serves.{Serves}
use Rattle.pt_plain.proofs.Stilling.{IsStill}
use Rattle.pt_filled.specs.Contents.{AllStay, FilledTree}
use Rattle.pt_filled.specs.Fills.{Fills}
use Rattle.pt_filled.proofs.Filling.{Between, filled, IsFilledBy, stay}
use Rattle.pt_filled.proofs.Hosting.{Full, Keeps, Thread}
use Rattle.pt_filled.proofs.Parts.{At, comes_at, keeps_throughout, Leaves, leaves_read}
use Rattle.pt_filled.proofs.Tails.{Leaving, leaving_ask, leaving_call, leaving_ends, leaving_event, leaving_row}
use Rattle.pt_filled.proofs.Tails.{leaving_stat, leaving_take}

-- what holds of contents where the tree leaves them
pub left_by : (j : Thread) (tree : RequestTree) (w : Full) (last : Answer) (w' : Full) → Leaving tree →
    At j tree w last w' → Keeps w w'
left_by j tree w last w' t c = keeps_throughout j tree w last w' t.by (comes_at c)

pub leaving_begin : (next : BegunSession → RequestTree) → ((session : BegunSession) → Leaving (next session)) →
    Leaving (begin next)
leaving_begin next t = leaving_event _ began_in next t

flush_leaves : (fd : Fd) (told : ActReply) → Leaves (Calls (call.Flush fd)) told
flush_leaves fd = leaves_read (call.Flush fd) still (λ told tree after object no. no)
  where
    still : (told : ActReply) → IsStill (Calls (call.Flush fd)) told
    still (Host told) = tt
    still (Event told) = tt
    still NoCopy = tt

sync_leaves : (fd : Fd) (datasync : Bool) (told : ActReply) → Leaves (Calls (call.Sync fd datasync)) told
sync_leaves fd datasync = leaves_read (call.Sync fd datasync) still (λ told tree after object no. no)
  where
    still : (told : ActReply) → IsStill (Calls (call.Sync fd datasync)) told
    still (Host told) = tt
    still (Event told) = tt
    still NoCopy = tt

sync_fs_leaves : (fd : Fd) (told : ActReply) → Leaves (Calls (call.SyncFs fd)) told
sync_fs_leaves fd = leaves_read (call.SyncFs fd) still (λ told tree after object no. no)
  where
    still : (told : ActReply) → IsStill (Calls (call.SyncFs fd)) told
    still (Host told) = tt
    still (Event told) = tt
    still NoCopy = tt

root_leaves : (dir : List ℕ) (told : ActReply) → Leaves (Calls (call.OpenRoot dir by_path)) told
root_leaves dir (Host (host.Ok (value.Fd fd))) = (
  tt,
  λ tree after object m. (let x : true ≡ false = sym m.0 in absurd
      (cc)),
)
root_leaves dir (Host (host.Ok told)) = (tt, λ tree after object no. no)
root_leaves dir (Host (host.Refused errno)) = (tt, tt)
root_leaves dir (Host (host.Fault errno)) = (tt, tt)
root_leaves dir (Host host.NoMemory) = (tt, tt)
root_leaves dir (Event told) = (tt, tt)
root_leaves dir NoCopy = (tt, tt)

leaving_root : (plan : Plan) (session : BegunSession) (agreed : Option Negotiated) (next : RequestTree) → Leaving next →
    Leaving (root_open plan session agreed next)
leaving_root plan session agreed next t =
    leaving_ask (Calls (call.OpenRoot plan.config.root_dir by_path)) fd_in _ (root_leaves plan.config.root_dir) (λ fd.
    leaving_stat fd _ (λ told. leaving_take _ (leaving_event _ inserted_in (λ done. next) (λ done. t))))

leaving_init : (plan : Plan) (capable : FsOptions) → Leaving (init plan capable)
leaving_init plan capable =
    leaving_event _ cleared_in _ (λ era. leaving_root plan (session_of era nothing_agreed)
    (Some (agreed_with plan.config capable)) (Gives (init_answer plan.config capable)) leaving_ends)

leaving_destroy : Leaving destroy
leaving_destroy = leaving_event _ cleared_in _ (λ era. leaving_ends)

-- the flags with which `syncfs` opens
syncs : (config : Config) (agreed : Negotiated) → empties (without_nofollow (inode_flags config agreed o_nofollow)) ≡
    false
syncs config agreed = by agreed.writeback config.allow_direct_io
  where
    by : (written direct : Bool) → empties (without_nofollow (inode_flags (record config { allow_direct_io = direct })
        (record agreed { writeback = written }) o_nofollow)) ≡ false
    by false false = refl
    by false true = refl
    by true false = refl
    by true true = refl

leaving_syncfs : (plan : Plan) (inode : ℕ) → Leaving (begin (syncfs plan inode))
leaving_syncfs plan inode =
    leaving_begin _ (λ session. leaving_event _ resolved_in _ (λ row.
    leaving_row row (inode_flags plan.config session.agreed o_nofollow) _ (syncs plan.config session.agreed) (λ fd.
    leaving_call (call.SyncFs fd) _ (sync_fs_leaves fd) leaving_ends)))

module _ (plan : Plan) (who : Context) (j : Thread) (w : Full) (last : Answer) (w' : Full) (state after : PlainTree)
    (g : Between w w' state after) where
  -- all stays, however it is answered
  pub stays_by : (asked : Request) (tree : RequestTree) →
      ((told : Answer) → Serves plan asked state told after → (before later : FilledTree) → AllStay before later →
      Fills plan j.seat who asked before told later) →
      Leaving tree → Serves plan asked state last after → At j tree w last w' →
      IsFilledBy plan j.seat who asked state w last after w'
  stays_by asked tree f t v c =
      f last v (filled state w) (filled after w') (stay w w' state after g.shows (left_by j tree w last w' t c))

  pub fills_init : (capable : FsOptions) → Serves plan (request.Init capable) state last after →
      At j (init plan capable) w last w' → IsFilledBy plan j.seat who (request.Init capable) state w last after w'
  fills_init capable = stays_by (request.Init capable) (init plan capable) f (leaving_init plan capable)
    where
      f : (told : Answer) → Serves plan (request.Init capable) state told after → (before later : FilledTree) →
          AllStay before later → Fills plan j.seat who (request.Init capable) before told later
      f (answer.Refused errno) v before later k = k
      f (answer.Inited options) v before later k = k
      f told v before later k = absurd v

  pub fills_destroy : Serves plan request.Destroy state last after →
      At j destroy w last w' → IsFilledBy plan j.seat who request.Destroy state w last after w'
  fills_destroy = stays_by request.Destroy destroy f leaving_destroy
    where
      f : (told : Answer) → Serves plan request.Destroy state told after → (before later : FilledTree) →
          AllStay before later → Fills plan j.seat who request.Destroy before told later
      f (answer.Refused errno) v before later k = k
      f answer.NoReply v before later k = k
      f told v before later k = absurd v

  pub fills_root : Serves plan request.Root state last after →
      At j (begin (root plan)) w last w' → IsFilledBy plan j.seat who request.Root state w last after w'
  fills_root =
      stays_by request.Root (begin (root plan)) f (leaving_begin _ (λ session. leaving_root plan session None _
      leaving_ends))
    where
      f : (told : Answer) → Serves plan request.Root state told after → (before later : FilledTree) →
          AllStay before later → Fills plan j.seat who request.Root before told later
      f (answer.Refused errno) v before later k = k
      f answer.Done v before later k = k
      f told v before later k = absurd v

  leaving_forgets : (list : List (ℕ × ℕ)) → Leaving (begin (batch_forget list))
  leaving_forgets list = leaving_begin _ (λ session. leaving_event _ done_in _ (λ done. leaving_ends))

  pub fills_batch_forget : (list : List (ℕ × ℕ)) → Serves plan (request.BatchForget list) state last after →
      At j (begin (batch_forget list)) w last w' →
      IsFilledBy plan j.seat who (request.BatchForget list) state w last after w'
  fills_batch_forget list = stays_by (request.BatchForget list) _ f (leaving_forgets list)
    where
      f : (told : Answer) → Serves plan (request.BatchForget list) state told after → (before later : FilledTree) →
          AllStay before later → Fills plan j.seat who (request.BatchForget list) before told later
      f (answer.Refused errno) v before later k = k
      f answer.NoReply v before later k = k
      f told v before later k = absurd v

  pub fills_forget : (inode count : ℕ) → Serves plan (request.Forget inode count) state last after →
      At j (begin (batch_forget ((inode, count) ∷ []))) w last w' →
      IsFilledBy plan j.seat who (request.Forget inode count) state w last after w'
  fills_forget inode count = stays_by (request.Forget inode count) _ f (leaving_forgets ((inode, count) ∷ []))
    where
      f : (told : Answer) → Serves plan (request.Forget inode count) state told after → (before later : FilledTree) →
          AllStay before later → Fills plan j.seat who (request.Forget inode count) before told later
      f (answer.Refused errno) v before later k = k
      f answer.NoReply v before later k = k
      f told v before later k = absurd v

  leaving_release : (inode handle : ℕ) → Leaving (begin (release inode handle))
  leaving_release inode handle = leaving_begin _ (λ session. leaving_event _ done_in _ (λ done. leaving_ends))

  pub fills_release : (inode handle : ℕ) → Serves plan (request.Release inode handle) state last after →
      At j (begin (release inode handle)) w last w' →
      IsFilledBy plan j.seat who (request.Release inode handle) state w last after w'
  fills_release inode handle = stays_by (request.Release inode handle) _ f (leaving_release inode handle)
    where
      f : (told : Answer) → Serves plan (request.Release inode handle) state told after → (before later : FilledTree) →
          AllStay before later → Fills plan j.seat who (request.Release inode handle) before told later
      f (answer.Refused errno) v before later k = k
      f answer.Done v before later k = k
      f told v before later k = absurd v

  pub fills_release_dir : (inode handle : ℕ) → Serves plan (request.ReleaseDir inode handle) state last after →
      At j (begin (release inode handle)) w last w' →
      IsFilledBy plan j.seat who (request.ReleaseDir inode handle) state w last after w'
  fills_release_dir inode handle = stays_by (request.ReleaseDir inode handle) _ f (leaving_release inode handle)
    where
      f : (told : Answer) → Serves plan (request.ReleaseDir inode handle) state told after → (before later : FilledTree) →
          AllStay before later → Fills plan j.seat who (request.ReleaseDir inode handle) before told later
      f (answer.Refused errno) v before later k = k
      f answer.Done v before later k = k
      f told v before later k = absurd v

  pub fills_flush : (inode handle : ℕ) → Serves plan (request.Flush inode handle) state last after →
      At j (begin (flush inode handle)) w last w' →
      IsFilledBy plan j.seat who (request.Flush inode handle) state w last after w'
  fills_flush inode handle =
      stays_by (request.Flush inode handle) _ f (leaving_begin _ (λ session. leaving_event _ pinned_in _ (λ fd.
      leaving_call (call.Flush fd) _ (flush_leaves fd) leaving_ends)))
    where
      f : (told : Answer) → Serves plan (request.Flush inode handle) state told after → (before later : FilledTree) →
          AllStay before later → Fills plan j.seat who (request.Flush inode handle) before told later
      f (answer.Refused errno) v before later k = k
      f answer.Done v before later k = k
      f told v before later k = absurd v

  leaving_sync : (inode handle : ℕ) (datasync : Bool) → Leaving (begin (fsync inode handle datasync))
  leaving_sync inode handle datasync =
      leaving_begin _ (λ session. leaving_event _ pinned_in _ (λ fd.
      leaving_call (call.Sync fd datasync) _ (sync_leaves fd datasync) leaving_ends))

  pub fills_fsync : (inode handle : ℕ) (datasync : Bool) → Serves plan (request.Fsync inode handle datasync) state last after →
      At j (begin (fsync inode handle datasync)) w last w' →
      IsFilledBy plan j.seat who (request.Fsync inode handle datasync) state w last after w'
  fills_fsync inode handle datasync =
      stays_by (request.Fsync inode handle datasync) _ f (leaving_sync inode handle datasync)
    where
      f : (told : Answer) → Serves plan (request.Fsync inode handle datasync) state told after → (before later : FilledTree) →
          AllStay before later → Fills plan j.seat who (request.Fsync inode handle datasync) before told later
      f (answer.Refused errno) v before later k = k
      f answer.Done v before later k = k
      f told v before later k = absurd v

  pub fills_fsync_dir : (inode handle : ℕ) (datasync : Bool) → Serves plan (request.FsyncDir inode handle datasync) state last after →
      At j (begin (fsync inode handle datasync)) w last w' →
      IsFilledBy plan j.seat who (request.FsyncDir inode handle datasync) state w last after w'
  fills_fsync_dir inode handle datasync =
      stays_by (request.FsyncDir inode handle datasync) _ f (leaving_sync inode handle datasync)
    where
      f : (told : Answer) → Serves plan (request.FsyncDir inode handle datasync) state told after → (before later : FilledTree) →
          AllStay before later → Fills plan j.seat who (request.FsyncDir inode handle datasync) before told later
      f (answer.Refused errno) v before later k = k
      f answer.Done v before later k = k
      f told v before later k = absurd v

  pub fills_syncfs : (inode : ℕ) → Serves plan (request.SyncFs inode) state last after →
      At j (begin (syncfs plan inode)) w last w' →
      IsFilledBy plan j.seat who (request.SyncFs inode) state w last after w'
  fills_syncfs inode = stays_by (request.SyncFs inode) _ f (leaving_syncfs plan inode)
    where
      f : (told : Answer) → Serves plan (request.SyncFs inode) state told after → (before later : FilledTree) →
          AllStay before later → Fills plan j.seat who (request.SyncFs inode) before told later
      f (answer.Refused errno) v before later k = k
      f answer.Done v before later k = k
      f told v before later k = absurd v

  pub fills_unserved : (opcode : ℕ) → Serves plan (request.Other opcode) state last after →
      At j (begin unserved) w last w' → IsFilledBy plan j.seat who (request.Other opcode) state w last after w'
  fills_unserved opcode =
      stays_by (request.Other opcode) _ f (leaving_begin _ (λ session. leaving_ends))
    where
      f : (told : Answer) → Serves plan (request.Other opcode) state told after → (before later : FilledTree) →
          AllStay before later → Fills plan j.seat who (request.Other opcode) before told later
      f (answer.Refused errno) v before later k = k
      f told v before later k = absurd v
