-- Proof. Each request fills the plain file system.
use Rattle.std.proofs.Common.{◌≡◌, ◌≢◌, ◌⊎◌, inl, inr, List, [], ◌∷◌, length, refl, sym, ap, subst, ◌∙◌, Option, None}
use Rattle.pt_host.specs.Tree.{Object}
use Rattle.pt_host.specs.Errno.{errno_of}
use Rattle.pt_host.specs.declared.seat.HostSeat.{HostSeat}
use Rattle.pt_tables.specs.declared.form.Negotiated.{Negotiated}
use Rattle.pt_tables.specs.declared.event.KeptEvent.TheVariants as change
use Rattle.pt_tables.specs.declared.reply.EventReply.TheVariants as event
use Rattle.pt_tables.proofs.Cases.{cases}
use Rattle.pt_iface.specs.declared.answer.Answer.{Answer}
use Rattle.pt_iface.specs.declared.request.Context.{Context}
use Rattle.pt_iface.specs.declared.request.Request.{Request}
use Rattle.pt_iface.specs.declared.answer.Answer.TheVariants as answer
use Rattle.pt_iface.specs.declared.request.Request.TheVariants as request
use Rattle.pt_frame.specs.Deed.{Changes, Step}
use Rattle.pt_frame.specs.Grammar.{Belongs}
use Rattle.pt_frame.specs.Replies.{closings_in}
use Rattle.pt_frame.specs.Tree.{RequestTree, framed, go_on, grammar_of_tree, on}
use Rattle.pt_frame.specs.declared.act.ActReply.{ActReply}
use Rattle.pt_frame.specs.declared.act.ActReply.TheVariants.{Event}
use Rattle.pt_frame.specs.declared.finish.Finish.TheVariants as finish
use Rattle.pt_req.specs.Requests.{destroy, init, unserved}
use Rattle.pt_req.specs.Steps.{begin, began_in}
use Rattle.pt_req.specs.declared.begun.BegunSession.{BegunSession}
use Rattle.pt_req.specs.declared.plan.Plan.{Plan}
use Rattle.pt_job.specs.Pattern.{tree_of}
use Rattle.pt_job.specs.Requests.{in_session}
use Rattle.pt_fit.specs.Asker.{agreed_in, agreed_told, role_in}
use Rattle.pt_plain.specs.Plain.{PlainTree}
use Rattle.pt_plain.specs.Serves.{Serves}
use Rattle.pt_filled.specs.Contents.{AllStay, FilledTree}
use Rattle.pt_filled.specs.Fills.{Fills, FillsRefused}
use Rattle.pt_filled.specs.Filled.{IsFilledRequest}
use Rattle.pt_filled.specs.New.{next_object}
use Rattle.pt_filled.proofs.Attributes.{fills_setattr}
use Rattle.pt_filled.proofs.Copying.{fills_copy}
use Rattle.pt_filled.proofs.Creating.{fills_create}
use Rattle.pt_filled.proofs.Entries.{fills_link, fills_lookup}
use Rattle.pt_filled.proofs.Filling.{Between, filled, IsFilledBy, objects_of, stay}
use Rattle.pt_filled.proofs.Hosting.{Full, Thread}
use Rattle.pt_filled.proofs.Directories.{fills_readdir}
use Rattle.pt_filled.proofs.Listing.{fills_listxattr}
use Rattle.pt_filled.proofs.Made.{fills_mkdir, fills_mknod, fills_symlink}
use Rattle.pt_filled.proofs.Naming.{fills_rename, fills_rmdir, fills_unlink}
use Rattle.pt_filled.proofs.Openings.{fills_open, fills_open_dir}
use Rattle.pt_filled.proofs.Parts.{At, At.{by}, by_calm, comes_at, IsRefused, keeps_on, leaves_keeps, refused_at}
use Rattle.pt_filled.proofs.Parts.{refused_from, refused_with, walk_begin}
use Rattle.pt_filled.proofs.Reading.{fills_access, fills_getattr, fills_read, fills_readlink, fills_statfs}
use Rattle.pt_filled.proofs.Removing.{fills_removexattr}
use Rattle.pt_filled.proofs.Seeking.{fills_lseek}
use Rattle.pt_filled.proofs.Staying.{fills_batch_forget, fills_destroy, fills_flush, fills_forget, fills_fsync}
use Rattle.pt_filled.proofs.Staying.{fills_fsync_dir, fills_init, fills_release, fills_release_dir, fills_root}
use Rattle.pt_filled.proofs.Staying.{fills_syncfs, fills_unserved}
use Rattle.pt_filled.proofs.Threading.{Comes, comes, comes_first, IdlesBy, Makes, Walks}
use Rattle.pt_filled.proofs.Valued.{fills_getxattr}
use Rattle.pt_filled.proofs.Valuing.{fills_setxattr}
use Rattle.pt_filled.proofs.Writing.{fills_fallocate, fills_write}

-- a refusal that left all is one of any request
left_all : (plan : Plan) (seat : HostSeat) (who : Context) (asked : Request) (state after : FilledTree) →
    AllStay state after → next_object after ≡ next_object state → FillsRefused plan seat who asked state after
left_all plan seat who (request.Open inode kill flags) state after k n = inl k
left_all plan seat who (request.OpenDir inode flags) state after k n = inl k
left_all plan seat who (request.Create parent name mode kill flags umask ext) state after k n = inl (inl (k, n))
left_all plan seat who (request.Mkdir parent name mode umask ext) state after k n = inl (k, n)
left_all plan seat who (request.Mknod parent name mode rdev umask ext) state after k n = inl (k, n)
left_all plan seat who (request.Symlink target parent name ext) state after k n = inl (k, n)
left_all plan seat who (request.Write inode handle offset bytes delayed kill flags) state after k n = inl k
left_all plan seat who (request.SetAttr inode handle valid attr) state after k n = inl k
left_all plan seat who (request.SetXattr inode name value flags extra) state after k n = inl k
left_all plan seat who asked state after k n = k

pub refused_all : (plan : Plan) (seat : HostSeat) (who : Context) (asked : Request) (w w' : Full)
    (state after : PlainTree) (last : Answer) → Between w w' state after → IsRefused w last w' →
    IsFilledBy plan seat who asked state w last after w'
refused_all plan seat who asked w w' state after last g r =
    subst (λ (x : Answer). Fills plan seat who asked (filled state w) x (filled after w')) (sym r.is)
    (left_all plan seat who asked (filled state w) (filled after w') (stay w w' state after g.shows r.keeps)
    (ap (length {A = Object}) (objects_of w' after g.ends ∙ r.keeps.objects ∙ sym (objects_of w state g.shows))))

-- what was agreed on as the job began is what is agreed on, or the job was refused at once
pub begun : (j : Thread) (seat : HostSeat) (next : BegunSession → RequestTree) (w : Full) (steps : List Step)
    (last : Answer) (w' : Full) → last ≢ answer.NoMemory →
    Belongs (framed seat (begin next) [] []) steps (finish.Answer last) → Walks j w steps w' →
    (agreed_in steps ≡ w.tables.negotiated) ⊎ IsRefused w last w'
unfolding on go_on
begun j seat next w [] last w' n b k = absurd b
begun j seat next w (step ∷ steps) last w' n b k = elim (by_reply c.0 c.3 c.4 c.5) [
  | inl e ↦ inl (ap agreed_told (sym (comes_first j seat (Changes change.Begin) (on began_in next) [] [] w step steps
      last w'
      n b k)) ∙ e)
  | inr r ↦ inr r
]
  where
    c : Comes j (begin next) w last w'
    c = comes j seat (begin next) [] [] w (step ∷ steps) last w' n b k

    refuse : (told : ActReply) → Makes j w (Changes change.Begin) told c.1 →
        IdlesBy j (closings_in (Changes change.Begin) told) c.1 c.2 → Comes j (on began_in next told) c.2 last w' →
        began_in told ≡ None → IsRefused w last w'
    refuse told m i k e =
        refused_at j w c.2 told last w' n (keeps_on w c.1 c.2 (leaves_keeps j w c.1 (Changes change.Begin) told m tt)
        (by_calm j (closings_in (Changes change.Begin) told) c.1 c.2 i).keeps)
        (subst (λ (v : Option BegunSession). Comes j (go_on next told v) c.2 last w') e k)

    by_reply : (told : ActReply) → Makes j w (Changes change.Begin) told c.1 →
        IdlesBy j (closings_in (Changes change.Begin) told) c.1 c.2 → Comes j (on began_in next told) c.2 last w' →
        (agreed_told told ≡ w.tables.negotiated) ⊎ IsRefused w last w'
    by_reply (Event (event.Began era agreed)) m i k =
        inl (cases w.tables c.1.tables change.Begin (event.Began era agreed) m.2.goes.made.0).1
    by_reply told m i k = inr (refuse told m i k refl)

module _ (plan : Plan) (who : Context) (agreed : Negotiated) (j : Thread) (w : Full) (last : Answer) (w' : Full)
    (state after : PlainTree) (g : Between w w' state after) (n : last ≢ answer.NoMemory) where
  not_served : At j (begin unserved) w last w' → IsRefused w last w'
  not_served c =
      walk_begin j _ w last w' n c (λ r. r) (λ session b q z k.
      refused_from w b last w' q.keeps (refused_with j b (errno_of 38) last w' (comes_at k)))

  -- in the session that goes on, as it was agreed on
  fills_in_session : (asked : Request) → IsFilledRequest asked → j.role ≡ role_in plan j.seat who agreed asked →
      agreed ≡ w.tables.negotiated → Serves plan asked state last after →
      At j (begin (in_session plan j.seat who asked)) w last w' → IsFilledBy plan j.seat who asked state w last after w'
  fills_in_session (request.Init capable) f r a v c =
      refused_all plan j.seat who (request.Init capable) w w' state after last g (not_served c)
  fills_in_session request.Destroy f r a v c =
      refused_all plan j.seat who request.Destroy w w' state after last g (not_served c)
  fills_in_session request.Root f r a v c = fills_root plan who j w last w' state after g v c
  fills_in_session (request.Forget inode count) f r a v c = fills_forget plan who j w last w' state after g inode
      count v c
  fills_in_session (request.BatchForget list) f r a v c = fills_batch_forget plan who j w last w' state after g list v c
  fills_in_session (request.Release inode handle) f r a v c =
      fills_release plan who j w last w' state after g inode handle v c
  fills_in_session (request.ReleaseDir inode handle) f r a v c =
      fills_release_dir plan who j w last w' state after g inode handle v c
  fills_in_session (request.Lookup parent name) f r a v c =
      fills_lookup plan who j w last w' state after g n parent name v c
  fills_in_session (request.Link inode newparent newname) f r a v c =
      fills_link plan who j w last w' state after g n inode newparent newname v c
  fills_in_session (request.Open inode kill flags) f r a v c =
      fills_open plan who agreed j w last w' state after g n inode kill flags r v c
  fills_in_session (request.OpenDir inode flags) f r a v c =
      fills_open_dir plan who agreed j w last w' state after g n inode flags r v c
  fills_in_session (request.Mkdir parent name mode umask ext) f r a v c =
      fills_mkdir plan who agreed j w last w' state after g n a parent name mode umask ext r v c
  fills_in_session (request.Mknod parent name mode rdev umask ext) f r a v c =
      fills_mknod plan who agreed j w last w' state after g n a parent name mode rdev umask ext r v c
  fills_in_session (request.Symlink target parent name ext) f r a v c =
      fills_symlink plan who agreed j w last w' state after g n a target parent name ext r v c
  fills_in_session (request.Create parent name mode kill flags umask ext) f r a v c =
      fills_create plan who agreed j w last w' state after g n a parent name mode kill flags umask ext r v c
  fills_in_session (request.SetAttr inode handle valid attr) f r a v c =
      fills_setattr plan who agreed inode handle valid attr j w last w' state after g n r c
  fills_in_session (request.SetXattr inode name value flags extra) f r a v c =
      fills_setxattr plan who j w last w' state after g n inode name value flags extra c
  fills_in_session (request.GetXattr inode name size) f r a v c =
      fills_getxattr plan who j w last w' state after g n inode name size c
  fills_in_session (request.ListXattr inode size) f r a v c =
      fills_listxattr plan who j w last w' state after g n inode size c
  fills_in_session (request.RemoveXattr inode name) f r a v c =
      fills_removexattr plan who j w last w' state after g n inode name c
  fills_in_session (request.Unlink parent name) f r a v c =
      fills_unlink plan who j w last w' state after g n parent name c
  fills_in_session (request.Rmdir parent name) f r a v c = fills_rmdir plan who j w last w' state after g n parent
      name c
  fills_in_session (request.Rename olddir oldname newdir newname flags) f r a v c =
      fills_rename plan who j w last w' state after g n olddir oldname newdir newname flags c
  fills_in_session (request.Readlink inode) f r a v c = fills_readlink plan who j w last w' state after g n inode c
  fills_in_session (request.StatFs inode) f r a v c = fills_statfs plan who j w last w' state after g n inode c
  fills_in_session (request.GetAttr inode) f r a v c = fills_getattr plan who j w last w' state after g n inode c
  fills_in_session (request.Access inode mask) f r a v c = fills_access plan who j w last w' state after g n inode
      mask c
  fills_in_session (request.SyncFs inode) f r a v c = fills_syncfs plan who j w last w' state after g inode v c
  fills_in_session (request.Read inode handle size offset) f r a v c =
      fills_read plan who j w last w' state after g n inode handle size offset c
  fills_in_session (request.Write inode handle offset bytes delayed kill flags) f r a v c =
      fills_write plan who agreed j w last w' state after g n inode handle offset bytes delayed kill flags r c
  fills_in_session (request.Flush inode handle) f r a v c = fills_flush plan who j w last w' state after g inode
      handle v c
  fills_in_session (request.Fsync inode handle datasync) f r a v c =
      fills_fsync plan who j w last w' state after g inode handle datasync v c
  fills_in_session (request.FsyncDir inode handle datasync) f r a v c =
      fills_fsync_dir plan who j w last w' state after g inode handle datasync v c
  fills_in_session (request.Fallocate inode handle mode offset size) f r a v c =
      fills_fallocate plan who agreed j w last w' state after g n inode handle mode offset size c
  fills_in_session (request.Lseek inode handle offset whence) f r a v c =
      fills_lseek plan who j w last w' state after g n inode handle offset whence c
  fills_in_session (request.CopyFileRange inode handle offset inode2 handle2 offset2 size flags) f r a v c =
      fills_copy plan who agreed j w last w' state after g n inode handle offset inode2 handle2 offset2 size flags r c
  fills_in_session (request.ReadDir inode handle size offset) f r a v c =
      fills_readdir plan who j w last w' state after g n inode handle size offset f c
  fills_in_session (request.Other opcode) f r a v c = fills_unserved plan who j w last w' state after g opcode v c

-- a job of a request
pub fills_request : (plan : Plan) (who : Context) (asked : Request) (j : Thread) (w : Full) (steps : List Step)
    (last : Answer) (w' : Full) (state after : PlainTree) → Between w w' state after → last ≢ answer.NoMemory →
    IsFilledRequest asked → j.role ≡ role_in plan j.seat who (agreed_in steps) asked →
    Serves plan asked state last after →
    Belongs (grammar_of_tree j.seat (tree_of plan j.seat who asked)) steps (finish.Answer last) → Walks j w steps w' →
    IsFilledBy plan j.seat who asked state w last after w'
fills_request plan who (request.Init capable) j w steps last w' state after g n f r v b k =
    fills_init plan who j w last w' state after g capable v (by (comes j j.seat (init plan capable) [] [] w steps last
    w' n b k))
fills_request plan who request.Destroy j w steps last w' state after g n f r v b k =
    fills_destroy plan who j w last w' state after g v (by (comes j j.seat destroy [] [] w steps last w' n b k))
fills_request plan who asked j w steps last w' state after g n f r v b k =
    elim (begun j j.seat (in_session plan j.seat who asked) w steps last w' n b k) [
      | inl a ↦ fills_in_session plan who (agreed_in steps) j w last w' state after g n asked f r a v
          (by (comes j j.seat (begin (in_session plan j.seat who asked)) [] [] w steps last w' n b k))
      | inr x ↦ refused_all plan j.seat who asked w w' state after last g x
    ]
