-- Proof. Each request that runs alone is served by the plain file system.
use Rattle.std.proofs.Common.{◌≡◌, ◌⊎◌, ℕ, false, List, [], ◌∷◌, Some, None, inl, inr, refl, sym, subst}
use Rattle.pt_host.specs.Flags.{o_directory}
use Rattle.pt_host.specs.Names.{TakesName, Renames}
use Rattle.pt_host.specs.declared.ids.Errno.{Errno}
use Rattle.pt_host.specs.declared.seat.HostSeat.{HostSeat}
use Rattle.pt_iface.specs.declared.answer.Answer.{Answer}
use Rattle.pt_iface.specs.declared.answer.Answer.TheVariants as answer
use Rattle.pt_iface.specs.declared.entry.Entry.{Entry}
use Rattle.pt_iface.specs.declared.flags.OpenOptions.{OpenOptions}
use Rattle.pt_iface.specs.declared.request.Context.{Context}
use Rattle.pt_iface.specs.declared.request.Request.{Request}
use Rattle.pt_iface.specs.declared.request.Request.TheVariants as request
use Rattle.pt_frame.specs.Tree.{RequestTree}
use Rattle.pt_req.specs.Options.{open_options, with_bits}
use Rattle.pt_req.specs.declared.plan.Plan.{Plan}
use Rattle.pt_job.specs.Requests.{object_asked, tree_of}
use Rattle.pt_law.specs.World.{World}
use Rattle.pt_plain.specs.Plain.{PlainTree, OfNumber}
use Rattle.pt_plain.specs.Serves.{ByNames, EndsHandle, LeavesMade, MakesEntry, OpensNumber, Serves}
use Rattle.pt_plain.proofs.Beginning.{served_destroy, served_init, served_root}
use Rattle.pt_plain.proofs.Coming.{Law}
use Rattle.pt_plain.proofs.Creating.{served_create}
use Rattle.pt_plain.proofs.Forgetting.{served_forget}
use Rattle.pt_plain.proofs.Linking.{served_link}
use Rattle.pt_plain.proofs.Looking.{served_lookup}
use Rattle.pt_plain.proofs.Making.{Directory, IsMaking, Link, Node, served_making}
use Rattle.pt_plain.proofs.Naming.{served_rename, served_rmdir, served_unlink}
use Rattle.pt_plain.proofs.Opening.{served_open}
use Rattle.pt_plain.proofs.Releasing.{served_release}
use Rattle.pt_plain.proofs.Serving.{Alone, IsServed}
use Rattle.pt_plain.proofs.Showing.{Shows}
use Rattle.pt_plain.proofs.Staying.{Stays, stays_access, stays_copy, stays_fallocate, stays_flush, stays_fsync}
use Rattle.pt_plain.proofs.Staying.{stays_fsyncdir, stays_getattr, stays_getxattr, stays_listxattr, stays_lseek}
use Rattle.pt_plain.proofs.Staying.{stays_read_bytes, stays_readdir, stays_readlink, stays_removexattr, stays_setattr}
use Rattle.pt_plain.proofs.Staying.{stays_setxattr, stays_statfs, stays_syncfs, stays_unserved, stays_write}
use Rattle.pt_plain.proofs.Through.{served_mild}

-- how it is answered, where nothing changed or that is the state after
by_answer : (plan : Plan) (asked : Request) (state : PlainTree) (last given : Answer) (w' : World) → last ≡ given →
    (after : PlainTree) → Serves plan asked state given after → Shows w' after → IsServed plan asked state last w'
by_answer plan asked state last given w' e after k sh =
    (after, subst (λ (x : Answer). Serves plan asked state x after) (sym e) k, sh)

-- what leaves the state
stays : (plan : Plan) (j : ℕ) (seat : HostSeat) (asked : Request) (tree : RequestTree) (w : World) (last : Answer)
    (w' : World) (state : PlainTree) → Shows w state → Alone j seat tree w last w' →
    ((errno : Errno) → Serves plan asked state (answer.Refused errno) state) → Stays plan asked state tree →
    IsServed plan asked state last w'
stays plan j seat asked tree w last w' state s a ok t =
    let r = served_mild j seat tree w last w' state (λ last. Serves plan asked state last state) s a ok t.by in
    (state, r.0, r.1)

-- what makes
makes : (plan : Plan) (asked : Request) (state : PlainTree) (parent : ℕ) (name : List ℕ) (last : Answer) (w' : World) →
    ((errno : Errno) (after : PlainTree) → LeavesMade state parent name after →
    Serves plan asked state (answer.Refused errno) after) →
    ((entry : Entry) (after : PlainTree) → MakesEntry state parent name entry.inode after →
    Serves plan asked state (answer.Entry entry) after) → IsMaking state parent name last w' →
    IsServed plan asked state last w'
makes plan asked state parent name last w' bad good (inl r) =
    by_answer plan asked state last (answer.Refused r.0) w' r.1 r.2.0 (bad r.0 r.2.0 r.2.1) r.2.2
makes plan asked state parent name last w' bad good (inr g) =
    by_answer plan asked state last (answer.Entry g.0) w' g.1 g.2.0 (good g.0 g.2.0 g.2.1) g.2.2

-- what is done, or refused
does : (plan : Plan) (asked : Request) (state : PlainTree) (last : Answer) (w' : World) (Does : PlainTree → Type 0) →
    ((errno : Errno) → Serves plan asked state (answer.Refused errno) state) →
    ((after : PlainTree) → Does after → Serves plan asked state answer.Done after) →
    ((errno : Errno) × (last ≡ answer.Refused errno) × Shows w' state)
    ⊎ ((last ≡ answer.Done) × ((after : PlainTree) × Does after × Shows w' after)) → IsServed plan asked state last w'
does plan asked state last w' Does bad good (inl r) =
    by_answer plan asked state last (answer.Refused r.0) w' r.1 state (bad r.0) r.2
does plan asked state last w' Does bad good (inr g) =
    by_answer plan asked state last answer.Done w' g.0 g.1.0 (good g.1.0 g.1.1) g.1.2

-- what is opened
opened : (plan : Plan) (asked : Request) (state : PlainTree) (inode : ℕ) (options : OpenOptions) (last : Answer)
    (w' : World) →
    ((errno : Errno) → Serves plan asked state (answer.Refused errno) state) →
    ((handle : ℕ) (after : PlainTree) → OpensNumber state inode handle after →
    Serves plan asked state (answer.Opened handle options) after) →
    ((errno : Errno) × (last ≡ answer.Refused errno) × Shows w' state)
    ⊎ ((handle : ℕ) × (last ≡ answer.Opened handle options)
    × ((after : PlainTree) × OpensNumber state inode handle after × Shows w' after)) → IsServed plan asked state last w'
opened plan asked state inode options last w' bad good (inl r) =
    by_answer plan asked state last (answer.Refused r.0) w' r.1 state (bad r.0) r.2
opened plan asked state inode options last w' bad good (inr g) =
    by_answer plan asked state last (answer.Opened g.0 options) w' g.1 g.2.0 (good g.0 g.2.0 g.2.1) g.2.2

forgets_one : (plan : Plan) (state : PlainTree) (inode count : ℕ) (last : Answer) (w' : World) →
    IsServed plan (request.BatchForget ((inode, count) ∷ [])) state last w' →
    IsServed plan (request.Forget inode count) state last w'
forgets_one plan state inode count last w' g = (g.0, same last g.0 g.1, g.2)
  where
    same : (told : Answer) (after : PlainTree) →
        Serves plan (request.BatchForget ((inode, count) ∷ [])) state told after →
        Serves plan (request.Forget inode count) state told after
    same answer.NoReply after e = e
    same (answer.Refused errno) after e = e
    same told after e = absurd e

-- each request
pub served : (plan : Plan) (j : ℕ) (seat : HostSeat) (who : Context) (asked : Request) (w : World) (last : Answer)
    (w' : World) (state : PlainTree) → Shows w state → Law w →
    Alone j seat (tree_of plan seat who asked) w last w' → IsServed plan asked state last w'
served plan j seat who (request.Init capable) w last w' state s l a =
    served_init plan j seat capable w last w' state s a
served plan j seat who request.Destroy w last w' state s l a = served_destroy plan j seat w last w' state s a
served plan j seat who request.Root w last w' state s l a = served_root plan j seat w last w' state s a
served plan j seat who (request.Lookup parent name) w last w' state s l a =
    served_lookup plan j seat parent name w last w' state s l a
served plan j seat who (request.BatchForget list) w last w' state s l a =
    served_forget plan j seat list w last w' state s a
served plan j seat who (request.Forget inode count) w last w' state s l a =
    forgets_one plan state inode count last w' (served_forget plan j seat ((inode, count) ∷ []) w last w' state s a)
served plan j seat who (request.Mkdir parent name mode umask ext) w last w' state s l a =
    makes plan (request.Mkdir parent name mode umask ext) state parent name last w' (λ errno after k. k)
    (λ entry after k. k)
    (served_making plan j seat (object_asked who parent name (Some umask) ext) (Directory mode) w last w' state s l a)
served plan j seat who (request.Mknod parent name mode rdev umask ext) w last w' state s l a =
    makes plan (request.Mknod parent name mode rdev umask ext) state parent name last w' (λ errno after k. k)
    (λ entry after k. k)
    (served_making plan j seat (object_asked who parent name (Some umask) ext) (Node mode rdev) w last w' state s l a)
served plan j seat who (request.Symlink target parent name ext) w last w' state s l a =
    makes plan (request.Symlink target parent name ext) state parent name last w' (λ errno after k. k)
    (λ entry after k. k)
    (served_making plan j seat (object_asked who parent name None ext) (Link target) w last w' state s l a)
served plan j seat who (request.Create parent name mode kill flags umask ext) w last w' state s l a =
    served_create plan j seat who parent name mode kill flags umask ext w last w' state s l a
served plan j seat who (request.Link inode newparent newname) w last w' state s l a =
    served_link plan j seat inode newparent newname w last w' state s l a
served plan j seat who (request.Open inode kill flags) w last w' state s l a =
    opened plan (request.Open inode kill flags) state inode (open_options plan.config flags) last w' (λ errno. refl)
    (λ handle after k. (refl, k)) (served_open plan j seat inode kill flags w last w' state s a)
served plan j seat who (request.OpenDir inode flags) w last w' state s l a =
    opened plan (request.OpenDir inode flags) state inode (open_options plan.config (with_bits flags o_directory)) last
    w'
    (λ errno. refl) (λ handle after k. (refl, k))
    (served_open plan j seat inode false (with_bits flags o_directory) w last w' state s a)
served plan j seat who (request.Release inode handle) w last w' state s l a =
    does plan (request.Release inode handle) state last w' (EndsHandle state handle inode) (λ errno. refl)
    (λ after k. k) (served_release j seat inode handle w last w' state s a)
served plan j seat who (request.ReleaseDir inode handle) w last w' state s l a =
    does plan (request.ReleaseDir inode handle) state last w' (EndsHandle state handle inode) (λ errno. refl)
    (λ after k. k) (served_release j seat inode handle w last w' state s a)
served plan j seat who (request.Unlink parent name) w last w' state s l a =
    does plan (request.Unlink parent name) state last w'
    (λ after. OfNumber state parent (λ dir. ByNames state (TakesName state.tree dir name) after)) (λ errno. refl)
    (λ after k. k) (served_unlink j seat parent name w last w' state s a)
served plan j seat who (request.Rmdir parent name) w last w' state s l a =
    does plan (request.Rmdir parent name) state last w'
    (λ after. OfNumber state parent (λ dir. ByNames state (TakesName state.tree dir name) after)) (λ errno. refl)
    (λ after k. k) (served_rmdir j seat parent name w last w' state s a)
served plan j seat who (request.Rename olddir oldname newdir newname flags) w last w' state s l a =
    does plan (request.Rename olddir oldname newdir newname flags) state last w'
    (λ after. OfNumber state olddir (λ dir. OfNumber state newdir (λ to.
    ByNames state (Renames state.tree dir oldname to newname flags) after))) (λ errno. refl) (λ after k. k)
    (served_rename j seat olddir oldname newdir newname flags w last w' state s a)
served plan j seat who (request.Readlink inode) w last w' state s l a =
    stays plan j seat (request.Readlink inode) _ w last w' state s a (λ errno. refl) (stays_readlink plan state inode)
served plan j seat who (request.StatFs inode) w last w' state s l a =
    stays plan j seat (request.StatFs inode) _ w last w' state s a (λ errno. refl) (stays_statfs plan state inode)
served plan j seat who (request.GetAttr inode) w last w' state s l a =
    stays plan j seat (request.GetAttr inode) _ w last w' state s a (λ errno. refl) (stays_getattr plan state inode)
served plan j seat who (request.SetAttr inode handle valid attr) w last w' state s l a =
    stays plan j seat (request.SetAttr inode handle valid attr) _ w last w' state s a (λ errno. refl)
    (stays_setattr plan state seat inode handle valid attr)
served plan j seat who (request.Access inode mask) w last w' state s l a =
    stays plan j seat (request.Access inode mask) _ w last w' state s a (λ errno. refl)
    (stays_access plan state who inode mask)
served plan j seat who (request.SyncFs inode) w last w' state s l a =
    stays plan j seat (request.SyncFs inode) _ w last w' state s a (λ errno. refl) (stays_syncfs plan state inode)
served plan j seat who (request.SetXattr inode name value flags extra) w last w' state s l a =
    stays plan j seat (request.SetXattr inode name value flags extra) _ w last w' state s a (λ errno. refl)
    (stays_setxattr plan state inode name value flags extra)
served plan j seat who (request.GetXattr inode name size) w last w' state s l a =
    stays plan j seat (request.GetXattr inode name size) _ w last w' state s a (λ errno. refl)
    (stays_getxattr plan state inode name size)
served plan j seat who (request.ListXattr inode size) w last w' state s l a =
    stays plan j seat (request.ListXattr inode size) _ w last w' state s a (λ errno. refl)
    (stays_listxattr plan state inode size)
served plan j seat who (request.RemoveXattr inode name) w last w' state s l a =
    stays plan j seat (request.RemoveXattr inode name) _ w last w' state s a (λ errno. refl)
    (stays_removexattr plan state inode name)
served plan j seat who (request.Read inode handle size offset) w last w' state s l a =
    stays plan j seat (request.Read inode handle size offset) _ w last w' state s a (λ errno. refl)
    (stays_read_bytes plan state inode handle size offset)
served plan j seat who (request.Write inode handle offset bytes delayed kill flags) w last w' state s l a =
    stays plan j seat (request.Write inode handle offset bytes delayed kill flags) _ w last w' state s a (λ errno. refl)
    (stays_write plan state seat inode handle offset bytes delayed kill flags)
served plan j seat who (request.ReadDir inode handle size offset) w last w' state s l a =
    stays plan j seat (request.ReadDir inode handle size offset) _ w last w' state s a (λ errno. refl)
    (stays_readdir plan state inode handle size offset)
served plan j seat who (request.Flush inode handle) w last w' state s l a =
    stays plan j seat (request.Flush inode handle) _ w last w' state s a (λ errno. refl)
    (stays_flush plan state inode handle)
served plan j seat who (request.Fsync inode handle datasync) w last w' state s l a =
    stays plan j seat (request.Fsync inode handle datasync) _ w last w' state s a (λ errno. refl)
    (stays_fsync plan state inode handle datasync)
served plan j seat who (request.FsyncDir inode handle datasync) w last w' state s l a =
    stays plan j seat (request.FsyncDir inode handle datasync) _ w last w' state s a (λ errno. refl)
    (stays_fsyncdir plan state inode handle datasync)
served plan j seat who (request.Fallocate inode handle mode offset length) w last w' state s l a =
    stays plan j seat (request.Fallocate inode handle mode offset length) _ w last w' state s a (λ errno. refl)
    (stays_fallocate plan state inode handle mode offset length)
served plan j seat who (request.Lseek inode handle offset whence) w last w' state s l a =
    stays plan j seat (request.Lseek inode handle offset whence) _ w last w' state s a (λ errno. refl)
    (stays_lseek plan state inode handle offset whence)
served plan j seat who (request.CopyFileRange inode handle offset inode2 handle2 offset2 length flags) w last w' state
    s l
    a =
    stays plan j seat (request.CopyFileRange inode handle offset inode2 handle2 offset2 length flags) _ w last w' state
    s a
    (λ errno. refl) (stays_copy plan state inode handle offset inode2 handle2 offset2 length flags)
served plan j seat who (request.Other opcode) w last w' state s l a =
    stays plan j seat (request.Other opcode) _ w last w' state s a (λ errno. refl) (stays_unserved plan state opcode)
