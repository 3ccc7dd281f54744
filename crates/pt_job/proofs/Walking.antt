-- What passes through each step of a request holds of every request.
use Rattle.std.proofs.Common.{◌≡◌, ℕ, Bool, false, Option, Some, None, is_some, [], ◌∷◌}
use Rattle.pt_host.specs.Flags.{o_directory}
use Rattle.pt_host.specs.declared.seat.HostSeat.{HostSeat}
use Rattle.pt_creds.specs.Identity.{Credentials}
use Rattle.pt_iface.specs.declared.request.Context.{Context}
use Rattle.pt_iface.specs.declared.request.Request.{Request}
use Rattle.pt_iface.specs.declared.request.Request.TheVariants as request
use Rattle.pt_iface.specs.declared.request.SecContext.{SecContext}
use Rattle.pt_frame.specs.Deed.{Deed}
use Rattle.pt_frame.specs.Tree.{RequestTree}
use Rattle.pt_frame.specs.declared.act.ActReply.{ActReply}
use Rattle.pt_req.specs.Capability.{drops_fsetid}
use Rattle.pt_req.specs.Options.{agreed_with, with_bits}
use Rattle.pt_req.specs.declared.plan.Plan.{Plan}
use Rattle.pt_req.proofs.Walking.{Walk, OfAsker, OfEmptying, OfLabel, OfMade, OfOpening, OfRoot, inits, destroys}
use Rattle.pt_req.proofs.Walking.{shares_root, looks_up_name, forgets_all, opens, releases_it, reads, unserves}
use Rattle.pt_attr.specs.Creating.{file_asked}
use Rattle.pt_attr.specs.Setting.{kills_suidgid}
use Rattle.pt_attr.proofs.Walking.{OfSetting, OfWrite, makes_dir, makes_node, makes_symlink, sets_attr, reads_links}
use Rattle.pt_attr.proofs.Walking.{tells_fs}
use Rattle.pt_attr.proofs.Walking.{gets_attr, allows, unlinks, removes_dir, links, renames, writes, allocates_room}
use Rattle.pt_attr.proofs.Walking.{seeks, copies, flushes, syncs, syncs_all}
use Rattle.pt_attr.proofs.Walking.{creates}
use Rattle.pt_xattr.proofs.Walking.{OfXattr, gets_xattr, lists_xattr, reads_dir, removes_xattr, sets_xattr}
use Rattle.pt_job.specs.Pattern.{takes_memory}
use Rattle.pt_job.specs.Requests.{object_asked, tree_of}

-- it holds of each making of a request
abbrev pub OfMakings : (Credentials → Option ℕ → Type 0) → Plan → Context → Request → Type 0
OfMakings M plan who (request.Create parent name mode kill flags umask ext) =
    OfAsker M plan who ext.sup_gid (Some umask)
OfMakings M plan who (request.Mkdir parent name mode umask ext) = OfAsker M plan who ext.sup_gid (Some umask)
OfMakings M plan who (request.Mknod parent name mode rdev umask ext) =
    OfAsker M plan who ext.sup_gid (Some umask)
OfMakings M plan who (request.Symlink target parent name ext) = OfAsker M plan who ext.sup_gid None
OfMakings M plan who asked = Unit {0}

pub of_any : (plan : Plan) (who : Context) (asked : Request) → OfMakings (λ creds umask. Unit {0}) plan who asked
of_any plan who (request.Create parent name mode kill flags umask ext) = λ session creds e. tt
of_any plan who (request.Mkdir parent name mode umask ext) = λ session creds e. tt
of_any plan who (request.Mknod parent name mode rdev umask ext) = λ session creds e. tt
of_any plan who (request.Symlink target parent name ext) = λ session creds e. tt
of_any plan who asked = tt

-- of each of its calls by which set-id bits may go, and of what it says to be agreed on, with the root
abbrev pub OfScopes : (Bool → Deed → Type 0) → Plan → HostSeat → Request → Type 0
OfScopes D plan seat (request.Init capable) = OfRoot D (Some (agreed_with plan.config capable))
OfScopes D plan seat request.Root = OfRoot D None
OfScopes D plan seat (request.Open inode kill flags) = OfEmptying D (drops_fsetid plan seat kill)
OfScopes D plan seat (request.OpenDir inode flags) = OfEmptying D (drops_fsetid plan seat false)
OfScopes D plan seat (request.Create parent name mode kill flags umask ext) =
    OfEmptying D (drops_fsetid plan seat kill)
OfScopes D plan seat (request.Write inode handle offset bytes delayed kill flags) =
    OfWrite D (drops_fsetid plan seat kill)
OfScopes D plan seat (request.SetAttr inode handle valid attr) =
    OfSetting D (drops_fsetid plan seat (kills_suidgid valid))
OfScopes D plan seat (request.SyncFs inode) = OfOpening D false
OfScopes D plan seat (request.SetXattr inode name value flags extra) = OfXattr D
OfScopes D plan seat (request.GetXattr inode name size) = OfOpening D false
OfScopes D plan seat (request.ListXattr inode size) = OfOpening D false
OfScopes D plan seat (request.RemoveXattr inode name) = OfXattr D
OfScopes D plan seat asked = Unit {0}

pub of_any_scopes : (plan : Plan) (seat : HostSeat) (asked : Request) →
    OfScopes (λ dropped asked. Unit {0}) plan seat asked
of_any_scopes plan seat (request.Init capable) = λ era form told. tt
of_any_scopes plan seat request.Root = λ era form told. tt
of_any_scopes plan seat (request.Open inode kill flags) = ((λ fd how. tt), (λ fd name. tt))
of_any_scopes plan seat (request.OpenDir inode flags) = ((λ fd how. tt), (λ fd name. tt))
of_any_scopes plan seat (request.Create parent name mode kill flags umask ext) = ((λ fd how. tt), (λ fd name. tt))
of_any_scopes plan seat (request.Write inode handle offset bytes delayed kill flags) =
    ((λ fd at bytes append. tt), (λ fd name. tt))
of_any_scopes plan seat (request.SetAttr inode handle valid attr) =
    (((λ fd size. tt), (λ fd name. tt)), (λ fd how. tt), (λ fd name. tt))
of_any_scopes plan seat (request.SyncFs inode) = λ fd how. tt
of_any_scopes plan seat (request.SetXattr inode name value flags extra) =
    ((λ fd how. tt), (λ through fd name. tt))
of_any_scopes plan seat (request.GetXattr inode name size) = λ fd how. tt
of_any_scopes plan seat (request.ListXattr inode size) = λ fd how. tt
of_any_scopes plan seat (request.RemoveXattr inode name) = ((λ fd how. tt), (λ through fd name. tt))
of_any_scopes plan seat asked = tt

-- and of what a request makes, which takes memory
abbrev pub OfMemory : (RequestTree → Type 0) → Request → Type 0
OfMemory Q (request.Create parent name mode kill flags umask ext) = OfLabel Q ext.secctx
OfMemory Q (request.Mkdir parent name mode umask ext) = OfLabel Q ext.secctx
OfMemory Q (request.Mknod parent name mode rdev umask ext) = OfLabel Q ext.secctx
OfMemory Q (request.Symlink target parent name ext) = OfLabel Q ext.secctx
OfMemory Q (request.ReadDir inode handle size offset) = OfMade Q
OfMemory Q (request.SetXattr inode name value flags extra) = OfMade Q
OfMemory Q (request.GetXattr inode name size) = OfMade Q
OfMemory Q (request.ListXattr inode size) = OfMade Q
OfMemory Q (request.RemoveXattr inode name) = OfMade Q
OfMemory Q asked = Unit {0}

pub of_label : (Q : RequestTree → Type 0) → OfMade Q → (brought : Option SecContext) → OfLabel Q brought
of_label Q made None = tt
of_label Q made (Some label) = made

of_no_label : (Q : RequestTree → Type 0) (brought : Option SecContext) → is_some brought ≡ false → OfLabel Q brought
of_no_label Q None e = tt
of_no_label Q (Some label) e = absurd (cc)

pub of_memory : (Q : RequestTree → Type 0) → OfMade Q → (asked : Request) → OfMemory Q asked
of_memory Q made (request.Create parent name mode kill flags umask ext) = of_label Q made ext.secctx
of_memory Q made (request.Mkdir parent name mode umask ext) = of_label Q made ext.secctx
of_memory Q made (request.Mknod parent name mode rdev umask ext) = of_label Q made ext.secctx
of_memory Q made (request.Symlink target parent name ext) = of_label Q made ext.secctx
of_memory Q made (request.ReadDir inode handle size offset) = made
of_memory Q made (request.SetXattr inode name value flags extra) = made
of_memory Q made (request.GetXattr inode name size) = made
of_memory Q made (request.ListXattr inode size) = made
of_memory Q made (request.RemoveXattr inode name) = made
of_memory Q made asked = tt

-- a request that makes nothing
pub of_none : (Q : RequestTree → Type 0) (asked : Request) → takes_memory asked ≡ false → OfMemory Q asked
of_none Q (request.Create parent name mode kill flags umask ext) e = of_no_label Q ext.secctx e
of_none Q (request.Mkdir parent name mode umask ext) e = of_no_label Q ext.secctx e
of_none Q (request.Mknod parent name mode rdev umask ext) e = of_no_label Q ext.secctx e
of_none Q (request.Symlink target parent name ext) e = of_no_label Q ext.secctx e
of_none Q (request.ReadDir inode handle size offset) e = absurd (cc)
of_none Q (request.SetXattr inode name value flags extra) e = absurd (cc)
of_none Q (request.GetXattr inode name size) e = absurd (cc)
of_none Q (request.ListXattr inode size) e = absurd (cc)
of_none Q (request.RemoveXattr inode name) e = absurd (cc)
of_none Q asked e = tt

module _
    {seat : HostSeat}
    {M : Credentials → Option ℕ → Type 0}
    {D : Bool → Deed → Type 0}
    {Q : RequestTree → Type 0}
    {R : ActReply → RequestTree → Type 0}
    (w : Walk seat M D Q R)
  where
    pub each_request : (plan : Plan) (who : Context) (asked : Request) → OfMakings M plan who asked →
        OfScopes D plan seat asked → OfMemory Q asked → Q (tree_of plan seat who asked)
    each_request plan who (request.Init capable) may scopes made = inits w plan capable scopes
    each_request plan who request.Destroy may scopes made = destroys w
    each_request plan who request.Root may scopes made = shares_root w plan scopes
    each_request plan who (request.Lookup parent name) may scopes made = looks_up_name w plan parent name
    each_request plan who (request.Forget inode count) may scopes made = forgets_all w ((inode, count) ∷ [])
    each_request plan who (request.BatchForget list) may scopes made = forgets_all w list
    each_request plan who (request.Open inode kill flags) may scopes made = opens w plan inode kill flags scopes
    each_request plan who (request.OpenDir inode flags) may scopes made =
        opens w plan inode false (with_bits flags o_directory) scopes
    each_request plan who (request.Release inode handle) may scopes made = releases_it w inode handle
    each_request plan who (request.ReleaseDir inode handle) may scopes made = releases_it w inode handle
    each_request plan who (request.Read inode handle size offset) may scopes made = reads w inode handle size offset
    each_request plan who (request.Write inode handle offset bytes delayed kill flags) may scopes made =
        writes w plan inode handle offset bytes delayed kill flags scopes
    each_request plan who (request.Create parent name mode kill flags umask ext) may scopes made =
        creates w plan (file_asked who parent name mode kill flags umask ext) may scopes made
    each_request plan who (request.Mkdir parent name mode umask ext) may scopes made =
        makes_dir w plan (object_asked who parent name (Some umask) ext) mode may made
    each_request plan who (request.Mknod parent name mode rdev umask ext) may scopes made =
        makes_node w plan (object_asked who parent name (Some umask) ext) mode rdev may made
    each_request plan who (request.Symlink target parent name ext) may scopes made =
        makes_symlink w plan (object_asked who parent name None ext) target may made
    each_request plan who (request.Link inode newparent newname) may scopes made = links w plan inode newparent newname
    each_request plan who (request.Unlink parent name) may scopes made = unlinks w parent name
    each_request plan who (request.Rmdir parent name) may scopes made = removes_dir w parent name
    each_request plan who (request.Rename olddir oldname newdir newname flags) may scopes made =
        renames w olddir oldname newdir newname flags
    each_request plan who (request.Readlink inode) may scopes made = reads_links w inode
    each_request plan who (request.StatFs inode) may scopes made = tells_fs w inode
    each_request plan who (request.GetAttr inode) may scopes made = gets_attr w plan inode
    each_request plan who (request.SetAttr inode handle valid attr) may scopes made =
        sets_attr w plan inode handle valid attr scopes
    each_request plan who (request.Access inode mask) may scopes made = allows w plan who inode mask
    each_request plan who (request.ReadDir inode handle size offset) may scopes made =
        reads_dir w made inode handle size offset
    each_request plan who (request.Flush inode handle) may scopes made = flushes w inode handle
    each_request plan who (request.Fsync inode handle datasync) may scopes made = syncs w inode handle datasync
    each_request plan who (request.FsyncDir inode handle datasync) may scopes made = syncs w inode handle datasync
    each_request plan who (request.SyncFs inode) may scopes made = syncs_all w plan inode scopes
    each_request plan who (request.Fallocate inode handle mode offset length) may scopes made =
        allocates_room w inode handle mode offset length
    each_request plan who (request.Lseek inode handle offset whence) may scopes made = seeks w inode handle offset whence
    each_request plan who (request.CopyFileRange inode handle offset inode2 handle2 offset2 length flags) may scopes made =
        copies w inode handle offset inode2 handle2 offset2 length flags
    each_request plan who (request.SetXattr inode name value flags extra) may scopes made =
        sets_xattr w made plan inode name value flags extra scopes
    each_request plan who (request.GetXattr inode name size) may scopes made =
        gets_xattr w made plan inode name size scopes
    each_request plan who (request.ListXattr inode size) may scopes made = lists_xattr w made plan inode size scopes
    each_request plan who (request.RemoveXattr inode name) may scopes made =
        removes_xattr w made plan inode name scopes
    each_request plan who (request.Other opcode) may scopes made = unserves w
