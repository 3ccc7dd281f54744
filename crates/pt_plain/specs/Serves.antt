-- Believed. How the plain file system serves each request: names, numbers and handles.
use Rattle.std.specs.Prelude.{◌≡◌, ◌⊎◌, ℕ, true, false, List, [], ◌∷◌, Option, Some, None}
use Rattle.pt_host.specs.Flags.{includes, o_excl, o_directory}
use Rattle.pt_host.specs.Names.{TakesName, MakesObject, LinksName, Renames}
use Rattle.pt_host.specs.Edits.{Edits as EditsTree}
use Rattle.pt_host.specs.Tree.{Tree}
use Rattle.pt_host.specs.Words.{set_at}
use Rattle.pt_tables.specs.Tables.{nothing_agreed}
use Rattle.pt_iface.specs.declared.answer.Answer.{Answer}
use Rattle.pt_iface.specs.declared.answer.Answer.TheVariants as answer
use Rattle.pt_iface.specs.declared.directory.DirEntry.{DirEntry}
use Rattle.pt_iface.specs.declared.request.Request.{Request}
use Rattle.pt_iface.specs.declared.request.Request.TheVariants as request
use Rattle.pt_req.specs.Options.{agreed_with, create_options, init_options, is_short_of, open_options, with_bits}
use Rattle.pt_req.specs.declared.plan.Plan.{Plan}
use Rattle.pt_job.specs.Pattern.{Asked, Requests, Edits}
use Rattle.pt_plain.specs.Plain.{PlainTree, numbered_as, OfNumber, OfHandle, Gives, forgetting, Opens}

-- with these names
abbrev pub named_by : PlainTree → Tree → PlainTree
named_by state tree = record state { tree = tree }

-- the object that the name has in the directory is given once more
abbrev pub Looks : PlainTree → ℕ → List ℕ → ℕ → PlainTree → Type 0
Looks state dir name number after =
    (object : ℕ) × (state.tree.names dir name ≡ Some object) × Gives state object number after

-- the guest holds no number and no handle, and nothing is agreed on
abbrev pub emptied : PlainTree → PlainTree
emptied state = record state { numbers = λ number. None; handles = λ handle. None; agreed = nothing_agreed }

-- the root is number 1, and held twice
abbrev pub HasRoot : PlainTree → PlainTree → Type 0
HasRoot state after =
    (root : ℕ) × (state.numbers 1 ≡ None)
    × (after ≡ record state { numbers = set_at 1 (numbered_as root 2) state.numbers })

-- after a new name, which a new object has, the name is looked up
abbrev pub MakesEntry : PlainTree → ℕ → List ℕ → ℕ → PlainTree → Type 0
MakesEntry state parent name number after = OfNumber state parent (λ dir.
    (made : Tree) × MakesObject state.tree dir name made × Looks (named_by state made) dir name number after)

-- a number's file is opened
abbrev pub OpensNumber : PlainTree → ℕ → ℕ → PlainTree → Type 0
OpensNumber state number handle after = OfNumber state number (λ object. Opens state number object handle after)

-- a handle goes, which was opened for the number
abbrev pub EndsHandle : PlainTree → ℕ → ℕ → PlainTree → Type 0
EndsHandle state handle number after = OfHandle state handle number (λ object.
    after ≡ record state { handles = set_at handle None state.handles })

-- the names alone change
abbrev pub ByNames : PlainTree → (Tree → Type 0) → PlainTree → Type 0
ByNames state Changes after = (tree : Tree) × Changes tree × (after ≡ named_by state tree)

-- by the number nothing of all this changes
abbrev pub OnNumber : PlainTree → ℕ → PlainTree → Type 0
OnNumber state number after = OfNumber state number (λ object. after ≡ state)

abbrev pub OnHandle : PlainTree → ℕ → ℕ → PlainTree → Type 0
OnHandle state handle number after = OfHandle state handle number (λ object. after ≡ state)

-- where a handle is told, it was opened for the number
abbrev pub IsOnHandle : PlainTree → Option ℕ → ℕ → PlainTree → Type 0
IsOnHandle state None number after = after ≡ state
IsOnHandle state (Some handle) number after = OnHandle state handle number after

-- what a directory holds is told, unless nothing is asked for
abbrev pub Lists : PlainTree → ℕ → ℕ → ℕ → List DirEntry → PlainTree → Type 0
Lists state number handle size entries after =
    ((size ≡ 0) × (entries ≡ []) × (after ≡ state)) ⊎ OnHandle state handle number after

-- an object was made, and its name may be taken away again; or nothing was
abbrev pub LeavesMade : PlainTree → ℕ → List ℕ → PlainTree → Type 0
LeavesMade state parent name after =
    (after ≡ state)
    ⊎ OfNumber state parent (λ dir. (made : Tree) × MakesObject state.tree dir name made
    × ((after ≡ named_by state made) ⊎ ByNames (named_by state made) (TakesName made dir name) after))

-- What a refused request leaves: a making perhaps its object, `link` perhaps its name; a session that does not begin
-- is ended, or stands with its root where the guest offers too little. Any other changes nothing of all this.
abbrev pub Refuses : Plan → Request → PlainTree → PlainTree → Type 0
Refuses plan (request.Init capable) state after =
    (after ≡ state) ⊎ (after ≡ emptied state)
    ⊎ ((is_short_of plan.config capable ≡ true)
    × HasRoot (record (emptied state) { agreed = agreed_with plan.config capable }) after)
Refuses plan (request.Create parent name mode kill flags umask ext) state after = LeavesMade state parent name after
Refuses plan (request.Mkdir parent name mode umask ext) state after = LeavesMade state parent name after
Refuses plan (request.Mknod parent name mode rdev umask ext) state after = LeavesMade state parent name after
Refuses plan (request.Symlink target parent name ext) state after = LeavesMade state parent name after
Refuses plan (request.Link inode newparent newname) state after =
    (after ≡ state)
    ⊎ OfNumber state inode (λ object. OfNumber state newparent (λ dir.
    ByNames state (LinksName state.tree object dir newname) after))
Refuses plan asked state after = after ≡ state

-- From this state the request is answered so, and leaves that state.
abbrev pub Serves : Plan → Request → PlainTree → Answer → PlainTree → Type 0
Serves plan asked state (answer.Refused errno) after = Refuses plan asked state after
-- sessions
Serves plan (request.Init capable) state (answer.Inited options) after =
    (is_short_of plan.config capable ≡ false) × (options ≡ init_options plan.config capable)
    × HasRoot (record (emptied state) { agreed = agreed_with plan.config capable }) after
Serves plan request.Destroy state answer.NoReply after = after ≡ emptied state
Serves plan request.Root state answer.Done after = HasRoot state after
-- entries
Serves plan (request.Lookup parent name) state (answer.Entry entry) after =
    OfNumber state parent (λ dir. Looks state dir name entry.inode after)
Serves plan (request.Mkdir parent name mode umask ext) state (answer.Entry entry) after =
    MakesEntry state parent name entry.inode after
Serves plan (request.Mknod parent name mode rdev umask ext) state (answer.Entry entry) after =
    MakesEntry state parent name entry.inode after
Serves plan (request.Symlink target parent name ext) state (answer.Entry entry) after =
    MakesEntry state parent name entry.inode after
Serves plan (request.Link inode newparent newname) state (answer.Entry entry) after =
    OfNumber state inode (λ object. OfNumber state newparent (λ dir.
    (linked : Tree) × LinksName state.tree object dir newname linked
    × Looks (named_by state linked) dir newname entry.inode after))
-- a file that is made, or was there, unless the guest asks for a new one
Serves plan (request.Create parent name mode kill flags umask ext) state (answer.Created entry handle options) after =
    (mid : PlainTree)
    × (MakesEntry state parent name entry.inode mid
    ⊎ ((includes flags o_excl ≡ false) × OfNumber state parent (λ dir. Looks state dir name entry.inode mid)))
    × (options ≡ create_options plan.config) × OpensNumber mid entry.inode handle after
-- what the guest forgets
Serves plan (request.Forget inode count) state answer.NoReply after =
    after ≡ record state { numbers = forgetting ((inode, count) ∷ []) state.numbers }
Serves plan (request.BatchForget list) state answer.NoReply after =
    after ≡ record state { numbers = forgetting list state.numbers }
-- handles
Serves plan (request.Open inode kill flags) state (answer.Opened handle options) after =
    (options ≡ open_options plan.config flags) × OpensNumber state inode handle after
Serves plan (request.OpenDir inode flags) state (answer.Opened handle options) after =
    (options ≡ open_options plan.config (with_bits flags o_directory)) × OpensNumber state inode handle after
Serves plan (request.Release inode handle) state answer.Done after = EndsHandle state handle inode after
Serves plan (request.ReleaseDir inode handle) state answer.Done after = EndsHandle state handle inode after
-- names
Serves plan (request.Unlink parent name) state answer.Done after =
    OfNumber state parent (λ dir. ByNames state (TakesName state.tree dir name) after)
Serves plan (request.Rmdir parent name) state answer.Done after =
    OfNumber state parent (λ dir. ByNames state (TakesName state.tree dir name) after)
Serves plan (request.Rename olddir oldname newdir newname flags) state answer.Done after =
    OfNumber state olddir (λ dir. OfNumber state newdir (λ to.
    ByNames state (Renames state.tree dir oldname to newname flags) after))
-- what a number's object is and holds
Serves plan (request.Readlink inode) state (answer.Link target) after = OnNumber state inode after
Serves plan (request.StatFs inode) state (answer.FsStat told) after = OnNumber state inode after
Serves plan (request.GetAttr inode) state (answer.Attr attr valid) after = OnNumber state inode after
Serves plan (request.SetAttr inode handle what attr) state (answer.Attr told valid) after =
    OnNumber state inode after × IsOnHandle state handle inode after
Serves plan (request.Access inode mask) state answer.Done after = OnNumber state inode after
Serves plan (request.SyncFs inode) state answer.Done after = OnNumber state inode after
Serves plan (request.SetXattr inode name value flags extra) state answer.Done after = OnNumber state inode after
Serves plan (request.GetXattr inode name size) state (answer.Xattr told) after = OnNumber state inode after
Serves plan (request.ListXattr inode size) state (answer.Xattrs told) after = OnNumber state inode after
Serves plan (request.RemoveXattr inode name) state answer.Done after = OnNumber state inode after
-- and a handle's
Serves plan (request.Read inode handle size offset) state (answer.Read bytes) after = OnHandle state handle inode after
Serves plan (request.Write inode handle offset bytes delayed kill flags) state (answer.Wrote count) after =
    OnHandle state handle inode after
Serves plan (request.ReadDir inode handle size offset) state (answer.Listing entries) after =
    Lists state inode handle size entries after
Serves plan (request.Flush inode handle) state answer.Done after = OnHandle state handle inode after
Serves plan (request.Fsync inode handle datasync) state answer.Done after = OnHandle state handle inode after
Serves plan (request.FsyncDir inode handle datasync) state answer.Done after = OnHandle state handle inode after
Serves plan (request.Fallocate inode handle mode offset length) state answer.Done after =
    OnHandle state handle inode after
Serves plan (request.Lseek inode handle offset whence) state (answer.Offset place) after =
    OnHandle state handle inode after
Serves plan (request.CopyFileRange inode handle offset inode2 handle2 offset2 length flags) state
    (answer.Wrote count) after =
    OnHandle state handle inode after × OnHandle state handle2 inode2 after
Serves plan asked state last after = ⊥

-- an edit of the tree beside the requests
abbrev pub ServesAsked : Plan → Asked → PlainTree → Answer → PlainTree → Type 0
ServesAsked plan (Requests who asked) state last after = Serves plan asked state last after
ServesAsked plan (Edits edit) state answer.Edited after = ByNames state (EditsTree state.tree edit) after
ServesAsked plan (Edits edit) state (answer.EditRefused errno) after = after ≡ state
ServesAsked plan (Edits edit) state last after = ⊥
