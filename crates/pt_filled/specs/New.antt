-- Believed. New objects: what each making makes, and for whom. After mkdir(2), mknod(2), symlink(2), open(2), umask(2).
use Rattle.std.specs.Prelude.{◌≡◌, ℕ, ◌-◌, ◌/◌, ◌%◌, ◌^◌, ◌==◌, if◌then◌else◌, bit_and, List, [], length, Option}
use Rattle.std.specs.Prelude.{Some, None, slice_get}
use Rattle.pt_host.specs.Contents.{ObjectContents, no_contents}
use Rattle.pt_host.specs.Tree.{Object}
use Rattle.pt_host.specs.declared.seat.HostSeat.{HostSeat}
use Rattle.pt_tables.specs.declared.form.Negotiated.{Negotiated}
use Rattle.pt_iface.specs.declared.request.Context.{Context}
use Rattle.pt_iface.specs.declared.request.Request.{Request}
use Rattle.pt_iface.specs.declared.request.SecContext.{SecContext}
use Rattle.pt_iface.specs.declared.request.Request.TheVariants as request
use Rattle.pt_req.specs.declared.plan.Plan.{Plan}
use Rattle.pt_law.specs.Under.{Identity}
use Rattle.pt_fit.specs.Asker.{asker_in}
use Rattle.pt_filled.specs.Contents.{FilledTree, IsSame, AllStay, valued}
use Rattle.pt_filled.specs.Told.{name_held}

-- what is made for somebody, without extended attributes
abbrev pub fresh : Identity → ℕ → ℕ → List ℕ → ObjectContents
fresh by mode rdev bytes =
    record (no_contents.objects 0) { bytes = bytes; mode = mode; uid = by.uid; gid = by.gid; rdev = rdev }

-- the place of the next object in the list
abbrev pub next_object : FilledTree → ℕ
next_object state = length state.plain.tree.objects

-- all stays, and there is one object more, of this kind and with these contents
abbrev pub Makes : FilledTree → ℕ → ObjectContents → FilledTree → Type 0
Makes state kind is after =
    AllStay state after
    × ((what : Object) × (slice_get after.plain.tree.objects (next_object state) ≡ Some what) × (what.kind ≡ kind)
    × IsSame is (after.contents (next_object state)))

-- the 0o7777 bits of a mode without those of who asks
abbrev pub permitted : Identity → ℕ → ℕ
permitted by mode = bit_and (mode % 4096) (2 ^ 32 - 1 - by.umask)

-- the kind of a node by the bits of its mode, 0 meaning a regular file
abbrev pub node_kind : ℕ → ℕ
node_kind mode = if mode / 4096 % 16 == 0 then 8 else mode / 4096 % 16

-- the kind of what a request makes, its contents, and the context of security that the guest brings for it
abbrev pub kind_made : Request → ℕ
kind_made (request.Mkdir parent name mode umask ext) = 4
kind_made (request.Mknod parent name mode rdev umask ext) = node_kind mode
kind_made (request.Symlink target parent name ext) = 10
kind_made asked = 8

abbrev pub contents_made : Request → Identity → ObjectContents
contents_made (request.Mkdir parent name mode umask ext) by = fresh by (permitted by mode) 0 []
contents_made (request.Mknod parent name mode rdev umask ext) by = fresh by (permitted by mode) rdev []
contents_made (request.Symlink target parent name ext) by = fresh by 511 0 target
contents_made (request.Create parent name mode kill flags umask ext) by = fresh by (permitted by mode) 0 []
contents_made asked by = fresh by 0 0 []

abbrev pub context_of : Request → Option SecContext
context_of (request.Mkdir parent name mode umask ext) = ext.secctx
context_of (request.Mknod parent name mode rdev umask ext) = ext.secctx
context_of (request.Symlink target parent name ext) = ext.secctx
context_of (request.Create parent name mode kill flags umask ext) = ext.secctx
context_of asked = None

-- The context is an extended attribute of what is made, by the host's name, where the guest may use its own.
abbrev pub IsInContext : Plan → Negotiated → Option SecContext → ObjectContents → ObjectContents → Type 0
IsInContext plan agreed None was is = is ≡ was
IsInContext plan agreed (Some context) was is =
    (held : List ℕ) × (name_held plan agreed context.name ≡ Some held) × (is ≡ valued held (Some context.value) was)

-- The request makes what it asks for, owned by whoever asks, and in no context yet.
abbrev pub MakesBare : Plan → HostSeat → Context → Request → FilledTree → FilledTree → Type 0
MakesBare plan seat who asked state after =
    (by : Identity) × (asker_in plan seat who state.plain.agreed asked ≡ Some by)
    × Makes state (kind_made asked) (contents_made asked by) after

-- And this in the context that the guest brings for it.
abbrev pub MakesAsked : Plan → HostSeat → Context → Request → FilledTree → FilledTree → Type 0
MakesAsked plan seat who asked state after =
    (by : Identity) × (asker_in plan seat who state.plain.agreed asked ≡ Some by) × (is : ObjectContents)
    × IsInContext plan state.plain.agreed (context_of asked) (contents_made asked by) is
    × Makes state (kind_made asked) is after
