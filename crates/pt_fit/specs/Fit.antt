-- Inner. A request's tree that is fit: each deed may be made where it stands, a refusal has its cause on the path to
-- it, and an entry is answered to what asks for one.
use Rattle.std.specs.Prelude.{ℕ, List, [], ◌∷◌, length}
use Rattle.pt_host.specs.Sorts.{sort_of}
use Rattle.pt_iface.specs.declared.answer.Answer.{Answer}
use Rattle.pt_iface.specs.declared.answer.Answer.TheVariants as answer
use Rattle.pt_iface.specs.declared.request.Request.{Request}
use Rattle.pt_iface.specs.declared.request.Request.TheVariants as request
use Rattle.pt_frame.specs.Deed.{Calls, Step}
use Rattle.pt_frame.specs.Held.{held, opened}
use Rattle.pt_frame.specs.Replies.{closings_in, refusal}
use Rattle.pt_frame.specs.Frame.{front, behind, under, mark_in, outer}
use Rattle.pt_frame.specs.Tree.{RequestTree, Gives, Refuses, Asks, Opens, Bares, Brackets, Shuts, Allocates}
use Rattle.pt_frame.specs.declared.act.ActReply.{ActReply}
use Rattle.pt_frame.specs.declared.hold.Hold.{Hold}
use Rattle.pt_law.specs.Discipline.{Notes, notes_after, blank}
use Rattle.pt_law.specs.Told.{MayBeTold}
use Rattle.pt_law.specs.Keeps.{uncovered, down_to, MayMake, MayOpen, Lasts, After, HoldsEntry}
use Rattle.pt_law.specs.World.{made}
use Rattle.pt_fit.specs.Cause.{Asking, HasCause}

-- an entry is the answer of a lookup, of a making and of `link`, and one with a handle that of `create`
abbrev pub MayAnswer : Answer → Request → Type 0
MayAnswer (answer.Entry entry) (request.Lookup parent name) = Unit {0}
MayAnswer (answer.Entry entry) (request.Mkdir parent name mode umask ext) = Unit {0}
MayAnswer (answer.Entry entry) (request.Mknod parent name mode rdev umask ext) = Unit {0}
MayAnswer (answer.Entry entry) (request.Symlink target parent name ext) = Unit {0}
MayAnswer (answer.Entry entry) (request.Link inode newparent newname) = Unit {0}
MayAnswer (answer.Entry entry) asked = ⊥
MayAnswer (answer.Created entry handle options) (request.Create parent name mode kill flags umask ext) = Unit {0}
MayAnswer (answer.Created entry handle options) asked = ⊥
MayAnswer last asked = Unit {0}

-- A refusal has its cause on the path to it; that memory ran out has one in every tree that takes none of its own.
abbrev pub IsCausedLeaf : Asking → List Step → Answer → Type 0
IsCausedLeaf asked path (answer.Refused errno) = HasCause asked path errno
IsCausedLeaf asked path last = Unit {0}

-- On each path through the tree of what was asked, by replies that may come; the path's latest step stands first.
abbrev pub Fit : Asking → RequestTree → List Hold → List ℕ → Notes → List Step → Type 0
Fit asked (Gives last) holds marks notes path =
    HoldsEntry last holds × IsCausedLeaf asked path last × MayAnswer last asked.request
Fit asked (Refuses told) holds marks notes path = IsCausedLeaf asked path (refusal told)
Fit asked (Asks deed next) holds marks notes path =
    MayMake deed holds notes
    × ((told : ActReply) → MayBeTold deed told →
    After (closings_in deed told) (λ later. Fit asked (next told) (held deed told holds) marks later
    (made deed told ∷ path))
    (notes_after notes deed told))
Fit asked (Opens call scope next) holds marks notes path =
    MayOpen (sort_of call) scope
    × ((told : ActReply) → MayBeTold (Calls call) told → Fit asked (next told) (opened scope told holds) marks notes
    (made (Calls call) told ∷ path))
Fit asked (Bares rest) holds marks notes path = Fit asked rest (uncovered holds) marks notes path
Fit asked (Brackets rest) holds marks notes path = Fit asked rest holds (length holds ∷ marks) notes path
Fit asked (Shuts passes rest) holds marks notes path =
    (later : Notes) → Lasts notes later →
    Fit asked rest (under (front passes holds) (down_to (mark_in marks) (behind passes holds))) (outer marks) later
    path
Fit asked (Allocates made next) holds marks notes path = Fit asked (next made) holds marks notes path

-- from its start on
abbrev pub IsFit : Asking → RequestTree → Type 0
IsFit asked tree = Fit asked tree [] [] blank []
