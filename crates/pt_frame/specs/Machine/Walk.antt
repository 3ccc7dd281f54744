-- Inner. What is left of a request's tree behind what the request was told, and what a function that is read from its
-- beginning has to do with it.
use Rattle.std.specs.Prelude.{◌≡◌, ℕ, zero, suc, Bool, true, false, List, [], ◌∷◌, Option, Some, None, Result, Ok}
use Rattle.std.specs.Prelude.{Err, slice_get}
use Rattle.pt_host.specs.Errno.{eio}
use Rattle.pt_host.specs.declared.reply.HostReply.TheVariants as host
use Rattle.pt_host.specs.declared.reply.HostValue.TheVariants as value
use Rattle.pt_iface.specs.declared.answer.Answer.{Answer}
use Rattle.pt_iface.specs.declared.answer.Answer.TheVariants as answer
use Rattle.pt_iface.specs.declared.answer.GetxattrReply.TheVariants as xattr
use Rattle.pt_iface.specs.declared.answer.ListxattrReply.TheVariants as xattrs
use Rattle.pt_iface.specs.declared.directory.DirEntry.{DirEntry}
use Rattle.pt_tables.specs.declared.event.KeptEvent.TheVariants as change
use Rattle.pt_frame.specs.Deed.{Deed, Calls, Changes, deed_of}
use Rattle.pt_frame.specs.Replies.{bytes_of}
use Rattle.pt_frame.specs.Tree.{RequestTree, Gives, Refuses, Asks, Opens, Bares, Brackets, Shuts, Allocates}
use Rattle.pt_frame.specs.Machine.Brings.{brings_of, is_same}
use Rattle.pt_frame.specs.declared.act.Act.{Act}
use Rattle.pt_frame.specs.declared.act.ActReply.{ActReply}
use Rattle.pt_frame.specs.declared.act.ActReply.TheVariants.{Host}
use Rattle.pt_frame.specs.declared.hold.Hold.{Hold}
use Rattle.pt_frame.specs.declared.told.Brings.TheVariants as brings
use Rattle.pt_frame.specs.declared.told.Heard.{Heard}
use Rattle.pt_frame.specs.declared.told.Heard.TheVariants as heard
use Rattle.pt_frame.specs.declared.told.Moved.{Moved}
use Rattle.pt_frame.specs.declared.told.Moved.TheVariants as moved
use Rattle.pt_frame.specs.declared.product.Product.TheVariants as product
use Rattle.pt_frame.specs.declared.asking.Stop.{Stop}
use Rattle.pt_frame.specs.declared.asking.Stop.TheVariants as stop

-- it was told what it had not asked, as it may be where it is read by another plan than before
abbrev pub astray : RequestTree
astray = Gives (answer.Refused eio)

abbrev pub or_astray : Bool → RequestTree → RequestTree
or_astray true next = next
or_astray false next = astray

-- what is left once it was told this
abbrev pub told_on : RequestTree → Heard → RequestTree
told_on (Gives last) it = Gives last
told_on (Refuses reply) it = Refuses reply
told_on (Asks deed more) (heard.Reply reply may) = or_astray (is_same may (brings_of deed)) (more reply)
told_on (Opens asked scope more) (heard.Reply reply may) = or_astray (is_same may brings.Hold) (more reply)
told_on (Bares rest) heard.Bares = rest
told_on (Brackets rest) heard.Brackets = rest
told_on (Shuts passes rest) heard.Shuts = rest
told_on (Allocates made next) (heard.Kept kept) = next kept
told_on tree it = astray

-- and once it was told all of these
unfoldable pub walk : RequestTree → List Heard → RequestTree
walk tree [] = tree
walk tree (it ∷ rest) = walk (told_on tree it) rest

-- the reply to what a tree asks
abbrev pub asked : RequestTree → ActReply → RequestTree
asked (Asks deed more) told = more told
asked (Opens call scope more) told = more told
asked tree told = tree

-- what is wanted is what the tree asks, with the scope that it opens
abbrev pub AsksFor : RequestTree → Act → Option Hold → Type 0
AsksFor (Asks deed more) wanted None = deed_of wanted ≡ deed
AsksFor (Opens call scope more) wanted (Some laid) = (deed_of wanted ≡ Calls call) × (laid ≡ scope)
AsksFor _ _ _ = ⊥

abbrev pub IsAsks : RequestTree → Type 0
IsAsks (Asks deed more) = Unit {0}
IsAsks (Opens call scope more) = Unit {0}
IsAsks _ = ⊥

abbrev pub deed_in : RequestTree → Deed
deed_in (Asks deed more) = deed
deed_in (Opens call scope more) = Calls call
deed_in tree = Changes change.Begin

-- One that is handed another plan than before may ask nothing by it; its session is asked for then, and any reply is a
-- refusal.
abbrev pub elsewhere : RequestTree
elsewhere = Asks (Changes change.Begin) Refuses

abbrev pub asking : RequestTree → RequestTree
asking (Asks deed more) = Asks deed more
asking (Opens call scope more) = Opens call scope more
asking tree = elsewhere

abbrev pub reply_in : Option Heard → Option ActReply
reply_in (Some (heard.Reply reply may)) = Some reply
reply_in it = None

abbrev pub or_none : Option (List ℕ) → List ℕ
or_none None = []
or_none (Some bytes) = bytes

abbrev pub bytes_in : Option Heard → List ℕ
bytes_in (Some (heard.Reply reply may)) = or_none (bytes_of reply)
bytes_in (Some (heard.Kept (product.Bytes bytes))) = bytes
bytes_in it = []

abbrev pub entries_in : Option Heard → List DirEntry
entries_in (Some (heard.Kept (product.Entries entries))) = entries
entries_in it = []

-- it brought bytes
abbrev pub ReplyHasBytes : ActReply → Type 0
ReplyHasBytes (Host (host.Ok (value.Bytes bytes))) = Unit {0}
ReplyHasBytes told = ⊥

abbrev pub IsWithBytes : Option Heard → Type 0
IsWithBytes (Some (heard.Reply reply may)) = ReplyHasBytes reply
IsWithBytes (Some (heard.Kept (product.Bytes bytes))) = Unit {0}
IsWithBytes it = ⊥

abbrev pub HasBytes : List Heard → ℕ → Type 0
HasBytes told place = IsWithBytes (slice_get told place)

-- entries of a listing were made
abbrev pub IsWithEntries : Option Heard → Type 0
IsWithEntries (Some (heard.Kept (product.Entries entries))) = Unit {0}
IsWithEntries it = ⊥

-- there is what such an answer is made of
abbrev pub HasFor : Moved → List Heard → ℕ → Type 0
HasFor moved.Read told place = HasBytes told place
HasFor moved.Link told place = HasBytes told place
HasFor moved.Xattr told place = HasBytes told place
HasFor moved.Xattrs told place = HasBytes told place
HasFor moved.Listing told place = IsWithEntries (slice_get told place)

-- the answer that it makes
abbrev pub moved_in : Moved → Option Heard → Answer
moved_in moved.Read it = answer.Read (bytes_in it)
moved_in moved.Link it = answer.Link (bytes_in it)
moved_in moved.Xattr it = answer.Xattr (xattr.Value (bytes_in it))
moved_in moved.Xattrs it = answer.Xattrs (xattrs.Names (bytes_in it))
moved_in moved.Listing it = answer.Listing (entries_in it)

-- it stops where the tree does
unfoldable pub IsStop : List Heard → RequestTree → Stop → Type 0
IsStop told (Asks deed more) (stop.Wants act) = deed_of act ≡ deed
IsStop told (Opens call scope more) (stop.Opens act laid) = (deed_of act ≡ Calls call) × (laid ≡ scope)
IsStop told (Gives last) (stop.Gives same) = same ≡ last
IsStop told (Gives last) (stop.Moves what place) =
    HasFor what told place × (moved_in what (slice_get told place) ≡ last)
IsStop told (Refuses reply) (stop.Refuses same) = same.now ≡ reply
IsStop told (Bares rest) stop.Bares = Unit {0}
IsStop told (Brackets rest) stop.Brackets = Unit {0}
IsStop told (Shuts passes rest) (stop.Shuts same) = same ≡ passes
IsStop told (Allocates made next) (stop.Makes same) = same ≡ made
IsStop told (Allocates made next) stop.GivesUp = Unit {0}
IsStop told _ _ = ⊥

-- what is not read yet
unfoldable pub unread : ℕ → List Heard → List Heard
unread zero told = told
unread (suc at) [] = []
unread (suc at) (it ∷ rest) = unread at rest

-- the next one is read, or none is left
unfoldable pub IsRead : List Heard → ℕ → ℕ → Option Heard → Type 0
IsRead told old new None = (old ≡ new) × (unread old told ≡ [])
IsRead told old new (Some it) = (unread old told ≡ (it ∷ unread new told)) × (slice_get told old ≡ Some it)

-- What is left of it is what is left of what goes on from its value. Where it stops, the request stops.
unfoldable pub GoesOn : {T : Type 0} → List Heard → ℕ → ℕ → Result T Stop → RequestTree → (T → RequestTree) → Type 0
GoesOn told old new (Ok value) tree next = walk tree (unread old told) ≡ walk (next value) (unread new told)
GoesOn told old new (Err stop) tree next = IsStop told (walk tree (unread old told)) stop

-- a step or a part, over what was told from one place up to another
pub record Reads {T : Type 0} (told : List Heard) (old new : ℕ) (result : Result T Stop) (tree : RequestTree)
    (next : T → RequestTree) : Type 0 where
  pub goes_on : GoesOn told old new result tree next
