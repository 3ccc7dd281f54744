-- Believed. What a request does, its frame aside, and what it does in its frame.
use Rattle.std.specs.Prelude.{ℕ, Bool, true, false, List, [], ◌∷◌, length, Option, Some, None}
use Rattle.pt_host.specs.Call.{Call}
use Rattle.pt_host.specs.Errno.{eio}
use Rattle.pt_host.specs.declared.seat.HostSeat.{HostSeat}
use Rattle.pt_iface.specs.declared.answer.Answer.{Answer}
use Rattle.pt_iface.specs.declared.answer.Answer.TheVariants as answer
use Rattle.pt_iface.specs.declared.directory.DirEntry.{DirEntry}
use Rattle.pt_frame.specs.Deed.{Deed, Calls}
use Rattle.pt_frame.specs.Held.{held, opened}
use Rattle.pt_frame.specs.Replies.{closings_in, refusal}
use Rattle.pt_frame.specs.Grammar.{Grammar, Do, May, owing}
use Rattle.pt_frame.specs.Frame.{closings, leave, bare, shut, front, behind, mark_in, outer, answered}
use Rattle.pt_frame.specs.declared.act.ActReply.{ActReply}
use Rattle.pt_frame.specs.declared.finish.Finish.TheVariants as finish
use Rattle.pt_frame.specs.declared.hold.Hold.{Hold}
use Rattle.pt_frame.specs.declared.hold.Taken.TheVariants.{Nothing}
use Rattle.pt_frame.specs.declared.product.Product.{Product}
use Rattle.pt_frame.specs.declared.product.Product.TheVariants as product

-- What is held is said by the deeds and their replies: a tree says only what it asks, where scopes and brackets begin
-- and end, and how it is answered.
pub data RequestTree : Type 0 where
  Gives : Answer → RequestTree
  -- this reply is answered as a refusal
  Refuses : ActReply → RequestTree
  Asks : Deed → (ActReply → RequestTree) → RequestTree
  -- a call on the seat: where it is Ok this scope is open
  Opens : Call → Hold → (ActReply → RequestTree) → RequestTree
  -- the call of the open scopes was made, and they end
  Bares : RequestTree → RequestTree
  -- a bracket begins
  Brackets : RequestTree → RequestTree
  -- the innermost bracket ends, and the last hold of all may pass its end
  Shuts : Bool → RequestTree → RequestTree
  -- this is made, which takes memory, and it goes on with it
  Allocates : Product → (Product → RequestTree) → RequestTree

-- it goes on with bytes that are made
abbrev pub by_bytes : (List ℕ → RequestTree) → Product → RequestTree
by_bytes next (product.Bytes bytes) = next bytes
by_bytes next (product.Entries entries) = Gives (answer.Refused eio)

abbrev pub make_bytes : List ℕ → (List ℕ → RequestTree) → RequestTree
make_bytes made next = Allocates (product.Bytes made) (by_bytes next)

-- and likewise with the entries of a listing
abbrev pub by_entries : (List DirEntry → RequestTree) → Product → RequestTree
by_entries next (product.Entries entries) = next entries
by_entries next (product.Bytes bytes) = Gives (answer.Refused eio)

abbrev pub make_entries : List DirEntry → (List DirEntry → RequestTree) → RequestTree
make_entries made next = Allocates (product.Entries made) (by_entries next)

abbrev pub allocates : RequestTree → Bool
allocates (Allocates made next) = true
allocates (Gives last) = false
allocates (Refuses told) = false
allocates (Asks deed next) = false
allocates (Opens asked scope next) = false
allocates (Bares rest) = false
allocates (Brackets rest) = false
allocates (Shuts passes rest) = false

-- The request goes on by what is read of a reply; any other reply is answered as a refusal.
unfoldable pub go_on : {V : Type 0} → (V → RequestTree) → ActReply → Option V → RequestTree
go_on next told (Some value) = next value
go_on next told None = Refuses told

unfoldable pub on : {V : Type 0} → (ActReply → Option V) → (V → RequestTree) → ActReply → RequestTree
on read next told = go_on next told (read told)

-- a job may give up where what follows takes memory, and nowhere else
abbrev pub or_gives_up : Bool → Grammar → Grammar → Grammar
or_gives_up true up rest = May up rest
or_gives_up false up rest = rest

-- A reply is followed by its closings, and then by the rest. Where the job gives up, all that it holds goes back.
abbrev pub follows : HostSeat → Bool → ℕ → List Hold → Grammar → Grammar
follows seat wants count holds rest =
    or_gives_up wants (closings count holds (leave seat holds (finish.Answer answer.NoMemory)))
    (closings count holds rest)

-- the body in the frame, with what it holds, the last one first, and with the marks of its open brackets
abbrev pub framed : HostSeat → RequestTree → List Hold → List ℕ → Grammar
framed seat (Gives last) holds marks = answered seat last holds
framed seat (Refuses told) holds marks = leave seat holds (finish.Answer (refusal told))
framed seat (Asks deed next) holds marks = Do deed (owing false Nothing 0 holds) (λ told.
    follows seat (allocates (next told)) (closings_in deed told) (held deed told holds)
    (framed seat (next told) (held deed told holds) marks))
framed seat (Opens asked scope next) holds marks = Do (Calls asked) (owing false Nothing 0 holds) (λ told.
    follows seat (allocates (next told)) 0 (opened scope told holds)
    (framed seat (next told) (opened scope told holds) marks))
framed seat (Bares rest) holds marks = bare seat holds (λ left. framed seat rest left marks)
framed seat (Brackets rest) holds marks = framed seat rest holds (length holds ∷ marks)
framed seat (Shuts passes rest) holds marks =
    shut seat (front passes holds) (mark_in marks) (behind passes holds) (λ left.
    framed seat rest left (outer marks))
framed seat (Allocates made next) holds marks = framed seat (next made) holds marks

-- what a job with this tree may do from its start on
abbrev pub grammar_of_tree : HostSeat → RequestTree → Grammar
grammar_of_tree seat tree = framed seat tree [] []
