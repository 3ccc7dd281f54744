-- What the chains of pt_req need beside those of the frame.
use Rattle.std.proofs.Common.{◌≡◌, ℕ, List, Option, Some, None, Ok, refl, slice_get}
use Rattle.pt_host.specs.declared.reply.HostReply.TheVariants as host
use Rattle.pt_host.specs.declared.reply.HostValue.TheVariants as value
use Rattle.pt_frame.specs.Replies.{bytes_of}
use Rattle.pt_frame.specs.Machine.Walk.{GoesOn, IsWithBytes, Reads, bytes_in, reply_in}
use Rattle.pt_frame.specs.Tree.{RequestTree, on}
use Rattle.pt_frame.specs.declared.act.ActReply.{ActReply}
use Rattle.pt_frame.specs.declared.act.ActReply.TheVariants.{Host}
use Rattle.pt_frame.specs.declared.told.Heard.{Heard}
use Rattle.pt_frame.specs.declared.told.Heard.TheVariants as told
use Rattle.pt_frame.proofs.Reading.{bytes_there, here, on_value}

here_by : {T : Type 0} (all : List Heard) (at : ℕ) (value same : T) (next : T → RequestTree) → value ≡ same →
    Reads all at at (Ok value) (next same) next
here_by all at value same next is = rw is (here next)

-- what hands this value on is at an end
pub here_as : {T : Type 0} {all : List Heard} {at : ℕ} {value same : T} (next : T → RequestTree) → value ≡ same →
    Reads all at at (Ok value) (next same) next
here_as next is = here_by _ _ _ _ next is

-- bytes, by the place of the reply that has them
pub has_bytes : (it : Option Heard) (reply : ActReply) (bytes : List ℕ) → reply_in it ≡ Some reply →
    reply ≡ Host (host.Ok (value.Bytes bytes)) → IsWithBytes it
has_bytes None reply bytes is same = absurd (cc)
has_bytes (Some (told.Reply other may)) reply bytes is same =
    let k : other ≡ Host (host.Ok (value.Bytes bytes)) = cc in rw k tt
has_bytes (Some told.Bares) reply bytes is same = absurd (cc)
has_bytes (Some told.Brackets) reply bytes is same = absurd (cc)
has_bytes (Some told.Shuts) reply bytes is same = absurd (cc)
has_bytes (Some (told.Kept kept)) reply bytes is same = absurd (cc)

in_place_by : (all : List Heard) (at place : ℕ) (next : List ℕ → RequestTree) (reply : ActReply) (bytes : List ℕ) →
    reply_in (slice_get all place) ≡ Some reply → bytes_of reply ≡ Some bytes →
    GoesOn all at at (Ok place) (on bytes_of next reply) (λ place. next (bytes_in (slice_get all place)))
unfolding GoesOn
in_place_by all at place next reply bytes is has =
    rw (on_value bytes_of next reply bytes has, bytes_there (slice_get all place) reply bytes is has) refl

pub in_place : (all : List Heard) (at place : ℕ) (next : List ℕ → RequestTree) (reply : ActReply) (bytes : List ℕ) →
    reply_in (slice_get all place) ≡ Some reply → reply ≡ Host (host.Ok (value.Bytes bytes)) →
    Reads all at at (Ok place) (on bytes_of next reply) (λ place. next (bytes_in (slice_get all place)))
in_place all at place next reply bytes is same =
    record { goes_on = in_place_by all at place next reply bytes is (rw same refl) }
