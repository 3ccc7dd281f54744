-- Bytes of a reply that are lent.
use Rattle.std.proofs.Common.{◌≡◌, ℕ, List, Some, Ok, Bor, refl}
use Rattle.pt_frame.specs.Machine.Walk.{GoesOn, Reads}
use Rattle.pt_frame.specs.Replies.{bytes_of}
use Rattle.pt_frame.specs.Tree.{RequestTree, on}
use Rattle.pt_frame.specs.declared.act.ActReply.{ActReply}
use Rattle.pt_frame.specs.declared.told.Heard.{Heard}
use Rattle.pt_frame.proofs.Reading.{on_value}

lent_by : (all : List Heard) (at : ℕ) (next : List ℕ → RequestTree) (reply : ActReply) (bytes : Bor (List ℕ)) →
    bytes_of reply ≡ Some bytes.now →
    GoesOn all at at (Ok bytes) (on bytes_of next reply) (λ lent. next lent.now)
unfolding GoesOn
lent_by all at next reply bytes has = rw (on_value bytes_of next reply bytes.now has) refl

pub lent : (all : List Heard) (at : ℕ) (next : List ℕ → RequestTree) (reply : ActReply) (bytes : Bor (List ℕ)) →
    bytes_of reply ≡ Some bytes.now →
    Reads all at at (Ok bytes) (on bytes_of next reply) (λ lent. next lent.now)
lent all at next reply bytes has = record { goes_on = lent_by all at next reply bytes has }
