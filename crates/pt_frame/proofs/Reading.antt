-- How a request is read over what it was told.
use Rattle.std.proofs.Common.{◌≡◌, ◌≢◌, ℕ, ◌+◌, Bool, true, false, List, [], ◌∷◌, zero, suc, ◌<◌, ◌≤◌, length, get_or}
use Rattle.std.proofs.Common.{slice_get, Option, Some, None, Result, Ok, Err, refl, ◌∙◌, sym, subst, add-one, arith}
use Rattle.std.proofs.Common.{Bor}
use Rattle.pt_host.specs.Call.{Call}
use Rattle.pt_host.specs.Errno.{eio}
use Rattle.pt_iface.specs.declared.answer.Answer.{Answer}
use Rattle.pt_iface.specs.declared.answer.Answer.TheVariants as answer
use Rattle.pt_frame.specs.Deed.{Deed, Calls, deed_of}
use Rattle.pt_frame.specs.Tree.{RequestTree, Gives, Refuses, Asks, Opens, Bares, Brackets, Shuts, Allocates, on, go_on}
use Rattle.pt_frame.specs.Machine.Brings.{brings_of, is_same}
use Rattle.pt_frame.specs.Machine.Walk.{walk, told_on, or_astray, astray, unread, IsStop, IsRead, GoesOn, Reads}
use Rattle.pt_frame.specs.Machine.Walk.{HasFor, IsWithEntries, bytes_in, entries_in, moved_in, reply_in}
use Rattle.pt_frame.specs.Tree.{by_bytes, by_entries, make_bytes, make_entries}
use Rattle.pt_iface.specs.declared.directory.DirEntry.{DirEntry}
use Rattle.pt_frame.specs.declared.product.Product.{Product}
use Rattle.pt_frame.specs.declared.product.Product.TheVariants as product
use Rattle.pt_frame.specs.Replies.{bytes_of}
use Rattle.pt_frame.specs.declared.act.Act.{Act}
use Rattle.pt_frame.specs.declared.act.ActReply.{ActReply}
use Rattle.pt_frame.specs.declared.hold.Hold.{Hold}
use Rattle.pt_frame.specs.declared.told.Brings.{Brings}
use Rattle.pt_frame.specs.declared.told.Brings.TheVariants as brings
use Rattle.pt_frame.specs.declared.told.Heard.{Heard}
use Rattle.pt_frame.specs.declared.told.Heard.TheVariants as told
use Rattle.pt_frame.specs.declared.told.Moved.{Moved}
use Rattle.pt_frame.specs.declared.asking.Stop.{Stop}
use Rattle.pt_frame.specs.declared.asking.Stop.TheVariants as stop

unread_item : (at : ℕ) (all : List Heard) (other : Heard) → at < length all →
    unread at all ≡ (get_or all at other ∷ unread (suc at) all)
unfolding unread
unread_item zero [] other within = absurd (omega arith)
unread_item zero (first ∷ rest) other within = refl
unread_item (suc at) [] other within = absurd (omega arith)
unread_item (suc at) (first ∷ rest) other within = unread_item at rest other (omega arith)

unread_none : (at : ℕ) (all : List Heard) → length all ≤ at → unread at all ≡ []
unfolding unread
unread_none zero [] past = refl
unread_none zero (first ∷ rest) past = absurd (omega arith)
unread_none (suc at) [] past = refl
unread_none (suc at) (first ∷ rest) past = unread_none at rest (omega arith)

item_at : (at : ℕ) (all : List Heard) (other : Heard) → at < length all → slice_get all at ≡ Some (get_or all at other)
item_at zero [] other within = absurd (omega arith)
item_at zero (first ∷ rest) other within = refl
item_at (suc at) [] other within = absurd (omega arith)
item_at (suc at) (first ∷ rest) other within = item_at at rest other (omega arith)

pub read_some : (at : ℕ) (all : List Heard) (it : Heard) → at < length all → it ≡ get_or all at it →
    IsRead all at (at + 1) (Some it)
unfolding IsRead
read_some at all it within is = rw add-one (
  subst (λ (first : Heard). unread at all ≡ (first ∷ unread (suc at) all)) (sym is) (unread_item at all it within),
  subst (λ (first : Heard). slice_get all at ≡ Some first) (sym is) (item_at at all it within),
)

pub read_none : (at : ℕ) (all : List Heard) → length all ≤ at → IsRead all at at None
unfolding IsRead
read_none at all past = (refl, unread_none at all past)

pub read_place : (all : List Heard) (old new : ℕ) (reply : ActReply) (may : Brings) →
    IsRead all old new (Some (told.Reply reply may)) → reply_in (slice_get all old) ≡ Some reply
unfolding IsRead
read_place all old new reply may is = rw (is.1) refl

-- bytes that a reply brought are where it lies
pub bytes_there : (it : Option Heard) (reply : ActReply) (bytes : List ℕ) → reply_in it ≡ Some reply →
    bytes_of reply ≡ Some bytes → bytes_in it ≡ bytes
bytes_there None reply bytes is has = absurd (cc)
bytes_there (Some (told.Reply same may)) reply bytes is has =
    let k : same ≡ reply = cc in rw k (rw has refl)
bytes_there (Some told.Bares) reply bytes is has = absurd (cc)
bytes_there (Some told.Brackets) reply bytes is has = absurd (cc)
bytes_there (Some told.Shuts) reply bytes is has = absurd (cc)
bytes_there (Some (told.Kept kept)) reply bytes is has = absurd (cc)

-- what the tree is where something was told
walk_past : (all : List Heard) (old new : ℕ) (it : Heard) (tree : RequestTree) → IsRead all old new (Some it) →
    walk tree (unread old all) ≡ walk (told_on tree it) (unread new all)
unfolding IsRead walk
walk_past all old new it tree is = rw (is.0) refl

walk_end : (all : List Heard) (old new : ℕ) (tree : RequestTree) → IsRead all old new None →
    walk tree (unread old all) ≡ tree
unfolding IsRead walk
walk_end all old new tree is = rw (is.1) refl

pub walk_gives : (last : Answer) (rest : List Heard) → walk (Gives last) rest ≡ Gives last
unfolding walk
walk_gives last [] = refl
walk_gives last (first ∷ rest) = walk_gives last rest

pub walk_refuses : (reply : ActReply) (rest : List Heard) → walk (Refuses reply) rest ≡ Refuses reply
unfolding walk
walk_refuses reply [] = refl
walk_refuses reply (first ∷ rest) = walk_refuses reply rest

-- what was not asked ends it
stray : {T : Type 0} (all : List Heard) (old new : ℕ) (it : Heard) (tree : RequestTree) (next : T → RequestTree) →
    IsRead all old new (Some it) → told_on tree it ≡ astray →
    Reads all old new (Err (stop.Gives (answer.Refused eio))) tree next
unfolding GoesOn IsStop
stray all old new it tree next is off = record {
  goes_on = rw (walk_past all old new it tree is, off, walk_gives (answer.Refused eio) (unread new all)) refl;
}

-- a step is asked for, or its reply is heard
pub wants : {U : Type 0} (all : List Heard) (old new : ℕ) (deed : Deed) (more : ActReply → RequestTree)
    (next : U → RequestTree) (act : Act) → IsRead all old new None → deed_of act ≡ deed →
    Reads all old new (Err (stop.Wants act)) (Asks deed more) next
unfolding GoesOn IsStop
wants all old new deed more next act is same =
    record { goes_on = rw (walk_end all old new (Asks deed more) is) same }

pub heard : (all : List Heard) (old new : ℕ) (deed : Deed) (more : ActReply → RequestTree) (reply : Bor ActReply)
    (may : Brings) → IsRead all old new (Some (told.Reply reply.now may)) → is_same may (brings_of deed) ≡ true →
    Reads all old new (Ok reply) (Asks deed more) (λ reply. more reply.now)
unfolding GoesOn
heard all old new deed more reply may is same =
    record { goes_on = rw (walk_past all old new (told.Reply reply.now may) (Asks deed more) is, same) refl }

pub strays_other : {T : Type 0} (all : List Heard) (old new : ℕ) (deed : Deed) (more : ActReply → RequestTree)
    (next : T → RequestTree) (reply : ActReply) (may : Brings) → IsRead all old new (Some (told.Reply reply may)) →
    is_same may (brings_of deed) ≡ false →
    Reads all old new (Err (stop.Gives (answer.Refused eio))) (Asks deed more) next
strays_other all old new deed more next reply may is other =
    stray all old new (told.Reply reply may) (Asks deed more) next is (rw other refl)

pub strays : {T : Type 0} (all : List Heard) (old new : ℕ) (it : Heard) (deed : Deed) (more : ActReply → RequestTree)
    (next : T → RequestTree) → IsRead all old new (Some it) →
    ((reply : ActReply) (may : Brings) → it ≢ told.Reply reply may) →
    Reads all old new (Err (stop.Gives (answer.Refused eio))) (Asks deed more) next
strays all old new (told.Reply reply may) deed more next is other = absurd (other reply may refl)
strays all old new told.Bares deed more next is other = stray all old new told.Bares (Asks deed more) next is refl
strays all old new told.Brackets deed more next is other =
    stray all old new told.Brackets (Asks deed more) next is refl
strays all old new told.Shuts deed more next is other = stray all old new told.Shuts (Asks deed more) next is refl
strays all old new (told.Kept kept) deed more next is other =
    stray all old new (told.Kept kept) (Asks deed more) next is refl

-- a call that opens a scope likewise
pub opens : {U : Type 0} (all : List Heard) (old new : ℕ) (call : Call) (scope : Hold) (more : ActReply → RequestTree)
    (next : U → RequestTree) (act : Act) (laid : Hold) → IsRead all old new None → deed_of act ≡ Calls call →
    laid ≡ scope → Reads all old new (Err (stop.Opens act laid)) (Opens call scope more) next
unfolding GoesOn IsStop
opens all old new call scope more next act laid is same scoped =
    record { goes_on = rw (walk_end all old new (Opens call scope more) is) (same, scoped) }

pub heard_open : (all : List Heard) (old new : ℕ) (call : Call) (scope : Hold) (more : ActReply → RequestTree)
    (reply : Bor ActReply) (may : Brings) → IsRead all old new (Some (told.Reply reply.now may)) →
    is_same may brings.Hold ≡ true →
    Reads all old new (Ok reply) (Opens call scope more) (λ reply. more reply.now)
unfolding GoesOn
heard_open all old new call scope more reply may is same =
    record { goes_on = rw (walk_past all old new (told.Reply reply.now may) (Opens call scope more) is, same) refl }

pub strays_other_open : {T : Type 0} (all : List Heard) (old new : ℕ) (call : Call) (scope : Hold)
    (more : ActReply → RequestTree) (next : T → RequestTree) (reply : ActReply) (may : Brings) →
    IsRead all old new (Some (told.Reply reply may)) → is_same may brings.Hold ≡ false →
    Reads all old new (Err (stop.Gives (answer.Refused eio))) (Opens call scope more) next
strays_other_open all old new call scope more next reply may is other =
    stray all old new (told.Reply reply may) (Opens call scope more) next is (rw other refl)

pub strays_open : {T : Type 0} (all : List Heard) (old new : ℕ) (it : Heard) (call : Call) (scope : Hold)
    (more : ActReply → RequestTree) (next : T → RequestTree) → IsRead all old new (Some it) →
    ((reply : ActReply) (may : Brings) → it ≢ told.Reply reply may) →
    Reads all old new (Err (stop.Gives (answer.Refused eio))) (Opens call scope more) next
strays_open all old new (told.Reply reply may) call scope more next is other = absurd (other reply may refl)
strays_open all old new told.Bares call scope more next is other =
    stray all old new told.Bares (Opens call scope more) next is refl
strays_open all old new told.Brackets call scope more next is other =
    stray all old new told.Brackets (Opens call scope more) next is refl
strays_open all old new told.Shuts call scope more next is other =
    stray all old new told.Shuts (Opens call scope more) next is refl
strays_open all old new (told.Kept kept) call scope more next is other =
    stray all old new (told.Kept kept) (Opens call scope more) next is refl

-- marks

pub bares_stop : {T : Type 0} (all : List Heard) (old new : ℕ) (rest : RequestTree) (next : T → RequestTree) →
    IsRead all old new None → Reads all old new (Err stop.Bares) (Bares rest) next
unfolding GoesOn IsStop
bares_stop all old new rest next is = record { goes_on = rw (walk_end all old new (Bares rest) is) tt }

pub bares_past : {T : Type 0} (all : List Heard) (old new : ℕ) (rest : RequestTree) (value : T) →
    IsRead all old new (Some told.Bares) → Reads all old new (Ok value) (Bares rest) (λ done. rest)
unfolding GoesOn
bares_past all old new rest value is = record { goes_on = walk_past all old new told.Bares (Bares rest) is }

pub bares_stray : {T : Type 0} (all : List Heard) (old new : ℕ) (rest : RequestTree) (it : Heard)
    (next : T → RequestTree) → IsRead all old new (Some it) → it ≢ told.Bares →
    Reads all old new (Err (stop.Gives (answer.Refused eio))) (Bares rest) next
bares_stray all old new rest (told.Reply reply may) next is other =
    stray all old new (told.Reply reply may) (Bares rest) next is refl
bares_stray all old new rest told.Bares next is other = absurd (other refl)
bares_stray all old new rest told.Brackets next is other = stray all old new told.Brackets (Bares rest) next is refl
bares_stray all old new rest told.Shuts next is other = stray all old new told.Shuts (Bares rest) next is refl
bares_stray all old new rest (told.Kept kept) next is other = stray all old new (told.Kept kept) (Bares rest) next is refl

pub brackets_stop : {T : Type 0} (all : List Heard) (old new : ℕ) (rest : RequestTree) (next : T → RequestTree) →
    IsRead all old new None → Reads all old new (Err stop.Brackets) (Brackets rest) next
unfolding GoesOn IsStop
brackets_stop all old new rest next is = record { goes_on = rw (walk_end all old new (Brackets rest) is) tt }

pub brackets_past : {T : Type 0} (all : List Heard) (old new : ℕ) (rest : RequestTree) (value : T) →
    IsRead all old new (Some told.Brackets) → Reads all old new (Ok value) (Brackets rest) (λ done. rest)
unfolding GoesOn
brackets_past all old new rest value is = record { goes_on = walk_past all old new told.Brackets (Brackets rest) is }

pub brackets_stray : {T : Type 0} (all : List Heard) (old new : ℕ) (rest : RequestTree) (it : Heard)
    (next : T → RequestTree) → IsRead all old new (Some it) → it ≢ told.Brackets →
    Reads all old new (Err (stop.Gives (answer.Refused eio))) (Brackets rest) next
brackets_stray all old new rest (told.Reply reply may) next is other =
    stray all old new (told.Reply reply may) (Brackets rest) next is refl
brackets_stray all old new rest told.Bares next is other = stray all old new told.Bares (Brackets rest) next is refl
brackets_stray all old new rest told.Brackets next is other = absurd (other refl)
brackets_stray all old new rest told.Shuts next is other = stray all old new told.Shuts (Brackets rest) next is refl
brackets_stray all old new rest (told.Kept kept) next is other = stray all old new (told.Kept kept) (Brackets rest) next is refl

pub shuts_stop : {T : Type 0} (all : List Heard) (old new : ℕ) (passes : Bool) (rest : RequestTree)
    (next : T → RequestTree) →
    IsRead all old new None → Reads all old new (Err (stop.Shuts passes)) (Shuts passes rest) next
unfolding GoesOn IsStop
shuts_stop all old new passes rest next is = record { goes_on = rw (walk_end all old new (Shuts passes rest) is) refl }

pub shuts_past : {T : Type 0} (all : List Heard) (old new : ℕ) (passes : Bool) (rest : RequestTree) (value : T) →
    IsRead all old new (Some told.Shuts) → Reads all old new (Ok value) (Shuts passes rest) (λ done. rest)
unfolding GoesOn
shuts_past all old new passes rest value is =
    record { goes_on = walk_past all old new told.Shuts (Shuts passes rest) is }

pub shuts_stray : {T : Type 0} (all : List Heard) (old new : ℕ) (passes : Bool) (rest : RequestTree) (it : Heard)
    (next : T → RequestTree) → IsRead all old new (Some it) → it ≢ told.Shuts →
    Reads all old new (Err (stop.Gives (answer.Refused eio))) (Shuts passes rest) next
shuts_stray all old new passes rest (told.Reply reply may) next is other =
    stray all old new (told.Reply reply may) (Shuts passes rest) next is refl
shuts_stray all old new passes rest told.Bares next is other =
    stray all old new told.Bares (Shuts passes rest) next is refl
shuts_stray all old new passes rest told.Brackets next is other =
    stray all old new told.Brackets (Shuts passes rest) next is refl
shuts_stray all old new passes rest told.Shuts next is other = absurd (other refl)
shuts_stray all old new passes rest (told.Kept kept) next is other = stray all old new (told.Kept kept) (Shuts passes rest) next is refl

-- what is made

pub makes : {T : Type 0} (all : List Heard) (old new : ℕ) (made same : Product) (more : Product → RequestTree)
    (next : T → RequestTree) → IsRead all old new None → same ≡ made →
    Reads all old new (Err (stop.Makes same)) (Allocates made more) next
unfolding GoesOn IsStop
makes all old new made same more next is e =
    record { goes_on = rw (walk_end all old new (Allocates made more) is) e }

pub gives_up : {T : Type 0} (all : List Heard) (old new : ℕ) (made : Product) (more : Product → RequestTree)
    (next : T → RequestTree) → IsRead all old new None → Reads all old new (Err stop.GivesUp) (Allocates made more) next
unfolding GoesOn IsStop
gives_up all old new made more next is = record { goes_on = rw (walk_end all old new (Allocates made more) is) tt }

pub made_bytes : (all : List Heard) (old new : ℕ) (bytes made : List ℕ) (next : List ℕ → RequestTree) →
    IsRead all old new (Some (told.Kept (product.Bytes bytes))) →
    Reads all old new (Ok bytes) (make_bytes made next) next
unfolding GoesOn
made_bytes all old new bytes made next is = record {
  goes_on = walk_past all old new (told.Kept (product.Bytes bytes)) (Allocates (product.Bytes made) (by_bytes next)) is;
}

pub made_entries : (all : List Heard) (old new : ℕ) (entries made : List DirEntry) (next : List DirEntry → RequestTree) →
    IsRead all old new (Some (told.Kept (product.Entries entries))) →
    Reads all old new (Ok (entries_in (slice_get all old))) (make_entries made next) next
unfolding GoesOn IsRead
made_entries all old new entries made next is = record {
  goes_on = rw (is.1) (walk_past all old new (told.Kept (product.Entries entries))
      (Allocates (product.Entries made) (by_entries next)) is);
}

pub bytes_lie : (all : List Heard) (old new : ℕ) (it : Heard) → IsRead all old new (Some it) →
    slice_get all old ≡ Some it
unfolding IsRead
bytes_lie all old new it is = is.1

pub entries_lie : (all : List Heard) (old new : ℕ) (entries : List DirEntry) →
    IsRead all old new (Some (told.Kept (product.Entries entries))) → IsWithEntries (slice_get all old)
unfolding IsRead
entries_lie all old new entries is = rw (is.1) tt

pub no_bytes : {T : Type 0} (all : List Heard) (old new : ℕ) (entries : List DirEntry) (made : List ℕ)
    (more : List ℕ → RequestTree) (next : T → RequestTree) →
    IsRead all old new (Some (told.Kept (product.Entries entries))) →
    Reads all old new (Err (stop.Gives (answer.Refused eio))) (make_bytes made more) next
no_bytes all old new entries made more next is =
    stray all old new (told.Kept (product.Entries entries)) (make_bytes made more) next is refl

pub no_entries : {T : Type 0} (all : List Heard) (old new : ℕ) (bytes : List ℕ) (made : List DirEntry)
    (more : List DirEntry → RequestTree) (next : T → RequestTree) →
    IsRead all old new (Some (told.Kept (product.Bytes bytes))) →
    Reads all old new (Err (stop.Gives (answer.Refused eio))) (make_entries made more) next
no_entries all old new bytes made more next is =
    stray all old new (told.Kept (product.Bytes bytes)) (make_entries made more) next is refl

made_stray : {T : Type 0} (all : List Heard) (old new : ℕ) (it : Heard) (made : Product)
    (more : Product → RequestTree) (next : T → RequestTree) → IsRead all old new (Some it) →
    ((kept : Product) → it ≢ told.Kept kept) →
    Reads all old new (Err (stop.Gives (answer.Refused eio))) (Allocates made more) next
made_stray all old new (told.Reply reply may) made more next is other =
    stray all old new (told.Reply reply may) (Allocates made more) next is refl
made_stray all old new told.Bares made more next is other =
    stray all old new told.Bares (Allocates made more) next is refl
made_stray all old new told.Brackets made more next is other =
    stray all old new told.Brackets (Allocates made more) next is refl
made_stray all old new told.Shuts made more next is other =
    stray all old new told.Shuts (Allocates made more) next is refl
made_stray all old new (told.Kept kept) made more next is other = absurd (other kept refl)

pub bytes_stray : {T : Type 0} (all : List Heard) (old new : ℕ) (it : Heard) (made : List ℕ)
    (more : List ℕ → RequestTree) (next : T → RequestTree) → IsRead all old new (Some it) →
    ((kept : Product) → it ≢ told.Kept kept) →
    Reads all old new (Err (stop.Gives (answer.Refused eio))) (make_bytes made more) next
bytes_stray all old new it made more next is other =
    made_stray all old new it (product.Bytes made) (by_bytes more) next is other

pub entries_stray : {T : Type 0} (all : List Heard) (old new : ℕ) (it : Heard) (made : List DirEntry)
    (more : List DirEntry → RequestTree) (next : T → RequestTree) → IsRead all old new (Some it) →
    ((kept : Product) → it ≢ told.Kept kept) →
    Reads all old new (Err (stop.Gives (answer.Refused eio))) (make_entries made more) next
entries_stray all old new it made more next is other =
    made_stray all old new it (product.Entries made) (by_entries more) next is other

-- what is read of a reply
pub on_value : {T : Type 0} (read : ActReply → Option T) (next : T → RequestTree) (reply : ActReply) (value : T) →
    read reply ≡ Some value → on read next reply ≡ next value
unfolding on go_on
on_value read next reply value is = rw is refl

pub on_none : {T : Type 0} (read : ActReply → Option T) (next : T → RequestTree) (reply : ActReply) →
    read reply ≡ None → on read next reply ≡ Refuses reply
unfolding on go_on
on_none read next reply is = rw is refl

-- a reply that was heard is judged
pub judged : {T : Type 0} (all : List Heard) (at : ℕ) (read : ActReply → Option T) (next : T → RequestTree)
    (reply : ActReply) (value : T) → read reply ≡ Some value → Reads all at at (Ok value) (on read next reply) next
unfolding GoesOn
judged all at read next reply value same = record { goes_on = rw (on_value read next reply value same) refl }

pub judged_refused : {T U : Type 0} (all : List Heard) (at : ℕ) (read : ActReply → Option T) (more : T → RequestTree)
    (next : U → RequestTree) (reply : Bor ActReply) → read reply.now ≡ None →
    Reads all at at (Err (stop.Refuses reply)) (on read more reply.now) next
unfolding GoesOn IsStop
judged_refused all at read more next reply same =
    record { goes_on = rw (on_none read more reply.now same, walk_refuses reply.now (unread at all)) refl }

refuses_here : {U : Type 0} (all : List Heard) (at : ℕ) (reply : Bor ActReply) (next : U → RequestTree) →
    GoesOn all at at (Err (stop.Refuses reply)) (Refuses reply.now) next
unfolding GoesOn IsStop
refuses_here all at reply next = rw (walk_refuses reply.now (unread at all)) refl

-- a reply that is answered as a refusal
pub refuses : {U : Type 0} (all : List Heard) (at : ℕ) (reply : Bor ActReply) (next : U → RequestTree) →
    Reads all at at (Err (stop.Refuses reply)) (Refuses reply.now) next
refuses all at reply next = record { goes_on = refuses_here all at reply next }

-- an answer, at once
pub gives : {U : Type 0} (all : List Heard) (at : ℕ) (last : Answer) (next : U → RequestTree) →
    Reads all at at (Err (stop.Gives last)) (Gives last) next
unfolding GoesOn IsStop
gives all at last next = record { goes_on = rw (walk_gives last (unread at all)) refl }

pub gives_moved : {U : Type 0} (all : List Heard) (at : ℕ) (what : Moved) (place : ℕ) (next : U → RequestTree) →
    HasFor what all place →
    Reads all at at (Err (stop.Moves what place)) (Gives (moved_in what (slice_get all place))) next
unfolding GoesOn IsStop
gives_moved all at what place next has =
    record { goes_on = rw (walk_gives (moved_in what (slice_get all place)) (unread at all)) (has, refl) }

-- from the beginning on
pub ends : (all : List Heard) (new : ℕ) (last : Answer) (tree : RequestTree) → Reads all 0 new (Ok last) tree Gives →
    IsStop all (walk tree all) (stop.Gives last)
unfolding GoesOn IsStop unread
ends all new last tree reads = rw (reads.goes_on, walk_gives last (unread new all)) refl

pub halts : (all : List Heard) (new : ℕ) (halt : Stop) (tree : RequestTree) →
    Reads {T = Answer} all 0 new (Err halt) tree Gives → IsStop all (walk tree all) halt
unfolding GoesOn unread
halts all new halt tree reads = reads.goes_on

then_by : {T U : Type 0} (all : List Heard) (old mid new : ℕ) (value : T) (result : Result U Stop)
    (tree : RequestTree) (next : T → RequestTree) (last : U → RequestTree) → GoesOn all old mid (Ok value) tree next →
    GoesOn all mid new result (next value) last → GoesOn all old new result tree last
unfolding GoesOn
then_by all old mid new value (Ok other) tree next last is reads = is ∙ reads
then_by all old mid new value (Err stop) tree next last is reads =
    subst (λ (left : RequestTree). IsStop all left stop) (sym is) reads

stops_by : {T U : Type 0} (all : List Heard) (old new : ℕ) (stop : Stop) (tree : RequestTree) (next : T → RequestTree)
    (last : U → RequestTree) → GoesOn all old new (Err stop) tree next → GoesOn all old new (Err stop) tree last
unfolding GoesOn
stops_by all old new stop tree next last reads = reads

-- a part that handed a value on is followed by what goes on from it
pub then : {T U : Type 0} {all : List Heard} {old mid new : ℕ} {value : T} {result : Result U Stop}
    {tree : RequestTree} {next : T → RequestTree} {last : U → RequestTree} → Reads all old mid (Ok value) tree next →
    Reads all mid new result (next value) last → Reads all old new result tree last
then is reads = record { goes_on = then_by _ _ _ _ _ _ _ _ _ is.goes_on reads.goes_on }

-- by this value
pub then_as : {T U : Type 0} {all : List Heard} {old mid new : ℕ} {value same : T} {result : Result U Stop}
    {tree : RequestTree} {next : T → RequestTree} {last : U → RequestTree} →
    Reads all old mid (Ok value) tree next → value ≡ same → Reads all mid new result (next same) last →
    Reads all old new result tree last
then_as is which reads = then is (rw which reads)

here_by : {T : Type 0} (all : List Heard) (at : ℕ) (value : T) (next : T → RequestTree) →
    GoesOn all at at (Ok value) (next value) next
unfolding GoesOn
here_by all at value next = refl

-- what hands its value on is at an end
pub here : {T : Type 0} {all : List Heard} {at : ℕ} {value : T} (next : T → RequestTree) →
    Reads all at at (Ok value) (next value) next
here next = record { goes_on = here_by _ _ _ next }

rest_by : {T : Type 0} (all : List Heard) (at : ℕ) (value : T) (left : RequestTree) →
    GoesOn all at at (Ok value) left (λ done. left)
unfolding GoesOn
rest_by all at value left = refl

pub rest : {T : Type 0} (all : List Heard) (at : ℕ) (value : T) (left : RequestTree) →
    Reads all at at (Ok value) left (λ done. left)
rest all at value left = record { goes_on = rest_by all at value left }

-- where a part stopped, the request stops
pub stops : {T U : Type 0} {all : List Heard} {old new : ℕ} {stop : Stop} {result : Result U Stop}
    {tree : RequestTree} {next : T → RequestTree} {last : U → RequestTree} →
    Reads all old new (Err stop) tree next → result ≡ Err stop → Reads all old new result tree last
stops reads is = rw is (record { goes_on = stops_by _ _ _ _ _ _ _ reads.goes_on })
