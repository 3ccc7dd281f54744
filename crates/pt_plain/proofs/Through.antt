-- Proof. Trees all of whose deeds are such, and what they are answered, by the numbers and handles that they found.
use Rattle.std.proofs.Common.{◌≡◌, ◌≢◌, ℕ, ◌<◌, Some, sym, ap, subst, ◌∙◌, arith}
use Rattle.pt_host.specs.declared.ids.Errno.{Errno}
use Rattle.pt_host.specs.declared.ids.Fd.{Fd}
use Rattle.pt_host.specs.declared.seat.HostSeat.{HostSeat}
use Rattle.pt_tables.specs.declared.event.KeptEvent.TheVariants as change
use Rattle.pt_tables.specs.declared.reply.EventReply.TheVariants as event
use Rattle.pt_tables.proofs.Cases.{cases}
use Rattle.pt_iface.specs.declared.answer.Answer.{Answer}
use Rattle.pt_iface.specs.declared.answer.Answer.TheVariants as answer
use Rattle.pt_frame.specs.Deed.{Deed, Calls, Changes}
use Rattle.pt_frame.specs.Replies.{closings_in}
use Rattle.pt_frame.specs.Tree.{RequestTree, Gives, Refuses, Asks, Opens, Bares, Brackets, Shuts, Allocates}
use Rattle.pt_frame.specs.declared.act.ActReply.{ActReply}
use Rattle.pt_frame.specs.declared.act.ActReply.TheVariants.{Event}
use Rattle.pt_law.specs.World.{World}
use Rattle.pt_law.proofs.Givings.{live_count}
use Rattle.pt_law.proofs.Knowing.{HandleOpen}
use Rattle.pt_law.proofs.Lists.{each_replaced}
use Rattle.pt_plain.specs.Plain.{PlainTree, OfNumber, OfHandle, handled_as}
use Rattle.pt_plain.proofs.Coming.{Comes, IsSeats, Makes, seat_stays}
use Rattle.pt_plain.proofs.Counting.{Even, IsEven}
use Rattle.pt_plain.proofs.Found.{pinned_row}
use Rattle.pt_plain.proofs.Serving.{Alone, counts, shows_still, stands, walked}
use Rattle.pt_plain.proofs.Showing.{handled, Shows}
use Rattle.pt_plain.proofs.Walking.{At, At.{by}, by_quiet, idles_quiet, IsMild, Quiet, quiet_mild, quiet_none}
use Rattle.pt_plain.proofs.Walking.{quiet_on, refusal_is, resolved_row}

-- a number or a handle of this state
abbrev pub Stood : PlainTree → ℕ → Type 0
Stood state number = OfNumber state number (λ object. Unit {0})

abbrev pub Held : PlainTree → ℕ → ℕ → Type 0
Held state handle number = OfHandle state handle number (λ object. Unit {0})

-- the answer is right where the reply's number or handle is one of this state
abbrev pub Known : PlainTree → Deed → ActReply → (Answer → Type 0) → Answer → Type 0
Known state (Calls asked) told Q last = Q last
Known state (Changes (change.Resolve number)) (Event (event.Resolved row)) Q last = Stood state number → Q last
Known state (Changes (change.PinHandle handle number)) (Event (event.Pinned row fd)) Q last =
    Held state handle number → Q last
Known state (Changes asked) told Q last = Q last

-- each deed is such, whatever is told, and each answer is right by what was found before
abbrev pub Through : (Deed → Type 0) → PlainTree → (Answer → Type 0) → RequestTree → Type 0
Through D state Q (Gives last) = Q last
Through D state Q (Refuses told) = Unit {0}
Through D state Q (Asks deed next) =
    D deed × ((told : ActReply) → Through D state (λ last. Known state deed told Q last) (next told))
Through D state Q (Opens asked scope next) = IsSeats asked × ((told : ActReply) → Through D state Q (next told))
Through D state Q (Bares rest) = Through D state Q rest
Through D state Q (Brackets rest) = Through D state Q rest
Through D state Q (Shuts passes rest) = Through D state Q rest
Through D state Q (Allocates made next) = Through D state Q (next made)

pub even_through : (D : Deed → Type 0) (state : PlainTree) (Q : Answer → Type 0) (tree : RequestTree) →
    ((deed : Deed) → D deed → IsEven deed) → Through D state Q tree → Even tree
even_through D state Q (Gives last) e t = tt
even_through D state Q (Refuses told) e t = tt
even_through D state Q (Asks deed next) e t =
    (e deed t.0, λ told. even_through D state (λ last. Known state deed told Q last) (next told) e (t.1 told))
even_through D state Q (Opens asked scope next) e t = λ told. even_through D state Q (next told) e (t.1 told)
even_through D state Q (Bares rest) e t = even_through D state Q rest e t
even_through D state Q (Brackets rest) e t = even_through D state Q rest e t
even_through D state Q (Shuts passes rest) e t = even_through D state Q rest e t
even_through D state Q (Allocates made next) e t = even_through D state Q (next made) e t

pub mild_even : (deed : Deed) → IsMild deed → IsEven deed
mild_even (Calls asked) m = tt
mild_even (Changes (change.Forget list)) m = absurd m
mild_even (Changes change.Clear) m = absurd m
mild_even (Changes (change.InsertRoot new)) m = absurd m
mild_even (Changes asked) m = tt

-- a number that was found is one of the state
stood : (state : PlainTree) (w v : World) (number object : ℕ) → Shows w state → Quiet w v →
    v.past.numbers number ≡ Some object → 0 < live_count number v.tables → Stood state number
stood state w v number object s q e l = (
  object,
  stands w state number object s (ap (λ f. f number) (sym q.still.past) ∙ e)
      (let a = q.falls number in omega (arith, a, l)),
  tt,
)

-- and so is a handle
held_by : (j : ℕ) (state : PlainTree) (w v mid : World) (handle number serial : ℕ) (fd : Fd) → Shows w state →
    Quiet w v → Makes j v (Changes (change.PinHandle handle number)) (Event (event.Pinned serial fd)) mid →
    Held state handle number
held_by j state w v mid handle number serial fd s q m =
    let h = cases v.tables mid.tables (change.PinHandle handle number) (event.Pinned serial fd) m.2.made.0 in
    let o = each_replaced (HandleOpen v.tree v.past) h.5.1 m.0.handled in
    let f = pinned_row v.past.objects handle h.5.1 h.1.0 h.1.1 m.0.agree.handles_apart in (
      o.object,
      s.handles handle ∙ sym (q.still.handles handle) ∙ f ∙ ap (handled h.0.number) o.placed
          ∙ ap (λ x. handled_as x o.object) h.1.2,
      tt,
    )

-- what was told is known
learnt : (j : ℕ) (state : PlainTree) (w v mid : World) (deed : Deed) (told : ActReply) (Q : Answer → Type 0)
    (last : Answer) → Shows w state → Quiet w v → Makes j v deed told mid → Known state deed told Q last → Q last
learnt j state w v mid (Calls asked) told Q last s q m k = k
learnt j state w v mid (Changes (change.Resolve number)) (Event (event.Resolved row)) Q last s q m k =
    let r = resolved_row j v mid number row m in
    k (stood state w v number r.object s q r.is_object r.live)
learnt j state w v mid (Changes (change.PinHandle handle number)) (Event (event.Pinned serial fd)) Q last s q m k =
    k (held_by j state w v mid handle number serial fd s q m)
learnt j state w v mid (Changes asked) told Q last s q m k = k

still_refused : (state : PlainTree) (deed : Deed) (told : ActReply) (Q : Answer → Type 0) →
    ((errno : Errno) → Q (answer.Refused errno)) → (errno : Errno) → Known state deed told Q (answer.Refused errno)
still_refused state (Calls asked) told Q ok errno = ok errno
still_refused state (Changes (change.Resolve number)) (Event (event.Resolved row)) Q ok errno = λ k. ok errno
still_refused state (Changes (change.PinHandle handle number)) (Event (event.Pinned row fd)) Q ok errno = λ k. ok errno
still_refused state (Changes asked) told Q ok errno = ok errno

-- from this world to its end
mild_comes : (j : ℕ) (state : PlainTree) (Q : Answer → Type 0) (tree : RequestTree) (w v : World) (last : Answer)
    (w' : World) → Shows w state → Quiet w v → last ≢ answer.NoMemory → ((errno : Errno) → Q (answer.Refused errno)) →
    Through IsMild state Q tree → Comes j tree v last w' → Q last × Quiet w w'
mild_comes j state Q (Gives given) w v last w' s q n ok t c =
    (subst Q (sym c.0) t, quiet_on w v w' q (idles_quiet j v w' c.1))
mild_comes j state Q (Refuses told) w v last w' s q n ok t c =
    let r = refusal_is told (λ e. n (c.0 ∙ e)) in
    (subst Q (sym (c.0 ∙ r.1)) (ok r.0), quiet_on w v w' q (idles_quiet j v w' c.1))
mild_comes j state Q (Asks deed next) w v last w' s q n ok t c =
    let made = quiet_on w v c.1 q (quiet_mild j v c.1 deed c.0 t.0 c.3) in
    let on = quiet_on w c.1 c.2 made (by_quiet j (closings_in deed c.0) c.1 c.2 c.4) in
    let r = mild_comes j state (λ last. Known state deed c.0 Q last) (next c.0) w c.2 last w' s on n
    (still_refused state deed c.0 Q ok) (t.1 c.0) c.5 in
    (learnt j state w v c.1 deed c.0 Q last s q c.3 r.0, r.1)
mild_comes j state Q (Opens asked scope next) w v last w' s q n ok t c =
    mild_comes j state Q (next c.0) w v last w' s q n ok (t.1 c.0)
    (subst (λ (z : World). Comes j (next c.0) z last w') (seat_stays asked j v c.1 c.0 t.0 c.2.1 c.2.2) c.3)
mild_comes j state Q (Bares rest) w v last w' s q n ok t c = mild_comes j state Q rest w v last w' s q n ok t c
mild_comes j state Q (Brackets rest) w v last w' s q n ok t c = mild_comes j state Q rest w v last w' s q n ok t c
mild_comes j state Q (Shuts passes rest) w v last w' s q n ok t c =
    mild_comes j state Q rest w c.0 last w' s (quiet_on w v c.0 q (idles_quiet j v c.0 c.1)) n ok t c.2
mild_comes j state Q (Allocates made next) w v last w' s q n ok t c =
    mild_comes j state Q (next made) w v last w' s q n ok t c

open_at : {j : ℕ} {tree : RequestTree} {w w' : World} {last : Answer} → At j tree w last w' → Comes j tree w last w'
open_at (by c) = c

-- A request whose deeds are all mild leaves the state as it was, and its answer is right.
pub served_mild : (j : ℕ) (seat : HostSeat) (tree : RequestTree) (w : World) (last : Answer) (w' : World)
    (state : PlainTree) (Q : Answer → Type 0) → Shows w state → Alone j seat tree w last w' →
    ((errno : Errno) → Q (answer.Refused errno)) → Through IsMild state Q tree → Q last × Shows w' state
served_mild j seat tree w last w' state Q s a ok t =
    let r = mild_comes j state Q tree w w last w' s (quiet_none w) a.given ok t
    (open_at (walked j seat tree w last w' a)) in
    let c = counts j seat tree w last w' a (even_through IsMild state Q tree mild_even t) in
    (r.0, shows_still w w' state s r.1.still (λ n. let x = c n in let y = r.1.falls n in omega (arith, x, y)))
