-- The step at which a run lost a seat: it was refused or failed, and the jobs may have steps left there.
use Rattle.std.proofs.Common.{◌≡◌, ◌<◌, ◌⊎◌, inl, inr, ℕ, suc, Bool, List, [], ◌∷◌, ◌++◌}
use Rattle.std.proofs.Common.{◌∙◌, Option, Some, None, refl, ap, sym, subst, map, length, slice_get}
use Rattle.std.proofs.Common.{true, false, arith}
use Rattle.std.proofs.lemmas.Option.{same_Some, slice_get_within, slice_get_cases}
use Rattle.pt_host.specs.Promises.{HasRisen}
use Rattle.pt_host.specs.Relation.{HostRelation}
use Rattle.pt_host.specs.declared.ids.Errno.{Errno}
use Rattle.pt_host.specs.declared.reply.HostReply.TheVariants as host
use Rattle.pt_host.specs.declared.seat.HostSeat.{HostSeat}
use Rattle.pt_tables.specs.Tables.{Tables}
use Rattle.pt_frame.specs.Deed.{Deed, Calls, Changes}
use Rattle.pt_frame.specs.Made.{Made}
use Rattle.pt_frame.specs.Past.{or_first, lost_after}
use Rattle.pt_frame.specs.Replies.{fault_in}
use Rattle.pt_frame.specs.declared.act.ActReply.{ActReply}
use Rattle.pt_frame.specs.declared.act.ActReply.TheVariants.{Event, Host, NoCopy}
use Rattle.pt_fs.specs.Running.{is_finished}
use Rattle.pt_law.proofs.Told.{Promises}
use Rattle.pt_fs.specs.Loses.{IsCutFrom}
use Rattle.pt_fs.specs.Order.{order, owner, with_left}
use Rattle.pt_fs.specs.Owning.{MayBeLeft}
use Rattle.pt_fs.specs.Went.{run_seat}
use Rattle.pt_fs.specs.Running.{Running}
use Rattle.pt_fs.specs.declared.trace.TraceStep.{TraceStep}

pub marked_lost : (marked : Bool) (reply : ActReply) (now : Option Errno) (errno : Errno) →
    now ≡ lost_after None marked reply → now ≡ Some errno → (marked ≡ true) × (fault_in reply ≡ Some errno)
marked_lost true reply now errno e is = (refl, sole (fault_in reply) (sym e ∙ is))
  where
    sole : (fault : Option Errno) → or_first fault None ≡ Some errno → fault ≡ Some errno
    sole None s = s
    sole (Some other) s = s
marked_lost false reply now errno e is = let no : None ≡ Some errno = sym e ∙ is in absurd (cc)

-- it was refused, or it failed
pub failed_so : (reply : ActReply) (errno : Errno) → fault_in reply ≡ Some errno →
    (reply ≡ Host (host.Refused errno)) ⊎ (reply ≡ Host (host.Fault errno))
failed_so (Host (host.Refused other)) errno e =
    inl (ap (λ (x : Errno). Host (host.Refused x)) (same_Some other errno e))
failed_so (Host (host.Fault other)) errno e = inr (ap (λ (x : Errno). Host (host.Fault x)) (same_Some other errno e))
failed_so (Host host.NoMemory) errno e = absurd (cc)
failed_so (Host (host.Ok value)) errno e = absurd (cc)
failed_so (Event told) errno e = absurd (cc)
failed_so NoCopy errno e = absurd (cc)

-- a fault is counted
pub fault_rose : {H : Type 0} (does : HostRelation H) (faults : H → ℕ) → Promises does faults → (deed : Option Deed)
    (reply : ActReply) (errno : Errno) (from : H) (seat : HostSeat) (tables : Tables) (to : H) (seat' : HostSeat)
    (tables' : Tables) → reply ≡ Host (host.Fault errno) → Made does deed reply from seat tables to seat' tables' →
    HasRisen (faults from) (faults to)
fault_rose does faults p (Some (Calls asked)) reply errno from seat tables to seat' tables' is m =
    let made : Made does (Some (Calls asked)) (Host (host.Fault errno)) from seat tables to seat' tables' =
    subst (λ (r : ActReply). Made does (Some (Calls asked)) r from seat tables to seat' tables') is m in
    (p from seat asked (host.Fault errno) to seat' made.0).allowed
fault_rose does faults p (Some (Changes asked)) reply errno from seat tables to seat' tables' is m =
    absurd (subst (λ (r : ActReply). Made does (Some (Changes asked)) r from seat tables to seat' tables') is m)
fault_rose does faults p None reply errno from seat tables to seat' tables' is m =
    absurd (subst (λ (r : ActReply). Made does None r from seat tables to seat' tables') is m)

-- so many steps may be left where the jobs stand
unfoldable pub one_if : Bool → ℕ
one_if true = 0
one_if false = 1

unfoldable pub left_if : Option Running → ℕ
left_if None = 0
left_if (Some run) = one_if (is_finished run.state)

unfoldable pub some_left : List Running → ℕ → ℕ
some_left running j = left_if (slice_get running j)

pub none_if : (finished : Bool) → finished ≡ true → one_if finished ≡ 0
unfolding one_if
none_if true e = refl
none_if false e = absurd (cc)

pub some_if : (finished : Bool) → finished ≡ false → 0 < one_if finished
unfolding one_if
some_if true e = absurd (cc)
some_if false e = omega arith

pub some_fits : (running : List Running) → MayBeLeft (some_left running) running
unfolding some_left left_if one_if
some_fits running = record {
  ended = λ j run at end. rw (at, end) refl;
  going = λ j run at end. rw (at, end) (omega arith);
  beyond = λ j past. elim (slice_get_cases running j).1 [
    | inl there ↦ let inside = slice_get_within running j there.0 there.2 in absurd (omega arith)
    | inr none ↦ rw none.1 refl
  ];
}

pub front_from : (schedule : List ℕ) (n jobs : ℕ) (before last one : List TraceStep) (left : ℕ → ℕ) (rest : List ℕ) →
    last ≡ one → n ≡ jobs → order schedule n (with_left (before ++ last) left) ≡ map owner (before ++ last) ++ rest →
    order schedule jobs (with_left (before ++ one) left) ≡ map owner (before ++ one) ++ rest
front_from schedule n jobs before last one left rest same many owns = rw (same, many) at owns

pub map_same : {X Y : Type 0} (f : X → Y) (xs ys : List X) → length ys ≡ length xs →
    ((j : ℕ) (x : X) → slice_get xs j ≡ Some x → (y : X) × (slice_get ys j ≡ Some y) × (f y ≡ f x)) →
    map f ys ≡ map f xs
map_same f [] [] same each = refl
map_same f (x ∷ xs) [] same each = absurd (omega (arith, same))
map_same f [] (y ∷ ys) same each = absurd (omega (arith, same))
map_same f (x ∷ xs) (y ∷ ys) same each =
    let first = each 0 x refl in
    let own : f y ≡ f x = ap f (same_Some y first.0 first.1) ∙ first.2 in
    rw (own, map_same f xs ys (omega (arith, same)) (λ j z at. each (suc j) z at)) refl

pub cut_seat : (job j : ℕ) (run run' : Running) → IsCutFrom job j run run' → run'.seat ≡ run.seat
cut_seat job j run run' (inl kept) = ap run_seat kept.0
cut_seat job j run run' (inr gone) = gone.2.seat
