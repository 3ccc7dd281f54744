-- What a job was given of a number in an era, and did not give back, is what it holds.
use Rattle.std.proofs.Common.{◌≡◌, ℕ, ◌+◌, ◌*◌, List, ◌++◌, true, false, refl, ap, arith}
use Rattle.pt_host.specs.Words.{is, total}
use Rattle.pt_host.specs.Sorts.{sort_of, fds_of}
use Rattle.pt_law.proofs.Holding.{others_called}
use Rattle.pt_tables.specs.declared.event.KeptEvent.TheVariants as change
use Rattle.pt_tables.specs.declared.reply.EventReply.TheVariants as event
use Rattle.pt_iface.specs.declared.answer.Answer.TheVariants as answer
use Rattle.pt_frame.specs.Deed.{Deed, Calls, Changes}
use Rattle.pt_frame.specs.Replies.{brought, taken_in}
use Rattle.pt_frame.specs.declared.act.ActReply.{ActReply}
use Rattle.pt_frame.specs.declared.act.ActReply.TheVariants.{Event}
use Rattle.pt_frame.specs.declared.finish.Finish.{Finish}
use Rattle.pt_frame.specs.declared.finish.Finish.TheVariants as finish
use Rattle.pt_frame.specs.declared.hold.Hold.{Hold}
use Rattle.pt_frame.specs.declared.hold.Hold.TheVariants as hold
use Rattle.pt_frame.specs.declared.hold.Taken.{Taken}
use Rattle.pt_frame.specs.declared.hold.Taken.TheVariants as taken
use Rattle.pt_law.specs.Discipline.{Shifts, entry_holds}
use Rattle.pt_law.specs.Ledger.{count_made, count_ended}
use Rattle.pt_law.specs.Settled.{entry_count}
use Rattle.pt_law.proofs.Lists.{total_takes}

-- 1 for a count of this number in this era
abbrev pub count_of : ℕ → ℕ → Hold → ℕ
count_of era number (hold.Count same counted) = is same era * is counted number
count_of era number one = 0

brings_none : (e n : ℕ) (brings : Taken) (holds : List Hold) →
    total (count_of e n) (brought brings ++ holds) ≡ total (count_of e n) holds
brings_none e n taken.Nothing holds = refl
brings_none e n (taken.Slot class) holds = omega arith
brings_none e n (taken.Fd fd true class) holds = omega arith
brings_none e n (taken.Fd fd false class) holds = omega arith

pub one_given : (e n : ℕ) (deed : Deed) (told : ActReply) (holds after : List Hold) → Shifts holds deed told after →
    total (count_of e n) after + count_ended e n deed told ≡ total (count_of e n) holds + count_made e n deed told
one_given e n (Calls asked) told holds after s =
    let k = others_called (count_of e n) (λ fd. refl) (sort_of asked) (fds_of asked) told holds after s in
    omega (arith, k)
one_given e n (Changes (change.Resolve number)) (Event (event.Resolved resolved)) holds after s =
    let k = total_takes (count_of e n) s in omega (arith, k)
one_given e n (Changes (change.Unpin row)) told holds after s = let k = total_takes (count_of e n) s.1 in
    omega (arith, k)
one_given e n (Changes (change.Claim claim)) (Event (event.Claimed given)) holds after s =
    let k = total_takes (count_of e n) s in omega (arith, k)
one_given e n (Changes (change.TakeFd class)) (Event event.Taken) holds after s = let k = total_takes (count_of e n)
    s in
    omega (arith, k)
one_given e n (Changes (change.GiveFd class)) told holds after s = let k = total_takes (count_of e n) s in omega
    (arith, k)
one_given e n (Changes (change.Insert new)) (Event (event.Inserted given)) holds after s =
    let a = total_takes (count_of e n) s.2 in
    let b = total_takes (count_of e n) s.3 in
    let c = total_takes (count_of e n) s.4 in
    omega (arith, a, b, c)
one_given e n (Changes (change.Insert new)) (Event (event.Found given)) holds after s =
    let k = total_takes (count_of e n) s in omega (arith, k)
one_given e n (Changes (change.InsertRoot new)) (Event (event.Inserted given)) holds after s =
    let a = total_takes (count_of e n) s.1 in
    let b = total_takes (count_of e n) s.2 in
    omega (arith, a, b)
one_given e n (Changes (change.GiveBack era number)) told holds after s = let k = total_takes (count_of e n) s in
    omega (arith, k)
one_given e n (Changes (change.PinHandle handle number)) (Event (event.Pinned row fd)) holds after s =
    let k = total_takes (count_of e n) s in omega (arith, k)
one_given e n (Changes (change.UnpinHandle row)) told holds after s = let k = total_takes (count_of e n) s.1 in
    omega (arith, k)
one_given e n (Changes (change.InsertHandle new)) (Event (event.Inserted given)) holds after s =
    let a = total_takes (count_of e n) s.1 in
    let b = total_takes (count_of e n) s.2 in
    omega (arith, a, b)
one_given e n (Changes change.TakeClosing) told holds after s = let k = ap (total (count_of e n)) s in
    let b = brings_none e n (taken_in told) holds in omega (arith, k, b)
one_given e n deed told holds after s = let k = ap (total (count_of e n)) s in omega (arith, k)

-- what passes with an answer is a count of the number that it has
pub entry_counts : (era e n : ℕ) (end : Finish) →
    total (count_of e n) (entry_holds era end) ≡ is era e * entry_count n end
entry_counts era e n (finish.Answer (answer.Entry entry)) = omega arith
entry_counts era e n (finish.Answer (answer.Created entry handle options)) = omega arith
entry_counts era e n end = omega arith
