-- What a job took it gave back, by its end.
use Rattle.std.proofs.Common.{◌≡◌, ℕ, ◌+◌, ◌≤◌, List, [], ◌∷◌, ◌++◌, Option, Some, None, refl, ap, subst, arith}
use Rattle.pt_host.specs.Words.{total}
use Rattle.pt_iface.specs.declared.answer.Answer.TheVariants as answer
use Rattle.pt_frame.specs.Deed.{Deed, Step}
use Rattle.pt_frame.specs.Replies.{closings_in}
use Rattle.pt_frame.specs.declared.act.ActReply.{ActReply}
use Rattle.pt_frame.specs.declared.finish.Finish.{Finish}
use Rattle.pt_frame.specs.declared.finish.Finish.TheVariants as finish
use Rattle.pt_frame.specs.declared.hold.Hold.{Hold}
use Rattle.pt_frame.specs.declared.hold.Hold.TheVariants as hold
use Rattle.pt_law.specs.Discipline.{Shifts, Job, idle, at_job, MovesIf, Disciplined, ComesToEnd, entry_holds}
use Rattle.pt_law.specs.Ledger.{weighed, summed, fd_taken, fd_given, fds_carried, pin_made, pin_ended}
use Rattle.pt_law.proofs.Flows.{fd_held}
use Rattle.pt_law.specs.Ledger.{handle_pin_made, handle_pin_ended, closing_ended}
use Rattle.pt_law.specs.Ledger.{count_made, count_ended}
use Rattle.pt_law.specs.Settled.{HasSettled, ReturnsGiven}
use Rattle.pt_law.proofs.Flows.{pin_held, handle_pin_held}
use Rattle.pt_law.proofs.Holding.{handed}
use Rattle.pt_law.proofs.Counting.{owed_flow}
use Rattle.pt_law.proofs.Settled.{count_of, one_given, entry_counts}

-- what is made and what is ended weigh what is held afterwards, less what was held before
one_step : (w : Hold → ℕ) (made ended : Deed → ActReply → ℕ) →
    ((deed : Deed) (told : ActReply) (holds after : List Hold) → Shifts holds deed told after →
    total w after + ended deed told ≡ total w holds + made deed told) →
    (deed : Option Deed) (told : ActReply) (job after : Job) → MovesIf job deed told after →
    total w after.holds + weighed ended deed told ≡ total w job.holds + weighed made deed told
one_step w made ended f None told job after m = let k = ap (λ (j : Job). total w j.holds) m in omega (arith, k)
one_step w made ended f (Some deed) told job after m = f deed told job.holds after.holds m.0

balanced : (w : Hold → ℕ) (made ended : Deed → ActReply → ℕ) →
    ((deed : Deed) (told : ActReply) (holds after : List Hold) → Shifts holds deed told after →
    total w after + ended deed told ≡ total w holds + made deed told) →
    (job : Job) (steps : List Step) (last : Job) → Disciplined job steps last →
    total w last.holds + summed ended steps ≡ total w job.holds + summed made steps
balanced w made ended f job [] last d = let k = ap (λ (j : Job). total w j.holds) d in omega (arith, k)
balanced w made ended f job (step ∷ steps) last d =
    let one = one_step w made ended f step.deed step.reply job d.0 d.1 in
    let rest = balanced w made ended f d.0 steps last d.2 in
    omega (arith, one, rest)

balanced_fds : (fd : ℕ) (job : Job) (steps : List Step) (last : Job) → Disciplined job steps last →
    total (fd_held fd) last.holds + summed (fd_given fd) steps
    ≡ total (fd_held fd) job.holds + summed (fd_taken fd) steps
balanced_fds fd job steps last d = balanced (fd_held fd) (fd_taken fd) (fd_given fd)
    (λ deed told holds after s. let x = (handed holds deed told after s).fds fd in omega (arith, x)) job steps last d

pub fds_held : (fd : ℕ) (steps : List Step) (last : Job) → Disciplined idle steps last →
    (fds_carried fd steps ≡ total (fd_held fd) last.holds) × (summed (fd_given fd) steps ≤ summed (fd_taken fd) steps)
fds_held fd steps last d = let a = balanced_fds fd idle steps last d in (omega (arith, a), omega (arith, a))

-- closings that are told and taken are what is owed afterwards, less what was owed before
owed_step : (deed : Option Deed) (told : ActReply) (job after : Job) → MovesIf job deed told after →
    after.owed + weighed closing_ended deed told ≡ job.owed + weighed closings_in deed told
owed_step None told job after m = let k = ap (λ (j : Job). j.owed) m in omega (arith, k)
owed_step (Some deed) told job after m = owed_flow job deed told after m

owed_steps : (job : Job) (steps : List Step) (last : Job) → Disciplined job steps last →
    last.owed + summed closing_ended steps ≡ job.owed + summed closings_in steps
owed_steps job [] last d = let k = ap (λ (j : Job). j.owed) d in omega (arith, k)
owed_steps job (step ∷ steps) last d =
    let one = owed_step step.deed step.reply job d.0 d.1 in
    let rest = owed_steps d.0 steps last d.2 in
    omega (arith, one, rest)

-- what passes with an answer is a count, which weighs nothing else
pub entry_weighs : (w : Hold → ℕ) → ((era n : ℕ) → w (hold.Count era n) ≡ 0) → (era : ℕ) (end : Finish) →
    total w (entry_holds era end) ≡ 0
entry_weighs w z era (finish.Answer (answer.Entry entry)) = let a = z era entry.inode in omega (arith, a)
entry_weighs w z era (finish.Answer (answer.Created entry handle options)) = let a = z era entry.inode in
    omega (arith, a)
entry_weighs w z era _ = refl

balanced_counts : (e n : ℕ) (job : Job) (steps : List Step) (last : Job) → Disciplined job steps last →
    total (count_of e n) last.holds + summed (count_ended e n) steps
    ≡ total (count_of e n) job.holds + summed (count_made e n) steps
balanced_counts e n job steps last d = balanced (count_of e n) (count_made e n) (count_ended e n)
    (λ deed told holds after s. one_given e n deed told holds after s) job steps last d

balanced_pins : (row : ℕ) (job : Job) (steps : List Step) (last : Job) → Disciplined job steps last →
    total (pin_held row) last.holds + summed (pin_ended row) steps
    ≡ total (pin_held row) job.holds + summed (pin_made row) steps
balanced_pins row job steps last d = balanced (pin_held row) (pin_made row) (pin_ended row)
    (λ deed told holds after s. (handed holds deed told after s).pins row) job steps last d

balanced_handle_pins : (row : ℕ) (job : Job) (steps : List Step) (last : Job) → Disciplined job steps last →
    total (handle_pin_held row) last.holds + summed (handle_pin_ended row) steps
    ≡ total (handle_pin_held row) job.holds + summed (handle_pin_made row) steps
balanced_handle_pins row job steps last d =
    balanced (handle_pin_held row) (handle_pin_made row) (handle_pin_ended row)
    (λ deed told holds after s. (handed holds deed told after s).handle_pins row) job steps last d

-- by the steps up to any place
returns_given : (steps : List Step) (last : Job) → Disciplined idle steps last → ReturnsGiven steps
returns_given steps last d = record {
  counts = λ e n. let a = balanced_counts e n idle steps last d in omega (arith, a);
  pins = λ row. let a = balanced_pins row idle steps last d in omega (arith, a);
  handle_pins = λ row. let a = balanced_handle_pins row idle steps last d in omega (arith, a);
  fds = λ fd. (fds_held fd steps last d).1;
  closings = let a = owed_steps idle steps last d in omega (arith, a);
}

up_to : (front rest : List Step) (job last : Job) → Disciplined job (front ++ rest) last →
    (mid : Job) × Disciplined job front mid
up_to [] rest job last d = (job, refl)
up_to (step ∷ front) rest job last d = let u = up_to front rest d.0 last d.2 in (u.0, (d.0, d.1, u.1))

pub all_settled : (steps : List Step) (end : Finish) → ComesToEnd idle steps end → HasSettled steps end
all_settled steps end e = record {
  in_order = λ front rest same.
      let last = at_job (entry_holds e.0 end) e.1 in
      let u = up_to front rest idle last (subst (λ (s : List Step). Disciplined idle s last) same e.2) in
      returns_given front u.0 u.1;
  era = e.0;
  numbers = λ other number.
      let a = balanced_counts other number idle steps _ e.2 in
      let w = entry_counts e.0 other number end in
      omega (arith, a, w);
  pins = λ row.
      let a = balanced_pins row idle steps _ e.2 in
      let z = entry_weighs (pin_held row) (λ era n. refl) e.0 end in
      omega (arith, a, z);
  handle_pins = λ row.
      let a = balanced_handle_pins row idle steps _ e.2 in
      let z = entry_weighs (handle_pin_held row) (λ era n. refl) e.0 end in
      omega (arith, a, z);
  fds = λ fd.
      let a = balanced_fds fd idle steps _ e.2 in
      let z = entry_weighs (fd_held fd) (λ era n. refl) e.0 end in
      omega (arith, a, z);
  closings = let a = owed_steps idle steps _ e.2 in omega (arith, a);
}
