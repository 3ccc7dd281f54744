-- What a step of a machine is to its job, wherever the job lay before it and lies behind it.
use Rattle.std.proofs.Common.{◌≡◌, ◌<◌, ◌≤◌, ◌+◌, ◌*◌, ◌∙◌, ℕ, List, Option, Some, None, ap, sym, subst, arith}
use Rattle.std.proofs.Common.{slice_get, slice_set}
use Rattle.pt_host.specs.Relation.{HostRelation}
use Rattle.pt_host.specs.declared.ids.Errno.{Errno}
use Rattle.pt_host.specs.declared.seat.HostSeat.{HostSeat}
use Rattle.pt_tables.specs.Tables.{Tables}
use Rattle.pt_frame.specs.Deed.{Deed}
use Rattle.pt_frame.specs.Grammar.{Grammar, restores}
use Rattle.pt_frame.specs.Past.{lost_after}
use Rattle.pt_frame.specs.declared.act.ActReply.{ActReply}
use Rattle.pt_job.specs.Machine.Job.{owes as job_owes, steps_left as job_left, steps_bound as job_bound}
use Rattle.pt_job.specs.Machine.Job.{inserts_left as job_inserts, lost_of as job_lost}
use Rattle.pt_req.specs.declared.plan.Plan.{Plan}
use Rattle.pt_fs.specs.Advances.{Advances, inserted_in}
use Rattle.pt_fs.specs.Running.{Running, State, owes, steps_left, steps_bound, inserts_left, lost_of}
use Rattle.pt_fs.specs.Trace.{MadeFrom, told_by}
use Rattle.pt_fs.specs.Work.{work}
use Rattle.pt_fs.specs.declared.machine.Machine.{Machine}
use Rattle.pt_fs.proofs.Laying.{Through}
use Rattle.pt_fs.proofs.Runs.{run_of}
use Rattle.pt_fs.proofs.Works.{advance_falls}

module _ {states states' : List State} {j : ℕ} {seen went : Machine} (th : Through states j seen went states')
    (start : HostSeat) where
  -- what the machine was to do is what the job was to do
  owed_before : (plan : Plan) → job_owes plan start seen.state ≡ owes plan start th.state
  owed_before plan = th.before.left plan start

  owed_after : (plan : Plan) → job_owes plan start went.state ≡ owes plan start th.state'
  owed_after plan = sym (th.after.left plan start)

  pub advances_through : (plan : Plan) (kept : Option Deed) (told : ActReply) →
      Advances (job_owes plan start seen.state) kept told (job_owes plan start went.state) →
      Advances (owes plan start th.state) kept told (owes plan start th.state')
  advances_through plan kept told goes =
      subst (λ (g : Grammar). Advances g kept told (owes plan start th.state')) (owed_before plan)
      (subst (λ (g : Grammar). Advances (job_owes plan start seen.state) kept told g) (owed_after plan) goes)

  pub loses_through : (plan : Plan) (told : ActReply) →
      job_lost went.state ≡ lost_after (job_lost seen.state) (restores (job_owes plan start seen.state)) told →
      lost_of th.state' ≡ lost_after (lost_of th.state) (restores (owes plan start th.state)) told
  loses_through plan told so =
      th.after.lost ∙ so
      ∙ ap (λ (l : Option Errno). lost_after l (restores (job_owes plan start seen.state)) told) th.before.lost
      ∙ ap (λ (g : Grammar). lost_after (lost_of th.state) (restores g) told) (owed_before plan)

  pub told_through : (lost : Option Errno) →
      (job_lost seen.state ≡ None → job_lost went.state ≡ lost) →
      lost_of th.state ≡ None → lost_of th.state' ≡ lost
  told_through lost told none = th.after.lost ∙ told (th.before.lost ∙ none)

  pub fewer_through : job_left went.state < job_left seen.state → steps_left th.state' < steps_left th.state
  fewer_through less = let one = th.before.fewer in let two = th.after.fewer in omega arith

  pub within_through : (told : ℕ) → job_bound went.state + 1 ≤ job_bound seen.state + 3 * told →
      steps_bound th.state' + 1 ≤ steps_bound th.state + 3 * told
  within_through told less = let one = th.before.bound in let two = th.after.bound in omega arith

  pub inserts_through : (more : ℕ) → job_inserts went.state + more ≤ job_inserts seen.state →
      inserts_left th.state' + more ≤ inserts_left th.state
  inserts_through more less = let one = th.before.inserts in let two = th.after.inserts in omega arith

  -- each step leaves less work
  pub spent_through : {H : Type 0} (does : HostRelation H) (kept : Option Deed) (told : ActReply) (host host' : H)
      (running : List Running) (seat seat' : Option HostSeat) (tables tables' : Tables) →
      slice_get running j ≡ Some (run_of start seat th.state) →
      MadeFrom does kept told host seat tables host' seat' tables' →
      job_bound went.state + 1 ≤ job_bound seen.state + 3 * told_by kept told →
      job_inserts went.state + inserted_in kept told ≤ job_inserts seen.state →
      work (slice_set running j (run_of start seat' th.state')) tables' + 1 ≤ work running tables
  spent_through does kept told host host' running seat seat' tables tables' was made within inserts =
      advance_falls does j kept told host host' running (run_of start seat th.state) (run_of start seat' th.state')
      tables tables' seat' was made (within_through (told_by kept told) within)
      (inserts_through (inserted_in kept told) inserts)
