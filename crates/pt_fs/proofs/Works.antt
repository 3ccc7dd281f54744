-- The work that is left falls with each step.
use Rattle.std.proofs.Common.{◌≡◌, ℕ, zero, suc, ◌+◌, ◌*◌, ◌≤◌, List, [], ◌∷◌, Option, Some, None, ap, slice_get}
use Rattle.std.proofs.Common.{slice_set, arith, Bool, true, false, refl, sym, ◌∙◌}
use Rattle.pt_host.specs.declared.ids.Errno.{Errno}
use Rattle.pt_frame.specs.Past.{lost_after}
use Rattle.std.proofs.lemmas.Option.{same_Some}
use Rattle.pt_host.specs.declared.seat.HostSeat.{HostSeat}
use Rattle.pt_tables.specs.Pending.{pending_in}
use Rattle.pt_tables.specs.Tables.{Tables}
use Rattle.pt_frame.specs.Deed.{Deed, Changes, Calls}
use Rattle.pt_fs.specs.Running.{steps_bound, inserts_left}
use Rattle.pt_host.specs.Relation.{HostRelation}
use Rattle.pt_frame.specs.Made.{Made}
use Rattle.pt_frame.specs.declared.act.ActReply.{ActReply}
use Rattle.pt_frame.specs.declared.act.ActReply.TheVariants.{Event, Host, NoCopy}
use Rattle.pt_req.specs.declared.plan.Plan.{Plan}
use Rattle.pt_fs.specs.Advances.{inserted_in}
use Rattle.pt_fs.specs.Each.{EachStarted}
use Rattle.pt_fs.specs.Trace.{MadeFrom, told_by, room_of}
use Rattle.pt_fs.specs.Work.{work, bounds_in}
use Rattle.pt_fs.specs.declared.job.Job.{Job}
use Rattle.pt_fs.specs.Running.{Running}
use Rattle.pt_fs.proofs.Pending.{event_puts}
use Rattle.pt_fs.proofs.Traces.{made_from}

abbrev pub weight : Running → ℕ
weight run = steps_bound run.state + 3 * inserts_left run.state

pub bounds-set : (running : List Running) (place : ℕ) (run run' : Running) → slice_get running place ≡ Some run →
    bounds_in (slice_set running place run') + weight run ≡ bounds_in running + weight run'
bounds-set [] place run run' there = cc
bounds-set (first ∷ running) zero run run' there =
    let e : weight first ≡ weight run = ap (λ (r : Running). weight r) (same_Some first run there) in omega arith
bounds-set (first ∷ running) (suc place) run run' there =
    let e = bounds-set running place run run' there in omega arith

-- a step that was made tells no more closings than rows went
pub made_puts : {H : Type 0} (does : HostRelation H) (kept : Option Deed) (told : ActReply) (host host' : H)
    (seat seat' : HostSeat) (tables tables' : Tables)
    → Made does kept told host seat tables host' seat' tables' →
    pending_in tables' + told_by kept told ≤ pending_in tables + inserted_in kept told
made_puts does (Some (Changes asked)) (Event told) host host' seat seat' tables tables' made =
    event_puts tables tables' asked told made.0
made_puts does (Some (Calls asked)) (Host told) host host' seat seat' tables tables' made =
    let e = ap pending_in made.1 in omega arith
made_puts does (Some (Calls asked)) NoCopy host host' seat seat' tables tables' made = let e = ap pending_in made.1 in
    omega arith
made_puts does None NoCopy host host' seat seat' tables tables' made = let e = ap pending_in made.2 in omega arith
made_puts does (Some (Changes asked)) (Host told) host host' seat seat' tables tables' made = absurd made
made_puts does (Some (Changes asked)) NoCopy host host' seat seat' tables tables' made = absurd made
made_puts does (Some (Calls asked)) (Event told) host host' seat seat' tables tables' made = absurd made
made_puts does None (Event told) host host' seat seat' tables tables' made = absurd made
made_puts does None (Host told) host host' seat seat' tables tables' made = absurd made

puts_from : {H : Type 0} (does : HostRelation H) (kept : Option Deed) (told : ActReply) (host host' : H)
    (seat seat' : Option HostSeat) (tables tables' : Tables)
    → MadeFrom does kept told host seat tables host' seat' tables' →
    pending_in tables' + told_by kept told ≤ pending_in tables + inserted_in kept told
puts_from does kept told host host' seat seat' tables tables' made =
    let from = made_from does kept told host seat tables host' seat' tables' made in
    made_puts does kept told host host' from.0 from.1 tables tables' from.2

-- each step leaves less work
pub advance_falls : {H : Type 0} (does : HostRelation H) (place : ℕ) (kept : Option Deed) (told : ActReply)
    (host host' : H)
    (running : List Running) (run run' : Running) (tables tables' : Tables) (seat' : Option HostSeat)
    → slice_get running place ≡ Some run → MadeFrom does kept told host run.seat tables host' seat' tables'
    → steps_bound run'.state + 1 ≤ steps_bound run.state + 3 * told_by kept told →
    inserts_left run'.state + inserted_in kept told ≤ inserts_left run.state
    → work (slice_set running place run') tables' + 1 ≤ work running tables
advance_falls does place kept told host host' running run run' tables tables' seat' there made within inserts =
    let puts = puts_from does kept told host host' run.seat seat' tables tables' made in
    let sums = bounds-set running place run run' there in
    omega arith

pub started_bounds : (plan : Plan) (jobs : List Job) (running : List Running) → EachStarted plan jobs running →
    bounds_in running ≤ room_of jobs
started_bounds plan [] [] h = omega arith
started_bounds plan (job ∷ jobs) (run ∷ running) h = let more = started_bounds plan jobs running h.1 in
    let bound = h.0.bound in let inserts = h.0.inserts in omega arith
started_bounds plan [] (run ∷ running) h = absurd h
started_bounds plan (job ∷ jobs) [] h = absurd h

-- what a step lost, where a job had its seat before it
lost_by_mark : (marked : Bool) (reply : ActReply) (now result : Option Errno) → now ≡ lost_after None marked reply →
    (marked ≡ false → result ≡ None) → (marked ≡ true → result ≡ now) → now ≡ result
lost_by_mark true reply now result e none same = sym (same refl)
lost_by_mark false reply now result e none same = e ∙ sym (none refl)

pub told_by_mark : (restoring marked : Bool) (was now : Option Errno) (reply : ActReply) (result : Option Errno) →
    restoring ≡ marked → now ≡ lost_after was marked reply → was ≡ None → (restoring ≡ false → result ≡ None) →
    (restoring ≡ true → result ≡ now) → now ≡ result
told_by_mark restoring marked was now reply result is e before none same =
    lost_by_mark restoring reply now result
    (e ∙ ap (λ (l : Option Errno). lost_after l marked reply) before
    ∙ ap (λ (b : Bool). lost_after None b reply) (sym is)) none same
