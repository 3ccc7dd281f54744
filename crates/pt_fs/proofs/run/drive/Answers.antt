use Rattle.std.proofs.Common.{◌≡◌, ◌≤◌, ◌∙◌, ap, vec_capacity, arith}
use Rattle.pt_fs.specs.Trace.{room_of}
use Rattle.pt_fs.proofs.Recording.{listed_all}
use Rattle.pt_fs.proofs.run.drive.Given.{Over}
use Rattle.pt_fs.proofs.run.drive.Goals.{In-Ok-drive_into, In-Err-CredentialsLost}
use Rattle.pt_fs.proofs.run.drive.Goals as goal

-- the steps that were written down are the trace
whole : (g : Over) (c : In-Ok-drive_into g) →
    (c.drive_into.new.writer.items ≡ c.in-Ok-drive_into.ensures.run.steps)
    × (vec_capacity c.in-Ok.trace ≤ vec_capacity c.drive_into.new.writer)
whole g c = listed_all (λ v. v.items) vec_capacity (λ a step b one. one) c.in-Ok.ensures.empty
    c.in-Ok-drive_into.ensures.run

lost : (g : Over) (c : In-Err-CredentialsLost g) →
    (c.drive_into.new.writer.items
    ≡ (rw c.in-Err-CredentialsLost.field-0-is at c.in-Err-CredentialsLost.ensures.run).steps)
    × (vec_capacity c.in-Ok.trace ≤ vec_capacity c.drive_into.new.writer)
lost g c = listed_all (λ v. v.items) vec_capacity (λ a step b one. one) c.in-Ok.ensures.empty
    (rw c.in-Err-CredentialsLost.field-0-is at c.in-Err-CredentialsLost.ensures.run)

pub returns-in-Ok-drive_into-clause-run : goal.returns-in-Ok-drive_into-clause-run
returns-in-Ok-drive_into-clause-run g c =
    let is = whole g (goal.at.returns-in-Ok-drive_into-clause-run g c).In-Ok-drive_into in
    let left = c.with_trace.ensures in
    rw (left.fs, left.answers, left.seats, left.trace, is.0) c.in-Ok-drive_into.ensures.run.so.0

pub returns-in-Ok-drive_into-clause-whole : goal.returns-in-Ok-drive_into-clause-whole
returns-in-Ok-drive_into-clause-whole g c =
    let is = whole g (goal.at.returns-in-Ok-drive_into-clause-whole g c).In-Ok-drive_into in
    let left = c.with_trace.ensures in
    rw (left.answers, left.trace, is.0) c.in-Ok-drive_into.ensures.run.so.1

pub returns-in-Ok-drive_into-clause-room : goal.returns-in-Ok-drive_into-clause-room
returns-in-Ok-drive_into-clause-room g c =
    let is = whole g (goal.at.returns-in-Ok-drive_into-clause-room g c).In-Ok-drive_into in
    let had = c.in-Ok.ensures.room in
    let kept = is.1 in
    let asked = c.room_of.ensures.room ∙ ap room_of c.deref.ensures.value in
    rw c.with_trace.ensures.trace (omega (arith, had, kept, asked))

pub returns-in-Err-CredentialsLost-clause-run : goal.returns-in-Err-CredentialsLost-clause-run
returns-in-Err-CredentialsLost-clause-run g c =
    let is = lost g (goal.at.returns-in-Err-CredentialsLost-clause-run g c).In-Err-CredentialsLost in
    let ran = rw c.in-Err-CredentialsLost.field-0-is at c.in-Err-CredentialsLost.ensures.run in
    let left = c.with_trace-in-Err-CredentialsLost.ensures in
    rw (left.fs, left.answers, left.seats, left.trace, is.0) ran.so.0

pub returns-in-Err-CredentialsLost-clause-lost_seat : goal.returns-in-Err-CredentialsLost-clause-lost_seat
returns-in-Err-CredentialsLost-clause-lost_seat g c =
    let is = lost g (goal.at.returns-in-Err-CredentialsLost-clause-lost_seat g c).In-Err-CredentialsLost in
    let ran = rw c.in-Err-CredentialsLost.field-0-is at c.in-Err-CredentialsLost.ensures.run in
    let left = c.with_trace-in-Err-CredentialsLost.ensures in
    rw (left.answers, left.trace, is.0) ran.so.1

pub returns-in-Err-CredentialsLost-clause-room : goal.returns-in-Err-CredentialsLost-clause-room
returns-in-Err-CredentialsLost-clause-room g c =
    let is = lost g (goal.at.returns-in-Err-CredentialsLost-clause-room g c).In-Err-CredentialsLost in
    let had = c.in-Ok.ensures.room in
    let kept = is.1 in
    let asked = c.room_of.ensures.room ∙ ap room_of c.deref.ensures.value in
    rw c.with_trace-in-Err-CredentialsLost.ensures.trace (omega (arith, had, kept, asked))

pub with_trace-requires-clause-room : goal.with_trace-requires-clause-room
with_trace-requires-clause-room g c =
    let each = c.in-Ok-drive_into.ensures.one_each in
    let had = c.in-Ok-with_room.ensures.room in
    omega (arith, each, had, c.len.ensures, c.args.jobs.ok.0)

pub with_trace-requires-in-Err-CredentialsLost-clause-room :
    goal.with_trace-requires-in-Err-CredentialsLost-clause-room
with_trace-requires-in-Err-CredentialsLost-clause-room g c =
    let each = rw c.in-Err-CredentialsLost.field-0-is at c.in-Err-CredentialsLost.ensures.one_each in
    let had = c.in-Ok-with_room.ensures.room in
    omega (arith, each, had, c.len.ensures, c.args.jobs.ok.0)
