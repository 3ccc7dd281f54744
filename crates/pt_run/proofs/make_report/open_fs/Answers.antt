use Rattle.std.proofs.Common.{◌∙◌, ap}
use Rattle.pt_run.specs.Configured.{configured}
use Rattle.pt_run.proofs.Opening.{made_opened, refused_opened, never_lost}
use Rattle.pt_run.proofs.make_report.open_fs.Goals as goal

pub returns-in-Ok-new-clause-ok : goal.returns-in-Ok-new-clause-ok
returns-in-Ok-new-clause-ok c =
    let there = c.in-Ok-new in
    made_opened c.args.settings c.configured-config.result c.args.host.now c.seat_of-seat.result there.fs
    c.new-2.new.host c.new-2.new.seat (c.configured-config.ensures ∙ ap (configured c.args.settings) c.in-Ok.ensures.ok)
    (rw c.identity.ensures at c.seat_of-seat.ensures) there.ensures.seat there.ensures.plan
    there.ensures.tables there.ensures.call

pub returns-in-Err-Errno-clause-err : goal.returns-in-Err-Errno-clause-err
returns-in-Err-Errno-clause-err c =
    let there = c.in-Err-Errno in
    refused_opened c.args.settings c.configured-config.result c.args.host.now c.seat_of-seat.result there.errno
    c.new-2.new.host c.new-2.new.seat (c.configured-config.ensures ∙ ap (configured c.args.settings) c.in-Ok.ensures.ok)
    (rw c.identity.ensures at c.seat_of-seat.ensures) there.ensures.seat (rw there.field-0-is at there.ensures.call)

pub returns-in-Err-Lost-clause-err : goal.returns-in-Err-Lost-clause-err
returns-in-Err-Lost-clause-err c =
    let there = c.in-Err-Lost in
    absurd (never_lost c.configured-config.result c.args.host.now c.seat_of-seat.result there.errno c.new-2.new.host
    c.new-2.new.seat (rw there.field-0-is at there.ensures.call))
