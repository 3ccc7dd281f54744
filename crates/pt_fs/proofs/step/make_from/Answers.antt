use Rattle.std.proofs.Common.{ap}
use Rattle.pt_host.specs.Call.{call_of}
use Rattle.pt_tables.specs.Change.{change_of}
use Rattle.pt_frame.specs.Deed.{deed_of}
use Rattle.pt_fs.proofs.Advancing.{called, happened}
use Rattle.pt_fs.proofs.step.make_from.Goals as goal

pub returns-in-Event : goal.returns-in-Event
returns-in-Event g c =
    happened g.H.Host.does g.A.SessionAccess.makes c.args.host.now c.args.act.now (change_of c.in-Event.event)
    c.event.result c.args.seat.now c.args.access.now c.event.new.self (ap deed_of c.in-Event.is) c.event.ensures.made

pub returns-in-Host : goal.returns-in-Host
returns-in-Host g c =
    called g.H.Host.does g.A.SessionAccess.makes c.args.host.now c.args.act.now (call_of c.in-Host.op)
    c.call_from.result c.args.seat.now c.call_from.new.seat c.call_from.new.host c.args.access.now
    (ap deed_of c.in-Host.is) c.call_from.ensures
