use Rattle.std.proofs.Common.{refl}
use Rattle.pt_frame.specs.declared.act.KeptAct.{KeptAct}
use Rattle.pt_job.specs.Machine.Job.{owes}
use Rattle.pt_fs.specs.Stepped.{MadeWanted, Stepped}
use Rattle.pt_fs.proofs.Advancing.{stepped}
use Rattle.pt_fs.proofs.step.advance.Given.{Over}
use Rattle.pt_fs.proofs.step.advance.Goals.{After-take}
use Rattle.pt_fs.proofs.step.advance.Goals as goal

-- the step that was made
made : (g : Over) (c : After-take g) (act : KeptAct) →
    MadeWanted g.H.Host.does (owes c.args.run.now.plan.now c.args.start.now c.args.machine.now.state)
    c.args.run.now.host.now c.args.seat.now c.args.run.now.session.now act c.make_wanted-written.new.reply
    c.make_wanted-written.new.run.host.now c.make_wanted-written.new.seat c.make_wanted-written.new.run.session.now →
    Stepped g.H.Host.does c.args.run.now.plan.now c.args.start.now c.args.id.0 c.args.run.now.host.now c.args.seat.now
    c.args.machine.now c.args.run.now.session.now
    (record { job = c.args.id.0; act = act; reply = c.make_wanted-written.new.reply })
    c.make_wanted-written.new.run.host.now c.make_wanted-written.new.seat
    (record { id = c.args.machine.now.id; state = c.take.new.self }) c.make_wanted-written.new.run.session.now
made g c act makes =
    let plan = c.make_wanted-written.ensures.shares.plan in
    stepped g.H.Host.does g.H.Host.faults g.met.H.Host.promised c.args.run.now.plan.now c.args.start.now
    c.args.id.0 c.args.run.now.host.now c.make_wanted-written.new.run.host.now c.args.seat.now
    c.make_wanted-written.new.seat c.args.machine.now (record { id = c.args.machine.now.id; state = c.take.new.self })
    c.args.run.now.session.now c.make_wanted-written.new.run.session.now act c.make_wanted-written.new.reply
    c.restoring-restored.result refl makes (rw plan at c.take.ensures.left) c.restoring-restored.ensures.result
    (c.restoring-restored.ensures.restores c.args.run.now.plan.now c.args.start.now) c.take.ensures.lost
    c.take.ensures.fewer (rw plan at c.take.ensures.within) (rw plan at c.take.ensures.inserts)

pub returns-in-Ok-clause-stepped : goal.returns-in-Ok-clause-stepped
returns-in-Ok-clause-stepped g c =
    let it = c.in-Ok.ensures.made in
    (_, it.1, made g (goal.at.returns-in-Ok-clause-stepped g c).After-take it.0 it.2)

pub returns-in-Err-clause-stepped : goal.returns-in-Err-clause-stepped
returns-in-Err-clause-stepped g c =
    let it = c.in-Err.ensures.made in
    (_, tt, made g (goal.at.returns-in-Err-clause-stepped g c).After-take it.0 it.2)
