use Rattle.std.proofs.Common.{inl, refl}
use Rattle.pt_frame.specs.Deed.{deed_of}
use Rattle.pt_frame.specs.declared.act.KeptAct.TheVariants as kept_act
use Rattle.pt_job.specs.Machine.Job.{owes}
use Rattle.pt_fs.specs.Recorded.{kept_of}
use Rattle.pt_fs.proofs.Advancing.{makes, makes_none}
use Rattle.pt_fs.proofs.Recording.{full_so, ok_on}
use Rattle.pt_fs.proofs.step.make_wanted.Goals as goal

pub returns-in-Ok-Whole-clause-made : goal.returns-in-Ok-Whole-clause-made
returns-in-Ok-Whole-clause-made g c =
    let owed = owes c.args.run.now.plan.now c.args.start.now c.args.machine.now.state in
    let deed = deed_of c.in-Step.act in (
      kept_of deed,
      ok_on c.write_reply.result c.write_reply.ensures.wrote
          (λ wrote. wrote c.args.run.now.writer.now c.args.id.0 (kept_of deed)
          (rw c.in-Ok-Whole.field-0-is at c.in-Ok-Whole.ensures.wrote)),
      makes g.H.Host.does owed c.in-Step.act c.in-Step.ensures c.args.run.now.host.now c.args.seat.now
          c.args.run.now.session.now c.write_reply.new.reply c.make_from.result c.make_from.new.host
          c.make_from.new.seat c.make_from.new.access c.make_from.ensures c.write_reply.ensures.shown,
    )

pub returns-in-Ok-NoCopy-clause-made : goal.returns-in-Ok-NoCopy-clause-made
returns-in-Ok-NoCopy-clause-made g c =
    let owed = owes c.args.run.now.plan.now c.args.start.now c.args.machine.now.state in (
      kept_act.NoCopy,
      ok_on c.write_reply-in-Ok-NoCopy.result c.write_reply-in-Ok-NoCopy.ensures.wrote
          (λ wrote. wrote c.args.run.now.writer.now c.args.id.0 kept_act.NoCopy
          (rw c.in-Ok-NoCopy.field-0-is at c.in-Ok-NoCopy.ensures.wrote)),
      makes_none g.H.Host.does owed c.in-Step.act c.in-Step.ensures c.args.run.now.host.now c.args.seat.now
          c.args.run.now.session.now c.write_reply-in-Ok-NoCopy.new.reply
          (c.in-Ok-NoCopy.ensures.uncopied c.in-Ok-NoCopy.field-0-is) c.write_reply-in-Ok-NoCopy.ensures.shown,
    )

pub returns-in-Err-clause-made : goal.returns-in-Err-clause-made
returns-in-Err-clause-made g c =
    let owed = owes c.args.run.now.plan.now c.args.start.now c.args.machine.now.state in (
      kept_of (deed_of c.in-Step.act),
      tt,
      makes g.H.Host.does owed c.in-Step.act c.in-Step.ensures c.args.run.now.host.now c.args.seat.now
          c.args.run.now.session.now c.make_from-in-Err.result c.make_from-in-Err.result c.make_from-in-Err.new.host
          c.make_from-in-Err.new.seat c.make_from-in-Err.new.access c.make_from-in-Err.ensures (inl refl),
    )

pub returns-in-Ok-Whole-clause-unwritten : goal.returns-in-Ok-Whole-clause-unwritten
returns-in-Ok-Whole-clause-unwritten g c =
    full_so c.write_reply.result c.write_reply.ensures.unwritten
    (λ leaves. leaves c.args.run.now.writer.now c.args.id.0 (kept_of (deed_of c.in-Step.act))
    (rw c.in-Ok-Whole.field-0-is at c.in-Ok-Whole.ensures.wrote))

pub returns-in-Ok-NoCopy-clause-unwritten : goal.returns-in-Ok-NoCopy-clause-unwritten
returns-in-Ok-NoCopy-clause-unwritten g c =
    full_so c.write_reply-in-Ok-NoCopy.result c.write_reply-in-Ok-NoCopy.ensures.unwritten
    (λ leaves. leaves c.args.run.now.writer.now c.args.id.0 kept_act.NoCopy
    (rw c.in-Ok-NoCopy.field-0-is at c.in-Ok-NoCopy.ensures.wrote))
