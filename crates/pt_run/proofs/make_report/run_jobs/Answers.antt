use Rattle.pt_fs.specs.Trace.{seated}
use Rattle.pt_run.proofs.Contents.{run_contents}
use Rattle.pt_run.proofs.Opening.{opened_well}
use Rattle.pt_run.proofs.make_report.run_jobs.Goals as goal

pub returns-in-Ok-clause-ok : goal.returns-in-Ok-clause-ok
returns-in-Ok-clause-ok g c =
    let ran = c.in-Ok.ensures.run in
    record {
      steps = ran.steps;
      written = ran.written;
      so = record {
        fs = c.in_ok-fs.fs;
        opened_host = c.open_fs.new.host;
        opened = c.in_ok-fs.ensures.ok;
        well_formed = opened_well _ _ _ _ c.in_ok-fs.ensures.ok;
        seats = seated c.in-Ok.left.seats.items;
        run = ran.so.0;
        ends = ran.so.1;
        filled = run_contents _ _ _ _ _ _ _ _ _ _ c.in_ok-fs.ensures.ok.tables c.requires.sizes ran.so.0;
      };
    }

pub returns-in-Err-CredentialsLost-clause-ok : goal.returns-in-Err-CredentialsLost-clause-ok
returns-in-Err-CredentialsLost-clause-ok g c =
    let there = c.in-Err-CredentialsLost in
    let ran = rw there.field-0-is at there.ensures.run in
    record {
      steps = ran.steps;
      written = ran.written;
      so = record {
        fs = c.in_ok-fs.fs;
        opened_host = c.open_fs.new.host;
        opened = c.in_ok-fs.ensures.ok;
        well_formed = opened_well _ _ _ _ c.in_ok-fs.ensures.ok;
        seats = seated there.left.seats.items;
        run = ran.so.0;
        ends = ran.so.1;
        filled = run_contents _ _ _ _ _ _ _ _ _ _ c.in_ok-fs.ensures.ok.tables c.requires.sizes ran.so.0;
      };
    }
