use Rattle.pt_creds.proofs.Settings.{restored_back, restored_lost}
use Rattle.pt_creds.proofs.guard.UnixCredentialsGuard.restore.Goals as goal

pub returns-in-Ok-clause-back : goal.returns-in-Ok-clause-back
returns-in-Ok-clause-back g c = λ before by.
    restored_back g.H.Host.does g.H.Host.faults g.met.H.Host.promised c.args.self before _ _ _ _ by
    c.in-Ok.ensures.played

pub returns-in-Err-clause-made : goal.returns-in-Err-clause-made
returns-in-Err-clause-made g c =
    let p = c.in-Err.ensures.played in (
      p.0,
      p.1,
      p.2,
      (restored_lost g.H.Host.does g.H.Host.faults g.met.H.Host.promised c.args.self c.requires.0 _ _ _
          _ c.in-Err.errno c.requires.1 c.in-Err.ensures.fits p).0,
    )

pub returns-in-Err-clause-lost : goal.returns-in-Err-clause-lost
returns-in-Err-clause-lost g c =
    (restored_lost g.H.Host.does g.H.Host.faults g.met.H.Host.promised c.args.self c.requires.0 _ _ _ _ c.in-Err.errno
    c.requires.1 c.in-Err.ensures.fits c.in-Err.ensures.played).1
