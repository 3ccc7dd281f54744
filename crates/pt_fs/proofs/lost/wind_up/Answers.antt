use Rattle.std.proofs.Common.{◌∙◌}
use Rattle.pt_fs.proofs.Recording.{wrote_on, wrote_so, goes_behind, ok_on, full_so}
use Rattle.pt_fs.proofs.Stopping.{stopped_goes, cut_seats, err_so}
use Rattle.pt_fs.proofs.lost.wind_up.Goals as goal

pub returns-clause-winds_up : goal.returns-clause-winds_up
returns-clause-winds_up g c =
    let plan = c.in_ok-restore_rest.ensures.shares.plan in
    ok_on c.end_all.result (rw plan at c.end_all.ensures.goes) (λ back.
    wrote_on c.in_ok-restore_rest.ensures.restored back (λ xs ys restored then. record {
      mid = c.restore_rest.new.run.host.now;
      stood = c.restore_rest.new.running;
      cut = c.cut_all.new.running;
      left = c.restore_rest.new.run.session.now;
      so_far = xs;
      restored = restored;
      over = c.in_ok-restore_rest.ensures.over;
      same = c.cut_all.ensures.same;
      cuts = c.cut_all.ensures.cut;
      bounds = c.cut_all.ensures.bounds;
      back = goes_behind xs then;
    }))

pub returns-clause-same : goal.returns-clause-same
returns-clause-same g c =
    ok_on c.end_all.result c.end_all.ensures.goes (λ back.
    back.so.same ∙ c.cut_all.ensures.same ∙ c.in_ok-restore_rest.ensures.restored.so.goes.same)

pub returns-clause-stopped : goal.returns-clause-stopped
returns-clause-stopped g c =
    full_so c.end_all.result c.end_all.ensures.stopped (λ stopped.
    stopped_goes (wrote_so c.in_ok-restore_rest.ensures.restored (λ xs restored. restored.goes))
    (rw (cut_seats c.args.id.0 c.restore_rest.new.running c.cut_all.new.running c.cut_all.ensures.same
    c.cut_all.ensures.cut) at stopped))

pub returns-in_err-restore_rest-clause-stopped : goal.returns-in_err-restore_rest-clause-stopped
returns-in_err-restore_rest-clause-stopped g c = err_so c.from_residual.result c.in_err-restore_rest.ensures.stopped
