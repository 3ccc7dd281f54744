use Rattle.std.proofs.Common.{◌≡◌, Err, rules}
use Rattle.pt_creds.proofs.Answered.{no_group, no_gid, no_uid, all_taken}
use Rattle.pt_creds.proofs.credentials.UnixCredentials.set.Goals as goal

pub returns-in_err-set_group : goal.returns-in_err-set_group
returns-in_err-set_group g c =
    let is : c.from_residual.result ≡ Err c.in_err-set_group.field-0.0 = search rules in
    let s = no_group g.H.Host.does g.H.Host.faults g.met.H.Host.promised c.args.self c.steps-steps.result
    c.args.host.now c.args.seat.now c.requires c.steps-steps.ensures
    c.new.result c.new.ensures _ _ c.in_err-set_group.field-0.0 c.from_residual.result c.in_err-set_group.ensures is
    in
    record { made = s.made; guard = s.guard; unchanged = s.unchanged; lost = s.lost }

pub returns-in_err-set_gid : goal.returns-in_err-set_gid
returns-in_err-set_gid g c =
    let is : c.from_residual-in_err-set_gid.result ≡ Err c.in_err-set_gid.field-0.0 = search rules in
    let s = no_gid g.H.Host.does g.H.Host.faults g.met.H.Host.promised c.args.self c.steps-steps.result
    c.args.host.now c.args.seat.now c.requires c.steps-steps.ensures
    c.new.result c.new.ensures c.in_ok-set_group.field-0 _ _ _ _ c.in_err-set_gid.field-0.0
    c.from_residual-in_err-set_gid.result c.in_ok-set_group.ensures
    c.in_err-set_gid.ensures is in
    record { made = s.made; guard = s.guard; unchanged = s.unchanged; lost = s.lost }

pub returns-in_err-guard : goal.returns-in_err-guard
returns-in_err-guard g c =
    let is : c.from_residual-in_err-guard.result ≡ Err c.in_err-guard.field-0.0 = search rules in
    let s = no_uid g.H.Host.does g.H.Host.faults g.met.H.Host.promised c.args.self c.steps-steps.result
    c.args.host.now c.args.seat.now c.requires c.steps-steps.ensures
    c.new.result c.new.ensures c.in_ok-set_group.field-0 c.in_ok-set_gid.field-0 _ _ _ _ _ _ c.in_err-guard.field-0.0
    c.from_residual-in_err-guard.result
    c.in_ok-set_group.ensures c.in_ok-set_gid.ensures c.in_err-guard.ensures is in
    record { made = s.made; guard = s.guard; unchanged = s.unchanged; lost = s.lost }

pub returns : goal.returns
returns g c =
    let s = all_taken g.H.Host.does g.H.Host.faults g.met.H.Host.promised c.args.self c.steps-steps.result
    c.args.host.now c.args.seat.now c.requires c.steps-steps.ensures
    c.new.result c.new.ensures c.in_ok-set_group.field-0 c.in_ok-set_gid.field-0 c.in_ok-guard.guard c.if_any.result _
    _ _ _ _ _ _ _ c.in_ok-set_group.ensures
    c.in_ok-set_gid.ensures c.in_ok-guard.ensures (
      c.raise_if-passed_over.ensures.0,
      c.raise_if-passed_over.ensures.1,
      c.raise_if-passed_over.ensures.2,
    ) c.if_any.ensures in
    record { made = s.made; guard = s.guard; unchanged = s.unchanged; lost = s.lost }
