use Rattle.std.proofs.Common.{◌++◌, ap, ◌∙◌}
use Rattle.pt_creds.specs.Guard.{euid_calls, egid_calls, groups_calls, calls_back}
use Rattle.pt_creds.proofs.Making.{plays_on}
use Rattle.pt_creds.proofs.guard.UnixCredentialsGuard.go_back.Goals as goal

pub returns-clause-played : goal.returns-clause-played
returns-clause-played g c =
    let inside = c.self.inside in
    let does = g.H.Host.does in
    let two = plays_on does (euid_calls inside.reset_uid) (egid_calls inside.reset_gid) _ _ _ _ _ _
    c.set_euid-uid.result c.set_egid-gid.result c.set_euid-uid.ensures
    c.set_egid-gid.ensures in
    let all = plays_on does (euid_calls inside.reset_uid ++ egid_calls inside.reset_gid)
    (groups_calls inside.reset_groups) _ _ _ _ _ _ _ c.set_groups-groups.result two
    c.set_groups-groups.ensures.played in
    rw (c.and-2.ensures, c.and.ensures) (all.0, all.1, all.2 ∙ ap calls_back c.self.view_is, all.3)
