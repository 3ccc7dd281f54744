use Rattle.pt_law.proofs.runs.every_host.Goals as goal
use Rattle.pt_law.proofs.Hosts.{hosts_tables, hosts_world, hosts_told}

pub returns-clause-tables : goal.returns-clause-tables
returns-clause-tables g c =
    λ turns host after tables tables_after r. hosts_tables g.H.Host.does turns host tables after tables_after r

pub returns-clause-world : goal.returns-clause-world
returns-clause-world g c =
    λ turns start host after tables_after is r. hosts_world g.H.Host.does g.H.Host.tree g.H.Host.faults
    g.met.H.Host.promised (λ from seat asked told to seat_after made before at. let l = g.met.H.Host.lawful from
    seat asked told to seat_after made before at in (l.0, l.1, l.2)) turns start host after tables_after is r

pub returns-clause-told : goal.returns-clause-told
returns-clause-told g c =
    λ job turns host after tables tables_after r. hosts_told g.H.Host.does g.H.Host.faults g.met.H.Host.promised job
    turns host tables after tables_after r
