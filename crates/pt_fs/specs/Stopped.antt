-- Believed. A run that stopped where a step could not be written down.
use Rattle.std.specs.Prelude.{List, Option}
use Rattle.pt_host.specs.Relation.{HostRelation}
use Rattle.pt_host.specs.declared.seat.HostSeat.{HostSeat}
use Rattle.pt_tables.specs.Tables.{Tables}
use Rattle.pt_fs.specs.Recorded.{Writes}
use Rattle.pt_fs.specs.Trace.{MadeAt, TraceRuns}
use Rattle.pt_fs.specs.declared.trace.TraceStep.{TraceStep}

-- The steps that were written down lead from the first host, seats and tables to some, and one step more, of which the
-- record does not tell, from there to the host and the tables that are left.
pub record Stopped
    {H R : Type 0}
    (does : HostRelation H)
    (wrote : R → TraceStep → R → Type 0)
    (unwritten : R → R → Type 0)
    (host : H)
    (seats : List (Option HostSeat))
    (tables : Tables)
    (before : R)
    (host' : H)
    (tables' : Tables)
    (after : R)
    : Type 0 where
  pub steps : List TraceStep
  -- the record with these steps
  pub told : R
  pub written : Writes wrote before steps told
  pub broken : unwritten told after
  -- where they lead
  pub mid : H
  pub stood : List (Option HostSeat)
  pub there : Tables
  pub runs : TraceRuns does steps host seats tables mid stood there
  -- what was made from there, by a job from its own seat
  pub step : TraceStep
  pub left : List (Option HostSeat)
  pub made : MadeAt does step mid stood there host' left tables'
