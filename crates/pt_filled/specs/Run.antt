-- Believed. Jobs that ran whole over the tree host, one after another, and the plain file system with contents that they
-- are.
use Rattle.std.specs.Prelude.{◌≡◌, List, [], ◌∷◌, ℕ, true}
use Rattle.pt_host.specs.declared.seat.HostSeat.{HostSeat}
use Rattle.pt_tables.specs.Rows.{IsHandleRow}
use Rattle.pt_tables.specs.Tables.{Tables, empty_tables}
use Rattle.pt_tables.specs.declared.row.HandleRow.{HandleRow}
use Rattle.pt_iface.specs.declared.answer.Answer.{Answer}
use Rattle.pt_frame.specs.Made.{RunsAlone}
use Rattle.pt_req.specs.declared.plan.Plan.{Plan}
use Rattle.pt_job.specs.Pattern.{Asked}
use Rattle.pt_law.specs.Story.{no_story}
use Rattle.pt_law.specs.World.{World, no_past, Runs}
use Rattle.pt_rules.specs.Does.{Does}
use Rattle.pt_rules.specs.State.{State, contents_of, tree_of}
use Rattle.pt_plain.specs.Run.{EndsAs, PlainJob, plain_start, turns_from}
use Rattle.pt_plain.specs.Serves.{ServesAsked}
use Rattle.pt_filled.specs.Accesses.{AccessesStay}
use Rattle.pt_filled.specs.Contents.{FilledTree}
use Rattle.pt_filled.specs.Fills.{FillsAsked}

-- each job whole from its own seat, the next from where it led
abbrev pub RunsWhole : List PlainJob → State → Tables → State → Tables → Type 0
RunsWhole [] host tables host' tables' = (host' ≡ host) × (tables' ≡ tables)
RunsWhole (job ∷ jobs) host tables host' tables' =
    (mid : State) × (left : HostSeat) × (tables1 : Tables)
    × RunsAlone Does job.steps host job.seat tables mid left tables1 × RunsWhole jobs mid tables1 host' tables'

-- a new session on this host
abbrev pub start_world : List ℕ → State → World
start_world limits host =
    record { tree = tree_of host; tables = empty_tables limits; past = no_past; story = no_story }

-- what there is before the first request
abbrev pub filled_start : State → FilledTree
filled_start host = record {
  plain = plain_start (tree_of host);
  contents = (contents_of host).objects;
  accesses = λ handle. 0;
}

-- what is asked of a job, and the seat with which it begins
pub record SeatedAsked : Type 0 where
  pub seat : HostSeat
  pub asked : Asked

abbrev pub seated_of : PlainJob → SeatedAsked
seated_of job = record { seat = job.seat; asked = job.asked }

-- it serves what is asked, one after another, and answers so: names, numbers and handles, contents, and what handles may
-- be used for
abbrev pub ServesFilled : Plan → List SeatedAsked → List Answer → FilledTree → FilledTree → Type 0
ServesFilled plan [] [] state after = after ≡ state
ServesFilled plan (it ∷ more) (told ∷ answers) state after =
    (mid : FilledTree) × ServesAsked plan it.asked state.plain told mid.plain
    × FillsAsked plan it.seat it.asked state told mid × AccessesStay state mid × ServesFilled plan more answers mid after
ServesFilled plan asked answers state after = ⊥

-- at the end it is what host and tables are
pub record EndsFilled (limits : List ℕ) (jobs : List PlainJob) (start end : State) (tables : Tables)
    (after : FilledTree)
    : Type 0 where
  pub world : World
  pub runs : Runs (start_world limits start) (turns_from 0 jobs) world
  pub same_tree : world.tree ≡ tree_of end
  pub same_tables : world.tables ≡ tables
  pub plain : EndsAs world after.plain
  pub contents : after.contents ≡ (contents_of end).objects
  pub accesses : (row : HandleRow) → IsHandleRow tables row → row.live ≡ true →
      after.accesses row.handle ≡ ((contents_of end).descriptions row.fd.0).access
