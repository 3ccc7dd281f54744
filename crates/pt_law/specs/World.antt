-- Believed. Runs: the steps of all jobs in the order in which they were made, and where they lead.
use Rattle.std.specs.Prelude.{◌≡◌, ℕ, ◌==◌, if◌then◌else◌, List, [], ◌∷◌, length, Option, None, Some}
use Rattle.pt_host.specs.Flags.{includes, o_creat}
use Rattle.pt_host.specs.Words.{set_at}
use Rattle.pt_host.specs.Tree.{Tree, Opened}
use Rattle.pt_host.specs.LawfulStep.{LawfulStep}
use Rattle.pt_host.specs.Promises.{IsPromised}
use Rattle.pt_host.specs.declared.flags.OpenFlags.{OpenFlags}
use Rattle.pt_host.specs.declared.ids.Fd.{Fd}
use Rattle.pt_host.specs.declared.ids.ObjIds.{ObjIds}
use Rattle.pt_host.specs.declared.stat.Stat.{Stat}
use Rattle.pt_host.specs.declared.seat.HostSeat.{HostSeat}
use Rattle.pt_host.specs.declared.op.KeptHostOp.TheVariants as call
use Rattle.pt_host.specs.declared.reply.HostReply.TheVariants as host
use Rattle.pt_host.specs.declared.reply.HostValue.TheVariants as value
use Rattle.pt_tables.specs.Tables.{Tables}
use Rattle.pt_tables.specs.Happens.{Happens}
use Rattle.pt_tables.specs.declared.form.RowForm.{RowForm}
use Rattle.pt_tables.specs.declared.form.RowForm.TheVariants.{File}
use Rattle.pt_tables.specs.declared.event.KeptEvent.TheVariants as change
use Rattle.pt_tables.specs.declared.reply.EventReply.TheVariants as event
use Rattle.pt_frame.specs.Deed.{Deed, Calls, Changes, Step}
use Rattle.pt_host.specs.Relation.{HostRelation}
use Rattle.pt_frame.specs.Made.{Made}
use Rattle.pt_frame.specs.declared.act.ActReply.{ActReply}
use Rattle.pt_frame.specs.declared.act.ActReply.TheVariants.{Event, Host, NoCopy}
use Rattle.pt_law.specs.Story.{Findings, Opening, Sought, Story}

-- a step that was made
abbrev pub made : Deed → ActReply → Step
made deed told = record { deed = Some deed; reply = told }

-- a step of a run, and the job that made it
pub record Turn : Type 0 where
  pub job : ℕ
  pub step : Step

abbrev pub turn_by : ℕ → Step → Turn
turn_by job step = record { job = job; step = step }

-- what one job did
abbrev pub steps_of : ℕ → List Turn → List Step
steps_of job [] = []
steps_of job (turn ∷ turns) = if turn.job == job then turn.step ∷ steps_of job turns else steps_of job turns

-- the descriptor by which a row's object is kept
abbrev pub fd_of : RowForm → Fd
fd_of (File fd) = fd

-- What the steps so far have settled, judged by the tree and not by ids. A row is known by its serial, which never
-- comes back.
pub record Past : Type 0 where
  -- the object of each number
  pub numbers : ℕ → Option ℕ
  -- the object and the descriptor of each row, of a number or a handle; a handle's is the object that its number had
  -- when its job resolved it last, or was given it
  pub objects : ℕ → Option ℕ
  pub fds : ℕ → Option Fd
  -- the object that each job's latest `OpenAt` answered, and the one that its first `OpenRoot` answered
  pub latest : ℕ → Option ℕ
  pub roots : ℕ → Option ℕ
  -- the object that a number had at each job's latest `Resolve` of it, or as it was given to the job, whichever came
  -- last
  pub resolved : ℕ → ℕ → Option ℕ

-- before the first step
abbrev pub no_past : Past
no_past = record {
  numbers = λ number. None;
  objects = λ row. None;
  fds = λ row. None;
  latest = λ job. None;
  roots = λ job. None;
  resolved = λ job number. None;
}

abbrev pub object_of : Option Opened → Option ℕ
object_of None = None
object_of (Some opened) = Some opened.object

-- the first, where there is one
abbrev pub first_of : {A : Type 0} → Option A → Option A → Option A
first_of None later = later
first_of (Some one) later = Some one

-- The number is inserted for this object, with this descriptor.
abbrev pub settled : Past → ℕ → ℕ → Fd → Option ℕ → Past
settled past number row fd object =
    record past {
      numbers = set_at number object past.numbers;
      objects = set_at row object past.objects;
      fds = set_at row (Some fd) past.fds;
    }

-- The job has come to this number, which stands for this object then.
abbrev pub come_to : Past → ℕ → ℕ → Option ℕ → Past
come_to past job number object =
    record past { resolved = set_at job (set_at number object (past.resolved job)) past.resolved }

-- `Insert` sets its number's object to what the job's latest `OpenAt` answered, `InsertRoot` to what its first
-- `OpenRoot` answered.
abbrev pub settled_by : Past → ℕ → Deed → ActReply → ℕ → Tree → Past
settled_by past job (Changes (change.Insert new)) (Event (event.Inserted given)) row tree =
    come_to (settled past given row (fd_of new.form) (past.latest job)) job given (past.latest job)
settled_by past job (Changes (change.Insert new)) (Event (event.Found given)) row tree =
    come_to past job given.number (past.numbers given.number)
settled_by past job (Changes (change.Claim claim)) (Event (event.Claimed given)) row tree =
    come_to past job given.number (past.numbers given.number)
settled_by past job (Changes (change.InsertRoot new)) (Event (event.Inserted given)) row tree =
    settled past given row (fd_of new.form) (past.roots job)
settled_by past job (Changes (change.InsertHandle new)) (Event (event.Inserted given)) row tree =
    record past {
      objects = set_at row (past.resolved job new.number) past.objects;
      fds = set_at row (Some new.fd) past.fds;
    }
settled_by past job (Changes (change.Resolve number)) (Event (event.Resolved resolved)) row tree =
    come_to past job number (past.numbers number)
settled_by past job (Calls (call.OpenAt dir name flags mode)) (Host (host.Ok (value.Fd fd))) row tree =
    record past { latest = set_at job (object_of (tree.opened fd.0)) past.latest }
settled_by past job (Calls (call.OpenRoot path flags)) (Host (host.Ok (value.Fd fd))) row tree =
    record past { roots = set_at job (first_of (past.roots job) (object_of (tree.opened fd.0))) past.roots }
settled_by past job _ _ row tree = past

abbrev pub settled_if : Past → ℕ → Option Deed → ActReply → ℕ → Tree → Past
settled_if past job None told row tree = past
settled_if past job (Some deed) told row tree = settled_by past job deed told row tree

-- where a run has come to: the host's tree, the tables, what is settled, and what the jobs have found
pub record World : Type 0 where
  pub tree : Tree
  pub tables : Tables
  pub past : Past
  pub story : Story

-- the object that the descriptor is open on
abbrev pub open_at : Tree → Fd → Option ℕ
open_at tree fd = object_of (tree.opened fd.0)

-- what the name leads to in a directory
abbrev pub led_by : Tree → Option ℕ → List ℕ → Option ℕ
led_by tree None name = None
led_by tree (Some directory) name = tree.names directory name

-- the opening of a name, by the trees before and after
abbrev pub opening_by : Option Sought → Fd → List ℕ → Fd → Tree → Tree → Opening
opening_by sought dir name fd tree after = record {
  parent = sought;
  directory = open_at tree dir;
  name = name;
  led_to = led_by tree (open_at tree dir) name;
  objects = length tree.objects;
  object = open_at after fd;
  fd = fd;
  stat = None;
}

-- one that may make its object
abbrev pub making_by : OpenFlags → Opening → Option Opening → Option Opening
making_by flags opening making = if includes flags.0 o_creat then Some opening else making

-- this status is told of a descriptor
abbrev pub stated : Fd → Stat → Option Opening → Option Opening
stated fd stat None = None
stated fd stat (Some opening) =
    if opening.fd.0 == fd.0 then Some (record opening { stat = first_of opening.stat (Some stat) }) else Some opening

-- this number is given
abbrev pub given_in : Past → ℕ → ℕ → ObjIds → Findings → Findings
given_in past era number ids found = record found {
  given = Some (record {
    era = era;
    number = number;
    ids = ids;
    object = past.numbers number;
    opening = found.latest;
  });
}

-- what a job has found after a step of its own, which led from a world to this past and this tree
abbrev pub finds : World → Past → Tree → ℕ → Deed → ActReply → Findings → Findings
finds world past tree job (Changes (change.Resolve number)) (Event (event.Resolved resolved)) found =
    record found {
      sought = Some (record { number = number; ids = resolved.ids; object = past.numbers number });
    }
finds world past tree job (Calls (call.OpenAt dir name flags mode)) (Host (host.Ok (value.Fd fd))) found =
    record found {
      latest = Some (opening_by found.sought dir name fd world.tree tree);
      making = making_by flags (opening_by found.sought dir name fd world.tree tree) found.making;
    }
finds world past tree job (Calls (call.Stat fd)) (Host (host.Ok (value.Stat stat))) found =
    record found { latest = stated fd stat found.latest }
finds world past tree job (Changes (change.Claim claim)) (Event (event.Claimed given)) found =
    given_in past claim.era given.number claim.ids found
finds world past tree job (Changes (change.Insert new)) (Event (event.Found given)) found =
    given_in past new.era given.number new.ids found
finds world past tree job (Changes (change.Insert new)) (Event (event.Inserted given)) found =
    given_in past new.era given new.ids found
finds world past tree job (Changes (change.InsertHandle new)) (Event (event.Inserted given)) found =
    record found {
      handled = Some (record {
        handle = new.handle;
        number = new.number;
        row = world.tables.next_row;
        fd = new.fd;
        object = open_at world.tree new.fd;
        stood_for = world.past.resolved job new.number;
        giving = found.given;
      });
    }
finds world past tree job _ _ found = found

-- `Insert` notes how its object was found
abbrev pub origins_by : Story → ℕ → Deed → ActReply → ℕ → Option Opening
origins_by story job (Changes (change.Insert new)) (Event (event.Inserted given)) =
    set_at given (story.found job).latest story.origins
origins_by story job (Changes (change.InsertRoot new)) (Event (event.Inserted given)) =
    set_at given None story.origins
origins_by story job deed told = story.origins

abbrev pub story_by : World → Past → Tree → ℕ → Option Deed → ActReply → Story
story_by world past tree job None told = world.story
story_by world past tree job (Some deed) told = record {
  found = set_at job (finds world past tree job deed told (world.story.found job)) world.story.found;
  origins = origins_by world.story job deed told;
}

-- a host that is its tree: it does what is lawful, and what every host promises
abbrev pub IsLawful : HostRelation Tree
IsLawful tree seat asked told after seat' =
    LawfulStep tree seat asked told after seat' × (before : ℕ) × (later : ℕ)
    × IsPromised before seat asked told later seat'

-- the step leads from this world to that
pub record Goes (world : World) (turn : Turn) (after : World) : Type 0 where
  pub seat : HostSeat
  pub seat_after : HostSeat
  pub made : Made IsLawful turn.step.deed turn.step.reply world.tree seat world.tables after.tree
      seat_after after.tables
  pub past : after.past
      ≡ settled_if world.past turn.job turn.step.deed turn.step.reply world.tables.next_row after.tree
  pub story : after.story ≡ story_by world after.past after.tree turn.job turn.step.deed turn.step.reply

abbrev pub Runs : World → List Turn → World → Type 0
Runs world [] after = after ≡ world
Runs world (turn ∷ turns) after = (mid : World) × Goes world turn mid × Runs mid turns after

-- The steps lead from this host and these tables to those, by what the host does; the seats are whatever they are.
abbrev pub HostRuns :
    {H : Type 0} →
    (does : HostRelation H) →
    (turns : List Turn) →
    (host : H) →
    (tables : Tables) →
    (host' : H) →
    (tables' : Tables) →
    Type 0
HostRuns does [] host tables host' tables' = (host' ≡ host) × (tables' ≡ tables)
HostRuns {H} does (turn ∷ turns) host tables host' tables' =
    (host1 : H) × (tables1 : Tables) × (seat : HostSeat) × (seat1 : HostSeat)
    × Made does turn.step.deed turn.step.reply host seat tables host1 seat1 tables1
    × HostRuns does turns host1 tables1 host' tables'

-- What a step does to the tables, whatever host there is: an event happens, and nothing else changes them.
abbrev pub TablesGo : Tables → Option Deed → ActReply → Tables → Type 0
TablesGo tables (Some (Changes asked)) (Event told) after = Happens tables asked told after
TablesGo tables (Some (Calls asked)) (Host told) after = after ≡ tables
TablesGo tables (Some (Calls asked)) NoCopy after = after ≡ tables
TablesGo tables None NoCopy after = after ≡ tables
TablesGo tables deed told after = ⊥

abbrev pub TablesRun : Tables → List Turn → Tables → Type 0
TablesRun tables [] after = after ≡ tables
TablesRun tables (turn ∷ turns) after =
    (mid : Tables) × TablesGo tables turn.step.deed turn.step.reply mid × TablesRun mid turns after
