-- Believed. Jobs that ran whole, one after another, and the plain file system that they are.
use Rattle.std.specs.Prelude.{◌≡◌, ℕ, suc, List, [], ◌∷◌, ◌++◌, map, Option, Some, None}
use Rattle.pt_host.specs.Tree.{Tree}
use Rattle.pt_host.specs.declared.seat.HostSeat.{HostSeat}
use Rattle.pt_tables.specs.Tables.{HasNumber, HasHandle, empty_tables, nothing_agreed}
use Rattle.pt_tables.specs.Rows.{IsRow, NoRow, IsHandleRow, NoHandle}
use Rattle.pt_tables.specs.declared.row.Row.{Row}
use Rattle.pt_tables.specs.declared.row.HandleRow.{HandleRow}
use Rattle.pt_iface.specs.declared.answer.Answer.{Answer}
use Rattle.pt_frame.specs.Deed.{Step}
use Rattle.pt_req.specs.declared.plan.Plan.{Plan}
use Rattle.pt_job.specs.Pattern.{Asked}
use Rattle.pt_law.specs.Laws.{ObjectOf}
use Rattle.pt_law.specs.Story.{no_story}
use Rattle.pt_law.specs.World.{World, Turn, no_past, turn_by}
use Rattle.pt_plain.specs.Plain.{PlainTree, Numbered, Handled}
use Rattle.pt_plain.specs.Serves.{ServesAsked}

-- a job: what is asked of it, the seat with which it begins, its steps, and how it is answered
pub record PlainJob : Type 0 where
  pub seat : HostSeat
  pub asked : Asked
  pub steps : List Step
  pub last : Answer

-- the jobs' steps, each job's whole, in job order
abbrev pub turns_from : ℕ → List PlainJob → List Turn
turns_from j [] = []
turns_from j (job ∷ jobs) = map (turn_by j) job.steps ++ turns_from (suc j) jobs

-- the plain file system before the first request: what the host has, and nothing given
abbrev pub plain_start : Tree → PlainTree
plain_start tree = record {
  tree = record tree { opened = λ fd. None };
  numbers = λ number. None;
  handles = λ handle. None;
  numbers_below = 2;
  handles_below = 0;
  agreed = nothing_agreed;
}

-- it serves what is asked, one after another, and answers so
abbrev pub ServesAll : Plan → List Asked → List Answer → PlainTree → PlainTree → Type 0
ServesAll plan [] [] state after = after ≡ state
ServesAll plan (asked ∷ more) (told ∷ answers) state after =
    (mid : PlainTree) × ServesAsked plan asked state told mid × ServesAll plan more answers mid after
ServesAll plan asked answers state after = ⊥

-- a new session, whatever the host's tree is
pub record IsNew (limits : List ℕ) (world : World) : Type 0 where
  pub tables : world.tables ≡ empty_tables limits
  pub past : world.past ≡ no_past
  pub story : world.story ≡ no_story

-- a number of the tables is that of the plain file system, and likewise a handle
abbrev pub IsNumber : World → ℕ → Option Numbered → Type 0
IsNumber w number None = NoRow w.tables (HasNumber number)
IsNumber w number (Some it) =
    ((row : Row) × IsRow w.tables row × HasNumber number row × (row.count ≡ it.count)) × ObjectOf w number it.object

abbrev pub IsHandled : World → ℕ → Option Handled → Type 0
IsHandled w handle None = NoHandle w.tables (HasHandle handle)
IsHandled w handle (Some it) =
    (row : HandleRow) × IsHandleRow w.tables row × HasHandle handle row × (row.number ≡ it.number)
    × (w.past.objects row.serial ≡ Some it.object)

pub record EndsAs (w : World) (state : PlainTree) : Type 0 where
  pub tree : state.tree ≡ record w.tree { opened = λ fd. None }
  pub numbers : (number : ℕ) → IsNumber w number (state.numbers number)
  pub handles : (handle : ℕ) → IsHandled w handle (state.handles handle)
  pub agreed : state.agreed ≡ w.tables.negotiated
