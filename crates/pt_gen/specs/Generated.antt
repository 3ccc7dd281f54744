-- Believed. The script that a seed gives: its tree, its jobs and its order.
use Rattle.std.specs.Prelude.{ℕ, zero, suc, ◌+◌, ◌-◌, ◌/◌, ◌%◌, true, false, List, [], ◌∷◌, ◌++◌, map, codes, decimal}
use Rattle.pt_iface.specs.declared.request.Context.{Context}
use Rattle.pt_iface.specs.declared.request.Request.{Request}
use Rattle.pt_iface.specs.declared.request.Request.TheVariants as request
use Rattle.pt_fs.specs.declared.job.Job.{Job}
use Rattle.pt_fs.specs.declared.job.Job.TheVariants as job
use Rattle.pt_tree.specs.declared.spec.TreeLine.{TreeLine}
use Rattle.pt_tree.specs.declared.spec.TreeLine.TheVariants as tree_line
use Rattle.pt_script.specs.Jobs.{start_seat}
use Rattle.pt_script.specs.Settings.{no_settings}
use Rattle.pt_gen.specs.Draws.{draws_from, state_behind}

-- The tree: sixteen files of one byte.

abbrev pub files : ℕ
files = 16

-- `f0`, `f1` and so on
abbrev pub file_name : ℕ → List ℕ
file_name k = codes "f" ++ decimal k

-- mode 0o644, owner 0 0, contents `x`
abbrev pub file_line : ℕ → TreeLine
file_line k = tree_line.File (codes "/" ++ file_name k) 420 0 0 (codes "x")

-- so many files from this one on
abbrev pub file_lines : ℕ → ℕ → List TreeLine
file_lines zero first = []
file_lines (suc count) first = file_line first ∷ file_lines count (first + 1)

-- `mount 1 1 / 1`, and the files
abbrev pub generated_tree : List TreeLine
generated_tree = tree_line.Mount 1 1 (codes "/") true ∷ file_lines files 0

-- The jobs: `init 0`, and one a draw.

-- what two bits of a draw ask, of the file that the next four bits name, or of the number that a guest may have for it:
-- the root's is 1
abbrev pub request_of : ℕ → ℕ → Request
request_of zero k = request.Lookup 1 (file_name k)
request_of (suc zero) k = request.Forget (k + 2) 1
request_of (suc (suc zero)) k = request.GetAttr (k + 2)
request_of other k = request.Open (k + 2) false 0

abbrev pub request_drawn : ℕ → Request
request_drawn draw = request_of (draw % 4) ((draw / 4) % files)

-- as the superuser asks it, from the seat with which each job begins
abbrev pub generated_job : Request → Job
generated_job asked = job.Request (record { uid = 0; gid = 0 }) (start_seat no_settings) asked

abbrev pub generated_jobs : ℕ → ℕ → List Job
generated_jobs zero seed = []
generated_jobs (suc more) seed =
    generated_job (request.Init (record { 0 = 0 }))
    ∷ map (λ draw. generated_job (request_drawn draw)) (draws_from more seed)

-- The order: a draw a job, behind those of the jobs.

abbrev pub generated_order : ℕ → ℕ → List ℕ
generated_order count seed = map (λ draw. draw % count) (draws_from count (state_behind (count - 1) seed))
