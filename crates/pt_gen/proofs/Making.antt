-- Proof. Lists that are made one item after another.
use Rattle.std.proofs.Common.{◌≡◌, ◌≤◌, ◌<◌, ◌+◌, ◌-◌, ℕ, zero, suc, List, [], ◌∷◌, ◌++◌, ◌∙◌, length, map, refl, ap}
use Rattle.std.proofs.Common.{sym, arith, append_assoc, append-nil}
use Rattle.pt_iface.specs.declared.request.Request.TheVariants as request
use Rattle.pt_fs.specs.Jobs.{StartAll}
use Rattle.pt_fs.specs.declared.job.Job.{Job}
use Rattle.pt_gen.specs.Draws.{drawn, draws_from, state_behind, stepped}
use Rattle.pt_gen.specs.Generated.{file_line, file_lines, generated_job, generated_jobs, request_drawn}

-- one item more stands there, and one less is left
pub put : {A : Type 0} (old new rest rest' all : List A) (item given : A) → new ≡ old ++ given ∷ [] → given ≡ item →
    rest ≡ item ∷ rest' → old ++ rest ≡ all → new ++ rest' ≡ all
put old new rest rest' all item given is same step was =
    ap (λ l. l ++ rest') is
    ∙ append_assoc old (given ∷ []) rest'
    ∙ ap (λ x. old ++ x ∷ rest') same
    ∙ ap (λ l. old ++ l) (sym step)
    ∙ was

one_less : (n k : ℕ) → k < n → n - k ≡ suc (n - (k + 1))
one_less n k less = omega (arith, less)

pub next_file : (n k : ℕ) → k < n → file_lines (n - k) k ≡ file_line k ∷ file_lines (n - (k + 1)) (k + 1)
next_file n k less = ap (λ (m : ℕ). file_lines m k) (one_less n k less)

pub next_drawn : {A : Type 0} (f : ℕ → A) (n k before after : ℕ) → k < n → after ≡ stepped before →
    map f (draws_from (n - k) before) ≡ f (drawn after) ∷ map f (draws_from (n - (k + 1)) after)
next_drawn f n k before after less is =
    ap (λ (m : ℕ). map f (draws_from m before)) (one_less n k less)
    ∙ ap (λ (s : ℕ). f (drawn s) ∷ map f (draws_from (n - (k + 1)) s)) (sym is)

pub next_behind : (n k before after : ℕ) → k < n → after ≡ stepped before →
    state_behind (n - (k + 1)) after ≡ state_behind (n - k) before
next_behind n k before after less is =
    ap (state_behind (n - (k + 1))) is ∙ sym (ap (λ (m : ℕ). state_behind m before) (one_less n k less))

-- none is left
pub all_drawn : {A : Type 0} (f : ℕ → A) (n k state : ℕ) (made all : List A) → n ≤ k →
    made ++ map f (draws_from (n - k) state) ≡ all → made ≡ all
all_drawn f n k state made all past was =
    let none : 0 ≡ n - k = omega (arith, past) in
    sym (append-nil made) ∙ ap (λ (m : ℕ). made ++ map f (draws_from m state)) none ∙ was

pub all_behind : (n k state end : ℕ) → n ≤ k → state_behind (n - k) state ≡ end → state ≡ end
all_behind n k state end past was =
    let none : 0 ≡ n - k = omega (arith, past) in
    ap (λ (m : ℕ). state_behind m state) none ∙ was

-- The jobs.

abbrev pub job_drawn : ℕ → Job
job_drawn draw = generated_job (request_drawn draw)

pub jobs_made : (count seed state : ℕ) (first : Job) (begun jobs : List Job) → 0 < count → state ≡ seed →
    first ≡ generated_job (request.Init (record { 0 = 0 })) → begun ≡ first ∷ [] →
    jobs ≡ begun ++ map job_drawn (draws_from (count - 1) state) → jobs ≡ generated_jobs count seed
jobs_made zero seed state first begun jobs some starts is one then = absurd (omega (arith, some))
jobs_made (suc more) seed state first begun jobs some starts is one then =
    let fewer : suc more - 1 ≡ more = omega arith in
    then
    ∙ ap (λ (m : ℕ). begun ++ map job_drawn (draws_from m state)) fewer
    ∙ ap (λ (s : ℕ). begun ++ map job_drawn (draws_from more s)) starts
    ∙ ap (λ (l : List Job). l ++ map job_drawn (draws_from more seed)) (one ∙ ap (λ (x : Job). x ∷ []) is)

drawn_many : {A : Type 0} (f : ℕ → A) (n state : ℕ) → length (map f (draws_from n state)) ≡ n
drawn_many f zero state = refl
drawn_many f (suc n) state = ap suc (drawn_many f n (stepped state))

pub so_many : (count seed : ℕ) → length (generated_jobs count seed) ≡ count
so_many zero seed = refl
so_many (suc more) seed = ap suc (drawn_many job_drawn more seed)

drawn_start : (n state : ℕ) → StartAll (map job_drawn (draws_from n state))
drawn_start zero state = tt
drawn_start (suc n) state = (
  record {
    eff_uid = refl;
    saved_uid = refl;
    eff_gid = refl;
    saved_gid = refl;
    caps = refl;
    groups = refl;
    umask = refl;
  },
  drawn_start n (stepped state),
)

pub all_start : (count seed : ℕ) → StartAll (generated_jobs count seed)
all_start zero seed = tt
all_start (suc more) seed = (
  record {
    eff_uid = refl;
    saved_uid = refl;
    eff_gid = refl;
    saved_gid = refl;
    caps = refl;
    groups = refl;
    umask = refl;
  },
  drawn_start more seed,
)
