-- Places, and the parts in which they are kept.
use Rattle.std.proofs.Common.{◌≡◌, ◌<◌, ◌∙◌, ℕ, zero, suc, List, [], ◌∷◌, Option, Some, None, refl, ap, sym, length}
use Rattle.std.proofs.Common.{inl, inr, subst, get_or, map, replicate, slice_get, slice_set, arith}
use Rattle.std.proofs.lemmas.Bool.{cases_eq}
use Rattle.std.proofs.lemmas.List.{length-set}
use Rattle.std.proofs.lemmas.Option.{same_Some, slice_get_read}
use Rattle.pt_host.specs.declared.ids.Errno.{Errno}
use Rattle.pt_host.specs.declared.seat.HostSeat.{HostSeat}
use Rattle.pt_iface.specs.declared.answer.Answer.{Answer}
use Rattle.pt_iface.specs.declared.answer.Answer.TheVariants.{Cut}
use Rattle.pt_frame.specs.declared.finish.Finish.{Finish}
use Rattle.pt_frame.specs.declared.finish.Finish.TheVariants as finish
use Rattle.pt_fs.specs.Each.{answer_of}
use Rattle.pt_fs.specs.Placed.{JobPlace, Placed, Waits, Goes, Ended, AllEnded, CutWhereLost, InParts}
use Rattle.pt_fs.specs.Placed.{answer_at, last_of, lost_in, place_of, placed_in, places_in, stage_of}
use Rattle.pt_fs.specs.declared.job.Job.{Job}
use Rattle.pt_fs.specs.declared.machine.Over.{Over}
use Rattle.pt_fs.specs.declared.places.Stage.{Stage}
use Rattle.pt_fs.specs.declared.places.Stage.TheVariants as stage
use Rattle.pt_fs.proofs.Lists.{get-set_same, get-set_other, got, set-same}

-- all parts of one place are put
set_all : (jobs : List Job) (stages : List Stage) (answers : List Answer) (j : ℕ) (job : Job) (at : Stage)
    (told : Answer) → places_in (slice_set jobs j job) (slice_set stages j at) (slice_set answers j told)
    ≡ slice_set (places_in jobs stages answers) j (place_of job at told)
set_all [] stages answers j job at told = refl
set_all (a ∷ jobs) [] answers zero job at told = refl
set_all (a ∷ jobs) [] answers (suc j) job at told = refl
set_all (a ∷ jobs) (b ∷ stages) [] zero job at told = refl
set_all (a ∷ jobs) (b ∷ stages) [] (suc j) job at told = refl
set_all (a ∷ jobs) (b ∷ stages) (c ∷ answers) zero job at told = refl
set_all (a ∷ jobs) (b ∷ stages) (c ∷ answers) (suc j) job at told =
    ap (λ (l : List JobPlace). place_of a b c ∷ l) (set_all jobs stages answers j job at told)

-- a place has all its parts
get_all : (jobs : List Job) (stages : List Stage) (answers : List Answer) (j : ℕ) (job : Job) (at : Stage)
    (told : Answer) → slice_get jobs j ≡ Some job → slice_get stages j ≡ Some at → slice_get answers j ≡ Some told →
    slice_get (places_in jobs stages answers) j ≡ Some (place_of job at told)
get_all [] stages answers j job at told one two three = absurd (cc)
get_all (a ∷ jobs) [] answers j job at told one two three = absurd (cc)
get_all (a ∷ jobs) (b ∷ stages) [] j job at told one two three = absurd (cc)
get_all (a ∷ jobs) (b ∷ stages) (c ∷ answers) zero job at told one two three =
    rw (same_Some a job one, same_Some b at two, same_Some c told three) refl
get_all (a ∷ jobs) (b ∷ stages) (c ∷ answers) (suc j) job at told one two three =
    get_all jobs stages answers j job at told one two three

length_all : (jobs : List Job) (stages : List Stage) (answers : List Answer) → length stages ≡ length jobs →
    length answers ≡ length jobs → length (places_in jobs stages answers) ≡ length jobs
length_all [] stages answers one two = refl
length_all (a ∷ jobs) [] answers one two = absurd (omega (arith, one))
length_all (a ∷ jobs) (b ∷ stages) [] one two = absurd (omega (arith, two))
length_all (a ∷ jobs) (b ∷ stages) (c ∷ answers) one two =
    ap suc (length_all jobs stages answers (omega (arith, one)) (omega (arith, two)))

-- jobs that have made no step
pub all_wait : (jobs : List Job) →
    places_in jobs (replicate (length jobs) stage.Waits) (replicate (length jobs) Cut) ≡ map Waits jobs
all_wait [] = refl
all_wait (job ∷ jobs) = ap (λ (l : List JobPlace). Waits job ∷ l) (all_wait jobs)

pub none_lost : (answers : List Answer) (count : ℕ) → CutWhereLost (replicate count stage.Waits) answers
none_lost answers count j errno lost at = absurd (no count j at)
  where
    no : (count j : ℕ) → slice_get (replicate count stage.Waits) j ≡ Some (stage.Ended (Some errno) lost) → ⊥
    no zero j at = cc
    no (suc count) zero at = cc
    no (suc count) (suc j) at = no count j at

-- how far a job is
stage_as : (job : Job) (at : Stage) (told : Answer) (it : JobPlace) → place_of job at told ≡ it → at ≡ stage_of it
stage_as job at told it is = same job at told ∙ ap stage_of is
  where
    last : (lost : Option Errno) (told : Answer) → lost ≡ lost_in (last_of lost told)
    last None told = refl
    last (Some errno) told = refl

    same : (job : Job) (at : Stage) (told : Answer) → at ≡ stage_of (place_of job at told)
    same job stage.Waits told = refl
    same job (stage.Goes index) told = refl
    same job (stage.Ended by lost) told = ap (λ (l : Option Errno). stage.Ended l lost) (last by told)

-- and what it asks, where it waits
waited : (job : Job) (at : Stage) (told : Answer) (asked : Job) → place_of job at told ≡ Waits asked → job ≡ asked
waited job stage.Waits told asked is = cc
waited job (stage.Goes index) told asked is = absurd (cc)
waited job (stage.Ended by lost) told asked is = absurd (cc)

-- A job that has ended.

over_kept : (job : Job) (over : Over) →
    place_of job (stage.Ended (lost_in over.last) over.lost) (answer_of over.last) ≡ Ended over
over_kept job over =
    ap (λ (last : Finish). Ended (record { last = last; lost = over.lost })) (last_kept over.last)
  where
    last_kept : (last : Finish) → last_of (lost_in last) (answer_of last) ≡ last
    last_kept (finish.Answer told) = refl
    last_kept (finish.Lost errno) = refl

cut_gone : (stages : List Stage) (answers : List Answer) (j index : ℕ) (was : Stage) →
    slice_get stages j ≡ Some was → CutWhereLost stages answers →
    CutWhereLost (slice_set stages j (stage.Goes index)) answers
cut_gone stages answers j index was there cut k errno lost at = elim (cases_eq k j) [
  | inl same ↦
      let no : Some (stage.Goes index) ≡ Some (stage.Ended (Some errno) lost) =
      sym (get-set_same stages j was (stage.Goes index) there)
      ∙ ap (slice_get (slice_set stages j (stage.Goes index))) (sym same) ∙ at in
      absurd (cc)
  | inr other ↦ cut k errno lost (sym (get-set_other stages j k (stage.Goes index) other) ∙ at)
]

cut_ended : (stages : List Stage) (answers : List Answer) (j : ℕ) (was : Stage) (told : Answer) (last : Finish)
    (lost : Option Errno) → slice_get stages j ≡ Some was → slice_get answers j ≡ Some told →
    CutWhereLost stages answers →
    CutWhereLost (slice_set stages j (stage.Ended (lost_in last) lost)) (slice_set answers j (answer_of last))
cut_ended stages answers j was told last lost there told_there cut k errno l at = elim (cases_eq k j) [
  | inl same ↦
      let is : stage.Ended (lost_in last) lost ≡ stage.Ended (Some errno) l =
      same_Some (stage.Ended (lost_in last) lost) (stage.Ended (Some errno) l)
      (sym (get-set_same stages j was (stage.Ended (lost_in last) lost) there)
      ∙ ap (slice_get (slice_set stages j (stage.Ended (lost_in last) lost))) (sym same) ∙ at) in
      ap (slice_get (slice_set answers j (answer_of last))) same
      ∙ get-set_same answers j told (answer_of last) told_there
      ∙ ap (λ (a : Answer). Some a) (cut_as last is)
  | inr other ↦ get-set_other answers j k (answer_of last) other
      ∙ cut k errno l (sym (get-set_other stages j k (stage.Ended (lost_in last) lost) other) ∙ at)
]
  where
    cut_as : (last : Finish) → stage.Ended (lost_in last) lost ≡ stage.Ended (Some errno) l → answer_of last ≡ Cut
    cut_as (finish.Answer told) is = absurd (cc)
    cut_as (finish.Lost by) is = refl

-- Where all have ended.

answers_all : (jobs : List Job) (stages : List Stage) (answers : List Answer) → length stages ≡ length jobs →
    length answers ≡ length jobs → AllEnded (places_in jobs stages answers) → CutWhereLost stages answers →
    answers ≡ map answer_at (places_in jobs stages answers)
answers_all [] [] [] one two ended cut = refl
answers_all [] (b ∷ stages) answers one two ended cut = absurd (omega (arith, one))
answers_all [] [] (c ∷ answers) one two ended cut = absurd (omega (arith, two))
answers_all (a ∷ jobs) [] answers one two ended cut = absurd (omega (arith, one))
answers_all (a ∷ jobs) (b ∷ stages) [] one two ended cut = absurd (omega (arith, two))
answers_all (a ∷ jobs) (b ∷ stages) (c ∷ answers) one two ended cut =
    ap (λ (t : Answer). t ∷ answers) (told b (ended 0 (place_of a b c) refl) (λ errno lost is.
    same_Some c Cut (cut 0 errno lost (ap (λ (x : Stage). Some x) is))))
    ∙ ap (λ (l : List Answer). answer_at (place_of a b c) ∷ l)
    (answers_all jobs stages answers (omega (arith, one)) (omega (arith, two))
    (λ j it at. ended (suc j) it at) (λ j errno lost at. cut (suc j) errno lost at))
  where
    told : (b : Stage) → (over : Over) × (place_of a b c ≡ Ended over) →
        ((errno : Errno) (lost : Option Errno) → b ≡ stage.Ended (Some errno) lost → c ≡ Cut) →
        c ≡ answer_at (place_of a b c)
    told stage.Waits is cut = let no = is.1 in absurd (cc)
    told (stage.Goes index) is cut = let no = is.1 in absurd (cc)
    told (stage.Ended None lost) is cut = refl
    told (stage.Ended (Some errno) lost) is cut = cut errno lost refl

-- What is so of places of which each part lies among its like.
module _ {starts : List HostSeat} {jobs : List Job} {stages : List Stage} {answers : List Answer}
    (parts : InParts starts jobs stages answers) {placed : Placed}
    (view : placed_in starts jobs stages answers ≡ placed) where
  at_view : places_in jobs stages answers ≡ placed.at
  at_view = ap (λ (p : Placed). p.at) view

  pub as_many : length placed.at ≡ length stages
  as_many = ap length (sym at_view)
      ∙ length_all jobs stages answers parts.each_stage parts.each_answer ∙ sym parts.each_stage

  pub answers_in : AllEnded placed.at → answers ≡ map answer_at placed.at
  answers_in ended = answers_all jobs stages answers parts.each_stage parts.each_answer
      (subst AllEnded (sym at_view) ended) parts.cut
      ∙ ap (λ (l : List JobPlace). map answer_at l) at_view

  -- the place of this number
  module _ (j : ℕ) (inside : j < length placed.at) where
    pub in_stages : j < length stages
    in_stages = let long = as_many in omega (arith, long, inside)

    pub in_jobs : j < length jobs
    in_jobs = let low = in_stages in let each = parts.each_stage in omega (arith, low, each)

    pub in_starts : j < length starts
    in_starts = let low = in_jobs in let each = parts.each_start in omega (arith, low, each)

    pub in_answers : j < length answers
    in_answers = let low = in_jobs in let each = parts.each_answer in omega (arith, low, each)

    answer_there : (told : Answer) × (slice_get answers j ≡ Some told)
    answer_there = got answers j in_answers

    -- it is what its parts say
    parts_there : (job : Job) (at : Stage) → slice_get jobs j ≡ Some job → slice_get stages j ≡ Some at →
        (it : JobPlace) → slice_get placed.at j ≡ Some it → place_of job at answer_there.0 ≡ it
    parts_there job at job_at stage_at it there = same_Some (place_of job at answer_there.0) it
        (sym (get_all jobs stages answers j job at answer_there.0 job_at stage_at answer_there.1)
        ∙ ap (λ (l : List JobPlace). slice_get l j) at_view ∙ there)

    pub stage_is : (seen : Stage) → seen ≡ get_or stages j seen → (it : JobPlace) → slice_get placed.at j ≡ Some it →
        seen ≡ stage_of it
    stage_is seen read it there =
        let job = got jobs j in_jobs in
        stage_as job.0 seen answer_there.0 it
        (parts_there job.0 seen job.1 (slice_get_read stages _ j seen refl in_stages read) it there)

    pub asked_is : (seen : Job) → seen ≡ get_or jobs j seen → (asked : Job) →
        slice_get placed.at j ≡ Some (Waits asked) → seen ≡ asked
    asked_is seen read asked there =
        let at = got stages j in_stages in
        waited seen at.0 answer_there.0 asked
        (parts_there seen at.0 (slice_get_read jobs _ j seen refl in_jobs read) at.1 (Waits asked) there)

    pub start_there : (seen : HostSeat) → seen ≡ get_or starts j seen → slice_get placed.starts j ≡ Some seen
    start_there seen read =
        ap (λ (p : Placed). slice_get p.starts j) (sym view)
        ∙ slice_get_read starts _ j seen refl in_starts read

    -- its job goes on with this machine
    pub begun : (job : Job) (index : ℕ) →
        places_in (slice_set jobs j job) (slice_set stages j (stage.Goes index)) answers
        ≡ slice_set placed.at j (Goes index)
    begun job index =
        ap (λ (l : List Answer). places_in (slice_set jobs j job) (slice_set stages j (stage.Goes index)) l)
        (set-same answers j answer_there.0 answer_there.1)
        ∙ set_all jobs stages answers j job (stage.Goes index) answer_there.0
        ∙ ap (λ (l : List JobPlace). slice_set l j (Goes index)) at_view

    pub begun_parts : (job : Job) (index : ℕ) →
        InParts starts (slice_set jobs j job) (slice_set stages j (stage.Goes index)) answers
    begun_parts job index =
        let at = got stages j in_stages in
        let same = sym (length-set jobs j job) in
        record {
          each_start = parts.each_start ∙ same;
          each_stage = length-set stages j (stage.Goes index) ∙ parts.each_stage ∙ same;
          each_answer = parts.each_answer ∙ same;
          cut = cut_gone stages answers j index at.0 at.1 parts.cut;
        }

    -- its job goes on with this machine
    pub gone : (index : ℕ) →
        places_in jobs (slice_set stages j (stage.Goes index)) answers ≡ slice_set placed.at j (Goes index)
    gone index =
        let job = got jobs j in_jobs in
        ap (λ (l : List Job). places_in l (slice_set stages j (stage.Goes index)) answers)
        (set-same jobs j job.0 job.1)
        ∙ begun job.0 index

    pub gone_parts : (index : ℕ) → InParts starts jobs (slice_set stages j (stage.Goes index)) answers
    gone_parts index =
        let at = got stages j in_stages in
        record {
          each_start = parts.each_start;
          each_stage = length-set stages j (stage.Goes index) ∙ parts.each_stage;
          each_answer = parts.each_answer;
          cut = cut_gone stages answers j index at.0 at.1 parts.cut;
        }

    -- its job has ended
    pub over_there : (over : Over) →
        places_in jobs (slice_set stages j (stage.Ended (lost_in over.last) over.lost))
        (slice_set answers j (answer_of over.last))
        ≡ slice_set placed.at j (Ended over)
    over_there over =
        let job = got jobs j in_jobs in
        ap (λ (l : List Job). places_in l (slice_set stages j (stage.Ended (lost_in over.last) over.lost))
        (slice_set answers j (answer_of over.last))) (set-same jobs j job.0 job.1)
        ∙ set_all jobs stages answers j job.0 (stage.Ended (lost_in over.last) over.lost) (answer_of over.last)
        ∙ ap (λ (p : JobPlace). slice_set (places_in jobs stages answers) j p) (over_kept job.0 over)
        ∙ ap (λ (l : List JobPlace). slice_set l j (Ended over)) at_view

    pub over_parts : (over : Over) →
        InParts starts jobs (slice_set stages j (stage.Ended (lost_in over.last) over.lost))
        (slice_set answers j (answer_of over.last))
    over_parts over =
        let at = got stages j in_stages in
        record {
          each_start = parts.each_start;
          each_stage = length-set stages j (stage.Ended (lost_in over.last) over.lost) ∙ parts.each_stage;
          each_answer = length-set answers j (answer_of over.last) ∙ parts.each_answer;
          cut = cut_ended stages answers j at.0 answer_there.0 over.last over.lost at.1 answer_there.1 parts.cut;
        }
