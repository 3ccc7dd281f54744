-- The size of each listing that a script asks for is one of 32 bits; and so it is of what a seed gives.
use Rattle.std.proofs.Common.{◌≡◌, ℕ, zero, suc, ◌+◌, ◌&&◌, Bool, true, false, cond, List, [], ◌∷◌, map, Option, Some}
use Rattle.std.proofs.Common.{None, Ok, Err, sym, subst}
use Rattle.std.specs.Prelude.{◌/◌, ◌%◌, option_map}
use Rattle.pt_host.specs.declared.seat.HostSeat.{HostSeat}
use Rattle.pt_rows.proofs.Lists.{each_append}
use Rattle.pt_rules.specs.State.{State}
use Rattle.pt_iface.specs.declared.request.Context.{Context}
use Rattle.pt_iface.specs.declared.request.Request.{Request}
use Rattle.pt_iface.specs.declared.request.Request.TheVariants.{Root}
use Rattle.pt_filled.specs.Filled.{IsFilled, IsFilledRequest}
use Rattle.pt_fs.specs.Jobs.{asked_of}
use Rattle.pt_fs.specs.declared.job.Job.{Job as RunJob}
use Rattle.pt_text.specs.Words.{lines_of, words_of}
use Rattle.pt_words.specs.Fields.{◌>>=◌, Field, small_in}
use Rattle.pt_words.specs.Request.{request_in}
use Rattle.pt_script.specs.Edit.{edit_in}
use Rattle.pt_script.specs.Jobs.{job_of, start_seat}
use Rattle.pt_script.specs.Line.{job_in, edit_job_in, line_in, line_of}
use Rattle.pt_script.specs.Parse.{IsScriptOf}
use Rattle.pt_script.specs.Script.{Begun, added, going_on, is_empty, keeps_tree, may_stand, nothing, script_from}
use Rattle.pt_script.specs.Script.{with_line, with_text}
use Rattle.pt_script.specs.declared.line.Line.{Line}
use Rattle.pt_script.specs.declared.line.Line.TheVariants.{Set, Tree, Fault, Job, Order, End}
use Rattle.pt_script.specs.declared.line.ScriptJob.{ScriptJob}
use Rattle.pt_script.specs.declared.line.ScriptJob.TheVariants as script_job
use Rattle.pt_script.specs.declared.settings.Settings.{Settings}
use Rattle.pt_gen.specs.Draws.{draws_from}
use Rattle.pt_gen.specs.Generated.{files, generated_job, generated_jobs, request_drawn, request_of}
use Rattle.pt_run.specs.Sized.{AreFilled}
use Rattle.pt_run.proofs.Sized.{IsRead, if_read, none_read, reads, request_sized, then_read}

-- by what was read before it
then_told : {A B : Type 0} {P : A → Type 0} {Q : B → Type 0} (o : Option A) (next : A → Option B) → IsRead P o →
    ((a : A) → P a → IsRead Q (next a)) → IsRead Q (o >>= next)
then_told None next told so = record { so = tt }
then_told (Some a) next told so = so a told.so

-- what is made of what was read
map_told : {A B : Type 0} {P : A → Type 0} {Q : B → Type 0} (f : A → B) (o : Option A) → IsRead P o →
    ((a : A) → P a → Q (f a)) → IsRead Q (option_map f o)
map_told f None told so = record { so = tt }
map_told f (Some a) told so = record { so = so a told.so }

map_read : {A B : Type 0} {P : B → Type 0} (f : A → B) (o : Option A) → ((a : A) → P (f a)) → IsRead P (option_map f o)
map_read f None so = record { so = tt }
map_read f (Some a) so = record { so = so a }

abbrev OfJob : ScriptJob → Type 0
OfJob (script_job.Request who asked) = IsFilledRequest asked
OfJob (script_job.Edit edit) = Unit {0}

abbrev OfLine : Line → Type 0
OfLine (Job line) = OfJob line
OfLine other = Unit {0}

abbrev asked_as : Context → List (List ℕ) → Option ScriptJob
asked_as who words = request_in words >>= (λ asked. Some (script_job.Request who asked))

asked_read : (who : Context) (words : List (List ℕ)) → IsRead OfJob (asked_as who words)
asked_read who words =
    then_told (request_in words) (λ (asked : Request). Some (script_job.Request who asked)) (request_sized words)
    (λ asked told. record { so = told })

job_read : (fields : List (List ℕ)) → IsRead OfJob (job_in fields)
job_read fields =
    then_read (small_in fields) (λ (uid : Field ℕ). small_in uid.rest >>= (λ (gid : Field ℕ).
    asked_as (record { uid = uid.value; gid = gid.value }) gid.rest)) (λ uid.
    then_read (small_in uid.rest) (λ (gid : Field ℕ).
    asked_as (record { uid = uid.value; gid = gid.value }) gid.rest) (λ gid.
    asked_read (record { uid = uid.value; gid = gid.value }) gid.rest))

job_line : (fields : List (List ℕ)) → IsRead OfLine (option_map Job (job_in fields))
job_line fields = map_told Job (job_in fields) (job_read fields) (λ line told. told)

edit_read : (fields : List (List ℕ)) → IsRead OfJob (edit_job_in fields)
edit_read fields = map_read script_job.Edit (edit_in fields) (λ edit. tt)

edit_line : (fields : List (List ℕ)) → IsRead OfLine (option_map Job (edit_job_in fields))
edit_line fields = map_told Job (edit_job_in fields) (edit_read fields) (λ line told. told)

line_read : (words : List (List ℕ)) → IsRead OfLine (line_in words)
line_read [] = none_read
line_read (word ∷ fields) = search (job_line, edit_line, map_read, reads) depth 20

job_filled : (seat : HostSeat) (line : ScriptJob) → OfJob line → IsFilled (asked_of (job_of seat line))
job_filled seat (script_job.Request who Root) told = tt
job_filled seat (script_job.Request who asked) told = told
job_filled seat (script_job.Edit edit) told = tt

abbrev HasFilled : Begun → Type 0
HasFilled begun = AreFilled begun.jobs

-- with one line more, too
added_filled : (begun : Begun) (line : Line) → OfLine line → HasFilled begun → HasFilled (added begun line)
added_filled begun (Job line) told filled =
    each_append (λ (job : RunJob). IsFilled (asked_of job)) begun.jobs
    (job_of (start_seat begun.settings) line ∷ []) filled
    (job_filled (start_seat begun.settings) line told, tt)
added_filled begun (Set setting) told filled = filled
added_filled begun (Tree line) told filled = filled
added_filled begun (Fault fault) told filled = filled
added_filled begun (Order places) told filled = filled
added_filled begun End told filled = filled

text_filled : (begun : Begun) (text : List ℕ) → HasFilled begun → IsRead HasFilled (with_text begun text)
text_filled begun text filled =
    then_told (line_of text) (with_line begun) (line_read (words_of text)) (λ line told.
    if_read (may_stand begun line && keeps_tree begun line) (Some (added begun line)) None
    (record { so = added_filled begun line told filled }) none_read)

-- the script of lines, behind those that were read
from_filled : (lines : List (List ℕ)) (number : ℕ) (begun after : Begun) → HasFilled begun →
    script_from number begun lines ≡ Ok after → HasFilled after
from_filled [] number begun after filled is = let never : ⊥ = cc in absurd never
from_filled (text ∷ more) number begun after filled is =
    go (λ b f. from_filled more (number + 1) b after f) (is_empty text && is_empty more) is
  where
    last : (ended : Bool) → cond ended (Ok begun) (Err number) ≡ Ok after → HasFilled after
    last true e = let same : begun ≡ after = cc in subst HasFilled same filled
    last false e = let never : ⊥ = cc in absurd never

    at : ((b : Begun) → HasFilled b → script_from (number + 1) b more ≡ Ok after → HasFilled after) →
        (o : Option Begun) → IsRead HasFilled o →
        going_on number o (λ b. script_from (number + 1) b more) ≡ Ok after → HasFilled after
    at below None told e = let never : ⊥ = cc in absurd never
    at below (Some b) told e = below b told.so e

    go : ((b : Begun) → HasFilled b → script_from (number + 1) b more ≡ Ok after → HasFilled after) →
        (empty : Bool) →
        cond empty (cond begun.ended (Ok begun) (Err number))
        (going_on number (with_text begun text) (λ b. script_from (number + 1) b more)) ≡ Ok after → HasFilled after
    go below true e = last begun.ended e
    go below false e = at below (with_text begun text) (text_filled begun text filled) e

pub script_filled : (bytes : List ℕ) (settings : Settings) (host : State) (jobs : List RunJob) (schedule : List ℕ) →
    IsScriptOf bytes settings host jobs schedule → AreFilled jobs
script_filled bytes settings host jobs schedule script =
    subst AreFilled (sym script.4) (from_filled (lines_of bytes) 1 nothing script.0 tt script.1)

-- what a seed gives asks for no listing
asked_filled : (kind k : ℕ) → IsFilledRequest (request_of kind k)
asked_filled zero k = tt
asked_filled (suc zero) k = tt
asked_filled (suc (suc zero)) k = tt
asked_filled (suc (suc (suc kind))) k = tt

drawn_filled : (draws : List ℕ) → AreFilled (map (λ draw. generated_job (request_drawn draw)) draws)
drawn_filled [] = tt
drawn_filled (draw ∷ draws) = (asked_filled (draw % 4) ((draw / 4) % files), drawn_filled draws)

pub generated_filled : (count seed : ℕ) → AreFilled (generated_jobs count seed)
generated_filled zero seed = tt
generated_filled (suc more) seed = (tt, drawn_filled (draws_from more seed))
