-- A seed and a number of jobs alone determine their counts unless memory runs out.
use Rattle.std.proofs.Common.{◌≡◌, ◌≢◌, ◌∙◌, ℕ, zero, suc, List, [], ◌∷◌, Some, None, Ok, length, slice_get, sym, subst}
use Rattle.std.proofs.lemmas.Option.{same_Some}
use Rattle.pt_host.specs.Words.{Each}
use Rattle.pt_rules.specs.State.{State}
use Rattle.pt_tables.specs.Happens.{slots_left}
use Rattle.pt_tables.specs.LiveAfter.{IsLiveAfter, IsHandleAfter}
use Rattle.pt_tables.specs.Tables.{Tables}
use Rattle.pt_iface.specs.declared.answer.Answer.{Answer}
use Rattle.pt_iface.specs.declared.answer.Answer.TheVariants.{Cut}
use Rattle.pt_fs.specs.Determined.{NoneIsCut}
use Rattle.pt_fs.specs.declared.job.Job.{Job}
use Rattle.pt_script.specs.Settings.{no_settings}
use Rattle.pt_tree.specs.Start.{StartsAs}
use Rattle.pt_tree.specs.declared.spec.TreeLine.{TreeLine}
use Rattle.pt_gen.specs.Generated.{generated_tree, generated_jobs, generated_order}
use Rattle.pt_run.specs.Counted.{CountsAreDetermined}
use Rattle.pt_run.specs.Counts.{counts_of, count_lines}
use Rattle.pt_run.specs.Run.{AreLive, IsRunFrom}
use Rattle.pt_run.proofs.Determined.{all_one, lives_one, handles_one, end_agrees, runs_one}

each_at : {X : Type 0} (P : X → Type 0) (xs : List X) (j : ℕ) (x : X) → Each P xs → slice_get xs j ≡ Some x → P x
each_at P [] j x each is = absurd (cc)
each_at P (y ∷ xs) zero x each is = subst P (same_Some y x is) each.0
each_at P (y ∷ xs) (suc j) x each is = each_at P xs j x each.1 is

-- where no job is cut, none that takes memory is
uncut : (jobs : List Job) (answers : List Answer) → Each (λ told. told ≢ Cut) answers → NoneIsCut jobs answers
uncut jobs answers each j job told asked is takes = each_at (λ (t : Answer). t ≢ Cut) answers j told each is

-- lines describe one tree
begins_one : (lines : List TreeLine) (start other : State) → StartsAs lines start → StartsAs lines other →
    other ≡ start
begins_one lines start other here there = let e = here in let f = there in cc

pub counts_determined : CountsAreDetermined
counts_determined jobs seed lines other ran again full full' =
    let asked = generated_jobs jobs seed in
    let order = generated_order jobs seed in
    let start : again.start ≡ ran.start = begins_one generated_tree ran.start again.start ran.starts again.starts in
    let run : IsRunFrom no_settings ran.start asked order again.trace again.answers again.tables again.host None =
    subst (λ (s : State).
    IsRunFrom no_settings s asked order again.trace again.answers again.tables again.host None) start again.run in
    let one = runs_one no_settings ran.start asked order ran.trace again.trace ran.answers again.answers ran.tables
    again.tables ran.host again.host None None ran.run run full full' (uncut asked ran.answers ran.run.ends.none_cut)
    (uncut asked again.answers again.run.ends.none_cut) in
    let agree = end_agrees no_settings ran.start asked order ran.trace ran.answers ran.tables ran.host None ran.run in
    let live : AreLive ran.tables again.lives again.handles =
    subst (λ (t : Tables). AreLive t again.lives again.handles) (sym one.left) again.live in
    let lives : ran.lives ≡ again.lives =
    all_one (IsLiveAfter ran.tables.rows)
    (lives_one ran.tables agree) None ran.lives again.lives ran.live.0 live.0 in
    let handles : ran.handles ≡ again.handles =
    all_one (IsHandleAfter ran.tables.handles)
    (handles_one ran.tables agree) None ran.handles again.handles ran.live.1 live.1 in
    ran.told
    ∙ (λ i. count_lines (counts_of jobs (length (one.traces i)) (one.answered i) (lives i) (handles i)
    (slots_left (one.left i) 0)))
    ∙ sym again.told
