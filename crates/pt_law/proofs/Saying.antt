-- What a job has found is, but for what the trees decide, told by its own steps.
use Rattle.std.proofs.Common.{◌≡◌, ◌≢◌, ⊎_elim, ℕ, ◌==◌, List, [], ◌∷◌, ◌++◌, Bool, true, false, refl, sym, ap, ◌∙◌}
use Rattle.std.proofs.Common.{Option, Some, None, if◌then◌else◌}
use Rattle.std.proofs.lemmas.Bool.{cases_eq}
use Rattle.pt_host.specs.Flags.{includes, o_creat}
use Rattle.pt_host.specs.Tree.{Tree}
use Rattle.pt_host.specs.Words.{Each}
use Rattle.pt_host.specs.declared.ids.Fd.{Fd}
use Rattle.pt_host.specs.declared.op.KeptHostOp.TheVariants as call
use Rattle.pt_host.specs.declared.reply.HostReply.TheVariants as host
use Rattle.pt_host.specs.declared.reply.HostValue.TheVariants as value
use Rattle.pt_host.specs.declared.stat.Stat.{Stat}
use Rattle.pt_tables.specs.Tables.{empty_tables}
use Rattle.pt_tables.specs.declared.event.KeptEvent.TheVariants as change
use Rattle.pt_tables.specs.declared.reply.EventReply.TheVariants as event
use Rattle.pt_frame.specs.Deed.{Deed, Calls, Changes, Step}
use Rattle.pt_frame.specs.declared.act.ActReply.{ActReply}
use Rattle.pt_frame.specs.declared.act.ActReply.TheVariants.{Event, Host}
use Rattle.pt_law.specs.Laws.{Starts}
use Rattle.pt_law.specs.Story.{Findings, Giving, Handling, Opening, Sought, Story, no_story, nothing_found}
use Rattle.pt_law.specs.World.{World, Past, Turn, Runs, first_of, no_past, opening_by, stated, steps_of}
use Rattle.pt_law.proofs.Cuts.{steps_at, steps_past}
use Rattle.pt_law.proofs.Leaving.{finds_if, story_other, story_own}

-- a world in which nothing stands for anything
abbrev no_tree : Tree
no_tree = record { objects = []; names = λ dir name. None; opened = λ fd. None }

abbrev nowhere : World
nowhere = record { tree = no_tree; tables = empty_tables []; past = no_past; story = no_story }

-- what a step says, and all of a list
abbrev pub says : Findings → Step → Findings
says f step = finds_if nowhere no_past no_tree 0 step.deed step.reply f

abbrev pub said : Findings → List Step → Findings
said f [] = f
said f (step ∷ steps) = said (says f step) steps

pub said_append : (f : Findings) (steps more : List Step) → said f (steps ++ more) ≡ said (said f steps) more
said_append f [] more = refl
said_append f (step ∷ steps) more = said_append (says f step) steps more

-- without what the trees decide

abbrev pub bare_sought : Option Sought → Option Sought
bare_sought None = None
bare_sought (Some sought) = Some (record sought { object = None })

abbrev pub bare_opening : Opening → Opening
bare_opening opening = record opening {
  parent = bare_sought opening.parent;
  directory = None;
  led_to = None;
  objects = 0;
  object = None;
}

abbrev pub bare_latest : Option Opening → Option Opening
bare_latest None = None
bare_latest (Some opening) = Some (bare_opening opening)

abbrev pub bare_giving : Giving → Giving
bare_giving giving = record giving { object = None; opening = bare_latest giving.opening }

abbrev pub bare_given : Option Giving → Option Giving
bare_given None = None
bare_given (Some giving) = Some (bare_giving giving)

abbrev pub bare_handling : Handling → Handling
bare_handling handling = record handling {
  row = 0;
  object = None;
  stood_for = None;
  giving = bare_given handling.giving;
}

abbrev pub bare_handled : Option Handling → Option Handling
bare_handled None = None
bare_handled (Some handling) = Some (bare_handling handling)

abbrev pub bare : Findings → Findings
bare f = record {
  sought = bare_sought f.sought;
  latest = bare_latest f.latest;
  making = bare_latest f.making;
  given = bare_given f.given;
  handled = bare_handled f.handled;
}

bare_making : (b : Bool) (opening : Opening) (making : Option Opening) →
    bare_latest (if b then Some opening else making)
    ≡ (if b then Some (bare_opening opening) else bare_latest making)
bare_making true opening making = refl
bare_making false opening making = refl

bare_stated : (fd : Fd) (stat : Stat) (latest : Option Opening) →
    bare_latest (stated fd stat latest) ≡ stated fd stat (bare_latest latest)
bare_stated fd stat None = refl
bare_stated fd stat (Some o) = go (o.fd.0 == fd.0)
  where
    go : (b : Bool) →
        bare_latest (if b then Some (record o { stat = first_of o.stat (Some stat) }) else Some o)
        ≡ (if b then Some (record (bare_opening o) { stat = first_of o.stat (Some stat) })
        else Some (bare_opening o))
    go true = refl
    go false = refl

module _ (w : World) (past : Past) (tree : Tree) (j : ℕ) where
  bare_finds : (deed : Option Deed) (told : ActReply) (f : Findings) →
      bare (finds_if w past tree j deed told f) ≡ finds_if nowhere no_past no_tree 0 deed told (bare f)
  bare_finds None told f = refl
  bare_finds (Some (Changes (change.Resolve number))) (Event (event.Resolved resolved)) f = refl
  bare_finds (Some (Calls (call.OpenAt dir name flags mode))) (Host (host.Ok (value.Fd fd))) f =
      let opening : Opening = record {
        parent = bare_sought f.sought;
        directory = None;
        name = name;
        led_to = None;
        objects = 0;
        object = None;
        fd = fd;
        stat = None;
      } in
      λ i. record (bare f) {
        latest = Some opening;
        making = bare_making (includes flags.0 o_creat) (opening_by f.sought dir name fd w.tree tree) f.making i;
      }
  bare_finds (Some (Calls (call.Stat fd))) (Host (host.Ok (value.Stat stat))) f =
      λ i. record (bare f) { latest = bare_stated fd stat f.latest i }
  bare_finds (Some (Changes (change.Claim claim))) (Event (event.Claimed given)) f = refl
  bare_finds (Some (Changes (change.Insert new))) (Event (event.Found given)) f = refl
  bare_finds (Some (Changes (change.Insert new))) (Event (event.Inserted given)) f = refl
  bare_finds (Some (Changes (change.InsertHandle new))) (Event (event.Inserted given)) f = refl
  bare_finds (Some _) _ f = refl

runs_say : (j : ℕ) (turns : List Turn) (w last : World) → Runs w turns last →
    bare (last.story.found j) ≡ said (bare (w.story.found j)) (steps_of j turns)
runs_say j [] w last r = ap (λ (z : World). bare (z.story.found j)) r
runs_say j (s ∷ ss) w last r =
    let rest = runs_say j ss r.0 last r.2 in
    ⊎_elim (mine rest) (other rest) (cases_eq s.job j)
  where
    mine : bare (last.story.found j) ≡ said (bare (r.0.story.found j)) (steps_of j ss) → s.job ≡ j →
        bare (last.story.found j) ≡ said (bare (w.story.found j)) (steps_of j (s ∷ ss))
    mine rest e =
        let own : r.0.story.found j
        ≡ finds_if w r.0.past r.0.tree s.job s.step.deed s.step.reply (w.story.found j) =
        ap r.0.story.found (sym e) ∙ story_own w s r.0 r.1
        ∙ ap (λ k. finds_if w r.0.past r.0.tree s.job s.step.deed s.step.reply (w.story.found k)) e in
        rest ∙ ap (λ (f : Findings). said f (steps_of j ss))
        (ap bare own ∙ bare_finds w r.0.past r.0.tree s.job s.step.deed s.step.reply (w.story.found j))
        ∙ ap (said (bare (w.story.found j))) (sym (steps_at j s ss e))

    other : bare (last.story.found j) ≡ said (bare (r.0.story.found j)) (steps_of j ss) → s.job ≢ j →
        bare (last.story.found j) ≡ said (bare (w.story.found j)) (steps_of j (s ∷ ss))
    other rest e =
        let still = story_other w s r.0 j (λ k. e (sym k)) r.1 in
        rest ∙ ap (λ (f : Findings). said (bare f) (steps_of j ss)) still
        ∙ ap (said (bare (w.story.found j))) (sym (steps_past j s ss e))

-- from the beginning of a run on
pub said_law : (limits : List ℕ) (j : ℕ) (turns : List Turn) (start last : World) → Starts limits start →
    Runs start turns last → bare (last.story.found j) ≡ said nothing_found (steps_of j turns)
said_law limits j turns start last s r =
    runs_say j turns start last r
    ∙ ap (λ (y : Story). said (bare (y.found j)) (steps_of j turns)) s.story

-- what is said stays while no step of a kind is made
module _ {A : Type 0} (field : Findings → A) (N : Option Deed → ActReply → Type 0)
    (keeps : (w : World) (past : Past) (tree : Tree) (j : ℕ) (deed : Option Deed) (told : ActReply) (f : Findings) →
    N deed told → field (finds_if w past tree j deed told f) ≡ field f) where
  pub said_stays : (f : Findings) (steps : List Step) → Each (λ (step : Step). N step.deed step.reply) steps →
      field (said f steps) ≡ field f
  said_stays f [] q = refl
  said_stays f (step ∷ steps) q =
      said_stays (says f step) steps q.1 ∙ keeps nowhere no_past no_tree 0 step.deed step.reply f q.0
