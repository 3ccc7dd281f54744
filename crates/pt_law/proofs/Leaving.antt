-- What a step leaves of what its job, and every other, has found.
use Rattle.std.proofs.Common.{◌≡◌, ◌≢◌, ◌⊎◌, ⊎_elim, inl, inr, ℕ, ◌+◌, ◌<◌, ◌≤◌, ◌==◌, List, [], ◌∷◌, ◌++◌, Bool, true}
use Rattle.std.proofs.Common.{false, refl, sym, ap, subst, ◌∙◌, arith, Option, Some, None, if◌then◌else◌, length}
use Rattle.std.proofs.lemmas.Bool.{cases_eq}
use Rattle.pt_host.specs.Flags.{includes, o_creat, o_path}
use Rattle.pt_host.specs.LawfulTree.{OpensFound, OpensMade, opened_on}
use Rattle.pt_host.specs.Tree.{Tree, Object, Opened, IsObject, IsOpenOn}
use Rattle.pt_host.specs.Words.{Each, set_at}
use Rattle.pt_host.specs.declared.flags.OpenFlags.{OpenFlags}
use Rattle.pt_host.specs.declared.ids.Fd.{Fd}
use Rattle.pt_host.specs.declared.ids.ObjIds.{ObjIds}
use Rattle.pt_host.specs.declared.op.KeptHostOp.TheVariants as call
use Rattle.pt_host.specs.declared.reply.HostReply.TheVariants as host
use Rattle.pt_host.specs.declared.reply.HostValue.TheVariants as value
use Rattle.pt_host.specs.declared.stat.Stat.{Stat}
use Rattle.pt_tables.specs.Tables.{Agree, Tables, empty_tables}
use Rattle.pt_tables.proofs.Cases.{cases}
use Rattle.pt_tables.specs.declared.event.NewHandle.{NewHandle}
use Rattle.pt_tables.specs.declared.event.KeptEvent.TheVariants as change
use Rattle.pt_tables.specs.declared.reply.EventReply.TheVariants as event
use Rattle.pt_tables.specs.declared.reply.Resolved.{Resolved}
use Rattle.pt_frame.specs.Deed.{Deed, Calls, Changes, Step}
use Rattle.pt_frame.specs.declared.act.ActReply.{ActReply}
use Rattle.pt_frame.specs.declared.act.ActReply.TheVariants.{Event, Host}
use Rattle.pt_law.specs.Discipline.{AreDisciplined, Job, JobMoves, MovesIf, Notes, Resolution, found_by, idle}
use Rattle.pt_law.specs.Findings.{OpensIn, IsOpening, IsGiven, IsHandled}
use Rattle.pt_law.specs.Laws.{Starts, IsLive}
use Rattle.pt_law.specs.Ledger.{inserted, inserted_as, open_count, weighed}
use Rattle.pt_law.specs.Reopened.{ComesToNone, resolving}
use Rattle.pt_law.specs.Story.{Findings, Giving, Handling, Opening, Sought, Story}
use Rattle.pt_law.specs.World.{World, Past, Turn, turn_by, Goes, IsLawful, Runs, TablesRun, finds, story_by, stated}
use Rattle.pt_law.specs.World.{first_of, given_in, led_by, object_of, open_at, opening_by}
use Rattle.pt_law.proofs.Cuts.{runs_append}
use Rattle.pt_law.proofs.Found.{found_only}
use Rattle.pt_law.proofs.Giving.{gives_found, gives_latest, gives_live, gives_that}
use Rattle.pt_law.proofs.Handled.{Stands, come_step, comes_there, given_settled, live_inserted, settled_stands}
use Rattle.pt_law.proofs.Interleaving.{after_step, choose, recount_all, Sorted, steps_same, tables_run}
use Rattle.pt_law.proofs.Knowing.{Knowing, one_object}
use Rattle.pt_law.proofs.Laws.{Between, begins, between}
use Rattle.pt_law.proofs.Lists.{at_each, each_front, set_at_other, set_at_same}
use Rattle.pt_law.proofs.Naming.{found_free, latest_step, move_latest, objects_step}
use Rattle.pt_law.proofs.Lasting.{step_keeps}
use Rattle.pt_law.proofs.Opening.{GivesBy, GivesNone, InsertsNone, IsGivingBy, IsInserting, IsOpenAt, MakesNone}
use Rattle.pt_law.proofs.Opening.{OpensNone, ResolvesNone, comes_resolves, inserting_handle, opening, sort_giving, sort_inserting}
use Rattle.pt_law.proofs.Opening.{sort_opening}
use Rattle.pt_law.proofs.Pinned.{pinned_open}
use Rattle.pt_law.proofs.Reopened.{moved_by}
use Rattle.pt_law.proofs.RowEvents.{inserted_open}
use Rattle.pt_law.proofs.Steps.{Inv, keeps, turned}

some_same : {A : Type 0} {a b : A} → Some a ≡ Some b → a ≡ b
some_same e = cc

none_some : {A : Type 0} {a : A} → None ≡ Some a → ⊥
none_some e = cc

abbrev pub finds_if : World → Past → Tree → ℕ → Option Deed → ActReply → Findings → Findings
finds_if w past tree j None told f = f
finds_if w past tree j (Some deed) told f = finds w past tree j deed told f

module _ (w : World) (past : Past) (tree : Tree) (j : ℕ) where
  pub sought_stays : (deed : Option Deed) (told : ActReply) (f : Findings) → ResolvesNone deed told →
      (finds_if w past tree j deed told f).sought ≡ f.sought
  sought_stays None told f q = refl
  sought_stays (Some (Changes (change.Resolve number))) (Event (event.Resolved resolved)) f q = absurd q
  sought_stays (Some (Calls (call.OpenAt dir name flags mode))) (Host (host.Ok (value.Fd fd))) f q = refl
  sought_stays (Some (Calls (call.Stat fd))) (Host (host.Ok (value.Stat stat))) f q = refl
  sought_stays (Some (Changes (change.Claim claim))) (Event (event.Claimed given)) f q = refl
  sought_stays (Some (Changes (change.Insert new))) (Event (event.Found given)) f q = refl
  sought_stays (Some (Changes (change.Insert new))) (Event (event.Inserted given)) f q = refl
  sought_stays (Some (Changes (change.InsertHandle new))) (Event (event.Inserted given)) f q = refl
  sought_stays (Some _) _ f q = refl

  -- at most the status of its descriptor is told
  abbrev pub Restated : Option Opening → Opening → Type 0
  Restated was o = (p : Opening) × (was ≡ Some p) × (o ≡ record p { stat = o.stat })

  stated_is : (fd : Fd) (stat : Stat) (was : Option Opening) (o : Opening) → stated fd stat was ≡ Some o →
      Restated was o
  stated_is fd stat None o e = absurd (none_some e)
  stated_is fd stat (Some p) o e = go (p.fd.0 == fd.0) e
    where
      go : (b : Bool) →
          (if b then Some (record p { stat = first_of p.stat (Some stat) }) else Some p) ≡ Some o →
          Restated (Some p) o
      go true e =
          let same : record p { stat = first_of p.stat (Some stat) } ≡ o = some_same e in
          (p, refl, sym same ∙ (λ i. record p { stat = (same i).stat }))
      go false e =
          let same : p ≡ o = some_same e in
          (p, refl, sym same ∙ (λ i. record p { stat = (same i).stat }))

  pub latest_restated : (deed : Option Deed) (told : ActReply) (f : Findings) → OpensNone deed told → (o : Opening) →
      (finds_if w past tree j deed told f).latest ≡ Some o → Restated f.latest o
  latest_restated None told f q o e = (o, e, refl)
  latest_restated (Some (Changes (change.Resolve number))) (Event (event.Resolved resolved)) f q o e = (o, e, refl)
  latest_restated (Some (Calls (call.OpenAt dir name flags mode))) (Host (host.Ok (value.Fd fd))) f q o e = absurd q
  latest_restated (Some (Calls (call.Stat fd))) (Host (host.Ok (value.Stat stat))) f q o e =
      stated_is fd stat f.latest o e
  latest_restated (Some (Changes (change.Claim claim))) (Event (event.Claimed given)) f q o e = (o, e, refl)
  latest_restated (Some (Changes (change.Insert new))) (Event (event.Found given)) f q o e = (o, e, refl)
  latest_restated (Some (Changes (change.Insert new))) (Event (event.Inserted given)) f q o e = (o, e, refl)
  latest_restated (Some (Changes (change.InsertHandle new))) (Event (event.Inserted given)) f q o e = (o, e, refl)
  latest_restated (Some _) _ f q o e = (o, e, refl)

  -- what was found before, and at most the status of which is told now
  pub latest_kept : (deed : Option Deed) (told : ActReply) (f : Findings) → OpensNone deed told → (p : Opening) →
      f.latest ≡ Some p →
      (stat : Option Stat) × ((finds_if w past tree j deed told f).latest
      ≡ Some (record p { stat = stat }))
  latest_kept None told f q p e = (p.stat, e)
  latest_kept (Some (Changes (change.Resolve number))) (Event (event.Resolved resolved)) f q p e = (p.stat, e)
  latest_kept (Some (Calls (call.OpenAt dir name flags mode))) (Host (host.Ok (value.Fd fd))) f q p e = absurd q
  latest_kept (Some (Calls (call.Stat fd))) (Host (host.Ok (value.Stat stat))) f q p e =
      let k = go (p.fd.0 == fd.0) in (k.0, ap (stated fd stat) e ∙ k.1)
    where
      go : (b : Bool) → (told : Option Stat)
          × ((if b then Some (record p { stat = first_of p.stat (Some stat) }) else Some p)
          ≡ Some (record p { stat = told }))
      go true = (first_of p.stat (Some stat), refl)
      go false = (p.stat, refl)
  latest_kept (Some (Changes (change.Claim claim))) (Event (event.Claimed given)) f q p e = (p.stat, e)
  latest_kept (Some (Changes (change.Insert new))) (Event (event.Found given)) f q p e = (p.stat, e)
  latest_kept (Some (Changes (change.Insert new))) (Event (event.Inserted given)) f q p e = (p.stat, e)
  latest_kept (Some (Changes (change.InsertHandle new))) (Event (event.Inserted given)) f q p e = (p.stat, e)
  latest_kept (Some _) _ f q p e = (p.stat, e)

  pub making_stays : (deed : Option Deed) (told : ActReply) (f : Findings) → OpensNone deed told →
      (finds_if w past tree j deed told f).making ≡ f.making
  making_stays None told f q = refl
  making_stays (Some (Changes (change.Resolve number))) (Event (event.Resolved resolved)) f q = refl
  making_stays (Some (Calls (call.OpenAt dir name flags mode))) (Host (host.Ok (value.Fd fd))) f q = absurd q
  making_stays (Some (Calls (call.Stat fd))) (Host (host.Ok (value.Stat stat))) f q = refl
  making_stays (Some (Changes (change.Claim claim))) (Event (event.Claimed given)) f q = refl
  making_stays (Some (Changes (change.Insert new))) (Event (event.Found given)) f q = refl
  making_stays (Some (Changes (change.Insert new))) (Event (event.Inserted given)) f q = refl
  making_stays (Some (Changes (change.InsertHandle new))) (Event (event.Inserted given)) f q = refl
  making_stays (Some _) _ f q = refl

  pub making_kept : (deed : Option Deed) (told : ActReply) (f : Findings) → MakesNone deed told →
      (finds_if w past tree j deed told f).making ≡ f.making
  making_kept None told f q = refl
  making_kept (Some (Changes (change.Resolve number))) (Event (event.Resolved resolved)) f q = refl
  making_kept (Some (Calls (call.OpenAt dir name flags mode))) (Host (host.Ok (value.Fd fd))) f q =
      ap (λ (b : Bool). if b then Some (opening_by f.sought dir name fd w.tree tree) else f.making) q
  making_kept (Some (Calls (call.Stat fd))) (Host (host.Ok (value.Stat stat))) f q = refl
  making_kept (Some (Changes (change.Claim claim))) (Event (event.Claimed given)) f q = refl
  making_kept (Some (Changes (change.Insert new))) (Event (event.Found given)) f q = refl
  making_kept (Some (Changes (change.Insert new))) (Event (event.Inserted given)) f q = refl
  making_kept (Some (Changes (change.InsertHandle new))) (Event (event.Inserted given)) f q = refl
  making_kept (Some _) _ f q = refl

  pub given_stays : (deed : Option Deed) (told : ActReply) (f : Findings) → GivesNone deed told →
      (finds_if w past tree j deed told f).given ≡ f.given
  given_stays None told f q = refl
  given_stays (Some (Changes (change.Resolve number))) (Event (event.Resolved resolved)) f q = refl
  given_stays (Some (Calls (call.OpenAt dir name flags mode))) (Host (host.Ok (value.Fd fd))) f q = refl
  given_stays (Some (Calls (call.Stat fd))) (Host (host.Ok (value.Stat stat))) f q = refl
  given_stays (Some (Changes (change.Claim claim))) (Event (event.Claimed given)) f q = absurd q
  given_stays (Some (Changes (change.Insert new))) (Event (event.Found given)) f q = absurd q
  given_stays (Some (Changes (change.Insert new))) (Event (event.Inserted given)) f q = absurd q
  given_stays (Some (Changes (change.InsertHandle new))) (Event (event.Inserted given)) f q = refl
  given_stays (Some _) _ f q = refl

  pub finds_gives : (era number : ℕ) (ids : ObjIds) (deed : Option Deed) (told : ActReply) (f : Findings) →
      GivesBy era number ids deed told →
      finds_if w past tree j deed told f ≡ given_in past era number ids f
  finds_gives era number ids (Some (Changes (change.Claim claim))) (Event (event.Claimed given)) f b =
      λ i. given_in past (b.2 i) (b.0 i) (b.1 i) f
  finds_gives era number ids (Some (Changes (change.Insert new))) (Event (event.Found given)) f b =
      λ i. given_in past (b.2 i) (b.0 i) (b.1 i) f
  finds_gives era number ids (Some (Changes (change.Insert new))) (Event (event.Inserted given)) f b =
      λ i. given_in past (b.2 i) (b.0 i) (b.1 i) f
  finds_gives era number ids _ _ f b = absurd b

  pub handled_stays : (deed : Option Deed) (told : ActReply) (f : Findings) → InsertsNone deed told →
      (finds_if w past tree j deed told f).handled ≡ f.handled
  handled_stays None told f q = refl
  handled_stays (Some (Changes (change.Resolve number))) (Event (event.Resolved resolved)) f q = refl
  handled_stays (Some (Calls (call.OpenAt dir name flags mode))) (Host (host.Ok (value.Fd fd))) f q = refl
  handled_stays (Some (Calls (call.Stat fd))) (Host (host.Ok (value.Stat stat))) f q = refl
  handled_stays (Some (Changes (change.Claim claim))) (Event (event.Claimed given)) f q = refl
  handled_stays (Some (Changes (change.Insert new))) (Event (event.Found given)) f q = refl
  handled_stays (Some (Changes (change.Insert new))) (Event (event.Inserted given)) f q = refl
  handled_stays (Some (Changes (change.InsertHandle new))) (Event (event.Inserted given)) f q = absurd q
  handled_stays (Some _) _ f q = refl

pub story_own : (w : World) (s : Turn) (next : World) → Goes w s next →
    next.story.found s.job
    ≡ finds_if w next.past next.tree s.job s.step.deed s.step.reply (w.story.found s.job)
story_own w s next g = ap (λ (y : Story). y.found s.job) g.story ∙ own s.step.deed
  where
    own : (deed : Option Deed) → (story_by w next.past next.tree s.job deed s.step.reply).found s.job
        ≡ finds_if w next.past next.tree s.job deed s.step.reply (w.story.found s.job)
    own None = refl
    own (Some deed) =
        set_at_same w.story.found s.job
        (finds w next.past next.tree s.job deed s.step.reply (w.story.found s.job))

pub story_other : (w : World) (s : Turn) (next : World) (i : ℕ) → i ≢ s.job → Goes w s next →
    next.story.found i ≡ w.story.found i
story_other w s next i apart g = ap (λ (y : Story). y.found i) g.story ∙ other s.step.deed
  where
    other : (deed : Option Deed) → (story_by w next.past next.tree s.job deed s.step.reply).found i
        ≡ w.story.found i
    other None = refl
    other (Some deed) =
        set_at_other w.story.found s.job
        (finds w next.past next.tree s.job deed s.step.reply (w.story.found s.job)) i apart
