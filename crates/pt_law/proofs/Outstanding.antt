-- Proof. What is right of each job: its counts are of the era that it noted, and it gave them since the session began.
use Rattle.std.proofs.Common.{◌≡◌, ◌≢◌, ◌⊎◌, inl, inr, ℕ, zero, suc, ◌+◌, ◌-◌, ◌*◌, ◌<◌, ◌≤◌, List, [], ◌∷◌, ◌++◌, Bool}
use Rattle.std.proofs.Common.{true, false, Option, Some, None, refl, sym, ap, subst, ◌∙◌, arith, ⊎_elim}
use Rattle.std.proofs.Common.{if◌then◌else◌, append-nil}
use Rattle.std.proofs.lemmas.Bool.{cases_eq}
use Rattle.pt_host.specs.Words.{is, total, sum_to, set_at, Each}
use Rattle.pt_host.specs.Sorts.{sort_of, fds_of}
use Rattle.pt_host.specs.declared.ids.Fd.{Fd}
use Rattle.pt_host.specs.declared.op.KeptHostOp.TheVariants as call
use Rattle.pt_host.specs.declared.reply.HostReply.TheVariants as host
use Rattle.pt_host.specs.declared.reply.HostValue.TheVariants as value
use Rattle.pt_tables.specs.Change.{Change}
use Rattle.pt_tables.specs.Tables.{Tables, Agree, HasNumber, IsSoundRow, empty_tables}
use Rattle.pt_tables.specs.Happens.{Happens}
use Rattle.pt_tables.specs.Rows.{IsRow}
use Rattle.pt_tables.specs.declared.event.KeptEvent.TheVariants as change
use Rattle.pt_tables.specs.declared.reply.EventReply.{EventReply}
use Rattle.pt_tables.specs.declared.reply.EventReply.TheVariants as event
use Rattle.pt_tables.specs.declared.reply.EventRefusal.TheVariants as refused
use Rattle.pt_tables.specs.declared.row.Row.{Row}
use Rattle.pt_tables.proofs.Cases.{Case, cases}
use Rattle.pt_tables.proofs.Dying.{clears}
use Rattle.pt_iface.specs.declared.answer.Answer.TheVariants as answer
use Rattle.pt_frame.specs.Deed.{Deed, Calls, Changes, Step}
use Rattle.pt_frame.specs.Replies.{brought, taken_in}
use Rattle.pt_frame.specs.declared.act.ActReply.{ActReply}
use Rattle.pt_frame.specs.declared.act.ActReply.TheVariants.{Event, Host, NoCopy}
use Rattle.pt_frame.specs.declared.finish.Finish.{Finish}
use Rattle.pt_frame.specs.declared.finish.Finish.TheVariants as finish
use Rattle.pt_frame.specs.declared.hold.Hold.{Hold}
use Rattle.pt_frame.specs.declared.hold.Hold.TheVariants as hold
use Rattle.pt_frame.specs.declared.hold.Taken.{Taken}
use Rattle.pt_frame.specs.declared.hold.Taken.TheVariants as taken
use Rattle.pt_law.specs.Discipline.{Shifts, Job, Notes, at_job, idle, MovesBy, JobMoves, Disciplined, ComesToEnd}
use Rattle.pt_law.specs.Discipline.{entry_holds, notes_after, Fits, with_root, newly}
use Rattle.pt_law.specs.Ledger.{forgotten, given}
use Rattle.pt_law.specs.World.{made}
use Rattle.pt_law.specs.Settled.{entry_count}
use Rattle.pt_law.specs.Uses.{amount_asked}
use Rattle.pt_law.specs.World.{Turn, turn_by, steps_of, TablesGo, TablesRun}
use Rattle.pt_law.specs.Polite.{is_clearing, recent_on, recent, root_given, roots_given, asked_by, asked, some_of, job_given}
use Rattle.pt_law.specs.Polite.{all_given, outstanding_of, IsPolite, CountsOutstanding, TakesOneEach}
use Rattle.pt_law.proofs.Flows.{called, unmade}
use Rattle.pt_law.proofs.Givings.{live_count, count_in, none_other, counts_step, counts_run, agree_step}
use Rattle.pt_law.proofs.Holding.{others_called}
use Rattle.pt_law.proofs.Laws.{counted, count_is, empty_agree}
use Rattle.pt_law.proofs.Interleaving.{steps_append, steps_same, steps_other, tables_split}
use Rattle.pt_law.proofs.Lists.{total_push, total_takes, each_taken, is_same, is_apart, sum_to_set, sum_to_zero, set_at_same, set_at_other}
use Rattle.pt_law.proofs.Overtaking.{IsClearing, era_step}
use Rattle.pt_law.proofs.Weighing.{weigh, weighs, gained, given_back, of_number, now, stray, held_now, none_weigh, other_weigh}

-- The era that a job notes changes as it begins alone.
abbrev Begins : Deed → ActReply → ℕ → Type 0
Begins (Changes change.Begin) (Event (event.Began era agreed)) e = era ≡ e
Begins (Changes change.Clear) (Event (event.Cleared era closings)) e = era ≡ e
Begins deed told e = ⊥

rooted_era : (fd : Fd) (notes : Notes) → (with_root fd (newly fd notes)).era ≡ notes.era
rooted_era fd notes = go notes.rooted
  where
    go : (b : Bool) → (with_root fd (record (newly fd notes) { rooted = b })).era ≡ notes.era
    go true = refl
    go false = refl

era_after : (notes : Notes) (deed : Deed) (told : ActReply) →
    ((e : ℕ) × Begins deed told e × ((notes_after notes deed told).era ≡ Some e))
    ⊎ ((notes_after notes deed told).era ≡ notes.era)
era_after notes (Changes change.Begin) (Event (event.Began era agreed)) = inl (era, refl, refl)
era_after notes (Changes change.Clear) (Event (event.Cleared era closings)) = inl (era, refl, refl)
era_after notes (Calls (call.OpenRoot path flags)) (Host (host.Ok (value.Fd fd))) = inr (rooted_era fd notes)
era_after notes (Calls (call.OpenPath dir path flags)) (Host (host.Ok (value.Fd fd))) = inr refl
era_after notes (Calls (call.OpenAt dir name flags mode)) (Host (host.Ok (value.Fd fd))) = inr refl
era_after notes (Changes (change.Resolve number)) (Event (event.Resolved row)) = inr refl
era_after notes (Calls (call.Reopen fd flags)) (Host (host.Ok (value.Fd new))) = inr refl
era_after notes (Calls (call.OpenByHandle mount handle flags)) (Host (host.Ok (value.Fd fd))) = inr refl
era_after notes (Calls (call.Close fd)) told = inr refl
era_after notes (Calls (call.Stat fd)) (Host (host.Ok (value.Stat stat))) = inr refl
era_after notes (Changes change.DrawNode) (Event (event.Drawn number)) = inr refl
era_after notes (Changes change.DrawHandle) (Event (event.Drawn handle)) = inr refl
era_after notes (Changes (change.InsertHandle new)) (Event (event.Inserted given)) = inr refl
era_after notes (Changes (change.Insert new)) (Event (event.Inserted given)) = inr refl
era_after notes (Changes (change.Insert new)) (Event (event.Found given)) = inr refl
era_after notes (Changes (change.Claim claim)) (Event (event.Claimed given)) = inr refl
era_after notes (Changes (change.InsertRoot new)) (Event (event.Inserted given)) = inr refl
era_after notes (Changes change.TakeClosing) told = inr refl
era_after notes _ _ = inr refl

-- who begins noted no era before, and holds no count behind
begins_none : (job : Job) (deed : Deed) (told : ActReply) (e : ℕ) → Begins deed told e → Fits job deed →
    job.notes.era ≡ None
begins_none job (Changes change.Begin) (Event (event.Began era agreed)) e b f = f
begins_none job (Changes change.Clear) (Event (event.Cleared era closings)) e b f = f
begins_none job deed told e b f = absurd b

begins_gains : (f : ℕ → ℕ → ℕ) (deed : Deed) (told : ActReply) (e : ℕ) → Begins deed told e → gained f deed told ≡ 0
begins_gains f (Changes change.Begin) (Event (event.Began era agreed)) e b = refl
begins_gains f (Changes change.Clear) (Event (event.Cleared era closings)) e b = refl
begins_gains f deed told e b = absurd b

-- what is given is of the era that the job noted
gains_own : (job : Job) (deed : Deed) (told : ActReply) → Fits job deed → gained (stray job.notes.era) deed told ≡ 0
gains_own job (Changes (change.Claim claim)) (Event (event.Claimed given)) f =
    ap (λ o. stray o claim.era given.number) f.1 ∙ (let a = is_same claim.era in omega (arith, a))
gains_own job (Changes (change.Insert new)) (Event (event.Inserted given)) f =
    ap (λ o. stray o new.era given) f.0 ∙ (let a = is_same new.era in omega (arith, a))
gains_own job (Changes (change.Insert new)) (Event (event.Found given)) f =
    ap (λ o. stray o new.era given.number) f.0 ∙ (let a = is_same new.era in omega (arith, a))
gains_own job deed told f = refl

stray_after : (job after : Job) (deed : Deed) (told : ActReply) → MovesBy job deed told after →
    total (weigh (stray job.notes.era)) job.holds ≡ 0 → total (weigh (stray after.notes.era)) after.holds ≡ 0
stray_after job after deed told m z = ap (λ (x : Notes). total (weigh (stray x.era)) after.holds) m.3
    ∙ elim (era_after job.notes deed told) [
      | inl b ↦
          let n = begins_none job deed told b.0 b.1 m.1 in
          let s = stray (notes_after job.notes deed told).era in
          let k = weighs s deed told job.holds after.holds m.0 in
          let g = begins_gains s deed told b.0 b.1 in
          let y = none_weigh s job.holds (ap (λ o. total (weigh (stray o)) job.holds) (sym n) ∙ z) in
          omega (arith, k, g, y)
      | inr e ↦
          let k = weighs (stray job.notes.era) deed told job.holds after.holds m.0 in
          let g = gains_own job deed told m.1 in
          ap (λ o. total (weigh (stray o)) after.holds) e ∙ omega (arith, k, g, z)
    ]

-- what is right of one job: its counts are of its era, which is none to come; what it gave since the session began
pub record JobFine (t : Tables) (did : List Step) (job : Job) : Type 0 where
  pub strays : total (weigh (stray job.notes.era)) job.holds ≡ 0
  pub below : (e : ℕ) → job.notes.era ≡ Some e → e ≤ t.era
  pub gave : ((n : ℕ) → all_given n did ≡ 0) ⊎ (job.notes.era ≡ Some t.era)
  pub within : (n : ℕ) → held_now t.era n job.holds ≤ all_given n did

not_cleared : (deed : Option Deed) (told : ActReply) → is_clearing deed told ≡ false → IsClearing deed told → ⊥
not_cleared (Some (Changes change.Clear)) (Event (event.Cleared era closings)) c h = absurd (cc)
not_cleared deed told c h = absurd h

pub era_stays : (t t' : Tables) (deed : Option Deed) (told : ActReply) → is_clearing deed told ≡ false →
    TablesGo t deed told t' → t'.era ≡ t.era
era_stays t t' deed told c g = era_step t deed told t' g (not_cleared deed told c)

-- a number is given in the era of the tables, which the job noted
gives_or : (t t' : Tables) (job : Job) (deed : Deed) (told : ActReply) → TablesGo t (Some deed) told t' → Fits job deed →
    ((n : ℕ) → job_given n (Some deed) told ≡ 0)
    ⊎ ((job.notes.era ≡ Some t.era) × ((notes_after job.notes deed told).era ≡ job.notes.era))
gives_or t t' job (Changes (change.Claim claim)) (Event (event.Claimed given)) g f =
    let h = cases t t' (change.Claim claim) (event.Claimed given) g in inr (f.1 ∙ ap Some h.0, refl)
gives_or t t' job (Changes (change.Insert new)) (Event (event.Inserted given)) g f =
    let h = cases t t' (change.Insert new) (event.Inserted given) g in inr (f.0 ∙ ap Some h.0, refl)
gives_or t t' job (Changes (change.Insert new)) (Event (event.Found given)) g f =
    let h = cases t t' (change.Insert new) (event.Found given) g in inr (f.0 ∙ ap Some h.0, refl)
gives_or t t' job deed told g f = inl (λ n. refl)

now_less : (e n era m : ℕ) → is era e * is m n ≤ is m n
now_less e n era m = ⊎_elim
    (λ (p : era ≡ e). let a : is era e ≡ 1 = ap (λ x. is x e) p ∙ is_same e in
    let b = ap (λ x. x * is m n) a in omega (arith, b))
    (λ (p : era ≢ e). let a = is_apart era e p in let b = ap (λ x. x * is m n) a in omega (arith, b))
    (cases_eq era e)

gained_within : (e n : ℕ) (deed : Deed) (told : ActReply) → gained (now e n) deed told ≤ job_given n (Some deed) told
gained_within e n (Changes (change.Claim claim)) (Event (event.Claimed given)) = now_less e n claim.era given.number
gained_within e n (Changes (change.Insert new)) (Event (event.Inserted given)) =
    now_less e n new.era given
gained_within e n (Changes (change.Insert new)) (Event (event.Found given)) = now_less e n new.era given.number
gained_within e n deed told = omega arith

-- who begins does so in the era that the tables have, where it clears nothing
begins_now : (t t' : Tables) (deed : Deed) (told : ActReply) (e : ℕ) → is_clearing (Some deed) told ≡ false →
    TablesGo t (Some deed) told t' → Begins deed told e → e ≡ t.era
begins_now t t' (Changes change.Begin) (Event (event.Began era agreed)) e c g b =
    let h = cases t t' change.Begin (event.Began era agreed) g in sym b ∙ h.0
begins_now t t' (Changes change.Clear) (Event (event.Cleared era closings)) e c g b = absurd (cc)
begins_now t t' deed told e c g b = absurd b

some_is : {a b : ℕ} → Some a ≡ Some b → a ≡ b
some_is e = cc

-- the job that made a step that cleared nothing
pub fine_made : (t t' : Tables) (did : List Step) (deed : Deed) (told : ActReply) (job after : Job) →
    is_clearing (Some deed) told ≡ false → TablesGo t (Some deed) told t' → MovesBy job deed told after →
    JobFine t did job → JobFine t' (did ++ made deed told ∷ []) after
fine_made t t' did deed told job after c g m v =
    let e = era_stays t t' (Some deed) told c g in
    let notes = ap (λ (x : Notes). x.era) m.3 in
    record {
      strays = stray_after job after deed told m v.strays;
      below = λ x p. elim (era_after job.notes deed told) [
        | inl b ↦ let k = begins_now t t' deed told b.0 c g b.1 in
            let l = some_is (sym p ∙ notes ∙ b.2) in omega (arith, e, k, l)
        | inr s ↦ let k = v.below x (sym s ∙ sym notes ∙ p) in omega (arith, e, k)
      ];
      gave = elim (gives_or t t' job deed told g m.1) [
        | inr own ↦ inr (notes ∙ own.1 ∙ own.0 ∙ ap Some (sym e))
        | inl nil ↦ elim v.gave [
          | inl none ↦ inl (λ n. total_push (λ (s : Step). job_given n s.deed s.reply) did (made deed told)
              ∙ (let a = none n in let b = nil n in omega (arith, a, b)))
          | inr some ↦ elim (era_after job.notes deed told) [
            | inl b ↦ absurd (let x = begins_none job deed told b.0 b.1 m.1 in cc)
            | inr s ↦ inr (notes ∙ s ∙ some ∙ ap Some (sym e))
          ]
        ]
      ];
      within = λ n.
          let k = weighs (now t.era n) deed told job.holds after.holds m.0 in
          let l = gained_within t.era n deed told in
          let w = v.within n in
          let p = total_push (λ (s : Step). job_given n s.deed s.reply) did (made deed told) in
          let q = ap (λ x. held_now x n after.holds) e in
          omega (arith, k, l, w, p, q);
    }

-- another job
pub fine_other : (t t' : Tables) (did : List Step) (job : Job) → t'.era ≡ t.era → JobFine t did job → JobFine t' did job
fine_other t t' did job e v = record {
  strays = v.strays;
  below = λ x p. let k = v.below x p in omega (arith, e, k);
  gave = elim v.gave [
    | inl none ↦ inl none
    | inr some ↦ inr (some ∙ ap Some (sym e))
  ];
  within = λ n. let w = v.within n in let q = ap (λ x. held_now x n job.holds) e in omega (arith, w, q);
}

-- the session began anew: what jobs hold is of earlier ones
old_none : (t : Tables) (did : List Step) (job : Job) (d n : ℕ) → JobFine t did job → t.era < d →
    held_now d n job.holds ≡ 0
old_none t did job d n v l = go job.notes.era refl
  where
    go : (o : Option ℕ) → job.notes.era ≡ o → held_now d n job.holds ≡ 0
    go None p = none_weigh (now d n) job.holds (ap (λ x. total (weigh (stray x)) job.holds) (sym p) ∙ v.strays)
    go (Some e) p = let k = v.below e p in other_weigh e d n job.holds (λ q. absurd (omega (arith, k, l, q)))
        (ap (λ x. total (weigh (stray x)) job.holds) (sym p) ∙ v.strays)

pub fine_cleared : (t t' : Tables) (did : List Step) (job : Job) → t'.era ≡ t.era + 1 → JobFine t did job → JobFine t' [] job
fine_cleared t t' did job e v = record {
  strays = v.strays;
  below = λ x p. let k = v.below x p in omega (arith, e, k);
  gave = inl (λ n. refl);
  within = λ n. let z = old_none t did job t'.era n v (omega (arith, e)) in omega (arith, z);
}

pub fine_clears : (t t' : Tables) (did : List Step) (job after : Job) (era closings : ℕ) → t'.era ≡ t.era + 1 →
    era ≡ t.era + 1 → MovesBy job (Changes change.Clear) (Event (event.Cleared era closings)) after → JobFine t did job →
    JobFine t' [] after
fine_clears t t' did job after era closings e told m v = record {
  strays = stray_after job after (Changes change.Clear) (Event (event.Cleared era closings)) m v.strays;
  below = λ x p. let k = some_is (sym p ∙ ap (λ (z : Notes). z.era) m.3) in omega (arith, e, told, k);
  gave = inl (λ n. refl);
  within = λ n. let z = old_none t did job t'.era n v (omega (arith, e)) in
      let k = weighs (now t'.era n) (Changes change.Clear) (Event (event.Cleared era closings)) job.holds after.holds m.0
      in omega (arith, z, k);
}
