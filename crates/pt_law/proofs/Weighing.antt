-- Proof. What a step does to the counts that its job holds, weighed by era and number.
use Rattle.std.proofs.Common.{◌≡◌, ◌≢◌, ◌⊎◌, inl, inr, ℕ, zero, suc, ◌+◌, ◌-◌, ◌*◌, ◌<◌, ◌≤◌, List, [], ◌∷◌, ◌++◌, Bool}
use Rattle.std.proofs.Common.{true, false, Option, Some, None, refl, sym, ap, subst, ◌∙◌, arith, ⊎_elim}
use Rattle.std.proofs.Common.{if◌then◌else◌, append-nil}
use Rattle.std.proofs.lemmas.Bool.{cases_eq}
use Rattle.pt_host.specs.Words.{is, total, sum_to, set_at, Each}
use Rattle.pt_host.specs.Sorts.{sort_of, fds_of}
use Rattle.pt_host.specs.declared.ids.Fd.{Fd}
use Rattle.pt_host.specs.declared.op.KeptHostOp.TheVariants as call
use Rattle.pt_host.specs.declared.reply.HostReply.TheVariants as host
use Rattle.pt_host.specs.declared.reply.HostValue.TheVariants as value
use Rattle.pt_tables.specs.Change.{Change}
use Rattle.pt_tables.specs.Tables.{Tables, Agree, HasNumber, IsSoundRow, empty_tables}
use Rattle.pt_tables.specs.Happens.{Happens}
use Rattle.pt_tables.specs.Rows.{IsRow}
use Rattle.pt_tables.specs.declared.event.KeptEvent.TheVariants as change
use Rattle.pt_tables.specs.declared.reply.EventReply.{EventReply}
use Rattle.pt_tables.specs.declared.reply.EventReply.TheVariants as event
use Rattle.pt_tables.specs.declared.reply.EventRefusal.TheVariants as refused
use Rattle.pt_tables.specs.declared.row.Row.{Row}
use Rattle.pt_tables.proofs.Cases.{Case, cases}
use Rattle.pt_tables.proofs.Dying.{clears}
use Rattle.pt_iface.specs.declared.answer.Answer.TheVariants as answer
use Rattle.pt_frame.specs.Deed.{Deed, Calls, Changes, Step}
use Rattle.pt_frame.specs.Replies.{brought, taken_in}
use Rattle.pt_frame.specs.declared.act.ActReply.{ActReply}
use Rattle.pt_frame.specs.declared.act.ActReply.TheVariants.{Event, Host, NoCopy}
use Rattle.pt_frame.specs.declared.finish.Finish.{Finish}
use Rattle.pt_frame.specs.declared.finish.Finish.TheVariants as finish
use Rattle.pt_frame.specs.declared.hold.Hold.{Hold}
use Rattle.pt_frame.specs.declared.hold.Hold.TheVariants as hold
use Rattle.pt_frame.specs.declared.hold.Taken.{Taken}
use Rattle.pt_frame.specs.declared.hold.Taken.TheVariants as taken
use Rattle.pt_law.specs.Discipline.{Shifts, Job, Notes, at_job, idle, MovesBy, JobMoves, Disciplined, ComesToEnd}
use Rattle.pt_law.specs.Discipline.{entry_holds, notes_after, Fits, with_root, newly}
use Rattle.pt_law.specs.Ledger.{forgotten, given}
use Rattle.pt_law.specs.World.{made}
use Rattle.pt_law.specs.Settled.{entry_count}
use Rattle.pt_law.specs.Uses.{amount_asked}
use Rattle.pt_law.specs.World.{Turn, turn_by, steps_of, TablesGo, TablesRun}
use Rattle.pt_law.specs.Polite.{is_clearing, recent_on, recent, root_given, roots_given, asked_by, asked, some_of, job_given}
use Rattle.pt_law.specs.Polite.{all_given, outstanding_of, IsPolite, CountsOutstanding, TakesOneEach}
use Rattle.pt_law.proofs.Flows.{called, unmade}
use Rattle.pt_law.proofs.Givings.{live_count, count_in, none_other, counts_step, counts_run, agree_step}
use Rattle.pt_law.proofs.Holding.{others_called}
use Rattle.pt_law.proofs.Laws.{counted, count_is, empty_agree}
use Rattle.pt_law.proofs.Interleaving.{steps_append, steps_same, steps_other, tables_split}
use Rattle.pt_law.proofs.Lists.{total_push, total_takes, each_taken, is_same, is_apart, sum_to_set, sum_to_zero, set_at_same, set_at_other}
use Rattle.pt_law.proofs.Overtaking.{IsClearing, era_step}

-- the counts among what is held, by era and number
abbrev pub weigh : (ℕ → ℕ → ℕ) → Hold → ℕ
weigh f (hold.Count era number) = f era number
weigh f one = 0

abbrev pub gained : (ℕ → ℕ → ℕ) → Deed → ActReply → ℕ
gained f (Changes (change.Claim claim)) (Event (event.Claimed given)) = f claim.era given.number
gained f (Changes (change.Insert new)) (Event (event.Inserted given)) = f new.era given
gained f (Changes (change.Insert new)) (Event (event.Found given)) = f new.era given.number
gained f deed told = 0

abbrev pub given_back : (ℕ → ℕ → ℕ) → Deed → ℕ
given_back f (Changes (change.GiveBack era number)) = f era number
given_back f deed = 0

brings_none : (f : ℕ → ℕ → ℕ) (brings : Taken) (holds : List Hold) →
    total (weigh f) (brought brings ++ holds) ≡ total (weigh f) holds
brings_none f taken.Nothing holds = refl
brings_none f (taken.Slot class) holds = omega arith
brings_none f (taken.Fd fd true class) holds = omega arith
brings_none f (taken.Fd fd false class) holds = omega arith

pub weighs : (f : ℕ → ℕ → ℕ) (deed : Deed) (told : ActReply) (holds after : List Hold) → Shifts holds deed told after →
    total (weigh f) after + given_back f deed ≡ total (weigh f) holds + gained f deed told
weighs f (Calls asked) told holds after s =
    let k = others_called (weigh f) (λ fd. refl) (sort_of asked) (fds_of asked) told holds after s in
    omega (arith, k)
weighs f (Changes (change.Resolve number)) (Event (event.Resolved row)) holds after s =
    let k = total_takes (weigh f) s in omega (arith, k)
weighs f (Changes (change.Unpin row)) told holds after s = let k = total_takes (weigh f) s.1 in omega (arith, k)
weighs f (Changes (change.Claim claim)) (Event (event.Claimed number)) holds after s =
    let k = total_takes (weigh f) s in omega (arith, k)
weighs f (Changes (change.TakeFd class)) (Event event.Taken) holds after s = let k = total_takes (weigh f) s in
    omega (arith, k)
weighs f (Changes (change.GiveFd class)) told holds after s = let k = total_takes (weigh f) s in omega (arith, k)
weighs f (Changes (change.Insert new)) (Event (event.Inserted given)) holds after s =
    let a = total_takes (weigh f) s.2 in
    let b = total_takes (weigh f) s.3 in
    let c = total_takes (weigh f) s.4 in
    omega (arith, a, b, c)
weighs f (Changes (change.Insert new)) (Event (event.Found given)) holds after s =
    let k = total_takes (weigh f) s in omega (arith, k)
weighs f (Changes (change.InsertRoot new)) (Event (event.Inserted given)) holds after s =
    let a = total_takes (weigh f) s.1 in
    let b = total_takes (weigh f) s.2 in
    omega (arith, a, b)
weighs f (Changes (change.GiveBack era number)) told holds after s = let k = total_takes (weigh f) s in
    omega (arith, k)
weighs f (Changes (change.PinHandle handle number)) (Event (event.Pinned row fd)) holds after s =
    let k = total_takes (weigh f) s in omega (arith, k)
weighs f (Changes (change.UnpinHandle row)) told holds after s = let k = total_takes (weigh f) s.1 in
    omega (arith, k)
weighs f (Changes (change.InsertHandle new)) (Event (event.Inserted given)) holds after s =
    let a = total_takes (weigh f) s.1 in
    let b = total_takes (weigh f) s.2 in
    omega (arith, a, b)
weighs f (Changes change.TakeClosing) told holds after s = let k = ap (total (weigh f)) s in
    let b = brings_none f (taken_in told) holds in omega (arith, k, b)
weighs f deed told holds after s = let k = ap (total (weigh f)) s in omega (arith, k)

abbrev pub of_number : ℕ → ℕ → ℕ → ℕ
of_number n era m = is m n

-- counts of this number in this era; of other eras than the job's
abbrev pub now : ℕ → ℕ → ℕ → ℕ → ℕ
now e n era m = is era e * is m n

abbrev pub stray : Option ℕ → ℕ → ℕ → ℕ
stray None era m = 1
stray (Some e) era m = 1 - is era e

abbrev pub held_now : ℕ → ℕ → List Hold → ℕ
held_now e n holds = total (weigh (now e n)) holds

-- none of any kind
pub none_weigh : (f : ℕ → ℕ → ℕ) (holds : List Hold) → total (weigh (stray None)) holds ≡ 0 → total (weigh f) holds ≡ 0
none_weigh f [] z = refl
none_weigh f (one ∷ holds) z = let r = none_weigh f holds (omega (arith, z)) in go one (omega (arith, z)) r
  where
    go : (one : Hold) → weigh (stray None) one ≡ 0 → total (weigh f) holds ≡ 0 → weigh f one + total (weigh f) holds ≡ 0
    go (hold.Count era number) z r = absurd (omega (arith, z))
    go one z r = omega (arith, r)

-- all of one era: those of that era, or none
pub same_weigh : (e n : ℕ) (holds : List Hold) → total (weigh (stray (Some e))) holds ≡ 0 →
    held_now e n holds ≡ total (weigh (of_number n)) holds
same_weigh e n [] z = refl
same_weigh e n (one ∷ holds) z = let r = same_weigh e n holds (omega (arith, z)) in go one (omega (arith, z)) r
  where
    go : (one : Hold) → weigh (stray (Some e)) one ≡ 0 → held_now e n holds ≡ total (weigh (of_number n)) holds →
        weigh (now e n) one + held_now e n holds ≡ weigh (of_number n) one + total (weigh (of_number n)) holds
    go (hold.Count era number) z r = ⊎_elim
        (λ (q : era ≡ e). let a : is era e ≡ 1 = ap (λ x. is x e) q ∙ is_same e in
        let b = ap (λ x. x * is number n) a in omega (arith, b, r))
        (λ (q : era ≢ e). let a = is_apart era e q in absurd (omega (arith, z, a)))
        (cases_eq era e)
    go one z r = omega (arith, r)

pub other_weigh : (e d n : ℕ) (holds : List Hold) → e ≢ d → total (weigh (stray (Some e))) holds ≡ 0 → held_now d n holds ≡ 0
other_weigh e d n [] q z = refl
other_weigh e d n (one ∷ holds) q z = let r = other_weigh e d n holds q (omega (arith, z)) in go one (omega (arith, z)) r
  where
    go : (one : Hold) → weigh (stray (Some e)) one ≡ 0 → held_now d n holds ≡ 0 →
        weigh (now d n) one + held_now d n holds ≡ 0
    go (hold.Count era number) z r = ⊎_elim
        (λ (p : era ≡ e). let a = is_apart era d (λ s. q (sym p ∙ s)) in let b = ap (λ x. x * is number n) a in
        omega (arith, b, r))
        (λ (p : era ≢ e). let a = is_apart era e p in absurd (omega (arith, z, a)))
        (cases_eq era e)
    go one z r = omega (arith, r)

pub within_weigh : (e n : ℕ) (holds : List Hold) → held_now e n holds ≤ total (weigh (of_number n)) holds
within_weigh e n [] = omega arith
within_weigh e n (one ∷ holds) = let r = within_weigh e n holds in go one r
  where
    go : (one : Hold) → held_now e n holds ≤ total (weigh (of_number n)) holds →
        weigh (now e n) one + held_now e n holds ≤ weigh (of_number n) one + total (weigh (of_number n)) holds
    go (hold.Count era number) r = ⊎_elim
        (λ (p : era ≡ e). let a : is era e ≡ 1 = ap (λ x. is x e) p ∙ is_same e in
        let b = ap (λ x. x * is number n) a in omega (arith, b, r))
        (λ (p : era ≢ e). let a = is_apart era e p in let b = ap (λ x. x * is number n) a in omega (arith, b, r))
        (cases_eq era e)
    go one r = omega (arith, r)
