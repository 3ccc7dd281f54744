-- A descriptor that a job has stays open on what it is open on.
use Rattle.std.proofs.Common.{◌≡◌, ◌≢◌, ⊎_elim, ℕ, ◌+◌, ◌<◌, List, [], ◌∷◌, ◌++◌, refl}
use Rattle.std.proofs.Common.{sym, ap, subst, ◌∙◌, append_assoc, append-nil, arith, Option, Some, None}
use Rattle.std.proofs.lemmas.Bool.{cases_eq}
use Rattle.pt_host.specs.Call.{Call}
use Rattle.pt_host.specs.Flags.{includes, o_path}
use Rattle.pt_host.specs.LawfulTree.{TreeChanges, closed_at}
use Rattle.pt_host.specs.Sorts.{Sort, OpensWith, EndsFd, OfSeat, Plain, sort_of}
use Rattle.pt_host.specs.Tree.{Tree, IsOpenOn}
use Rattle.pt_host.specs.declared.flags.OpenFlags.{OpenFlags}
use Rattle.pt_host.specs.declared.ids.Fd.{Fd}
use Rattle.pt_host.specs.declared.reply.HostReply.{HostReply}
use Rattle.pt_host.specs.declared.reply.HostReply.TheVariants as host
use Rattle.pt_host.specs.declared.reply.HostValue.TheVariants as value
use Rattle.pt_host.specs.declared.seat.HostSeat.{HostSeat}
use Rattle.pt_tables.specs.Tables.{Tables}
use Rattle.pt_tables.specs.declared.event.NewHandle.{NewHandle}
use Rattle.pt_tables.specs.declared.event.KeptEvent.TheVariants as change
use Rattle.pt_frame.specs.Deed.{Deed, Calls, Changes, Step}
use Rattle.pt_frame.specs.Made.{Made}
use Rattle.pt_frame.specs.declared.act.ActReply.{ActReply}
use Rattle.pt_frame.specs.declared.act.ActReply.TheVariants.{Event, Host, NoCopy}
use Rattle.pt_law.specs.Discipline.{AreDisciplined}
use Rattle.pt_law.specs.Laws.{Starts}
use Rattle.pt_law.specs.Ledger.{fd_taken, fd_given, fds_carried, summed, weighed, open_count, some_count}
use Rattle.pt_law.specs.World.{made, World, Turn, turn_by, IsLawful, Runs, steps_of}
use Rattle.pt_law.proofs.Counting.{part}
use Rattle.pt_law.proofs.Cuts.{runs_append, steps_at, steps_past}
use Rattle.pt_law.proofs.Flows.{fd_held}
use Rattle.pt_law.proofs.Growing.{IsQuiet, call_grows, opening_does, closing_does}
use Rattle.pt_law.proofs.Interleaving.{steps_append}
use Rattle.pt_law.proofs.Knowing.{other_than, one_object}
use Rattle.pt_law.proofs.Laws.{reach}
use Rattle.pt_law.proofs.Lists.{set_at_same, set_at_other, total_push}
use Rattle.pt_law.proofs.Next.{next_move}
use Rattle.pt_law.proofs.Returned.{fds_held}
use Rattle.pt_law.proofs.RowEvents.{inserted_open}

-- what a job's steps come to with one step more of the run

own_push : (weight : Deed → ActReply → ℕ) (job : ℕ) (turns : List Turn) (turn : Turn) → turn.job ≡ job →
    summed weight (steps_of job (turns ++ turn ∷ []))
    ≡ summed weight (steps_of job turns) + weighed weight turn.step.deed turn.step.reply
own_push weight job turns turn e =
    ap (summed weight) (steps_append job turns (turn ∷ [])
    ∙ ap (λ (x : List Step). steps_of job turns ++ x) (steps_at job turn [] e))
    ∙ total_push (λ (step : Step). weighed weight step.deed step.reply) (steps_of job turns) turn.step

other_push : (weight : Deed → ActReply → ℕ) (job : ℕ) (turns : List Turn) (turn : Turn) → turn.job ≢ job →
    summed weight (steps_of job (turns ++ turn ∷ [])) ≡ summed weight (steps_of job turns)
other_push weight job turns turn e =
    ap (summed weight) (steps_append job turns (turn ∷ [])
    ∙ ap (λ (x : List Step). steps_of job turns ++ x) (steps_past job turn [] e) ∙ append-nil (steps_of job turns))

carries_on : (fd job : ℕ) (turns : List Turn) (turn : Turn) → 0 < fds_carried fd (steps_of job turns) →
    (turn.job ≡ job → weighed (fd_given fd) turn.step.deed turn.step.reply ≡ 0) →
    0 < fds_carried fd (steps_of job (turns ++ turn ∷ []))
carries_on fd job turns turn h gives = ⊎_elim
    (λ (e : turn.job ≡ job).
    let t = own_push (fd_taken fd) job turns turn e in
    let g = own_push (fd_given fd) job turns turn e in
    let z = gives e in
    omega (arith, h, t, g, z))
    (λ (e : turn.job ≢ job).
    let t = other_push (fd_taken fd) job turns turn e in
    let g = other_push (fd_given fd) job turns turn e in
    omega (arith, h, t, g))
    (cases_eq turn.job job)

-- what a job has is open
has_open : (limits : List ℕ) (bound : ℕ) (turns more : List Turn) (start now : World) (job fd : ℕ) →
    Starts limits start →
    AreDisciplined bound (turns ++ more) → job < bound → Runs start turns now →
    0 < fds_carried fd (steps_of job turns) → 0 < open_count fd now.tree
has_open limits bound turns more start now job fd s a lt r h =
    let v = reach limits bound turns more start now s a r in
    let f = v.1.fds fd in
    let p = part (fd_held fd) v.0 bound job lt in
    let c = (fds_held fd (steps_of job turns) (v.0 job) (v.2 job lt).0).0 in
    omega (arith, f, p, c, h)

-- a descriptor that is open after a call is open on what it was open on before
closed_stays : (tree : Tree) (f fd : Fd) (object : ℕ) (after : Tree) → after ≡ closed_at tree f →
    0 < open_count fd.0 after → IsOpenOn tree fd object → IsOpenOn after fd object
closed_stays tree f fd object after e open_after o = ⊎_elim
    (λ (q : fd.0 ≡ f.0).
    let none : open_count fd.0 after ≡ 0 =
    ap (λ (t : Tree). open_count fd.0 t) e ∙ ap (λ n. open_count n (closed_at tree f)) q
    ∙ ap some_count (set_at_same tree.opened f.0 None) in
    absurd (omega (arith, none, open_after)))
    (λ (q : fd.0 ≢ f.0).
    subst (λ (t : Tree). IsOpenOn t fd object) (sym e) (o.0, set_at_other tree.opened f.0 None fd.0 q ∙ o.1, o.2))
    (cases_eq fd.0 f.0)

opened_stays : (tree : Tree) (asked : Call) (flags : OpenFlags) (new fd : Fd) (object : ℕ) (after : Tree) →
    sort_of asked ≡ OpensWith flags → TreeChanges tree asked (host.Ok (value.Fd new)) after →
    IsOpenOn tree fd object → IsOpenOn after fd object
opened_stays tree asked flags new fd object after e l o =
    let does = opening_does tree asked flags new after e l in
    let there : IsOpenOn does.0 fd object = (o.0, ap (λ f. f fd.0) does.2 ∙ o.1, o.2) in
    let apart = other_than does.0 new.0 fd object does.3.fresh there in
    subst (λ (t : Tree). IsOpenOn t fd object) (sym does.3.adds) (
      there.0,
      set_at_other does.0.opened new.0
          (Some (record { object = does.1; path_only = includes flags.0 o_path })) fd.0 apart ∙ there.1,
      there.2,
    )

quiet_stays : (tree : Tree) (asked : Call) (told : HostReply) (fd : Fd) (object : ℕ) (after : Tree) (sort : Sort) →
    sort_of asked ≡ sort → IsQuiet sort told → TreeChanges tree asked told after → IsOpenOn tree fd object →
    IsOpenOn after fd object
quiet_stays tree asked told fd object after sort e q l o =
    let g = call_grows tree asked told after l (subst (λ (s : Sort). IsQuiet s told) (sym e) q) in
    (o.0, ap (λ f. f fd.0) g.same_open ∙ o.1, o.2)

call_stays : (tree : Tree) (asked : Call) (told : HostReply) (fd : Fd) (object : ℕ) (after : Tree) (sort : Sort) →
    sort_of asked ≡ sort → TreeChanges tree asked told after → 0 < open_count fd.0 after → IsOpenOn tree fd object →
    IsOpenOn after fd object
call_stays tree asked told fd object after (EndsFd f) e l h o =
    closed_stays tree f fd object after (closing_does tree asked f told after e l) h o
call_stays tree asked (host.Ok (value.Fd new)) fd object after (OpensWith flags) e l h o =
    opened_stays tree asked flags new fd object after e l o
call_stays tree asked told fd object after (OpensWith flags) e l h o =
    quiet_stays tree asked told fd object after (OpensWith flags) e tt l o
call_stays tree asked told fd object after OfSeat e l h o =
    quiet_stays tree asked told fd object after OfSeat e tt l o
call_stays tree asked told fd object after Plain e l h o = quiet_stays tree asked told fd object after Plain e tt l o

step_stays_open : (deed : Option Deed) (told : ActReply) (tree after : Tree) (seat seat' : HostSeat)
    (tables tables' : Tables) (fd : Fd) (object : ℕ) → Made IsLawful deed told tree seat tables after seat' tables' →
    0 < open_count fd.0 after → IsOpenOn tree fd object → IsOpenOn after fd object
step_stays_open (Some (Changes asked)) (Event told) tree after seat seat' tables tables' fd object m h o =
    subst (λ (t : Tree). IsOpenOn t fd object) (sym m.1) o
step_stays_open (Some (Calls asked)) (Host told) tree after seat seat' tables tables' fd object m h o =
    call_stays tree asked told fd object after (sort_of asked) refl m.0.0.trees.changes h o
step_stays_open (Some (Calls asked)) NoCopy tree after seat seat' tables tables' fd object m h o =
    let l = m.0.2 in
    call_stays tree asked m.0.0 fd object after (sort_of asked) refl l.0.trees.changes h o
step_stays_open None NoCopy tree after seat seat' tables tables' fd object m h o =
    subst (λ (t : Tree). IsOpenOn t fd object) (sym m.0) o
step_stays_open _ _ tree after seat seat' tables tables' fd object m h o = absurd m

-- what one job's step and the others come to
given_first : (fd job : ℕ) (turn : Turn) (turns : List Turn) →
    summed (fd_given fd) (steps_of job (turn ∷ turns)) ≡ 0 → turn.job ≡ job →
    weighed (fd_given fd) turn.step.deed turn.step.reply ≡ 0
given_first fd job turn turns z e =
    let a = ap (summed (fd_given fd)) (steps_at job turn turns e) in omega (arith, a, z)

given_rest : (fd job : ℕ) (turn : Turn) (turns : List Turn) → summed (fd_given fd) (steps_of job (turn ∷ turns)) ≡ 0 →
    summed (fd_given fd) (steps_of job turns) ≡ 0
given_rest fd job turn turns z = ⊎_elim
    (λ (e : turn.job ≡ job).
    let a = ap (summed (fd_given fd)) (steps_at job turn turns e) in omega (arith, a, z))
    (λ (e : turn.job ≢ job).
    let a = ap (summed (fd_given fd)) (steps_past job turn turns e) in omega (arith, a, z))
    (cases_eq turn.job job)

pub carried_law : (limits : List ℕ) (bound : ℕ) (turns between more : List Turn) (start was now : World) (job : ℕ)
    (fd : Fd)
    (object : ℕ) → Starts limits start → AreDisciplined bound (turns ++ (between ++ more)) → job < bound →
    Runs start turns was → Runs was between now → 0 < fds_carried fd.0 (steps_of job turns) →
    summed (fd_given fd.0) (steps_of job between) ≡ 0 → IsOpenOn was.tree fd object → IsOpenOn now.tree fd object
carried_law limits bound turns [] more start was now job fd object s a lt r k h z o =
    subst (λ (w : World). IsOpenOn w.tree fd object) (sym k) o
carried_law limits bound turns (turn ∷ between) more start was now job fd object s a lt r k h z o =
    let d : AreDisciplined bound ((turns ++ turn ∷ []) ++ (between ++ more)) =
    subst (AreDisciplined bound) (sym (append_assoc turns (turn ∷ []) (between ++ more))) a in
    let on : Runs start (turns ++ turn ∷ []) k.0 = runs_append turns (turn ∷ []) start was k.0 r (k.0, k.1, refl) in
    let carried = carries_on fd.0 job turns turn h (given_first fd.0 job turn between z) in
    let is_open = has_open limits bound (turns ++ turn ∷ []) (between ++ more) start k.0 job fd.0 s d lt on carried in
    let g = k.1 in
    carried_law limits bound (turns ++ turn ∷ []) between more start k.0 now job fd object s d lt on k.2 carried
    (given_rest fd.0 job turn between z)
    (step_stays_open turn.step.deed turn.step.reply was.tree k.0.tree g.seat g.seat_after was.tables k.0.tables fd
    object g.made is_open o)

-- a handle is inserted for what its descriptor was opened on, which its number stands for
pub handled_law : (limits : List ℕ) (bound : ℕ) (turns between more : List Turn) (start was now : World)
    (job object : ℕ)
    (new : NewHandle) (told : ActReply) → Starts limits start →
    AreDisciplined bound (turns ++ (between ++ turn_by job (made (Changes (change.InsertHandle new)) told) ∷ more)) →
    job < bound → Runs start turns was → Runs was between now → 0 < fds_carried new.fd.0 (steps_of job turns) →
    summed (fd_given new.fd.0) (steps_of job between) ≡ 0 → IsOpenOn was.tree new.fd object →
    now.past.resolved job new.number ≡ Some object
handled_law limits bound turns between more start was now job object new told s a lt r k h z o =
    let fd = new.fd in
    let t = turn_by job (made (Changes (change.InsertHandle new)) told) in
    let d : AreDisciplined bound ((turns ++ between) ++ t ∷ more) =
    subst (AreDisciplined bound) (sym (append_assoc turns between (t ∷ more))) a in
    let on = runs_append turns between start was now r k in
    let v = reach limits bound (turns ++ between) (t ∷ more) start now s d on in
    let own = v.2 job lt in
    let move = next_move t more (v.0 job) own.1 own.2 in
    let n = inserted_open now.tree now.tables.next_row now.past job (v.0 job) new.number fd (v.1.right.knows job lt)
    move.1.1.2 in
    let carried = carried_law limits bound turns between (t ∷ more) start was now job fd object s a lt r k h z o in
    n.2 ∙ ap Some (one_object now.tree fd n.0 object n.1 carried)
