-- The seat of each job that has one is what the steps of that job made of it, whatever other jobs did between them.
use Rattle.std.proofs.Common.{◌≡◌, inl, inr, ℕ, Bool, cond, List, [], ◌∷◌, Option, Some, None, slice_get, ap, sym}
use Rattle.std.proofs.Common.{subst, refl, ◌∙◌}
use Rattle.std.proofs.lemmas.Bool.Decides.{eqb_tells}
use Rattle.std.proofs.lemmas.Option.{same_Some}
use Rattle.pt_host.specs.declared.seat.HostSeat.{HostSeat}
use Rattle.pt_tables.specs.Tables.{Tables}
use Rattle.pt_frame.specs.Deed.{Deed, kept_deed_of}
use Rattle.pt_host.specs.Relation.{HostRelation}
use Rattle.pt_frame.specs.Seats.{seat_at, seat_by}
use Rattle.pt_frame.specs.declared.act.ActReply.{ActReply}
use Rattle.pt_law.specs.Under.{SeatAnswers, AllSeatsAnswer}
use Rattle.pt_law.proofs.Seats.{made_seat, made_answer}
use Rattle.pt_law.proofs.Told.{Promises}
use Rattle.pt_fs.proofs.Lists.{get-set_other, get-set_same}
use Rattle.pt_fs.specs.Trace.{MadeFrom, TraceRuns, step_of, steps_by}
use Rattle.pt_fs.specs.declared.trace.TraceStep.{TraceStep}

abbrev has_seat : HostSeat → Option (Option HostSeat)
has_seat seat = Some (Some seat)

module _ {H : Type 0} (does : HostRelation H) (faults : H → ℕ) (p : Promises does faults) where
  -- a step of a job that has this seat
  seat_made : (deed : Option Deed) (told : ActReply) (from : H) (was : Option HostSeat) (tables : Tables) (to : H)
      (now : Option HostSeat) (tables_after : Tables) (seat : HostSeat) →
      MadeFrom does deed told from was tables to now tables_after → was ≡ Some seat →
      now ≡ Some (seat_by seat deed told)
  seat_made deed told from (Some one) tables to (Some next) tables_after seat m is =
      ap Some (made_seat does faults p deed told from one tables to next tables_after m
      ∙ ap (λ (s : HostSeat). seat_by s deed told) (same_Some one seat is))
  seat_made deed told from (Some one) tables to None tables_after seat m is = absurd m
  seat_made deed told from None tables to now tables_after seat m is = absurd (cc)

  pub seats_at : (xs : List TraceStep) (h0 h1 : H) (s0 s1 : List (Option HostSeat)) (r0 r1 : Tables) →
      TraceRuns does xs h0 s0 r0 h1 s1 r1 → (job : ℕ) (seat : HostSeat) → slice_get s0 job ≡ has_seat seat →
      slice_get s1 job ≡ has_seat (seat_at seat (steps_by job xs))
  seats_at [] h0 h1 s0 s1 r0 r1 runs job seat is = ap (λ (s : List (Option HostSeat)). slice_get s job) runs.1 ∙ is
  seats_at (x ∷ xs) h0 h1 s0 s1 r0 r1 runs job seat is =
      let at = runs.3 in
      let later = seat_by seat (kept_deed_of x.act) x.reply in
      elim (eqb_tells x.job job) [
        | inl e ↦ (let own : at.0 ≡ Some seat =
            same_Some at.0 (Some seat) (sym at.2 ∙ ap (slice_get s0) e.1 ∙ is) in
            let made : at.1 ≡ Some later =
            seat_made (kept_deed_of x.act) x.reply h0 at.0 r0 runs.0 at.1 runs.2 seat at.4 own in
            let next : slice_get runs.1 job ≡ has_seat later =
            ap (slice_get runs.1) (sym e.1) ∙ ap (λ (s : List (Option HostSeat)). slice_get s x.job) at.3
            ∙ get-set_same s0 x.job at.0 at.1 at.2 ∙ ap Some made in
            seats_at xs runs.0 h1 runs.1 s1 runs.2 r1 runs.4 job later next
            ∙ ap (λ b. has_seat (seat_at seat (cond b (step_of x ∷ steps_by job xs) (steps_by job xs)))) (sym e.0))
        | inr apart ↦ (let next : slice_get runs.1 job ≡ has_seat seat =
            ap (λ (s : List (Option HostSeat)). slice_get s job) at.3
            ∙ get-set_other s0 x.job job at.1 (λ q. apart.1 (sym q)) ∙ is in
            seats_at xs runs.0 h1 runs.1 s1 runs.2 r1 runs.4 job seat next
            ∙ ap (λ b. has_seat (seat_at seat (cond b (step_of x ∷ steps_by job xs) (steps_by job xs))))
            (sym apart.0))
      ]

  -- each call on the seat is answered by the rules for it
  answer_made : (deed : Option Deed) (told : ActReply) (from : H) (was : Option HostSeat) (tables : Tables) (to : H)
      (now : Option HostSeat) (tables_after : Tables) (seat : HostSeat) →
      MadeFrom does deed told from was tables to now tables_after → was ≡ Some seat → SeatAnswers seat deed told
  answer_made deed told from (Some one) tables to (Some next) tables_after seat m is =
      subst (λ (s : HostSeat). SeatAnswers s deed told) (same_Some one seat is)
      (made_answer does faults p deed told from one tables to next tables_after m)
  answer_made deed told from (Some one) tables to None tables_after seat m is = absurd m
  answer_made deed told from None tables to now tables_after seat m is = absurd (cc)

  pub seats_answer : (xs : List TraceStep) (h0 h1 : H) (s0 s1 : List (Option HostSeat)) (r0 r1 : Tables) →
      TraceRuns does xs h0 s0 r0 h1 s1 r1 → (job : ℕ) (seat : HostSeat) → slice_get s0 job ≡ has_seat seat →
      AllSeatsAnswer seat (steps_by job xs)
  seats_answer [] h0 h1 s0 s1 r0 r1 runs job seat is = tt
  seats_answer (x ∷ xs) h0 h1 s0 s1 r0 r1 runs job seat is =
      let at = runs.3 in
      let later = seat_by seat (kept_deed_of x.act) x.reply in
      elim (eqb_tells x.job job) [
        | inl e ↦ (let own : at.0 ≡ Some seat =
            same_Some at.0 (Some seat) (sym at.2 ∙ ap (slice_get s0) e.1 ∙ is) in
            let made : at.1 ≡ Some later =
            seat_made (kept_deed_of x.act) x.reply h0 at.0 r0 runs.0 at.1 runs.2 seat at.4 own in
            let next : slice_get runs.1 job ≡ has_seat later =
            ap (slice_get runs.1) (sym e.1) ∙ ap (λ (s : List (Option HostSeat)). slice_get s x.job) at.3
            ∙ get-set_same s0 x.job at.0 at.1 at.2 ∙ ap Some made in
            let one : SeatAnswers seat (kept_deed_of x.act) x.reply =
            answer_made (kept_deed_of x.act) x.reply h0 at.0 r0 runs.0 at.1 runs.2 seat at.4 own in
            subst (λ (b : Bool). AllSeatsAnswer seat (cond b (step_of x ∷ steps_by job xs) (steps_by job xs)))
            (sym e.0) (one, seats_answer xs runs.0 h1 runs.1 s1 runs.2 r1 runs.4 job later next))
        | inr apart ↦ (let next : slice_get runs.1 job ≡ has_seat seat =
            ap (λ (s : List (Option HostSeat)). slice_get s job) at.3
            ∙ get-set_other s0 x.job job at.1 (λ q. apart.1 (sym q)) ∙ is in
            subst (λ (b : Bool). AllSeatsAnswer seat (cond b (step_of x ∷ steps_by job xs) (steps_by job xs)))
            (sym apart.0) (seats_answer xs runs.0 h1 runs.1 s1 runs.2 r1 runs.4 job seat next))
      ]

-- who has no seat gets none
none_made : {H : Type 0} (does : HostRelation H) (deed : Option Deed) (told : ActReply) (from : H)
    (was : Option HostSeat) (tables : Tables) (to : H) (now : Option HostSeat) (tables_after : Tables) →
    MadeFrom does deed told from was tables to now tables_after → was ≡ None → now ≡ None
none_made does deed told from None tables to None tables_after m is = refl
none_made does deed told from None tables to (Some seat) tables_after m is = absurd m
none_made does deed told from (Some seat) tables to now tables_after m is = absurd (cc)

pub nones_at : {H : Type 0} (does : HostRelation H) (xs : List TraceStep) (h0 h1 : H) (s0 s1 : List (Option HostSeat))
    (r0 r1 : Tables) → TraceRuns does xs h0 s0 r0 h1 s1 r1 → (job : ℕ) → slice_get s0 job ≡ Some None →
    slice_get s1 job ≡ Some None
nones_at does [] h0 h1 s0 s1 r0 r1 runs job is = ap (λ (s : List (Option HostSeat)). slice_get s job) runs.1 ∙ is
nones_at does (x ∷ xs) h0 h1 s0 s1 r0 r1 runs job is =
    let at = runs.3 in
    elim (eqb_tells x.job job) [
      | inl e ↦
          let own : at.0 ≡ None = same_Some at.0 None (sym at.2 ∙ ap (slice_get s0) e.1 ∙ is) in
          let made : at.1 ≡ None =
          none_made does (kept_deed_of x.act) x.reply h0 at.0 r0 runs.0 at.1 runs.2 at.4 own in
          nones_at does xs runs.0 h1 runs.1 s1 runs.2 r1 runs.4 job
          (ap (slice_get runs.1) (sym e.1) ∙ ap (λ (s : List (Option HostSeat)). slice_get s x.job) at.3
          ∙ get-set_same s0 x.job at.0 at.1 at.2 ∙ ap Some made)
      | inr apart ↦ nones_at does xs runs.0 h1 runs.1 s1 runs.2 r1 runs.4 job
          (ap (λ (s : List (Option HostSeat)). slice_get s job) at.3
          ∙ get-set_other s0 x.job job at.1 (λ q. apart.1 (sym q)) ∙ is)
    ]
