-- A job that has finished needs its machine no more: the last machine goes where it lay, and is found there.
use Rattle.std.proofs.Common.{◌≡◌, ◌≢◌, ◌<◌, ◌≤◌, ◌+◌, ◌∙◌, inl, inr, ℕ, List, Some, true, refl, ap, sym, subst}
use Rattle.std.proofs.Common.{length, get_or, slice_get, slice_set, arith}
use Rattle.std.proofs.lemmas.Bool.{cases_eq}
use Rattle.std.proofs.lemmas.List.{length-set}
use Rattle.std.proofs.lemmas.Option.{same_Some, slice_get_within, get_or_from_slice_get}
use Rattle.pt_host.specs.declared.seat.HostSeat.{HostSeat}
use Rattle.pt_frame.specs.Grammar.{End}
use Rattle.pt_job.specs.Machine.Job.{owes as job_owes, is_finished as is_job_over, lost_of as job_lost}
use Rattle.pt_req.specs.declared.plan.Plan.{Plan}
use Rattle.pt_fs.specs.Laid.{Kept, Laid, AllGo, GoElsewhere, StaysAsIs, Settles, found_state, state_at, states_in}
use Rattle.pt_fs.specs.Laid.{still}
use Rattle.pt_fs.specs.Placed.{JobPlace, Waits, Goes, Ended as Ends}
use Rattle.pt_fs.specs.Running.{Goes as On}
use Rattle.pt_fs.specs.declared.machine.Machine.{Machine}
use Rattle.pt_fs.specs.declared.machine.Over.{Over}
use Rattle.pt_fs.proofs.Lists.{TakenOut, get-set_same, get-set_other, map_but}
use Rattle.pt_fs.proofs.Laying.{apart, goes_one, still-set}

-- The machine of this index is that of this place; `on` are the machines behind that.
module _ {places : List JobPlace} {going : List Machine} (laid : Laid places going) (place index : ℕ)
    (own : slice_get places place ≡ Some (Goes index)) where
  -- another place has another machine
  elsewhere : (j s : ℕ) → j ≢ place → slice_get places j ≡ Some (Goes s) → s ≢ index
  elsewhere j s other at e =
      other (apart laid place j index own (at ∙ ap (λ (n : ℕ). Some (Goes n)) e))

  -- and another machine is of another place
  not_own : (s : ℕ) (it : Machine) → s ≢ index → slice_get going s ≡ Some it → it.id.0 ≢ place
  not_own s it other at e =
      other (goes_one s index (same_Some (Goes s) (Goes index)
      (sym (laid.back s it at) ∙ ap (slice_get places) e ∙ own)))

  module _ (over : Over) {on : List Machine} (out : TakenOut going index on) where
    abbrev pub first_set : List JobPlace
    first_set = slice_set places place (Ends over)

    -- Its machine was the last.
    module _ (last : index ≡ length on) where
      kept : (s : ℕ) → s < length on → slice_get on s ≡ slice_get going s
      kept s low = out.others s (λ e. absurd (omega (arith, e, last, low))) low

      still_there : (j s : ℕ) → j ≢ place → slice_get places j ≡ Some (Goes s) →
          (it : Machine) × (slice_get on s ≡ Some it) × (slice_get going s ≡ Some it) × (it.id.0 ≡ j)
      still_there j s other at =
          let was = laid.there j s at in
          let not = elsewhere j s other at in
          let inside = slice_get_within going s was.0 was.1 in
          let few = out.fewer in
          (was.0, kept s (omega (arith, few, last, not, inside)) ∙ was.1, was.1, was.2)

      last_laid : Laid first_set on
      last_laid = record {
        there = λ j s at. elim (cases_eq j place) [
          | inl same ↦
              let no = sym (get-set_same places place (Goes index) (Ends over) own)
              ∙ ap (slice_get first_set) (sym same) ∙ at in absurd (cc)
          | inr other ↦
              let it = still_there j s other (sym (get-set_other places place j (Ends over) other) ∙ at) in
              (it.0, it.1, it.3)
        ];
        back = λ s it at.
            let inside = slice_get_within on s it at in
            let was = sym (kept s inside) ∙ at in
            get-set_other places place it.id.0 (Ends over)
            (not_own s it (λ e. absurd (omega (arith, inside, e, last))) was) ∙ laid.back s it was;
      }

      pub last_runs : states_in first_set on ≡ slice_set (states_in places going) place (state_at on (Ends over))
      last_runs = map_but places first_set (state_at going) (state_at on) place
          (state_at on (Ends over)) (length-set places place (Ends over))
          (λ p at. ap (state_at on) (same_Some p (Ends over)
          (sym at ∙ get-set_same places place (Goes index) (Ends over) own)))
          (λ j p q other at now.
          let is : p ≡ q = same_Some p q (sym at ∙ sym (get-set_other places place j (Ends over) other) ∙ now) in
          ap (state_at on) (sym is) ∙ same j p other at)
        where
          same : (j : ℕ) (p : JobPlace) → j ≢ place → slice_get places j ≡ Some p → state_at on p ≡ state_at going p
          same j (Waits job) other at = refl
          same j (Ends done) other at = refl
          same j (Goes s) other at =
              let it = still_there j s other at in ap found_state (it.1 ∙ sym it.2)

      pub last_kept : {room : ℕ} → GoElsewhere index going → still places + length going ≤ room →
          Kept first_set on room
      last_kept goes fits =
          let sums = still-set places place (Goes index) (Ends over) own in
          let few = out.fewer in
          record {
            laid = last_laid;
            all_go = λ s it at.
                let inside = slice_get_within on s it at in
                goes s it (λ e. absurd (omega (arith, inside, e, last))) (sym (kept s inside) ∙ at);
            fit = omega (arith, sums, fits, few);
          }

    -- It was not, and the last one is moved to where it was.
    module _ (moved : Machine) (inside : index < length on) (in_place : slice_get on index ≡ Some moved) where
      abbrev pub both_set : List JobPlace
      both_set = slice_set first_set moved.id.0 (Goes index)

      top : slice_get going (length on) ≡ Some moved
      top = sym (out.last inside) ∙ in_place

      top_at : slice_get places moved.id.0 ≡ Some (Goes (length on))
      top_at = laid.back (length on) moved top

      top_other : moved.id.0 ≢ place
      top_other = not_own (length on) moved (λ e. absurd (omega (arith, e, inside))) top

      at_place : slice_get both_set place ≡ Some (Ends over)
      at_place = get-set_other first_set moved.id.0 place (Goes index) (λ e. top_other (sym e))
          ∙ get-set_same places place (Goes index) (Ends over) own

      pub moved_was : slice_get first_set moved.id.0 ≡ Some (Goes (length on))
      moved_was = get-set_other places place moved.id.0 (Ends over) top_other ∙ top_at

      at_moved : slice_get both_set moved.id.0 ≡ Some (Goes index)
      at_moved = get-set_same first_set moved.id.0 (Goes (length on)) (Goes index) moved_was

      at_else : (j : ℕ) → j ≢ place → j ≢ moved.id.0 → slice_get both_set j ≡ slice_get places j
      at_else j other another = get-set_other first_set moved.id.0 j (Goes index) another
          ∙ get-set_other places place j (Ends over) other

      stays_there : (j s : ℕ) → j ≢ place → j ≢ moved.id.0 → slice_get places j ≡ Some (Goes s) →
          (it : Machine) × (slice_get on s ≡ Some it) × (slice_get going s ≡ Some it) × (it.id.0 ≡ j)
      stays_there j s other another at =
          let was = laid.there j s at in
          let not = elsewhere j s other at in
          let low : s ≢ length on = λ e.
          another (sym was.2 ∙ ap (λ (g : Machine). g.id.0) (same_Some was.0 moved
          (sym was.1 ∙ ap (slice_get going) e ∙ top))) in
          let within = slice_get_within going s was.0 was.1 in
          let few = out.fewer in
          (was.0, out.others s not (omega (arith, few, low, within)) ∙ was.1, was.1, was.2)

      moved_laid : Laid both_set on
      moved_laid = record {
        there = λ j s at. elim (cases_eq j place) [
          | inl same ↦
              let no = sym at_place ∙ ap (slice_get both_set) (sym same) ∙ at in absurd (cc)
          | inr other ↦ elim (cases_eq j moved.id.0) [
            | inl same ↦
                let is : index ≡ s = goes_one index s (same_Some (Goes index) (Goes s)
                (sym at_moved ∙ ap (slice_get both_set) (sym same) ∙ at)) in
                (moved, ap (slice_get on) (sym is) ∙ in_place, sym same)
            | inr another ↦
                let it = stays_there j s other another (sym (at_else j other another) ∙ at) in
                (it.0, it.1, it.3)
          ]
        ];
        back = λ s it at. elim (cases_eq s index) [
          | inl same ↦
              let is : moved ≡ it = same_Some moved it (sym in_place ∙ ap (slice_get on) (sym same) ∙ at) in
              ap (slice_get both_set) (ap (λ (g : Machine). g.id.0) (sym is)) ∙ at_moved
              ∙ ap (λ (n : ℕ). Some (Goes n)) (sym same)
          | inr not ↦
              let low = slice_get_within on s it at in
              let was = sym (out.others s not low) ∙ at in
              let named = laid.back s it was in
              at_else it.id.0 (not_own s it not was) (λ e.
              let is = goes_one s (length on) (same_Some (Goes s) (Goes (length on))
              (sym named ∙ ap (slice_get places) e ∙ top_at)) in absurd (omega (arith, is, low))) ∙ named
        ];
      }

      pub moved_runs : states_in both_set on ≡ slice_set (states_in places going) place (state_at on (Ends over))
      moved_runs = map_but places both_set (state_at going) (state_at on) place (state_at on (Ends over))
          (length-set first_set moved.id.0 (Goes index) ∙ length-set places place (Ends over))
          (λ p at. ap (state_at on) (same_Some p (Ends over) (sym at ∙ at_place)))
          (λ j p q other at now. elim (cases_eq j moved.id.0) [
            | inl same ↦
                let was : Goes (length on) ≡ p = same_Some (Goes (length on)) p
                (sym top_at ∙ ap (slice_get places) (sym same) ∙ at) in
                let is : Goes index ≡ q = same_Some (Goes index) q
                (sym at_moved ∙ ap (slice_get both_set) (sym same) ∙ now) in
                ap (state_at on) (sym is) ∙ ap found_state (in_place ∙ sym top) ∙ ap (state_at going) was
            | inr another ↦
                let is : p ≡ q = same_Some p q (sym at ∙ sym (at_else j other another) ∙ now) in
                ap (state_at on) (sym is) ∙ same j p other another at
          ])
        where
          same : (j : ℕ) (p : JobPlace) → j ≢ place → j ≢ moved.id.0 → slice_get places j ≡ Some p →
              state_at on p ≡ state_at going p
          same j (Waits job) other another at = refl
          same j (Ends done) other another at = refl
          same j (Goes s) other another at =
              let it = stays_there j s other another at in ap found_state (it.1 ∙ sym it.2)

      moved_goes : GoElsewhere index going → AllGo on
      moved_goes goes s it at = elim (cases_eq s index) [
        | inl same ↦
            let is : moved ≡ it = same_Some moved it (sym in_place ∙ ap (slice_get on) (sym same) ∙ at) in
            ap (λ (g : Machine). is_job_over g.state) (sym is)
            ∙ goes (length on) moved (λ e. absurd (omega (arith, e, inside))) top
        | inr not ↦
            let low = slice_get_within on s it at in
            goes s it not (sym (out.others s not low) ∙ at)
      ]

      pub moved_kept : {room : ℕ} → GoElsewhere index going → still places + length going ≤ room →
          Kept both_set on room
      moved_kept goes fits =
          let first = still-set places place (Goes index) (Ends over) own in
          let second = still-set first_set moved.id.0 (Goes (length on)) (Goes index) moved_was in
          let few = out.fewer in
          record { laid = moved_laid; all_go = moved_goes goes; fit = omega (arith, first, second, fits, few) }

  -- What is left of the machine that was taken out is where its job has ended.
  module _ (taken : Machine) (read : taken ≡ get_or going index taken)
      (ended : (it : Machine) → slice_get going index ≡ Some it → is_job_over it.state ≡ true) where
    its : (it : Machine) × (slice_get going index ≡ Some it) × (it.id.0 ≡ place)
    its = laid.there place index own

    is_its : taken ≡ its.0
    is_its = read ∙ get_or_from_slice_get going index its.0 taken its.1

    pub taken_over : is_job_over taken.state ≡ true
    taken_over = ap (λ (g : Machine). is_job_over g.state) is_its ∙ ended its.0 its.1

    pub settles_over : (over : Over) →
        ((plan : Plan) (from : HostSeat) → job_owes plan from taken.state ≡ End over.last) →
        over.lost ≡ job_lost taken.state → (places' : List JobPlace) (on : List Machine) →
        states_in places' on ≡ slice_set (states_in places going) place (state_at on (Ends over)) →
        Settles places going place index places' on
    settles_over over left lost places' on runs =
        let stays : StaysAsIs (On taken.state) (state_at on (Ends over)) = record {
          left = λ plan from. sym (left plan from);
          finished = sym taken_over;
          lost = lost;
          fewer = omega arith;
          bound = omega arith;
          inserts = omega arith;
        } in
        record {
          it = its.0;
          state = state_at on (Ends over);
          was = its.1;
          stays = subst (λ (g : Machine). StaysAsIs (On g.state) (state_at on (Ends over))) is_its stays;
          runs = runs;
        }
