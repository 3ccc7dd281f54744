-- What a job opens it has to close: a job that opened a root and did no more has not given back what it was given,
-- and one that closed what it had opened has. And what it gives back it was given before, and in that era: a count that
-- comes behind its own giving back is refused, though as many were given as given back.
use Rattle.std.proofs.Common.{◌≡◌, ◌⊎◌, inl, inr, ℕ, ◌+◌, ◌*◌, List, [], ◌∷◌, ◌++◌, None, refl, sym, subst, arith}
use Rattle.pt_host.specs.Words.{is}
use Rattle.pt_host.specs.declared.ids.Fd.{Fd}
use Rattle.pt_host.specs.declared.ids.ObjIds.{ObjIds}
use Rattle.pt_host.specs.declared.op.KeptHostOp.TheVariants as call
use Rattle.pt_host.specs.declared.reply.HostReply.TheVariants as host
use Rattle.pt_host.specs.declared.reply.HostValue.TheVariants as value
use Rattle.pt_tables.specs.declared.event.KeptEvent.TheVariants as change
use Rattle.pt_tables.specs.declared.reply.EventReply.TheVariants as event
use Rattle.pt_iface.specs.declared.answer.Answer.TheVariants as answer
use Rattle.pt_frame.specs.Deed.{Calls, Changes, Step}
use Rattle.pt_host.specs.Flags.{o_path}
use Rattle.pt_host.specs.declared.flags.OpenFlags.{OpenFlags}
use Rattle.pt_frame.specs.declared.act.ActReply.TheVariants.{Event, Host}
use Rattle.pt_frame.specs.declared.finish.Finish.TheVariants as finish
use Rattle.pt_frame.specs.declared.finish.Finish.{Finish}
use Rattle.pt_law.specs.Ledger.{summed, count_made, count_ended, fd_taken, fd_given}
use Rattle.pt_law.specs.Settled.{HasSettled, ReturnsGiven, entry_count}
use Rattle.pt_law.specs.World.{made}

abbrev fd : Fd
fd = record { 0 = 3 }

abbrev path : OpenFlags
path = record { 0 = o_path }

abbrev opening : Step
opening = made (Calls (call.OpenRoot (47 ∷ []) path)) (Host (host.Ok (value.Fd fd)))

abbrev closing : Step
closing = made (Calls (call.Close fd)) (Host (host.Ok value.Unit))

pub keeps_it : HasSettled (opening ∷ []) (finish.Answer answer.Done) → ⊥
unfolding is
keeps_it settled = let e = settled.fds 3 in absurd (omega (arith, e))

pub closes_it : (fd : ℕ) → summed (fd_taken fd) (opening ∷ closing ∷ [])
    ≡ summed (fd_given fd) (opening ∷ closing ∷ [])
closes_it fd = omega arith

-- a count of number 2

abbrev done : Finish
done = finish.Answer answer.Done

module _ (ids : ObjIds) where
  abbrev claiming : Step
  claiming = made (Changes (change.Claim (record { era = 0; handle = None; ids = ids })))
      (Event (event.Claimed (record { number = 2; class = 0 })))

  abbrev giving : ℕ → Step
  giving era = made (Changes (change.GiveBack era 2)) (Event (event.Done 0))

  abbrev too_soon : List Step
  too_soon = giving 0 ∷ claiming ∷ []

  abbrev in_turn : List Step
  in_turn = claiming ∷ giving 0 ∷ []

  -- it adds up
  pub adds_up : (era number : ℕ) →
      summed (count_made era number) too_soon
      ≡ summed (count_ended era number) too_soon + is 0 era * entry_count number done
  adds_up era number = omega arith

  -- but one was given back that was not given yet
  pub gives_too_soon : HasSettled too_soon done → ⊥
  unfolding is
  gives_too_soon settled =
      let c = (settled.in_order (giving 0 ∷ []) (claiming ∷ []) refl).counts 0 2 in absurd (omega (arith, c))

  -- in another era it is another count
  pub gives_in_another : HasSettled (claiming ∷ giving 1 ∷ []) done → ⊥
  unfolding is
  gives_in_another settled = let n = settled.numbers 0 2 in absurd (omega (arith, n))

  fronts : (front rest : List Step) → in_turn ≡ front ++ rest →
      (front ≡ []) ⊎ ((front ≡ claiming ∷ []) ⊎ (front ≡ in_turn))
  fronts [] rest e = inl refl
  fronts (one ∷ []) rest e = inr (inl cc)
  fronts (one ∷ other ∷ []) rest e = inr (inr cc)
  fronts (one ∷ other ∷ more ∷ front) rest e = absurd (cc)

  up_to : (front : List Step) → (front ≡ []) ⊎ ((front ≡ claiming ∷ []) ⊎ (front ≡ in_turn)) → ReturnsGiven front
  up_to front (inl e) = subst ReturnsGiven (sym e) (record {
    counts = λ era number. omega arith;
    pins = λ row. omega arith;
    handle_pins = λ row. omega arith;
    fds = λ fd. omega arith;
    closings = omega arith;
  })
  up_to front (inr (inl e)) = subst ReturnsGiven (sym e) (record {
    counts = λ era number. omega arith;
    pins = λ row. omega arith;
    handle_pins = λ row. omega arith;
    fds = λ fd. omega arith;
    closings = omega arith;
  })
  up_to front (inr (inr e)) = subst ReturnsGiven (sym e) (record {
    counts = λ era number. omega arith;
    pins = λ row. omega arith;
    handle_pins = λ row. omega arith;
    fds = λ fd. omega arith;
    closings = omega arith;
  })

  pub gives_in_turn : HasSettled in_turn done
  gives_in_turn = record {
    in_order = λ front rest e. up_to front (fronts front rest e);
    era = 0;
    numbers = λ era number. omega arith;
    pins = λ row. omega arith;
    handle_pins = λ row. omega arith;
    fds = λ fd. omega arith;
    closings = omega arith;
  }
