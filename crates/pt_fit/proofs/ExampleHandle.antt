-- A handle that a job inserted before it gave up is nobody's: memory that ran out is answered without one. And a tree
-- that may give up behind its insertion is none of a request's.
use Rattle.std.proofs.Common.{inl, ℕ, [], ◌∷◌, refl, arith}
use Rattle.pt_host.specs.Words.{is}
use Rattle.pt_host.specs.declared.ids.Fd.{Fd}
use Rattle.pt_tables.specs.declared.event.KeptEvent.TheVariants as change
use Rattle.pt_tables.specs.declared.reply.EventReply.TheVariants as event
use Rattle.pt_iface.specs.declared.answer.Answer.TheVariants as answer
use Rattle.pt_iface.specs.declared.flags.OpenOptions.{OpenOptions}
use Rattle.pt_frame.specs.Deed.{Changes, Step}
use Rattle.pt_frame.specs.Tree.{Gives, RequestTree, make_bytes, on, go_on}
use Rattle.pt_frame.specs.declared.act.ActReply.TheVariants.{Event}
use Rattle.pt_req.specs.Steps.{insert_handle, new_handle_of}
use Rattle.pt_req.specs.declared.begun.BegunSession.{BegunSession}
use Rattle.pt_law.specs.Branch.{GivesUpAfter}
use Rattle.pt_fit.specs.Handled.{KeepsHandle}
use Rattle.pt_fit.proofs.HandleParts.{Yields}
use Rattle.pt_law.specs.World.{made}

module _ (session : BegunSession) (number : ℕ) (fd : Fd) (options : OpenOptions) where
  -- handle 5
  abbrev inserting : Step
  inserting = made (Changes (change.InsertHandle (new_handle_of session.era 5 number fd))) (Event (event.Inserted 5))

  pub gave_up : KeepsHandle (inserting ∷ []) answer.NoMemory → ⊥
  unfolding is
  gave_up keeps = let five = keeps 5 in absurd (omega (arith, five))

  pub is_answered : KeepsHandle (inserting ∷ []) (answer.Opened 5 options)
  is_answered handle = omega arith

  -- what follows the insertion takes memory
  abbrev late : RequestTree
  late = insert_handle session 5 number fd (make_bytes [] (λ bytes. Gives (answer.Opened 5 options)))

  pub gives_up_late : GivesUpAfter late (inserting ∷ [])
  unfolding on go_on
  gives_up_late = (refl, inl (refl, refl))

  pub is_no_request : Yields late → ⊥
  unfolding is
  is_no_request yields =
      let five = yields.up (inserting ∷ []) gives_up_late 5 in absurd (omega (arith, five))
