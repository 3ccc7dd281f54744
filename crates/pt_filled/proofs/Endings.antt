-- Proof. How a tree may be answered.
use Rattle.std.specs.Prelude.{if◌then◌else◌}
use Rattle.std.proofs.Common.{◌≢◌, ℕ, Bool, true, false, List, Option, Some, None, sym, subst, ◌∙◌}
use Rattle.pt_host.specs.Call.{Call}
use Rattle.pt_host.specs.Errno.{ebadf}
use Rattle.pt_host.specs.Flags.{includes, o_trunc}
use Rattle.pt_host.specs.declared.ids.Errno.{Errno}
use Rattle.pt_host.specs.declared.ids.Fd.{Fd}
use Rattle.pt_host.specs.declared.seat.HostSeat.{HostSeat}
use Rattle.pt_tables.specs.declared.form.RowForm.{RowForm}
use Rattle.pt_tables.specs.declared.form.RowForm.TheVariants.{File}
use Rattle.pt_tables.specs.declared.reply.Resolved.{Resolved}
use Rattle.pt_iface.specs.declared.answer.Answer.{Answer}
use Rattle.pt_iface.specs.declared.answer.Answer.TheVariants as answer
use Rattle.pt_frame.specs.Deed.{Deed}
use Rattle.pt_frame.specs.Tree.{RequestTree, Gives, Refuses, Asks, Opens, Bares, Brackets, Shuts, Allocates, go_on}
use Rattle.pt_frame.specs.Tree.{on}
use Rattle.pt_frame.specs.declared.hold.Hold.{Hold}
use Rattle.pt_frame.specs.declared.act.ActReply.{ActReply}
use Rattle.pt_req.specs.Capability.{cleared_if, drops_fsetid, without_fsetid}
use Rattle.pt_req.specs.Entries.{can_open}
use Rattle.pt_req.specs.Options.{cleaned, inode_flags}
use Rattle.pt_req.specs.Parts.{handled, open_form, open_num, open_row}
use Rattle.pt_req.specs.Steps.{drawn_in, fd_in, gone_in, inserted_in, ok_in, resolve, resolved_in, taken_in}
use Rattle.pt_req.specs.declared.begun.BegunSession.{BegunSession}
use Rattle.pt_req.specs.declared.plan.Plan.{Plan}
use Rattle.pt_plain.proofs.Walking.{refusal_is}
use Rattle.pt_filled.proofs.Hosting.{Full, Thread}
use Rattle.pt_filled.proofs.Threading.{Comes}

-- each answer that it gives is so
abbrev pub Ends : (Answer → Type 0) → RequestTree → Type 0
Ends Q (Gives given) = Q given
Ends Q (Refuses told) = Unit {0}
Ends Q (Asks deed next) = (told : ActReply) → Ends Q (next told)
Ends Q (Opens asked scope next) = (told : ActReply) → Ends Q (next told)
Ends Q (Bares rest) = Ends Q rest
Ends Q (Brackets rest) = Ends Q rest
Ends Q (Shuts passes rest) = Ends Q rest
Ends Q (Allocates made next) = Ends Q (next made)

-- a type of its own, from which the tree can be told
pub record Ending (Q : Answer → Type 0) (tree : RequestTree) : Type 0 where
  pub by : Ends Q tree

pub ends_with : (Q : Answer → Type 0) → ((errno : Errno) → Q (answer.Refused errno)) → (j : Thread) (tree : RequestTree)
    (w : Full) (last : Answer) (w' : Full) → last ≢ answer.NoMemory → Ends Q tree → Comes j tree w last w' → Q last
ends_with Q r j (Gives given) w last w' n e c = subst Q (sym c.0) e
ends_with Q r j (Refuses told) w last w' n e c =
    let x = refusal_is told (λ y. n (c.0 ∙ y)) in subst Q (sym (c.0 ∙ x.1)) (r x.0)
ends_with Q r j (Asks deed next) w last w' n e c = ends_with Q r j (next c.0) c.2 last w' n (e c.0) c.5
ends_with Q r j (Opens asked scope next) w last w' n e c = ends_with Q r j (next c.0) c.1 last w' n (e c.0) c.3
ends_with Q r j (Bares rest) w last w' n e c = ends_with Q r j rest c.0 last w' n e c.2
ends_with Q r j (Brackets rest) w last w' n e c = ends_with Q r j rest w last w' n e c
ends_with Q r j (Shuts passes rest) w last w' n e c = ends_with Q r j rest c.0 last w' n e c.2
ends_with Q r j (Allocates made next) w last w' n e c = ends_with Q r j (next made) w last w' n e c

module _ {Q : Answer → Type 0} where
  pub ending_ask : {V : Type 0} (deed : Deed) (read : ActReply → Option V) (next : V → RequestTree) →
      ((value : V) → Ending Q (next value)) → Ending Q (Asks deed (on read next))
  unfolding on go_on
  ending_ask {V} deed read next t = record { by = λ told. go told (read told) }
    where
      go : (told : ActReply) (value : Option V) → Ends Q (go_on next told value)
      go told (Some value) = (t value).by
      go told None = tt

  ending_scope : (asked : Call) (scope : Hold) (next : RequestTree) → Ending Q next →
      Ending Q (Opens asked scope (on ok_in (λ done. next)))
  unfolding on go_on
  ending_scope asked scope next t = record { by = λ told. go told (ok_in told) }
    where
      go : (told : ActReply) (value : Option (Unit {0})) → Ends Q (go_on (λ done. next) told value)
      go told (Some value) = t.by
      go told None = tt

  -- what is open gets a handle
  pub ending_handled : (session : BegunSession) (number : ℕ) (fd : Fd) (next : ℕ → RequestTree) →
      ((handle : ℕ) → Ending Q (next handle)) → Ending Q (handled session number fd next)
  ending_handled session number fd next t =
      ending_ask _ drawn_in _ (λ handle. ending_ask _ taken_in _ (λ done. ending_ask _ inserted_in (λ done. next handle)
      (λ done. t handle)))

  ending_without : (drops : Bool) (next : RequestTree) → Ending Q next → Ending Q (without_fsetid drops next)
  ending_without false next t = t
  ending_without true next t = ending_scope _ _ next t

  ending_cleared : (emptied : Bool) (name : Option (List ℕ)) (fd : Fd) (next : RequestTree) → Ending Q next →
      Ending Q (cleared_if emptied name fd next)
  ending_cleared false name fd next t = t
  ending_cleared true None fd next t = t
  ending_cleared true (Some name) fd next t = ending_ask _ gone_in (λ done. next) (λ done. t)

  ending_form : (form : RowForm) (flags : ℕ) (next : Fd → RequestTree) → ((fd : Fd) → Ending Q (next fd)) →
      Ending Q (open_form form flags next)
  ending_form (File fd) flags next t = ending_ask _ fd_in next t

  ending_unless : (is_good : Bool) (errno : Errno) (next : RequestTree) → Q (answer.Refused errno) → Ending Q next →
      Ending Q (if is_good then next else Gives (answer.Refused errno))
  ending_unless true errno next q t = t
  ending_unless false errno next q t = record { by = q }

  pub ending_open_num : (plan : Plan) (seat : HostSeat) (session : BegunSession) (number : ℕ) (kill : Bool) (flags : ℕ)
      (next : ℕ → RequestTree) → ((errno : Errno) → Q (answer.Refused errno)) →
      ((handle : ℕ) → Ending Q (next handle)) → Ending Q (open_num plan seat session number kill flags next)
  unfolding open_row
  ending_open_num plan seat session number kill flags next r t =
      record {
        by = (ending_without (drops_fsetid plan seat kill) opens (ending_ask _ resolved_in rows (λ row.
            ending_unless (can_open row.mode) ebadf (open_form row.form flags_in bares) (r ebadf)
            (ending_form row.form flags_in bares (λ fd. record {
              by = (ending_cleared (includes flags o_trunc) plan.capability fd
                  (handles fd) (ending_handled session number fd (λ handle. Shuts false (next handle)) (λ handle.
                  record { by = (t handle).by }))).by;
            }))))).by;
      }
    where
      flags_in : ℕ
      flags_in = inode_flags plan.config session.agreed (cleaned plan.config flags)

      handles : Fd → RequestTree
      handles fd = handled session number fd (λ handle. Shuts false (next handle))

      bares : Fd → RequestTree
      bares fd = Bares (cleared_if (includes flags o_trunc) plan.capability fd (handles fd))

      rows : Resolved → RequestTree
      rows row = open_row row flags_in bares

      opens : RequestTree
      opens = resolve number rows
