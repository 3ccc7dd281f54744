-- Proof. Parts that leave contents, whatever is told.
use Rattle.std.specs.Prelude.{if◌then◌else◌}
use Rattle.std.proofs.Common.{◌≡◌, inl, inr, ℕ, List, Bool, true, false, Option, Some, None, refl, sym}
use Rattle.pt_host.specs.Call.{Call}
use Rattle.pt_host.specs.Errno.{ebadf}
use Rattle.pt_host.specs.LawfulContents.{empties}
use Rattle.pt_host.specs.declared.flags.OpenFlags.{OpenFlags}
use Rattle.pt_host.specs.declared.ids.Errno.{Errno}
use Rattle.pt_host.specs.declared.ids.Fd.{Fd}
use Rattle.pt_host.specs.declared.stat.Stat.{Stat}
use Rattle.pt_host.specs.declared.op.KeptHostOp.TheVariants as call
use Rattle.pt_host.specs.declared.reply.HostReply.TheVariants as host
use Rattle.pt_host.specs.declared.reply.HostValue.TheVariants as value
use Rattle.pt_tables.specs.Change.{Change}
use Rattle.pt_tables.specs.declared.form.RowForm.{RowForm}
use Rattle.pt_tables.specs.declared.form.RowForm.TheVariants.{File}
use Rattle.pt_tables.specs.declared.reply.Resolved.{Resolved}
use Rattle.pt_iface.specs.declared.answer.Answer.TheVariants as answer
use Rattle.pt_frame.specs.Deed.{Deed, Calls, Changes}
use Rattle.pt_frame.specs.Tree.{Asks, Brackets, Gives, RequestTree, Shuts, go_on, on}
use Rattle.pt_frame.specs.declared.act.ActReply.{ActReply}
use Rattle.pt_frame.specs.declared.act.ActReply.TheVariants.{Event, Host, NoCopy}
use Rattle.pt_req.specs.Entries.{can_open}
use Rattle.pt_req.specs.Options.{without_nofollow}
use Rattle.pt_req.specs.Parts.{by_path, file_of, handled, look_up, looked_of, numbered, numbered_as, open_form}
use Rattle.pt_req.specs.Parts.{open_row}
use Rattle.pt_req.specs.Steps.{claimed_in, drawn_in, fd_in, inserted_in, numbered_in, ok_in, resolved_in, stat}
use Rattle.pt_req.specs.Steps.{stat_in, take_fd, taken_in}
use Rattle.pt_req.specs.declared.begun.BegunSession.{BegunSession}
use Rattle.pt_req.specs.declared.parts.looked.Looked.{Looked}
use Rattle.pt_req.specs.declared.plan.Plan.{Plan}
use Rattle.pt_attr.specs.Parts.{file_by}
use Rattle.pt_attr.specs.Steps.{do_call}
use Rattle.pt_plain.proofs.Stilling.{IsStill}
use Rattle.pt_filled.proofs.Parts.{Leaves, Throughout, leaves_read}

-- it leaves contents throughout; a type of its own, from which the tree can be told
pub record Leaving (tree : RequestTree) : Type 0 where
  pub by : Throughout Leaves tree

pub leaving_ends : {last : _} → Leaving (Gives last)
leaving_ends = record { by = tt }

pub leaving_ask : {V : Type 0} (deed : Deed) (read : ActReply → Option V) (next : V → RequestTree) →
    ((told : ActReply) → Leaves deed told) → ((value : V) → Leaving (next value)) → Leaving (Asks deed (on read next))
unfolding on go_on
leaving_ask {V} deed read next l t = record { by = λ told. (l told, go told (read told)) }
  where
    go : (told : ActReply) (value : Option V) → Throughout Leaves (go_on next told value)
    go told (Some value) = (t value).by
    go told None = tt

-- an event changes no contents
pub leaving_event : {V : Type 0} (asked : Change) (read : ActReply → Option V) (next : V → RequestTree) →
    ((value : V) → Leaving (next value)) → Leaving (Asks (Changes asked) (on read next))
leaving_event asked read next t = leaving_ask (Changes asked) read next (λ told. tt) t

pub leaving_call : (asked : Call) (next : RequestTree) → ((told : ActReply) → Leaves (Calls asked) told) →
    Leaving next → Leaving (do_call asked next)
leaving_call asked next l t = leaving_ask (Calls asked) ok_in (λ done. next) l (λ done. t)

pub leaving_file : (form : RowForm) (next : Fd → RequestTree) → ((fd : Fd) → Leaving (next fd)) →
    Leaving (file_of form next)
leaving_file (File fd) next t = t fd

pub leaving_by : (number : ℕ) (next : Fd → RequestTree) → ((fd : Fd) → Leaving (next fd)) → Leaving (file_by number
    next)
leaving_by number next t = leaving_event _ resolved_in _ (λ row. leaving_file row.form next t)

pub leaving_unless : (is_good : Bool) (errno : Errno) (next : RequestTree) → Leaving next →
    Leaving (if is_good then next else Gives (answer.Refused errno))
leaving_unless true errno next t = t
leaving_unless false errno next t = record { by = tt }

pub leaving_if : (is_bad : Bool) (errno : Errno) (next : RequestTree) → Leaving next →
    Leaving (if is_bad then Gives (answer.Refused errno) else next)
leaving_if false errno next t = t
leaving_if true errno next t = record { by = tt }

pub leaving_either : (first : Bool) (one other : RequestTree) → Leaving one → Leaving other →
    Leaving (if first then one else other)
leaving_either true one other a b = a
leaving_either false one other a b = b

pub stat_leaves : (fd : Fd) (told : ActReply) → Leaves (Calls (call.Stat fd)) told
stat_leaves fd = leaves_read (call.Stat fd) still (λ told tree after object no. no)
  where
    still : (told : ActReply) → IsStill (Calls (call.Stat fd)) told
    still (Host told) = tt
    still (Event told) = tt
    still NoCopy = tt

pub leaving_stat : (fd : Fd) (next : Stat → RequestTree) → ((told : Stat) → Leaving (next told)) →
    Leaving (stat fd next)
leaving_stat fd next t = leaving_ask (Calls (call.Stat fd)) stat_in next (stat_leaves fd) t

no_true : (b : Bool) → b ≡ false → b ≡ true → ⊥
no_true b e f = cc

-- what is opened anew is not emptied
pub reopen_leaves : (fd : Fd) (flags : OpenFlags) → empties flags ≡ false → (told : ActReply) →
    Leaves (Calls (call.Reopen fd flags)) told
reopen_leaves fd flags e (Host (host.Ok (value.Fd new))) = (tt, λ tree after object m. no_true (empties flags) e m.0)
reopen_leaves fd flags e (Host (host.Ok told)) = (tt, λ tree after object no. no)
reopen_leaves fd flags e (Host (host.Refused errno)) = (tt, tt)
reopen_leaves fd flags e (Host (host.Fault errno)) = (tt, tt)
reopen_leaves fd flags e (Host host.NoMemory) = (tt, tt)
reopen_leaves fd flags e (Event told) = (tt, tt)
reopen_leaves fd flags e NoCopy = (tt, tt)

leaving_form : (form : RowForm) (flags : ℕ) (next : Fd → RequestTree) → empties (without_nofollow flags) ≡ false →
    ((fd : Fd) → Leaving (next fd)) → Leaving (open_form form flags next)
leaving_form (File fd) flags next e t =
    leaving_ask (Calls (call.Reopen fd (without_nofollow flags))) fd_in next (reopen_leaves fd (without_nofollow
    flags) e) t

pub leaving_row : (row : Resolved) (flags : ℕ) (next : Fd → RequestTree) → empties (without_nofollow flags) ≡ false →
    ((fd : Fd) → Leaving (next fd)) → Leaving (open_row row flags next)
unfolding open_row
leaving_row row flags next e t =
    leaving_unless (can_open row.mode) ebadf (open_form row.form flags next) (leaving_form row.form flags next e t)

pub named_leaves : (dir : Fd) (name : List ℕ) (told : ActReply) → Leaves (Calls (call.OpenAt dir name by_path 0)) told
named_leaves dir name (Host (host.Ok (value.Fd fd))) = (
  inr refl,
  λ tree after object m. (elim m [
    | inl e ↦ (let x : true ≡ false = sym e.0 in absurd (cc))
    | inr e ↦ (let x : true ≡ false = sym e.0 in absurd (cc))
  ]),
)
named_leaves dir name (Host (host.Ok told)) = (inr refl, λ tree after object no. no)
named_leaves dir name (Host (host.Refused errno)) = (inr refl, tt)
named_leaves dir name (Host (host.Fault errno)) = (inr refl, tt)
named_leaves dir name (Host host.NoMemory) = (inr refl, tt)
named_leaves dir name (Event told) = (tt, tt)
named_leaves dir name NoCopy = (tt, tt)

pub leaving_take : (next : RequestTree) → Leaving next → Leaving (take_fd next)
leaving_take next t = leaving_event _ taken_in (λ done. next) (λ done. t)

leaving_numbered_as : (session : BegunSession) (form : RowForm) (told : Stat) (given : Option ℕ)
    (next : ℕ → RequestTree) → ((number : ℕ) → Leaving (next number)) →
    Leaving (numbered_as session form told given next)
leaving_numbered_as session form told None next t =
    leaving_take _ (leaving_event _ drawn_in _ (λ fresh. leaving_event _ numbered_in next t))
leaving_numbered_as session form told (Some number) next t = t number

pub leaving_numbered : (session : BegunSession) (form : RowForm) (told : Stat) (next : ℕ → RequestTree) →
    ((number : ℕ) → Leaving (next number)) → Leaving (numbered session form told next)
leaving_numbered session form told next t =
    leaving_event _ claimed_in _ (λ given. leaving_numbered_as session form told given next t)

pub leaving_brackets : {next : RequestTree} → Leaving next → Leaving (Brackets next)
leaving_brackets t = record { by = t.by }

pub leaving_shuts : (passes : Bool) {next : RequestTree} → Leaving next → Leaving (Shuts passes next)
leaving_shuts passes t = record { by = t.by }

pub leaving_look_up : (plan : Plan) (session : BegunSession) (parent : ℕ) (name : List ℕ)
    (next : Looked → RequestTree) → ((looked : Looked) → Leaving (next looked)) →
    Leaving (look_up plan session parent name next)
unfolding look_up
leaving_look_up plan session parent name next t =
    leaving_brackets (leaving_event _ resolved_in _ (λ directory. leaving_file directory.form _ (λ dir.
    leaving_ask (Calls (call.OpenAt dir name by_path 0)) fd_in _ (named_leaves dir name) (λ fd.
    leaving_stat fd _ (λ told. leaving_numbered session (File fd) told _ (λ number.
    leaving_shuts true (t (looked_of plan session directory.ids told number))))))))

pub leaving_handled : (session : BegunSession) (number : ℕ) (fd : Fd) (next : ℕ → RequestTree) →
    ((handle : ℕ) → Leaving (next handle)) → Leaving (handled session number fd next)
leaving_handled session number fd next t =
    leaving_event _ drawn_in _ (λ handle. leaving_take _ (leaving_event _ inserted_in (λ done. next handle) (λ done.
    t handle)))
