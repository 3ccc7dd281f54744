-- The requests on what files hold are fit.
use Rattle.std.proofs.Common.{◌∷◌, [], inl, inr, ℕ, Bool, false, List, refl, subst, sym}
use Rattle.std.specs.Int.{w64, cast_signed}
use Rattle.pt_host.specs.Words.{Takes.{here, there}}
use Rattle.pt_host.specs.declared.ids.Fd.{Fd}
use Rattle.pt_host.specs.declared.op.KeptHostOp.TheVariants as call
use Rattle.pt_host.specs.declared.reply.HostValue.TheVariants as value
use Rattle.pt_host.specs.declared.seat.HostSeat.{HostSeat}
use Rattle.pt_iface.specs.declared.answer.Answer.TheVariants as answer
use Rattle.pt_iface.specs.declared.request.Context.{Context}
use Rattle.pt_iface.specs.declared.request.Request.TheVariants as request
use Rattle.pt_frame.specs.declared.hold.Hold.{Hold}
use Rattle.pt_frame.specs.declared.hold.Hold.TheVariants as hold
use Rattle.pt_req.specs.Capability.{drops_fsetid}
use Rattle.pt_req.specs.Options.{o_nofollow}
use Rattle.pt_req.specs.declared.plan.Plan.{Plan}
use Rattle.pt_attr.specs.Contents.{appends, copyfilerange, fallocate, flush, fsync, lseek, syncfs, write}
use Rattle.pt_law.specs.Discipline.{Knows, blank}
use Rattle.pt_law.specs.Keeps.{unscoped}
use Rattle.pt_fit.specs.Cause.{Asking, asking}
use Rattle.pt_fit.proofs.Calling.{TellsCount, fit_count_of, fit_do_call}
use Rattle.pt_fit.proofs.Holds.{nothing_bare, over, unscoped_over}
use Rattle.pt_fit.proofs.Joined.{fit_gives, fit_open_inode}
use Rattle.pt_fit.proofs.Parts.{FitOn, fit_begin, fit_pin_handle, fit_place}
use Rattle.pt_fit.proofs.Scopes.{fit_bares, fit_cleared, fit_without_fsetid}
use Rattle.pt_req.specs.Steps.{begin}

-- the handle's descriptor is pinned, also under the scope of the capability
pinned : (dropped : Bool) (row : ℕ) (fd : Fd) → Knows (unscoped (over dropped (hold.HandlePin row fd ∷ []))) fd
pinned dropped row fd =
    subst (λ (all : List Hold). Knows all fd) (sym (unscoped_over dropped (hold.HandlePin row fd ∷ [])))
    (hold.HandlePin row fd, _, here, refl)

pub fit_write : (plan : Plan) (seat : HostSeat) (who : Context) (inode handle offset : ℕ) (bytes : List ℕ)
    (delayed kill : Bool) (flags : ℕ) →
    FitOn (asking plan who (request.Write inode handle offset bytes delayed kill flags)) []
    (begin (write plan seat inode handle offset bytes delayed kill flags)) [] [] blank
fit_write plan seat who inode handle offset bytes delayed kill flags =
    let dropped = drops_fsetid plan seat kill in
    fit_begin _ refl (λ session.
    fit_place offset _ (λ bad. (bad, refl))
    (fit_pin_handle handle inode _ nothing_bare (λ row fd.
    fit_without_fsetid dropped _ (
    fit_cleared plan.capability fd false _ (pinned dropped row fd) (
    fit_count_of (call.WriteAt fd offset bytes (appends delayed flags)) _ (only fd)
    (record { holds = λ told these. refl; notes = λ told these. refl })
    ((pinned dropped row fd, tt), tt) (λ errno. refl) (λ count.
    fit_bares dropped _ (λ one. refl) (
    fit_gives (answer.Wrote count) (λ path. (tt, tt, tt)))))))))
  where
    only : (fd : Fd) → TellsCount (call.WriteAt fd offset bytes (appends delayed flags))
    only fd (value.Count count) f = tt
    only fd told f = absurd f

pub fit_fallocate : (plan : Plan) (who : Context) (inode handle mode offset length : ℕ) →
    FitOn (asking plan who (request.Fallocate inode handle mode offset length)) []
    (begin (fallocate inode handle mode offset length)) [] [] blank
fit_fallocate plan who inode handle mode offset length = fit_begin _ refl (λ session.
    fit_place offset _ (λ bad. (inl bad, refl))
    (fit_place length _ (λ bad. (inr bad, refl))
    (fit_pin_handle handle inode _ nothing_bare (λ row fd.
    fit_do_call (call.Allocate fd mode offset length) _
    (record { holds = λ told these. refl; notes = λ told these. refl })
    (((hold.HandlePin row fd, _, here, refl), tt), tt) (λ errno. refl)
    (fit_gives answer.Done (λ path. (tt, tt, tt)))))))

pub fit_lseek : (asked : Asking) (inode handle offset whence : ℕ) →
    FitOn asked [] (begin (lseek inode handle offset whence)) [] [] blank
fit_lseek asked inode handle offset whence = fit_begin _ refl (λ session.
    fit_pin_handle handle inode _ nothing_bare (λ row fd.
    fit_count_of (call.Seek fd (cast_signed w64 offset) whence) _ (only fd)
    (record { holds = λ told these. refl; notes = λ told these. refl })
    (((hold.HandlePin row fd, _, here, refl), tt), tt) (λ errno. refl) (λ place.
    fit_gives (answer.Offset place) (λ path. (tt, tt, tt)))))
  where
    only : (fd : Fd) → TellsCount (call.Seek fd (cast_signed w64 offset) whence)
    only fd (value.Count count) f = tt
    only fd told f = absurd f

-- both handles' descriptors are pinned
pub fit_copyfilerange : (plan : Plan) (who : Context)
    (inode handle offset inode2 handle2 offset2 length flags : ℕ) →
    FitOn (asking plan who (request.CopyFileRange inode handle offset inode2 handle2 offset2 length flags)) []
    (begin (copyfilerange inode handle offset inode2 handle2 offset2 length flags)) [] [] blank
fit_copyfilerange plan who inode handle offset inode2 handle2 offset2 length flags = fit_begin _ refl (λ session.
    fit_place offset _ (λ bad. (inl bad, refl))
    (fit_place offset2 _ (λ bad. (inr (inl bad), refl))
    (fit_place length _ (λ bad. (inr (inr bad), refl))
    (fit_pin_handle handle inode _ nothing_bare (λ one from.
    fit_pin_handle handle2 inode2 _ (λ top. refl) (λ other to.
    fit_count_of (call.CopyRange from offset to offset2 length flags) _ (only from to)
    (record { holds = λ told these. refl; notes = λ told these. refl }) (
      (
        (hold.HandlePin one from, _, there here, refl),
        ((hold.HandlePin other to, _, here, refl), tt),
      ),
      tt,
    ) (λ errno. refl) (λ count.
    fit_gives (answer.Wrote count) (λ path. (tt, tt, tt)))))))))
  where
    only : (from to : Fd) → TellsCount (call.CopyRange from offset to offset2 length flags)
    only from to (value.Count count) f = tt
    only from to told f = absurd f

pub fit_flush : (asked : Asking) (inode handle : ℕ) → FitOn asked [] (begin (flush inode handle)) [] [] blank
fit_flush asked inode handle = fit_begin _ refl (λ session.
    fit_pin_handle handle inode _ nothing_bare (λ row fd.
    fit_do_call (call.Flush fd) _ (record { holds = λ told these. refl; notes = λ told these. refl })
    (((hold.HandlePin row fd, _, here, refl), tt), tt) (λ errno. refl)
    (fit_gives answer.Done (λ path. (tt, tt, tt)))))

pub fit_fsync : (asked : Asking) (inode handle : ℕ) (datasync : Bool) →
    FitOn asked [] (begin (fsync inode handle datasync)) [] [] blank
fit_fsync asked inode handle datasync = fit_begin _ refl (λ session.
    fit_pin_handle handle inode _ nothing_bare (λ row fd.
    fit_do_call (call.Sync fd datasync) _ (record { holds = λ told these. refl; notes = λ told these. refl })
    (((hold.HandlePin row fd, _, here, refl), tt), tt) (λ errno. refl)
    (fit_gives answer.Done (λ path. (tt, tt, tt)))))

-- by a descriptor of the request's own
pub fit_syncfs : (plan : Plan) (who : Context) (inode : ℕ) →
    FitOn (asking plan who (request.SyncFs inode)) [] (begin (syncfs plan inode)) [] [] blank
fit_syncfs plan who inode = fit_begin _ refl (λ session.
    fit_open_inode false plan session inode o_nofollow _ tt nothing_bare (λ row dir fd.
    fit_do_call (call.SyncFs fd) _ (record { holds = λ told these. refl; notes = λ told these. refl })
    (((hold.Fd fd, _, here, refl), tt), tt) (λ errno. refl)
    (fit_gives answer.Done (λ path. (tt, tt, tt)))))
