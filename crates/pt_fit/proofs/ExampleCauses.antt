-- Which steps show a refusal, and which do not: an error number that its request passes over shows none, nor do the
-- statuses of any two objects show that a name is stale.
use Rattle.std.proofs.Common.{◌≡◌, ◌∙◌, inl, inr, ℕ, List, [], ◌∷◌, false, true, refl, ap, sym}
use Rattle.std.specs.Ordering.{int_eq}
use Rattle.pt_host.specs.Errno.{ebadf, eexist, eio, einval, enfile, eperm, estale}
use Rattle.pt_host.specs.Flags.{o_excl}
use Rattle.pt_host.specs.declared.flags.Caps.{Caps}
use Rattle.pt_host.specs.declared.ids.Errno.{Errno}
use Rattle.pt_host.specs.declared.ids.Fd.{Fd}
use Rattle.pt_host.specs.declared.stat.Stat.{Stat}
use Rattle.pt_host.specs.declared.op.KeptHostOp.TheVariants as call
use Rattle.pt_host.specs.declared.reply.HostReply.TheVariants as host
use Rattle.pt_host.specs.declared.reply.HostValue.TheVariants as value
use Rattle.pt_tables.specs.declared.event.KeptEvent.TheVariants as change
use Rattle.pt_tables.specs.declared.reply.EventReply.TheVariants as event
use Rattle.pt_tables.specs.declared.reply.EventRefusal.TheVariants as refused
use Rattle.pt_iface.specs.declared.request.Context.{Context}
use Rattle.pt_iface.specs.declared.request.Extensions.{Extensions}
use Rattle.pt_iface.specs.declared.request.Request.TheVariants as request
use Rattle.pt_frame.specs.Deed.{Calls, Changes, Step}
use Rattle.pt_frame.specs.declared.act.ActReply.TheVariants.{Event, Host}
use Rattle.pt_req.specs.Options.{making_flags}
use Rattle.pt_req.specs.Parts.{by_path}
use Rattle.pt_req.specs.declared.plan.Plan.{Plan}
use Rattle.pt_attr.specs.Creating.{are_same}
use Rattle.pt_fit.specs.Cause.{Asking, HasCause, SomeShows, WasTold, asking}
use Rattle.pt_law.specs.World.{made}

abbrev fd : ℕ → Fd
fd number = record { 0 = number }

-- the letter a
abbrev name : List ℕ
name = 97 ∷ []

-- the call that makes the file, and the one that looks its name up
abbrev making : ℕ → Errno → Step
making flags errno = made (Calls (call.OpenAt (fd 3) name (making_flags flags) 420)) (Host (host.Refused errno))

abbrev leading : Errno → Step
leading errno = made (Calls (call.OpenAt (fd 3) name by_path 0)) (Host (host.Fault errno))

-- two error numbers differ where one is this and the other is not
differ : (one errno other : Errno) → int_eq one.0 errno.0 ≡ true → int_eq other.0 errno.0 ≡ false → one ≡ other → ⊥
differ one errno other is not e =
    let no : true ≡ false = sym is ∙ (ap (λ (n : Errno). int_eq n.0 errno.0) e ∙ not) in absurd (cc)

module _ (plan : Plan) (who : Context) (ext : Extensions) where
  abbrev creating : ℕ → Asking
  creating flags = asking plan who (request.Create 1 name 420 false flags 0 ext)

  -- That the name is there is passed over where the guest takes what is there: it is no cause of EEXIST.
  pub passed_over : HasCause (creating 0) (making 0 eexist ∷ []) eexist → ⊥
  passed_over (inl (inl (bad, is))) = differ eexist eexist einval refl refl is
  passed_over (inl (inr (barred, is))) = differ eexist eexist eperm refl refl is
  passed_over (inr (inl (inl shown))) = absurd (cc)
  passed_over (inr (inl (inr later))) = later
  passed_over (inr (inr (stale, is))) = differ eexist eexist estale refl refl is

  -- Where the guest takes a new file alone it is one, and so it is at the lookup of the name.
  pub new_alone : HasCause (creating o_excl) (making o_excl eexist ∷ []) eexist
  new_alone = inr (inl (inl refl))

  pub at_lookup : HasCause (creating 0) (making 0 eexist ∷ leading eexist ∷ []) eexist
  at_lookup = inr (inl (inr (inl refl)))

  -- another error number of the making call is
  pub not_made : HasCause (creating 0) (making 0 eio ∷ []) eio
  not_made = inr (inl (inl refl))

  -- what was made goes again, and that this is refused shows nothing
  abbrev going : Step
  going = made (Calls (call.Unlink (fd 3) name)) (Host (host.Refused eio))

  pub goes_again : SomeShows (creating 0) (going ∷ []) eio → ⊥
  goes_again (inl shown) = absurd (cc)
  goes_again (inr later) = later

  -- but it does where the name is taken away because the guest asks for it
  pub taken_away : HasCause (asking plan who (request.Unlink 1 name)) (going ∷ []) eio
  taken_away = inr (inl (inl refl))

  -- so do a node, a symbolic link and a directory
  pub node_goes_again : SomeShows (asking plan who (request.Mknod 1 name 420 0 0 ext)) (going ∷ []) eio → ⊥
  node_goes_again (inl shown) = absurd (cc)
  node_goes_again (inr later) = later

  pub link_goes_again : SomeShows (asking plan who (request.Symlink name 1 name ext)) (going ∷ []) eio → ⊥
  link_goes_again (inl shown) = absurd (cc)
  link_goes_again (inr later) = later

  abbrev emptying : Step
  emptying = made (Calls (call.RemoveDir (fd 3) name)) (Host (host.Refused eio))

  pub directory_goes_again : SomeShows (asking plan who (request.Mkdir 1 name 493 0 ext)) (emptying ∷ []) eio → ⊥
  directory_goes_again (inl shown) = absurd (cc)
  directory_goes_again (inr later) = later

  pub directory_taken_away : HasCause (asking plan who (request.Rmdir 1 name)) (emptying ∷ []) eio
  directory_taken_away = inr (inl (inl refl))

  -- an identity that cannot be taken on shows its error number
  pub not_taken_on : (id : ℕ) →
      HasCause (creating 0) (made (Calls (call.SetEuid id)) (Host (host.Fault eio)) ∷ []) eio
  not_taken_on id = inr (inl (inl refl))

  -- what ends a descriptor shows nothing, nor does a capability that is not raised
  pub closed : SomeShows (creating 0) (made (Calls (call.Close (fd 4))) (Host (host.Fault eio)) ∷ []) eio → ⊥
  closed (inl shown) = absurd (cc)
  closed (inr later) = later

  pub not_raised : (caps : Caps) →
      SomeShows (creating 0) (made (Calls (call.RaiseCap caps)) (Host (host.Refused eperm)) ∷ []) eperm → ⊥
  not_raised caps (inl shown) = absurd (cc)
  not_raised caps (inr later) = later

  -- a slot that was refused shows ENFILE, and one that is not taken back shows nothing
  pub no_slot :
      HasCause (creating 0) (made (Changes (change.TakeFd 0)) (Event (event.Refused refused.NoSlot)) ∷ []) enfile
  no_slot = inr (inl (inl refl))

  pub not_given :
      SomeShows (creating 0) (made (Changes (change.GiveFd 0)) (Event (event.Refused refused.NotLive)) ∷ []) ebadf → ⊥
  not_given (inl shown) = absurd (cc)
  not_given (inr later) = later

  module _ (one other : Stat) where
    -- Two descriptors are open on two objects, and the name led to neither: it is not stale.
    abbrev looking : List Step
    looking =
        made (Calls (call.Stat (fd 4))) (Host (host.Ok (value.Stat one)))
        ∷ made (Calls (call.Stat (fd 5))) (Host (host.Ok (value.Stat other))) ∷ []

    none_made : (dir : Fd) (new : Fd) → WasTold (call.OpenAt dir name (making_flags 0) 420) (value.Fd new) looking → ⊥
    none_made dir new (inl told) = absurd (cc (told.0))
    none_made dir new (inr (inl told)) = absurd (cc (told.0))
    none_made dir new (inr (inr later)) = later

    pub not_stale : HasCause (creating 0) looking estale → ⊥
    not_stale (inl (inl (bad, is))) = differ estale estale einval refl refl is
    not_stale (inl (inr (barred, is))) = differ estale estale eperm refl refl is
    not_stale (inr (inl (inl shown))) = shown
    not_stale (inr (inl (inr (inl shown)))) = shown
    not_stale (inr (inl (inr (inr later)))) = later
    not_stale (inr (inr ((ids, others, (dir, new, stat, opened, looked, are), found, apart), is))) =
        none_made dir new opened

    -- The name was made in the one, and led to the other.
    abbrev opening : List Step
    opening =
        made (Calls (call.OpenAt (fd 3) name (making_flags 0) 420)) (Host (host.Ok (value.Fd (fd 4))))
        ∷ made (Calls (call.OpenAt (fd 3) name by_path 0)) (Host (host.Ok (value.Fd (fd 5)))) ∷ looking

    pub stale : are_same one.ids other.ids ≡ false → HasCause (creating 0) opening estale
    stale apart = inr (inr (
      (
        one.ids,
        other.ids,
        (fd 3, fd 4, one, inl (refl, refl), inr (inr (inl (refl, refl))), refl),
        (fd 3, fd 5, other, inr (inl (refl, refl)), inr (inr (inr (inl (refl, refl)))), refl),
        apart,
      ),
      refl,
    ))
