-- The objects that are made under a name, by their kinds: what they have in common.
use Rattle.std.proofs.Common.{ℕ, Bool, false, List, Option}
use Rattle.std.specs.List.{list_any}
use Rattle.pt_host.specs.Call.{Call}
use Rattle.pt_host.specs.declared.ids.Fd.{Fd}
use Rattle.pt_host.specs.declared.op.KeptHostOp.TheVariants as call
use Rattle.pt_host.specs.declared.seat.HostSeat.{HostSeat}
use Rattle.pt_frame.specs.Tree.{RequestTree}
use Rattle.pt_req.specs.Attributes.{Label, host_label}
use Rattle.pt_req.specs.Parts.{file_of, named}
use Rattle.pt_req.specs.Steps.{resolve}
use Rattle.pt_req.specs.declared.begun.BegunSession.{BegunSession}
use Rattle.pt_req.specs.declared.plan.Plan.{Plan}
use Rattle.pt_attr.specs.Making.{ObjectAsked, is_nul, make_object, targeted}

pub data Kind : Type 0 where
  Directory : ℕ → Kind
  Node : ℕ → ℕ → Kind
  Link : List ℕ → Kind

-- the call that makes it under a name
abbrev pub making_call : Kind → Fd → List ℕ → Call
making_call (Directory mode) dir name = call.MakeDir dir name mode
making_call (Node mode rdev) dir name = call.MakeNode dir name mode rdev
making_call (Link target) dir name = call.SymLink dir name target

-- the call by which its name goes again
abbrev pub unmaking_call : Kind → Fd → List ℕ → Call
unmaking_call (Directory mode) dir name = call.RemoveDir dir name
unmaking_call (Node mode rdev) dir name = call.Unlink dir name
unmaking_call (Link target) dir name = call.Unlink dir name

-- only a symbolic link has a target
abbrev pub is_bad_target : Kind → Bool
is_bad_target (Directory mode) = false
is_bad_target (Node mode rdev) = false
is_bad_target (Link target) = list_any is_nul target

abbrev pub targeted_as : Kind → RequestTree → RequestTree
targeted_as (Directory mode) next = next
targeted_as (Node mode rdev) next = next
targeted_as (Link target) next = targeted target next

abbrev pub make_kind : Plan → HostSeat → BegunSession → ObjectAsked → Kind → Option Label → Fd → RequestTree
make_kind plan seat session asked kind label dir =
    make_object plan seat session asked label dir (making_call kind dir asked.name) (unmaking_call kind dir asked.name)

-- its name and its target are checked first, in this order
abbrev pub make_named : Plan → HostSeat → ObjectAsked → Kind → BegunSession → RequestTree
make_named plan seat asked kind session =
    named asked.name (targeted_as kind (resolve asked.parent (λ row.
    host_label plan session.agreed asked.ext.secctx (λ label.
    file_of row.form (make_kind plan seat session asked kind label)))))
