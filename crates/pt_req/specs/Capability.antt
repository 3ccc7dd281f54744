-- Believed. A call without the capability by which a file keeps its set-id bits where it is written, emptied or
-- shortened, and the end of the capabilities that a file has itself. After virtiofsd's `drop_effective_cap`,
-- `clear_file_capabilities`, capabilities(7).
use Rattle.std.specs.Prelude.{ℕ, Bool, true, false, ◌&&◌, List, Option, Some, None}
use Rattle.pt_host.specs.Flags.{includes}
use Rattle.pt_host.specs.declared.flags.Caps.{Caps}
use Rattle.pt_host.specs.declared.ids.Fd.{Fd}
use Rattle.pt_host.specs.declared.op.KeptHostOp.TheVariants as call
use Rattle.pt_host.specs.declared.seat.HostSeat.{HostSeat}
use Rattle.pt_frame.specs.Tree.{RequestTree}
use Rattle.pt_frame.specs.declared.hold.Hold.TheVariants as hold
use Rattle.pt_req.specs.Steps.{drop_xattr, open_scope}
use Rattle.pt_req.specs.declared.plan.Plan.{Plan}

-- `CAP_FSETID`
abbrev pub fsetid : Caps
fsetid = record { 0 = 16 }

-- The guest asks that set-id bits go, that is configured, and the capability is effective in the seat that the job
-- began with.
abbrev pub drops_fsetid : Plan → HostSeat → Bool → Bool
drops_fsetid plan seat kill = plan.config.killpriv_v2 && kill && includes seat.eff_caps.0 fsetid.0

-- Without it, where it is to be dropped. `Bares` ends the scope behind the call for which it is opened; where that or
-- what comes before it is refused, the scope ends with the request, and first of all that it holds.
abbrev pub without_fsetid : Bool → RequestTree → RequestTree
without_fsetid false next = next
without_fsetid true next = open_scope (call.DropCap fsetid) (hold.Dropped fsetid) next

-- The attribute goes by which a file has capabilities, where rules make its name another one: such an attribute is no
-- longer the host's to clear.
abbrev pub capability_cleared : Option (List ℕ) → Fd → Bool → RequestTree → RequestTree
capability_cleared None fd through next = next
capability_cleared (Some name) fd through next = drop_xattr fd through name next

-- of a file that an opening emptied
abbrev pub cleared_if : Bool → Option (List ℕ) → Fd → RequestTree → RequestTree
cleared_if false name fd next = next
cleared_if true name fd next = capability_cleared name fd false next
