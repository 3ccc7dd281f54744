-- Inner. What the one body does, and how much of it.
use Rattle.std.specs.Prelude.{ℕ}
use Rattle.pt_host.specs.declared.seat.HostSeat.{HostSeat}
use Rattle.pt_frame.specs.Tree.{RequestTree}
use Rattle.pt_req.specs.declared.plan.Plan.{Plan}
use Rattle.pt_job.specs.Pattern.{bound_of, tree_of}
use Rattle.pt_job.specs.declared.body.AnyBody.{AnyBody}

abbrev pub any_tree : AnyBody → Plan → HostSeat → RequestTree
any_tree body plan seat = tree_of plan seat body.who body.request

abbrev pub any_acts : AnyBody → ℕ
any_acts body = bound_of body.request
