-- All requests but two are asked in the session that goes on.
use Rattle.std.proofs.Common.{◌≡◌, ◌≢◌, refl}
use Rattle.pt_host.specs.declared.seat.HostSeat.{HostSeat}
use Rattle.pt_iface.specs.declared.flags.FsOptions.{FsOptions}
use Rattle.pt_iface.specs.declared.request.Context.{Context}
use Rattle.pt_iface.specs.declared.request.Request.{Request}
use Rattle.pt_iface.specs.declared.request.Request.TheVariants as request
use Rattle.pt_req.specs.Steps.{begin}
use Rattle.pt_req.specs.declared.plan.Plan.{Plan}
use Rattle.pt_job.specs.Requests.{in_session, tree_of}

pub goes_on : (plan : Plan) (seat : HostSeat) (who : Context) (asked : Request) →
    ((capable : FsOptions) → asked ≢ request.Init capable) → asked ≢ request.Destroy →
    tree_of plan seat who asked ≡ begin (in_session plan seat who asked)
goes_on plan seat who (request.Init capable) a b = absurd (a capable refl)
goes_on plan seat who request.Destroy a b = absurd (b refl)
goes_on plan seat who asked a b = refl
