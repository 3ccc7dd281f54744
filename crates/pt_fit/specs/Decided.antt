-- Believed. What a job decides for the session that it begins: `init` by what is configured and offered.
use Rattle.std.specs.Prelude.{Option, Some, None}
use Rattle.pt_tables.specs.declared.form.Negotiated.{Negotiated}
use Rattle.pt_iface.specs.declared.request.Request.TheVariants as request
use Rattle.pt_req.specs.Options.{agreed_with}
use Rattle.pt_req.specs.declared.plan.Plan.{Plan}
use Rattle.pt_job.specs.Pattern.{Asked, Requests}

abbrev pub decides : Plan → Asked → Option Negotiated
decides plan (Requests who (request.Init capable)) = Some (agreed_with plan.config capable)
decides plan asked = None
