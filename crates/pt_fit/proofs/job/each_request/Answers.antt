use Rattle.pt_fit.proofs.job.each_request.Goals as goal
use Rattle.pt_fit.proofs.Requests.{fit_request}

pub returns : goal.returns
returns c = fit_request
