-- Jobs that are put behind others begin as jobs do.
use Rattle.std.proofs.Common.{List, [], ◌∷◌, ◌++◌, refl}
use Rattle.pt_host.specs.Seat.{IsStartingSeat}
use Rattle.pt_host.specs.declared.edit.Edit.{Edit}
use Rattle.pt_fs.specs.Jobs.{StartAll, job_start}
use Rattle.pt_fs.specs.declared.job.Job.{Job}
use Rattle.pt_fs.specs.declared.job.Job.TheVariants as job

pub one_more : (jobs : List Job) (last : Job) → StartAll jobs → IsStartingSeat (job_start last) →
    StartAll (jobs ++ last ∷ [])
one_more [] last all starts = (starts, tt)
one_more (one ∷ jobs) last all starts = (all.0, one_more jobs last all.1 starts)

pub an_edit : (edit : Edit) → IsStartingSeat (job_start (job.Edit edit))
an_edit edit = record {
  eff_uid = refl;
  saved_uid = refl;
  eff_gid = refl;
  saved_gid = refl;
  caps = refl;
  groups = refl;
  umask = refl;
}
