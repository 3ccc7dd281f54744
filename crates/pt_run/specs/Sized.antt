-- Inner. The jobs of which the plain file system with contents says what they come to: each job of a script is one.
use Rattle.std.specs.Prelude.{List}
use Rattle.pt_host.specs.Words.{Each}
use Rattle.pt_filled.specs.Filled.{IsFilled}
use Rattle.pt_fs.specs.Jobs.{asked_of}
use Rattle.pt_fs.specs.declared.job.Job.{Job}

-- the size of each listing is one of 32 bits
abbrev pub AreFilled : List Job → Type 0
AreFilled jobs = Each (λ job. IsFilled (asked_of job)) jobs
