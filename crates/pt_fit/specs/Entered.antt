-- Believed. Which object an entry names.
use Rattle.std.specs.Prelude.{◌≡◌, ℕ, List, ◌∷◌, Option, None, Some}
use Rattle.pt_host.specs.declared.stat.Stat.{Stat}
use Rattle.pt_tables.specs.declared.form.Negotiated.{Negotiated}
use Rattle.pt_tables.specs.declared.event.KeptEvent.TheVariants as change
use Rattle.pt_tables.specs.declared.reply.EventReply.TheVariants as event
use Rattle.pt_iface.specs.declared.entry.Entry.{Entry}
use Rattle.pt_iface.specs.declared.request.Request.TheVariants as request
use Rattle.pt_frame.specs.Deed.{Changes, Step}
use Rattle.pt_frame.specs.declared.act.ActReply.TheVariants.{Event}
use Rattle.pt_req.specs.Entries.{entry_of}
use Rattle.pt_req.specs.declared.plan.Plan.{Plan}
use Rattle.pt_job.specs.Pattern.{Asked, Requests}
use Rattle.pt_law.specs.Findings.{IsGiven}
use Rattle.pt_law.specs.Story.{Giving}
use Rattle.pt_law.specs.World.{World, made}

-- At the end of a run whose steps of this job are these: the number of the entry is what the job was given last, in
-- the session in which it began. It stood then for the object to which this name led, in the very directory that the
-- parent stood for; and the entry tells the status that was told of the descriptor by which the name was opened.
pub record IsEntered
    (plan : Plan)
    (end : World)
    (steps : List Step)
    (job parent : ℕ)
    (name : List ℕ)
    (entry : Entry)
    : Type 0 where
  pub era : ℕ
  pub agreed : Negotiated
  pub later : List Step
  pub begins : steps ≡ made (Changes change.Begin) (Event (event.Began era agreed)) ∷ later
  pub giving : Giving
  pub given : (end.story.found job).given ≡ Some giving
  pub number : giving.number ≡ entry.inode
  pub same_era : giving.era ≡ era
  pub is_given : IsGiven end giving
  pub same_parent : is_given.parent ≡ parent
  pub same_name : is_given.opening.name ≡ name
  pub stat : Stat
  pub stated : is_given.opening.stat ≡ Some stat
  pub same_ids : giving.ids ≡ stat.ids
  pub told : entry ≡ entry_of plan agreed is_given.led.ids stat entry.inode

-- the parent and the name that are asked for, by a lookup or a making; by `link` the new ones
abbrev pub name_asked : Asked → Option (ℕ × List ℕ)
name_asked (Requests who (request.Lookup parent name)) = Some (parent, name)
name_asked (Requests who (request.Create parent name mode kill flags umask ext)) = Some (parent, name)
name_asked (Requests who (request.Mkdir parent name mode umask ext)) = Some (parent, name)
name_asked (Requests who (request.Mknod parent name mode rdev umask ext)) = Some (parent, name)
name_asked (Requests who (request.Symlink target parent name ext)) = Some (parent, name)
name_asked (Requests who (request.Link inode newparent newname)) = Some (newparent, newname)
name_asked asked = None
