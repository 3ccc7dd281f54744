-- The steps by which a lookup came to its entry.
use Rattle.std.proofs.Common.{◌≡◌, ◌⊎◌, ℕ, List, [], ◌∷◌, None}
use Rattle.pt_host.specs.declared.ids.Fd.{Fd}
use Rattle.pt_host.specs.declared.stat.Stat.{Stat}
use Rattle.pt_host.specs.declared.op.KeptHostOp.TheVariants as call
use Rattle.pt_host.specs.declared.reply.HostReply.TheVariants as host
use Rattle.pt_host.specs.declared.reply.HostValue.TheVariants as value
use Rattle.pt_tables.specs.Change.{Change}
use Rattle.pt_tables.specs.declared.form.RowForm.TheVariants.{File}
use Rattle.pt_tables.specs.declared.form.Negotiated.{Negotiated}
use Rattle.pt_tables.specs.declared.event.KeptEvent.TheVariants as change
use Rattle.pt_tables.specs.declared.reply.GivenNumber.{GivenNumber}
use Rattle.pt_tables.specs.declared.reply.Resolved.{Resolved}
use Rattle.pt_tables.specs.declared.reply.EventReply.TheVariants as event
use Rattle.pt_iface.specs.declared.entry.Entry.{Entry}
use Rattle.pt_frame.specs.Deed.{Calls, Changes, Step}
use Rattle.pt_req.specs.Entries.{entry_of}
use Rattle.pt_req.specs.Parts.{by_path}
use Rattle.pt_req.specs.Steps.{claim_of, new_row_of}
use Rattle.pt_frame.specs.declared.act.ActReply.{ActReply}
use Rattle.pt_frame.specs.declared.act.ActReply.TheVariants.{Event, Host}
use Rattle.pt_req.specs.declared.plan.Plan.{Plan}
use Rattle.pt_law.specs.Reopened.{resolving}
use Rattle.pt_law.specs.World.{fd_of, made}

-- what is open there is claimed, and inserted
abbrev pub claiming : ℕ → Stat → Change
claiming era stat = change.Claim (claim_of era None stat.ids)

abbrev pub adding : ℕ → Fd → Stat → ℕ → Change
adding era fd stat fresh = change.Insert (new_row_of era fresh (File fd) stat)

-- a number was given once more
abbrev pub again : ℕ → ℕ → GivenNumber
again number class = record { number = number; class = class }

-- no number was found at first: a slot was taken and a number drawn, and this is what the insertion was answered
abbrev pub inserting : ℕ → Fd → Stat → ℕ → ActReply → List Step
inserting era fd stat fresh told =
    made (Changes (claiming era stat)) (Event event.Absent)
    ∷ made (Changes (change.TakeFd 0)) (Event event.Taken)
    ∷ made (Changes change.DrawNode) (Event (event.Drawn fresh))
    ∷ made (Changes (adding era fd stat fresh)) told ∷ []

-- the insertion gave this number: it was new, or another job's insertion of the same object came first
abbrev pub InsertionGives : ℕ → ActReply → Type 0
InsertionGives number told =
    (told ≡ Event (event.Inserted number)) ⊎ ((class : ℕ) × (told ≡ Event (event.Found (again number class))))

-- by these steps, the last of which gives it, the number of what is open there was had
abbrev pub Numbers : ℕ → Fd → Stat → ℕ → List Step → Type 0
Numbers era fd stat number steps =
    ((class : ℕ) × (steps ≡ made (Changes (claiming era stat)) (Event (event.Claimed (again number class))) ∷ []))
    ⊎ ((fresh : ℕ) × (told : ActReply) × InsertionGives number told × (steps ≡ inserting era fd stat fresh told))

-- In a session that began so the parent was resolved, the name was opened in the directory of its row, the status of
-- what was opened was told, and the number was had; the entry is that number and that status.
pub record IsLookedUp
    (plan : Plan)
    (era : ℕ)
    (agreed : Negotiated)
    (parent : ℕ)
    (name : List ℕ)
    (entry : Entry)
    (steps : List Step)
    : Type 0 where
  pub resolved : Resolved
  pub fd : Fd
  pub stat : Stat
  pub giving : List Step
  pub in_turn : steps ≡
      resolving parent resolved
      ∷ made (Calls (call.OpenAt (fd_of resolved.form) name by_path 0)) (Host (host.Ok (value.Fd fd)))
      ∷ made (Calls (call.Stat fd)) (Host (host.Ok (value.Stat stat)))
      ∷ giving
  pub numbered : Numbers era fd stat entry.inode giving
  pub told : entry ≡ entry_of plan agreed resolved.ids stat entry.inode
