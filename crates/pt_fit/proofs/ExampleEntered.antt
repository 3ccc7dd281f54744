-- An entry from another directory than the one that its parent stood for is none, and one from that directory is one.
-- Whatever steps stand between the telling of the status and the giving of the number, and whatever another job opens
-- meanwhile: the number is given for what was opened, with that status.
use Rattle.std.proofs.Common.{◌≡◌, ◌≢◌, ℕ, List, Bool, sym, ap, ◌∙◌, arith, if◌then◌else◌, Option, None, Some}
use Rattle.pt_host.specs.declared.flags.OpenFlags.{OpenFlags}
use Rattle.pt_host.specs.declared.handle.FileHandle.{FileHandle}
use Rattle.pt_host.specs.declared.ids.Fd.{Fd}
use Rattle.pt_host.specs.declared.ids.ObjIds.{ObjIds}
use Rattle.pt_host.specs.declared.op.KeptHostOp.TheVariants as call
use Rattle.pt_host.specs.declared.reply.HostReply.TheVariants as host
use Rattle.pt_host.specs.declared.reply.HostValue.TheVariants as value
use Rattle.pt_host.specs.declared.stat.Stat.{Stat}
use Rattle.pt_tables.specs.declared.event.NewRow.{NewRow}
use Rattle.pt_tables.specs.declared.event.KeptEvent.TheVariants as change
use Rattle.pt_tables.specs.declared.reply.EventReply.TheVariants as event
use Rattle.pt_frame.specs.Deed.{Calls, Changes}
use Rattle.pt_frame.specs.declared.act.ActReply.TheVariants.{Event, Host}
use Rattle.pt_law.specs.Findings.{LedTo}
use Rattle.pt_law.specs.Story.{Findings, Opening, Sought}
use Rattle.pt_law.specs.World.{Goes, World, first_of, made, stated, turn_by}
use Rattle.pt_law.proofs.Leaving.{story_other, story_own}
use Rattle.pt_law.proofs.Moving.{same_number}
use Rattle.pt_law.proofs.Opening.{opening, stating}

some_same : {a b : ℕ} → Some a ≡ Some b → a ≡ b
some_same e = cc

abbrev object_sought : Option Sought → Option ℕ
object_sought None = None
object_sought (Some sought) = sought.object

-- the parent stood for object 0, and the name was opened in object 1
pub from_another : (opened : Opening) (parent : ℕ) (ids : ObjIds) (name : List ℕ) (object : ℕ) →
    opened.parent ≡ Some (record { number = parent; ids = ids; object = Some 0 }) → opened.directory ≡ Some 1 →
    LedTo opened parent name object → ⊥
from_another opened parent ids name object stood on led =
    let dir : 0 ≡ led.directory = some_same (ap object_sought (sym stood ∙ led.resolved)) in
    let other : 1 ≡ led.directory = some_same (sym on ∙ led.opened_in) in
    absurd (omega (arith, dir, other))

-- the same, but in object 0, where the name led to this object, which was opened
pub from_that_one : (opened : Opening) (parent : ℕ) (ids : ObjIds) (name : List ℕ) (object : ℕ) →
    opened.parent ≡ Some (record { number = parent; ids = ids; object = Some 0 }) → opened.directory ≡ Some 0 →
    opened.name ≡ name → opened.led_to ≡ Some object → opened.object ≡ Some object →
    LedTo opened parent name object
from_that_one opened parent ids name object stood on named led is = record {
  ids = ids;
  directory = 0;
  resolved = stood;
  opened_in = on;
  name_is = named;
  had_led = led;
  opened = is;
}

-- Between the telling of the status and the insertion the job asks for a handle of the object, and another job opens a
-- name of its own.
module _ (w0 w1 w2 w3 w4 : World) (job other : ℕ) (apart : job ≢ other) (opened : Opening) (stat : Stat)
    (handle : FileHandle) (dir new : Fd) (name : List ℕ) (flags : OpenFlags) (mode number : ℕ) (row : NewRow)
    (was : (w0.story.found job).latest ≡ Some opened) (untold : opened.stat ≡ None)
    (told : Goes w0 (turn_by job (stating opened.fd stat)) w1)
    (asked : Goes w1 (turn_by job (made (Calls (call.HandleOf opened.fd)) (Host (host.Ok (value.Handle handle))))) w2)
    (opens : Goes w2 (turn_by other (opening dir name flags mode new)) w3)
    (gives : Goes w3 (turn_by job (made (Changes (change.Insert row)) (Event (event.Inserted number)))) w4) where
  told_is : (w1.story.found job).latest ≡ Some (record opened { stat = Some stat })
  told_is =
      ap (λ (f : Findings). f.latest) (story_own w0 (turn_by job (stating opened.fd stat)) w1 told)
      ∙ ap (stated opened.fd stat) was
      ∙ ap (λ (b : Bool). if b
      then Some (record opened { stat = first_of opened.stat (Some stat) })
      else Some opened) (same_number opened.fd.0)
      ∙ ap (λ s. Some (record opened { stat = first_of s (Some stat) })) untold

  still : (w3.story.found job).latest ≡ Some (record opened { stat = Some stat })
  still =
      ap (λ (f : Findings). f.latest)
      (story_other w2 (turn_by other (opening dir name flags mode new)) w3 job apart opens
      ∙ story_own w1 (turn_by job (made (Calls (call.HandleOf opened.fd)) (Host (host.Ok (value.Handle handle))))) w2
      asked)
      ∙ told_is

  pub given_for_it : (w4.story.found job).given ≡ Some (record {
    era = row.era;
    number = number;
    ids = row.ids;
    object = w4.past.numbers number;
    opening = Some (record opened { stat = Some stat });
  })
  given_for_it =
      ap (λ (f : Findings). f.given)
      (story_own w3 (turn_by job (made (Changes (change.Insert row)) (Event (event.Inserted number)))) w4 gives)
      ∙ ap (λ o. Some (record {
        era = row.era;
        number = number;
        ids = row.ids;
        object = w4.past.numbers number;
        opening = o;
      })) still
