-- Believed. What holds of the names that jobs opened, of the numbers that they were given for them, and of handles.
use Rattle.std.specs.Prelude.{◌≡◌, ◌≢◌, ◌⊎◌, ℕ, List, [], ◌∷◌, ◌++◌, Option, None, Some}
use Rattle.pt_host.specs.Tree.{Object, IsObject}
use Rattle.pt_host.specs.declared.ids.ObjIds.{ObjIds}
use Rattle.pt_tables.specs.declared.event.KeptEvent.TheVariants as change
use Rattle.pt_tables.specs.declared.reply.EventReply.TheVariants as event
use Rattle.pt_frame.specs.Deed.{Deed, Changes, Step}
use Rattle.pt_frame.specs.declared.act.ActReply.{ActReply}
use Rattle.pt_frame.specs.declared.act.ActReply.TheVariants.{Event}
use Rattle.pt_law.specs.Story.{Giving, Handling, Opening}
use Rattle.pt_law.specs.World.{Turn, turn_by, World}

-- The name was opened in the very directory for which this number stood when it was resolved. That is what the name
-- led to there until then, and this object was opened.
pub record OpensIn
    (opening : Opening)
    (parent : ℕ)
    (name : List ℕ)
    (had : Option ℕ)
    (object : ℕ)
    : Type 0 where
  pub ids : ObjIds
  pub directory : ℕ
  pub resolved : opening.parent ≡ Some (record { number = parent; ids = ids; object = Some directory })
  pub opened_in : opening.directory ≡ Some directory
  pub name_is : opening.name ≡ name
  pub had_led : opening.led_to ≡ had
  pub opened : opening.object ≡ Some object

-- the name led to the object
abbrev pub LedTo : Opening → ℕ → List ℕ → ℕ → Type 0
LedTo opening parent name object = OpensIn opening parent name (Some object) object

-- the name was free, and the object is a new one
abbrev pub MadeIn : Opening → ℕ → List ℕ → ℕ → Type 0
MadeIn opening parent name object = OpensIn opening parent name None object × (object ≡ opening.objects)

-- every name is opened in what was resolved last, and leads there or is made
abbrev pub IsOpening : Opening → Type 0
IsOpening opening =
    (parent : ℕ) × (object : ℕ)
    × (LedTo opening parent opening.name object ⊎ MadeIn opening parent opening.name object)

-- The number that was given stood for the object to which the name led that its job had opened last; the object has
-- the ids by which it was asked for.
pub record IsGiven (world : World) (giving : Giving) : Type 0 where
  pub opening : Opening
  pub is_last : giving.opening ≡ Some opening
  pub parent : ℕ
  pub object : ℕ
  pub led : LedTo opening parent opening.name object
  pub stood_for : giving.object ≡ Some object
  pub what : Object
  pub is_object : IsObject world.tree object what
  pub same_ids : what.ids ≡ giving.ids

-- The handle's descriptor was open on what its number had stood for when its job had resolved it last, or was given
-- it, which is settled as the handle's. Where it was given last for that number, that is the object for which it was
-- given, unless the number is the root's, which another object may have got meanwhile.
pub record IsHandled (world : World) (handling : Handling) : Type 0 where
  pub object : ℕ
  pub open_on : handling.object ≡ Some object
  pub stood_for : handling.stood_for ≡ Some object
  pub settled : world.past.objects handling.row ≡ Some object
  pub as_given : handling.number ≢ 1 → (giving : Giving) → handling.giving ≡ Some giving →
      giving.number ≡ handling.number → giving.object ≡ Some object

-- the deed gave this number
abbrev pub Gives : ℕ → Option Deed → ActReply → Type 0
Gives number (Some (Changes (change.Claim claim))) (Event (event.Claimed given)) = given.number ≡ number
Gives number (Some (Changes (change.Insert new))) (Event (event.Found given)) = given.number ≡ number
Gives number (Some (Changes (change.Insert new))) (Event (event.Inserted given)) = given ≡ number
Gives number deed told = ⊥

-- by the last of these steps the job was given the number
abbrev pub WasGiven : List Turn → ℕ → ℕ → Type 0
WasGiven turns job number =
    (before : List Turn) × (give : Step) × Gives number give.deed give.reply
    × (turns ≡ before ++ turn_by job give ∷ [])
