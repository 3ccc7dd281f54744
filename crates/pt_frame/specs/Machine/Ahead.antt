-- Inner. What comes next of a request, without what it lends.
use Rattle.std.specs.Prelude.{◌≡◌, ◌+◌, ◌≤◌, ℕ, Option, slice_get, List, length}
use Rattle.pt_frame.specs.Deed.{deed_of}
use Rattle.pt_frame.specs.Replies.{closings_in, refusal}
use Rattle.pt_frame.specs.Tree.{RequestTree, Gives, Refuses, Asks, Opens, Bares, Brackets, Shuts, Allocates}
use Rattle.pt_frame.specs.Machine.Brings.{act_brings, act_may, brings_of}
use Rattle.pt_frame.specs.Machine.Left.{held_by}
use Rattle.pt_frame.specs.Machine.Walk.{AsksFor, HasFor, moved_in}
use Rattle.pt_frame.specs.declared.act.Act.{Act}
use Rattle.pt_frame.specs.declared.act.ActReply.{ActReply}
use Rattle.pt_frame.specs.declared.asking.Stop.{Stop}
use Rattle.pt_frame.specs.declared.asking.Stop.TheVariants as stop
use Rattle.pt_frame.specs.declared.hold.Hold.{Hold}
use Rattle.pt_frame.specs.declared.told.Brings.{Brings}
use Rattle.pt_frame.specs.declared.told.Brings.TheVariants as brings
use Rattle.pt_frame.specs.declared.told.Heard.{Heard}
use Rattle.pt_frame.specs.declared.machine.going.Ahead.{Ahead}
use Rattle.pt_frame.specs.declared.machine.going.Ahead.TheVariants as ahead

unfoldable pub IsAhead : List Heard → RequestTree → Ahead → Type 0
IsAhead told (Asks deed more) ahead.Act = Unit {0}
IsAhead told (Opens call scope more) ahead.Act = Unit {0}
IsAhead told (Gives last) (ahead.Gives same) = same ≡ last
IsAhead told (Gives last) (ahead.Moves what place) =
    HasFor what told place × (moved_in what (slice_get told place) ≡ last)
IsAhead told (Refuses reply) (ahead.Refuses same) = same ≡ refusal reply
IsAhead told (Bares rest) ahead.Bares = Unit {0}
IsAhead told (Brackets rest) ahead.Brackets = Unit {0}
IsAhead told (Shuts passes rest) (ahead.Shuts same) = same ≡ passes
IsAhead told (Allocates made next) (ahead.Makes same) = same ≡ made
IsAhead told (Allocates made next) ahead.GivesUp = Unit {0}
IsAhead told _ _ = ⊥

-- what the act brings at most at which it stops
abbrev pub stop_may : Stop → Brings
stop_may (stop.Wants act) = brings_of (deed_of act)
stop_may (stop.Opens act laid) = brings.Hold
stop_may _ = brings.Nothing

-- The reply to what the tree asks is held, and told so many closings.
pub record WasHeard (tree : RequestTree) (told : ActReply) (holds new : List Hold) (count : ℕ) (may : Brings) :
    Type 0 where
  pub wanted : Act
  pub opens : Option Hold
  pub asks : AsksFor tree wanted opens
  pub closings : count ≡ closings_in (deed_of wanted) told
  pub may_be : may ≡ act_may (deed_of wanted) opens
  pub held : new ≡ held_by (deed_of wanted) opens told holds
  pub length_is : length new ≤ length holds + act_brings (deed_of wanted) opens
