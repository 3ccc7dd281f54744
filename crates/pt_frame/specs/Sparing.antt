-- Inner. A tree that takes no memory of its own.
use Rattle.std.specs.Prelude.{◌≡◌, Bool, true, ◌||◌}
use Rattle.pt_iface.specs.declared.answer.Answer.{Answer}
use Rattle.pt_iface.specs.declared.answer.Answer.TheVariants.{NoMemory}
use Rattle.pt_frame.specs.Deed.{lacks_memory, LacksMemory}
use Rattle.pt_frame.specs.Tree.{RequestTree, Gives, Refuses, Asks, Opens, Bares, Brackets, Shuts, Allocates}
use Rattle.pt_frame.specs.declared.act.ActReply.{ActReply}

abbrev pub IsNoMemory : Answer → Type 0
IsNoMemory NoMemory = Unit {0}
IsNoMemory _ = ⊥

-- where it is answered that memory ran out, a reply told so, here or before
abbrev pub IsSparing : Bool → RequestTree → Type 0
IsSparing lacked (Gives last) = IsNoMemory last → lacked ≡ true
IsSparing lacked (Refuses told) = LacksMemory told → lacked ≡ true
IsSparing lacked (Asks deed next) = (told : ActReply) → IsSparing (lacks_memory told || lacked) (next told)
IsSparing lacked (Opens asked scope next) = (told : ActReply) → IsSparing (lacks_memory told || lacked) (next told)
IsSparing lacked (Bares rest) = IsSparing lacked rest
IsSparing lacked (Brackets rest) = IsSparing lacked rest
IsSparing lacked (Shuts passes rest) = IsSparing lacked rest
IsSparing lacked (Allocates made next) = ⊥
