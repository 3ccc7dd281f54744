-- Inner. One step of a job: what it wants, what it is told, and how its grammar goes on.
use Rattle.std.specs.Prelude.{◌≡◌, ℕ, Option, Some, None}
use Rattle.pt_frame.specs.Deed.{Deed, IsStepOf, MayFailToCopy}
use Rattle.pt_frame.specs.Grammar.{Grammar, End, Do, May, IsChosen}
use Rattle.pt_frame.specs.Replies.{inserted_by}
use Rattle.pt_frame.specs.declared.act.ActReply.{ActReply}

-- what is made is what is to be done, or its bytes could not be copied
abbrev pub IsWanted : Grammar → Option Deed → Type 0
IsWanted (Do deed owed next) (Some same) = same ≡ deed
IsWanted (Do deed owed next) None = MayFailToCopy deed
IsWanted _ _ = ⊥

-- how many rows a step inserted
abbrev pub inserted_in : Option Deed → ActReply → ℕ
inserted_in (Some deed) reply = inserted_by deed reply
inserted_in None reply = 0

-- what was made and told is a step of what was to be done, and the rest follows it, or one side of a choice there
abbrev pub Advances : Grammar → Option Deed → ActReply → Grammar → Type 0
Advances (Do deed owed next) made reply new = IsStepOf deed made reply × IsChosen (next reply) new
Advances (End last) made reply new = ⊥
Advances (May one other) made reply new = ⊥
