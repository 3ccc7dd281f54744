-- Inner. How much a request asks and brings at most: a bound on what it is told, on its acts with the holds that they
-- bring, on these holds with the brackets that it begins, and on the rows that it inserts.
use Rattle.std.specs.Prelude.{ℕ, zero, suc, ◌+◌, ◌-◌, Bool, true, false, List, [], ◌∷◌, length}
use Rattle.pt_frame.specs.Tree.{RequestTree, Gives, Refuses, Asks, Opens, Bares, Brackets, Shuts, Allocates}
use Rattle.pt_frame.specs.Machine.Brings.{brings_of, holds_in, rows_in}
use Rattle.pt_frame.specs.declared.act.ActReply.{ActReply}
use Rattle.pt_frame.specs.declared.product.Product.{Product}
use Rattle.pt_frame.specs.declared.told.Brings.{Brings}
use Rattle.pt_frame.specs.declared.told.Brings.TheVariants as brings
use Rattle.pt_frame.specs.declared.told.Heard.{Heard}
use Rattle.pt_frame.specs.declared.told.Heard.TheVariants as heard

-- The largest request brings 16, brackets counted: a creation that finds its name taken looks it up and opens it.
abbrev pub most_holds : ℕ
most_holds = 17

-- the same request is told 28 replies and marks
abbrev pub most_told : ℕ
most_told = 32

-- how many rows a request inserts at most
abbrev pub most_rows : ℕ
most_rows = 4

-- this cost is within the amount, and what is left of that is so
abbrev pub Spends : ℕ → ℕ → (ℕ → Type 0) → Type 0
Spends zero amount Then = Then amount
Spends (suc cost) zero Then = ⊥
Spends (suc cost) (suc amount) Then = Spends cost amount Then

-- an act costs itself and what it may bring, which is to be given back
abbrev pub act_cost : Brings → ℕ
act_cost may = suc (holds_in may)

abbrev pub SpendsAct : Brings → ℕ → ℕ → ℕ → (ℕ → ℕ → ℕ → Type 0) → Type 0
SpendsAct may acts room rows Then =
    Spends (act_cost may) acts (λ acts'. Spends (holds_in may) room (λ room'. Spends (rows_in may) rows (λ rows'.
    Then acts' room' rows')))

abbrev pub IfReplied : Bool → Type 0 → Type 0
IfReplied true Then = Then
IfReplied false Then = ⊥

-- It is told no more than so much, and its acts, what they bring and its rows are no more than so many. It takes memory
-- right behind a reply alone, where a job may give up.
abbrev pub KeepsBehind : Bool → RequestTree → ℕ → ℕ → ℕ → ℕ → Type 0
KeepsBehind replied (Gives last) told acts room rows = Unit {0}
KeepsBehind replied (Refuses reply) told acts room rows = Unit {0}
KeepsBehind replied (Asks deed more) zero acts room rows = ⊥
KeepsBehind replied (Asks deed more) (suc told) acts room rows = SpendsAct (brings_of deed) acts room rows
    (λ acts' room' rows'. (reply : ActReply) → KeepsBehind true (more reply) told acts' room' rows')
KeepsBehind replied (Opens call scope more) zero acts room rows = ⊥
KeepsBehind replied (Opens call scope more) (suc told) acts room rows = SpendsAct brings.Hold acts room rows
    (λ acts' room' rows'. (reply : ActReply) → KeepsBehind true (more reply) told acts' room' rows')
KeepsBehind replied (Bares rest) zero acts room rows = ⊥
KeepsBehind replied (Bares rest) (suc told) acts room rows = KeepsBehind false rest told acts room rows
KeepsBehind replied (Brackets rest) zero acts room rows = ⊥
KeepsBehind replied (Brackets rest) (suc told) acts zero rows = ⊥
KeepsBehind replied (Brackets rest) (suc told) acts (suc room) rows = KeepsBehind false rest told acts room rows
KeepsBehind replied (Shuts passes rest) zero acts room rows = ⊥
KeepsBehind replied (Shuts passes rest) (suc told) acts room rows = KeepsBehind false rest told acts room rows
KeepsBehind replied (Allocates made next) zero acts room rows = ⊥
KeepsBehind replied (Allocates made next) (suc told) acts room rows =
    IfReplied replied ((kept : Product) → KeepsBehind false (next kept) told acts room rows)

abbrev pub Keeps : RequestTree → ℕ → ℕ → ℕ → ℕ → Type 0
Keeps tree told acts room rows = KeepsBehind false tree told acts room rows

abbrev pub KeepsOn : RequestTree → ℕ → ℕ → ℕ → ℕ → Type 0
KeepsOn tree told acts room rows = KeepsBehind true tree told acts room rows

-- what was spent of it
abbrev pub acts_spent : List Heard → ℕ
acts_spent [] = 0
acts_spent (heard.Reply reply may ∷ rest) = act_cost may + acts_spent rest
acts_spent (heard.Bares ∷ rest) = acts_spent rest
acts_spent (heard.Brackets ∷ rest) = acts_spent rest
acts_spent (heard.Shuts ∷ rest) = acts_spent rest
acts_spent (heard.Kept kept ∷ rest) = acts_spent rest

abbrev pub room_spent : List Heard → ℕ
room_spent [] = 0
room_spent (heard.Reply reply may ∷ rest) = holds_in may + room_spent rest
room_spent (heard.Bares ∷ rest) = room_spent rest
room_spent (heard.Brackets ∷ rest) = 1 + room_spent rest
room_spent (heard.Shuts ∷ rest) = room_spent rest
room_spent (heard.Kept kept ∷ rest) = room_spent rest

abbrev pub rows_spent : List Heard → ℕ
rows_spent [] = 0
rows_spent (heard.Reply reply may ∷ rest) = rows_in may + rows_spent rest
rows_spent (heard.Bares ∷ rest) = rows_spent rest
rows_spent (heard.Brackets ∷ rest) = rows_spent rest
rows_spent (heard.Shuts ∷ rest) = rows_spent rest
rows_spent (heard.Kept kept ∷ rest) = rows_spent rest
