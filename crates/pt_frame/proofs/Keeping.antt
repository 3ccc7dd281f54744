-- What a request is told and asks stays within its bounds.
use Rattle.std.proofs.Common.{◌≡◌, ℕ, zero, suc, ◌+◌, ◌-◌, ◌≤◌, ◌<◌, Bool, true, false, List, [], ◌∷◌, ◌++◌, length}
use Rattle.std.proofs.Common.{Option, Some, None, refl, ap, sym, subst, ◌∙◌, arith, cond}
use Rattle.pt_host.specs.Call.{Call}
use Rattle.pt_frame.specs.Deed.{Deed, deed_of}
use Rattle.pt_frame.specs.Tree.{RequestTree, Gives, Refuses, Asks, Opens, Bares, Brackets, Shuts, Allocates, on, go_on}
use Rattle.pt_frame.specs.Tree.{allocates}
use Rattle.pt_frame.specs.Replies.{inserted_by}
use Rattle.pt_frame.specs.Machine.Brings.{act_may, brings_of, holds_in, is_same, rows_in}
use Rattle.pt_frame.specs.Machine.Room.{Keeps, KeepsBehind, KeepsOn, Spends, SpendsAct, act_cost, acts_spent, room_spent, rows_spent}
use Rattle.pt_frame.specs.Machine.Ahead.{IsAhead, stop_may}
use Rattle.pt_frame.specs.declared.machine.going.Ahead.TheVariants as ahead
use Rattle.pt_frame.specs.Machine.Walk.{AsksFor, IsAsks, IsStop, astray, or_astray, told_on, walk}
use Rattle.pt_frame.specs.declared.asking.Stop.{Stop}
use Rattle.pt_frame.specs.declared.asking.Stop.TheVariants as stop
use Rattle.pt_frame.proofs.Ahead.{wants_asks, opens_asks}
use Rattle.pt_frame.specs.declared.act.Act.{Act}
use Rattle.pt_frame.specs.declared.act.ActReply.{ActReply}
use Rattle.pt_frame.specs.declared.hold.Hold.{Hold}
use Rattle.pt_frame.specs.declared.product.Product.{Product}
use Rattle.pt_frame.specs.declared.told.Brings.{Brings}
use Rattle.pt_frame.specs.declared.told.Brings.TheVariants as brings
use Rattle.pt_frame.specs.declared.told.Heard.{Heard}
use Rattle.pt_frame.specs.declared.told.Heard.TheVariants as heard

-- what is spent is there, and what is left is less by it
spent_left : (cost amount : ℕ) (Then : ℕ → Type 0) → Spends cost amount Then → Then (amount - cost)
spent_left zero amount Then is = subst Then (omega arith) is
spent_left (suc cost) zero Then is = absurd is
spent_left (suc cost) (suc amount) Then is = subst Then (omega arith) (spent_left cost amount Then is)

spent_within : (cost amount : ℕ) (Then : ℕ → Type 0) → Spends cost amount Then → cost ≤ amount
spent_within zero amount Then is = omega arith
spent_within (suc cost) zero Then is = absurd is
spent_within (suc cost) (suc amount) Then is =
    let h : cost ≤ amount = spent_within cost amount Then is in omega arith

pub act_left : (may : Brings) (acts room rows : ℕ) (Then : ℕ → ℕ → ℕ → Type 0) → SpendsAct may acts room rows Then →
    Then (acts - act_cost may) (room - holds_in may) (rows - rows_in may)
act_left may acts room rows Then is =
    spent_left (rows_in may) rows (λ left. Then (acts - act_cost may) (room - holds_in may) left)
    (spent_left (holds_in may) room (λ left. Spends (rows_in may) rows (λ rows'. Then (acts - act_cost may) left rows'))
    (spent_left (act_cost may) acts (λ left. Spends (holds_in may) room (λ room'. Spends (rows_in may) rows (λ rows'.
    Then left room' rows'))) is))

-- an act has what it may spend
pub record Affords (may : Brings) (acts room rows : ℕ) : Type 0 where
  pub acts_go : act_cost may ≤ acts
  pub room_is : holds_in may ≤ room
  pub rows_are : rows_in may ≤ rows

act_affords : (may : Brings) (acts room rows : ℕ) (Then : ℕ → ℕ → ℕ → Type 0) → SpendsAct may acts room rows Then →
    Affords may acts room rows
act_affords may acts room rows Then is =
    let more = spent_left (act_cost may) acts (λ left. Spends (holds_in may) room (λ room'.
    Spends (rows_in may) rows (λ rows'. Then left room' rows'))) is in
    let most = spent_left (holds_in may) room (λ left. Spends (rows_in may) rows (λ rows'.
    Then (acts - act_cost may) left rows')) more in
    record {
      acts_go = spent_within (act_cost may) acts (λ left. Spends (holds_in may) room (λ room'.
          Spends (rows_in may) rows (λ rows'. Then left room' rows'))) is;
      room_is = spent_within (holds_in may) room (λ left. Spends (rows_in may) rows (λ rows'.
          Then (acts - act_cost may) left rows')) more;
      rows_are = spent_within (rows_in may) rows (λ left. Then (acts - act_cost may) (room - holds_in may) left) most;
    }

same_brings : (may other : Brings) → is_same may other ≡ true → may ≡ other
same_brings brings.Nothing brings.Nothing e = refl
same_brings brings.Hold brings.Hold e = refl
same_brings brings.Row brings.Row e = refl
same_brings brings.RowAndHold brings.RowAndHold e = refl
same_brings brings.Nothing brings.Hold e = absurd (cc)
same_brings brings.Nothing brings.Row e = absurd (cc)
same_brings brings.Nothing brings.RowAndHold e = absurd (cc)
same_brings brings.Hold brings.Nothing e = absurd (cc)
same_brings brings.Hold brings.Row e = absurd (cc)
same_brings brings.Hold brings.RowAndHold e = absurd (cc)
same_brings brings.Row brings.Nothing e = absurd (cc)
same_brings brings.Row brings.Hold e = absurd (cc)
same_brings brings.Row brings.RowAndHold e = absurd (cc)
same_brings brings.RowAndHold brings.Nothing e = absurd (cc)
same_brings brings.RowAndHold brings.Hold e = absurd (cc)
same_brings brings.RowAndHold brings.Row e = absurd (cc)

pub same_is : (may : Brings) → is_same may may ≡ true
same_is brings.Nothing = refl
same_is brings.Hold = refl
same_is brings.Row = refl
same_is brings.RowAndHold = refl

-- what keeps to its bounds wherever it stands does so behind a reply
pub sooner : (tree : RequestTree) (told acts room rows : ℕ) → Keeps tree told acts room rows →
    KeepsOn tree told acts room rows
sooner (Gives last) told acts room rows is = is
sooner (Refuses reply) told acts room rows is = is
sooner (Asks deed more) zero acts room rows is = absurd is
sooner (Asks deed more) (suc told) acts room rows is = is
sooner (Opens call scope more) zero acts room rows is = absurd is
sooner (Opens call scope more) (suc told) acts room rows is = is
sooner (Bares rest) zero acts room rows is = absurd is
sooner (Bares rest) (suc told) acts room rows is = is
sooner (Brackets rest) zero acts room rows is = absurd is
sooner (Brackets rest) (suc told) acts zero rows is = absurd is
sooner (Brackets rest) (suc told) acts (suc room) rows is = is
sooner (Shuts passes rest) zero acts room rows is = absurd is
sooner (Shuts passes rest) (suc told) acts room rows is = is
sooner (Allocates made next) zero acts room rows is = absurd is
sooner (Allocates made next) (suc told) acts room rows is = absurd is

or_keeps : (same : Bool) (next : RequestTree) (told acts room rows : ℕ) →
    (same ≡ true → KeepsOn next told acts room rows) → KeepsOn (or_astray same next) told acts room rows
or_keeps true next told acts room rows is = is refl
or_keeps false next told acts room rows is = tt

reply_keeps : (may other : Brings) (next : RequestTree) (told acts room rows : ℕ) →
    KeepsOn next told (acts - act_cost other) (room - holds_in other) (rows - rows_in other) →
    KeepsOn (or_astray (is_same may other) next) told (acts - act_cost may) (room - holds_in may) (rows - rows_in may)
reply_keeps may other next told acts room rows is =
    or_keeps (is_same may other) next told (acts - act_cost may) (room - holds_in may) (rows - rows_in may) (λ e.
    subst (λ (x : Brings). KeepsOn next told (acts - act_cost x) (room - holds_in x) (rows - rows_in x))
    (sym (same_brings may other e)) is)

by_counts : (tree : RequestTree) (told acts room rows told' acts' room' rows' : ℕ) → KeepsOn tree told acts room rows →
    told' ≡ told → acts' ≡ acts → room' ≡ room → rows' ≡ rows → KeepsOn tree told' acts' room' rows'
by_counts tree told acts room rows told' acts' room' rows' is a b c d = rw (a, b, c, d) is

same_counts : (tree : RequestTree) (told acts room rows : ℕ) → KeepsOn tree told acts room rows →
    KeepsOn tree (suc told - 1) (acts - 0) (room - 0) (rows - 0)
same_counts tree told acts room rows is =
    by_counts tree told acts room rows _ _ _ _ is (omega arith) (omega arith) (omega arith) (omega arith)

rw_counts : (may : Brings) (tree : RequestTree) (told acts room rows : ℕ) →
    KeepsOn tree told (acts - act_cost may) (room - holds_in may) (rows - rows_in may) →
    KeepsOn tree (suc told - 1) (acts - (act_cost may + 0)) (room - (holds_in may + 0)) (rows - (rows_in may + 0))
rw_counts may tree told acts room rows is =
    by_counts tree told (acts - act_cost may) (room - holds_in may) (rows - rows_in may) _ _ _ _ is (omega arith)
    (omega arith) (omega arith) (omega arith)

-- what a tree that keeps to its bounds goes on with keeps to what is left of them
told_keeps : (tree : RequestTree) (it : Heard) (told acts room rows : ℕ) → KeepsOn tree told acts room rows →
    KeepsOn (told_on tree it) (told - 1) (acts - acts_spent (it ∷ [])) (room - room_spent (it ∷ []))
    (rows - rows_spent (it ∷ []))
told_keeps (Gives last) it told acts room rows is = tt
told_keeps (Refuses reply) it told acts room rows is = tt
told_keeps (Asks deed more) it zero acts room rows is = absurd is
told_keeps (Asks deed more) (heard.Reply reply may) (suc told) acts room rows is =
    let after = act_left (brings_of deed) acts room rows (λ acts' room' rows'.
    (reply : ActReply) → KeepsOn (more reply) told acts' room' rows') is in
    rw_counts may (or_astray (is_same may (brings_of deed)) (more reply)) told acts room rows
    (reply_keeps may (brings_of deed) (more reply) told acts room rows (after reply))
told_keeps (Asks deed more) heard.Bares (suc told) acts room rows is = tt
told_keeps (Asks deed more) heard.Brackets (suc told) acts room rows is = tt
told_keeps (Asks deed more) heard.Shuts (suc told) acts room rows is = tt
told_keeps (Asks deed more) (heard.Kept kept) (suc told) acts room rows is = tt
told_keeps (Opens call scope more) it zero acts room rows is = absurd is
told_keeps (Opens call scope more) (heard.Reply reply may) (suc told) acts room rows is =
    let after = act_left brings.Hold acts room rows (λ acts' room' rows'.
    (reply : ActReply) → KeepsOn (more reply) told acts' room' rows') is in
    rw_counts may (or_astray (is_same may brings.Hold) (more reply)) told acts room rows
    (reply_keeps may brings.Hold (more reply) told acts room rows (after reply))
told_keeps (Opens call scope more) heard.Bares (suc told) acts room rows is = tt
told_keeps (Opens call scope more) heard.Brackets (suc told) acts room rows is = tt
told_keeps (Opens call scope more) heard.Shuts (suc told) acts room rows is = tt
told_keeps (Opens call scope more) (heard.Kept kept) (suc told) acts room rows is = tt
told_keeps (Bares rest) it zero acts room rows is = absurd is
told_keeps (Bares rest) (heard.Reply reply may) (suc told) acts room rows is = tt
told_keeps (Bares rest) heard.Bares (suc told) acts room rows is = same_counts rest told acts room rows (sooner rest told acts room rows is)
told_keeps (Bares rest) heard.Brackets (suc told) acts room rows is = tt
told_keeps (Bares rest) heard.Shuts (suc told) acts room rows is = tt
told_keeps (Bares rest) (heard.Kept kept) (suc told) acts room rows is = tt
told_keeps (Brackets rest) it zero acts room rows is = absurd is
told_keeps (Brackets rest) it (suc told) acts zero rows is = absurd is
told_keeps (Brackets rest) (heard.Reply reply may) (suc told) acts (suc room) rows is = tt
told_keeps (Brackets rest) heard.Bares (suc told) acts (suc room) rows is = tt
told_keeps (Brackets rest) heard.Brackets (suc told) acts (suc room) rows is =
    by_counts rest told acts room rows _ _ _ _ (sooner rest told acts room rows is) (omega arith) (omega arith)
    (omega arith) (omega arith)
told_keeps (Brackets rest) heard.Shuts (suc told) acts (suc room) rows is = tt
told_keeps (Brackets rest) (heard.Kept kept) (suc told) acts (suc room) rows is = tt
told_keeps (Shuts passes rest) it zero acts room rows is = absurd is
told_keeps (Shuts passes rest) (heard.Reply reply may) (suc told) acts room rows is = tt
told_keeps (Shuts passes rest) heard.Bares (suc told) acts room rows is = tt
told_keeps (Shuts passes rest) heard.Brackets (suc told) acts room rows is = tt
told_keeps (Shuts passes rest) heard.Shuts (suc told) acts room rows is = same_counts rest told acts room rows (sooner rest told acts room rows is)
told_keeps (Shuts passes rest) (heard.Kept kept) (suc told) acts room rows is = tt
told_keeps (Allocates made next) it zero acts room rows is = absurd is
told_keeps (Allocates made next) (heard.Reply reply may) (suc told) acts room rows is = tt
told_keeps (Allocates made next) heard.Bares (suc told) acts room rows is = tt
told_keeps (Allocates made next) heard.Brackets (suc told) acts room rows is = tt
told_keeps (Allocates made next) heard.Shuts (suc told) acts room rows is = tt
told_keeps (Allocates made next) (heard.Kept kept) (suc told) acts room rows is =
    same_counts (next kept) told acts room rows (sooner (next kept) told acts room rows (is kept))

spends_more : (it : Heard) (rest : List Heard) →
    (acts_spent (it ∷ rest) ≡ acts_spent (it ∷ []) + acts_spent rest)
    × (room_spent (it ∷ rest) ≡ room_spent (it ∷ []) + room_spent rest)
    × (rows_spent (it ∷ rest) ≡ rows_spent (it ∷ []) + rows_spent rest)
spends_more (heard.Reply reply may) rest = (omega arith, omega arith, omega arith)
spends_more heard.Bares rest = (omega arith, omega arith, omega arith)
spends_more heard.Brackets rest = (omega arith, omega arith, omega arith)
spends_more heard.Shuts rest = (omega arith, omega arith, omega arith)
spends_more (heard.Kept kept) rest = (omega arith, omega arith, omega arith)

pub walk_keeps : (tree : RequestTree) (all : List Heard) (told acts room rows : ℕ) → KeepsOn tree told acts room rows →
    KeepsOn (walk tree all) (told - length all) (acts - acts_spent all) (room - room_spent all) (rows - rows_spent all)
unfolding walk
walk_keeps tree [] told acts room rows is =
    by_counts tree told acts room rows _ _ _ _ is (omega arith) (omega arith) (omega arith) (omega arith)
walk_keeps tree (it ∷ rest) told acts room rows is =
    let more = spends_more it rest in
    let next = walk_keeps (told_on tree it) rest (told - 1) (acts - acts_spent (it ∷ []))
    (room - room_spent (it ∷ [])) (rows - rows_spent (it ∷ [])) (told_keeps tree it told acts room rows is) in
    by_counts (walk (told_on tree it) rest) _ _ _ _ _ _ _ _ next (omega arith) (omega (arith, more.0))
    (omega (arith, more.1)) (omega (arith, more.2))

pub walk_more : (tree : RequestTree) (all : List Heard) (it : Heard) →
    walk tree (all ++ (it ∷ [])) ≡ told_on (walk tree all) it
unfolding walk
walk_more tree [] it = refl
walk_more tree (first ∷ rest) it = walk_more (told_on tree first) rest it

pub spent_more : (all : List Heard) (it : Heard) →
    (acts_spent (all ++ (it ∷ [])) ≡ acts_spent all + acts_spent (it ∷ []))
    × (room_spent (all ++ (it ∷ [])) ≡ room_spent all + room_spent (it ∷ []))
    × (rows_spent (all ++ (it ∷ [])) ≡ rows_spent all + rows_spent (it ∷ []))
spent_more [] it = (omega arith, omega arith, omega arith)
spent_more (first ∷ rest) it =
    let more = spent_more rest it in
    let one = spends_more first (rest ++ (it ∷ [])) in
    let other = spends_more first rest in (
      omega (arith, more.0, one.0, other.0),
      omega (arith, more.1, one.1, other.1),
      omega (arith, more.2, one.2, other.2),
    )

-- what a tree spends at its next step
pub record HasRoom (may : Brings) (told acts room rows : ℕ) : Type 0 where
  pub told_is : 1 ≤ told
  pub affords : Affords may acts room rows

pub for_keeps : (tree : RequestTree) (wanted : Act) (opens : Option Hold) (told acts room rows : ℕ) →
    AsksFor tree wanted opens → KeepsOn tree told acts room rows →
    HasRoom (act_may (deed_of wanted) opens) told acts room rows
for_keeps (Asks deed more) wanted None zero acts room rows asks is = absurd is
for_keeps (Asks deed more) wanted None (suc told) acts room rows asks is =
    let affords = act_affords (brings_of deed) acts room rows (λ acts' room' rows'.
    (reply : ActReply) → KeepsOn (more reply) told acts' room' rows') is in
    record {
      told_is = omega arith;
      affords = subst (λ (d : Deed). Affords (brings_of d) acts room rows) (sym asks) affords;
    }
for_keeps (Opens call scope more) wanted (Some laid) zero acts room rows asks is = absurd is
for_keeps (Opens call scope more) wanted (Some laid) (suc told) acts room rows asks is = record {
  told_is = omega arith;
  affords = act_affords brings.Hold acts room rows (λ acts' room' rows'.
      (reply : ActReply) → KeepsOn (more reply) told acts' room' rows') is;
}
for_keeps tree wanted opens told acts room rows asks is = absurd asks

pub bares_keeps : (tree rest : RequestTree) (told acts room rows : ℕ) → tree ≡ Bares rest →
    KeepsOn tree told acts room rows → 1 ≤ told
bares_keeps tree rest zero acts room rows e is = absurd (subst (λ (t : RequestTree). KeepsOn t zero acts room rows) e is)
bares_keeps tree rest (suc told) acts room rows e is = omega arith

-- what it may go on with keeps to its bounds, and takes no memory
pub keeps_spares : (tree : RequestTree) (told acts room rows : ℕ) → Keeps tree told acts room rows →
    allocates tree ≡ false
keeps_spares (Gives last) told acts room rows is = refl
keeps_spares (Refuses reply) told acts room rows is = refl
keeps_spares (Asks deed more) told acts room rows is = refl
keeps_spares (Opens call scope more) told acts room rows is = refl
keeps_spares (Bares rest) told acts room rows is = refl
keeps_spares (Brackets rest) told acts room rows is = refl
keeps_spares (Shuts passes rest) told acts room rows is = refl
keeps_spares (Allocates made next) zero acts room rows is = absurd is
keeps_spares (Allocates made next) (suc told) acts room rows is = absurd is

-- behind a mark it takes none
pub bares_spare : (tree : RequestTree) (told acts room rows : ℕ) → KeepsOn tree told acts room rows →
    allocates (told_on tree heard.Bares) ≡ false
bares_spare (Gives last) told acts room rows is = refl
bares_spare (Refuses reply) told acts room rows is = refl
bares_spare (Asks deed more) told acts room rows is = refl
bares_spare (Opens call scope more) told acts room rows is = refl
bares_spare (Bares rest) zero acts room rows is = absurd is
bares_spare (Bares rest) (suc told) acts room rows is = keeps_spares rest told acts room rows is
bares_spare (Brackets rest) told acts room rows is = refl
bares_spare (Shuts passes rest) told acts room rows is = refl
bares_spare (Allocates made next) told acts room rows is = refl

pub brackets_spare : (tree : RequestTree) (told acts room rows : ℕ) → KeepsOn tree told acts room rows →
    allocates (told_on tree heard.Brackets) ≡ false
brackets_spare (Gives last) told acts room rows is = refl
brackets_spare (Refuses reply) told acts room rows is = refl
brackets_spare (Asks deed more) told acts room rows is = refl
brackets_spare (Opens call scope more) told acts room rows is = refl
brackets_spare (Bares rest) told acts room rows is = refl
brackets_spare (Brackets rest) zero acts room rows is = absurd is
brackets_spare (Brackets rest) (suc told) acts zero rows is = absurd is
brackets_spare (Brackets rest) (suc told) acts (suc room) rows is = keeps_spares rest told acts room rows is
brackets_spare (Shuts passes rest) told acts room rows is = refl
brackets_spare (Allocates made next) told acts room rows is = refl

pub shuts_spare : (tree : RequestTree) (told acts room rows : ℕ) → KeepsOn tree told acts room rows →
    allocates (told_on tree heard.Shuts) ≡ false
shuts_spare (Gives last) told acts room rows is = refl
shuts_spare (Refuses reply) told acts room rows is = refl
shuts_spare (Asks deed more) told acts room rows is = refl
shuts_spare (Opens call scope more) told acts room rows is = refl
shuts_spare (Bares rest) told acts room rows is = refl
shuts_spare (Brackets rest) told acts room rows is = refl
shuts_spare (Shuts passes rest) zero acts room rows is = absurd is
shuts_spare (Shuts passes rest) (suc told) acts room rows is = keeps_spares rest told acts room rows is
shuts_spare (Allocates made next) told acts room rows is = refl

-- what is made is one more that is told, and behind it no more is made
pub makes_keeps : (tree : RequestTree) (made : Product) (next : Product → RequestTree) (told acts room rows : ℕ) →
    tree ≡ Allocates made next → KeepsOn tree told acts room rows →
    (1 ≤ told) × ((kept : Product) → allocates (next kept) ≡ false)
makes_keeps tree made next zero acts room rows e is =
    absurd (subst (λ (t : RequestTree). KeepsOn t zero acts room rows) e is)
makes_keeps tree made next (suc told) acts room rows e is =
    let keeps = subst (λ (t : RequestTree). KeepsOn t (suc told) acts room rows) e is in
    (omega arith, λ kept. keeps_spares (next kept) told acts room rows (keeps kept))

-- where a request stops there is room for what its act may bring
wants_room : (all : List Heard) (tree : RequestTree) (act : Act) (told acts room rows : ℕ) →
    IsStop all tree (stop.Wants act) → KeepsOn tree told acts room rows → holds_in (brings_of (deed_of act)) ≤ room
wants_room all tree act told acts room rows is keeps =
    (for_keeps tree act None told acts room rows (wants_asks all tree act is) keeps).affords.room_is

opens_room : (all : List Heard) (tree : RequestTree) (act : Act) (laid : Hold) (told acts room rows : ℕ) →
    IsStop all tree (stop.Opens act laid) → KeepsOn tree told acts room rows → 1 ≤ room
opens_room all tree act laid told acts room rows is keeps =
    (for_keeps tree act (Some laid) told acts room rows (opens_asks all tree act laid is) keeps).affords.room_is

pub stops_room : (all : List Heard) (tree : RequestTree) (halt : Stop) (told acts room rows : ℕ) →
    IsStop all tree halt → KeepsOn tree told acts room rows → holds_in (stop_may halt) ≤ room
stops_room all tree (stop.Wants act) told acts room rows is keeps = wants_room all tree act told acts room rows is keeps
stops_room all tree (stop.Opens act laid) told acts room rows is keeps =
    opens_room all tree act laid told acts room rows is keeps
stops_room all tree (stop.Gives same) told acts room rows is keeps = omega arith
stops_room all tree (stop.Moves what place) told acts room rows is keeps = omega arith
stops_room all tree (stop.Refuses same) told acts room rows is keeps = omega arith
stops_room all tree stop.Bares told acts room rows is keeps = omega arith
stops_room all tree stop.Brackets told acts room rows is keeps = omega arith
stops_room all tree (stop.Shuts may) told acts room rows is keeps = omega arith
stops_room all tree (stop.Makes same) told acts room rows is keeps = omega arith
stops_room all tree stop.GivesUp told acts room rows is keeps = omega arith

-- a mark is one more that is told, and a bracket that begins takes room
pub brackets_keeps : (tree rest : RequestTree) (told acts room rows : ℕ) → tree ≡ Brackets rest →
    KeepsOn tree told acts room rows → (1 ≤ told) × (1 ≤ room)
brackets_keeps tree rest zero acts room rows e is =
    absurd (subst (λ (t : RequestTree). KeepsOn t zero acts room rows) e is)
brackets_keeps tree rest (suc told) acts zero rows e is =
    absurd (subst (λ (t : RequestTree). KeepsOn t (suc told) acts zero rows) e is)
brackets_keeps tree rest (suc told) acts (suc room) rows e is = (omega arith, omega arith)

pub shuts_keeps : (tree rest : RequestTree) (passes : Bool) (told acts room rows : ℕ) → tree ≡ Shuts passes rest →
    KeepsOn tree told acts room rows → 1 ≤ told
shuts_keeps tree rest passes zero acts room rows e is =
    absurd (subst (λ (t : RequestTree). KeepsOn t zero acts room rows) e is)
shuts_keeps tree rest passes (suc told) acts room rows e is = omega arith

pub act_keeps : (all : List Heard) (tree : RequestTree) (told acts room rows : ℕ) → IsAhead all tree ahead.Act →
    KeepsOn tree told acts room rows → 1 ≤ acts
unfolding IsAhead
act_keeps all (Asks deed more) zero acts room rows is keeps = absurd keeps
act_keeps all (Asks deed more) (suc told) acts room rows is keeps =
    let affords = act_affords (brings_of deed) acts room rows (λ acts' room' rows'.
    (reply : ActReply) → KeepsOn (more reply) told acts' room' rows') keeps in
    omega (arith, affords.acts_go)
act_keeps all (Opens call scope more) zero acts room rows is keeps = absurd keeps
act_keeps all (Opens call scope more) (suc told) acts room rows is keeps =
    let affords = act_affords brings.Hold acts room rows (λ acts' room' rows'.
    (reply : ActReply) → KeepsOn (more reply) told acts' room' rows') keeps in
    omega (arith, affords.acts_go)
act_keeps all (Gives last) told acts room rows is keeps = absurd is
act_keeps all (Refuses reply) told acts room rows is keeps = absurd is
act_keeps all (Bares rest) told acts room rows is keeps = absurd is
act_keeps all (Brackets rest) told acts room rows is keeps = absurd is
act_keeps all (Shuts passes rest) told acts room rows is keeps = absurd is
act_keeps all (Allocates made next) told acts room rows is keeps = absurd is
