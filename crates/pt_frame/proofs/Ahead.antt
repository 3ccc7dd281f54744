-- What comes next of a request is where it stops.
use Rattle.std.proofs.Common.{◌≡◌, ◌≢◌, ap, refl, sym, Bool, true, ℕ, List, Bor}
use Rattle.pt_iface.specs.declared.answer.Answer.{Answer}
use Rattle.pt_frame.specs.Deed.{deed_of}
use Rattle.pt_frame.specs.Replies.{refusal}
use Rattle.pt_frame.specs.Tree.{RequestTree, Gives, Refuses, Asks, Opens, Bares, Brackets, Shuts, Allocates}
use Rattle.pt_frame.specs.Tree.{allocates}
use Rattle.pt_frame.specs.Machine.Ahead.{IsAhead}
use Rattle.pt_frame.specs.Machine.Walk.{AsksFor, IsStop, asking, deed_in, elsewhere}
use Rattle.pt_frame.specs.Machine.Walk.{told_on, walk, HasFor, moved_in}
use Rattle.pt_frame.specs.declared.act.Act.{Act}
use Rattle.pt_frame.specs.declared.act.ActReply.{ActReply}
use Rattle.pt_frame.specs.declared.asking.Stop.{Stop}
use Rattle.pt_frame.specs.declared.asking.Stop.TheVariants as stop
use Rattle.pt_frame.specs.declared.hold.Hold.{Hold}
use Rattle.pt_frame.specs.declared.machine.going.Ahead.{Ahead}
use Rattle.pt_frame.specs.declared.machine.going.Ahead.TheVariants as ahead
use Rattle.pt_frame.specs.declared.product.Product.{Product}
use Rattle.pt_frame.specs.declared.told.Heard.{Heard}
use Rattle.pt_frame.specs.declared.told.Heard.TheVariants as heard
use Rattle.pt_frame.specs.declared.told.Moved.{Moved}
use Rattle.std.proofs.Common.{Some, None, slice_get, subst}

pub wants_ahead : (told : List Heard) (tree : RequestTree) (act : Act) → IsStop told tree (stop.Wants act) →
    IsAhead told tree ahead.Act
unfolding IsStop IsAhead
wants_ahead told (Gives last) act is = absurd is
wants_ahead told (Refuses reply) act is = absurd is
wants_ahead told (Asks deed more) act is = tt
wants_ahead told (Opens call scope more) act is = absurd is
wants_ahead told (Bares rest) act is = absurd is
wants_ahead told (Brackets rest) act is = absurd is
wants_ahead told (Shuts passes rest) act is = absurd is
wants_ahead told (Allocates made next) act is = absurd is

pub opens_ahead : (told : List Heard) (tree : RequestTree) (act : Act) (laid : Hold) →
    IsStop told tree (stop.Opens act laid) → IsAhead told tree ahead.Act
unfolding IsStop IsAhead
opens_ahead told (Gives last) act laid is = absurd is
opens_ahead told (Refuses reply) act laid is = absurd is
opens_ahead told (Asks deed more) act laid is = absurd is
opens_ahead told (Opens call scope more) act laid is = tt
opens_ahead told (Bares rest) act laid is = absurd is
opens_ahead told (Brackets rest) act laid is = absurd is
opens_ahead told (Shuts passes rest) act laid is = absurd is
opens_ahead told (Allocates made next) act laid is = absurd is

pub gives_ahead : (told : List Heard) (tree : RequestTree) (same : Answer) → IsStop told tree (stop.Gives same) →
    IsAhead told tree (ahead.Gives same)
unfolding IsStop IsAhead
gives_ahead told (Gives last) same is = is
gives_ahead told (Refuses reply) same is = absurd is
gives_ahead told (Asks deed more) same is = absurd is
gives_ahead told (Opens call scope more) same is = absurd is
gives_ahead told (Bares rest) same is = absurd is
gives_ahead told (Brackets rest) same is = absurd is
gives_ahead told (Shuts passes rest) same is = absurd is
gives_ahead told (Allocates made next) same is = absurd is

pub moves_ahead : (told : List Heard) (tree : RequestTree) (what : Moved) (place : ℕ) →
    IsStop told tree (stop.Moves what place) → IsAhead told tree (ahead.Moves what place)
unfolding IsStop IsAhead
moves_ahead told (Gives last) what place is = is
moves_ahead told (Refuses reply) what place is = absurd is
moves_ahead told (Asks deed more) what place is = absurd is
moves_ahead told (Opens call scope more) what place is = absurd is
moves_ahead told (Bares rest) what place is = absurd is
moves_ahead told (Brackets rest) what place is = absurd is
moves_ahead told (Shuts passes rest) what place is = absurd is
moves_ahead told (Allocates made next) what place is = absurd is

pub refuses_ahead : (told : List Heard) (tree : RequestTree) (same : Bor ActReply) →
    IsStop told tree (stop.Refuses same) → IsAhead told tree (ahead.Refuses (refusal same.now))
unfolding IsStop IsAhead
refuses_ahead told (Gives last) same is = absurd is
refuses_ahead told (Refuses reply) same is = ap refusal is
refuses_ahead told (Asks deed more) same is = absurd is
refuses_ahead told (Opens call scope more) same is = absurd is
refuses_ahead told (Bares rest) same is = absurd is
refuses_ahead told (Brackets rest) same is = absurd is
refuses_ahead told (Shuts passes rest) same is = absurd is
refuses_ahead told (Allocates made next) same is = absurd is

pub bares_ahead : (told : List Heard) (tree : RequestTree) → IsStop told tree stop.Bares → IsAhead told tree ahead.Bares
unfolding IsStop IsAhead
bares_ahead told (Gives last) is = absurd is
bares_ahead told (Refuses reply) is = absurd is
bares_ahead told (Asks deed more) is = absurd is
bares_ahead told (Opens call scope more) is = absurd is
bares_ahead told (Bares rest) is = tt
bares_ahead told (Brackets rest) is = absurd is
bares_ahead told (Shuts passes rest) is = absurd is
bares_ahead told (Allocates made next) is = absurd is

pub brackets_ahead : (told : List Heard) (tree : RequestTree) → IsStop told tree stop.Brackets →
    IsAhead told tree ahead.Brackets
unfolding IsStop IsAhead
brackets_ahead told (Gives last) is = absurd is
brackets_ahead told (Refuses reply) is = absurd is
brackets_ahead told (Asks deed more) is = absurd is
brackets_ahead told (Opens call scope more) is = absurd is
brackets_ahead told (Bares rest) is = absurd is
brackets_ahead told (Brackets rest) is = tt
brackets_ahead told (Shuts passes rest) is = absurd is
brackets_ahead told (Allocates made next) is = absurd is

pub shuts_ahead : (told : List Heard) (tree : RequestTree) (may : Bool) → IsStop told tree (stop.Shuts may) →
    IsAhead told tree (ahead.Shuts may)
unfolding IsStop IsAhead
shuts_ahead told (Gives last) may is = absurd is
shuts_ahead told (Refuses reply) may is = absurd is
shuts_ahead told (Asks deed more) may is = absurd is
shuts_ahead told (Opens call scope more) may is = absurd is
shuts_ahead told (Bares rest) may is = absurd is
shuts_ahead told (Brackets rest) may is = absurd is
shuts_ahead told (Shuts passes rest) may is = is
shuts_ahead told (Allocates made next) may is = absurd is

pub makes_ahead : (told : List Heard) (tree : RequestTree) (same : Product) → IsStop told tree (stop.Makes same) → IsAhead told tree (ahead.Makes same)
unfolding IsStop IsAhead
makes_ahead told (Gives last) same is = absurd is
makes_ahead told (Refuses reply) same is = absurd is
makes_ahead told (Asks deed more) same is = absurd is
makes_ahead told (Opens call scope more) same is = absurd is
makes_ahead told (Bares rest) same is = absurd is
makes_ahead told (Brackets rest) same is = absurd is
makes_ahead told (Shuts passes rest) same is = absurd is
makes_ahead told (Allocates made next) same is = is

pub ends_ahead : (told : List Heard) (tree : RequestTree) → IsStop told tree stop.GivesUp → IsAhead told tree ahead.GivesUp
unfolding IsStop IsAhead
ends_ahead told (Gives last) is = absurd is
ends_ahead told (Refuses reply) is = absurd is
ends_ahead told (Asks deed more) is = absurd is
ends_ahead told (Opens call scope more) is = absurd is
ends_ahead told (Bares rest) is = absurd is
ends_ahead told (Brackets rest) is = absurd is
ends_ahead told (Shuts passes rest) is = absurd is
ends_ahead told (Allocates made next) is = tt

-- what comes next of what was heard, where it is read from a slice and is told by another name
pub ahead_of : (tree : RequestTree) (heard told : List Heard) (found other : Ahead) → heard ≡ told →
    IsAhead heard (walk tree heard) found → found ≡ other → IsAhead told (walk tree told) other
ahead_of tree heard told found other same is found_is =
    subst (λ (x : Ahead). IsAhead told (walk tree told) x) found_is
    (subst (λ (x : List Heard). IsAhead x (walk tree x) found) same is)

-- the act that is asked for
pub wants_asks : (told : List Heard) (tree : RequestTree) (act : Act) → IsStop told tree (stop.Wants act) →
    AsksFor tree act None
unfolding IsStop
wants_asks told (Gives last) act is = absurd is
wants_asks told (Refuses reply) act is = absurd is
wants_asks told (Asks deed more) act is = is
wants_asks told (Opens call scope more) act is = absurd is
wants_asks told (Bares rest) act is = absurd is
wants_asks told (Brackets rest) act is = absurd is
wants_asks told (Shuts passes rest) act is = absurd is
wants_asks told (Allocates made next) act is = absurd is

pub opens_asks : (told : List Heard) (tree : RequestTree) (act : Act) (laid : Hold) →
    IsStop told tree (stop.Opens act laid) → AsksFor tree act (Some laid)
unfolding IsStop
opens_asks told (Gives last) act laid is = absurd is
opens_asks told (Refuses reply) act laid is = absurd is
opens_asks told (Asks deed more) act laid is = absurd is
opens_asks told (Opens call scope more) act laid is = is
opens_asks told (Bares rest) act laid is = absurd is
opens_asks told (Brackets rest) act laid is = absurd is
opens_asks told (Shuts passes rest) act laid is = absurd is
opens_asks told (Allocates made next) act laid is = absurd is

pub wants_deed : (told : List Heard) (tree : RequestTree) (act : Act) → IsStop told tree (stop.Wants act) →
    deed_of act ≡ deed_in (asking tree)
unfolding IsStop
wants_deed told (Gives last) act is = absurd is
wants_deed told (Refuses reply) act is = absurd is
wants_deed told (Asks deed more) act is = is
wants_deed told (Opens call scope more) act is = absurd is
wants_deed told (Bares rest) act is = absurd is
wants_deed told (Brackets rest) act is = absurd is
wants_deed told (Shuts passes rest) act is = absurd is
wants_deed told (Allocates made next) act is = absurd is

pub opens_deed : (told : List Heard) (tree : RequestTree) (act : Act) (laid : Hold) →
    IsStop told tree (stop.Opens act laid) → deed_of act ≡ deed_in (asking tree)
unfolding IsStop
opens_deed told (Gives last) act laid is = absurd is
opens_deed told (Refuses reply) act laid is = absurd is
opens_deed told (Asks deed more) act laid is = absurd is
opens_deed told (Opens call scope more) act laid is = is.0
opens_deed told (Bares rest) act laid is = absurd is
opens_deed told (Brackets rest) act laid is = absurd is
opens_deed told (Shuts passes rest) act laid is = absurd is
opens_deed told (Allocates made next) act laid is = absurd is

pub gives_else : (told : List Heard) (tree : RequestTree) (same : Answer) → IsStop told tree (stop.Gives same) →
    asking tree ≡ elsewhere
unfolding IsStop
gives_else told (Gives last) same is = refl
gives_else told (Refuses reply) same is = absurd is
gives_else told (Asks deed more) same is = absurd is
gives_else told (Opens call scope more) same is = absurd is
gives_else told (Bares rest) same is = absurd is
gives_else told (Brackets rest) same is = absurd is
gives_else told (Shuts passes rest) same is = absurd is
gives_else told (Allocates made next) same is = absurd is

pub moves_else : (told : List Heard) (tree : RequestTree) (what : Moved) (place : ℕ) →
    IsStop told tree (stop.Moves what place) → asking tree ≡ elsewhere
unfolding IsStop
moves_else told (Gives last) what place is = refl
moves_else told (Refuses reply) what place is = absurd is
moves_else told (Asks deed more) what place is = absurd is
moves_else told (Opens call scope more) what place is = absurd is
moves_else told (Bares rest) what place is = absurd is
moves_else told (Brackets rest) what place is = absurd is
moves_else told (Shuts passes rest) what place is = absurd is
moves_else told (Allocates made next) what place is = absurd is

pub refuses_else : (told : List Heard) (tree : RequestTree) (same : Bor ActReply) →
    IsStop told tree (stop.Refuses same) → asking tree ≡ elsewhere
unfolding IsStop
refuses_else told (Gives last) same is = absurd is
refuses_else told (Refuses reply) same is = refl
refuses_else told (Asks deed more) same is = absurd is
refuses_else told (Opens call scope more) same is = absurd is
refuses_else told (Bares rest) same is = absurd is
refuses_else told (Brackets rest) same is = absurd is
refuses_else told (Shuts passes rest) same is = absurd is
refuses_else told (Allocates made next) same is = absurd is

pub bares_else : (told : List Heard) (tree : RequestTree) → IsStop told tree stop.Bares → asking tree ≡ elsewhere
unfolding IsStop
bares_else told (Gives last) is = absurd is
bares_else told (Refuses reply) is = absurd is
bares_else told (Asks deed more) is = absurd is
bares_else told (Opens call scope more) is = absurd is
bares_else told (Bares rest) is = refl
bares_else told (Brackets rest) is = absurd is
bares_else told (Shuts passes rest) is = absurd is
bares_else told (Allocates made next) is = absurd is

pub brackets_else : (told : List Heard) (tree : RequestTree) → IsStop told tree stop.Brackets → asking tree ≡ elsewhere
unfolding IsStop
brackets_else told (Gives last) is = absurd is
brackets_else told (Refuses reply) is = absurd is
brackets_else told (Asks deed more) is = absurd is
brackets_else told (Opens call scope more) is = absurd is
brackets_else told (Bares rest) is = absurd is
brackets_else told (Brackets rest) is = refl
brackets_else told (Shuts passes rest) is = absurd is
brackets_else told (Allocates made next) is = absurd is

pub shuts_else : (told : List Heard) (tree : RequestTree) (may : Bool) → IsStop told tree (stop.Shuts may) →
    asking tree ≡ elsewhere
unfolding IsStop
shuts_else told (Gives last) may is = absurd is
shuts_else told (Refuses reply) may is = absurd is
shuts_else told (Asks deed more) may is = absurd is
shuts_else told (Opens call scope more) may is = absurd is
shuts_else told (Bares rest) may is = absurd is
shuts_else told (Brackets rest) may is = absurd is
shuts_else told (Shuts passes rest) may is = refl
shuts_else told (Allocates made next) may is = absurd is

pub makes_else : (told : List Heard) (tree : RequestTree) (same : Product) → IsStop told tree (stop.Makes same) → asking tree ≡ elsewhere
unfolding IsStop
makes_else told (Gives last) same is = absurd is
makes_else told (Refuses reply) same is = absurd is
makes_else told (Asks deed more) same is = absurd is
makes_else told (Opens call scope more) same is = absurd is
makes_else told (Bares rest) same is = absurd is
makes_else told (Brackets rest) same is = absurd is
makes_else told (Shuts passes rest) same is = absurd is
makes_else told (Allocates made next) same is = refl

pub ends_else : (told : List Heard) (tree : RequestTree) → IsStop told tree stop.GivesUp → asking tree ≡ elsewhere
unfolding IsStop
ends_else told (Gives last) is = absurd is
ends_else told (Refuses reply) is = absurd is
ends_else told (Asks deed more) is = absurd is
ends_else told (Opens call scope more) is = absurd is
ends_else told (Bares rest) is = absurd is
ends_else told (Brackets rest) is = absurd is
ends_else told (Shuts passes rest) is = absurd is
ends_else told (Allocates made next) is = refl

pub other_else : (told : List Heard) (tree : RequestTree) (halt : Stop) → ((act : Act) → halt ≢ stop.Wants act) →
    ((act : Act) (laid : Hold) → halt ≢ stop.Opens act laid) → IsStop told tree halt → asking tree ≡ elsewhere
other_else told tree (stop.Wants act) not other is = absurd (not act refl)
other_else told tree (stop.Opens act laid) not other is = absurd (other act laid refl)
other_else told tree (stop.Gives same) not other is = gives_else told tree same is
other_else told tree (stop.Moves what place) not other is = moves_else told tree what place is
other_else told tree (stop.Refuses same) not other is = refuses_else told tree same is
other_else told tree stop.Bares not other is = bares_else told tree is
other_else told tree stop.Brackets not other is = brackets_else told tree is
other_else told tree (stop.Shuts may) not other is = shuts_else told tree may is
other_else told tree (stop.Makes same) not other is = makes_else told tree same is
other_else told tree stop.GivesUp not other is = ends_else told tree is

-- what the tree is then
pub record MovesTo (told : List Heard) (tree : RequestTree) (what : Moved) (place : ℕ) : Type 0 where
  pub has : HasFor what told place
  pub same : tree ≡ Gives (moved_in what (slice_get told place))

pub record RefusesSo (tree : RequestTree) (same : Answer) : Type 0 where
  pub reply : ActReply
  pub tree_is : tree ≡ Refuses reply
  pub same_is : same ≡ refusal reply

pub ahead_act : (told : List Heard) (tree : RequestTree) → IsAhead told tree ahead.Act → asking tree ≡ tree
unfolding IsAhead
ahead_act told (Gives last) is = absurd is
ahead_act told (Refuses reply) is = absurd is
ahead_act told (Asks deed more) is = refl
ahead_act told (Opens call scope more) is = refl
ahead_act told (Bares rest) is = absurd is
ahead_act told (Brackets rest) is = absurd is
ahead_act told (Shuts passes rest) is = absurd is
ahead_act told (Allocates made next) is = absurd is

pub ahead_gives : (told : List Heard) (tree : RequestTree) (same : Answer) → IsAhead told tree (ahead.Gives same) →
    tree ≡ Gives same
unfolding IsAhead
ahead_gives told (Gives last) same is = ap Gives (sym is)
ahead_gives told (Refuses reply) same is = absurd is
ahead_gives told (Asks deed more) same is = absurd is
ahead_gives told (Opens call scope more) same is = absurd is
ahead_gives told (Bares rest) same is = absurd is
ahead_gives told (Brackets rest) same is = absurd is
ahead_gives told (Shuts passes rest) same is = absurd is
ahead_gives told (Allocates made next) same is = absurd is

pub ahead_moves : (told : List Heard) (tree : RequestTree) (what : Moved) (place : ℕ) →
    IsAhead told tree (ahead.Moves what place) → MovesTo told tree what place
unfolding IsAhead
ahead_moves told (Gives last) what place is = record { has = is.0; same = ap Gives (sym is.1) }
ahead_moves told (Refuses reply) what place is = absurd is
ahead_moves told (Asks deed more) what place is = absurd is
ahead_moves told (Opens call scope more) what place is = absurd is
ahead_moves told (Bares rest) what place is = absurd is
ahead_moves told (Brackets rest) what place is = absurd is
ahead_moves told (Shuts passes rest) what place is = absurd is
ahead_moves told (Allocates made next) what place is = absurd is

pub ahead_refuses : (told : List Heard) (tree : RequestTree) (same : Answer) → IsAhead told tree (ahead.Refuses same) →
    RefusesSo tree same
unfolding IsAhead
ahead_refuses told (Gives last) same is = absurd is
ahead_refuses told (Refuses reply) same is = record { reply = reply; tree_is = refl; same_is = is }
ahead_refuses told (Asks deed more) same is = absurd is
ahead_refuses told (Opens call scope more) same is = absurd is
ahead_refuses told (Bares rest) same is = absurd is
ahead_refuses told (Brackets rest) same is = absurd is
ahead_refuses told (Shuts passes rest) same is = absurd is
ahead_refuses told (Allocates made next) same is = absurd is

pub ahead_bares : (told : List Heard) (tree : RequestTree) → IsAhead told tree ahead.Bares →
    tree ≡ Bares (told_on tree heard.Bares)
unfolding IsAhead
ahead_bares told (Gives last) is = absurd is
ahead_bares told (Refuses reply) is = absurd is
ahead_bares told (Asks deed more) is = absurd is
ahead_bares told (Opens call scope more) is = absurd is
ahead_bares told (Bares rest) is = refl
ahead_bares told (Brackets rest) is = absurd is
ahead_bares told (Shuts passes rest) is = absurd is
ahead_bares told (Allocates made next) is = absurd is

pub ahead_brackets : (told : List Heard) (tree : RequestTree) → IsAhead told tree ahead.Brackets →
    tree ≡ Brackets (told_on tree heard.Brackets)
unfolding IsAhead
ahead_brackets told (Gives last) is = absurd is
ahead_brackets told (Refuses reply) is = absurd is
ahead_brackets told (Asks deed more) is = absurd is
ahead_brackets told (Opens call scope more) is = absurd is
ahead_brackets told (Bares rest) is = absurd is
ahead_brackets told (Brackets rest) is = refl
ahead_brackets told (Shuts passes rest) is = absurd is
ahead_brackets told (Allocates made next) is = absurd is

pub ahead_shuts : (told : List Heard) (tree : RequestTree) (may : Bool) → IsAhead told tree (ahead.Shuts may) →
    tree ≡ Shuts may (told_on tree heard.Shuts)
unfolding IsAhead
ahead_shuts told (Gives last) may is = absurd is
ahead_shuts told (Refuses reply) may is = absurd is
ahead_shuts told (Asks deed more) may is = absurd is
ahead_shuts told (Opens call scope more) may is = absurd is
ahead_shuts told (Bares rest) may is = absurd is
ahead_shuts told (Brackets rest) may is = absurd is
ahead_shuts told (Shuts passes rest) may is = rw is refl
ahead_shuts told (Allocates made next) may is = absurd is

-- what is made, which is kept
pub record MakesSo (tree : RequestTree) (same : Product) : Type 0 where
  pub next : Product → RequestTree
  pub tree_is : tree ≡ Allocates same next
  pub then_is : told_on tree (heard.Kept same) ≡ next same

pub ahead_makes : (told : List Heard) (tree : RequestTree) (same : Product) → IsAhead told tree (ahead.Makes same) → MakesSo tree same
unfolding IsAhead
ahead_makes told (Gives last) same is = absurd is
ahead_makes told (Refuses reply) same is = absurd is
ahead_makes told (Asks deed more) same is = absurd is
ahead_makes told (Opens call scope more) same is = absurd is
ahead_makes told (Bares rest) same is = absurd is
ahead_makes told (Brackets rest) same is = absurd is
ahead_makes told (Shuts passes rest) same is = absurd is
ahead_makes told (Allocates made next) same is = record {
  next = next;
  tree_is = ap (λ (x : Product). Allocates x next) (sym is);
  then_is = refl;
}

pub ahead_ends : (told : List Heard) (tree : RequestTree) → IsAhead told tree ahead.GivesUp → allocates tree ≡ true
unfolding IsAhead
ahead_ends told (Gives last) is = absurd is
ahead_ends told (Refuses reply) is = absurd is
ahead_ends told (Asks deed more) is = absurd is
ahead_ends told (Opens call scope more) is = absurd is
ahead_ends told (Bares rest) is = absurd is
ahead_ends told (Brackets rest) is = absurd is
ahead_ends told (Shuts passes rest) is = absurd is
ahead_ends told (Allocates made next) is = refl
