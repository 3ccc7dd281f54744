-- Inner. A tree that makes each of its calls under the right seat, and can put back at any time what it changed.
use Rattle.std.specs.Prelude.{◌≡◌, ◌⊎◌, true, List, [], ◌∷◌, Option, None, Some}
use Rattle.pt_host.specs.SeatCalls.{SeatRow, seat_row}
use Rattle.pt_host.specs.Sorts.{sort_of}
use Rattle.pt_host.specs.declared.reply.HostReply.TheVariants as host
use Rattle.pt_host.specs.declared.reply.HostValue.TheVariants as value
use Rattle.pt_host.specs.declared.seat.HostSeat.{HostSeat}
use Rattle.pt_frame.specs.Deed.{Deed, Calls, Changes}
use Rattle.pt_frame.specs.Frame.{giving}
use Rattle.pt_frame.specs.Held.{is_scope, opened}
use Rattle.pt_frame.specs.Replies.{closings_in, passes_with}
use Rattle.pt_frame.specs.Seats.{seat_by}
use Rattle.pt_frame.specs.Tended.{is_seats_sort}
use Rattle.pt_frame.specs.Tree.{RequestTree, Gives, Refuses, Asks, Opens, Bares, Brackets, Shuts, Allocates}
use Rattle.pt_frame.specs.declared.act.ActReply.{ActReply}
use Rattle.pt_frame.specs.declared.act.ActReply.TheVariants.{Host}
use Rattle.pt_frame.specs.declared.hold.Hold.{Hold}
use Rattle.pt_law.specs.Told.{MayBeTold}
use Rattle.pt_law.specs.Under.{Role, IsMadeAs, SeatAnswers}

-- the seat after this scope was ended
abbrev pub put_back : HostSeat → Hold → HostSeat → HostSeat
put_back seat scope now = seat_by now (Some (giving seat scope)) (Host (host.Ok value.Unit))

-- no host may refuse the call from this seat
abbrev pub IsOwedRow : Option SeatRow → Type 0
IsOwedRow None = ⊥
IsOwedRow (Some row) = row.owed ≡ true

abbrev pub IsOwed : HostSeat → Deed → Type 0
IsOwed now (Calls asked) = IsOwedRow (seat_row now asked)
IsOwed now (Changes asked) = ⊥

-- where these scopes end, the last one first, which no host may refuse, the seat is as the job began
abbrev pub Unwinds : HostSeat → List Hold → HostSeat → Type 0
Unwinds seat [] now = now ≡ seat
Unwinds seat (scope ∷ scopes) now =
    (is_scope scope ≡ true) × IsOwed now (giving seat scope) × Unwinds seat scopes (put_back seat scope now)

-- On each path through the tree, under these open scopes and this seat.
abbrev pub Seats : Role → HostSeat → RequestTree → List Hold → HostSeat → Type 0
Seats role seat (Gives last) scopes now = Unwinds seat scopes now × (passes_with last ≡ true → scopes ≡ [])
Seats role seat (Refuses told) scopes now = Unwinds seat scopes now
Seats role seat (Asks deed next) scopes now =
    Unwinds seat scopes now × IsMadeAs role seat now (Some deed)
    × ((told : ActReply) → MayBeTold deed told → SeatAnswers now (Some deed) told →
    ((scopes ≡ []) ⊎ (closings_in deed told ≡ 0))
    × Seats role seat (next told) scopes (seat_by now (Some deed) told))
Seats role seat (Opens asked scope next) scopes now =
    Unwinds seat scopes now × (is_seats_sort (sort_of asked) ≡ true)
    × ((told : ActReply) → MayBeTold (Calls asked) told → SeatAnswers now (Some (Calls asked)) told →
    Seats role seat (next told) (opened scope told scopes) (seat_by now (Some (Calls asked)) told))
Seats role seat (Bares rest) scopes now = Unwinds seat scopes now × Seats role seat rest [] seat
Seats role seat (Brackets rest) scopes now = Seats role seat rest scopes now
Seats role seat (Shuts passes rest) scopes now = (scopes ≡ []) × (now ≡ seat) × Seats role seat rest [] seat
Seats role seat (Allocates made next) scopes now = Seats role seat (next made) scopes now
