use Rattle.std.proofs.Common.{◌≡◌, ◌<◌, ◌∙◌, Some, List, refl, length}
use Rattle.std.proofs.Common.{slice_get, slice_set, arith}
use Rattle.std.proofs.lemmas.List.{length-set}
use Rattle.std.proofs.lemmas.Option.{slice_get_within, slice_get_read}
use Rattle.pt_fs.specs.Laid.{Settles, state_at, states_in}
use Rattle.pt_fs.specs.Placed.{JobPlace, Goes, Ended}
use Rattle.pt_fs.proofs.Away.{last_kept, last_runs, moved_kept, moved_runs, moved_was, settles_over, taken_over}
use Rattle.pt_fs.proofs.Lists.{TakenOut, taken_out}
use Rattle.pt_fs.proofs.jobs.put_away.Goals.{After-end, After-index}
use Rattle.pt_fs.proofs.jobs.put_away.Goals as goal

-- the machine of the job was taken out
out : (c : After-end) → TakenOut c.args.going.now.items c.args.index c.swap_remove-it.new.self.items
out c = taken_out c.args.going.now.items c.swap_remove-it.new.self.items c.args.index _ _
    c.swap_remove-it.new.self.ok.0 c.args.going.now.ok.0 c.swap_remove-it.ensures.len
    c.swap_remove-it.ensures.by_index

settled : (c : After-end) (places : List JobPlace) → states_in places c.swap_remove-it.new.self.items
    ≡ slice_set (states_in c.args.places.now.at c.args.going.now.items) c.args.id.0
    (state_at c.swap_remove-it.new.self.items (Ended c.ended.result)) →
    Settles c.args.places.now.at c.args.going.now.items c.args.id.0 c.args.index places
    c.swap_remove-it.new.self.items
settled c places runs = settles_over c.requires.laid c.args.id.0 c.args.index c.requires.index
    c.swap_remove-it.result c.swap_remove-it.ensures.value c.requires.ended c.ended.result c.ended.ensures.left
    c.ended.ensures.lost places c.swap_remove-it.new.self.items runs

-- and the last one lies where it was, where it was not the last
low : (c : After-index) → c.args.index < length c.swap_remove-it.new.self.items
low c = omega (arith, c.if-index-len.true, c.len.ensures, c.swap_remove-it.new.self.ok.0)

in_place : (c : After-index) → slice_get c.swap_remove-it.new.self.items c.args.index ≡ Some c.index.result.now
in_place c =
    slice_get_read c.swap_remove-it.new.self.items _ c.args.index c.index.result.now refl (low c) c.index.ensures

pub swap_remove-it-requires : goal.swap_remove-it-requires
swap_remove-it-requires c =
    let own = c.requires.laid.there c.args.id.0 c.args.index c.requires.index in
    let inside = slice_get_within c.args.going.now.items c.args.index own.0 own.1 in
    omega (arith, inside, c.args.going.now.ok.0)

pub ended-requires : goal.ended-requires
ended-requires c = taken_over c.requires.laid c.args.id.0 c.args.index c.requires.index c.swap_remove-it.result
    c.swap_remove-it.ensures.value c.requires.ended

pub end-requires : goal.end-requires
end-requires c = record { named = slice_get_within c.args.places.now.at c.args.id.0 _ c.requires.index }

pub go-requires : goal.go-requires
go-requires c =
    let at = goal.at.go-requires c in
    let was = moved_was c.requires.laid c.args.id.0 c.args.index c.requires.index c.ended.result (out at.After-end)
    c.index.result.now (low at.After-index) (in_place at.After-index) in
    record { named = rw c.end.ensures.ended (slice_get_within _ c.index.result.now.id.0 _ was) }

pub returns-then-index-len : goal.returns-then-index-len
returns-then-index-len c =
    let at = goal.at.returns-then-index-len c in
    let over = c.ended.result in
    let on = out at.After-end in
    let moved = c.index.result.now in
    rw (c.go.ensures.goes, c.end.ensures.ended) record {
      kept = moved_kept c.requires.laid c.args.id.0 c.args.index c.requires.index over on moved (low at.After-index)
          (in_place at.After-index) c.requires.others_go
          (omega (arith, c.requires.room, c.swap_remove-it.ensures.capacity));
      same = length-set (slice_set c.args.places.now.at c.args.id.0 (Ended over)) moved.id.0 (Goes c.args.index)
          ∙ length-set c.args.places.now.at c.args.id.0 (Ended over);
      starts = c.go.ensures.starts ∙ c.end.ensures.starts;
      settles = settled at.After-end _ (moved_runs c.requires.laid c.args.id.0 c.args.index c.requires.index over on
          moved (low at.After-index) (in_place at.After-index));
    }

pub returns-else-index-len : goal.returns-else-index-len
returns-else-index-len c =
    let at = goal.at.returns-else-index-len c in
    let over = c.ended.result in
    let on = out at.After-end in
    let few = on.fewer in
    let own = c.requires.laid.there c.args.id.0 c.args.index c.requires.index in
    let inside = slice_get_within c.args.going.now.items c.args.index own.0 own.1 in
    let last : c.args.index ≡ length c.swap_remove-it.new.self.items =
    omega (arith, few, inside, c.if-index-len.false, c.len.ensures, c.swap_remove-it.new.self.ok.0) in
    rw c.end.ensures.ended record {
      kept = last_kept c.requires.laid c.args.id.0 c.args.index c.requires.index over on last c.requires.others_go
          (omega (arith, c.requires.room, c.swap_remove-it.ensures.capacity));
      same = length-set c.args.places.now.at c.args.id.0 (Ended over);
      starts = c.end.ensures.starts;
      settles = settled at.After-end _
          (last_runs c.requires.laid c.args.id.0 c.args.index c.requires.index over on last);
    }
