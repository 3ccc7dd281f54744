use Rattle.std.proofs.Common.{◌≡◌, Err, ap, rules}
use Rattle.pt_words.specs.Fields.{places_in}
use Rattle.pt_words.specs.declared.fields.LineError.{LineError}
use Rattle.pt_words.specs.declared.fields.LineError.TheVariants.{Bad}
use Rattle.pt_words.proofs.ShortNumbers.{small_from_start}
use Rattle.pt_words.proofs.PlacesRead.{behind-nothing, behind-more, behind-none, behind-all, shorter}
use Rattle.pt_words.proofs.fields.next_places.Goals as goal

pub short-init : goal.short-init
short-init c = rw (c.in-Ok.ensures, c.left-rest.ensures) (behind-nothing (places_in c.args.words.now))

pub short-preserved : goal.short-preserved
short-preserved c =
    behind-more c.short.places c.push.new.self c.in-Some.place c.short.rest c.next_short_number.new.self
    (places_in c.args.words.now)
    (small_from_start c.short.rest c.next_short_number.new.self c.in-Some.place (search rules)
    c.in-Some.ensures.some)
    c.in-Ok-push.ensures.ok c.short.invariant

pub short-smaller : goal.short-smaller
short-smaller c =
    shorter c.short.rest c.in-Some.place c.next_short_number.new.self
    (small_from_start c.short.rest c.next_short_number.new.self c.in-Some.place (search rules)
    c.in-Some.ensures.some)

pub places-init : goal.places-init
places-init c = rw c.in_default-next_short_number.ensures.none c.short.invariant

pub places-preserved : goal.places-preserved
places-preserved c =
    behind-more c.places.places c.push_place.new.places c.in-Ok-push_place.field-0 c.places.words
    c.push_place.new.words (places_in c.args.words.now)
    c.in-Ok-push_place.ensures.ok c.in-Ok-push_place.ensures.pushed c.places.invariant

pub places-smaller : goal.places-smaller
places-smaller c =
    shorter c.places.words c.in-Ok-push_place.field-0 c.push_place.new.words c.in-Ok-push_place.ensures.ok

pub returns-in-Err-push_place-clause-bad : goal.returns-in-Err-push_place-clause-bad
returns-in-Err-push_place-clause-bad c = λ is.
    let bad : c.in-Err-push_place.error ≡ Bad = cc in
    behind-none c.places.places c.places.words (places_in c.args.words.now) (search rules)
    (c.in-Err-push_place.ensures.bad (ap (λ (e : LineError). Err e) bad)) c.places.invariant

pub returns-clause-ok : goal.returns-clause-ok
returns-clause-ok c =
    behind-all c.places.places c.places.words (places_in c.args.words.now) (search rules) c.places.invariant
