-- What was there before a name was opened is none that was made by it, and a handle is open on one object alone. What
-- is new under a free name was made, and a handle of it is open on it.
use Rattle.std.proofs.Common.{◌≡◌, ℕ, ◌<◌, List, refl, sym, ◌∙◌, arith, Some, None}
use Rattle.pt_host.specs.declared.ids.Fd.{Fd}
use Rattle.pt_host.specs.declared.ids.ObjIds.{ObjIds}
use Rattle.pt_law.specs.Findings.{IsHandled, MadeIn}
use Rattle.pt_law.specs.Story.{Handling, Opening}
use Rattle.pt_law.specs.World.{World}

some_same : {a b : ℕ} → Some a ≡ Some b → a ≡ b
some_same e = cc

none_some : {a : ℕ} → None ≡ Some a → ⊥
none_some e = cc

-- the object stood in the list before
pub was_there : (opening : Opening) (parent : ℕ) (name : List ℕ) (object : ℕ) → object < opening.objects →
    MadeIn opening parent name object → ⊥
was_there opening parent name object listed made = let new = made.1 in absurd (omega (arith, listed, new))

-- the name was there
pub was_taken : (opening : Opening) (parent : ℕ) (name : List ℕ) (object other : ℕ) →
    opening.led_to ≡ Some other → MadeIn opening parent name object → ⊥
was_taken opening parent name object other leads made = none_some (sym made.0.had_led ∙ leads)

-- the name was free in object 0, for which the number stood, and what is listed last was opened
pub was_made : (opening : Opening) (parent : ℕ) (ids : ObjIds) (name : List ℕ) →
    opening.parent ≡ Some (record { number = parent; ids = ids; object = Some 0 }) → opening.directory ≡ Some 0 →
    opening.name ≡ name → opening.led_to ≡ None → opening.object ≡ Some opening.objects →
    MadeIn opening parent name opening.objects
was_made opening parent ids name stood on named free new = (
  record {
    ids = ids;
    directory = 0;
    resolved = stood;
    opened_in = on;
    name_is = named;
    had_led = free;
    opened = new;
  },
  refl,
)

-- handle 5 of number 2, whose descriptor was open on object 1
abbrev handling : Fd → ℕ → Handling
handling fd stood = record {
  handle = 5;
  number = 2;
  row = 7;
  fd = fd;
  object = Some 1;
  stood_for = Some stood;
  giving = None;
}

-- the number stood for another
pub opens_another : (world : World) (fd : Fd) → IsHandled world (handling fd 0) → ⊥
opens_another world fd handled =
    let on : 1 ≡ handled.object = some_same handled.open_on in
    let stood : 0 ≡ handled.object = some_same handled.stood_for in
    absurd (omega (arith, on, stood))

pub opens_it : (world : World) (fd : Fd) → world.past.objects 7 ≡ Some 1 → IsHandled world (handling fd 1)
opens_it world fd settled = record {
  object = 1;
  open_on = refl;
  stood_for = refl;
  settled = settled;
  as_given = λ apart giving none. absurd (cc);
}
