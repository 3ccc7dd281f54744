-- A bracket that gives back one hold too few is refused: what is left of it comes to no end that the discipline
-- allows. With the mark that the frame lays it does.
use Rattle.std.proofs.Common.{◌≡◌, ℕ, [], ◌∷◌, None, refl, ap}
use Rattle.pt_host.specs.declared.seat.HostSeat.{HostSeat}
use Rattle.pt_iface.specs.declared.answer.Answer.TheVariants as answer
use Rattle.pt_frame.specs.Grammar.{Grammar, End, Belongs}
use Rattle.pt_frame.specs.Frame.{shut}
use Rattle.pt_frame.specs.declared.finish.Finish.{Finish}
use Rattle.pt_frame.specs.declared.finish.Finish.TheVariants as finish
use Rattle.pt_frame.specs.declared.hold.Hold.TheVariants as hold
use Rattle.pt_law.specs.Discipline.{Job, Notes, at_job, ComesToEnd}
use Rattle.pt_law.proofs.Sound.{Sound}
use Rattle.pt_law.proofs.Sounds.{sound_shut}

abbrev done : Finish
done = finish.Answer answer.Done

-- a bracket in which a slot was taken, which gives back what lies above so many holds
abbrev bracket : HostSeat → ℕ → Grammar
bracket seat mark = shut seat None mark (hold.Slot 0 ∷ []) (λ left. End done)

pub ends_too_soon : (seat : HostSeat) → Belongs (bracket seat 1) [] done
ends_too_soon seat = refl

pub is_refused : (seat : HostSeat) (notes : Notes) → Sound (bracket seat 1) (at_job (hold.Slot 0 ∷ []) notes) → ⊥
is_refused seat notes s = let e = s.0.1 in absurd (cc)

pub comes_to_no_end : (notes : Notes) → ComesToEnd (at_job (hold.Slot 0 ∷ []) notes) [] done → ⊥
comes_to_no_end notes e = let same = ap (λ (j : Job). j.holds) e.2 in absurd (cc)

pub is_allowed : (seat : HostSeat) (notes : Notes) → notes.brought ≡ None →
    Sound (bracket seat 0) (at_job (hold.Slot 0 ∷ []) notes)
is_allowed seat notes none =
    sound_shut seat None 0 (hold.Slot 0 ∷ []) (λ left. End done) notes none (λ later l. ((0, refl), refl))
