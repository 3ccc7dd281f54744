-- A lookup was answered with number 2, and then 2 is forgotten: once is polite, twice is not, and before the lookup has
-- taken its last step once is not either.
use Rattle.std.proofs.Common.{◌≡◌, ◌≤◌, ℕ, zero, suc, List, [], ◌∷◌, ◌++◌, refl, sym, ap, subst, ◌∙◌, arith, None, Some}
use Rattle.pt_host.specs.declared.ids.ObjIds.{ObjIds}
use Rattle.pt_tables.specs.declared.event.KeptEvent.TheVariants as change
use Rattle.pt_tables.specs.declared.reply.EventReply.TheVariants as event
use Rattle.pt_iface.specs.declared.answer.Answer.TheVariants as answer
use Rattle.pt_iface.specs.declared.entry.Entry.{Entry}
use Rattle.pt_frame.specs.Deed.{Changes}
use Rattle.pt_frame.specs.declared.act.ActReply.TheVariants.{Event}
use Rattle.pt_frame.specs.declared.finish.Finish.{Finish}
use Rattle.pt_frame.specs.declared.finish.Finish.TheVariants as finish
use Rattle.pt_host.specs.Words.{is}
use Rattle.pt_law.specs.Polite.{IsPolite, outstanding}
use Rattle.pt_law.proofs.Lists.{is_same}
use Rattle.pt_law.specs.World.{made, Turn, turn_by}

-- the lookup was given the number
abbrev given_to : ObjIds → Turn
given_to ids = turn_by 0
    (made (Changes (change.Claim (record { era = 0; handle = None; ids = ids })))
    (Event (event.Claimed (record { number = 2; class = 0 }))))

-- it goes on
abbrev goes_on : Turn
goes_on = turn_by 0 (made (Changes (change.Unpin 0)) (Event (event.Done 0)))

-- another job takes so much back
abbrev forgets : ℕ → Turn
forgets count = turn_by 1 (made (Changes (change.Forget ((2, count) ∷ []))) (Event (event.Done 0)))

-- the lookup ends with its entry
abbrev ends : Entry → ℕ → Finish
ends entry zero = finish.Answer (answer.Entry entry)
ends entry (suc job) = finish.Answer answer.NoReply

-- one is outstanding once it has ended
pub one_after : (ids : ObjIds) (entry : Entry) (count : ℕ) → entry.inode ≡ 2 →
    outstanding 2 (ends entry) 2 (given_to ids ∷ []) (forgets count ∷ []) ≡ 1
one_after ids entry count same = rw (ap (λ n. is n 2) same ∙ is_same 2, is_same 2) refl

-- and none before
pub none_before : (ids : ObjIds) (entry : Entry) (count : ℕ) →
    outstanding 2 (ends entry) 2 (given_to ids ∷ []) (forgets count ∷ goes_on ∷ []) ≡ 0
none_before ids entry count = refl

-- to forget it twice is not polite
pub twice : (ids : ObjIds) (entry : Entry) → entry.inode ≡ 2 →
    IsPolite 2 (ends entry) (given_to ids ∷ forgets 2 ∷ []) → ⊥
twice ids entry same polite =
    let asks = polite (given_to ids ∷ []) [] 1 0 ((2, 2) ∷ []) refl 2 in
    let one = one_after ids entry 2 same in
    let two = is_same 2 in
    absurd (omega (arith, asks, one, two))

-- nor to forget it while the lookup has a step left
pub early : (ids : ObjIds) (entry : Entry) →
    IsPolite 2 (ends entry) (given_to ids ∷ forgets 1 ∷ goes_on ∷ []) → ⊥
early ids entry polite =
    let asks = polite (given_to ids ∷ []) (goes_on ∷ []) 1 0 ((2, 1) ∷ []) refl 2 in
    let none = none_before ids entry 1 in
    let two = is_same 2 in
    absurd (omega (arith, asks, none, two))
