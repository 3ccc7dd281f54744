-- What belongs to a sound grammar keeps the discipline to its end, whole or cut.
use Rattle.std.proofs.Common.{inl, inr, List, [], ◌∷◌, ◌++◌, refl, sym, subst}
use Rattle.pt_host.specs.declared.seat.HostSeat.{HostSeat}
use Rattle.pt_frame.specs.Deed.{Step}
use Rattle.pt_frame.specs.Grammar.{Grammar, End, Do, May, Belongs}
use Rattle.pt_frame.specs.Frame.{CutAfter, cut}
use Rattle.pt_frame.specs.Tree.{RequestTree, grammar_of_tree}
use Rattle.pt_frame.specs.declared.finish.Finish.{Finish}
use Rattle.pt_law.specs.Discipline.{Job, idle, blank, ComesToEnd}
use Rattle.pt_law.specs.Told.{AllMayBeTold}
use Rattle.pt_law.specs.Keeps.{Keeps}
use Rattle.pt_law.proofs.Sound.{Sound}
use Rattle.pt_law.proofs.Sounds.{sound_framed, sound_cut}

ends : (grammar : Grammar) (job : Job) (steps : List Step) (last : Finish) → Sound grammar job →
    AllMayBeTold steps → Belongs grammar steps last → ComesToEnd job steps last
ends (End given) job [] last s t b =
    subst (λ (end : Finish). ComesToEnd job [] end) (sym b)
    (s.0.0, job.notes, (λ i. record { holds = sym s.0.1 i; owed = sym s.1 i; notes = job.notes }))
ends (End given) job (step ∷ steps) last s t b = absurd b
ends (Do wanted owed next) job [] last s t b = absurd b
ends (Do wanted owed next) job (step ∷ steps) last s t b =
    let k = s.1 step b.0 t.0 in
    let rest = ends (next step.reply) k.0 steps last k.2 t.1 b.1 in
    (rest.0, rest.1, (k.0, k.1, rest.2))
ends (May one other) job steps last s t (inl b) = ends one job steps last s.0 t b
ends (May one other) job steps last s t (inr b) = ends other job steps last s.1 t b

ends_cut : (seat : HostSeat) (grammar : Grammar) (job : Job) (so_far steps : List Step) (last : Finish) →
    Sound grammar job → AllMayBeTold so_far → AllMayBeTold steps → CutAfter seat grammar so_far steps last →
    ComesToEnd job (so_far ++ steps) last
ends_cut seat (End given) job so_far steps last s u t b = absurd b
ends_cut seat (Do wanted owed next) job [] steps last s u t b =
    ends (cut seat owed) job steps last (sound_cut seat owed job s.0) t b
ends_cut seat (Do wanted owed next) job (step ∷ so_far) steps last s u t b =
    let k = s.1 step b.0 u.0 in
    let rest = ends_cut seat (next step.reply) k.0 so_far steps last k.2 u.1 t b.1 in
    (rest.0, rest.1, (k.0, k.1, rest.2))
ends_cut seat (May one other) job so_far steps last s u t (inl b) =
    ends_cut seat one job so_far steps last s.0 u t b
ends_cut seat (May one other) job so_far steps last s u t (inr b) =
    ends_cut seat other job so_far steps last s.1 u t b

pub keeps_ends : (seat : HostSeat) (tree : RequestTree) (steps : List Step) (last : Finish) → Keeps tree [] [] blank →
    AllMayBeTold steps → Belongs (grammar_of_tree seat tree) steps last → ComesToEnd idle steps last
keeps_ends seat tree steps last f t b =
    ends (grammar_of_tree seat tree) idle steps last (sound_framed seat tree [] [] blank refl f) t b

pub keeps_ends_cut : (seat : HostSeat) (tree : RequestTree) (so_far steps : List Step) (last : Finish) →
    Keeps tree [] [] blank → AllMayBeTold so_far → AllMayBeTold steps →
    CutAfter seat (grammar_of_tree seat tree) so_far steps last → ComesToEnd idle (so_far ++ steps) last
keeps_ends_cut seat tree so_far steps last f u t b =
    ends_cut seat (grammar_of_tree seat tree) idle so_far steps last (sound_framed seat tree [] [] blank refl f) u t b
