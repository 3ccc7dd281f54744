-- Whatever a job asks, a request or an edit: it keeps the discipline to its end, whole or cut, and an answer that
-- refuses or that memory ran out has its cause.
use Rattle.std.proofs.Common.{◌≡◌, ◌++◌, ◌∷◌, ◌∙◌, ◌||◌, ◌⊎◌, [], ℕ, Bool, List, ap, false, inl, inr, refl, subst, sym}
use Rattle.std.proofs.Common.{true}
use Rattle.pt_host.specs.declared.edit.Edit.{Edit}
use Rattle.pt_host.specs.declared.reply.HostReply.TheVariants as host
use Rattle.pt_host.specs.declared.seat.HostSeat.{HostSeat}
use Rattle.pt_iface.specs.declared.answer.Answer.{Answer}
use Rattle.pt_iface.specs.declared.answer.Answer.TheVariants as answer
use Rattle.pt_iface.specs.declared.entry.Entry.{Entry}
use Rattle.pt_iface.specs.declared.flags.OpenOptions.{OpenOptions}
use Rattle.pt_iface.specs.declared.request.Context.{Context}
use Rattle.pt_iface.specs.declared.request.Extensions.{Extensions}
use Rattle.pt_iface.specs.declared.request.Request.{Request}
use Rattle.pt_iface.specs.declared.request.Request.TheVariants as request
use Rattle.pt_frame.specs.Deed.{Step, lacks_memory}
use Rattle.pt_frame.specs.Edit.{edit_answer, edit_grammar}
use Rattle.pt_frame.specs.Frame.{CutAfter, CutInFull}
use Rattle.pt_frame.specs.Grammar.{Belongs}
use Rattle.pt_frame.specs.Memory.{RanOut}
use Rattle.pt_frame.specs.Replies.{passes_with}
use Rattle.pt_frame.specs.Sparing.{IsSparing}
use Rattle.pt_frame.specs.Tree.{Allocates, Asks, Bares, Brackets, Gives, Opens, Refuses, RequestTree, Shuts}
use Rattle.pt_frame.specs.declared.act.ActReply.{ActReply}
use Rattle.pt_frame.specs.declared.act.ActReply.TheVariants.{Host}
use Rattle.pt_frame.specs.declared.finish.Finish.{Finish}
use Rattle.pt_frame.specs.declared.finish.Finish.TheVariants as finish
use Rattle.pt_req.specs.declared.plan.Plan.{Plan}
use Rattle.pt_job.specs.Pattern.{Asked, Edits, Requests, grammar_for, grammar_of, takes_memory, takes_memory_for}
use Rattle.pt_job.specs.Pattern.{tree_of}
use Rattle.pt_job.proofs.Answering.{has_cause, requests_spare}
use Rattle.pt_law.specs.Branch.{TakesNone}
use Rattle.pt_law.specs.Discipline.{ComesToEnd, blank, idle}
use Rattle.pt_law.specs.Told.{AllMayBeTold}
use Rattle.pt_law.proofs.Branches.{branch}
use Rattle.pt_law.proofs.Ending.{keeps_ends, keeps_ends_cut}
use Rattle.pt_law.proofs.Full.{Lasting, cut_in_full, framed_lasts}
use Rattle.pt_fit.specs.Answered.{ComesToAnswer}
use Rattle.pt_fit.specs.Cause.{Asking, IsCaused, IsCausedBy, asking}
use Rattle.pt_fit.specs.Fit.{IsCausedLeaf, MayAnswer}
use Rattle.pt_fit.proofs.Edits.{edit_caused, edit_cut, edit_ended}
use Rattle.pt_fit.proofs.Fitting.{IsRight, fit_along, fit_keeps, nothing_within, own_told, own_within}
use Rattle.pt_fit.proofs.Requests.{fit_request}

pub request_ends : (plan : Plan) (seat : HostSeat) (who : Context) (asked : Request) (steps : List Step)
    (end : Finish) → AllMayBeTold steps → Belongs (grammar_of plan seat who asked) steps end →
    ComesToEnd idle steps end
request_ends plan seat who asked steps end t b =
    keeps_ends seat (tree_of plan seat who asked) steps end
    (fit_keeps (asking plan who asked) (tree_of plan seat who asked) [] [] blank []
    (fit_request plan seat who asked)) t b

pub request_ends_cut : (plan : Plan) (seat : HostSeat) (who : Context) (asked : Request) (so_far steps : List Step)
    (end : Finish) → AllMayBeTold so_far → AllMayBeTold steps →
    CutAfter seat (grammar_of plan seat who asked) so_far steps end → ComesToEnd idle (so_far ++ steps) end
request_ends_cut plan seat who asked so_far steps end u t b =
    keeps_ends_cut seat (tree_of plan seat who asked) so_far steps end
    (fit_keeps (asking plan who asked) (tree_of plan seat who asked) [] [] blank []
    (fit_request plan seat who asked)) u t b

same_answer : (last given : Answer) → finish.Answer last ≡ finish.Answer given → last ≡ given
same_answer last given e = cc

-- an answer has its cause, and is such as may be given
cause_of : (asked : Asking) (steps : List Step) (last : Answer) → IsCausedLeaf asked steps last →
    (last ≡ answer.NoMemory → RanOut steps ⊎ (takes_memory asked.request ≡ true)) → IsCaused asked steps last
cause_of asked steps (answer.Refused errno) c ran = c
cause_of asked steps answer.NoMemory c ran = ran refl
cause_of asked steps last c ran = tt

pub request_right : (plan : Plan) (seat : HostSeat) (who : Context) (asked : Request) (steps : List Step)
    (last : Answer) → AllMayBeTold steps → Belongs (grammar_of plan seat who asked) steps (finish.Answer last) →
    IsRight (asking plan who asked) steps last
request_right plan seat who asked steps last t b =
    elim (branch seat (tree_of plan seat who asked) [] [] steps (finish.Answer last) b) [
      | inl lost ↦ absurd lost
      | inr (inl up) ↦ subst (IsRight (asking plan who asked) steps)
          (sym (same_answer last answer.NoMemory up.answered)) (tt, tt)
      | inr (inr r) ↦ subst (IsRight (asking plan who asked) steps) (sym (same_answer last r.1 r.3))
          (fit_along (asking plan who asked) (tree_of plan seat who asked) [] [] blank [] r.0 steps r.1 refl
          (fit_request plan seat who asked) (own_told r.0 steps r.2 t) (nothing_within (asking plan who asked) steps)
          (own_within (asking plan who asked) r.0 steps r.2) r.4)
    ]

request_caused : (plan : Plan) (seat : HostSeat) (who : Context) (asked : Request) (steps : List Step)
    (last : Answer) → AllMayBeTold steps → Belongs (grammar_of plan seat who asked) steps (finish.Answer last) →
    IsCaused (asking plan who asked) steps last
request_caused plan seat who asked steps last t b =
    cause_of (asking plan who asked) steps last (request_right plan seat who asked steps last t b).0 (λ e.
    has_cause plan seat who asked steps
    (subst (λ (l : Answer). Belongs (grammar_of plan seat who asked) steps (finish.Answer l)) e b))

-- whatever is asked
pub job_ends : (plan : Plan) (seat : HostSeat) (asked : Asked) (steps : List Step) (end : Finish) →
    AllMayBeTold steps → Belongs (grammar_for plan seat asked) steps end → ComesToEnd idle steps end
job_ends plan seat (Requests who asked) steps end t b = request_ends plan seat who asked steps end t b
job_ends plan seat (Edits edit) steps end t b = edit_ended edit steps end b

pub job_ends_cut : (plan : Plan) (seat : HostSeat) (asked : Asked) (so_far steps : List Step) (end : Finish) →
    AllMayBeTold so_far → AllMayBeTold steps → CutAfter seat (grammar_for plan seat asked) so_far steps end →
    ComesToEnd idle (so_far ++ steps) end
job_ends_cut plan seat (Requests who asked) so_far steps end u t b =
    request_ends_cut plan seat who asked so_far steps end u t b
job_ends_cut plan seat (Edits edit) so_far steps end u t b = edit_cut seat edit so_far steps end b

-- what takes no memory of its own does so whatever may be told
spares_none : (lacked : Bool) (tree : RequestTree) → IsSparing lacked tree → TakesNone tree
spares_none lacked (Gives last) s = tt
spares_none lacked (Refuses told) s = tt
spares_none lacked (Asks deed next) s = λ told t. spares_none (lacks_memory told || lacked) (next told) (s told)
spares_none lacked (Opens call scope next) s =
    λ told t. spares_none (lacks_memory told || lacked) (next told) (s told)
spares_none lacked (Bares rest) s = spares_none lacked rest s
spares_none lacked (Brackets rest) s = spares_none lacked rest s
spares_none lacked (Shuts passes rest) s = spares_none lacked rest s
spares_none lacked (Allocates made next) s = absurd s

-- Where memory ran out at no step, a job that is cut, and takes no memory of its own, had not given up.
pub job_full : (plan : Plan) (seat : HostSeat) (asked : Asked) (so_far steps : List Step) (end : Finish) →
    takes_memory_for asked ≡ false → AllMayBeTold so_far → (RanOut so_far → ⊥) →
    CutAfter seat (grammar_for plan seat asked) so_far steps end →
    CutInFull seat (grammar_for plan seat asked) so_far steps end
job_full plan seat (Requests who asked) so_far steps end none t n b =
    cut_in_full seat (tree_of plan seat who asked) so_far steps end
    (spares_none false (tree_of plan seat who asked) (requests_spare plan seat who asked none)) t n b
job_full plan seat (Edits edit) [] steps end none t n b = b
job_full plan seat (Edits edit) (step ∷ so_far) steps end none t n b = absurd b.1

-- and it gives up only there
pub job_lasts : (plan : Plan) (seat : HostSeat) (asked : Asked) → takes_memory_for asked ≡ false →
    Lasting (grammar_for plan seat asked)
job_lasts plan seat (Requests who asked) none =
    framed_lasts seat (tree_of plan seat who asked) [] []
    (spares_none false (tree_of plan seat who asked) (requests_spare plan seat who asked none))
job_lasts plan seat (Edits edit) none = λ told t n. tt

pub told_front : (front back : List Step) → AllMayBeTold (front ++ back) → AllMayBeTold front × AllMayBeTold back
told_front [] back t = (tt, t)
told_front (step ∷ front) back t = let k = told_front front back t.1 in ((t.0, k.0), k.1)

pub comes_ends : (plan : Plan) (seat : HostSeat) (asked : Asked) (steps : List Step) (end : Finish) →
    AllMayBeTold steps → ComesToAnswer plan seat asked steps end → ComesToEnd idle steps end
comes_ends plan seat asked steps end t (inl b) = job_ends plan seat asked steps end t b
comes_ends plan seat asked steps end t (inr c) =
    let k = told_front c.0 c.1 (subst AllMayBeTold c.2 t) in
    subst (λ (all : List Step). ComesToEnd idle all end) (sym c.2)
    (job_ends_cut plan seat asked c.0 c.1 end k.0 k.1 c.3)

pub job_caused : (plan : Plan) (seat : HostSeat) (asked : Asked) (steps : List Step) (last : Answer) →
    AllMayBeTold steps → Belongs (grammar_for plan seat asked) steps (finish.Answer last) →
    IsCausedBy plan asked steps last
job_caused plan seat (Requests who asked) steps last t b = request_caused plan seat who asked steps last t b
job_caused plan seat (Edits edit) steps last t b = edit_caused edit steps last b

-- an entry with a handle is the answer of `create`
abbrev IsCreate : Request → Type 0
IsCreate asked =
    (parent : ℕ) × (name : List ℕ) × (mode : ℕ) × (kill : Bool) × (flags : ℕ) × (umask : ℕ) × (ext : Extensions)
    × (asked ≡ request.Create parent name mode kill flags umask ext)

made_by_create : (asked : Request) (entry : Entry) (handle : ℕ) (options : OpenOptions) →
    MayAnswer (answer.Created entry handle options) asked → IsCreate asked
made_by_create (request.Create parent name mode kill flags umask ext) entry handle options m =
    (parent, name, mode, kill, flags, umask, ext, refl)
made_by_create asked entry handle options m = absurd m

edit_no_entry : (told : ActReply) → passes_with (edit_answer told) ≡ true → ⊥
edit_no_entry (Host (host.Ok value)) e = cc
edit_no_entry (Host (host.Refused errno)) e = cc
edit_no_entry (Host (host.Fault errno)) e = cc
edit_no_entry told e = cc

-- an edit is answered with no entry
pub edit_passes_none : (edit : Edit) (steps : List Step) (last : Answer) → passes_with last ≡ true →
    Belongs (edit_grammar edit) steps (finish.Answer last) → ⊥
edit_passes_none edit [] last p b = b
edit_passes_none edit (step ∷ []) last p b =
    edit_no_entry step.reply (ap passes_with (sym (same_answer last (edit_answer step.reply) b.1)) ∙ p)
edit_passes_none edit (step ∷ more ∷ steps) last p b = b.1

pub created_asked : (plan : Plan) (seat : HostSeat) (asked : Asked) (steps : List Step) (entry : Entry) (handle : ℕ)
    (options : OpenOptions) → AllMayBeTold steps →
    Belongs (grammar_for plan seat asked) steps (finish.Answer (answer.Created entry handle options)) →
    (who : Context) × (parent : ℕ) × (name : List ℕ) × (mode : ℕ) × (kill : Bool) × (flags : ℕ) × (umask : ℕ)
    × (ext : Extensions) × (asked ≡ Requests who (request.Create parent name mode kill flags umask ext))
created_asked plan seat (Requests who asked) steps entry handle options t b =
    let right = request_right plan seat who asked steps (answer.Created entry handle options) t b in
    let k = made_by_create asked entry handle options right.1 in
    (who, k.0, k.1, k.2, k.3, k.4, k.5, k.6, ap (λ (r : Request). Requests who r) k.7)
created_asked plan seat (Edits edit) steps entry handle options t b =
    absurd (edit_passes_none edit steps (answer.Created entry handle options) refl b)
