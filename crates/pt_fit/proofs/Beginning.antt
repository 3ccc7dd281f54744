-- A job's first step begins it, unless it is its only one.
use Rattle.std.proofs.Common.{◌≡◌, ◌⊎◌, inl, inr, ℕ, List, [], ◌∷◌, ◌++◌, Option, None, Some, refl, sym, subst, Bool}
use Rattle.std.proofs.Common.{true, false}
use Rattle.pt_host.specs.declared.seat.HostSeat.{HostSeat}
use Rattle.pt_tables.specs.declared.event.KeptEvent.TheVariants as change
use Rattle.pt_tables.specs.declared.reply.EventReply.TheVariants as event
use Rattle.pt_iface.specs.declared.request.Context.{Context}
use Rattle.pt_iface.specs.declared.request.Request.{Request}
use Rattle.pt_iface.specs.declared.request.Request.TheVariants as request
use Rattle.pt_frame.specs.Deed.{Deed, Calls, Changes, Step, IsStepOf}
use Rattle.pt_frame.specs.Frame.{leave, cut, CutAfter}
use Rattle.pt_frame.specs.Grammar.{Belongs, owing}
use Rattle.pt_frame.specs.Held.{held}
use Rattle.pt_frame.specs.Replies.{closings_in, refusal}
use Rattle.pt_frame.specs.Tree.{RequestTree, Gives, Refuses, Asks, Opens, Bares, Brackets, Shuts, Allocates, framed}
use Rattle.pt_frame.specs.Tree.{on, go_on}
use Rattle.pt_frame.specs.Tree.{follows}
use Rattle.pt_frame.specs.Tree.{allocates, grammar_of_tree}
use Rattle.pt_frame.specs.declared.act.ActReply.{ActReply}
use Rattle.pt_frame.specs.declared.act.ActReply.TheVariants.{Event, NoCopy}
use Rattle.pt_frame.specs.declared.finish.Finish.{Finish}
use Rattle.pt_frame.specs.declared.finish.Finish.TheVariants as finish
use Rattle.pt_frame.specs.declared.hold.Hold.{Hold}
use Rattle.pt_frame.specs.declared.hold.Taken.TheVariants.{Nothing}
use Rattle.pt_job.specs.Pattern.{tree_of}
use Rattle.pt_req.specs.declared.plan.Plan.{Plan}
use Rattle.pt_job.specs.Pattern.{Asked, Requests, Edits, grammar_for}
use Rattle.pt_law.specs.Laws.{IsBeginning, BeginsFirst}
use Rattle.pt_fit.specs.Answered.{ComesToAnswer}

none_begins : (deed : Deed) → IsBeginning (Some deed) NoCopy → ⊥
none_begins (Changes change.Begin) b = b
none_begins (Changes asked) b = b
none_begins (Calls asked) b = b

begins_as : (deed : Deed) (did : Option Deed) (told : ActReply) → IsStepOf deed did told →
    IsBeginning (Some deed) told → IsBeginning did told
begins_as deed did NoCopy i b = absurd (none_begins deed b)
begins_as deed (Some same) told i b = subst (λ (d : Deed). IsBeginning (Some d) told) (sym i) b
begins_as deed None told i b = absurd i

-- the tree begins: by any other reply it is refused at once, and holds nothing
abbrev Starts : RequestTree → Type 0
Starts (Asks deed next) =
    (told : ActReply) →
    IsBeginning (Some deed) told
    ⊎ ((closings_in deed told ≡ 0) × (held deed told [] ≡ []) × (next told ≡ Refuses told))
Starts tree = ⊥

-- a job that holds nothing and is refused has no step more
refused_now : (seat : HostSeat) (wants : Bool) (last : Finish) (step : Step) (steps : List Step) (end : Finish) →
    Belongs (follows seat wants 0 [] (leave seat [] last)) (step ∷ steps) end → ⊥
refused_now seat true last step steps end (inl b) = b
refused_now seat true last step steps end (inr b) = b
refused_now seat false last step steps end b = b

started : (seat : HostSeat) (tree : RequestTree) (steps : List Step) (end : Finish) → Starts tree →
    Belongs (grammar_of_tree seat tree) steps end → BeginsFirst steps
started seat tree [] end s b = tt
started seat tree (step ∷ []) end s b = tt
started seat (Asks deed next) (step ∷ other ∷ steps) end s b = elim (s step.reply) [
  | inl begins ↦ begins_as deed step.deed step.reply b.0 begins
  | inr refuses ↦
      let wants = allocates (next step.reply) in
      let one = subst (λ (n : ℕ). Belongs (follows seat wants n (held deed step.reply [])
      (framed seat (next step.reply) (held deed step.reply []) [])) (other ∷ steps) end) refuses.0 b.1 in
      let two = subst (λ (h : List Hold). Belongs (follows seat wants 0 h (framed seat (next step.reply) h []))
      (other ∷ steps) end) refuses.1 one in
      let three = subst (λ (t : RequestTree).
      Belongs (follows seat wants 0 [] (framed seat t [] [])) (other ∷ steps) end)
      refuses.2 two in
      absurd (refused_now seat wants (finish.Answer (refusal step.reply)) other steps end three)
]
started seat (Gives last) (step ∷ other ∷ steps) end s b = absurd s
started seat (Refuses told) (step ∷ other ∷ steps) end s b = absurd s
started seat (Opens asked scope next) (step ∷ other ∷ steps) end s b = absurd s
started seat (Bares rest) (step ∷ other ∷ steps) end s b = absurd s
started seat (Brackets rest) (step ∷ other ∷ steps) end s b = absurd s
started seat (Shuts passes rest) (step ∷ other ∷ steps) end s b = absurd s
started seat (Allocates made next) (step ∷ other ∷ steps) end s b = absurd s

-- nor is it cut any more
cut_now : (seat : HostSeat) (wants : Bool) (last : Finish) (so_far rest : List Step) (end : Finish) →
    CutAfter seat (follows seat wants 0 [] (leave seat [] last)) so_far rest end → ⊥
cut_now seat true last so_far rest end (inl c) = c
cut_now seat true last so_far rest end (inr c) = c
cut_now seat false last so_far rest end c = c

-- a job that is cut before its first step has none
cut_unbegun : (seat : HostSeat) (rest : List Step) (end : Finish) →
    Belongs (cut seat (owing false Nothing 0 [])) rest end → rest ≡ []
cut_unbegun seat [] end b = refl
cut_unbegun seat (step ∷ rest) end b = absurd b

begun_first : (steps : List Step) → steps ≡ [] → BeginsFirst steps
begun_first [] e = tt
begun_first (step ∷ steps) e = absurd (cc)

begun_so : (step : Step) (steps : List Step) → IsBeginning step.deed step.reply → BeginsFirst (step ∷ steps)
begun_so step [] b = tt
begun_so step (other ∷ steps) b = b

started_cut : (seat : HostSeat) (tree : RequestTree) (so_far rest : List Step) (end : Finish) → Starts tree →
    CutAfter seat (grammar_of_tree seat tree) so_far rest end → BeginsFirst (so_far ++ rest)
started_cut seat (Asks deed next) [] rest end s c = begun_first rest (cut_unbegun seat rest end c)
started_cut seat (Asks deed next) (step ∷ so_far) rest end s c = elim (s step.reply) [
  | inl begins ↦ begun_so step (so_far ++ rest) (begins_as deed step.deed step.reply c.0 begins)
  | inr refuses ↦
      let wants = allocates (next step.reply) in
      let one = subst (λ (n : ℕ). CutAfter seat (follows seat wants n (held deed step.reply [])
      (framed seat (next step.reply) (held deed step.reply []) [])) so_far rest end) refuses.0 c.1 in
      let two = subst (λ (h : List Hold). CutAfter seat (follows seat wants 0 h (framed seat (next step.reply) h []))
      so_far rest end) refuses.1 one in
      let three = subst (λ (t : RequestTree). CutAfter seat (follows seat wants 0 [] (framed seat t [] []))
      so_far rest end) refuses.2 two in
      absurd (cut_now seat wants (finish.Answer (refusal step.reply)) so_far rest end three)
]
started_cut seat (Gives last) so_far rest end s c = absurd s
started_cut seat (Refuses told) so_far rest end s c = absurd s
started_cut seat (Opens asked scope next) so_far rest end s c = absurd s
started_cut seat (Bares rest) so_far more end s c = absurd s
started_cut seat (Brackets rest) so_far more end s c = absurd s
started_cut seat (Shuts passes rest) so_far more end s c = absurd s
started_cut seat (Allocates made next) so_far more end s c = absurd s

-- each request's tree goes on with the session, or begins it anew
starts : (plan : Plan) (seat : HostSeat) (who : Context) (asked : Request) → Starts (tree_of plan seat who asked)
unfolding on go_on
starts plan seat who (request.Init capable) = elim [
  | Event (event.Cleared era closings) ↦ inl tt
  | told ↦ inr (refl, refl, refl)
]
starts plan seat who request.Destroy = elim [
  | Event (event.Cleared era closings) ↦ inl tt
  | told ↦ inr (refl, refl, refl)
]
starts plan seat who asked = elim [
  | Event (event.Began era agreed) ↦ inl tt
  | told ↦ inr (refl, refl, refl)
]

job_begins : (plan : Plan) (seat : HostSeat) (asked : Asked) (steps : List Step) (end : Finish) →
    Belongs (grammar_for plan seat asked) steps end → BeginsFirst steps
job_begins plan seat (Requests who asked) steps end b =
    started seat (tree_of plan seat who asked) steps end (starts plan seat who asked) b
job_begins plan seat (Edits edit) [] end b = absurd b
job_begins plan seat (Edits edit) (step ∷ []) end b = tt
job_begins plan seat (Edits edit) (step ∷ more ∷ steps) end b = absurd b.1

cut_begins : (plan : Plan) (seat : HostSeat) (asked : Asked) (so_far rest : List Step) (end : Finish) →
    CutAfter seat (grammar_for plan seat asked) so_far rest end → BeginsFirst (so_far ++ rest)
cut_begins plan seat (Requests who asked) so_far rest end c =
    started_cut seat (tree_of plan seat who asked) so_far rest end (starts plan seat who asked) c
cut_begins plan seat (Edits edit) [] rest end c = begun_first rest (cut_unbegun seat rest end c)
cut_begins plan seat (Edits edit) (step ∷ so_far) rest end c = absurd c.1

-- whole or cut
pub job_first : (plan : Plan) (seat : HostSeat) (asked : Asked) (steps : List Step) (end : Finish) →
    ComesToAnswer plan seat asked steps end → BeginsFirst steps
job_first plan seat asked steps end (inl b) = job_begins plan seat asked steps end b
job_first plan seat asked steps end (inr c) =
    subst BeginsFirst (sym c.2) (cut_begins plan seat asked c.0 c.1 end c.3)
