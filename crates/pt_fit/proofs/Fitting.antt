-- What is fit keeps the discipline, and on each branch a refusal has its cause and an answer is such as may be given.
use Rattle.std.proofs.Common.{◌≡◌, ◌∙◌, ap, inl, inr, ℕ, zero, suc, List, [], ◌∷◌, Option, None, Some, refl, sym}
use Rattle.std.proofs.Common.{length, subst}
use Rattle.pt_host.specs.Call.{Call}
use Rattle.pt_host.specs.declared.ids.Errno.{Errno}
use Rattle.pt_host.specs.declared.ids.ObjIds.{ObjIds}
use Rattle.pt_host.specs.declared.flags.OpenFlags.{OpenFlags}
use Rattle.pt_host.specs.declared.reply.HostReply.TheVariants as host
use Rattle.pt_host.specs.declared.reply.HostValue.{HostValue}
use Rattle.pt_tables.specs.declared.reply.EventReply.TheVariants as event
use Rattle.pt_tables.specs.declared.reply.EventRefusal.{EventRefusal}
use Rattle.pt_tables.specs.declared.reply.EventRefusal.TheVariants as refused
use Rattle.pt_iface.specs.declared.answer.Answer.{Answer}
use Rattle.pt_iface.specs.declared.answer.Answer.TheVariants as answer
use Rattle.pt_iface.specs.declared.request.Context.{Context}
use Rattle.pt_iface.specs.declared.request.Request.{Request}
use Rattle.pt_iface.specs.declared.request.Request.TheVariants as request
use Rattle.pt_frame.specs.Deed.{Deed, Calls, Changes, Step, IsStepOf}
use Rattle.pt_frame.specs.Held.{held, opened}
use Rattle.pt_frame.specs.Replies.{closings_in, refusal, event_refusal}
use Rattle.pt_frame.specs.Tree.{RequestTree, Gives, Refuses, Asks, Opens, Bares, Brackets, Shuts, Allocates}
use Rattle.pt_frame.specs.declared.act.ActReply.{ActReply}
use Rattle.pt_frame.specs.declared.act.ActReply.TheVariants.{Event, Host, NoCopy}
use Rattle.pt_frame.specs.declared.hold.Hold.{Hold}
use Rattle.pt_req.specs.declared.plan.Plan.{Plan}
use Rattle.pt_law.specs.Discipline.{Notes, notes_after}
use Rattle.pt_law.specs.Told.{AllMayBeTold}
use Rattle.pt_frame.specs.Frame.{front, behind, under, mark_in, outer}
use Rattle.pt_law.specs.Keeps.{uncovered, down_to, After, Keeps}
use Rattle.pt_law.specs.Branch.{Along, AreOwn, AreOwn.{none, keep, skip}}
use Rattle.pt_law.proofs.Moving.{may_bring_none, told_of}
use Rattle.pt_fit.specs.Cause.{Asking, OpensOn, Shows, SomeShows, TellsCause, WasTold}
use Rattle.pt_fit.specs.Fit.{Fit, IsCausedLeaf, MayAnswer}
use Rattle.pt_law.specs.World.{made}

after_map : (count : ℕ) (P Q : Notes → Type 0) (notes : Notes) → ((later : Notes) → P later → Q later) →
    After count P notes → After count Q notes
after_map zero P Q notes f k = f notes k
after_map (suc count) P Q notes f k = λ later l. f later (k later l)

-- with the same notes at least
after_at : (count : ℕ) (P : Notes → Type 0) (notes : Notes) → notes.brought ≡ None → After count P notes → P notes
after_at zero P notes n k = k
after_at (suc count) P notes n k = k notes (refl, refl, refl, refl, n)

pub fit_keeps : (asked : Asking) (tree : RequestTree) (holds : List Hold) (marks : List ℕ) (notes : Notes)
    (path : List Step) → Fit asked tree holds marks notes path → Keeps tree holds marks notes
fit_keeps asked (Gives last) holds marks notes path f = f.0
fit_keeps asked (Refuses told) holds marks notes path f = tt
fit_keeps asked (Asks deed next) holds marks notes path f = (
  f.0,
  (λ told t. after_map (closings_in deed told) _ _ (notes_after notes deed told) (λ later g.
      fit_keeps asked (next told) (held deed told holds) marks later (made deed told ∷ path) g) (f.1 told t)),
)
fit_keeps asked (Opens call scope next) holds marks notes path f = (
  f.0,
  (λ told t. fit_keeps asked (next told) (opened scope told holds) marks notes (made (Calls call) told ∷ path)
      (f.1 told t)),
)
fit_keeps asked (Bares rest) holds marks notes path f = fit_keeps asked rest (uncovered holds) marks notes path f
fit_keeps asked (Brackets rest) holds marks notes path f =
    fit_keeps asked rest holds (length holds ∷ marks) notes path f
fit_keeps asked (Shuts passes rest) holds marks notes path f =
    λ later l. fit_keeps asked rest (under (front passes holds) (down_to (mark_in marks) (behind passes holds)))
    (outer marks) later path (f later l)
fit_keeps asked (Allocates made next) holds marks notes path f = fit_keeps asked (next made) holds marks notes path f

-- what the one shows or tells, the other shows or tells too
pub record Within (asked : Asking) (some all : List Step) : Type 0 where
  pub shows : (errno : Errno) → SomeShows asked some errno → SomeShows asked all errno
  pub tells : (made : Call) (told : HostValue) → WasTold made told some → WasTold made told all

pub nothing_within : (asked : Asking) (all : List Step) → Within asked [] all
nothing_within asked all = record { shows = λ errno no. absurd no; tells = λ made told no. absurd no }

uncopied : (asked : Asking) (deed : Deed) (errno : Errno) → Shows asked (Some deed) NoCopy errno → ⊥
uncopied asked (Calls call) errno s = s
uncopied asked (Changes made) errno s = s

-- what the deed shows, the step shows
shows_of : (asked : Asking) (deed : Deed) (done : Option Deed) (told : ActReply) (errno : Errno) →
    IsStepOf deed done told → Shows asked (Some deed) told errno → Shows asked done told errno
shows_of asked deed (Some same) NoCopy errno i s = absurd (uncopied asked deed errno s)
shows_of asked deed (Some same) told errno i s = subst (λ (d : Deed). Shows asked (Some d) told errno) (sym i) s
shows_of asked deed None NoCopy errno i s = absurd (uncopied asked deed errno s)
shows_of asked deed None told errno i s = absurd i

-- and what the deed was told, the step was told
tells_of : (deed : Deed) (done : Option Deed) (reply : ActReply) (call : Call) (told : HostValue) →
    IsStepOf deed done reply → (Some deed ≡ Some (Calls call)) × (reply ≡ Host (host.Ok told)) →
    (done ≡ Some (Calls call)) × (reply ≡ Host (host.Ok told))
tells_of deed (Some same) NoCopy call told i t = absurd (cc (t.1))
tells_of deed (Some same) reply call told i t = (ap (λ (d : Deed). Some d) i ∙ t.0, t.1)
tells_of deed None NoCopy call told i t = absurd (cc (t.1))
tells_of deed None reply call told i t = absurd i

-- a step further
further : (asked : Asking) (deed : Deed) (step : Step) (path own all : List Step) →
    IsStepOf deed step.deed step.reply → Within asked path all → Within asked (step ∷ own) all →
    Within asked (made deed step.reply ∷ path) all
further asked deed step path own all i w v = record { shows = shown; tells = told }
  where
    shown : (errno : Errno) → SomeShows asked (made deed step.reply ∷ path) errno → SomeShows asked all errno
    shown errno (inl s) = v.shows errno (inl (shows_of asked deed step.deed step.reply errno i s))
    shown errno (inr s) = w.shows errno s

    told : (call : Call) (value : HostValue) → WasTold call value (made deed step.reply ∷ path) →
        WasTold call value all
    told call value (inl t) = v.tells call value (inl (tells_of deed step.deed step.reply call value i t))
    told call value (inr t) = w.tells call value t

-- without its first step
rest_within : (asked : Asking) (step : Step) (own all : List Step) → Within asked (step ∷ own) all →
    Within asked own all
rest_within asked step own all v =
    record { shows = λ errno s. v.shows errno (inr s); tells = λ call told t. v.tells call told (inr t) }

opens_within : (asked : Asking) (path all : List Step) (name : List ℕ) (flags : OpenFlags) (mode : ℕ)
    (ids : ObjIds) → Within asked path all → OpensOn name flags mode ids path → OpensOn name flags mode ids all
opens_within asked path all name flags mode ids w (dir, fd, stat, opened, looked, are) =
    (dir, fd, stat, w.tells _ _ opened, w.tells _ _ looked, are)

told_within : (asked : Asking) (plan : Plan) (who : Context) (what : Request) (path all : List Step)
    (errno : Errno) → Within asked path all → TellsCause plan who what path errno →
    TellsCause plan who what all errno
told_within asked plan who (request.Create parent name mode kill flags umask ext) path all errno w
    ((made, found, making, finding, differ), e) =
    let opens = opens_within asked path all in
    ((made, found, opens _ _ _ _ w making, opens _ _ _ _ w finding, differ), e)
told_within asked plan who (request.Access inode mask) path all errno w ((fd, stat, looked, denied), e) =
    ((fd, stat, w.tells _ _ looked, denied), e)
told_within asked plan who (request.GetXattr inode name size) path all errno w ((fd, through, named, count, told, long), e) =
    ((fd, through, named, count, w.tells _ _ told, long), e)
told_within asked plan who (request.ListXattr inode size) path all errno w ((fd, through, named, count, told, long), e) =
    ((fd, through, named, count, w.tells _ _ told, long), e)
told_within asked plan who (request.ReadDir inode handle size offset) path all errno w ((fd, bytes, told, broken), e) =
    ((fd, bytes, w.tells _ _ told, broken), e)
told_within asked plan who what path all errno w c = absurd c

caused_within : (asked : Asking) (last : Answer) (path all : List Step) → Within asked path all →
    IsCausedLeaf asked path last → IsCausedLeaf asked all last
caused_within asked (answer.Refused errno) path all w (inl own) = inl own
caused_within asked (answer.Refused errno) path all w (inr (inl made)) = inr (inl (w.shows errno made))
caused_within asked (answer.Refused errno) path all w (inr (inr two)) =
    inr (inr (told_within asked asked.plan asked.who asked.request path all errno w two))
caused_within asked last path all w c = tt

-- what a refusal answers is no entry
event_answers : (what : Request) (why : EventRefusal) → MayAnswer (event_refusal why) what
event_answers what refused.NotLive = tt
event_answers what why = tt

refusal_answers : (what : Request) (told : ActReply) → MayAnswer (refusal told) what
refusal_answers what (Event (event.Refused why)) = event_answers what why
refusal_answers what (Host host.NoMemory) = tt
refusal_answers what told = tt

-- an answer on a branch has its cause, and is such as may be given
abbrev pub IsRight : Asking → List Step → Answer → Type 0
IsRight asked steps last = IsCausedLeaf asked steps last × MayAnswer last asked.request

at_leaf : (asked : Asking) (given last : Answer) (path all : List Step) → last ≡ given → Within asked path all →
    IsCausedLeaf asked path given → MayAnswer given asked.request → IsRight asked all last
at_leaf asked given last path all e w c m =
    subst (IsRight asked all) (sym e) (caused_within asked given path all w c, m)

pub fit_along : (asked : Asking) (tree : RequestTree) (holds : List Hold) (marks : List ℕ) (notes : Notes)
    (path own all : List Step) (last : Answer) → notes.brought ≡ None → Fit asked tree holds marks notes path →
    AllMayBeTold own → Within asked path all → Within asked own all → Along tree own last → IsRight asked all last
fit_along asked (Gives given) holds marks notes path [] all last n f t w v a =
    at_leaf asked given last path all a w f.1 f.2
fit_along asked (Gives given) holds marks notes path (step ∷ own) all last n f t w v a = absurd a
fit_along asked (Refuses told) holds marks notes path [] all last n f t w v a =
    at_leaf asked (refusal told) last path all a w f (refusal_answers asked.request told)
fit_along asked (Refuses told) holds marks notes path (step ∷ own) all last n f t w v a = absurd a
fit_along asked (Asks deed next) holds marks notes path [] all last n f t w v a = absurd a
fit_along asked (Asks deed next) holds marks notes path (step ∷ own) all last n f t w v a =
    let brings = may_bring_none deed step.reply holds notes f.0 n in
    fit_along asked (next step.reply) (held deed step.reply holds) marks (notes_after notes deed step.reply)
    (made deed step.reply ∷ path) own all last brings
    (after_at (closings_in deed step.reply) _ (notes_after notes deed step.reply) brings
    (f.1 step.reply (told_of deed step.deed step.reply a.0 t.0))) t.1
    (further asked deed step path own all a.0 w v) (rest_within asked step own all v) a.1
fit_along asked (Opens call scope next) holds marks notes path [] all last n f t w v a = absurd a
fit_along asked (Opens call scope next) holds marks notes path (step ∷ own) all last n f t w v a =
    fit_along asked (next step.reply) (opened scope step.reply holds) marks notes
    (made (Calls call) step.reply ∷ path) own all last n
    (f.1 step.reply (told_of (Calls call) step.deed step.reply a.0 t.0)) t.1
    (further asked (Calls call) step path own all a.0 w v) (rest_within asked step own all v) a.1
fit_along asked (Bares rest) holds marks notes path own all last n f t w v a =
    fit_along asked rest (uncovered holds) marks notes path own all last n f t w v a
fit_along asked (Brackets rest) holds marks notes path own all last n f t w v a =
    fit_along asked rest holds (length holds ∷ marks) notes path own all last n f t w v a
fit_along asked (Shuts passes rest) holds marks notes path own all last n f t w v a =
    fit_along asked rest (under (front passes holds) (down_to (mark_in marks) (behind passes holds)))
    (outer marks) notes path own all last n (f notes (refl, refl, refl, refl, n)) t w v a
fit_along asked (Allocates made next) holds marks notes path own all last n f t w v a =
    fit_along asked (next made) holds marks notes path own all last n f t w v a

shows_among : (asked : Asking) (own all : List Step) (errno : Errno) → AreOwn own all → SomeShows asked own errno →
    SomeShows asked all errno
shows_among asked _ _ errno none s = s
shows_among asked _ _ errno (keep o) (inl s) = inl s
shows_among asked _ _ errno (keep {own = own} {all = all} o) (inr s) = inr (shows_among asked own all errno o s)
shows_among asked own _ errno (skip {all = all} g o) s = inr (shows_among asked own all errno o s)

tells_among : (own all : List Step) (call : Call) (told : HostValue) → AreOwn own all → WasTold call told own →
    WasTold call told all
tells_among _ _ call told none t = t
tells_among _ _ call told (keep o) (inl t) = inl t
tells_among _ _ call told (keep {own = own} {all = all} o) (inr t) = inr (tells_among own all call told o t)
tells_among own _ call told (skip {all = all} g o) t = inr (tells_among own all call told o t)

-- the steps of a branch are among all
pub own_within : (asked : Asking) (own all : List Step) → AreOwn own all → Within asked own all
own_within asked own all o = record {
  shows = λ errno s. shows_among asked own all errno o s;
  tells = λ call told t. tells_among own all call told o t;
}

pub own_told : (own all : List Step) → AreOwn own all → AllMayBeTold all → AllMayBeTold own
own_told _ _ none t = tt
own_told _ _ (keep {own = own} {all = all} o) t = (t.0, own_told own all o t.1)
own_told own _ (skip {all = all} g o) t = own_told own all o t.1
