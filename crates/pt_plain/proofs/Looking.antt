-- Proof. `lookup`: a name becomes an entry.
use Rattle.std.proofs.Common.{◌≡◌, ℕ, ◌+◌, List, refl, sym, subst}
use Rattle.pt_host.specs.declared.seat.HostSeat.{HostSeat}
use Rattle.pt_iface.specs.declared.answer.Answer.{Answer}
use Rattle.pt_iface.specs.declared.answer.Answer.TheVariants as answer
use Rattle.pt_iface.specs.declared.request.Request.TheVariants as request
use Rattle.pt_frame.specs.Tree.{RequestTree, Gives as GivesAnswer}
use Rattle.pt_frame.specs.declared.finish.Finish.TheVariants as finish
use Rattle.pt_req.specs.Parts.{look_up, named}
use Rattle.pt_req.specs.Requests.{lookup}
use Rattle.pt_req.specs.Steps.{begin}
use Rattle.pt_req.specs.declared.begun.BegunSession.{BegunSession}
use Rattle.pt_req.specs.declared.parts.looked.Looked.{Looked}
use Rattle.pt_req.specs.declared.plan.Plan.{Plan}
use Rattle.pt_law.specs.Settled.{entry_count}
use Rattle.pt_law.specs.World.{World}
use Rattle.pt_law.proofs.Givings.{live_count}
use Rattle.pt_plain.specs.Plain.{PlainTree}
use Rattle.pt_plain.specs.Serves.{Serves}
use Rattle.pt_plain.proofs.Coming.{Law}
use Rattle.pt_plain.proofs.Counting.{IsEven}
use Rattle.pt_plain.proofs.Entering.{IsLooked, looked_from, looked_on, walk_look_up}
use Rattle.pt_plain.proofs.Passing.{ends, even_also, even_passes, Passes, passes_begin, passes_look_up, passes_named}
use Rattle.pt_plain.proofs.Serving.{Alone, counts, entry_counts, IsServed, looks, refused_counts, shows_still, walked}
use Rattle.pt_plain.proofs.Showing.{Shows}
use Rattle.pt_plain.proofs.Walking.{At, At.{by}, idles_quiet, IsRefused, refused_from, walk_begin, walk_named}

even_lookup : (plan : Plan) (parent : ℕ) (name : List ℕ) (state : PlainTree) →
    Passes IsEven state (λ last. Unit {0}) (begin (lookup plan parent name))
even_lookup plan parent name state =
    passes_begin even_also _ (λ session. passes_named even_also name tt (
    passes_look_up even_also plan session parent name _ (λ told. tt) (λ fresh fd told. tt) (λ looked.
    ends even_also (λ k. tt))))

pub served_lookup : (plan : Plan) (j : ℕ) (seat : HostSeat) (parent : ℕ) (name : List ℕ) (w : World) (last : Answer)
    (w' : World) (state : PlainTree) → Shows w state → Law w →
    Alone j seat (begin (lookup plan parent name)) w last w' →
    IsServed plan (request.Lookup parent name) state last w'
served_lookup plan j seat parent name w last w' state s low a =
    let c = counts j seat (begin (lookup plan parent name)) w last w' a
    (even_passes (even_lookup plan parent name state)) in
    let out : IsRefused w last w' → IsServed plan (request.Lookup parent name) state last w' =
    λ r. (
      state,
      subst (λ (l : Answer). Serves plan (request.Lookup parent name) state l state) (sym r.is) refl,
      shows_still w w' state s r.quiet.still (refused_counts w w' last r c),
    ) in
    walk_begin j asks w last w' a.given (walked j seat (begin (lookup plan parent name)) w last w' a) out
    (λ session b qb cb.
    walk_named j name (looks_up session) b last w' cb (λ r. out (refused_from w b last w' qb r)) (λ cn.
    walk_look_up j plan session parent name entry b last w' a.given cn (λ r. out (refused_from w b last w' qb r))
    (λ looked e l noted ce. answered looked e (looked_from w b e parent name looked.entry.inode qb l) c ce)))
  where
    entry : Looked → RequestTree
    entry looked = GivesAnswer (answer.Entry looked.entry)

    looks_up : BegunSession → RequestTree
    looks_up session = look_up plan session parent name entry

    asks : BegunSession → RequestTree
    asks session = named name (looks_up session)

    answered : (looked : Looked) (e : World) → IsLooked w e parent name looked.entry.inode →
        ((n : ℕ) → live_count n w'.tables ≡ live_count n w.tables + entry_count n (finish.Answer last)) →
        At j (entry looked) e last w' → IsServed plan (request.Lookup parent name) state last w'
    answered looked e l c (by k) =
        let f = looks w w' state parent name looked.entry.inode s low.drawn a.law (looked_on w e w' parent name
        looked.entry.inode l (idles_quiet j e w' k.1)) (entry_counts w w' last looked.entry k.0 c) in
        (f.0, subst (λ (x : Answer). Serves plan (request.Lookup parent name) state x f.0) (sym k.0) f.1, f.2)
