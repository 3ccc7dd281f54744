-- Proof. `forget`, `batch_forget`: counts fall, each cut at nothing.
use Rattle.std.proofs.Common.{◌≡◌, ◌≢◌, ℕ, zero, suc, ◌-◌, ◌*◌, List, [], ◌∷◌, Option, Some, None, refl, sym, ap}
use Rattle.std.proofs.Common.{subst, ◌∙◌, arith, ⊎_elim}
use Rattle.std.proofs.lemmas.Bool.{cases_eq}
use Rattle.pt_host.specs.Words.{is, set_at}
use Rattle.pt_host.specs.declared.ids.Errno.{Errno}
use Rattle.pt_host.specs.declared.seat.HostSeat.{HostSeat}
use Rattle.pt_tables.specs.declared.event.KeptEvent.TheVariants as change
use Rattle.pt_tables.specs.declared.reply.EventReply.TheVariants as event
use Rattle.pt_iface.specs.declared.answer.Answer.{Answer}
use Rattle.pt_iface.specs.declared.answer.Answer.TheVariants as answer
use Rattle.pt_iface.specs.declared.request.Request.TheVariants as request
use Rattle.pt_frame.specs.Deed.{Changes}
use Rattle.pt_frame.specs.Tree.{Gives}
use Rattle.pt_frame.specs.declared.act.ActReply.{ActReply}
use Rattle.pt_frame.specs.declared.act.ActReply.TheVariants.{Event, Host, NoCopy}
use Rattle.pt_req.specs.Requests.{batch_forget}
use Rattle.pt_req.specs.Steps.{began_in, begin, done_in, forget_all}
use Rattle.pt_req.specs.declared.plan.Plan.{Plan}
use Rattle.pt_law.specs.Ledger.{forgotten, given_by}
use Rattle.pt_law.specs.World.{World, IsLawful}
use Rattle.pt_law.proofs.Givings.{live_count, counts_step}
use Rattle.pt_law.proofs.Lists.{is_same, is_apart, set_at_same, set_at_other}
use Rattle.pt_law.proofs.Steps.{turned}
use Rattle.pt_plain.specs.Plain.{PlainTree, Numbered, held_as, less, forgetting}
use Rattle.pt_plain.specs.Serves.{Serves}
use Rattle.pt_plain.proofs.Coming.{Makes}
use Rattle.pt_plain.proofs.Owning.{Gentle, gentle_on, Own, own_ask, own_gives, own_of, Same, same_made, same_on}
use Rattle.pt_plain.proofs.Owning.{shows_same}
use Rattle.pt_plain.proofs.Serving.{Alone, IsServed}
use Rattle.pt_plain.proofs.Showing.{numbered, Shows, Still}
use Rattle.pt_plain.proofs.Stilling.{IsStill, still_goes}
use Rattle.pt_plain.proofs.Walking.{mild_still}

numbered_none : (count : ℕ) → numbered count None ≡ None
numbered_none zero = refl
numbered_none (suc count) = refl

held_is : (object count : ℕ) → held_as object count ≡ numbered count (Some object)
held_is object zero = refl
held_is object (suc count) = refl

less_numbered : (amount had : ℕ) (object : Option ℕ) →
    less amount (numbered had object) ≡ numbered (had - amount) object
less_numbered amount zero object =
    let z : zero - amount ≡ zero = omega arith in ap (λ x. numbered x object) (sym z)
less_numbered amount (suc had) None = sym (numbered_none (suc had - amount))
less_numbered amount (suc had) (Some object) = held_is object (suc had - amount)

forgets_numbered : (list : List (ℕ × ℕ)) (numbers : ℕ → Option Numbered) (n had : ℕ) (object : Option ℕ) →
    numbers n ≡ numbered had object → forgetting list numbers n ≡ numbered (forgotten n had list) object
forgets_numbered [] numbers n had object e = e
forgets_numbered (pair ∷ pairs) numbers n had object e =
    forgets_numbered pairs (set_at pair.0 (less pair.1 (numbers pair.0)) numbers) n (had - is pair.0 n * pair.1) object
    (⊎_elim
    (λ (x : n ≡ pair.0).
    let one = is_same n in
    let same : is pair.0 n ≡ 1 = ap (λ k. is k n) (sym x) ∙ one in
    let times = ap (λ k. k * pair.1) same in
    let left : had - pair.1 ≡ had - is pair.0 n * pair.1 = omega (arith, times) in
    ap (set_at pair.0 (less pair.1 (numbers pair.0)) numbers) x
    ∙ set_at_same numbers pair.0 (less pair.1 (numbers pair.0)) ∙ ap (λ k. less pair.1 (numbers k)) (sym x)
    ∙ ap (less pair.1) e ∙ less_numbered pair.1 had object ∙ ap (λ k. numbered k object) left)
    (λ (x : n ≢ pair.0).
    let apart = is_apart pair.0 n (λ y. x (sym y)) in
    let times = ap (λ k. k * pair.1) apart in
    let left : had ≡ had - is pair.0 n * pair.1 = omega (arith, times) in
    set_at_other numbers pair.0 (less pair.1 (numbers pair.0)) n x ∙ e ∙ ap (λ k. numbered k object) left)
    (cases_eq n pair.0))

-- what was found behind the step that forgets
record Forgot (w on : World) (list : List (ℕ × ℕ)) : Type 0 where
  still : Still w on
  counts : (n : ℕ) → live_count n on.tables ≡ forgotten n (live_count n w.tables) list

shows_forgot : (w from mid w' : World) (state : PlainTree) (list : List (ℕ × ℕ)) → Shows w state → Same w from →
    Forgot from mid list → Same mid w' → Shows w' (record state { numbers = forgetting list state.numbers })
shows_forgot w from mid w' state list s a f b = record {
  tree = s.tree ∙ sym (b.still.tree ∙ f.still.tree ∙ a.still.tree);
  numbers = λ n. forgets_numbered list state.numbers n (live_count n w.tables) (w.past.numbers n) (s.numbers n)
      ∙ (λ i. numbered (sym (b.counts n ∙ f.counts n ∙ ap (λ had. forgotten n had list) (a.counts n)) i)
      (sym (b.still.past ∙ f.still.past ∙ a.still.past) i n));
  handles = λ h. s.handles h ∙ sym (b.still.handles h ∙ f.still.handles h ∙ a.still.handles h);
  numbers_below = (let x = s.numbers_below in let y = a.still.next_number in let z = f.still.next_number in
      let v = b.still.next_number in omega (arith, x, y, z, v));
  handles_below = (let x = s.handles_below in let y = a.still.next_handle in let z = f.still.next_handle in
      let v = b.still.next_handle in omega (arith, x, y, z, v));
  agreed = s.agreed ∙ sym (b.still.agreed ∙ f.still.agreed ∙ a.still.agreed);
}

gentle_forget : (list : List (ℕ × ℕ)) → Gentle (begin (batch_forget list))
gentle_forget list = (
  tt,
  gentle_on began_in (batch_forget list) (λ session. (
    tt,
    gentle_on done_in (λ done. Gives answer.NoReply)
        (λ done. tt),
  )),
)

pub served_forget : (plan : Plan) (j : ℕ) (seat : HostSeat) (list : List (ℕ × ℕ)) (w : World) (last : Answer)
    (w' : World) (state : PlainTree) → Shows w state → Alone j seat (begin (batch_forget list)) w last w' →
    IsServed plan (request.BatchForget list) state last w'
served_forget plan j seat list w last w' state s a =
    own_ask j (Changes change.Begin) began_in (batch_forget list) w last w' a.given
    (λ told e. (mild_still (Changes change.Begin) told tt, λ n had. refl))
    (own_of j seat (begin (batch_forget list)) w last w' a (gentle_forget list)) out
    (λ told session from mid e x m o. begun mid (same_on w from mid x
    (same_made j from mid (Changes change.Begin) told m (mild_still (Changes change.Begin) told tt) (λ n had. refl))) o)
  where
    out : (errno : Errno) → last ≡ answer.Refused errno → Same w w' →
        IsServed plan (request.BatchForget list) state last w'
    out errno e x = (
      state,
      subst (λ (l : Answer). Serves plan (request.BatchForget list) state l state) (sym e) refl,
      shows_same w w' state s x,
    )

    refuses : (told : ActReply) → done_in told ≡ None →
        IsStill (Changes (change.Forget list)) told ×
        ((n had : ℕ) → given_by n had (Changes (change.Forget list)) told ≡ had)
    refuses (Event (event.Done closings)) e = absurd (cc)
    refuses (Event told) e = (tt, λ n had. refl)
    refuses (Host told) e = (tt, λ n had. refl)
    refuses NoCopy e = (tt, λ n had. refl)

    forgot : (told : ActReply) (from mid : World) (done : Unit {0}) → done_in told ≡ Some done →
        Makes j from (Changes (change.Forget list)) told mid → Forgot from mid list
    forgot (Event (event.Done closings)) from mid done e m = record {
      still = still_goes j from mid (Changes (change.Forget list)) _ tt m.1 m.2;
      counts =
          λ n. counts_step n from.tables (Some (Changes (change.Forget list))) (Event (event.Done closings)) mid.tables
          m.0.agree (turned IsLawful (Some (Changes (change.Forget list))) (Event (event.Done closings)) from.tree
          m.2.seat
          from.tables mid.tree m.2.seat_after mid.tables m.2.made);
    }
    forgot told from mid done e m = absurd (cc)

    begun : (b : World) → Same w b → Own j (forget_all list (Gives answer.NoReply)) b last w' →
        IsServed plan (request.BatchForget list) state last w'
    begun b x o =
        own_ask j (Changes (change.Forget list)) done_in (λ done. Gives answer.NoReply) b last w' a.given refuses o
        (λ errno e y. out errno e (same_on w b w' x y))
        (λ told done from mid e y m k.
        let g = own_gives j answer.NoReply mid last w' k in (
          record state { numbers = forgetting list state.numbers },
          subst (λ (l : Answer). Serves plan (request.BatchForget list) state l
              (record state { numbers = forgetting list state.numbers })) (sym g.0) refl,
          shows_forgot w from mid w' state list s (same_on w b from x y) (forgot told from mid done e m) g.1,
        ))
