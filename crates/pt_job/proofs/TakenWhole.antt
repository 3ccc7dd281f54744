-- One job is taken whole, a step at a time.
use Rattle.std.proofs.Common.{◌≡◌, ◌∙◌, List, [], ◌∷◌, ◌++◌, Option, None, Some, true, false, refl, ap, sym, subst}
use Rattle.std.proofs.Common.{append_assoc, append-nil}
use Rattle.pt_host.specs.declared.ids.Errno.{Errno}
use Rattle.pt_host.specs.Relation.{HostRelation}
use Rattle.pt_host.specs.declared.seat.HostSeat.{HostSeat}
use Rattle.pt_frame.specs.Deed.{Deed, Step, IsStepOf, deed_of}
use Rattle.pt_frame.specs.Grammar.{Grammar, End, Do, May, Belongs, IsChosen, Wants, after}
use Rattle.pt_frame.specs.Made.{Makes, MadeBy, RunsBy}
use Rattle.pt_frame.specs.Past.{Past, no_past, past_from, past_made}
use Rattle.pt_frame.specs.Replies.{is_cut}
use Rattle.pt_frame.specs.Tended.{IsFinish, Tended}
use Rattle.pt_frame.specs.declared.act.Act.{Act}
use Rattle.pt_frame.specs.declared.act.ActReply.{ActReply}
use Rattle.pt_frame.specs.declared.act.ActReply.TheVariants.{Event, Host, NoCopy}
use Rattle.pt_frame.specs.declared.act.Want.TheVariants as want
use Rattle.pt_frame.specs.declared.finish.Finish.{Finish}
use Rattle.pt_frame.specs.declared.finish.Finish.TheVariants.{Answer, Lost}
use Rattle.pt_frame.proofs.Ending.{belongs_chosen}
use Rattle.pt_frame.proofs.Tending.{tended_chosen}
use Rattle.pt_job.specs.Machine.Serving.{IsPlain, MadeNext, ServedSoFar}
use Rattle.pt_job.specs.Served.{Served, TellsLoss}
use Rattle.pt_job.proofs.Answering.{tends}

step_of : (deed same : Deed) (reply : ActReply) → same ≡ deed → IsPlain reply → IsStepOf deed (Some same) reply
step_of deed same (Event reply) e plain = e
step_of deed same (Host reply) e plain = e
step_of deed same NoCopy e plain = absurd plain

-- what the last of some steps did to the seat
past_more : (past : Past) (steps : List Step) (step : Step) →
    past_from past (steps ++ step ∷ []) ≡ past_made (past_from past steps) step.deed step.reply
past_more past [] step = refl
past_more past (x ∷ steps) step = past_more (past_made past x.deed x.reply) steps step

-- a job that was not cut is not answered so
tells_loss : (end : Finish) (lost : Option Errno) → IsFinish false end lost → TellsLoss end lost
tells_loss (Answer told) None uncut = λ is. let same : true ≡ false = sym (ap is_cut is) ∙ uncut in absurd (cc)
tells_loss (Answer told) (Some first) never = absurd never
tells_loss (Lost errno) None never = absurd never
tells_loss (Lost errno) (Some first) is = is

module _ {H A : Type 0} (does : HostRelation H) (makes : Makes A) where
  pub so_far_none : (grammar : Grammar) (h : H) (s : HostSeat) (a : A) →
      ServedSoFar does makes grammar h s a grammar h s a
  so_far_none grammar h s a = record {
    steps = [];
    belongs = λ rest end belongs. belongs;
    runs = (refl, refl, refl);
    tended = λ tended. tended;
  }

  runs_more : (steps : List Step) (step : Step) (h0 h1 h2 : H) (s0 s1 s2 : HostSeat) (a0 a1 a2 : A) →
      RunsBy does makes steps h0 s0 a0 h1 s1 a1 → MadeBy does makes step.deed step.reply h1 s1 a1 h2 s2 a2 →
      RunsBy does makes (steps ++ step ∷ []) h0 s0 a0 h2 s2 a2
  runs_more [] step h0 h1 h2 s0 s1 s2 a0 a1 a2 runs made =
      (h2, s2, a2, rw (← runs.0, ← runs.1, ← runs.2) made, (refl, refl, refl))
  runs_more (x ∷ steps) step h0 h1 h2 s0 s1 s2 a0 a1 a2 runs made = (
    runs.0,
    runs.1,
    runs.2,
    runs.3,
    runs_more steps step runs.0 h1 h2 runs.1 s1 s2 runs.2 a1 a2 runs.4 made,
  )

  -- what was wanted is what is to be done
  pub made_next : (left : Grammar) (act : Act) (reply : ActReply) (h h' : H) (s s' : HostSeat) (a a' : A) →
      Wants left (want.Step act) → MadeBy does makes (Some (deed_of act)) reply h s a h' s' a' → IsPlain reply →
      MadeNext does makes left reply h s a h' s' a'
  made_next (Do deed owed next) act reply h h' s s' a a' wants made plain =
      (subst (λ (d : Deed). MadeBy does makes (Some d) reply h s a h' s' a') wants made, plain)
  made_next (End last) act reply h h' s s' a a' wants made plain = absurd wants
  made_next (May one other) act reply h h' s s' a a' wants made plain = absurd wants

  pub so_far_more : (grammar left next : Grammar) (reply : ActReply) (h0 h1 h2 : H) (s0 s1 s2 : HostSeat)
      (a0 a1 a2 : A) → ServedSoFar does makes grammar h0 s0 a0 left h1 s1 a1 →
      MadeNext does makes left reply h1 s1 a1 h2 s2 a2 → IsChosen (after reply left) next →
      ServedSoFar does makes grammar h0 s0 a0 next h2 s2 a2
  so_far_more grammar (Do deed owed goes) next reply h0 h1 h2 s0 s1 s2 a0 a1 a2 so_far made chosen =
      let step : Step = record { deed = Some deed; reply = reply } in
      record {
        steps = so_far.steps ++ step ∷ [];
        belongs = λ rest end belongs.
            rw append_assoc (so_far.belongs (step ∷ rest) end (
              step_of deed deed reply refl made.1,
              belongs_chosen (goes reply) next rest end chosen belongs,
            ));
        runs = runs_more so_far.steps step h0 h1 h2 s0 s1 s2 a0 a1 a2 so_far.runs made.0;
        tended = λ tended.
            let on : Tended s0 false (goes reply) (past_from no_past (so_far.steps ++ step ∷ [])) =
            subst (λ (past : Past). Tended s0 false (goes reply) past) (sym (past_more no_past so_far.steps step))
            ((so_far.tended tended).5 reply) in
            tended_chosen s0 false (goes reply) next (past_from no_past (so_far.steps ++ step ∷ [])) on chosen;
      }
  so_far_more grammar (End last) next reply h0 h1 h2 s0 s1 s2 a0 a1 a2 so_far made chosen = absurd made
  so_far_more grammar (May one other) next reply h0 h1 h2 s0 s1 s2 a0 a1 a2 so_far made chosen = absurd made

  -- once nothing is left, the job was taken whole
  pub whole : (grammar left : Grammar) (end : Finish) (h0 h1 : H) (s0 s1 : HostSeat) (a0 a1 : A) →
      ServedSoFar does makes grammar h0 s0 a0 left h1 s1 a1 → left ≡ End end →
      Served does makes grammar h0 s0 a0 end h1 s1 a1
  whole grammar left end h0 h1 s0 s1 a0 a1 so_far is =
      let last : Belongs left [] end = rw is refl in
      record {
        steps = so_far.steps;
        belongs = rw append-nil at (so_far.belongs [] end last);
        runs = so_far.runs;
        ends = λ plan asked all.
            let tended : Tended s0 false grammar no_past = rw all (tends plan s0 asked) in
            let ended = rw is at (so_far.tended tended) in
            (ended.0, tells_loss end (past_from no_past so_far.steps).lost ended.1);
      }
