-- How a request goes on between two acts.
use Rattle.std.proofs.Common.{◌≡◌, ℕ, ◌+◌, ◌-◌, ◌<◌, ◌≤◌, Bool, true, false, List, [], ◌∷◌, ◌++◌}
use Rattle.std.proofs.Common.{length, Option, Some, None, refl, ap, sym, subst, ◌∙◌, inl, inr, arith, length-append}
use Rattle.pt_host.specs.declared.ids.Errno.{Errno}
use Rattle.pt_host.specs.declared.seat.HostSeat.{HostSeat}
use Rattle.pt_iface.specs.declared.answer.Answer.{Answer}
use Rattle.pt_iface.specs.declared.answer.Answer.TheVariants as answer
use Rattle.pt_tables.specs.Change.{Change}
use Rattle.pt_tables.specs.declared.event.KeptEvent.TheVariants as change
use Rattle.pt_tables.specs.declared.reply.EventReply.{EventReply}
use Rattle.pt_tables.specs.declared.reply.EventReply.TheVariants as event
use Rattle.pt_frame.specs.Deed.{Deed, Calls, Changes, deed_of}
use Rattle.pt_frame.specs.Frame.{answered, closings, leave, mark_in, outer}
use Rattle.pt_frame.specs.Grammar.{Grammar, IsChosen, after, told_closings, told_inserted}
use Rattle.pt_frame.specs.Past.{or_first}
use Rattle.pt_frame.specs.Replies.{added_by, inserted_by, is_cut}
use Rattle.pt_frame.specs.Tree.{RequestTree, Gives, Refuses, Asks, Opens, Bares, Brackets, Shuts, framed}
use Rattle.pt_frame.specs.Tree.{allocates}
use Rattle.pt_frame.specs.Machine.Ahead.{IsAhead, WasHeard}
use Rattle.pt_frame.specs.Machine.Brings.{act_brings, act_may, brings_of, change_brings, holds_in, rows_in}
use Rattle.pt_frame.specs.Machine.Enters.{Enters, Gave, Passes, GoesOrEnds}
use Rattle.pt_frame.specs.Machine.Left.{Stays, Tells, bares_left, is_above, is_ready, mode_counts}
use Rattle.pt_frame.specs.Machine.Left.{mode_left}
use Rattle.pt_frame.specs.Machine.Left.{NoneUnless, shuts_left, tops}
use Rattle.pt_frame.specs.Machine.Room.{Keeps, KeepsOn, act_cost, acts_spent, most_holds, most_rows, most_told, room_spent}
use Rattle.pt_frame.specs.Machine.Room.{rows_spent}
use Rattle.pt_frame.specs.Machine.Walk.{AsksFor, asked, asking, told_on, walk}
use Rattle.pt_frame.specs.declared.act.Act.{Act}
use Rattle.pt_frame.specs.declared.act.ActReply.{ActReply}
use Rattle.pt_frame.specs.declared.act.ActReply.TheVariants as acted
use Rattle.pt_frame.specs.declared.finish.Finish.TheVariants as finish
use Rattle.pt_frame.specs.declared.hold.Hold.{Hold}
use Rattle.pt_frame.specs.declared.machine.going.Ahead.TheVariants as ahead
use Rattle.pt_frame.specs.declared.machine.mode.Mode.{Mode}
use Rattle.pt_frame.specs.declared.product.Product.{Product}
use Rattle.pt_frame.specs.declared.machine.mode.Mode.TheVariants as mode
use Rattle.pt_frame.specs.declared.told.Brings.{Brings}
use Rattle.pt_frame.specs.declared.told.Heard.{Heard}
use Rattle.pt_frame.specs.declared.told.Heard.TheVariants as heard
use Rattle.pt_frame.proofs.Ahead.{ahead_act, ahead_ends, ahead_makes, ahead_refuses, ahead_bares}
use Rattle.pt_frame.proofs.Ahead.{ahead_brackets, ahead_shuts}
use Rattle.pt_frame.proofs.Framing.{asks_asking, asks_closings, bare_done, body_went, for_asks, shut_done}
use Rattle.pt_frame.proofs.Keeping.{bares_keeps, bares_spare, brackets_keeps, brackets_spare, makes_keeps, shuts_keeps}
use Rattle.pt_frame.proofs.Keeping.{shuts_spare, sooner, act_keeps, for_keeps}
use Rattle.pt_frame.proofs.Keeping.{same_is, spent_more, walk_keeps, walk_more}

-- the bounds of what is left of a request
pub left_keeps : (tree : RequestTree) (acts : ℕ) (told : List Heard) →
    Keeps tree most_told acts most_holds most_rows →
    KeepsOn (walk tree told) (most_told - length told) (acts - acts_spent told) (most_holds - room_spent told)
    (most_rows - rows_spent told)
left_keeps tree acts told is =
    walk_keeps tree told most_told acts most_holds most_rows (sooner tree most_told acts most_holds most_rows is)

-- where it asks for an act
pub enters_act : (seat : HostSeat) (tree : RequestTree) (acts : ℕ) (holds : List Hold) (told : List Heard)
    (marks : List ℕ) → Keeps tree most_told acts most_holds most_rows → IsAhead told (walk tree told) ahead.Act →
    length holds + length marks + (most_holds - room_spent told) ≤ most_holds →
    Enters seat tree acts holds told marks mode.Body told marks
enters_act seat tree acts holds told marks law is room = record {
  left = inl (ap (λ (t : RequestTree). framed seat t holds marks) (ahead_act told (walk tree told) is));
  ready = refl;
  tells = refl;
  acts_are = omega arith;
  stays = act_keeps told (walk tree told) _ _ _ _ is (left_keeps tree acts told law);
  rows_are = omega arith;
  room = room;
}

-- where it is answered, whatever happens to what it was told
pub enters_over : (seat : HostSeat) (tree : RequestTree) (acts : ℕ) (holds : List Hold) (told new : List Heard)
    (marks : List ℕ) (at : Mode) →
    ((other : RequestTree) → GoesOrEnds seat (walk tree told) holds marks (mode_left seat at other holds marks)) →
    ((marks : List ℕ) → is_ready at holds marks ≡ true) → Tells at None →
    ((count : ℕ) → mode_counts at count ≡ 0) → ((acts told : ℕ) → Stays at acts told) →
    length holds + length marks + (most_holds - room_spent told) ≤ most_holds →
    Enters seat tree acts holds told marks at new marks
enters_over seat tree acts holds told new marks at left ready tells counts stays room = record {
  left = left (walk tree new);
  ready = ready marks;
  tells = tells;
  acts_are = rw (counts (acts - acts_spent new)) (omega arith);
  stays = stays (acts - acts_spent new) (length new);
  rows_are = rw (counts (most_rows - rows_spent new)) (omega arith);
  room = rw (counts (most_holds - room_spent new)) (omega (arith, room));
}

-- an answer that is no loss tells none
told_uncut : (last : Answer) → Tells (mode.Leave (finish.Answer last)) None
told_uncut last = by (is_cut last)
  where
    by : (b : Bool) → NoneUnless b None
    by true = tt
    by false = refl

pub gives_left : (seat : HostSeat) (told : List Heard) (tree : RequestTree) (last : Answer) (holds : List Hold)
    (marks : List ℕ) → tree ≡ Gives last → framed seat tree holds marks ≡ answered seat last holds
gives_left seat told tree last holds marks e = ap (λ (t : RequestTree). framed seat t holds marks) e

pub refuses_left : (seat : HostSeat) (told : List Heard) (tree : RequestTree) (last : Answer) (holds : List Hold)
    (marks : List ℕ) → IsAhead told tree (ahead.Refuses last) →
    framed seat tree holds marks ≡ leave seat holds (finish.Answer last)
refuses_left seat told tree last holds marks is =
    let so = ahead_refuses told tree last is in
    ap (λ (t : RequestTree). framed seat t holds marks) so.tree_is
    ∙ ap (λ (a : Answer). leave seat holds (finish.Answer a)) (sym so.same_is)

pub enters_gives : (seat : HostSeat) (tree : RequestTree) (acts : ℕ) (holds : List Hold) (told new : List Heard)
    (marks : List ℕ) (at : Mode) (last : Answer) → walk tree told ≡ Gives last →
    ((tree : RequestTree) (marks : List ℕ) → mode_left seat at tree holds marks ≡ answered seat last holds) →
    ((marks : List ℕ) → is_ready at holds marks ≡ true) → Tells at None →
    ((count : ℕ) → mode_counts at count ≡ 0) → ((acts told : ℕ) → Stays at acts told) →
    length holds + length marks + (most_holds - room_spent told) ≤ most_holds →
    Enters seat tree acts holds told marks at new marks
enters_gives seat tree acts holds told new marks at last e left ready tells counts stays room =
    let same = gives_left seat told (walk tree told) last holds marks e in
    enters_over seat tree acts holds told new marks at (λ other. inl (left other marks ∙ sym same)) ready tells counts
    stays room

pub enters_refuses : (seat : HostSeat) (tree : RequestTree) (acts : ℕ) (holds : List Hold) (told : List Heard)
    (marks : List ℕ) (last : Answer) → IsAhead told (walk tree told) (ahead.Refuses last) →
    length holds + length marks + (most_holds - room_spent told) ≤ most_holds →
    Enters seat tree acts holds told marks (mode.Leave (finish.Answer last)) told
    marks
enters_refuses seat tree acts holds told marks last is room =
    let same = refuses_left seat told (walk tree told) last holds marks is in
    enters_over seat tree acts holds told told marks (mode.Leave (finish.Answer last)) (λ other. inl (sym same))
    (λ between. refl) (told_uncut last) (λ count. refl) (λ count other. tt) room

-- where memory ran out for what it makes
pub enters_ends : (seat : HostSeat) (tree : RequestTree) (acts : ℕ) (holds : List Hold) (told : List Heard)
    (marks : List ℕ) → IsAhead told (walk tree told) ahead.GivesUp →
    length holds + length marks + (most_holds - room_spent told) ≤ most_holds →
    Enters seat tree acts holds told marks (mode.Leave (finish.Answer answer.NoMemory)) told marks
enters_ends seat tree acts holds told marks is room =
    enters_over seat tree acts holds told told marks (mode.Leave (finish.Answer answer.NoMemory))
    (λ other. inr (ahead_ends told (walk tree told) is, refl)) (λ between. refl) (told_uncut answer.NoMemory)
    (λ count. refl) (λ count other. tt) room

-- where scopes end, or a bracket
pub enters_bares : (seat : HostSeat) (tree : RequestTree) (acts : ℕ) (holds : List Hold) (told : List Heard)
    (marks : List ℕ) → Keeps tree most_told acts most_holds most_rows → IsAhead told (walk tree told) ahead.Bares →
    tops holds ≡ true → length holds + length marks + (most_holds - room_spent told) ≤ most_holds →
    Enters seat tree acts holds told marks mode.Bares told marks
enters_bares seat tree acts holds told marks law is top room =
    let e = ahead_bares told (walk tree told) is in
    let more : 1 ≤ most_told - length told = bares_keeps (walk tree told) _ _ _ _ _ e (left_keeps tree acts told law) in
    record {
      left = inl (sym (ap (λ (t : RequestTree). framed seat t holds marks) e));
      ready = top;
      tells = refl;
      acts_are = omega arith;
      stays = omega (arith, more);
      rows_are = omega arith;
      room = room;
    }

pub enters_shuts : (seat : HostSeat) (tree : RequestTree) (acts : ℕ) (holds : List Hold) (told : List Heard)
    (marks : List ℕ) (passes : Bool) → Keeps tree most_told acts most_holds most_rows →
    IsAhead told (walk tree told) (ahead.Shuts passes) → is_above passes holds marks ≡ true →
    length holds + length marks + (most_holds - room_spent told) ≤ most_holds →
    Enters seat tree acts holds told marks (mode.Shuts passes) told marks
enters_shuts seat tree acts holds told marks passes law is above room =
    let e = ahead_shuts told (walk tree told) passes is in
    let more : 1 ≤ most_told - length told =
    shuts_keeps (walk tree told) _ passes _ _ _ _ e (left_keeps tree acts told law) in
    record {
      left = inl (sym (ap (λ (t : RequestTree). framed seat t holds marks) e));
      ready = above;
      tells = refl;
      acts_are = omega arith;
      stays = omega (arith, more);
      rows_are = omega arith;
      room = room;
    }

longer_by : (told : List Heard) (it : Heard) → length (told ++ (it ∷ [])) ≡ length told + 1
longer_by told it = length-append told (it ∷ [])

-- marks are passed
pub passes_bares : (seat : HostSeat) (tree : RequestTree) (acts : ℕ) (holds : List Hold) (told : List Heard)
    (marks : List ℕ) → Keeps tree most_told acts most_holds most_rows → IsAhead told (walk tree told) ahead.Bares →
    tops holds ≡ false → length holds + length marks + (most_holds - room_spent told) ≤ most_holds →
    Passes seat tree holds told marks (told ++ (heard.Bares ∷ [])) marks
passes_bares seat tree acts holds told marks law is top room =
    let e = ahead_bares told (walk tree told) is in
    let more : 1 ≤ most_told - length told = bares_keeps (walk tree told) _ _ _ _ _ e (left_keeps tree acts told law) in
    let spent = spent_more told heard.Bares in
    record {
      same = ap (λ (t : RequestTree). framed seat t holds marks) (walk_more tree told heard.Bares)
          ∙ sym (bare_done seat holds (bares_left seat (walk tree told) marks) top)
          ∙ sym (ap (λ (t : RequestTree). framed seat t holds marks) e);
      spares = ap allocates (walk_more tree told heard.Bares)
          ∙ bares_spare (walk tree told) _ _ _ _ (left_keeps tree acts told law);
      longer = longer_by told heard.Bares;
      within = omega (arith, more);
      acts_same = omega (arith, spent.0);
      rows_same = omega (arith, spent.2);
      room = omega (arith, spent.1, room);
    }

pub passes_brackets : (seat : HostSeat) (tree : RequestTree) (acts : ℕ) (holds : List Hold) (told : List Heard)
    (marks : List ℕ) → Keeps tree most_told acts most_holds most_rows →
    IsAhead told (walk tree told) ahead.Brackets →
    length holds + length marks + (most_holds - room_spent told) ≤ most_holds →
    Passes seat tree holds told marks (told ++ (heard.Brackets ∷ [])) (length holds ∷ marks)
passes_brackets seat tree acts holds told marks law is room =
    let e = ahead_brackets told (walk tree told) is in
    let more = brackets_keeps (walk tree told) _ _ _ _ _ e (left_keeps tree acts told law) in
    let spent = spent_more told heard.Brackets in
    record {
      same = ap (λ (t : RequestTree). framed seat t holds (length holds ∷ marks)) (walk_more tree told heard.Brackets)
          ∙ sym (ap (λ (t : RequestTree). framed seat t holds marks) e);
      spares = ap allocates (walk_more tree told heard.Brackets)
          ∙ brackets_spare (walk tree told) _ _ _ _ (left_keeps tree acts told law);
      longer = longer_by told heard.Brackets;
      within = omega (arith, more.0);
      acts_same = omega (arith, spent.0);
      rows_same = omega (arith, spent.2);
      room = omega (arith, spent.1, room, more.1);
    }

pub brackets_fit : (tree : RequestTree) (acts : ℕ) (holds : List Hold) (told : List Heard)
    (marks : List ℕ) → Keeps tree most_told acts most_holds most_rows →
    IsAhead told (walk tree told) ahead.Brackets →
    length holds + length marks + (most_holds - room_spent told) ≤ most_holds → length marks < most_holds
brackets_fit tree acts holds told marks law is room =
    let e = ahead_brackets told (walk tree told) is in
    let more = brackets_keeps (walk tree told) _ _ _ _ _ e (left_keeps tree acts told law) in
    omega (arith, more.1, room)

-- what is made is kept
pub passes_makes : (seat : HostSeat) (tree : RequestTree) (acts : ℕ) (holds : List Hold) (told : List Heard)
    (marks : List ℕ) (made : Product) → Keeps tree most_told acts most_holds most_rows →
    IsAhead told (walk tree told) (ahead.Makes made) →
    length holds + length marks + (most_holds - room_spent told) ≤ most_holds →
    Passes seat tree holds told marks (told ++ (heard.Kept made ∷ [])) marks
passes_makes seat tree acts holds told marks made law is room =
    let so = ahead_makes told (walk tree told) made is in
    let more = makes_keeps (walk tree told) made so.next _ _ _ _ so.tree_is (left_keeps tree acts told law) in
    let spent = spent_more told (heard.Kept made) in
    let onward : walk tree (told ++ (heard.Kept made ∷ [])) ≡ so.next made =
    walk_more tree told (heard.Kept made) ∙ so.then_is in
    record {
      same = ap (λ (t : RequestTree). framed seat t holds marks) onward
          ∙ sym (ap (λ (t : RequestTree). framed seat t holds marks) so.tree_is);
      spares = ap allocates onward ∙ more.1 made;
      longer = longer_by told (heard.Kept made);
      within = omega (arith, more.0);
      acts_same = omega (arith, spent.0);
      rows_same = omega (arith, spent.2);
      room = omega (arith, spent.1, room);
    }

outer_less : (marks : List ℕ) → length (outer marks) ≤ length marks
outer_less [] = omega arith
outer_less (mark ∷ marks) = omega arith

pub passes_shuts : (seat : HostSeat) (tree : RequestTree) (acts : ℕ) (holds : List Hold) (told : List Heard)
    (marks : List ℕ) (passes : Bool) → Keeps tree most_told acts most_holds most_rows →
    IsAhead told (walk tree told) (ahead.Shuts passes) → is_above passes holds marks ≡ false →
    length holds + length marks + (most_holds - room_spent told) ≤ most_holds →
    Passes seat tree holds told marks (told ++ (heard.Shuts ∷ [])) (outer marks)
passes_shuts seat tree acts holds told marks passes law is above room =
    let e = ahead_shuts told (walk tree told) passes is in
    let more : 1 ≤ most_told - length told =
    shuts_keeps (walk tree told) _ passes _ _ _ _ e (left_keeps tree acts told law) in
    let spent = spent_more told heard.Shuts in
    let less = outer_less marks in
    record {
      same = ap (λ (t : RequestTree). framed seat t holds (outer marks)) (walk_more tree told heard.Shuts)
          ∙ sym (shut_done seat passes (mark_in marks) holds (shuts_left seat (walk tree told) marks) above)
          ∙ sym (ap (λ (t : RequestTree). framed seat t holds marks) e);
      spares = ap allocates (walk_more tree told heard.Shuts)
          ∙ shuts_spare (walk tree told) _ _ _ _ (left_keeps tree acts told law);
      longer = longer_by told heard.Shuts;
      within = omega (arith, more);
      acts_same = omega (arith, spent.0);
      rows_same = omega (arith, spent.2);
      room = omega (arith, spent.1, room, less);
    }

-- behind a mark it does not give up
pub goes_still : (seat : HostSeat) (tree : RequestTree) (holds : List Hold) (marks : List ℕ) (left : Grammar) →
    allocates tree ≡ false → GoesOrEnds seat tree holds marks left → left ≡ framed seat tree holds marks
goes_still seat tree holds marks left none (inl e) = e
goes_still seat tree holds marks left none (inr up) = let takes = up.0 in absurd (cc)

goes_before : (seat : HostSeat) (tree mid : RequestTree) (holds : List Hold) (marks between : List ℕ)
    (left : Grammar) → framed seat mid holds between ≡ framed seat tree holds marks → allocates mid ≡ false →
    GoesOrEnds seat mid holds between left → GoesOrEnds seat tree holds marks left
goes_before seat tree mid holds marks between left same none goes =
    inl (goes_still seat mid holds between left none goes ∙ same)

-- and then the request goes on
pub then_enters : (seat : HostSeat) (tree : RequestTree) (acts : ℕ) (holds : List Hold) (told mid new : List Heard)
    (marks between marks' : List ℕ) (at : Mode) → Passes seat tree holds told marks mid between →
    Enters seat tree acts holds mid between at new marks' →
    Enters seat tree acts holds told marks at new marks'
then_enters seat tree acts holds told mid new marks between marks' at passes enters = record {
  left = goes_before seat (walk tree told) (walk tree mid) holds marks between _ passes.same passes.spares enters.left;
  ready = enters.ready;
  tells = enters.tells;
  acts_are = omega (arith, enters.acts_are, passes.acts_same);
  stays = enters.stays;
  rows_are = omega (arith, enters.rows_are, passes.rows_same);
  room = enters.room;
}

-- the reply to what is asked is heard
reply_walk : (tree : RequestTree) (wanted : Act) (opens : Option Hold) (reply : ActReply) (may : Brings) →
    AsksFor tree wanted opens → may ≡ act_may (deed_of wanted) opens →
    told_on tree (heard.Reply reply may) ≡ asked tree reply
reply_walk (Asks deed more) wanted None reply may asks is =
    let same : may ≡ brings_of deed = is ∙ ap brings_of asks in
    rw (same, same_is (brings_of deed)) refl
reply_walk (Opens call scope more) wanted (Some laid) reply may asks is = rw is refl
reply_walk tree wanted opens reply may asks is = absurd asks

-- a row that is told of is one that the change may bring
added_rows : (asked : Change) (reply : EventReply) → added_by asked reply ≤ rows_in (change_brings asked)
added_rows (change.Insert new) (event.Inserted given) = omega arith
added_rows (change.Insert new) reply = omega arith
added_rows (change.InsertRoot new) (event.Inserted given) = omega arith
added_rows (change.InsertRoot new) reply = omega arith
added_rows (change.InsertHandle new) (event.Inserted given) = omega arith
added_rows (change.InsertHandle new) reply = omega arith
added_rows asked reply = omega arith

inserts_rows : (deed : Deed) (reply : ActReply) → inserted_by deed reply ≤ rows_in (brings_of deed)
inserts_rows (Calls asked) reply = omega arith
inserts_rows (Changes asked) (acted.Event reply) = added_rows asked reply
inserts_rows (Changes asked) (acted.Host reply) = omega arith
inserts_rows (Changes asked) acted.NoCopy = omega arith

asks_inserts : (seat : HostSeat) (tree : RequestTree) (wanted : Act) (opens : Option Hold) (reply : ActReply)
    (holds : List Hold) (marks : List ℕ) → AsksFor tree wanted opens →
    told_inserted (framed seat tree holds marks) reply ≤ rows_in (act_may (deed_of wanted) opens)
asks_inserts seat (Asks deed more) wanted None reply holds marks asks =
    subst (λ (d : Deed). inserted_by deed reply ≤ rows_in (brings_of d)) (sym asks) (inserts_rows deed reply)
asks_inserts seat (Opens call scope more) wanted (Some laid) reply holds marks asks = omega arith
asks_inserts seat tree wanted opens reply holds marks asks = absurd asks

-- there is room to write down what was told, and for what it brought
pub record Hears (holds : List Hold) (told : List Heard) (it : Heard) (marks : List ℕ) : Type 0 where
  pub within : length told < most_told
  pub room : length holds + length marks + (most_holds - room_spent (told ++ (it ∷ []))) ≤ most_holds

pub hears : (tree : RequestTree) (acts : ℕ) (holds new : List Hold) (told : List Heard) (marks : List ℕ)
    (reply : ActReply) (count : ℕ) (may : Brings) → Keeps tree most_told acts most_holds most_rows →
    WasHeard (walk tree told) reply holds new count may →
    length holds + length marks + (most_holds - room_spent told) ≤ most_holds →
    Hears new told (heard.Reply reply may) marks
hears tree acts holds new told marks reply count may law h room =
    let fits = for_keeps (walk tree told) h.wanted h.opens _ _ _ _ h.asks (left_keeps tree acts told law) in
    let spent = spent_more told (heard.Reply reply may) in
    let same : holds_in may ≡ act_brings (deed_of h.wanted) h.opens = ap holds_in h.may_be in
    record {
      within = omega (arith, fits.told_is);
      room = omega (arith, spent.1, same, h.length_is, fits.affords.room_is, room);
    }

-- a request goes on behind the reply to what it asked
pub record Goes (seat : HostSeat) (tree : RequestTree) (acts : ℕ) (holds held : List Hold) (told new : List Heard)
    (marks marks' : List ℕ) (reply : ActReply) (count : ℕ) (at : Mode) : Type 0 where
  pub left : IsChosen (after reply (framed seat (asking (walk tree told)) holds marks))
      (closings count held (mode_left seat at (walk tree new) held marks'))
  pub tells : count ≡ told_closings (framed seat (asking (walk tree told)) holds marks) reply
  pub fewer : length held + mode_counts at (acts - acts_spent new) < length holds + (acts - acts_spent told)
  pub rows : mode_counts at (most_rows - rows_spent new)
      + told_inserted (framed seat (asking (walk tree told)) holds marks) reply ≤ most_rows - rows_spent told

pub goes_on : (seat : HostSeat) (tree : RequestTree) (acts : ℕ) (holds held : List Hold) (told new : List Heard)
    (marks marks' : List ℕ) (reply : ActReply) (count : ℕ) (may : Brings) (at : Mode) →
    Keeps tree most_told acts most_holds most_rows → WasHeard (walk tree told) reply holds held count may →
    Enters seat tree acts held (told ++ (heard.Reply reply may ∷ [])) marks at new marks' →
    Goes seat tree acts holds held told new marks marks' reply count at
goes_on seat tree acts holds held told new marks marks' reply count may at law h enters =
    let there = walk tree told in
    let is : asking there ≡ there = asks_asking there (for_asks there h.wanted h.opens h.asks) in
    let keeps = left_keeps tree acts told law in
    let fits = for_keeps there h.wanted h.opens _ _ _ _ h.asks keeps in
    let spent = spent_more told (heard.Reply reply may) in
    let same : holds_in may ≡ act_brings (deed_of h.wanted) h.opens = ap holds_in h.may_be in
    let cost : act_cost may ≡ act_cost (act_may (deed_of h.wanted) h.opens) = ap act_cost h.may_be in
    let rows : rows_in may ≡ rows_in (act_may (deed_of h.wanted) h.opens) = ap rows_in h.may_be in
    let put = asks_inserts seat there h.wanted h.opens reply holds marks h.asks in
    let next = walk_more tree told (heard.Reply reply may)
    ∙ reply_walk there h.wanted h.opens reply may h.asks h.may_be in
    record {
      left = rw is (body_went seat there h.wanted h.opens reply holds held marks count _ h.asks h.held h.closings
          (subst (λ (t : RequestTree). GoesOrEnds seat t held marks
          (mode_left seat at (walk tree new) held marks')) next enters.left));
      tells = rw is (h.closings ∙ asks_closings seat there h.wanted h.opens reply holds marks h.asks);
      fewer = omega (arith, enters.acts_are, spent.0, cost, same, h.length_is, fits.affords.acts_go);
      rows = rw is (omega (arith, enters.rows_are, spent.2, rows, put, fits.affords.rows_are));
    }

-- a hold was given back at a mark at which nothing is left to be given back
pub gave_bares : (seat : HostSeat) (tree : RequestTree) (acts : ℕ) (holds : List Hold) (told new : List Heard)
    (marks marks' : List ℕ) (at : Mode) (lost : Option Errno) → tops holds ≡ false →
    Keeps tree most_told acts most_holds most_rows →
    Enters seat tree acts holds (told ++ (heard.Bares ∷ [])) marks at new marks' → lost ≡ None →
    Gave seat tree acts holds mode.Bares told marks lost at new marks'
gave_bares seat tree acts holds told new marks marks' at lost top law enters none =
    let spent = spent_more told heard.Bares in
    let more = walk_more tree told heard.Bares in
    let none_taken = ap allocates more ∙ bares_spare (walk tree told) _ _ _ _ (left_keeps tree acts told law) in
    record {
      left = goes_still seat (walk tree (told ++ (heard.Bares ∷ []))) holds marks _ none_taken enters.left
          ∙ ap (λ (t : RequestTree). framed seat t holds marks) more
          ∙ sym (bare_done seat holds (bares_left seat (walk tree told) marks) top);
      ready = enters.ready;
      tells = subst (λ (x : Option Errno). Tells at (or_first None x)) (sym none) enters.tells;
      acts_are = omega (arith, enters.acts_are, spent.0);
      stays = enters.stays;
      rows_are = omega (arith, enters.rows_are, spent.2);
      room = enters.room;
    }

pub gave_shuts : (seat : HostSeat) (tree : RequestTree) (acts : ℕ) (holds : List Hold) (told new : List Heard)
    (marks marks' : List ℕ) (at : Mode) (passes : Bool) (lost : Option Errno) → is_above passes holds marks ≡ false →
    Keeps tree most_told acts most_holds most_rows →
    Enters seat tree acts holds (told ++ (heard.Shuts ∷ [])) (outer marks) at new marks' → lost ≡ None →
    Gave seat tree acts holds (mode.Shuts passes) told marks lost at new marks'
gave_shuts seat tree acts holds told new marks marks' at passes lost above law enters none =
    let spent = spent_more told heard.Shuts in
    let more = walk_more tree told heard.Shuts in
    let none_taken = ap allocates more ∙ shuts_spare (walk tree told) _ _ _ _ (left_keeps tree acts told law) in
    record {
      left = goes_still seat (walk tree (told ++ (heard.Shuts ∷ []))) holds (outer marks) _ none_taken enters.left
          ∙ ap (λ (t : RequestTree). framed seat t holds (outer marks)) more
          ∙ sym (shut_done seat passes (mark_in marks) holds (shuts_left seat (walk tree told) marks) above);
      ready = enters.ready;
      tells = subst (λ (x : Option Errno). Tells at (or_first None x)) (sym none) enters.tells;
      acts_are = omega (arith, enters.acts_are, spent.0);
      stays = enters.stays;
      rows_are = omega (arith, enters.rows_are, spent.2);
      room = enters.room;
    }

pub bares_room : (holds : List Hold) (told : List Heard) (marks : List ℕ) →
    length holds + length marks + (most_holds - room_spent told) ≤ most_holds →
    length holds + length marks + (most_holds - room_spent (told ++ (heard.Bares ∷ []))) ≤ most_holds
bares_room holds told marks room =
    let spent = spent_more told heard.Bares in
    omega (arith, spent.1, room)

pub shuts_room : (holds : List Hold) (told : List Heard) (marks : List ℕ) →
    length holds + length marks + (most_holds - room_spent told) ≤ most_holds →
    length holds + length (outer marks) + (most_holds - room_spent (told ++ (heard.Shuts ∷ []))) ≤ most_holds
shuts_room holds told marks room =
    let spent = spent_more told heard.Shuts in
    let less = outer_less marks in
    omega (arith, spent.1, room, less)

-- whatever was lost, some end tells it
pub tells_any : (at : Mode) → (lost : Option Errno) × Tells at lost
tells_any mode.Body = (None, refl)
tells_any mode.Bares = (None, refl)
tells_any (mode.Shuts passes) = (None, refl)
tells_any (mode.Out last) = (None, refl)
tells_any (mode.Leave (finish.Lost errno)) = (Some errno, refl)
tells_any (mode.Leave (finish.Answer told)) = (None, told_uncut told)
