-- What is left of a job, step by step.
use Rattle.std.proofs.Common.{◌≡◌, ◌≢◌, ◌≤◌, inl, inr, ℕ, zero, suc, nat_lt, Bool, true, false, List, [], ◌∷◌}
use Rattle.std.proofs.Common.{length}
use Rattle.std.proofs.Common.{Option, Some, None, refl, ap, sym, ◌∙◌, subst, cond, arith}
use Rattle.std.proofs.lemmas.Bool.{lt-ltb, ltb-true}
use Rattle.pt_host.specs.declared.ids.Errno.{Errno}
use Rattle.pt_host.specs.declared.seat.HostSeat.{HostSeat}
use Rattle.pt_iface.specs.declared.answer.Answer.{Answer}
use Rattle.pt_iface.specs.declared.answer.Answer.TheVariants as answer
use Rattle.pt_frame.specs.Deed.{Deed, deed_of}
use Rattle.pt_frame.specs.Held.{held, opened, is_scope}
use Rattle.pt_frame.specs.Replies.{closings_in, fault_if, refusal, restored, is_cut}
use Rattle.pt_frame.specs.Grammar.{Grammar, End, Do, owing, owed_by, is_end, after, IsChosen, IsDo, IsSettled}
use Rattle.pt_frame.specs.Grammar.{restores, told_closings, told_inserted, Wants}
use Rattle.pt_frame.specs.Frame.{giving, closings, leave, or_lost, bare, bare_one, shut, front, behind, under}
use Rattle.pt_frame.specs.Frame.{mark_in}
use Rattle.pt_frame.specs.Frame.{cut, close_first}
use Rattle.pt_frame.specs.Past.{or_first}
use Rattle.pt_frame.specs.Tree.{RequestTree, Asks, Opens, Gives, Refuses, Bares, Brackets, Shuts, Allocates, framed}
use Rattle.pt_frame.specs.Tree.{allocates, or_gives_up}
use Rattle.pt_frame.specs.Machine.Walk.{IsAsks, AsksFor, asked, asking, deed_in, elsewhere, walk}
use Rattle.pt_frame.specs.Machine.Enters.{GoesOrEnds}
use Rattle.pt_frame.specs.Machine.Left.{held_by, tops, bares_left, shuts_left, mode_left, left_of}
use Rattle.pt_frame.specs.Machine.Left.{given_left, passes_at}
use Rattle.pt_frame.specs.Machine.Left.{is_ready, is_over, is_all_over, is_giving_scope, is_restoring_now, IsTold}
use Rattle.pt_frame.specs.Machine.Left.{NoneUnless, Tells, end_of}
use Rattle.pt_frame.specs.declared.act.Act.{Act}
use Rattle.pt_frame.specs.declared.act.Want.TheVariants as want
use Rattle.pt_frame.specs.declared.act.ActReply.{ActReply}
use Rattle.pt_frame.specs.declared.act.ActReply.TheVariants as told
use Rattle.pt_frame.specs.declared.finish.Finish.{Finish}
use Rattle.pt_frame.specs.declared.finish.Finish.TheVariants as finish
use Rattle.pt_frame.specs.declared.hold.Hold.{Hold}
use Rattle.pt_frame.specs.declared.hold.Taken.{Taken}
use Rattle.pt_frame.specs.declared.hold.Taken.TheVariants as taken
use Rattle.pt_frame.specs.declared.machine.mode.Mode.{Mode}
use Rattle.pt_frame.specs.declared.machine.mode.Mode.TheVariants as mode

-- the last hold and those behind it are all
pub whole : (passes : Bool) (holds : List Hold) → under (front passes holds) (behind passes holds) ≡ holds
whole false holds = refl
whole true [] = refl
whole true (top ∷ holds) = refl

-- a bracket that has no holds above its mark is over
pub shut_done : (seat : HostSeat) (passes : Bool) (mark : ℕ) (holds : List Hold) (next : List Hold → Grammar) →
    nat_lt mark (length (behind passes holds)) ≡ false →
    shut seat (front passes holds) mark (behind passes holds) next ≡ next holds
shut_done seat false mark [] next e = refl
shut_done seat false mark (one ∷ holds) next e = rw e refl
shut_done seat true mark [] next e = refl
shut_done seat true mark (top ∷ []) next e = refl
shut_done seat true mark (top ∷ one ∷ holds) next e = rw e refl

-- where no scope lies on top there is none to end
pub bare_done : (seat : HostSeat) (holds : List Hold) (next : List Hold → Grammar) → tops holds ≡ false →
    bare seat holds next ≡ next holds
bare_done seat [] next e = refl
bare_done seat (one ∷ holds) next e = rw e refl

-- what was lost is told
pub told_restored : (last : Finish) (fault lost : Option Errno) → IsTold last lost →
    IsTold (restored last fault) (or_first fault lost)
told_restored last None lost t = t
told_restored (finish.Lost first) (Some errno) lost t = rw t refl
told_restored (finish.Answer told) (Some errno) lost t = go (is_cut told) refl t
  where
    go : (b : Bool) → is_cut told ≡ b → NoneUnless b lost →
        IsTold (cond b (finish.Answer told) (finish.Lost errno)) (or_first (Some errno) lost)
    go true e n = subst (λ (x : Bool). NoneUnless x (or_first (Some errno) lost)) (sym e) tt
    go false e n = rw n refl

-- a hold of a bracket is given back
shut_back : (seat : HostSeat) (passing : Option Hold) (mark : ℕ) (one : Hold) (rest : List Hold)
    (next : List Hold → Grammar) (told : ActReply) → nat_lt mark (length (one ∷ rest)) ≡ true →
    after told (shut seat passing mark (one ∷ rest) next)
    ≡ closings (closings_in (giving seat one) told) (under passing rest)
    (or_lost seat (fault_if (is_scope one) told) (under passing rest) (shut seat passing mark rest next))
shut_back seat passing mark one rest next told e = rw e refl

-- the bracket that is left goes on with the holds that are left
shut_new : (seat : HostSeat) (passes : Bool) (mark : ℕ) (one : Hold) (holds new : List Hold)
    (next : List Hold → Grammar) (told : ActReply) → nat_lt mark (length (behind passes holds)) ≡ true →
    behind passes holds ≡ one ∷ behind passes new → front passes new ≡ front passes holds →
    after told (shut seat (front passes holds) mark (behind passes holds) next)
    ≡ closings (closings_in (giving seat one) told) new
    (or_lost seat (fault_if (is_scope one) told) new (shut seat (front passes new) mark (behind passes new) next))
shut_new seat passes mark one holds new next told e b f =
    let above : nat_lt mark (length (one ∷ behind passes new)) ≡ true =
    subst (λ (x : List Hold). nat_lt mark (length x) ≡ true) b e in
    ap (λ (x : List Hold). after told (shut seat (front passes holds) mark x next)) b
    ∙ ap (λ (x : Option Hold). after told (shut seat x mark (one ∷ behind passes new) next)) (sym f)
    ∙ shut_back seat (front passes new) mark one (behind passes new) next told above
    ∙ ap (λ (x : List Hold). closings (closings_in (giving seat one) told) x
    (or_lost seat (fault_if (is_scope one) told) x (shut seat (front passes new) mark (behind passes new) next)))
    (whole passes new)

-- a scope is given back
bare_back : (seat : HostSeat) (one : Hold) (rest : List Hold) (next : List Hold → Grammar) (told : ActReply) →
    is_scope one ≡ true →
    after told (bare seat (one ∷ rest) next)
    ≡ closings (closings_in (giving seat one) told) rest
    (or_lost seat (fault_if (is_scope one) told) rest (bare seat rest next))
bare_back seat one rest next told e =
    ap (λ (b : Bool). after told (bare_by b)) e
  where
    bare_by : Bool → Grammar
    bare_by b = bare_one seat b one rest (bare seat rest next) next

-- after a hold was given back there is left what its mode says
pub given_back : (seat : HostSeat) (at : Mode) (tree : RequestTree) (one : Hold) (holds new : List Hold)
    (marks : List ℕ)
    (told : ActReply) → at ≢ mode.Body → is_over at holds ≡ false → is_ready at holds marks ≡ true →
    behind (passes_at at) holds ≡ one ∷ behind (passes_at at) new →
    front (passes_at at) new ≡ front (passes_at at) holds →
    after told (mode_left seat at tree holds marks)
    ≡ closings (closings_in (giving seat one) told) new
    (given_left seat at (fault_if (is_scope one) told) tree new marks)
given_back seat mode.Body tree one holds new marks told other over ready b f = absurd (other refl)
given_back seat mode.Bares tree one holds new marks told other over ready b f =
    let top : is_scope one ≡ true = subst (λ (x : List Hold). tops x ≡ true) b ready in
    ap (λ (x : List Hold). after told (bare seat x (bares_left seat tree marks))) b
    ∙ bare_back seat one new (bares_left seat tree marks) told top
given_back seat (mode.Shuts passes) tree one holds new marks told other over ready b f =
    shut_new seat passes (mark_in marks) one holds new (shuts_left seat tree marks) told ready b f
given_back seat (mode.Out last) tree one holds new marks told other over ready b f =
    shut_new seat true 0 one holds new (λ left. End (finish.Answer last)) told
    (subst (λ (x : List Hold). nat_lt 0 (length x) ≡ true) (sym b)
    (lt-ltb 0 (suc (length (behind true new))) (omega arith))) b f
given_back seat (mode.Leave last) tree one holds new marks told other over ready b f =
    ap (λ (x : List Hold). after told (leave seat x last)) b

pub given_step : (seat : HostSeat) (at : Mode) (tree : RequestTree) (one : Hold) (holds new : List Hold)
    (marks : List ℕ)
    (told : ActReply) (passes scope : Bool) (wanted : Act) (fault : Option Errno) (count : ℕ) (left : Grammar) →
    at ≢ mode.Body → is_over at holds ≡ false → is_ready at holds marks ≡ true → passes ≡ passes_at at →
    behind passes holds ≡ one ∷ behind passes new → front passes new ≡ front passes holds → scope ≡ is_scope one →
    fault ≡ fault_if scope told → deed_of wanted ≡ giving seat one → count ≡ closings_in (deed_of wanted) told →
    left ≡ given_left seat at fault tree new marks →
    after told (mode_left seat at tree holds marks) ≡ closings count new left
given_step seat at tree one holds new marks told passes scope wanted fault count left other over ready p b f s l w n
    is =
    let b' = subst (λ (x : Bool). behind x holds ≡ one ∷ behind x new) p b in
    let f' = subst (λ (x : Bool). front x new ≡ front x holds) p f in
    let n' : count ≡ closings_in (giving seat one) told = n ∙ ap (λ (d : Deed). closings_in d told) w in
    let l' : fault ≡ fault_if (is_scope one) told = l ∙ ap (λ (x : Bool). fault_if x told) s in
    given_back seat at tree one holds new marks told other over ready b' f'
    ∙ ap (λ (k : ℕ). closings k new (given_left seat at (fault_if (is_scope one) told) tree new marks)) (sym n')
    ∙ ap (λ (x : Option Errno). closings count new (given_left seat at x tree new marks)) (sym l')
    ∙ ap (closings count new) (sym is)

-- what follows a reply: it goes on, or gives up where it takes memory
told_follows : (seat : HostSeat) (count : ℕ) (holds : List Hold) (marks : List ℕ) (next : RequestTree)
    (rest : Grammar) → GoesOrEnds seat next holds marks rest →
    IsChosen (or_gives_up (allocates next)
    (closings count holds (leave seat holds (finish.Answer answer.NoMemory)))
    (closings count holds (framed seat next holds marks))) (closings count holds rest)
told_follows seat count holds marks next rest goes = by (allocates next) refl goes
  where
    up : Grammar
    up = closings count holds (leave seat holds (finish.Answer answer.NoMemory))

    on : Grammar
    on = closings count holds (framed seat next holds marks)

    by : (b : Bool) → allocates next ≡ b → GoesOrEnds seat next holds marks rest →
        IsChosen (or_gives_up b up on) (closings count holds rest)
    by true e (inl is) = inr (inl (ap (closings count holds) is))
    by false e (inl is) = inl (ap (closings count holds) is)
    by true e (inr gives) = inr (inr (ap (closings count holds) gives.1))
    by false e (inr gives) = let takes = gives.0 in absurd (cc)

-- a step of the body, and what is left behind it
pub body_went : (seat : HostSeat) (tree : RequestTree) (wanted : Act) (opens : Option Hold) (told : ActReply)
    (holds new : List Hold) (marks : List ℕ) (count : ℕ) (rest : Grammar) → AsksFor tree wanted opens →
    new ≡ held_by (deed_of wanted) opens told holds → count ≡ closings_in (deed_of wanted) told →
    GoesOrEnds seat (asked tree told) new marks rest →
    IsChosen (after told (framed seat tree holds marks)) (closings count new rest)
body_went seat (Asks deed more) wanted None told holds new marks count rest asks h n l =
    let h' : new ≡ held deed told holds = h ∙ ap (λ (d : Deed). held d told holds) asks in
    let n' : count ≡ closings_in deed told = n ∙ ap (λ (d : Deed). closings_in d told) asks in
    subst (λ (k : ℕ). IsChosen (after told (framed seat (Asks deed more) holds marks)) (closings k new rest)) (sym n')
    (subst (λ (x : List Hold). GoesOrEnds seat (more told) x marks rest →
    IsChosen (after told (framed seat (Asks deed more) holds marks)) (closings (closings_in deed told) x rest))
    (sym h')
    (λ e. told_follows seat (closings_in deed told) (held deed told holds) marks (more told) rest e) l)
body_went seat (Opens call scope more) wanted (Some laid) told holds new marks count rest asks h n l =
    let h' : new ≡ opened scope told holds = h ∙ ap (λ (x : Hold). opened x told holds) asks.1 in
    let n' : count ≡ 0 = n ∙ ap (λ (d : Deed). closings_in d told) asks.0 in
    subst (λ (k : ℕ). IsChosen (after told (framed seat (Opens call scope more) holds marks)) (closings k new rest))
    (sym n')
    (subst (λ (x : List Hold). GoesOrEnds seat (more told) x marks rest →
    IsChosen (after told (framed seat (Opens call scope more) holds marks)) (closings 0 x rest)) (sym h')
    (λ e. told_follows seat 0 (opened scope told holds) marks (more told) rest e) l)
body_went seat tree wanted opens told holds new marks count rest asks h n l = absurd asks

-- one that asks nothing by this plan is refused
pub elsewhere_went : (seat : HostSeat) (reply : ActReply) (holds : List Hold) (marks : List ℕ) →
    IsChosen (after reply (framed seat elsewhere holds marks)) (leave seat holds (finish.Answer (refusal reply)))
elsewhere_went seat (told.Event reply) holds marks = inl refl
elsewhere_went seat (told.Host reply) holds marks = inl refl
elsewhere_went seat told.NoCopy holds marks = inl refl

pub elsewhere_told : (seat : HostSeat) (reply : ActReply) (holds : List Hold) (marks : List ℕ) →
    (told_closings (framed seat elsewhere holds marks) reply ≡ 0)
    × (told_inserted (framed seat elsewhere holds marks) reply ≡ 0)
elsewhere_told seat (told.Event reply) holds marks = (refl, refl)
elsewhere_told seat (told.Host reply) holds marks = (refl, refl)
elsewhere_told seat told.NoCopy holds marks = (refl, refl)

pub asks_asking : (tree : RequestTree) → IsAsks tree → asking tree ≡ tree
asks_asking (Asks deed more) asks = refl
asks_asking (Opens call scope more) asks = refl
asks_asking tree asks = absurd asks

-- a request that was told nothing
pub starts : (seat : HostSeat) (tree : RequestTree) → IsAsks tree →
    framed seat (asking (walk tree [])) [] [] ≡ framed seat tree [] []
unfolding walk
starts seat tree asks = ap (λ (t : RequestTree). framed seat t [] []) (asks_asking tree asks)

pub asking_asks : (tree : RequestTree) → IsAsks (asking tree)
asking_asks (Asks deed more) = tt
asking_asks (Opens call scope more) = tt
asking_asks (Gives last) = tt
asking_asks (Refuses reply) = tt
asking_asks (Bares rest) = tt
asking_asks (Brackets rest) = tt
asking_asks (Shuts passes rest) = tt
asking_asks (Allocates made next) = tt

pub for_asks : (tree : RequestTree) (wanted : Act) (opens : Option Hold) → AsksFor tree wanted opens → IsAsks tree
for_asks (Asks deed more) wanted opens asks = tt
for_asks (Opens call scope more) wanted opens asks = tt
for_asks tree wanted opens asks = absurd asks

pub asks_closings : (seat : HostSeat) (tree : RequestTree) (wanted : Act) (opens : Option Hold) (told : ActReply)
    (holds : List Hold) (marks : List ℕ) → AsksFor tree wanted opens →
    closings_in (deed_of wanted) told ≡ told_closings (framed seat tree holds marks) told
asks_closings seat (Asks deed more) wanted None told holds marks asks = ap (λ (d : Deed). closings_in d told) asks
asks_closings seat (Opens call scope more) wanted (Some laid) told holds marks asks =
    ap (λ (d : Deed). closings_in d told) asks.0
asks_closings seat tree wanted opens told holds marks asks = absurd asks

-- one of the holds is to be given back, the first of those below
pub record GivesOne (seat : HostSeat) (grammar : Grammar) (holds below : List Hold) : Type 0 where
  pub one : Hold
  pub rest : List Hold
  pub more : ActReply → Grammar
  pub next : below ≡ one ∷ rest
  pub is : grammar ≡ Do (giving seat one) (owing (is_scope one) taken.Nothing 0 holds) more

bare_gives : (seat : HostSeat) (one : Hold) (rest : List Hold) (next : List Hold → Grammar) → is_scope one ≡ true →
    GivesOne seat (bare seat (one ∷ rest) next) (one ∷ rest) (one ∷ rest)
bare_gives seat one rest next e = record {
  one = one;
  rest = rest;
  more = λ told. closings (closings_in (giving seat one) told) rest
      (or_lost seat (fault_if (is_scope one) told) rest (bare seat rest next));
  next = refl;
  is = ap (λ (b : Bool). bare_one seat b one rest (bare seat rest next) next) e;
}

shut_gives : (seat : HostSeat) (passing : Option Hold) (mark : ℕ) (holds below : List Hold)
    (next : List Hold → Grammar) → nat_lt mark (length below) ≡ true → under passing below ≡ holds →
    GivesOne seat (shut seat passing mark below next) holds below
shut_gives seat passing mark holds [] next e w = absurd (omega (arith, ltb-true mark 0 e))
shut_gives seat passing mark holds (one ∷ rest) next e w = record {
  one = one;
  rest = rest;
  more = λ told. closings (closings_in (giving seat one) told) (under passing rest)
      (or_lost seat (fault_if (is_scope one) told) (under passing rest) (shut seat passing mark rest next));
  next = refl;
  is = rw e (ap (λ (x : List Hold). Do (giving seat one) (owing (is_scope one) taken.Nothing 0 x) (λ told.
      closings (closings_in (giving seat one) told) (under passing rest)
      (or_lost seat (fault_if (is_scope one) told) (under passing rest) (shut seat passing mark rest next)))) w);
}

-- what gives back gives one back, or is over
pub gives : (seat : HostSeat) (at : Mode) (tree : RequestTree) (holds : List Hold) (marks : List ℕ) → at ≢ mode.Body →
    is_ready at holds marks ≡ true → is_over at holds ≡ false →
    GivesOne seat (mode_left seat at tree holds marks) holds (behind (passes_at at) holds)
gives seat mode.Body tree holds marks other ready over = absurd (other refl)
gives seat mode.Bares tree [] marks other ready over = absurd (cc)
gives seat mode.Bares tree (one ∷ rest) marks other ready over =
    bare_gives seat one rest (bares_left seat tree marks) ready
gives seat (mode.Shuts passes) tree holds marks other ready over =
    shut_gives seat (front passes holds) (mark_in marks) holds (behind passes holds) (shuts_left seat tree marks) ready
    (whole passes holds)
gives seat (mode.Out last) tree [] marks other ready over = absurd (cc)
gives seat (mode.Out last) tree (top ∷ []) marks other ready over = absurd (cc)
gives seat (mode.Out last) tree (top ∷ one ∷ rest) marks other ready over =
    shut_gives seat (Some top) 0 (top ∷ one ∷ rest) (one ∷ rest) (λ left. End (finish.Answer last))
    (lt-ltb 0 (suc (length rest)) (omega arith)) refl
gives seat (mode.Leave last) tree [] marks other ready over = absurd (cc)
gives seat (mode.Leave last) tree (one ∷ rest) marks other ready over = record {
  one = one;
  rest = rest;
  more = λ told. closings (closings_in (giving seat one) told) rest
      (leave seat rest (restored last (fault_if (is_scope one) told)));
  next = refl;
  is = refl;
}

-- a mode that is over is left with its end, and nothing is given back in it
pub over_left : (seat : HostSeat) (at : Mode) (tree : RequestTree) (holds : List Hold) (marks : List ℕ) →
    is_ready at holds marks ≡ true → is_over at holds ≡ true →
    (mode_left seat at tree holds marks ≡ End (end_of at)) × (behind (passes_at at) holds ≡ [])
over_left seat mode.Body tree holds marks ready over = absurd (cc)
over_left seat mode.Bares tree holds marks ready over = absurd (cc)
over_left seat (mode.Shuts passes) tree holds marks ready over = absurd (cc)
over_left seat (mode.Out last) tree [] marks ready over = absurd (cc)
over_left seat (mode.Out last) tree (top ∷ []) marks ready over = (refl, refl)
over_left seat (mode.Out last) tree (top ∷ one ∷ rest) marks ready over = absurd (cc)
over_left seat (mode.Leave last) tree [] marks ready over = (refl, refl)
over_left seat (mode.Leave last) tree (one ∷ rest) marks ready over = absurd (cc)

-- What is known of a job in a mode: whether it has ended, what it owes, and whether it is to restore its seat.
pub record Stands (seat : HostSeat) (at : Mode) (grammar : Grammar) (holds : List Hold) : Type 0 where
  pub over : is_end grammar ≡ is_over at holds
  pub restoring : restores grammar ≡ is_giving_scope at holds
  pub settled : IsSettled grammar
  pub going : is_over at holds ≡ false → IsDo grammar
  pub owes_all : is_over at holds ≡ false →
      owed_by grammar ≡ owing (is_giving_scope at holds) taken.Nothing 0 holds

asks_stands : (seat : HostSeat) (tree : RequestTree) (holds : List Hold) (marks : List ℕ) → IsAsks tree →
    Stands seat mode.Body (framed seat tree holds marks) holds
asks_stands seat (Asks deed more) holds marks asks =
    record { over = refl; restoring = refl; settled = tt; going = λ e. tt; owes_all = λ e. refl }
asks_stands seat (Opens call scope more) holds marks asks =
    record { over = refl; restoring = refl; settled = tt; going = λ e. tt; owes_all = λ e. refl }
asks_stands seat tree holds marks asks = absurd asks

giving_scope : (at : Mode) (holds : List Hold) → at ≢ mode.Body →
    is_giving_scope at holds ≡ tops (behind (passes_at at) holds)
giving_scope mode.Body holds other = absurd (other refl)
giving_scope mode.Bares holds other = refl
giving_scope (mode.Shuts passes) holds other = refl
giving_scope (mode.Out last) holds other = refl
giving_scope (mode.Leave last) holds other = refl

gives_stands : (seat : HostSeat) (at : Mode) (grammar : Grammar) (holds : List Hold) → at ≢ mode.Body →
    is_over at holds ≡ false → GivesOne seat grammar holds (behind (passes_at at) holds) →
    Stands seat at grammar holds
gives_stands seat at grammar holds other over g =
    let scope : is_giving_scope at holds ≡ is_scope g.one =
    giving_scope at holds other ∙ ap tops g.next in
    record {
      over = ap is_end g.is ∙ sym over;
      restoring = ap restores g.is ∙ sym scope;
      settled = subst IsSettled (sym g.is) tt;
      going = λ e. subst IsDo (sym g.is) tt;
      owes_all = λ e. ap owed_by g.is ∙ ap (λ (b : Bool). owing b taken.Nothing 0 holds) (sym scope);
    }

over_stands : (seat : HostSeat) (at : Mode) (grammar : Grammar) (holds : List Hold) (last : Finish) →
    at ≢ mode.Body → is_over at holds ≡ true → grammar ≡ End last → behind (passes_at at) holds ≡ [] →
    Stands seat at grammar holds
over_stands seat at grammar holds last other over is none = record {
  over = ap is_end is ∙ sym over;
  restoring = ap restores is ∙ sym (giving_scope at holds other ∙ ap tops none);
  settled = subst IsSettled (sym is) tt;
  going = λ e. absurd (cc);
  owes_all = λ e. absurd (cc);
}

other_stands : (seat : HostSeat) (at : Mode) (tree : RequestTree) (holds : List Hold) (marks : List ℕ) →
    at ≢ mode.Body → is_ready at holds marks ≡ true → (over : Bool) → is_over at holds ≡ over →
    Stands seat at (mode_left seat at tree holds marks) holds
other_stands seat at tree holds marks other ready true e =
    let o = over_left seat at tree holds marks ready e in
    over_stands seat at (mode_left seat at tree holds marks) holds (end_of at) other e o.0 o.1
other_stands seat at tree holds marks other ready false e =
    gives_stands seat at (mode_left seat at tree holds marks) holds other e
    (gives seat at tree holds marks other ready e)

pub mode_stands : (seat : HostSeat) (at : Mode) (tree : RequestTree) (holds : List Hold) (marks : List ℕ) →
    is_ready at holds marks ≡ true → Stands seat at (mode_left seat at tree holds marks) holds
mode_stands seat mode.Body tree holds marks ready =
    asks_stands seat (asking tree) holds marks (asking_asks tree)
mode_stands seat mode.Bares tree holds marks ready =
    other_stands seat mode.Bares tree holds marks (λ e. absurd (cc)) ready false refl
mode_stands seat (mode.Shuts passes) tree holds marks ready =
    other_stands seat (mode.Shuts passes) tree holds marks (λ e. absurd (cc)) ready false refl
mode_stands seat (mode.Out last) tree holds marks ready =
    other_stands seat (mode.Out last) tree holds marks (λ e. absurd (cc)) ready (is_over (mode.Out last) holds) refl
mode_stands seat (mode.Leave last) tree holds marks ready =
    other_stands seat (mode.Leave last) tree holds marks (λ e. absurd (cc)) ready
    (is_over (mode.Leave last) holds) refl

-- what is owed at once aside
pub over_now : (brings : Taken) (count : ℕ) (at : Mode) (holds : List Hold) → brings ≡ taken.Nothing → count ≤ 0 →
    is_all_over brings count at holds ≡ is_over at holds
over_now (taken.Fd fd slot class) count at holds b c = absurd (cc)
over_now (taken.Slot class) count at holds b c = absurd (cc)
over_now taken.Nothing (suc count) at holds b c = absurd (omega (arith, c))
over_now taken.Nothing zero at holds b c = refl

pub left_now : (seat : HostSeat) (brings : Taken) (count : ℕ) (at : Mode) (tree : RequestTree) (holds : List Hold)
    (marks : List ℕ) → brings ≡ taken.Nothing → count ≤ 0 →
    left_of seat brings count at tree holds marks ≡ mode_left seat at tree holds marks
left_now seat (taken.Fd fd slot class) count at tree holds marks b c = absurd (cc)
left_now seat (taken.Slot class) count at tree holds marks b c = absurd (cc)
left_now seat taken.Nothing (suc count) at tree holds marks b c = absurd (omega (arith, c))
left_now seat taken.Nothing zero at tree holds marks b c = refl

pub restoring_now : (brings : Taken) (count : ℕ) (at : Mode) (holds : List Hold) → brings ≡ taken.Nothing →
    count ≤ 0 → is_restoring_now brings count at holds ≡ is_giving_scope at holds
restoring_now (taken.Fd fd slot class) count at holds b c = absurd (cc)
restoring_now (taken.Slot class) count at holds b c = absurd (cc)
restoring_now taken.Nothing (suc count) at holds b c = absurd (omega (arith, c))
restoring_now taken.Nothing zero at holds b c = refl

-- a job has ended just where its fields say so
pub end_over : (seat : HostSeat) (brings : Taken) (count : ℕ) (at : Mode) (tree : RequestTree) (holds : List Hold)
    (marks : List ℕ) → is_ready at holds marks ≡ true →
    is_end (left_of seat brings count at tree holds marks) ≡ is_all_over brings count at holds
end_over seat (taken.Fd fd slot class) count at tree holds marks ready = refl
end_over seat (taken.Slot class) count at tree holds marks ready = refl
end_over seat taken.Nothing (suc count) at tree holds marks ready = refl
end_over seat taken.Nothing zero at tree holds marks ready =
    (mode_stands seat at tree holds marks ready).over

-- a step is to be made of one that has not
pub stood : (seat : HostSeat) (brings : Taken) (count : ℕ) (at : Mode) (tree : RequestTree) (holds : List Hold)
    (marks : List ℕ) → is_ready at holds marks ≡ true → is_all_over brings count at holds ≡ false →
    IsDo (left_of seat brings count at tree holds marks)
stood seat (taken.Fd fd slot class) count at tree holds marks ready e = tt
stood seat (taken.Slot class) count at tree holds marks ready e = tt
stood seat taken.Nothing (suc count) at tree holds marks ready e = tt
stood seat taken.Nothing zero at tree holds marks ready e =
    (mode_stands seat at tree holds marks ready).going e

-- no choice is open between two steps
pub settles : (seat : HostSeat) (brings : Taken) (count : ℕ) (at : Mode) (tree : RequestTree) (holds : List Hold)
    (marks : List ℕ) → is_ready at holds marks ≡ true →
    IsSettled (left_of seat brings count at tree holds marks)
settles seat (taken.Fd fd slot class) count at tree holds marks ready = tt
settles seat (taken.Slot class) count at tree holds marks ready = tt
settles seat taken.Nothing (suc count) at tree holds marks ready = tt
settles seat taken.Nothing zero at tree holds marks ready =
    (mode_stands seat at tree holds marks ready).settled

-- a step restores the seat just where the fields say so
pub restores_so : (seat : HostSeat) (brings : Taken) (count : ℕ) (at : Mode) (tree : RequestTree) (holds : List Hold)
    (marks : List ℕ) → is_ready at holds marks ≡ true →
    restores (left_of seat brings count at tree holds marks) ≡ is_restoring_now brings count at holds
restores_so seat (taken.Fd fd slot class) count at tree holds marks ready = refl
restores_so seat (taken.Slot class) count at tree holds marks ready = refl
restores_so seat taken.Nothing (suc count) at tree holds marks ready = refl
restores_so seat taken.Nothing zero at tree holds marks ready =
    (mode_stands seat at tree holds marks ready).restoring

-- and then it has not ended
over_rests : (at : Mode) (holds : List Hold) → is_over at holds ≡ true → is_giving_scope at holds ≡ false
over_rests mode.Body holds e = refl
over_rests mode.Bares holds e = absurd (cc)
over_rests (mode.Shuts passes) holds e = absurd (cc)
over_rests (mode.Out last) [] e = refl
over_rests (mode.Out last) (top ∷ []) e = refl
over_rests (mode.Out last) (top ∷ one ∷ rest) e = absurd (cc)
over_rests (mode.Leave last) [] e = refl
over_rests (mode.Leave last) (one ∷ rest) e = absurd (cc)

pub restoring_goes : (brings : Taken) (count : ℕ) (at : Mode) (holds : List Hold) →
    is_restoring_now brings count at holds ≡ true → is_all_over brings count at holds ≡ false
restoring_goes (taken.Fd fd slot class) count at holds e = refl
restoring_goes (taken.Slot class) count at holds e = refl
restoring_goes taken.Nothing (suc count) at holds e = refl
restoring_goes taken.Nothing zero at holds e = go (is_over at holds) refl
  where
    go : (over : Bool) → is_over at holds ≡ over → is_over at holds ≡ false
    go false o = o
    go true o = let n = over_rests at holds o in absurd (cc)

-- a job that is cut is left with what it owed
pub cut_left : (seat : HostSeat) (brings : Taken) (count : ℕ) (at : Mode) (tree : RequestTree) (holds : List Hold)
    (marks : List ℕ) → is_ready at holds marks ≡ true → is_all_over brings count at holds ≡ false →
    close_first brings count holds (leave seat holds (finish.Answer answer.Cut))
    ≡ cut seat (owed_by (left_of seat brings count at tree holds marks))
cut_left seat (taken.Fd fd slot class) count at tree holds marks ready e = refl
cut_left seat (taken.Slot class) count at tree holds marks ready e = refl
cut_left seat taken.Nothing (suc count) at tree holds marks ready e = refl
cut_left seat taken.Nothing zero at tree holds marks ready e =
    ap (cut seat) (sym ((mode_stands seat at tree holds marks ready).owes_all e))

-- what is finished ends
pub ends_over : (seat : HostSeat) (brings : Taken) (count : ℕ) (at : Mode) (tree : RequestTree) (holds : List Hold)
    (marks : List ℕ) → is_ready at holds marks ≡ true → is_all_over brings count at holds ≡ true →
    left_of seat brings count at tree holds marks ≡ End (end_of at)
ends_over seat (taken.Fd fd slot class) count at tree holds marks ready e = absurd (cc)
ends_over seat (taken.Slot class) count at tree holds marks ready e = absurd (cc)
ends_over seat taken.Nothing (suc count) at tree holds marks ready e = absurd (cc)
ends_over seat taken.Nothing zero at tree holds marks ready e = (over_left seat at tree holds marks ready e).0

-- what was lost is told at the end
none_unless : (b : Bool) (lost : Option Errno) → lost ≡ None → NoneUnless b lost
none_unless true lost e = tt
none_unless false lost e = e

pub told_end : (brings : Taken) (count : ℕ) (at : Mode) (holds : List Hold) (lost : Option Errno) →
    is_all_over brings count at holds ≡ true → Tells at lost → IsTold (end_of at) lost
told_end (taken.Fd fd slot class) count at holds lost e t = absurd (cc)
told_end (taken.Slot class) count at holds lost e t = absurd (cc)
told_end taken.Nothing (suc count) at holds lost e t = absurd (cc)
told_end taken.Nothing zero mode.Body holds lost e t = absurd (cc)
told_end taken.Nothing zero mode.Bares holds lost e t = absurd (cc)
told_end taken.Nothing zero (mode.Shuts passes) holds lost e t = absurd (cc)
told_end taken.Nothing zero (mode.Out last) holds lost e t = none_unless (is_cut last) lost t
told_end taken.Nothing zero (mode.Leave last) holds lost e t = t

-- what is wanted is what gives the next one back
-- while the request goes on it is its own act that is wanted
pub body_wants : (seat : HostSeat) (tree : RequestTree) (holds : List Hold) (marks : List ℕ) (act : Act) →
    deed_of act ≡ deed_in (asking tree) → Wants (mode_left seat mode.Body tree holds marks) (want.Step act)
body_wants seat (Asks deed more) holds marks act is = is
body_wants seat (Opens call scope more) holds marks act is = is
body_wants seat tree holds marks act is = is

pub gives_wanted : (seat : HostSeat) (at : Mode) (tree : RequestTree) (holds : List Hold) (marks : List ℕ)
    (one : Hold) (rest : List Hold) (act : Act) → at ≢ mode.Body → is_ready at holds marks ≡ true →
    behind (passes_at at) holds ≡ one ∷ rest → deed_of act ≡ giving seat one →
    Wants (mode_left seat at tree holds marks) (want.Step act)
gives_wanted seat at tree holds marks one rest act other ready b d = by_over (is_over at holds) refl
  where
    by_over : (over : Bool) → is_over at holds ≡ over → Wants (mode_left seat at tree holds marks) (want.Step act)
    by_over true o =
        let none = (over_left seat at tree holds marks ready o).1 in
        let e : one ∷ rest ≡ [] = sym b ∙ none in absurd (cc)
    by_over false o =
        let g = gives seat at tree holds marks other ready o in
        let e : one ∷ rest ≡ g.one ∷ g.rest = sym b ∙ g.next in
        let same : one ≡ g.one = cc in
        subst (λ (x : Grammar). Wants x (want.Step act)) (sym g.is) (d ∙ ap (giving seat) same)
