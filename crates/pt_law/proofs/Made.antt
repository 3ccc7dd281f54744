-- What a job made under a name is what the name leads to when it is opened anew, where the ids are the same and the
-- descriptor is still open. And what it notes of that and of its handle.
use Rattle.std.proofs.Common.{◌≡◌, ◌≢◌, ⊎_elim, ℕ, ◌+◌, ◌<◌, List, [], ◌∷◌, ◌++◌, Bool, length, refl}
use Rattle.std.proofs.Common.{sym, ap, subst, ◌∙◌, arith, append_assoc, get_or, Option, Some, None, if◌then◌else◌}
use Rattle.std.proofs.lemmas.Bool.{cases_eq}
use Rattle.std.proofs.lemmas.Option.{slice_get-get_or}
use Rattle.pt_host.specs.Words.{Each, total}
use Rattle.pt_host.specs.Flags.{includes, o_path}
use Rattle.pt_host.specs.Tree.{Tree, Object, Opened, IsObject, IsOpenOn}
use Rattle.pt_host.specs.declared.flags.OpenFlags.{OpenFlags}
use Rattle.pt_host.specs.declared.ids.Fd.{Fd}
use Rattle.pt_host.specs.declared.ids.ObjIds.{ObjIds}
use Rattle.pt_host.specs.declared.op.KeptHostOp.TheVariants as call
use Rattle.pt_host.specs.declared.reply.HostReply.TheVariants as host
use Rattle.pt_host.specs.declared.reply.HostValue.TheVariants as value
use Rattle.pt_host.specs.declared.stat.Stat.{Stat}
use Rattle.pt_tables.specs.declared.event.NewHandle.{NewHandle}
use Rattle.pt_frame.specs.Deed.{Deed, Calls, Step}
use Rattle.pt_frame.specs.declared.act.ActReply.{ActReply}
use Rattle.pt_frame.specs.declared.act.ActReply.TheVariants.{Host}
use Rattle.pt_law.specs.Discipline.{AreDisciplined, Disciplined, Job, MovesIf, idle}
use Rattle.pt_law.specs.Findings.{IsGiven}
use Rattle.pt_law.specs.Laws.{Starts}
use Rattle.pt_law.specs.Ledger.{fd_given, fds_carried, summed, weighed}
use Rattle.pt_law.specs.Reopened.{ComesToNone}
use Rattle.pt_law.specs.Story.{Findings, Giving, Handling, Opening}
use Rattle.pt_law.specs.World.{World, Past, Turn, turn_by, Goes, Runs, object_of, led_by, open_at, opening_by}
use Rattle.pt_law.specs.World.{steps_of}
use Rattle.pt_law.proofs.Carried.{carried_law}
use Rattle.pt_law.proofs.Cuts.{located, runs_append, runs_split, steps_at, steps_past}
use Rattle.pt_law.proofs.Leaving.{finds_gives, finds_if, given_stays, handled_stays, latest_kept, making_kept}
use Rattle.pt_law.proofs.Leaving.{story_other, story_own}
use Rattle.pt_law.proofs.Flows.{fd_held}
use Rattle.pt_law.proofs.Found.{MakesNew, made_only}
use Rattle.pt_law.proofs.Handled.{come_stays, given_settled}
use Rattle.pt_law.proofs.Interleaving.{disciplined_split, steps_append}
use Rattle.pt_law.proofs.Knowing.{one_object}
use Rattle.pt_law.proofs.Lasting.{runs_keep_object}
use Rattle.pt_law.proofs.Laws.{reach}
use Rattle.pt_law.proofs.Lists.{is_same, set_at_same, total_takes}
use Rattle.pt_law.proofs.Next.{owner_of}
use Rattle.pt_law.proofs.Opening.{GivesBy, GivesNone, InsertsNone, MakesNone, OpensNone, comes_gives}
use Rattle.pt_law.proofs.Opening.{inserting_handle, opening, stating}
use Rattle.pt_law.proofs.Origins.{givings_law}
use Rattle.pt_law.proofs.Returned.{fds_held}

some_same : {A : Type 0} {a b : A} → Some a ≡ Some b → a ≡ b
some_same e = cc

-- a job's own steps up to one that stands in a run
own_to : (j : ℕ) (before between : List Turn) (step : Step) →
    steps_of j (before ++ turn_by j step ∷ between) ≡ steps_of j before ++ step ∷ steps_of j between
own_to j before between step =
    steps_append j before (turn_by j step ∷ between)
    ∙ ap (λ z. steps_of j before ++ z) (steps_at j (turn_by j step) between refl)

-- with steps that are still to come
and_more : (turns more before later : List Turn) (a : Turn) → turns ≡ before ++ a ∷ later →
    turns ++ more ≡ before ++ a ∷ (later ++ more)
and_more turns more before later a e = ap (λ z. z ++ more) e ∙ append_assoc before (a ∷ later) more

-- What a job has found stays while it makes no step of a kind.
module _ {A : Type 0} (field : Findings → A) (N : Option Deed → ActReply → Type 0)
    (keeps : (w : World) (past : Past) (tree : Tree) (j : ℕ) (deed : Option Deed) (told : ActReply) (f : Findings) →
    N deed told → field (finds_if w past tree j deed told f) ≡ field f) where
  pub field_stays : (j : ℕ) (turns : List Turn) (w last : World) → Runs w turns last →
      Each (λ (step : Step). N step.deed step.reply) (steps_of j turns) →
      field (last.story.found j) ≡ field (w.story.found j)
  field_stays j [] w last r q = ap (λ (z : World). field (z.story.found j)) r
  field_stays j (s ∷ ss) w last r q =
      ⊎_elim (mine (field_stays j ss r.0 last r.2)) (other (field_stays j ss r.0 last r.2)) (cases_eq s.job j)
    where
      mine : (Each (λ (step : Step). N step.deed step.reply) (steps_of j ss) →
          field (last.story.found j) ≡ field (r.0.story.found j)) → s.job ≡ j →
          field (last.story.found j) ≡ field (w.story.found j)
      mine ih e =
          let k = rw (steps_at j s ss e) at q in
          let own : r.0.story.found j
          ≡ finds_if w r.0.past r.0.tree s.job s.step.deed s.step.reply (w.story.found j) =
          ap r.0.story.found (sym e) ∙ story_own w s r.0 r.1
          ∙ ap (λ i. finds_if w r.0.past r.0.tree s.job s.step.deed s.step.reply (w.story.found i)) e in
          ih k.1 ∙ ap field own ∙ keeps w r.0.past r.0.tree s.job s.step.deed s.step.reply (w.story.found j) k.0

      other : (Each (λ (step : Step). N step.deed step.reply) (steps_of j ss) →
          field (last.story.found j) ≡ field (r.0.story.found j)) → s.job ≢ j →
          field (last.story.found j) ≡ field (w.story.found j)
      other ih e =
          ih (rw (steps_past j s ss e) at q) ∙ ap field (story_other w s r.0 j (λ k. e (sym k)) r.1)

-- a name that was opened last is so, and at most the status of it is told
latest_still : (j : ℕ) (turns : List Turn) (w last : World) (o : Opening) → Runs w turns last →
    Each (λ (step : Step). OpensNone step.deed step.reply) (steps_of j turns) →
    (w.story.found j).latest ≡ Some o →
    (stat : Option Stat) × ((last.story.found j).latest ≡ Some (record o { stat = stat }))
latest_still j [] w last o r q e = (o.stat, ap (λ (z : World). (z.story.found j).latest) r ∙ e)
latest_still j (s ∷ ss) w last o r q e =
    ⊎_elim (mine (latest_still j ss r.0 last)) (other (latest_still j ss r.0 last)) (cases_eq s.job j)
  where
    mine : ((p : Opening) → Runs r.0 ss last →
        Each (λ (step : Step). OpensNone step.deed step.reply) (steps_of j ss) →
        (r.0.story.found j).latest ≡ Some p →
        (stat : Option Stat) × ((last.story.found j).latest ≡ Some (record p { stat = stat }))) → s.job ≡ j →
        (stat : Option Stat) × ((last.story.found j).latest ≡ Some (record o { stat = stat }))
    mine ih k =
        let both = rw (steps_at j s ss k) at q in
        let own : r.0.story.found j
        ≡ finds_if w r.0.past r.0.tree s.job s.step.deed s.step.reply (w.story.found j) =
        ap r.0.story.found (sym k) ∙ story_own w s r.0 r.1
        ∙ ap (λ i. finds_if w r.0.past r.0.tree s.job s.step.deed s.step.reply (w.story.found i)) k in
        let kept = latest_kept w r.0.past r.0.tree s.job s.step.deed s.step.reply (w.story.found j) both.0 o e in
        ih (record o { stat = kept.0 }) r.2 both.1 (ap (λ (f : Findings). f.latest) own ∙ kept.1)

    other : ((p : Opening) → Runs r.0 ss last →
        Each (λ (step : Step). OpensNone step.deed step.reply) (steps_of j ss) →
        (r.0.story.found j).latest ≡ Some p →
        (stat : Option Stat) × ((last.story.found j).latest ≡ Some (record p { stat = stat }))) → s.job ≢ j →
        (stat : Option Stat) × ((last.story.found j).latest ≡ Some (record o { stat = stat }))
    other ih k =
        ih o r.2 (rw (steps_past j s ss k) at q)
        (ap (λ (f : Findings). f.latest) (story_other w s r.0 j (λ i. k (sym i)) r.1) ∙ e)

-- a number that was given stays noted while none is given
given_there : (j : ℕ) (w next last : World) (give : Step) (behind : List Turn) (era number : ℕ) (ids : ObjIds) →
    Goes w (turn_by j give) next → Runs next behind last → GivesBy era number ids give.deed give.reply →
    Each (λ (step : Step). GivesNone step.deed step.reply) (steps_of j behind) →
    (last.story.found j).given ≡ Some (record {
      era = era;
      number = number;
      ids = ids;
      object = next.past.numbers number;
      opening = (w.story.found j).latest;
    })
given_there j w next last give behind era number ids g r b q =
    field_stays (λ (f : Findings). f.given) GivesNone given_stays j behind next last r q
    ∙ ap (λ (f : Findings). f.given) (story_own w (turn_by j give) next g
    ∙ finds_gives w next.past next.tree j era number ids give.deed give.reply (w.story.found j) b)

-- The handle that it inserted, where it is given no number and inserts no handle behind that.
pub record HandledSo (last : World) (j : ℕ) (new : NewHandle) : Type 0 where
  pub handling : Handling
  pub handled : (last.story.found j).handled ≡ Some handling
  pub handle : handling.handle ≡ new.handle
  pub number : handling.number ≡ new.number
  pub fd : handling.fd ≡ new.fd
  pub giving : handling.giving ≡ (last.story.found j).given

handled_there : (j : ℕ) (w next last : World) (new : NewHandle) (told : ℕ) (behind : List Turn) →
    Goes w (turn_by j (inserting_handle new told)) next → Runs next behind last →
    Each (λ (step : Step). GivesNone step.deed step.reply) (steps_of j behind) →
    Each (λ (step : Step). InsertsNone step.deed step.reply) (steps_of j behind) →
    (h : HandledSo last j new) × (h.handling.stood_for ≡ w.past.resolved j new.number)
handled_there j w next last new told behind g r q n =
    let own = story_own w (turn_by j (inserting_handle new told)) next g in
    let its : Handling = record {
      handle = new.handle;
      number = new.number;
      row = w.tables.next_row;
      fd = new.fd;
      object = open_at w.tree new.fd;
      stood_for = w.past.resolved j new.number;
      giving = (w.story.found j).given;
    } in (
      record {
        handling = its;
        handled = field_stays (λ (f : Findings). f.handled) InsertsNone handled_stays j behind next last r n
            ∙ ap (λ (f : Findings). f.handled) own;
        handle = refl;
        number = refl;
        fd = refl;
        giving = sym (field_stays (λ (f : Findings). f.given) GivesNone given_stays j behind next last r q
            ∙ ap (λ (f : Findings). f.given) own);
      },
      refl,
    )

pub handled_law : (j : ℕ) (turns : List Turn) (start last : World) (front back : List Step) (new : NewHandle)
    (told : ℕ) → Runs start turns last → steps_of j turns ≡ front ++ inserting_handle new told ∷ back →
    Each (λ (step : Step). GivesNone step.deed step.reply) back →
    Each (λ (step : Step). InsertsNone step.deed step.reply) back → HandledSo last j new
handled_law j turns start last front back new told r e q n =
    let x = located j turns front (inserting_handle new told) back e in
    let p = runs_split x.0 (turn_by j (inserting_handle new told) ∷ x.1) start last
    (subst (λ t. Runs start t last) x.2 r) in
    (handled_there j p.0 p.2.0 last new told x.1 p.2.1 p.2.2
    (subst (Each (λ (step : Step). GivesNone step.deed step.reply)) (sym x.4) q)
    (subst (Each (λ (step : Step). InsertsNone step.deed step.reply)) (sym x.4) n)).0

-- a list of which each holds of one kind, is one of which each holds of another
pub each_so : (P Q : Option Deed → ActReply → Type 0) →
    ((deed : Option Deed) (told : ActReply) → P deed told → Q deed told) → (steps : List Step) →
    Each (λ (step : Step). P step.deed step.reply) steps → Each (λ (step : Step). Q step.deed step.reply) steps
each_so P Q f [] h = tt
each_so P Q f (step ∷ steps) h = (f step.deed step.reply h.0, each_so P Q f steps h.1)

pub each_joined : (P : Step → Type 0) (xs ys : List Step) → Each P xs → Each P ys → Each P (xs ++ ys)
each_joined P [] ys a b = b
each_joined P (x ∷ xs) ys a b = (a.0, each_joined P xs ys a.1 b)

-- Where the job comes to no number between being given one and inserting its handle, the handle's number stood for
-- what it was given for.
pub came_law : (j : ℕ) (turns : List Turn) (start last : World) (first middle back : List Step) (give : Step)
    (era number : ℕ) (ids : ObjIds) (new : NewHandle) (told : ℕ) → Runs start turns last →
    steps_of j turns ≡ first ++ give ∷ (middle ++ inserting_handle new told ∷ back) →
    GivesBy era number ids give.deed give.reply → new.number ≡ number →
    Each (λ (step : Step). ComesToNone step.deed step.reply) middle →
    Each (λ (step : Step). GivesNone step.deed step.reply) back →
    Each (λ (step : Step). InsertsNone step.deed step.reply) back →
    (h : HandledSo last j new)
    × ((giving : Giving) → (last.story.found j).given ≡ Some giving → h.handling.stood_for ≡ giving.object)
came_law j turns start last first middle back give era number ids new told r e b same come q n =
    let ins = inserting_handle new told in
    let x = located j turns first give (middle ++ ins ∷ back) e in
    let p = runs_split x.0 (turn_by j give ∷ x.1) start last (subst (λ t. Runs start t last) x.2 r) in
    let w = p.0 in
    let next = p.2.0 in
    let y = located j x.1 middle ins back x.4 in
    let k = runs_split y.0 (turn_by j ins ∷ y.1) next last (subst (λ t. Runs next t last) y.2 p.2.2) in
    let handled = handled_there j k.0 k.2.0 last new told y.1 k.2.1 k.2.2
    (subst (Each (λ (step : Step). GivesNone step.deed step.reply)) (sym y.4) q)
    (subst (Each (λ (step : Step). InsertsNone step.deed step.reply)) (sym y.4) n) in
    let none : Each (λ (step : Step). GivesNone step.deed step.reply) (middle ++ ins ∷ back) =
    each_joined (λ (step : Step). GivesNone step.deed step.reply) middle (ins ∷ back)
    (each_so ComesToNone GivesNone comes_gives middle come) (tt, q) in
    let given = given_there j w next last give x.1 era number ids p.2.1 p.2.2 b
    (subst (Each (λ (step : Step). GivesNone step.deed step.reply)) (sym x.4) none) in
    let came : k.0.past.resolved j ≡ next.past.resolved j =
    come_stays j y.0 next k.0 k.1
    (subst (Each (λ (step : Step). ComesToNone step.deed step.reply)) (sym y.3) come) in
    let settled : next.past.resolved j number ≡ next.past.numbers number =
    ap (λ (z : Past). z.resolved j number) p.2.1.past
    ∙ given_settled w.past j era number ids give.deed give.reply w.tables.next_row next.tree b
    ∙ ap (λ (z : Past). z.numbers number) (sym p.2.1.past) in (
      handled.0,
      (λ giving is.
          handled.1 ∙ ap (k.0.past.resolved j) same ∙ ap (λ (f : ℕ → Option ℕ). f number) came ∙ settled
          ∙ ap (λ (z : Giving). z.object) (some_same (sym given ∙ is))),
    )

-- The descriptor that was opened is the job's.

total_append : {X : Type 0} (w : X → ℕ) (xs ys : List X) → total w (xs ++ ys) ≡ total w xs + total w ys
total_append w [] ys = omega arith
total_append w (x ∷ xs) ys = let h = total_append w xs ys in omega (arith, h)

holds_opened : (job after : Job) (dir : Fd) (name : List ℕ) (flags : OpenFlags) (mode : ℕ) (fd : Fd) →
    MovesIf job (Some (Calls (call.OpenAt dir name flags mode))) (Host (host.Ok (value.Fd fd))) after →
    0 < total (fd_held fd.0) after.holds
holds_opened job after dir name flags mode fd m =
    let t = total_takes (fd_held fd.0) m.0.1 in
    let e = is_same fd.0 in
    omega (arith, t, e)

-- with the steps up to its opening it carries what was opened
carries_opened : (first : List Step) (last : Job) (dir : Fd) (name : List ℕ) (flags : OpenFlags) (mode : ℕ)
    (fd : Fd) → Disciplined idle (first ++ opening dir name flags mode fd ∷ []) last →
    0 < fds_carried fd.0 (first ++ opening dir name flags mode fd ∷ [])
carries_opened first last dir name flags mode fd d =
    let k = disciplined_split first (opening dir name flags mode fd ∷ []) idle last d in
    let held = holds_opened k.0 k.2.0 dir name flags mode fd k.2.1 in
    let same : total (fd_held fd.0) last.holds ≡ total (fd_held fd.0) k.2.0.holds =
    ap (λ (z : Job). total (fd_held fd.0) z.holds) k.2.2 in
    let e = (fds_held fd.0 (first ++ opening dir name flags mode fd ∷ []) last d).0 in
    omega (arith, held, same, e)

open_is : (tree : Tree) (fd : Fd) (object : ℕ) → open_at tree fd ≡ Some object → IsOpenOn tree fd object
open_is tree fd object e = go (tree.opened fd.0) refl e
  where
    go : (x : Option Opened) → tree.opened fd.0 ≡ x → object_of x ≡ Some object → IsOpenOn tree fd object
    go None is e = absurd (cc)
    go (Some one) is e = (one, is, some_same e)

-- A job makes an object under a name, is told its ids, opens the name anew and is given a number for these ids.
module _ (limits : List ℕ) (bound : ℕ) (turns more : List Turn) (start last : World) (j : ℕ) (st : Starts limits start)
    (d : AreDisciplined bound (turns ++ more)) (r : Runs start turns last) (first to past middle back : List Step)
    (dir at : Fd) (name child : List ℕ) (flags by : OpenFlags) (how mode : ℕ) (fd new : Fd) (stat : Stat)
    (give : Step) (era number : ℕ) (ids : ObjIds)
    (e : steps_of j turns ≡ first ++ opening dir name flags how fd ∷ (to ++ stating fd stat
    ∷ (past ++ opening at child by mode new ∷ (middle ++ give ∷ back))))
    (makes : MakesNew flags) (kept : summed (fd_given fd.0) (to ++ stating fd stat ∷ past) ≡ 0)
    (quiet : Each (λ (step : Step). OpensNone step.deed step.reply) middle)
    (b : GivesBy era number ids give.deed give.reply) (same : stat.ids ≡ ids)
    (none : Each (λ (step : Step). MakesNone step.deed step.reply) (to ++ stating fd stat
    ∷ (past ++ opening at child by mode new ∷ (middle ++ give ∷ back))))
    (nothing : Each (λ (step : Step). GivesNone step.deed step.reply) back) where
  abbrev a : Turn
  a = turn_by j (opening dir name flags how fd)

  abbrev t : Turn
  t = turn_by j (stating fd stat)

  abbrev o : Turn
  o = turn_by j (opening at child by mode new)

  -- the run, cut at its four steps, and the worlds before and after each
  pub record Cuts : Type 0 where
    before : List Turn
    until : List Turn
    until_open : List Turn
    until_give : List Turn
    behind : List Turn
    in_turn : turns ≡ before ++ a ∷ (until ++ t ∷ (until_open ++ o ∷ (until_give ++ turn_by j give ∷ behind)))
    w0 : World
    w1 : World
    w2 : World
    w3 : World
    w4 : World
    w5 : World
    w6 : World
    w7 : World
    r0 : Runs start before w0
    g0 : Goes w0 a w1
    r1 : Runs w1 until w2
    g1 : Goes w2 t w3
    r2 : Runs w3 until_open w4
    g2 : Goes w4 o w5
    r3 : Runs w5 until_give w6
    g3 : Goes w6 (turn_by j give) w7
    r4 : Runs w7 behind last
    own0 : steps_of j before ≡ first
    own1 : steps_of j until ≡ to
    own2 : steps_of j until_open ≡ past
    own3 : steps_of j until_give ≡ middle
    own4 : steps_of j behind ≡ back

  cuts : Cuts
  cuts =
      let x = located j turns first a.step (to ++ t.step ∷ (past ++ o.step ∷ (middle ++ give ∷ back))) e in
      let y = located j x.1 to t.step (past ++ o.step ∷ (middle ++ give ∷ back)) x.4 in
      let z = located j y.1 past o.step (middle ++ give ∷ back) y.4 in
      let u = located j z.1 middle give back z.4 in
      let p = runs_split x.0 (a ∷ x.1) start last (subst (λ s. Runs start s last) x.2 r) in
      let q = runs_split y.0 (t ∷ y.1) p.2.0 last (subst (λ s. Runs p.2.0 s last) y.2 p.2.2) in
      let k = runs_split z.0 (o ∷ z.1) q.2.0 last (subst (λ s. Runs q.2.0 s last) z.2 q.2.2) in
      let m = runs_split u.0 (turn_by j give ∷ u.1) k.2.0 last (subst (λ s. Runs k.2.0 s last) u.2 k.2.2) in
      record {
        before = x.0;
        until = y.0;
        until_open = z.0;
        until_give = u.0;
        behind = u.1;
        in_turn = x.2 ∙ ap (λ s. x.0 ++ a ∷ s) (y.2 ∙ ap (λ s. y.0 ++ t ∷ s) (z.2 ∙ ap (λ s. z.0 ++ o ∷ s) u.2));
        w0 = p.0;
        w1 = p.2.0;
        w2 = q.0;
        w3 = q.2.0;
        w4 = k.0;
        w5 = k.2.0;
        w6 = m.0;
        w7 = m.2.0;
        r0 = p.1;
        g0 = p.2.1;
        r1 = q.1;
        g1 = q.2.1;
        r2 = k.1;
        g2 = k.2.1;
        r3 = m.1;
        g3 = m.2.1;
        r4 = m.2.2;
        own0 = x.3;
        own1 = y.3;
        own2 = z.3;
        own3 = u.3;
        own4 = u.4;
      }

  module _ (c : Cuts) where
    -- what comes behind the making, up to the second opening and behind that
    abbrev on : List Turn
    on = c.until ++ t ∷ (c.until_open ++ o ∷ [])

    abbrev rest : List Turn
    rest = c.until_give ++ turn_by j give ∷ c.behind

    abbrev front : List Turn
    front = c.before ++ a ∷ []

    abbrev made : ℕ
    made = length c.w0.tree.objects

    abbrev making : Opening
    making = opening_by (c.w0.story.found j).sought dir name fd c.w0.tree c.w1.tree

    to_made : Runs start front c.w1
    to_made = runs_append c.before (a ∷ []) start c.w0 c.w1 c.r0 (c.w1, c.g0, refl)

    to_second : Runs c.w1 on c.w5
    to_second =
        runs_append c.until (t ∷ (c.until_open ++ o ∷ [])) c.w1 c.w2 c.w5 c.r1 (
          c.w3,
          c.g1,
          runs_append c.until_open (o ∷ []) c.w3 c.w4 c.w5 c.r2 (c.w5, c.g2, refl),
        )

    all_on : c.until ++ t ∷ (c.until_open ++ o ∷ rest) ≡ on ++ rest
    all_on =
        ap (λ s. c.until ++ t ∷ s) (sym (append_assoc c.until_open (o ∷ []) rest))
        ∙ sym (append_assoc c.until (t ∷ (c.until_open ++ o ∷ [])) rest)

    disciplined : AreDisciplined bound (front ++ (on ++ (rest ++ more)))
    disciplined = subst (AreDisciplined bound) (and_more turns more c.before (on ++ rest) a
        (c.in_turn ∙ ap (λ s. c.before ++ a ∷ s) all_on)
        ∙ ap (λ s. c.before ++ a ∷ s) (append_assoc on rest more)
        ∙ sym (append_assoc c.before (a ∷ []) (on ++ (rest ++ more)))) d

    owner : j < bound
    owner =
        owner_of bound c.before a (on ++ (rest ++ more))
        (subst (λ s. AreDisciplined bound s) (append_assoc c.before (a ∷ []) (on ++ (rest ++ more))) disciplined).owners

    abbrev weighs : Step → ℕ
    weighs step = weighed (fd_given fd.0) step.deed step.reply

    carried : 0 < fds_carried fd.0 (steps_of j front)
    carried =
        let v = reach limits bound front (on ++ (rest ++ more)) start c.w1 st disciplined to_made in
        let own : steps_of j front ≡ steps_of j c.before ++ a.step ∷ [] = own_to j c.before [] a.step in
        subst (λ (z : List Step). 0 < fds_carried fd.0 z) (sym own)
        (carries_opened (steps_of j c.before) (v.0 j) dir name flags how fd
        (subst (λ (z : List Step). Disciplined idle z (v.0 j)) own (v.2 j owner).0))

    abbrev Made : Type 0
    Made = (making.led_to ≡ None) × (making.object ≡ Some made) × IsOpenOn c.w1.tree fd made

    made_there : Made
    made_there =
        let l = made_only c.w0.tree dir name flags fd c.w1.tree makes c.g0.made.0.0.trees.changes in
        let here : open_at c.w0.tree dir ≡ Some l.2.0 = ap object_of l.2.1.1 ∙ ap Some l.2.1.2 in
        let opened : Opened = record { object = made; path_only = includes flags.0 o_path } in
        let is : c.w1.tree.opened fd.0 ≡ Some opened =
        ap (λ (z : Tree). z.opened fd.0) l.3.adds ∙ set_at_same l.0.opened fd.0 (Some opened) in
        (ap (λ x. led_by c.w0.tree x name) here ∙ l.2.2.free, ap object_of is, (opened, is, refl))

    -- its status told the ids of what was made
    gives_none_to : summed (fd_given fd.0) (steps_of j c.until) ≡ 0
    gives_none_to =
        let x = ap (total weighs) c.own1 in
        let y = total_append weighs to (t.step ∷ past) in
        let k = kept in
        omega (arith, x, y, k)

    gives_none_on : summed (fd_given fd.0) (steps_of j on) ≡ 0
    gives_none_on =
        let own : steps_of j on ≡ to ++ t.step ∷ (past ++ o.step ∷ []) =
        own_to j c.until (c.until_open ++ o ∷ []) t.step
        ∙ (λ i. c.own1 i ++ t.step ∷ (own_to j c.until_open [] o.step ∙ ap (λ s. s ++ o.step ∷ []) c.own2) i) in
        let x = ap (total weighs) own in
        let y = total_append weighs to (t.step ∷ (past ++ o.step ∷ [])) in
        let z = total_append weighs past (o.step ∷ []) in
        let m = total_append weighs to (t.step ∷ past) in
        let k = kept in
        omega (arith, x, y, z, m, k)

    still_open : IsOpenOn c.w5.tree fd made
    still_open =
        carried_law limits bound front on (rest ++ more) start c.w1 c.w5 j fd made st disciplined owner to_made
        to_second carried gives_none_on made_there.2

    told_ids : (what : Object) × IsObject c.w5.tree made what × (what.ids ≡ ids)
    told_ids =
        let later : List Turn = t ∷ (c.until_open ++ o ∷ []) in
        let whole : front ++ (on ++ (rest ++ more)) ≡ front ++ (c.until ++ (later ++ (rest ++ more))) =
        ap (λ s. front ++ s) (append_assoc c.until later (rest ++ more)) in
        let is_open = carried_law limits bound front c.until (later ++ (rest ++ more)) start c.w1 c.w2 j fd made st
        (subst (AreDisciplined bound) whole disciplined) owner to_made c.r1 carried gives_none_to made_there.2 in
        let l = c.g1.made.0.0.trees.changes in
        let here : l.0 ≡ made = one_object c.w2.tree fd l.0 made l.2 is_open in
        let way : Runs c.w2 later c.w5 =
        (c.w3, c.g1, runs_append c.until_open (o ∷ []) c.w3 c.w4 c.w5 c.r2 (c.w5, c.g2, refl)) in (
          l.1,
          runs_keep_object later c.w2 c.w5 made l.1 way (subst (λ z. IsObject c.w2.tree z l.1) here l.3),
          sym l.4.ids ∙ same,
        )

    -- the second opening, and the number
    abbrev second : Opening
    second = opening_by (c.w4.story.found j).sought at child new c.w4.tree c.w5.tree

    abbrev giving : Giving
    giving = record {
      era = era;
      number = number;
      ids = ids;
      object = c.w7.past.numbers number;
      opening = (c.w6.story.found j).latest;
    }

    given : (last.story.found j).given ≡ Some giving
    given = given_there j c.w6 c.w7 last give c.behind era number ids c.g3 c.r4 b
        (subst (Each (λ (step : Step). GivesNone step.deed step.reply)) (sym c.own4) nothing)

    opened_anew : (told : Option Stat) × ((c.w6.story.found j).latest ≡ Some (record second { stat = told }))
    opened_anew = latest_still j c.until_give c.w5 c.w6 second c.r3
        (subst (Each (λ (step : Step). OpensNone step.deed step.reply)) (sym c.own3) quiet)
        (ap (λ (f : Findings). f.latest) (story_own c.w4 o c.w5 c.g2))

    is_given : IsGiven last giving
    is_given = givings_law limits bound turns more start last j giving st d r owner given

    found_open : IsOpenOn c.w5.tree new is_given.object
    found_open =
        let same_opening : record second { stat = opened_anew.0 } ≡ is_given.opening =
        some_same (sym opened_anew.1 ∙ is_given.is_last) in
        open_is c.w5.tree new is_given.object
        (ap (λ (z : Opening). z.object) same_opening ∙ is_given.led.opened)

    found_ids : (what : Object) × IsObject c.w5.tree is_given.object what × (what.ids ≡ ids)
    found_ids =
        let tree = c.w5.tree in
        let well = c.g2.made.0.0.trees.formed_after in
        let listed : is_given.object < length tree.objects =
        subst (λ n. n < length tree.objects) found_open.2 (well.opened new.0 found_open.0 found_open.1) in
        let what : Object = get_or tree.objects is_given.object is_given.what in
        let is : IsObject tree is_given.object what =
        slice_get-get_or tree.objects is_given.object is_given.what listed in
        let later : IsObject last.tree is_given.object what =
        runs_keep_object rest c.w5 last is_given.object what
        (runs_append c.until_give (turn_by j give ∷ c.behind) c.w5 c.w6 last c.r3 (c.w7, c.g3, c.r4)) is in
        let one : what ≡ is_given.what = (let x = later in let y = is_given.is_object in cc) in
        (what, is, ap (λ (z : Object). z.ids) one ∙ is_given.same_ids)

    one_made : made ≡ is_given.object
    one_made =
        c.g2.made.0.0.trees.formed_after.apart fd new made is_given.object told_ids.0 found_ids.0 still_open found_open
        told_ids.1 found_ids.1 (told_ids.2 ∙ sym found_ids.2)

    noted : (last.story.found j).making ≡ Some making
    noted =
        let all : Runs c.w1 (c.until ++ t ∷ (c.until_open ++ o ∷ rest)) last =
        subst (λ s. Runs c.w1 s last) (sym all_on) (runs_append on rest c.w1 c.w5 last to_second
        (runs_append c.until_give (turn_by j give ∷ c.behind) c.w5 c.w6 last c.r3 (c.w7, c.g3, c.r4))) in
        let own : steps_of j (c.until ++ t ∷ (c.until_open ++ o ∷ rest))
        ≡ to ++ t.step ∷ (past ++ o.step ∷ (middle ++ give ∷ back)) =
        own_to j c.until (c.until_open ++ o ∷ rest) t.step
        ∙ (λ i. c.own1 i ++ t.step ∷ (own_to j c.until_open rest o.step
        ∙ (λ k. c.own2 k ++ o.step ∷ (own_to j c.until_give c.behind give
        ∙ (λ m. c.own3 m ++ give ∷ c.own4 m)) k)) i) in
        field_stays (λ (f : Findings). f.making) MakesNone making_kept j
        (c.until ++ t ∷ (c.until_open ++ o ∷ rest)) c.w1 last all
        (subst (Each (λ (step : Step). MakesNone step.deed step.reply)) (sym own) none)
        ∙ ap (λ (f : Findings). f.making) (story_own c.w0 a c.w1 c.g0)
        ∙ ap (λ (yes : Bool). if yes then Some making else (c.w0.story.found j).making) makes.0

  -- it was made where the name was free, and is what the number was given for
  pub made_law : (its : Opening) × ((last.story.found j).making ≡ Some its) × (its.led_to ≡ None)
      × ((g : Giving) → (last.story.found j).given ≡ Some g → its.object ≡ g.object)
  made_law =
      let c = cuts in
      let m = made_there c in (
        making c,
        noted c,
        m.0,
        (λ g is.
            m.1 ∙ ap Some (one_made c) ∙ sym (is_given c).stood_for
            ∙ ap (λ (z : Giving). z.object) (some_same (sym (given c) ∙ is))),
      )
