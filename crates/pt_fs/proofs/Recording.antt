-- Steps that are written down behind others.
use Rattle.std.proofs.Common.{◌≡◌, inl, inr, ℕ, ◌+◌, ◌≤◌, List, [], ◌∷◌, ◌++◌, ◌∙◌, Option, refl, ap, sym}
use Rattle.std.proofs.Common.{append_assoc, append-nil, arith, ◌<◌, ◌-◌, length, length-append, get_or, slice_set}
use Rattle.std.proofs.Common.{Some, None}
use Rattle.std.proofs.Math.Seq.{get_or-append_seam, set-append_seam}
use Rattle.std.specs.Prelude.{IfOk, OnErr, OnOk, Result, Ok, Err}
use Rattle.pt_frame.specs.declared.act.ActReply.{ActReply}
use Rattle.pt_host.specs.Relation.{HostRelation}
use Rattle.pt_host.specs.declared.ids.Errno.{Errno}
use Rattle.pt_tables.specs.Tables.{Tables}
use Rattle.pt_req.specs.declared.plan.Plan.{Plan}
use Rattle.pt_fs.specs.GoesOn.{GoesOn}
use Rattle.pt_fs.specs.Loses.{LostAt, WindsUp}
use Rattle.pt_fs.specs.Recorded.{Wrote, Writes}
use Rattle.pt_fs.specs.Running.{Running}
use Rattle.pt_fs.specs.Took.{Took, OnKept, OnLoss, TookOrStays}
use Rattle.pt_fs.specs.Work.{KeepsPace}
use Rattle.pt_fs.specs.declared.trace.TraceStep.{TraceStep}

pub writes_on : {R : Type 0} (wrote : R → TraceStep → R → Type 0) (a b c : R) (xs ys : List TraceStep) →
    Writes wrote a xs b → Writes wrote b ys c → Writes wrote a (xs ++ ys) c
writes_on wrote a b c [] ys first then = rw first at then
writes_on wrote a b c (x ∷ xs) ys first then = (
  first.0,
  first.1,
  writes_on wrote first.0 b c xs ys first.2 then,
)

-- none are
pub wrote_none : {R : Type 0} {wrote : R → TraceStep → R → Type 0} {a : R} {holds : List TraceStep → Type 0} →
    holds [] → Wrote wrote a a holds
wrote_none so = record { steps = []; written = refl; so = so }

-- some are, and then others
pub wrote_on : {R : Type 0} {wrote : R → TraceStep → R → Type 0} {a b c : R}
    {first then both : List TraceStep → Type 0} → Wrote wrote a b first → Wrote wrote b c then →
    ((xs ys : List TraceStep) → first xs → then ys → both (xs ++ ys)) → Wrote wrote a c both
wrote_on {wrote = wrote} {a = a} {b = b} {c = c} one two so = record {
  steps = one.steps ++ two.steps;
  written = writes_on wrote a b c one.steps two.steps one.written two.written;
  so = so one.steps two.steps one.so two.so;
}

-- and likewise
pub wrote_so : {R : Type 0} {wrote : R → TraceStep → R → Type 0} {a b : R} {first then : List TraceStep → Type 0} →
    Wrote wrote a b first → ((xs : List TraceStep) → first xs → then xs) → Wrote wrote a b then
wrote_so one so = record { steps = one.steps; written = one.written; so = so one.steps one.so }

-- what is longer by some steps is so behind others, too
longer_behind : (others first steps then : List TraceStep) → then ≡ first ++ steps →
    others ++ then ≡ (others ++ first) ++ steps
longer_behind others first steps then longer =
    ap (λ (l : List TraceStep). others ++ l) longer ∙ sym (append_assoc others first steps)

module _ {H : Type 0} {does : HostRelation H} {plan : Plan} {host host' : H} {running running' : List Running}
    {tables tables' : Tables} (others : List TraceStep) where
  unfoldable took_past : {place : ℕ} {lost : Option Errno} (first then : List TraceStep) →
      Took does plan place host running tables first host' running' tables' then lost →
      Took does plan place host running tables (others ++ first) host' running' tables' (others ++ then) lost
  took_past first then took = record {
    run = took.run;
    run' = took.run';
    step = took.step;
    was = took.was;
    is = took.is;
    longer = longer_behind others first (took.step ∷ []) then took.longer;
    owner = took.owner;
    start = took.start;
    unfinished = took.unfinished;
    made = took.made;
    advances = took.advances;
    loses = took.loses;
    told = took.told;
    fewer = took.fewer;
    within = took.within;
    spent = took.spent;
  }

  -- a step that was written down first, behind others
  pub took_behind : {place : ℕ} {lost : Option Errno} {steps : List TraceStep} →
      Took does plan place host running tables [] host' running' tables' steps lost →
      Took does plan place host running tables others host' running' tables' (others ++ steps) lost
  took_behind {steps = steps} took = rw (append-nil others) at (took_past [] steps took)

  pub stays_behind : {place : ℕ} {steps : List TraceStep} →
      TookOrStays does plan place host running tables [] host' running' tables' steps →
      TookOrStays does plan place host running tables others host' running' tables' (others ++ steps)
  stays_behind (inl took) = inl (took_behind took)
  stays_behind {steps = steps} (inr stays) = inr (
    stays.0,
    stays.1,
    stays.2,
    stays.3,
    ap (λ (l : List TraceStep). others ++ l) stays.4 ∙ append-nil others,
  )

  unfoldable goes_past : {before after : (ℕ → ℕ) → List ℕ} (first then : List TraceStep) →
      GoesOn does plan before host running tables first after host' running' tables' then →
      GoesOn does plan before host running tables (others ++ first) after host' running' tables' (others ++ then)
  goes_past first then goes = record {
    steps = goes.steps;
    longer = longer_behind others first goes.steps then goes.longer;
    runs = goes.runs;
    same = goes.same;
    each = goes.each;
    owns = goes.owns;
    spent = goes.spent;
  }

  pub goes_behind : {before after : (ℕ → ℕ) → List ℕ} {steps : List TraceStep} →
      GoesOn does plan before host running tables [] after host' running' tables' steps →
      GoesOn does plan before host running tables others after host' running' tables' (others ++ steps)
  goes_behind {steps = steps} goes = rw (append-nil others) at (goes_past [] steps goes)

-- and likewise where a seat is lost
pub lost_behind : {H : Type 0} {does : HostRelation H} {plan : Plan} {before : (ℕ → ℕ) → List ℕ} {host host' : H}
    {running running' : List Running} {tables tables' : Tables} {steps : List TraceStep} {job : ℕ}
    {errno : Errno} (others : List TraceStep) →
    LostAt does plan before host running tables [] host' running' tables' steps job errno →
    LostAt does plan before host running tables others host' running' tables' (others ++ steps) job errno
unfolding goes_past took_past
lost_behind {does = does} {plan = plan} {before = before} {host = host} {host' = host'} {running = running}
    {running' = running'} {tables = tables} {tables' = tables'} {steps = steps} {job = job} {errno = errno} others
    lost =
    let then : LostAt does plan before host running tables (others ++ []) host' running' tables' (others ++ steps) job
    errno = record {
      mid = lost.mid;
      stood = lost.stood;
      left = lost.left;
      so_far = others ++ lost.so_far;
      now = lost.now;
      after = lost.after;
      goes = goes_past others [] lost.so_far lost.goes;
      calm = lost.calm;
      took = took_past others lost.so_far steps lost.took;
      last = goes_past others lost.so_far steps lost.last;
      one = lost.one;
    } in rw (append-nil others) at then

-- and in what follows that
pub winds_behind : {H : Type 0} {does : HostRelation H} {plan : Plan} {job : ℕ} {host host' : H}
    {running running' : List Running} {tables tables' : Tables} {steps : List TraceStep} (others : List TraceStep) →
    WindsUp does plan job host running tables [] host' running' tables' steps →
    WindsUp does plan job host running tables others host' running' tables' (others ++ steps)
unfolding goes_past
winds_behind {does = does} {plan = plan} {job = job} {host = host} {host' = host'} {running = running}
    {running' = running'} {tables = tables} {tables' = tables'} {steps = steps} others winds =
    let then : WindsUp does plan job host running tables (others ++ []) host' running' tables'
    (others ++ steps) = record {
      mid = winds.mid;
      stood = winds.stood;
      cut = winds.cut;
      left = winds.left;
      so_far = others ++ winds.so_far;
      restored = record {
        goes = goes_past others [] winds.so_far winds.restored.goes;
        only = winds.restored.only;
      };
      over = winds.over;
      same = winds.same;
      cuts = winds.cuts;
      bounds = winds.bounds;
      back = goes_past others winds.so_far steps winds.back;
    } in rw (append-nil others) at then

-- where a step is left, there is work
pub work_left : (left more room : ℕ) → more + 1 ≤ left → room ≡ 0 → room < left
work_left left more room falls none = omega arith

-- and a record that has room for it keeps pace
pub paces : (room room' left left' : ℕ) → room ≤ room' + 1 → left' + 1 ≤ left → KeepsPace room left room' left'
paces room room' left left' fell falls = omega arith

pub paces_on : (room room1 room2 left left1 left2 : ℕ) → KeepsPace room left room1 left1 →
    KeepsPace room1 left1 room2 left2 → KeepsPace room left room2 left2
paces_on room room1 room2 left left1 left2 first then = omega arith

-- What a run goes on with where no seat was lost.
pub kept_on : {X E : Type 0} (r : Result (Option X) E) (P Q : Type 0) → OnKept r P → (P → Q) → OnKept r Q
kept_on (Ok None) P Q p f = f p
kept_on (Ok (Some x)) P Q p f = tt
kept_on (Err error) P Q p f = tt

pub loss_on : {X E : Type 0} (r : Result (Option X) E) (P Q : X → Type 0) → OnLoss r P → ((x : X) → P x → Q x) →
    OnLoss r Q
loss_on (Ok None) P Q p f = tt
loss_on (Ok (Some x)) P Q p f = f x p
loss_on (Err error) P Q p f = tt

pub ok_on : {X E : Type 0} (r : Result X E) {P Q : Type 0} → OnOk r P → (P → Q) → OnOk r Q
ok_on (Ok x) p f = f p
ok_on (Err error) p f = tt

-- The last act of a list, with what it was answered.
pub replied : (steps longer : List TraceStep) (one at none : TraceStep) (told : ActReply) (n : ℕ) →
    longer ≡ steps ++ one ∷ [] → n ≡ length longer → at ≡ get_or longer (n - 1) none →
    slice_set longer (n - 1) (record { job = at.job; act = at.act; reply = told })
    ≡ steps ++ record { job = one.job; act = one.act; reply = told } ∷ []
replied steps longer one at none told n is all there =
    let long = ap length is ∙ length-append steps (one ∷ []) in
    let last : n - 1 ≡ length steps = omega (arith, all, long) in
    let own : at ≡ one = there ∙ rw last (rw is (get_or-append_seam steps one [] none)) in
    rw own (rw last (rw is (set-append_seam steps one []
    (record { job = one.job; act = one.act; reply = told }))))

-- In a record that is a list all steps stand, behind what it had, and it has as much room as before.
pub listed : {R : Type 0} (items : R → List TraceStep) (capacity : R → ℕ) (wrote : R → TraceStep → R → Type 0) →
    ((a : R) (step : TraceStep) (b : R) → wrote a step b →
    (items b ≡ items a ++ step ∷ []) × (capacity a ≤ capacity b)) → (a b : R) (steps : List TraceStep) →
    Writes wrote a steps b → (items b ≡ items a ++ steps) × (capacity a ≤ capacity b)
listed items capacity wrote each a b [] writes =
    (ap items writes ∙ sym (append-nil (items a)), let same = ap capacity writes in omega (arith, same))
listed items capacity wrote each a b (step ∷ steps) writes =
    let one = each a step writes.0 writes.1 in
    let rest = listed items capacity wrote each writes.0 b steps writes.2 in
    let grown = one.1 in
    let more = rest.1 in (
      rest.0 ∙ ap (λ (l : List TraceStep). l ++ steps) one.0 ∙ append_assoc (items a) (step ∷ []) steps,
      omega (arith, grown, more),
    )

-- and none but these, where it had none
pub listed_all : {R : Type 0} {wrote : R → TraceStep → R → Type 0} {a b : R} {holds : List TraceStep → Type 0}
    (items : R → List TraceStep) (capacity : R → ℕ) →
    ((a : R) (step : TraceStep) (b : R) → wrote a step b →
    (items b ≡ items a ++ step ∷ []) × (capacity a ≤ capacity b)) → items a ≡ [] → (written : Wrote wrote a b holds) →
    (items b ≡ written.steps) × (capacity a ≤ capacity b)
listed_all {wrote = wrote} {a = a} {b = b} items capacity each none written =
    let all = listed items capacity wrote each a b written.steps written.written in
    (all.0 ∙ ap (λ (l : List TraceStep). l ++ written.steps) none, all.1)

-- of a step that was made, whether it could be written down or not
pub told_so : {X E : Type 0} (r : Result X E) {wrote told : X → Type 0} {written : Type 0} → OnOk r written →
    IfOk r told →
    ((x : X) → written → told x → wrote x) → IfOk r wrote
told_so (Ok x) w t f = f x w t
told_so (Err error) w t f = tt

pub full_so : {X E : Type 0} (r : Result X E) {P Q : Type 0} → OnErr r P → (P → Q) → OnErr r Q
full_so (Ok x) p f = tt
full_so (Err error) p f = f p

pub paced_so : {X E : Type 0} (r : Result X E) {P : Type 0} {Q : Type 0} → OnOk r P → (P → Q) → IfOk r (λ x. Q)
paced_so (Ok x) p f = f p
paced_so (Err error) p f = tt
