-- Proof. Scopes and brackets of requests, walked over the tree host.
use Rattle.std.proofs.Common.{◌≢◌, Bool, Option, Some, None}
use Rattle.std.proofs.Common.{subst}
use Rattle.pt_host.specs.Call.{Call}
use Rattle.pt_iface.specs.declared.answer.Answer.{Answer}
use Rattle.pt_iface.specs.declared.answer.Answer.TheVariants as answer
use Rattle.pt_frame.specs.Tree.{RequestTree, Bares, Brackets, Shuts, on}
use Rattle.pt_frame.specs.Tree.{go_on}
use Rattle.pt_frame.specs.declared.hold.Hold.{Hold}
use Rattle.pt_req.specs.Steps.{ok_in, open_scope, try_call, tried_in}
use Rattle.pt_plain.proofs.Coming.{IsSeats}
use Rattle.pt_filled.proofs.Descriptors.{HadFds}
use Rattle.pt_filled.proofs.Handling.{had_returns}
use Rattle.pt_filled.proofs.Hosting.{Full, Thread, Bared}
use Rattle.pt_filled.proofs.Hosting.{seat_bares}
use Rattle.pt_filled.proofs.Threading.{Comes}
use Rattle.pt_filled.proofs.Parts.{Calm, idles_calm, At, IsRefused, refused_at, At.{by}}

-- a scope opens, which no world shows
pub walk_scope : {G : Type 0} (j : Thread) (asked : Call) (scope : Hold) (next : RequestTree) (w : Full) (last : Answer)
    (w' : Full) → IsSeats asked → last ≢ answer.NoMemory → At j (open_scope asked scope next) w last w' →
    (IsRefused w last w' → G) → ((on : Full) → Bared j w on → At j next on last w' → G) → G
unfolding on go_on
walk_scope {G} j asked scope next w last w' s n (by c) out goes = go (ok_in c.0) c.3
  where
    go : (done : Option (Unit {0})) → Comes j (go_on (λ done. next) c.0 done) c.1 last w' → G
    go (Some done) k = goes c.1 (seat_bares j w c.1 asked c.0 s c.2.1 c.2.2) (by k)
    go None k =
        out (refused_at j w c.1 c.0 last w' n (seat_bares j w c.1 asked c.0 s c.2.1 c.2.2).keeps k)

pub unbare : {G : Type 0} {j : Thread} {tree : RequestTree} {w w' : Full} {last : Answer} →
    At j (Bares tree) w last w' → ((on : Full) → Bared j w on → At j tree on last w' → G) → G
unbare (by c) goes = goes c.0 c.1 (by c.2)

pub in_bracket : {j : Thread} {tree : RequestTree} {w w' : Full} {last : Answer} → At j (Brackets tree) w last w' →
    At j tree w last w'
in_bracket (by c) = by c

pub after_shut : {G : Type 0} {j : Thread} {tree : RequestTree} {passes : Bool} {w w' : Full} {last : Answer} →
    At j (Shuts passes tree) w last w' → ((on : Full) → Calm w on → At j tree on last w' → G) → G
after_shut {j = j} {w = w} (by c) goes = goes c.0 (idles_calm j w c.0 c.1) (by c.2)

-- what was open then is open for the same
pub after_shut_fds : {G : Type 0} {j : Thread} {tree : RequestTree} {passes : Bool} {w w' : Full} {last : Answer} →
    At j (Shuts passes tree) w last w' →
    ((on : Full) → Calm w on → HadFds w.state on.state → At j tree on last w' → G) → G
after_shut_fds {j = j} {w = w} (by c) goes =
    goes c.0 (idles_calm j w c.0 c.1) (had_returns j w c.0 c.1.0 c.1.1 c.1.2) (by c.2)

-- a call on the seat that the host may refuse
pub walk_try : {G : Type 0} (j : Thread) (asked : Call) (next : RequestTree) (w : Full) (last : Answer) (w' : Full) →
    IsSeats asked → last ≢ answer.NoMemory → At j (try_call asked next) w last w' → (IsRefused w last w' → G) →
    ((on : Full) → Bared j w on → At j next on last w' → G) → G
unfolding on go_on
walk_try {G} j asked next w last w' s n (by c) out goes = go (tried_in c.0) (subst (λ (z : Full). Comes j (go_on (λ
    done. next) c.0 (tried_in c.0)) z last w') c.4 c.5)
  where
    go : (done : Option (Unit {0})) → Comes j (go_on (λ done. next) c.0 done) c.1 last w' → G
    go (Some done) k = goes c.1 (seat_bares j w c.1 asked c.0 s c.3.1 c.3.2) (by k)
    go None k =
        out (refused_at j w c.1 c.0 last w' n (seat_bares j w c.1 asked c.0 s c.3.1 c.3.2).keeps k)
