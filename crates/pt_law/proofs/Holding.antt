-- What each deed moves in a job's holds and in the host.
use Rattle.std.proofs.Common.{◌≡◌, ◌≢◌, ⊎_elim, ℕ, ◌+◌, ◌*◌, ◌<◌, List, ◌++◌, Bool, true, false, refl, sym}
use Rattle.std.proofs.Common.{ap, subst}
use Rattle.std.proofs.Common.{arith, Option, Some, None}
use Rattle.std.proofs.lemmas.Bool.{cases_eq}
use Rattle.pt_host.specs.Words.{is, total, Takes, set_at}
use Rattle.pt_host.specs.Call.{Call}
use Rattle.pt_host.specs.Sorts.{Sort, OpensWith, EndsFd, OfSeat, Plain, sort_of, fds_of}
use Rattle.pt_host.specs.Flags.{includes, o_path}
use Rattle.pt_host.specs.Tree.{Tree, Opened}
use Rattle.pt_host.specs.LawfulTree.{TreeChanges, Opens, closed_at}
use Rattle.pt_host.specs.declared.ids.Fd.{Fd}
use Rattle.pt_host.specs.declared.flags.OpenFlags.{OpenFlags}
use Rattle.pt_host.specs.declared.reply.HostReply.{HostReply}
use Rattle.pt_host.specs.declared.reply.HostReply.TheVariants as host
use Rattle.pt_host.specs.declared.reply.HostValue.TheVariants as value
use Rattle.pt_tables.specs.declared.form.RowForm.{RowForm}
use Rattle.pt_tables.specs.declared.form.RowForm.TheVariants.{File}
use Rattle.pt_tables.specs.declared.event.KeptEvent.TheVariants as change
use Rattle.pt_tables.specs.declared.reply.EventReply.TheVariants as event
use Rattle.pt_frame.specs.Deed.{Deed, Calls, Changes}
use Rattle.pt_frame.specs.Replies.{taken_in, brought}
use Rattle.pt_frame.specs.declared.act.ActReply.{ActReply}
use Rattle.pt_frame.specs.declared.act.ActReply.TheVariants.{Event, Host}
use Rattle.pt_frame.specs.declared.hold.Hold.{Hold}
use Rattle.pt_frame.specs.declared.hold.Hold.TheVariants as hold
use Rattle.pt_law.specs.Discipline.{ShiftsCalled, Shifts}
use Rattle.pt_law.specs.Ledger.{form_slot, open_count, some_count}
use Rattle.pt_law.proofs.Flows.{fd_held}
use Rattle.pt_law.specs.Ledger.{fd_handed, fd_received, fd_opened, fd_made, fd_closed, fd_ended, pin_made}
use Rattle.pt_law.specs.Ledger.{pin_ended, handle_pin_made, handle_pin_ended}
use Rattle.pt_law.proofs.Growing.{IsQuiet, call_grows, opening_does, closing_does}
use Rattle.pt_law.specs.Ledger.{slot_taken}
use Rattle.pt_law.proofs.Flows.{slot_in}
use Rattle.pt_law.proofs.Flows.{pin_held, handle_pin_held, slot_held}
use Rattle.pt_law.proofs.Lists.{total_takes, is_same, is_apart, set_at_same, set_at_other}

-- what a job holds more after, and less
pub record Handed (holds : List Hold) (deed : Deed) (told : ActReply) (after : List Hold) : Type 0 where
  pub fds : (fd : ℕ) →
      total (fd_held fd) after + fd_handed fd deed told + fd_ended fd deed told
      ≡ total (fd_held fd) holds + fd_received fd deed told + fd_made fd deed told
  pub slots : (class : ℕ) →
      total (slot_held class) after + slot_in class deed told
      ≡ total (slot_held class) holds + slot_taken class deed told
  pub pins : (serial : ℕ) →
      total (pin_held serial) after + pin_ended serial deed told
      ≡ total (pin_held serial) holds + pin_made serial deed told
  pub handle_pins : (serial : ℕ) →
      total (handle_pin_held serial) after + handle_pin_ended serial deed told
      ≡ total (handle_pin_held serial) holds + handle_pin_made serial deed told

keeps : (deed : Deed) (told : ActReply) (holds after : List Hold) → after ≡ holds →
    ((fd : ℕ) → fd_handed fd deed told + fd_ended fd deed told ≡ fd_received fd deed told + fd_made fd deed told) →
    ((class : ℕ) → slot_in class deed told ≡ slot_taken class deed told) →
    ((serial : ℕ) → pin_ended serial deed told ≡ pin_made serial deed told) →
    ((serial : ℕ) → handle_pin_ended serial deed told ≡ handle_pin_made serial deed told) →
    Handed holds deed told after
keeps deed told holds after e f s p q = rw e (record {
  fds = λ fd. let a = f fd in omega (arith, a);
  slots = λ k. let a = s k in omega (arith, a);
  pins = λ k. let a = p k in omega (arith, a);
  handle_pins = λ k. let a = q k in omega (arith, a);
})

gains : (deed : Deed) (told : ActReply) {one : Hold} {holds after : List Hold} → Takes one after holds →
    ((fd : ℕ) → fd_held fd one + fd_handed fd deed told + fd_ended fd deed told
    ≡ fd_received fd deed told + fd_made fd deed told) →
    ((class : ℕ) → slot_held class one + slot_in class deed told ≡ slot_taken class deed told) →
    ((serial : ℕ) → pin_held serial one + pin_ended serial deed told ≡ pin_made serial deed told) →
    ((serial : ℕ) → handle_pin_held serial one + handle_pin_ended serial deed told
    ≡ handle_pin_made serial deed told) → Handed holds deed told after
gains deed told t f s p q = record {
  fds = λ fd. let a = f fd in let b = total_takes (fd_held fd) t in omega (arith, a, b);
  slots = λ k. let a = s k in let b = total_takes (slot_held k) t in omega (arith, a, b);
  pins = λ k. let a = p k in let b = total_takes (pin_held k) t in omega (arith, a, b);
  handle_pins = λ k. let a = q k in let b = total_takes (handle_pin_held k) t in omega (arith, a, b);
}

loses : (deed : Deed) (told : ActReply) {one : Hold} {holds after : List Hold} → Takes one holds after →
    ((fd : ℕ) → fd_handed fd deed told + fd_ended fd deed told
    ≡ fd_held fd one + fd_received fd deed told + fd_made fd deed told) →
    ((class : ℕ) → slot_in class deed told ≡ slot_held class one + slot_taken class deed told) →
    ((serial : ℕ) → pin_ended serial deed told ≡ pin_held serial one + pin_made serial deed told) →
    ((serial : ℕ) → handle_pin_ended serial deed told
    ≡ handle_pin_held serial one + handle_pin_made serial deed told) → Handed holds deed told after
loses deed told t f s p q = record {
  fds = λ fd. let a = f fd in let b = total_takes (fd_held fd) t in omega (arith, a, b);
  slots = λ k. let a = s k in let b = total_takes (slot_held k) t in omega (arith, a, b);
  pins = λ k. let a = p k in let b = total_takes (pin_held k) t in omega (arith, a, b);
  handle_pins = λ k. let a = q k in let b = total_takes (handle_pin_held k) t in omega (arith, a, b);
}

abbrev first_is : Fd → Bool → ℕ → ActReply
first_is fd slot class = Event (event.Closing (record { fd = fd; slot = slot; class = class }))

brings : (fd : Fd) (slot : Bool) (class : ℕ) (holds after : List Hold) →
    after ≡ brought (taken_in (first_is fd slot class)) ++ holds →
    Handed holds (Changes change.TakeClosing) (first_is fd slot class) after
brings fd true class holds after e =
    rw e (record {
      fds = λ k. omega arith;
      slots = λ k. omega arith;
      pins = λ k. omega arith;
      handle_pins = λ k. omega arith;
    })
brings fd false class holds after e =
    rw e (record {
      fds = λ k. omega arith;
      slots = λ k. omega arith;
      pins = λ k. omega arith;
      handle_pins = λ k. omega arith;
    })

fds_called : (f : ℕ) (sort : Sort) (names : List Fd) (told : ActReply) (holds after : List Hold) →
    ShiftsCalled sort names holds told after →
    total (fd_held f) after + fd_closed f sort ≡ total (fd_held f) holds + fd_opened f sort told
fds_called f (OpensWith flags) names (Host (host.Ok (value.Fd fd))) holds after m =
    let a = total_takes (fd_held f) m.1 in omega (arith, a)
fds_called f (OpensWith flags) names told holds after m = let a = ap (total (fd_held f)) m.1 in omega (arith, a)
fds_called f (EndsFd fd) names told holds after m = let a = total_takes (fd_held f) m in omega (arith, a)
fds_called f OfSeat names told holds after m = let a = ap (total (fd_held f)) m.1 in omega (arith, a)
fds_called f Plain names told holds after m = let a = ap (total (fd_held f)) m.1 in omega (arith, a)

-- a call moves nothing else
pub others_called : (w : Hold → ℕ) → ((fd : Fd) → w (hold.Fd fd) ≡ 0) → (sort : Sort) (names : List Fd)
    (told : ActReply) (holds after : List Hold) → ShiftsCalled sort names holds told after →
    total w after ≡ total w holds
others_called w z (OpensWith flags) names (Host (host.Ok (value.Fd fd))) holds after m =
    let a = total_takes w m.1 in let b = z fd in omega (arith, a, b)
others_called w z (OpensWith flags) names told holds after m = ap (total w) m.1
others_called w z (EndsFd fd) names told holds after m =
    let a = total_takes w m in let b = z fd in omega (arith, a, b)
others_called w z OfSeat names told holds after m = ap (total w) m.1
others_called w z Plain names told holds after m = ap (total w) m.1

-- the row takes the slot that was held
form_held : (class its : ℕ) (form : RowForm) → form_slot class its form ≡ is its class
form_held class its (File fd) = refl

-- a call, by its sort
handed_called : (asked : Call) (sort : Sort) → sort_of asked ≡ sort → (names : List Fd) (told : ActReply)
    (holds after : List Hold) → ShiftsCalled sort names holds told after → Handed holds (Calls asked) told after
handed_called asked sort e names told holds after m = record {
  fds = λ fd. let a = fds_called fd sort names told holds after m in
      let b = ap (λ (s : Sort). fd_opened fd s told) e in let c = ap (λ (s : Sort). fd_closed fd s) e in
      omega (arith, a, b, c);
  slots = λ k. let a = others_called (slot_held k) (λ fd. refl) sort names told holds after m in omega (arith, a);
  pins = λ k. let a = others_called (pin_held k) (λ fd. refl) sort names told holds after m in
      omega (arith, a);
  handle_pins = λ k. let a = others_called (handle_pin_held k) (λ fd. refl) sort names told holds after m
      in
      omega (arith, a);
}

pub handed : (holds : List Hold) (deed : Deed) (told : ActReply) (after : List Hold) → Shifts holds deed told after →
    Handed holds deed told after
handed holds (Calls asked) told after m =
    handed_called asked (sort_of asked) refl (fds_of asked) told holds after m
handed holds (Changes change.Begin) told after m = keeps _ _ holds after m (λ _. refl) (λ _. refl) (λ _. refl)
    (λ _. refl)
handed holds (Changes (change.Resolve number)) (Event (event.Resolved resolved)) after m =
    gains (Changes (change.Resolve number)) (Event (event.Resolved resolved)) m (λ _.
    omega arith) (λ _. omega arith) (λ _. omega arith) (λ _. omega arith)
handed holds (Changes (change.Resolve number)) told after m =
    keeps _ _ holds after m (λ _. refl) (λ _. refl) (λ _. refl) (λ _. refl)
handed holds (Changes (change.Unpin row)) told after m =
    loses (Changes (change.Unpin row)) told m.1 (λ _. omega arith) (λ _. omega arith) (λ _. omega arith)
    (λ _. omega arith)
handed holds (Changes (change.Claim claim)) (Event (event.Claimed given)) after m =
    gains (Changes (change.Claim claim)) (Event (event.Claimed given)) m (λ _.
    omega arith) (λ _. omega arith) (λ _. omega arith) (λ _. omega arith)
handed holds (Changes (change.Claim claim)) told after m =
    keeps _ _ holds after m (λ _. refl) (λ _. refl) (λ _. refl) (λ _. refl)
handed holds (Changes (change.TakeFd class)) (Event event.Taken) after m =
    gains (Changes (change.TakeFd class)) (Event event.Taken) m (λ _. omega arith) (λ _. omega arith)
    (λ _. omega arith) (λ _.
    omega arith)
handed holds (Changes (change.TakeFd class)) told after m = keeps _ _ holds after m (λ _. refl) (λ _. refl)
    (λ _. refl) (λ _. refl)
handed holds (Changes (change.GiveFd class)) told after m =
    loses (Changes (change.GiveFd class)) told m (λ _. omega arith) (λ _. omega arith) (λ _. omega arith)
    (λ _. omega arith)
handed holds (Changes change.DrawNode) told after m = keeps _ _ holds after m (λ _. refl) (λ _. refl) (λ _. refl)
    (λ _. refl)
handed holds (Changes (change.Insert new)) (Event (event.Inserted given)) after m = record {
  fds = λ f. let a = total_takes (fd_held f) m.2 in let b = total_takes (fd_held f) m.3 in
      let c = total_takes (fd_held f) m.4 in omega (arith, a, b, c);
  slots = λ k. let a = total_takes (slot_held k) m.2 in let b = total_takes (slot_held k) m.3 in
      let c = total_takes (slot_held k) m.4 in let d = form_held k new.class new.form in omega (arith, a, b, c, d);
  pins = λ k. let a = total_takes (pin_held k) m.2 in let b = total_takes (pin_held k) m.3 in
      let c = total_takes (pin_held k) m.4 in omega (arith, a, b, c);
  handle_pins = λ k. let a = total_takes (handle_pin_held k) m.2 in let b = total_takes (handle_pin_held k) m.3 in
      let c = total_takes (handle_pin_held k) m.4 in omega (arith, a, b, c);
}
handed holds (Changes (change.Insert new)) (Event (event.Found given)) after m =
    gains (Changes (change.Insert new)) (Event (event.Found given)) m (λ _.
    omega arith) (λ _. omega arith) (λ _. omega arith) (λ _. omega arith)
handed holds (Changes (change.Insert new)) told after m =
    keeps _ _ holds after m (λ _. refl) (λ _. refl) (λ _. refl) (λ _. refl)
handed holds (Changes (change.InsertRoot new)) (Event (event.Inserted given)) after m = record {
  fds = λ f. let a = total_takes (fd_held f) m.1 in let b = total_takes (fd_held f) m.2 in omega (arith, a, b);
  slots = λ k. let a = total_takes (slot_held k) m.1 in let b = total_takes (slot_held k) m.2 in
      let d = form_held k 0 new.form in omega (arith, a, b, d);
  pins = λ k. let a = total_takes (pin_held k) m.1 in let b = total_takes (pin_held k) m.2 in omega (arith, a, b);
  handle_pins = λ k. let a = total_takes (handle_pin_held k) m.1 in let b = total_takes (handle_pin_held k) m.2 in
      omega (arith, a, b);
}
handed holds (Changes (change.InsertRoot new)) told after m =
    keeps _ _ holds after m (λ _. refl) (λ _. refl) (λ _. refl) (λ _. refl)
handed holds (Changes (change.Forget list)) told after m =
    keeps _ _ holds after m (λ _. refl) (λ _. refl) (λ _. refl) (λ _. refl)
handed holds (Changes (change.GiveBack era number)) told after m =
    loses (Changes (change.GiveBack era number)) told m (λ _. omega arith) (λ _. omega arith) (λ _. omega arith) (λ _.
    omega arith)
handed holds (Changes change.DrawHandle) told after m =
    keeps _ _ holds after m (λ _. refl) (λ _. refl) (λ _. refl) (λ _. refl)
handed holds (Changes (change.InsertHandle new)) (Event (event.Inserted given)) after m = record {
  fds = λ f. let a = total_takes (fd_held f) m.1 in let b = total_takes (fd_held f) m.2 in omega (arith, a, b);
  slots = λ k. let a = total_takes (slot_held k) m.1 in let b = total_takes (slot_held k) m.2 in omega (arith, a, b);
  pins = λ k. let a = total_takes (pin_held k) m.1 in let b = total_takes (pin_held k) m.2 in omega (arith, a, b);
  handle_pins = λ k. let a = total_takes (handle_pin_held k) m.1 in let b = total_takes (handle_pin_held k) m.2 in
      omega (arith, a, b);
}
handed holds (Changes (change.InsertHandle new)) told after m =
    keeps _ _ holds after m (λ _. refl) (λ _. refl) (λ _. refl) (λ _. refl)
handed holds (Changes (change.PinHandle handle number)) (Event (event.Pinned row fd)) after m =
    gains (Changes (change.PinHandle handle number)) (Event (event.Pinned row fd)) m (λ _.
    omega arith) (λ _. omega arith) (λ _. omega arith) (λ _. omega arith)
handed holds (Changes (change.PinHandle handle number)) told after m =
    keeps _ _ holds after m (λ _. refl) (λ _. refl) (λ _. refl) (λ _. refl)
handed holds (Changes (change.UnpinHandle row)) told after m =
    loses (Changes (change.UnpinHandle row)) told m.1 (λ _. omega arith) (λ _. omega arith) (λ _. omega arith) (λ _.
    omega arith)
handed holds (Changes (change.Release handle number)) told after m =
    keeps _ _ holds after m (λ _. refl) (λ _. refl) (λ _. refl) (λ _. refl)
handed holds (Changes change.Clear) told after m = keeps _ _ holds after m (λ _. refl) (λ _. refl) (λ _. refl)
    (λ _. refl)
handed holds (Changes change.TakeClosing) (Event (event.Closing first)) after m =
    brings first.fd first.slot first.class holds after m
handed holds (Changes change.TakeClosing) told after m =
    keeps (Changes change.TakeClosing) told holds after m (λ _. refl) (λ _. refl) (λ _. refl) (λ _. refl)

-- a descriptor's entry is set
sets : (opened : ℕ → Option Opened) (f : ℕ) (x : Option Opened) (fd : ℕ) →
    some_count (set_at f x opened fd) + is f fd * some_count (opened f)
    ≡ some_count (opened fd) + is f fd * some_count x
sets opened f x fd = ⊎_elim same other (cases_eq f fd)
  where
    same : f ≡ fd → some_count (set_at f x opened fd) + is f fd * some_count (opened f)
        ≡ some_count (opened fd) + is f fd * some_count x
    same e = subst (λ g. some_count (set_at f x opened g) + is f g * some_count (opened f)
        ≡ some_count (opened g) + is f g * some_count x) e
        (omega (
          arith,
          ap some_count (set_at_same opened f x),
          ap (λ i. i * some_count (opened f)) (is_same f),
          ap (λ i. i * some_count x) (is_same f),
        ))

    other : f ≢ fd → some_count (set_at f x opened fd) + is f fd * some_count (opened f)
        ≡ some_count (opened fd) + is f fd * some_count x
    other e = omega (
      arith,
      ap some_count (set_at_other opened f x fd (λ k. e (sym k))),
      ap (λ i. i * some_count (opened f)) (is_apart f fd e),
      ap (λ i. i * some_count x) (is_apart f fd e),
    )

opens : (tree : Tree) (object : ℕ) (flags : OpenFlags) (new : Fd) (after : Tree) → Opens tree object flags new after →
    (fd : ℕ) → open_count fd after ≡ open_count fd tree + is new.0 fd
opens tree object flags new after o fd = rw o.adds (
    let a = sets tree.opened new.0 (Some (record { object = object; path_only = includes flags.0 o_path })) fd in
    let b = ap (λ x. is new.0 fd * some_count x) o.fresh in
    omega (arith, a, b))

closes : (tree : Tree) (f : Fd) (after : Tree) → after ≡ closed_at tree f → open_count f.0 tree ≡ 1 → (fd : ℕ) →
    open_count fd after + is f.0 fd ≡ open_count fd tree
closes tree f after e one fd = rw e (
    let a = sets tree.opened f.0 None fd in
    let b = ap (λ n. is f.0 fd * n) one in
    omega (arith, a, b))

-- what a call opens and closes; what is closed was open
pub in_tree : (tree : Tree) (a : Call) (r : HostReply) (after : Tree) → TreeChanges tree a r after →
    ((f : ℕ) → 0 < fd_ended f (Calls a) (Host r) → open_count f tree ≡ 1) →
    (fd : ℕ) → open_count fd after + fd_ended fd (Calls a) (Host r) ≡ open_count fd tree
    + fd_made fd (Calls a) (Host r)
in_tree tree a r after l c fd = go (sort_of a) r refl l c
  where
    quiet : (r : HostReply) → TreeChanges tree a r after → IsQuiet (sort_of a) r →
        open_count fd after ≡ open_count fd tree
    quiet r l q = ap (λ (o : ℕ → Option Opened). some_count (o fd)) (call_grows tree a r after l q).same_open

    go : (s : Sort) (r : HostReply) → sort_of a ≡ s → TreeChanges tree a r after →
        ((f : ℕ) → 0 < fd_closed f s → open_count f tree ≡ 1) →
        open_count fd after + fd_closed fd s ≡ open_count fd tree + fd_opened fd s (Host r)
    go (OpensWith flags) (host.Ok (value.Fd new)) e l c =
        let o = opening_does tree a flags new after e l in
        let x = opens o.0 o.1 flags new after o.3 fd in
        let y = ap (λ (z : ℕ → Option Opened). some_count (z fd)) o.2 in
        omega (arith, x, y)
    go (OpensWith flags) r e l c =
        let x = quiet r l (subst (λ s. IsQuiet s r) (sym e) tt) in omega (arith, x)
    go (EndsFd f) r e l c =
        let x = closes tree f after (closing_does tree a f r after e l)
        (c f.0 (let k = is_same f.0 in omega (arith, k))) fd in omega (arith, x)
    go OfSeat r e l c = let x = quiet r l (subst (λ s. IsQuiet s r) (sym e) tt) in omega (arith, x)
    go Plain r e l c = let x = quiet r l (subst (λ s. IsQuiet s r) (sym e) tt) in omega (arith, x)
