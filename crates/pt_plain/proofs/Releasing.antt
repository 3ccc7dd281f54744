-- Proof. `release`, `releasedir`: a handle ends.
use Rattle.std.proofs.Common.{◌≡◌, ◌≢◌, ◌⊎◌, inl, inr, ℕ, ◌+◌, List, Some, None, refl, sym, ap, ◌∙◌, arith}
use Rattle.std.proofs.Common.{⊎_elim}
use Rattle.std.proofs.lemmas.Bool.{cases_eq}
use Rattle.pt_host.specs.Words.{set_at}
use Rattle.pt_host.specs.declared.ids.Errno.{Errno}
use Rattle.pt_host.specs.declared.seat.HostSeat.{HostSeat}
use Rattle.pt_tables.specs.Tables.{Tables, IsHandle}
use Rattle.pt_tables.specs.declared.row.HandleRow.{HandleRow}
use Rattle.pt_tables.specs.Rows.{Dies, handle_rows}
use Rattle.pt_tables.specs.declared.form.Negotiated.{Negotiated}
use Rattle.pt_tables.specs.declared.event.KeptEvent.TheVariants as change
use Rattle.pt_tables.specs.declared.reply.EventReply.TheVariants as event
use Rattle.pt_tables.proofs.Cases.{cases}
use Rattle.pt_iface.specs.declared.answer.Answer.{Answer}
use Rattle.pt_iface.specs.declared.answer.Answer.TheVariants as answer
use Rattle.pt_frame.specs.Deed.{Changes}
use Rattle.pt_frame.specs.Replies.{closings_in}
use Rattle.pt_frame.specs.Tree.{RequestTree, Gives}
use Rattle.pt_frame.specs.declared.act.ActReply.{ActReply}
use Rattle.pt_frame.specs.declared.act.ActReply.TheVariants.{Event, Host, NoCopy}
use Rattle.pt_frame.specs.declared.finish.Finish.TheVariants as finish
use Rattle.pt_req.specs.Requests.{release}
use Rattle.pt_req.specs.Steps.{begin, release_handle, done_in}
use Rattle.pt_req.specs.declared.begun.BegunSession.{BegunSession}
use Rattle.pt_law.specs.Settled.{entry_count}
use Rattle.pt_law.specs.World.{World}
use Rattle.pt_law.proofs.Givings.{live_count}
use Rattle.pt_law.proofs.Knowing.{HandleOpen}
use Rattle.pt_law.proofs.Lists.{set_at_same, set_at_other, each_taken, each_replaced}
use Rattle.pt_plain.specs.Plain.{PlainTree, handled_as}
use Rattle.pt_plain.specs.Serves.{EndsHandle}
use Rattle.pt_plain.proofs.Coming.{IdlesBy, Makes}
use Rattle.pt_plain.proofs.Counting.{IsEven}
use Rattle.pt_plain.proofs.Found.{dead_row, taken_row}
use Rattle.pt_plain.proofs.Passing.{ends, even_also, even_passes, Passes, passes_begin, passes_release}
use Rattle.pt_plain.proofs.Serving.{Alone, counts, refused_counts, shows_still, walked}
use Rattle.pt_plain.proofs.Showing.{bare_tree, found, handle_at, handled, numbered, Shows, Still}
use Rattle.pt_plain.proofs.Stilling.{by_still, IsStill}
use Rattle.pt_plain.proofs.Walking.{At, At.{by}, GivesNone, idles_quiet, IsRefused, Quiet, refused_from, walk_ask}
use Rattle.pt_plain.proofs.Walking.{walk_begin}

-- what the tables have beside the handles
record Beside : Type 0 where
  next_number : ℕ
  next_handle : ℕ
  agreed : Negotiated

abbrev beside : Tables → Beside
beside t = record { next_number = t.next_number; next_handle = t.next_handle; agreed = t.negotiated }

-- the handle was there, for this number, and ended
record IsReleased (w on : World) (handle number : ℕ) : Type 0 where
  object : ℕ
  was : handle_at w handle ≡ handled_as number object
  gone : handle_at on handle ≡ None
  others : (x : ℕ) → x ≢ handle → handle_at on x ≡ handle_at w x
  tree : bare_tree on.tree ≡ bare_tree w.tree
  numbers : on.past.numbers ≡ w.past.numbers
  rest : beside on.tables ≡ beside w.tables

released : (j : ℕ) (w on : World) (handle number closings : ℕ) →
    Makes j w (Changes (change.Release handle number)) (Event (event.Done closings)) on → IsReleased w on handle number
released j w on handle number closings m =
    go h.0 h.1 h.2
  where
    h : (row : HandleRow) × IsHandle handle number row × Dies handle_rows w.tables row closings on.tables
    h = cases w.tables on.tables (change.Release handle number) (event.Done closings) m.2.made.0

    objects : on.past.objects ≡ w.past.objects
    objects = ap (λ p. p.objects) m.2.past

    by_rows : (row : HandleRow) → IsHandle handle number row → (rows : List HandleRow) → on.tables.handles ≡ rows →
        ((found w.past.objects handle w.tables.handles ≡ handled row.number (w.past.objects row.serial))
        × (found w.past.objects handle rows ≡ None)
        × ((x : ℕ) → x ≢ handle → found w.past.objects x rows ≡ found w.past.objects x w.tables.handles)) →
        HandleOpen w.tree w.past row → beside on.tables ≡ beside w.tables → IsReleased w on handle number
    by_rows row is rows e f o b = record {
      object = o.object;
      was = f.0 ∙ ap (handled row.number) o.placed ∙ ap (λ x. handled_as x o.object) is.2;
      gone = (λ i. found (objects i) handle (e i)) ∙ f.1;
      others = λ x q. (λ i. found (objects i) x (e i)) ∙ f.2 x q;
      tree = ap bare_tree m.2.made.1;
      numbers = ap (λ p. p.numbers) m.2.past;
      rest = b;
    }

    go : (row : HandleRow) → IsHandle handle number row → Dies handle_rows w.tables row closings on.tables →
        IsReleased w on handle number
    go row is (inl d) = let k = d.2 in
        by_rows row is k.0 (ap (λ t. t.handles) k.2)
        (taken_row w.past.objects handle k.1 is.0 is.1 m.0.agree.handles_apart)
        (each_taken (HandleOpen w.tree w.past) k.1 m.0.handled) (ap beside k.2)
    go row is (inr d) = let k = d.2 in
        by_rows row is k.0 (ap (λ t. t.handles) k.2)
        (dead_row w.past.objects handle k.1 is.0 is.1 m.0.agree.handles_apart)
        (each_replaced (HandleOpen w.tree w.past) k.1 m.0.handled) (ap beside k.2)

even_release : (inode handle : ℕ) (state : PlainTree) →
    Passes IsEven state (λ last. Unit {0}) (begin (release inode handle))
even_release inode handle state = passes_begin even_also _ (λ session.
    passes_release even_also handle inode tt (ends even_also tt))

-- what a release leaves, where it is answered or was refused
pub served_release : (j : ℕ) (seat : HostSeat) (inode handle : ℕ) (w : World) (last : Answer) (w' : World)
    (state : PlainTree) → Shows w state → Alone j seat (begin (release inode handle)) w last w' →
    ((errno : Errno) × (last ≡ answer.Refused errno) × Shows w' state)
    ⊎ ((last ≡ answer.Done) × ((after : PlainTree)
    × EndsHandle state handle inode after
    × Shows w' after))
served_release j seat inode handle w last w' state s a =
    walk_begin j asks w last w' a.given (walked j seat (begin (release inode handle)) w last w' a) out
    (λ session b qb cb.
    ended b qb cb)
  where
    asks : BegunSession → RequestTree
    asks session = release_handle handle inode (Gives answer.Done)

    Goal : Type 0
    Goal = ((errno : Errno) × (last ≡ answer.Refused errno) × Shows w' state)
        ⊎ ((last ≡ answer.Done) × ((after : PlainTree)
        × EndsHandle state handle inode after
        × Shows w' after))

    all : (n : ℕ) → live_count n w'.tables ≡ live_count n w.tables + entry_count n (finish.Answer last)
    all = counts j seat (begin (release inode handle)) w last w' a (even_passes (even_release inode handle state))

    out : IsRefused w last w' → Goal
    out r = inl (r.errno, r.is, shows_still w w' state s r.quiet.still (refused_counts w w' last r all))

    answered : (b c d : World) → Quiet w b → IsReleased b c handle inode → Still c d → Still d w' →
        last ≡ answer.Done → Goal
    answered b c d qb r qd qe e =
        let after : PlainTree = record state { handles = set_at handle None state.handles } in
        let n0 = qb.still.next_number in let n1 = ap (λ (x : Beside). x.next_number) r.rest in
        let n2 = qd.next_number in let n3 = qe.next_number in let n4 = s.numbers_below in
        let h0 = qb.still.next_handle in let h1 = ap (λ (x : Beside). x.next_handle) r.rest in
        let h2 = qd.next_handle in let h3 = qe.next_handle in let h4 = s.handles_below in
        inr (
          e,
          (
            after,
            (r.object, s.handles handle ∙ sym (qb.still.handles handle) ∙ r.was, refl),
            record {
              tree = s.tree ∙ sym (qe.tree ∙ qd.tree ∙ r.tree ∙ qb.still.tree);
              numbers = λ n. s.numbers n ∙ (λ i. numbered (sym (same n) i)
                  (sym (qe.past ∙ qd.past ∙ r.numbers ∙ qb.still.past) i n));
              handles = λ x. ⊎_elim
                  (λ (q : x ≡ handle). ap (set_at handle None state.handles) q ∙ set_at_same state.handles handle None
                  ∙ sym (qe.handles x ∙ qd.handles x ∙ ap (handle_at c) q ∙ r.gone))
                  (λ (q : x ≢ handle). set_at_other state.handles handle None x q ∙ s.handles x
                  ∙ sym (qe.handles x ∙ qd.handles x ∙ r.others x q ∙ qb.still.handles x))
                  (cases_eq x handle);
              numbers_below = omega (arith, n0, n1, n2, n3, n4);
              handles_below = omega (arith, h0, h1, h2, h3, h4);
              agreed = s.agreed ∙ sym (qe.agreed ∙ qd.agreed ∙ ap (λ (x : Beside). x.agreed) r.rest ∙ qb.still.agreed);
            },
          ),
        )
      where
        same : (n : ℕ) → live_count n w'.tables ≡ live_count n w.tables
        same n = let x = all n in let z = ap (λ (y : Answer). entry_count n (finish.Answer y)) e in omega (arith, x, z)

    ended : (b : World) → Quiet w b → At j (release_handle handle inode (Gives answer.Done)) b last w' → Goal
    ended b qb c =
        walk_ask j (Changes (change.Release handle inode)) done_in (λ done. Gives answer.Done) b last w' a.given
        refuses c
        (λ r. out (refused_from w b last w' qb r)) go
      where
        refuses : (told : ActReply) → done_in told ≡ None →
            IsStill (Changes (change.Release handle inode)) told × GivesNone (Changes (change.Release handle inode))
            told
        refuses (Event (event.Done closings)) e = absurd (cc)
        refuses (Event told) e = (tt, tt)
        refuses (Host told) e = (tt, tt)
        refuses NoCopy e = (tt, tt)

        go : (told : ActReply) (done : Unit {0}) (c d : World) → done_in told ≡ Some done →
            Makes j b (Changes (change.Release handle inode)) told c →
            IdlesBy j (closings_in (Changes (change.Release handle inode)) told) c d →
            At j (Gives answer.Done) d last w' → Goal
        go (Event (event.Done closings)) done c d e m i (by k) =
            answered b c d qb (released j b c handle inode closings m) (by_still j closings c d i)
            (idles_quiet j d w' k.1).still k.0
        go told done c d e m i k = absurd (cc)
