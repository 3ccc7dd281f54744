-- What a job has come to by a number stays, while it comes to no other, or the number is not inserted again.
use Rattle.std.proofs.Common.{◌≡◌, ◌≢◌, ◌⊎◌, ⊎_elim, inl, inr, ℕ, ◌<◌, List, [], ◌∷◌, refl, sym, ap, subst}
use Rattle.std.proofs.Common.{◌∙◌, arith, Option, None, Some}
use Rattle.std.proofs.lemmas.Bool.{cases_eq}
use Rattle.pt_host.specs.Words.{Each, is, set_at}
use Rattle.pt_host.specs.Tree.{Tree}
use Rattle.pt_host.specs.declared.ids.ObjIds.{ObjIds}
use Rattle.pt_host.specs.declared.op.KeptHostOp.TheVariants as call
use Rattle.pt_host.specs.declared.reply.HostReply.TheVariants as host
use Rattle.pt_host.specs.declared.reply.HostValue.TheVariants as value
use Rattle.pt_tables.specs.Tables.{Tables, HasNumber, empty_tables}
use Rattle.pt_tables.specs.Rows.{NoRow}
use Rattle.pt_tables.specs.declared.event.KeptEvent.TheVariants as change
use Rattle.pt_tables.specs.declared.reply.EventReply.TheVariants as event
use Rattle.pt_frame.specs.Deed.{Deed, Calls, Changes, Step}
use Rattle.pt_frame.specs.declared.act.ActReply.{ActReply}
use Rattle.pt_frame.specs.declared.act.ActReply.TheVariants.{Event, Host}
use Rattle.pt_law.specs.Laws.{IsLive}
use Rattle.pt_law.specs.Ledger.{inserted, inserted_as, weighed}
use Rattle.pt_law.specs.Reopened.{ComesToNone}
use Rattle.pt_law.specs.World.{World, Past, Turn, Goes, Runs, TablesRun, settled_if, settled, come_to, fd_of, steps_of}
use Rattle.pt_law.proofs.Cuts.{steps_at, steps_past}
use Rattle.pt_law.proofs.Laws.{agree_law}
use Rattle.pt_law.proofs.Lists.{each_taken, is_none, set_at_same, set_at_other}
use Rattle.pt_law.proofs.Opening.{GivesBy}
use Rattle.pt_law.proofs.Reliance.{stays_gone}

pub comes_there : (past : Past) (j number : ℕ) (object : Option ℕ) →
    (come_to past j number object).resolved j number ≡ object
comes_there past j number object =
    ap (λ (f : ℕ → Option ℕ). f number) (set_at_same past.resolved j (set_at number object (past.resolved j)))
    ∙ set_at_same (past.resolved j) number object

pub given_settled : (past : Past) (j era number : ℕ) (ids : ObjIds) (deed : Option Deed) (told : ActReply) (row : ℕ)
    (tree : Tree) → GivesBy era number ids deed told →
    (settled_if past j deed told row tree).resolved j number ≡ (settled_if past j deed told row tree).numbers number
given_settled past j era number ids (Some (Changes (change.Claim claim))) (Event (event.Claimed given)) row
    tree b =
    subst (λ n. (come_to past j given.number (past.numbers given.number)).resolved j n ≡ past.numbers n) b.0
    (comes_there past j given.number (past.numbers given.number))
given_settled past j era number ids (Some (Changes (change.Insert new))) (Event (event.Found given))
    row tree b =
    subst (λ n. (come_to past j given.number (past.numbers given.number)).resolved j n ≡ past.numbers n) b.0
    (comes_there past j given.number (past.numbers given.number))
given_settled past j era number ids (Some (Changes (change.Insert new))) (Event (event.Inserted given)) row tree b =
    let latest = past.latest j in
    let at : Past = settled past given row (fd_of new.form) latest in
    subst (λ n. (come_to at j given latest).resolved j n ≡ at.numbers n) b.0
    (comes_there at j given latest ∙ sym (set_at_same past.numbers given latest))
given_settled past j era number ids _ _ row tree b = absurd b

settled_resolved : (past : Past) (j i : ℕ) (deed : Option Deed) (told : ActReply) (next : ℕ) (tree : Tree) →
    (j ≢ i) ⊎ ComesToNone deed told → (settled_if past j deed told next tree).resolved i ≡ past.resolved i
settled_resolved past j i (Some (Changes (change.Resolve number))) (Event (event.Resolved resolved)) next
    tree (inl e) =
    set_at_other past.resolved j (set_at number (past.numbers number) (past.resolved j)) i (λ k. e (sym k))
settled_resolved past j i (Some (Changes (change.Claim claim))) (Event (event.Claimed given)) next tree
    (inl e) =
    set_at_other past.resolved j (set_at given.number (past.numbers given.number) (past.resolved j)) i (λ k. e (sym k))
settled_resolved past j i (Some (Changes (change.Insert new))) (Event (event.Found given)) next
    tree (inl e) =
    set_at_other past.resolved j (set_at given.number (past.numbers given.number) (past.resolved j)) i (λ k. e (sym k))
settled_resolved past j i (Some (Changes (change.Insert new))) (Event (event.Inserted given))
    next tree (inl e) =
    set_at_other past.resolved j (set_at given (past.latest j) (past.resolved j)) i (λ k. e (sym k))
settled_resolved past j i (Some (Changes (change.Resolve number))) (Event (event.Resolved resolved)) next
    tree (inr q) = absurd q
settled_resolved past j i (Some (Changes (change.Claim claim))) (Event (event.Claimed given)) next tree
    (inr q) = absurd q
settled_resolved past j i (Some (Changes (change.Insert new))) (Event (event.Found given)) next
    tree (inr q) = absurd q
settled_resolved past j i (Some (Changes (change.Insert new))) (Event (event.Inserted given))
    next tree (inr q) = absurd q
settled_resolved past j i (Some (Changes (change.InsertRoot new))) (Event (event.Inserted given)) next tree q = refl
settled_resolved past j i (Some (Changes (change.InsertHandle new))) (Event (event.Inserted given)) next tree q = refl
settled_resolved past j i (Some (Calls (call.OpenAt dir name flags mode))) (Host (host.Ok (value.Fd fd))) next tree
    q = refl
settled_resolved past j i (Some (Calls (call.OpenRoot place flags))) (Host (host.Ok (value.Fd fd))) next tree q = refl
settled_resolved past j i None told next tree q = refl
settled_resolved past j i (Some _) _ next tree q = refl

pub come_step : (w : World) (i : ℕ) (s : Turn) (next : World) → Goes w s next →
    (s.job ≢ i) ⊎ ComesToNone s.step.deed s.step.reply → next.past.resolved i ≡ w.past.resolved i
come_step w i s next g q =
    ap (λ (p : Past). p.resolved i) g.past
    ∙ settled_resolved w.past s.job i s.step.deed s.step.reply w.tables.next_row next.tree q

pub come_stays : (j : ℕ) (turns : List Turn) (w last : World) → Runs w turns last →
    Each (λ (step : Step). ComesToNone step.deed step.reply) (steps_of j turns) →
    last.past.resolved j ≡ w.past.resolved j
come_stays j [] w last r q = ap (λ (z : World). z.past.resolved j) r
come_stays j (s ∷ ss) w last r q =
    ⊎_elim (mine (come_stays j ss r.0 last r.2)) (other (come_stays j ss r.0 last r.2)) (cases_eq s.job j)
  where
    mine : (Each (λ (step : Step). ComesToNone step.deed step.reply) (steps_of j ss) →
        last.past.resolved j ≡ r.0.past.resolved j) → s.job ≡ j → last.past.resolved j ≡ w.past.resolved j
    mine ih e = let k = rw (steps_at j s ss e) at q in ih k.1 ∙ come_step w j s r.0 r.1 (inr k.0)

    other : (Each (λ (step : Step). ComesToNone step.deed step.reply) (steps_of j ss) →
        last.past.resolved j ≡ r.0.past.resolved j) → s.job ≢ j → last.past.resolved j ≡ w.past.resolved j
    other ih e = ih (rw (steps_past j s ss e) at q) ∙ come_step w j s r.0 r.1 (inl e)

-- the number stands for this object, and that is what the job has come to by it
abbrev pub Stands : Past → ℕ → ℕ → ℕ → Type 0
Stands past j number object = (past.numbers number ≡ Some object) × (past.resolved j number ≡ Some object)

comes_again : (past : Past) (i given : ℕ) (other : Option ℕ) (j number object : ℕ) →
    (given ≡ number → other ≡ Some object) → past.resolved j number ≡ Some object →
    (come_to past i given other).resolved j number ≡ Some object
comes_again past i given other j number object same is = ⊎_elim mine others (cases_eq j i)
  where
    now : ℕ → Option ℕ
    now = set_at given other (past.resolved i)

    now_is : j ≡ i → now number ≡ Some object
    now_is e = ⊎_elim
        (λ (q : number ≡ given). ap now q ∙ set_at_same (past.resolved i) given other ∙ same (sym q))
        (λ (q : number ≢ given).
        set_at_other (past.resolved i) given other number q ∙ ap (λ k. past.resolved k number) (sym e) ∙ is)
        (cases_eq number given)

    mine : j ≡ i → set_at i now past.resolved j number ≡ Some object
    mine e =
        ap (λ k. set_at i now past.resolved k number) e
        ∙ ap (λ (f : ℕ → Option ℕ). f number) (set_at_same past.resolved i now) ∙ now_is e

    others : j ≢ i → set_at i now past.resolved j number ≡ Some object
    others e = ap (λ (f : ℕ → Option ℕ). f number) (set_at_other past.resolved i now j e) ∙ is

not_again : (past : Past) (given number : ℕ) (other : Option ℕ) (object : ℕ) → is given number ≡ 0 →
    past.numbers number ≡ Some object → set_at given other past.numbers number ≡ Some object
not_again past given number other object z e =
    set_at_other past.numbers given other number (λ q. is_none given number z (sym q)) ∙ e

pub settled_stands : (past : Past) (i : ℕ) (deed : Option Deed) (told : ActReply) (next : ℕ) (tree : Tree)
    (j number object : ℕ) → weighed (inserted_as number) deed told ≡ 0 → Stands past j number object →
    Stands (settled_if past i deed told next tree) j number object
settled_stands past i (Some (Changes (change.Insert new))) (Event (event.Inserted given)) next
    tree j number object z h =
    let at : Past = settled past given next (fd_of new.form) (past.latest i) in (
      not_again past given number (past.latest i) object z h.0,
      comes_again at i given (past.latest i) j number object (λ q. absurd (is_none given number z q)) h.1,
    )
settled_stands past i (Some (Changes (change.InsertRoot new))) (Event (event.Inserted given))
    next tree j number object z h = (not_again past given number (past.roots i) object z h.0, h.1)
settled_stands past i (Some (Changes (change.Insert new))) (Event (event.Found given)) next tree
    j number object z h =
    let g = given.number in
    (h.0, comes_again past i g (past.numbers g) j number object (λ q. ap past.numbers q ∙ h.0) h.1)
settled_stands past i (Some (Changes (change.Claim claim))) (Event (event.Claimed given)) next tree j number
    object z h =
    let g = given.number in
    (h.0, comes_again past i g (past.numbers g) j number object (λ q. ap past.numbers q ∙ h.0) h.1)
settled_stands past i (Some (Changes (change.Resolve given))) (Event (event.Resolved resolved)) next tree j
    number object z h =
    (h.0, comes_again past i given (past.numbers given) j number object (λ q. ap past.numbers q ∙ h.0) h.1)
settled_stands past i (Some (Changes (change.InsertHandle new))) (Event (event.Inserted given)) next
    tree j number object z h = h
settled_stands past i (Some (Calls (call.OpenAt dir name flags mode))) (Host (host.Ok (value.Fd fd))) next tree j
    number object z h = h
settled_stands past i (Some (Calls (call.OpenRoot place flags))) (Host (host.Ok (value.Fd fd))) next tree j number
    object z h = h
settled_stands past i None told next tree j number object z h = h
settled_stands past i (Some _) _ next tree j number object z h = h

-- a number that is live was inserted
pub live_inserted : (limits : List ℕ) (turns : List Turn) (now : Tables) (number : ℕ) →
    TablesRun (empty_tables limits) turns now → IsLive now number → 0 < inserted number turns
live_inserted limits turns now number r l = ⊎_elim
    (λ (z : inserted number turns ≡ 0).
    let none : NoRow now (HasNumber number) = stays_gone number turns (empty_tables limits) now
    (agree_law limits [] (empty_tables limits) refl) refl r z in
    absurd (each_taken (λ row. HasNumber number row → ⊥) l.1.1 none l.2))
    (λ (n : inserted number turns ≢ 0). omega (arith, n))
    (cases_eq (inserted number turns) 0)
