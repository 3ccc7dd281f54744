-- Proof. `lookup` and `link`.
use Rattle.std.proofs.Common.{inl, inr, ◌≡◌, ◌≢◌, ℕ, List, None, refl, sym, ap, subst, ◌∙◌, arith}
use Rattle.pt_host.specs.Call.{Call}
use Rattle.pt_host.specs.declared.ids.Fd.{Fd}
use Rattle.pt_host.specs.declared.op.KeptHostOp.TheVariants as call
use Rattle.pt_host.specs.declared.reply.HostReply.TheVariants as host
use Rattle.pt_iface.specs.declared.answer.Answer.{Answer}
use Rattle.pt_iface.specs.declared.request.Context.{Context}
use Rattle.pt_iface.specs.declared.request.Request.{Request}
use Rattle.pt_iface.specs.declared.entry.Entry.{Entry}
use Rattle.pt_iface.specs.declared.answer.Answer.TheVariants as answer
use Rattle.pt_iface.specs.declared.request.Request.TheVariants as request
use Rattle.pt_frame.specs.Deed.{Calls}
use Rattle.pt_frame.specs.Tree.{Gives, RequestTree}
use Rattle.pt_frame.specs.declared.act.ActReply.{ActReply}
use Rattle.pt_frame.specs.declared.act.ActReply.TheVariants.{Event, Host, NoCopy}
use Rattle.pt_req.specs.Steps.{begin, ok_in}
use Rattle.pt_req.specs.Parts.{look_up}
use Rattle.pt_req.specs.Requests.{lookup}
use Rattle.pt_req.specs.declared.begun.BegunSession.{BegunSession}
use Rattle.pt_req.specs.declared.plan.Plan.{Plan}
use Rattle.pt_req.specs.declared.parts.looked.Looked.{Looked}
use Rattle.pt_attr.specs.Requests.{link}
use Rattle.pt_law.proofs.Givings.{live_count}
use Rattle.pt_plain.specs.Plain.{PlainTree, Gives as GivesNumber}
use Rattle.pt_plain.specs.Serves.{MakesEntry, Serves}
use Rattle.pt_plain.proofs.Stilling.{IsStill}
use Rattle.pt_plain.proofs.Showing.{bare_tree}
use Rattle.pt_filled.specs.Fills.{Fills}
use Rattle.pt_filled.proofs.Filling.{Between, filled, IsFilledBy, refused_fills, stay}
use Rattle.pt_filled.proofs.Hosting.{Full, Keeps, Thread, world_of}
use Rattle.pt_filled.proofs.Parts.{At, Calm, IsRefused, comes_at, idles_calm, keeps_on, refused_from, walk_begin}
use Rattle.pt_filled.proofs.Parts.{calm_on, walk_do, walk_files, walk_named, tree_throughout}
use Rattle.pt_filled.proofs.Threading.{Comes}
use Rattle.pt_filled.proofs.Looking.{IsLooked, told_entry, walk_look_up}
use Rattle.pt_filled.proofs.Moving.{was_linked}
use Rattle.pt_filled.proofs.Tails.{leaving_look_up}

-- what is agreed on stays where a number is given
pub gives_agreed : (state : PlainTree) (object number : ℕ) (after : PlainTree) → GivesNumber state object number after →
    after.agreed ≡ state.agreed
gives_agreed state object number after (inl k) = ap (λ (s : PlainTree). s.agreed) k.2
gives_agreed state object number after (inr k) = ap (λ (s : PlainTree). s.agreed) k.2

pub entry_agreed : (state : PlainTree) (parent : ℕ) (name : List ℕ) (number : ℕ) (after : PlainTree) →
    MakesEntry state parent name number after → after.agreed ≡ state.agreed
entry_agreed state parent name number after k = gives_agreed _ k.2.2.0 number after k.2.2.2

-- names stay as the lookup found them
pub looked_tree : (j : Thread) (plan : Plan) (session : BegunSession) (parent : ℕ) (name : List ℕ) (w : Full)
    (last : Answer) (w' : Full) →
    At j (look_up plan session parent name (λ looked. Gives (answer.Entry looked.entry))) w last w' →
    bare_tree (world_of w').tree ≡ bare_tree (world_of w).tree
looked_tree j plan session parent name w last w' c =
    tree_throughout j (look_up plan session parent name ends) w last w'
    (leaving_look_up plan session parent name ends (λ looked. record { by = tt })).by (comes_at c)
  where
    ends : Looked → RequestTree
    ends looked = Gives (answer.Entry looked.entry)

module _ (plan : Plan) (who : Context) (j : Thread) (w : Full) (last : Answer) (w' : Full) (state after : PlainTree)
    (g : Between w w' state after) (n : last ≢ answer.NoMemory) where
  pub fills_lookup : (parent : ℕ) (name : List ℕ) → Serves plan (request.Lookup parent name) state last after →
      At j (begin (lookup plan parent name)) w last w' →
      IsFilledBy plan j.seat who (request.Lookup parent name) state w last after w'
  fills_lookup parent name v c =
      walk_begin j _ w last w' n c out (λ session b q z k.
      walk_named j name _ b last w' k (λ r. out (refused_from w b last w' q.keeps r)) (λ k.
      let tree = looked_tree j plan session parent name b last w' k in
      walk_look_up j plan session parent name _ b last w' n k (λ r. out (refused_from w b last w' q.keeps r))
      (λ looked told d l ids k. answered session b d looked.entry q z l tree (comes_at k))))
    where
      asked : Request
      asked = request.Lookup parent name

      out : IsRefused w last w' → IsFilledBy plan j.seat who asked state w last after w'
      out = refused_fills plan j.seat who asked w w' state after last g.shows (λ k. k)

      answered : (session : BegunSession) (b d : Full) (entry : Entry) → Calm w b → session.agreed ≡
          w.tables.negotiated →
          IsLooked plan session.agreed b d parent name entry →
          bare_tree (world_of w').tree ≡ bare_tree (world_of b).tree → Comes j (Gives (answer.Entry entry)) d last w' →
          IsFilledBy plan j.seat who asked state w last after w'
      answered session b d entry q z l tree k =
          let later = (idles_calm j d w' k.1).keeps in
          let served = subst (λ (x : Answer). Serves plan asked state x after) k.0 v in
          let agreed = gives_agreed state served.2.0 entry.inode after served.2.2 ∙ g.shows.agreed ∙ sym z in
          subst (λ (x : Answer). Fills plan j.seat who asked (filled state w) x (filled after w')) (sym k.0) (
            stay w w' state after g.shows (keeps_on w b w' q.keeps (keeps_on b d w' l.keeps later)),
            told_entry plan w w' state after session.agreed parent name entry g.shows g.ends agreed (record {
              e = b;
              calm = q;
              g = b;
              on = d;
              numbers = refl;
              falls = λ n. omega arith;
              looked = l;
              tree = tree;
              later = later;
            }),
          )

  pub fills_link : (inode newparent : ℕ) (newname : List ℕ) →
      Serves plan (request.Link inode newparent newname) state last after →
      At j (begin (link plan inode newparent newname)) w last w' →
      IsFilledBy plan j.seat who (request.Link inode newparent newname) state w last after w'
  fills_link inode newparent newname v c =
      walk_begin j _ w last w' n c out (λ session b q z k.
      walk_named j newname _ b last w' k (λ r. out (refused_from w b last w' q.keeps r)) (λ k.
      walk_files j inode newparent _ b last w' n k (λ r. out (refused_from w b last w' q.keeps r)) (λ from to d qd k.
      let q' = calm_on w b d q qd in
      walk_do j (makes from to) _ d last w' n (still from to) k (λ r. out (refused_from w d last w' q'.keeps r))
      (λ told e m k.
      let kept = keeps_on w d e q'.keeps (was_linked j d e from to newname told m) in
      let tree = looked_tree j plan session newparent newname e last w' k in
      walk_look_up j plan session newparent newname _ e last w' n k (λ r. out (refused_from w e last w' kept r))
      (λ looked seen f l ids k. answered session d e f looked.entry q' kept z
      (ap (λ p. p.numbers) m.2.goes.past) m.2.goes.made.1 l tree (comes_at k))))))
    where
      asked : Request
      asked = request.Link inode newparent newname

      makes : Fd → Fd → Call
      makes from to = call.MakeLink from to newname

      still : (from to : Fd) (told : ActReply) → ok_in told ≡ None → IsStill (Calls (makes from to)) told
      still from to (Host (host.Ok told)) e = absurd (cc)
      still from to (Host (host.Refused errno)) e = tt
      still from to (Host (host.Fault errno)) e = tt
      still from to (Host host.NoMemory) e = tt
      still from to (Event told) e = tt
      still from to NoCopy e = tt

      out : IsRefused w last w' → IsFilledBy plan j.seat who asked state w last after w'
      out = refused_fills plan j.seat who asked w w' state after last g.shows (λ k. k)

      answered : (session : BegunSession) (d e f : Full) (entry : Entry) → Calm w d → Keeps w e →
          session.agreed ≡ w.tables.negotiated → e.past.numbers ≡ d.past.numbers → e.tables ≡ d.tables →
          IsLooked plan session.agreed e f newparent newname entry →
          bare_tree (world_of w').tree ≡ bare_tree (world_of e).tree → Comes j (Gives (answer.Entry entry)) f last w' →
          IsFilledBy plan j.seat who asked state w last after w'
      answered session d e f entry q kept z numbers tables l tree k =
          let later = (idles_calm j f w' k.1).keeps in
          let served = subst (λ (x : Answer). Serves plan asked state x after) k.0 v in
          let agreed = gives_agreed _ served.2.2.2.0 entry.inode after served.2.2.2.2 ∙ g.shows.agreed ∙ sym z in
          subst (λ (x : Answer). Fills plan j.seat who asked (filled state w) x (filled after w')) (sym k.0) (
            stay w w' state after g.shows (keeps_on w e w' kept (keeps_on e f w' l.keeps later)),
            told_entry plan w w' state after session.agreed newparent newname entry g.shows g.ends agreed (record {
              e = d;
              calm = q;
              g = e;
              on = f;
              numbers = numbers;
              falls = λ n. (let x = ap (live_count n) tables in omega (arith, x));
              looked = l;
              tree = tree;
              later = later;
            }),
          )
