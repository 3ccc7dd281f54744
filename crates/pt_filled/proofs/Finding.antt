-- Proof. The object of a number or a handle, found in the middle of a job: it is that of the plain file system.
use Rattle.std.proofs.Common.{◌≡◌, ◌≢◌, ◌<◌, ℕ, length, sym, ap, subst, ◌∙◌}
use Rattle.pt_host.specs.Tree.{Tree, Object, IsOpenOn}
use Rattle.pt_host.specs.declared.ids.Fd.{Fd}
use Rattle.pt_tables.specs.declared.reply.Resolved.{Resolved}
use Rattle.pt_iface.specs.declared.answer.Answer.{Answer}
use Rattle.pt_iface.specs.declared.answer.Answer.TheVariants as answer
use Rattle.pt_frame.specs.Tree.{RequestTree}
use Rattle.pt_req.specs.Parts.{file_of}
use Rattle.pt_req.specs.Steps.{pin_handle, resolve}
use Rattle.pt_attr.specs.Parts.{file_by}
use Rattle.pt_law.specs.World.{fd_of}
use Rattle.pt_rules.specs.Sound.{IsSound}
use Rattle.pt_plain.specs.Plain.{PlainTree, Stands, handled_as}
use Rattle.pt_plain.proofs.Showing.{Shows}
use Rattle.pt_filled.specs.Contents.{IsSame}
use Rattle.pt_filled.proofs.Descriptors.{access_in}
use Rattle.pt_filled.proofs.Handling.{accesses_at}
use Rattle.pt_filled.proofs.Filling.{handle_from, open_within, stands_from}
use Rattle.pt_filled.proofs.Hosting.{Full, Thread, world_of, contents_at}
use Rattle.pt_filled.proofs.Parts.{At, Calm, calm_on, IsPinned, IsRefused, IsResolved, refused_from, walk_file}
use Rattle.pt_filled.proofs.Parts.{walk_pin, walk_resolve}

-- the number stands for the object, on which the descriptor is open
pub record Found (w d : Full) (state : PlainTree) (number : ℕ) (fd : Fd) : Type 0 where
  pub calm : Calm w d
  pub object : ℕ
  pub stands : Stands state number object
  pub open_on : IsOpenOn (world_of d).tree fd object

-- the handle is open on the object, and so is the descriptor
pub record Held (w d : Full) (state : PlainTree) (handle number : ℕ) (fd : Fd) : Type 0 where
  pub calm : Calm w d
  pub object : ℕ
  pub held : state.handles handle ≡ handled_as number object
  pub open_on : IsOpenOn (world_of d).tree fd object
  pub lends : accesses_at w handle ≡ access_in d.state fd

-- what the object of a descriptor is in the middle of a job that left contents
pub same_at : (w d : Full) (fd : Fd) (object : ℕ) → Calm w d → IsSound d.state → IsOpenOn (world_of d).tree fd object →
    IsSame (contents_at w object) (contents_at d object)
same_at w d fd object q l o =
    q.keeps.same object (subst (λ (n : ℕ). object < n) (ap (length {A = Object}) q.keeps.objects)
    (open_within d fd object l o))

pub resolved_found : (j : Thread) (w b d : Full) (state : PlainTree) (number : ℕ) (row : Resolved) →
    Shows (world_of w) state → Calm w b → IsResolved j b d number row → Found w d state number (fd_of row.form)
resolved_found j w b d state number row s q r = record {
  calm = calm_on w b d q r.calm;
  object = r.there.object;
  stands = stands_from w b state number r.there.object s q.quiet r.there.is_object r.there.live;
  open_on = subst (λ (t : Tree). IsOpenOn t (fd_of row.form) r.there.object) (sym r.there.tree) r.there.open_on;
}

pub pinned_held : (w b d : Full) (state : PlainTree) (handle number : ℕ) (fd : Fd) → Shows (world_of w) state →
    Calm w b → IsPinned b d handle number fd → Held w d state handle number fd
pinned_held w b d state handle number fd s q r = record {
  calm = calm_on w b d q r.calm;
  object = r.object;
  held = handle_from w b state handle number r.object s q.quiet r.was;
  open_on = subst (λ (t : Tree). IsOpenOn t fd r.object) (sym r.tree) r.open_on;
  lends = sym (q.lent handle).1 ∙ r.lends;
}

module _ {G : Type 0} (j : Thread) (w : Full) (last : Answer) (w' : Full) (state : PlainTree)
    (s : Shows (world_of w) state) (n : last ≢ answer.NoMemory) (out : IsRefused w last w' → G) where
  pub walk_found : (number : ℕ) (next : Resolved → RequestTree) (b : Full) → Calm w b →
      At j (resolve number next) b last w' →
      ((row : Resolved) (d : Full) → Found w d state number (fd_of row.form) → At j (next row) d last w' → G) → G
  walk_found number next b q c goes =
      walk_resolve j number next b last w' n c (λ r. out (refused_from w b last w' q.keeps r)) (λ row d r k.
      goes row d (resolved_found j w b d state number row s q r) k)

  pub walk_by : (number : ℕ) (next : Fd → RequestTree) (b : Full) → Calm w b → At j (file_by number next) b last w' →
      ((fd : Fd) (d : Full) → Found w d state number fd → At j (next fd) d last w' → G) → G
  walk_by number next b q c goes =
      walk_found number (λ row. file_of row.form next) b q c (λ row d f k.
      walk_file j row.form next d last w' k (goes (fd_of row.form) d f))

  pub walk_held : (handle number : ℕ) (next : Fd → RequestTree) (b : Full) → Calm w b →
      At j (pin_handle handle number next) b last w' →
      ((fd : Fd) (d : Full) → Held w d state handle number fd → At j (next fd) d last w' → G) → G
  walk_held handle number next b q c goes =
      walk_pin j handle number next b last w' n c (λ r. out (refused_from w b last w' q.keeps r)) (λ fd d r k.
      goes fd d (pinned_held w b d state handle number fd s q r) k)
