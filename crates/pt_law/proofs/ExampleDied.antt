-- A row that died while it is pinned keeps its object: none has a descriptor that is open on another. And what is
-- opened anew by a number that was resolved is what the number stood for then, also where it stands for another by now.
use Rattle.std.proofs.Common.{◌≡◌, ℕ, List, [], ◌∷◌, ◌++◌, true, false, Option, Some, refl, ap, subst, arith}
use Rattle.pt_host.specs.Tree.{IsOpenOn}
use Rattle.pt_host.specs.declared.ids.Fd.{Fd}
use Rattle.pt_host.specs.declared.ids.ObjIds.{ObjIds}
use Rattle.pt_tables.specs.declared.event.KeptEvent.TheVariants as change
use Rattle.pt_tables.specs.declared.form.RowForm.TheVariants.{File}
use Rattle.pt_tables.specs.declared.row.Row.{Row}
use Rattle.pt_tables.specs.declared.reply.Resolved.{Resolved}
use Rattle.pt_frame.specs.Deed.{Changes, Deed, Step}
use Rattle.pt_law.specs.Laws.{HasObject, ObjectOf}
use Rattle.pt_law.specs.Reopened.{resolving}
use Rattle.pt_law.specs.Reopened.{OpensResolved}
use Rattle.pt_law.specs.World.{World}
use Rattle.pt_law.proofs.Knowing.{one_object}

abbrev asked_in : Option Deed → ℕ
asked_in (Some (Changes (change.Resolve number))) = number
asked_in deed = 0

module _ (world : World) (kept new : Fd) (ids : ObjIds) (mode : ℕ) where
  -- it was inserted for number 1, which was forgotten under a request that has it pinned
  abbrev died : Row
  died = record {
    serial = 7;
    number = 1;
    form = File kept;
    ids = ids;
    mode = mode;
    class = 0;
    count = 0;
    pins = 1;
    live = false;
  }

  -- of rows that are live nothing would be said of it
  pub is_not_live : died.live ≡ true → ⊥
  is_not_live e = cc

  pub is_of_another : world.past.objects 7 ≡ Some 0 → IsOpenOn world.tree kept 1 → HasObject world died → ⊥
  is_of_another inserted on has =
      let same : has.object ≡ 0 = (let its = has.its in cc) in
      let own = subst (λ object. IsOpenOn world.tree kept object) same has.open_on in
      let no : 0 ≡ 1 = one_object world.tree kept 0 1 own on in
      absurd (omega (arith, no))

  pub is_of_its_own : world.past.objects 7 ≡ Some 0 → IsOpenOn world.tree kept 0 → HasObject world died
  is_of_its_own inserted on =
      record { object = 0; its = inserted; open_on = on; of_number = λ live. absurd (is_not_live live) }

  abbrev its_row : Resolved
  its_row = record { row = 7; form = File kept; ids = ids; mode = mode; class = 0 }

  -- a job resolved it
  abbrev steps : List Step
  steps = resolving 1 its_row ∷ []

  only_one : (before between : List Step) (number : ℕ) (row : Resolved) →
      steps ≡ before ++ resolving number row ∷ between → number ≡ 1
  only_one [] between number row e =
      let same : resolving number row ≡ resolving 1 its_row = cc in
      ap (λ (step : Step). asked_in step.deed) same
  only_one (step ∷ []) between number row e = absurd (cc)
  only_one (step ∷ other ∷ before) between number row e = absurd (cc)

  pub opens_another : (job : ℕ) → world.past.resolved job 1 ≡ Some 0 → IsOpenOn world.tree new 1 →
      OpensResolved world job steps new → ⊥
  opens_another job stood on opens =
      let one = only_one opens.before opens.between opens.number opens.row opens.resolved in
      let was = subst (λ number. world.past.resolved job number ≡ Some opens.object) one opens.stood_for in
      let same : opens.object ≡ 0 = cc in
      let own = subst (λ object. IsOpenOn world.tree new object) same opens.open_on in
      let no : 0 ≡ 1 = one_object world.tree new 0 1 own on in
      absurd (omega (arith, no))

  -- number 1 was inserted anew since, for object 1
  pub opens_what_it_was : (job : ℕ) → world.past.resolved job 1 ≡ Some 0 → ObjectOf world 1 1 →
      IsOpenOn world.tree new 0 → OpensResolved world job steps new
  opens_what_it_was job stood since on = record {
    number = 1;
    row = its_row;
    before = [];
    between = [];
    resolved = refl;
    came_last = tt;
    object = 0;
    stood_for = stood;
    open_on = on;
  }
