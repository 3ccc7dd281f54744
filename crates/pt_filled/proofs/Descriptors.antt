-- Proof. What open descriptors may be used for, from call to call of the tree host.
use Rattle.std.proofs.Common.{◌≡◌, ◌≢◌, ◌⊎◌, inl, inr, ℕ, Option, Some, None, refl, sym, ap, subst, ◌∙◌, ⊎_elim, bit_and}
use Rattle.std.proofs.Common.{option_map}
use Rattle.std.proofs.lemmas.Bool.{cases_eq}
use Rattle.pt_host.specs.Call.{Call}
use Rattle.pt_host.specs.Contents.{Description}
use Rattle.pt_host.specs.Flags.{includes, o_path}
use Rattle.pt_host.specs.LawfulContents.{StaysOpen}
use Rattle.pt_host.specs.LawfulTree.{TreeChanges, closed_at}
use Rattle.pt_host.specs.Sorts.{Sort, OpensWith, EndsFd, OfSeat, Plain, sort_of, flags_of}
use Rattle.pt_host.specs.Tree.{Tree, Opened}
use Rattle.pt_host.specs.declared.flags.OpenFlags.{OpenFlags}
use Rattle.pt_host.specs.declared.ids.Fd.{Fd}
use Rattle.pt_host.specs.declared.reply.HostReply.{HostReply}
use Rattle.pt_host.specs.declared.reply.HostReply.TheVariants as host
use Rattle.pt_host.specs.declared.reply.HostValue.TheVariants as value
use Rattle.pt_host.specs.declared.seat.HostSeat.{HostSeat}
use Rattle.pt_law.proofs.Growing.{IsQuiet, OpensSome, call_grows, closing_does, opening_does}
use Rattle.pt_law.proofs.Lists.{set_at_same, set_at_other}
use Rattle.pt_node.specs.Slots.{open_at}
use Rattle.pt_node.specs.declared.slots.OpenFile.{OpenFile}
use Rattle.pt_rules.specs.Beside.{LeavesBeside}
use Rattle.pt_rules.specs.Does.{Does}
use Rattle.pt_rules.specs.State.{State, contents_of, description_where, opened_as, tree_of}
use Rattle.pt_rules.specs.Laws.Lawful.{does_lawful_tree, does_leave_beside}

abbrev pub access_in : State → Fd → ℕ
access_in s fd = ((contents_of s).descriptions fd.0).access

-- what is not open is for nothing
pub closed_access : (s : State) (fd : Fd) → (tree_of s).opened fd.0 ≡ None → access_in s fd ≡ 0
closed_access s fd e = go (open_at s.slots fd.0) refl
  where
    go : (file : Option OpenFile) → open_at s.slots fd.0 ≡ file → access_in s fd ≡ 0
    go None o = ap (λ (f : Option OpenFile). (description_where f).access) o
    go (Some file) o = absurd (let x = sym (ap (option_map opened_as) o) ∙ e in cc)

-- an open file's access is by its flags
pub file_access : (s : State) (fd : Fd) (file : OpenFile) → open_at s.slots fd.0 ≡ Some file →
    access_in s fd ≡ bit_and file.flags.0 3
file_access s fd file o = ap (λ (f : Option OpenFile). (description_where f).access) o

abbrev pub IsOpenAs : State → Fd → Opened → Type 0
IsOpenAs s fd opened = (tree_of s).opened fd.0 ≡ Some opened

-- it stays open, for what it was opened for
abbrev pub GoesOn : State → State → Fd → Opened → Type 0
GoesOn s on fd opened = IsOpenAs on fd opened × (access_in on fd ≡ access_in s fd)

-- as all do that are open
abbrev pub KeepsFds : State → State → Type 0
KeepsFds s on = (fd : Fd) (opened : Opened) → IsOpenAs s fd opened → GoesOn s on fd opened

pub fds_none : (s on : State) → on ≡ s → KeepsFds s on
fds_none s on e = subst (λ (z : State). KeepsFds s z) (sym e) (λ fd opened o. (o, refl))

pub fds_on : (s mid on : State) → KeepsFds s mid → KeepsFds mid on → KeepsFds s on
fds_on s mid on a b fd opened o =
    let x = a fd opened o in let y = b fd opened x.0 in (y.0, y.1 ∙ x.1)

-- what is open was so before, for the same
abbrev pub HadFds : State → State → Type 0
HadFds s on = (fd : Fd) (opened : Opened) → IsOpenAs on fd opened →
    IsOpenAs s fd opened × (access_in on fd ≡ access_in s fd)

pub had_none : (s on : State) → on ≡ s → HadFds s on
had_none s on e = subst (λ (z : State). HadFds s z) (sym e) (λ fd opened o. (o, refl))

pub had_on : (s mid on : State) → HadFds s mid → HadFds mid on → HadFds s on
had_on s mid on a b fd opened o =
    let y = b fd opened o in let x = a fd opened y.0 in (x.0, y.1 ∙ x.1)

-- what is open on both sides is so for the same
abbrev pub LeavesFds : State → State → Type 0
LeavesFds s on = (fd : Fd) (one other : Opened) → IsOpenAs s fd one → IsOpenAs on fd other →
    access_in on fd ≡ access_in s fd

pub fds_leave : (s mid on : State) → KeepsFds s mid → HadFds mid on → LeavesFds s on
fds_leave s mid on k h fd one other before behind = (h fd other behind).1 ∙ (k fd one before).1

-- the call was an opening, and answered by this descriptor
abbrev pub OpensFd : Call → HostReply → Fd → Type 0
OpensFd asked told fd = (flags : OpenFlags) × (sort_of asked ≡ OpensWith flags) × (told ≡ host.Ok (value.Fd fd))

module _ (s : State) (seat : HostSeat) (asked : Call) (told : HostReply) (on : State) (seat' : HostSeat)
    (d : Does s seat asked told on seat') where
  stays_for : (fd : Fd) → StaysOpen (tree_of s) (tree_of on) fd.0 → access_in on fd ≡ access_in s fd
  stays_for fd o = go told (does_leave_beside s seat asked told on seat' d)
    where
      go : (told : HostReply) →
          LeavesBeside (tree_of s) (contents_of s) asked told (tree_of on) (contents_of on) →
          access_in on fd ≡ access_in s fd
      go (host.Ok told) k = k.accesses fd.0 o
      go (host.Refused errno) k = ap (λ (x : Description). x.access) (k.descriptions fd.0 o)
      go (host.Fault errno) k = ap (λ (x : Description). x.access) (k.descriptions fd.0 o)
      go host.NoMemory k = ap (λ (x : Description). x.access) (k.descriptions fd.0 o)

  changes : TreeChanges (tree_of s) asked told (tree_of on)
  changes = (does_lawful_tree s seat asked told on seat' d).changes

  -- what is open behind the call was so before, or was opened
  pub open_before : (fd : Fd) (opened : Opened) → IsOpenAs on fd opened →
      (IsOpenAs s fd opened × (access_in on fd ≡ access_in s fd)) ⊎ OpensFd asked told fd
  open_before fd opened o = go (sort_of asked) refl
    where
      Goal : Type 0
      Goal = (IsOpenAs s fd opened × (access_in on fd ≡ access_in s fd)) ⊎ OpensFd asked told fd

      was : IsOpenAs s fd opened → Goal
      was e = inl (e, stays_for fd (opened, e, o))

      quiet : IsQuiet (sort_of asked) told → Goal
      quiet q = was (sym (ap (λ (f : ℕ → Option Opened). f fd.0)
          (call_grows (tree_of s) asked told (tree_of on) changes q).same_open) ∙ o)

      opens : (flags : OpenFlags) (new : Fd) → sort_of asked ≡ OpensWith flags → told ≡ host.Ok (value.Fd new) →
          OpensSome (tree_of s) flags new (tree_of on) → Goal
      opens flags new e t k =
          let now : Opened = record { object = k.1; path_only = includes flags.0 o_path } in
          ⊎_elim
          (λ (q : fd.0 ≡ new.0). inr (flags, e, t ∙ ap (λ (n : ℕ). host.Ok (value.Fd (record { 0 = n }))) (sym q)))
          (λ (q : fd.0 ≢ new.0). was (ap (λ (f : ℕ → Option Opened). f fd.0) (sym k.2)
          ∙ sym (set_at_other k.0.opened new.0 (Some now) fd.0 q)
          ∙ sym (ap (λ (t : Tree). t.opened fd.0) k.3.adds) ∙ o))
          (cases_eq fd.0 new.0)

      closes : (gone : Fd) → tree_of on ≡ closed_at (tree_of s) gone → Goal
      closes gone e =
          let now = sym (ap (λ (t : Tree). t.opened fd.0) e) ∙ o in
          ⊎_elim
          (λ (q : fd.0 ≡ gone.0). absurd (let x = sym (ap (set_at_in gone) q
          ∙ set_at_same (tree_of s).opened gone.0 None) ∙ now in cc))
          (λ (q : fd.0 ≢ gone.0). was (sym (set_at_other (tree_of s).opened gone.0 None fd.0 q) ∙ now))
          (cases_eq fd.0 gone.0)
        where
          set_at_in : Fd → ℕ → Option Opened
          set_at_in gone f = (closed_at (tree_of s) gone).opened f

      opened_so : (flags : OpenFlags) (t : HostReply) → told ≡ t → sort_of asked ≡ OpensWith flags → Goal
      opened_so flags (host.Ok (value.Fd new)) t e =
          opens flags new e t (opening_does (tree_of s) asked flags new (tree_of on) e
          (subst (λ (r : HostReply). TreeChanges (tree_of s) asked r (tree_of on)) t changes))
      opened_so flags (host.Ok other) t e =
          quiet (subst (λ (p : Sort × HostReply). IsQuiet p.0 p.1) (λ i. (sym e i, sym t i)) tt)
      opened_so flags (host.Refused errno) t e =
          quiet (subst (λ (p : Sort × HostReply). IsQuiet p.0 p.1) (λ i. (sym e i, sym t i)) tt)
      opened_so flags (host.Fault errno) t e =
          quiet (subst (λ (p : Sort × HostReply). IsQuiet p.0 p.1) (λ i. (sym e i, sym t i)) tt)
      opened_so flags host.NoMemory t e =
          quiet (subst (λ (p : Sort × HostReply). IsQuiet p.0 p.1) (λ i. (sym e i, sym t i)) tt)

      go : (sort : Sort) → sort_of asked ≡ sort → Goal
      go (OpensWith flags) e = opened_so flags told refl e
      go (EndsFd gone) e = closes gone (closing_does (tree_of s) asked gone told (tree_of on) e changes)
      go OfSeat e = quiet (subst (λ (x : Sort). IsQuiet x told) (sym e) tt)
      go Plain e = quiet (subst (λ (x : Sort). IsQuiet x told) (sym e) tt)

  -- what is opened was not open
  pub was_free : (fd : Fd) → OpensFd asked told fd → (tree_of s).opened fd.0 ≡ None
  was_free fd (flags, e, t) =
      let k = opening_does (tree_of s) asked flags fd (tree_of on) e
      (subst (λ (r : HostReply). TreeChanges (tree_of s) asked r (tree_of on)) t changes) in
      sym (ap (λ (f : ℕ → Option Opened). f fd.0) k.2) ∙ k.3.fresh

  -- it is open, for what its flags ask
  pub opened_as_asked : (fd : Fd) (flags : OpenFlags) → sort_of asked ≡ OpensWith flags →
      told ≡ host.Ok (value.Fd fd) →
      ((opened : Opened) × IsOpenAs on fd opened) × (access_in on fd ≡ bit_and flags.0 3)
  opened_as_asked fd flags e t =
      let k = opening_does (tree_of s) asked flags fd (tree_of on) e
      (subst (λ (r : HostReply). TreeChanges (tree_of s) asked r (tree_of on)) t changes) in
      let now : Opened = record { object = k.1; path_only = includes flags.0 o_path } in
      let left = subst (λ (r : HostReply).
      LeavesBeside (tree_of s) (contents_of s) asked r (tree_of on) (contents_of on)) t
      (does_leave_beside s seat asked told on seat' d) in (
        (now, ap (λ (t : Tree). t.opened fd.0) k.3.adds ∙ set_at_same k.0.opened fd.0 (Some now)),
        ap (λ (x : Description). x.access) (left.begins flags fd (ap flags_of e) refl),
      )

  -- what is open on both sides of the call may be used as it was
  pub open_as_was : (fd : Fd) (one other : Opened) → IsOpenAs s fd one → IsOpenAs on fd other →
      access_in on fd ≡ access_in s fd
  open_as_was fd one other before after = elim (open_before fd other after) [
    | inl same ↦ same.1
    | inr new ↦ absurd (let x = sym (was_free fd new) ∙ before in cc)
  ]

  -- only a closing ends a descriptor
  pub fds_call : ((fd : Fd) → sort_of asked ≡ EndsFd fd → ⊥) → KeepsFds s on
  fds_call none fd opened o = go (sort_of asked) refl
    where
      now : IsOpenAs on fd opened → GoesOn s on fd opened
      now e = (e, stays_for fd (opened, o, e))

      quiet : IsQuiet (sort_of asked) told → GoesOn s on fd opened
      quiet q = now (ap (λ (f : ℕ → Option Opened). f fd.0)
          (call_grows (tree_of s) asked told (tree_of on) changes q).same_open ∙ o)

      opened_so : (flags : OpenFlags) (t : HostReply) → told ≡ t → sort_of asked ≡ OpensWith flags →
          GoesOn s on fd opened
      opened_so flags (host.Ok (value.Fd new)) t e =
          let k = opening_does (tree_of s) asked flags new (tree_of on) e
          (subst (λ (r : HostReply). TreeChanges (tree_of s) asked r (tree_of on)) t changes) in
          let it : Opened = record { object = k.1; path_only = includes flags.0 o_path } in
          let free = was_free new (flags, e, t) in
          now (ap (λ (t : Tree). t.opened fd.0) k.3.adds
          ∙ set_at_other k.0.opened new.0 (Some it) fd.0
          (λ q. absurd (let x = sym o ∙ ap (tree_of s).opened q ∙ free in cc))
          ∙ ap (λ (f : ℕ → Option Opened). f fd.0) k.2 ∙ o)
      opened_so flags (host.Ok other) t e =
          quiet (subst (λ (p : Sort × HostReply). IsQuiet p.0 p.1) (λ i. (sym e i, sym t i)) tt)
      opened_so flags (host.Refused errno) t e =
          quiet (subst (λ (p : Sort × HostReply). IsQuiet p.0 p.1) (λ i. (sym e i, sym t i)) tt)
      opened_so flags (host.Fault errno) t e =
          quiet (subst (λ (p : Sort × HostReply). IsQuiet p.0 p.1) (λ i. (sym e i, sym t i)) tt)
      opened_so flags host.NoMemory t e =
          quiet (subst (λ (p : Sort × HostReply). IsQuiet p.0 p.1) (λ i. (sym e i, sym t i)) tt)

      go : (sort : Sort) → sort_of asked ≡ sort → GoesOn s on fd opened
      go (OpensWith flags) e = opened_so flags told refl e
      go (EndsFd gone) e = absurd (none gone e)
      go OfSeat e = quiet (subst (λ (x : Sort). IsQuiet x told) (sym e) tt)
      go Plain e = quiet (subst (λ (x : Sort). IsQuiet x told) (sym e) tt)
