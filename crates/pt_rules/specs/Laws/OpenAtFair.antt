-- Proof. `OpenAt`: what a name leads to is opened, or a new object that is put under it.
use Rattle.std.proofs.Common.{◌≡◌, ◌≢◌, ◌<◌, ◌==◌, ◌&&◌, ◌||◌, inl, inr, ℕ, Bool, true, false, not, cond, List, []}
use Rattle.std.proofs.Common.{◌∷◌, length, Option, Some, None, is_some, Result, Err, option_map, slice_get, refl, ap}
use Rattle.std.proofs.Common.{sym, ◌∙◌, subst, arith}
use Rattle.std.specs.Int.RustNames.{bit_and}
use Rattle.std.proofs.lemmas.Bool.{eqb-true}
use Rattle.std.proofs.lemmas.List.{length-map}
use Rattle.std.proofs.lemmas.Nat.{and_assoc}
use Rattle.std.proofs.lemmas.Option.{same_Some, slice_get_within}
use Rattle.pt_host.specs.Errno.{eexist, einval, enoent}
use Rattle.pt_host.specs.Flags.{includes, o_creat, o_directory, o_excl, o_path, o_tmpfile}
use Rattle.pt_host.specs.LawfulContents.{begun}
use Rattle.pt_host.specs.LawfulTree.{Opens, OpensMade, RefusesName}
use Rattle.pt_host.specs.Tree.{IsOpenOn}
use Rattle.pt_host.specs.declared.flags.OpenFlags.{OpenFlags}
use Rattle.pt_host.specs.declared.ids.Errno.{Errno}
use Rattle.pt_host.specs.declared.ids.Fd.{Fd}
use Rattle.pt_host.specs.declared.seat.HostSeat.{HostSeat}
use Rattle.pt_host.specs.declared.op.KeptHostOp.TheVariants as call
use Rattle.pt_host.specs.declared.reply.HostValue.TheVariants as value
use Rattle.pt_rules.specs.Calls.{checked, name_refusal, open_walked, refused, tells, there_in, with_descriptor}
use Rattle.pt_rules.specs.Edits.{made, with_made}
use Rattle.pt_node.specs.Entries.{changed_at, is_directory_at, touched, with_entry}
use Rattle.pt_rules.specs.Living.{AreLeastFree}
use Rattle.pt_rules.specs.Holds.{HasHold}
use Rattle.pt_rules.specs.NameCalls.{masked}
use Rattle.pt_node.specs.Node.{name_at, object_of}
use Rattle.pt_rules.specs.OpeningCalls.{open_named, create_or_open, created_checks, open_at_name, open_creating}
use Rattle.pt_node.specs.Paths.{led_on}
use Rattle.pt_node.specs.Slots.{open_at}
use Rattle.pt_rules.specs.Sound.{IsSound}
use Rattle.pt_rules.specs.State.{State, contents_where, opened_as, time_of, tree_of}
use Rattle.pt_node.specs.declared.node.Node.{Node}
use Rattle.pt_node.specs.declared.node.Content.TheVariants.{Regular}
use Rattle.pt_node.specs.declared.slots.OpenFile.{OpenFile}
use Rattle.pt_rules.specs.Laws.Cases.{by_other_checks, by_other_name}
use Rattle.pt_rules.specs.Laws.Changed.{led_here, length-changed}
use Rattle.pt_rules.specs.Laws.EditLaws.{makes_object}
use Rattle.pt_rules.specs.Laws.EditShapes.{names_grown}
use Rattle.pt_rules.specs.Laws.EditSound.{sound_makes}
use Rattle.pt_rules.specs.Laws.Fair.{IsFair, fair_refused, stays_same}
use Rattle.pt_rules.specs.Laws.Finding.{find_name, found_name, name_lives, named_is, there_within}
use Rattle.pt_rules.specs.Laws.NameFair.{asked_named, asked_there, changed_other, small_masked, there_at}
use Rattle.pt_rules.specs.Laws.OpenFair.{fair_open_walked, fair_opening, free_fd, new_description, same_description}
use Rattle.pt_rules.specs.Laws.Opens.{errnos_apart, least_free-closed, missing_name, open_there, same_open}
use Rattle.pt_rules.specs.Laws.Opens.{tree-with_descriptor}
use Rattle.pt_rules.specs.Laws.Outcomes.{Makes}
use Rattle.pt_rules.specs.Laws.Soundness.{sound-with_descriptor}
use Rattle.pt_node.specs.Laws.Updates.{get-push_apart, get-push_here}

abbrev failing : Errno → Result (ℕ × Node) Errno
failing errno = Err errno

not_both : (a b : Bool) → a ≡ false → (a && b) ≡ true → ⊥
not_both true b none is = cc
not_both false b none is = cc

not_second : (a b : Bool) → b ≡ false → (a && b) ≡ true → ⊥
not_second true b none is = (let e : true ≡ false = sym is ∙ none in cc)
not_second false b none is = cc

not_false : (b : Bool) → b ≡ true → b ≡ false → ⊥
not_false b is none = (let e : true ≡ false = sym is ∙ none in cc)

neither : (a b : Bool) → (a || b) ≡ false → (a ≡ false) × (b ≡ false)
neither true b is = cc
neither false b is = (refl, is)

-- ---- without `O_CREAT`

module _ (state : State) (seat : HostSeat) (fd : Fd) (name : List ℕ) (flags : OpenFlags) (mode : ℕ)
    (sound : IsSound state)
    (plain : includes flags.0 o_creat ≡ false) where
  missing_refused : (errno : Errno) → find_name state.nodes seat name (open_at state.slots fd.0) ≡ Err errno →
      RefusesName (tree_of state) fd name flags errno
  missing_refused errno led = record {
    missing = λ _ same dir on.
        let held = same_open state fd dir on in
        let e : find_name state.nodes seat name (open_at state.slots fd.0) ≡ Err enoent = led ∙ ap failing same in
        subst (λ (d : ℕ). name_at state.nodes d name ≡ None) held.2
        (missing_name state seat name (open_at state.slots fd.0) sound e held.0 held.1);
    exists = λ new. absurd (not_both (includes flags.0 o_creat) (includes flags.0 o_excl) plain new);
  }

  fair_found : IsFair state (call.OpenAt fd name flags mode)
      (open_walked state seat flags (find_name state.nodes seat name (open_at state.slots fd.0)))
  fair_found =
      fair_open_walked state seat (call.OpenAt fd name flags mode) flags
      (find_name state.nodes seat name (open_at state.slots fd.0)) sound
      (λ errno led. (missing_refused errno led, refl))
      (λ at led. (
        (
          (found_name state.nodes seat name at (open_at state.slots fd.0) led).there,
          name_lives state seat name at (open_at state.slots fd.0) led,
        ),
        record {
          asks = refl;
          refuses = λ errno apart. (
            record {
              missing = λ _ same. absurd (apart same);
              exists = λ new. absurd (not_both (includes flags.0 o_creat) (includes flags.0 o_excl) plain new);
            },
            refl,
          );
          passes = λ new after opens.
              let named = found_name state.nodes seat name at (open_at state.slots fd.0) led in
              inl (
                at.0,
                ap (λ b. b && includes flags.0 o_excl) plain,
                (named.dir.object, open_there state fd named.dir named.held, named.leads),
                opens,
              );
          fits = λ new. tt;
          empties = λ new after o e. inl e;
        },
      ))

  fair_named : IsFair state (call.OpenAt fd name flags mode) (open_named state seat fd name flags)
  fair_named = subst (IsFair state (call.OpenAt fd name flags mode))
      (sym (named_is state seat fd name flags)) fair_found

-- ---- by `O_CREAT`, where the name is not there

-- all bits of `O_TMPFILE` have that of `O_DIRECTORY`
holds_directory : (flags : ℕ) → includes flags o_tmpfile ≡ true → includes flags o_directory ≡ true
holds_directory flags is =
    let whole : bit_and flags o_tmpfile ≡ o_tmpfile = eqb-true (bit_and flags o_tmpfile) o_tmpfile is in
    let part : bit_and flags o_directory ≡ o_directory =
    sym (and_assoc o_directory flags o_tmpfile) ∙ ap (λ n. bit_and n o_directory) whole in
    ap (λ n. n == o_directory) part

no_tmpfile_where : (tmpfile directory path : Bool) → (tmpfile ≡ true → directory ≡ true) → directory ≡ false →
    (tmpfile && not path) ≡ false
no_tmpfile_where true directory path holds none = absurd (not_false directory (holds refl) none)
no_tmpfile_where false directory path holds none = refl

module _ (state : State) (numbers : ℕ → ℕ) (seat : HostSeat) (fd : Fd) (name : List ℕ) (flags : OpenFlags) (mode : ℕ)
    (sound : IsSound state)
    (least : AreLeastFree state numbers) (creates : includes flags.0 o_creat ≡ true) (file : OpenFile) (parent : Node)
    (is : open_at state.slots fd.0 ≡ Some file) (there : slice_get state.nodes file.object
    ≡ Some parent) (asks : name_refusal seat parent name ≡ None)
    (free : there_in parent name ≡ None) (whole : (includes flags.0 o_tmpfile && not (includes flags.0 o_path))
    ≡ false) where
  abbrev new_node : Node
  new_node = made state numbers (masked seat mode) seat.eff_uid seat.eff_gid 0 (Regular []) parent

  abbrev new_place : ℕ
  new_place = length state.nodes

  -- the state with the new object, before it is opened
  abbrev between : State
  between = with_made state file.object name new_node

  abbrev after_making : State
  after_making = with_descriptor between flags new_place

  abbrev entered : List Node
  entered = changed_at file.object (λ dir.
      touched (time_of state) (with_entry name new_place dir)) state.nodes

  length_entered : length entered ≡ new_place
  length_entered = length-changed file.object (λ dir.
      touched (time_of state) (with_entry name new_place dir)) state.nodes

  into : is_directory_at state.nodes file.object ≡ true
  into = asked_there state seat file.object parent name there asks

  abbrev does : Makes state numbers between
  does = record {
    dir = file.object;
    name = name;
    node = new_node;
    parent = parent;
    into = into;
    free = there_at state file.object parent name there ∙ free;
    at_dir = there;
    empty = refl;
    bare = refl;
    serial = refl;
    small = small_masked seat mode;
    good = asked_named seat parent name asks;
    number = refl;
    leaves = refl;
  }

  at_new : slice_get between.nodes new_place ≡ Some new_node
  at_new = ap (slice_get between.nodes) (sym length_entered) ∙ get-push_here entered new_node

  new_lives : HasHold between new_place
  new_lives =
      inr (inl (
        file.object,
        name,
        ap (λ names. names file.object name)
            (names_grown (time_of state) file.object name new_node state.nodes into refl)
            ∙ led_here file.object name (Some new_place) (name_at state.nodes),
      ))

  others_stay : (o : ℕ) → o < new_place → (o ≡ file.object → ⊥) →
      slice_get after_making.nodes o ≡ slice_get state.nodes o
  others_stay o within apart =
      get-push_apart entered new_node o (λ e. let long = length_entered in absurd (omega (arith, e, within, long)))
      ∙ changed_other file.object _ state.nodes o apart

  on_directory : IsOpenOn (tree_of state) fd file.object
  on_directory = open_there state fd file is

  kept_elsewhere : (o : ℕ) → o < length (tree_of state).objects →
      ((includes flags.0 o_creat ≡ true) × IsOpenOn (tree_of state) fd o → ⊥) →
      contents_where (slice_get after_making.nodes o) ≡ contents_where (slice_get state.nodes o)
  kept_elsewhere o within none =
      ap contents_where (others_stay o (subst (λ n. o < n) (length-map state.nodes object_of) within)
      (λ e. none (creates, subst (IsOpenOn (tree_of state) fd) (sym e) on_directory)))

  opens_new : Opens (tree_of between) new_place flags (free_fd state) (tree_of after_making)
  opens_new = record {
    listed = subst (λ n. new_place
        < n) (sym (length-map between.nodes object_of)) (slice_get_within between.nodes new_place new_node at_new);
    fresh = ap (option_map opened_as) (least_free-closed state.slots);
    allowed = whole;
    adds = tree-with_descriptor between flags new_place;
  }

  opens_made : OpensMade (tree_of state) fd name flags (free_fd state) (tree_of after_making)
  opens_made = (
    tree_of between,
    creates,
    (file.object, on_directory, makes_object state numbers between does),
    subst (λ n. Opens (tree_of between) n flags (free_fd state) (tree_of after_making))
        (sym (length-map state.nodes object_of)) opens_new,
  )

  fair_made : IsFair state (call.OpenAt fd name flags mode) (tells after_making (value.Fd (free_fd state)))
  fair_made = record {
    sound = λ few. sound-with_descriptor between seat flags new_place new_node
        (sound_makes state numbers between sound least few does) at_new new_lives;
    changes = inr opens_made;
    contents = record {
      objects = λ o within none. stays_same _ _ (kept_elsewhere o within (λ on. none (inr on)));
      openings = λ asked_flags o asked within none. kept_elsewhere o within (λ on. none (inr on));
      emptied = λ asked_flags o asked makes. absurd (makes creates);
      positions = λ k open_still none.
          ap (λ d. d.position) (same_description between seat flags new_place new_node k open_still);
      accesses = λ k open_still.
          ap (λ d. d.access) (same_description between seat flags new_place new_node k open_still);
      begins = λ asked_flags new asked told.
          new_description between seat flags new_place new_node new told ∙ ap begun (same_Some flags asked_flags asked);
    };
    allowed = λ faults. tt;
    faults = refl;
    fails = tt;
  }

-- ---- by `O_CREAT`

module _ (state : State) (numbers : ℕ → ℕ) (seat : HostSeat) (fd : Fd) (name : List ℕ) (flags : OpenFlags) (mode : ℕ)
    (sound : IsSound state)
    (least : AreLeastFree state numbers) (creates : includes flags.0 o_creat ≡ true) where
  other_refused : (errno : Errno) → errno ≢ eexist → IsFair state (call.OpenAt fd name flags mode) (refused state errno)
  other_refused errno apart =
      fair_refused state (call.OpenAt fd name flags mode) errno sound (
        record {
          missing = λ plain. absurd (not_false (includes flags.0 o_creat) creates plain);
          exists = λ new same. absurd (apart same);
        },
        refl,
      )

  -- the name is there
  exists_refused : (file : OpenFile) (dir : Node) (object : ℕ) → open_at state.slots fd.0 ≡ Some file →
      slice_get state.nodes file.object ≡ Some dir →
      there_in dir name ≡ Some object → IsFair state (call.OpenAt fd name flags mode) (refused state eexist)
  exists_refused file dir object is there held =
      fair_refused state (call.OpenAt fd name flags mode) eexist sound (
        record {
          missing = λ plain. absurd (not_false (includes flags.0 o_creat) creates plain);
          exists = λ new same at on.
              let opened = same_open state fd at on in
              let same_file : file ≡ opened.0 = same_Some file opened.0 (sym is ∙ opened.1) in
              let place : file.object ≡ at = ap (λ (f : OpenFile). f.object) same_file ∙ opened.2 in (
                object,
                ap (λ d. name_at state.nodes d name) (sym place) ∙ there_at state file.object dir name there
                    ∙ held,
              );
        },
        refl,
      )

  -- what is there is opened
  fair_existing : (file : OpenFile) (dir : Node) (object : ℕ) → open_at state.slots fd.0 ≡ Some file →
      slice_get state.nodes file.object ≡ Some dir →
      there_in dir name ≡ Some object → includes flags.0 o_excl ≡ false →
      IsFair state (call.OpenAt fd name flags mode)
      (create_or_open state numbers seat flags mode file.object dir name (led_on state.nodes (Some object)))
  fair_existing file dir object is there held shared =
      let leads = there_at state file.object dir name there ∙ held in
      let at = there_within state.nodes object (sound.named file.object name object leads) in
      subst (λ (led : Option (ℕ × Node)).
      IsFair state (call.OpenAt fd name flags mode)
      (create_or_open state numbers seat flags mode file.object dir name led))
      (sym (ap (option_map (λ (n : Node). (object, n))) at.1))
      (fair_opening state seat (call.OpenAt fd name flags mode) flags object at.0 sound at.1
      (inr (inl (file.object, name, leads))) (record {
        asks = refl;
        refuses = λ errno apart. (
          record {
            missing = λ plain. absurd (not_false (includes flags.0 o_creat) creates plain);
            exists = λ new. absurd (not_second (includes flags.0 o_creat) (includes flags.0 o_excl) shared new);
          },
          refl,
        );
        passes = λ new after opens.
            inl (
              object,
              ap (λ b. b && includes flags.0 o_excl) creates
                  ∙ shared,
              (file.object, open_there state fd file is, leads),
              opens,
            );
        fits = λ new. tt;
        empties = λ new after o e. inl e;
      }))

  fair_new_file : (file : OpenFile) (dir : Node) → open_at state.slots fd.0 ≡ Some file →
      slice_get state.nodes file.object ≡ Some dir →
      name_refusal seat dir name ≡ None → there_in dir name ≡ None → includes flags.0 o_directory ≡ false →
      IsFair state (call.OpenAt fd name flags mode)
      (create_or_open state numbers seat flags mode file.object dir name None)
  fair_new_file file dir is there asks free none =
      by_other_checks state (IsFair state (call.OpenAt fd name flags mode)) eexist other_refused
      (created_checks seat dir flags.0) _
      (errnos_apart 13 17 refl, (errnos_apart 22 17 refl, tt))
      (λ _. fair_made state numbers seat fd name flags mode sound least creates file dir is there asks free
      (no_tmpfile_where (includes flags.0 o_tmpfile) (includes flags.0 o_directory) (includes flags.0 o_path)
      (holds_directory flags.0) none))

  creates_or_opens : (file : OpenFile) (dir : Node) → open_at state.slots fd.0 ≡ Some file →
      slice_get state.nodes file.object ≡ Some dir →
      name_refusal seat dir name ≡ None → (held : Option ℕ) → there_in dir name ≡ held → (misfits excludes : Bool) →
      (includes flags.0 o_path || includes flags.0 o_directory) ≡ misfits → includes flags.0 o_excl ≡ excludes →
      IsFair state (call.OpenAt fd name flags mode)
      (checked state ((misfits, einval) ∷ (is_some held && excludes, eexist)
      ∷ []) (create_or_open state numbers seat flags mode file.object dir name (led_on state.nodes held)))
  creates_or_opens file dir is there asks held at true excludes misfits shares =
      other_refused einval (errnos_apart 22 17 refl)
  creates_or_opens file dir is there asks (Some object) at false true misfits shares =
      exists_refused file dir object is there at
  creates_or_opens file dir is there asks (Some object) at false false misfits shares =
      fair_existing file dir object is there at shares
  creates_or_opens file dir is there asks None at false excludes misfits shares =
      fair_new_file file dir is there asks at
      (neither (includes flags.0 o_path) (includes flags.0 o_directory) misfits).1

  fair_creating : IsFair state (call.OpenAt fd name flags mode) (open_creating state numbers seat fd name flags mode)
  fair_creating =
      by_other_name state (IsFair state (call.OpenAt fd name flags mode)) eexist other_refused seat fd name _
      (errnos_apart 9 17 refl)
      (λ dir. (errnos_apart 20 17 refl, (errnos_apart 36 17 refl, (errnos_apart 13 17 refl, tt))))
      (λ file dir is there asks. creates_or_opens file dir is there asks (there_in dir name) refl
      (includes flags.0 o_path || includes flags.0 o_directory) (includes flags.0 o_excl) refl refl)

module _ (state : State) (numbers : ℕ → ℕ) (seat : HostSeat) (fd : Fd) (name : List ℕ) (flags : OpenFlags) (mode : ℕ)
    (sound : IsSound state)
    (least : AreLeastFree state numbers) where
  fair_where : (creates : Bool) → includes flags.0 o_creat ≡ creates →
      IsFair state (call.OpenAt fd name flags mode)
      (cond creates (open_creating state numbers seat fd name flags mode)
      (open_named state seat fd name flags))
  fair_where true is = fair_creating state numbers seat fd name flags mode sound least is
  fair_where false is = fair_named state seat fd name flags mode sound is

  pub fair_open_at : IsFair state (call.OpenAt fd name flags mode) (open_at_name state numbers seat fd name flags mode)
  fair_open_at = fair_where (includes flags.0 o_creat) refl
