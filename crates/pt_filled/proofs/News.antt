-- Proof. What the table makes where an object is made.
use Rattle.std.specs.Prelude.{if◌then◌else◌}
use Rattle.std.proofs.Common.{◌≡◌, ◌≢◌, ◌<◌, inl, inr, ℕ, ◌==◌, ◌||◌, List, [], ◌∷◌, ◌++◌, length, Bool, Option, Some}
use Rattle.std.proofs.Common.{None, refl, sym, ap, subst, ◌∙◌, arith, cond, eqb, slice_get, option_map}
use Rattle.std.proofs.lemmas.Bool.Decides.{eqb_tells}
use Rattle.std.proofs.lemmas.List.{length-map}
use Rattle.std.proofs.lemmas.Option.{slice_get_within, same_Some}
use Rattle.pt_host.specs.Contents.{ObjectContents}
use Rattle.pt_host.specs.Tree.{Object}
use Rattle.pt_host.specs.declared.ids.Errno.{Errno}
use Rattle.pt_host.specs.declared.ids.Fd.{Fd}
use Rattle.pt_host.specs.declared.ids.Time.{Time}
use Rattle.pt_host.specs.declared.reply.HostValue.{HostValue}
use Rattle.pt_host.specs.declared.seat.HostSeat.{HostSeat}
use Rattle.pt_host.specs.declared.op.KeptHostOp.TheVariants as call
use Rattle.pt_host.specs.declared.reply.HostReply.TheVariants as host
use Rattle.pt_frame.specs.Deed.{Calls}
use Rattle.pt_frame.specs.declared.act.ActReply.TheVariants.{Host}
use Rattle.pt_law.specs.World.{made}
use Rattle.pt_law.specs.Under.{Identity, identity_of}
use Rattle.pt_law.proofs.Lists.{set_at_same, set_at_other}
use Rattle.pt_node.specs.Entries.{changed_at, touched, with_entry, with_name}
use Rattle.pt_node.specs.Node.{bytes_in, kind_number, object_of}
use Rattle.pt_node.specs.Laws.Updates.{get-push_here, get-push_apart}
use Rattle.pt_node.specs.declared.node.Node.{Node}
use Rattle.pt_node.specs.declared.node.Content.{Content}
use Rattle.pt_node.specs.declared.node.Content.TheVariants.{Directory, Regular, Link, Special}
use Rattle.pt_node.specs.declared.node.SpecialKind.{SpecialKind}
use Rattle.pt_node.specs.declared.node.SpecialKind.TheVariants.{Pipe, CharDevice, BlockDevice, Socket}
use Rattle.pt_rules.specs.Calls.{Answered, checked, refused}
use Rattle.pt_rules.specs.Edits.{made as made_node, with_made}
use Rattle.pt_rules.specs.NameCalls.{make_checks, make_dir, make_in_dir, make_node, make_of_kind, make_symlink}
use Rattle.pt_rules.specs.NameCalls.{masked, node_checks, symlink_checks, kind_bits, content_of_kind, special_kind}
use Rattle.pt_rules.specs.State.{State, contents_where, time_of}
use Rattle.pt_rules.specs.Laws.Cases.{by_name, by_checks}
use Rattle.pt_rules.specs.Laws.Changed.{get-changed, length-changed}
use Rattle.pt_plain.proofs.Making.{making_call, What}
use Rattle.pt_filled.specs.Contents.{IsSame, with_changed}
use Rattle.pt_filled.specs.New.{fresh, permitted, node_kind}
use Rattle.pt_filled.proofs.Hosting.{Full, Thread, Steps, Alters, Keeps, Respects, contents_at, objects_at, same_on}
use Rattle.pt_filled.proofs.Tables.{tabled, object_is, ok_not_refused}
use Rattle.pt_filled.proofs.Effects.{same_parts}

-- an object was made and stands last; all others stay
pub record HasMade (w on : Full) (kind : ℕ) (is : ObjectContents) : Type 0 where
  pub same : (object : ℕ) → object < length (objects_at w) → IsSame (contents_at w object) (contents_at on object)
  pub what : Object
  pub is_what : slice_get (objects_at on) (length (objects_at w)) ≡ Some what
  pub is_kind : what.kind ≡ kind
  pub new : IsSame is (contents_at on (length (objects_at w)))

-- what comes behind leaves it
pub made_then : (w mid on : Full) (kind : ℕ) (is : ObjectContents) → HasMade w mid kind is → Keeps mid on →
    HasMade w on kind is
made_then w mid on kind is m k =
    let within = slice_get_within (objects_at mid) (length (objects_at w)) m.what m.is_what in record {
      same = λ object l. same_on (contents_at w object) (contents_at mid object) (contents_at on object) (m.same
          object l)
          (k.same object (omega (arith, l, within)));
      what = m.what;
      is_what = ap (λ (o : List Object). slice_get o (length (objects_at w))) k.objects ∙ m.is_what;
      is_kind = m.is_kind;
      new = same_on is _ _ m.new (k.same (length (objects_at w)) within);
    }

-- it is changed behind that
pub made_changed : (w mid on : Full) (kind : ℕ) (is : ObjectContents) (change : ObjectContents → ObjectContents) →
    Respects change → HasMade w mid kind is →
    Alters mid on (with_changed (length (objects_at w)) change (contents_at mid)) → HasMade w on kind (change is)
made_changed w mid on kind is change r m a =
    let n = length (objects_at w) in
    let within = slice_get_within (objects_at mid) n m.what m.is_what in record {
      same = λ object l. same_on (contents_at w object) (contents_at mid object) (contents_at on object) (m.same
          object l)
          (subst (λ (c : ObjectContents). IsSame c (contents_at on object))
          (set_at_other (contents_at mid) n (change (contents_at mid n)) object (λ e. (absurd (omega (arith, l, e)))))
          (a.same object (omega (arith, l, within))));
      what = m.what;
      is_what = ap (λ (o : List Object). slice_get o n) a.objects ∙ m.is_what;
      is_kind = m.is_kind;
      new = same_on (change is) (change (contents_at mid n)) (contents_at on n) (r is (contents_at mid n) m.new)
          (subst (λ (c : ObjectContents). IsSame c (contents_at on n))
          (set_at_same (contents_at mid) n (change (contents_at mid n))) (a.same n within));
    }

-- what comes before
pub made_from : (w mid on : Full) (kind : ℕ) (is : ObjectContents) → Keeps w mid → HasMade mid on kind is →
    HasMade w on kind is
made_from w mid on kind is k m =
    let n = sym (ap (length {A = Object}) k.objects) in record {
      same = λ object l. same_on (contents_at w object) (contents_at mid object) (contents_at on object) (k.same
          object l)
          (m.same object (omega (arith, l, n)));
      what = m.what;
      is_what = ap (slice_get (objects_at on)) n ∙ m.is_what;
      is_kind = m.is_kind;
      new = subst (λ (z : ℕ). IsSame is (contents_at on z)) (sym n) m.new;
    }

-- ---- the table

pub record MakeOk (s : State) (numbers : ℕ → ℕ) (permissions uid gid rdev : ℕ) (content : Content) (after : State)
    : Type 0 where
  pub dir : ℕ
  pub name : List ℕ
  pub parent : Node
  pub leaves : after ≡ with_made s dir name (made_node s numbers permissions uid gid rdev content parent)

pub bytes_named : (name : List ℕ) (object : ℕ) (content : Content) → bytes_in (with_name name object content) ≡
    bytes_in content
bytes_named name object (Directory names) = refl
bytes_named name object (Regular bytes) = refl
bytes_named name object (Link target) = refl
bytes_named name object (Special kind) = refl

pub parent_same : (now : Time) (name : List ℕ) (object : ℕ) (node : Node) →
    IsSame (contents_where (Some node)) (contents_where (Some (touched now (with_entry name object node))))
parent_same now name object node =
    same_parts (contents_where (Some node)) (contents_where (Some (touched now (with_entry name object node))))
    (bytes_named name object node.content) refl refl refl refl refl

grown_same : (now : Time) (dir : ℕ) (name : List ℕ) (nodes : List Node) (node : Node) (object : ℕ) →
    object < length nodes → IsSame (contents_where (slice_get nodes object))
    (contents_where (slice_get (changed_at dir (λ (p : Node). touched now (with_entry name (length nodes) p)) nodes
    ++ node ∷ []) object))
grown_same now dir name nodes node object l =
    subst (λ (n : Option Node). IsSame (contents_where (slice_get nodes object)) (contents_where n))
    (sym (get-push_apart (changed_at dir f nodes) node object apart ∙ get-changed dir f nodes object)) here
  where
    f : Node → Node
    f p = touched now (with_entry name (length nodes) p)

    apart : object ≢ length (changed_at dir f nodes)
    apart e = let n = length-changed dir f nodes in absurd (omega (arith, l, e, n))

    at : (there : Option Node) → IsSame (contents_where there) (contents_where (option_map f there))
    at None = refl
    at (Some p) = parent_same now name (length nodes) p

    here : IsSame (contents_where (slice_get nodes object))
        (contents_where (cond (eqb object dir) (option_map f (slice_get nodes dir)) (slice_get nodes object)))
    here = elim (eqb_tells object dir) [
      | inl same ↦ subst (λ (p : Bool × Option Node). IsSame (contents_where p.1)
          (contents_where (cond p.0 (option_map f (slice_get nodes dir)) (slice_get nodes object))))
          (λ i. (sym same.0 i, ap (slice_get nodes) (sym same.1) i)) (at (slice_get nodes dir))
      | inr other ↦ subst (λ (b : Bool). IsSame (contents_where (slice_get nodes object))
          (contents_where (cond b (option_map f (slice_get nodes dir)) (slice_get nodes object)))) (sym other.0) refl
    ]

pub has_made : (w on : Full) (numbers : ℕ → ℕ) (seat : HostSeat) (permissions rdev : ℕ) (content : Content) (after :
    State) →
    on.state.nodes ≡ after.nodes → MakeOk w.state numbers permissions seat.eff_uid seat.eff_gid rdev content after →
    HasMade w on (kind_number content) (fresh (identity_of seat) permissions rdev (bytes_in content))
has_made w on numbers seat permissions rdev content after e m = record {
  same = λ object l. subst (λ (n : List Node). IsSame (contents_at w object) (contents_where (slice_get n object)))
      (sym nodes) (grown_same (time_of w.state) m.dir m.name w.state.nodes node object (omega (arith, l, long)));
  what = object_of node;
  is_what = ap (slice_get (objects_at on)) long ∙ object_is on.state (length w.state.nodes) node last;
  is_kind = refl;
  new = subst (λ (o : Option Node). IsSame (fresh (identity_of seat) permissions rdev (bytes_in content))
      (contents_where o)) (sym (ap (slice_get on.state.nodes) long ∙ last)) refl;
}
  where
    node : Node
    node = made_node w.state numbers permissions seat.eff_uid seat.eff_gid rdev content m.parent

    f : Node → Node
    f p = touched (time_of w.state) (with_entry m.name (length w.state.nodes) p)

    long : length (objects_at w) ≡ length w.state.nodes
    long = length-map w.state.nodes object_of

    nodes : on.state.nodes ≡ changed_at m.dir f w.state.nodes ++ node ∷ []
    nodes = e ∙ ap (λ (s : State). s.nodes) m.leaves

    last : slice_get on.state.nodes (length w.state.nodes) ≡ Some node
    last = ap (λ (n : List Node). slice_get n (length w.state.nodes)) nodes
        ∙ ap (slice_get (changed_at m.dir f w.state.nodes ++ node ∷ []))
        (sym (length-changed m.dir f w.state.nodes))
        ∙ get-push_here (changed_at m.dir f w.state.nodes) node

module _ (s : State) (numbers : ℕ → ℕ) (seat : HostSeat) (told : HostValue) (after : State) where
  abbrev Goal : ℕ → ℕ → Content → Answered → Type 0
  Goal permissions rdev content a =
      (host.Ok told, after) ≡ a → MakeOk s numbers permissions seat.eff_uid seat.eff_gid rdev content after

  made_so : (dir : ℕ) (name : List ℕ) (permissions rdev : ℕ) (content : Content) (parent : Node) →
      Goal permissions rdev content (make_in_dir s numbers seat dir name permissions rdev content parent)
  made_so dir name permissions rdev content parent e =
      record { dir = dir; name = name; parent = parent; leaves = ap (λ (a : Answered). a.1) e }

  refuses : (permissions rdev : ℕ) (content : Content) (errno : Errno) → Goal permissions rdev content (refused s errno)
  refuses permissions rdev content errno e =
      absurd (ok_not_refused told errno (ap (λ (a : Answered). a.0) e))

  dir_ok : (fd : Fd) (name : List ℕ) (mode : ℕ) →
      Goal (masked seat mode) 0 (Directory []) (make_dir s numbers seat fd name mode)
  dir_ok fd name mode =
      by_name s (Goal (masked seat mode) 0 (Directory [])) (refuses (masked seat mode) 0 (Directory [])) seat fd name
      (λ dir parent. checked s (make_checks seat parent name)
      (make_in_dir s numbers seat dir name (masked seat mode) 0 (Directory []) parent))
      (λ at dir is there none.
      by_checks s (Goal (masked seat mode) 0 (Directory [])) (refuses (masked seat mode) 0 (Directory []))
      (make_checks seat dir name)
      (make_in_dir s numbers seat at.object name (masked seat mode) 0 (Directory []) dir)
      (λ passes. made_so at.object name (masked seat mode) 0 (Directory []) dir))

  link_ok : (fd : Fd) (name target : List ℕ) → Goal 511 0 (Link target) (make_symlink s numbers seat fd name target)
  link_ok fd name target =
      by_name s (Goal 511 0 (Link target)) (refuses 511 0 (Link target)) seat fd name
      (λ dir parent. checked s (symlink_checks seat parent name target)
      (make_in_dir s numbers seat dir name 511 0 (Link target) parent))
      (λ at dir is there none.
      by_checks s (Goal 511 0 (Link target)) (refuses 511 0 (Link target)) (symlink_checks seat dir name target)
      (make_in_dir s numbers seat at.object name 511 0 (Link target) dir)
      (λ passes. made_so at.object name 511 0 (Link target) dir))

  -- a node of some kind
  abbrev NodeGoal : ℕ → ℕ → Option Content → Answered → Type 0
  NodeGoal permissions rdev content a = (host.Ok told, after) ≡ a →
      (is : Content) × (content ≡ Some is) × MakeOk s numbers permissions seat.eff_uid seat.eff_gid rdev is after

  node_refuses : (permissions rdev : ℕ) (content : Option Content) (errno : Errno) →
      NodeGoal permissions rdev content (refused s errno)
  node_refuses permissions rdev content errno e =
      absurd (ok_not_refused told errno (ap (λ (a : Answered). a.0) e))

  of_kind : (dir : ℕ) (name : List ℕ) (permissions rdev : ℕ) (content : Option Content) (parent : Node) →
      NodeGoal permissions rdev content (make_of_kind s numbers seat dir name permissions rdev content parent)
  of_kind dir name permissions rdev None parent e =
      absurd (ok_not_refused told _ (ap (λ (a : Answered). a.0) e))
  of_kind dir name permissions rdev (Some content) parent e =
      (content, refl, made_so dir name permissions rdev content parent e)

  node_ok : (fd : Fd) (name : List ℕ) (mode rdev : ℕ) →
      NodeGoal (masked seat mode) rdev (content_of_kind (kind_bits mode)) (make_node s numbers seat fd name mode rdev)
  node_ok fd name mode rdev =
      let kind = content_of_kind (kind_bits mode) in
      by_name s (NodeGoal (masked seat mode) rdev kind) (node_refuses (masked seat mode) rdev kind) seat fd name
      (λ dir parent. checked s (node_checks seat parent name (kind_bits mode))
      (make_of_kind s numbers seat dir name (masked seat mode) rdev kind parent))
      (λ at dir is there none.
      by_checks s (NodeGoal (masked seat mode) rdev kind) (node_refuses (masked seat mode) rdev kind)
      (node_checks seat dir name (kind_bits mode))
      (make_of_kind s numbers seat at.object name (masked seat mode) rdev kind dir)
      (λ passes. of_kind at.object name (masked seat mode) rdev kind dir))

-- the kinds of nodes
kind_of_bits : (kind : ℕ) (is : Content) → content_of_kind kind ≡ Some is →
    (kind_number is ≡ (if kind == 0 then 8 else kind)) × (bytes_in is ≡ [])
kind_of_bits kind is e = elim (eqb_tells kind 0) [
  | inl zero ↦ (
    ap kind_number (regular (ap (λ b. cond (b || (kind == 8)) (Some (Regular [])) (option_map Special (special_kind
        kind)))
        (sym zero.0) ∙ e)) ∙ ap (λ b. cond b 8 kind) (sym zero.0),
    ap bytes_in (regular (ap (λ b. cond (b || (kind == 8)) (Some (Regular [])) (option_map Special (special_kind kind)))
        (sym zero.0) ∙ e)),
  )
  | inr more ↦ (let k = not_zero (ap (λ b. cond (b || (kind == 8)) (Some (Regular []))
      (option_map Special (special_kind kind))) (sym more.0) ∙ e) in
      (k.0 ∙ ap (λ b. cond b 8 kind) (sym more.0), k.1))
]
  where
    regular : Some (Regular []) ≡ Some is → is ≡ Regular []
    regular e = sym (same_Some (Regular []) is e)

    special : (there : Option SpecialKind) → special_kind kind ≡ there → option_map Special there ≡ Some is →
        (kind_number is ≡ kind) × (bytes_in is ≡ [])
    special None s e = absurd (cc)
    special (Some one) s e = (
      ap kind_number (sym (same_Some (Special one) is e)) ∙ numbered one s,
      ap bytes_in (sym (same_Some (Special one) is e)),
    )
      where
        numbered : (one : SpecialKind) → special_kind kind ≡ Some one → kind_number (Special one) ≡ kind
        numbered one s = elim (eqb_tells kind 1) [
          | inl a ↦ ap kind_of_special (same_Some one Pipe (sym s ∙ ap (λ b. cond b (Some Pipe) (rest1)) a.0)) ∙ sym a.1
          | inr a ↦ elim (eqb_tells kind 2) [
            | inl b ↦ ap kind_of_special (same_Some one CharDevice (sym s ∙ ap (λ z. cond z (Some Pipe) rest1) a.0
                ∙ ap (λ z. cond z (Some CharDevice) rest2) b.0)) ∙ sym b.1
            | inr b ↦ elim (eqb_tells kind 6) [
              | inl d ↦ ap kind_of_special (same_Some one BlockDevice (sym s ∙ ap (λ z. cond z (Some Pipe) rest1) a.0
                  ∙ ap (λ z. cond z (Some CharDevice) rest2) b.0 ∙ ap (λ z. cond z (Some BlockDevice) rest3) d.0)) ∙
                  sym d.1
              | inr d ↦ elim (eqb_tells kind 12) [
                | inl f ↦ ap kind_of_special (same_Some one Socket (sym s ∙ ap (λ z. cond z (Some Pipe) rest1) a.0
                    ∙ ap (λ z. cond z (Some CharDevice) rest2) b.0 ∙ ap (λ z. cond z (Some BlockDevice) rest3) d.0
                    ∙ ap (λ z. cond z (Some Socket) None) f.0)) ∙ sym f.1
                | inr f ↦ absurd (let x : None ≡ Some one = sym (ap (λ z. cond z (Some Pipe) rest1) a.0
                    ∙ ap (λ z. cond z (Some CharDevice) rest2) b.0 ∙ ap (λ z. cond z (Some BlockDevice) rest3) d.0
                    ∙ ap (λ z. cond z (Some Socket) None) f.0) ∙ s in cc)
              ]
            ]
          ]
        ]
          where
            kind_of_special : SpecialKind → ℕ
            kind_of_special one = kind_number (Special one)

            rest3 : Option SpecialKind
            rest3 = cond (kind == 12) (Some Socket) None

            rest2 : Option SpecialKind
            rest2 = cond (kind == 6) (Some BlockDevice) rest3

            rest1 : Option SpecialKind
            rest1 = cond (kind == 2) (Some CharDevice) rest2

    not_zero : cond (kind == 8) (Some (Regular [])) (option_map Special (special_kind kind)) ≡ Some is →
        (kind_number is ≡ kind) × (bytes_in is ≡ [])
    not_zero e = elim (eqb_tells kind 8) [
      | inl file ↦ (
        ap kind_number (regular (ap (λ b. cond b (Some (Regular [])) (option_map Special (special_kind kind)))
            (sym file.0) ∙ e)) ∙ sym file.1,
        ap bytes_in (regular (ap (λ b. cond b (Some (Regular [])) (option_map Special (special_kind kind)))
            (sym file.0) ∙ e)),
      )
      | inr other ↦ special (special_kind kind) refl
          (ap (λ b. cond b (Some (Regular [])) (option_map Special (special_kind kind))) (sym other.0) ∙ e)
    ]

-- ---- the three making calls

abbrev pub new_kind : What → ℕ
new_kind (What.Directory mode) = 4
new_kind (What.Node mode rdev) = node_kind mode
new_kind (What.Link target) = 10

abbrev pub new_mode : Identity → What → ℕ
new_mode by (What.Directory mode) = permitted by mode
new_mode by (What.Node mode rdev) = permitted by mode
new_mode by (What.Link target) = 511

abbrev pub new_rdev : What → ℕ
new_rdev (What.Directory mode) = 0
new_rdev (What.Node mode rdev) = rdev
new_rdev (What.Link target) = 0

abbrev pub new_bytes : What → List ℕ
new_bytes (What.Directory mode) = []
new_bytes (What.Node mode rdev) = []
new_bytes (What.Link target) = target

abbrev pub new_contents : Identity → What → ObjectContents
new_contents by what = fresh by (new_mode by what) (new_rdev what) (new_bytes what)

abbrev pub MadeAs : Full → Full → Identity → What → Type 0
MadeAs w on by what = HasMade w on (new_kind what) (new_contents by what)

pub was_made : (j : Thread) (w on : Full) (what : What) (dir : Fd) (name : List ℕ) (told : HostValue) →
    Steps j w (made (Calls (making_call what dir name)) (Host (host.Ok told))) on →
    MadeAs w on (identity_of w.seat) what
was_made j w on (What.Directory mode) dir name told s =
    let t = tabled w.state w.seat (call.MakeDir dir name mode) told on.state on.seat refl s.made.0 in
    has_made w on t.numbers w.seat (masked w.seat mode) 0 (Directory []) t.after t.nodes
    (dir_ok w.state t.numbers w.seat told t.after dir name mode t.answered)
was_made j w on (What.Link target) dir name told s =
    let t = tabled w.state w.seat (call.SymLink dir name target) told on.state on.seat refl s.made.0 in
    has_made w on t.numbers w.seat 511 0 (Link target) t.after t.nodes
    (link_ok w.state t.numbers w.seat told t.after dir name target t.answered)
was_made j w on (What.Node mode rdev) dir name told s =
    let t = tabled w.state w.seat (call.MakeNode dir name mode rdev) told on.state on.seat refl s.made.0 in
    let m = node_ok w.state t.numbers w.seat told t.after dir name mode rdev t.answered in
    let k = kind_of_bits (kind_bits mode) m.0 m.1 in
    subst (λ (p : ℕ × List ℕ). HasMade w on p.0 (fresh (identity_of w.seat) (masked w.seat mode) rdev p.1))
    (λ i. (k.0 i, k.1 i))
    (has_made w on t.numbers w.seat (masked w.seat mode) rdev m.0 t.after t.nodes m.2)
