-- Proof. How many links an object has, by the names of the plain file system.
use Rattle.std.specs.List.{IsDistinct, range_with_len}
use Rattle.std.specs.Map.{keys_of, values_of}
use Rattle.std.specs.Str.{bytes_eq}
use Rattle.std.proofs.Common.{◌≡◌, ℕ, suc, zero, ◌+◌, ◌==◌, Bool, cond, List, [], ◌∷◌, length, Option, Some}
use Rattle.std.proofs.Common.{None, option_and_then, option_map, slice_get, is_some, count_by, sum_by, min, refl, sym, ap, subst}
use Rattle.std.proofs.Common.{◌∙◌, arith}
use Rattle.std.proofs.lemmas.Cmp.{nat_list_eq_equiv}
use Rattle.std.proofs.lemmas.List.{length-map}
use Rattle.std.proofs.lemmas.List.Sums.{sum_by-cons}
use Rattle.std.proofs.lemmas.Map.Entries.{lookup_from_place}
use Rattle.std.proofs.lemmas.Map.Made.{is_some-lookup}
use Rattle.std.proofs.lemmas.Option.{slice_get-map}
use Rattle.pt_host.specs.Words.{is}
use Rattle.pt_node.specs.Entries.{is_directory_where, is_directory_at}
use Rattle.pt_node.specs.Limits.{links_max}
use Rattle.pt_node.specs.Links.{links_by as node_links_by, links_of, names_of, names_to}
use Rattle.pt_node.specs.Names.{found}
use Rattle.pt_node.specs.Node.{holds_names, is_directory, kind_number, names_in, object_of}
use Rattle.pt_node.specs.declared.node.Content.{Content}
use Rattle.pt_node.specs.declared.node.Content.TheVariants.{Directory, Regular, Link, Special}
use Rattle.pt_node.specs.declared.node.Node.{Node}
use Rattle.pt_node.specs.declared.node.SpecialKind.TheVariants.{Pipe, CharDevice, BlockDevice, Socket}
use Rattle.pt_rules.specs.Laws.NameTable.{distinct}
use Rattle.pt_rules.specs.Sound.{AreOrdered, IsSound}
use Rattle.pt_rules.specs.State.{State, tree_of}
use Rattle.pt_filled.specs.Told.{AreAll, AreNames, is_of_directory, leads_to, leads_to_directory, links_by, links_in}

-- the names of what stands at a place
abbrev names_where : Option Node → List (List ℕ)
names_where None = []
names_where (Some node) = keys_of (names_in node.content)

abbrev pub names_listed : State → ℕ → List (List ℕ)
names_listed s dir = names_where (slice_get s.nodes dir)

-- the names of a directory, each of which leads somewhere
abbrev entry_where : List ℕ → Option Node → Option ℕ
entry_where name = option_and_then (λ node. found name (names_in node.content))

listed_where : (there : Option Node) →
    ((node : Node) → there ≡ Some node → IsDistinct bytes_eq (keys_of (names_in node.content))) →
    AreAll (λ name. is_some (entry_where name there)) (names_where there)
unfolding IsDistinct
listed_where None d = (tt, λ name. refl)
listed_where (Some node) d =
    (d node refl, λ name. sym (is_some-lookup (bytes_eq name) (names_in node.content)))

pub are_listed : (s : State) → IsSound s → AreNames (tree_of s) (names_listed s)
are_listed s l dir =
    listed_where (slice_get s.nodes dir) (λ node e. distinct (names_in node.content) (l.made dir node e).ordered)

-- what passes, by names and by what they lead to
counted : (test : Option ℕ → Bool) (weighs : ℕ → ℕ) → ((x : ℕ) → weighs x ≡ cond (test (Some x)) 1 0) →
    (all more : List (List ℕ × ℕ)) →
    ((i : ℕ) (entry : List ℕ × ℕ) → slice_get more i ≡ Some entry → found entry.0 all ≡ Some entry.1) →
    count_by (λ name. test (found name all)) (keys_of more) ≡ sum_by weighs (values_of more)
counted test weighs k all [] h = refl
counted test weighs k all (entry ∷ more) h =
    let rest : ℕ = count_by (λ name. test (found name all)) (keys_of more) in
    sum_by-cons (λ name. cond (test (found name all)) 1 0) entry.0 (keys_of more)
    ∙ ap (λ (o : Option ℕ). cond (test o) 1 0 + rest) (h zero entry refl)
    ∙ ap (λ (n : ℕ). n + rest) (sym (k entry.1))
    ∙ ap (λ (n : ℕ). weighs entry.1 + n) (counted test weighs k all more (λ i e q. h (suc i) e q))
    ∙ sym (sum_by-cons weighs entry.1 (values_of more))

leads : (names : List (List ℕ × ℕ)) → IsDistinct bytes_eq (keys_of names) → (i : ℕ) (entry : List ℕ × ℕ) →
    slice_get names i ≡ Some entry → found entry.0 names ≡ Some entry.1
leads names d i entry e = lookup_from_place nat_list_eq_equiv names i entry.0 entry.1 d e

-- by places, and by what stands there
ranged : (by_place : ℕ → ℕ) (weighs : Node → ℕ) (from : ℕ) (nodes : List Node) →
    ((i : ℕ) (node : Node) → slice_get nodes i ≡ Some node → by_place (from + i) ≡ weighs node) →
    sum_by by_place (range_with_len from (length nodes)) ≡ sum_by weighs nodes
ranged by_place weighs from [] h = refl
ranged by_place weighs from (node ∷ more) h =
    let rest : ℕ = sum_by by_place (range_with_len (from + 1) (length more)) in
    let here : from ≡ from + 0 = omega arith in
    sum_by-cons by_place from (range_with_len (from + 1) (length more))
    ∙ ap (λ (n : ℕ). n + rest) (ap by_place here ∙ h zero node refl)
    ∙ ap (λ (n : ℕ). weighs node + n) (ranged by_place weighs (from + 1) more (λ i n e.
    (let next : from + 1 + i ≡ from + suc i = omega arith in ap by_place next ∙ h (suc i) n e)))
    ∙ sym (sum_by-cons weighs node more)

weighs_one : (object x : ℕ) → ◌≡◌ {A = ℕ} (is object x) (cond (object == x) 1 0)
unfolding is
weighs_one object x = refl

directory_kinds : (node : Node) → is_directory node ≡ (kind_number node.content == 4)
directory_kinds node = by_content node.content
  where
    by_content : (content : Content) → holds_names content ≡ (kind_number content == 4)
    by_content (Directory names) = refl
    by_content (Regular bytes) = refl
    by_content (Link target) = refl
    by_content (Special Pipe) = refl
    by_content (Special CharDevice) = refl
    by_content (Special BlockDevice) = refl
    by_content (Special Socket) = refl

directories_where : (there : Option Node) → is_directory_where there ≡ is_of_directory (option_map object_of there)
directories_where None = refl
directories_where (Some node) = directory_kinds node

directory_there : (s : State) (x : ℕ) →
    ◌≡◌ {A = ℕ} (cond (is_directory_at s.nodes x) 1 0) (cond (leads_to_directory (tree_of s) (Some x)) 1 0)
directory_there s x = ap (λ (b : Bool). cond b 1 0) (directories_where (slice_get s.nodes x)
    ∙ ap is_of_directory (sym (slice_get-map object_of s.nodes x)))

module _ (s : State) (l : IsSound s) (object : ℕ) where
  names_led : sum_by (λ dir. count_by (λ name. leads_to object ((tree_of s).names dir name)) (names_listed s dir))
      (range_with_len 0 (length (tree_of s).objects)) ≡ names_of s.nodes object
  names_led =
      ap (λ (n : ℕ). sum_by by_place (range_with_len 0 n)) (length-map s.nodes object_of)
      ∙ ranged by_place (λ node. names_to object (names_in node.content)) 0 s.nodes (λ i node e.
      (let here : 0 + i ≡ i = omega arith in
      ap by_place here ∙ ap in_place e ∙ counted (leads_to object) (is object) (weighs_one object)
      (names_in node.content) (names_in node.content) (leads (names_in node.content)
      (distinct (names_in node.content) (l.made i node e).ordered))))
    where
      by_place : ℕ → ℕ
      by_place dir = count_by (λ name. leads_to object ((tree_of s).names dir name)) (names_listed s dir)

      in_place : Option Node → ℕ
      in_place there = count_by (λ name. leads_to object (entry_where name there)) (names_where there)

  pub links_are : (node : Node) → slice_get s.nodes object ≡ Some node →
      links_of s.nodes object node ≡ links_in (tree_of s) (names_listed s) object (object_of node).kind
  links_are node e = ap (λ (n : ℕ). min n links_max) (by_content node.content refl)
    where
      directories : Option Node → ℕ
      directories there =
          count_by (λ name. leads_to_directory (tree_of s) (entry_where name there)) (names_where there)

      by_content : (content : Content) → node.content ≡ content → node_links_by s.nodes object content
          ≡ links_by (tree_of s) (names_listed s) object (kind_number content == 4)
      by_content (Directory names) c =
          ap (λ (n : ℕ). 2 + n) (sym (ap directories e
          ∙ ap (λ (x : Content). count_by (λ name. leads_to_directory (tree_of s) (found name (names_in x)))
          (keys_of (names_in x))) c
          ∙ counted (leads_to_directory (tree_of s)) (λ x. cond (is_directory_at s.nodes x) 1 0) (directory_there s)
          names names (leads names (distinct names (subst (λ (x : Content). AreOrdered (names_in x)) c
          (l.made object node e).ordered)))))
      by_content (Regular bytes) c = sym names_led
      by_content (Link target) c = sym names_led
      by_content (Special Pipe) c = sym names_led
      by_content (Special CharDevice) c = sym names_led
      by_content (Special BlockDevice) c = sym names_led
      by_content (Special Socket) c = sym names_led
