-- What is read of a script without the rules of trees, judged by them afterwards, is the script.
use Rattle.std.proofs.Common.{◌≡◌, ◌≤◌, ◌⊎◌, ℕ, suc, ◌+◌, Bool, true, false, cond, not, ◌&&◌, List, [], ◌∷◌, ◌++◌}
use Rattle.std.proofs.Common.{length, Option, Some, None, Result, Ok, Err, refl, ap, sym, ◌∙◌, inl, inr, arith}
use Rattle.std.proofs.Common.{length-append}
use Rattle.std.specs.Prelude.{is_ok, option_and_then}
use Rattle.pt_tree.specs.Start.{start_of, add_lines, add_line, first_line, going_on as tree_on}
use Rattle.pt_tree.specs.declared.spec.TreeLine.{TreeLine}
use Rattle.pt_script.specs.Script.{Begun, is_empty, may_stand, added, keeps_tree, with_line, going_on, script_from}
use Rattle.pt_script.specs.Script.{script_of, nothing}
use Rattle.pt_script.specs.Scan.{Scanned, with_allowed, scanning_on, scan_from, scan_of, judged, judged_by}
use Rattle.pt_fs.specs.declared.job.Job.{Job as RunJob}
use Rattle.pt_script.specs.Jobs.{job_of, start_seat}
use Rattle.pt_script.specs.Line.{line_of}
use Rattle.pt_script.specs.declared.line.ScriptJob.{ScriptJob}
use Rattle.pt_script.specs.declared.line.Line.{Line}
use Rattle.pt_script.specs.declared.line.Line.TheVariants.{Set, Tree, Fault, Job, Order, End}
use Rattle.pt_script.specs.declared.settings.Setting.{Setting}
use Rattle.pt_script.specs.declared.settings.Setting.TheVariants as key
use Rattle.pt_script.specs.declared.switches.Switch.{Switch}
use Rattle.pt_script.specs.declared.switches.Switch.TheVariants as switch
use Rattle.pt_script.specs.declared.switches.Switches.{Switches}
use Rattle.pt_script.specs.Switches.{switched, with_switch, switch_lines}
use Rattle.pt_script.specs.declared.settings.Settings.{Settings}
use Rattle.pt_script.specs.Settings.{may_set, with_setting, set_lines}
use Rattle.std.specs.Option.{is_none, option_len}
use Rattle.pt_text.specs.Words.{lines_of}
use Rattle.pt_tree.specs.Start.{StartsAs, IsCause}
use Rattle.pt_script.specs.Begins.{planned_all}
use Rattle.pt_script.specs.declared.line.PlannedFault.{PlannedFault}
use Rattle.pt_rules.specs.State.{State}
use Rattle.pt_script.specs.Scan.{IsBadTree, moved, place_of, error_behind}
use Rattle.pt_script.specs.Parse.{IsScriptOf, IsBadLine}
use Rattle.pt_tree.specs.declared.spec.SpecError.{SpecError}
use Rattle.pt_tree.specs.declared.spec.SpecError.TheVariants as tree_error
use Rattle.pt_script.specs.declared.script.ParseError.{ParseError}
use Rattle.pt_script.specs.declared.script.ParseError.TheVariants.{BadScript, Memory}

-- lines that broke the rules break them with one more
add_lines-broken : (line : ℕ) (xs : List TreeLine) (y : TreeLine) (nodes : State) (n : ℕ) →
    add_lines line xs nodes ≡ Err n → add_lines line (xs ++ y ∷ []) nodes ≡ Err n
add_lines-broken line [] y nodes n is = cc
add_lines-broken line (x ∷ xs) y nodes n is = go (λ m. add_lines-broken (line + 1) xs y m n) (add_line nodes x) is
  where
    go : ((m : State) → add_lines (line + 1) xs m ≡ Err n → add_lines (line + 1) (xs ++ y ∷ []) m ≡ Err n) →
        (o : Option (State)) → tree_on o line (add_lines (line + 1) xs) ≡ Err n →
        tree_on o line (add_lines (line + 1) (xs ++ y ∷ [])) ≡ Err n
    go below None e = e
    go below (Some m) e = below m e

start_of-broken : (xs : List TreeLine) (y : TreeLine) (n : ℕ) → is_empty xs ≡ false → start_of xs ≡ Err n →
    start_of (xs ++ y ∷ []) ≡ Err n
start_of-broken [] y n some is = cc
start_of-broken (x ∷ xs) y n some is = go (first_line x) is
  where
    go : (o : Option (State)) → tree_on o 1 (add_lines 2 xs) ≡ Err n → tree_on o 1 (add_lines 2 (xs ++ y ∷ [])) ≡ Err n
    go None e = e
    go (Some m) e = add_lines-broken 2 xs y m n e

-- one more line is the first to break them, or breaks none
add_lines-more : (line : ℕ) (xs : List TreeLine) (y : TreeLine) (nodes m : State) (n : ℕ) →
    add_lines line xs nodes ≡ Ok m → add_lines line (xs ++ y ∷ []) nodes ≡ Err n → n ≡ line + length xs
add_lines-more line [] y nodes m n ok bad = go (add_line nodes y) bad
  where
    go : (o : Option (State)) → tree_on o line (add_lines (line + 1) []) ≡ Err n → n ≡ line + 0
    go None e = let same : line ≡ n = cc in omega arith
    go (Some m) e = cc
add_lines-more line (x ∷ xs) y nodes m n ok bad =
    go (λ k. add_lines-more (line + 1) xs y k m n) (add_line nodes x) ok bad
  where
    go : ((k : State) → add_lines (line + 1) xs k ≡ Ok m → add_lines (line + 1) (xs ++ y ∷ []) k ≡ Err n →
        n ≡ line + 1 + length xs) →
        (o : Option (State)) → tree_on o line (add_lines (line + 1) xs) ≡ Ok m →
        tree_on o line (add_lines (line + 1) (xs ++ y ∷ [])) ≡ Err n → n ≡ line + suc (length xs)
    go below None e f = cc
    go below (Some k) e f = let same : n ≡ line + 1 + length xs = below k e f in omega arith

start_of-more : (xs : List TreeLine) (y : TreeLine) (m : State) (n : ℕ) → start_of xs ≡ Ok m →
    start_of (xs ++ y ∷ []) ≡ Err n → n ≡ length xs + 1
start_of-more [] y m n ok bad = cc
start_of-more (x ∷ xs) y m n ok bad = go (first_line x) ok bad
  where
    go : (o : Option (State)) → tree_on o 1 (add_lines 2 xs) ≡ Ok m →
        tree_on o 1 (add_lines 2 (xs ++ y ∷ [])) ≡ Err n → n ≡ suc (length xs) + 1
    go None e f = cc
    go (Some k) e f = let same : n ≡ 2 + length xs = add_lines-more 2 xs y k m n e f in omega arith

start_of-first : (y : TreeLine) (n : ℕ) → start_of (y ∷ []) ≡ Err n → n ≡ 1
start_of-first y n bad = go (first_line y) bad
  where
    go : (o : Option (State)) → tree_on o 1 (add_lines 2 []) ≡ Err n → n ≡ 1
    go None e = cc
    go (Some m) e = cc

-- what is begun keeps the rules, and this is the number of the next line
record IsSound (number : ℕ) (begun : Begun) : Type 0 where
  tree : ((begun.tree ≡ []) × (number ≡ set_lines begun.settings + 1) × (begun.ended ≡ false))
      ⊎ (is_ok (start_of begun.tree) ≡ true)
  next : begun.ended ≡ false → (is_empty begun.faults && (is_empty begun.jobs && is_empty begun.order)) ≡ true →
      number ≡ set_lines begun.settings + length begun.tree + 1

-- the tree's lines break the rules at this line of the script, which is not ended
abbrev IsBroken : Begun → Result State ℕ → ℕ → Bool → Type 0
IsBroken begun o number ended =
    (place : ℕ) × (o ≡ Err place) × (set_lines begun.settings + place ≡ number) × (ended ≡ false)

tree_either : (number : ℕ) (begun : Begun) → IsSound number begun →
    IsBroken begun (start_of begun.tree) number begun.ended ⊎ (is_ok (start_of begun.tree) ≡ true)
tree_either number begun sound = go sound.tree
  where
    go : ((begun.tree ≡ []) × (number ≡ set_lines begun.settings + 1) × (begun.ended ≡ false))
        ⊎ (is_ok (start_of begun.tree) ≡ true) →
        IsBroken begun (start_of begun.tree) number begun.ended ⊎ (is_ok (start_of begun.tree) ≡ true)
    go (inl e) = inl (1, ap start_of e.0, sym e.1, e.2)
    go (inr t) = inr t

judged_by-bad : (begun : Begun) (o : Result State ℕ) (ended : Bool) (number : ℕ) →
    IsBroken begun o number ended ⊎ (is_ok o ≡ true) → judged_by begun o (Some number) ≡ Err number
judged_by-bad begun (Err k) ended number (inl e) =
    let same : k ≡ e.0 = cc (e.1) in
    ap {B = Result Begun ℕ} Err (ap (λ (n : ℕ). set_lines begun.settings + n) same ∙ e.2)
judged_by-bad begun (Err k) ended number (inr t) = cc
judged_by-bad begun (Ok nodes) ended number (inl e) = cc (e.1)
judged_by-bad begun (Ok nodes) ended number (inr t) = refl

judged_by-ended : (begun : Begun) (o : Result State ℕ) (ended : Bool) (number : ℕ) →
    IsBroken begun o number ended ⊎ (is_ok o ≡ true) →
    judged_by begun o (cond ended None (Some number)) ≡ cond ended (Ok begun) (Err number)
judged_by-ended begun o false number either = judged_by-bad begun o false number either
judged_by-ended begun o true number (inl e) = cc (e.3)
judged_by-ended begun (Err k) true number (inr t) = cc
judged_by-ended begun (Ok nodes) true number (inr t) = refl

is_empty-push : (xs : List TreeLine) (y : TreeLine) → is_empty (xs ++ y ∷ []) ≡ false
is_empty-push [] y = refl
is_empty-push (x ∷ xs) y = refl

and_true : (a b : Bool) → (a && b) ≡ true → (a ≡ true) × (b ≡ true)
and_true true b both = (refl, both)
and_true false b both = cc

not_true : (a : Bool) → not a ≡ true → a ≡ false
not_true true is = cc
not_true false is = refl

-- the tree breaks the rules at this place, behind as many lines that set something
abbrev StaysBroken : Begun → ℕ → Begun → Type 0
StaysBroken begun n after = (start_of after.tree ≡ Err n) × (after.settings ≡ begun.settings)

-- a tree that breaks the rules breaks them whatever follows
scan_from-broken : (texts : List (List ℕ)) (number : ℕ) (begun : Begun) (n : ℕ) → is_empty begun.tree ≡ false →
    start_of begun.tree ≡ Err n → StaysBroken begun n (scan_from number begun texts).begun
scan_from-broken [] number begun n some is = (is, refl)
scan_from-broken (text ∷ more) number begun n some is =
    go (λ after. scan_from-broken more (number + 1) after n) (is_empty text && is_empty more) (line_of text)
  where
    at : ((after : Begun) → is_empty after.tree ≡ false → start_of after.tree ≡ Err n →
        StaysBroken after n (scan_from (number + 1) after more).begun) → (may : Bool) (line : Line) →
        may_stand begun line ≡ may →
        StaysBroken begun n
        (scanning_on number begun (cond may (Some (added begun line)) None) (λ after.
        scan_from (number + 1) after more)).begun
    at below false line e = (is, refl)
    at below true (Set setting) e = absurd (cc (sym (and_true (is_empty begun.tree) _ e).0 ∙ some))
    at below true (Tree y) e =
        below (added begun (Tree y)) (is_empty-push begun.tree y) (start_of-broken begun.tree y n some is)
    at below true (Fault fault) e = below (added begun (Fault fault)) some is
    at below true (Job job) e = below (added begun (Job job)) some is
    at below true (Order places) e = below (added begun (Order places)) some is
    at below true End e = below (added begun End) some is

    go : ((after : Begun) → is_empty after.tree ≡ false → start_of after.tree ≡ Err n →
        StaysBroken after n (scan_from (number + 1) after more).begun) → (last : Bool) (line : Option Line) →
        StaysBroken begun n (cond last (record { begun = begun; bad = cond begun.ended None (Some number) })
        (scanning_on number begun (option_and_then (with_allowed begun) line) (λ after.
        scan_from (number + 1) after more))).begun
    go below true line = (is, refl)
    go below false None = (is, refl)
    go below false (Some line) = at below (may_stand begun line) line refl

judged-broken : (scanned : Scanned) (begun : Begun) (n : ℕ) → StaysBroken begun n scanned.begun →
    judged scanned ≡ Err (set_lines begun.settings + n)
judged-broken scanned begun n is =
    ap (λ (o : Result State ℕ). judged_by scanned.begun o scanned.bad) is.0
    ∙ ap {B = Result Begun ℕ} (λ (s : Settings). Err (set_lines s + n)) is.1

-- a line of a tree is the first to break the rules at its own number
broken_at : (number : ℕ) (begun : Begun) (y : TreeLine) (n : ℕ) → IsSound number begun →
    may_stand begun (Tree y) ≡ true → start_of (begun.tree ++ y ∷ []) ≡ Err n → set_lines begun.settings + n ≡ number
broken_at number begun y n sound may bad = go (start_of begun.tree) refl sound.tree
  where
    next : number ≡ set_lines begun.settings + length begun.tree + 1
    next = let both = and_true (not begun.ended) (is_empty begun.faults
        && (is_empty begun.jobs && is_empty begun.order)) may in sound.next (not_true begun.ended both.0) both.1

    go : (o : Result State ℕ) → start_of begun.tree ≡ o →
        ((begun.tree ≡ []) × (number ≡ set_lines begun.settings + 1) × (begun.ended ≡ false))
        ⊎ (is_ok (start_of begun.tree) ≡ true) → set_lines begun.settings + n ≡ number
    go o e (inl first) =
        let one : n ≡ 1 = start_of-first y n (sym (ap (λ (xs : List TreeLine). start_of (xs ++ y ∷ [])) first.0)
        ∙ bad) in ap (λ (k : ℕ). set_lines begun.settings + k) one ∙ sym first.1
    go (Ok m) e (inr t) = let place : n ≡ length begun.tree + 1 = start_of-more begun.tree y m n e bad in
        omega (arith, next)
    go (Err k) e (inr t) = cc (ap is_ok e)

-- what a line that breaks no rule leaves is sound
sound_tree : (number : ℕ) (begun : Begun) (y : TreeLine) → IsSound number begun → may_stand begun (Tree y) ≡ true →
    is_ok (start_of (begun.tree ++ y ∷ [])) ≡ true → IsSound (number + 1) (added begun (Tree y))
sound_tree number begun y sound may ok = record {
  tree = inr ok;
  next = λ going none. let h : number ≡ set_lines begun.settings + length begun.tree + 1 = sound.next going none in
      omega (arith, length-append begun.tree (y ∷ []));
}

has_tree : (number : ℕ) (begun : Begun) → IsSound number begun → not (is_empty begun.tree) ≡ true →
    is_ok (start_of begun.tree) ≡ true
has_tree number begun sound some = go sound.tree
  where
    go : ((begun.tree ≡ []) × (number ≡ set_lines begun.settings + 1) × (begun.ended ≡ false))
        ⊎ (is_ok (start_of begun.tree) ≡ true) → is_ok (start_of begun.tree) ≡ true
    go (inl first) = cc (sym (ap (λ (xs : List TreeLine). not (is_empty xs)) first.0) ∙ some)
    go (inr t) = t

not_empty : {A : Type 0} (xs : List A) (x : A) → is_empty (xs ++ x ∷ []) ≡ true → ⊥
not_empty [] x e = cc
not_empty (y ∷ ys) x e = cc

sound_fault : (number : ℕ) (begun : Begun) (fault : PlannedFault) → IsSound number begun →
    may_stand begun (Fault fault) ≡ true → IsSound (number + 1) (added begun (Fault fault))
sound_fault number begun fault sound may =
    let both = and_true (not begun.ended) _ may in
    let more = and_true (not (is_empty begun.tree)) _ both.1 in
    record {
      tree = inr (has_tree number begun sound more.0);
      next = λ going none.
          absurd (not_empty begun.faults fault (and_true (is_empty (begun.faults ++ fault ∷ [])) _ none).0);
    }

sound_job : (number : ℕ) (begun : Begun) (job : ScriptJob) → IsSound number begun → may_stand begun (Job job) ≡ true →
    IsSound (number + 1) (added begun (Job job))
sound_job number begun job sound may =
    let made = job_of (start_seat begun.settings) job in
    let both = and_true (not begun.ended) _ may in
    let more = and_true (not (is_empty begun.tree)) _ both.1 in
    record {
      tree = inr (has_tree number begun sound more.0);
      next = λ going none.
          absurd (not_empty begun.jobs made
          (and_true (is_empty (begun.jobs ++ made ∷ [])) _ (and_true (is_empty begun.faults) _ none).1).0);
    }

is_empty-behind : (order places : List ℕ) → is_empty (order ++ places) ≡ true → is_empty places ≡ true
is_empty-behind [] places e = e
is_empty-behind (x ∷ xs) places e = absurd (cc)

sound_order : (number : ℕ) (begun : Begun) (places : List ℕ) → IsSound number begun →
    may_stand begun (Order places) ≡ true → IsSound (number + 1) (added begun (Order places))
sound_order number begun places sound may =
    let both = and_true (not begun.ended) _ may in
    let more = and_true (not (is_empty begun.tree)) _ both.1 in
    let some = not_true (is_empty places) (and_true (not (is_empty places)) _ more.1).0 in
    record {
      tree = inr (has_tree number begun sound more.0);
      next = λ going none. let e =
          is_empty-behind begun.order places
          (and_true (is_empty begun.jobs) _ (and_true (is_empty begun.faults) _ none).1).1 in absurd (cc);
    }

none_len : {A : Type 0} (o : Option A) → is_none o ≡ true → option_len o ≡ 0
none_len None free = refl
none_len (Some value) free = cc

-- a switch that was not set
one_switch : (switches : Switches) (one : Switch) (on : Bool) → is_none (switched switches one) ≡ true →
    switch_lines (with_switch switches one on) ≡ switch_lines switches + 1
one_switch switches switch.Writeback on free = let none = none_len switches.writeback free in omega (arith, none)
one_switch switches switch.AnnounceSubmounts on free =
    let none = none_len switches.announce_submounts free in omega (arith, none)
one_switch switches switch.Readdirplus on free = let none = none_len switches.readdirplus free in omega (arith, none)
one_switch switches switch.AllowDirectIo on free =
    let none = none_len switches.allow_direct_io free in omega (arith, none)
one_switch switches switch.KillprivV2 on free = let none = none_len switches.killpriv_v2 free in omega (arith, none)
one_switch switches switch.CleanNoatime on free =
    let none = none_len switches.clean_noatime free in omega (arith, none)
one_switch switches switch.AllowMmap on free = let none = none_len switches.allow_mmap free in omega (arith, none)
one_switch switches switch.PosixAcl on free = let none = none_len switches.posix_acl free in omega (arith, none)
one_switch switches switch.SecurityLabel on free =
    let none = none_len switches.security_label free in omega (arith, none)
one_switch switches switch.Xattr on free = let none = none_len switches.xattr free in omega (arith, none)

one_more : (settings : Settings) (setting : Setting) → may_set settings setting ≡ true →
    set_lines (with_setting settings setting) ≡ set_lines settings + 1
one_more settings (key.GuestFdLimit limit) free =
    let none = none_len settings.guest_fd_limit free in omega (arith, none)
one_more settings (key.Seat who) free = let none = none_len settings.seat free in omega (arith, none)
one_more settings (key.EntryTimeout timeout) free =
    let none = none_len settings.entry_timeout free in omega (arith, none)
one_more settings (key.AttrTimeout timeout) free =
    let none = none_len settings.attr_timeout free in omega (arith, none)
one_more settings (key.CachePolicy policy) free =
    let none = none_len settings.cache_policy free in omega (arith, none)
one_more settings (key.RootDir path) free = let none = none_len settings.root_dir free in omega (arith, none)
one_more settings (key.Switch one on) free =
    let more = one_switch settings.switches one on free in omega (arith, more)
one_more settings (key.UidRule rule) free = omega (arith, length-append settings.uid_map (rule ∷ []))
one_more settings (key.GidRule rule) free = omega (arith, length-append settings.gid_map (rule ∷ []))
one_more settings (key.NameRule rule) free = omega (arith, length-append settings.xattrmap (rule ∷ []))

empty_is : (xs : List TreeLine) → is_empty xs ≡ true → xs ≡ []
empty_is [] e = refl
empty_is (x ∷ xs) e = cc

sound_set : (number : ℕ) (begun : Begun) (setting : Setting) → IsSound number begun →
    may_stand begun (Set setting) ≡ true → IsSound (number + 1) (added begun (Set setting))
sound_set number begun setting sound may = go sound.tree
  where
    both : (is_empty begun.tree ≡ true) × (may_set begun.settings setting ≡ true)
    both = and_true (is_empty begun.tree) _ may

    none : begun.tree ≡ []
    none = empty_is begun.tree both.0

    go : ((begun.tree ≡ []) × (number ≡ set_lines begun.settings + 1) × (begun.ended ≡ false))
        ⊎ (is_ok (start_of begun.tree) ≡ true) → IsSound (number + 1) (added begun (Set setting))
    go (inl first) =
        let following : number + 1 ≡ set_lines (with_setting begun.settings setting) + 1 =
        ap (λ (n : ℕ). n + 1) (first.1 ∙ sym (one_more begun.settings setting both.1)) in
        record {
          tree = inl (first.0, following, first.2);
          next = λ going empty. let l : length begun.tree ≡ 0 = ap length none in omega (arith, following);
        }
    go (inr t) = absurd (cc (sym t ∙ ap (λ (xs : List TreeLine). is_ok (start_of xs)) none))

sound_end : (number : ℕ) (begun : Begun) → IsSound number begun → may_stand begun End ≡ true →
    IsSound (number + 1) (added begun End)
sound_end number begun sound may =
    let both = and_true (not begun.ended) _ may in
    record { tree = inr (has_tree number begun sound both.1); next = λ going none. cc }

-- the script that is read is the one that stands there
scan_from-judged : (texts : List (List ℕ)) (number : ℕ) (begun : Begun) → IsSound number begun →
    judged (scan_from number begun texts) ≡ script_from number begun texts
scan_from-judged [] number begun sound =
    judged_by-bad begun (start_of begun.tree) begun.ended number (tree_either number begun sound)
scan_from-judged (text ∷ more) number begun sound =
    go (λ after. scan_from-judged more (number + 1) after) (is_empty text && is_empty more) (line_of text)
  where
    tree_at : ((after : Begun) → IsSound (number + 1) after →
        judged (scan_from (number + 1) after more) ≡ script_from (number + 1) after more) → (y : TreeLine) →
        may_stand begun (Tree y) ≡ true → (o : Result State ℕ) → start_of (begun.tree ++ y ∷ []) ≡ o →
        judged (scan_from (number + 1) (added begun (Tree y)) more)
        ≡ going_on number (cond (is_ok o) (Some (added begun (Tree y))) None) (λ after.
        script_from (number + 1) after more)
    tree_at below y may (Ok m) e = below (added begun (Tree y)) (sound_tree number begun y sound may (ap is_ok e))
    tree_at below y may (Err n) e =
        judged-broken (scan_from (number + 1) (added begun (Tree y)) more) (added begun (Tree y)) n
        (scan_from-broken more (number + 1) (added begun (Tree y)) n (is_empty-push begun.tree y) e)
        ∙ ap Err (broken_at number begun y n sound may e)

    at : ((after : Begun) → IsSound (number + 1) after →
        judged (scan_from (number + 1) after more) ≡ script_from (number + 1) after more) →
        (may : Bool) (line : Line) → may_stand begun line ≡ may →
        judged (scanning_on number begun (cond may (Some (added begun line)) None) (λ after.
        scan_from (number + 1) after more))
        ≡ going_on number (cond (may && keeps_tree begun line) (Some (added begun line)) None) (λ after.
        script_from (number + 1) after more)
    at below false line e =
        judged_by-bad begun (start_of begun.tree) begun.ended number (tree_either number begun sound)
    at below true (Set setting) e = below (added begun (Set setting)) (sound_set number begun setting sound e)
    at below true (Tree y) e = tree_at below y e (start_of (begun.tree ++ y ∷ [])) refl
    at below true (Fault fault) e = below (added begun (Fault fault)) (sound_fault number begun fault sound e)
    at below true (Job job) e = below (added begun (Job job)) (sound_job number begun job sound e)
    at below true (Order places) e = below (added begun (Order places)) (sound_order number begun places sound e)
    at below true End e = below (added begun End) (sound_end number begun sound e)

    go : ((after : Begun) → IsSound (number + 1) after →
        judged (scan_from (number + 1) after more) ≡ script_from (number + 1) after more) →
        (last : Bool) (line : Option Line) →
        judged (cond last (record { begun = begun; bad = cond begun.ended None (Some number) })
        (scanning_on number begun (option_and_then (with_allowed begun) line) (λ after.
        scan_from (number + 1) after more)))
        ≡ cond last (cond begun.ended (Ok begun) (Err number))
        (going_on number (option_and_then (with_line begun) line) (λ after. script_from (number + 1) after more))
    go below true line = judged_by-ended begun (start_of begun.tree) begun.ended number (tree_either number begun sound)
    go below false None = judged_by-bad begun (start_of begun.tree) begun.ended number (tree_either number begun sound)
    go below false (Some line) = at below (may_stand begun line) line refl

pub scan_of-judged : (bytes : List ℕ) → judged (scan_of bytes) ≡ script_of bytes
scan_of-judged bytes =
    scan_from-judged (lines_of bytes) 1 nothing (record { tree = inl (refl, refl, refl); next = λ going none. refl })

-- the tree's lines break the rules
pub script_of-tree : (bytes : List ℕ) (begun : Begun) (bad : Option ℕ) (n : ℕ) →
    record { begun = begun; bad = bad } ≡ scan_of bytes → start_of begun.tree ≡ Err n →
    script_of bytes ≡ Err (set_lines begun.settings + n)
script_of-tree bytes begun bad n read broken =
    sym (scan_of-judged bytes) ∙ ap judged (sym read) ∙ ap (λ (o : Result State ℕ). judged_by begun o bad) broken

-- another line is bad
pub script_of-bad : (bytes : List ℕ) (begun : Begun) (line : ℕ) (nodes : State) →
    record { begun = begun; bad = Some line } ≡ scan_of bytes → start_of begun.tree ≡ Ok nodes →
    script_of bytes ≡ Err line
script_of-bad bytes begun line nodes read keeps =
    sym (scan_of-judged bytes) ∙ ap judged (sym read) ∙ ap (λ (o : Result State ℕ). judged_by begun o (Some line)) keeps

-- no line is bad
pub script_of-good : (bytes : List ℕ) (begun : Begun) (nodes : State) →
    record { begun = begun; bad = None } ≡ scan_of bytes → start_of begun.tree ≡ Ok nodes → script_of bytes ≡ Ok begun
script_of-good bytes begun nodes read keeps =
    sym (scan_of-judged bytes) ∙ ap judged (sym read) ∙ ap (λ (o : Result State ℕ). judged_by begun o None) keeps

-- a bad line of the tree is one of the script
pub IsBadLine-tree : (bytes : List ℕ) (begun : Begun) (bad : Option ℕ) (above : ℕ) (lines : List TreeLine)
    (error : ParseError) → record { begun = begun; bad = bad } ≡ scan_of bytes →
    above ≡ set_lines begun.settings → lines ≡ begun.tree → IsBadTree above lines error → IsBadLine bytes error
IsBadLine-tree bytes begun bad above lines (BadScript line) read high same broken = go (start_of lines) refl broken
  where
    go : (o : Result State ℕ) → start_of lines ≡ o → moved above o ≡ Err line → script_of bytes ≡ Err line
    go (Ok nodes) e is = cc
    go (Err k) e is =
        let at : above + k ≡ line = cc in
        script_of-tree bytes begun bad k read (ap start_of (sym same) ∙ e)
        ∙ ap Err (ap (λ (n : ℕ). n + k) (sym high) ∙ at)
IsBadLine-tree bytes begun bad above lines Memory read high same broken = tt

pub IsBadLine-line : (bytes : List ℕ) (begun : Begun) (bad : Option ℕ) (lines : List TreeLine) (line : ℕ)
    (host : State) → record { begun = begun; bad = bad } ≡ scan_of bytes → bad ≡ Some line →
    lines ≡ begun.tree → StartsAs lines host → script_of bytes ≡ Err line
IsBadLine-line bytes begun bad lines line host read is same starts =
    script_of-bad bytes begun line host (ap (λ (o : Option ℕ). record { begun = begun; bad = o }) (sym is)
    ∙ read) (ap start_of (sym same) ∙ starts)

pub IsScriptOf-read : (bytes : List ℕ) (begun : Begun) (bad : Option ℕ) (settings : Settings) (lines : List TreeLine)
    (faults : List PlannedFault) (jobs : List RunJob) (schedule : List ℕ) (start host : State) →
    record { begun = begun; bad = bad } ≡ scan_of bytes → bad ≡ None → settings ≡ begun.settings →
    lines ≡ begun.tree → faults ≡ begun.faults → StartsAs lines start → host ≡ planned_all faults start →
    jobs ≡ begun.jobs → schedule ≡ begun.order → IsScriptOf bytes settings host jobs schedule
IsScriptOf-read bytes begun bad settings lines faults jobs schedule start host read is set same same_faults starts
    plans same_jobs same_order = (
      begun,
      script_of-good bytes begun start (ap (λ (o : Option ℕ). record { begun = begun; bad = o }) (sym is)
          ∙ read) (ap start_of (sym same) ∙ starts),
      set,
      (start, ap start_of (sym same) ∙ starts, plans ∙ ap (λ (l : List PlannedFault). planned_all l start) same_faults),
      same_jobs,
      same_order,
    )

-- a place at which lines break the rules is that of one of them, or the first
add_lines-within : (line : ℕ) (xs : List TreeLine) (nodes : State) (n : ℕ) → add_lines line xs nodes ≡ Err n →
    n ≤ line + length xs
add_lines-within line [] nodes n is = cc
add_lines-within line (x ∷ xs) nodes n is = go (λ m. add_lines-within (line + 1) xs m n) (add_line nodes x) is
  where
    go : ((m : State) → add_lines (line + 1) xs m ≡ Err n → n ≤ line + 1 + length xs) → (o : Option (State)) →
        tree_on o line (add_lines (line + 1) xs) ≡ Err n → n ≤ line + suc (length xs)
    go below None e = let same : line ≡ n = cc in omega arith
    go below (Some m) e = let h : n ≤ line + 1 + length xs = below m e in omega arith

start_of-within : (xs : List TreeLine) (n : ℕ) → start_of xs ≡ Err n → n ≤ length xs + 1
start_of-within [] n is = let same : 1 ≡ n = cc in omega arith
start_of-within (x ∷ xs) n is = go (first_line x) is
  where
    go : (o : Option (State)) → tree_on o 1 (add_lines 2 xs) ≡ Err n → n ≤ suc (length xs) + 1
    go None e = let same : 1 ≡ n = cc in omega arith
    go (Some m) e = let h : n ≤ 2 + length xs = add_lines-within 2 xs m n e in omega arith

-- the error of a tree that is refused
pub place_of-within : (lines : List TreeLine) (error : SpecError) → IsCause lines error →
    place_of error ≤ length lines + 1
place_of-within lines (tree_error.NotATree place) is = start_of-within lines place is
place_of-within lines tree_error.Memory is = omega arith

pub IsBadTree-behind : (above : ℕ) (lines : List TreeLine) (error : SpecError) → IsCause lines error →
    IsBadTree above lines (error_behind above error)
IsBadTree-behind above lines (tree_error.NotATree place) is = ap (λ (o : Result State ℕ). moved above o) is
IsBadTree-behind above lines tree_error.Memory is = tt
