-- Proof. `readdir`: the entries of a directory from an offset on.
use Rattle.std.specs.Int.{from_le_bytes, w16}
use Rattle.std.specs.Prelude.{drop, take, if◌then◌else◌, nat_le, nat_lt, not}
use Rattle.std.specs.Map.{keys_of}
use Rattle.std.specs.Str.{bytes_eq}
use Rattle.std.proofs.Common.{◌≡◌, ◌≢◌, ◌<◌, ◌≤◌, ◌+◌, ◌-◌, ◌^◌, ◌==◌, ◌||◌, ◌++◌, ℕ, zero, suc, Bool, true, false, cond}
use Rattle.std.proofs.Common.{List, [], ◌∷◌, length, map, Option, Some, None, option_and_then, slice_get, is_some, inl, inr}
use Rattle.std.proofs.Common.{refl, sym, ap, subst, ◌∙◌, arith, length-append}
use Rattle.std.proofs.lemmas.Bool.{eqb-false, eqb-true, le-leb, leb-true, ltb-false}
use Rattle.std.proofs.lemmas.Bool.Decides.{eqb_tells}
use Rattle.std.proofs.lemmas.Cmp.{nat_list_eq_equiv}
use Rattle.std.proofs.lemmas.List.{drop-map}
use Rattle.std.proofs.lemmas.Nat.{from_le_bytes-to_le_bytes_2, from_le_bytes-to_le_bytes_8}
use Rattle.std.proofs.lemmas.Map.Entries.{lookup_from_place}
use Rattle.std.proofs.lemmas.Map.Made.{is_some-lookup}
use Rattle.pt_host.specs.Errno.{einval, eio}
use Rattle.pt_host.specs.Tree.{Tree, IsOpenOn}
use Rattle.pt_host.specs.declared.ids.Errno.{Errno}
use Rattle.pt_host.specs.declared.ids.Fd.{Fd}
use Rattle.pt_host.specs.declared.reply.HostValue.{HostValue}
use Rattle.pt_host.specs.declared.op.KeptHostOp.TheVariants as call
use Rattle.pt_host.specs.declared.reply.HostReply.TheVariants as host
use Rattle.pt_host.specs.declared.reply.HostValue.TheVariants as value
use Rattle.pt_handles.specs.Dirents.{before_nul, dirents_in, is_listing, seen_dirent}
use Rattle.pt_handles.specs.Record.{Dirent, IsListing, record_of as written, record_size as size_of, records_of}
use Rattle.pt_handles.proofs.Listings.{none_left, seen_listing}
use Rattle.pt_handles.proofs.Records.{behind_head, drop_record, length_record, seen_back, size_back}
use Rattle.pt_iface.specs.declared.answer.Answer.{Answer}
use Rattle.pt_iface.specs.declared.directory.DirEntry.{DirEntry}
use Rattle.pt_iface.specs.declared.request.Context.{Context}
use Rattle.pt_iface.specs.declared.request.Request.{Request}
use Rattle.pt_iface.specs.declared.answer.Answer.TheVariants as answer
use Rattle.pt_iface.specs.declared.request.Request.TheVariants as request
use Rattle.pt_frame.specs.Deed.{Calls}
use Rattle.pt_frame.specs.Tree.{Gives, RequestTree}
use Rattle.pt_frame.specs.declared.act.ActReply.{ActReply}
use Rattle.pt_frame.specs.declared.act.ActReply.TheVariants.{Event, Host, NoCopy}
use Rattle.pt_req.specs.Entries.{is_bad_offset}
use Rattle.pt_req.specs.Parts.{placed}
use Rattle.pt_req.specs.Steps.{begin}
use Rattle.pt_req.specs.declared.plan.Plan.{Plan}
use Rattle.pt_xattr.specs.Listed.{entries_in, entries_of, entry_told}
use Rattle.pt_xattr.specs.Requests.{listed_from, listing, readdir}
use Rattle.pt_law.specs.World.{made}
use Rattle.pt_node.specs.Names.{found}
use Rattle.pt_node.specs.Node.{is_directory, kind_number, name_at, names_in, object_of}
use Rattle.pt_node.specs.Slots.{open_at}
use Rattle.pt_node.specs.declared.node.Content.{Content}
use Rattle.pt_node.specs.declared.node.Content.TheVariants.{Directory, Regular, Link, Special}
use Rattle.pt_node.specs.declared.node.Node.{Node}
use Rattle.pt_node.specs.declared.node.SpecialKind.TheVariants.{Pipe, CharDevice, BlockDevice, Socket}
use Rattle.pt_node.specs.declared.slots.OpenFile.{OpenFile}
use Rattle.pt_rules.specs.Calls.{Answered, checked, refused}
use Rattle.pt_rules.specs.ListCalls.{before_others, does_not_fit, list_at, list_checks, list_from, names_from}
use Rattle.pt_rules.specs.ListCalls.{record_at, record_size, records, tell_records}
use Rattle.pt_rules.specs.ContentCalls.{is_path_only}
use Rattle.pt_rules.specs.Sound.{IsSound}
use Rattle.pt_rules.specs.State.{State, tree_of}
use Rattle.pt_rules.specs.Laws.Cases.{by_checks, by_fd}
use Rattle.pt_rules.specs.Laws.Finding.{there_within}
use Rattle.pt_rules.specs.Laws.NameTable.{distinct}
use Rattle.pt_rules.specs.Laws.Outcomes.{passes_first}
use Rattle.pt_plain.specs.Plain.{PlainTree}
use Rattle.pt_plain.proofs.Showing.{bare_tree}
use Rattle.pt_plain.proofs.Stilling.{IsStill}
use Rattle.pt_filled.specs.Fills.{Fills}
use Rattle.pt_filled.specs.Told.{AreAll, IsEntryOf, TellsFrom}
use Rattle.pt_filled.proofs.Filling.{Between, filled, IsFilledBy, refused_fills, stay}
use Rattle.pt_filled.proofs.Finding.{Held, walk_held}
use Rattle.pt_filled.proofs.Hosting.{Full, Keeps, Steps, Thread}
use Rattle.pt_filled.proofs.Parts.{At, At.{by}, comes_at, idles_calm, IsRefused, keeps_on, Leaves, leaves_read}
use Rattle.pt_filled.proofs.Parts.{refused_from, refused_with, walk_begin, walk_bytes}
use Rattle.pt_filled.proofs.Tables.{object_is, ok_not_refused, opened_object, tabled, Tabled}
use Rattle.pt_filled.proofs.Threading.{Comes, Makes}

-- ---- what is read of a record

abbrev dirent : ℕ → List ℕ → Node → Dirent
dirent next name node = record { ino = node.ids.ino; offset = next; kind = kind_number node.content; name = name }

front_more : (byte count : ℕ) (bytes : List ℕ) → take (1 + count) (byte ∷ bytes) ≡ byte ∷ take count bytes
front_more byte count bytes = let e : 1 + count ≡ suc count = omega arith in rw e refl

-- a name ends at its first NUL
until_nul : (name rest : List ℕ) → before_nul (name ++ 0 ∷ rest) ≡ before_nul name
until_nul [] rest = refl
until_nul (byte ∷ name) rest = elim (eqb_tells byte 0) [
  | inl is ↦ rw is.0 refl
  | inr is ↦ rw is.0 (front_more byte _ _ ∙ ap (λ (more : List ℕ). byte ∷ more) (until_nul name rest)
      ∙ sym (front_more byte _ _))
]

-- the entry that a record tells
abbrev seen_of : Dirent → Dirent
seen_of entry = record entry { name = before_nul entry.name }

seen_there : (entry : Dirent) (rest : List ℕ) → entry.ino < 2 ^ 64 → entry.offset < 2 ^ 64 →
    seen_dirent (written entry ++ rest) ≡ seen_of entry
unfolding seen_dirent
seen_there entry rest ino offset =
    let i = from_le_bytes-to_le_bytes_8 entry.ino ino in
    let o = from_le_bytes-to_le_bytes_8 entry.offset offset in
    let n = ap before_nul (behind_head entry rest) ∙ until_nul entry.name _ in
    λ k. record { ino = i k; offset = o k; kind = entry.kind; name = n k }

-- Bytes that begin with a record and are a listing go on behind it as one.
record GoesOn (entry : Dirent) (rest : List ℕ) (all : List Dirent) : Type 0 where
  more : List Dirent
  are : all ≡ seen_of entry ∷ more
  listing : IsListing rest more

goes_on : (entry : Dirent) (rest : List ℕ) (all : List Dirent) → entry.ino < 2 ^ 64 → entry.offset < 2 ^ 64 →
    length entry.name ≤ 255 → IsListing (written entry ++ rest) all → GoesOn entry rest all
goes_on entry rest [] ino offset short l =
    absurd (omega (arith, length_record entry, length-append (written entry) rest, ap (length {A = ℕ}) l.records))
goes_on entry rest (first ∷ more) ino offset short l =
    let bytes : List ℕ = written entry ++ rest in
    let seen = sym (ap seen_dirent l.records ∙ seen_back first (records_of more) l.fit.0)
    ∙ seen_there entry rest ino offset in
    let size = sym (ap (λ (b : List ℕ). from_le_bytes w16 (take 2 (drop 16 b))) l.records
    ∙ size_back first (records_of more) l.fit.0)
    ∙ from_le_bytes-to_le_bytes_2 (size_of entry.name) (omega (arith, short)) in
    let left = sym (ap (drop (size_of first.name)) l.records ∙ drop_record first (records_of more))
    ∙ ap (λ (n : ℕ). drop n bytes) size ∙ drop_record entry rest in record {
      more = more;
      are = ap (λ (e : Dirent). e ∷ more) seen;
      listing = record { fit = l.fit.1; records = sym left };
    }

-- ---- the records of some names

-- each of the names leads there
abbrev LeadTo : State → ℕ → List (List ℕ × ℕ) → Type 0
LeadTo s dir names =
    (i : ℕ) (entry : List ℕ × ℕ) → slice_get names i ≡ Some entry → name_at s.nodes dir entry.0 ≡ Some entry.1

lead_dropped : (s : State) (dir n : ℕ) (names : List (List ℕ × ℕ)) → LeadTo s dir names → LeadTo s dir (drop n names)
lead_dropped s dir zero names h = h
lead_dropped s dir (suc n) [] h = h
lead_dropped s dir (suc n) (entry ∷ names) h = lead_dropped s dir n names (λ i e q. h (suc i) e q)

record AreTold (s : State) (dir size place : ℕ) (names : List (List ℕ × ℕ)) (entries : List Dirent) : Type 0 where
  tells : TellsFrom (bare_tree (tree_of s)) dir place (keys_of names) (map entry_told entries)
  some : does_not_fit size names ≡ false → map entry_told entries ≡ [] → keys_of names ≡ []

module _ (s : State) (l : IsSound s) (dir : ℕ) where
  one_told : (place : ℕ) (name : List ℕ) (object : ℕ) (node : Node) → name_at s.nodes dir name ≡ Some object →
      slice_get s.nodes object ≡ Some node →
      IsEntryOf (bare_tree (tree_of s)) dir place name (entry_told (seen_of (dirent (place + 1) name node)))
  one_told place name object node led there = record {
    same_name = refl;
    object = object;
    leads = led;
    what = object_of node;
    is_object = object_is s object node there;
    ino = refl;
    kind = refl;
    offset = refl;
  }

  fits_first : (size need : ℕ) → nat_le need size ≡ false → nat_lt size need ≡ false → ⊥
  fits_first size need less more =
      let fits : nat_le need size ≡ true = le-leb need size (ltb-false size need more) in
      let e : true ≡ false = sym fits ∙ less in cc

  told : (size place : ℕ) (names : List (List ℕ × ℕ)) (entries : List Dirent) → LeadTo s dir names →
      place + size < 2 ^ 64 → IsListing (records size place s.nodes names).0 entries →
      AreTold s dir size place names entries
  told size place [] entries leads few is =
      subst (AreTold s dir size place []) (sym (none_left [] entries is refl)) (record { tells = tt; some = λ a b. refl })
  told size place (entry ∷ more) entries leads few is =
      go (nat_le (record_size entry.0) size) refl (λ room entries is.
      told (size - record_size entry.0) (place + 1) more entries (λ i x q. leads (suc i) x q) (omega (arith, room, few))
      is) is
    where
      led : name_at s.nodes dir entry.0 ≡ Some entry.1
      led = leads zero entry refl

      object_within : entry.1 < length s.nodes
      object_within = l.named dir entry.0 entry.1 led

      at : (node : Node) × (slice_get s.nodes entry.1 ≡ Some node)
      at = there_within s.nodes entry.1 object_within

      this : Dirent
      this = dirent (place + 1) entry.0 at.0

      rest : List ℕ
      rest = (records (size - record_size entry.0) (place + 1) s.nodes more).0

      go : (fits : Bool) → nat_le (record_size entry.0) size ≡ fits →
          (record_size entry.0 ≤ size → (entries : List Dirent) → IsListing rest entries →
          AreTold s dir (size - record_size entry.0) (place + 1) more entries) →
          IsListing (cond fits (before_others (record_at (place + 1) entry.0 (slice_get s.nodes entry.1))
          (records (size - record_size entry.0) (place + 1) s.nodes more)) ([], place)).0 entries →
          AreTold s dir size place (entry ∷ more) entries
      go false e later is = subst (AreTold s dir size place (entry ∷ more)) (sym (none_left [] entries is refl))
          (record { tells = tt; some = λ fits none. absurd (fits_first size (record_size entry.0) e fits) })
      go true e later is =
          let room = leb-true (record_size entry.0) size e in
          let count = l.few in
          let number = (l.made entry.1 at.0 at.1).numbered in
          let k = goes_on this rest entries (omega (arith, number, object_within, count)) (omega (arith, room, few))
          (l.short dir entry.0 entry.1 led)
          (subst (λ (o : Option Node). IsListing (record_at (place + 1) entry.0 o ++ rest) entries) at.1 is) in
          let t = later room k.more k.listing in
          subst (AreTold s dir size place (entry ∷ more)) (sym k.are) (record {
            tells = (one_told place entry.0 entry.1 at.0 led at.1, t.tells);
            some = λ fits none. absurd (cc);
          })

-- ---- what the tree host tells

record ListOk (s : State) (offset size : ℕ) (bytes : List ℕ) (object : ℕ) : Type 0 where
  node : Node
  there : slice_get s.nodes object ≡ Some node
  fits : does_not_fit size (names_from offset node) ≡ false
  is : bytes ≡ (records size offset s.nodes (names_from offset node)).0

same_bytes : (one other : List ℕ) → host.Ok (value.Bytes one) ≡ host.Ok (value.Bytes other) → one ≡ other
same_bytes one other e = cc

list_so : (s : State) (fd : Fd) (offset size object : ℕ) (bytes : List ℕ) (after : State) → IsOpenOn (tree_of s) fd
    object →
    (host.Ok (value.Bytes bytes), after) ≡ list_at s fd (Some offset) size → ListOk s offset size bytes object
list_so s fd offset size object bytes after o =
    by_fd s P refuses fd (λ file node. list_from s fd.0 file node offset size) (λ file node is there.
    by_checks s P refuses (list_checks file node offset size) (tells file node) (λ none e. record {
      node = node;
      there = ap (slice_get s.nodes) (sym (opened_object s fd object file o is)) ∙ there;
      fits = (passes_first (does_not_fit size (names_from offset node)) _ _
          (passes_first (not (is_directory node)) _ _ (passes_first (is_path_only file) _ _ none).1).1).0;
      is = same_bytes bytes _ (ap (λ (a : Answered). a.0) e);
    }))
  where
    P : Answered → Type 0
    P a = (host.Ok (value.Bytes bytes), after) ≡ a → ListOk s offset size bytes object

    refuses : (errno : Errno) → P (refused s errno)
    refuses errno e = absurd (ok_not_refused (value.Bytes bytes) errno (ap (λ (a : Answered). a.0) e))

    tells : OpenFile → Node → Answered
    tells file node = tell_records s fd.0 file node (records size offset s.nodes (names_from offset node))

was_listed : (j : Thread) (w on : Full) (fd : Fd) (offset size : ℕ) (bytes : List ℕ) (object : ℕ) →
    Steps j w (made (Calls (call.ListAt fd (Some offset) size)) (Host (host.Ok (value.Bytes bytes)))) on →
    IsOpenOn (tree_of w.state) fd object → ListOk w.state offset size bytes object
was_listed j w on fd offset size bytes object s o =
    let t : Tabled w.state w.seat (call.ListAt fd (Some offset) size) (value.Bytes bytes) on.state =
    tabled w.state w.seat (call.ListAt fd (Some offset) size) (value.Bytes bytes) on.state on.seat refl s.made.0 in
    list_so w.state fd offset size object bytes t.after o t.answered

-- the names of the directory, of which those from the offset on are told
abbrev Lists : Tree → ℕ → ℕ → List DirEntry → Type 0
Lists tree dir offset entries =
    (names : List (List ℕ)) × AreAll (λ name. is_some (tree.names dir name)) names
    × TellsFrom tree dir offset (drop offset names) entries
    × (entries ≡ [] → drop offset names ≡ [])

lists : (s : State) → IsSound s → (dir offset size : ℕ) (bytes : List ℕ) → offset + size < 2 ^ 64 →
    is_listing bytes ≡ true → ListOk s offset size bytes dir → Lists (bare_tree (tree_of s)) dir offset (entries_in bytes)
lists s l dir offset size bytes few whole k =
    let names : List (List ℕ × ℕ) = names_in k.node.content in
    let apart = distinct names (l.made dir k.node k.there).ordered in
    let leads : LeadTo s dir names = λ i entry q.
    ap (option_and_then (λ (n : Node). found entry.0 (names_in n.content))) k.there
    ∙ lookup_from_place nat_list_eq_equiv names i entry.0 entry.1 apart q in
    let t = told s l dir size offset (drop offset names) (dirents_in bytes) (lead_dropped s dir offset names leads) few
    (subst (λ (b : List ℕ). IsListing b (dirents_in bytes)) k.is (seen_listing bytes whole)) in
    let cut : keys_of (drop offset names) ≡ drop offset (keys_of names) =
    sym (drop-map (λ (e : List ℕ × ℕ). e.0) offset names) in (
      keys_of names,
      (
        apart,
        λ name. sym (is_some-lookup (bytes_eq name) names)
            ∙ sym (ap (λ (o : Option Node). is_some (option_and_then (λ (n : Node). found name (names_in n.content)) o))
            k.there),
      ),
      subst (λ (n : List (List ℕ)). TellsFrom (bare_tree (tree_of s)) dir offset n (map entry_told (dirents_in bytes)))
          cut t.tells,
      λ none. sym cut ∙ t.some k.fits none,
    )

list_leaves : (fd : Fd) (offset size : ℕ) (told : ActReply) → Leaves (Calls (call.ListAt fd (Some offset) size)) told
list_leaves fd offset size = leaves_read (call.ListAt fd (Some offset) size) still (λ told tree after object no. no)
  where
    still : (told : ActReply) → IsStill (Calls (call.ListAt fd (Some offset) size)) told
    still (Host told) = tt
    still (Event told) = tt
    still NoCopy = tt

-- past the test of an offset
past_offset : {G : Type 0} (j : Thread) (is_bad : Bool) (next : RequestTree) (w : Full) (last : Answer) (w' : Full) →
    At j (if is_bad then Gives (answer.Refused einval) else next) w last w' → (IsRefused w last w' → G) →
    (is_bad ≡ false → At j next w last w' → G) → G
past_offset j true next w last w' (by c) out goes = out (refused_with j w einval last w' c)
past_offset j false next w last w' c out goes = goes refl c

module _ (plan : Plan) (who : Context) (j : Thread) (w : Full) (last : Answer) (w' : Full) (state after : PlainTree)
    (g : Between w w' state after) (n : last ≢ answer.NoMemory) where
  pub fills_readdir : (inode handle size offset : ℕ) → size < 2 ^ 32 →
      At j (begin (readdir inode handle size offset)) w last w' →
      IsFilledBy plan j.seat who (request.ReadDir inode handle size offset) state w last after w'
  unfolding readdir placed
  fills_readdir inode handle size offset small c =
      walk_begin j _ w last w' n c out (λ session b q agreed k. by_size b q.keeps (size == 0) refl k
      (λ k. past_offset j (is_bad_offset offset) _ b last w' k (λ r. out (refused_from w b last w' q.keeps r))
      (λ good k.
      walk_held j w last w' state g.shows n out handle inode _ b q k (λ fd d f k.
      walk_bytes j (call.ListAt fd (Some offset) size) _ d last w' n (list_leaves fd offset size) k
      (λ r. out (refused_from w d last w' f.calm.keeps r)) (λ bytes e m kept k.
      answered d e fd bytes f (ltb-false (2 ^ 63 - 1) offset good) m kept (is_listing bytes) refl k)))))
    where
      asked : Request
      asked = request.ReadDir inode handle size offset

      out : IsRefused w last w' → IsFilledBy plan j.seat who asked state w last after w'
      out = refused_fills plan j.seat who asked w w' state after last g.shows (λ k. k)

      tells : (entries : List DirEntry) → last ≡ answer.Listing entries →
          Fills plan j.seat who asked (filled state w) (answer.Listing entries) (filled after w') →
          IsFilledBy plan j.seat who asked state w last after w'
      tells entries e f =
          subst (λ (x : Answer). Fills plan j.seat who asked (filled state w) x (filled after w')) (sym e) f

      by_size : (b : Full) → Keeps w b → (none : Bool) → (size == 0) ≡ none →
          At j (if none then Gives (answer.Listing []) else listed_from inode handle size offset) b last w' →
          (At j (listed_from inode handle size offset) b last w' →
          IsFilledBy plan j.seat who asked state w last after w') →
          IsFilledBy plan j.seat who asked state w last after w'
      by_size b q true z c goes =
          let k = comes_at c in
          tells [] k.0 (
            inl (eqb-true size 0 z, refl),
            stay w w' state after g.shows (keeps_on w b w' q (idles_calm j b w' k.1).keeps),
          )
      by_size b q false z c goes = goes c

      answered : (d e : Full) (fd : Fd) (bytes : List ℕ) → Held w d state handle inode fd → offset ≤ 2 ^ 63 - 1 →
          Makes j d (Calls (call.ListAt fd (Some offset) size)) (Host (host.Ok (value.Bytes bytes))) e → Keeps d e →
          (whole : Bool) → is_listing bytes ≡ whole → At j (listing (if whole then Some (entries_in bytes) else None)) e last w' →
          IsFilledBy plan j.seat who asked state w last after w'
      answered d e fd bytes f place m kept false z c =
          out (refused_from w d last w' f.calm.keeps (refused_from d e last w' kept
          (refused_with j e eio last w' (comes_at c))))
      answered d e fd bytes f place m kept true z (by k) =
          let sound = m.2.made.0.sound in
          let listed = was_listed j d e fd offset size bytes f.object m.2 f.open_on in
          let seen = lists d.state sound f.object offset size bytes (omega (arith, place, small)) z listed in
          tells (entries_in bytes) k.0 (
            inr (
              f.object,
              f.held,
              subst (λ (t : Tree). Lists t f.object offset (entries_in bytes))
                  (sym (g.shows.tree ∙ sym f.calm.quiet.still.tree)) seen,
            ),
            stay w w' state after g.shows (keeps_on w d w' f.calm.keeps (keeps_on d e w' kept (idles_calm j e w'
                k.1).keeps)),
          )
