-- A run of one step, which opens the shared directory as a root. That step might have opened either object of the
-- host; in the world to which it led here it opened object 0, which so comes from it, and object 1 does not.
use Rattle.std.proofs.Common.{◌≡◌, ◌≢◌, ⊎_elim, ℕ, ◌<◌, List, [], ◌∷◌, refl, sym, ap, ◌∙◌, arith, None, Some}
use Rattle.std.proofs.lemmas.Bool.{cases_eq}
use Rattle.pt_host.specs.Words.{set_at}
use Rattle.pt_host.specs.Flags.{includes, o_path}
use Rattle.pt_host.specs.Tree.{directory_kind, kind_of}
use Rattle.pt_host.proofs.SeatAnswers.{unanswered}
use Rattle.pt_host.specs.declared.ids.Fd.{Fd}
use Rattle.pt_host.specs.declared.seat.HostSeat.{HostSeat}
use Rattle.pt_host.specs.declared.stat.Stat.{Stat}
use Rattle.pt_host.specs.declared.op.KeptHostOp.TheVariants as call
use Rattle.pt_host.specs.declared.reply.HostReply.TheVariants as host
use Rattle.pt_host.specs.declared.reply.HostValue.TheVariants as value
use Rattle.pt_tables.specs.Tables.{empty_tables}
use Rattle.pt_frame.specs.Deed.{Calls}
use Rattle.pt_req.specs.Parts.{by_path}
use Rattle.pt_frame.specs.declared.act.ActReply.TheVariants.{Host}
use Rattle.pt_law.specs.World.{World, Turn, turn_by, Goes, first_of, made, object_of, settled_by, story_by, no_past}
use Rattle.pt_law.specs.Origins.{WasRoot}
use Rattle.pt_law.proofs.Lists.{set_at_other, set_at_same}
use Rattle.pt_fit.proofs.ExampleRace.{fd, tree, well, small_none, small_open, opened_by, none, start}

-- a slash
abbrev slash : List ℕ
slash = 47 ∷ []

abbrev turn : Turn
turn = turn_by 0 (made (Calls (call.OpenRoot slash by_path)) (Host (host.Ok (value.Fd (fd 3)))))

-- the world in which the step has opened this object
abbrev opened : Stat → Stat → ℕ → World
opened root file object = record {
  tree = tree root file (set_at 3 (opened_by object) none);
  tables = empty_tables (5 ∷ []);
  past = settled_by no_past 0 (Calls (call.OpenRoot slash by_path)) (Host (host.Ok (value.Fd (fd 3)))) 0
      (tree root file (set_at 3 (opened_by object) none));
  story = story_by (start root file)
      (settled_by no_past 0 (Calls (call.OpenRoot slash by_path)) (Host (host.Ok (value.Fd (fd 3)))) 0
      (tree root file (set_at 3 (opened_by object) none)))
      (tree root file (set_at 3 (opened_by object) none)) 0 (Some (Calls (call.OpenRoot slash by_path)))
      (Host (host.Ok (value.Fd (fd 3))));
}

-- the step leads there, whichever it opened
pub may_open : (root file : Stat) (seat : HostSeat) → root.ids ≢ file.ids → kind_of root.mode ≡ directory_kind →
    (object : ℕ) → object < 2 → Goes (start root file) turn (opened root file object)
may_open root file seat apart kind object listed = record {
  seat = seat;
  seat_after = seat;
  made = (
    (
      record {
        trees = record {
          formed_before = well root file apart kind none small_none;
          formed_after = well root file apart kind (set_at 3 (opened_by object) none)
              (small_open none 3 (record { object = object; path_only = includes by_path.0 o_path }) listed
              small_none);
          changes = (object, record { listed = omega (arith, listed); fresh = refl; allowed = refl; adds = refl });
          path_only = λ asks. absurd asks;
        };
        seats = unanswered seat (call.OpenRoot slash by_path) (host.Ok (value.Fd (fd 3))) refl;
      },
      0,
      0,
      record {
        never_falls = omega arith;
        allowed = tt;
        fails = tt;
        seats = unanswered seat (call.OpenRoot slash by_path) (host.Ok (value.Fd (fd 3))) refl;
      },
    ),
    refl,
  );
  past = refl;
  story = refl;
}

-- it opened object 0
pub came_from_it : (root file : Stat) → WasRoot (opened root file 0) 0
came_from_it root file = (
  0,
  set_at_same no_past.roots 0 (first_of None (object_of (set_at 3 (opened_by 0) none 3)))
      ∙ ap object_of (set_at_same none 3 (opened_by 0)),
)

some_same : {a b : ℕ} → Some a ≡ Some b → a ≡ b
some_same e = cc

none_some : {a : ℕ} → None ≡ Some a → ⊥
none_some e = cc

-- and not object 1
pub came_from_nowhere : (root file : Stat) → WasRoot (opened root file 0) 1 → ⊥
unfolding came_from_it
came_from_nowhere root file was = ⊎_elim
    (λ (e : was.0 ≡ 0).
    let is = ap (opened root file 0).past.roots e in
    let one : 0 ≡ 1 = some_same (sym (came_from_it root file).1 ∙ sym is ∙ was.1) in
    absurd (omega (arith, one)))
    (λ (e : was.0 ≢ 0).
    none_some (sym (set_at_other no_past.roots 0 (first_of None (object_of (set_at 3 (opened_by 0) none 3))) was.0 e)
    ∙ was.1))
    (cases_eq was.0 0)
