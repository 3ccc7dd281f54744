-- What a seat answers to its own calls keeps what every host keeps, and so does what any other call is answered,
-- where the seat stays.
use Rattle.std.proofs.Common.{◌≡◌, ℕ, Bool, true, false, ◌||◌, Option, Some, None, option_map, refl, sym}
use Rattle.std.proofs.Common.{ap, subst, arith}
use Rattle.std.specs.Prelude.{◌==◌}
use Rattle.std.proofs.lemmas.Option.{same_Some}
use Rattle.pt_host.specs.Flags.{includes, cap_setgid, cap_setuid}
use Rattle.pt_host.specs.Call.{Call}
use Rattle.pt_host.specs.Seat.{kept_id}
use Rattle.pt_host.specs.SeatCalls.{SeatRow, seat_row}
use Rattle.pt_host.specs.SeatStep.{SeatStep, RowAnswers, row_left, seat_left}
use Rattle.pt_host.specs.SeatAnswer.{answered_by, seat_answer}
use Rattle.pt_host.specs.Promises.{FitsCall, IsPromised}
use Rattle.pt_host.specs.declared.ids.Errno.{Errno}
use Rattle.pt_host.specs.declared.seat.HostSeat.{HostSeat}
use Rattle.pt_host.specs.declared.op.KeptHostOp.TheVariants as call
use Rattle.pt_host.specs.declared.reply.HostReply.{HostReply}
use Rattle.pt_host.specs.declared.reply.HostReply.TheVariants as reply
use Rattle.pt_host.specs.declared.reply.HostValue.{HostValue}

-- the rules refuse nothing that is owed, and what is told is of the call's kind
pub record IsFairRow (asked : Call) (row : SeatRow) : Type 0 where
  pub owed : row.allowed ≡ false → row.owed ≡ false
  pub fits : FitsCall asked row.tells

-- an id that may not be taken is not the third one
third : (by kept real eff saved : Bool) → ((((by || kept) || real) || eff) || saved) ≡ false → real ≡ false
third true kept real eff saved denied = absurd (cc)
third false true real eff saved denied = absurd (cc)
third false false true eff saved denied = absurd (cc)
third false false false eff saved denied = refl

some_row : (P : SeatRow → Type 0) (x y : SeatRow) → Some x ≡ Some y → P x → P y
some_row P x y e p = subst P (same_Some x y e) p

pub row_fair : (seat : HostSeat) (asked : Call) (row : SeatRow) → seat_row seat asked ≡ Some row →
    IsFairRow asked row
row_fair seat (call.SetGroups list) row is =
    some_row (IsFairRow (call.SetGroups list)) _ row is (record { owed = λ denied. denied; fits = tt })
row_fair seat (call.SetEgid gid) row is =
    some_row (IsFairRow (call.SetEgid gid)) _ row is (record {
      owed = third (includes seat.eff_caps.0 cap_setgid) (gid == kept_id) (gid == seat.real_gid)
          (gid == seat.eff_gid) (gid == seat.saved_gid);
      fits = tt;
    })
row_fair seat (call.SetEuid uid) row is =
    some_row (IsFairRow (call.SetEuid uid)) _ row is (record {
      owed = third (includes seat.eff_caps.0 cap_setuid) (uid == kept_id) (uid == seat.real_uid)
          (uid == seat.eff_uid) (uid == seat.saved_uid);
      fits = tt;
    })
row_fair seat (call.RaiseCap caps) row is =
    some_row (IsFairRow (call.RaiseCap caps)) _ row is (record { owed = λ denied. denied; fits = tt })
row_fair seat (call.DropCap caps) row is =
    some_row (IsFairRow (call.DropCap caps)) _ row is (record { owed = λ denied. refl; fits = tt })
row_fair seat (call.SetUmask mask) row is =
    some_row (IsFairRow (call.SetUmask mask)) _ row is (record {
      owed = λ denied. (let e : true ≡ false = denied in cc);
      fits = tt;
    })
row_fair seat asked row is = absurd (cc)

-- what a row answers is promised
module _ (faults : ℕ) (seat : HostSeat) (asked : Call) where
  abbrev IsKept : HostReply × HostSeat → Type 0
  IsKept both = IsPromised faults seat asked both.0 faults both.1

  row_kept : (row : SeatRow) (allowed : Bool) → row.allowed ≡ allowed → seat_row seat asked ≡ Some row →
      IsKept (answered_by seat (record row { allowed = allowed }))
  row_kept row true may is =
      let fair = row_fair seat asked row is in
      record {
        never_falls = omega arith;
        allowed = fair.fits;
        fails = tt;
        seats = record {
          answers = subst (λ (r : Option SeatRow). RowAnswers r (reply.Ok row.tells)) (sym is) (may, refl);
          leaves = sym (ap (row_left seat) is);
        };
      }
  row_kept row false may is =
      let fair = row_fair seat asked row is in
      record {
        never_falls = omega arith;
        allowed = tt;
        fails = tt;
        seats = record {
          answers = subst (λ (r : Option SeatRow). RowAnswers r (reply.Refused row.errno)) (sym is) (fair.owed may);
          leaves = refl;
        };
      }

  kept_by : (found : Option SeatRow) → seat_row seat asked ≡ found → (told : HostReply) (after : HostSeat) →
      option_map (answered_by seat) found ≡ Some (told, after) → IsPromised faults seat asked told faults after
  kept_by None is told after e = absurd (cc)
  kept_by (Some row) is told after e =
      subst IsKept (same_Some (answered_by seat row) (told, after) e) (row_kept row row.allowed refl is)

pub answered : (faults : ℕ) (seat : HostSeat) (asked : Call) (told : HostReply) (after : HostSeat) →
    seat_answer seat asked ≡ Some (told, after) → IsPromised faults seat asked told faults after
answered faults seat asked told after e = kept_by faults seat asked (seat_row seat asked) refl told after e

-- it is answered Ok, as fits it, or refused
module _ (seat : HostSeat) (asked : Call) (P : HostReply → Type 0)
    (passes : (told : HostValue) → FitsCall asked told → P (reply.Ok told))
    (refuses : (errno : Errno) → P (reply.Refused errno)) where
  answered_where : (row : SeatRow) (allowed : Bool) → FitsCall asked row.tells →
      P (answered_by seat (record row { allowed = allowed })).0
  answered_where row true fits = passes row.tells fits
  answered_where row false fits = refuses row.errno

  answered_row : (found : Option SeatRow) → seat_row seat asked ≡ found → (told : HostReply × HostSeat) →
      option_map (answered_by seat) found ≡ Some told → P told.0
  answered_row None is told e = absurd (cc)
  answered_row (Some row) is told e =
      subst (λ (both : HostReply × HostSeat). P both.0) (same_Some (answered_by seat row) told e)
      (answered_where row row.allowed (row_fair seat asked row is).fits)

  pub answered_as : (told : HostReply × HostSeat) → seat_answer seat asked ≡ Some told → P told.0
  answered_as told e = answered_row (seat_row seat asked) refl told e

-- ---- any other call

no_row : (seat : HostSeat) (found : Option SeatRow) → option_map (answered_by seat) found ≡ None → found ≡ None
no_row seat None e = refl
no_row seat (Some row) e = absurd (cc)

left_other : (seat : HostSeat) (asked : Call) (told : HostReply) → seat_row seat asked ≡ None →
    seat ≡ seat_left seat asked told
left_other seat asked (reply.Ok told) none = sym (ap (row_left seat) none)
left_other seat asked (reply.Refused errno) none = refl
left_other seat asked (reply.Fault errno) none = refl
left_other seat asked reply.NoMemory none = refl

pub unanswered : (seat : HostSeat) (asked : Call) (told : HostReply) → seat_answer seat asked ≡ None →
    SeatStep seat asked told seat
unanswered seat asked told e =
    let none = no_row seat (seat_row seat asked) e in
    record {
      answers = subst (λ (r : Option SeatRow). RowAnswers r told) (sym none) tt;
      leaves = left_other seat asked told none;
    }

-- ---- a call that is not Ok

fault_answers : (found : Option SeatRow) (errno : Errno) → RowAnswers found (reply.Fault errno)
fault_answers None errno = tt
fault_answers (Some row) errno = tt

pub faulted_seat : (seat : HostSeat) (asked : Call) (errno : Errno) → SeatStep seat asked (reply.Fault errno) seat
faulted_seat seat asked errno = record { answers = fault_answers (seat_row seat asked) errno; leaves = refl }

lack_answers : (found : Option SeatRow) → RowAnswers found reply.NoMemory
lack_answers None = tt
lack_answers (Some row) = tt

pub lacking_seat : (seat : HostSeat) (asked : Call) → SeatStep seat asked reply.NoMemory seat
lacking_seat seat asked = record { answers = lack_answers (seat_row seat asked); leaves = refl }
