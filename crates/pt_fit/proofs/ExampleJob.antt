-- The steps of one lookup, by which all that is said of a request can be met: a name gets number 2.
use Rattle.std.proofs.Common.{◌≢◌, inl, inr, ℕ, List, [], ◌∷◌, true, None, refl, arith}
use Rattle.pt_host.specs.Words.{Takes.{here, there}, Replaces.{at, past}}
use Rattle.pt_host.specs.Errno.{einval}
use Rattle.pt_host.specs.declared.ids.Fd.{Fd}
use Rattle.pt_host.specs.declared.ids.ObjIds.{ObjIds}
use Rattle.pt_host.specs.declared.seat.HostSeat.{HostSeat}
use Rattle.pt_host.specs.declared.stat.Stat.{Stat}
use Rattle.pt_iface.specs.declared.request.Context.{Context}
use Rattle.pt_host.specs.declared.op.KeptHostOp.TheVariants as call
use Rattle.pt_host.specs.declared.reply.HostReply.TheVariants as host
use Rattle.pt_host.specs.declared.reply.HostValue.TheVariants as value
use Rattle.pt_tables.specs.Rows.{NoRow}
use Rattle.pt_tables.specs.Tables.{Tables, HasIds, nothing_agreed}
use Rattle.pt_tables.specs.declared.row.Row.{Row}
use Rattle.pt_tables.specs.declared.form.RowForm.TheVariants.{File}
use Rattle.pt_tables.specs.declared.event.KeptEvent.TheVariants as change
use Rattle.pt_tables.specs.declared.reply.Resolved.{Resolved}
use Rattle.pt_tables.specs.declared.reply.EventReply.TheVariants as event
use Rattle.pt_iface.specs.declared.answer.Answer.TheVariants as answer
use Rattle.pt_iface.specs.declared.request.Request.TheVariants as request
use Rattle.pt_frame.specs.Deed.{Calls, Changes, Step}
use Rattle.pt_frame.specs.Grammar.{Belongs}
use Rattle.pt_req.specs.Entries.{entry_of}
use Rattle.pt_req.specs.Parts.{by_path, named, look_up}
use Rattle.pt_req.specs.Steps.{claim_of, new_row_of}
use Rattle.pt_job.specs.Pattern.{grammar_of}
use Rattle.pt_frame.specs.declared.act.ActReply.TheVariants.{Event, Host}
use Rattle.pt_frame.specs.declared.finish.Finish.TheVariants as finish
use Rattle.pt_req.specs.declared.plan.Plan.{Plan}
use Rattle.pt_law.specs.Told.{AllMayBeTold}
use Rattle.pt_frame.specs.Tree.{on, go_on}
use Rattle.pt_law.specs.World.{made}

abbrev fd : ℕ → Fd
fd number = record { 0 = number }

-- the letter a
abbrev name : List ℕ
name = 97 ∷ []

abbrev root_ids : ObjIds
root_ids = record { ino = 1; dev = 1; mnt_id = 1 }

abbrev root_row : Resolved
root_row = record { row = 0; form = File (fd 3); ids = root_ids; mode = 16877; class = 0 }

abbrev steps : Stat → List Step
steps stat =
    made (Changes change.Begin) (Event (event.Began 0 nothing_agreed))
    ∷ made (Changes (change.Resolve 1)) (Event (event.Resolved root_row))
    ∷ made (Calls (call.OpenAt (fd 3) name by_path 0)) (Host (host.Ok (value.Fd (fd 4))))
    ∷ made (Calls (call.Stat (fd 4))) (Host (host.Ok (value.Stat stat)))
    ∷ made (Changes (change.Claim (claim_of 0 None stat.ids))) (Event event.Absent)
    ∷ made (Changes (change.TakeFd 0)) (Event event.Taken)
    ∷ made (Changes change.DrawNode) (Event (event.Drawn 2))
    ∷ made (Changes (change.Insert (new_row_of 0 2 (File (fd 4)) stat))) (Event (event.Inserted 2))
    ∷ made (Changes (change.Unpin 0)) (Event (event.Done 0)) ∷ []

belongs : (plan : Plan) (seat : HostSeat) (who : Context) (stat : Stat) →
    Belongs (grammar_of plan seat who (request.Lookup 1 name)) (steps stat)
    (finish.Answer (answer.Entry (entry_of plan nothing_agreed root_ids stat 2)))
unfolding on go_on named look_up
belongs plan seat who stat =
    (refl, (refl, (refl, (refl, (refl, (refl, (refl, (refl, (refl, refl)))))))))

-- the tables meanwhile: the root's row has so many pins, so many slots are left, this number is drawn next, and these
-- rows were inserted before
abbrev row : ℕ → Row
row pins = record {
  serial = 0;
  number = 1;
  form = File (fd 3);
  ids = root_ids;
  mode = 16877;
  class = 0;
  count = 2;
  pins = pins;
  live = true;
}

abbrev tables : ℕ → ℕ → ℕ → List Row → Tables
tables next_number next_row slots rows = record {
  era = 0;
  next_number = next_number;
  next_handle = 0;
  next_row = next_row;
  slots = slots ∷ [];
  limits = 5 ∷ [];
  negotiated = nothing_agreed;
  rows = rows;
  handles = [];
  closing = [];
}

-- the object of the name is not the root
told : (stat : Stat) → root_ids ≢ stat.ids → AllMayBeTold (steps stat)
told stat apart =
    let pinned : List Row = row 1 ∷ [] in
    let free : NoRow (tables 2 1 4 pinned) (HasIds stat.ids) = ((λ h. apart h.1), tt) in
    let added : Row = record {
      serial = 1;
      number = 2;
      form = File (fd 4);
      ids = stat.ids;
      mode = stat.mode;
      class = 0;
      count = 1;
      pins = 0;
      live = true;
    } in (
      (tables 2 1 4 (row 0 ∷ []), tables 2 1 4 (row 0 ∷ []), (refl, refl)),
      (
        (
          tables 2 1 4 (row 0 ∷ []),
          tables 2 1 4 pinned,
          inr (row 0, ([], here), (refl, refl), inl (omega arith, (refl, (pinned, at, refl)))),
        ),
        (
          tt,
          (
            tt,
            (
              (tables 2 1 4 pinned, tables 2 1 4 pinned, inl (refl, inl (free, (refl, refl)))),
              (
                (tables 2 1 4 pinned, tables 2 1 3 pinned, inl (omega arith, (refl, refl))),
                (
                  (tables 2 1 3 pinned, tables 3 1 3 pinned, inl (omega arith, (refl, refl))),
                  (
                    (
                      tables 3 1 3 pinned,
                      tables 3 2 3 (added ∷ pinned),
                      inl (
                        refl,
                        inl (
                          free,
                          inl (
                            ((λ h. absurd (omega (arith, h.1))), tt),
                            inl (
                              omega arith,
                              inl
                                  (refl, refl),
                            ),
                          ),
                        ),
                      ),
                    ),
                    (
                      (
                        tables 3 2 3 (added ∷ pinned),
                        tables 3 2 3 (added ∷ row 0 ∷ []),
                        inr (
                          row 1,
                          (added ∷ [], there here),
                          (refl, λ e. omega (arith, e)),
                          (0, refl, inr (inl refl, refl, (added ∷ row 0 ∷ [], past at, refl))),
                        ),
                      ),
                      tt,
                    ),
                  ),
                ),
              ),
            ),
          ),
        ),
      ),
    )

-- what is no name is refused by the request itself
refuses : (plan : Plan) (seat : HostSeat) (who : Context) →
    Belongs (grammar_of plan seat who (request.Lookup 1 []))
    (made (Changes change.Begin) (Event (event.Began 0 nothing_agreed)) ∷ []) (finish.Answer (answer.Refused einval))
unfolding on go_on named
refuses plan seat who = (refl, refl)
