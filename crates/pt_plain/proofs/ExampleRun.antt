-- Proof. Twelve requests, served one after another: the states that the plain file system comes through.
use Rattle.std.proofs.Common.{◌≡◌, ◌≢◌, ℕ, false, List, [], ◌∷◌, Option, Some, None, inl, inr}
use Rattle.std.proofs.Common.{refl, sym, ap, ◌∙◌, arith, ⊎_elim}
use Rattle.std.proofs.lemmas.Bool.{cases_eq}
use Rattle.pt_host.specs.Errno.{enoent}
use Rattle.pt_host.specs.Names.{grown_by, led_to}
use Rattle.pt_host.specs.Tree.{Object, Tree}
use Rattle.pt_host.specs.Words.{set_at}
use Rattle.pt_host.specs.declared.seat.HostSeat.{HostSeat}
use Rattle.pt_iface.specs.declared.answer.Answer.{Answer}
use Rattle.pt_iface.specs.declared.answer.Answer.TheVariants as answer
use Rattle.pt_iface.specs.declared.entry.Attr.{Attr}
use Rattle.pt_iface.specs.declared.entry.Entry.{Entry}
use Rattle.pt_iface.specs.declared.entry.Timeout.{Timeout}
use Rattle.pt_iface.specs.declared.flags.FsOptions.{FsOptions}
use Rattle.pt_iface.specs.declared.request.Context.{Context}
use Rattle.pt_iface.specs.declared.request.Extensions.{Extensions}
use Rattle.pt_iface.specs.declared.request.Request.{Request}
use Rattle.pt_iface.specs.declared.request.Request.TheVariants as request
use Rattle.pt_req.specs.Options.{agreed_with, init_options, is_short_of, open_options}
use Rattle.pt_req.specs.declared.plan.Plan.{Plan}
use Rattle.pt_job.specs.Pattern.{Requests}
use Rattle.pt_law.proofs.Lists.{set_at_same, set_at_other}
use Rattle.pt_plain.specs.Plain.{Numbered, PlainTree, forgetting, handled_as, numbered_as}
use Rattle.pt_plain.specs.Run.{PlainJob, ServesAll, plain_start}
use Rattle.pt_plain.specs.Serves.{emptied, named_by}
use Rattle.pt_plain.proofs.Running.{asked_by, told_by}

-- an object that is neither of two has no number where these two have one
no_number : (first one second two : ℕ) (count more : ℕ) (object other held : ℕ) → object ≢ one → object ≢ two →
    set_at second (numbered_as two more) (set_at first (numbered_as one count) (λ number. None)) other
    ≡ numbered_as object held → ⊥
no_number first one second two count more object other held a b e = ⊎_elim
    (λ (q : other ≡ second). b (sym (ap object_of (sym (set_at_same later second (numbered_as two more))
    ∙ ap (set_at second (numbered_as two more) later) (sym q) ∙ e))))
    (λ (q : other ≢ second). ⊎_elim
    (λ (p : other ≡ first). a (sym (ap object_of (sym (set_at_same (λ number. None) first (numbered_as one count))
    ∙ ap later (sym p) ∙ sym (set_at_other later second (numbered_as two more) other q) ∙ e))))
    (λ (p : other ≢ first). absurd (none (sym (set_at_other (λ number. None) first (numbered_as one count) other p)
    ∙ sym (set_at_other later second (numbered_as two more) other q) ∙ e)))
    (cases_eq other first))
    (cases_eq other second)
  where
    later : ℕ → Option Numbered
    later = set_at first (numbered_as one count) (λ number. None)

    object_of : Option Numbered → ℕ
    object_of None = object
    object_of (Some it) = it.object

    none : None ≡ numbered_as object held → ⊥
    none z = cc

-- the names `a`, `b` and `d`
abbrev a : List ℕ
a = 97 ∷ []

abbrev b : List ℕ
b = 98 ∷ []

abbrev d : List ℕ
d = 100 ∷ []

module _
    (plan : Plan)
    (capable : FsOptions)
    (offers : is_short_of plan.config capable ≡ false)
    (seat : HostSeat)
    (who : Context)
    (ext : Extensions)
    (root file directory : Object)
    (attr : Attr)
    (kept : Timeout)
    (bytes : List ℕ)
    (mode umask flags : ℕ)
  where
    abbrev entry_of : ℕ → Entry
    entry_of number =
        record { inode = number; generation = 0; attr = attr; attr_timeout = kept; entry_timeout = kept }

    abbrev job : Request → Answer → PlainJob
    job asked last = record { seat = seat; asked = Requests who asked; steps = []; last = last }

    -- a shared directory with one file, `a`
    abbrev host : Tree
    host = led_to (record { objects = root ∷ file ∷ []; names = λ dir name. None; opened = λ fd. None }) 0 a (Some 1)

    abbrev jobs : List PlainJob
    jobs =
        job (request.Init capable) (answer.Inited (init_options plan.config capable))
        ∷ job (request.Lookup 1 a) (answer.Entry (entry_of 2))
        ∷ job (request.Lookup 1 a) (answer.Entry (entry_of 2))
        ∷ job (request.GetAttr 2) (answer.Attr attr kept)
        ∷ job (request.Open 2 false flags) (answer.Opened 0 (open_options plan.config flags))
        ∷ job (request.Read 2 0 4 0) (answer.Read bytes)
        ∷ job (request.Lookup 1 b) (answer.Refused enoent)
        ∷ job (request.Unlink 1 a) answer.Done
        ∷ job (request.Mkdir 1 d mode umask ext) (answer.Entry (entry_of 3))
        ∷ job (request.Release 2 0) answer.Done
        ∷ job (request.Forget 2 5) answer.NoReply
        ∷ job request.Destroy answer.NoReply
        ∷ []

    -- the session began, and the guest holds the root twice
    abbrev begun : PlainTree
    begun = record (emptied (plain_start host)) {
      agreed = agreed_with plan.config capable;
      numbers = set_at 1 (numbered_as 0 2) (λ number. None);
    }

    abbrev looked : PlainTree
    looked = record begun { numbers = set_at 2 (numbered_as 1 1) begun.numbers; numbers_below = 3 }

    abbrev again : PlainTree
    again = record looked { numbers = set_at 2 (numbered_as 1 2) looked.numbers }

    abbrev opened : PlainTree
    opened = record again { handles = set_at 0 (handled_as 2 1) again.handles; handles_below = 1 }

    abbrev gone : PlainTree
    gone = named_by opened (led_to opened.tree 0 a None)

    abbrev made : Tree
    made = led_to (grown_by gone.tree directory) 0 d (Some 2)

    abbrev entered : PlainTree
    entered =
        record (named_by gone made) { numbers = set_at 3 (numbered_as 2 1) gone.numbers; numbers_below = 4 }

    abbrev closed : PlainTree
    closed = record entered { handles = set_at 0 None entered.handles }

    abbrev forgot : PlainTree
    forgot = record closed { numbers = forgetting ((2, 5) ∷ []) closed.numbers }

    -- it forgets more than it holds, and the number is gone
    forgot_all : forgot.numbers 2 ≡ None
    unfolding set_at
    forgot_all = refl

    first_number : (other held : ℕ) → begun.numbers other ≡ numbered_as 1 held → ⊥
    unfolding set_at
    first_number other held e = no_number 1 0 1 0 2 2 1 other held (λ q. absurd (omega (arith, q)))
        (λ q. absurd (omega (arith, q))) (twice other ∙ e)
      where
        twice : (n : ℕ) → set_at 1 (numbered_as 0 2) (set_at 1 (numbered_as 0 2) (λ number. None)) n ≡ begun.numbers n
        twice n = ⊎_elim
            (λ (q : n ≡ 1). ap (set_at 1 (numbered_as 0 2) begun.numbers) q ∙ ap begun.numbers (sym q))
            (λ (q : n ≢ 1). set_at_other begun.numbers 1 (numbered_as 0 2) n q)
            (cases_eq n 1)

    served : (after : PlainTree) × ServesAll plan (asked_by jobs) (told_by jobs) (plain_start host) after
    unfolding set_at
    served = (
      emptied forgot,
      (
        begun,
        (offers, refl, (0, refl, refl)),
        (
          looked,
          (
            0,
            (2, refl),
            (1, refl, inr ((λ other k. first_number other k.0 k.1), omega arith, refl)),
          ),
          (
            again,
            (0, (2, refl), (1, refl, inl (1, refl, refl))),
            (
              again,
              (1, (2, refl), refl),
              (
                opened,
                (refl, (1, (2, refl), (omega arith, refl))),
                (
                  opened,
                  (1, refl, refl),
                  (
                    opened,
                    refl,
                    (
                      gone,
                      (0, (2, refl), (led_to opened.tree 0 a None, record { object = 1; there = refl; takes = refl }, refl)),
                      (
                        entered,
                        (
                          0,
                          (2, refl),
                          (
                            made,
                            record { what = directory; listed = omega arith; free = refl; makes = refl },
                            (2, refl, inr ((λ other k. second_number other k.0 k.1), omega arith, refl)),
                          ),
                        ),
                        (
                          closed,
                          (1, refl, refl),
                          (forgot, refl, (emptied forgot, refl, refl)),
                        ),
                      ),
                    ),
                  ),
                ),
              ),
            ),
          ),
        ),
      ),
    )
      where
        second_number : (other held : ℕ) → gone.numbers other ≡ numbered_as 2 held → ⊥
        second_number other held e = no_number 1 0 2 1 2 2 2 other held (λ q. absurd (omega (arith, q)))
            (λ q. absurd (omega (arith, q))) (same other ∙ e)
          where
            same : (n : ℕ) → set_at 2 (numbered_as 1 2) begun.numbers n ≡ gone.numbers n
            same n = ⊎_elim
                (λ (q : n ≡ 2). ap (set_at 2 (numbered_as 1 2) begun.numbers) q ∙ ap gone.numbers (sym q))
                (λ (q : n ≢ 2). set_at_other begun.numbers 2 (numbered_as 1 2) n q
                ∙ sym (set_at_other looked.numbers 2 (numbered_as 1 2) n q
                ∙ set_at_other begun.numbers 2 (numbered_as 1 1) n q))
                (cases_eq n 2)
