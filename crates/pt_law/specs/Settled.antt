-- Believed. What a job was given, and that by its end it gave all of it back.
use Rattle.std.specs.Prelude.{◌≡◌, ◌≤◌, ℕ, ◌+◌, ◌*◌, List, ◌++◌}
use Rattle.pt_host.specs.Words.{is}
use Rattle.pt_iface.specs.declared.answer.Answer.TheVariants as answer
use Rattle.pt_frame.specs.Deed.{Step}
use Rattle.pt_frame.specs.Replies.{closings_in}
use Rattle.pt_frame.specs.declared.finish.Finish.{Finish}
use Rattle.pt_frame.specs.declared.finish.Finish.TheVariants as finish
use Rattle.pt_law.specs.Ledger.{summed, fd_taken, fd_given, pin_made, pin_ended, handle_pin_made, handle_pin_ended}
use Rattle.pt_law.specs.Ledger.{count_made, count_ended, closing_ended}

-- 1 where the answer is an entry of this number
abbrev pub entry_count : ℕ → Finish → ℕ
entry_count number (finish.Answer (answer.Entry entry)) = is entry.inode number
entry_count number (finish.Answer (answer.Created entry handle options)) = is entry.inode number
entry_count number end = 0

-- by these steps no more was given back than was given
pub record ReturnsGiven (steps : List Step) : Type 0 where
  pub counts : (era number : ℕ) → summed (count_ended era number) steps ≤ summed (count_made era number) steps
  pub pins : (row : ℕ) → summed (pin_ended row) steps ≤ summed (pin_made row) steps
  pub handle_pins : (row : ℕ) → summed (handle_pin_ended row) steps ≤ summed (handle_pin_made row) steps
  pub fds : (fd : ℕ) → summed (fd_given fd) steps ≤ summed (fd_taken fd) steps
  pub closings : summed closing_ended steps ≤ summed closings_in steps

-- all that a job was given it gave back, but for the number that its answer has
pub record HasSettled (steps : List Step) (end : Finish) : Type 0 where
  -- nothing before it was given
  pub in_order : (front rest : List Step) → steps ≡ front ++ rest → ReturnsGiven front
  -- a number that it was given it gave back, once each and in the same era; the era of the one that its answer has
  pub era : ℕ
  pub numbers : (other number : ℕ) →
      summed (count_made other number) steps
      ≡ summed (count_ended other number) steps + is era other * entry_count number end
  -- it unpinned each row that it had pinned, of a number and of a handle
  pub pins : (row : ℕ) → summed (pin_made row) steps ≡ summed (pin_ended row) steps
  pub handle_pins : (row : ℕ) → summed (handle_pin_made row) steps ≡ summed (handle_pin_ended row) steps
  -- each descriptor that it opened or took for closing it closed or handed to the tables
  pub fds : (fd : ℕ) → summed (fd_taken fd) steps ≡ summed (fd_given fd) steps
  -- it took each closing that it was told of
  pub closings : summed closings_in steps ≡ summed closing_ended steps
