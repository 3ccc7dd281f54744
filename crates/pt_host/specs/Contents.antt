-- Believed. What a host holds beside objects, names and descriptors. After the manual pages of inode(7), xattr(7),
-- open(2) and lseek(2).
use Rattle.std.specs.Prelude.{ℕ, List, [], Option, None, pos}
use Rattle.pt_host.specs.declared.ids.Time.{Time}

pub record ObjectContents : Type 0 where
  -- what a regular file holds, or a link's target
  pub bytes : List ℕ
  -- the 0o7777 bits
  pub mode : ℕ
  pub uid : ℕ
  pub gid : ℕ
  -- what a device node stands for
  pub rdev : ℕ
  pub atime : Time
  pub mtime : Time
  pub ctime : Time
  pub xattrs : List ℕ → Option (List ℕ)

-- an open file description: where it goes on, and what it was opened for: 0 to read, 1 to write, 2 both
pub record Description : Type 0 where
  pub position : ℕ
  pub access : ℕ

-- Beside each object of the tree, and beside each descriptor that is open. What it has for others means nothing.
pub record Contents : Type 0 where
  pub objects : ℕ → ObjectContents
  pub descriptions : ℕ → Description

-- of a host that tells nothing
abbrev pub no_contents : Contents
no_contents =
    let never : Time = record { sec = pos 0; nsec = 0 } in
    record {
      objects = λ object. record {
        bytes = [];
        mode = 0;
        uid = 0;
        gid = 0;
        rdev = 0;
        atime = never;
        mtime = never;
        ctime = never;
        xattrs = λ name. None;
      };
      descriptions = λ fd. record { position = 0; access = 0 };
    }
