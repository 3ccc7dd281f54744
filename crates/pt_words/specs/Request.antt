-- Believed. The requests of a script, by their words.
use Rattle.std.specs.Prelude.{ℕ, List, [], ◌∷◌, Option, None, if◌then◌else◌, codes}
use Rattle.std.specs.Str.{bytes_eq}
use Rattle.pt_iface.specs.declared.request.Request.{Request}
use Rattle.pt_iface.specs.declared.request.Request.TheVariants.{Destroy, Root, Other}
use Rattle.pt_words.specs.Fields.{◌>>=◌, small_in, at_end}
use Rattle.pt_words.specs.Numbers.{init_in, lookup_in, forget_in, batch_forget_in}
use Rattle.pt_words.specs.Handles.{open_in, opendir_in, release_in, releasedir_in, read_in}
use Rattle.pt_words.specs.Contents.{write_in, fallocate_in, lseek_in, copyfilerange_in, flush_in, fsync_in}
use Rattle.pt_words.specs.Contents.{fsyncdir_in, syncfs_in}
use Rattle.pt_words.specs.Making.{create_in, mkdir_in, mknod_in, symlink_in}
use Rattle.pt_words.specs.Naming.{link_in, unlink_in, rmdir_in, rename_in}
use Rattle.pt_words.specs.Attributes.{readlink_in, statfs_in, getattr_in, setattr_in, access_in}
use Rattle.pt_words.specs.Xattrs.{readdir_in, setxattr_in, getxattr_in, listxattr_in, removexattr_in}

-- `other OPCODE`
abbrev pub other_in : List (List ℕ) → Option Request
other_in words = do
  opcode ← small_in words
  at_end opcode.rest (Other opcode.value)

-- a request for what an object tells, or for a change of that
unfoldable pub attribute_request_in : List ℕ → List (List ℕ) → Option Request
attribute_request_in word fields =
    if bytes_eq word (codes "readlink") then readlink_in fields
    else (if bytes_eq word (codes "statfs") then statfs_in fields
    else (if bytes_eq word (codes "getattr") then getattr_in fields
    else (if bytes_eq word (codes "setattr") then setattr_in fields
    else (if bytes_eq word (codes "access") then access_in fields else None))))

-- a request for extended attributes, or for what a directory holds, or one of the above
unfoldable pub xattr_request_in : List ℕ → List (List ℕ) → Option Request
xattr_request_in word fields =
    if bytes_eq word (codes "readdir") then readdir_in fields
    else (if bytes_eq word (codes "setxattr") then setxattr_in fields
    else (if bytes_eq word (codes "getxattr") then getxattr_in fields
    else (if bytes_eq word (codes "listxattr") then listxattr_in fields
    else (if bytes_eq word (codes "removexattr") then removexattr_in fields
    else attribute_request_in word fields))))

-- a request that gives a name or takes one away, or one of the above
unfoldable pub naming_request_in : List ℕ → List (List ℕ) → Option Request
naming_request_in word fields =
    if bytes_eq word (codes "link") then link_in fields
    else (if bytes_eq word (codes "unlink") then unlink_in fields
    else (if bytes_eq word (codes "rmdir") then rmdir_in fields
    else (if bytes_eq word (codes "rename") then rename_in fields else xattr_request_in word fields)))

-- a request that makes an object, or one of the above
unfoldable pub making_request_in : List ℕ → List (List ℕ) → Option Request
making_request_in word fields =
    if bytes_eq word (codes "create") then create_in fields
    else (if bytes_eq word (codes "mkdir") then mkdir_in fields
    else (if bytes_eq word (codes "mknod") then mknod_in fields
    else (if bytes_eq word (codes "symlink") then symlink_in fields else naming_request_in word fields)))

-- a request for what files hold, or one of the above
unfoldable pub contents_request_in : List ℕ → List (List ℕ) → Option Request
contents_request_in word fields =
    if bytes_eq word (codes "write") then write_in fields
    else (if bytes_eq word (codes "fallocate") then fallocate_in fields
    else (if bytes_eq word (codes "lseek") then lseek_in fields
    else (if bytes_eq word (codes "copyfilerange") then copyfilerange_in fields
    else (if bytes_eq word (codes "flush") then flush_in fields
    else (if bytes_eq word (codes "fsync") then fsync_in fields
    else (if bytes_eq word (codes "fsyncdir") then fsyncdir_in fields
    else (if bytes_eq word (codes "syncfs") then syncfs_in fields else making_request_in word fields)))))))

-- a request that begins or ends a handle, or reads by one, or one of the above
unfoldable pub handle_request_in : List ℕ → List (List ℕ) → Option Request
handle_request_in word fields =
    if bytes_eq word (codes "open") then open_in fields
    else (if bytes_eq word (codes "opendir") then opendir_in fields
    else (if bytes_eq word (codes "read") then read_in fields
    else (if bytes_eq word (codes "release") then release_in fields
    else (if bytes_eq word (codes "releasedir") then releasedir_in fields else contents_request_in word fields))))

-- a request of a number's life, or one of the above
unfoldable pub number_request_in : List ℕ → List (List ℕ) → Option Request
number_request_in word fields =
    if bytes_eq word (codes "lookup") then lookup_in fields
    else (if bytes_eq word (codes "forget") then forget_in fields
    else (if bytes_eq word (codes "batch_forget") then batch_forget_in fields else handle_request_in word fields))

-- a request of a session, one that there is not, or one of the above
abbrev pub request_in : List (List ℕ) → Option Request
request_in [] = None
request_in (word ∷ fields) =
    if bytes_eq word (codes "init") then init_in fields
    else (if bytes_eq word (codes "destroy") then at_end fields Destroy
    else (if bytes_eq word (codes "root") then at_end fields Root
    else (if bytes_eq word (codes "other") then other_in fields else number_request_in word fields)))
