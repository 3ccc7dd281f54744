-- Believed. The texts of errors, and of a descriptor that has no path to be shown by.
use Rattle.std.specs.Prelude.{ℕ, List, ◌++◌, codes, decimal, encode_utf8_all}
use Rattle.std.specs.Fmt.{signed_decimal}
use Rattle.bstr.specs.Utf8.{lossy_chars}
use Rattle.pt_host.specs.declared.ids.Fd.{Fd}
use Rattle.pt_host.specs.declared.ids.Errno.{Errno}
use Rattle.pt_handles.specs.declared.error.HandleError.{HandleError}
use Rattle.pt_handles.specs.declared.error.HandleError.TheVariants as error
use Rattle.pt_handles.specs.declared.path_error.FdPathError.{FdPathError}
use Rattle.pt_handles.specs.declared.path_error.FdPathError.TheVariants as of_fd
use Rattle.pt_handles.specs.declared.path_error.InodePathError.{InodePathError}
use Rattle.pt_handles.specs.declared.path_error.InodePathError.TheVariants as of_inode

-- a path as it is, and as it is printed: U+FFFD stands for what is no character
abbrev pub as_it_is : List ℕ → List ℕ
as_it_is path = path

abbrev pub printed : List ℕ → List ℕ
printed path = encode_utf8_all (lossy_chars path)

abbrev pub errno_text : Errno → List ℕ
errno_text errno = codes "os error " ++ signed_decimal errno.0

abbrev pub fd_text : Fd → List ℕ
fd_text fd = codes "{fd:" ++ (decimal fd.0 ++ codes "}")

-- each with its path written so

abbrev pub handle_error_text : (List ℕ → List ℕ) → HandleError → List ℕ
handle_error_text written (error.Named errno path) = written path ++ (codes ": " ++ errno_text errno)
handle_error_text written error.TooLong = codes "file handle too long"
handle_error_text written error.OutsidePrefix = codes "path is outside the prefix"
handle_error_text written (error.Host errno) = errno_text errno
handle_error_text written error.Memory = codes "no memory"

abbrev pub fd_path_text : (List ℕ → List ℕ) → FdPathError → List ℕ
fd_path_text written (of_fd.ReadLink errno) = codes "readlink: " ++ errno_text errno
fd_path_text written of_fd.TooLong = codes "Path returned from readlink is too long"
fd_path_text written (of_fd.InvalidCString place) =
    codes "readlink returned invalid path: nul byte at " ++ decimal place
fd_path_text written (of_fd.NotAFile path) = codes "Not a file (" ++ (written path ++ codes ")")
fd_path_text written (of_fd.Deleted path) = codes "Inode deleted (" ++ (written path ++ codes ")")
fd_path_text written of_fd.Memory = codes "no memory"

abbrev pub inode_path_text : (List ℕ → List ℕ) → InodePathError → List ℕ
inode_path_text written (of_inode.NoFd errno) = errno_text errno
inode_path_text written (of_inode.FdPathError why) = fd_path_text written why
inode_path_text written of_inode.OutsideRoot =
    codes "Got empty path for non-root node, so it is outside the shared directory"
