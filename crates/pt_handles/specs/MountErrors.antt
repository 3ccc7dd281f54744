-- Believed. Why a mount has no descriptor, and the error that tells it.
use Rattle.std.specs.Prelude.{ℕ, Bool, true, false, List, [], ◌++◌, codes, decimal, Option, Some, None}
use Rattle.std.specs.Prelude.{if◌then◌else◌}
use Rattle.pt_host.specs.Errno.{einval, eio, enomem, eoverflow}
use Rattle.pt_host.specs.declared.ids.Errno.{Errno}
use Rattle.pt_handles.specs.Texts.{errno_text}
use Rattle.pt_handles.specs.declared.mount_cause.MountCause.{MountCause}
use Rattle.pt_handles.specs.declared.mount_cause.MountCause.TheVariants as cause
use Rattle.pt_handles.specs.declared.mount_error.MPRError.{MPRError}

abbrev pub errno_of_cause : MountCause → Errno
errno_of_cause (cause.NotRead errno) = errno
errno_of_cause cause.NotUtf8 = eio
errno_of_cause cause.NotListed = einval
errno_of_cause (cause.HasNul place) = einval
errno_of_cause (cause.NotOpened errno) = errno
errno_of_cause (cause.NoStatus errno) = errno
errno_of_cause (cause.OtherMount id) = eio
errno_of_cause cause.OtherKind = eio
errno_of_cause (cause.NotReopened errno) = errno
errno_of_cause cause.TooManyHolders = eoverflow
errno_of_cause cause.Memory = enomem

-- how it is told of the mount of this id, whose mount point is this
abbrev pub description : ℕ → List ℕ → MountCause → List ℕ
description id point (cause.NotRead errno) = codes "Failed to read /proc/self/mountinfo: " ++ errno_text errno
description id point cause.NotUtf8 = codes "Failed to read /proc/self/mountinfo: not UTF-8"
description id point cause.NotListed = codes "Failed to find mount root for mount ID " ++ decimal id
description id point (cause.HasNul place) =
    codes "Failed to convert \"" ++ (point ++ (codes "\" to a CString: nul byte at " ++ decimal place))
description id point (cause.NotOpened errno) =
    codes "Failed to open mount point \"" ++ (point ++ (codes "\": " ++ errno_text errno))
description id point (cause.NoStatus errno) =
    codes "Failed to stat mount point \"" ++ (point ++ (codes "\": " ++ errno_text errno))
description id point (cause.OtherMount other) =
    codes "Mount point's (" ++ (point ++ (codes ") mount ID (" ++ (decimal other
    ++ (codes ") does not match expected value (" ++ (decimal id ++ codes ")")))))
description id point cause.OtherKind =
    codes "Mount point \"" ++ (point ++ codes "\" is not a regular file or directory")
description id point (cause.NotReopened errno) =
    codes "Failed to reopen mount point \"" ++ (point ++ (codes "\" for reading: " ++ errno_text errno))
description id point cause.TooManyHolders = errno_text eoverflow
description id point cause.Memory = errno_text enomem

-- the mount point is known and to blame
abbrev pub blames_point : MountCause → Bool
blames_point (cause.NotRead errno) = false
blames_point cause.NotUtf8 = false
blames_point cause.NotListed = false
blames_point (cause.HasNul place) = true
blames_point (cause.NotOpened errno) = true
blames_point (cause.NoStatus errno) = true
blames_point (cause.OtherMount id) = true
blames_point cause.OtherKind = true
blames_point (cause.NotReopened errno) = true
blames_point cause.TooManyHolders = false
blames_point cause.Memory = false

-- a silent error tells no mount point
abbrev pub point_shown : Bool → List ℕ → MountCause → Option (List ℕ)
point_shown silent point why = if silent then None else (if blames_point why then Some point else None)

abbrev pub error_by : ℕ → List ℕ → MountCause → Bool → MPRError
error_by id point why silent = record {
  errno = errno_of_cause why;
  description = description id point why;
  silent = silent;
  fs_mount_id = Some id;
  fs_mount_root = point_shown silent point why;
}

-- the error of a mount whose cause is another's
abbrev pub error_with : ℕ → Errno → Bool → Option (List ℕ) → MPRError
error_with id errno silent point = record {
  errno = errno;
  description = errno_text errno;
  silent = silent;
  fs_mount_id = Some id;
  fs_mount_root = point;
}

-- which mount it is, in front of a description
abbrev pub mount_text : (List ℕ → List ℕ) → Option ℕ → Option (List ℕ) → List ℕ
mount_text written None None = []
mount_text written (Some id) None = codes "Filesystem with mount ID " ++ (decimal id ++ codes ": ")
mount_text written None (Some point) = codes "Filesystem mounted on \"" ++ (written point ++ codes "\": ")
mount_text written (Some id) (Some point) =
    codes "Filesystem mounted on \"" ++ (written point ++ (codes "\" (mount ID: " ++ (decimal id ++ codes "): ")))

-- with its paths and description written so
abbrev pub mount_error_text : (List ℕ → List ℕ) → MPRError → List ℕ
mount_error_text written error =
    mount_text written error.fs_mount_id error.fs_mount_root ++ written error.description
