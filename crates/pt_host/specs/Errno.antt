-- Believed. The error numbers of Linux on x86-64 that the rules name.
use Rattle.std.specs.Prelude.{ℕ, pos}
use Rattle.pt_host.specs.declared.ids.Errno.{Errno}

abbrev pub errno_of : ℕ → Errno
errno_of number = record { 0 = pos number }

abbrev pub eperm : Errno
eperm = errno_of 1

abbrev pub enoent : Errno
enoent = errno_of 2

abbrev pub eio : Errno
eio = errno_of 5

abbrev pub enxio : Errno
enxio = errno_of 6

abbrev pub e2big : Errno
e2big = errno_of 7

abbrev pub ebadf : Errno
ebadf = errno_of 9

abbrev pub enomem : Errno
enomem = errno_of 12

abbrev pub eacces : Errno
eacces = errno_of 13

abbrev pub ebusy : Errno
ebusy = errno_of 16

abbrev pub eexist : Errno
eexist = errno_of 17

abbrev pub exdev : Errno
exdev = errno_of 18

abbrev pub enotdir : Errno
enotdir = errno_of 20

abbrev pub eisdir : Errno
eisdir = errno_of 21

abbrev pub einval : Errno
einval = errno_of 22

abbrev pub enfile : Errno
enfile = errno_of 23

abbrev pub efbig : Errno
efbig = errno_of 27

abbrev pub erofs : Errno
erofs = errno_of 30

abbrev pub erange : Errno
erange = errno_of 34

abbrev pub enametoolong : Errno
enametoolong = errno_of 36

abbrev pub enosys : Errno
enosys = errno_of 38

abbrev pub enotempty : Errno
enotempty = errno_of 39

abbrev pub eloop : Errno
eloop = errno_of 40

abbrev pub enodata : Errno
enodata = errno_of 61

abbrev pub eproto : Errno
eproto = errno_of 71

abbrev pub eoverflow : Errno
eoverflow = errno_of 75

abbrev pub eopnotsupp : Errno
eopnotsupp = errno_of 95

abbrev pub estale : Errno
estale = errno_of 116
