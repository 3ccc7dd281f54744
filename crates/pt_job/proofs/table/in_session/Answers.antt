use Rattle.pt_job.proofs.table.in_session.Goals as goal

pub returns-in-Init : goal.returns-in-Init
returns-in-Init c = rw c.in-Init.is (c.unserved.ensures _ _ c.args.session)

pub returns-in-Destroy : goal.returns-in-Destroy
returns-in-Destroy c = rw c.in-Destroy.is (c.unserved-in-Destroy.ensures _ _ c.args.session)

pub returns-in-Root : goal.returns-in-Root
returns-in-Root c = rw c.in-Root.is c.root.ensures

pub returns-in-Lookup : goal.returns-in-Lookup
returns-in-Lookup c = rw c.in-Lookup.is c.lookup.ensures

pub returns-in-Forget : goal.returns-in-Forget
returns-in-Forget c = rw c.in-Forget.is c.forget.ensures

pub returns-in-BatchForget : goal.returns-in-BatchForget
returns-in-BatchForget c = rw c.in-BatchForget.is c.batch_forget.ensures

pub returns-in-Open : goal.returns-in-Open
returns-in-Open c = rw c.in-Open.is c.open.ensures

pub returns-in-OpenDir : goal.returns-in-OpenDir
returns-in-OpenDir c = rw c.in-OpenDir.is c.opendir.ensures

pub returns-in-Release : goal.returns-in-Release
returns-in-Release c = rw c.in-Release.is c.release.ensures

pub returns-in-ReleaseDir : goal.returns-in-ReleaseDir
returns-in-ReleaseDir c = rw c.in-ReleaseDir.is c.release-in-ReleaseDir.ensures

pub returns-in-Read : goal.returns-in-Read
returns-in-Read c = rw c.in-Read.is c.read.ensures

pub returns-in-Write : goal.returns-in-Write
returns-in-Write c = rw c.in-Write.is (c.write.ensures c.args.session)

pub returns-in-Create : goal.returns-in-Create
returns-in-Create c = rw c.in-Create.is c.create.ensures

pub returns-in-Mkdir : goal.returns-in-Mkdir
returns-in-Mkdir c = rw c.in-Mkdir.is c.mkdir.ensures

pub returns-in-Mknod : goal.returns-in-Mknod
returns-in-Mknod c = rw c.in-Mknod.is c.mknod.ensures

pub returns-in-Symlink : goal.returns-in-Symlink
returns-in-Symlink c = rw c.in-Symlink.is c.symlink.ensures

pub returns-in-Link : goal.returns-in-Link
returns-in-Link c = rw c.in-Link.is c.link.ensures

pub returns-in-Unlink : goal.returns-in-Unlink
returns-in-Unlink c = rw c.in-Unlink.is (c.unlink.ensures c.args.session)

pub returns-in-Rmdir : goal.returns-in-Rmdir
returns-in-Rmdir c = rw c.in-Rmdir.is (c.rmdir.ensures c.args.session)

pub returns-in-Rename : goal.returns-in-Rename
returns-in-Rename c = rw c.in-Rename.is (c.rename.ensures c.args.session)

pub returns-in-Readlink : goal.returns-in-Readlink
returns-in-Readlink c = rw c.in-Readlink.is (c.readlink.ensures c.args.session)

pub returns-in-StatFs : goal.returns-in-StatFs
returns-in-StatFs c = rw c.in-StatFs.is (c.statfs.ensures c.args.session)

pub returns-in-GetAttr : goal.returns-in-GetAttr
returns-in-GetAttr c = rw c.in-GetAttr.is (c.getattr.ensures c.args.session)

pub returns-in-SetAttr : goal.returns-in-SetAttr
returns-in-SetAttr c = rw c.in-SetAttr.is (c.setattr.ensures c.args.session)

pub returns-in-Access : goal.returns-in-Access
returns-in-Access c = rw c.in-Access.is (c.access.ensures c.args.session)

pub returns-in-ReadDir : goal.returns-in-ReadDir
returns-in-ReadDir c = rw c.in-ReadDir.is c.readdir.ensures

pub returns-in-Flush : goal.returns-in-Flush
returns-in-Flush c = rw c.in-Flush.is (c.flush.ensures c.args.session)

pub returns-in-Fsync : goal.returns-in-Fsync
returns-in-Fsync c = rw c.in-Fsync.is (c.fsync.ensures c.args.session)

pub returns-in-FsyncDir : goal.returns-in-FsyncDir
returns-in-FsyncDir c = rw c.in-FsyncDir.is (c.fsync-in-FsyncDir.ensures c.args.session)

pub returns-in-SyncFs : goal.returns-in-SyncFs
returns-in-SyncFs c = rw c.in-SyncFs.is c.syncfs.ensures

pub returns-in-Fallocate : goal.returns-in-Fallocate
returns-in-Fallocate c = rw c.in-Fallocate.is (c.fallocate.ensures c.args.session)

pub returns-in-Lseek : goal.returns-in-Lseek
returns-in-Lseek c = rw c.in-Lseek.is (c.lseek.ensures c.args.session)

pub returns-in-CopyFileRange : goal.returns-in-CopyFileRange
returns-in-CopyFileRange c = rw c.in-CopyFileRange.is (c.copyfilerange.ensures c.args.session)

pub returns-in-SetXattr : goal.returns-in-SetXattr
returns-in-SetXattr c = rw c.in-SetXattr.is c.setxattr.ensures

pub returns-in-GetXattr : goal.returns-in-GetXattr
returns-in-GetXattr c = rw c.in-GetXattr.is c.getxattr.ensures

pub returns-in-ListXattr : goal.returns-in-ListXattr
returns-in-ListXattr c = rw c.in-ListXattr.is c.listxattr.ensures

pub returns-in-RemoveXattr : goal.returns-in-RemoveXattr
returns-in-RemoveXattr c = rw c.in-RemoveXattr.is c.removexattr.ensures

pub returns-in-Other : goal.returns-in-Other
returns-in-Other c = rw c.in-Other.is (c.unserved-in-Other.ensures _ _ c.args.session)
