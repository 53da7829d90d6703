-- The counts of real files and of standard output, and what a failure of the system is told as.
use Rattle.std.specs.Prelude.{ℕ, vec_len}
use Rattle.std.specs.declared.io.ErrorKind.{ErrorKind}
use Rattle.std.specs.declared.io.ErrorKind.TheVariants.{OutOfMemory}
use Rattle.myi_io.specs.declared.files.FileErr.{FileErr}
use Rattle.myi_io.specs.declared.files.FileErr.TheVariants.{Failed, Memory}
use Rattle.myi_realfiles.specs.declared.real.RealFiles.{RealFiles}
use Rattle.myi_realfiles.specs.declared.real.RealSink.{RealSink}
use Rattle.myi_realfiles.specs.declared.real.RealReader.{RealReader}
use Rattle.myi_realfiles.specs.declared.real.Disk.{Disk}

-- how often a call has failed
abbrev pub real_faults : {R : Type 0} → RealFiles R → ℕ
real_faults s = s.faults

-- how often a write to standard output has failed
abbrev pub real_sink_faults : {R : Type 0} → RealSink R → ℕ
real_sink_faults s = s.faults

-- how many files are kept open
abbrev pub opened_count : {R : Type 0} → Disk R → ℕ
opened_count s = vec_len s.opened

-- how often a read of an open file has failed
abbrev pub real_reader_faults : RealReader → ℕ
real_reader_faults s = s.faults

-- want of memory is told as such, and any other failure as one
abbrev pub told_as : ErrorKind → FileErr
told_as OutOfMemory = Memory
told_as _ = Failed
