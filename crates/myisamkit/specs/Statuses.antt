-- The statuses of a run.
use Rattle.std.specs.Prelude.{ℕ, if◌then◌else◌, nat_lt}
use Rattle.myisamkit.specs.declared.status.Status.{Status}
use Rattle.myisamkit.specs.declared.status.Status.TheVariants as status

-- the program's status
abbrev pub number_of : Status → ℕ
number_of status.Ok = 0
number_of status.Findings = 1
number_of status.Usage = 2
number_of status.Refused = 3
number_of status.Absent = 4
number_of status.FileFault = 5
number_of status.SinkFault = 6
number_of status.Memory = 7

-- the one of the greater number
abbrev pub worse : Status → Status → Status
worse a b = if nat_lt (number_of a) (number_of b) then b else a

-- these three cut a run off
abbrev pub IsFault : Status → Type 0
IsFault status.FileFault = Unit {0}
IsFault status.SinkFault = Unit {0}
IsFault status.Memory = Unit {0}
IsFault status.Ok = ⊥
IsFault status.Findings = ⊥
IsFault status.Usage = ⊥
IsFault status.Refused = ⊥
IsFault status.Absent = ⊥

-- how many faults of the files a status tells of
abbrev pub faults_told : Status → ℕ
faults_told status.FileFault = 1
faults_told status.SinkFault = 0
faults_told status.Memory = 0
faults_told status.Ok = 0
faults_told status.Findings = 0
faults_told status.Usage = 0
faults_told status.Refused = 0
faults_told status.Absent = 0
