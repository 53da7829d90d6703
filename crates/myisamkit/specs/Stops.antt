-- What cuts a run off, and its status then.
use Rattle.std.specs.Prelude.{◌≡◌, Result, Err}
use Rattle.myi_dump.specs.declared.fault.DumpFault.{DumpFault}
use Rattle.myi_dump.specs.declared.fault.DumpFault.TheVariants as dump
use Rattle.myisamkit.specs.declared.status.Stop.{Stop}
use Rattle.myisamkit.specs.declared.status.Stop.TheVariants as stop
use Rattle.myisamkit.specs.declared.status.Status.{Status}
use Rattle.myisamkit.specs.declared.status.Status.TheVariants as status

abbrev pub status_of_stop : Stop → Status
status_of_stop stop.File = status.FileFault
status_of_stop stop.Sink = status.SinkFault
status_of_stop stop.Memory = status.Memory

abbrev pub stop_of_dump : DumpFault → Stop
stop_of_dump dump.File = stop.File
stop_of_dump dump.Sink = stop.Sink
stop_of_dump dump.Memory = stop.Memory

-- where the output failed, this holds
abbrev pub IfSink : {T : Type 0} → Result T Stop → Type 0 → Type 0
IfSink result P = result ≡ Err stop.Sink → P
