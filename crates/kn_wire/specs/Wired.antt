-- What requests in code stand for.
use Rattle.std.specs.Prelude.{Result, Ok, Err}
use Rattle.kn_wire.specs.declared.fault.WireFault.{WireFault}
use Rattle.kn_wire.specs.declared.request.Request.{Request}
use Rattle.kn_wire.specs.declared.request.Request.TheVariants as Q
use Rattle.kn_wire.specs.Requests as D

-- what a request asks
abbrev pub request_of : Request → D.Request
request_of Q.Open = D.Open
request_of (Q.Close s) = D.Close s
request_of (Q.Pin s) = D.Pin s
request_of (Q.Assert s block) = D.Assert s block.now
request_of (Q.Retract s k) = D.Retract s k
request_of (Q.Set s name value) = D.Set s name.now value.now
request_of (Q.SetHex s name digits) = D.SetHex s name.now digits.now
request_of (Q.Unset s name) = D.Unset s name.now
request_of (Q.Auth s principal) = D.Auth s principal.now
request_of (Q.Unauth s principal) = D.Unauth s principal.now
request_of (Q.Clear s) = D.Clear s
request_of (Q.Query s values) = D.Query s values.now
request_of (Q.Watch s values) = D.Watch s values.now
request_of (Q.News s) = D.News s
request_of (Q.Unwatch s) = D.Unwatch s
request_of (Q.Critical s values) = D.Critical s values.now
request_of (Q.Admin digits) = D.Admin digits.now
request_of (Q.Add block) = D.Add block.now
request_of (Q.Drop k) = D.Drop k
request_of (Q.Batch block) = D.Batch block.now
request_of (Q.PinAt s version) = D.PinAt s version
request_of (Q.Log n) = D.Log n
request_of Q.Bye = D.Bye

-- the request, or the fault
abbrev pub request_or_fault : Result Request WireFault → D.Request
request_or_fault (Ok request) = request_of request
request_or_fault (Err fault) = D.Faulty fault
