-- What a feed holds, and what it answers.
use Rattle.std.specs.Prelude.{◌≡◌, take, Option, Some, None, Result, Ok, Err}
use Rattle.kn_wire.specs.declared.fault.WireFault.{WireFault}
use Rattle.kn_wire.specs.declared.feed.Feed.{Feed}
use Rattle.kn_wire.specs.declared.request.Request.{Request}
use Rattle.kn_wire.specs.Cursors.{held_at}
use Rattle.kn_wire.specs.Requests as D
use Rattle.kn_wire.specs.Feeding.{Held, next_of}
use Rattle.kn_wire.specs.Wired.{request_of}

-- what a feed holds
unfoldable pub held : Feed → Held
held feed = held_at feed.cursor (take feed.end feed.buf.items)

abbrev pub request_of_some : Option Request → Option D.Request
request_of_some None = None
request_of_some (Some request) = Some (request_of request)

-- the request, or the fault, that an answer is
abbrev pub request_of_answer : Result (Option Request) WireFault → Option D.Request
request_of_answer (Ok request) = request_of_some request
request_of_answer (Err fault) = Some (D.Faulty fault)

-- nothing is answered where there is no next request, and this is held as before; or the next request, and it is spent
abbrev pub Answers : Held → Option D.Request → Held → Type 0
Answers old None new = (next_of old ≡ None) × (new ≡ old)
Answers old (Some request) new = next_of old ≡ Some (request, new)

abbrev pub IsAnswer : Held → Result (Option Request) WireFault → Held → Type 0
IsAnswer old result new = Answers old (request_of_answer result) new
