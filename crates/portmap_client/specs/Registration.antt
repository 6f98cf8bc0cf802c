-- The parts of a registration.
use Rattle.std.specs.Prelude.{ℕ, Result, Ok, Err}
use Rattle.portmap_client.specs.declared.fault.ClientFault.{ClientFault}
use Rattle.portmap_client.specs.declared.registration.Registration.{Registration}

abbrev pub stream_of : {S : Type 0} → Registration S → S
stream_of r = r.stream

abbrev pub creation_of : {S : Type 0} → Registration S → ℕ
creation_of r = r.creation

-- The stream after `make`: the registration keeps it, or the error returns it.
abbrev pub stream_after : {S : Type 0} → Result (Registration S) (ClientFault × S) → S
stream_after (Ok r) = stream_of r
stream_after (Err e) = e.1

-- The result of `make`: a creation or a fault.
abbrev pub made : {S : Type 0} → Result (Registration S) (ClientFault × S) → Result ℕ ClientFault
made (Ok r) = Ok (creation_of r)
made (Err e) = Err e.0
