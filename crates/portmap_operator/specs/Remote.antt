-- Requests of remote peers that are refused, and the line that names them: profile.
use Rattle.std.specs.Prelude.{ℕ, ◌≡◌, List, ◌++◌, codes, Option, Some, None}
use Rattle.portmap_wire.specs.Request.{Spells}
use Rattle.portmap_wire.specs.declared.request.Request.{Request}
use Rattle.portmap_wire.specs.declared.request.Request.TheVariants as request
use Rattle.portmap_feed.specs.Stream.{Whole, first_request}
use Rattle.portmap_operator.specs.Refused.{and_more}
use Rattle.portmap_operator.specs.declared.remote.LocalRequest.{LocalRequest, TheVariants.{Dump, Kill, Registration, Stop}}

-- The request as a request that only this host may make, if it is of that kind.
abbrev pub local_of : Request → Option LocalRequest
local_of (request.Alive node) = Some Registration
local_of request.Dump = Some Dump
local_of request.Kill = Some Kill
local_of (request.Stop name) = Some Stop
local_of asked = None

-- The first request in these bytes is complete, and is this one.
pub record AsksFor (bytes : List ℕ) (asked : LocalRequest) : Type 0 where
  pub body : List ℕ
  pub request : Request
  pub whole : first_request bytes ≡ Whole body
  pub spells : Spells body request
  pub is_local : local_of request ≡ Some asked

-- The first refused request, after one more refusal.
abbrev pub first_of : Option LocalRequest → LocalRequest → Option LocalRequest
first_of None asked = Some asked
first_of (Some first) asked = Some first

abbrev pub words_for : LocalRequest → List ℕ
words_for Registration = codes "a registration"
words_for Dump = codes "a DUMP"
words_for Kill = codes "a KILL"
words_for Stop = codes "a STOP"

-- The text for the first refused request, if it is known.
abbrev pub request_words : Option LocalRequest → List ℕ
request_words None = codes "a request"
request_words (Some asked) = words_for asked

-- The line that names the first refused request and says how many more there were.
abbrev pub remote_line : Option LocalRequest → ℕ → List ℕ
remote_line first more = codes "epmd: " ++ request_words first ++ codes " from another host was refused" ++ and_more more ++ codes "\n"
