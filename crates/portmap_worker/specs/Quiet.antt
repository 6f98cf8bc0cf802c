-- The condition under which no event of a link can be missed: profile. Assumed of the system: a poll reports once what arrives after a call
-- that would have blocked, or after it was asked to report the stream, and what is there when it is asked.
use Rattle.std.specs.Prelude.{◌≡◌, ℕ, Bool, true, false, ◌&&◌, cond, Option, Some, None, IfSome, List, [], ◌∷◌, ◌++◌, fold, map}
use Rattle.std.specs.Prelude.{Result, Ok, Err}
use Rattle.std.specs.declared.io.Error.{Error}
use Rattle.portmap_link.specs.declared.device.Put.{TheVariants.{Later}}
use Rattle.portmap_worker.specs.declared.readiness.Note.{Note, TheVariants.{Read, Reported, Watched, Wrote}}
use Rattle.portmap_worker.specs.declared.system.Interest.{Interest, TheVariants.{Both, Reading}}

-- The note of a call of `watch`: none if the poll refused.
abbrev pub watches : {A : Type 0} → Result A Error → Interest → List Note
watches (Ok answer) interest = Watched interest ∷ []
watches (Err fault) interest = []

-- The key and interest that a poll has accepted with this result of `watch`.
abbrev pub taken : {A : Type 0} → ℕ → Result A Error → Interest → List (ℕ × Interest)
taken key (Ok answer) interest = (key, interest) ∷ []
taken key (Err fault) interest = []

-- Between two lists of what a poll watches, it has accepted interests under this key alone, and these alone are noted.
abbrev pub AreTaken : ℕ → Option (List (ℕ × Interest)) → Option (List (ℕ × Interest)) → List Note → List Note → Type 0
AreTaken key old new before after =
    (interests : List Interest) × (after ≡ before ++ map Watched interests)
    × IfSome old (λ watched. new ≡ Some (watched ++ map (λ interest. (key, interest)) interests))

-- The interest that the poll has accepted last, if any.
abbrev pub asks : Option Interest → Note → Option Interest
asks before (Watched interest) = Some interest
asks before note = before

abbrev pub asked : List Note → Option Interest
asked notes = fold asks None notes

-- Bytes of the last write wait to be written.
abbrev pub leaves : Bool → Note → Bool
leaves before (Wrote Later would_wait) = true
leaves before (Wrote answer would_wait) = false
leaves before note = before

abbrev pub is_left : List Note → Bool
is_left notes = fold leaves false notes

-- A poll that watches the stream is still to report bytes to read.
abbrev pub read_due_after : Bool → Note → Bool
read_due_after before Reported = false
read_due_after before (Watched interest) = true
read_due_after before (Read would_wait) = would_wait
read_due_after before (Wrote answer would_wait) = before

abbrev pub is_read_due : List Note → Bool
is_read_due notes = fold read_due_after false notes

-- A poll that watches the stream is still to report room to write.
abbrev pub room_due_after : Bool → Note → Bool
room_due_after before Reported = false
room_due_after before (Watched interest) = true
room_due_after before (Read would_wait) = before
room_due_after before (Wrote answer would_wait) = would_wait

abbrev pub is_room_due : List Note → Bool
is_room_due notes = fold room_due_after false notes

-- The interest covers what is awaited: room if bytes wait to be written, and otherwise bytes to read.
abbrev pub covers : Bool → Option Interest → Bool
covers left None = false
covers left (Some Both) = true
covers true (Some Reading) = false
covers false (Some Reading) = true

-- No event can be missed: the poll watches what is awaited, and is still to report it.
abbrev pub is_quiet : List Note → Bool
is_quiet notes = covers (is_left notes) (asked notes) && cond (is_left notes) (is_room_due notes) (is_read_due notes)
