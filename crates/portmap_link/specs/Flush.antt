-- The effect of sending bytes.
use Rattle.std.specs.{Io.KnownBytes.Appends, Prelude.{◌≡◌, ℕ, List, [], ◌∷◌, ◌++◌, map, sum, Bool, true, false, Option}}
use Rattle.portmap_link.specs.declared.device.Put.{Put, TheVariants.{Fault as PutFault, Later as PutLater, Wrote}}
use Rattle.portmap_link.specs.declared.outbox.Flush.{Flush, TheVariants.{Empty, Fault, Later}}

-- The last result of a flush, unless all bytes were written.
abbrev pub ending_of : Flush → List Put
ending_of Empty = []
ending_of Later = PutLater ∷ []
ending_of Fault = PutFault ∷ []

abbrev pub flush_is_fault : Flush → Bool
flush_is_fault Empty = false
flush_is_fault Later = false
flush_is_fault Fault = true

-- The results after `old`: puts that wrote `count` bytes in total, and then the result that ended the flush, if any.
pub record Sends (old new : List Put) (count : ℕ) (flush : Flush) : Type 0 where
  pub counts : List ℕ
  pub total : sum counts ≡ count
  pub answers : new ≡ old ++ map Wrote counts ++ ending_of flush

-- The bytes written, followed by the bytes that wait, are the bytes that waited before.
abbrev pub Moves : Option (List ℕ) → Option (List ℕ) → List ℕ → List ℕ → Type 0
Moves old new before after = (written : List ℕ) × Appends old new written × (written ++ after ≡ before)

-- `last` is the last of the results after `old`.
pub record LastPut (old new : List Put) (last : Put) : Type 0 where
  pub before : List Put
  pub grows : new ≡ old ++ before ++ last ∷ []
