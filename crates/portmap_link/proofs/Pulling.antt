-- Bytes are read in chunks.
use Rattle.std.proofs.Common.{◌≡◌, ◌≢◌, ℕ, ◌≤◌, List, [], ◌∷◌, ◌++◌, length, rules}
use Rattle.std.proofs.lemmas.List.{length-append, take_at}
use Rattle.portmap_feed.specs.Stream.{More, first_request}
use Rattle.portmap_link.specs.{Asking.{GoesOn, IsAskedAgain}, Once.IsJustRead}
use Rattle.portmap_link.specs.{declared.device.Pull.{Pull, TheVariants.Piece}, declared.single.TheConstants.PULL_MOST}

-- The last chunk decided the request.
pub just_read : (read piece : List ℕ) (asked earlier answered : List Pull) → first_request read ≡ More → length piece ≤ PULL_MOST
    → GoesOn IsAskedAgain asked earlier → answered ≡ earlier ++ Piece (length piece) ∷ [] → first_request (read ++ piece) ≢ More
    → IsJustRead (read ++ piece) asked answered
just_read read piece asked earlier answered more small goes_on outcome decided = search (rules, length-append, take_at)
