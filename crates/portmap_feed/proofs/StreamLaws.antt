-- The framing of a stream and its kept bytes depend only on the joined bytes.
use Rattle.std.proofs.Common.{◌≡◌, ◌≢◌, ℕ, suc, zero, ◌+◌, ◌-◌, ◌*◌, ◌≤◌, ltb, min, List, [], ◌∷◌, ◌++◌, length, take}
use Rattle.std.proofs.{Common.{refl, sym, ap, ◌∙◌, arith, rules}, Math.Seq.take-append-add}
use Rattle.std.proofs.lemmas.List.{append-nil, length-take, take_all, take-take, take_min}
use Rattle.portmap_wire.specs.declared.request.TheConstants.{BODY_MOST}
use Rattle.portmap_feed.specs.Stream.{More, sight_behind, first_request, awaited, room, kept}

-- ---- the room that is reserved

-- The kept bytes are the bytes that fit into the room.
take-room : (received : List ℕ) → take (room received) received ≡ kept received
unfolding kept room
take-room [] = refl
take-room (high ∷ []) = refl
take-room (high ∷ low ∷ behind) = take-append-add (high ∷ low ∷ []) behind (awaited (high * 256 + low))

-- Bytes that keep all of themselves fit into the room of any stream that they begin.
pub length-kept : (held piece : List ℕ) → kept held ≡ held → length held ≤ room (held ++ piece)
unfolding kept room
length-kept held piece own = search rules

-- Once the length is known, later bytes need no more room.
pub room_known : (held piece : List ℕ) → 2 ≤ length held → room (held ++ piece) ≡ room held
unfolding room
room_known held piece known = search rules

-- The kept bytes need the same room as all bytes.
pub room-kept : (received : List ℕ) → room (kept received) ≡ room received
unfolding kept room
room-kept received = search rules

-- A prefix needs no more room than the whole.
pub room-take : (n : ℕ) (held : List ℕ) → room (take n held) ≤ room held
unfolding room
room-take zero held = omega arith
room-take (suc zero) [] = omega arith
room-take (suc zero) (high ∷ []) = omega arith
room-take (suc zero) (high ∷ low ∷ behind) = omega arith
room-take (suc (suc n)) [] = omega arith
room-take (suc (suc n)) (high ∷ []) = omega arith
room-take (suc (suc n)) (high ∷ low ∷ behind) = omega arith

-- Once the framing is decided, the held bytes fill their room.
pub room_decided : (held piece : List ℕ) → first_request held ≢ More → room (held ++ piece) ≤ length held
unfolding first_request room
room_decided held piece decided = search rules

-- The held bytes, with the part of `piece` that fits after them, are the kept bytes of both.
pub kept-append : (held piece : List ℕ) (wanted : ℕ) → kept held ≡ held → wanted ≡ min (room (held ++ piece) - length held) (length piece)
    → held ++ take wanted piece ≡ kept (held ++ piece)
kept-append held piece wanted own is =
    let left : ℕ = room (held ++ piece) - length held in
    let split : length held + left ≡ room (held ++ piece) = omega (arith, length-kept held piece own) in
    let of_piece : take wanted piece ≡ take left piece = ap (λ (n : ℕ). take n piece) is ∙ take_min left piece in
    ap (λ (bytes : List ℕ). held ++ bytes) of_piece ∙ sym (take-append-add held piece left) ∙ ap (λ (n : ℕ). take n (held ++ piece)) split
    ∙ take-room (held ++ piece)

-- ---- the kept bytes determine the framing

take-append_take : (n : ℕ) (behind piece : List ℕ) → take n (take n behind ++ piece) ≡ take n (behind ++ piece)
take-append_take zero behind piece = refl
take-append_take (suc n) [] piece = refl
take-append_take (suc n) (byte ∷ behind) piece = ap (λ (bytes : List ℕ). byte ∷ bytes) (take-append_take n behind piece)

-- Of the first bytes, only their kept bytes decide what is kept of the joined bytes.
pub kept-append_kept : (received piece : List ℕ) → kept (kept received ++ piece) ≡ kept (received ++ piece)
unfolding kept
kept-append_kept received piece = search (rules, take-append_take)

pub kept-kept : (received : List ℕ) → kept (kept received) ≡ kept received
kept-kept received = ap kept (sym (append-nil (kept received))) ∙ kept-append_kept received [] ∙ ap kept (append-nil received)

ltb-length_take : (n : ℕ) (behind : List ℕ) → ltb (length (take n behind)) n ≡ ltb (length behind) n
ltb-length_take n behind = search (rules, length-take)

sight_behind-take : (n : ℕ) (behind : List ℕ) → sight_behind n (take (awaited n) behind) ≡ sight_behind n behind
sight_behind-take n behind = search (rules, ltb-length_take, take-take)

-- The kept bytes have the framing of all bytes.
pub first_request-kept : (received : List ℕ) → first_request (kept received) ≡ first_request received
unfolding first_request kept
first_request-kept received = search (rules, sight_behind-take)

-- The kept bytes are at most a length and the longest body.
pub kept_most : (received : List ℕ) → length (kept received) ≤ BODY_MOST + 2
unfolding kept
kept_most received = search (rules, length-take)

-- ---- while the request is incomplete

all_awaited : (n : ℕ) (behind : List ℕ) → sight_behind n behind ≡ More → take (awaited n) behind ≡ behind
all_awaited n behind more = search (rules, take_all)

-- While the request is incomplete every byte is kept.
pub kept_more : (received : List ℕ) → first_request received ≡ More → kept received ≡ received
unfolding first_request kept
kept_more received more = search (rules, all_awaited)

-- ---- after a cut

-- If bytes keep all of themselves, each of their prefixes does too.
pub kept-take : (n : ℕ) (held : List ℕ) → kept held ≡ held → kept (take n held) ≡ take n held
unfolding kept
kept-take zero held own = refl
kept-take (suc zero) [] own = refl
kept-take (suc zero) (high ∷ held) own = refl
kept-take (suc (suc n)) [] own = refl
kept-take (suc (suc n)) (high ∷ []) own = refl
kept-take (suc (suc n)) (high ∷ low ∷ behind) own = search (rules, take_all)
