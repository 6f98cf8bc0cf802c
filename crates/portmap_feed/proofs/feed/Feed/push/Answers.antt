use Rattle.std.proofs.Common.{◌≡◌, ◌≤◌, List, ℕ, ◌++◌, vec_capacity, ap, sym, ◌∙◌, arith, rules}
use Rattle.portmap_feed.specs.{Seen.seen_of, Stream.{first_request, kept, room}}
use Rattle.portmap_feed.proofs.StreamLaws.{kept-append_kept, kept-kept, first_request-kept, kept_more, room-kept}
use Rattle.portmap_feed.proofs.feed.Feed.push.Goals as goal

-- The bytes held after the push, from the bytes held before.
held_now : (c : goal.After-seen_in) → c.extend_from_slice.new.self.items ≡ kept (c.args.self.now ++ c.args.piece.now)
held_now c = search rules

answer_now : (c : goal.After-seen_in) → c.seen_in.result ≡ seen_of (first_request c.extend_from_slice.new.self.items)
answer_now c = search rules

pub invariant_of-self-2 : goal.invariant_of-self-2
invariant_of-self-2 c =
    let all = c.args.self.now ++ c.args.piece.now in
    let there : room all ≤ vec_capacity c.take_room.new.held = rw (sym c.self.view_is) (omega (arith, c.in_ok-take_room.ensures.exact)) in
    rw (held_now c) (kept-kept all, omega (arith, room-kept all, there, c.extend_from_slice.ensures.capacity))

-- The bytes held after the push, from all bytes received.
held_of_all : (c : goal.After-seen_in) (received : List ℕ) → c.args.self.now ≡ kept received
    → c.extend_from_slice.new.self.items ≡ kept (received ++ c.args.piece.now)
held_of_all c received was = search (rules, kept-append_kept)

pub returns-clause-seen : goal.returns-clause-seen
returns-clause-seen c = λ received was. answer_now c ∙ ap (λ (bytes : List ℕ). seen_of (first_request bytes)) (held_of_all c received was)
    ∙ ap seen_of (first_request-kept _)

pub returns-clause-kept : goal.returns-clause-kept
returns-clause-kept c = held_of_all c

pub returns-clause-joined : goal.returns-clause-joined
returns-clause-joined c = ap first_request (held_now c) ∙ first_request-kept _

pub returns-clause-more : goal.returns-clause-more
returns-clause-more c = search (rules, first_request-kept, kept_more)
