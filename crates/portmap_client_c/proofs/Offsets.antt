-- Lemmas: the offsets of the texts of a reply.
use Rattle.std.proofs.Common.{◌≡◌, ℕ, ◌+◌, ◌≤◌, List, ◌∷◌, [], ◌++◌, length, take, drop, sym, ap, ◌∙◌, arith}
use Rattle.std.proofs.{Common.append_assoc, Math.Seq.{take-append_seam, drop-append_seam}}
use Rattle.std.proofs.lemmas.List.{length-append, drop-append-le}
use Rattle.portmap_wire.specs.{Node.{Node, be2}, ReplyReading.IsFound, declared.reply_writing.TheConstants.PORT2_RESP}
use Rattle.portmap_client_c.specs.{Answers.{IsFoundIn, OffsetsIn, text_in}, Writing.node_of}
use Rattle.portmap_client_c.specs.{declared.node.EpmdFound.EpmdFound, declared.node.EpmdText.EpmdText}

-- The text between `head` and `tail`.
pub lies : (head text tail : List ℕ) → take (length text) (drop (length head) (head ++ text ++ tail)) ≡ text
lies head text tail =
    let past : drop (length head) (head ++ text ++ tail) ≡ text ++ tail =
    drop-append-le (length head) (head ++ text) tail (omega (arith, length-append head text))
    ∙ ap (λ (t : List ℕ). t ++ tail) (drop-append_seam head text) in
    ap (take (length text)) past ∙ take-append_seam text tail

-- The text at `place`, in bytes that consist of `head`, the text and `tail`.
pub lies_at : (bytes head text tail : List ℕ) (place : EpmdText) → bytes ≡ head ++ text ++ tail → place.at ≡ length head
    → place.size ≡ length text → text_in bytes place ≡ text
lies_at bytes head text tail place is at size =
    rw (is, at, size) (lies head text tail)

within : (bytes head text tail : List ℕ) (place : EpmdText) → bytes ≡ head ++ text ++ tail → place.at ≡ length head
    → place.size ≡ length text → place.at + place.size ≤ length bytes
within bytes head text tail place is at size =
    omega (arith, ap length is, at, size, length-append (head ++ text) tail, length-append head text)

-- The bytes before the name in the reply to a lookup.
prefix : Node → List ℕ
prefix g = PORT2_RESP ∷ 0 ∷ (be2 g.port ++ (g.kind ∷ g.proto ∷ []) ++ be2 g.high ++ be2 g.low ++ be2 (length g.name))

module _ (bytes : List ℕ) (g : Node) (found : EpmdFound) (is : IsFound bytes g) (places : OffsetsIn 12 2 g found) where
  by_name : bytes ≡ prefix g ++ g.name ++ (be2 (length g.extra) ++ g.extra ++ is.more)
  unfolding prefix
  by_name = is.text ∙ append_assoc (prefix g ++ g.name ++ be2 (length g.extra)) g.extra is.more
      ∙ append_assoc (prefix g ++ g.name) (be2 (length g.extra)) (g.extra ++ is.more)
      ∙ ap (λ (t : List ℕ). prefix g ++ g.name ++ t) (sym (append_assoc (be2 (length g.extra)) g.extra is.more))

  by_extra : bytes ≡ (prefix g ++ g.name ++ be2 (length g.extra)) ++ g.extra ++ is.more
  unfolding prefix
  by_extra = is.text

  name_at : found.name.at ≡ length (prefix g)
  unfolding prefix
  name_at = places.name_at

  extra_at : found.extra.at ≡ length (prefix g ++ g.name ++ be2 (length g.extra))
  unfolding prefix
  extra_at = omega (arith, places.extra_at, length-append (prefix g ++ g.name) (be2 (length g.extra)), length-append (prefix g) g.name)

  pub found_in : IsFoundIn bytes g found
  found_in =
      let behind = be2 (length g.extra) ++ g.extra ++ is.more in
      let before = prefix g ++ g.name ++ be2 (length g.extra) in
      let name = lies_at bytes (prefix g) g.name behind found.name by_name name_at places.name_size in
      let extra = lies_at bytes before g.extra is.more found.extra by_extra extra_at places.extra_size in
      record {
        node = places.node ∙ ap (λ (t : List ℕ). node_of found.node t g.extra) (sym name)
            ∙ ap (λ (t : List ℕ). node_of found.node (text_in bytes found.name) t) (sym extra);
        name = within bytes (prefix g) g.name behind found.name by_name name_at places.name_size;
        extra = within bytes before g.extra is.more found.extra by_extra extra_at places.extra_size;
      }
