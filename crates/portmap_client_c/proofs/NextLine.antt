-- Lemmas: a line of a list, and the offset of the next line.
use Rattle.std.specs.Prelude.{codes, position, slice_index_or}
use Rattle.std.proofs.Common.{◌≡◌, ℕ, suc, ◌+◌, ◌-◌, ◌<◌, ◌≤◌, List, [], ◌∷◌, ◌++◌, length, take, drop, None, Some}
use Rattle.std.proofs.{Common.{refl, sym, ap, subst, ◌∙◌, arith, append_assoc}, Math.Seq.take-append-add}
use Rattle.std.proofs.lemmas.List.{length-append, length-take, take-append-drop, drop-take, drop-drop}
use Rattle.portmap_wire.specs.ListReading.{HasNoNewline, HasNoReading, IsCut, IsList, IsListFault, IsStrange, Lists}
use Rattle.portmap_wire.specs.{ListReading.{ListsTo, ReadsLine, is_newline}, declared.list.Line.Line}
use Rattle.portmap_wire.specs.declared.list_reading.ListFault.{ListFault}
use Rattle.portmap_wire.proofs.LineLemmas.{cut_at, not_cut, lists_once, strange_cut, strange_uncut}
use Rattle.portmap_wire.specs.declared.list_reading.ListFault.TheVariants as fault
use Rattle.portmap_client_c.specs.{Answers.text_in, Lists.{IsLineFault, IsNextLine, IsOneLine, IsReadingFault}}
use Rattle.portmap_client_c.specs.{Status.line_status, declared.node.EpmdText.EpmdText}
use Rattle.portmap_client_c.specs.declared.status.TheConstants.{EPMD_STRANGE_LINE, EPMD_NO_MEMORY}
use Rattle.portmap_client_c.proofs.Offsets.{lies_at}

-- ---- a text of one line

-- The text is cut at its only byte 10.
only_cut : (a b c : List ℕ) → HasNoNewline c → a ++ 10 ∷ b ≡ c ++ 10 ∷ [] → a ≡ c
only_cut [] b [] plain e = refl
only_cut [] b (y ∷ c) plain e = absurd (plain 0 y (omega arith) cc)
only_cut (x ∷ a) b [] plain e = absurd (omega (arith, ap length e, length-append a (10 ∷ b)))
only_cut (x ∷ a) b (y ∷ c) plain e =
    let first : x ≡ y = cc in
    let rest = only_cut a b c (λ k d lt. plain (suc k) d (omega arith)) cc in
    λ i. first i ∷ rest i

first_reads : (text prefix : List ℕ) (line : Line) (lines : List Line) → ListsTo text (line ∷ lines) [] → IsOneLine text prefix
    → ReadsLine prefix line
first_reads text prefix line lines l one =
    subst (λ (t : List ℕ). ReadsLine t line) (only_cut l.0 l.1 prefix one.front_is (sym l.2 ∙ one.text_is)) l.3

behind_head : (list : List ℕ) (port : ℕ) (lines : List Line) (l : Lists list port lines) → ListsTo (drop 4 list) lines []
behind_head list port lines l = subst (λ (t : List ℕ). ListsTo t lines []) (sym (ap (λ (t : List ℕ). drop 4 t) l.bytes_are)) l.lines_are

not_empty : (text prefix : List ℕ) → text ≡ [] → IsOneLine text prefix → ⊥
not_empty text prefix e one = omega (arith, ap length e, ap length one.text_is, length-append prefix (10 ∷ []))

-- The first line of a list is read.
pub reads_first : (list prefix : List ℕ) (port : ℕ) (lines : List Line) (line : Line) → Lists list port lines → 0 < length lines
    → line ≡ slice_index_or lines 0 line → IsOneLine (drop 4 list) prefix → ReadsLine prefix line
reads_first list prefix port [] line l some is one = absurd (omega (arith, some))
reads_first list prefix port (m ∷ lines) line l some is one =
    subst (ReadsLine prefix) (sym is) (first_reads (drop 4 list) prefix m lines (behind_head list port (m ∷ lines) l) one)

-- A list of one line has a line that can be read.
reads_list : (list prefix : List ℕ) (port : ℕ) (lines : List Line) → Lists list port lines → IsOneLine (drop 4 list) prefix
    → (line : Line) × ReadsLine prefix line
reads_list list prefix port [] l one = absurd (not_empty (drop 4 list) prefix (behind_head list port [] l) one)
reads_list list prefix port (m ∷ lines) l one = (m, first_reads (drop 4 list) prefix m lines (behind_head list port (m ∷ lines) l) one)

pub reads_none : (list prefix : List ℕ) (f : ListFault) → 4 ≤ length list → IsListFault list f → (f ≡ fault.NoMemory → IsList list)
    → IsOneLine (drop 4 list) prefix → IsReadingFault prefix f
reads_none list prefix fault.Short long h memory one = absurd (omega (arith, long, h))
reads_none list prefix (fault.StrangeLine at) long h memory one = λ line r.
    let text_is : h.text ≡ prefix ++ 10 ∷ [] = sym (ap (λ (t : List ℕ). drop 4 t) h.bytes_are) ∙ one.text_is in
    let lists : Lists list h.port (line ∷ []) =
    record { port_is = h.port_is; text = h.text; bytes_are = h.bytes_are; lines_are = (prefix, [], text_is, r, refl) } in
    let never : fault.StrangeLine at ≡ fault.NoMemory = (lists_once list h.port (line ∷ []) lists).faultless (fault.StrangeLine at) h in
    cc
reads_none list prefix fault.NoMemory long h memory one = let l = memory refl in reads_list list prefix l.0 l.1 l.2 one

-- ---- the line at an offset

assoc : (t n m p d z : List ℕ) → t ++ (n ++ m ++ p ++ d ++ z) ≡ t ++ n ++ m ++ (p ++ d ++ z)
assoc t n m p d z =
    let inner : n ++ m ++ p ++ d ++ z ≡ n ++ (m ++ (p ++ d ++ z)) =
    append_assoc (n ++ m ++ p) d z ∙ append_assoc (n ++ m) p (d ++ z) ∙ append_assoc n m (p ++ (d ++ z))
    ∙ ap (λ (u : List ℕ). n ++ (m ++ u)) (sym (append_assoc p d z)) in
    ap (λ (u : List ℕ). t ++ u) inner ∙ sym (append_assoc t n (m ++ (p ++ d ++ z))) ∙ sym (append_assoc (t ++ n) m (p ++ d ++ z))

module _ (bytes : List ℕ) (at size : ℕ) (found : Some size ≡ position is_newline (drop at bytes)) where
  pub cut : IsCut (drop at bytes) (take size (drop at bytes)) (drop 1 (drop size (drop at bytes)))
  cut = cut_at (drop at bytes) size found

  -- The length of the line.
  pub size_is : length (take size (drop at bytes)) ≡ size
  size_is = omega (
    arith,
    ap length cut.text_is,
    length-append (take size (drop at bytes)) (10 ∷ drop 1 (drop size (drop at bytes))),
    length-take size (drop at bytes),
  )

  one_more : take (size + 1) (drop at bytes) ≡ take size (drop at bytes) ++ 10 ∷ []
  one_more =
      let prefix = take size (drop at bytes) in
      let after = drop 1 (drop size (drop at bytes)) in
      ap (λ (t : List ℕ). take (size + 1) t) cut.text_is ∙ ap (λ (n : ℕ). take (n + 1) (prefix ++ 10 ∷ after)) (sym size_is)
      ∙ take-append-add prefix (10 ∷ after) 1

  -- With the four bytes before it, the line is a list of one line.
  pub window : 4 ≤ at → IsOneLine (drop 4 (take (at + size + 1 - (at - 4)) (drop (at - 4) bytes))) (take size (drop at bytes))
  window from =
      let place : at - 4 + 4 ≡ at = omega (arith, from) in
      let long : at + size + 1 - (at - 4) ≡ 4 + (size + 1) = omega (arith, from) in
      record {
        text_is = ap (λ (n : ℕ). drop 4 (take n (drop (at - 4) bytes))) long ∙ drop-take 4 (size + 1) (drop (at - 4) bytes)
            ∙ ap (λ (t : List ℕ). take (size + 1) t) (drop-drop 4 (at - 4) bytes ∙ ap (λ (n : ℕ). drop n bytes) place) ∙ one_more;
        front_is = cut.front_is;
      }

  behind : drop 1 (drop size (drop at bytes)) ≡ drop (at + size + 1) bytes
  behind = ap (λ (t : List ℕ). drop 1 t) (drop-drop size at bytes) ∙ drop-drop 1 (at + size) bytes

  -- The bytes before the name.
  head : List ℕ
  head = take at bytes ++ codes "name "

  head_size : at ≤ length bytes → length head ≡ at + 5
  unfolding head
  head_size to = omega (arith, length-append (take at bytes) (codes "name "), length-take at bytes, to)

  module _ (line : Line) (to : at ≤ length bytes) (reads : ReadsLine (take size (drop at bytes)) line) where
    name_of : EpmdText
    name_of = record { at = at + 5; size = length line.name }

    rest : List ℕ
    rest = codes " at port " ++ reads.shape.digits ++ 10 ∷ drop 1 (drop size (drop at bytes))

    named : bytes ≡ head ++ line.name ++ rest
    unfolding head rest
    named =
        let after = 10 ∷ drop 1 (drop size (drop at bytes)) in
        sym (take-append-drop at bytes) ∙ ap (λ (t : List ℕ). take at bytes ++ t)
        (cut.text_is ∙ ap (λ (t : List ℕ). t ++ after) reads.shape.text_is)
        ∙ assoc (take at bytes) (codes "name ") line.name (codes " at port ") reads.shape.digits after

    named_in : text_in bytes name_of ≡ line.name
    unfolding name_of
    named_in = lies_at bytes head line.name rest (record { at = at + 5; size = length line.name }) named (sym (head_size to)) refl

    name_fits : 5 + length line.name ≤ size
    name_fits =
        omega (
          arith,
          size_is,
          ap length reads.shape.text_is,
          length-append (codes "name " ++ line.name ++ codes " at port ") reads.shape.digits,
          length-append (codes "name " ++ line.name) (codes " at port "),
          length-append (codes "name ") line.name,
        )

    -- The line is the next line.
    pub next_line : IsNextLine bytes at (at + size + 1)
        (record { name = record { at = at + 5; size = length line.name }; port = line.port })
    unfolding name_of
    next_line = record {
      prefix = take size (drop at bytes);
      text_is = cut.text_is ∙ ap (λ (t : List ℕ). take size (drop at bytes) ++ 10 ∷ t) behind;
      reads = subst (λ (n : List ℕ). ReadsLine (take size (drop at bytes)) (record { name = n; port = line.port })) (sym named_in) reads;
      next_is = omega (arith, size_is);
      name_from = omega arith;
      name_to = omega (arith, name_fits);
    }

-- ---- the reason for which no line was read

strange_fault : (text : List ℕ) → IsStrange text → IsLineFault text EPMD_STRANGE_LINE
strange_fault text s = record {
  strange = λ _. s;
  memory = λ e. absurd (let other : EPMD_STRANGE_LINE ≡ EPMD_NO_MEMORY = e in cc);
  no_other = λ other. absurd (other refl);
}

pub uncut_fault : (text : List ℕ) → 0 < length text → None ≡ position is_newline text → IsLineFault text EPMD_STRANGE_LINE
uncut_fault text some e = strange_fault text (strange_uncut text some (not_cut text e))

cut_fault : (text prefix after : List ℕ) → IsCut text prefix after → HasNoReading prefix → IsLineFault text EPMD_STRANGE_LINE
cut_fault text prefix after cut unread = strange_fault text (strange_cut text prefix after cut unread)

pub line_fault : (text prefix after : List ℕ) (f : ListFault) → IsCut text prefix after → IsReadingFault prefix f
    → IsLineFault text (line_status f)
line_fault text prefix after fault.Short cut unread = cut_fault text prefix after cut unread
line_fault text prefix after (fault.StrangeLine at) cut unread = cut_fault text prefix after cut unread
line_fault text prefix after fault.NoMemory cut read =
    record {
      strange = λ e. absurd (let other : EPMD_NO_MEMORY ≡ EPMD_STRANGE_LINE = e in cc);
      memory = λ _. (prefix, after, read.0, cut.text_is, read.1);
      no_other = λ _. refl;
    }
