-- A text has at most one division into lines that byte 10 ends.
use Rattle.std.specs.{Fmt.decimal, List.{flat_map, position_or_len}, Prelude.{All, codes, position}}
use Rattle.std.specs.Str.Parse.{AllDigits}
use Rattle.std.proofs.Common.{◌≡◌, ◌≢◌, ℕ, suc, ◌<◌, ◌^◌, List, [], ◌∷◌, ◌++◌, length, get_or, take, drop, Some, None}
use Rattle.std.proofs.{Common.{refl, sym, ap, subst, ◌∙◌, arith, append_assoc, add-one, rules}, Math.Seq.split_at}
use Rattle.std.proofs.lemmas.Bool.{eqb-false}
use Rattle.std.proofs.lemmas.Fmt.{decimal_nonempty, length-decimal-le, digits_decimal, digits_value-decimal}
use Rattle.std.proofs.lemmas.List.{append-nil, length-append, drop-drop, get_or-take}
use Rattle.std.proofs.{lemmas.List.Elements.All-from_get_or, lemmas.List.Sums.{fails_before_first, passes_at_first}}
use Rattle.std.proofs.lemmas.Str.Parse.{numerals_by_value, tells_digits, digit_from_value}
use Rattle.portmap_wire.specs.{List.{names_line, names_reply}, ListReading.{WritesPort, ReadsLine, HasNoReading}}
use Rattle.portmap_wire.specs.ListReading.{is_newline, HasNoNewline, IsCut, ListsTo, IsStrange, Lists, IsListFault}
use Rattle.portmap_wire.specs.{ListReading.{IsLine, IsReadBack, NamesAreReadBack}, Name.IsName, Reply.be4}
use Rattle.portmap_wire.specs.{declared.list.Line.Line, declared.list_reading.ListFault.ListFault}
use Rattle.portmap_wire.proofs.{ListingLemmas.one_reading, NameLemmas.each_fails}
use Rattle.portmap_wire.specs.declared.list_reading.ListFault.TheVariants as fault

-- ---- a line has no byte 10

Plain : List ℕ → Type 0
Plain [] = Unit {0}
Plain (b ∷ bs) = (b ≢ 10) × Plain bs

plain_append : (a b : List ℕ) → Plain a → Plain b → Plain (a ++ b)
unfolding Plain
plain_append [] b p q = q
plain_append (x ∷ a) b p q = (p.0, plain_append a b p.1 q)

plain_by_index : (a : List ℕ) → ((k : ℕ) → k < length a → get_or a k 0 ≢ 10) → Plain a
unfolding Plain
plain_by_index [] h = tt
plain_by_index (x ∷ a) h = (h 0 (omega arith), plain_by_index a (λ k lt. h (suc k) (omega arith)))

plain_name : (name : List ℕ) → IsName name → Plain name
plain_name name is = plain_by_index name (λ k lt e. let low = (is.each k 0 lt).0 in omega (arith, low, e))

plain_digits : (ds : List ℕ) → AllDigits 10 ds → Plain ds
unfolding Plain
plain_digits [] d = tt
plain_digits (c ∷ ds) d = ((λ e. let k = digit_from_value c d.0 in omega (arith, k, e)), plain_digits ds d.1)

plain_head : Plain (codes "name ")
unfolding Plain
plain_head = (omega arith, (omega arith, (omega arith, (omega arith, (omega arith, tt)))))

plain_middle : Plain (codes " at port ")
unfolding Plain
plain_middle = omega arith

plain_line : (text : List ℕ) (line : Line) → ReadsLine text line → Plain text
plain_line text line r =
    subst Plain (sym r.shape.text_is) (plain_append (codes "name " ++ line.name ++ codes " at port ") r.shape.digits
    (plain_append (codes "name " ++ line.name) (codes " at port ")
    (plain_append (codes "name ") line.name plain_head (plain_name line.name r.name)) plain_middle)
    (plain_digits r.shape.digits r.shape.port_is.each))

-- ---- the first byte 10

record SameCut (a b c d : List ℕ) : Type 0 where
  pub front : a ≡ c
  pub after : b ≡ d

one_cut : (a b c d : List ℕ) → Plain a → Plain c → a ++ 10 ∷ b ≡ c ++ 10 ∷ d → SameCut a b c d
unfolding Plain
one_cut [] b [] d p q e = record { front = refl; after = cc }
one_cut [] b (y ∷ c) d p q e = absurd (q.0 cc)
one_cut (x ∷ a) b [] d p q e = absurd (p.0 cc)
one_cut (x ∷ a) b (y ∷ c) d p q e =
    let first : x ≡ y = cc in
    let s = one_cut a b c d p.1 q.1 cc in
    record { front = λ i. first i ∷ s.front i; after = s.after }

uncut : (text front after : List ℕ) → Plain text → text ≡ front ++ 10 ∷ after → ⊥
unfolding Plain
uncut [] [] after p e = absurd cc
uncut [] (x ∷ front) after p e = absurd cc
uncut (y ∷ text) [] after p e = p.0 cc
uncut (y ∷ text) (x ∷ front) after p e = uncut text front after p.1 cc

plain_from_all : (text : List ℕ) → HasNoNewline text → Plain text
plain_from_all text h = plain_by_index text (λ k lt. h k 0 lt)

at_first : (text : List ℕ) (at : ℕ) → Some at ≡ position is_newline text → (at ≡ position_or_len is_newline text) × (at < length text)
at_first text at e = search rules

pub cut_at : (text : List ℕ) (at : ℕ) → Some at ≡ position is_newline text → IsCut text (take at text) (drop 1 (drop at text))
cut_at text at e =
    let f = at_first text at e in
    let newline : get_or text at 0 ≡ 10 = search (rules, passes_at_first) in
    record {
      text_is = split_at text at 0 f.1 ∙ ap (λ (x : ℕ). take at text ++ x ∷ drop (suc at) text) newline
          ∙ ap (λ (t : List ℕ). take at text ++ 10 ∷ t) (rw add-one at (sym (drop-drop 1 at text)));
      front_is = search (rules, fails_before_first, get_or-take);
    }

pub not_cut : (text : List ℕ) → None ≡ position is_newline text → HasNoNewline text
not_cut text e = All-from_get_or (λ (b : ℕ). b ≢ 10) text 0 (λ k lt. eqb-false _ _ (each_fails is_newline text e k lt))

-- A text with no byte 10 begins with no line.
pub strange_uncut : (text : List ℕ) → 0 < length text → HasNoNewline text → IsStrange text
strange_uncut text some h = record { some = some; unread = λ front after line e r. uncut text front after (plain_from_all text h) e }

-- A text begins with no line if what precedes its first byte 10 has no reading.
pub strange_cut : (text front after : List ℕ) → IsCut text front after → HasNoReading front → IsStrange text
strange_cut text front after cut unread = record {
  some = omega (arith, ap length cut.text_is, length-append front (10 ∷ after));
  unread = search (rules, one_cut, plain_from_all, plain_line);
}

-- ---- lines

pub one_more : (lines : List Line) (text rest front after : List ℕ) (line : Line) → ListsTo text lines rest → IsCut rest front after
    → ReadsLine front line → ListsTo text (lines ++ line ∷ []) after
one_more [] text rest front after line h cut r = (front, after, h ∙ cut.text_is, r, refl)
one_more (l ∷ lines) text rest front after line h cut r = (h.0, h.1, h.2, h.3, one_more lines h.1 rest front after line h.4 cut r)

-- The lines of a whole text begin with the lines of its prefix.
record Goes (lines front : List Line) (rest : List ℕ) : Type 0 where
  pub more : List Line
  pub more_are : ListsTo rest more []
  pub lines_are : lines ≡ front ++ more

goes_on : (front lines : List Line) (text rest : List ℕ) → ListsTo text front rest → ListsTo text lines [] → Goes lines front rest
goes_on [] lines text rest h k = record { more = lines; more_are = subst (λ (t : List ℕ). ListsTo t lines []) h k; lines_are = refl }
goes_on (l ∷ front) [] text rest h k = absurd (omega (arith, ap length (sym k ∙ h.2), length-append h.0 (10 ∷ h.1)))
goes_on (l ∷ front) (m ∷ lines) text rest h k =
    let s = one_cut h.0 h.1 k.0 k.1 (plain_line h.0 l h.3) (plain_line k.0 m k.3) (sym h.2 ∙ k.2) in
    let same : l ≡ m = one_reading h.0 l m h.3 (subst (λ (t : List ℕ). ReadsLine t m) (sym s.front) k.3) in
    let g = goes_on front lines h.1 rest h.4 (subst (λ (t : List ℕ). ListsTo t lines []) (sym s.after) k.4) in
    record { more = g.more; more_are = g.more_are; lines_are = λ i. sym same i ∷ g.lines_are i }

none_left : (lines : List Line) → ListsTo [] lines [] → lines ≡ []
none_left [] h = refl
none_left (l ∷ lines) h = absurd (omega (arith, ap length h.2, length-append h.0 (10 ∷ h.1)))

not_strange : (lines : List Line) (rest : List ℕ) → ListsTo rest lines [] → IsStrange rest → ⊥
not_strange [] rest h s = omega (arith, ap length h, s.some)
not_strange (l ∷ lines) rest h s = s.unread h.0 h.1 l h.2 h.3

-- ---- lines that were written are read back

writes_port : (port : ℕ) → port < 2 ^ 16 → WritesPort (decimal port) port
writes_port port small =
    let own = numerals_by_value (AllDigits 10) tells_digits in
    record {
      some = decimal_nonempty port (omega arith);
      short = length-decimal-le 5 port (omega arith) (omega arith) (omega arith);
      each = digits_decimal own port (omega arith);
      value = digits_value-decimal own port (omega arith);
      fits = small;
    }

reads_line : (line : Line) → IsLine line → ReadsLine (codes "name " ++ line.name ++ codes " at port " ++ decimal line.port) line
reads_line line is = search (rules, writes_port)

written : (lines : List Line) → All IsLine lines → ListsTo (flat_map names_line lines) lines []
written [] is = refl
written (l ∷ lines) is = (
  codes "name " ++ l.name ++ codes " at port " ++ decimal l.port,
  flat_map names_line lines,
  append_assoc (codes "name " ++ l.name ++ codes " at port " ++ decimal l.port) (10 ∷ []) (flat_map names_line lines),
  reads_line l (is 0 l (omega arith)),
  written lines (λ k d lt. is (suc k) d (omega arith)),
)

record SameHead (p q : ℕ) (t u : List ℕ) : Type 0 where
  pub port : p ≡ q
  pub text : t ≡ u

same_head : (p q : ℕ) (t u : List ℕ) → p < 2 ^ 32 → q < 2 ^ 32 → be4 p ++ t ≡ be4 q ++ u → SameHead p q t u
same_head p q t u small less e = search rules

module _ (bytes : List ℕ) (port : ℕ) (lines : List Line) (l : Lists bytes port lines) where
  head_of : (other : ℕ) (others : List Line) (h : Lists bytes other others) → SameHead port other l.text h.text
  head_of other others h = same_head port other l.text h.text l.port_is h.port_is (sym l.bytes_are ∙ h.bytes_are)

  same_lines : (other : ℕ) (others : List Line) → Lists bytes other others → lines ≡ others
  same_lines other others h =
      let g = goes_on others lines l.text [] (subst (λ (t : List ℕ). ListsTo t others [])
      (sym (head_of other others h).text) h.lines_are) l.lines_are in
      g.lines_are ∙ ap (λ (m : List Line). others ++ m) (none_left g.more g.more_are) ∙ append-nil others

  no_fault : (f : ListFault) → IsListFault bytes f → f ≡ fault.NoMemory
  no_fault fault.Short h = absurd (omega (arith, h, ap length l.bytes_are, length-append (be4 port) l.text))
  no_fault (fault.StrangeLine at) h =
      let e : l.text ≡ h.text = (same_head port h.port l.text h.text l.port_is h.port_is (sym l.bytes_are ∙ h.bytes_are)).text in
      let g = goes_on h.line.lines lines l.text h.line.rest
      (subst (λ (t : List ℕ). ListsTo t h.line.lines h.line.rest) (sym e) h.line.lines_are) l.lines_are in
      absurd (not_strange g.more h.line.rest g.more_are h.line.strange)
  no_fault fault.NoMemory h = refl

  pub lists_once : IsReadBack bytes port lines
  lists_once = record {
    list = l;
    port_is = λ other others h. (head_of other others h).port;
    lines_are = same_lines;
    faultless = no_fault;
  }

pub names_read_back : NamesAreReadBack
names_read_back port lines small are = lists_once (names_reply port lines) port lines
    (record { port_is = small; text = flat_map names_line lines; bytes_are = refl; lines_are = written lines are })
