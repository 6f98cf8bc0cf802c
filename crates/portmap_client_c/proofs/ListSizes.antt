-- Lemmas: the length of a list of names.
use Rattle.std.proofs.{Common.{◌≡◌, ℕ, ◌≤◌, List, [], ◌∷◌, length, ap, arith}, lemmas.List.length-append}
use Rattle.portmap_wire.specs.{ListReading.{Lists, ListsTo}, Reply.be4, declared.list.Line.Line}

-- A list has at most as many lines as bytes.
lines_are_fewer : (text : List ℕ) (lines : List Line) (rest : List ℕ) → ListsTo text lines rest → length lines ≤ length text
lines_are_fewer text [] rest l = omega arith
lines_are_fewer text (line ∷ lines) rest (prefix, after, is, reads, more) =
    omega (arith, lines_are_fewer after lines rest more, ap length is, length-append prefix (10 ∷ after))

pub list_is_short : (list : List ℕ) (port : ℕ) (lines : List Line) → Lists list port lines → length lines ≤ length list
list_is_short list port lines l =
    omega (arith, lines_are_fewer l.text lines [] l.lines_are, ap length l.bytes_are, length-append (be4 port) l.text)
