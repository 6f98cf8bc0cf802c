use Rattle.std.specs.Fmt.{decimal}
use Rattle.std.proofs.Common.{◌≡◌, ℕ, List, [], ◌++◌, append_assoc, codes, sym, ap, ◌∙◌}
use Rattle.std.proofs.lemmas.List.{append-nil}
use Rattle.portmap_operator.specs.{Notices.notice_line, declared.notice.Notice.Notice}
use Rattle.portmap_operator.proofs.notice.Notice.put.Goals as goal

three : (a b c d : List ℕ) → a ++ (b ++ c ++ d) ≡ a ++ b ++ c ++ d
three a b c d = sym (append_assoc a (b ++ c) d) ∙ ap (λ (x : List ℕ). x ++ d) (sym (append_assoc a b c))

five : (a b c d e f : List ℕ) → a ++ (b ++ c ++ d ++ e ++ f) ≡ a ++ b ++ c ++ d ++ e ++ f
five a b c d e f = sym (append_assoc a (b ++ c ++ d ++ e) f)
    ∙ ap (λ (x : List ℕ). x ++ f) (sym (append_assoc a (b ++ c ++ d) e) ∙ ap (λ (x : List ℕ). x ++ e) (three a b c d))

pub returns-in-ShortOfMemory : goal.returns-in-ShortOfMemory
returns-in-ShortOfMemory c =
    let line = c.args.line.now.items in
    let count = decimal c.in-ShortOfMemory.count in
    let same : line ++ notice_line c.args.self.now ≡ line ++ codes "epmd: memory is short, " ++ count ++ codes " requests were refused\n" =
    ap (λ (n : Notice). line ++ notice_line n) c.in-ShortOfMemory.is
    ∙ three line (codes "epmd: memory is short, ") count (codes " requests were refused\n") in
    rw same c.put_count.ensures

pub returns-in-FiguresLost : goal.returns-in-FiguresLost
returns-in-FiguresLost c =
    let line = c.args.line.now.items in
    let text = codes "epmd: cannot write the counters: " in
    let path = c.in-FiguresLost.path.now in
    let reason = c.in-FiguresLost.reason.now in
    let same : line ++ notice_line c.args.self.now ≡ line ++ text ++ path ++ codes ": " ++ reason ++ codes "\n" =
    ap (λ (n : Notice). line ++ notice_line n) c.in-FiguresLost.is ∙ five line text path (codes ": ") reason (codes "\n") in
    rw same c.put_fault-in-FiguresLost.ensures

pub returns-in_ok-put_count-in-FewerPlaces : goal.returns-in_ok-put_count-in-FewerPlaces
returns-in_ok-put_count-in-FewerPlaces c =
    let line = c.args.line.now.items in
    let first = c.put_count-in-FewerPlaces.new.line.items in
    let places = decimal c.in-FewerPlaces.places in
    let limit = decimal c.in-FewerPlaces.limit in
    let behind = codes " connections, since the limit of descriptors is " in
    let same : line ++ notice_line c.args.self.now ≡ first ++ [] ++ limit ++ codes "\n" =
    ap (λ (n : Notice). line ++ notice_line n) c.in-FewerPlaces.is
    ∙ five line (codes "epmd: at most ") places behind limit (codes "\n")
    ∙ ap (λ (x : List ℕ). x ++ limit ++ codes "\n") (sym (append-nil first ∙ c.in_ok-put_count-in-FewerPlaces.ensures)) in
    rw same c.put_count-in-FewerPlaces-2.ensures
