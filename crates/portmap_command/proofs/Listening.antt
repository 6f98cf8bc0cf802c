-- A daemon listens on everywhere alone, or on distinct addresses with the host itself.
use Rattle.std.specs.{List.{list_any, Contains, IsDistinct}, Str.bytes_eq}
use Rattle.std.proofs.Common.{◌≡◌, ℕ, Bool, true, false, cond, List, [], ◌∷◌, ◌++◌, refl, sym, ap, subst, ◌∙◌, inl, inr}
use Rattle.std.proofs.{Common.{◌||◌, ◌<◌, length, arith}, lemmas.Cmp.nat_list_eq_equiv}
use Rattle.std.proofs.{lemmas.List.Elements.Contains-push, lemmas.Map.Keys.IsDistinct-push}
use Rattle.std.proofs.{lemmas.Map.Views.Contains-from_any, lemmas.Slice.Eq.bytes_eq-Decides}
use Rattle.portmap_command.specs.Addresses.{is_in, with, with_each, loopback, anywhere, ListensOn, AreListening}

turned : (address : List ℕ) (addresses : List (List ℕ)) → list_any (bytes_eq address) addresses ≡ is_in addresses address
turned address [] = refl
turned address (x ∷ xs) = ap (λ (b : Bool). b || list_any (bytes_eq address) xs) (nat_list_eq_equiv.symm address x)
    ∙ ap (λ (b : Bool). bytes_eq x address || b) (turned address xs)

distinct_by_case : (addresses : List (List ℕ)) (address : List ℕ) (b : Bool) → IsDistinct bytes_eq addresses → is_in addresses address ≡ b
    → IsDistinct bytes_eq (cond b addresses (addresses ++ address ∷ []))
distinct_by_case addresses address true d e = d
distinct_by_case addresses address false d e = IsDistinct-push nat_list_eq_equiv addresses address d (turned address addresses ∙ e)

distinct_with : (addresses : List (List ℕ)) (address : List ℕ) → IsDistinct bytes_eq addresses
    → IsDistinct bytes_eq (with addresses address)
distinct_with addresses address d = distinct_by_case addresses address (is_in addresses address) d refl

distinct_with_each : (addresses more : List (List ℕ)) → IsDistinct bytes_eq addresses → IsDistinct bytes_eq (with_each addresses more)
distinct_with_each addresses [] d = d
distinct_with_each addresses (x ∷ xs) d = distinct_with_each (with addresses x) xs (distinct_with addresses x d)

contains_by_case : (addresses : List (List ℕ)) (address : List ℕ) (b : Bool) → is_in addresses address ≡ b
    → Contains (cond b addresses (addresses ++ address ∷ [])) address
contains_by_case addresses address true e =
    Contains-from_any (λ x y same. (bytes_eq-Decides x y).0 same) address addresses (turned address addresses ∙ e)
contains_by_case addresses address false e = Contains-push addresses address

listening_by_case : (listed : List (List ℕ)) (b : Bool) → AreListening (cond b (anywhere ∷ []) (with (with_each [] listed) loopback))
unfolding IsDistinct
listening_by_case listed true = inl refl
listening_by_case listed false =
    let each = with_each [] listed in
    inr (contains_by_case each loopback (is_in each loopback) refl, distinct_with each loopback (distinct_with_each [] listed tt))

pub are_listening : (text : List ℕ) (addresses : List (List ℕ)) → ListensOn text addresses → AreListening addresses
are_listening text addresses l = subst AreListening (sym l.2) (listening_by_case l.0 (is_in l.0 anywhere))
