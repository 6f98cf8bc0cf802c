-- Lists of addresses, one more address at a time.
use Rattle.std.proofs.Common.{◌≡◌, ℕ, List, [], ◌∷◌, ◌++◌, refl, sym, subst, append_assoc}
use Rattle.portmap_command.specs.Addresses.{Separated, WritesAddress, WritesAddresses, with, with_each}

separated_with : {X : Type 0} (separator : ℕ) (Writes : List ℕ → X → Type 0) (text prefix after : List ℕ) (x : X) (more : List X)
    → text ≡ prefix ++ separator ∷ after → Writes prefix x → Separated separator Writes after more
    → Separated separator Writes text (x ∷ more)
separated_with separator Writes text prefix after x [] e first s = absurd s
separated_with separator Writes text prefix after x (y ∷ ys) e first s = (prefix, after, e, first, s)

-- These addresses were read of the text up to the rest.
pub record Reads (text : List ℕ) (addresses : List (List ℕ)) (rest : List ℕ) : Type 0 where
  pub with_more : (more : List (List ℕ)) → WritesAddresses rest more → WritesAddresses text (addresses ++ more)

pub reads_more : (text : List ℕ) (addresses : List (List ℕ)) (rest prefix after : List ℕ) (address : List ℕ) → Reads text addresses rest
    → rest ≡ prefix ++ 44 ∷ after → WritesAddress prefix address → Reads text (addresses ++ address ∷ []) after
reads_more text addresses rest prefix after address r e writes = record {
  with_more = λ more s.
      subst (WritesAddresses text) (sym (append_assoc addresses (address ∷ []) more))
      (r.with_more (address ∷ more) (separated_with 44 WritesAddress rest prefix after address more e writes s));
}

pub with_each_more : (addresses more : List (List ℕ)) (address : List ℕ)
    → with_each addresses (more ++ address ∷ []) ≡ with (with_each addresses more) address
with_each_more addresses [] address = refl
with_each_more addresses (x ∷ xs) address = with_each_more (with addresses x) xs address
