-- The addresses on which a daemon listens, as text: epmd(1), "-address List". Profile: what a daemon listens on for a list, and that digits
-- may lead with zeros.
use Rattle.std.specs.List.{list_any, Contains, IsDistinct}
use Rattle.std.specs.{Prelude.{◌≡◌, ◌<◌, ◌^◌, ℕ, Bool, if◌then◌else◌, List, [], ◌∷◌, ◌++◌, length, ◌⊎◌}, Str.bytes_eq}
use Rattle.portmap_command.specs.Numbers.{WritesNumber}

-- The text is the items, at least one, each as `Writes` says, with the separator between them.
abbrev pub Separated : {X : Type 0} → ℕ → (List ℕ → X → Type 0) → List ℕ → List X → Type 0
Separated separator Writes text [] = ⊥
Separated separator Writes text (x ∷ []) = Writes text x
Separated separator Writes text (x ∷ y ∷ ys) =
    (prefix : List ℕ) × (after : List ℕ) × (text ≡ prefix ++ separator ∷ after) × Writes prefix x
    × Separated separator Writes after (y ∷ ys)

-- The digits, one to three, write a number that fits a byte.
abbrev pub WritesByte : List ℕ → ℕ → Type 0
WritesByte digits number = WritesNumber 3 digits number × (number < 2 ^ 8)

-- The text is four numbers with dots between them.
abbrev pub WritesAddress : List ℕ → List ℕ → Type 0
WritesAddress text address = (length address ≡ 4) × Separated 46 WritesByte text address

-- The text is addresses with commas between them.
abbrev pub WritesAddresses : List ℕ → List (List ℕ) → Type 0
WritesAddresses text addresses = Separated 44 WritesAddress text addresses

-- every address of the host
abbrev pub anywhere : List ℕ
anywhere = 0 ∷ 0 ∷ 0 ∷ 0 ∷ []

abbrev pub loopback : List ℕ
loopback = 127 ∷ 0 ∷ 0 ∷ 1 ∷ []

abbrev pub is_in : List (List ℕ) → List ℕ → Bool
is_in addresses address = list_any (λ other. bytes_eq other address) addresses

-- The list with this address at its end, unless the list has the address.
abbrev pub with : List (List ℕ) → List ℕ → List (List ℕ)
with addresses address = if is_in addresses address then addresses else addresses ++ address ∷ []

-- The first list, to which `with` adds each address of the second list.
abbrev pub with_each : List (List ℕ) → List (List ℕ) → List (List ℕ)
with_each addresses [] = addresses
with_each addresses (address ∷ more) = with_each (with addresses address) more

-- The addresses on which a daemon listens for a list: everywhere alone, or each address once and the host itself.
abbrev pub listening : List (List ℕ) → List (List ℕ)
listening listed = if is_in listed anywhere then anywhere ∷ [] else with (with_each [] listed) loopback

-- The text is a list for which a daemon listens on these addresses.
abbrev pub ListensOn : List ℕ → List (List ℕ) → Type 0
ListensOn text addresses = (listed : List (List ℕ)) × WritesAddresses text listed × (addresses ≡ listening listed)

-- Everywhere alone, or distinct addresses with the host itself among them.
abbrev pub AreListening : List (List ℕ) → Type 0
AreListening addresses = (addresses ≡ anywhere ∷ []) ⊎ (Contains addresses loopback × IsDistinct bytes_eq addresses)
