-- The links of a source, and the connections of a worker: profile. A source may say of a key that it has a link, or that it has none.
use Rattle.std.specs.{BTreeMap.{BTreeMap, get}, Ordering.nat_cmp}
use Rattle.std.specs.Prelude.{◌≡◌, ◌≢◌, ℕ, Bool, true, false, Option, Some, None, is_some}
use Rattle.portmap_worker.specs.declared.source.Turn.{Turn, TheVariants.{Fresh}}

-- The source says the same about every key: a link stays a link, and a missing link stays missing.
abbrev pub Stay : (ℕ → Bool → Type 0) → (ℕ → Bool → Type 0) → Type 0
Stay old new = (k : ℕ) (there : Bool) → old k there → new k there

-- The link under this key is gone, and nothing changes for any other key.
pub record Ends (key : ℕ) (old new : ℕ → Bool → Type 0) : Type 0 where
  pub gone : new key false
  pub others : (k : ℕ) (there : Bool) → k ≢ key → old k there → new k there

-- The key of the link that arrived, by the turn.
abbrev pub come : Turn → Option ℕ
come (Fresh key local) = Some key
come turn = None

-- The turn is right about arrivals: under its key there is a link now and was none before. Nothing changes for any other key.
pub record Comes (old new : ℕ → Bool → Type 0) (turn : Turn) : Type 0 where
  pub free : (key : ℕ) → come turn ≡ Some key → old key false
  pub there : (key : ℕ) → come turn ≡ Some key → new key true
  pub others : (k : ℕ) (there : Bool) → come turn ≢ Some k → old k there → new k there

-- The worker holds a connection if and only if the source has a link with its key.
abbrev pub Agree : {V : Type 0} → BTreeMap ℕ V → (ℕ → Bool → Type 0) → Type 0
Agree held has = (k : ℕ) → has k (is_some (get nat_cmp held k))

-- The worker's connections agree with the source's links, but the source has the new link of this turn already.
pub record AgreeBut {V : Type 0} (turn : Turn) (held : BTreeMap ℕ V) (has : ℕ → Bool → Type 0) : Type 0 where
  pub there : (key : ℕ) → come turn ≡ Some key → has key true
  pub others : (k : ℕ) → come turn ≢ Some k → has k (is_some (get nat_cmp held k))

-- Connections are held under the same keys.
abbrev pub HeldAlike : {V : Type 0} → BTreeMap ℕ V → BTreeMap ℕ V → Type 0
HeldAlike old new = (k : ℕ) → is_some (get nat_cmp new k) ≡ is_some (get nat_cmp old k)
