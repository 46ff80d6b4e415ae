-- What melding makes.
use Rattle.std.specs.Prelude.{◌≡◌, ℕ, ◌+◌, ◌≤◌, Bool, Option}
use Rattle.pairing_heap.specs.Links.{Columns, child_of, next_of, back_of}
use Rattle.pairing_heap.specs.Forests.{Forest, times, nodes, Leads, Rooted, Ordered}

-- the links of the ticket j are the same
pub record Same {K : Type 0} (t u : Columns K) (j : ℕ) : Type 0 where
  pub child : child_of u j ≡ child_of t j
  pub next : next_of u j ≡ next_of t j
  pub back : back_of u j ≡ back_of t j

module _ {K : Type 0} (before : K → K → Bool) (t u : Columns K) where
  -- The root leads to a tree in order, of n tickets, in which each stands as often as f says. No other
  -- ticket's links changed, and no key.
  pub record Made (root : Option ℕ) (f : ℕ → ℕ) (n : ℕ) : Type 0 where
    pub tree : Forest
    pub rooted : Rooted u root tree
    pub count : (j : ℕ) → times j tree ≡ f j
    pub size : nodes tree ≡ n
    pub ordered : Ordered before t.key tree
    pub keys : u.key ≡ t.key
    pub frame : (j : ℕ) → f j ≡ 0 → Same t u j

  -- two trees in order, with no ticket in both, become one
  abbrev pub Melds : Option ℕ → Option ℕ → Option ℕ → Type 0
  Melds a b root = (F G : Forest) → Rooted t a F → Rooted t b G → ((j : ℕ) → times j F + times j G ≤ 1) → Ordered before t.key F → Ordered before t.key G → Made root (λ j. times j F + times j G) (nodes F + nodes G)

  -- a row of trees in order, of at most `fuel` tickets, with none twice, becomes one
  abbrev pub MeldsPairs : Option ℕ → ℕ → Option ℕ → Type 0
  MeldsPairs link fuel root = (p : ℕ) (F : Forest) → Leads t p link F → ((j : ℕ) → times j F ≤ 1) → Ordered before t.key F → nodes F ≤ fuel → Made root (λ j. times j F) (nodes F)
