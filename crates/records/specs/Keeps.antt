-- When a plan's records are accepted and when they are refused, in document 01's words over the records that the bytes hold.
-- Assumes nothing.
use Rattle.std.specs.Prelude.{ℕ, ◌+◌, ◌<◌, ◌≤◌, ◌≡◌, List, [], ◌∷◌, ◌++◌, length, get_or, take, drop}
use Rattle.network.specs.declared.Network.{Network}
use Rattle.records.specs.declared.Record.{Record}
use Rattle.records.specs.declared.Record.TheVariants.{End, Rounds, Node, Link}
use Rattle.records.specs.Record.{body_length}
use Rattle.records.specs.Plan.{Plan, rounds_bytes, node_bytes, link_bytes, bytes_of, network_of, Keeps1to5, LinkFits, Rising}

-- ---- one record after others

-- the bytes of one record
abbrev pub record_bytes : Record → List ℕ
record_bytes End = 0 ∷ []
record_bytes (Rounds v) = rounds_bytes v
record_bytes (Node number parent start) = node_bytes number (record { parent = parent; start = start })
record_bytes (Link a b flag) = link_bytes (record { a = a; b = b; flag = flag })

-- a plan of which no record has been read: rounds 0 stands for none
abbrev pub no_plan : Plan
no_plan = record { rounds = 0; nodes = []; links = [] }

-- what has been read, with one more record
abbrev pub with : Plan → Record → Plan
with p End = p
with p (Rounds v) = record { rounds = v; nodes = p.nodes; links = p.links }
with p (Node number parent start) = record { rounds = p.rounds; nodes = p.nodes ++ record { parent = parent; start = start } ∷ []; links = p.links }
with p (Link a b flag) = record { rounds = p.rounds; nodes = p.nodes; links = p.links ++ record { a = a; b = b; flag = flag } ∷ [] }

-- 3: "A plan is one kind 1, then nodes numbered 0, 1, 2.. in order, then links in strictly rising order of (a, b), none before the first
-- node, then kind 0"; "kind 0 .. with no rounds or no node"
abbrev pub InOrder : Plan → Record → Type 0
InOrder p End = 0 < length p.nodes
InOrder p (Rounds v) = p.rounds ≡ 0
InOrder p (Node number parent start) = (0 < p.rounds) × (p.links ≡ []) × (number ≡ length p.nodes)
InOrder p (Link a b flag) = (0 < length p.nodes) × Rising (p.links ++ record { a = a; b = b; flag = flag } ∷ [])

-- 4: "65th node or 129th link"
abbrev pub InNumber : Plan → Record → Type 0
InNumber p End = Unit {0}
InNumber p (Rounds v) = Unit {0}
InNumber p (Node number parent start) = length p.nodes < 64
InNumber p (Link a b flag) = length p.links < 128

-- 5: "rounds, link end or flag out of range"
abbrev pub InRange : Plan → Record → Type 0
InRange p End = Unit {0}
InRange p (Rounds v) = (1 ≤ v) × (v ≤ 10000)
InRange p (Node number parent start) = Unit {0}
InRange p (Link a b flag) = LinkFits (length p.nodes) (record { a = a; b = b; flag = flag })

abbrev pub Keeps : Plan → Record → Type 0
Keeps p r = InOrder p r × InNumber p r × InRange p r

-- k is the lowest of 3, 4 and 5 that the record breaks
pub data BreaksFirst (p : Plan) (r : Record) (k : ℕ) : Type 0 where
  order : k ≡ 3 → (InOrder p r → ⊥) → BreaksFirst p r k
  number : k ≡ 4 → InOrder p r → (InNumber p r → ⊥) → BreaksFirst p r k
  range : k ≡ 5 → InOrder p r → InNumber p r → (InRange p r → ⊥) → BreaksFirst p r k

-- ---- the records before a place, and what stands there

-- each record keeps the rules after those before it, and none is kind 0
unfoldable pub EachKeeps : Plan → List Record → Type 0
EachKeeps p [] = Unit {0}
EachKeeps p (r ∷ rs) = (r ≡ End → ⊥) × Keeps p r × EachKeeps (with p r) rs

unfoldable pub with_all : Plan → List Record → Plan
with_all p [] = p
with_all p (r ∷ rs) = with_all (with p r) rs

unfoldable pub records_bytes : List Record → List ℕ
records_bytes [] = []
records_bytes (r ∷ rs) = record_bytes r ++ records_bytes rs

-- k is what document 01 gives for place w of the bytes, where p has been read before it
pub data BreaksAt (s : List ℕ) (w : ℕ) (p : Plan) (k : ℕ) : Type 0 where
  -- "end of bytes without kind 0", and its place is the length
  bytes_end : k ≡ 3 → w ≡ length s → BreaksAt s w p k
  -- "kind unknown"
  unknown : k ≡ 1 → w < length s → 3 < get_or s w 0 → BreaksAt s w p k
  -- "body cut short"
  short : k ≡ 2 → w < length s → get_or s w 0 ≤ 3 → length s < w + 1 + body_length (get_or s w 0) → BreaksAt s w p k
  -- a whole record stands there and breaks rule 3, 4 or 5
  whole : (r : Record) → take (length (record_bytes r)) (drop w s) ≡ record_bytes r → BreaksFirst p r k → BreaksAt s w p k

-- ---- the two ways to end

-- accepted: the n bytes hold a plan that keeps the rules, and the network is that plan's
pub record Accepted1to5 (s : List ℕ) (n : ℕ) (net : Network) : Type 0 where
  pub plan : Plan
  pub keeps : Keeps1to5 plan
  pub within : n ≤ length s
  pub bytes : take n s ≡ bytes_of plan
  pub network : net ≡ network_of plan

-- refused: the records before place w keep the rules, and there rule k is broken first
pub record Refused1to5 (s : List ℕ) (k w : ℕ) : Type 0 where
  pub before : List Record
  pub keep : EachKeeps no_plan before
  pub within : w ≤ length s
  pub bytes : take w s ≡ records_bytes before
  pub breaks : BreaksAt s w (with_all no_plan before) k
