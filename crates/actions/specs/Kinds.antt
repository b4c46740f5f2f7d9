-- The kinds by their numbers, and where the counts of each stand.
-- Assumes nothing.
use Rattle.std.specs.Prelude.{ℕ, ◌+◌, ◌-◌, ◌*◌, List, [], ◌∷◌, get_or}
use Rattle.actions.specs.declared.Kind.{Kind}
use Rattle.actions.specs.declared.Kind.TheVariants.{Output, PacketSent, PacketDelivered, AckSent, AckDelivered, Ok, SubtreeOkSent, SubtreeOkDelivered, ClusterOk, DownSent, DownDelivered, PreferredSent, PreferredDelivered, UpSent, UpDelivered, ClusterGo, SubtreeGoSent, SubtreeGoDelivered, Go, Input}
use Rattle.actions.specs.declared.Counter.{Counter}

-- document 01's table of actions, column "Kind"
unfoldable pub number_of : Kind → ℕ
number_of Output = 16
number_of PacketSent = 17
number_of PacketDelivered = 18
number_of AckSent = 19
number_of AckDelivered = 20
number_of Ok = 21
number_of SubtreeOkSent = 22
number_of SubtreeOkDelivered = 23
number_of ClusterOk = 24
number_of DownSent = 25
number_of DownDelivered = 26
number_of PreferredSent = 27
number_of PreferredDelivered = 28
number_of UpSent = 29
number_of UpDelivered = 30
number_of ClusterGo = 31
number_of SubtreeGoSent = 32
number_of SubtreeGoDelivered = 33
number_of Go = 34
number_of Input = 35

-- the kinds in the order of their numbers
abbrev pub kinds : List Kind
kinds =
    Output
    ∷ PacketSent
    ∷ PacketDelivered
    ∷ AckSent
    ∷ AckDelivered
    ∷ Ok
    ∷ SubtreeOkSent
    ∷ SubtreeOkDelivered
    ∷ ClusterOk
    ∷ DownSent
    ∷ DownDelivered
    ∷ PreferredSent
    ∷ PreferredDelivered
    ∷ UpSent
    ∷ UpDelivered
    ∷ ClusterGo
    ∷ SubtreeGoSent
    ∷ SubtreeGoDelivered
    ∷ Go
    ∷ Input
    ∷ []

-- "indexed by kind minus 16"
unfoldable pub index_of : Kind → ℕ
index_of k = number_of k - 16

unfoldable pub kind_at : ℕ → Kind
kind_at i = get_or kinds i Output

-- the count of a kind at a node, or along a direction
abbrev pub count : Kind → ℕ → Counter
count k x = record { 0 = k; 1 = x }

-- where a count stands in the array of counts: each kind has a row of 256
unfoldable pub cell_of : Counter → ℕ
cell_of c = index_of c.0 * 256 + c.1

-- how often the action of that count was taken
abbrev pub count_in : List ℕ → Counter → ℕ
count_in counts c = get_or counts (cell_of c) 0
