-- The state half of answer 17, as a test over the arrays of any state.
-- Assumes nothing.
use Rattle.std.specs.Prelude.{ℕ, ◌+◌, ◌*◌, Bool, true, List, length, get_or, leb, eqb}
use Rattle.laws.specs.Choice.{if_lt, if_eq, both}
use Rattle.laws.specs.Below.{all_below}
use Rattle.actions.specs.declared.Kind.{Kind}
use Rattle.actions.specs.Kinds.{kinds, kind_at, count, count_in}
use Rattle.actions.specs.Records.{body_of}
use Rattle.queue.specs.Queue.{packet, ack}

-- how many counts of a kind are in use: one for each node, or one for each direction of each link
unfoldable pub used_by : ℕ → ℕ → Kind → ℕ
used_by nodes links k = if_eq (body_of k) 1 nodes (links * 2)

-- the entry n at place x is at most so much where x is in use; "an entry past the node or link count .. is not 0"
unfoldable pub entry_fits : ℕ → ℕ → ℕ → ℕ → Bool
entry_fits most used x n = leb n (if_lt x used most 0)

-- "a count is above rounds": the counts of one kind
unfoldable pub row_fits : ℕ → ℕ → List ℕ → Kind → Bool
row_fits rounds used counts k = all_below (λ x. entry_fits rounds used x (count_in counts (count k x))) 256

-- a row of 256 held against the most that each of its entries may be
unfoldable pub row_within : List ℕ → List ℕ → Bool
row_within row limits = all_below (λ x. leb (get_or row x 0) (get_or limits x 0)) 256

unfoldable pub counts_fit : ℕ → ℕ → ℕ → List ℕ → Bool
counts_fit nodes links rounds counts =
    all_below (λ i. row_fits rounds (used_by nodes links (kind_at i)) counts (kind_at i)) (length kinds)

-- "a queue is said to hold more than two"
unfoldable pub lengths_fit : ℕ → List ℕ → Bool
lengths_fit links lens = all_below (λ d. entry_fits 2 (links * 2) d (get_or lens d 0)) 256

-- place j of a queue: "a waiting message is neither packet nor ack"; "an entry .. past a queue's length, is not 0"
unfoldable pub sort_fits : ℕ → ℕ → ℕ → Bool
sort_fits len j sort = if_lt j len (if_eq sort packet true (eqb sort ack)) (eqb sort 0)

-- what is wrong of it as a number, 0 where nothing is: a place that holds a message, or one that does not, and a sort
unfoldable pub sort_fault : ℕ → ℕ → ℕ
sort_fault held sort = if_eq held 0 sort (if_eq sort packet 0 (if_eq sort ack 0 1))

-- both places of each queue
unfoldable pub sorts_fit : List ℕ → List ℕ → Bool
sorts_fit lens sorts =
    all_below (λ d. both (sort_fits (get_or lens d 0) 0 (get_or sorts (d * 2) 0)) (sort_fits (get_or lens d 0) 1 (get_or sorts (d * 2 + 1) 0))) 256

-- a packet carries a value; "or is an ack with a value", and what is no message has none either
unfoldable pub load_fits : ℕ → ℕ → Bool
load_fits sort load = if_eq sort packet true (eqb load 0)

-- what is wrong of a value as a number, 0 where nothing is
unfoldable pub load_fault : ℕ → ℕ → ℕ
load_fault sort load = if_eq sort packet 0 load

unfoldable pub loads_fit : List ℕ → List ℕ → Bool
loads_fit sorts loads = all_below (λ e. load_fits (get_or sorts e 0) (get_or loads e 0)) 512

-- any number where x is in use, and 0 past the count
unfoldable pub past_fits : ℕ → ℕ → ℕ → Bool
past_fits used x n = if_lt x used true (eqb n 0)

unfoldable pub rest_fits : ℕ → List ℕ → ℕ → Bool
rest_fits used xs n = all_below (λ x. past_fits used x (get_or xs x 0)) n

-- the arrays of a state, for a network of so many nodes, links and rounds; a link has two directions, and each direction two slots
unfoldable pub state_fits : ℕ → ℕ → ℕ → List ℕ → List ℕ → List ℕ → List ℕ → List ℕ → List ℕ → Bool
state_fits nodes links rounds counts lens sorts loads slots values =
    both (counts_fit nodes links rounds counts)
    (both (lengths_fit links lens)
    (both (sorts_fit lens sorts)
    (both (loads_fit sorts loads) (both (rest_fits (links * 4) slots 512) (rest_fits nodes values 64)))))
