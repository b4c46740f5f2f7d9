-- The state half of answer 17, as a test over any state of a network. `StateClauses` has the same list as propositions, a clause of document
-- 01 each.
-- Assumes nothing.
use Rattle.std.specs.Prelude.{ℕ, ◌+◌, ◌*◌, ◌<◌, ◌≤◌, ◌≡◌, Bool, ◌⊎◌, length, get_or}
use Rattle.network.specs.declared.Network.{Network}
use Rattle.actions.specs.declared.Kind.{Kind}
use Rattle.actions.specs.Kinds.{count, count_in}
use Rattle.queue.specs.Queue.{packet, ack}
use Rattle.ranges.specs.Fits.{used_by, state_fits}
use Rattle.synchronizer.specs.declared.State.{State}

-- the state is within the ranges of answer 17
unfoldable pub valid_state : Network → State → Bool
valid_state net s =
    state_fits net.nodes net.links net.rounds s.counts s.queues.lens s.queues.sorts s.queues.loads s.slots s.values

-- ---- the same list as propositions, clause by clause in document 01's words

-- "a count is above rounds"
pub record CountsInRounds (net : Network) (s : State) : Type 0 where
  pub in_rounds_lem : (k : Kind) (x : ℕ) → x < used_by net.nodes net.links k → count_in s.counts (count k x) ≤ net.rounds

-- "a queue is said to hold more than two; a waiting message is neither packet nor ack, or is an ack with a value"
pub record QueuesInOrder (net : Network) (s : State) : Type 0 where
  pub at_most_two : (d : ℕ) → d < net.links * 2 → get_or s.queues.lens d 0 ≤ 2
  pub packet_or_ack : (d j : ℕ) → d < net.links * 2 → j < get_or s.queues.lens d 0 → (get_or s.queues.sorts (d * 2 + j) 0 ≡ packet) ⊎ ((get_or s.queues.sorts (d * 2 + j) 0 ≡ ack) × (get_or s.queues.loads (d * 2 + j) 0 ≡ 0))

-- "an entry past the node or link count, or past a queue's length, is not 0"
pub record RestIsZero (net : Network) (s : State) : Type 0 where
  pub no_count : (k : Kind) (x : ℕ) → used_by net.nodes net.links k ≤ x → x < 256 → count_in s.counts (count k x) ≡ 0
  pub no_queue : (d : ℕ) → net.links * 2 ≤ d → d < 256 → get_or s.queues.lens d 0 ≡ 0
  pub no_sort : (d j : ℕ) → d < 256 → get_or s.queues.lens d 0 ≤ j → j < 2 → get_or s.queues.sorts (d * 2 + j) 0 ≡ 0
  pub no_load : (d j : ℕ) → d < 256 → get_or s.queues.lens d 0 ≤ j → j < 2 → get_or s.queues.loads (d * 2 + j) 0 ≡ 0
  pub no_slot : (d j : ℕ) → net.links * 2 ≤ d → d < 256 → j < 2 → get_or s.slots (d * 2 + j) 0 ≡ 0
  pub no_value : (p : ℕ) → net.nodes ≤ p → p < 64 → get_or s.values p 0 ≡ 0

-- every clause of 17 that speaks of the state
pub record StateClauses (net : Network) (s : State) : Type 0 where
  pub counts : CountsInRounds net s
  pub queues : QueuesInOrder net s
  pub rest : RestIsZero net s

-- what the struct's type says of its arrays: how long each is
pub record Sized (s : State) : Type 0 where
  pub counts : length s.counts ≡ 5120
  pub lens : length s.queues.lens ≡ 256
  pub sorts : length s.queues.sorts ≡ 512
  pub loads : length s.queues.loads ≡ 512
  pub slots : length s.slots ≡ 512
  pub values : length s.values ≡ 64
