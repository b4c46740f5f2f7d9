-- What the entry points come to, in the automaton's words: an action by its method, one action from bytes, a list of actions. Nothing here
-- speaks of an array but through the reading. `proofs/Outcomes.antt` shows that the code's definitions have these outcomes, `proofs/Only.antt` that
-- they have no others.
-- Assumes nothing.
use Rattle.std.specs.Prelude.{ℕ, ◌+◌, ◌*◌, ◌<◌, ◌≤◌, ◌≡◌, ◌⊎◌, List, [], ◌∷◌, length, get_or}
use Rattle.laws.specs.Choice.{if_b, if_eq}
use Rattle.network.specs.declared.Network.{Network}
use Rattle.automaton.specs.Actions.{Act, body_of}
use Rattle.automaton.specs.Network.{Net}
use Rattle.automaton.specs.Global.{Global}
use Rattle.automaton.specs.Answer.{answer}
use Rattle.automaton.specs.Run.{after, step, run}
use Rattle.synchronizer.specs.declared.State.{State}
use Rattle.synchronizer.specs.declared.Done.{Done}
use Rattle.synchronizer.specs.declared.Acted.{Acted}
use Rattle.synchronizer.specs.declared.Ran.{Ran}
use Rattle.network.specs.Valid.{Clauses}
use Rattle.synchronizer.specs.Valid.{Sized}
use Rattle.guarantees.specs.Reading.{net_of, names_link, cell_at, count_of, read}
use Rattle.guarantees.specs.Records.{Names, UnknownAt, CutAt}

-- ---- 17

-- how many places of its row an action's kind uses: the directions of the links, or the nodes
unfoldable pub places_of : Network → Act → ℕ
places_of net a = if_b (names_link (body_of a).place) (net.links * 2) net.nodes

-- the state half
pub record StateFits (net : Network) (s : State) : Type 0 where
  -- "a count is above rounds"
  pub counts : (a : Act) → count_of net s a ≤ net.rounds
  -- "a queue is said to hold more than two; a waiting message is neither packet nor ack, or is an ack with a value"
  pub at_most_two : (d : ℕ) → d < net.links * 2 → get_or s.queues.lens d 0 ≤ 2
  pub packet_or_ack : (d j : ℕ) → d < net.links * 2 → j < get_or s.queues.lens d 0 → (get_or s.queues.sorts (d * 2 + j) 0 ≡ 1) ⊎ ((get_or s.queues.sorts (d * 2 + j) 0 ≡ 2) × (get_or s.queues.loads (d * 2 + j) 0 ≡ 0))
  -- "an entry past the node or link count, or past a queue's length, is not 0"
  pub no_count : (a : Act) (x : ℕ) → places_of net a ≤ x → x < 256 → get_or s.counts (cell_at a x) 0 ≡ 0
  pub no_queue : (d : ℕ) → net.links * 2 ≤ d → d < 256 → get_or s.queues.lens d 0 ≡ 0
  pub no_sort : (d j : ℕ) → d < 256 → get_or s.queues.lens d 0 ≤ j → j < 2 → get_or s.queues.sorts (d * 2 + j) 0 ≡ 0
  pub no_load : (d j : ℕ) → d < 256 → get_or s.queues.lens d 0 ≤ j → j < 2 → get_or s.queues.loads (d * 2 + j) 0 ≡ 0
  pub no_slot : (d j : ℕ) → net.links * 2 ≤ d → d < 256 → j < 2 → get_or s.slots (d * 2 + j) 0 ≡ 0
  pub no_value : (p : ℕ) → net.nodes ≤ p → p < 64 → get_or s.values p 0 ≡ 0

-- 17 is not given: every clause of it holds of the network, and every clause of it holds of the state
pub record Within (net : Network) (s : State) : Type 0 where
  pub network : Clauses net
  pub state : StateFits net s

-- ---- one action

-- action a in state s gets answer n, and state s' follows: "It is taken exactly if .. no refusal below applies"; a refused one changes nothing
pub record Judged (net : Network) (s : State) (a : Act) (n : ℕ) (s' : State) : Type 0 where
  pub number : n ≡ answer (net_of net) (read net s) a
  pub follows : read net s' ≡ step (net_of net) (read net s) a
  -- and s' is a state within the ranges of 17
  pub valid : StateFits net s'
  pub sized : Sized s'

-- each of the twenty methods
pub data MethodOutcome (net : Network) (s : State) (a : Act) (r : Done) : Type 0 where
  out_of_range : (Within net s → ⊥) → r ≡ record { answer = 17; state = s } → MethodOutcome net s a r
  judged : Within net s → Judged net s a r.answer r.state → MethodOutcome net s a r

-- ---- one action from bytes

-- one action from bytes: "with answer 0 the place is the bytes read"; every refusal has place 0
pub data ActOutcome (net : Network) (s : State) (bytes : List ℕ) (r : Acted) : Type 0 where
  out_of_range : (Within net s → ⊥) → r ≡ record { answer = 17; place = 0; state = s } → ActOutcome net s bytes r
  unknown : Within net s → UnknownAt bytes 0 → r ≡ record { answer = 11; place = 0; state = s } → ActOutcome net s bytes r
  cut : Within net s → CutAt bytes 0 → r ≡ record { answer = 12; place = 0; state = s } → ActOutcome net s bytes r
  judged : Within net s → (a : Act) (width : ℕ) → Names bytes 0 a width → Judged net s a r.answer r.state
      → r.place ≡ if_eq r.answer 0 width 0 → ActOutcome net s bytes r

-- ---- lists

-- from one place of the bytes to another stand the records of these actions, and each is taken in its turn
abbrev pub Taken : Net ℕ → Global ℕ → List ℕ → ℕ → List Act → ℕ → Type 0
Taken net g bytes at [] to = at ≡ to
Taken net g bytes at (a ∷ l) to =
    (width : ℕ) × Names bytes at a width × (answer net g a ≡ 0) × Taken net (after net g a) bytes (at + width) l to

-- why the list stops at a place: the bytes end there, or the record there is refused
pub data Stopped (net : Net ℕ) (g : Global ℕ) (bytes : List ℕ) (at n : ℕ) : Type 0 where
  at_end : at ≡ length bytes → n ≡ 0 → Stopped net g bytes at n
  unknown : UnknownAt bytes at → n ≡ 11 → Stopped net g bytes at n
  cut : at < length bytes → CutAt bytes at → n ≡ 12 → Stopped net g bytes at n
  refused : (a : Act) (width : ℕ) → Names bytes at a width → n ≡ answer net g a → 0 < n → Stopped net g bytes at n

-- "A list of actions stops at the first refusal and answers its number, its place and how many were taken; the state is that after those taken"
pub record Listed (net : Network) (s : State) (bytes : List ℕ) (r : Ran) : Type 0 where
  pub actions : List Act
  pub taken : Taken (net_of net) (read net s) bytes 0 actions r.place
  pub counted : r.taken ≡ length actions
  pub follows : read net r.state ≡ run (net_of net) (read net s) actions
  pub stopped : Stopped (net_of net) (read net r.state) bytes r.place r.answer
  pub valid : StateFits net r.state
  pub sized : Sized r.state

pub data ListOutcome (net : Network) (s : State) (bytes : List ℕ) (r : Ran) : Type 0 where
  out_of_range : (Within net s → ⊥) → r ≡ record { answer = 17; place = 0; taken = 0; state = s } → ListOutcome net s bytes r
  listed : Within net s → Listed net s bytes r → ListOutcome net s bytes r
