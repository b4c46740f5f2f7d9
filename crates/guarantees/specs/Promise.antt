-- What Teravulk promises, on one page: for every input of every public entry point its one answer, in document 01's words and order.
-- `proofs/Promise.antt` proves each promise of the entry point's contract, as the checker generates it. Assumes nothing.
use Rattle.std.specs.Prelude.{ℕ, zero, suc, ◌+◌, ◌<◌, ◌≤◌, ◌≡◌, List, [], ◌++◌, length, get_or, drop, replicate}
use Rattle.laws.specs.Below.{pick_below}
use Rattle.network.specs.declared.Network.{Network}
use Rattle.network.specs.Valid.{Clauses}
use Rattle.records.specs.Planned.{Planned}
use Rattle.records.specs.Plan.{network_of}
use Rattle.records.specs.Keeps.{no_plan}
use Rattle.automaton.specs.Actions.{Act, output, input}
use Rattle.automaton.specs.Network.{is_root}
use Rattle.automaton.specs.Clusters.{Near}
use Rattle.automaton.specs.Answer.{answer}
use Rattle.automaton.specs.Lockstep.{lockstep}
use Rattle.synchronizer.specs.declared.State.{State}
use Rattle.synchronizer.specs.declared.Done.{Done}
use Rattle.synchronizer.specs.declared.Acted.{Acted}
use Rattle.synchronizer.specs.declared.Ran.{Ran}
use Rattle.report.specs.Lines.{plan_line, node_line, taken_line, end_line}
use Rattle.guarantees.specs.Plans.{Accepted, Refused}
use Rattle.guarantees.specs.Reading.{net_of, count_of, read}
use Rattle.guarantees.specs.Outcome.{MethodOutcome, ActOutcome, ListOutcome}

-- ---- `read_plan`: "Numbers that come back", 0 to 10

pub data PlanPromise (bytes : List ℕ) (r : Planned) : Type 0 where
  -- "0, accepted, bytes read": n bytes hold a plan that keeps every rule, and the network is that plan's
  taken : (n : ℕ) (net : Network) → Accepted bytes n net → r ≡ record { number = 0; place = n; network = net } → PlanPromise bytes r
  -- the first rule broken, with its place; "A refused plan hands back a network of zeros": that of no record
  refused : (k w : ℕ) → 0 < k → Refused bytes k w → r ≡ record { number = k; place = w; network = network_of no_plan } → PlanPromise bytes r

-- ---- `State::start`

-- no action taken, nothing waiting and nothing heard
abbrev pub fresh : List ℕ → State
fresh values =
    record {
      counts = replicate 5120 0;
      queues = record { lens = replicate 256 0; sorts = replicate 512 0; loads = replicate 512 0 };
      slots = replicate 512 0;
      values = values;
    }

pub data StartPromise (net : Network) (r : Done) : Type 0 where
  -- "In the start state all counts and slots are 0, queues are empty and values are the plan's"
  begun : Clauses net → r ≡ record { answer = 0; state = fresh net.starts } → StartPromise net r
  -- "a start state refused by 17 is all zeros"
  out_of_range : (Clauses net → ⊥) → r ≡ record { answer = 17; state = fresh (replicate 64 0) } → StartPromise net r

-- ---- `table` of k rounds into a lent buffer: "Table order: 17, 20, 21"

pub data TablePromise (net : Network) (k : ℕ) (before : List ℕ) (n : ℕ) (after : List ℕ) : Type 0 where
  -- "handed-in network .. outside the ranges"
  out_of_range : (Clauses net → ⊥) → n ≡ 17 → after ≡ before → TablePromise net k before n after
  -- "table asked for more rounds than the plan's"
  more_rounds : Clauses net → net.rounds < k → n ≡ 20 → after ≡ before → TablePromise net k before n after
  -- "table buffer shorter than the node count"
  short_buffer : Clauses net → k ≤ net.rounds → length before < net.nodes → n ≡ 21 → after ≡ before → TablePromise net k before n after
  -- "The lockstep table of k rounds does this for all nodes at once, k times, from the start values"
  table :
      Clauses net → k ≤ net.rounds → net.nodes ≤ length before → n ≡ 0 → length after ≡ length before
      → ((p : ℕ) → p < net.nodes → get_or after p 0 ≡ lockstep (net_of net) k p)
      -- "Table entries past the node count are not written"
      → ((p : ℕ) → net.nodes ≤ p → get_or after p 0 ≡ get_or before p 0)
      → TablePromise net k before n after

-- ---- each of the twenty methods: `MethodOutcome`; `State::act`: `ActOutcome`; `State::run`: `ListOutcome`, all of `Outcome.antt`

-- ---- the printed text: "The bench program"

-- "Fields: nodes, links, clusters, rounds"; clusters are the roots
abbrev pub plan_shown : Network → List ℕ
plan_shown net = plan_line net.nodes net.links (length (pick_below (is_root (net_of net)) net.nodes)) net.rounds

-- "then per node its number, outputs, inputs, value", for the nodes below n and values that are given
abbrev pub nodes_shown : Network → State → (ℕ → ℕ) → ℕ → List ℕ
nodes_shown net s value zero = []
nodes_shown net s value (suc p) = nodes_shown net s value p ++ node_line p (count_of net s (output p)) (count_of net s (input p)) (value p)

pub data TextPromise (bytes text : List ℕ) : Type 0 where
  -- "input longer than 65,536 bytes"; "After a plan refusal or 19 only the end line is printed"
  too_long : 65536 < length bytes → text ≡ end_line 19 65536 → TextPromise bytes text
  refused : length bytes ≤ 65536 → (k w : ℕ) → 0 < k → Refused bytes k w → text ≡ end_line k w → TextPromise bytes text
  -- "Bytes after kind 0 are the actions", taken from the start state; "offsets counted from the start of the input"
  ran :
      length bytes ≤ 65536 → (n : ℕ) (net : Network) (s : Done) (r : Ran)
      → Accepted bytes n net → StartPromise net s → ListOutcome net s.state (drop n bytes) r
      → text ≡ plan_shown net ++ nodes_shown net r.state (λ p. get_or r.state.values p 0) net.nodes ++ taken_line r.taken ++ end_line r.answer (n + r.place)
      → TextPromise bytes text

-- the lent buffer: the whole text and how long it is, or, where it has no room for the whole, 0 and nothing written
pub data InBuffer (text before : List ℕ) (n : ℕ) (after : List ℕ) : Type 0 where
  fits : length text ≤ length before → n ≡ length text → after ≡ text ++ drop (length text) before → InBuffer text before n after
  short : length before < length text → n ≡ 0 → after ≡ before → InBuffer text before n after

-- `report::trial` and `teravulk_trial`; 2,048 bytes are room enough
pub record TrialPromise (bytes before : List ℕ) (n : ℕ) (after : List ℕ) : Type 0 where
  pub text : List ℕ
  pub is : TextPromise bytes text
  pub held : InBuffer text before n after
  pub at_most : length text ≤ 2048

-- ---- demand 3

-- what is reached from the start state by whatever is handed in one after another, taken or refused: "the one after a refusal goes on from the
-- unchanged state"
pub data Reachable (net : Network) : State → Type 0 where
  begin : (r : Done) → StartPromise net r → Reachable net r.state
  method : (s : State) (a : Act) (r : Done) → Reachable net s → MethodOutcome net s a r → Reachable net r.state
  action : (s : State) (bytes : List ℕ) (r : Acted) → Reachable net s → ActOutcome net s bytes r → Reachable net r.state
  list : (s : State) (bytes : List ℕ) (r : Ran) → Reachable net s → ListOutcome net s bytes r → Reachable net r.state

-- of every reachable state of an accepted plan's network: "Rounds started are outputs, rounds finished are inputs"
pub record Demand3 (net : Network) (s : State) : Type 0 where
  -- a controller that has finished k rounds holds the setpoint of a lockstep run of k rounds
  pub setpoint : (p k : ℕ) → p < net.nodes → count_of net s (input p) ≡ k → get_or s.values p 0 ≡ lockstep (net_of net) k p
  -- two controllers in one cluster, or in two clusters joined by a link, have started numbers of rounds that differ by at most one
  pub near : (p q : ℕ) → p < net.nodes → q < net.nodes → Near (net_of net) p q → count_of net s (output p) ≤ suc (count_of net s (output q))
  -- no action is refused by 18
  pub never_18 : (a : Act) → answer (net_of net) (read net s) a ≡ 18 → ⊥
  -- the first sentence said of what is printed: the line of a node that shows k inputs shows its lockstep value of k rounds
  pub shown : nodes_shown net s (λ p. get_or s.values p 0) net.nodes ≡ nodes_shown net s (λ p. lockstep (net_of net) (count_of net s (input p)) p) net.nodes
