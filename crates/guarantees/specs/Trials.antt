-- Document 01's starred trials, one table: a plan's bytes, the actions' bytes, how many lockstep rounds, and the end of each that document 01
-- gives. `proofs/Trials.antt` shows that the definitions of the public contracts give every row.
-- Assumes nothing.
use Rattle.std.specs.Prelude.{ℕ, List, [], ◌∷◌, ◌++◌, take, replicate}
use Rattle.records.specs.Planned.{Planned}
use Rattle.plan.specs.Checks.{plan_of}
use Rattle.lockstep.specs.Table.{table_of}
use Rattle.synchronizer.specs.declared.Ran.{Ran}
use Rattle.synchronizer.specs.Start.{start_of}
use Rattle.synchronizer.specs.Entry.{list_of}

-- the plan's answer and place; the list's answer, place and number taken; the nodes' values after it; the lockstep table
pub record End : Type 0 where
  pub plan : ℕ × ℕ
  pub actions : ℕ × ℕ × ℕ
  pub values : List ℕ
  pub table : List ℕ

abbrev pub end : ℕ × ℕ → ℕ × ℕ × ℕ → List ℕ → List ℕ → End
end plan actions values table = record { plan = plan; actions = actions; values = values; table = table }

pub record Trial : Type 0 where
  pub plan : List ℕ
  pub actions : List ℕ
  pub rounds : ℕ
  pub ends : End

abbrev pub trial : List ℕ → List ℕ → ℕ → End → Trial
trial plan actions rounds ends = record { plan = plan; actions = actions; rounds = rounds; ends = ends }

-- what the contracts' definitions make of a planned network
unfoldable pub ended : Planned → List ℕ → ℕ → Ran → End
ended planned actions rounds ran =
    end (planned.number, planned.place) (ran.answer, ran.place, ran.taken) (take planned.network.nodes ran.state.values)
    (table_of planned.network rounds (replicate planned.network.nodes 0))

unfoldable pub given : Trial → End
given t =
    ended (plan_of t.plan) t.actions t.rounds
    (list_of (plan_of t.plan).network (start_of (plan_of t.plan).network).state t.actions)

-- "Plan T: two roots, values 100 and 301, one preferred link"
abbrev pub plan_t : ℕ → List ℕ
plan_t rounds = 1 ∷ 0 ∷ rounds ∷ 2 ∷ 0 ∷ 0 ∷ 0 ∷ 100 ∷ 2 ∷ 1 ∷ 1 ∷ 1 ∷ 45 ∷ 3 ∷ 0 ∷ 1 ∷ 1 ∷ 0 ∷ []

-- "Plan P: path 0-1-2, one cluster, root 1, values 0, 10, 5"
abbrev pub plan_p : ℕ → List ℕ
plan_p rounds =
    (1 ∷ 0 ∷ rounds ∷ 2 ∷ 0 ∷ 1 ∷ 0 ∷ 0 ∷ 2 ∷ 1 ∷ 1 ∷ 0 ∷ 10 ∷ 2 ∷ 2 ∷ 1 ∷ 0 ∷ 5 ∷ [])
    ++ (3 ∷ 0 ∷ 1 ∷ 0 ∷ 3 ∷ 1 ∷ 2 ∷ 0 ∷ 0 ∷ [])

-- two nodes with the parents p and q, and the links
abbrev pub pair : ℕ → ℕ → List ℕ → List ℕ
pair p q links = 1 ∷ 0 ∷ 1 ∷ 2 ∷ 0 ∷ p ∷ 0 ∷ 5 ∷ 2 ∷ 1 ∷ q ∷ 0 ∷ 5 ∷ links ++ 0 ∷ []

-- node 0 of T finishes round 1, starts round 2, and its packet arrives before node 1's first input
abbrev pub early : List ℕ
early =
    (16 ∷ 0 ∷ 16 ∷ 1 ∷ 17 ∷ 0 ∷ 1 ∷ 18 ∷ 0 ∷ 1 ∷ 17 ∷ 1 ∷ 0 ∷ 18 ∷ 1 ∷ 0 ∷ [])
    ++ (19 ∷ 0 ∷ 1 ∷ 19 ∷ 1 ∷ 0 ∷ 20 ∷ 0 ∷ 1 ∷ 20 ∷ 1 ∷ 0 ∷ 21 ∷ 0 ∷ 21 ∷ 1 ∷ 24 ∷ 0 ∷ 24 ∷ 1 ∷ [])
    ++ (27 ∷ 0 ∷ 1 ∷ 27 ∷ 1 ∷ 0 ∷ 28 ∷ 0 ∷ 1 ∷ 28 ∷ 1 ∷ 0 ∷ 31 ∷ 0 ∷ 31 ∷ 1 ∷ 34 ∷ 0 ∷ 35 ∷ 0 ∷ [])
    ++ (16 ∷ 0 ∷ 17 ∷ 0 ∷ 1 ∷ 18 ∷ 0 ∷ 1 ∷ 34 ∷ 1 ∷ 35 ∷ 1 ∷ [])

-- a refused plan has a network of zeros, which the list refuses by 17
abbrev pub no_network : ℕ × ℕ × ℕ
no_network = (17, 0, 0)

-- "T, one lockstep round: 200, 200."
abbrev pub T-lockstep : Trial
T-lockstep = trial (plan_t 1) [] 1 (end (0, 18) (0, 0, 0) (100 ∷ 301 ∷ []) (200 ∷ 200 ∷ []))

-- P, rounds 1, 2, 3, by the rounding of document 02: "node 2 of plan P gives 8 after one round"
abbrev pub P-lockstep-1 : Trial
P-lockstep-1 = trial (plan_p 3) [] 1 (end (0, 27) (0, 0, 0) (0 ∷ 10 ∷ 5 ∷ []) (5 ∷ 5 ∷ 8 ∷ []))

abbrev pub P-lockstep-2 : Trial
P-lockstep-2 = trial (plan_p 3) [] 2 (end (0, 27) (0, 0, 0) (0 ∷ 10 ∷ 5 ∷ []) (5 ∷ 6 ∷ 6 ∷ []))

abbrev pub P-lockstep-3 : Trial
P-lockstep-3 = trial (plan_p 3) [] 3 (end (0, 27) (0, 0, 0) (0 ∷ 10 ∷ 5 ∷ []) (6 ∷ 6 ∷ 6 ∷ []))

-- "T with 2 rounds: node 0 finishes round 1, starts round 2, and its packet 200 arrives before node 1's first input. Node 1 still gets 200 in
-- round 1. 250 is wrong."
abbrev pub early_packet : Trial
early_packet = trial (plan_t 2) early 1 (end (0, 18) (0, 68, 27) (200 ∷ 200 ∷ []) (200 ∷ 200 ∷ []))

-- "T: ok of 0 with no ack: 16."
abbrev pub ok_with_no_ack : Trial
ok_with_no_ack = trial (plan_t 1) (16 ∷ 0 ∷ 21 ∷ 0 ∷ []) 0 (end (0, 18) (16, 2, 1) (100 ∷ 301 ∷ []) (100 ∷ 301 ∷ []))

-- "Second output of 0 at once: 15 if rounds is 1, 16 if 2."
abbrev pub second_output_of_1 : Trial
second_output_of_1 = trial (plan_t 1) (16 ∷ 0 ∷ 16 ∷ 0 ∷ []) 0 (end (0, 18) (15, 2, 1) (100 ∷ 301 ∷ []) (100 ∷ 301 ∷ []))

abbrev pub second_output_of_2 : Trial
second_output_of_2 = trial (plan_t 2) (16 ∷ 0 ∷ 16 ∷ 0 ∷ []) 0 (end (0, 18) (16, 2, 1) (100 ∷ 301 ∷ []) (100 ∷ 301 ∷ []))

-- "P: packet 0 to 2: 14."
abbrev pub packet_0_to_2 : Trial
packet_0_to_2 = trial (plan_p 1) (17 ∷ 0 ∷ 2 ∷ []) 0 (end (0, 27) (14, 0, 0) (0 ∷ 10 ∷ 5 ∷ []) (0 ∷ 10 ∷ 5 ∷ []))

-- "Node 7: 13."
abbrev pub node_7 : Trial
node_7 = trial (plan_p 1) (16 ∷ 7 ∷ []) 0 (end (0, 27) (13, 0, 0) (0 ∷ 10 ∷ 5 ∷ []) (0 ∷ 10 ∷ 5 ∷ []))

-- "Empty plan: 3, place 0."
abbrev pub empty_plan : Trial
empty_plan = trial [] [] 0 (end (3, 0) no_network [] [])

-- "Two linked nodes, each the other's parent: 7, place 0."
abbrev pub each_the_others_parent : Trial
each_the_others_parent = trial (pair 1 0 (3 ∷ 0 ∷ 1 ∷ 0 ∷ [])) [] 0 (end (7, 0) no_network [] [])

-- "Two roots, no link: 10, place 1."
abbrev pub two_roots_no_link : Trial
two_roots_no_link = trial (pair 0 1 []) [] 0 (end (10, 1) no_network [] [])

abbrev pub starred : List Trial
starred =
    T-lockstep
    ∷ P-lockstep-1
    ∷ P-lockstep-2
    ∷ P-lockstep-3
    ∷ early_packet
    ∷ ok_with_no_ack
    ∷ second_output_of_1
    ∷ second_output_of_2
    ∷ packet_0_to_2
    ∷ node_7
    ∷ empty_plan
    ∷ each_the_others_parent
    ∷ two_roots_no_link
    ∷ []

-- ---- worked out by hand, besides

-- a whole round of P: every kind that the starred trials have not, the words up and down the tree
abbrev pub whole_round : List ℕ
whole_round =
    (16 ∷ 0 ∷ 16 ∷ 1 ∷ 16 ∷ 2 ∷ [])
    ++ (17 ∷ 0 ∷ 1 ∷ 18 ∷ 0 ∷ 1 ∷ 17 ∷ 1 ∷ 0 ∷ 18 ∷ 1 ∷ 0 ∷ 17 ∷ 1 ∷ 2 ∷ 18 ∷ 1 ∷ 2 ∷ 17 ∷ 2 ∷ 1 ∷ 18 ∷ 2 ∷ 1 ∷ [])
    ++ (19 ∷ 1 ∷ 0 ∷ 20 ∷ 1 ∷ 0 ∷ 19 ∷ 0 ∷ 1 ∷ 20 ∷ 0 ∷ 1 ∷ 19 ∷ 2 ∷ 1 ∷ 20 ∷ 2 ∷ 1 ∷ 19 ∷ 1 ∷ 2 ∷ 20 ∷ 1 ∷ 2 ∷ [])
    ++ (21 ∷ 0 ∷ 21 ∷ 1 ∷ 21 ∷ 2 ∷ 22 ∷ 0 ∷ 23 ∷ 0 ∷ 22 ∷ 2 ∷ 23 ∷ 2 ∷ 24 ∷ 1 ∷ [])
    ++ (25 ∷ 0 ∷ 26 ∷ 0 ∷ 25 ∷ 2 ∷ 26 ∷ 2 ∷ 29 ∷ 0 ∷ 30 ∷ 0 ∷ 29 ∷ 2 ∷ 30 ∷ 2 ∷ 31 ∷ 1 ∷ [])
    ++ (32 ∷ 0 ∷ 33 ∷ 0 ∷ 32 ∷ 2 ∷ 33 ∷ 2 ∷ 34 ∷ 0 ∷ 34 ∷ 1 ∷ 34 ∷ 2 ∷ 35 ∷ 0 ∷ 35 ∷ 1 ∷ 35 ∷ 2 ∷ [])

-- 46 actions in 108 bytes; (0 + 10) / 2, (10 + 0 + 5) / 3, (5 + 10) / 2
abbrev pub P-whole-round : Trial
P-whole-round = trial (plan_p 1) whole_round 1 (end (0, 27) (0, 108, 46) (5 ∷ 5 ∷ 8 ∷ []) (5 ∷ 5 ∷ 8 ∷ []))

-- the same up to the words down the tree, and then node 0's up word: it does not know yet
abbrev pub P-up-before-down : Trial
P-up-before-down =
    trial (plan_p 1) (take 70 whole_round ++ 29 ∷ 0 ∷ []) 0 (end (0, 27) (16, 70, 27) (0 ∷ 10 ∷ 5 ∷ []) (0 ∷ 10 ∷ 5 ∷ []))

abbrev pub worked : List Trial
worked = P-whole-round ∷ P-up-before-down ∷ []
