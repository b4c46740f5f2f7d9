-- Trials with known ends, computed: document 01's own, and one for each error drawn on its board. Each of those offers the wrong actions in
-- the middle of a run that goes on to its right end: they are refused, and the values at the end are those of lockstep. The edits of
-- must-fail/ build each error in, and then the trial ends with another value.
-- Assumes nothing.
use Prim.Native.Nat.{ℕ, suc}
use mathlib.Core.Path.{◌≡◌, refl}
use mathlib.Core.Bool.{true}
use mathlib.Core.List.{List, [], ◌∷◌, ◌++◌, map}
use lib.ListN.{replicate}
use Rattle.laws.specs.Choice.{if_b, if_lt, if_eq, both}
use Rattle.laws.specs.Below.{pick_below}
use Rattle.laws.specs.Lists.{total}
use Rattle.laws.specs.Mean.{share_of, rule_of}
use Rattle.automaton.specs.Lists.{every}
use Rattle.automaton.specs.Actions.{Act, same, body_of, output, packet_sent, packet_delivered, ack_sent, ack_delivered, ok}
use Rattle.automaton.specs.Actions.{subtree_ok_sent, subtree_ok_delivered, cluster_ok, down_sent, down_delivered}
use Rattle.automaton.specs.Actions.{preferred_sent, preferred_delivered, up_sent, up_delivered, cluster_go}
use Rattle.automaton.specs.Actions.{subtree_go_sent, subtree_go_delivered, go, input}
use Rattle.automaton.specs.Network.{Net, is_root, neighbours, children, preferred_neighbours}
use Rattle.automaton.specs.Needs.{know, may, subtree_needs, up_needs, needs_of}
use Rattle.automaton.specs.Global.{Global, packet, ack, parity, begin}
use Rattle.automaton.specs.Answer.{sends, must, packet_at_front, ack_at_front, met, fits, known, legal, next, in_time, enabled, room, answer}
use Rattle.automaton.specs.Run.{on_count, on_queue, carried, on_slot, heard, on_value, after, step, run}
use Rattle.automaton.specs.Lockstep.{lockstep}
use Rattle.automaton.proofs.Plans.{plan_t, plan_pair, plan_star, plan_p, plan_c}

-- ---- what a run comes to

row : Net ℕ → (ℕ → ℕ) → List ℕ
row net f = map f (pick_below (λ p. true) net.n)

-- the refusals of a run, each with its place in the list, counted from i
refusals : Net ℕ → Global ℕ → ℕ → List Act → List (ℕ × ℕ)
refusals net s i [] = []
refusals net s i (a ∷ l) =
    if_eq (answer net s a) 0 [] ((i, answer net s a) ∷ []) ++ refusals net (step net s a) (suc i) l

-- the answer to each of the actions in one state
pub answers : Net ℕ → Global ℕ → List Act → List ℕ
answers net s = map (answer net s)

-- the values at the end of a run from the start state, and its refusals
pub outcome : Net ℕ → List Act → List ℕ × List (ℕ × ℕ)
unfolding
    row refusals answers run step answer after on_count on_queue carried on_slot heard on_value next
    known legal fits in_time enabled room sends must met packet_at_front ack_at_front begin parity
    needs_of know may subtree_needs up_needs is_root neighbours children preferred_neighbours
    body_of same every pick_below if_b if_lt if_eq both total share_of rule_of plan_t plan_p plan_c
outcome net l = (row net (run net (begin net) l).value, refusals net (begin net) 0 l)

pub lockstep_row : Net ℕ → ℕ → List ℕ
unfolding row lockstep neighbours pick_below if_b if_lt if_eq total share_of rule_of plan_t plan_pair plan_star plan_p
lockstep_row net k = row net (lockstep net k)

-- ---- document 01's own trials

-- "T, one lockstep round: 200, 200"
pub lockstep_T : lockstep_row (plan_t 1) 1 ≡ 200 ∷ 200 ∷ []
unfolding lockstep_row
lockstep_T = refl

-- "node 2 of plan P gives 8 after one round" (document 02): rounds 1, 2, 3
pub lockstep_P :
    map (lockstep_row (plan_p 3)) (1 ∷ 2 ∷ 3 ∷ []) ≡ (5 ∷ 5 ∷ 8 ∷ []) ∷ (5 ∷ 6 ∷ 6 ∷ []) ∷ (6 ∷ 6 ∷ 6 ∷ []) ∷ []
unfolding lockstep_row
lockstep_P = refl

-- "Two at 1 and 2 now give 2; two at 0 and 1 give 0" (document 02)
pub lockstep_pairs :
    map (λ a. lockstep_row (plan_pair a (suc a)) 1) (1 ∷ 0 ∷ 2 ∷ 65534 ∷ [])
    ≡ (2 ∷ 2 ∷ []) ∷ (0 ∷ 0 ∷ []) ∷ (2 ∷ 2 ∷ []) ∷ (65534 ∷ 65534 ∷ []) ∷ []
unfolding lockstep_row
lockstep_pairs = refl

-- a half of four values: 0 + 2 + 2 + 2, divided by 4
pub lockstep_star : lockstep_row (plan_star 0 2) 1 ≡ 2 ∷ 1 ∷ 1 ∷ 1 ∷ []
unfolding lockstep_row
lockstep_star = refl

-- "Second output of 0 at once: 15 if rounds is 1, 16 if 2"
pub second_output_of_1 : (outcome (plan_t 1) (output 0 ∷ output 0 ∷ [])).1 ≡ (1, 15) ∷ []
unfolding outcome
second_output_of_1 = refl

pub second_output_of_2 : (outcome (plan_t 2) (output 0 ∷ output 0 ∷ [])).1 ≡ (1, 16) ∷ []
unfolding outcome
second_output_of_2 = refl

-- "P: packet 0 to 2: 14. Node 7: 13. Subtree ok by node 1: 14. Cluster ok by node 0: 14"
pub refused_on_P :
    answers (plan_p 1) (begin (plan_p 1)) (packet_sent 0 2 ∷ output 7 ∷ subtree_ok_sent 1 ∷ cluster_ok 0 ∷ []) ≡ 14 ∷ 13 ∷ 14 ∷ 14 ∷ []
unfolding outcome
refused_on_P = refl

-- 13 from the node count on, for either number, and before 14
pub unknown_on_P :
    answers (plan_p 1) (begin (plan_p 1)) (output 2 ∷ output 3 ∷ packet_sent 3 0 ∷ packet_sent 0 3 ∷ packet_sent 0 2 ∷ [])
    ≡ 0 ∷ 13 ∷ 13 ∷ 13 ∷ 14 ∷ []
unfolding outcome
unknown_on_P = refl

-- 14 for each kind that can have it: no such link, an ordinary one, a root where a parent is needed, no root
pub misplaced_on_P :
    answers (plan_p 1) (begin (plan_p 1))
    (packet_sent 0 0 ∷ packet_delivered 0 2 ∷ ack_sent 2 0 ∷ ack_delivered 2 2 ∷ preferred_sent 0 1 ∷ preferred_delivered 1 0
    ∷ subtree_ok_delivered 1 ∷ down_sent 1 ∷ down_delivered 1 ∷ up_sent 1 ∷ up_delivered 1 ∷ subtree_go_sent 1 ∷ subtree_go_delivered 1
    ∷ cluster_go 2 ∷ [])
    ≡ replicate 14 14
unfolding outcome
misplaced_on_P = refl

-- a state that no run reaches: two packets wait from 0, all that were sent counted as delivered, and an ack from 1 that was never sent
pub at_odds :
    answers (plan_t 3)
    (record {
      count = λ a. if_b (same a (output 0)) 3 (if_b (same a (packet_sent 0 1)) 2 (if_b (same a (packet_delivered 0 1)) 2 0));
      queue = λ p q. if_eq p 0 (packet 1 ∷ packet 2 ∷ []) (ack ∷ []);
      slot = λ p q h. 0;
      value = λ p. 0;
    })
    (packet_sent 0 1 ∷ packet_delivered 0 1 ∷ ack_delivered 1 0 ∷ [])
    ≡ 18 ∷ 16 ∷ 16 ∷ []
unfolding outcome
at_odds = refl

-- ---- one round of plan T, in pieces

abbrev pub sent : List Act
sent = output 0 ∷ output 1 ∷ packet_sent 0 1 ∷ packet_sent 1 0 ∷ []

abbrev pub delivered : List Act
delivered =
    packet_delivered 0 1 ∷ packet_delivered 1 0 ∷ ack_sent 1 0 ∷ ack_sent 0 1 ∷ ack_delivered 1 0 ∷ ack_delivered 0 1 ∷ []

abbrev pub agreed : List Act
agreed =
    ok 0 ∷ ok 1 ∷ cluster_ok 0 ∷ cluster_ok 1
    ∷ preferred_sent 0 1 ∷ preferred_sent 1 0 ∷ preferred_delivered 0 1 ∷ preferred_delivered 1 0
    ∷ cluster_go 0 ∷ cluster_go 1 ∷ []

abbrev pub finished : List Act
finished = go 0 ∷ input 0 ∷ go 1 ∷ input 1 ∷ []

pub whole_round_lem : outcome (plan_t 1) (sent ++ delivered ++ agreed ++ finished) ≡ (200 ∷ 200 ∷ [], [])
unfolding outcome
whole_round_lem = refl

-- ---- the errors drawn on the board

-- "One inbox slot per neighbour: the early packet overwrites the one still needed."
-- Node 0 finishes round 1, starts round 2, and its packet 200 arrives before node 1's first input.
pub early_packet :
    outcome (plan_t 2)
    (sent ++ delivered ++ agreed
    ++ go 0 ∷ input 0 ∷ output 0 ∷ packet_sent 0 1 ∷ packet_delivered 0 1 ∷ go 1 ∷ input 1 ∷ [])
    ≡ (200 ∷ 200 ∷ [], [])
unfolding outcome
early_packet = refl

-- "Go given when the node's own cluster is ok, without the words from the joined clusters."
-- Node 1 has acknowledged, and has sent nothing of its own yet, when node 0 asks to go.
pub early_go :
    outcome (plan_t 1)
    (output 0 ∷ packet_sent 0 1 ∷ packet_delivered 0 1 ∷ ack_sent 1 0 ∷ ack_delivered 1 0 ∷ ok 0 ∷ cluster_ok 0 ∷ go 0 ∷ input 0
    ∷ output 1 ∷ packet_sent 1 0 ∷ packet_delivered 1 0 ∷ ack_sent 0 1 ∷ ack_delivered 0 1 ∷ ok 1 ∷ cluster_ok 1
    ∷ preferred_sent 0 1 ∷ preferred_sent 1 0 ∷ preferred_delivered 0 1 ∷ preferred_delivered 1 0
    ∷ cluster_go 0 ∷ cluster_go 1 ∷ finished)
    ≡ (200 ∷ 200 ∷ [], (7, 16) ∷ (8, 16) ∷ [])
unfolding outcome
early_go = refl

-- "Packets and acks taken from a link in whichever order suits."
-- From 1 to 0 an ack waits before the packet when the packet's delivery is asked for.
pub other_order :
    outcome (plan_t 1)
    (output 0 ∷ output 1 ∷ packet_sent 0 1 ∷ packet_delivered 0 1 ∷ ack_sent 1 0 ∷ packet_sent 1 0
    ∷ packet_delivered 1 0 ∷ ack_delivered 1 0 ∷ packet_delivered 1 0 ∷ ack_sent 0 1 ∷ ack_delivered 0 1 ∷ agreed ++ finished)
    ≡ (200 ∷ 200 ∷ [], (6, 16) ∷ [])
unfolding outcome
other_order = refl

-- "An up word sent by a leaf that has no preferred link before its own down word came."
-- The leaf offers its up word while the packets are under way, and again while its down word is.
pub early_up :
    outcome (plan_c 1)
    (sent ++ up_sent 1 ∷ up_delivered 1 ∷ cluster_go 0 ∷ go 0 ∷ input 0 ∷ delivered
    ++ ok 0 ∷ ok 1 ∷ subtree_ok_sent 1 ∷ subtree_ok_delivered 1 ∷ cluster_ok 0 ∷ down_sent 1 ∷ up_sent 1 ∷ down_delivered 1
    ∷ up_sent 1 ∷ up_delivered 1 ∷ cluster_go 0 ∷ subtree_go_sent 1 ∷ subtree_go_delivered 1 ∷ finished)
    ≡ (200 ∷ 200 ∷ [], (4, 16) ∷ (5, 16) ∷ (6, 16) ∷ (7, 16) ∷ (8, 16) ∷ (21, 16) ∷ [])
unfolding outcome
early_up = refl

-- Ok without the acks: "T: ok of 0 with no ack: 16".
-- Both report their round done while both packets are under way, and 0 asks to go.
pub no_acks :
    outcome (plan_t 1) (sent ++ agreed ++ go 0 ∷ input 0 ∷ delivered ++ agreed ++ finished)
    ≡ (200 ∷ 200 ∷ [], map (λ i. (i, 16)) (4 ∷ 5 ∷ 6 ∷ 7 ∷ 8 ∷ 9 ∷ 10 ∷ 11 ∷ 12 ∷ 13 ∷ 14 ∷ 15 ∷ []))
unfolding outcome
no_acks = refl

-- ---- each action waits for the one before it

-- a chain of actions in which each is offered once before the one that it waits for, and then in its turn
abbrev pub hasty : Act → List Act → List Act
hasty a [] = a ∷ []
hasty a (b ∷ l) = b ∷ a ∷ hasty b l

-- around the cluster of two, from the leaf's output to its next one
pub hasty_in_a_cluster :
    outcome (plan_c 2)
    (output 0 ∷ packet_sent 0 1 ∷ packet_delivered 0 1 ∷ ack_sent 1 0 ∷ ack_delivered 1 0 ∷ ok 0
    ∷ hasty (output 1)
    (packet_sent 1 0 ∷ packet_delivered 1 0 ∷ ack_sent 0 1 ∷ ack_delivered 0 1 ∷ ok 1 ∷ subtree_ok_sent 1 ∷ subtree_ok_delivered 1 ∷ cluster_ok 0
    ∷ down_sent 1 ∷ down_delivered 1 ∷ up_sent 1 ∷ up_delivered 1 ∷ cluster_go 0 ∷ subtree_go_sent 1 ∷ subtree_go_delivered 1 ∷ go 1 ∷ input 1
    ∷ output 1 ∷ []))
    ≡ (
      100 ∷ 200 ∷ [],
      map (λ i. (i, 16)) (6 ∷ 8 ∷ 10 ∷ 12 ∷ 14 ∷ 16 ∷ 18 ∷ 20 ∷ 22 ∷ 24 ∷ 26 ∷ 28 ∷ 30 ∷ 32 ∷ 34 ∷ 36 ∷ 38 ∷ 40 ∷ []),
    )
unfolding outcome
hasty_in_a_cluster = refl

-- across a preferred link, from one root to the other
pub hasty_between_clusters :
    outcome (plan_t 1)
    (sent ++ delivered ++ ok 0 ∷ ok 1 ∷ cluster_ok 1
    ∷ hasty (cluster_ok 0) (preferred_sent 0 1 ∷ preferred_delivered 0 1 ∷ cluster_go 1 ∷ go 1 ∷ input 1 ∷ []))
    ≡ (100 ∷ 200 ∷ [], map (λ i. (i, 16)) (13 ∷ 15 ∷ 17 ∷ 19 ∷ 21 ∷ []))
unfolding outcome
hasty_between_clusters = refl
